-- How spellings that show their value are put together.
use Rattle.std.proofs.Common.{◌≡◌, ◌<◌, ℕ, ℤ, List, [], ◌∷◌, ◌++◌, length, refl, sym, ap, ◌∙◌, append_assoc, arith}
use Rattle.std.specs.Prelude.{All, IsTrue}
use Rattle.std.proofs.lemmas.List.{length-append, append_cancel_right}
use Rattle.std.proofs.lemmas.List.Concat.{flat_map-cons}
use Rattle.std.proofs.lemmas.List.Elements.{All-head, All-tail}
use Rattle.std.specs.List.{flat_map}
use Rattle.wasm_ops.specs.Codes.{IsCode, IsWhole}
use Rattle.wasm_ops.specs.Leb128.{unsigned, signed}
use Rattle.wasm_ops.specs.Spelling.{Encoding, Spellable, Any, InRangeU32, vec, InRangeVec, length_prefixed, list_of, InRangeSized, name, InRangeName}
use Rattle.wasm_ops.proofs.Everywhere.{all_both, all_tested}
use Rattle.wasm_ops.proofs.Numbers.{unsigned_begins}
use Rattle.wasm_ops.proofs.SignedNumbers.{signed_begins}

-- numbers, below any range
pub number_code : {F : ℕ → Type 0} → IsCode ℕ F unsigned
number_code = record { begins = λ m n r s p q e. unsigned_begins m n r s e }

pub signed_code : {F : ℤ → Type 0} → IsCode ℤ F signed
signed_code = record { begins = λ m n r s p q e. signed_begins m n r s e }

pub index_code : IsCode ℕ InRangeU32 unsigned
index_code = number_code

pub byte_code : IsCode ℕ Any (λ b. b ∷ [])
byte_code = record { begins = λ x y r s p q e. (cc, cc) }

-- fewer values
pub code_within : {A : Type 0} {F G : A → Type 0} {f : A → List ℕ} → ((x : A) → G x → F x) → IsCode A F f → IsCode A G f
code_within less c = record { begins = λ x y r s p q e. c.begins x y r s (less x p) (less y q) e }

pub whole_within : {A : Type 0} {F G : A → Type 0} {f : A → List ℕ} → ((x : A) → G x → F x) → IsWhole A F f → IsWhole A G f
whole_within less c = record { same = λ x y p q e. c.same x y (less x p) (less y q) e }

-- with nothing behind it
pub code_whole : {A : Type 0} {F : A → Type 0} {f : A → List ℕ} → IsCode A F f → IsWhole A F f
code_whole c = record { same = λ x y p q e. (c.begins x y [] [] p q (ap (λ l. l ++ []) e)).0 }

pub pair_is : {A B : Type 0} (x y : A × B) → x.0 ≡ y.0 → x.1 ≡ y.1 → x ≡ y
pair_is {A} {B} x y p q = let f : A → A × B = λ a. (a, x.1) in let g : B → A × B = λ b. (y.0, b) in ap f p ∙ ap g q

-- one after the other
pub pair_code : {A B : Type 0} {F : A → Type 0} {G : B → Type 0} {f : A → List ℕ} {g : B → List ℕ} → IsCode A F f → IsCode B G g
    → IsCode (A × B) (λ p. F p.0 × G p.1) (λ p. f p.0 ++ g p.1)
pair_code {f = f} {g = g} a b = record {
  begins = λ x y r s p q e.
      let one = a.begins x.0 y.0 (g x.1 ++ r) (g y.1 ++ s) p.0 q.0 (sym (append_assoc (f x.0) (g x.1) r) ∙ e ∙ append_assoc (f y.0) (g y.1) s) in
      let two = b.begins x.1 y.1 r s p.1 q.1 one.1 in
      (pair_is x y one.0 two.0, two.1);
}

-- a code before what fills the rest
pub pair_whole : {A B : Type 0} {F : A → Type 0} {G : B → Type 0} {f : A → List ℕ} {g : B → List ℕ} → IsCode A F f → IsWhole B G g
    → IsWhole (A × B) (λ p. F p.0 × G p.1) (λ p. f p.0 ++ g p.1)
pair_whole {f = f} {g = g} a b = record {
  same = λ x y p q e.
      let one = a.begins x.0 y.0 (g x.1) (g y.1) p.0 q.0 e in
      pair_is x y one.0 (b.same x.1 y.1 p.1 q.1 one.1);
}

-- seen another way
pub code_by : {A B : Type 0} {F : A → Type 0} {f : A → List ℕ} (view : B → A) (back : A → B) → ((x : B) → back (view x) ≡ x) → IsCode A F f
    → IsCode B (λ x. F (view x)) (λ x. f (view x))
code_by view back again c = record {
  begins = λ x y r s p q e.
      let one = c.begins (view x) (view y) r s p q e in
      (sym (again x) ∙ ap back one.0 ∙ again y, one.1);
}

pub whole_by : {A B : Type 0} {F : A → Type 0} {f : A → List ℕ} (view : B → A) (back : A → B) → ((x : B) → back (view x) ≡ x) → IsWhole A F f
    → IsWhole B (λ x. F (view x)) (λ x. f (view x))
whole_by view back again c = record { same = λ x y p q e. sym (again x) ∙ ap back (c.same (view x) (view y) p q e) ∙ again y }

-- behind one byte
pub after_byte : {A : Type 0} {F : A → Type 0} {f : A → List ℕ} (b : ℕ) → IsCode A F f → IsCode A F (λ x. b ∷ f x)
after_byte {f = f} b c = record { begins = λ x y r s p q e. let t : f x ++ r ≡ f y ++ s = cc in c.begins x y r s p q t }

-- as many items on both sides
items_begin : {A : Type 0} (F : A → Type 0) (f : A → List ℕ) → IsCode A F f → (xs ys : List A) (r s : List ℕ) → length xs ≡ length ys → All F xs
    → All F ys → flat_map f xs ++ r ≡ flat_map f ys ++ s → (xs ≡ ys) × (r ≡ s)
items_begin F f code [] [] r s l p q e = (refl, e)
items_begin F f code [] (y ∷ ys) r s l p q e = absurd (omega (arith, l))
items_begin F f code (x ∷ xs) [] r s l p q e = absurd (omega (arith, l))
items_begin F f code (x ∷ xs) (y ∷ ys) r s l p q e =
    let split : f x ++ (flat_map f xs ++ r) ≡ f y ++ (flat_map f ys ++ s) = sym (append_assoc (f x) (flat_map f xs) r)
    ∙ ap (λ l. l ++ r) (sym (flat_map-cons f x xs)) ∙ e ∙ ap (λ l. l ++ s) (flat_map-cons f y ys) ∙ append_assoc (f y) (flat_map f ys) s in
    let one = code.begins x y (flat_map f xs ++ r) (flat_map f ys ++ s) (All-head F x xs p) (All-head F y ys q) split in
    let two = items_begin F f code xs ys r s (omega (arith, l)) (All-tail F x xs p) (All-tail F y ys q) one.1 in
    let a = one.0 in
    let b = two.0 in
    (cc, two.1)

-- a count, and so many items
pub vec_code : {A : Type 0} {F : A → Type 0} {f : A → List ℕ} → IsCode A F f → IsCode (List A) (InRangeVec F) (vec f)
vec_code {F = F} {f = f} c = record {
  begins = λ xs ys r s p q e.
      let one = unsigned_begins (length xs) (length ys) (flat_map f xs ++ r) (flat_map f ys ++ s)
      (sym (append_assoc (unsigned (length xs)) (flat_map f xs) r) ∙ e ∙ append_assoc (unsigned (length ys)) (flat_map f ys) s) in
      items_begin F f c xs ys r s one.0 p.1 q.1 one.1;
}

-- items that are covered each, and in range
pub spellable_vec : {A : Type 0} (item : A → Encoding) (xs : List A) → IsTrue (list_of item xs).is_covered → (list_of item xs).in_range
    → InRangeVec (λ x. Spellable (item x)) xs
spellable_vec item xs c r = (
  r.0,
  all_both (λ x. IsTrue (item x).is_covered) (λ x. (item x).in_range) (λ x. Spellable (item x)) (λ x p q. (p, q)) xs
      (all_tested (λ x. (item x).is_covered) xs c) r.1,
)

-- items that fill the rest, none of them empty
filled : {A : Type 0} (F : A → Type 0) (f : A → List ℕ) → ((x : A) → F x → 0 < length (f x)) → IsCode A F f → (xs ys : List A) → All F xs → All F ys
    → flat_map f xs ≡ flat_map f ys → xs ≡ ys
filled F f some code [] [] p q e = refl
filled F f some code [] (y ∷ ys) p q e = absurd (omega (
  arith,
  some y (All-head F y ys q),
  ap length e ∙ ap length (flat_map-cons f y ys)
      ∙ length-append (f y) (flat_map f ys),
))
filled F f some code (x ∷ xs) [] p q e = absurd (omega (
  arith,
  some x (All-head F x xs p),
  sym (ap length e) ∙ ap length (flat_map-cons f x xs)
      ∙ length-append (f x) (flat_map f xs),
))
filled F f some code (x ∷ xs) (y ∷ ys) p q e =
    let one = code.begins x y (flat_map f xs) (flat_map f ys) (All-head F x xs p) (All-head F y ys q) (sym (flat_map-cons f x xs) ∙ e ∙ flat_map-cons f y ys) in
    let a = one.0 in
    let b = filled F f some code xs ys (All-tail F x xs p) (All-tail F y ys q) one.1 in
    cc

pub filled_whole : {A : Type 0} {F : A → Type 0} {f : A → List ℕ} → ((x : A) → F x → 0 < length (f x)) → IsCode A F f → IsWhole (List A) (All F) (flat_map f)
filled_whole {F = F} {f = f} some c = record { same = filled F f some c }

-- before one last byte
pub ended_whole : {A : Type 0} {F : A → Type 0} {f : A → List ℕ} (b : ℕ) → IsWhole A F f → IsWhole A F (λ x. f x ++ b ∷ [])
ended_whole {f = f} b c = record { same = λ x y p q e. c.same x y p q (append_cancel_right (f x) (f y) (b ∷ []) e) }

-- lists of one length in front of what follows
pub same_front : (a b r s : List ℕ) → length a ≡ length b → a ++ r ≡ b ++ s → (a ≡ b) × (r ≡ s)
same_front [] [] r s l e = (refl, e)
same_front [] (y ∷ b) r s l e = absurd (omega (arith, l))
same_front (x ∷ a) [] r s l e = absurd (omega (arith, l))
same_front (x ∷ a) (y ∷ b) r s l e =
    let h : x ≡ y = cc in
    let t : a ++ r ≡ b ++ s = cc in
    let one = same_front a b r s (omega (arith, l)) t in
    let k = one.0 in
    (cc, one.1)

-- behind its length
pub sized_code : {A : Type 0} {F : A → Type 0} {f : A → List ℕ} → IsWhole A F f → IsCode A (InRangeSized F f) (length_prefixed f)
sized_code {f = f} c = record {
  begins = λ x y r s p q e.
      let one = unsigned_begins (length (f x)) (length (f y)) (f x ++ r) (f y ++ s) (sym (append_assoc (unsigned (length (f x))) (f x) r) ∙ e
      ∙ append_assoc (unsigned (length (f y))) (f y) s) in
      let two = same_front (f x) (f y) r s one.0 one.1 in
      (c.same x y p.1 q.1 two.0, two.1);
}

pub bytes_whole : IsWhole (List ℕ) Any (λ bytes. bytes)
bytes_whole = record { same = λ x y p q e. e }

pub name_code : IsCode (List ℕ) InRangeName name
name_code = code_within (λ text p. (p, tt)) (sized_code bytes_whole)
