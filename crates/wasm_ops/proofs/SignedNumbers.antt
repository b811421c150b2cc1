-- Each signed number has one spelling, and no spelling begins another.
use Rattle.std.proofs.Common.{◌≡◌, ◌^◌, ◌<◌, ◌≤◌, ℕ, zero, suc, ◌+◌, ◌-◌, ◌*◌, ◌/◌, ◌%◌, Bool, true, false, List, [], ◌∷◌, ◌++◌, length}
use Rattle.std.proofs.Common.{refl, sym, ap, ◌∙◌, subst, arith, inl, inr}
use Rattle.std.specs.Prelude.{ℤ, pos, negsuc}
use Rattle.std.proofs.Math.Nat.{pow-suc}
use Rattle.std.proofs.lemmas.Bool.{cases_lt, lt-ltb, le-ltb, ltb-true}
use Rattle.std.specs.Int.{is_negative}
use Rattle.std.specs.Prelude.{unsigned_abs}
use Rattle.wasm_ops.specs.Leb128.{value, IsChain, HasSigned, SpellsSigned, complement_if, signed_in, signed, digits}
use Rattle.wasm_ops.proofs.Chains.{chain_begins, same_chain}

abbrev int_of : Bool → ℕ → ℤ
int_of false n = pos n
int_of true n = negsuc n

signed_in-small : (b : Bool) (k n : ℕ) → n < 64 → signed_in b k n ≡ complement_if b n ∷ []
unfolding signed_in
signed_in-small b zero n lt = refl
signed_in-small b (suc k) n lt = rw (lt-ltb n 64 lt, signed_in) refl

signed_in-large : (b : Bool) (k n : ℕ) → 64 ≤ n → signed_in b (suc k) n ≡ (128 + complement_if b (n % 128)) ∷ signed_in b k (n / 128)
unfolding signed_in
signed_in-large b k n le = rw (le-ltb n 64 le, signed_in) refl

-- one more byte in front
signed-cons : (b : Bool) (n : ℕ) (bs : List ℕ) → IsChain bs → HasSigned bs (int_of b (n / 128))
    → IsChain ((128 + complement_if b (n % 128)) ∷ bs) × HasSigned ((128 + complement_if b (n % 128)) ∷ bs) (int_of b n)
signed-cons b n [] h s = absurd h
signed-cons false n (c ∷ cs) h s = ((omega arith, omega arith, h), (s.0, omega (arith, s.1)))
signed-cons true n (c ∷ cs) h s = ((omega arith, omega arith, h), (s.0, rw (pow-suc 128 (length (c ∷ cs))) (omega (arith, s.1))))

signed-one : (b : Bool) (n : ℕ) → n < 64 → IsChain (complement_if b n ∷ []) × HasSigned (complement_if b n ∷ []) (int_of b n)
signed-one false n lt = (omega arith, (lt, omega arith))
signed-one true n lt = (omega arith, (omega arith, omega arith))

signed_in-is : (b : Bool) (k n : ℕ) → n ≤ k → IsChain (signed_in b k n) × HasSigned (signed_in b k n) (int_of b n)
signed_in-is b zero n le = rw (signed_in-small b zero n (omega arith)) (signed-one b n (omega arith))
signed_in-is b (suc k) n le =
    elim (cases_lt n 64) [
      | inl lt ↦ rw (signed_in-small b (suc k) n lt) (signed-one b n lt)
      | inr ge ↦ let r = signed_in-is b k (n / 128) (omega arith) in rw (signed_in-large b k n ge) (signed-cons b n (signed_in b k (n / 128)) r.0 r.1)
    ]

-- what stands behind the first byte
signed-rest : (b : Bool) (n p c : ℕ) (cs : List ℕ) → HasSigned (p ∷ c ∷ cs) (int_of b n) → HasSigned (c ∷ cs) (int_of b (n / 128))
signed-rest false n p c cs s = (s.0, omega (arith, s.1))
signed-rest true n p c cs s = let e = pow-suc 128 (length (c ∷ cs)) in (s.0, omega (arith, s.1, e))

one-small : (b : Bool) (n p : ℕ) → p < 128 → HasSigned (p ∷ []) (int_of b n) → n < 64
one-small false n p lt s = omega (arith, s.0, s.1)
one-small true n p lt s = omega (arith, s.0, s.1)

signed_in-shortest : (b : Bool) (k n : ℕ) (other : List ℕ) → n ≤ k → IsChain other → HasSigned other (int_of b n) → length (signed_in b k n) ≤ length other
signed_in-shortest b k n [] le h s = absurd h
signed_in-shortest b zero n (p ∷ ps) le h s = rw (signed_in-small b zero n (omega arith)) (omega arith)
signed_in-shortest b (suc k) n (p ∷ []) le h s = rw (signed_in-small b (suc k) n (one-small b n p h s)) (omega arith)
signed_in-shortest b (suc k) n (p ∷ c ∷ ps) le h s =
    elim (cases_lt n 64) [
      | inl lt ↦ rw (signed_in-small b (suc k) n lt) (omega arith)
      | inr ge ↦ rw (signed_in-large b k n ge) (omega (arith, signed_in-shortest b k (n / 128) (c ∷ ps) (omega arith) h.2 (signed-rest b n p c ps s)))
    ]

pub signed_spells : (z : ℤ) → SpellsSigned (signed z) z
unfolding signed
signed_spells (pos n) = let r = signed_in-is false n n (omega arith) in record {
  chain = r.0;
  sum = r.1;
  shortest = λ other h s. signed_in-shortest false n n other (omega arith) h s;
}
signed_spells (negsuc n) = let r = signed_in-is true n n (omega arith) in record {
  chain = r.0;
  sum = r.1;
  shortest = λ other h s. signed_in-shortest true n n other (omega arith) h s;
}

-- bytes stand for one number
pub one_signed : (bytes : List ℕ) (y z : ℤ) → HasSigned bytes y → HasSigned bytes z → y ≡ z
one_signed bytes (pos m) (pos n) s t = ap pos (sym s.1 ∙ t.1)
one_signed bytes (pos m) (negsuc n) s t = absurd (omega (arith, s.0, t.0))
one_signed bytes (negsuc m) (pos n) s t = absurd (omega (arith, s.0, t.0))
one_signed bytes (negsuc m) (negsuc n) s t = let e : m ≡ n = omega (arith, s.1, t.1) in ap negsuc e

same_sum : (a b : List ℕ) (z : ℤ) → length a ≡ length b → HasSigned a z → HasSigned b z → value a ≡ value b
same_sum a b (pos n) l s t = s.1 ∙ sym t.1
same_sum a b (negsuc n) l s t = let e = ap (λ k. 128 ^ k) l in omega (arith, s.1, t.1, e)

pub is_signed : (bytes : List ℕ) (z : ℤ) → SpellsSigned bytes z → bytes ≡ signed z
is_signed bytes z s =
    let u = signed_spells z in
    let l : length bytes ≡ length (signed z) = omega (arith, s.shortest (signed z) u.chain u.sum, u.shortest bytes s.chain s.sum) in
    same_chain bytes (signed z) s.chain u.chain l (same_sum bytes (signed z) z l s.sum u.sum)

pub signed_begins : (y z : ℤ) (r s : List ℕ) → signed y ++ r ≡ signed z ++ s → (y ≡ z) × (r ≡ s)
signed_begins y z r s e =
    let u = signed_spells y in
    let v = signed_spells z in
    let b = chain_begins (signed y) (signed z) r s u.chain v.chain e in
    (one_signed (signed z) y z (subst (λ (bs : List ℕ). HasSigned bs y) b.0 u.sum) v.sum, b.1)

-- ---- what the writer's loop needs

signed_in-fuel : (b : Bool) (k j n : ℕ) → n ≤ k → n ≤ j → signed_in b k n ≡ signed_in b j n
signed_in-fuel b zero j n le lf = signed_in-small b zero n (omega arith) ∙ sym (signed_in-small b j n (omega arith))
signed_in-fuel b (suc k) zero n le lf = signed_in-small b (suc k) n (omega arith) ∙ sym (signed_in-small b zero n (omega arith))
signed_in-fuel b (suc k) (suc j) n le lf =
    elim (cases_lt n 64) [
      | inl lt ↦ signed_in-small b (suc k) n lt ∙ sym (signed_in-small b (suc j) n lt)
      | inr ge ↦ signed_in-large b k n ge
          ∙ ap (λ bs. (128 + complement_if b (n % 128)) ∷ bs) (signed_in-fuel b k j (n / 128) (omega arith) (omega arith)) ∙ sym (signed_in-large b j n ge)
    ]

pub digits-small : (b : Bool) (n : ℕ) → n < 64 → digits b n ≡ complement_if b n ∷ []
unfolding digits
digits-small b n lt = signed_in-small b n n lt

pub digits-large : (b : Bool) (n : ℕ) → 64 ≤ n → digits b n ≡ (128 + complement_if b (n % 128)) ∷ digits b (n / 128)
unfolding digits
digits-large b zero ge = absurd (omega arith)
digits-large b (suc k) ge = signed_in-large b k (suc k) ge
    ∙ ap (λ bs. (128 + complement_if b (suc k % 128)) ∷ bs) (signed_in-fuel b k (suc k / 128) (suc k / 128) (omega arith) (omega arith))

pub digits_fit : (b : Bool) (k n : ℕ) → n < 64 * 128 ^ k → length (digits b n) ≤ suc k
digits_fit b zero n lt = rw (digits-small b n (omega arith)) (omega arith)
digits_fit b (suc k) n lt =
    elim (cases_lt n 64) [
      | inl small ↦ rw (digits-small b n small) (omega arith)
      | inr ge ↦ let e = pow-suc 128 k in rw (digits-large b n ge) (omega (arith, digits_fit b k (n / 128) (omega (arith, e))))
    ]

pub digits-nonempty : (b : Bool) (n : ℕ) → 0 < length (digits b n)
digits-nonempty b n = elim (cases_lt n 64) [ inl lt ↦ rw (digits-small b n lt) (omega arith) | inr ge ↦ rw (digits-large b n ge) (omega arith) ]

pub signed_pos : (n : ℕ) → signed (pos n) ≡ digits false n
unfolding signed digits
signed_pos n = refl

pub signed_negsuc : (n : ℕ) → signed (negsuc n) ≡ digits true n
unfolding signed digits
signed_negsuc n = refl

pub signed_below : (z : ℤ) → is_negative z ≡ true → digits true (unsigned_abs z - 1) ≡ signed z
signed_below (pos n) e = absurd (omega (arith, ltb-true n 0 e))
signed_below (negsuc n) e = let h : suc n - 1 ≡ n = omega arith in rw h (sym (signed_negsuc n))

pub signed_above : (z : ℤ) → is_negative z ≡ false → digits false (unsigned_abs z) ≡ signed z
signed_above (pos n) e = sym (signed_pos n)
signed_above (negsuc n) e = absurd cc
