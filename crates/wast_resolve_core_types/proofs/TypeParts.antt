-- Parts of types as their indices and the rest, and how to combine them.
use Rattle.std.proofs.Common.{◌≡◌, List, [], ◌∷◌, ◌++◌, refl, sym, ap, ◌∙◌, length, map, arith, Option, Some, None}
use Rattle.std.specs.Prelude.{Bool, true, option_map}
use Rattle.std.specs.List.{flat_map}
use Rattle.std.proofs.lemmas.Grind.{flat_map-append}
use Rattle.std.proofs.lemmas.List.{length-append, map-append}
use Rattle.wast_resolve_core_types.specs.Tree.{Id, Index, Form}
use Rattle.wast_resolve_core_types.specs.Tree.space
use Rattle.wast_tree_nodes.specs.Sites.{Check, ItemIndex, InnerIndex, PlainId, Clause, Covered, if_there, in_id, in_index, in_descriptor}
use Rattle.wast_tree_map.specs.Mapped.{Indices}
use Rattle.wast_resolve_core_types.specs.CoreTypes.{index_asked, indices_of, blank}

pub indices-append : (xs ys : List Check) → indices_of (xs ++ ys) ≡ indices_of xs ++ indices_of ys
indices-append xs ys = flat_map-append index_asked xs ys

-- a check as one of a type
abbrev pub as_type : Check → Check
as_type (ItemIndex s i) = ItemIndex space.Ty i
as_type (InnerIndex i) = Clause 0 true
as_type (PlainId m) = PlainId m
as_type (Clause n holds) = Clause n holds
as_type (Covered form holds) = Covered form holds

pub record IsTypePart {T : Type 0} (asks : T → List Check) (changed : Indices → T → T) : Type 0 where
  pub typed : (x : T) → map as_type (asks x) ≡ asks x
  pub many : (x y : T) → changed blank y ≡ changed blank x → length (indices_of (asks y)) ≡ length (indices_of (asks x))
  pub same : (f : Indices) (x y : T) → changed blank y ≡ changed blank x → indices_of (asks y) ≡ map (f space.Ty) (indices_of (asks x)) → y ≡ changed f x

split : {X : Type 0} (f : X → X) (us bs cs ds : List X) → length cs ≡ length us → cs ++ ds ≡ map f (us ++ bs) → (cs ≡ map f us) × (ds ≡ map f bs)
split f [] bs [] ds n h = (refl, h)
split f [] bs (c ∷ cs) ds n h = absurd (omega (arith, n))
split f (a ∷ us) bs [] ds n h = absurd (omega (arith, n))
split f (a ∷ us) bs (c ∷ cs) ds n h =
    let head : c ≡ f a = cc in
    let tail : cs ++ ds ≡ map f (us ++ bs) = cc in
    let rest = split f us bs cs ds (omega (arith, n)) tail in (λ i. head i ∷ rest.0 i, rest.1)

-- the checks of consecutive parts
pub both_typed : (us bs : List Check) → map as_type us ≡ us → map as_type bs ≡ bs → map as_type (us ++ bs) ≡ us ++ bs
both_typed us bs p q = map-append as_type us bs ∙ (ap (λ zs. zs ++ map as_type bs) p ∙ ap (λ zs. us ++ zs) q)

both_many : (us bs cs ds : List Check) → length (indices_of cs) ≡ length (indices_of us) → length (indices_of ds) ≡ length (indices_of bs)
    → length (indices_of (cs ++ ds)) ≡ length (indices_of (us ++ bs))
both_many us bs cs ds p q = rw (
  indices-append cs ds,
  indices-append us bs,
  length-append (indices_of cs) (indices_of ds),
  length-append
      (indices_of us) (indices_of bs),
  p,
  q,
) refl

both_changed : (f : Index → Index) (us bs cs ds : List Check) → length (indices_of cs) ≡ length (indices_of us)
    → indices_of (cs ++ ds) ≡ map f (indices_of (us ++ bs))
    → (indices_of cs ≡ map f (indices_of us)) × (indices_of ds ≡ map f (indices_of bs))
both_changed f us bs cs ds n h =
    split f (indices_of us) (indices_of bs) (indices_of cs) (indices_of ds) n (sym (indices-append cs ds) ∙ (h ∙ ap (map f) (indices-append us bs)))

-- the ways to combine parts
pub const_part : {T : Type 0} → IsTypePart {T = T} (λ x. []) (λ f x. x)
const_part = record { typed = λ x. refl; many = λ x y h. refl; same = λ f x y h k. h }

pub id_part : IsTypePart (if_there in_id) (λ f x. x)
id_part = record { typed = none; many = λ x y h. ap (λ z. length (indices_of (if_there in_id z))) h; same = λ f x y h k. h }
  where
    none : (x : Option Id) → map as_type (if_there in_id x) ≡ if_there in_id x
    none None = refl
    none (Some x) = refl

only_index : (i j : Index) → j ∷ [] ≡ i ∷ [] → j ≡ i
only_index i j h = cc

pub index_part : IsTypePart (in_index space.Ty) (λ f i. f space.Ty i)
index_part = record { typed = λ x. refl; many = λ x y h. refl; same = λ f x y h k. only_index (f space.Ty x) y k }

pub descriptor_part : IsTypePart in_descriptor (λ f i. f space.Ty i)
descriptor_part = record { typed = λ x. refl; many = λ x y h. refl; same = λ f x y h k. only_index (f space.Ty x) y k }

-- a form, and whether the part is without it
pub form_part : {T : Type 0} (form : Form) (holds : T → Bool) → IsTypePart (λ x. Covered form (holds x) ∷ []) (λ f x. x)
form_part form holds = record { typed = λ x. refl; many = λ x y h. refl; same = λ f x y h k. h }

pub both_part : {A B : Type 0} {p : A → List Check} {v : Indices → A → A} {q : B → List Check} {w : Indices → B → B} → IsTypePart p v
    → IsTypePart q w → IsTypePart {T = A × B} (λ x. p x.0 ++ q x.1) (λ f x. (v f x.0, w f x.1))
both_part {A} {B} {p} {v} {q} {w} a b = record {
  typed = λ x. both_typed (p x.0) (q x.1) (a.typed x.0) (b.typed x.1);
  many = λ x y h. both_many (p x.0) (q x.1) (p y.0) (q y.1) (a.many x.0 y.0 (ap (λ z. z.0) h)) (b.many x.1 y.1 (ap (λ z. z.1) h));
  same = λ f x y h k.
      let s = both_changed (f space.Ty) (p x.0) (q x.1) (p y.0) (q y.1) (a.many x.0 y.0 (ap (λ z. z.0) h)) k in
      λ i. (a.same f x.0 y.0 (ap (λ z. z.0) h) s.0 i, b.same f x.1 y.1 (ap (λ z. z.1) h) s.1 i);
}

-- a part that is determined by another
pub part_as : {T U : Type 0} {p : U → List Check} {v : Indices → U → U} (to : T → U) (w : Indices → T → T) → IsTypePart p v
    → ((f : Indices) (x : T) → to (w f x) ≡ v f (to x)) → ((x y : T) → to x ≡ to y → x ≡ y)
    → IsTypePart (λ x. p (to x)) w
part_as to w a moves one = record {
  typed = λ x. a.typed (to x);
  many = λ x y h. a.many (to x) (to y) (sym (moves blank y) ∙ (ap to h ∙ moves blank x));
  same = λ f x y h k. one y (w f x) (a.same f (to x) (to y) (sym (moves blank y) ∙ (ap to h ∙ moves blank x)) k ∙ sym (moves f x));
}

module _ {T : Type 0} {p : T → List Check} {v : Indices → T → T} (a : IsTypePart p v) where
  list_typed : (xs : List T) → map as_type (flat_map p xs) ≡ flat_map p xs
  list_typed [] = refl
  list_typed (x ∷ xs) = both_typed (p x) (flat_map p xs) (a.typed x) (list_typed xs)

  list_many : (xs ys : List T) → map (v blank) ys ≡ map (v blank) xs → length (indices_of (flat_map p ys)) ≡ length (indices_of (flat_map p xs))
  list_many [] [] h = refl
  list_many [] (y ∷ ys) h = absurd (cc h)
  list_many (x ∷ xs) [] h = absurd (cc h)
  list_many (x ∷ xs) (y ∷ ys) h =
      let head : v blank y ≡ v blank x = cc in
      let tail : map (v blank) ys ≡ map (v blank) xs = cc in both_many (p x) (flat_map p xs) (p y) (flat_map p ys) (a.many x y head) (list_many xs ys tail)

  list_same : (f : Indices) (xs ys : List T) → map (v blank) ys ≡ map (v blank) xs
      → indices_of (flat_map p ys) ≡ map (f space.Ty) (indices_of (flat_map p xs)) → ys ≡ map (v f) xs
  list_same f [] [] h k = refl
  list_same f [] (y ∷ ys) h k = absurd (cc h)
  list_same f (x ∷ xs) [] h k = absurd (cc h)
  list_same f (x ∷ xs) (y ∷ ys) h k =
      let head : v blank y ≡ v blank x = cc in
      let tail : map (v blank) ys ≡ map (v blank) xs = cc in
      let s = both_changed (f space.Ty) (p x) (flat_map p xs) (p y) (flat_map p ys) (a.many x y head) k
      in λ i. a.same f x y head s.0 i ∷ list_same f xs ys tail s.1 i

  pub list_part : IsTypePart (flat_map p) (λ f xs. map (v f) xs)
  list_part = record { typed = list_typed; many = list_many; same = list_same }

  option_typed : (x : Option T) → map as_type (if_there p x) ≡ if_there p x
  option_typed None = refl
  option_typed (Some x) = a.typed x

  option_many : (x y : Option T) → option_map (v blank) y ≡ option_map (v blank) x → length (indices_of (if_there p y)) ≡ length (indices_of (if_there p x))
  option_many None None h = refl
  option_many None (Some y) h = absurd (cc h)
  option_many (Some x) None h = absurd (cc h)
  option_many (Some x) (Some y) h = let s : v blank y ≡ v blank x = cc in a.many x y s

  option_same : (f : Indices) (x y : Option T) → option_map (v blank) y ≡ option_map (v blank) x
      → indices_of (if_there p y) ≡ map (f space.Ty) (indices_of (if_there p x)) → y ≡ option_map (v f) x
  option_same f None None h k = refl
  option_same f None (Some y) h k = absurd (cc h)
  option_same f (Some x) None h k = absurd (cc h)
  option_same f (Some x) (Some y) h k = let s : v blank y ≡ v blank x = cc in ap Some (a.same f x y s k)

  pub option_part : IsTypePart (if_there p) (λ f x. option_map (v f) x)
  option_part = record { typed = option_typed; many = option_many; same = option_same }
