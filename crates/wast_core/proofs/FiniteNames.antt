-- A finite map of names that is injective is a renaming.
use Rattle.std.proofs.Common.{◌≡◌, ℕ, Bool, true, false, cond, not, ◌&&◌, ◌||◌, List, [], ◌∷◌, Option, Some, None, refl, sym, ap, ◌∙◌}
use Rattle.std.specs.List.{list_any}
use Rattle.std.specs.Cmp.{first_so, second_so}
use Rattle.wast_base.specs.Ids.{Name, Written, Generated, same_name, named_by, name_of, place_of}
use Rattle.wast_base.proofs.Names.{same_name_equal, same_name_itself}
use Rattle.wast_resolve_laws.specs.Extended.{FiniteNaming, renamed_name, IsInjective, extended, ExtendedIsInjective}
use Rattle.wast_core.specs.FiniteNames.{is_injective, held_at, RenamesFinitely}

-- A name that the map returns is among the names in its entries.
given_there : (m : FiniteNaming) (a c : Name) → renamed_name m a ≡ Some c → list_any (λ d. same_name c d.1) m ≡ true
given_there [] a c h = absurd (cc h)
given_there (e ∷ m) a c h = by (same_name a e.0) (renamed_name m a) (given_there m a c) h
  where
    rest : (b : Bool) (o : Option Name) → (o ≡ Some c → list_any (λ d. same_name c d.1) m ≡ true) → o ≡ Some c → (b || list_any (λ d. same_name c d.1) m) ≡ true
    rest true o k g = refl
    rest false o k g = k g

    by : (b : Bool) (o : Option Name) → (o ≡ Some c → list_any (λ d. same_name c d.1) m ≡ true) → cond b (Some e.1) o ≡ Some c
        → list_any (λ d. same_name c d.1) (e ∷ m) ≡ true
    by true o k g =
        let is : e.1 ≡ c = cc in
        ap (λ (b : Bool). b || list_any (λ d. same_name c d.1) m) (ap (same_name c) is ∙ same_name_itself c)
    by false o k g = rest (same_name c e.1) o k g

-- So two entries of an injective map have two names.
pub injective_so : (m : FiniteNaming) → is_injective m ≡ true → IsInjective m
injective_so [] h a b c k l = absurd (cc k)
injective_so (e ∷ m) h a b c k l =
    let alone = first_so (not (list_any (λ d. same_name e.1 d.1) m)) (is_injective m) h in
    let others = injective_so m (second_so (not (list_any (λ d. same_name e.1 d.1) m)) (is_injective m) h) in
    by alone others (same_name a e.0) (same_name b e.0) refl refl k l
  where
    clash : not (list_any (λ d. same_name e.1 d.1) m) ≡ true → list_any (λ d. same_name e.1 d.1) m ≡ true → ⊥
    clash h g = absurd (cc (sym (ap not g) ∙ h))

    by : not (list_any (λ d. same_name e.1 d.1) m) ≡ true → IsInjective m → (p q : Bool) → same_name a e.0 ≡ p → same_name b e.0 ≡ q
        → cond p (Some e.1) (renamed_name m a) ≡ Some c → cond q (Some e.1) (renamed_name m b) ≡ Some c → a ≡ b
    by alone others true true f g k l = same_name_equal a e.0 f ∙ sym (same_name_equal b e.0 g)
    by alone others true false f g k l = absurd (clash alone (given_there m b e.1 (l ∙ sym k)))
    by alone others false true f g k l = absurd (clash alone (given_there m a e.1 (k ∙ sym l)))
    by alone others false false f g k l = others a b c k l

-- An id has the name that it is given.
named_so : (at : ℕ × ℕ) (q : Name) → named_by (held_at at q) ≡ q
named_so at (Written text) = refl
named_so at (Generated n) = refl

pub renames_finitely : ExtendedIsInjective → RenamesFinitely
renames_finitely injective at m h = record {
  calls = λ id i. (named_so (at id) (extended m (name_of id)) i, place_of id);
  injective = injective m (injective_so m h);
}
