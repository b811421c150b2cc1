-- Proves ExtendedIsInjective and ExtendedAgrees.
use Rattle.std.proofs.Common.{◌≡◌, ℕ, ◌+◌, ◌≤◌, Bool, true, false, cond, [], ◌∷◌, length, length-append, Option, Some, None, refl, sym, ap, ◌∙◌, arith}
use Rattle.std.specs.Prelude.{replicate}
use Rattle.std.proofs.lemmas.List.{length-replicate, append_cancel_left}
use Rattle.wast_base.specs.Ids.{Name, Written, Generated, same_name, text_of, generation_of}
use Rattle.wast_resolve_laws.specs.Extended.{FiniteNaming, renamed_name, longest, newest, other_name, name_or, ExtendedIsInjective, ExtendedAgrees}

-- a new name in the map is no longer, and no newer, than the bounds
bounded : (m : FiniteNaming) (a c : Name) → renamed_name m a ≡ Some c → (length (text_of c) ≤ longest m) × (generation_of c ≤ newest m)
bounded [] a c h = absurd (cc h)
bounded (e ∷ m) a c h = by (same_name a e.0) (renamed_name m a) (bounded m a c) h
  where
    by : (b : Bool) (o : Option Name) → (o ≡ Some c → (length (text_of c) ≤ longest m) × (generation_of c ≤ newest m)) → cond b (Some e.1) o ≡ Some c
        → (length (text_of c) ≤ length (text_of e.1) + longest m) × (generation_of c ≤ generation_of e.1 + newest m)
    by true o k g =
        let is : e.1 ≡ c = cc in
        let long : length (text_of e.1) ≡ length (text_of c) = ap (λ q. length (text_of q)) is in
        let new : generation_of e.1 ≡ generation_of c = ap generation_of is in
        (omega (arith, long), omega (arith, new))
    by false o k g = let l = k g in (omega (arith, l.0), omega (arith, l.1))

-- so it is not the new name of a name outside of the map
differs : (m : FiniteNaming) (a b c : Name) → renamed_name m a ≡ Some c → c ≡ other_name m b → ⊥
differs m a (Written text) c h e =
    let l = (bounded m a c h).0 in
    let k : length (text_of c) ≡ length (replicate (1 + longest m) 0) + length text = ap (λ q. length (text_of q)) e
    ∙ length-append (replicate (1 + longest m) 0) text in
    let z = length-replicate {A = ℕ} (1 + longest m) 0 in
    omega (arith, l, k, z)
differs m a (Generated n) c h e =
    let l = (bounded m a c h).1 in
    let k : generation_of c ≡ 1 + newest m + n = ap generation_of e in
    omega (arith, l, k)

-- which determines the name
others : (m : FiniteNaming) (a b : Name) → other_name m a ≡ other_name m b → a ≡ b
others m (Written s) (Written t) e = ap Written (append_cancel_left (replicate (1 + longest m) 0) s t (ap text_of e))
others m (Written s) (Generated n) e = absurd (cc e)
others m (Generated n) (Written t) e = absurd (cc e)
others m (Generated n) (Generated k) e = let same : 1 + newest m + n ≡ 1 + newest m + k = ap generation_of e in ap Generated (omega (arith, same))

pub extended_is_injective : ExtendedIsInjective
extended_is_injective m is a b e = by (renamed_name m a) (renamed_name m b) refl refl e
  where
    by : (o p : Option Name) → renamed_name m a ≡ o → renamed_name m b ≡ p → name_or (other_name m a) o ≡ name_or (other_name m b) p → a ≡ b
    by None None h k g = others m a b g
    by (Some c) None h k g = absurd (differs m a b c h g)
    by None (Some c) h k g = absurd (differs m b a c k (sym g))
    by (Some c) (Some d) h k g = is a b c h (k ∙ ap Some (sym g))

pub extended_agrees : ExtendedAgrees
extended_agrees m a b h = ap (name_or (other_name m a)) h
