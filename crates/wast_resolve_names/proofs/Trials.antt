-- Trials: over parts, and over indices.
use Rattle.std.proofs.Common.{◌≡◌, ℕ, List, [], Bool, true, false, Option, Some, None, is_some, refl, sym, ap, ◌∙◌, subst}
use Rattle.wast_base.specs.Ids.{Name, mark_of, name_of}
use Rattle.wast_base.specs.FirstUnmet.{unknown_demand}
use Rattle.wast_resolve_rules.specs.Demands.{Demand, first_unmet, known_index}
use Rattle.wast_resolve_rules.specs.Resolved.{resolved_index, numbered_by}
use Rattle.wast_resolve_rules.specs.Scopes.{denoted}
use Rattle.wast_resolve_names.specs.Tree.{Id, Index}
use Rattle.wast_resolve_names.specs.Tree.index
use Rattle.wast_resolve_names.specs.Walking.{Tries}

-- a trial over a part
pub tries_in : {T U : Type 0} (make : T → U) (ds es : List Demand) (want old new : T) (b : Bool) → first_unmet ds ≡ first_unmet es
    → Tries ds want old new b → Tries es (make want) (make old) (make new) b
tries_in make ds es want old new true same w = (sym same ∙ w.0, ap make w.1)
tries_in make ds es want old new false same w = ap make w

-- an index, from the numbers of names
module _ (f : Name → Option ℕ) (word : List ℕ) where
  found : (id : Id) (new : Index) (o : Option ℕ) → new ≡ numbered_by o id
      → Tries (unknown_demand word (mark_of id) (is_some o)) (numbered_by o id) (index.Id id) new (is_some o)
  found id new None e = e
  found id new (Some n) e = (refl, e)

  pub tries_index : (old new : Index) (r : Option ℕ) → r ≡ denoted f old → new ≡ resolved_index f old
      → Tries (known_index f word old) (resolved_index f old) old new (is_some r)
  tries_index (index.Num n p) new r is e =
      let none : List Demand = [] in
      subst (λ (o : Option ℕ). Tries none (index.Num n p) (index.Num n p) new (is_some o)) (sym is) (refl, e)
  tries_index (index.Id id) new r is e =
      subst (λ (o : Option ℕ). Tries (unknown_demand word (mark_of id) (is_some (f (name_of id)))) (numbered_by (f (name_of id)) id)
      (index.Id id) new (is_some o)) (sym is) (found id new (f (name_of id)) e)
