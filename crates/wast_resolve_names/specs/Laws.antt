-- Theorems about types whose indices are resolved with the resolver of a module.
--
-- For example, if `$a` is type 0, resolving `(func (param (ref $a)))` returns `(func (param (ref 0)))`. If `$a` is
-- unknown, the error is E4 at `$a`.
use Rattle.std.specs.Prelude.{◌≡◌, true, List, Result}
use Rattle.std.specs.Borrow.{Bor}
use Rattle.wast_tree_nodes.specs.Sites.{Check}
use Rattle.wast_base.specs.declared.faults.Error.{Error}
use Rattle.wast_tree_map.specs.Mapped.{Indices}
use Rattle.wast_resolve_names.specs.Tree.space
use Rattle.wast_resolve_rules.specs.Demands.{ask_demands}
use Rattle.wast_resolve_rules.specs.Resolved.{numbered_at}
use Rattle.wast_resolve_core_types.specs.CoreTypes.{CallsOn, HasNeeds, blank}
use Rattle.wast_resolve_names.specs.Resolvers.{Resolution, known_of}
use Rattle.wast_resolve_names.specs.LookUps.{are_settled, IsSettledFor, LooksTypesUp}
use Rattle.wast_resolve_names.specs.Walking.{Walks}

-- With the resolver of a module, the calls on the indices of a part succeed if each of its checks passes, and then the
-- part has its numbers. Otherwise the error is the first check that fails.
abbrev pub ByResolver : {T : Type 0} → (T → List Check) → (Indices → T → T) → Type 0
ByResolver {T} asks changed = (old new : Bor Resolution) (before after : T) (result : Result (Unit {0}) Error)
    → CallsOn (LooksTypesUp (λ names. known_of names.now)) old (asks before) new (asks after) result → changed blank after ≡ changed blank before
    → Walks ⊥ ⊥ (ask_demands (known_of old.now) (asks before)) (changed (numbered_at (known_of old.now)) before) after result

-- The requirement of the calls holds if the generated ids in the part are those of types.
abbrev pub NeedsOfResolver : {T : Type 0} → (T → List Check) → Type 0
NeedsOfResolver {T} asks = (names : Bor Resolution) (x : T) → are_settled (known_of names.now) (asks x) ≡ true → HasNeeds (λ names i. IsSettledFor (known_of names.now) space.Ty i) names (asks x)
