-- Function bodies that are stable, and others that are not, which the definition computes.
use Rattle.std.specs.Prelude.{◌≡◌, Bool, true, false, List, [], ◌∷◌, Some, None, codes}
use Rattle.wast_tree_nodes.specs.WorkedModules.{Address, id_at, by_id, by_number}
use Rattle.wast_expand_keys.specs.WorkedExpansions.{function_type}
use Rattle.wast_resolve_rules.specs.WorkedBodies.{of_type, in_place, labelled, func_of}
use Rattle.wast_resolve.specs.Tree.{TypeUse, FunctionType, Instruction}
use Rattle.wast_resolve.specs.Tree.value
use Rattle.wast_resolve.specs.Tree.instr
use Rattle.wast_resolve.specs.Stable.{has_stable_bodies}

-- whether `(module (func (type 0) ..))` with these instructions has a stable body
abbrev pub of_body : List Instruction → Bool
of_body instrs = has_stable_bodies (func_of 8 (of_type 0) [] instrs ∷ [])

-- `local.get 0 call 1` is stable, and `call $f` is not, because its index is an id.
abbrev pub Calls : Type 0
Calls = (a : Address) →
    (of_body (instr.local_get (by_number 0 33) ∷ instr.call (by_number 1 40) ∷ []) ≡ true)
    × (of_body (instr.call (by_id a (codes "f") 28) ∷ []) ≡ false)

-- A block with an index alone, or with one result and no index, is stable. Whether an index and an inline type match is checked.
abbrev pub Blocks : Type 0
Blocks =
    (of_body (instr.block (labelled None (of_type 1)) ∷ instr.end_ None ∷ []) ≡ true)
    × (of_body (instr.block (labelled None (in_place (function_type [] (value.I32 ∷ [])))) ∷ instr.end_ None ∷ []) ≡ true)
    × (of_body (instr.block (labelled None (in_place (function_type (value.I32 ∷ []) []))) ∷ instr.end_ None ∷ []) ≡ false)
    × (of_body (instr.block (labelled None (record { index = Some (by_number 1 34); inline = Some (function_type (value.I32 ∷ []) []) })) ∷ instr.end_ None ∷ []) ≡ false)

-- A label may stand at a block, and not at its `end`, because the label there is checked.
abbrev pub Labels : Type 0
Labels = (a b : Address) →
    (of_body (instr.block (labelled (Some (id_at a (codes "l") 29)) (of_type 1)) ∷ instr.end_ None ∷ []) ≡ true)
    × (of_body (instr.block (labelled (Some (id_at a (codes "l") 29)) (of_type 1)) ∷ instr.end_ (Some (id_at b (codes "l") 50)) ∷ []) ≡ false)
