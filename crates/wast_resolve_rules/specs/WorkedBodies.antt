-- Example modules with blocks, labels and locals, with the error or the result. Names may be at any address.
use Rattle.std.specs.Prelude.{◌≡◌, ℕ, ◌+◌, List, [], ◌∷◌, ◌++◌, Option, Some, None, codes}
use Rattle.wast_base.specs.Ids.{gensym_id}
use Rattle.wast_base.specs.Faults.{Unknown, Labels}
use Rattle.wast_tree_nodes.specs.WorkedModules.{Address, place, id_at, by_id, by_number}
use Rattle.wast_expand_keys.specs.Signatures.{empty_signature}
use Rattle.wast_expand_keys.specs.Expanded.{empty_type, implied_types}
use Rattle.wast_expand_keys.specs.Completed.{fields_with_implied_types}
use Rattle.wast_expand_keys.specs.WorkedExpansions.{function_type, type_at}
use Rattle.wast_resolve_rules.specs.Tree.{Id, Index, FunctionType, TypeUse, BlockType, Instruction, Local, ModuleField}
use Rattle.wast_resolve_rules.specs.Tree.value
use Rattle.wast_resolve_rules.specs.Tree.bare
use Rattle.wast_resolve_rules.specs.Tree.plain
use Rattle.wast_resolve_rules.specs.Tree.caught
use Rattle.wast_resolve_rules.specs.Tree.instr
use Rattle.wast_resolve_rules.specs.Tree.func
use Rattle.wast_resolve_rules.specs.Tree.tag
use Rattle.wast_resolve_rules.specs.Tree.tag_kind
use Rattle.wast_resolve_rules.specs.Tree.field
use Rattle.wast_resolve_rules.specs.Demands.{first_unmet, demands, body_counts}
use Rattle.wast_resolve_rules.specs.Finished.{resolved_fields_from}

-- type uses: empty; the number of an appended type; and an inline type alone
abbrev pub not_said : TypeUse FunctionType
not_said = record { index = None; inline = None }

abbrev pub of_type : ℕ → TypeUse FunctionType
of_type k = record { index = Some (by_number k 0); inline = None }

abbrev pub in_place : FunctionType → TypeUse FunctionType
in_place t = record { index = None; inline = Some t }

-- `(func ..)` at position n, with locals and instructions; as the only field it is at 8
abbrev pub func_of : ℕ → TypeUse FunctionType → List Local → List Instruction → ModuleField
func_of n u locals instrs = field.Func (record {
  span = place (n + 1);
  id = None;
  name = None;
  exports = record { names = [] };
  kind = func.Inline locals (record { instrs = instrs; branch_hints = [] });
  ty = u;
})

abbrev pub body : TypeUse FunctionType → List Instruction → List ModuleField
body u instrs = func_of 8 u [] instrs ∷ []

-- a block with a label and a type
abbrev pub labelled : Option Id → TypeUse FunctionType → BlockType
labelled label u = record { label = label; label_name = None; ty = u }

-- `(module (func block $a block $b br $a br $b end end))`: depths count from the innermost block.
abbrev pub nested_with : (a b : Address) → (u v : TypeUse FunctionType) → Index → Index → List ModuleField
nested_with a b u v i j =
    body u
    (instr.block (labelled (Some (id_at a (codes "a") 20)) v) ∷ instr.block (labelled (Some (id_at b (codes "b") 29)) v)
    ∷ instr.br i ∷ instr.br j ∷ instr.end_ None ∷ instr.end_ None ∷ [])

abbrev pub nested : (a b c d : Address) → List ModuleField
nested a b c d = nested_with a b not_said not_said (by_id c (codes "a") 35) (by_id d (codes "b") 41)

-- One function without locals has two blocks, and the second starts inside the first.
abbrev pub NestedLabels : Type 0
NestedLabels = (a b c d : Address) →
    (first_unmet (demands (fields_with_implied_types (nested a b c d))) ≡ None)
    × (resolved_fields_from 5 (nested a b c d) ≡ nested_with a b (of_type 0) (in_place empty_type) (by_number 1 35) (by_number 0 41) ++ implied_types 5 (empty_signature ∷ []))
    × (body_counts (nested a b c d) ≡ 0 ∷ 1 ∷ 2 ∷ [])

-- `(module (func block $a block $a br $a end br $a end))`: a label is that of the innermost block that has it.
abbrev pub same_label_with : (a b : Address) → (u v : TypeUse FunctionType) → Index → Index → List ModuleField
same_label_with a b u v i j =
    body u
    (instr.block (labelled (Some (id_at a (codes "a") 20)) v) ∷ instr.block (labelled (Some (id_at b (codes "a") 29)) v)
    ∷ instr.br i ∷ instr.end_ None ∷ instr.br j ∷ instr.end_ None ∷ [])

abbrev pub same_label : (a b c d : Address) → List ModuleField
same_label a b c d = same_label_with a b not_said not_said (by_id c (codes "a") 35) (by_id d (codes "a") 45)

abbrev pub InnermostOfTwo : Type 0
InnermostOfTwo = (a b c d : Address) →
    (first_unmet (demands (fields_with_implied_types (same_label a b c d))) ≡ None)
    × (resolved_fields_from 5 (same_label a b c d) ≡ same_label_with a b (of_type 0) (in_place empty_type) (by_number 0 35) (by_number 0 45) ++ implied_types 5 (empty_signature ∷ []))

-- `(module (tag $e) (func block $h try_table (catch $e $h) end end))`: a catch clause is outside its block.
abbrev pub catching_with : (a b : Address) → (u v : TypeUse FunctionType) → Index → Index → List ModuleField
catching_with a b u v e label =
    field.Tag (record { span = place 9; id = Some (id_at a (codes "e") 13); name = None; exports = record { names = [] }; ty = tag.Exception u; kind = tag_kind.Inline })
    ∷ func_of 17 u []
    (instr.block (labelled (Some (id_at b (codes "h") 29)) v)
    ∷ instr.try_table (record { block = labelled None v; catches = record { kind = caught.Catch e; label = label } ∷ [] })
    ∷ instr.end_ None ∷ instr.end_ None ∷ [])
    ∷ []

abbrev pub catching : (a b c d : Address) → List ModuleField
catching a b c d = catching_with a b not_said not_said (by_id c (codes "e") 49) (by_id d (codes "h") 52)

abbrev pub CaughtOutside : Type 0
CaughtOutside = (a b c d : Address) →
    (first_unmet (demands (fields_with_implied_types (catching a b c d))) ≡ None)
    × (resolved_fields_from 5 (catching a b c d) ≡ catching_with a b (of_type 0) (in_place empty_type) (by_number 0 49) (by_number 0 52) ++ implied_types 5 (empty_signature ∷ []))

-- `(module (func try_table $h (catch_all $h) end))`: so the block's own label is unknown in it.
abbrev pub CaughtInItself : Type 0
CaughtInItself = (a b : Address) →
    first_unmet (demands (fields_with_implied_types (body not_said
    (instr.try_table (record { block = labelled (Some (id_at a (codes "h") 24)) not_said; catches = record { kind = caught.CatchAll; label = by_id b (codes "h") 38 } ∷ [] })
    ∷ instr.end_ None ∷ []))))
    ≡ Some (Unknown (codes "label") (codes "h"), place 38)

-- `(module (func try $a try delegate $a end))`: the label of `delegate` is looked up after the block has ended.
abbrev pub delegating_with : Address → (u v : TypeUse FunctionType) → Index → List ModuleField
delegating_with a u v label =
    body u (instr.try_ (labelled (Some (id_at a (codes "a") 18)) v) ∷ instr.try_ (labelled None v) ∷ instr.delegate label ∷ instr.end_ None ∷ [])

abbrev pub delegating : (a b : Address) → List ModuleField
delegating a b = delegating_with a not_said not_said (by_id b (codes "a") 34)

abbrev pub DelegatedOutside : Type 0
DelegatedOutside = (a b : Address) →
    (first_unmet (demands (fields_with_implied_types (delegating a b))) ≡ None)
    × (resolved_fields_from 5 (delegating a b) ≡ delegating_with a (of_type 0) (in_place empty_type) (by_number 0 34) ++ implied_types 5 (empty_signature ∷ []))

-- `(module (func try $a delegate $a))`: so the block's own label is unknown in it.
abbrev pub DelegatedToItself : Type 0
DelegatedToItself = (a b : Address) →
    first_unmet (demands (fields_with_implied_types (body not_said (instr.try_ (labelled (Some (id_at a (codes "a") 18)) not_said) ∷ instr.delegate (by_id b (codes "a") 30) ∷ []))))
    ≡ Some (Unknown (codes "label") (codes "a"), place 30)

-- `(module (func block $l end $m))`: the label at the `end` is not that of its block. In `(module (func end $m))` it is
-- not checked, because there is no enclosing block.
abbrev pub LabelsAtEnds : Type 0
LabelsAtEnds = (a b : Address) →
    (first_unmet (demands (fields_with_implied_types (body not_said (instr.block (labelled (Some (id_at a (codes "l") 20)) not_said) ∷ instr.end_ (Some (id_at b (codes "m") 27)) ∷ []))))
    ≡ Some (Labels, place 27))
    × (first_unmet (demands (fields_with_implied_types (body not_said (instr.end_ (Some (id_at b (codes "m") 18)) ∷ [])))) ≡ None)

-- `(module (func block (result i32 i32) unreachable end drop drop))`: a block with two results needs a type, which
-- comes after that of its function. Then it has no inline type.
abbrev pub two_results : FunctionType
two_results = function_type [] (value.I32 ∷ value.I32 ∷ [])

abbrev pub block_of_two : (u v : TypeUse FunctionType) → List ModuleField
block_of_two u v =
    body u
    (instr.block (labelled None v) ∷ instr.Plain (plain.Bare bare.unreachable) ∷ instr.end_ None ∷ instr.Plain (plain.Bare bare.drop) ∷ instr.Plain (plain.Bare bare.drop) ∷ [])

abbrev pub BlockOfTwo : Type 0
BlockOfTwo =
    (first_unmet (demands (fields_with_implied_types (block_of_two not_said (in_place two_results)))) ≡ None)
    × (resolved_fields_from 5 (block_of_two not_said (in_place two_results))
    ≡ block_of_two (of_type 0) (of_type 1) ++ implied_types 5 (empty_signature ∷ ([], value.I32 ∷ value.I32 ∷ []) ∷ []))

-- `(module (type (func (param i32))) (func (type 0) (local $l i32) local.get $l))`: the unnamed parameter is number 0.
abbrev pub behind_with : Address → Option Id → Index → List ModuleField
behind_with a id x =
    type_at id 8 (function_type (value.I32 ∷ []) [])
    ∷ func_of 34 (record { index = Some (by_number 0 46); inline = None }) (record { id = Some (id_at a (codes "l") 56); name = None; ty = value.I32 } ∷ []) (instr.local_get x ∷ [])
    ∷ []

abbrev pub BehindNameless : Type 0
BehindNameless = (a b : Address) →
    (first_unmet (demands (fields_with_implied_types (behind_with a None (by_id b (codes "l") 74)))) ≡ None)
    × (resolved_fields_from 5 (behind_with a None (by_id b (codes "l") 74)) ≡ behind_with a (Some (gensym_id 5 (place 9))) (by_number 1 74))
    × (body_counts (behind_with a None (by_id b (codes "l") 74)) ≡ 2 ∷ [])
    × (first_unmet (demands (fields_with_implied_types (behind_with a None (by_id b (codes "m") 74)))) ≡ Some (Unknown (codes "local") (codes "m"), place 74))
