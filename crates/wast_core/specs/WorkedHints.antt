-- Example modules with branch hints, and what they mean, as the prover computes it. They hold for texts at any
-- addresses.
use Rattle.std.specs.Prelude.{ℕ, pos, List, [], ◌∷◌, ◌++◌, None, codes}
use Rattle.wast_tree_nodes.specs.WorkedModules.{Address, text, place, by_number}
use Rattle.wast_resolve_rules.specs.WorkedBodies.{not_said, in_place, labelled}
use Rattle.wast_core.specs.Tree.{FunctionType, TypeUse, Instruction, BranchHint, Local, ModuleField}
use Rattle.wast_core.specs.Tree.value
use Rattle.wast_core.specs.Tree.instr
use Rattle.wast_core.specs.Tree.import_items
use Rattle.wast_core.specs.Tree.kind
use Rattle.wast_core.specs.Tree.func
use Rattle.wast_core.specs.Tree.field
use Rattle.wast_core.specs.WorkedMeanings.{HasBytes, one_type, one_func}

-- `(func ..)` with a type use, locals, instructions and one hint.
abbrev pub hinted_func : TypeUse FunctionType → List Local → List Instruction → BranchHint → ModuleField
hinted_func u locals instrs h = field.Func (record { span = place 9; id = None; name = None; exports = record { names = [] }; kind = func.Inline locals (record { instrs = instrs; branch_hints = h ∷ [] }); ty = u })

-- `metadata.code.branch_hint` after its length.
abbrev pub section_name : List ℕ
section_name = 0x19 ∷ codes "metadata.code.branch_hint"

-- `(module (func (param i32) block local.get 0 (@metadata.code.branch_hint "\01") br_if 0 end))`: five bytes come
-- before the branch.
abbrev pub Row11 : Type 0
Row11 =
    let params = in_place (record { params = (None, None, value.I32) ∷ []; results = [] }) in
    let instrs = instr.block (labelled None not_said) ∷ instr.local_get (by_number 0 42) ∷ instr.br_if (by_number 0 85) ∷ instr.end_ None ∷ [] in
    HasBytes (hinted_func params [] instrs (record { instr_index = 2; value = 1 }) ∷ [])
    (0x01 ∷ 0x05 ∷ 0x01 ∷ 0x60 ∷ 0x01 ∷ 0x7f ∷ 0x00 ∷ (one_func ++ (0x00 ∷ 0x20 ∷ (section_name ++ 0x01 ∷ 0x00 ∷ 0x01 ∷ 0x05 ∷ 0x01 ∷ 0x01
    ∷ 0x0a ∷ 0x0b ∷ 0x01 ∷ 0x09 ∷ 0x00 ∷ 0x02 ∷ 0x40 ∷ 0x20 ∷ 0x00 ∷ 0x0d ∷ 0x00 ∷ 0x0b ∷ 0x0b ∷ []))))

-- `(module (import "" "" (func)) (func (local i32) i32.const 0 (@metadata.code.branch_hint "\00") if end))`: the
-- imported function is function 0, and the offset counts the locals.
abbrev pub Row54 : Type 0
Row54 = (a b : Address) →
    let imported = field.Import (record { span = place 9; items = import_items.Single (text a (codes "")) (text b (codes "")) (record { span = place 23; id = None; name = None; kind = kind.Func not_said }) }) in
    let instrs = instr.i32_const (pos 0) ∷ instr.if_ (labelled None not_said) ∷ instr.end_ None ∷ [] in
    HasBytes (imported ∷ hinted_func not_said (record { id = None; name = None; ty = value.I32 } ∷ []) instrs (record { instr_index = 1; value = 0 }) ∷ [])
    (one_type ++ (0x02 ∷ 0x05 ∷ 0x01 ∷ 0x00 ∷ 0x00 ∷ 0x00 ∷ 0x00 ∷ (one_func ++ (0x00 ∷ 0x20 ∷ (section_name ++ 0x01 ∷ 0x01 ∷ 0x01 ∷ 0x05 ∷ 0x01 ∷ 0x00
    ∷ 0x0a ∷ 0x0b ∷ 0x01 ∷ 0x09 ∷ 0x01 ∷ 0x01 ∷ 0x7f ∷ 0x41 ∷ 0x00 ∷ 0x04 ∷ 0x40 ∷ 0x0b ∷ 0x0b ∷ [])))))
