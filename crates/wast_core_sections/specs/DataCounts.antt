-- Whether a module has a data count section, and what is in it (binary format: data count section).
--
--   (data "x") (func data.drop 0)      has one, with the number 1: `data.drop` needs it
--   (data "x") (func)                  has none
use Rattle.std.specs.Prelude.{ℕ, Bool, true, false, not, ◌||◌, List, [], ◌∷◌}
use Rattle.std.specs.List.{list_any}
use Rattle.wasm_out.specs.Parts.{DataCount, Part}
use Rattle.wast_core_sections.specs.Tree.{Instruction, FuncKind, ModuleField}
use Rattle.wast_core_sections.specs.Tree.func
use Rattle.wast_core_sections.specs.Tree.field
use Rattle.wast_tree_nodes.specs.Instrs.{needs_data_count}

-- The instructions of a function body.
abbrev pub instrs_of : FuncKind → List Instruction
instrs_of (func.Import import exact) = []
instrs_of (func.Inline locals e) = e.instrs

-- The instructions of the body in a field, if the field is a function.
abbrev pub body_instrs : ModuleField → List Instruction
body_instrs (field.Func f) = instrs_of f.kind
body_instrs x = []

-- Whether an instruction of the body needs a data count.
abbrev pub body_needs_count : ModuleField → Bool
body_needs_count x = list_any needs_data_count (body_instrs x)

-- Whether a body of these fields needs a data count.
abbrev pub needs_count : List ModuleField → Bool
needs_count fields = list_any body_needs_count fields

-- If the fields have no index of a data segment (`has_data_index` is false), no body needs a data count.
abbrev pub may_be_counted : List ModuleField → Bool → Bool
may_be_counted fields has_data_index = has_data_index || not (needs_count fields)

-- The data count section with this number, if it is needed.
abbrev pub count_parts : Bool → ℕ → List Part
count_parts true n = record { kind = DataCount; items = n } ∷ []
count_parts false n = []
