-- Where the branch hints of a module point in its bytes: at their instructions (branch hinting).
--
--   (func (local i32) i32.const 0 (@metadata.code.branch_hint "\00") if end)
--                                  offset 5: after the size come 01 01 7f (locals) and 41 00 (`i32.const 0`), and then 04 (`if`)
use Rattle.std.specs.Prelude.{◌≡◌, ℕ, List, [], ◌∷◌, ◌++◌, length, slice_get, Option, Some, Contains}
use Rattle.std.specs.List.{flat_map}
use Rattle.wasm_ops.specs.Leb128.{unsigned}
use Rattle.wasm_ops.specs.Spelling.{vec}
use Rattle.wasm_ops.specs.Table.{Instr, instr}
use Rattle.wasm_out.specs.Bodies.{Body, body_content}
use Rattle.wasm_out.specs.Parts.{Code, section_id, body, part}
use Rattle.wasm_out.specs.Reads.{header, Reads}
use Rattle.wast_core_conv.specs.Hints.{hints_of, as_hinted, as_branch_hint}
use Rattle.wast_core_sections.specs.Tree.{BranchHint, Func, ModuleField}
use Rattle.wast_core_sections.specs.Tree.field
use Rattle.wast_core_sections.specs.Hints.{functions_in, hinted_functions}
use Rattle.wast_core_sections.specs.Sections.{as_body, entries, in_slot, parts}
use Rattle.wast_core_sections.specs.Slots.{order}
use Rattle.wast_core_sections.specs.declared.slots.SectionKind.TheVariants as kind
use Rattle.wast_core_sections.specs.declared.slots.Slot.{Slot}
use Rattle.wast_core_sections.specs.declared.slots.Slot.TheVariants as slot

-- After the first bytes, and so many bytes further, an instruction is encoded.
pub record IsSpelledAt (bytes front : List ℕ) (offset : ℕ) (i : Instr) : Type 0 where
  pub between : List ℕ
  pub behind : List ℕ
  pub counted : length between ≡ offset
  pub spelled : bytes ≡ front ++ (between ++ ((instr i).bytes ++ behind))

-- The positions before the code section.
abbrev pub until_code : List Slot → List Slot
until_code [] = []
until_code (slot.Section kind.Code ∷ ss) = []
until_code (s ∷ ss) = s ∷ until_code ss

-- A code section with these bodies, up to the end of the size of one: its id, its length, the number of bodies, the
-- bodies before that one, and the size.
abbrev pub up_to_size : List Body → List Body → Body → List ℕ
up_to_size all before b = section_id Code ∷ (unsigned (length (vec body all)) ++ (unsigned (length all) ++ (flat_map body before ++ unsigned (length (body_content b).bytes))))

-- The bytes of a module up to the end of the size of a function body. The function comes after these fields.
abbrev pub up_to_body : Option (List ℕ) → List ModuleField → List ModuleField → Func → List ℕ
up_to_body name fields before f =
    header ++ (flat_map part (flat_map (in_slot name fields) (until_code order)) ++ up_to_size (entries Code fields) (entries Code before) (as_body f.kind))

-- If bytes are read as the parts of fields, each function with a hint is in the section of hints by its index. Its
-- instruction is encoded at the offset of the hint, counted from the first byte after the size of the body.
abbrev pub HintsPointAtInstructions : Type 0
HintsPointAtInstructions = (bytes : List ℕ) (name : Option (List ℕ)) (before behind : List ModuleField) (f : Func) (h : BranchHint) (i : Instr)
    → let fields = before ++ field.Func f ∷ behind in
    Reads bytes (parts name fields) → Contains (hints_of f.kind) h → slice_get (as_body f.kind).instrs h.instr_index ≡ Some i
    → Contains (hinted_functions fields) (length (flat_map functions_in before), as_hinted f.kind)
    × IsSpelledAt bytes (up_to_body name fields before f) (as_branch_hint (as_body f.kind) h).branch_func_offset i
