-- The branch hints of a module: those of each function that has some, after its index (branch hinting).
--
-- Imported functions count in the index. If no function has hints, there is no section.
--
--   (import "" "" (func)) (func .. (@metadata.code.branch_hint "\01") if ..)     one function with hints, of index 1
use Rattle.std.specs.Prelude.{ℕ, ◌==◌, Bool, not, List, [], ◌∷◌, length, map, Option, Some, None, if◌then◌else◌}
use Rattle.std.specs.List.{flat_map}
use Rattle.wast_base.specs.Spaces.{same_space}
use Rattle.wasm_ops.specs.Spelling.{InRangeU32, InRangeVec}
use Rattle.wasm_out.specs.Hints.{hints_name, function_hints, hints}
use Rattle.wasm_out.specs.Parts.{Custom, Part}
use Rattle.wasm_out.specs.declared.hints.BranchHint.{BranchHint}
use Rattle.wast_core_conv.specs.Hints.{HintedBody, hints_of, as_hinted, as_hints, InRangeBodyHints}
use Rattle.wast_core_name_section.specs.GivenNames.{named_from}
use Rattle.wast_tree_nodes.specs.Imports.{item_sigs}
use Rattle.wast_tree_nodes.specs.Items.{space_of_kind}
use Rattle.wast_core_sections.specs.Tree.{FuncKind, ItemSig, ModuleField}
use Rattle.wast_core_sections.specs.Tree.space
use Rattle.wast_core_sections.specs.Tree.field

-- whether a function has hints
abbrev pub has_hints : FuncKind → Bool
has_hints k = not (length (hints_of k) == 0)

-- a function, where it has hints
abbrev pub if_hinted : FuncKind → Option HintedBody
if_hinted k = if has_hints k then Some (as_hinted k) else None

-- an imported function, which has none
abbrev pub imported_func : ItemSig → List (Option HintedBody)
imported_func sig = if same_space space.Func (space_of_kind sig.kind) then None ∷ [] else []

-- the functions of a field, those without hints too
abbrev pub functions_in : ModuleField → List (Option HintedBody)
functions_in (field.Import i) = flat_map imported_func (item_sigs i.items)
functions_in (field.Func f) = if_hinted f.kind ∷ []
functions_in x = []

-- the functions of a module that have hints, each with its index: the number of functions before it
abbrev pub hinted_functions : List ModuleField → List (ℕ × HintedBody)
hinted_functions fields = named_from 0 (flat_map functions_in fields)

-- one of them, with its hints by where their instructions begin
abbrev pub as_function_hints : ℕ × HintedBody → ℕ × List BranchHint
as_function_hints f = (f.0, as_hints f.1)

-- its bytes
abbrev pub hinted_function : ℕ × HintedBody → List ℕ
hinted_function f = (function_hints (as_function_hints f)).bytes

-- the section, left out where no function has hints
abbrev pub hints_part : List (ℕ × HintedBody) → List Part
hints_part [] = []
hints_part (f ∷ fs) = record { kind = Custom; items = record { name = hints_name; bytes = (hints (map as_function_hints (f ∷ fs))).bytes } } ∷ []

-- Numbers, counts and lengths are in range: those of the hints of a function, and of what stands before them in its body,
abbrev pub InRangeHinted : ℕ × HintedBody → Type 0
InRangeHinted f = InRangeU32 f.0 × InRangeBodyHints f.1

-- and of those of all functions
abbrev pub InRangeHints : List (ℕ × HintedBody) → Type 0
InRangeHints functions = InRangeVec InRangeHinted functions
