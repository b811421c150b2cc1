-- Which sections can be read back from their bytes.
--
-- Their numbers are in range, and their forms are supported. Besides, their instructions have entries in the opcode table,
-- their constant expressions are balanced, and their names are UTF-8. For these three a reader needs only the lists of
-- expressions, instructions and names of an item. For example an export has one name, and no instructions.
use Rattle.std.specs.Prelude.{ℕ, List, [], ◌∷◌, ◌++◌, length, All, IsTrue}
use Rattle.std.specs.Option.{option_to_list}
use Rattle.std.specs.Str.{is_utf8}
use Rattle.wasm_ops.specs.ConstExprs.{HasRowsExpression, IsBalancedExpression}
use Rattle.wasm_ops.specs.Spelling.{InRangeU32, InRangeVec, InRangeName}
use Rattle.wasm_ops.specs.Table.{Instr}
use Rattle.wasm_out.specs.Parts.{SectionKind, Imports, Tables, Globals, Exports, Code, Entry, item, InRangeEntry, PartKind, Custom, Start, Listed, PartItems, payload, Part, Elements, Data, DataCount}
use Rattle.wasm_out.specs.DataSegments.{data_expressions}
use Rattle.wasm_out.specs.ElementSegments.{place_expressions, item_expressions}

-- The constant expressions in an item.
abbrev pub expressions : (kind : SectionKind) → Entry kind → List (List Instr)
expressions Tables t = option_to_list t.init
expressions Globals g = g.init ∷ []
expressions Elements e = place_expressions e.mode ++ item_expressions e.items
expressions Data d = data_expressions d.mode
expressions kind e = []

-- The lists of instructions in an item: its constant expressions, or those of a body. A body ends at its length, so that
-- its blocks need not be balanced to read it.
abbrev pub instructions : (kind : SectionKind) → Entry kind → List (List Instr)
instructions Code b = b.instrs ∷ []
instructions kind e = expressions kind e

-- The names in an item (binary format: names).
abbrev pub names : (kind : SectionKind) → Entry kind → List (List ℕ)
names Imports i = i.«module» ∷ i.name ∷ []
names Exports e = e.name ∷ []
names kind e = []

-- An item can be read back, if its numbers are in range.
pub record IsReadable (kind : SectionKind) (e : Entry kind) : Type 0 where
  pub covered : IsTrue (item kind e).is_covered
  pub rows : All HasRowsExpression (instructions kind e)
  pub balanced : All IsBalancedExpression (expressions kind e)
  pub name : All (λ text. IsTrue (is_utf8 text)) (names kind e)

-- The content of a section can be read back, if its numbers are in range.
abbrev pub AreReadable : (kind : PartKind) → PartItems kind → Type 0
AreReadable Custom c = IsTrue (is_utf8 c.name)
AreReadable Start n = Unit {0}
AreReadable DataCount n = Unit {0}
AreReadable (Listed kind) items = All (IsReadable kind) items

-- A section can be read back, if its numbers are in range.
abbrev pub IsReadablePart : Part → Type 0
IsReadablePart p = AreReadable p.kind p.items

-- An item can be written, and read back but for its names.
pub record IsSpellable (kind : SectionKind) (e : Entry kind) : Type 0 where
  pub in_range : InRangeEntry kind e
  pub covered : IsTrue (item kind e).is_covered
  pub rows : All HasRowsExpression (instructions kind e)
  pub balanced : All IsBalancedExpression (expressions kind e)

-- The content of a section can be written, and read back but for its names.
abbrev pub AreSpellable : (kind : PartKind) → PartItems kind → Type 0
AreSpellable Custom c = InRangeName c.name
AreSpellable Start n = InRangeU32 n
AreSpellable DataCount n = InRangeU32 n
AreSpellable (Listed kind) items = InRangeVec (IsSpellable kind) items

-- A section can be written, and read back but for its names.
abbrev pub IsSpellablePart : Part → Type 0
IsSpellablePart p = InRangeU32 (length (payload p.kind p.items).bytes) × AreSpellable p.kind p.items
