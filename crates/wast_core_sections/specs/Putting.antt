-- Which kinds of fields can have an entry in a section (binary format: modules).
--
--   type section     types and recursion groups          function and code section     functions
use Rattle.std.specs.Prelude.{Bool, ◌||◌}
use Rattle.wasm_out.specs.Parts.{SectionKind, Types, Imports, Functions, Tables, Memories, Tags, Globals, Exports, Elements, Code, Data}
use Rattle.wast_tree_nodes.specs.Kinds.{is_of}
use Rattle.wast_tree_nodes.specs.declared.kinds.FieldKind.TheVariants as kind
use Rattle.wast_core_sections.specs.Tree.{ModuleField}

-- Whether a field can have an entry in the section of a kind.
abbrev pub can_contribute : SectionKind → ModuleField → Bool
can_contribute Types f = is_of kind.Ty f || is_of kind.Rec f
can_contribute Imports f = is_of kind.Import f
can_contribute Functions f = is_of kind.Func f
can_contribute Tables f = is_of kind.Table f
can_contribute Memories f = is_of kind.Memory f
can_contribute Tags f = is_of kind.Tag f
can_contribute Globals f = is_of kind.Global f
can_contribute Exports f = is_of kind.Export f
can_contribute Elements f = is_of kind.Elem f
can_contribute Code f = is_of kind.Func f
can_contribute Data f = is_of kind.Data f
