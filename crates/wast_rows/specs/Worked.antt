-- Lines of example modules that are not encoded, as the prover computes them. They hold for texts at any addresses.
use Rattle.std.specs.Prelude.{◌≡◌, ◌↔◌, ℕ, false, List, [], ◌∷◌, Some, None, Ok, codes}
use Rattle.wast_base.specs.declared.ids.Index.TheVariants as index
use Rattle.wast_base.specs.Ids.{gensym_id}
use Rattle.wast_tree_nodes.specs.declared.fields.MemoryKind.TheVariants as memory
use Rattle.wast_tree_nodes.specs.declared.fields.ModuleField.{ModuleField}
use Rattle.wast_tree_nodes.specs.declared.fields.ModuleField.TheVariants as field
use Rattle.wast_tree_nodes.specs.WorkedModules.{Address, place, plain_type, export_field}
use Rattle.wast_core.specs.declared.module.Module.{Module}
use Rattle.wast_core.specs.declared.module.ModuleKind.TheVariants as kind
use Rattle.wast_rows.specs.Answers.{TellsRow}

-- The module of these fields, without id and name.
abbrev pub of_fields : List ModuleField → Module
of_fields fields = record { span = place 1; id = None; name = None; kind = kind.Text fields }

-- This is the line of that module, and no other is.
abbrev pub HasLine : List ModuleField → List ℕ → Type 0
HasLine fields text = (line : List ℕ) → TellsRow (Some (Ok (of_fields fields))) line ↔ (line ≡ text)

-- `(export "a" (func ..))` with a generated id.
abbrev pub export_of_generated : Address → ModuleField
export_of_generated a = export_field a 8 (index.Id (gensym_id 1 (place 26)))

-- `(memory (data))` with pages of 2^64 bytes.
abbrev pub endless_pages : ModuleField
endless_pages = field.Memory (record { span = place 1; id = None; name = None; exports = record { names = [] }; kind = memory.Inline false [] (Some 64) })

-- `(type .. (func))` with a generated id.
abbrev pub generated_type : ModuleField
generated_type = field.Ty (plain_type (Some (gensym_id 1 (place 14))) 8)

-- The generated id names no item (rule 6). Of two broken rules the smaller number is in the line (rule 3). A
-- well-formed module may have a generated id.
abbrev pub LinesOfIllFormed : Type 0
LinesOfIllFormed = (a : Address) →
    HasLine (export_of_generated a ∷ []) (codes "ill formed: 6")
    × HasLine (export_of_generated a ∷ endless_pages ∷ []) (codes "ill formed: 3")
    × HasLine (generated_type ∷ []) (codes "ill formed")
