-- Which modules of a text are well formed.
--
--   (module binary "x")      well formed, because the bytes of a binary module are not checked, as in wast_core
use Rattle.std.specs.Prelude.{Bool, true}
use Rattle.wast_tree_nodes.specs.WellFormed.{is_well_formed}
use Rattle.wat_text.specs.declared.modules.TextKind.{TextKind}
use Rattle.wat_text.specs.declared.modules.TextKind.TheVariants as kind

-- Whether the fields of a module are well formed.
abbrev pub is_well_formed_text : TextKind → Bool
is_well_formed_text (kind.Fields fields) = is_well_formed fields
is_well_formed_text (kind.Binary pieces) = true
