-- Lists of fields without an unsupported construct.
--
--   (func memory.discard 0)      has one, so the list is not covered
use Rattle.std.specs.Prelude.{◌≡◌, List, None}
use Rattle.wast_core_sections.specs.Tree.{ModuleField}
pub use Rattle.wast_tree_nodes.specs.Uncovered.{uncovered_forms, head_of}

-- each form is covered
abbrev pub IsCovered : List ModuleField → Type 0
IsCovered fields = head_of (uncovered_forms fields) ≡ None
