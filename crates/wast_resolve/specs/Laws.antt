-- Which ids names know after resolving (text format: indices).
--
-- For example, if an item of the fields has the generated id [3], the names know [3] after resolving.
use Rattle.std.specs.Prelude.{ℕ, List}
use Rattle.wast_tree_nodes.specs.Items.{items}
use Rattle.wast_tree_nodes.specs.Known.{id_context}
use Rattle.wast_resolve.specs.Tree.{Index, Space, ModuleField}
use Rattle.wast_resolve_rules.specs.Explicit.{explicit_fields_from}
use Rattle.wast_resolve_names.specs.LookUps.{IsSettledFor}

-- A generated id of an item of the fields is known to the names, from any counter.
abbrev pub SettledStays : Type 0
SettledStays = (n : ℕ) (fields : List ModuleField) (s : Space) (i : Index) → IsSettledFor (id_context (items fields)) s i → IsSettledFor (id_context (items (explicit_fields_from n fields))) s i
