-- The checks that need no resolving: the order of imports, and duplicate ids (text format: modules, identifiers).
--
--   (start $x) (func $a) (func $a)     E2 at the second $a
--   (start $x)                         nothing: $x is looked up only by resolving
use Rattle.std.specs.Prelude.{List, ◌++◌}
use Rattle.wast_tree_nodes.specs.Items.{items}
use Rattle.wast_resolve_rules.specs.Tree.{ModuleField}
use Rattle.wast_resolve_rules.specs.Demands.{Demand, order_demands, item_demands}

-- The order of imports (E1), then duplicate ids of items and of struct fields (E2, E3).
abbrev pub early_demands : List ModuleField → List Demand
early_demands fields = order_demands fields ++ item_demands (items fields)
