-- The first unsupported form in a list of fields, and the closest position known (text format: modules).
--
-- The position is that of the last index or id before the form in its field, or else of the field, because the AST has
-- positions only for these.
--
--   (func $f suspend $e)     the form StackSwitching, at $e
use Rattle.std.specs.Prelude.{List, map, flat_map, Option}
use Rattle.wast_tree_visit.specs.Tree.{Span, ModuleField}
use Rattle.wast_tree_visit.specs.declared.uncovered_places.Uncovered.{Uncovered}
use Rattle.wast_tree_nodes.specs.Sites.{Check, checks_of, in_field}
use Rattle.wast_tree_nodes.specs.Uncovered.{uncovered_in, head_of}
use Rattle.wast_tree_visit.specs.IllFormed.{found_from, field_place}

-- the unsupported form of a check at a position, if it has one
abbrev pub uncovered_at : Span → Check → List Uncovered
uncovered_at place a = map (λ f. record { form = f; span = place }) (uncovered_in a)

-- the unsupported forms of a field, with their positions
abbrev pub uncovered_of : ModuleField → List Uncovered
uncovered_of f = found_from uncovered_at (field_place f) (checks_of (in_field f))

-- the first one in a list of fields
abbrev pub first_uncovered : List ModuleField → Option Uncovered
first_uncovered fields = head_of (flat_map uncovered_of fields)
