-- The first rule of well-formedness that fails in a list of fields, and the closest position known.
--
-- The position is that of the last index or id before the mistake in its field, or else of the field, because the AST has
-- positions only for these.
--
--   (func i32.load)     with the alignment 3: rule 1, at the position of the memory's index
use Rattle.std.specs.Prelude.{List, [], ◌∷◌, ◌++◌, map, flat_map, Option}
use Rattle.wast_base.specs.Ids.{span_of_index}
use Rattle.wast_tree_visit.specs.Tree.{Span, ModuleField}
use Rattle.wast_tree_visit.specs.declared.first_failing.IllFormed.{IllFormed}
use Rattle.wast_tree_nodes.specs.Items.{items}
use Rattle.wast_tree_nodes.specs.Profiles.{profile_of}
use Rattle.wast_tree_nodes.specs.Sites.{Check, ItemIndex, InnerIndex, PlainId, Clause, Covered, checks_of, in_field}
use Rattle.wast_tree_nodes.specs.Known.{IdContext, id_context}
use Rattle.wast_tree_nodes.specs.Uncovered.{head_of}
use Rattle.wast_tree_nodes.specs.WellFormed.{failing_clauses_at}

-- the position of a check; if it has none, that of the check before it
abbrev pub place_or_last : Span → Check → Span
place_or_last before (ItemIndex s i) = span_of_index i
place_or_last before (InnerIndex i) = span_of_index i
place_or_last before (PlainId m) = m.1
place_or_last before (Clause n holds) = before
place_or_last before (Covered f holds) = before

-- the rule that a check at a position breaks, if any
abbrev pub failing_at : IdContext → Span → Check → List IllFormed
failing_at k place a = map (λ n. record { clause = n; span = place }) (failing_clauses_at k a)

-- the results for checks after a position, each with the closest position known
abbrev pub found_from : {F : Type 0} → (Span → Check → List F) → Span → List Check → List F
found_from found_at before [] = []
found_from found_at before (a ∷ asks) = let here = place_or_last before a in found_at here a ++ found_from found_at here asks

-- the rules that checks after a position break
abbrev pub failing_from : IdContext → Span → List Check → List IllFormed
failing_from k before asks = found_from (failing_at k) before asks

-- the position of a field
abbrev pub field_place : ModuleField → Span
field_place f = (profile_of f).span

-- the rules that a field breaks, with this identifier context
abbrev pub failing_in : IdContext → ModuleField → List IllFormed
failing_in k f = failing_from k (field_place f) (checks_of (in_field f))

-- the first rule that the fields break
abbrev pub first_ill_formed : List ModuleField → Option IllFormed
first_ill_formed fields = head_of (flat_map (failing_in (id_context (items fields))) fields)
