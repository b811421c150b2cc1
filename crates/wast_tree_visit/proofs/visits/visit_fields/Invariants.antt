use Rattle.std.proofs.Common.{flat_map, take}
use Rattle.wast_tree_nodes.specs.Sites.{in_field, checks_of}
use Rattle.wast_tree_visit.specs.Visits.{Visits}
use Rattle.wast_tree_visit.proofs.visits.visit_fields.Given as goal

abbrev pub invariant-loop-field : goal.invariant-loop-field
invariant-loop-field g l = Visits g.V.Visitor.told l.fn.visitor (flat_map (λ f. checks_of (in_field f)) (take l.field-index l.fields)) l.visitor
