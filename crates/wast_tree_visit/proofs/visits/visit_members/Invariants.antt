use Rattle.std.proofs.Common.{flat_map, take}
use Rattle.wast_tree_nodes.specs.Items.{items_of_type}
use Rattle.wast_tree_visit.specs.Visits.{Visits}
use Rattle.wast_tree_visit.proofs.visits.visit_members.Given as goal

abbrev pub invariant-loop-ty : goal.invariant-loop-ty
invariant-loop-ty g l = Visits g.V.ItemVisitor.told l.fn.visitor (flat_map items_of_type (take l.ty-index l.types)) l.visitor
