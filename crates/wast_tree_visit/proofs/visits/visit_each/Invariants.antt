use Rattle.std.proofs.Common.{flat_map, take}
use Rattle.wast_tree_visit.specs.Visits.{Visits}
use Rattle.wast_tree_visit.proofs.visits.visit_each.Given as goal

abbrev pub invariant-loop-part : goal.invariant-loop-part
invariant-loop-part g l = Visits g.V.Visitor.told l.fn.visitor (flat_map (g.T.Visit.asks) (take l.part-index l.parts)) l.visitor
