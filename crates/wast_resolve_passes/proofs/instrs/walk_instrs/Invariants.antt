use Rattle.wast_tree_nodes.specs.Sites.{Locals}
use Rattle.wast_resolve_passes.specs.Locals.{Numbers}
use Rattle.wast_resolve_passes.specs.Standing.{context_of}
use Rattle.wast_resolve_rules.specs.Resolved.{numbering_change}
use Rattle.wast_resolve_names.specs.Resolvers.{scope_of}
use Rattle.wast_resolve_passes.proofs.Stepping.{IsAlong, IsPartway}
use Rattle.wast_resolve_passes.proofs.instrs.walk_instrs.Given as goal

abbrev pub invariant-loop-i : goal.invariant-loop-i
invariant-loop-i l =
    IsAlong l.fn.labels l.labels l.fn.instrs l.instrs l.i
    × ((ls : Locals) → Numbers (scope_of l.names) ls l.locals
    → IsPartway (scope_of l.names) (numbering_change (scope_of l.names)) (context_of ls l.fn.labels) l.fn.instrs l.instrs l.i)
