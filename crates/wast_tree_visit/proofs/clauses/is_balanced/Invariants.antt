use Rattle.std.proofs.Common.{◌≡◌, ◌≤◌, drop}
use Rattle.wast_base.specs.Blocks.{is_balanced}
use Rattle.wast_tree_nodes.specs.Instrs.{block_effects}
use Rattle.wast_tree_visit.proofs.Balancing.{balanced_from}
use Rattle.wast_tree_visit.proofs.clauses.is_balanced.Given as goal

abbrev pub invariant-loop-instr : goal.invariant-loop-instr
invariant-loop-instr l = (balanced_from (block_effects (drop l.instr-index l.instrs)) l.open ≡ is_balanced (block_effects l.instrs)) × (l.open ≤ l.instr-index)
