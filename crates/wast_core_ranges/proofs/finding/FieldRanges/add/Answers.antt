use Rattle.std.proofs.Common.{arith}
use Rattle.wast_tree_nodes.specs.Kinds.{is_of}
use Rattle.wast_core_ranges.proofs.Found.{one_more}
use Rattle.wast_core_ranges.proofs.finding.FieldRanges.add.Goals as goal

pub returns : goal.returns
returns c k before long h =
    one_more c.args.self.now.by_rank c.rank_of-rank.result c.with.result k before c.args.field.now c.rank_of-rank.ensures.same (omega arith)
    (λ so. c.with.ensures (is_of k) before c.args.field.now long so) h
