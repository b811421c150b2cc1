use Rattle.wast_core_ranges.proofs.Found.{found_for}
use Rattle.wast_core_ranges.proofs.finding.FieldRanges.of_kind.Goals as goal

pub returns : goal.returns
returns c fields h = rw c.rank.ensures.same (found_for fields c.args.self.now c.args.kind h)
