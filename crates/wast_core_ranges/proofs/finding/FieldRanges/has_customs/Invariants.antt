use Rattle.std.proofs.Common.{◌≡◌, ℕ, ◌<◌, ◌≤◌, get_or}
use Rattle.wast_core_ranges.proofs.finding.FieldRanges.has_customs.Given as goal

abbrev pub invariant-loop-rank : goal.invariant-loop-rank
invariant-loop-rank l = (k : ℕ) → 12 ≤ k → k < l.rank → (get_or l.self.by_rank k (record { first = 0; end = 0 })).end ≡ 0
