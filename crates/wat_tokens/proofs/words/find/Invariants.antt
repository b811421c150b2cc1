-- The word is found among the words that are left, if it is found at all.
use Rattle.std.proofs.Common.{◌≡◌, ◌-◌}
use Rattle.wat_tokens.specs.Buckets.{rows}
use Rattle.wat_tokens.specs.Words.{found_in}
use Rattle.wat_tokens.proofs.words.find.Given as goal

abbrev pub invariant-loop-word : goal.invariant-loop-word
invariant-loop-word l = found_in l.name (rows l.first (l.end - l.first)) ≡ found_in l.name (rows l.word (l.end - l.word))
