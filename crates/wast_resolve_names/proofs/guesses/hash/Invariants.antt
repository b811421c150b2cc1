use Rattle.std.proofs.Common.{length}
use Rattle.wast_resolve_names.proofs.guesses.hash.Given as goal

abbrev pub decreases-words : goal.decreases-words
decreases-words l = length l.rest
