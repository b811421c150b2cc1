-- Closes the look-up in the array of words, by its definition.
use Rattle.std.proofs.Common.{refl}
use Rattle.wat_tokens.specs.Buckets.{word_at}
use Rattle.wat_tokens.proofs.words.word_at.Goals as goal

pub returns : goal.returns
unfolding word_at
returns c = refl
