-- Closes the look-up in the array of buckets, by its definition.
use Rattle.std.proofs.Common.{refl}
use Rattle.wat_tokens.specs.Buckets.{first_word_of}
use Rattle.wat_tokens.proofs.words.first_at.Goals as goal

pub returns : goal.returns
unfolding first_word_of
returns c = refl
