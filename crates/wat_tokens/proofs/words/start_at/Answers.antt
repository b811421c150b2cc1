-- Closes the look-up in the array of texts, by its definition.
use Rattle.std.proofs.Common.{refl}
use Rattle.wat_tokens.specs.Buckets.{start_of}
use Rattle.wat_tokens.proofs.words.start_at.Goals as goal

pub returns : goal.returns
unfolding start_of
returns c = refl
