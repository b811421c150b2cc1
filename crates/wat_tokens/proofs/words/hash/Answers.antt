-- Closes the bucket of a text, by its definition.
use Rattle.wat_tokens.specs.Buckets.{hash_of}
use Rattle.wat_tokens.proofs.words.hash.Goals as goal

pub returns-clause-bucket : goal.returns-clause-bucket
unfolding hash_of
returns-clause-bucket c = rw (c.letter-second.ensures.byte, c.letter-last.ensures.byte, c.letter-third.ensures.byte)
