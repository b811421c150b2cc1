-- Closes the look-up: the bucket of a name has the word that the table has.
use Rattle.std.proofs.Common.{◌∙◌, ◌≤◌, ◌+◌, sym, ap, subst, arith}
use Rattle.wat_tokens.specs.Words.{word_named}
use Rattle.wat_tokens.proofs.Buckets.{firsts_end, found_at}
use Rattle.wat_tokens.proofs.words.look_up.Goals as goal

pub find-requires : goal.find-requires
find-requires c = subst (λ n. n ≤ 724) (sym c.first_at-2.ensures) (firsts_end (c.hash-bucket.result + 1) (omega (arith, c.hash-bucket.ensures.small)))

pub returns : goal.returns
returns c =
    c.find.ensures
    ∙ found_at c.as_bytes-name.result.now c.hash-bucket.result c.first_at.result c.first_at-2.result
    c.hash-bucket.ensures.small c.hash-bucket.ensures.bucket c.first_at.ensures c.first_at-2.ensures
    ∙ ap word_named c.as_bytes-name.ensures.value
