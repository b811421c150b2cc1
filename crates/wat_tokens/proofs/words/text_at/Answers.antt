-- Closes the text of a word: each text begins where the one before it ends, and the last one ends where all do.
use Rattle.std.proofs.Common.{◌+◌, length, ap, arith, rules}
use Rattle.wat_tokens.specs.Buckets.{text_of}
use Rattle.wat_tokens.proofs.Buckets.{starts_rise, starts_end}
use Rattle.wat_tokens.proofs.words.text_at.Goals as goal

pub slice_bounds-result-count : goal.slice_bounds-result-count
slice_bounds-result-count c = omega (arith, c.start_at.ensures, c.start_at-2.ensures, starts_rise c.args.word c.requires)

pub slice_bounds-result-start : goal.slice_bounds-result-start
slice_bounds-result-start c = omega (arith, c.start_at.ensures, c.start_at-2.ensures, starts_rise c.args.word c.requires)

pub slice_bounds-result-end : goal.slice_bounds-result-end
slice_bounds-result-end c = omega (arith, c.start_at-2.ensures, starts_end (c.args.word + 1) (omega (arith, c.requires)), ap length c.as_bytes.ensures.value)

pub returns : goal.returns
unfolding text_of
returns c = search rules
