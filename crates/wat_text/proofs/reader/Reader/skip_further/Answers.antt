-- The goals of `skip_further` that tactics leave open, closed by lemmas of Lefts.
use Rattle.std.proofs.Common.{◌∙◌, arith}
use Rattle.wat_syntax.specs.Tokens.{after}
use Rattle.wat_text.specs.Readers.{left, grouped}
use Rattle.wat_text.proofs.Lefts.{skipped, none_skipped}
use Rattle.wat_text.proofs.reader.Reader.skip_further.Goals as goal

pub returns-then-self-all-clause-left : goal.returns-then-self-all-clause-left
unfolding left after
returns-then-self-all-clause-left c =
    let r = c.args.self.now in
    c.next_group.ensures.left ∙ skipped r.at (grouped r.tokens.items r.count r.later.items) r.end (omega (arith, c.if-self-all.true, c.all.ensures))

pub returns-else-self-all-clause-left : goal.returns-else-self-all-clause-left
unfolding left after
returns-else-self-all-clause-left c =
    let r = c.args.self.now in
    none_skipped r.at (grouped r.tokens.items r.count r.later.items) r.end (omega (arith, c.if-self-all.false, c.all.ensures))
