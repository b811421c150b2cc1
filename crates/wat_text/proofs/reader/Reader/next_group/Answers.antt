-- The goal of `next_group` that tactics leave open, closed by a lemma of Groups.
use Rattle.std.proofs.Common.{◌-◌, refl, arith, rules}
use Rattle.wat_text.specs.Readers.{left}
use Rattle.wat_text.proofs.Groups.{regrouped}
use Rattle.wat_text.proofs.reader.Reader.next_group.Goals as goal

pub returns-in-Some-clause-left : goal.returns-in-Some-clause-left
unfolding left
returns-in-Some-clause-left c =
    let r = c.args.self.now in
    regrouped r.tokens.items r.count r.later.items c.pop_front.new.self.items c.in-Some.group c.truncate.new.self.items r.at
    (r.at - c.len-read.result) c.len-read.result c.saturating_sub-rest.result r.end
    c.in-Some.ensures.items c.truncate.ensures.items (search rules) (omega (arith, c.if-self-read.false)) refl c.saturating_sub-rest.ensures
