-- Closes the arm in which all bits are dropped.
use Rattle.wat_tokens.proofs.Rounded.{halved_away}
use Rattle.wat_tokens.proofs.floats.halved.Goals as goal

pub returns-then-count-gt63 : goal.returns-then-count-gt63
returns-then-count-gt63 c = halved_away c.args.number c.args.count c.args.is_more c.requires c.if-count-gt63.true
