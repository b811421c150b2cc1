-- The goal of `skip` that tactics leave open, closed by a lemma of Groups.
use Rattle.std.proofs.Common.{rules}
use Rattle.wat_syntax.specs.Tokens.{after}
use Rattle.wat_text.specs.Readers.{left}
use Rattle.wat_text.proofs.Groups.{skipped_here}
use Rattle.wat_text.proofs.reader.Reader.skip.Goals as goal

-- `search` does not see that one more token is skipped
pub returns-then-self-len-clause-left : goal.returns-then-self-len-clause-left
unfolding left after
returns-then-self-len-clause-left c =
    skipped_here c.args.self.now.at c.args.self.now.tokens.items c.args.self.now.count c.args.self.now.later.items c.args.self.now.end (search rules)
