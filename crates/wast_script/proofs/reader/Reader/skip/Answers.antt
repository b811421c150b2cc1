-- The goal of `skip` that tactics leave open, closed by a lemma of Lefts.
use Rattle.std.proofs.Common.{refl, rules}
use Rattle.wat_syntax.specs.Tokens.{after}
use Rattle.wast_script.specs.Readers.{left}
use Rattle.wat_text.proofs.Lefts.{skipped}
use Rattle.wast_script.proofs.reader.Reader.skip.Goals as goal

-- `search` does not see that one more token is skipped
pub returns-then-self-len : goal.returns-then-self-len
unfolding left after
returns-then-self-len c = record {
  lists = refl;
  tokens = refl;
  fault = refl;
  left = skipped c.args.self.now.at c.args.self.now.tokens.items c.args.self.now.end (search rules);
}
