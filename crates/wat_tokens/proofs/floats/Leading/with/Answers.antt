-- Closes both arms: the lemmas say what the digit does to what is kept.
use Rattle.std.proofs.Common.{◌+◌, ◌*◌, refl}
use Rattle.wat_tokens.proofs.Kept.{keeps_taken, keeps_left}
use Rattle.wat_tokens.proofs.floats.Leading.with.Goals as goal

pub returns-then-self-lt576460752303423488-clause-keeps : goal.returns-then-self-lt576460752303423488-clause-keeps
returns-then-self-lt576460752303423488-clause-keeps c = λ n k. keeps_taken n c.args.digit c.args.self
    (record {
      mantissa = c.args.self.mantissa * 16 + c.args.digit;
      dropped = c.args.self.dropped;
      is_more = c.args.self.is_more;
      count = c.args.self.count + 1;
    })
    c.requires.digit c.if-self-lt576460752303423488.true refl refl refl k

pub returns-clause-keeps : goal.returns-clause-keeps
returns-clause-keeps c = λ n k. keeps_left n c.args.digit c.args.self
    (record { mantissa = c.args.self.mantissa; dropped = c.args.self.dropped + 1; is_more = c.is_left.result; count = c.args.self.count + 1 })
    c.requires.digit c.if-self-lt576460752303423488.false refl refl c.is_left.ensures k
