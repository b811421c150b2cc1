-- The goal of `double` that tactics leave open, closed by lemmas of Signs and Fills.
use Rattle.std.proofs.Common.{ℕ}
use Rattle.std.specs.Float.{binary64}
use Rattle.wat_grammar.specs.Floats.{fN}
use Rattle.wat_syntax.specs.Tree.{F64}
use Rattle.wat_syntax.specs.Values.{number}
use Rattle.wat_text.proofs.Signs.{fault_read}
use Rattle.wat_text.proofs.Fills.{made}
use Rattle.wat_text.proofs.reader.Reader.double.Goals as goal

pub returns-in-Err : goal.returns-in-Err
returns-in-Err c =
    let bits : ℕ → F64 = λ b. record { bits = b } in
    made (number (fN binary64)) bits c.args.self.now c.fail_at.new.self 0
    (fault_read (fN binary64) c.args.self.now c.number-text.new.self c.fail_at.new.self c.number-text.result 0 c.in-Err.fault _
    c.number-text.ensures c.fail_at.ensures c.in-Err.ensures.refuses)
