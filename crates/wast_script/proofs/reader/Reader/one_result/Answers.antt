-- The goal of `one_result` that tactics leave open, closed by a lemma of Alternatives.
use Rattle.std.proofs.Common.{subst}
use Rattle.wast_script.specs.Constants.{either_form}
use Rattle.wast_script.specs.Readers.{Accepts}
use Rattle.wast_script.proofs.Alternatives.{either_result}
use Rattle.wast_script.proofs.reader.Reader.one_result.Goals as goal

pub returns-in-true : goal.returns-in-true
returns-in-true c =
    either_result c.args.self.now c.accept_either.new.self c.either.new.self
    (subst (λ x. Accepts either_form c.args.self.now c.accept_either.new.self x) c.in-true.is c.accept_either.ensures)
    c.either.ensures
