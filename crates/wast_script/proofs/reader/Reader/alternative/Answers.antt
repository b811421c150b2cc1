-- The goals of `alternative` that tactics leave open, closed by lemmas of Alternatives.
use Rattle.std.proofs.Common.{◌+◌, ◌∙◌, refl, sym, subst, arith}
use Rattle.wast_script.specs.Constants.{either_form}
use Rattle.wast_script.specs.Readers.{Accepts}
use Rattle.wast_script.proofs.Alternatives.{closes_one, opens_one, reads_one}
use Rattle.wast_script.proofs.reader.Reader.alternative.Goals as goal

pub returns-then-is_close : goal.returns-then-is_close
returns-then-is_close c = closes_one c.args.depth c.saturating_sub.result c.args.self.now c.skip.new.self
    (sym c.is_close.ensures ∙ c.if-is_close.true) c.skip.ensures (omega arith)

pub returns-then-accept_either : goal.returns-then-accept_either
returns-then-accept_either c =
    opens_one c.args.depth (c.args.depth + 1) c.args.self.now c.accept_either.new.self (sym c.is_close.ensures ∙ c.if-is_close.false)
    (subst (λ x. Accepts either_form c.args.self.now c.accept_either.new.self x) c.if-accept_either.true c.accept_either.ensures) refl

pub returns : goal.returns
returns c =
    reads_one c.args.depth c.args.self.now c.accept_either.new.self c.one_value.new.self (sym c.is_close.ensures ∙ c.if-is_close.false)
    (subst (λ x. Accepts either_form c.args.self.now c.accept_either.new.self x) c.if-accept_either.false c.accept_either.ensures) c.one_value.ensures
