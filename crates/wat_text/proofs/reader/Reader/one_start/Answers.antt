-- The goal of `one_start` that tactics leave open, closed by a lemma of Starts.
use Rattle.std.proofs.Common.{false, refl}
use Rattle.wat_tokens.specs.declared.faults.TextFault.TheVariants as fault
use Rattle.wat_text.proofs.Starts.{one_fails}
use Rattle.wat_text.proofs.reader.Reader.one_start.Goals as goal

pub returns-in-Some-clause-checks : goal.returns-in-Some-clause-checks
returns-in-Some-clause-checks c =
    one_fails false c.args.fields.now fault.Starts c.in-Some.span c.args.self.now c.fail_at.new.self c.in-Some.ensures.one refl c.fail_at.ensures
