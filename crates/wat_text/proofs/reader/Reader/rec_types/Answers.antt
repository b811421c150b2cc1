-- The goal of `rec_types` that tactics leave open, closed by lemmas of Steps.
use Rattle.std.proofs.Common.{rules}
use Rattle.wat_syntax.specs.Types.{goes_on, typedef_form}
use Rattle.wat_syntax.specs.Bare.{bare_type}
use Rattle.wat_text.proofs.Steps.{one_built}
use Rattle.wat_text.proofs.reader.Reader.rec_types.Goals as goal

-- `search` does not find what is bare of the type, because that computes to a record
pub loop-preserved : goal.loop-preserved
loop-preserved c = one_built bare_type goes_on typedef_form _ _ _ _ _ c.loop.counter c.left-end.result c.rec_type-ty.result _ _ c.loop-test.true
    (search rules) c.rec_type-ty.ensures c.push_type.ensures c.loop.invariant
