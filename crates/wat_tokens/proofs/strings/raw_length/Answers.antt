-- Closes the step of the loop.
use Rattle.std.proofs.Common.{◌∙◌, sym, arith, ltb-false}
use Rattle.wat_grammar.specs.Strings.{is_raw}
use Rattle.wat_tokens.proofs.Fronts.{front_step}
use Rattle.wat_tokens.proofs.strings.raw_length.Goals as goal

pub loop-preserved : goal.loop-preserved
loop-preserved c =
    let step = front_step is_raw c.raw_run.result c.loop.rest.now (omega (arith, ltb-false)) (sym c.is_raw.ensures ∙ c.in-true.is) c.raw_run.ensures.front in
    record {
      shorter = omega (arith, step.0, step.1);
      enough = omega (arith, step.0, step.1);
      counts = omega (arith, step.0, step.1);
    }
