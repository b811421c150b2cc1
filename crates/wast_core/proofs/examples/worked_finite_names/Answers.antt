use Rattle.wast_core.proofs.FiniteComputed.{generated_is_written}
use Rattle.wast_core.proofs.examples.worked_finite_names.Goals as goal

pub returns : goal.returns
returns c = generated_is_written
