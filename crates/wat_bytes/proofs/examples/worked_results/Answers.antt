use Rattle.std.proofs.Common.{refl}
use Rattle.wat_bytes.proofs.examples.worked_results.Goals as goal

pub returns : goal.returns
returns c = λ a b. (refl, refl, refl, refl)
