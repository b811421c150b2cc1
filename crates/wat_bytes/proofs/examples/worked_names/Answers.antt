use Rattle.std.proofs.Common.{refl}
use Rattle.wat_bytes.proofs.examples.worked_names.Goals as goal

pub returns : goal.returns
returns c = λ a b c d e f g h i. refl
