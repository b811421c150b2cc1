-- Computes the examples of `WorkedStable`.
use Rattle.std.proofs.Common.{refl}
use Rattle.wast_resolve.specs.WorkedStable.{Calls, Blocks, Labels}

pub calls : Calls
calls a = (refl, refl)

pub blocks : Blocks
blocks = (refl, refl, refl, refl)

pub labels : Labels
labels a b = (refl, refl)
