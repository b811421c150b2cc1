-- The values of `producers`, and the tokens that a reader counts: each side of an equation computes to the other.
use Rattle.std.proofs.Common.{refl}
use Rattle.wat_text.specs.Readers.{exactly, grouped}
use Rattle.wat_text.specs.WorkedReaders.{Producers, Counted}

pub producers : Producers
producers = (refl, (refl, refl, refl), refl, refl)

pub counted : Counted
unfolding exactly grouped
counted = (refl, refl)
