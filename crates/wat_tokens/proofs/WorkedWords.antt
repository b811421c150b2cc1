-- The word of each text: each side of an equation computes to the other.
use Rattle.std.proofs.Common.{refl}
use Rattle.wat_tokens.specs.Words.{words}
use Rattle.wat_tokens.specs.WorkedWords.{Words, Others, AreDistinct}

pub named : Words
unfolding words
named = (refl, refl, refl, refl, refl, refl, refl)

pub others : Others
unfolding words
others = (refl, refl, refl, refl)

pub distinct : AreDistinct
unfolding words
distinct = refl
