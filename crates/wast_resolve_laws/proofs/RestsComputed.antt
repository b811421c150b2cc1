-- Computes the resolved example modules.
use Rattle.std.proofs.Common.{refl}
use Rattle.wast_resolve_laws.specs.WorkedRests.{Row27, Row9, Row48}

pub row27 : Row27
row27 a b c d e f g = ((refl, refl, refl), refl, refl)

pub row9 : Row9
row9 a b c d = ((refl, refl, refl), refl, refl)

pub row48 : Row48
row48 a b c d e = (refl, refl, refl)
