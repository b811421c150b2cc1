-- Proves the example modules with added start fields by computing them.
use Rattle.std.proofs.Common.{refl}
use Rattle.wasm_ops.specs.Leb128.{unsigned, unsigned_in}
use Rattle.wast_core.specs.WorkedStarts.{Row27, Row9, Row48}

pub row27 : Row27
unfolding unsigned unsigned_in
row27 a b c d e f g = ((refl, refl), refl, refl)

pub row9 : Row9
row9 a b c d = refl

pub row48 : Row48
row48 a b c d e = refl
