-- Proves the renamed example modules by computing their bytes.
use Rattle.std.proofs.Common.{refl}
use Rattle.wasm_ops.specs.Leb128.{unsigned, unsigned_in, signed, signed_in}
use Rattle.wast_core.specs.WorkedFronts.{Row27, Row9, Row48}

pub row27 : Row27
unfolding unsigned unsigned_in signed signed_in
row27 a b c d e f = (refl, (refl, refl))

pub row9 : Row9
unfolding unsigned unsigned_in signed signed_in
row9 a b c d = (refl, refl)

pub row48 : Row48
unfolding unsigned unsigned_in signed signed_in
row48 a b c d e = (refl, refl)
