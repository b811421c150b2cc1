-- Proves the example modules with branch hints by computing them.
use Rattle.std.proofs.Common.{refl}
use Rattle.wasm_ops.specs.Leb128.{unsigned, unsigned_in, signed, signed_in}
use Rattle.wast_core.specs.WorkedHints.{Row11, Row54}

pub row11 : Row11
unfolding unsigned unsigned_in signed signed_in
row11 = (refl, refl)

pub row54 : Row54
unfolding unsigned unsigned_in signed signed_in
row54 a b = (refl, refl)
