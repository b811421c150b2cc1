-- Proves the example modules with blocks and labels by computing them.
use Rattle.std.proofs.Common.{refl}
use Rattle.wasm_ops.specs.Leb128.{unsigned, unsigned_in, signed, signed_in}
use Rattle.wast_core.specs.WorkedBlocks.{Row28, Row55, Row56}

pub row28 : Row28
unfolding unsigned unsigned_in signed signed_in
row28 a b c d = (refl, refl)

pub row55 : Row55
unfolding unsigned unsigned_in signed signed_in
row55 a b c d = (refl, refl)

pub row56 : Row56
unfolding unsigned unsigned_in signed signed_in
row56 a b = (refl, refl)
