-- Proves the example modules with inline forms by computing them.
use Rattle.std.proofs.Common.{refl}
use Rattle.wasm_ops.specs.Leb128.{unsigned, unsigned_in, signed, signed_in}
use Rattle.wast_core.specs.WorkedAbbreviations.{Row4, Row5, Row6, Row44}

pub row4 : Row4
unfolding unsigned unsigned_in
row4 a = (refl, refl)

pub row5 : Row5
unfolding unsigned unsigned_in signed signed_in
row5 a = (refl, refl)

pub row6 : Row6
unfolding unsigned unsigned_in signed signed_in
row6 a b = (refl, refl)

pub row44 : Row44
unfolding unsigned unsigned_in signed signed_in
row44 a b = (refl, refl)
