-- Proves the example modules with custom sections by computing them.
use Rattle.std.proofs.Common.{refl}
use Rattle.wasm_ops.specs.Leb128.{unsigned, unsigned_in}
use Rattle.wast_core.specs.WorkedCustoms.{OwnNames, Row29, Row51, Row52, Row53}

pub own_names : OwnNames
unfolding unsigned unsigned_in
own_names a b c = (refl, refl)

pub row29 : Row29
unfolding unsigned unsigned_in
row29 a b = (refl, refl)

pub row51 : Row51
unfolding unsigned unsigned_in
row51 a b c d = (refl, refl)

pub row52 : Row52
unfolding unsigned unsigned_in
row52 a b c = (refl, refl)

pub row53 : Row53
unfolding unsigned unsigned_in
row53 = (refl, refl)
