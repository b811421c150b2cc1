-- Proves the example modules with and without a data count section by computing them.
use Rattle.std.proofs.Common.{refl}
use Rattle.wasm_ops.specs.Leb128.{unsigned, unsigned_in}
use Rattle.wast_core.specs.WorkedCounts.{CountedData, CountedNone, UncountedData}

pub counted_data : CountedData
unfolding unsigned unsigned_in
counted_data a b = (refl, refl)

pub counted_none : CountedNone
unfolding unsigned unsigned_in
counted_none = (refl, refl)

pub uncounted_data : UncountedData
unfolding unsigned unsigned_in
uncounted_data a = (refl, refl)
