-- Proves the example module whose generated id is renamed to a source id, by computing it.
use Rattle.std.proofs.Common.{refl}
use Rattle.wasm_ops.specs.Leb128.{unsigned, unsigned_in}
use Rattle.wast_resolve_laws.proofs.Extending.{extended_is_injective}
use Rattle.wast_core.specs.WorkedFinite.{one_sent, GeneratedIsWritten}
use Rattle.wast_core.proofs.FiniteNames.{renames_finitely}

pub generated_is_written : GeneratedIsWritten
unfolding unsigned unsigned_in
generated_is_written a b = (renames_finitely extended_is_injective (λ id. b) one_sent refl, refl, refl, refl, refl, refl)
