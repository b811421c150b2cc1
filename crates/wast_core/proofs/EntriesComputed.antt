-- Proves the example modules with entries of all sections by computing them.
use Rattle.std.proofs.Common.{refl}
use Rattle.wasm_ops.specs.Leb128.{unsigned, unsigned_in, signed, signed_in}
use Rattle.wast_base.specs.Blocks.{stays_open}
use Rattle.wast_core.specs.WorkedEntries.{ImportedEntities, MemoryAndData, TableAndElements, TwoStarts}

pub imported_entities : ImportedEntities
unfolding unsigned unsigned_in
imported_entities a b c d e f = (refl, refl)

pub memory_and_data : MemoryAndData
unfolding unsigned unsigned_in signed signed_in stays_open
memory_and_data a b c = (refl, refl)

pub table_and_elements : TableAndElements
unfolding unsigned unsigned_in stays_open
table_and_elements = (refl, refl)

pub two_starts : TwoStarts
unfolding unsigned unsigned_in
two_starts = (refl, refl)
