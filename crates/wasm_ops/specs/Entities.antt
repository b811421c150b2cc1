-- The types of tables, memories, globals and tags, and of imports (binary format: types).
--
-- Each is one `Encoding`. For example an import of a memory with at least one page is 02 00 01: the byte of a memory, the
-- flags of its limits, and the minimum.
use Rattle.std.specs.Prelude.{ℕ, ◌+◌, ◌*◌, Bool, true, false, not, Option, None, is_some}
use Rattle.wasm_ops.specs.Spelling.{Encoding, unsupported, u32, u64, byte_then, then_byte, seq, optional, only_if, always, ref_type, val_type, mutability}
use Rattle.wasm_ops.specs.declared.entities.TableType.{TableType}
use Rattle.wasm_ops.specs.declared.entities.MemoryType.{MemoryType}
use Rattle.wasm_ops.specs.declared.entities.GlobalType.{GlobalType}
use Rattle.wasm_ops.specs.declared.entities.TagType.{TagType}
use Rattle.wasm_ops.specs.declared.entities.EntityType.{EntityType}
use Rattle.wasm_ops.specs.declared.entities.EntityType.TheVariants as entity

-- ---- limits

-- A flag as a number, 0 or 1.
abbrev pub bit : Bool → ℕ
bit false = 0
bit true = 1

-- The flags of limits: whether they have a maximum, are shared, have indices of 64 bits, and have a page size.
abbrev pub limits_flags : Bool → Bool → Bool → Bool → ℕ
limits_flags maximum shared wide page = bit maximum + 2 * bit shared + 4 * bit wide + 8 * bit page

-- Limits: the flags, the minimum, and the maximum and the exponent of the page size if there are any.
abbrev pub limits : Bool → Bool → ℕ → Option ℕ → Option ℕ → Encoding
limits shared wide minimum maximum page = always (byte_then (limits_flags (is_some maximum) shared wide (is_some page)) (seq (u64 minimum) (seq (optional u64 maximum) (optional u32 page))))

-- ---- tables, memories, globals and tags

-- A table type: the type of its elements, and its limits, which have no page size. Shared tables are not supported.
abbrev pub table_type : TableType → Encoding
table_type t = only_if (not t.shared) (seq (ref_type t.element_type) (limits t.shared t.table64 t.minimum t.maximum None))

-- A memory type: its limits, with the exponent of its page size.
abbrev pub memory_type : MemoryType → Encoding
memory_type m = limits m.shared m.memory64 m.minimum m.maximum m.page_size_log2

-- A global type: the type of its value, and whether it is mutable. Shared globals are not supported.
abbrev pub global_type : GlobalType → Encoding
global_type g = only_if (not g.shared) (then_byte (val_type g.val_type) (mutability g.mutable))

-- A tag type: 00, for an exception, and the index of its function type.
abbrev pub tag_type : TagType → Encoding
tag_type t = byte_then 0x00 (u32 t.func_type_idx)

-- The type of an import. Exact functions are not supported.
abbrev pub entity_type : EntityType → Encoding
entity_type (entity.Function index) = byte_then 0x00 (u32 index)
entity_type (entity.FunctionExact index) = unsupported
entity_type (entity.Table t) = byte_then 0x01 (table_type t)
entity_type (entity.Memory m) = byte_then 0x02 (memory_type m)
entity_type (entity.Global g) = byte_then 0x03 (global_type g)
entity_type (entity.Tag t) = byte_then 0x04 (tag_type t)
