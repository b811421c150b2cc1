-- How numbers, names, lists and types are encoded (binary format: values, types).
--
-- An `Encoding` has the bytes of a value, the condition that its numbers, counts and lengths are in range, and whether the
-- encoder supports its form. Each type of the binary format is described once, by cases, as an `Encoding`. So its bytes, its
-- range and its support cannot disagree about what the value consists of.
--
--   (val_type I32).bytes          7f
--   func_type (param i32)         bytes 60 01 7f 00; in range, because the counts 1 and 0 are below 2^32; supported
--   heap_type (Exact 3)           not supported, because exact types are a construct that no encoder covers
use Rattle.std.specs.Prelude.{ℕ, ◌<◌, ◌^◌, ℤ, pos, Bool, true, false, not, ◌&&◌, Option, is_none, List, [], ◌∷◌, ◌++◌, length, All, IsTrue, FitsSigned}
use Rattle.std.specs.Int.{w32, w64}
use Rattle.std.specs.List.{flat_map, list_all}
use Rattle.std.specs.Option.{option_to_list}
use Rattle.wasm_ops.specs.Leb128.{unsigned, signed}
use Rattle.wasm_ops.specs.declared.ref_types.AbstractHeapType.{AbstractHeapType}
use Rattle.wasm_ops.specs.declared.ref_types.AbstractHeapType.TheVariants as heaps
use Rattle.wasm_ops.specs.declared.ref_types.HeapType.{HeapType}
use Rattle.wasm_ops.specs.declared.ref_types.HeapType.TheVariants as heap
use Rattle.wasm_ops.specs.declared.ref_types.RefType.{RefType}
use Rattle.wasm_ops.specs.declared.types.ValType.{ValType}
use Rattle.wasm_ops.specs.declared.types.ValType.TheVariants as val
use Rattle.wasm_ops.specs.declared.types.StorageType.{StorageType}
use Rattle.wasm_ops.specs.declared.types.StorageType.TheVariants as storage
use Rattle.wasm_ops.specs.declared.types.FieldType.{FieldType}
use Rattle.wasm_ops.specs.declared.types.ExportKind.{ExportKind}
use Rattle.wasm_ops.specs.declared.types.ExportKind.TheVariants as kind
use Rattle.wasm_ops.specs.declared.types.FuncType.{FuncType}
use Rattle.wasm_ops.specs.declared.types.StructType.{StructType}
use Rattle.wasm_ops.specs.declared.types.ArrayType.{ArrayType}
use Rattle.wasm_ops.specs.declared.types.CompositeInnerType.{CompositeInnerType}
use Rattle.wasm_ops.specs.declared.types.CompositeInnerType.TheVariants as inner
use Rattle.wasm_ops.specs.declared.types.CompositeType.{CompositeType}
use Rattle.wasm_ops.specs.declared.types.SubType.{SubType}

-- Values without a number, count or length.
abbrev pub Any : {A : Type 0} → A → Type 0
Any x = Unit {0}

-- An index, a count or a length.
abbrev pub InRangeU32 : ℕ → Type 0
InRangeU32 n = n < 2 ^ 32

-- A number of 64 bits.
abbrev pub InRangeU64 : ℕ → Type 0
InRangeU64 n = n < 2 ^ 64

-- The bytes of a list: the number of its items, and the items.
abbrev pub vec : {A : Type 0} → (A → List ℕ) → List A → List ℕ
vec item xs = unsigned (length xs) ++ flat_map item xs

-- The number of items is in range, and each item.
abbrev pub InRangeVec : {A : Type 0} → (A → Type 0) → List A → Type 0
InRangeVec InRange xs = InRangeU32 (length xs) × All InRange xs

-- The bytes of a value after their number.
abbrev pub length_prefixed : {A : Type 0} → (A → List ℕ) → A → List ℕ
length_prefixed spell x = unsigned (length (spell x)) ++ spell x

-- The number of bytes of a value is in range, and the value.
abbrev pub InRangeSized : {A : Type 0} → (A → Type 0) → (A → List ℕ) → A → Type 0
InRangeSized InRange spell x = InRangeU32 (length (spell x)) × InRange x

-- The bytes of a name: its length, and its text.
abbrev pub name : List ℕ → List ℕ
name text = unsigned (length text) ++ text

-- The length of a name is in range.
abbrev pub InRangeName : List ℕ → Type 0
InRangeName text = InRangeU32 (length text)

-- A signed number from -2^31 to 2^31 - 1.
abbrev pub InRangeS32 : ℤ → Type 0
InRangeS32 z = FitsSigned w32 z

-- A signed number from -2^63 to 2^63 - 1.
abbrev pub InRangeS64 : ℤ → Type 0
InRangeS64 z = FitsSigned w64 z

-- ---- encodings

-- The encoding of a value: its bytes, the condition that its numbers, counts and lengths are in range, and whether the
-- encoder supports its form. The bytes of a value that is not supported have no meaning.
pub record Encoding : Type 1 where
  pub bytes : List ℕ
  pub in_range : Type 0
  pub is_covered : Bool

-- The encoder can write the value: its form is supported, and its numbers, counts and lengths are in range.
abbrev pub Spellable : Encoding → Type 0
Spellable e = IsTrue e.is_covered × e.in_range

-- These bytes, under a condition on the range of the numbers in them.
abbrev pub within : Type 0 → List ℕ → Encoding
within in_range bytes = record { bytes = bytes; in_range = in_range; is_covered = true }

-- Bytes without a number that could be out of range.
abbrev pub fixed : List ℕ → Encoding
fixed bytes = within (Unit {0}) bytes

-- A form that the encoder does not support.
abbrev pub unsupported : Encoding
unsupported = record { bytes = []; in_range = Unit {0}; is_covered = false }

-- An unsigned number of 32 bits: an index, a count or a length.
abbrev pub u32 : ℕ → Encoding
u32 n = within (InRangeU32 n) (unsigned n)

-- An unsigned number of 64 bits.
abbrev pub u64 : ℕ → Encoding
u64 n = within (InRangeU64 n) (unsigned n)

-- An index where other forms begin with the bytes of negative numbers. For example the type index 64 is c0 00.
abbrev pub s33 : ℕ → Encoding
s33 index = within (InRangeU32 index) (signed (pos index))

-- A name.
abbrev pub named : List ℕ → Encoding
named text = within (InRangeName text) (name text)

-- An encoding with other bytes, made of its bytes.
abbrev pub respelled : (List ℕ → List ℕ) → Encoding → Encoding
respelled change e = record { bytes = change e.bytes; in_range = e.in_range; is_covered = e.is_covered }

-- A byte, and then an encoding.
abbrev pub byte_then : ℕ → Encoding → Encoding
byte_then byte e = respelled (λ bytes. byte ∷ bytes) e

-- An encoding, and then a byte.
abbrev pub then_byte : Encoding → ℕ → Encoding
then_byte e byte = respelled (λ bytes. bytes ++ byte ∷ []) e

-- One encoding, and then another.
abbrev pub seq : Encoding → Encoding → Encoding
seq a b = record { bytes = a.bytes ++ b.bytes; in_range = a.in_range × b.in_range; is_covered = a.is_covered && b.is_covered }

-- Items one after another, without their number.
abbrev pub items_of : {A : Type 0} → (A → Encoding) → List A → Encoding
items_of item xs = record { bytes = flat_map (λ x. (item x).bytes) xs; in_range = All (λ x. (item x).in_range) xs; is_covered = list_all (λ x. (item x).is_covered) xs }

-- A list: the number of its items, and the items (binary format: lists).
abbrev pub list_of : {A : Type 0} → (A → Encoding) → List A → Encoding
list_of item xs = seq (u32 (length xs)) (items_of item xs)

-- A value that may be missing. Without it there are no bytes.
abbrev pub optional : {A : Type 0} → (A → Encoding) → Option A → Encoding
optional item x = items_of item (option_to_list x)

-- An encoding after the number of its bytes.
abbrev pub with_length : Encoding → Encoding
with_length e = seq (u32 (length e.bytes)) e

-- An encoding that is supported only under one more condition.
abbrev pub only_if : Bool → Encoding → Encoding
only_if condition e = record { bytes = e.bytes; in_range = e.in_range; is_covered = condition && e.is_covered }

-- An encoding whose parts are all supported.
abbrev pub always : Encoding → Encoding
always e = within e.in_range e.bytes

-- ---- types

-- The byte of an abstract heap type.
abbrev pub abstract_byte : AbstractHeapType → ℕ
abstract_byte heaps.Func = 0x70
abstract_byte heaps.Extern = 0x6f
abstract_byte heaps.Exn = 0x69
abstract_byte heaps.NoExn = 0x74
abstract_byte heaps.Any = 0x6e
abstract_byte heaps.Eq = 0x6d
abstract_byte heaps.Struct = 0x6b
abstract_byte heaps.Array = 0x6a
abstract_byte heaps.NoFunc = 0x73
abstract_byte heaps.NoExtern = 0x72
abstract_byte heaps.None = 0x71
abstract_byte heaps.I31 = 0x6c
abstract_byte heaps.Cont = 0x68
abstract_byte heaps.NoCont = 0x75

-- Whether the encoder supports an abstract heap type: each but those of continuations.
abbrev pub is_covered_abstract_heap_type : AbstractHeapType → Bool
is_covered_abstract_heap_type heaps.Cont = false
is_covered_abstract_heap_type heaps.NoCont = false
is_covered_abstract_heap_type ty = true

-- A heap type: a byte, or the index of a type. Shared and exact types are not supported.
abbrev pub heap_type : HeapType → Encoding
heap_type (heap.Abstract false ty) = record { bytes = abstract_byte ty ∷ []; in_range = Unit {0}; is_covered = is_covered_abstract_heap_type ty }
heap_type (heap.Abstract true ty) = unsupported
heap_type (heap.Concrete index) = s33 index
heap_type (heap.Exact index) = unsupported

-- Whether a nullable reference to this heap type is the heap type alone: `funcref` is 70.
abbrev pub is_short : HeapType → Bool
is_short (heap.Abstract shared heaps.Func) = true
is_short (heap.Abstract shared heaps.Extern) = true
is_short (heap.Abstract shared ty) = false
is_short (heap.Concrete index) = false
is_short (heap.Exact index) = false

-- The bytes of a reference type: whether it is nullable, whether its heap type is short, and the bytes of the heap type.
abbrev pub ref_bytes : Bool → Bool → List ℕ → List ℕ
ref_bytes true true bytes = bytes
ref_bytes true false bytes = 0x63 ∷ bytes
ref_bytes false short bytes = 0x64 ∷ bytes

-- A reference type. For example (ref null 3) is 63 03.
abbrev pub ref_type : RefType → Encoding
ref_type r = respelled (ref_bytes r.nullable (is_short r.heap_type)) (heap_type r.heap_type)

-- A value type: one byte, or a reference type.
abbrev pub val_type : ValType → Encoding
val_type val.I32 = fixed (0x7f ∷ [])
val_type val.I64 = fixed (0x7e ∷ [])
val_type val.F32 = fixed (0x7d ∷ [])
val_type val.F64 = fixed (0x7c ∷ [])
val_type val.V128 = fixed (0x7b ∷ [])
val_type (val.Ref r) = ref_type r

-- A storage type: the byte of a packed integer, or a value type.
abbrev pub storage_type : StorageType → Encoding
storage_type storage.I8 = fixed (0x78 ∷ [])
storage_type storage.I16 = fixed (0x77 ∷ [])
storage_type (storage.Val t) = val_type t

-- The byte that says whether a field or a global is mutable.
abbrev pub mutability : Bool → ℕ
mutability false = 0x00
mutability true = 0x01

-- A field type: its storage type, and whether it is mutable.
abbrev pub field_type : FieldType → Encoding
field_type f = then_byte (storage_type f.element_type) (mutability f.mutable)

-- The byte of the kind of an export.
abbrev pub export_kind : ExportKind → List ℕ
export_kind kind.Func = 0x00 ∷ []
export_kind kind.Table = 0x01 ∷ []
export_kind kind.Memory = 0x02 ∷ []
export_kind kind.Global = 0x03 ∷ []
export_kind kind.Tag = 0x04 ∷ []

-- A function type: 60, its parameters and its results.
abbrev pub func_type : FuncType → Encoding
func_type f = byte_then 0x60 (seq (list_of val_type f.params) (list_of val_type f.results))

-- A struct type: 5f and its fields.
abbrev pub struct_type : StructType → Encoding
struct_type s = byte_then 0x5f (list_of field_type s.fields)

-- An array type: 5e and the type of its elements.
abbrev pub array_type : ArrayType → Encoding
array_type a = byte_then 0x5e (field_type a.0)

-- A function, struct or array type. Continuations are not supported.
abbrev pub composite_inner_type : CompositeInnerType → Encoding
composite_inner_type (inner.Func f) = func_type f
composite_inner_type (inner.Struct s) = struct_type s
composite_inner_type (inner.Array a) = array_type a
composite_inner_type (inner.Cont c) = unsupported

-- A composite type. It is supported if it is not shared, has no descriptor and describes nothing.
abbrev pub composite_type : CompositeType → Encoding
composite_type c = only_if (not c.shared && (is_none c.descriptor && is_none c.describes)) (composite_inner_type c.inner)

-- The bytes of a subtype: whether it is final, its supertypes, and the bytes of its composite type.
abbrev pub sub_bytes : Bool → List ℕ → List ℕ → List ℕ
sub_bytes true [] composite = composite
sub_bytes true parents composite = 0x4f ∷ (vec unsigned parents ++ composite)
sub_bytes false parents composite = 0x50 ∷ (vec unsigned parents ++ composite)

-- A subtype. A final one without supertypes is its composite type alone.
abbrev pub sub_type : SubType → Encoding
sub_type s = record { bytes = sub_bytes s.is_final s.supertype_idxs (composite_type s.composite_type).bytes; in_range = InRangeVec InRangeU32 s.supertype_idxs × (composite_type s.composite_type).in_range; is_covered = (composite_type s.composite_type).is_covered }
