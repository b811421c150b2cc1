-- The bytes of custom sections (binary format: custom section; tool conventions: producers section, dynamic linking).
--
-- The grammar of modules reads a custom section as its name and its bytes. So the definitions here give bytes, except
-- for a producers section, which has a grammar of its own in wasm_out.
--
--   (@producers (language "C" "11"))     name "producers", then 01, "language", 01, "C", "11"; each text after its length
use Rattle.std.specs.Prelude.{ℕ, Bool, List, map}
use Rattle.std.specs.List.{flat_map}
use Rattle.std.specs.Borrow.{Bor}
use Rattle.wasm_ops.specs.Spelling.{Encoding, fixed, u32, unsupported, named, byte_then, seq, items_of, list_of, with_length}
use Rattle.wasm_out.specs.Parts.{Custom, CustomPart, Part}
use Rattle.wasm_out.specs.Producers.{producers}
use Rattle.wast_tree_nodes.specs.Customs.{custom_name, subsection_id}
use Rattle.wast_tree_nodes.specs.Sites.{in_subsection, in_custom}
use Rattle.wast_core_conv.specs.Encodable.{are_encodable, encodable}
use Rattle.wast_core_conv.specs.Tree as tree
use Rattle.wast_core_conv.specs.Tree.{Dylink0Subsection}
use Rattle.wast_core_conv.specs.Tree.custom
use Rattle.wast_core_conv.specs.Tree.dylink

-- A value of a producers section: its name and version, as texts.
abbrev pub as_producer_value : Bor (List ℕ) × Bor (List ℕ) → List ℕ × List ℕ
as_producer_value v = (v.0.now, v.1.now)

-- A field of a producers section: its name and values.
abbrev pub as_producer_field : Bor (List ℕ) × List (Bor (List ℕ) × Bor (List ℕ)) → List ℕ × List (List ℕ × List ℕ)
as_producer_field f = (f.0.now, map as_producer_value f.1)

-- An export with its flags.
abbrev pub export_flags : Bor (List ℕ) × ℕ → Encoding
export_flags e = seq (named e.0.now) (u32 e.1)

-- An import with its flags.
abbrev pub import_flags : Bor (List ℕ) × Bor (List ℕ) × ℕ → Encoding
import_flags i = seq (named i.0.now) (seq (named i.1.now) (u32 i.2))

-- A name in a list.
abbrev pub listed_name : Bor (List ℕ) → Encoding
listed_name n = named n.now

-- The content of a `dylink.0` subsection. A `TargetArch` is an unsupported construct.
abbrev pub subsection_content : Dylink0Subsection → Encoding
subsection_content (dylink.MemInfo memory_size memory_align table_size table_align) = seq (u32 memory_size) (seq (u32 memory_align) (seq (u32 table_size) (u32 table_align)))
subsection_content (dylink.Needed names) = list_of listed_name names
subsection_content (dylink.ExportInfo flags) = list_of export_flags flags
subsection_content (dylink.ImportInfo flags) = list_of import_flags flags
subsection_content (dylink.RuntimePath names) = list_of listed_name names
subsection_content (dylink.TargetArch text) = unsupported

-- A subsection: its number, its length and its content.
abbrev pub subsection : Dylink0Subsection → Encoding
subsection s = byte_then (subsection_id s) (with_length (subsection_content s))

-- The content of a custom section, after its name.
abbrev pub custom_bytes : tree.Custom → Encoding
custom_bytes (custom.Raw section) = fixed (flat_map (λ piece. piece.now) section.bytes)
custom_bytes (custom.Producers made) = producers (map as_producer_field made.fields)
custom_bytes (custom.Dylink0 info) = items_of subsection info.subsections

-- The name of a custom section, and the bytes after it.
abbrev pub as_custom : tree.Custom → CustomPart
as_custom c = record { name = custom_name c; bytes = (custom_bytes c).bytes }

-- A custom section as a part of a module.
abbrev pub custom_part : tree.Custom → Part
custom_part c = record { kind = Custom; items = as_custom c }

-- The payload of a custom section: its name, and the bytes after it.
abbrev pub custom_payload : tree.Custom → Encoding
custom_payload c = seq (named (custom_name c)) (custom_bytes c)

-- The payload of a custom section is in range, and its length.
abbrev pub InRangeCustom : tree.Custom → Type 0
InRangeCustom c = (with_length (custom_payload c)).in_range

-- Whether a subsection has no unsupported construct, so that it is no `TargetArch`.
abbrev pub is_encodable_subsection : Dylink0Subsection → Bool
is_encodable_subsection s = are_encodable (in_subsection s)

-- Whether a custom section has no unsupported construct.
abbrev pub is_encodable_custom : tree.Custom → Bool
is_encodable_custom c = encodable (in_custom c)
