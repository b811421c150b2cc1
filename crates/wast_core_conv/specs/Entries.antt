-- The entry of the type section for a type or a recursion group (binary format: type section).
--
--   (type (func))              a single type
--   (rec (type (func)))        a group of one type: `rec` keeps it a group
use Rattle.std.specs.Prelude.{Bool}
use Rattle.wast_tree_nodes.specs.Sites.{in_rec}
use Rattle.wasm_out.specs.Parts.{TypeEntry, Single}
use Rattle.wast_core_conv.specs.Encodable.{are_encodable, is_encodable_type}
use Rattle.wast_core_conv.specs.Meaning as meaning
use Rattle.wast_core_conv.specs.declared.section_items.RecOrType.{RecOrType}
use Rattle.wast_core_conv.specs.declared.section_items.RecOrType.TheVariants as entry

-- The entry of a single type, or of a recursion group.
abbrev pub as_type_entry : RecOrType → TypeEntry
as_type_entry (entry.Ty t) = Single (meaning.as_sub_type t.now.def)
as_type_entry (entry.Rec r) = meaning.as_group r.now

-- Whether the entry may be encoded.
abbrev pub is_encodable_entry : RecOrType → Bool
is_encodable_entry (entry.Ty t) = is_encodable_type t.now
is_encodable_entry (entry.Rec r) = are_encodable (in_rec r.now)
