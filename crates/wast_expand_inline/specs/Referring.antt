-- Which items the expansion of inline parts refers to, and how it refers to them (text format: abbreviations).
--
-- Exports and segments refer to an item by its id, as in the `wast` crate. A second form refers to it by its position,
-- so that theorems can compare the result with one that has no generated ids.
--
--   (func (export "a"))       needs an id: its export refers to the function
--   (func $f (export "a"))    has the id $f already
--   (memory (data "abc"))     needs an id: the data segment refers to the memory
use Rattle.std.specs.Prelude.{ℕ, ◌&&◌, ◌||◌, not, is_none, length, Bool, false, List, Option, Some, None}
use Rattle.wast_base.specs.Ids.{gensym_id, place_of}
use Rattle.wast_tree_nodes.specs.Items.{Item}
use Rattle.wast_tree_nodes.specs.Known.{names_in}
use Rattle.wast_tree_nodes.specs.WrittenOut.{exports_nothing}
use Rattle.wast_expand_inline.specs.Tree.{Span, Id, InlineExport, ModuleField}
use Rattle.wast_expand_inline.specs.Tree.index
use Rattle.wast_expand_inline.specs.Tree.field
use Rattle.wast_expand_inline.specs.Segments.{has_bytes, has_elements}
use Rattle.wast_expand_inline.specs.WriteOut.{Reference}

-- The reference by id. The number 0 is a filler, because an item without an id is never referred to.
abbrev pub by_id : Reference
by_id s span None = index.Num 0 span
by_id s span (Some id) = index.Id id

-- The span of the id, or of the field if there is no id.
abbrev pub place_or : Span → Option Id → Span
place_or span None = span
place_or span (Some id) = place_of id

-- The reference by position: the number of items of its index space among the items before it.
abbrev pub by_position : List Item → Reference
by_position before s span id = index.Num (length (names_in s before)) (place_or span id)

-- whether there is an inline export
abbrev pub exports_some : InlineExport → Bool
exports_some exports = not (exports_nothing exports)

-- Whether an item needs a generated id: it is referred to and has none.
abbrev pub wants_id : ModuleField → Bool
wants_id (field.Ty t) = false
wants_id (field.Rec r) = false
wants_id (field.Import i) = false
wants_id (field.Func f) = exports_some f.exports && is_none f.id
wants_id (field.Table t) = (exports_some t.exports || has_elements t.kind) && is_none t.id
wants_id (field.Memory m) = (exports_some m.exports || has_bytes m.kind) && is_none m.id
wants_id (field.Global g) = exports_some g.exports && is_none g.id
wants_id (field.Export e) = false
wants_id (field.Start i) = false
wants_id (field.Elem e) = false
wants_id (field.Data d) = false
wants_id (field.Custom c) = false
wants_id (field.Tag t) = exports_some t.exports && is_none t.id

-- the field with a generated id at its span
abbrev pub with_item_id : ℕ → ModuleField → ModuleField
with_item_id n (field.Ty t) = field.Ty t
with_item_id n (field.Rec r) = field.Rec r
with_item_id n (field.Import i) = field.Import i
with_item_id n (field.Func f) = field.Func (record f { id = Some (gensym_id n f.span) })
with_item_id n (field.Table t) = field.Table (record t { id = Some (gensym_id n t.span) })
with_item_id n (field.Memory m) = field.Memory (record m { id = Some (gensym_id n m.span) })
with_item_id n (field.Global g) = field.Global (record g { id = Some (gensym_id n g.span) })
with_item_id n (field.Export e) = field.Export e
with_item_id n (field.Start i) = field.Start i
with_item_id n (field.Elem e) = field.Elem e
with_item_id n (field.Data d) = field.Data d
with_item_id n (field.Custom c) = field.Custom c
with_item_id n (field.Tag t) = field.Tag (record t { id = Some (gensym_id n t.span) })
