-- Proves NothingIsLeft: the result has no inline parts.
use Rattle.std.proofs.Common.{◌≡◌, true, List, [], ◌∷◌, ◌++◌, refl}
use Rattle.std.specs.List.{flat_map}
use Rattle.wast_tree_nodes.specs.Items.{Item, items_in}
use Rattle.wast_tree_nodes.specs.WrittenOut.{is_written_field, is_written_out}
use Rattle.wast_expand_inline.specs.Tree.{Index, Func, FuncKind, Table, TableKind, Memory, MemoryKind, Global, GlobalKind, Tag, TagKind, ModuleField}
use Rattle.wast_expand_inline.specs.Tree.space
use Rattle.wast_expand_inline.specs.Tree.func
use Rattle.wast_expand_inline.specs.Tree.table
use Rattle.wast_expand_inline.specs.Tree.memory
use Rattle.wast_expand_inline.specs.Tree.global
use Rattle.wast_expand_inline.specs.Tree.tag_kind
use Rattle.wast_expand_inline.specs.Tree.field
use Rattle.wast_expand_inline.specs.WriteOut.{Reference, data_in, elem_in, func_alone, table_alone, memory_alone, global_alone, tag_alone, desugar_field}
use Rattle.wast_expand_inline.specs.Referring.{by_id, by_position}
use Rattle.wast_expand_inline.specs.Written.{with_referred_ids, written_after}
use Rattle.wast_expand_inline.specs.Laws.{NothingIsLeft, NothingIsLeftByPosition}
use Rattle.wast_expand_inline.proofs.Exported.{both_pass, behind_exports}

func_written : (f : Func) (k : FuncKind) → is_written_out (func_alone f k ∷ []) ≡ true
func_written f (func.Import source exact) = refl
func_written f (func.Inline locals e) = refl

table_written : (t : Table) (k : TableKind) (item : Index) → is_written_out (elem_in k t.span item ++ table_alone t k ∷ []) ≡ true
table_written t (table.Import source ty) item = refl
table_written t x item = refl

memory_written : (m : Memory) (k : MemoryKind) (item : Index) → is_written_out (data_in k m.span item ++ memory_alone m k ∷ []) ≡ true
memory_written m (memory.Import source ty) item = refl
memory_written m x item = refl

global_written : (g : Global) (k : GlobalKind) → is_written_out (global_alone g k ∷ []) ≡ true
global_written g (global.Import source) = refl
global_written g (global.Inline e) = refl

tag_written : (t : Tag) (k : TagKind) → is_written_out (tag_alone t k ∷ []) ≡ true
tag_written t (tag_kind.Import source) = refl
tag_written t tag_kind.Inline = refl

field_written : (r : Reference) (x : ModuleField) → is_written_out (desugar_field r x) ≡ true
field_written r (field.Func f) = behind_exports is_written_field f.exports.names _ (λ name. refl) (func_written f f.kind)
field_written r (field.Table t) = behind_exports is_written_field t.exports.names _ (λ name. refl) (table_written t t.kind (r space.Table t.span t.id))
field_written r (field.Memory m) = behind_exports is_written_field m.exports.names _ (λ name. refl) (memory_written m m.kind (r space.Memory m.span m.id))
field_written r (field.Global g) = behind_exports is_written_field g.exports.names _ (λ name. refl) (global_written g g.kind)
field_written r (field.Tag t) = behind_exports is_written_field t.exports.names _ (λ name. refl) (tag_written t t.kind)
field_written r x = refl

fields_written : (r : Reference) (xs : List ModuleField) → is_written_out (flat_map (desugar_field r) xs) ≡ true
fields_written r [] = refl
fields_written r (x ∷ xs) = both_pass is_written_field (desugar_field r x) (flat_map (desugar_field r) xs) (field_written r x) (fields_written r xs)

pub nothing_is_left : NothingIsLeft
nothing_is_left n fields = fields_written by_id (with_referred_ids n fields)

after_written : (before : List Item) (xs : List ModuleField) → is_written_out (written_after before xs) ≡ true
after_written before [] = refl
after_written before (x ∷ xs) = both_pass is_written_field (desugar_field (by_position before) x) (written_after (before ++ items_in x) xs)
    (field_written (by_position before) x) (after_written (before ++ items_in x) xs)

pub nothing_is_left_by_position : NothingIsLeftByPosition
nothing_is_left_by_position fields = after_written [] fields
