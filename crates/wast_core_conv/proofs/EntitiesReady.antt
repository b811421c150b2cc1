-- Types of tables, globals and imports that may be encoded become values that the binary format supports.
use Rattle.std.proofs.Common.{◌≡◌, true, false, refl, sym, ◌∙◌}
use Rattle.std.specs.Prelude.{not}
use Rattle.wast_tree_nodes.specs.Resolved.{is_resolved_site}
use Rattle.wast_tree_nodes.specs.Sites.{OfItem, Used, in_ref, in_val, in_table_type, in_global_type, in_item_kind}
use Rattle.wasm_ops.specs.Entities.{entity_type, global_type, table_type}
use Rattle.wast_core_conv.specs.Tree.{TableType, GlobalType, ItemKind}
use Rattle.wast_core_conv.specs.Tree.kind
use Rattle.wast_core_conv.specs.Encodable.{is_encodable_ask, are_encodable, are_entered}
use Rattle.wast_core_conv.specs.Meaning as meaning
use Rattle.wast_core_conv.proofs.EachPasses.{both_pass, both_true, both_lists}
use Rattle.wast_core_conv.proofs.Standing.{asking_entered}
use Rattle.wast_core_conv.proofs.TypesReady.{heap_covered, val_covered}

pub table_covered : (t : TableType) → are_encodable (in_table_type t) ≡ true → (table_type (meaning.as_table_type t)).is_covered ≡ true
table_covered t e =
    let both = both_lists is_encodable_ask (in_ref t.elem) _ e in
    both_true (not t.shared) _ (both_pass (not t.shared) true both.1).0 (both_true _ true (heap_covered t.elem.heap both.0) refl)

pub global_covered : (t : GlobalType) → are_encodable (in_global_type t) ≡ true → (global_type (meaning.as_global_type t)).is_covered ≡ true
global_covered t e =
    let both = both_lists is_encodable_ask (in_val t.ty) _ e in
    both_true (not t.shared) _ (both_pass (not t.shared) true both.1).0 (val_covered t.ty both.0)

pub kind_covered : (k : ItemKind) → are_entered (in_item_kind k) ≡ true → (entity_type (meaning.as_entity_type k)).is_covered ≡ true
kind_covered (kind.FuncExact u) e = (both_pass (is_resolved_site (Used OfItem u)) false e).1
kind_covered (kind.Table t) e = table_covered t (sym (asking_entered (in_table_type t)) ∙ e)
kind_covered (kind.Global t) e = global_covered t (sym (asking_entered (in_global_type t)) ∙ e)
kind_covered x e = refl
