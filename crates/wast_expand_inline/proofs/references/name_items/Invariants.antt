use Rattle.std.proofs.Common.{◌≡◌, ◌+◌, ◌≤◌, ◌++◌, take, drop, length}
use Rattle.wast_base.specs.Filling.{with_ids_from, missing_id_count}
use Rattle.wast_expand_inline.specs.Referring.{wants_id, with_item_id}
use Rattle.wast_expand_inline.proofs.references.name_items.Given as goal

abbrev pub invariant-loop-i : goal.invariant-loop-i
invariant-loop-i l = record {
  len : length l.fields ≡ length l.fn.fields;
  fields : take l.i l.fields ++ with_ids_from wants_id with_item_id l.gensym (drop l.i l.fields) ≡ with_ids_from wants_id with_item_id l.fn.gensym l.fn.fields;
  counted : l.gensym + missing_id_count wants_id (drop l.i l.fields) ≡ l.fn.gensym + missing_id_count wants_id l.fn.fields;
  rising : l.fn.gensym ≤ l.gensym;
}
