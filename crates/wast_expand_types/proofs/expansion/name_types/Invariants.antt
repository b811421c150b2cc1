use Rattle.std.proofs.Common.{◌≡◌, ◌+◌, ◌≤◌, ◌++◌, take, drop, length}
use Rattle.wast_base.specs.Filling.{with_ids_from, missing_id_count}
use Rattle.wast_expand_keys.specs.Expanded.{lacks_id, with_type_id}
use Rattle.wast_expand_types.proofs.TypeItems.{in_fields}
use Rattle.wast_expand_types.proofs.expansion.name_types.Given as goal

abbrev pub invariant-loop-i : goal.invariant-loop-i
invariant-loop-i l = record {
  len : length l.fields ≡ length l.fn.fields;
  fields : take l.i l.fields ++ with_ids_from lacks_id with_type_id l.gensym (drop l.i l.fields) ≡ with_ids_from lacks_id with_type_id l.fn.gensym l.fn.fields;
  counted : l.gensym + missing_id_count lacks_id (drop l.i l.fields) ≡ l.fn.gensym + missing_id_count lacks_id l.fn.fields;
  names : l.names ++ in_fields (drop l.i l.fields) ≡ l.fn.names ++ in_fields l.fn.fields;
  rising : l.fn.gensym ≤ l.gensym;
}
