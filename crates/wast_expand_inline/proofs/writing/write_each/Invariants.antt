use Rattle.std.proofs.Common.{◌≡◌, ◌++◌, drop, length, flat_map}
use Rattle.std.specs.Prelude.{true}
use Rattle.std.specs.List.{list_any}
use Rattle.wast_expand_inline.specs.Segments.{has_oversized_data}
use Rattle.wast_expand_inline.specs.WriteOut.{desugar_field}
use Rattle.wast_expand_inline.specs.Referring.{by_id}
use Rattle.wast_expand_inline.proofs.writing.write_each.Given as goal

abbrev pub invariant-loop-i : goal.invariant-loop-i
invariant-loop-i l = record {
  len : length l.fields ≡ length l.fn.fields;
  list : l.out ++ flat_map (desugar_field by_id) (drop l.i l.fields) ≡ l.fn.out ++ flat_map (desugar_field by_id) l.fn.fields;
  large : list_any has_oversized_data (drop l.i l.fields) ≡ true → list_any has_oversized_data l.fn.fields ≡ true;
}
