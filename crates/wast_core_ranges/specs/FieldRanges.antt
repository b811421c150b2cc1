-- Ranges of a list of module fields that contain all fields of a kind (text format: modules).
--
-- A range may be larger than needed, because callers only need that no field of the kind is outside. It is a test
-- that can be computed, so that it can be assumed of a value.
--
--   fields = (func) (start 0) (func),  r = 1..2       is_reach (is_of Start) fields r = true
use Rattle.std.specs.Prelude.{nat_le, Bool, ◌&&◌, not, List, length, take, drop, slice_index_or}
use Rattle.std.specs.List.{list_all, slice_range}
use Rattle.wast_tree_nodes.specs.declared.fields.ModuleField.{ModuleField}
use Rattle.wast_tree_nodes.specs.Kinds.{kind_rank, kinds, is_of}
use Rattle.wast_tree_nodes.specs.declared.kinds.FieldKind.{FieldKind}
use Rattle.wast_core_ranges.specs.declared.stretches.FieldRange.{FieldRange}
use Rattle.wast_core_ranges.specs.declared.finding.FieldRanges.{FieldRanges}

-- No field of the list passes the test.
abbrev pub none_pass : (ModuleField → Bool) → List ModuleField → Bool
none_pass p fields = list_all (λ f. not (p f)) fields

-- The range is inside the list.
abbrev pub is_inside : List ModuleField → FieldRange → Bool
is_inside fields r = nat_le r.first r.end && nat_le r.end (length fields)

-- The range is inside the list, and no field before or after it passes the test.
abbrev pub is_reach : (ModuleField → Bool) → List ModuleField → FieldRange → Bool
is_reach p fields r = is_inside fields r && (none_pass p (take r.first fields) && none_pass p (drop r.end fields))

-- The fields in the range.
abbrev pub fields_in : FieldRange → List ModuleField → List ModuleField
fields_in r fields = slice_range fields r.first r.end

-- The range that was found for a kind.
abbrev pub reach_of : FieldRanges → FieldKind → FieldRange
reach_of rs k = slice_index_or rs.by_rank (kind_rank k) (record { first = 0; end = 0 })

-- For each kind, no field of that kind is outside of its range.
unfoldable pub are_reaches : List ModuleField → FieldRanges → Bool
are_reaches fields rs = list_all (λ k. is_reach (is_of k) fields (reach_of rs k)) kinds
