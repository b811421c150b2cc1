use Rattle.std.proofs.Common.{◌≡◌, ◌-◌, ◌^◌, min, length, take, flat_map}
use Rattle.wast_expand_inline.specs.WriteOut.{desugar_field}
use Rattle.wast_expand_inline.specs.Referring.{by_id}
use Rattle.wast_expand_inline.proofs.writing.written_count.Given as goal

abbrev pub invariant-loop-field : goal.invariant-loop-field
invariant-loop-field l = l.count ≡ min (length (flat_map (desugar_field by_id) (take l.field-index l.fields))) (2 ^ 64 - 1)
