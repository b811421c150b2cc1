use Rattle.std.proofs.Common.{◌≡◌, ◌<◌, ◌≤◌, ◌+◌, ◌-◌, ◌*◌, ◌^◌, length, take}
use Rattle.std.specs.List.{flat_map}
use Rattle.wast_core_name_section.proofs.Checkpoints.{IsFilled}
use Rattle.wast_core_name_section.proofs.arities.Places.of.Given as goal

abbrev pub invariant-loop-i : goal.invariant-loop-i
invariant-loop-i g l = record {
  filled : IsFilled g.T.FieldTypes.types l.fields l.first l.every l.count l.room;
  next : l.next < 2 ^ 64 - 1 → l.next ≡ l.first + l.count * l.every;
  sum : l.sum < 2 ^ 64 - 1 → l.sum ≡ length (flat_map g.T.FieldTypes.types (take l.i l.fields));
  inside : l.i ≤ l.end;
}
