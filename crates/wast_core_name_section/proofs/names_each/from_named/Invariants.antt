use Rattle.std.proofs.Common.{◌≡◌, ◌≤◌, ℕ, [], length, take}
use Rattle.std.specs.List.{flat_map}
use Rattle.wast_core_name_section.specs.GivenNames.{named_from}
use Rattle.wast_core_name_section.proofs.names_each.from_named.Given as goal

abbrev pub invariant-loop-i : goal.invariant-loop-i
invariant-loop-i g l = record {
  none : (n : ℕ) → named_from n (flat_map g.T.MayHaveName.names (take l.i l.parts)) ≡ [];
  count : l.before ≡ length (flat_map g.T.MayHaveName.names (take l.i l.parts));
  few : l.before ≤ l.i;
}
