use Rattle.std.proofs.Common.{◌≡◌, ◌++◌, drop, length}
use Rattle.wast_expand_types.proofs.expansion.push_each.Given as goal

abbrev pub invariant-loop-i : goal.invariant-loop-i
invariant-loop-i l = record {
  len : length l.more ≡ length l.fn.more;
  list : l.fields ++ drop l.i l.more ≡ l.fn.fields ++ l.fn.more;
}
