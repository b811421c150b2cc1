use Rattle.wast_expand_types.proofs.Halfway.{IsHalfway}
use Rattle.wast_expand_types.proofs.binding.bind_each.Given as goal

abbrev pub invariant-loop-i : goal.invariant-loop-i
invariant-loop-i g l = IsHalfway g.T.Bind.needed g.T.Bind.bound l.fn.parts l.parts l.i l.fn.binder l.binder
