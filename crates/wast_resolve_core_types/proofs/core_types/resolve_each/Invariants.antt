use Rattle.wast_resolve_core_types.specs.CoreTypes.{blank}
use Rattle.wast_resolve_core_types.proofs.CallingEach.{IsCalledOn}
use Rattle.wast_resolve_core_types.proofs.core_types.resolve_each.Given as goal

abbrev pub invariant-loop-i : goal.invariant-loop-i
invariant-loop-i g l = IsCalledOn g.C.ResolveCoreType.needs g.C.ResolveCoreType.called g.T.CoreType.asks
    (g.T.CoreType.changed blank) l.fn.cx l.fn.parts l.cx l.parts l.i
