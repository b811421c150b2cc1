use Rattle.std.specs.Prelude.{⊤, ◌∷◌, [], ◌+◌, length}
use Rattle.std.proofs.Common.{None, sym, subst}
use Rattle.wast_base.specs.declared.faults.Error.{Error}
use Rattle.wast_base.specs.Faults.{diagnostic_of}
use Rattle.wast_resolve_rules.specs.Demands.{HasMany, Answers}
use Rattle.wast_resolve_rules.proofs.Counted.{many_one}
use Rattle.wast_resolve_passes.proofs.instrs.open_label.Goals as goal

pub returns-then-is_full-clause-walks : goal.returns-then-is_full-clause-walks
returns-then-is_full-clause-walks c names =
    let n = length c.args.labels.now + 1 in
    subst (λ (e : Error). Answers ⊤ (HasMany (n ∷ [])) (diagnostic_of e) None) (sym c.refusal.ensures) (many_one n (c.is_full.ensures.0 c.if-is_full.true))
