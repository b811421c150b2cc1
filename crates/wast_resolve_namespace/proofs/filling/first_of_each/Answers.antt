use Rattle.std.proofs.Common.{◌+◌, ◌<◌, length, sym, ap, ◌∙◌, arith, subst}
use Rattle.std.specs.Ordering.{is_eq}
use Rattle.wast_resolve_namespace.proofs.Firsts.{IsLeft, skip_one, keep_one, all_left}
use Rattle.wast_resolve_namespace.proofs.filling.first_of_each.Goals as goal
use Rattle.wast_resolve_namespace.proofs.filling.first_of_each.Goals.{then-not-is_eq+in_ok-push-2, else-not-is_eq}

pub each-preserved : goal.each-preserved
each-preserved c =
    let es = c.args.pairs.now in
    let n = c.each.t in
    let lt : n < length es = omega arith in
    elim c.if-not-is_eq.branch [
      | then-not-is_eq+in_ok-push-2 w ↦ record {
        begun = omega arith;
        rest = subst (λ xs. IsLeft es xs (n + 1)) (sym (ap (λ v. v.items) w.firsts-is ∙ w.in_ok-push-2.ensures.items))
            (keep_one es c.each.firsts.items n c.each.invariant.begun _ _ _ lt (ap is_eq (sym c.compare_names.ensures) ∙ sym c.is_eq.ensures
            ∙ w.if-not-is_eq.true) c.each.invariant.rest);
      }
      | else-not-is_eq w ↦ record {
        begun = omega arith;
        rest = subst (λ xs. IsLeft es xs (n + 1)) (sym (ap (λ v. v.items) w.firsts-is))
            (skip_one es c.each.firsts.items n c.each.invariant.begun _ _ lt (ap is_eq (sym c.compare_names.ensures) ∙ sym c.is_eq.ensures
            ∙ w.if-not-is_eq.false) c.each.invariant.rest);
      }
    ]

pub returns : goal.returns
returns c = all_left c.args.pairs.now c.each.firsts.items c.each.t c.each.invariant.begun (omega arith) c.each.invariant.rest
