use Rattle.std.proofs.Common.{◌≡◌, ◌+◌, ◌<◌, suc, length, refl, sym, ap, ◌∙◌, subst, arith, true, false, Some}
use Rattle.std.proofs.lemmas.List.{length-map}
use Rattle.wast_resolve_namespace.specs.Places.{entry_of, entries_of}
use Rattle.wast_resolve_namespace.proofs.LeastTie.{IsLeastTo, least_all, skip_pairs, more_pairs}
use Rattle.wast_resolve_namespace.proofs.Searches.{same_at}
use Rattle.wast_resolve_namespace.proofs.filling.first_tie.Goals as goal
use Rattle.wast_resolve_namespace.proofs.filling.first_tie.Goals.{then-is_same, else-is_same}

pub seek-preserved : goal.seek-preserved
seek-preserved c =
    let es = c.args.pairs.now in
    let n = c.seek.t in
    let is : n + 1 ≡ suc n = omega arith in
    let lt : n + 1 < length es = omega arith in
    elim c.if-is_same.branch [
      | then-is_same w ↦ subst (IsLeastTo (entries_of es) (n + 1)) (ap Some (sym w.lesser.ensures) ∙ sym w.least-is)
          (more_pairs es n (n + 1) c.seek.least _ _ _ _ is lt (same_at es n (n + 1) _ _ true (sym c.is_same.ensures ∙ w.if-is_same.true)) refl c.seek.invariant)
      | else-is_same w ↦ subst (IsLeastTo (entries_of es) (n + 1)) (sym w.least-is)
          (skip_pairs es n (n + 1) c.seek.least _ _ is lt (same_at es n (n + 1) _ _ false (sym c.is_same.ensures ∙ w.if-is_same.false)) c.seek.invariant)
    ]

pub returns : goal.returns
returns c = least_all (entries_of c.args.pairs.now) c.seek.t c.seek.least (omega (arith, length-map c.args.pairs.now entry_of)) c.seek.invariant
