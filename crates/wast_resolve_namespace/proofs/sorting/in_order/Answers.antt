use Rattle.std.proofs.Common.{◌≡◌, ◌++◌, ◌∙◌, sym, ap, subst, arith, length, take, drop}
use Rattle.std.proofs.Math.Seq.{take-append_seam}
use Rattle.wast_resolve_namespace.specs.Filling.{AreRanked}
use Rattle.wast_resolve_namespace.proofs.sorting.in_order.Goals as goal

pub returns-clause-sorted : goal.returns-clause-sorted
returns-clause-sorted c =
    let pairs = c.put_few_in_order.new.pairs in
    let rest = drop (length pairs) c.args.pairs.items in
    let many : c.args.pairs.len ≡ length pairs = omega arith in
    subst AreRanked (sym (ap (λ n. take n (pairs ++ rest)) many ∙ take-append_seam pairs rest)) c.put_few_in_order.ensures.sorted
