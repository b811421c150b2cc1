use Rattle.std.proofs.Common.{◌∙◌, sym, ap, arith}
use Rattle.std.proofs.lemmas.List.{take_all}
use Rattle.wast_tree_nodes.specs.Kinds.{is_of}
use Rattle.wast_core_ranges.specs.FieldRanges.{is_reach, reach_of}
use Rattle.wast_core_ranges.proofs.Found.{none_found, all_found}
use Rattle.wast_core_ranges.proofs.finding.FieldRanges.of.Goals as goal

pub loop-i-init : goal.loop-i-init
loop-i-init c k = none_found k

pub returns : goal.returns
returns c =
    let fields = c.args.fields.now in
    let rs = c.loop-i.reaches in
    let all = take_all c.loop-i.i fields (omega (arith, c.loop-i-test.false)) in
    all_found fields rs (λ k. ap (λ xs. is_reach (is_of k) xs (reach_of rs k)) (sym all) ∙ c.loop-i.invariant k)
