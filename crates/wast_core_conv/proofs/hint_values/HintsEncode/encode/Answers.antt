use Rattle.std.proofs.Common.{ℕ, List, ◌+◌, length, take, drop, get_or, sym, ◌∙◌, inr}
use Rattle.std.specs.List.{flat_map, list_all}
use Rattle.std.proofs.lemmas.List.{get_or_default}
use Rattle.std.proofs.lemmas.List.Folds.{length-flat_map-take}
use Rattle.std.proofs.lemmas.Result.{err_from_is_err_and}
use Rattle.wasm_ops.proofs.Sinking.{cut_back, one_item_more}
use Rattle.wasm_out.specs.Hints.{branch_hint}
use Rattle.wast_tree_nodes.specs.Sites.{in_local}
use Rattle.wast_core_conv.specs.Tree.{BranchHint}
use Rattle.wast_core_conv.specs.Encodable.{are_encodable, is_encodable_instr}
use Rattle.wast_core_conv.specs.Hints.{as_branch_hint, InRangeHintOf, InRangeHintsOf}
use Rattle.wast_core_conv.specs.Meaning as meaning
use Rattle.wast_core_conv.proofs.EachPasses.{both_pass}
use Rattle.wast_core_conv.proofs.Hinting.{hint_stands, stand_sooner, between_ready, counted_before, hint_written, if_no_error, written_in_range}
use Rattle.wast_core_conv.proofs.hint_values.HintsEncode.encode.Goals as goal

pub returns-in_err-before : goal.returns-in_err-before
returns-in_err-before g c =
    let p = err_from_is_err_and c.from_residual.result c.from_residual.ensures.1 in
    let is = c.in_err-before.ensures.err in
    rw (p.1, p.2) (g.met.S.Sink.laws.none c.args.out.now, inr (is.0, λ h. is.1 h.0))

pub put_hint-result-requires-clause-instrs : goal.put_hint-result-requires-clause-instrs
put_hint-result-requires-clause-instrs g c =
    let s = c.args.self.now in
    let none : BranchHint = record { instr_index = 0; value = 0 } in
    let it = hint_stands (length s.instrs.now) c.loop-hint.next s.hints.now c.loop-hint.hint-index none c.loop-hint-test.true c.loop-hint.invariant.standing in
    let ready = both_pass (list_all is_encodable_instr s.instrs.now) _ (both_pass (list_all (λ l. are_encodable (in_local l)) s.locals.now) _ c.requires).1 in
    between_ready s.instrs.now c.loop-hint.next (get_or s.hints.now c.loop-hint.hint-index none).instr_index it.behind ready.0

pub returns-then-is_err : goal.returns-then-is_err
returns-then-is_err g c =
    let rules = g.S.Sink.rules in
    let s = c.args.self.now in
    let xs = s.hints.now in
    let k = c.loop-hint.hint-index in
    let n = c.loop-hint.next in
    let none : BranchHint = record { instr_index = 0; value = 0 } in
    let it = get_or xs k none in
    let body = meaning.body_of s.locals.now s.instrs.now in
    let f : BranchHint → List ℕ = λ h. (branch_hint (as_branch_hint body h)).bytes in
    let i = c.loop-hint.invariant in
    let stands = hint_stands (length s.instrs.now) n xs k none c.loop-hint-test.true i.standing in
    let one = hint_written rules c.loop-hint.out c.put_hint-result.new.out s.locals.now s.instrs.now it n c.loop-hint.before c.put_hint-result.result
    stands.behind i.counted i.first c.put_hint-result.ensures.written in
    cut_back rules (InRangeHintsOf body xs) (InRangeHintOf body it) c.args.out.now c.loop-hint.out c.put_hint-result.new.out c.cut.new.self
    (flat_map f (take k xs)) (f it) (flat_map f xs) c.size-start.result c.put_hint-result.result
    g.met.S.Sink.laws (length-flat_map-take f xs k none c.loop-hint-test.true) (λ t. t.1 k none c.loop-hint-test.true) i.told one
    (sym c.is_err.ensures.value ∙ c.if-is_err.true) c.size-start.ensures c.cut.ensures

pub loop-hint-preserved : goal.loop-hint-preserved
loop-hint-preserved g c =
    let rules = g.S.Sink.rules in
    let s = c.args.self.now in
    let xs = s.hints.now in
    let k = c.loop-hint.hint-index in
    let n = c.loop-hint.next in
    let none : BranchHint = record { instr_index = 0; value = 0 } in
    let it = get_or xs k none in
    let body = meaning.body_of s.locals.now s.instrs.now in
    let f : BranchHint → List ℕ = λ h. (branch_hint (as_branch_hint body h)).bytes in
    let i = c.loop-hint.invariant in
    let good = sym c.is_err.ensures.value ∙ c.if-is_err.false in
    let stands = hint_stands (length s.instrs.now) n xs k none c.loop-hint-test.true i.standing in
    let one = hint_written rules c.loop-hint.out c.put_hint-result.new.out s.locals.now s.instrs.now it n c.loop-hint.before c.put_hint-result.result
    stands.behind i.counted i.first c.put_hint-result.ensures.written in
    let more = one_item_more rules f (InRangeHintOf body) c.args.out.now c.loop-hint.out c.put_hint-result.new.out xs k it c.put_hint-result.result
    g.met.S.Sink.laws c.loop-hint-test.true (get_or_default xs k none it c.loop-hint-test.true) i.told i.fitting one good in
    record {
      told = more.0;
      fitting = more.1;
      at = i.at;
      counted = if_no_error _ c.put_hint-result.result good c.put_hint-result.ensures.counted
          ∙ counted_before s.locals.now s.instrs.now n it.instr_index c.loop-hint.before stands.behind i.counted;
      first = (written_in_range rules (InRangeHintOf body it) c.loop-hint.out c.put_hint-result.new.out (f it) c.put_hint-result.result one good).0;
      standing = stand_sooner (length s.instrs.now) it.instr_index (drop (k + 1) xs) stands.rest;
    }
