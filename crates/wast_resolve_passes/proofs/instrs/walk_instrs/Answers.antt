use Rattle.std.specs.Prelude.{⊤}
use Rattle.std.proofs.Common.{arith, ◌≤◌, ◌<◌, length, take, subst, ◌≡◌, ◌∙◌, None, refl, ap}
use Rattle.std.proofs.lemmas.Result.{err_from_is_err_and}
use Rattle.wast_base.specs.Faults.{diagnostic_of}
use Rattle.wast_tree_map.specs.Mapped.{mapped_instr}
use Rattle.wast_tree_nodes.specs.Sites.{BodyContext, in_instr, in_instrs}
use Rattle.wast_resolve_rules.specs.Demands.{first_unmet, site_demands, open_counts, HasMany, Answers}
use Rattle.wast_resolve_passes.specs.Standing.{context_of}
use Rattle.wast_resolve_rules.specs.Resolved.{numbering_change}
use Rattle.wast_resolve_names.specs.Resolvers.{scope_of}
use Rattle.wast_resolve_passes.proofs.Moving.{stands_by}
use Rattle.wast_resolve_names.proofs.Parts.{more_answers}
use Rattle.wast_resolve_passes.proofs.Stepping.{along_more, along_tried, partway_more, partway_tried, partway_stops, partway_many, all_met, all_become}
use Rattle.wast_resolve_passes.proofs.instrs.walk_instrs.Goals as goal

pub returns : goal.returns
returns c l numbers =
    let p = c.loop-i.invariant.1 l numbers in
    let le : length c.args.instrs.now ≤ c.loop-i.i = omega (arith, c.loop-i-test.false, c.len-i-end.ensures) in
    (all_met p le, all_become p le)

pub loop-i-preserved-then-try_instr : goal.loop-i-preserved-then-try_instr
loop-i-preserved-then-try_instr c =
    let s = c.args.labels.now in
    let sc = scope_of c.args.names.now in
    let x = c.at_mut.result.now in
    let lt : c.loop-i.i < length c.args.instrs.now = omega (arith, c.loop-i-test.true, c.len-i-end.ensures) in
    let along = c.loop-i.invariant.0 in (
      along_more c.try_instr.new.instr along lt c.at_mut.ensures.value c.if-try_instr.ensures.blocks,
      λ l numbers.
          let h = context_of l s in
          let there = stands_by l s (in_instrs h (take c.loop-i.i c.args.instrs.now)) c.loop-i.labels (along.moved l) in
          let done = subst (λ (g : BodyContext). (first_unmet (site_demands sc (in_instr g x)) ≡ None) ×
          (c.try_instr.new.instr ≡ mapped_instr (numbering_change sc) g x)) there (c.if-try_instr.ensures.walks l numbers) in
          partway_more (c.loop-i.invariant.1 l numbers) lt c.at_mut.ensures.value done.0 done.1,
    )

pub returns-in_err-walk_instr : goal.returns-in_err-walk_instr
returns-in_err-walk_instr c l numbers =
    let s = c.args.labels.now in
    let h = context_of l s in
    let sc = scope_of c.args.names.now in
    let e = diagnostic_of c.in_err-walk_instr.field-0.0 in
    let x = c.at_mut-in-loop-i.result.now in
    let lt : c.loop-i.i < length c.args.instrs.now = omega (arith, c.loop-i-test.true, c.len-i-end.ensures) in
    let p = partway_tried (c.loop-i.invariant.1 l numbers) c.at_mut.ensures.value (c.if-try_instr.ensures.stays refl) in
    let still = c.reach_labels.ensures ∙ c.if-try_instr.ensures.blocks in
    let there = ap (context_of l) still ∙ stands_by l s (in_instrs h (take c.loop-i.i c.args.instrs.now)) c.loop-i.labels (c.loop-i.invariant.0.moved l) in
    let failed = subst (λ (g : BodyContext). Answers ⊤ (HasMany (open_counts (in_instr g x))) e (first_unmet (site_demands sc (in_instr g x)))) there
    (c.in_err-walk_instr.ensures.walks l numbers) in
    let q = err_from_is_err_and c.from_residual-in_err-walk_instr.result c.from_residual-in_err-walk_instr.ensures.1 in
    rw (q.1, q.2) (partway_stops p lt c.at_mut-in-loop-i.ensures.value ⊤ (HasMany (open_counts (in_instrs h c.args.instrs.now))) e
    (more_answers ⊤ _ _ e _ (partway_many p lt c.at_mut-in-loop-i.ensures.value) failed))

pub loop-i-preserved : goal.loop-i-preserved
loop-i-preserved c =
    let s = c.args.labels.now in
    let sc = scope_of c.args.names.now in
    let x = c.at_mut-in-loop-i.result.now in
    let lt : c.loop-i.i < length c.args.instrs.now = omega (arith, c.loop-i-test.true, c.len-i-end.ensures) in
    let same = c.if-try_instr.ensures.stays refl in
    let along = along_tried c.loop-i.invariant.0 c.at_mut.ensures.value same (c.reach_labels.ensures ∙ c.if-try_instr.ensures.blocks) in (
      along_more c.walk_instr.new.instr along lt c.at_mut-in-loop-i.ensures.value c.in_ok-walk_instr.ensures.blocks,
      λ l numbers.
          let h = context_of l s in
          let there = stands_by l s (in_instrs h (take c.loop-i.i c.args.instrs.now)) c.reach_labels.new.labels (along.moved l) in
          let done = subst (λ (g : BodyContext). (first_unmet (site_demands sc (in_instr g x)) ≡ None) ×
          (c.walk_instr.new.instr ≡ mapped_instr (numbering_change sc) g x)) there (c.in_ok-walk_instr.ensures.walks l numbers) in
          partway_more (partway_tried (c.loop-i.invariant.1 l numbers) c.at_mut.ensures.value same) lt c.at_mut-in-loop-i.ensures.value done.0 done.1,
    )

pub at_mut-requires : goal.at_mut-requires
at_mut-requires c = omega (arith, c.loop-i.invariant.0.len, c.loop-i-test.true, c.len-i-end.ensures)

pub at_mut-requires-in-loop-i : goal.at_mut-requires-in-loop-i
at_mut-requires-in-loop-i c =
    let along = along_tried c.loop-i.invariant.0 c.at_mut.ensures.value (c.if-try_instr.ensures.stays refl) c.if-try_instr.ensures.blocks in
    omega (arith, along.len, c.loop-i-test.true, c.len-i-end.ensures)
