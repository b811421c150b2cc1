use Rattle.std.proofs.Common.{◌≡◌, ◌+◌, ◌∷◌, sym, ap, ◌∙◌, drop, arith}
use Rattle.std.specs.Prelude.{is_some}
use Rattle.wast_base.specs.Blocks.{is_balanced}
use Rattle.wast_tree_nodes.specs.Instrs.{block_of, is_closer, turn_of, block_effects}
use Rattle.wast_tree_visit.proofs.Balancing.{balanced_from, balanced, some_opens, none_stays, none_closes, none_is_open, some_if, turns_from, past, at_the_end}
use Rattle.wast_tree_visit.proofs.clauses.is_balanced.Goals.{then-is_some, else-is_some+then-is_closer+else-open-eq0, else-is_some+else-is_closer}
use Rattle.wast_tree_visit.proofs.clauses.is_balanced.Goals as goal

pub loop-instr-init : goal.loop-instr-init
loop-instr-init c = (balanced (block_effects c.args.instrs.now), omega arith)

pub loop-instr-preserved : goal.loop-instr-preserved
loop-instr-preserved c =
    let is = c.args.instrs.now in
    let n = c.loop-instr.instr-index in
    let i = c.instr-item.result in
    let k = c.loop-instr.open in
    let m = c.if-is_some.open in
    let rest = block_effects (drop (n + 1) is) in
    let opens : is_some (block_of i) ≡ c.is_some.result = some_if _ _ _ c.block_type.ensures ∙ sym c.is_some.ensures in
    let next : balanced_from (turn_of i ∷ rest) k ≡ balanced_from rest m
    → balanced_from rest m ≡ is_balanced (block_effects is) = λ e. past is n i c.loop-instr-test.true c.instr-item.is k m
    (is_balanced (block_effects is)) e c.loop-instr.invariant.0 in
    elim c.if-is_some.branch [
      | then-is_some w ↦ (next (some_opens (is_closer i) rest k m (block_of i) (opens ∙ w.if-is_some.true) (omega arith)), omega arith)
      | else-is_some+then-is_closer+else-open-eq0 w ↦ (
        next (none_closes (is_closer i) rest k m (block_of i) (opens ∙ w.if-is_some.false) (sym w.is_closer.ensures
            ∙ w.if-is_closer.true) (omega arith)),
        omega arith,
      )
      | else-is_some+else-is_closer w ↦ (
        next (none_stays (is_closer i) rest k m (block_of i) (opens ∙ w.if-is_some.false) (sym w.is_closer.ensures
            ∙ w.if-is_closer.false) (omega arith)),
        omega arith,
      )
    ]

pub returns-then-open-eq0 : goal.returns-then-open-eq0
returns-then-open-eq0 c =
    let is = c.args.instrs.now in
    let n = c.loop-instr.instr-index in
    let i = c.instr-item.result in
    let opens : is_some (block_of i) ≡ c.is_some.result = some_if _ _ _ c.block_type.ensures ∙ sym c.is_some.ensures in
    sym (none_is_open (is_closer i) (block_effects (drop (n + 1) is)) c.loop-instr.open (block_of i) (opens
    ∙ c.if-is_some.false) (sym c.is_closer.ensures ∙ c.if-is_closer.true) c.if-open-eq0.true)
    ∙ (ap (λ ts. balanced_from ts c.loop-instr.open) (sym (turns_from is n i c.loop-instr-test.true c.instr-item.is)) ∙ c.loop-instr.invariant.0)

pub returns : goal.returns
returns c = at_the_end c.args.instrs.now c.loop-instr.instr-index c.loop-instr.open
    (is_balanced (block_effects c.args.instrs.now)) c.loop-instr-test.false c.loop-instr.invariant.0
