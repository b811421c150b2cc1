use Rattle.std.proofs.Common.{arith}
use Rattle.wast_core_ranges.proofs.Reaching.{first_alone, other_alone, both_within, reach_parts}
use Rattle.wast_core_ranges.proofs.stretches.FieldRange.union.Goals as goal

pub returns-then-self-eq0 : goal.returns-then-self-eq0
returns-then-self-eq0 c p q fields h k = other_alone p q fields c.args.self c.args.other c.if-self-eq0.true h k

pub returns-then-other-eq0 : goal.returns-then-other-eq0
returns-then-other-eq0 c p q fields h k = first_alone p q fields c.args.self c.args.other c.if-other-eq0.true h k

pub returns : goal.returns
returns c p q fields h k =
    let inside = (reach_parts p fields c.args.self h).inside in
    let also = (reach_parts q fields c.args.other k).inside in
    both_within p q fields c.args.self c.args.other c.min.result c.max.result (omega (arith, c.min.ensures)) (omega (arith, c.min.ensures))
    (omega (arith, c.max.ensures)) (omega (arith, c.max.ensures)) (omega (arith, c.max.ensures, inside, also)) h k
