-- The goals of `number_at` that tactics leave open, closed by lemmas of Numbers.
use Rattle.std.proofs.Common.{◌-◌, arith}
use Rattle.wat.proofs.Numbers.{bounded, last_small}
use Rattle.wat.proofs.sections.+number_at.Goals as goal

pub returns-then-byte-lt128-clause-small : goal.returns-then-byte-lt128-clause-small
returns-then-byte-lt128-clause-small t c = last_small c.args.most c.from.result (grind arith) (grind arith)

pub overflow_mul-result : goal.overflow_mul-result
overflow_mul-result t c =
    let low = bounded (c.args.most - 1) c.in_ok-number.number (grind arith) c.in_ok-number.ensures.small in
    omega arith

pub overflow_add-result : goal.overflow_add-result
overflow_add-result t c =
    let low = bounded (c.args.most - 1) c.in_ok-number.number (grind arith) c.in_ok-number.ensures.small in
    grind arith
