-- Closes both bounds: the leading zeros are counted from the highest bit.
use Rattle.std.proofs.Common.{suc, ◌-◌, ◌<◌, ◌≤◌, subst, arith}
use Rattle.std.specs.Prelude.{◌^◌}
use lib.Count.{leading_top, count_leading_zeros}
use Rattle.wat_tokens.proofs.floats.width_of.Goals as goal

pub returns-clause-from : goal.returns-clause-from
returns-clause-from c =
    let t = leading_top 64 c.args.number c.requires c.ranges.number.fits in
    subst (λ j. 2 ^ j ≤ c.args.number) {x = t.0} {y = 64 - count_leading_zeros 64 c.args.number - 1} (omega (arith, t.1)) t.2

pub returns-clause-below : goal.returns-clause-below
returns-clause-below c =
    let t = leading_top 64 c.args.number c.requires c.ranges.number.fits in
    subst (λ j. c.args.number < 2 ^ j) {x = suc t.0} {y = 64 - count_leading_zeros 64 c.args.number} (omega (arith, t.1)) t.3
