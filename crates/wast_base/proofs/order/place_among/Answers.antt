use Rattle.std.proofs.Common.{◌+◌, ◌-◌, ◌/◌, ◌<◌, length, map, sym, ap, ◌∙◌, true, false, arith}
use Rattle.std.specs.Ordering.{is_lt}
use Rattle.wast_base.specs.Ids.{Name, name_of}
use Rattle.wast_base.specs.Order.{key_cmp, key_of}
use Rattle.wast_base.proofs.Searches.{raised, lowered, ended, tested_there, as_many}
use Rattle.wast_base.proofs.order.place_among.Goals as goal

pub halve-init : goal.halve-init
halve-init g c = record {
  order = omega arith;
  within = omega (arith, as_many g.T.Named.name c.args.named.now);
  before = λ j lt. absurd (omega arith);
  behind = λ j le lt. absurd (omega (arith, as_many g.T.Named.name c.args.named.now));
}

pub offset_bounds-named-mid : goal.offset_bounds-named-mid
offset_bounds-named-mid g c = omega (arith, c.halve.invariant.within, c.halve-test.true, as_many g.T.Named.name c.args.named.now)

pub bounds-named-mid : goal.bounds-named-mid
bounds-named-mid g c = omega (arith, c.halve.invariant.within, c.halve-test.true, as_many g.T.Named.name c.args.named.now)

pub halve-preserved-then-is_lt : goal.halve-preserved-then-is_lt
halve-preserved-then-is_lt g c =
    let called = g.T.Named.name in
    let xs = c.args.named.now in
    let name = name_of c.args.id.now in
    let at = c.halve.low + (c.halve.high - c.halve.low) / 2 in
    let many = as_many called xs in
    let lt : at < length xs = omega (arith, c.halve.invariant.within, c.halve-test.true, many) in
    let less = ap (λ (n : Name). is_lt (key_cmp (key_of n) (key_of name))) (sym c.id.ensures) ∙ ap is_lt (sym c.compare_names.ensures)
    ∙ sym c.is_lt.ensures ∙ c.if-is_lt.true in
    record {
      order = omega (arith, c.halve-test.true);
      within = c.halve.invariant.within;
      before = raised (map called xs) name c.requires at (omega (arith, lt, many))
          (tested_there called xs at _ name true lt (ap (λ x. is_lt (key_cmp (key_of (called x)) (key_of name))) (sym c.index-named-mid.is) ∙ less));
      behind = c.halve.invariant.behind;
    }

pub halve-preserved : goal.halve-preserved
halve-preserved g c =
    let called = g.T.Named.name in
    let xs = c.args.named.now in
    let name = name_of c.args.id.now in
    let at = c.halve.low + (c.halve.high - c.halve.low) / 2 in
    let many = as_many called xs in
    let lt : at < length xs = omega (arith, c.halve.invariant.within, c.halve-test.true, many) in
    let less = ap (λ (n : Name). is_lt (key_cmp (key_of n) (key_of name))) (sym c.id.ensures) ∙ ap is_lt (sym c.compare_names.ensures)
    ∙ sym c.is_lt.ensures ∙ c.if-is_lt.false in
    record {
      order = omega arith;
      within = omega (arith, c.halve.invariant.within, c.halve-test.true);
      before = c.halve.invariant.before;
      behind = lowered (map called xs) name c.requires at
          (tested_there called xs at _ name false lt (ap (λ x. is_lt (key_cmp (key_of (called x)) (key_of name))) (sym c.index-named-mid.is) ∙ less));
    }

pub returns : goal.returns
returns g c = ended (map g.T.Named.name c.args.named.now) (name_of c.args.id.now) c.halve.low c.halve.high (omega (arith, c.halve-test.false)) c.halve.invariant
