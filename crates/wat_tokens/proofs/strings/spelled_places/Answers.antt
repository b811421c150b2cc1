-- Closes the ways out of the loop, and its rounds, by the lemma on each: `spelled` hides the text that the lemmas name.
use Rattle.std.proofs.Common.{◌∙◌, ◌-◌, ◌+◌, arith}
use Rattle.wat_tokens.specs.Strings.{spelled}
use Rattle.wat_tokens.proofs.Elements.{spelled_more, spelled_none, spelled_all}
use Rattle.wat_tokens.proofs.strings.spelled_places.Goals as goal

pub loop-preserved : goal.loop-preserved
loop-preserved c = record {
  all = spelled_more (spelled c.args.count c.args.at c.args.text.now) c.loop.places.items c.element_places.new.places.items c.loop.rest.now c.in-Ok.more.now
      (c.args.count - c.loop.counter) (c.args.count - (c.loop.counter + 1)) c.loop.place c.place_after-place.result
      (omega (arith, c.loop-test.true)) c.place_after-place.ensures c.in-Ok.ensures.places c.loop.invariant.all;
  fits = omega (arith, c.place_after-place.ensures, c.in-Ok.ensures.shorter, c.loop.invariant.fits);
}

pub returns-in_default : goal.returns-in_default
returns-in_default c =
    let none = c.in-Err.ensures.places c.in_default.not-Memory in
    none.1 ∙ spelled_none (spelled c.args.count c.args.at c.args.text.now) c.loop.places.items c.loop.rest.now
    (c.args.count - c.loop.counter) (c.args.count - (c.loop.counter + 1)) c.loop.place
    (omega (arith, c.loop-test.true)) none.0 c.loop.invariant.all

pub returns : goal.returns
returns c = spelled_all (spelled c.args.count c.args.at c.args.text.now) c.loop.places.items c.loop.rest.now (c.args.count - c.loop.counter) c.loop.place
    (omega (arith, c.loop-test.false)) c.loop.invariant.all
