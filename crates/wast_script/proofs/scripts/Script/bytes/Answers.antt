-- The goals of `bytes` that tactics leave open, closed by lemmas of Joining.
use Rattle.std.proofs.Common.{◌∙◌, ap}
use Rattle.wast_script.specs.Scripts.{part}
use Rattle.wast_script.proofs.Joining.{joined_next, joined_all}
use Rattle.wast_script.proofs.scripts.Script.bytes.Goals as goal

pub loop-placed-preserved : goal.loop-placed-preserved
loop-placed-preserved c = joined_next c.part_of-tokens.result.now c.loop-placed.placed-index _
    c.loop-placed.bytes.items c.string_of.result.now c.extend_from_slice.new.self.items
    c.loop-placed-test.true c.loop-placed.invariant c.string_of.ensures c.in_ok-extend_from_slice.ensures.items

pub returns : goal.returns
returns c = record {
  strings = joined_all c.args.self.now.tokens.items c.part_of-tokens.result.now c.args.module.now.strings c.loop-placed.placed-index c.loop-placed.bytes.items
      (c.part_of-tokens.ensures ∙ ap (part c.args.module.now.strings) c.as_slice.ensures.value) c.loop-placed-test.false c.loop-placed.invariant;
}
