-- The goals of `without_names` that tactics leave open, closed by lemmas of Kept.
use Rattle.std.proofs.Common.{rules, ◌-◌, length, arith}
use Rattle.wat.specs.Sections.{without_names}
use Rattle.wat.proofs.Kept.{one_kept, none_left, no_section}
use Rattle.wat.proofs.sections.without_names.Goals as goal
use Rattle.wat.proofs.sections.without_names.Goals.{else-loop-test, then-loop-test+in_default-section_length}

pub loop-preserved : goal.loop-preserved
loop-preserved c = (
  grind arith,
  one_kept (length c.in-Some.sections.now) c.loop.counter c.in-Some-section_length.length
      (without_names c.args.bytes.now) c.loop.kept.items c.keep_section.new.kept.items
      c.split_at.result.0.now c.loop.rest.now c.split_at.result.1.now (grind arith) (search rules) c.split_at.ensures.front c.split_at.ensures.back
      c.in_ok-keep_section.ensures c.loop.invariant.1,
)

pub returns : goal.returns
returns c = elim c.loop-test.branch [
  | else-loop-test w ↦ none_left (length c.in-Some.sections.now) c.loop.counter
      (without_names c.args.bytes.now) c.loop.kept.items c.extend_from_slice-2.new.self.items c.loop.rest.now
      (grind arith) (search rules) c.loop.invariant.1
  | then-loop-test+in_default-section_length w ↦
      no_section (length c.in-Some.sections.now - c.loop.counter)
      (without_names c.args.bytes.now) c.loop.kept.items c.extend_from_slice-2.new.self.items c.loop.rest.now
      (search rules) (search rules) c.loop.invariant.1
]
