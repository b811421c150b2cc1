use Rattle.std.proofs.Common.{◌≡◌, ◌+◌, ◌<◌, length, take, ap, ◌∙◌, arith}
use Rattle.std.proofs.lemmas.List.{take_all}
use Rattle.wast_core_sections.specs.Hints.{functions_in, hinted_functions}
use Rattle.wast_core_name_section.specs.GivenNames.{named_from}
use Rattle.wast_core_sections.proofs.Hinting.{hinted_more, hinted_at_most}
use Rattle.wast_core_sections.proofs.hints.count.Goals as goal

pub returns-in_default-clause-none : goal.returns-in_default-clause-none
returns-in_default-clause-none c = λ e lt.
    let xs = c.args.fields.now in
    let k = c.loop-field.field-index in
    let x = c.field-item.result in
    let few : length (hinted_functions xs) < 4294967296 = lt in
    let counted : c.hinted_in.result ≡ length (named_from 0 (functions_in x)) = c.hinted_in.ensures in
    let invariant : c.loop-field.sum ≡ length (hinted_functions (take k xs)) = c.loop-field.invariant in
    let room : c.loop-field.sum + c.hinted_in.result < 4294967296 =
    omega (arith, few, counted, invariant, hinted_at_most xs k x c.loop-field-test.true c.field-item.is) in
    c.in_default.ensures room

pub loop-field-preserved : goal.loop-field-preserved
loop-field-preserved c =
    omega (
      arith,
      c.in-Some.ensures,
      c.hinted_in.ensures,
      c.loop-field.invariant,
      hinted_more c.args.fields.now c.loop-field.field-index
          c.field-item.result c.loop-field-test.true c.field-item.is,
    )

pub returns-clause-some : goal.returns-clause-some
returns-clause-some c =
    c.loop-field.invariant ∙ ap (λ xs. length (hinted_functions xs))
    (take_all c.loop-field.field-index c.args.fields.now (omega (arith, c.loop-field-test.false)))
