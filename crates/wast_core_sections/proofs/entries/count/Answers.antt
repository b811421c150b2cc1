use Rattle.std.proofs.Common.{◌≡◌, ◌+◌, ◌≤◌, ◌<◌, length, take, sym, subst, arith}
use Rattle.std.specs.List.{flat_map}
use Rattle.std.proofs.lemmas.List.Folds.{length-flat_map-take}
use Rattle.wast_core_sections.specs.Sections.{entries_in}
use Rattle.wast_core_sections.specs.Slots.{section_kind}
use Rattle.wast_core_sections.proofs.entries.count.Goals as goal

pub returns-in_default-clause-none : goal.returns-in_default-clause-none
returns-in_default-clause-none c = λ e lt.
    let xs = c.args.fields.now in
    let i = c.loop-field.field-index in
    let f = entries_in (section_kind c.args.kind) in
    let bound = subst (λ v. length (flat_map f (take i xs)) + length (f v) ≤ length (flat_map f xs)) (sym c.field-item.is)
    (length-flat_map-take f xs i c.field-item.result c.loop-field-test.true) in
    let invariant : c.loop-field.sum ≡ length (flat_map f (take i xs)) = c.loop-field.invariant in
    let counted : c.entries_of.result ≡ length (f c.field-item.result) = c.entries_of.ensures in
    let small : length (flat_map f xs) < 4294967296 = lt in
    let room : c.loop-field.sum + c.entries_of.result < 4294967296 = omega (arith, bound, invariant, counted, small) in
    c.in_default.ensures room
