use Rattle.std.proofs.Common.{◌∙◌, ap, arith, ◌≡◌, ◌+◌}
use Rattle.std.specs.List.{flat_map}
use Rattle.wast_core_name_section.specs.GivenNames.{named_from}
use Rattle.wast_core_name_section.specs.WithinItems.{label_in}
use Rattle.wast_core_name_section.proofs.name_lists.from_first.Goals as goal

pub returns-in-Some : goal.returns-in-Some
returns-in-Some c =
    let rest = c.from_named-before.result.1 in
    let at = c.in-Some.ensures in
    let is : c.in-Some.position ≡ c.in-Labels.first + c.from_named-before.result.0 = omega arith in
    rw c.in-Labels.is (ap (λ n. named_from n (flat_map label_in rest.now)) is ∙ c.from_named-before.ensures c.in-Labels.first)
