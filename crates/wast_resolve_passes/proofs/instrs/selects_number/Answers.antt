use Rattle.std.proofs.Common.{sym, subst}
use Rattle.wast_resolve_passes.specs.Standing.{AreNumbers, SelectsNumber}
use Rattle.wast_resolve_passes.proofs.Tries.{selects_some}
use Rattle.wast_resolve_passes.proofs.instrs.selects_number.Goals as goal

pub returns-in-Some : goal.returns-in-Some
returns-in-Some c h =
    let numbers = subst AreNumbers c.as_slice.ensures (c.are_numbers.ensures h) in
    subst SelectsNumber (λ i. record { tys = (sym c.in-Some.is) i }) (selects_some c.in-Some.written numbers)
