use Rattle.std.proofs.Common.{◌∙◌, sym, subst}
use Rattle.wast_resolve_passes.specs.Standing.{AreNumbers}
use Rattle.wast_resolve_passes.proofs.Tries.{no_names, none_of}
use Rattle.wast_resolve_passes.proofs.instrs.gives_number.Goals as goal

pub returns-then-is_empty : goal.returns-then-is_empty
returns-then-is_empty c h =
    let none = none_of c.args.ty.now.params (sym c.is_empty.ensures ∙ c.if-is_empty.true) in
    no_names c.args.ty.now none (subst AreNumbers c.as_slice.ensures (c.are_numbers.ensures h))
