use Rattle.std.proofs.Common.{sym, ◌∙◌}
use Rattle.wast_core_name_section.specs.WithinItems.{arity_at}
use Rattle.wast_core_name_section.proofs.ListedNames.{params_then, nameless_then, nothing_named}
use Rattle.wast_core_name_section.proofs.within.locals_behind.Goals as goal

pub returns-in-Some : goal.returns-in-Some
returns-in-Some g c =
    rw (c.in-Some.is, c.as_slice-params.ensures) (params_then c.in-Some.inline.params c.args.locals.now)

pub returns-then-not-any_named : goal.returns-then-not-any_named
returns-then-not-any_named g c =
    rw (c.none.ensures, c.in_default.is) (nothing_named (arity_at (g.A.Arities.types c.args.arities.now) c.args.ty.now.index) c.args.locals.now
    (sym c.if-not-any_named.true ∙ c.any_named.ensures))

pub returns-in-Some-arity_at : goal.returns-in-Some-arity_at
returns-in-Some-arity_at g c =
    rw (c.none-in-Some-arity_at.ensures, c.in_default.is, sym c.in-Some-arity_at.ensures) (nameless_then c.in-Some-arity_at.arity c.args.locals.now)
