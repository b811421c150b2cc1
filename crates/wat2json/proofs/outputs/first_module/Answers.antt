-- The first of the modules that are left, if there are any.
use Rattle.std.proofs.Common.{true, sym, ap, ◌∙◌}
use Rattle.std.proofs.lemmas.List.{nil_from_length}
use Rattle.wast_script_json.specs.Files.{module_for, modules_after}
use Rattle.wat2json.proofs.outputs.first_module.Goals as goal

pub returns-in-Some : goal.returns-in-Some
returns-in-Some c = record { first = ap (module_for true) (sym c.in-Some.ensures.cases.0); rest = ap (modules_after true) (sym c.in-Some.ensures.cases.0) }

pub returns-in-None : goal.returns-in-None
returns-in-None c =
    let none = nil_from_length c.args.modules.now c.in-None.ensures.cases in
    record { first = ap (module_for true) (sym none); rest = none ∙ ap (modules_after true) (sym none) }
