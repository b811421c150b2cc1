-- The scope of a thread, inside the one before it.
use Rattle.std.proofs.Common.{List, [], ◌∷◌, ◌++◌, refl, sym, ap, ◌∙◌, subst}
use Rattle.wast_script_json.specs.References.{shared_as, sharing}
use Rattle.wast_script_json.specs.Known.{Reaches}
use Rattle.wast_script_json.specs.declared.instances.Scope.{Scope}
use Rattle.wast_script_json.proofs.References.{one_thread}
use Rattle.wast_script_json.proofs.instances.Instances.enter.Goals as goal

pub returns : goal.returns
returns c =
    one_thread c.args.self.now _ c.args.shared c.instance-number.result refl c.instance-number.ensures
    (subst (λ (d : Scope). Reaches d (sharing (shared_as c.args.shared c.instance-number.result))) (sym c.replace-outer.ensures.after) c.in_ok-scope.ensures)
    (c.push_reserved.ensures.items ∙ ap (λ (cs : List Scope). cs ++ c.replace-outer.result ∷ []) c.reserve.ensures.items
    ∙ ap (λ (d : Scope). c.args.self.now.outer.items ++ d ∷ []) c.replace-outer.ensures.value)
