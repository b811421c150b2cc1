use Rattle.std.proofs.Common.{List, Option, ap, ◌∙◌}
use Rattle.std.specs.Prelude.{slice_get, option_and_then}
use Rattle.wast_script_json.specs.References.{types_in}
use Rattle.wast_script_json.specs.declared.interfaces.Interface.{Interface}
use Rattle.wast_script_json.proofs.References.{looked_up}
use Rattle.wast_script_json.proofs.instances.Instances.types_of.Goals as goal

pub returns : goal.returns
returns c s k =
    let same = ap (λ (xs : List (Option Interface)). option_and_then (slice_get xs) c.instance.result) c.as_slice.ensures.value in
    c.types_in.ensures
    ∙ ap (λ (i : Option (Option Interface)). types_in i c.args.name.now) (c.interface_at-interface.ensures ∙ same
    ∙ looked_up c.args.self.now s _ _ k (c.instance.ensures s.reach k.reach))
