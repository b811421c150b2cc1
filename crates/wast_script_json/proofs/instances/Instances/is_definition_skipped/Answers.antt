use Rattle.std.proofs.Common.{List, Option, ap, ◌∙◌}
use Rattle.std.specs.Prelude.{slice_get, option_and_then}
use Rattle.wast_script_json.specs.References.{skips}
use Rattle.wast_script_json.specs.declared.interfaces.Interface.{Interface}
use Rattle.wast_script_json.proofs.References.{looked_up}
use Rattle.wast_script_json.proofs.instances.Instances.is_definition_skipped.Goals as goal

pub returns : goal.returns
returns c s k =
    let same = ap (λ (xs : List (Option Interface)). option_and_then (slice_get xs) c.definition.result) c.as_slice.ensures.value in
    c.skips.ensures ∙ ap skips (c.interface_at.ensures ∙ same ∙ looked_up c.args.self.now s _ _ k (c.definition.ensures s.reach k.reach))
