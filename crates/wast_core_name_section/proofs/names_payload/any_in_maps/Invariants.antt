use Rattle.std.proofs.Common.{◌≡◌, [], take}
use Rattle.std.specs.List.{flat_map}
use Rattle.wast_core_name_section.specs.ModuleNames.{map_names}
use Rattle.wast_core_name_section.proofs.names_payload.any_in_maps.Given as goal

abbrev pub invariant-loop-i : goal.invariant-loop-i
invariant-loop-i l = flat_map (map_names l.fields) (take l.i l.maps) ≡ []
