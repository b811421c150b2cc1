use Rattle.std.proofs.Common.{◌∙◌, sym, ap, nat_lt, length, arith}
use Rattle.std.specs.List.{flat_map}
use Rattle.std.proofs.lemmas.List.{take_all}
use Rattle.wast_core_name_section.specs.ModuleNames.{map_names}
use Rattle.wast_core_name_section.proofs.Each.{some_of_each, none_of_each}
use Rattle.wast_core_name_section.proofs.NameMaps.{first_map}
use Rattle.wast_core_name_section.proofs.names_payload.any_in_maps.Goals as goal

pub returns-then-any_in_map : goal.returns-then-any_in_map
returns-then-any_in_map c =
    some_of_each (map_names c.args.fields.now) c.args.maps.now c.loop-i.i first_map (omega arith) (sym c.any_in_map.ensures ∙ c.if-any_in_map.true)

pub loop-i-preserved : goal.loop-i-preserved
loop-i-preserved c =
    none_of_each (map_names c.args.fields.now) c.args.maps.now c.loop-i.i first_map (omega arith) c.loop-i.invariant (sym c.any_in_map.ensures
    ∙ c.if-any_in_map.false)

pub returns : goal.returns
returns c =
    let f = map_names c.args.fields.now in
    ap (λ es. nat_lt 0 (length es)) (sym (ap (flat_map f) (sym (take_all c.loop-i.i c.args.maps.now c.loop-i-test.false)) ∙ c.loop-i.invariant))
