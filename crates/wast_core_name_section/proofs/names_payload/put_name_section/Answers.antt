use Rattle.std.proofs.Common.{◌∷◌, ◌++◌, subst}
use Rattle.std.specs.List.{flat_map}
use Rattle.wasm_ops.specs.Sinks.{Writes}
use Rattle.wasm_ops.specs.Spelling.{length_prefixed, InRangeSized}
use Rattle.wast_core_name_section.specs.FoundNames.{text_seen}
use Rattle.wast_core_name_section.specs.ModuleNames.{module_name, name_maps}
use Rattle.wast_core_name_section.specs.NamesPart.{payload_of, InRangePayload}
use Rattle.wast_core_name_section.proofs.NameMaps.{name_section_written}
use Rattle.wast_core_name_section.proofs.names_payload.put_name_section.Goals as goal

pub returns : goal.returns
returns g c =
    let rules = g.S.Sink.rules in
    let ys = module_name (text_seen c.args.name) in
    subst (λ fs. let all = ys ++ flat_map (g.T.PutNames.names fs) name_maps
    in Writes rules (InRangeSized InRangePayload payload_of all) c.args.out.now c.encode.new.out (0 ∷ length_prefixed payload_of all) c.encode.result)
    c.new-way.ensures
    (name_section_written (g.T.PutNames.names c.new-way.result.fields.now) ys name_maps rules c.args.out.now c.encode.new.out c.encode.result c.encode.ensures)
