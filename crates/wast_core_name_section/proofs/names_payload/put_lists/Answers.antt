use Rattle.std.proofs.Common.{◌≡◌, length, subst, sym}
use Rattle.std.specs.List.{flat_map}
use Rattle.wasm_ops.specs.Sinks.{Writes}
use Rattle.wasm_out.specs.NameSectionBytes.{map_entry}
use Rattle.wast_core_name_section.specs.GivenNames.{named_from}
use Rattle.wast_core_name_section.specs.FoundNames.{saturated_count, map_bytes, InRangeMap}
use Rattle.wast_core_name_section.proofs.names_payload.put_lists.Goals as goal

pub put_map-requires : goal.put_map-requires
put_map-requires g c =
    subst (λ fs. c.args.count ≡ saturated_count
    (length (named_from 0 (flat_map (g.T.PutLists.lists (flat_map g.T.FieldTypes.types fs) c.args.within) c.args.there.now))))
    (sym c.new-arities.ensures) c.requires.count

pub returns : goal.returns
returns g c =
    let lists = named_from 0 (flat_map (g.T.PutLists.lists (flat_map g.T.FieldTypes.types c.args.fields.now) c.args.within) c.args.there.now) in
    subst (λ id. Writes g.S.Sink.rules (InRangeMap (λ x. (map_entry x).bytes) (λ x. (map_entry x).in_range) lists) c.args.out.now c.put_map.new.out
    (map_bytes id (λ x. (map_entry x).bytes) lists) c.put_map.result) c.id_within-id.ensures
    (subst (λ fs. let es = named_from 0 (flat_map (g.T.PutLists.lists (flat_map g.T.FieldTypes.types fs) c.args.within) c.args.there.now)
    in Writes g.S.Sink.rules (InRangeMap (λ x. (map_entry x).bytes) (λ x. (map_entry x).in_range) es) c.args.out.now c.put_map.new.out
    (map_bytes c.id_within-id.result (λ x. (map_entry x).bytes) es) c.put_map.result) c.new-arities.ensures c.put_map.ensures)
