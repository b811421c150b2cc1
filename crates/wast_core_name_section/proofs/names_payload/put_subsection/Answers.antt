use Rattle.std.proofs.Common.{subst, refl}
use Rattle.wasm_ops.specs.Sinks.{Writes}
use Rattle.wasm_out.specs.NameSectionBytes.{subsection_id, map_entry, name_entry}
use Rattle.wast_core_name_section.specs.GivenNames.{named_from}
use Rattle.wast_core_name_section.specs.FoundNames.{map_bytes, InRangeMap}
use Rattle.wast_core_name_section.specs.ModuleNames.{named_of, named_items, named_within, named_lists}
use Rattle.wast_core_name_section.specs.WithinItems.{types_of}
use Rattle.wast_core_name_section.proofs.NameMaps.{direct_written, indirect_written}
use Rattle.wast_core_name_section.proofs.names_payload.put_subsection.Goals as goal

pub returns-in-Items : goal.returns-in-Items
returns-in-Items g c =
    let rules = g.S.Sink.rules in
    let space = c.in-Items.space in
    let id = c.id_of.result in
    rw c.in-Items.is (direct_written rules c.args.out.now c.put_counted_map.new.out (named_of space)
    (named_items space c.args.fields.now) id c.put_counted_map.result c.id_of.ensures
    (subst (λ xs. Writes rules (InRangeMap (λ x. (name_entry x).bytes) (λ x. (name_entry x).in_range)
    (named_from 0 xs)) c.args.out.now c.put_counted_map.new.out (map_bytes id (λ x. (name_entry x).bytes) (named_from 0 xs)) c.put_counted_map.result)
    c.with_items-there.ensures c.put_counted_map.ensures))

pub returns-in-Within : goal.returns-in-Within
returns-in-Within g c =
    let rules = g.S.Sink.rules in
    let w = c.in-Within.within in
    let fields = c.args.fields.now in
    let r = c.put_lists.result in
    let id = subsection_id (named_within w) in
    rw c.in-Within.is (indirect_written rules c.args.out.now c.put_lists.new.out (named_within w) (named_lists w fields) id r refl
    (subst (λ xs. Writes rules (InRangeMap (λ x. (map_entry x).bytes) (λ x. (map_entry x).in_range)
    (named_from 0 xs)) c.args.out.now c.put_lists.new.out (map_bytes id (λ x. (map_entry x).bytes) (named_from 0 xs)) r)
    (c.with_lists-there.ensures (types_of fields)) c.put_lists.ensures))
