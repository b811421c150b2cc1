use Rattle.std.proofs.Common.{take, drop}
use Rattle.wast_tree_nodes.specs.declared.kinds.FieldKind.TheVariants as kind
use Rattle.wast_core_ranges.proofs.Reaching.{reach_parts}
use Rattle.wast_core_name_section.specs.FieldsWithNames.{is_either}
use Rattle.wast_core_name_section.specs.WithinItems.{types_within}
use Rattle.wast_core_name_section.proofs.Checkpoints.{tells_first}
use Rattle.wast_core_name_section.proofs.FieldsWithoutNames.{no_types}
use Rattle.wast_core_name_section.proofs.names_payload.places_of.Goals as goal

pub returns-then-asked_fields-eq0 : goal.returns-then-asked_fields-eq0
returns-then-asked_fields-eq0 c =
    tells_first types_within c.args.fields.now c.none.result c.none.new.room c.none.ensures.first c.none.ensures.count c.none.ensures.total
    c.none.ensures.room c.none.ensures.before

pub of-requires-clause-inside : goal.of-requires-clause-inside
of-requires-clause-inside c =
    let parts = reach_parts (is_either kind.Ty kind.Rec) c.args.fields.now c.reach_of_types-reach.result
    (c.reach_of_types-reach.ensures c.args.fields.now c.requires.reaches) in
    (parts.ordered, parts.inside)

pub of-requires-clause-front : goal.of-requires-clause-front
of-requires-clause-front c =
    let parts = reach_parts (is_either kind.Ty kind.Rec) c.args.fields.now c.reach_of_types-reach.result
    (c.reach_of_types-reach.ensures c.args.fields.now c.requires.reaches) in
    no_types (take c.reach_of_types-reach.result.first c.args.fields.now) parts.before

pub of-requires-clause-back : goal.of-requires-clause-back
of-requires-clause-back c =
    let parts = reach_parts (is_either kind.Ty kind.Rec) c.args.fields.now c.reach_of_types-reach.result
    (c.reach_of_types-reach.ensures c.args.fields.now c.requires.reaches) in
    no_types (drop c.reach_of_types-reach.result.end c.args.fields.now) parts.behind
