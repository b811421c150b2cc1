use Rattle.wast_core_conv.specs.Encodable.{is_encodable_field}
use Rattle.wast_tree_nodes.specs.Customs.{customs_in}
use Rattle.wast_core_sections.proofs.Putting.{no_custom_elsewhere}
use Rattle.wast_tree_nodes.specs.Kinds.{is_of}
use Rattle.wast_tree_nodes.specs.declared.kinds.FieldKind.TheVariants as kind
use Rattle.wast_core_ranges.proofs.Reaching.{all_there, all_pass_there, is_inside_of}
use Rattle.wast_core_sections.proofs.customs.custom_fields.Goals as goal

pub of-requires : goal.of-requires
of-requires c = is_inside_of (is_of (kind.Custom c.args.place)) c.args.fields.now c.of_kind.result (c.of_kind.ensures c.args.fields.now c.requires)

pub returns-clause-same : goal.returns-clause-same
returns-clause-same c =
    let fields = c.args.fields.now in
    let place = c.args.place in
    rw c.of.ensures (all_there (customs_in place) (is_of (kind.Custom place)) fields c.of_kind.result (no_custom_elsewhere place)
    (c.of_kind.ensures fields c.requires))

pub returns-clause-ready : goal.returns-clause-ready
returns-clause-ready c h =
    let fields = c.args.fields.now in
    let place = c.args.place in
    rw c.of.ensures (all_pass_there is_encodable_field fields c.of_kind.result (is_inside_of (is_of (kind.Custom place)) fields c.of_kind.result
    (c.of_kind.ensures fields c.requires)) h)
