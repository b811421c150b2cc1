use Rattle.wast_core_conv.specs.Encodable.{is_encodable_field}
use Rattle.wast_core_sections.specs.Sections.{entries_in}
use Rattle.wast_core_sections.specs.Putting.{can_contribute}
use Rattle.wast_core_sections.specs.Slots.{section_kind}
use Rattle.wast_core_sections.proofs.Putting.{nothing_elsewhere}
use Rattle.wast_core_ranges.proofs.Reaching.{all_there, all_pass_there, is_inside_of}
use Rattle.wast_core_sections.proofs.entries.section_fields.Goals as goal

pub of-requires : goal.of-requires
of-requires c = is_inside_of (can_contribute (section_kind c.args.kind)) c.args.fields.now c.reach_of.result (c.reach_of.ensures c.args.fields.now c.requires)

pub returns-clause-same : goal.returns-clause-same
returns-clause-same c =
    let k = section_kind c.args.kind in
    let fields = c.args.fields.now in
    rw c.of.ensures (all_there (entries_in k) (can_contribute k) fields c.reach_of.result (nothing_elsewhere k) (c.reach_of.ensures fields c.requires))

pub returns-clause-ready : goal.returns-clause-ready
returns-clause-ready c h =
    let fields = c.args.fields.now in
    rw c.of.ensures (all_pass_there is_encodable_field fields c.reach_of.result
    (is_inside_of (can_contribute (section_kind c.args.kind)) fields c.reach_of.result (c.reach_of.ensures fields c.requires)) h)
