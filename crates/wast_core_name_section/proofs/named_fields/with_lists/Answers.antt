use Rattle.wast_core_name_section.specs.FieldsWithNames.{has_lists}
use Rattle.wast_core_name_section.specs.WithinItems.{lists_within}
use Rattle.wast_core_name_section.proofs.FieldsWithoutNames.{no_lists_elsewhere}
use Rattle.wast_core_ranges.proofs.Reaching.{all_there, is_inside_of}
use Rattle.wast_core_name_section.proofs.named_fields.with_lists.Goals as goal

pub of-requires : goal.of-requires
of-requires c = is_inside_of (has_lists c.args.within) c.args.fields.now c.reach_within.result (c.reach_within.ensures c.args.fields.now c.requires)

pub returns : goal.returns
returns c =
    let w = c.args.within in
    let fields = c.args.fields.now in
    rw c.of.ensures (λ types. all_there (lists_within types w) (has_lists w) fields c.reach_within.result (no_lists_elsewhere types w)
    (c.reach_within.ensures fields c.requires))
