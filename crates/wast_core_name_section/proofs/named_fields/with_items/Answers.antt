use Rattle.wast_core_name_section.specs.FieldsWithNames.{has_items}
use Rattle.wast_core_name_section.specs.ModuleNames.{names_given}
use Rattle.wast_core_name_section.proofs.FieldsWithoutNames.{no_items_elsewhere}
use Rattle.wast_core_ranges.proofs.Reaching.{all_there, is_inside_of}
use Rattle.wast_core_name_section.proofs.named_fields.with_items.Goals as goal

pub of-requires : goal.of-requires
of-requires c = is_inside_of (has_items c.args.space) c.args.fields.now c.reach_of_space.result (c.reach_of_space.ensures c.args.fields.now c.requires)

pub returns : goal.returns
returns c =
    let s = c.args.space in
    let fields = c.args.fields.now in
    rw c.of.ensures (all_there (names_given s) (has_items s) fields c.reach_of_space.result (no_items_elsewhere s) (c.reach_of_space.ensures fields c.requires))
