use Rattle.wast_expand_types.proofs.expansion.expand_with.Goals as goal

pub expand_fields-requires : goal.expand_fields-requires
expand_fields-requires c = c.requires
