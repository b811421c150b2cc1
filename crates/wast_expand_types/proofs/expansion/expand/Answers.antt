use Rattle.wast_expand_types.proofs.expansion.expand.Goals as goal

pub expand_with-requires : goal.expand_with-requires
expand_with-requires c h = absurd (cc h)
