use Rattle.wast_resolve.proofs.passes.resolve_with.Goals as goal

pub resolve_fields-requires : goal.resolve_fields-requires
resolve_fields-requires c = c.requires
