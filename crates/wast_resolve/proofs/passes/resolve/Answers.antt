use Rattle.wast_resolve.proofs.passes.resolve.Goals as goal

pub resolve_with-requires : goal.resolve_with-requires
resolve_with-requires c h = absurd (cc h)
