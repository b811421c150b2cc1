use Rattle.wast_expand_types.proofs.binding.bind_func.Goals as goal

pub bind_outside-requires : goal.bind_outside-requires
bind_outside-requires c = c.requires c.if-skips_bodies.true
