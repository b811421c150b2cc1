use Rattle.std.proofs.Common.{true, refl}
use Rattle.wast_core_conv.proofs.EachPasses.{both_true, all_pass}
use Rattle.wast_core_conv.proofs.segment_values.ResolvedEncodeWithData.spell.Goals as goal

pub encode-requires : goal.encode-requires
encode-requires g c = both_true _ _ c.data_mode_of.ensures.ready (all_pass (λ v. true) c.as_slice.result.now (λ v. refl))
