use Rattle.wast_core_conv.proofs.Spelled.{and_true}
use Rattle.wast_core_conv.proofs.values.ResolvedEncodeWithTypeUseFunctionType.spell.Goals as goal

pub type_index-requires : goal.type_index-requires
type_index-requires g c = and_true _ c.requires
