use Rattle.wast_core_conv.proofs.Spelled.{and_true}
use Rattle.wast_core_conv.proofs.section_items.FuncSectionTySectionItem.encode.Goals as goal

pub type_index-requires : goal.type_index-requires
type_index-requires c = and_true _ c.requires
