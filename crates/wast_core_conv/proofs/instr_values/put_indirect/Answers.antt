use Rattle.wast_core_conv.proofs.Ready.{indirect_ready}
use Rattle.wast_core_conv.proofs.instr_values.put_indirect.Goals as goal

pub type_index-requires : goal.type_index-requires
type_index-requires g c = (indirect_ready c.args.call.now c.requires).1

pub index-requires : goal.index-requires
index-requires g c = (indirect_ready c.args.call.now c.requires).0
