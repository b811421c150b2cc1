use Rattle.wast_core_conv.proofs.Standing.{access_parts}
use Rattle.wast_core_conv.proofs.instr_values.put_access.Goals as goal

pub index-requires : goal.index-requires
index-requires g c = (access_parts c.args.arg.now c.requires).0

pub index-requires-2 : goal.index-requires-2
index-requires-2 g c = (access_parts c.args.arg.now c.requires).1
