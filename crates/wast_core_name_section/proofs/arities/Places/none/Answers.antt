use Rattle.std.proofs.Common.{arith, length-set}
use Rattle.std.proofs.lemmas.List.{get_or-set_same}
use Rattle.wast_core_name_section.proofs.arities.Places.none.Goals as goal

pub returns-clause-room : goal.returns-clause-room
returns-clause-room c = omega (arith, length-set c.args.room.now 0 0, c.requires)

pub returns-clause-before : goal.returns-clause-before
returns-clause-before c = get_or-set_same c.args.room.now 0 0 0 c.requires
