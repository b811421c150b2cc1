use Rattle.std.proofs.Common.{◌≡◌, drop, map}
use Rattle.wast_valid.specs.Bodies.{violation_in, first_invalid_body}
use Rattle.wast_valid_tree.specs.Values.{instr_of}
use Rattle.wast_valid_tree.proofs.bodies.first_violation_of.Given as goal

abbrev pub invariant-loop-n : goal.invariant-loop-n
invariant-loop-n l = first_invalid_body l.c l.fn.«sig» (map (instr_of l.cs) l.instrs) ≡ violation_in l.c l.n (drop l.n (map (instr_of l.cs) l.instrs)) l.state
