use Rattle.std.proofs.Common.{◌≡◌, drop}
use Rattle.wast_valid.specs.Bodies.{violation_in, first_invalid_body}
use Rattle.wast_valid.proofs.body.first_violation.Given as goal

abbrev pub invariant-loop-n : goal.invariant-loop-n
invariant-loop-n l = first_invalid_body l.c l.fn.«sig» l.instrs ≡ violation_in l.c l.n (drop l.n l.instrs) l.state
