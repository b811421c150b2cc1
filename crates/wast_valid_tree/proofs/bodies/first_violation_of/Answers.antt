use Rattle.std.proofs.Common.{◌≡◌, length, map, sym, ◌∙◌, arith}
use Rattle.std.proofs.lemmas.Result.{IfOk-weaker}
use Rattle.wast_valid.specs.Bodies.{IsFound, first_invalid_body}
use Rattle.wast_valid.proofs.Runs.{one_valid, one_found, end_valid, end_found}
use Rattle.wast_valid_tree.specs.Values.{instr_of}
use Rattle.wast_valid_tree.proofs.Mapped.{mapped_at, mapped_lt, mapped_le}
use Rattle.wast_valid_tree.proofs.bodies.first_violation_of.Goals as goal

pub loop-n-preserved : goal.loop-n-preserved
loop-n-preserved c =
    let f = instr_of c.args.cs.now in
    let lt = mapped_lt f c.args.instrs.now c.loop-n.n c.loop-n-test.true in
    let here = mapped_at f c.args.instrs.now c.loop-n.n c.index-instrs-n.result c.in-Ok-instr_for.one c.loop-n-test.true c.index-instrs-n.is c.in-Ok-instr_for.ensures in
    c.loop-n.invariant ∙ one_valid c.args.c.now (map f c.args.instrs.now) c.loop-n.n c.in-Ok-instr_for.one lt here c.loop-n.state c.check_one.new.state c.in-Ok-check_one.ensures.ok

pub returns-in-Err-check_one : goal.returns-in-Err-check_one
returns-in-Err-check_one c =
    let f = instr_of c.args.cs.now in
    let lt = mapped_lt f c.args.instrs.now c.loop-n.n c.loop-n-test.true in
    let here = mapped_at f c.args.instrs.now c.loop-n.n c.index-instrs-n.result c.in-Ok-instr_for.one c.loop-n-test.true c.index-instrs-n.is c.in-Ok-instr_for.ensures in
    IfOk-weaker c.found.result (λ v. IsFound c.loop-n.n c.in-Err-check_one.stop v) (λ v. v ≡ first_invalid_body c.args.c.now c.args.«sig» (map f c.args.instrs.now))
    (λ v h. one_found c.args.c.now (map f c.args.instrs.now) c.loop-n.n c.in-Ok-instr_for.one lt here c.loop-n.state c.in-Err-check_one.stop c.in-Err-check_one.ensures.err v h ∙ sym c.loop-n.invariant)
    c.found.ensures

pub returns-in-Ok-check_end : goal.returns-in-Ok-check_end
returns-in-Ok-check_end c =
    let f = instr_of c.args.cs.now in
    sym (c.loop-n.invariant ∙ end_valid c.args.c.now (map f c.args.instrs.now) c.loop-n.n (mapped_le f c.args.instrs.now c.loop-n.n c.loop-n-test.false) c.loop-n.state c.check_end.new.state c.in-Ok-check_end.ensures.ok)

pub returns : goal.returns
returns c =
    let f = instr_of c.args.cs.now in
    IfOk-weaker c.found-in-Err-check_end.result (λ v. IsFound (length c.args.instrs.now) c.in-Err-check_end.stop v) (λ v. v ≡ first_invalid_body c.args.c.now c.args.«sig» (map f c.args.instrs.now))
    (λ v h. end_found c.args.c.now (map f c.args.instrs.now) c.loop-n.n (mapped_le f c.args.instrs.now c.loop-n.n c.loop-n-test.false) c.loop-n.state (length c.args.instrs.now) (omega (arith, c.loop-n.auto.n-end, c.loop-n-test.false)) c.in-Err-check_end.stop c.in-Err-check_end.ensures.err v h ∙ sym c.loop-n.invariant)
    c.found-in-Err-check_end.ensures
