use Rattle.std.proofs.Common.{append-nil}
use Rattle.wast_rows.proofs.Writing.{if_raised, EndedWriter-nil, EndedWriter-next, StopsWriter-next}
use Rattle.wast_rows.proofs.runs.feed.Goals as goal

pub loop-byte-init : goal.loop-byte-init
loop-byte-init g c = rw (append-nil c.args.pending.now.items) (EndedWriter-nil _ _ _ c.requires.still_open)

pub loop-byte-preserved : goal.loop-byte-preserved
loop-byte-preserved g c = EndedWriter-next _ _ _ _ _ c.loop-byte.byte-index _ _ _ c.loop-byte-test.true c.loop-byte.invariant c.in_ok-take_byte.ensures.ok

pub returns-in_err-take_byte-clause-err : goal.returns-in_err-take_byte-clause-err
returns-in_err-take_byte-clause-err g c =
    if_raised c.from_residual.result _ c.in_err-take_byte.field-0.0 c.from_residual.ensures.1
    (StopsWriter-next _ _ _ _ c.loop-byte.byte-index _ _ _ _ c.loop-byte-test.true c.loop-byte.invariant c.in_err-take_byte.ensures.err)
