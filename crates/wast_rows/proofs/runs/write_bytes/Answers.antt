use Rattle.std.proofs.lemmas.List.{take_rest}
use Rattle.wast_rows.proofs.Writing.{WritesOn-more}
use Rattle.wast_rows.proofs.runs.write_bytes.Goals as goal

pub loop-preserved : goal.loop-preserved
loop-preserved g c =
    let count = c.in_ok-count.count in
    WritesOn-more _ _ _ count _ _ _ c.loop.invariant c.in_ok-count.ensures.ok (take_rest c.loop.rest.now count)
