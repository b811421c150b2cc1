use Rattle.std.proofs.Common.{inl}
use Rattle.wat_bytes.proofs.SourceIds as ids
use Rattle.wat_bytes.proofs.names.listed.Goals as goal

pub returns-in-Ok : goal.returns-in-Ok
returns-in-Ok c =
    ids.listed c.args.«module».now c.resolved.new.«module».kind c.in-Ok.names _
    c.requires.ready c.in-Ok.ensures.left c.of_module.ensures.list c.of_module.ensures.refusal

pub returns-in-Err : goal.returns-in-Err
returns-in-Err c = inl c.in-Err.ensures.answer
