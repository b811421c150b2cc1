-- The worked examples, computed.
use Rattle.std.proofs.Common.{refl}
use Rattle.wasm_ops.specs.Leb128.{unsigned, unsigned_in, signed, signed_in}
use Rattle.wast_base.specs.Blocks.{stays_open}
use Rattle.wasm_out.specs.WorkedBytes.{RunsOfLocals, Spelled, ItemsSpelled, SegmentsSpelled, ProducersSpelled, HintsSpelled}
use Rattle.wasm_out.specs.WorkedInstrs.{InstrsSpelled, BodySpelled, ExpressionSpelled, AreNoExpressions}

pub runs_of_locals : RunsOfLocals
unfolding unsigned unsigned_in
runs_of_locals = refl

pub worked_module : Spelled
unfolding unsigned unsigned_in
worked_module = refl

pub worked_items : ItemsSpelled
unfolding unsigned unsigned_in signed signed_in
worked_items = refl

pub worked_segments : SegmentsSpelled
unfolding unsigned unsigned_in signed signed_in
worked_segments = refl

pub worked_producers : ProducersSpelled
unfolding unsigned unsigned_in
worked_producers = refl

pub worked_hints : HintsSpelled
unfolding unsigned unsigned_in
worked_hints = refl

pub worked_instrs : InstrsSpelled
unfolding unsigned unsigned_in signed signed_in
worked_instrs = refl

pub nested_body : BodySpelled
unfolding unsigned unsigned_in
nested_body = refl

pub worked_expression : ExpressionSpelled
unfolding signed signed_in stays_open
worked_expression = record { balanced = refl; bytes = refl }

pub no_expressions : AreNoExpressions
unfolding stays_open
no_expressions = record { unclosed = refl; unopened = refl; delegated = refl }
