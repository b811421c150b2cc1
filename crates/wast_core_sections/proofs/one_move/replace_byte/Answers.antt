use Rattle.std.proofs.Common.{◌+◌, ◌≡◌, ◌∙◌, length, arith}
use Rattle.wasm_ops.specs.Leb128.{unsigned}
use Rattle.wasm_ops.proofs.Numbers.{unsigned-nonempty}
use Rattle.wast_core_sections.proofs.OneMove.{over_room}
use Rattle.wast_core_sections.proofs.one_move.replace_byte.Goals as goal

pub returns-then-make_room-clause-replaced : goal.returns-then-make_room-clause-replaced
returns-then-make_room-clause-replaced c =
    let more = c.saturating_sub-more.result in
    let wide : more + 1 ≡ length (unsigned c.args.n) = omega (arith, c.width.ensures, c.saturating_sub-more.ensures, unsigned-nonempty c.args.n) in
    let moved = c.make_room.ensures.moved c.if-make_room.true in
    λ yes. c.overwrite.ensures ∙ over_room c.args.out.now.items c.make_room.new.out.items c.args.at c.args.n more wide moved.0 moved.1
