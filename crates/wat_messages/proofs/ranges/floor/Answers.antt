-- An offset between characters is kept. The test of it is an equivalence, of which tactics need one direction at a time.
use Rattle.std.proofs.Common.{refl, sym, true≢false}
use Rattle.wat_messages.proofs.ranges.floor.Goals as goal

pub returns-then-is_char_boundary : goal.returns-then-is_char_boundary
returns-then-is_char_boundary c = record { kept = λ b. refl; boundary = c.if-is_char_boundary.ensures.test.0 refl }

pub returns : goal.returns
returns c = record {
  kept = λ b. absurd (true≢false (sym (c.if-is_char_boundary.ensures.test.1 b)));
  boundary = c.floor_char_boundary.ensures.boundary;
}
