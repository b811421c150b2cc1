use Rattle.std.proofs.Common.{◌≡◌, length, refl, ap, ◌∙◌, arith}
use Rattle.std.specs.Prelude.{pos}
use Rattle.wast_core_conv.specs.Values.{i16_bytes}
use Rattle.wast_core_conv.proofs.Arrays.{by_places}
use Rattle.wast_core_conv.proofs.conv_vectors.of_i16x8.Goals as goal

pub returns : goal.returns
returns c =
    let long : length c.args.lanes.now ≡ 8 = omega arith in
    rw (
      c.to_le_bytes.ensures,
      c.to_le_bytes-2.ensures,
      c.to_le_bytes-3.ensures,
      c.to_le_bytes-4.ensures,
      c.to_le_bytes-5.ensures,
      c.to_le_bytes-6.ensures,
      c.to_le_bytes-7.ensures,
      c.to_le_bytes-8.ensures,
      c.half_at.ensures,
      c.half_at-2.ensures,
      c.half_at-3.ensures,
      c.half_at-4.ensures,
      c.half_at-5.ensures,
      c.half_at-6.ensures,
      c.half_at-7.ensures,
      c.half_at-8.ensures,
    ) refl
    ∙ ap i16_bytes (by_places (pos 0) 8 c.args.lanes.now long)
