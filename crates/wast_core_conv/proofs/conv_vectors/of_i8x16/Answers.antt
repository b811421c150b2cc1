use Rattle.std.proofs.Common.{◌≡◌, length, refl, ap, ◌∙◌, arith}
use Rattle.std.specs.Prelude.{pos}
use Rattle.wast_core_conv.specs.Values.{i8_bytes}
use Rattle.wast_core_conv.proofs.Arrays.{by_places}
use Rattle.wast_core_conv.proofs.conv_vectors.of_i8x16.Goals as goal

pub returns : goal.returns
returns c =
    let long : length c.args.lanes.now ≡ 16 = omega arith in
    rw (
      c.byte_at.ensures,
      c.byte_at-2.ensures,
      c.byte_at-3.ensures,
      c.byte_at-4.ensures,
      c.byte_at-5.ensures,
      c.byte_at-6.ensures,
      c.byte_at-7.ensures,
      c.byte_at-8.ensures,
      c.byte_at-9.ensures,
      c.byte_at-10.ensures,
      c.byte_at-11.ensures,
      c.byte_at-12.ensures,
      c.byte_at-13.ensures,
      c.byte_at-14.ensures,
      c.byte_at-15.ensures,
      c.byte_at-16.ensures,
    ) refl ∙ ap i8_bytes (by_places (pos 0) 16 c.args.lanes.now long)
