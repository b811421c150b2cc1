use Rattle.std.proofs.Common.{◌≡◌, length, refl, ap, ◌∙◌, arith}
use Rattle.std.specs.Prelude.{pos}
use Rattle.wast_core_conv.specs.Values.{i64_bytes}
use Rattle.wast_core_conv.proofs.Arrays.{by_places}
use Rattle.wast_core_conv.proofs.conv_vectors.of_i64x2.Goals as goal

pub returns : goal.returns
returns c =
    let long : length c.args.lanes.now ≡ 2 = omega arith in
    c.of_longs.ensures ∙ (rw (c.long_at.ensures, c.long_at-2.ensures) refl ∙ ap i64_bytes (by_places (pos 0) 2 c.args.lanes.now long))
