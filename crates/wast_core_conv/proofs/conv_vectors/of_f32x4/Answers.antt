use Rattle.std.proofs.Common.{◌≡◌, length, ap, ◌∙◌, arith}
use Rattle.wast_core_conv.specs.Values.{f32_bytes}
use Rattle.wast_core_conv.proofs.Arrays.{by_places}
use Rattle.wast_core_conv.proofs.conv_vectors.of_f32x4.Goals as goal

pub returns : goal.returns
returns c =
    let long : length c.args.lanes.now ≡ 4 = omega arith in
    c.of_words.ensures ∙ (ap f32_bytes (by_places (record { bits = 0 }) 4 c.args.lanes.now long))
