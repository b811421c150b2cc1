use Rattle.std.proofs.Common.{◌≡◌, length, ap, ◌∙◌, arith}
use Rattle.wast_core_conv.specs.Values.{f64_bytes}
use Rattle.wast_core_conv.proofs.Arrays.{by_places}
use Rattle.wast_core_conv.proofs.conv_vectors.of_f64x2.Goals as goal

pub returns : goal.returns
returns c =
    let long : length c.args.lanes.now ≡ 2 = omega arith in
    c.of_longs.ensures ∙ (ap f64_bytes (by_places (record { bits = 0 }) 2 c.args.lanes.now long))
