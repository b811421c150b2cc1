use Rattle.std.proofs.Common.{◌≡◌, length, refl, ap, ◌∙◌, arith}
use Rattle.std.specs.Prelude.{pos}
use Rattle.wast_core_conv.specs.Values.{i32_bytes}
use Rattle.wast_core_conv.proofs.Arrays.{by_places}
use Rattle.wast_core_conv.proofs.conv_vectors.of_i32x4.Goals as goal

pub returns : goal.returns
returns c =
    let long : length c.args.lanes.now ≡ 4 = omega arith in
    c.of_words.ensures ∙ (rw (c.word_at.ensures, c.word_at-2.ensures, c.word_at-3.ensures, c.word_at-4.ensures) refl
    ∙ ap i32_bytes (by_places (pos 0) 4 c.args.lanes.now long))
