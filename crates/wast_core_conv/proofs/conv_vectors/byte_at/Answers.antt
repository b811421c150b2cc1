use Rattle.std.proofs.Common.{rules, get_or}
use Rattle.std.specs.Prelude.{pos}
use Rattle.std.specs.Int.{w8}
use Rattle.std.proofs.lemmas.Int.{to_z-of_z}
use mir.Val.{SFits}
use Rattle.wast_core_conv.proofs.conv_vectors.byte_at.Goals as goal

pub returns : goal.returns
returns c =
    let fits : SFits w8 (get_or c.args.lanes.now c.args.i (pos 0)) = search rules in
    search (rules, to_z-of_z, c.cast_unsigned.ensures)
