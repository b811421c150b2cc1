use Rattle.std.proofs.Common.{take, arith, length-take}
use Rattle.std.proofs.lemmas.List.Sums.{count_by-le-length}
use Rattle.wast_base.specs.Lines.{is_line_feed}
use Rattle.wast_script_json.proofs.Places.{feeds_between}
use Rattle.wast_script_json.proofs.lines.Lines.move_on.Goals as goal

pub returns-clause-counts : goal.returns-clause-counts
returns-clause-counts c k =
    let text = c.args.text.now in
    let sum = feeds_between text c.args.self.now.offset c.args.end c.requires.before in
    let few = count_by-le-length is_line_feed (take c.args.end text) in
    let size = length-take c.args.end text in
    record { within = c.requires.within; count = omega (arith, c.saturating_add-self.ensures, c.count_line_feeds-between.ensures, k.count, sum, few, size) }
