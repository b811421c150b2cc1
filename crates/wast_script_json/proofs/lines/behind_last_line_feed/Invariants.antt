use Rattle.std.proofs.Common.{◌≡◌, ◌≤◌, length, ◌+◌, take}
use Rattle.wast_base.specs.Lines.{behind_last}
use Rattle.wast_script_json.proofs.lines.behind_last_line_feed.Given as goal

abbrev pub invariant-loop-start : goal.invariant-loop-start
invariant-loop-start l = (l.start ≤ length l.bytes) × (l.start + behind_last l.bytes ≡ length l.bytes + behind_last (take l.start l.bytes))

abbrev pub decreases-loop-start : goal.decreases-loop-start
decreases-loop-start l = l.start
