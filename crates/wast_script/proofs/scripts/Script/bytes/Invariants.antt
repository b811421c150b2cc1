-- The loop of `bytes`: the bytes so far are those of the strings so far.
use Rattle.std.proofs.Common.{◌≡◌, take}
use Rattle.wast_script.specs.Scripts.{joined_bytes}
use Rattle.wast_script.proofs.scripts.Script.bytes.Given as goal

abbrev pub invariant-loop-placed : goal.invariant-loop-placed
invariant-loop-placed l = l.bytes.items ≡ joined_bytes (take l.placed-index l.tokens)
