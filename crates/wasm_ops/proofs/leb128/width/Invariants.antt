use Rattle.std.proofs.Common.{◌≡◌, ◌≤◌, ◌+◌, length}
use Rattle.wasm_ops.specs.Leb128.{unsigned}
use Rattle.wasm_ops.proofs.leb128.width.Given as goal

abbrev pub invariant-digits : goal.invariant-digits
invariant-digits l = record {
  told : l.len + length (unsigned l.rest) ≡ length (unsigned l.n) + 1;
  room : length (unsigned l.n) ≤ 10;
}

abbrev pub decreases-digits : goal.decreases-digits
decreases-digits l = l.rest
