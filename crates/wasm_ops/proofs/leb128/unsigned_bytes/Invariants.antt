use Rattle.std.proofs.Common.{◌≡◌, ◌≤◌, ◌+◌, ◌++◌, take, length}
use Rattle.wasm_ops.specs.Leb128.{unsigned}
use Rattle.wasm_ops.proofs.leb128.unsigned_bytes.Given as goal

abbrev pub invariant-digits : goal.invariant-digits
invariant-digits l = record {
  told : take l.len l.bytes ++ unsigned l.rest ≡ unsigned l.n;
  long : length l.bytes ≡ 10;
  room : l.len + length (unsigned l.rest) ≤ 10;
}

abbrev pub decreases-digits : goal.decreases-digits
decreases-digits l = l.rest
