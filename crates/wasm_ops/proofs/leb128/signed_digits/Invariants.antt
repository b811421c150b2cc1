use Rattle.std.proofs.Common.{◌≡◌, ◌≤◌, ◌+◌, ◌++◌, take, length}
use Rattle.wasm_ops.specs.Leb128.{digits}
use Rattle.wasm_ops.proofs.leb128.signed_digits.Given as goal

abbrev pub invariant-digits : goal.invariant-digits
invariant-digits l = record {
  told : take l.len l.bytes ++ digits l.negative l.rest ≡ digits l.negative l.n;
  long : length l.bytes ≡ 10;
  room : l.len + length (digits l.negative l.rest) ≤ 10;
}

abbrev pub decreases-digits : goal.decreases-digits
decreases-digits l = l.rest
