use Rattle.std.proofs.Common.{◌≡◌, ◌≤◌, ◌<◌, ◌+◌, length, vec_len, vec_capacity}
use Rattle.wasm_ops.specs.Leb128.{unsigned}
use Rattle.wasm_ops.specs.SinkLaws.{with_number}
use Rattle.wasm_ops.proofs.leb128.set_unsigned.Given as goal

abbrev pub invariant-digits : goal.invariant-digits
invariant-digits l = record {
  told : with_number l.out.items l.place l.rest ≡ with_number l.fn.out.items l.at l.n;
  within : l.place < vec_len l.out;
  room : vec_len l.out + length (unsigned l.rest) ≤ vec_capacity l.out + 1;
  capacity : vec_capacity l.fn.out ≤ vec_capacity l.out;
}

abbrev pub decreases-digits : goal.decreases-digits
decreases-digits l = l.rest
