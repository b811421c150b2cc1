use Rattle.std.proofs.Common.{◌≡◌, ◌≤◌, ◌<◌, ◌+◌, length, vec_len}
use Rattle.wasm_ops.specs.Leb128.{unsigned}
use Rattle.wast_core_sections.proofs.OneMove.{overwritten}
use Rattle.wast_core_sections.proofs.one_move.overwrite.Given as goal

abbrev pub invariant-digits : goal.invariant-digits
invariant-digits l = record {
  told : overwritten l.out.items l.place l.rest ≡ overwritten l.fn.out.items l.at l.n;
  there : l.place < vec_len l.out;
  within : l.place + length (unsigned l.rest) ≤ vec_len l.out;
}

abbrev pub decreases-digits : goal.decreases-digits
decreases-digits l = l.rest
