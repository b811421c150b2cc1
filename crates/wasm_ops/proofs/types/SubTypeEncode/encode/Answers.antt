use Rattle.std.proofs.Common.{true, refl}
use Rattle.wasm_ops.proofs.Sinking.{all_covered}
use Rattle.wasm_ops.proofs.types.SubTypeEncode.encode.Goals as goal

pub encode-requires : goal.encode-requires
encode-requires g c = rw (all_covered (λ _. true) c.as_slice.result.now (λ x. refl)) c.requires

pub encode-requires-2 : goal.encode-requires-2
encode-requires-2 g c = rw (all_covered (λ _. true) c.as_slice.result.now (λ x. refl)) c.requires
