-- The bytes of numbers that have two.
use Rattle.std.proofs.Common.{◌≡◌, ◌<◌, ◌≤◌, ◌+◌, ◌/◌, ◌%◌, ℕ, Bool, [], ◌∷◌, ap, ◌∙◌, arith}
use Rattle.wasm_ops.specs.Leb128.{unsigned, complement_if, digits}
use Rattle.wasm_ops.proofs.Numbers.{unsigned-small, unsigned-large}
use Rattle.wasm_ops.proofs.SignedNumbers.{digits-small, digits-large}

-- 300 is 0xac 0x02
pub unsigned-two : (n : ℕ) → 128 ≤ n → n < 16384 → unsigned n ≡ (128 + n % 128) ∷ n / 128 ∷ []
unsigned-two n large small =
    let last : n / 128 < 128 = omega (arith, small) in
    unsigned-large n large ∙ ap (λ bs. (128 + n % 128) ∷ bs) (unsigned-small (n / 128) last)

-- -300 is 0xd4 0x7d
pub digits-two : (negative : Bool) (n : ℕ) → 64 ≤ n → n < 8192
    → digits negative n ≡ (128 + complement_if negative (n % 128)) ∷ complement_if negative (n / 128) ∷ []
digits-two negative n large small =
    let last : n / 128 < 64 = omega (arith, small) in
    digits-large negative n large ∙ ap (λ bs. (128 + complement_if negative (n % 128)) ∷ bs) (digits-small negative (n / 128) last)
