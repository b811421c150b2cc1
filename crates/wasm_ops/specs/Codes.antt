-- Spellings that show their value: no spelling begins another.
use Rattle.std.specs.Prelude.{◌≡◌, ℕ, List, ◌++◌}
use Rattle.wasm_ops.specs.Spelling.{Encoding, Spellable}

-- each spelling shows its value, and where it ends
pub record IsCode (A : Type 0) (InRange : A → Type 0) (spell : A → List ℕ) : Type 0 where
  pub begins : (x y : A) (r s : List ℕ) → InRange x → InRange y → spell x ++ r ≡ spell y ++ s → (x ≡ y) × (r ≡ s)

-- The bytes of each value that the encoder can write show that value, and where they end.
abbrev pub IsPrefixCode : {A : Type 0} → (A → Encoding) → Type 0
IsPrefixCode {A} encoding = IsCode A (λ x. Spellable (encoding x)) (λ x. (encoding x).bytes)

-- each whole spelling shows its value
pub record IsWhole (A : Type 0) (InRange : A → Type 0) (spell : A → List ℕ) : Type 0 where
  pub same : (x y : A) → InRange x → InRange y → spell x ≡ spell y → x ≡ y
