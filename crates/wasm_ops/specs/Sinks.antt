-- The contract of a writer: it appends all of its bytes to the sink, or none.
--
-- Each sink has rules (SinkRules), so that one contract fits a vector, a count, reserved memory and a user-defined
-- sink. Writes is the contract of calls that return a Refusal, and Puts that of calls that return an Error.
--
--   Writes rules (InRangeU32 n) old new (unsigned n) result
--       Ok: `new` is `old` with the bytes of n after it, and n has at most 32 bits
--       Err: `new` has no more bytes than `old`; so many do not fit, or n is out of range (E10)
use Rattle.std.specs.Prelude.{◌≡◌, ◌⊎◌, ◌+◌, ◌-◌, ◌≤◌, ℕ, Bool, true, false, List, [], ◌∷◌, ◌++◌, length, Result, Ok, Err}
use Rattle.wast_base.specs.declared.faults.Error.{Error}
use Rattle.wast_base.specs.Faults.{too_large, out_of_memory}
use Rattle.wasm_ops.specs.Leb128.{unsigned}
use Rattle.wasm_ops.specs.declared.sink.Refusal.{Refusal}
use Rattle.wasm_ops.specs.declared.sink.Refusal.TheVariants as refusal

-- The rules of a sink: what it contains, what fits, and its error.
pub record SinkRules (S : Type 0) : Type 1 where
  -- The second sink is the first with these bytes appended.
  pub appended : S → S → List ℕ → Type 0
  -- A sufficient condition for so many more bytes to be accepted.
  pub fits : S → ℕ → Type 0
  -- How many bytes are in it.
  pub size_of : S → ℕ
  -- The second sink is the first, cut to that size.
  pub is_cut : S → ℕ → S → Type 0
  -- The second sink is the first, with the byte at that position replaced by the encoding of a number.
  pub is_set : S → ℕ → ℕ → S → Type 0
  -- The error if bytes do not fit.
  pub refusal : Refusal

-- The error that a refusal is converted to: E10 or E12.
abbrev pub refused_as : Refusal → Error
refused_as refusal.TooLarge = too_large
refused_as refusal.Memory = out_of_memory

-- The reason why nothing was appended: the bytes do not fit, or a number, count or length is out of range.
abbrev pub IsRefusal : {S : Type 0} → SinkRules S → S → ℕ → Type 0 → Refusal → Type 0
IsRefusal rules old count in_range r =
    ((r ≡ rules.refusal) × (rules.fits old count → ⊥)) ⊎ ((r ≡ refusal.TooLarge) × (in_range → ⊥))

-- Either all bytes were appended and the value is in range, or none were, for a reason above.
abbrev pub Writes : {S A : Type 0} → SinkRules S → Type 0 → S → S → List ℕ → Result A Refusal → Type 0
Writes rules in_range old new bytes (Ok x) = rules.appended old new bytes × in_range
Writes rules in_range old new bytes (Err r) =
    rules.appended old new [] × IsRefusal rules old (length bytes) in_range r

-- The same for a call that returns an Error.
abbrev pub Puts : {S A : Type 0} → SinkRules S → Type 0 → S → S → List ℕ → Result A Error → Type 0
Puts rules in_range old new bytes (Ok x) = rules.appended old new bytes × in_range
Puts rules in_range old new bytes (Err e) =
    rules.appended old new []
    × (((e ≡ refused_as rules.refusal) × (rules.fits old (length bytes) → ⊥)) ⊎ ((e ≡ too_large) × (in_range → ⊥)))

-- The result true: any bytes of that number are appended. The result false: the sink is unchanged.
abbrev pub Skips : {S : Type 0} → SinkRules S → S → S → ℕ → Bool → Type 0
Skips rules old new count true = (bytes : List ℕ) → length bytes ≡ count → rules.appended old new bytes
Skips rules old new count false = new ≡ old

-- The result true: the byte at that position is replaced by the encoding of a number. The result false: nothing is
-- appended.
abbrev pub Sets : {S : Type 0} → SinkRules S → S → S → ℕ → ℕ → Bool → Type 0
Sets rules old new at n true = rules.is_set old at n new
Sets rules old new at n false = rules.appended old new []

-- How appending, sizes, cutting, replacing and capacity are related. Each implementation of `Sink` proves it.
pub record AppendLaws {S : Type 0} (rules : SinkRules S) : Type 0 where
  pub none : (a : S) → rules.appended a a []
  pub grows : (a b : S) (x : List ℕ) → rules.appended a b x → rules.size_of b ≡ rules.size_of a + length x
  pub joins : (a b c : S) (x y : List ℕ) → rules.appended a b x → rules.appended b c y
      → rules.appended a c (x ++ y)
  pub cuts_back : (a b c : S) (x : List ℕ) → rules.appended a b x → rules.is_cut b (rules.size_of a) c
      → rules.appended a c []
  pub sets : (a b c : S) (byte n : ℕ) (x : List ℕ) → rules.appended a b (byte ∷ x)
      → rules.is_set b (rules.size_of a) n c → rules.appended a c (unsigned n ++ x)
  pub fits_less : (a : S) (m n : ℕ) → m ≤ n → rules.fits a n → rules.fits a m
  pub fits_rest : (a b : S) (x : List ℕ) (n : ℕ) → length x ≤ n → rules.fits a n → rules.appended a b x
      → rules.fits b (n - length x)
