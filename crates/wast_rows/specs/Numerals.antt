-- Lines that are a number: a u32 in decimal form, without sign and leading zeros.
--
--   "7"  is 7        "07" and "+7" are no numbers
use Rattle.std.specs.Prelude.{◌≡◌, ◌≢◌, ℕ, ◌<◌, ◌^◌, List}
use Rattle.std.specs.Fmt.{decimal}

-- The line is the number n.
pub record IsDecimalOf (line : List ℕ) (n : ℕ) : Type 0 where
  pub in_range : n < 2 ^ 32
  pub spelled : line ≡ decimal n

-- The line is not a number.
abbrev pub IsNoNumber : List ℕ → Type 0
IsNoNumber line = (n : ℕ) → n < 2 ^ 32 → line ≢ decimal n
