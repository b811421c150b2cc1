-- What reading a number returns (text format: integers). The rules are those of wat_grammar.
use Rattle.std.specs.Prelude.{ℕ, ◌-◌, ◌*◌, ◌^◌, nat_lt, nat_le, ◌==◌, Bool, true, false, if◌then◌else◌, List, reverse, Option, None, Some, Result, Ok, Err}
use Rattle.wat_grammar.specs.Parts.{◌>>=◌}
use Rattle.wat_grammar.specs.Characters.{digit, hexdigit}
use Rattle.wat_grammar.specs.Integers.{backwards}
use Rattle.wat_tokens.specs.declared.faults.TextFault.{TextFault}
use Rattle.wat_tokens.specs.declared.faults.TextFault.TheVariants as fault

-- The value, if the rule has one. Else it is a number out of range, if the text is a number of any size, or no number.
abbrev pub answer : {S T : Type 0} → Option S → Option T → Result T TextFault
answer None value = Err fault.Number
answer (Some n) None = Err fault.Range
answer (Some n) (Some value) = Ok value

-- a digit of either kind
abbrev pub digit_in : Bool → ℕ → Option ℕ
digit_in is_hex c = if is_hex then hexdigit c else digit c

abbrev pub radix_of : Bool → ℕ
radix_of is_hex = if is_hex then 16 else 10

-- hexnum or num
abbrev pub number_in : Bool → List ℕ → Option ℕ
number_in is_hex text = backwards (digit_in is_hex) (radix_of is_hex) (reverse text)

-- n, if it has 64 bits
abbrev pub fits : ℕ → Option ℕ
fits n = if nat_lt n (2 ^ 64) then Some n else None

-- a number of 64 bits, by what the rule without a range makes of the text
abbrev pub sized : Option ℕ → Result ℕ TextFault
sized number = answer number (number >>= λ n. fits n)

-- the bits of a number with its sign, of which there are twice half
abbrev pub bits_in : ℕ → Bool → ℕ → Option ℕ
bits_in half false n = if nat_lt n (2 * half) then Some n else None
bits_in half true n = if nat_le n half then Some (if n == 0 then 0 else 2 * half - n) else None

abbrev pub wrapped : ℕ → Bool → Option ℕ → Result ℕ TextFault
wrapped half is_negative number = answer number (number >>= λ n. bits_in half is_negative n)
