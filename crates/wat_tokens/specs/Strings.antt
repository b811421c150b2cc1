-- What reading a part of a string returns (text format: strings). The rules are those of wat_grammar.
use Rattle.std.specs.Prelude.{◌≡◌, ◌≤◌, ℕ, zero, suc, ◌+◌, ◌-◌, ◌==◌, Bool, false, if◌then◌else◌, List, [], ◌∷◌, ◌++◌, length, drop, replicate, Option, None, Some, codes}
use Rattle.wat_grammar.specs.Parts.{◌>>=◌, after}
use Rattle.wat_grammar.specs.Integers.{hexnum}
use Rattle.wat_grammar.specs.Strings.{is_raw, is_scalar, unicode, stringelem, joined, elements}
use Rattle.wat_tokens.specs.declared.faults.TextFault.{TextFault}
use Rattle.wat_tokens.specs.declared.faults.TextFault.TheVariants as fault

-- The bytes of an element after the bytes before it, and the text after it.
abbrev pub added : List ℕ → Option (List ℕ × List ℕ) → Option (List ℕ × List ℕ)
added before element = element >>= λ e. Some (before ++ e.0, e.1)

-- the character with a number, which is that number
abbrev pub character : ℕ → Option ℕ
character n = if is_scalar n then Some n else None

-- the character with a hexadecimal number
abbrev pub scalar_in : List ℕ → Option ℕ
scalar_in digits = hexnum digits >>= λ n. character n

-- '{' n:hexnum '}', after '\u'
abbrev pub opened : List ℕ → Option (List ℕ × List ℕ)
opened text = after (codes "{") text >>= λ digits. unicode digits

-- The fault of a text that begins with no element: an escape is wrong, or a character may not be in a string.
abbrev pub element_fault : List ℕ → TextFault
element_fault [] = fault.Escape
element_fault (c ∷ cs) = if c == 0x5c then fault.Escape else fault.StringCharacter

-- whether a text begins with a character that stands for itself
abbrev pub begins_raw : List ℕ → Bool
begins_raw [] = false
begins_raw (c ∷ cs) = is_raw c

-- One element or more are read from the start of a text: their bytes come after those before, and a part of the text is left. The
-- number of elements at most does not matter, if it is that of the characters or more.
pub record Takes (text rest old new : List ℕ) : Type 0 where
  pub count : ℕ
  pub left : rest ≡ drop (suc count) text
  pub is : (n : ℕ) → length text ≤ n → joined old (elements n text) ≡ joined new (elements n rest)

-- An element is read from a text, and for each of its bytes the place of the element is appended.
pub record Spells (text rest : List ℕ) (at : ℕ) (old new : List ℕ) : Type 0 where
  pub bytes : List ℕ
  pub reads : stringelem text ≡ Some (bytes, rest)
  pub places : new ≡ old ++ replicate (length bytes) at

-- The place of each byte that elements stand for, by the place of the text that they begin. So many elements at most are read, up to
-- the first place where no element is. All bytes of an escape are at its backslash.
unfoldable pub spelled : ℕ → ℕ → List ℕ → List ℕ
spelled zero at text = []
spelled (suc n) at text = elim (stringelem text) [ Some e ↦ replicate (length e.0) at ++ spelled n (at + (length text - length e.1)) e.1 | None ↦ [] ]

-- The same of a string, by the text from its first quote on: of `"a\nb"` at 7 the places are 8, 9 and 11.
abbrev pub string_places : ℕ → ℕ → List ℕ → List ℕ
string_places count at [] = []
string_places count at (quote ∷ text) = spelled count (suc at) text
