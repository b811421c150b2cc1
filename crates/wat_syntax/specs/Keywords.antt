-- Keywords (text format: tokens). A keyword that is no instruction is a `Key`, which the lexer makes of its text. Two are compared by
-- the comparison that is derived for `Key`.
use Rattle.std.specs.Prelude.{◌≡◌, Bool, true}
use Rattle.wat_tokens.specs.declared.words.Key.{Key}
use Rattle.wat_tokens.specs.contracts.words.KeyPartialEq.TheImpl as keys

-- whether two keywords are the same
abbrev pub is_same_key : Key → Key → Bool
is_same_key a b = keys.ghosts.eq a b

-- keywords that are the same by it are equal
abbrev pub AreDistinct : Type 0
AreDistinct = (a b : Key) → is_same_key a b ≡ true → a ≡ b
