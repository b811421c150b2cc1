-- How many tokens a rule leaves.
--
-- An instruction begins with a word, so its rule takes a token at least. A loop that reads an instruction in each round therefore needs
-- no more rounds than there are tokens.
--
--   i32.const 7 drop     3 tokens; after the instruction `i32.const 7`, 1 is left
use Rattle.std.specs.Prelude.{◌≡◌, ◌<◌, Some}
use Rattle.wat_syntax.specs.Tree.{Instruction}
use Rattle.wat_syntax.specs.Tokens.{Toks, count}
use Rattle.wat_syntax.specs.Instructions.{instruction}

-- After an instruction, fewer tokens are left than before it.
abbrev pub TakesToken : Type 0
TakesToken = (toks : Toks) (x : Instruction × Toks) → instruction toks ≡ Some x → count x.1 < count toks
