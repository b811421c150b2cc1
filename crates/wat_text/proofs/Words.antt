-- An instruction whose keyword opens no block is a plain instruction by the rule.
use Rattle.std.proofs.Common.{◌≡◌, true, List, ℕ, Some, refl}
use Rattle.std.specs.Borrow.{Bor}
use Rattle.wat_tokens.specs.declared.words.Word.{Word}
use Rattle.wat_tokens.specs.declared.words.Word.TheVariants as word
use Rattle.wat_tokens.specs.declared.tokens.Token.TheVariants as token
use Rattle.wat_syntax.specs.Tokens.{Toks}
use Rattle.wat_syntax.specs.Instructions.{is_plaininstr, plaininstr, instruction_of}

pub not_opener : (w : Word) (name : Bor (List ℕ)) (toks : Toks) → is_plaininstr w ≡ true
    → instruction_of (Some (token.Word w name)) toks ≡ plaininstr w name toks
not_opener (word.Key k) name toks h = absurd cc
not_opener (word.Block op) name toks h = absurd cc
not_opener (word.Mem op N) name toks h = refl
not_opener (word.MemLane op N) name toks h = refl
not_opener x name toks h = refl
