-- Tokens and trees at addresses, and the same without addresses.
use Rattle.std.specs.Prelude.{ℕ, ◌≡◌, List, [], ◌∷◌, None, Some, codes}
use Rattle.std.specs.Borrow.{Bor}
use Rattle.wast_base.specs.Ids.{source_id, text_start}
use Rattle.wat_tokens.specs.declared.words.Key.TheVariants as key
use Rattle.wat_tokens.specs.declared.words.Word.TheVariants as word
use Rattle.wat_tokens.specs.declared.tokens.Token.{Token}
use Rattle.wat_tokens.specs.declared.tokens.Token.TheVariants as token
use Rattle.wat_tokens.specs.declared.tokens.Annotation.TheVariants as annotation
use Rattle.wat_tokens.specs.Scans.{placed}
use Rattle.wat_syntax.specs.Tree.{Index}
use Rattle.wat_syntax.specs.Tree.instr
use Rattle.wat_syntax.specs.Tree.field
use Rattle.wast_base.specs.declared.ids.Index.TheVariants as by
use Rattle.wat_syntax.specs.Values.{text_of, index}
use Rattle.wat_syntax.specs.Instructions.{instruction}
use Rattle.wat_syntax.specs.Bare.{bare_token, bare_index}
use Rattle.wat_syntax.specs.BareInstructions.{bare_instr}
use Rattle.wat_syntax.specs.BareFields.{bare_field}
use Rattle.wat_syntax.specs.AtZero.{tokens_at_zero}
use Rattle.wat_syntax.specs.Worked.{toks, made}

-- a text at an address
abbrev text_at : ℕ → List ℕ → Bor (List ℕ)
text_at n bytes = record { ref_ptr = (n, 0); now = bytes }

-- the index `$f` at an address
abbrev id_at : ℕ → Index
id_at n = by.Id (source_id (text_at n (codes "f")) text_start)

-- `wide` at an address, an instruction that no table knows
abbrev word_at : ℕ → Token
word_at n = token.Word word.Beyond (text_at n (codes "wide"))

-- A token and a part of a tree have the same bytes at address 0, whatever their addresses are. The rules make bare parts of bare tokens.
abbrev pub Addresses : Type 0
Addresses = (bare_token (token.Id (text_at 7 (codes "f"))) ≡ token.Id (text_of (codes "f")))
    × (bare_index (id_at 7) ≡ bare_index (id_at 8))
    × (bare_field (field.Start (id_at 7)) ≡ field.Start (bare_index (id_at 8)))
    × (made (index (toks (bare_token (token.Id (text_at 7 (codes "f"))) ∷ []))) ≡ Some (bare_index (id_at 8), 0))
    × (made (instruction (toks (bare_token (word_at 7) ∷ []))) ≡ Some (bare_instr (instr.Beyond (text_at 8 (codes "wide"))), 0))

-- The text `(start 0)` has four tokens, of which one is a word with a meaning. `(@name)` begins with an annotation with a meaning, whose
-- position is that of its `@`. `a[` has no tokens.
abbrev pub Texts : Type 0
Texts = (tokens_at_zero (codes "(start 0)")
    ≡ Some (placed token.Open 0 ∷ (placed (token.Word (word.Key key.Start) (text_of (codes "start"))) 1
    ∷ (placed (token.Other (text_of (codes "0"))) 7 ∷ (placed token.Close 8 ∷ [])))))
    × (tokens_at_zero (codes "(@name)") ≡ Some (placed (token.Annotation annotation.Name) 1 ∷ (placed token.Close 6 ∷ [])))
    × (tokens_at_zero (codes "a[") ≡ None)
