-- Expressions and fields, as the rules compute them.
use Rattle.std.specs.Prelude.{◌≡◌, true, false, pos, [], ◌∷◌, Some, None, codes}
use Rattle.wast_base.specs.declared.ids.Index.TheVariants as by
use Rattle.wast_base.specs.declared.index_ops.IndexOp.TheVariants as one
use Rattle.wat_tokens.specs.declared.words.Key.TheVariants as key
use Rattle.wat_tokens.specs.declared.words.Word.{Word}
use Rattle.wat_tokens.specs.declared.words.Word.TheVariants as word
use Rattle.wat_tokens.specs.declared.words.OwnOp.TheVariants as own
use Rattle.wat_tokens.specs.declared.words.BlockOp.TheVariants as opens
use Rattle.wat_tokens.specs.declared.tokens.Token.{Token}
use Rattle.wat_tokens.specs.declared.tokens.Token.TheVariants as token
use Rattle.wat_tokens.specs.declared.tokens.Annotation.TheVariants as annotation
use Rattle.wat_syntax.specs.Tree.{BlockType}
use Rattle.wat_syntax.specs.Tree.instr
use Rattle.wat_syntax.specs.Tree.bare
use Rattle.wat_syntax.specs.Tree.plain
use Rattle.wat_syntax.specs.Values.{text_of}
use Rattle.wat_syntax.specs.Bodies.{expression, folded_expression}
use Rattle.wat_syntax.specs.Modules.{exportfield, externtype, locals}
use Rattle.wat_syntax.specs.Worked.{the, num, quoted, toks, made}

-- the token of a word that is an instruction
abbrev says : Word → Token
says w = token.Word w (text_of [])

abbrev dropping : Token
dropping = says (word.Plain (plain.Bare bare.drop))

abbrev nop : Token
nop = says (word.Plain (plain.Bare bare.nop))

abbrev constant : Token
constant = says (word.Own own.i32_const)

abbrev plain_block : BlockType
plain_block = record { label = None; label_name = None; ty = record { index = None; inline = None } }

-- `(drop (i32.const 1))`, `i32.const 1 drop`; `(drop i32.const 1)` has an operand that is not folded, and `i32.const` no number
abbrev pub Folds : Type 0
Folds = (made (expression false (toks (token.Open ∷ dropping ∷ token.Open ∷ constant ∷ num (codes "1") ∷ token.Close ∷ token.Close ∷ [])))
    ≡ Some (record { instrs = instr.i32_const (pos 1) ∷ instr.Plain (plain.Bare bare.drop) ∷ []; branch_hints = [] }, 0))
    × (made (expression false (toks (constant ∷ num (codes "1") ∷ dropping ∷ token.Close ∷ [])))
    ≡ Some (record { instrs = instr.i32_const (pos 1) ∷ instr.Plain (plain.Bare bare.drop) ∷ []; branch_hints = [] }, 1))
    × (made (expression false (toks (token.Open ∷ dropping ∷ constant ∷ num (codes "1") ∷ token.Close ∷ []))) ≡ None)
    × (made (expression false (toks (constant ∷ []))) ≡ None)
    × (made (folded_expression (toks (token.Open ∷ constant ∷ num (codes "1") ∷ token.Close ∷ nop ∷ [])))
    ≡ Some (record { instrs = instr.i32_const (pos 1) ∷ []; branch_hints = [] }, 1))

-- `block nop end`; `block nop` has no end, and `(block nop end)` one too many; `(@metadata.code.branch_hint "\01") (if (nop) (then nop))`
-- has its hint on the second instruction
abbrev pub Blocks : Type 0
Blocks = (made (expression false (toks (says (word.Block opens.block) ∷ nop ∷ says (word.Own own.end_) ∷ [])))
    ≡ Some (record { instrs = instr.block plain_block ∷ instr.Plain (plain.Bare bare.nop) ∷ instr.end_ None ∷ []; branch_hints = [] }, 0))
    × (made (expression false (toks (says (word.Block opens.block) ∷ nop ∷ []))) ≡ None)
    × (made (expression false (toks (token.Open ∷ says (word.Block opens.block) ∷ nop ∷ says (word.Own own.end_) ∷ token.Close ∷ []))) ≡ None)
    × (made (expression true (toks (token.Annotation annotation.BranchHint ∷ quoted (1 ∷ [])
    ∷ token.Close ∷ token.Open ∷ says (word.Block opens.if_) ∷ token.Open ∷ nop ∷ token.Close
    ∷ token.Open ∷ the key.Then ∷ nop ∷ token.Close ∷ token.Close ∷ [])))
    ≡ Some (
      record {
        instrs = instr.Plain (plain.Bare bare.nop) ∷ instr.if_ plain_block ∷ instr.Plain (plain.Bare bare.nop) ∷ instr.end_ None ∷ [];
        branch_hints = record { instr_index = 1; value = 1 } ∷ [];
      },
      0,
    ))
    × (made (expression false (toks (token.Annotation annotation.BranchHint ∷ quoted (1 ∷ []) ∷ token.Close ∷ nop ∷ []))) ≡ None)

-- `block (@metadata.code.branch_hint "\01") end`: a hint may be that of a part. A hint that comes before `)` is refused, and so are a
-- second one and a surplus `end`.
abbrev pub Hints : Type 0
Hints = (made (expression true (toks
    (says (word.Block opens.block) ∷ token.Annotation annotation.BranchHint ∷ quoted (1 ∷ []) ∷ token.Close ∷ says (word.Own own.end_) ∷ [])))
    ≡ Some (record { instrs = instr.block plain_block ∷ instr.end_ None ∷ []; branch_hints = record { instr_index = 1; value = 1 } ∷ [] }, 0))
    × (made (expression true (toks (nop ∷ token.Annotation annotation.BranchHint ∷ quoted (1 ∷ []) ∷ token.Close ∷ token.Close ∷ []))) ≡ None)
    × (made (expression true (toks (token.Annotation annotation.BranchHint ∷ quoted (1 ∷ []) ∷ token.Close
    ∷ token.Annotation annotation.BranchHint ∷ quoted (0 ∷ []) ∷ token.Close ∷ nop ∷ []))) ≡ None)
    × (made (expression true (toks (nop ∷ says (word.Own own.end_) ∷ []))) ≡ None)

-- `try nop catch 0 catch_all nop end` and `(try (do nop) (catch 0) (catch_all nop))`, which are the same instructions;
-- `(try (do) (delegate 0))` has no `end`
abbrev pub Tries : Type 0
Tries = (made (expression false (toks (says (word.Block opens.try_) ∷ nop ∷ says (word.Index one.Catch)
    ∷ num (codes "0") ∷ says (word.Plain (plain.Bare bare.catch_all)) ∷ nop ∷ says (word.Own own.end_) ∷ [])))
    ≡ Some (
      record {
        instrs = instr.try_ plain_block ∷ instr.Plain (plain.Bare bare.nop) ∷ instr.catch (by.Num 0 (record { offset = 3 }))
            ∷ instr.Plain (plain.Bare bare.catch_all) ∷ instr.Plain (plain.Bare bare.nop) ∷ instr.end_ None ∷ [];
        branch_hints = [];
      },
      0,
    ))
    × (made (expression false (toks (token.Open ∷ says (word.Block opens.try_) ∷ token.Open ∷ the key.Do
    ∷ nop ∷ token.Close ∷ token.Open ∷ says (word.Index one.Catch) ∷ num (codes "0") ∷ token.Close
    ∷ token.Open ∷ says (word.Plain (plain.Bare bare.catch_all)) ∷ nop ∷ token.Close ∷ token.Close ∷ [])))
    ≡ Some (
      record {
        instrs = instr.try_ plain_block ∷ instr.Plain (plain.Bare bare.nop) ∷ instr.catch (by.Num 0 (record { offset = 8 }))
            ∷ instr.Plain (plain.Bare bare.catch_all) ∷ instr.Plain (plain.Bare bare.nop) ∷ instr.end_ None ∷ [];
        branch_hints = [];
      },
      0,
    ))
    × (made (expression false (toks (token.Open ∷ says (word.Block opens.try_) ∷ token.Open ∷ the key.Do ∷ token.Close
    ∷ token.Open ∷ says (word.Index one.Delegate) ∷ num (codes "0") ∷ token.Close ∷ token.Close ∷ [])))
    ≡ Some (record { instrs = instr.try_ plain_block ∷ instr.delegate (by.Num 0 (record { offset = 7 })) ∷ []; branch_hints = [] }, 0))

-- `(local $x i32) (local i64)` would be types; here a `(local)` alone, and a `(local` without its end
abbrev pub Fields : Type 0
Fields = (made (locals (toks (token.Open ∷ the key.Local ∷ token.Close ∷ nop ∷ []))) ≡ Some ([], 1))
    × (made (locals (toks (token.Open ∷ the key.Local ∷ []))) ≡ None)
    × (made (exportfield (toks (the key.Export ∷ token.Close ∷ []))) ≡ None) × (made (externtype (toks (token.Open ∷ the key.Start ∷ token.Close ∷ []))) ≡ None)
