-- Expressions (text format: instructions, folded instructions, expressions).
--
-- A rule for instructions returns items: instructions and branch hints, each hint before the instruction that it is for. `p >> q`
-- is p and then q. The recursion is open: a rule for a construct takes what reads the instructions inside it, `within`. So no rule
-- calls another that calls it, and `sequences` below ties the knot by the number of steps, of which each takes a token.
--
--   (i32.add (i32.const 1) (i32.const 2))     i32.const 1, i32.const 2, i32.add
--   (if (local.get 0) (then nop))             local.get 0, if, nop, end
--   (i32.add i32.const 1 i32.const 2)         None: operands are folded
use Rattle.std.specs.Prelude.{ℕ, zero, suc, ◌==◌, ◌&&◌, Bool, true, false, if◌then◌else◌, List, [], ◌∷◌, ◌++◌, Option, None, Some}
use Rattle.wat_syntax.specs.Tree.{Instruction, BranchHint, Expression}
use Rattle.wat_syntax.specs.Tree.instr
use Rattle.wat_syntax.specs.Tree.bare
use Rattle.wat_syntax.specs.Tree.plain
use Rattle.wast_base.specs.declared.index_ops.IndexOp.TheVariants as one
use Rattle.wat_grammar.specs.Parts.{◌>>=◌}
use Rattle.wat_tokens.specs.declared.words.Key.TheVariants as key
use Rattle.wat_tokens.specs.declared.words.Word.{Word}
use Rattle.wat_tokens.specs.declared.words.Word.TheVariants as word
use Rattle.wat_tokens.specs.declared.words.OwnOp.TheVariants as own
use Rattle.wat_tokens.specs.declared.words.BlockOp.{BlockOp}
use Rattle.wat_tokens.specs.declared.words.BlockOp.TheVariants as opens
use Rattle.wat_tokens.specs.declared.tokens.Token.{Token}
use Rattle.wat_tokens.specs.declared.tokens.Token.TheVariants as token
use Rattle.wat_tokens.specs.declared.tokens.Annotation.{Annotation}
use Rattle.wat_tokens.specs.declared.tokens.Annotation.TheVariants as annotation
use Rattle.wat_syntax.specs.Tokens.{Toks, Parse, peek, after, count, word_of, is_lparen, is_end, lparen, rparen, form, is_form}
use Rattle.wat_syntax.specs.Values.{string, index, annotation_of}
use Rattle.wat_syntax.specs.Instructions.{instruction}

-- an instruction, or the value of a branch hint for the next one
pub data Item : Type 0 where
  Instr : Instruction → Item
  Hint : ℕ → Item

-- Where instructions are read: anywhere, or where only folded ones may be. Where only the parts of `catch` or the arms of `catch`
-- may be, the instructions of all of them are read.
pub data Place : Type 0 where
  Anywhere : Place
  Folded : Place
  Catches : Place
  CatchArms : Place

-- what reads items
abbrev pub Rule : Type 0
Rule = Toks → Parse (List Item)

-- what reads the instructions of a place
abbrev pub Within : Type 0
Within = Place → Rule

infixr 20 ◌>>◌
-- one rule and then another: the items of both
abbrev pub ◌>>◌ : Rule → Rule → Rule
p >> q = λ toks. p toks >>= λ x. q x.1 >>= λ y. Some (x.0 ++ y.0, y.1)

-- a terminal, which means nothing by itself
abbrev pub terminal : (Toks → Option Toks) → Rule
terminal t toks = t toks >>= λ rest. Some ([], rest)

-- items for which there is no token here
abbrev pub writes : List Item → Rule
writes xs toks = Some (xs, toks)

-- one rule if a test is true of the tokens, and otherwise another
abbrev pub choice : (Toks → Bool) → Rule → Rule → Rule
choice test p q toks = elim (test toks) [ true ↦ p toks | false ↦ q toks ]

-- whether a token is '(@metadata.code.branch_hint'
abbrev pub is_hint : Option Annotation → Bool
is_hint (Some annotation.BranchHint) = true
is_hint a = false

-- "\00" or "\01"
abbrev pub hint_value : List ℕ → Option ℕ
hint_value (v ∷ []) = if v == 0 then Some 0 else (if v == 1 then Some 1 else None)
hint_value bytes = None

-- '(@metadata.code.branch_hint' "\00" ')' | '(@metadata.code.branch_hint' "\01" ')', or nothing (branch hinting). `may_hint` is
-- false in constant expressions, which have no branch hints.
abbrev pub hint : Bool → Rule
hint may_hint toks = elim (is_hint (annotation_of (peek 0 toks))) [
  | true ↦ string (after toks) >>= λ b. hint_value b.0.now >>= λ v. rparen b.1 >>= λ rest. if may_hint then Some (Hint v ∷ [], rest) else None
  | false ↦ Some ([], toks)
]

-- an instruction after its hint
abbrev pub hinted : List Item → Rule
hinted h toks = instruction toks >>= λ i. Some (h ++ Instr i.0 ∷ [], i.1)

-- the parts of a block without parentheses
pub data Part : Type 0 where
  End : Part
  Else : Part
  Catch : Part
  CatchAll : Part
  Delegate : Part

abbrev pub part_of : Option Word → Option Part
part_of (Some (word.Own own.end_)) = Some End
part_of (Some (word.Own own.else_)) = Some Else
part_of (Some (word.Index one.Catch)) = Some Catch
part_of (Some (word.Plain (plain.Bare bare.catch_all))) = Some CatchAll
part_of (Some (word.Index one.Delegate)) = Some Delegate
part_of w = None

abbrev pub same_part : Part → Option Part → Bool
same_part End (Some End) = true
same_part Else (Some Else) = true
same_part Catch (Some Catch) = true
same_part CatchAll (Some CatchAll) = true
same_part Delegate (Some Delegate) = true
same_part p q = false

-- the part of a block whose word is next
abbrev pub part_in : Toks → Option Part
part_in toks = part_of (word_of (peek 0 toks))

-- whether '(' and the word of this part are next
abbrev pub is_arm : Part → Toks → Bool
is_arm p toks = is_lparen (peek 0 toks) && same_part p (part_of (word_of (peek 1 toks)))

-- '(' and the word of a part
abbrev pub arm_word : Part → Toks → Option Toks
arm_word p toks = elim (is_arm p toks) [ true ↦ Some (after (after toks)) | false ↦ None ]

-- what comes next in a place, after a hint: the end of its instructions, one in parentheses, a block without, a plain instruction
-- without, or a part or an arm of `catch`
pub data Next : Type 0 where
  Ends : Next
  Folds : Next
  Opens : BlockOp → Next
  Stands : Next
  Catching : Next
  CatchingArm : Next

abbrev pub next_of_word : Option Word → Next
next_of_word (Some (word.Block op)) = Opens op
next_of_word (Some w) = elim (part_of (Some w)) [ Some p ↦ Ends | None ↦ Stands ]
next_of_word None = Stands

abbrev pub next_of_token : Option Token → Next
next_of_token None = Ends
next_of_token (Some token.Close) = Ends
next_of_token (Some token.Open) = Folds
next_of_token t = next_of_word (word_of t)

-- '(' 'then' ends the condition of an `if`
abbrev pub next_of : Place → Toks → Next
next_of Anywhere toks = next_of_token (peek 0 toks)
next_of Folded toks = elim (is_form key.Then toks) [ true ↦ Ends | false ↦ elim (is_lparen (peek 0 toks)) [ true ↦ Folds | false ↦ Ends ] ]
next_of Catches toks = elim (same_part Catch (part_in toks)) [ true ↦ Catching | false ↦ Ends ]
next_of CatchArms toks = elim (is_arm Catch toks) [ true ↦ CatchingArm | false ↦ Ends ]

-- what is written for the ')' of a folded block, and for the words of folded parts
abbrev pub end : List Item
end = Instr (instr.end_ None) ∷ []

abbrev pub else_item : List Item
else_item = Instr (instr.else_ None) ∷ []

abbrev pub catch_all_item : List Item
catch_all_item = Instr (instr.Plain (plain.Bare bare.catch_all)) ∷ []

-- x:tagidx of `catch`, and l:labelidx of `delegate`
abbrev pub catch_tag : Rule
catch_tag toks = index toks >>= λ x. Some (Instr (instr.catch x.0) ∷ [], x.1)

abbrev pub delegate_label : Rule
delegate_label toks = index toks >>= λ l. Some (Instr (instr.delegate l.0) ∷ [], l.1)

-- '(' k instr* ')'
abbrev pub arm : Within → Rule
arm within = within Anywhere >> terminal rparen

-- the ')' of a folded block, for which an `end` is written
abbrev pub ends : Rule
ends = terminal rparen >> writes end

-- ('(' 'else' instr* ')')?
abbrev pub else_arm : Within → Rule
else_arm within = choice (is_arm Else) (terminal (arm_word Else) >> writes else_item >> arm within) (writes [])

-- foldedinstr* '(' 'then' instr* ')' ('(' 'else' instr* ')')? ')': after the word of an `if`, its label and its type (text format:
-- folded instructions)
abbrev pub folded_if : Within → List Item → Rule
folded_if within opener = within Folded >> terminal (form key.Then) >> writes opener >> arm within >> else_arm within >> ends

-- '(' 'catch' x:tagidx instr* ')'
abbrev pub catch_arm : Within → Rule
catch_arm within = terminal (arm_word Catch) >> catch_tag >> arm within

-- ('(' 'catch_all' instr* ')')?
abbrev pub catch_all_arm : Within → Rule
catch_all_arm within = choice (is_arm CatchAll) (terminal (arm_word CatchAll) >> writes catch_all_item >> arm within) (writes [])

-- ('(' 'catch' x:tagidx instr* ')')* ('(' 'catch_all' instr* ')')? ')' | '(' 'delegate' l:labelidx ')' ')'
abbrev pub handlers : Within → Rule
handlers within = choice (is_arm Delegate)
    (terminal (arm_word Delegate) >> delegate_label >> terminal rparen >> terminal rparen)
    (within CatchArms >> catch_all_arm within >> ends)

-- '(' 'do' instr* ')' handlers (exceptions of the old proposal): after the word, the label and the type
abbrev pub folded_try : Within → List Item → Rule
folded_try within opener = writes opener >> terminal (form key.Do) >> arm within >> handlers within

-- '(' 'block' label blocktype instr* ')' ≡ 'block' label blocktype instr* 'end', and so for `loop` and `try_table`: after the word, the
-- label and the type, or the arms of `if` and `try` (text format: folded instructions)
abbrev pub folded_block : BlockOp → Within → List Item → Rule
folded_block opens.if_ within opener = folded_if within opener
folded_block opens.try_ within opener = folded_try within opener
folded_block op within opener = writes opener >> within Anywhere >> ends

-- foldedinstr ::= '(' plaininstr foldedinstr* ')' ≡ foldedinstr* plaininstr: after its immediates. The instruction comes after its
-- operands (text format: folded instructions).
abbrev pub operands : Within → List Item → Rule
operands within i = within Folded >> terminal rparen >> writes i

abbrev pub folded_by : Next → Within → List Item → Rule
folded_by (Opens op) within i = folded_block op within i
folded_by Stands within i = operands within i
folded_by n within i = λ toks. None

-- foldedinstr (text format: folded instructions), after the hint that comes before its '('
abbrev pub foldedinstr : Within → List Item → Rule
foldedinstr within h toks = lparen toks >>= λ t. instruction t >>= λ i. folded_by (next_of_word (word_of (peek 0 t))) within (h ++ Instr i.0 ∷ []) i.1

module _ (may_hint : Bool) where
  -- whether this part is next, after a hint if there is one
  abbrev pub is_part : Part → Toks → Bool
  is_part p toks = elim (hint may_hint toks) [ Some h ↦ same_part p (part_in h.1) | None ↦ false ]

  -- a part of a block, with its hint and its immediates
  abbrev pub part : Part → Rule
  part p toks = hint may_hint toks >>= λ h. elim (same_part p (part_in h.1)) [ true ↦ hinted h.0 h.1 | false ↦ None ]

  -- instr* 'end' id?, of `block`, `loop` and `try_table` (text format: block instructions)
  abbrev pub to_end : Within → Rule
  to_end within = within Anywhere >> part End

  -- ('else' id? instr*)? 'end' id?, of `if` (text format: block instructions)
  abbrev pub else_to_end : Within → Rule
  else_to_end within = choice (is_part Else) (part Else >> to_end within) (part End)

  -- ('catch_all' instr*)? 'end' id?
  abbrev pub catch_all_to_end : Within → Rule
  catch_all_to_end within = choice (is_part CatchAll) (part CatchAll >> to_end within) (part End)

  -- ('catch' x:tagidx instr*)* ('catch_all' instr*)? 'end' id? | 'delegate' l:labelidx (exceptions of the old proposal)
  abbrev pub catches_to_end : Within → Rule
  catches_to_end within = choice (is_part Delegate) (part Delegate) (within Catches >> catch_all_to_end within)

  -- what follows the word, the label and the type of a block without parentheses (text format: block instructions)
  abbrev pub rest_of_block : BlockOp → Within → Rule
  rest_of_block opens.if_ within = within Anywhere >> else_to_end within
  rest_of_block opens.try_ within = within Anywhere >> catches_to_end within
  rest_of_block op within = to_end within

  -- one more instruction after its hint, or a part or an arm with its instructions, and those after it; `toks` are the tokens
  -- before the hint
  abbrev pub sequence : Within → Next → Place → Toks → List Item → Rule
  sequence within Ends place toks h = λ t. Some ([], toks)
  sequence within Folds place toks h = foldedinstr within h >> within place
  sequence within (Opens op) place toks h = hinted h >> rest_of_block op within >> within place
  sequence within Stands place toks h = hinted h >> within place
  sequence within Catching place toks h = hinted h >> within Anywhere >> within place
  sequence within CatchingArm place toks h = λ t. (catch_arm within >> within place) toks

  -- the instructions of a place, in so many steps at most
  abbrev pub sequences : ℕ → Within
  sequences zero place toks = None
  sequences (suc n) place toks = hint may_hint toks >>= λ h. sequence (sequences n) (next_of place h.1) place toks h.0 h.1

-- the instructions among items
abbrev pub instrs_of : List Item → List Instruction
instrs_of [] = []
instrs_of (Instr i ∷ xs) = i ∷ instrs_of xs
instrs_of (Hint v ∷ xs) = instrs_of xs

-- the hints among items, each with the number of the instruction that it is for, from n on
abbrev pub hints_of : ℕ → List Item → List BranchHint
hints_of n [] = []
hints_of n (Instr i ∷ xs) = hints_of (suc n) xs
hints_of n (Hint v ∷ xs) = record { instr_index = n; value = v } ∷ hints_of n xs

abbrev pub expression_of : List Item → Expression
expression_of xs = record { instrs = instrs_of xs; branch_hints = hints_of 0 xs }

-- the end of the form or of the text
abbrev pub at_end : Rule
at_end toks = elim (is_end (peek 0 toks)) [ true ↦ Some ([], toks) | false ↦ None ]

-- expr ::= in*:instr* (text format: expressions): a constant expression, or the body of a function, which may have branch hints. It
-- ends where its form does. Each step takes a token, so there are enough.
abbrev pub expression : Bool → Toks → Parse Expression
expression may_hint toks = (sequences may_hint (suc (count toks)) Anywhere >> at_end) toks >>= λ xs. Some (expression_of xs.0, xs.1)

-- An expression of one folded instruction, as an offset or an element may be (text format: element segments: abbreviations). There
-- are as many steps as tokens after its operator.
abbrev pub folded_expression : Toks → Parse Expression
folded_expression toks = lparen toks >>= λ t. instruction t >>= λ i.
    folded_by (next_of_word (word_of (peek 0 t))) (sequences false (suc (count i.1))) (Instr i.0 ∷ []) i.1 >>= λ xs. Some (expression_of xs.0, xs.1)
