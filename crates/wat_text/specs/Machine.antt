-- The machine that reads expressions, as steps from state to state (text format: instructions, folded instructions).
--
-- The code keeps the blocks and forms that are not closed in a list of levels, so that its calls do not nest as deeply as the
-- text does. A function here is what a function of src/bodies.rt does to the state, mostly the function of the same name. It is `None`
-- if the code rejects the tokens. proofs/ shows that the steps read exactly what the grammar reads.
--
--   (drop (i32.const 0))      `drop` waits in a level of its own until the last ')', and is appended after `i32.const 0`
use Rattle.std.specs.Prelude.{ℕ, ◌≡◌, ◌≢◌, ◌&&◌, Bool, true, false, List, [], ◌∷◌, ◌++◌, length, map, reverse, Option, None, Some}
use Rattle.wast_base.specs.declared.ids.Span.{Span}
use Rattle.wast_base.specs.declared.index_ops.IndexOp.TheVariants as indexed
use Rattle.wat_grammar.specs.Parts.{◌>>=◌}
use Rattle.wat_tokens.specs.declared.words.Key.TheVariants as key
use Rattle.wat_tokens.specs.declared.words.Word.{Word}
use Rattle.wat_tokens.specs.declared.words.Word.TheVariants as word
use Rattle.wat_tokens.specs.declared.words.BlockOp.{BlockOp}
use Rattle.wat_tokens.specs.declared.words.BlockOp.TheVariants as opens
use Rattle.wat_tokens.specs.declared.words.OwnOp.TheVariants as own
use Rattle.wat_tokens.specs.declared.tokens.Token.{Token}
use Rattle.wat_tokens.specs.declared.tokens.Token.TheVariants as token
use Rattle.wat_syntax.specs.Tree.{Instruction, Expression}
use Rattle.wat_syntax.specs.Tree.instr
use Rattle.wat_syntax.specs.Tree.bare
use Rattle.wat_syntax.specs.Tree.plain as plainly
use Rattle.wat_syntax.specs.Tokens.{Toks, Parse, one, is_end, peek, after, position, word_of, key_of, is_key, keyword, rparen, with_parts}
use Rattle.wat_syntax.specs.Values.{string, index, annotation_of}
use Rattle.wat_syntax.specs.BareInstructions.{bare_instr}
use Rattle.wat_syntax.specs.Instructions.{instruction}
use Rattle.wat_syntax.specs.Bodies as rule
use Rattle.wat_syntax.specs.Bodies.{Item, Instr, Part, End, Else, Catch, CatchAll, Delegate, part_of, is_hint}
use Rattle.wat_text.specs.declared.reader.Reader.{Reader}
use Rattle.wat_text.specs.declared.bodies.Level.{Level}
use Rattle.wat_text.specs.declared.bodies.Level.TheVariants as level
use Rattle.wat_text.specs.declared.bodies.Part as code
use Rattle.wat_text.specs.declared.bodies.Part.TheVariants as code_part
use Rattle.wat_text.specs.declared.bodies.Hint.{Hint}
use Rattle.wat_text.specs.declared.bodies.Open.{Open}
use Rattle.wat_text.specs.declared.bodies.Purpose.{Purpose}
use Rattle.wat_text.specs.declared.bodies.Purpose.TheVariants as purpose
use Rattle.wat_text.specs.declared.bodies.Body.{Body}
use Rattle.wat_text.specs.Readers.{left, IsClean, IsRefused}

-- The open levels, the innermost first; the instructions that wait for their operands, the last one last; the instructions that
-- are read; and the tokens that are left. Instructions and tokens are without addresses.
pub record State : Type 0 where
  pub levels : List Open
  pub waiting : List Instruction
  pub read : Expression
  pub toks : Toks

abbrev pub state_of : Reader → Body → State
state_of r b = record {
  levels = reverse b.levels.items;
  waiting = map bare_instr b.waiting;
  read = record { instrs = map bare_instr b.instrs; branch_hints = b.hints };
  toks = left r;
}

-- A reader took a step. If there is no error afterwards, there was none before, and the step leads from the state before to the
-- state after. An error that there was before is kept. If the reader rejected the tokens and no allocation of the tree failed,
-- the step is `None`.
pub record Does (step : State → Option State) (old new : Reader) (before behind : Body) : Type 0 where
  pub made : new.make ≡ false → old.make ≡ false
  pub clean : new.fault ≡ None → old.fault ≡ None
  pub gives : IsClean new → step (state_of old before) ≡ Some (state_of new behind)
  pub keeps : old.fault ≢ None → new.fault ≡ old.fault
  pub refuses : old.fault ≡ None → new.make ≡ false → IsRefused new.fault → step (state_of old before) ≡ None

-- A reader ended an expression that is read whole, or it refused the tokens because it is not.
pub record EndsExpression (is_done : Bool) (old new : Reader) : Type 0 where
  pub make : new.make ≡ old.make
  pub clean : new.fault ≡ None → old.fault ≡ None
  pub done : new.fault ≡ None → is_done ≡ true
  pub stays : new.fault ≡ None → left new ≡ left old
  pub keeps : old.fault ≢ None → new.fault ≡ old.fault
  pub undone : old.fault ≡ None → IsRefused new.fault → is_done ≡ false

-- the part of a block that the rules have for one of the code
abbrev pub in_rule : code.Part → Part
in_rule code_part.End = End
in_rule code_part.Else = Else
in_rule code_part.Catch = Catch
in_rule code_part.CatchAll = CatchAll
in_rule code_part.Delegate = Delegate

abbrev pub may_hint : Purpose → Bool
may_hint purpose.Body = true
may_hint purpose.Constant = false

-- the hint among items, with its position
abbrev pub hint_in : Span → List Item → Option Hint
hint_in place (rule.Hint v ∷ xs) = Some (record { value = v; place = place })
hint_in place xs = None

abbrev pub hint : Bool → Toks → Parse (Option Hint)
hint may toks = rule.hint may toks >>= λ h. Some (hint_in (position toks) h.0, h.1)

-- the string of a hint and its ')'
abbrev pub value_of_hint : Toks → Parse ℕ
value_of_hint toks = string toks >>= λ b. rule.hint_value b.0.now >>= λ v. rparen b.1 >>= λ rest. Some (v, rest)

abbrev pub without : Option Hint → Toks → Option Toks
without None toks = Some toks
without (Some h) toks = None

-- the innermost level, and what it may contain
abbrev pub level_of : List Open → Option Level
level_of [] = None
level_of (o ∷ os) = Some o.level

abbrev pub hint_of_level : List Open → Option Hint
hint_of_level [] = None
hint_of_level (o ∷ os) = o.hint

abbrev pub takes_plain : Option Level → Bool
takes_plain None = true
takes_plain (Some level.Plain) = true
takes_plain (Some level.PlainIf) = true
takes_plain (Some level.PlainTry) = true
takes_plain (Some level.PlainCatch) = true
takes_plain (Some level.Block) = true
takes_plain (Some level.Arm) = true
takes_plain l = false

-- whether a word is that of an instruction that neither opens a block nor is a part of one
abbrev pub is_simple : Word → Bool
is_simple (word.Block op) = false
is_simple (word.Own own.end_) = false
is_simple (word.Own own.else_) = false
is_simple (word.Index indexed.Catch) = false
is_simple (word.Index indexed.Delegate) = false
is_simple (word.Plain (plainly.Bare bare.catch_all)) = false
is_simple w = true

abbrev pub plain_level : BlockOp → Level
plain_level opens.if_ = level.PlainIf
plain_level opens.try_ = level.PlainTry
plain_level op = level.Plain

-- The level of a block after one of its parts. It is `Some None` if the part closes the block.
abbrev pub after_part : Level → Part → Option (Option Level)
after_part level.Plain End = Some None
after_part level.PlainIf End = Some None
after_part level.PlainTry End = Some None
after_part level.PlainCatch End = Some None
after_part level.PlainIf Else = Some (Some level.Plain)
after_part level.PlainTry Catch = Some (Some level.PlainCatch)
after_part level.PlainCatch Catch = Some (Some level.PlainCatch)
after_part level.PlainTry CatchAll = Some (Some level.Plain)
after_part level.PlainCatch CatchAll = Some (Some level.Plain)
after_part level.PlainTry Delegate = Some None
after_part l p = None

-- the last instruction that waits, and those before it
abbrev pub last_of : {T : Type 0} → List T → Option T
last_of [] = None
last_of (w ∷ []) = Some w
last_of (w ∷ v ∷ ws) = last_of (v ∷ ws)

abbrev pub before_last : {T : Type 0} → List T → List T
before_last [] = []
before_last (w ∷ []) = []
before_last (w ∷ v ∷ ws) = w ∷ before_last (v ∷ ws)

-- a state with other levels, or with other tokens
abbrev pub with_levels : List Open → State → State
with_levels ls s = record { levels = ls; waiting = s.waiting; read = s.read; toks = s.toks }

abbrev pub with_toks : Toks → State → State
with_toks t s = record { levels = s.levels; waiting = s.waiting; read = s.read; toks = t }

abbrev pub push_level : Level → Span → Option Hint → State → Option State
push_level l place h s = Some (with_levels (record { level = l; place = place; hint = h } ∷ s.levels) s)

abbrev pub push_arm : State → Option State
push_arm s = push_level level.Arm s.toks.before None s

abbrev pub with_innermost : Level → List Open → List Open
with_innermost l [] = []
with_innermost l (o ∷ os) = record { level = l; place = o.place; hint = None } ∷ os

abbrev pub replace_level : Level → State → Option State
replace_level l s = Some (with_levels (with_innermost l s.levels) s)

abbrev pub outer : List Open → List Open
outer [] = []
outer (o ∷ os) = os

abbrev pub pop_level : State → Option State
pop_level s = Some (with_levels (outer s.levels) s)

-- instructions and hints that are appended
abbrev pub with_hint : Option Hint → Expression → Expression
with_hint None e = e
with_hint (Some h) e = record { instrs = e.instrs; branch_hints = e.branch_hints ++ record { instr_index = length e.instrs; value = h.value } ∷ [] }

abbrev pub with_instr : Instruction → Expression → Expression
with_instr i e = record { instrs = e.instrs ++ i ∷ []; branch_hints = e.branch_hints }

abbrev pub append_hint : Option Hint → State → Option State
append_hint h s = Some (record { levels = s.levels; waiting = s.waiting; read = with_hint h s.read; toks = s.toks })

abbrev pub append : Instruction → State → Option State
append i s = Some (record { levels = s.levels; waiting = s.waiting; read = with_instr i s.read; toks = s.toks })

abbrev pub with_last : Option Instruction → Expression → Expression
with_last None e = e
with_last (Some i) e = with_instr i e

abbrev pub append_operator : State → Option State
append_operator s = Some (record { levels = s.levels; waiting = before_last s.waiting; read = with_last (last_of s.waiting) s.read; toks = s.toks })

abbrev pub append_hinted_operator : Option Hint → State → Option State
append_hinted_operator h s = append_hint h s >>= append_operator

abbrev pub read_operator : State → Option State
read_operator s = with_parts s.waiting (one instruction s.toks) >>= λ w. Some (record { levels = s.levels; waiting = w.0; read = s.read; toks = w.1 })

abbrev pub read_instr : State → Option State
read_instr s = with_parts s.read.instrs (one instruction s.toks) >>= λ w.
    Some (record { levels = s.levels; waiting = s.waiting; read = record { instrs = w.0; branch_hints = s.read.branch_hints }; toks = w.1 })

-- tokens that are taken without a value
abbrev pub taken : (Toks → Option Toks) → State → Option State
taken t s = t s.toks >>= λ rest. Some (with_toks rest s)

abbrev pub skipped : State → Option State
skipped s = Some (with_toks (after s.toks) s)

-- the arms of `if` and `try`
abbrev pub then_arm : Option Hint → State → Option State
then_arm h s = taken (without h) s >>= skipped >>= append_hinted_operator (hint_of_level s.levels) >>= replace_level level.Then >>= push_arm

abbrev pub else_word : Toks → Option Toks
else_word toks = elim (rule.same_part Else (rule.part_in toks)) [ true ↦ Some (after toks) | false ↦ None ]

abbrev pub else_arm : Option Hint → State → Option State
else_arm h s = taken (without h) s >>= taken else_word >>= append (instr.else_ None) >>= replace_level level.Last >>= push_arm

abbrev pub do_arm : Option Hint → State → Option State
do_arm h s = taken (without h) s >>= taken (keyword key.Do) >>= replace_level level.Do >>= push_arm

abbrev pub catch_arm : State → Option State
catch_arm s = index (after s.toks) >>= λ x. append (instr.catch x.0) (with_toks x.1 s) >>= replace_level level.Catch >>= push_arm

abbrev pub catch_all_arm : State → Option State
catch_all_arm s = skipped s >>= append (instr.Plain (plainly.Bare bare.catch_all)) >>= replace_level level.Last >>= push_arm

abbrev pub delegate_arm : State → Option State
delegate_arm s = index (after s.toks) >>= λ x. rparen x.1 >>= λ rest. append (instr.delegate x.0) (with_toks rest s) >>= replace_level level.Delegated

abbrev pub first_by : Option Part → State → Option State
first_by (Some Catch) s = catch_arm s
first_by (Some CatchAll) s = catch_all_arm s
first_by (Some Delegate) s = delegate_arm s
first_by p s = None

abbrev pub first_handler : State → Option State
first_handler s = first_by (rule.part_in s.toks) s

abbrev pub next_by : Option Part → State → Option State
next_by (Some Catch) s = catch_arm s
next_by (Some CatchAll) s = catch_all_arm s
next_by p s = None

abbrev pub next_handler : State → Option State
next_handler s = next_by (rule.part_in s.toks) s

-- folded instructions
abbrev pub folded_block : BlockOp → Option Hint → State → Option State
folded_block opens.if_ h s = read_operator s >>= push_level level.Condition (position s.toks) h
folded_block opens.try_ h s = append_hint h s >>= read_instr >>= push_level level.Try (position s.toks) None
folded_block op h s = append_hint h s >>= read_instr >>= push_level level.Block (position s.toks) None

abbrev pub no_part : Toks → Option Toks
no_part toks = elim (rule.part_in toks) [ Some p ↦ None | None ↦ Some toks ]

abbrev pub with_operands : Option Hint → State → Option State
with_operands h s = taken no_part s >>= read_operator >>= push_level level.Operands (position s.toks) h

abbrev pub operator_of : Option Word → Option Hint → State → Option State
operator_of (Some (word.Block op)) h s = folded_block op h s
operator_of w h s = with_operands h s

abbrev pub folded_operator : Option Hint → State → Option State
folded_operator h s = operator_of (word_of (peek 0 s.toks)) h s

abbrev pub in_condition : Option Hint → State → Option State
in_condition h s = elim (is_key key.Then (key_of (peek 0 s.toks))) [ true ↦ then_arm h s | false ↦ folded_operator h s ]

abbrev pub opened_in : Option Level → Option Hint → State → Option State
opened_in (Some level.Condition) h s = in_condition h s
opened_in (Some level.Then) h s = else_arm h s
opened_in (Some level.Try) h s = do_arm h s
opened_in (Some level.Do) h s = taken (without h) s >>= first_handler
opened_in (Some level.Catch) h s = taken (without h) s >>= next_handler
opened_in (Some level.Last) h s = None
opened_in (Some level.Delegated) h s = None
opened_in l h s = folded_operator h s

abbrev pub opened : Option Hint → State → Option State
opened h s = opened_in (level_of s.levels) h s

-- ')'
abbrev pub closed_by : Level → Option Hint → State → Option State
closed_by level.Operands h s = append_hinted_operator h s
closed_by level.Block h s = append (instr.end_ None) s
closed_by level.Then h s = append (instr.end_ None) s
closed_by level.Do h s = append (instr.end_ None) s
closed_by level.Catch h s = append (instr.end_ None) s
closed_by level.Last h s = append (instr.end_ None) s
closed_by level.Delegated h s = Some s
closed_by level.Arm h s = Some s
closed_by l h s = None

abbrev pub close_level : Open → State → Option State
close_level o s = closed_by o.level o.hint s

abbrev pub closed_in : List Open → State → Option State
closed_in [] s = None
closed_in (o ∷ os) s = close_level o (with_levels os s)

abbrev pub closed : Option Hint → State → Option State
closed h s = taken (without h) s >>= λ t. closed_in t.levels t

-- instructions without parentheses
abbrev pub part_at : Option (Option Level) → State → Option State
part_at (Some (Some l)) s = replace_level l s
part_at (Some None) s = pop_level s
part_at None s = None

abbrev pub next_level : Option Level → Part → Option (Option Level)
next_level (Some l) p = after_part l p
next_level None p = None

abbrev pub parted : Part → State → Option State
parted p s = part_at (next_level (level_of s.levels) p) s

abbrev pub parted_by : Option Part → State → Option State
parted_by (Some p) s = parted p s
parted_by None s = Some s

abbrev pub parted_if_any : State → Option State
parted_if_any s = parted_by (rule.part_in s.toks) s

abbrev pub word_by : Option Word → State → Option State
word_by (Some (word.Block op)) s = read_instr s >>= push_level (plain_level op) (position s.toks) None
word_by (Some w) s = parted_if_any s >>= read_instr
word_by None s = None

abbrev pub operator_word : State → Option State
operator_word s = word_by (word_of (peek 0 s.toks)) s

abbrev pub plain : Option Hint → State → Option State
plain h s = append_hint h s >>= operator_word

abbrev pub other : Option Hint → State → Option State
other h s = elim (takes_plain (level_of s.levels)) [ true ↦ plain h s | false ↦ None ]

-- a step if no token is left
abbrev pub at_nothing : Option Level → Option Hint → State → Option State
at_nothing None h s = taken (without h) s
at_nothing (Some l) h s = other h s

abbrev pub hinted_by : Option Token → Option Hint → State → Option State
hinted_by (Some token.Open) h s = skipped s >>= opened h
hinted_by (Some token.Close) h s = skipped s >>= closed h
hinted_by None h s = at_nothing (level_of s.levels) h s
hinted_by t h s = elim (is_hint (annotation_of t)) [ true ↦ None | false ↦ other h s ]

abbrev pub hinted_step : Option Hint → State → Option State
hinted_step h s = hinted_by (peek 0 s.toks) h s

abbrev pub step : Bool → State → Option State
step may s = hint may s.toks >>= λ h. hinted_step h.0 (with_toks h.1 s)

-- Whether no level is open, and whether an expression is read to its end.
abbrev pub is_closed : List Open → Bool
is_closed [] = true
is_closed (o ∷ os) = false

abbrev pub is_done : List Open → Toks → Bool
is_done ls toks = is_closed ls && is_end (peek 0 toks)
