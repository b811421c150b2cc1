-- The steps of the machine that the code takes by one look at the next token. There is no hint at a token that begins none. The step at a
-- simple word reads an instruction, and nothing else: nothing is opened or closed. After a '(' such an instruction waits for its operands.
use Rattle.std.proofs.Common.{◌≡◌, ◌∙◌, ℕ, Bool, true, false, if◌then◌else◌, List, [], ◌∷◌, map, reverse, Option, None, Some, refl, sym, ap, subst}
use Rattle.std.specs.Borrow.{Bor}
use Rattle.wast_base.specs.declared.ids.Span.{Span}
use Rattle.wast_base.specs.declared.index_ops.IndexOp.TheVariants as indexed
use Rattle.wat_grammar.specs.Parts.{◌>>=◌}
use Rattle.wat_tokens.specs.declared.faults.TextError.{TextError}
use Rattle.wat_tokens.specs.declared.words.Word.{Word}
use Rattle.wat_tokens.specs.declared.words.Word.TheVariants as word
use Rattle.wat_tokens.specs.declared.words.OwnOp.TheVariants as own
use Rattle.wat_tokens.specs.declared.tokens.Token.{Token}
use Rattle.wat_tokens.specs.declared.tokens.Token.TheVariants as token
use Rattle.wat_syntax.specs.Tree.{Instruction, Expression}
use Rattle.wat_syntax.specs.Tree.bare
use Rattle.wat_syntax.specs.Tree.plain as plainly
use Rattle.wat_syntax.specs.Tokens.{Toks, Parse, peek, after, position, word_of, rparen}
use Rattle.wat_syntax.specs.Values.{string, annotation_of}
use Rattle.wat_syntax.specs.Bodies.{Item, Hint, Part, is_hint, hint_value, part_of}
use Rattle.wat_syntax.specs.Bodies as rule
use Rattle.wat_syntax.specs.BareInstructions.{bare_instr}
use Rattle.wat_text.specs.declared.reader.Reader.{Reader}
use Rattle.wat_text.specs.declared.bodies.Level.TheVariants as level
use Rattle.wat_text.specs.declared.bodies.Hint as code
use Rattle.wat_text.specs.declared.bodies.Open.{Open}
use Rattle.wat_text.specs.declared.bodies.Body.{Body}
use Rattle.wat_text.specs.Readers.{left, IsRefused}
use Rattle.wat_text.specs.Machine.{State, Does, state_of, is_simple, level_of, takes_plain, hint_in, hinted_by, hinted_step, plain, word_by}
use Rattle.wat_text.specs.Machine.{parted_by, read_instr, read_operator, push_level, operator_of, folded_operator, with_toks, step}

no_part : (w : Word) → is_simple w ≡ true → part_of (Some w) ≡ None
no_part (word.Own own.end_) simple = absurd cc
no_part (word.Own own.else_) simple = absurd cc
no_part (word.Index indexed.Catch) simple = absurd cc
no_part (word.Index indexed.Delegate) simple = absurd cc
no_part (word.Plain (plainly.Bare bare.catch_all)) simple = absurd cc
no_part w simple = refl

module _ (may : Bool) (ls : List Open) (ws : List Instruction) (e : Expression) (toks : Toks) where
  abbrev s : State
  s = record { levels = ls; waiting = ws; read = e; toks = toks }

  at_word : (w : Word) → is_simple w ≡ true → rule.part_in toks ≡ part_of (Some w) → word_by (Some w) s ≡ read_instr s
  at_word (word.Block op) simple same = absurd cc
  at_word w simple same = ap (λ p. parted_by p s >>= read_instr) (same ∙ no_part w simple)

  no_hint : (t : Token) → peek 0 toks ≡ Some t → is_hint (annotation_of (Some t)) ≡ false → rule.hint may toks ≡ Some ([], toks)
  no_hint t next none = ap read_as (ap (λ o. is_hint (annotation_of o)) next ∙ none)
    where
      read_as : Bool → Parse (List Item)
      read_as x = elim x [
        | true ↦ string (after toks) >>= λ b. hint_value b.0.now >>= λ v. rparen b.1 >>= λ rest. if may then Some (Hint v ∷ [], rest) else None
        | false ↦ Some ([], toks)
      ]

  pub unhinted : (t : Token) → peek 0 toks ≡ Some t → is_hint (annotation_of (Some t)) ≡ false → step may s ≡ hinted_step None s
  unhinted t next none =
      ap (λ r. (r >>= λ h. let o : Option code.Hint × Toks = (hint_in (position toks) h.0, h.1) in Some o)
      >>= λ h. hinted_step h.0 (record { levels = ls; waiting = ws; read = e; toks = h.1 })) (no_hint t next none)

  pub simple_is : (w : Word) (name : Bor (List ℕ)) → peek 0 toks ≡ Some (token.Word w name) → is_simple w ≡ true → takes_plain (level_of ls) ≡ true
      → step may s ≡ read_instr s
  simple_is w name next simple taken = unhinted (token.Word w name) next refl
      ∙ ap (λ o. hinted_by o None s) next
      ∙ ap (λ b. elim b as (λ b. Option State) [ true ↦ plain None s | false ↦ None ]) taken
      ∙ ap (λ o. word_by (word_of o) s) next
      ∙ at_word w simple (ap (λ o. part_of (word_of o)) next)

-- an instruction is read at a simple word
pub simple_does : (may : Bool) (old new : Reader) (before behind : Body) (w : Word) (name : Bor (List ℕ))
    → peek 0 (left old) ≡ Some (token.Word w name) → is_simple w ≡ true
    → takes_plain (level_of (reverse before.levels.items)) ≡ true → Does read_instr old new before behind → Does (step may) old new before behind
simple_does may old new before behind w name next simple taken d = record {
  made = d.made;
  clean = d.clean;
  gives = λ h. same ∙ d.gives h;
  keeps = d.keeps;
  refuses = λ h m f. same ∙ d.refuses h m f;
}
  where
    same : step may (state_of old before) ≡ read_instr (state_of old before)
    same = simple_is may (reverse before.levels.items) (map bare_instr before.waiting) (record {
      instrs = map bare_instr before.instrs;
      branch_hints = before.hints;
    }) (left old) w name next simple taken

-- the step at a token that begins no branch hint
pub unhinted_does : (may : Bool) (old new : Reader) (before behind : Body) (t : Token) → peek 0 (left old) ≡ Some t
    → is_hint (annotation_of (Some t)) ≡ false → Does (hinted_step None) old new before behind → Does (step may) old new before behind
unhinted_does may old new before behind t next none d = record {
  made = d.made;
  clean = d.clean;
  gives = λ h. same ∙ d.gives h;
  keeps = d.keeps;
  refuses = λ h m f. same ∙ d.refuses h m f;
}
  where
    same : step may (state_of old before) ≡ hinted_step None (state_of old before)
    same = unhinted may (reverse before.levels.items) (map bare_instr before.waiting) (record {
      instrs = map bare_instr before.instrs;
      branch_hints = before.hints;
    }) (left old) t next none

-- one step of the code after another
both_do : (p q : State → Option State) (a b c : Reader) (x y z : Body) → Does p a b x y → Does q b c y z → Does (λ s. p s >>= q) a c x z
both_do p q a b c x y z d f = record {
  made = λ h. d.made (f.made h);
  clean = λ h. d.clean (f.clean h);
  gives = λ h. ap (λ o. o >>= q) (d.gives (f.clean h.0, f.made h.1)) ∙ f.gives h;
  keeps = λ h. f.keeps (λ e. h (d.clean e)) ∙ d.keeps h;
  refuses = λ h m r. go b.fault refl h m r;
}
  where
    go : (o : Option TextError) → b.fault ≡ o → a.fault ≡ None → c.make ≡ false → IsRefused c.fault → (p (state_of a x) >>= q) ≡ None
    go None e h m r = ap (λ o. o >>= q) (d.gives (e, f.made m)) ∙ f.refuses e m r
    go (Some t) e h m r = ap (λ o. o >>= q) (d.refuses h (f.made m) (subst IsRefused (f.keeps (λ n. cc)) r))

-- after a '(' at a simple word
module _ (ls : List Open) (ws : List Instruction) (e : Expression) (toks : Toks) (h : Option code.Hint) where
  abbrev here : State
  here = record { levels = ls; waiting = ws; read = e; toks = toks }

  waits : (w : Word) → is_simple w ≡ true → rule.part_in toks ≡ part_of (Some w)
      → operator_of (Some w) h here ≡ (read_operator here >>= push_level level.Operands (position toks) h)
  waits (word.Block op) simple same = absurd cc
  waits w simple same = ap (λ (p : Option Part). ((elim p as (λ x. Option Toks) [ Some q ↦ None | None ↦ Some toks ]) >>= λ t. Some (with_toks t here))
      >>= read_operator >>= push_level level.Operands (position toks) h) (same ∙ no_part w simple)

  operator_is : (w : Word) (name : Bor (List ℕ)) → peek 0 toks ≡ Some (token.Word w name) → is_simple w ≡ true
      → folded_operator h here ≡ (read_operator here >>= push_level level.Operands (position toks) h)
  operator_is w name next simple = ap (λ o. operator_of (word_of o) h here) next ∙ waits w simple (ap (λ o. part_of (word_of o)) next)

-- an instruction waits for its operands
pub operator_does : (h : Option code.Hint) (old mid new : Reader) (before between behind : Body) (w : Word) (name : Bor (List ℕ)) (place : Span)
    → peek 0 (left old) ≡ Some (token.Word w name) → is_simple w ≡ true → place ≡ position (left old)
    → Does read_operator old mid before between → Does (push_level level.Operands place h) mid new between behind
    → Does (folded_operator h) old new before behind
operator_does h old mid new before between behind w name place next simple at d f = record {
  made = both.made;
  clean = both.clean;
  gives = λ i. same ∙ both.gives i;
  keeps = both.keeps;
  refuses = λ i m r. same ∙ both.refuses i m r;
}
  where
    both : Does (λ s. read_operator s >>= push_level level.Operands place h) old new before behind
    both = both_do read_operator (push_level level.Operands place h) old mid new before between behind d f

    same : folded_operator h (state_of old before) ≡ (read_operator (state_of old before) >>= push_level level.Operands place h)
    same = operator_is (reverse before.levels.items) (map bare_instr before.waiting) (record {
      instrs = map bare_instr before.instrs;
      branch_hints = before.hints;
    }) (left old) h w name next simple ∙ ap (λ p. read_operator (state_of old before) >>= push_level level.Operands p h) (sym at)
