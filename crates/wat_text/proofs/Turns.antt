-- A step of the machine, by the innermost level. The grammar reads the same from the state before the step and from the state
-- after it.
use Rattle.std.proofs.Common.{◌≡◌, ◌∙◌, ℕ, zero, suc, Bool, true, false, List, ◌∷◌, Option, None, Some, refl, sym, ap}
use Rattle.wast_base.specs.declared.ids.Span.{Span}
use Rattle.wat_tokens.specs.declared.words.Key.TheVariants as key
use Rattle.wat_tokens.specs.declared.words.Word.TheVariants as word
use Rattle.wat_tokens.specs.declared.tokens.Token.{Token}
use Rattle.wat_tokens.specs.declared.tokens.Token.TheVariants as token
use Rattle.wat_tokens.specs.declared.tokens.Annotation.TheVariants as annotation
use Rattle.wat_syntax.specs.Tree.{Instruction, Expression}
use Rattle.wat_syntax.specs.Tree.instr
use Rattle.wat_syntax.specs.Tokens.{Toks, Parse, peek, after, is_lparen, is_rparen, is_form, is_key, key_of, word_of, rparen}
use Rattle.wat_syntax.specs.Values.{annotation_of}
use Rattle.wat_syntax.specs.Instructions.{instruction, instruction_of}
use Rattle.wat_syntax.specs.Bodies.{Rule, Place, Anywhere, Folded, Next, Ends, Folds, part_of, part_in, is_hint}
use Rattle.wat_syntax.specs.Bodies.{next_of, terminal, writes, arm, ends, else_arm, sequence, sequences}
use Rattle.wat_syntax.specs.Bodies as rule
use Rattle.wat_text.specs.declared.bodies.Level.{Level}
use Rattle.wat_text.specs.declared.bodies.Level.TheVariants as level
use Rattle.wat_text.specs.declared.bodies.Hint as code
use Rattle.wat_text.specs.declared.bodies.Open.{Open}
use Rattle.wat_text.specs.Machine.{State, last_of, before_last, with_instr, with_hint, with_last, takes_plain}
use Rattle.wat_text.specs.Machine.{plain, other, opened, closed, folded_operator, hinted_by, hinted_step}
use Rattle.wat_text.specs.Machine as machine
use Rattle.wat_text.proofs.Running.{run, in_turn}
use Rattle.wat_text.proofs.Levels.{Base, hint_items, waits, behind, todo}
use Rattle.wat_text.proofs.MachineSteps.{state, open_of, Same, no_step, one_step, by_both, next_is, no_operator}
use Rattle.wat_text.proofs.Places.{form_by, form_not, closes, no_close, ends_at, no_end, form_at, no_form, hinted_operator_is}
use Rattle.wat_text.proofs.Parted.{parts, no_parts}
use Rattle.wat_text.proofs.Unfolds.{one_folded, anywhere, plain_none}

abbrev pub a_hint : Option Token
a_hint = Some (token.Annotation annotation.BranchHint)

-- the tokens before and after what can be a hint
pub data First (toks t : Toks) (h : Option code.Hint) : Type 0 where
  Bare : h ≡ None → toks ≡ t → First toks t h
  Hinted : (x : code.Hint) → h ≡ Some x → peek 0 toks ≡ a_hint → First toks t h

pub first_is : {T : Type 0} (f : Option Token → T) (c : T) {toks t : Toks} {h : Option code.Hint}
    → f a_hint ≡ c → First toks t h → f (peek 0 t) ≡ c → f (peek 0 toks) ≡ c
first_is f c same (Bare e is) at = ap (λ t. f (peek 0 t)) is ∙ at
first_is f c same (Hinted x e is) at = ap f is ∙ same

module _ (may : Bool) (b : Base) (m : ℕ) where
  abbrev w : Place → Rule
  w = sequences may (suc m)

  -- a level that has only forms in parentheses continues with a parenthesis alone
  none_at : (l : Level) (place : Span) (h0 : Option code.Hint) (os : List Open) (ws : List Instruction) (e : Expression) (t : Toks) (h : Option code.Hint)
      → takes_plain (Some l) ≡ false → (o : Option Token) → is_lparen o ≡ false
      → is_rparen o ≡ false → hinted_by o h (state (open_of l place h0 ∷ os) ws e t) ≡ None
  none_at l place h0 os ws e t h folded = by
    where
      s : State
      s = state (open_of l place h0 ∷ os) ws e t

      other_none : (b : Bool) → takes_plain (Some l) ≡ b → b ≡ false → other h (state (open_of l place h0 ∷ os) ws e t) ≡ None
      other_none b is not_so = ap (λ b. elim b as (λ b. Option State) [ true ↦ plain h (state (open_of l place h0 ∷ os) ws e t) | false ↦ None ]) (is ∙ not_so)

      either : (b : Bool) → (elim b as (λ b. Option State) [ true ↦ None | false ↦ other h (state (open_of l place h0 ∷ os) ws e t) ]) ≡ None
      either true = refl
      either false = other_none (takes_plain (Some l)) refl folded

      by : (o : Option Token) → is_lparen o ≡ false → is_rparen o ≡ false → hinted_by o h (state (open_of l place h0 ∷ os) ws e t) ≡ None
      by None p q = other_none (takes_plain (Some l)) refl folded
      by (Some token.Open) p q = absurd cc
      by (Some token.Close) p q = absurd cc
      by (Some o) p q = either (is_hint (annotation_of (Some o)))

  module _ (os : List Open) (ws : List Instruction) (place : Span) (h0 : Option code.Hint)
      (e : Expression) (toks t : Toks) (h : Option code.Hint) (first : First toks t h) where
    abbrev at_level : Level → State
    at_level l = state (open_of l place h0 ∷ os) ws e t

    pub step_is : (l : Level) (o : Option Token) → peek 0 t ≡ o → hinted_step h (at_level l) ≡ hinted_by o h (at_level l)
    step_is l o is = ap (λ o. hinted_by o h (at_level l)) is

    pub not_open : is_lparen (peek 0 t) ≡ false → is_lparen (peek 0 toks) ≡ false
    not_open p = first_is is_lparen false refl first p

    pub not_close : is_rparen (peek 0 t) ≡ false → is_rparen (peek 0 toks) ≡ false
    not_close p = first_is is_rparen false refl first p

    -- a token that is no parenthesis
    pub neither : (l : Level) → takes_plain (Some l) ≡ false → is_lparen (peek 0 t) ≡ false → is_rparen (peek 0 t) ≡ false
        → (a : Parse Expression) → a ≡ None → Same may b m (hinted_step h (at_level l)) a
    neither l folded p q a fails = no_step may b m (none_at l place h0 os ws e t h folded (peek 0 t) p q) fails

    closed_by_hint : (x : code.Hint) → h ≡ Some x → (l : Level) → peek 0 t ≡ Some token.Close → hinted_step h (at_level l) ≡ None
    closed_by_hint x is l at = step_is l (Some token.Close) at ∙ ap (λ h. closed h (state (open_of l place h0 ∷ os) ws e (after t))) is

    -- ')' at a level of which these rules are left
    pub at_close : (l : Level) (after_it : State) (rs : List Rule) → peek 0 t ≡ Some token.Close
        → closed None (state (open_of l place h0 ∷ os) ws e (after t)) ≡ Some after_it
        → (is_rparen (peek 0 toks) ≡ false → is_lparen (peek 0 toks) ≡ false → run rs e toks ≡ None)
        → (toks ≡ t → peek 0 toks ≡ Some token.Close → run rs e toks ≡ run (todo may b (suc m) after_it.levels after_it.waiting) after_it.read after_it.toks)
        → Same may b m (hinted_step h (at_level l)) (run rs e toks)
    at_close l after_it rs at closing fails ending = by first
      where
        by : First toks t h → Same may b m (hinted_step h (at_level l)) (run rs e toks)
        by (Bare none is) = one_step may b m zero after_it
            (step_is l (Some token.Close) at ∙ ap (λ h. closed h (state (open_of l place h0 ∷ os) ws e (after t))) none ∙ closing)
            (ending is (ap (peek 0) is ∙ at))
        by (Hinted x some is) = no_step may b m (closed_by_hint x some l at) (fails (ap is_rparen is) (ap is_lparen is))

    -- the parts of a block without parentheses, at a level that has all instructions
    module _ (read : rule.hint may toks ≡ Some (hint_items h, t)) where
      abbrev follows : Level → List Rule
      follows l = behind may b (suc m) (open_of l place h0 ∷ os) ws

      at_next : (l : Level) (p : Place) (n : Next) → next_of p t ≡ n
          → run (w p ∷ follows l) e toks ≡ run (sequence may (sequences may m) n p toks (hint_items h) ∷ follows l) e t
      at_next l p n is = next_is may b m p (follows l) e toks t (hint_items h) n read is

      closed_none : (l : Level) → closed None (state (open_of l place h0 ∷ os) ws e (after t)) ≡ None
          → closed h (state (open_of l place h0 ∷ os) ws e (after t)) ≡ None
      closed_none l none = by h refl
        where
          by : (x : Option code.Hint) → h ≡ x → closed h (state (open_of l place h0 ∷ os) ws e (after t)) ≡ None
          by None is = ap (λ h. closed h (state (open_of l place h0 ∷ os) ws e (after t))) is ∙ none
          by (Some x) is = ap (λ h. closed h (state (open_of l place h0 ∷ os) ws e (after t))) is

      part_none : (o : Option Token) → peek 0 t ≡ o → word_of o ≡ None → part_in t ≡ None
      part_none o is none = ap (λ w. part_of w) (ap word_of is ∙ none)

      pub at_plain : Same may b m (hinted_step h (at_level level.Plain)) (run (w Anywhere ∷ follows level.Plain) e toks)
      at_plain = anywhere may b m (open_of level.Plain place h0 ∷ os) ws h e toks t read refl refl
          (λ is. no_step may b m (closed_none level.Plain refl)
          (no_parts may b m ws h e toks t read os place h0 level.Plain (part_none (Some token.Close) is refl) refl))
          (λ is. no_step may b m (plain_none may b m (open_of level.Plain place h0 ∷ os) ws h e toks t read refl refl None is refl)
          (no_parts may b m ws h e toks t read os place h0 level.Plain (part_none None is refl) refl))
          (λ q is l r n. parts may b m ws h e toks t read os place h0 level.Plain q is refl)
          refl

      pub at_plain_if : Same may b m (hinted_step h (at_level level.PlainIf)) (run (w Anywhere ∷ follows level.PlainIf) e toks)
      at_plain_if = anywhere may b m (open_of level.PlainIf place h0 ∷ os) ws h e toks t read refl refl
          (λ is. no_step may b m (closed_none level.PlainIf refl)
          (no_parts may b m ws h e toks t read os place h0 level.PlainIf (part_none (Some token.Close) is refl) refl))
          (λ is. no_step may b m (plain_none may b m (open_of level.PlainIf place h0 ∷ os) ws h e toks t read refl refl None is refl)
          (no_parts may b m ws h e toks t read os place h0 level.PlainIf (part_none None is refl) refl))
          (λ q is l r n. parts may b m ws h e toks t read os place h0 level.PlainIf q is refl)
          refl

      pub at_plain_try : Same may b m (hinted_step h (at_level level.PlainTry)) (run (w Anywhere ∷ follows level.PlainTry) e toks)
      at_plain_try = anywhere may b m (open_of level.PlainTry place h0 ∷ os) ws h e toks t read refl refl
          (λ is. no_step may b m (closed_none level.PlainTry refl)
          (no_parts may b m ws h e toks t read os place h0 level.PlainTry (part_none (Some token.Close) is refl) refl))
          (λ is. no_step may b m (plain_none may b m (open_of level.PlainTry place h0 ∷ os) ws h e toks t read refl refl None is refl)
          (no_parts may b m ws h e toks t read os place h0 level.PlainTry (part_none None is refl) refl))
          (λ q is l r n. parts may b m ws h e toks t read os place h0 level.PlainTry q is refl)
          refl

      pub at_plain_catch : Same may b m (hinted_step h (at_level level.PlainCatch)) (run (w Anywhere ∷ follows level.PlainCatch) e toks)
      at_plain_catch = anywhere may b m (open_of level.PlainCatch place h0 ∷ os) ws h e toks t read refl refl
          (λ is. no_step may b m (closed_none level.PlainCatch refl)
          (no_parts may b m ws h e toks t read os place h0 level.PlainCatch (part_none (Some token.Close) is refl) refl))
          (λ is. no_step may b m (plain_none may b m (open_of level.PlainCatch place h0 ∷ os) ws h e toks t read refl refl None is refl)
          (no_parts may b m ws h e toks t read os place h0 level.PlainCatch (part_none None is refl) refl))
          (λ q is l r n. parts may b m ws h e toks t read os place h0 level.PlainCatch q is refl)
          refl

      -- a block in parentheses, and an arm
      pub at_block : Same may b m (hinted_step h (at_level level.Block)) (run (w Anywhere ∷ follows level.Block) e toks)
      at_block = anywhere may b m (open_of level.Block place h0 ∷ os) ws h e toks t read refl refl
          (λ is. by_both may b m (sym (step_is level.Block (Some token.Close) is)) refl
          (at_close level.Block (state os ws (with_instr (instr.end_ None) e) (after t)) (follows level.Block) is refl
          (λ r l. no_end toks (todo may b (suc m) os ws) e r)
          (λ same at. ends_at toks (todo may b (suc m) os ws) e (ap is_rparen at)
          ∙ ap (λ t. run (todo may b (suc m) os ws) (with_instr (instr.end_ None) e) (after t)) same)))
          (λ is. no_step may b m (plain_none may b m (open_of level.Block place h0 ∷ os) ws h e toks t read refl refl None is refl)
          (no_end toks (todo may b (suc m) os ws) e (not_close (ap is_rparen is))))
          (λ q is l r n. no_step may b m refl (no_end toks (todo may b (suc m) os ws) e (not_close r)))
          refl

      pub at_arm : Same may b m (hinted_step h (at_level level.Arm)) (run (w Anywhere ∷ follows level.Arm) e toks)
      at_arm = anywhere may b m (open_of level.Arm place h0 ∷ os) ws h e toks t read refl refl
          (λ is. by_both may b m (sym (step_is level.Arm (Some token.Close) is)) refl
          (at_close level.Arm (state os ws e (after t)) (follows level.Arm) is refl
          (λ r l. no_close toks (todo may b (suc m) os ws) e r)
          (λ same at. closes toks (todo may b (suc m) os ws) e (ap is_rparen at) ∙ ap (λ t. run (todo may b (suc m) os ws) e (after t)) same)))
          (λ is. no_step may b m (plain_none may b m (open_of level.Arm place h0 ∷ os) ws h e toks t read refl refl None is refl)
          (no_close toks (todo may b (suc m) os ws) e (not_close (ap is_rparen is))))
          (λ q is l r n. no_step may b m refl (no_close toks (todo may b (suc m) os ws) e (not_close r)))
          refl

      -- at a level that has only folded instructions
      folded_ends : is_lparen (peek 0 t) ≡ false → next_of Folded t ≡ Ends
      folded_ends p = ap (λ b. elim b [ true ↦ Ends | false ↦ elim (is_lparen (peek 0 t)) [ true ↦ Folds | false ↦ Ends ] ]) (form_not t key.Then p)
          ∙ ap (λ b. elim b [ true ↦ Folds | false ↦ Ends ]) p

      then_ends : is_form key.Then t ≡ true → next_of Folded t ≡ Ends
      then_ends p = ap (λ b. elim b [ true ↦ Ends | false ↦ elim (is_lparen (peek 0 t)) [ true ↦ Folds | false ↦ Ends ] ]) p

      folds_at_open : is_form key.Then t ≡ false → peek 0 t ≡ Some token.Open → next_of Folded t ≡ Folds
      folds_at_open p is = ap (λ b. elim b [ true ↦ Ends | false ↦ elim (is_lparen (peek 0 t)) [ true ↦ Folds | false ↦ Ends ] ]) p
          ∙ ap (λ o. elim (is_lparen o) [ true ↦ Folds | false ↦ Ends ]) is

      -- `then` is no instruction
      then_alone : (o : Option Token) → peek 0 (after t) ≡ o → is_key key.Then (key_of o) ≡ true → instruction (after t) ≡ None
      then_alone (Some (token.Word (word.Key k) n)) is there = ap (λ o. instruction_of o (after (after t))) is
      then_alone o is there = absurd cc

      pub at_operands : Same may b m (hinted_step h (at_level level.Operands)) (run (w Folded ∷ follows level.Operands) e toks)
      at_operands = by (peek 0 t) refl
        where
          fails : is_rparen (peek 0 toks) ≡ false → run (follows level.Operands) e toks ≡ None
          fails r = no_close toks (writes (waits h0 ws) ∷ todo may b (suc m) os (before_last ws)) e r

          at_paren : peek 0 t ≡ Some token.Open → (x : Bool) → is_form key.Then t ≡ x
              → Same may b m (hinted_step h (at_level level.Operands)) (run (w Folded ∷ follows level.Operands) e toks)
          at_paren is true there = no_step may b m
              (step_is level.Operands (Some token.Open) is
              ∙ no_operator may b m (open_of level.Operands place h0 ∷ os) ws h e (after t) (word_of (peek 0 (after t)))
              (then_alone (peek 0 (after t)) refl (sym (form_by t key.Then is) ∙ there)))
              (at_next level.Operands Folded Ends (then_ends there) ∙ fails (not_close (ap is_rparen is)))
          at_paren is false there = one_folded may b m (open_of level.Operands place h0 ∷ os) ws h e toks t read Folded refl (folds_at_open there is) is refl

          by : (o : Option Token) → peek 0 t ≡ o → Same may b m (hinted_step h (at_level level.Operands)) (run (w Folded ∷ follows level.Operands) e toks)
          by (Some token.Open) is = at_paren is (is_form key.Then t) refl
          by (Some token.Close) is = by_both may b m refl (at_next level.Operands Folded Ends (folded_ends (ap is_lparen is)))
              (at_close level.Operands (state os (before_last ws) (with_last (last_of ws) (with_hint h0 e)) (after t))
              (follows level.Operands) is refl (λ r l. fails r)
              (λ same at. closes toks (writes (waits h0 ws) ∷ todo may b (suc m) os (before_last ws)) e (ap is_rparen at)
              ∙ ap (λ f. run (todo may b (suc m) os (before_last ws)) f (after toks)) (hinted_operator_is h0 (last_of ws) e)
              ∙ ap (λ t. run (todo may b (suc m) os (before_last ws)) (with_last (last_of ws) (with_hint h0 e)) (after t)) same))
          by o is = neither level.Operands refl (ap is_lparen is)
              (ap is_rparen is) _ (at_next level.Operands Folded Ends (folded_ends (ap is_lparen is)) ∙ fails (not_close (ap is_rparen is)))

      -- the condition of an `if`, and its `then`
      abbrev arms_of_if : List Rule
      arms_of_if = arm w ∷ else_arm w ∷ ends ∷ todo may b (suc m) os (before_last ws)

      then_arm_at : peek 0 t ≡ Some token.Open → is_form key.Then t ≡ true → First toks t h
          → Same may b m (machine.then_arm h (state (open_of level.Condition place h0 ∷ os) ws e (after t))) (run (follows level.Condition) e toks)
      then_arm_at is there (Bare none same) = one_step may b m zero
          (state (open_of level.Arm (after (after t)).before None ∷ open_of level.Then place None ∷ os)
          (before_last ws) (with_last (last_of ws) (with_hint h0 e)) (after (after t)))
          (ap (λ h. machine.then_arm h (state (open_of level.Condition place h0 ∷ os) ws e (after t))) none)
          (ap (λ t. run (follows level.Condition) e t) same ∙ form_at t (writes (waits h0 ws) ∷ arms_of_if) e key.Then there
          ∙ ap (λ f. run arms_of_if f (after (after t))) (hinted_operator_is h0 (last_of ws) e)
          ∙ in_turn (w Anywhere) (terminal rparen) (else_arm w ∷ ends ∷ todo may b (suc m) os (before_last ws))
          (with_last (last_of ws) (with_hint h0 e)) (after (after t)))
      then_arm_at is there (Hinted x some at) =
          no_step may b m (ap (λ h. machine.then_arm h (state (open_of level.Condition place h0 ∷ os) ws e (after t))) some)
          (no_form toks (writes (waits h0 ws) ∷ arms_of_if) e key.Then (form_not toks key.Then (ap is_lparen at)))

      pub at_condition : Same may b m (hinted_step h (at_level level.Condition)) (run (w Folded ∷ follows level.Condition) e toks)
      at_condition = by (peek 0 t) refl
        where
          fails : is_lparen (peek 0 toks) ≡ false → run (follows level.Condition) e toks ≡ None
          fails p = no_form toks (writes (waits h0 ws) ∷ arms_of_if) e key.Then (form_not toks key.Then p)

          then_or : (x : Bool) → peek 0 t ≡ Some token.Open → is_form key.Then t ≡ x
              → opened h (state (open_of level.Condition place h0 ∷ os) ws e (after t))
              ≡ elim x as (λ x. Option State) [
                | true ↦ machine.then_arm h (state (open_of level.Condition place h0 ∷ os) ws e (after t))
                | false ↦ folded_operator h (state (open_of level.Condition place h0 ∷ os) ws e (after t))
              ]
          then_or x is there =
              ap (λ b. elim b as (λ b. Option State) [
                | true ↦ machine.then_arm h (state (open_of level.Condition place h0 ∷ os) ws e (after t))
                | false ↦ folded_operator h (state (open_of level.Condition place h0 ∷ os) ws e (after t))
              ])
              (sym (form_by t key.Then is) ∙ there)

          at_paren : peek 0 t ≡ Some token.Open → (x : Bool) → is_form key.Then t ≡ x
              → Same may b m (hinted_step h (at_level level.Condition)) (run (w Folded ∷ follows level.Condition) e toks)
          at_paren is true there = by_both may b m (step_is level.Condition (Some token.Open) is ∙ then_or true is there)
              (at_next level.Condition Folded Ends (then_ends there)) (then_arm_at is there first)
          at_paren is false there = one_folded may b m (open_of level.Condition place h0 ∷ os) ws h e toks t read Folded refl
              (folds_at_open there is) is (then_or false is there)

          by : (o : Option Token) → peek 0 t ≡ o → Same may b m (hinted_step h (at_level level.Condition)) (run (w Folded ∷ follows level.Condition) e toks)
          by (Some token.Open) is = at_paren is (is_form key.Then t) refl
          by (Some token.Close) is = no_step may b m (step_is level.Condition (Some token.Close) is ∙ closed_none level.Condition refl)
              (at_next level.Condition Folded Ends (folded_ends (ap is_lparen is)) ∙ fails (not_open (ap is_lparen is)))
          by o is = neither level.Condition refl (ap is_lparen is)
              (ap is_rparen is) _ (at_next level.Condition Folded Ends (folded_ends (ap is_lparen is)) ∙ fails (not_open (ap is_lparen is)))
