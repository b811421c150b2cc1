-- The machine and the grammar read the same: a step loses no result and adds none.
use Rattle.std.proofs.Common.{◌≡◌, ◌∙◌, ℕ, suc, not, Bool, true, false, if◌then◌else◌, List, [], ◌∷◌, Option, None, Some, refl, sym, ap}
use Rattle.std.specs.Borrow.{Bor}
use Rattle.wast_base.specs.declared.ids.Span.{Span}
use Rattle.wat_grammar.specs.Parts.{◌>>=◌}
use Rattle.wat_tokens.specs.declared.tokens.Token.{Token}
use Rattle.wat_tokens.specs.declared.tokens.Token.TheVariants as token
use Rattle.wat_tokens.specs.declared.tokens.Annotation.TheVariants as annotation
use Rattle.wat_syntax.specs.Tree.{Instruction, Expression}
use Rattle.wat_syntax.specs.Tokens.{Toks, Parse, peek, after, is_lparen, is_rparen, is_end, position, rparen}
use Rattle.wat_syntax.specs.Values.{string, annotation_of}
use Rattle.wat_syntax.specs.Bodies.{Item, Hint, Rule, Place, Anywhere, Folded, CatchArms, is_hint, hint_value, next_of, at_end, sequence, sequences, ◌>>◌}
use Rattle.wat_syntax.specs.Bodies as rule
use Rattle.wat_text.specs.declared.bodies.Level.{Level}
use Rattle.wat_text.specs.declared.bodies.Level.TheVariants as level
use Rattle.wat_text.specs.declared.bodies.Hint as code
use Rattle.wat_text.specs.declared.bodies.Open.{Open}
use Rattle.wat_text.specs.Machine.{hint_in, hinted_step, closed, at_nothing, step}
use Rattle.wat_text.proofs.Running.{run, add}
use Rattle.wat_text.proofs.Levels.{Base, Whole, One, hint_items, behind, todo, answer}
use Rattle.wat_text.proofs.MachineSteps.{state, open_of, Same, no_step, by_both}
use Rattle.wat_text.proofs.Unfolds.{anywhere}
use Rattle.wat_text.proofs.Turns.{First, Bare, Hinted, a_hint, at_plain, at_plain_if, at_plain_try, at_plain_catch, at_block, at_arm, at_operands, at_condition}
use Rattle.wat_text.proofs.Arms.{at_then, at_try, at_last, at_delegated, at_catch, at_do, then_fails, try_fails, do_fails_at}
use Rattle.wat_text.proofs.Places.{no_end, no_close}

-- what a hint reads as
pub data Reading (may : Bool) (toks : Toks) : Type 0 where
  None_there : rule.hint may toks ≡ Some ([], toks) → Reading may toks
  One_there : (v : ℕ) (t : Toks) → peek 0 toks ≡ a_hint → rule.hint may toks ≡ Some (Hint v ∷ [], t) → Reading may toks
  Bad : peek 0 toks ≡ a_hint → rule.hint may toks ≡ None → Reading may toks

pub reading : (may : Bool) (toks : Toks) → Reading may toks
reading may toks = by (peek 0 toks) refl
  where
    after_it : Parse (Bor (List ℕ)) → Parse (List Item)
    after_it s = s >>= λ b. hint_value b.0.now >>= λ v. rparen b.1 >>= λ rest. if may then Some (Hint v ∷ [], rest) else None

    read_as : (o : Option Token) → Parse (List Item)
    read_as o = elim (is_hint (annotation_of o)) [ true ↦ after_it (string (after toks)) | false ↦ Some ([], toks) ]

    allowed : (x : Bool) → may ≡ x → (v : ℕ) (rest : Toks) → peek 0 toks ≡ a_hint
        → rule.hint may toks ≡ (if may then Some (Hint v ∷ [], rest) else None) → Reading may toks
    allowed true is v rest at e = One_there v rest at (e ∙ ap (λ x. let o : List Item × Toks = (Hint v ∷ [], rest) in if x then Some o else None) is)
    allowed false is v rest at e = Bad at (e ∙ ap (λ x. let o : List Item × Toks = (Hint v ∷ [], rest) in if x then Some o else None) is)

    at_rparen : (v : ℕ) (r : Option Toks) → peek 0 toks ≡ a_hint
        → rule.hint may toks ≡ (r >>= λ rest. if may then Some (Hint v ∷ [], rest) else None) → Reading may toks
    at_rparen v None at e = Bad at e
    at_rparen v (Some rest) at e = allowed may refl v rest at e

    at_value : (v : Option ℕ) (r : Toks) → peek 0 toks ≡ a_hint
        → rule.hint may toks ≡ (v >>= λ v. rparen r >>= λ rest. if may then Some (Hint v ∷ [], rest) else None) → Reading may toks
    at_value None r at e = Bad at e
    at_value (Some v) r at e = at_rparen v (rparen r) at e

    at_string : (s : Parse (Bor (List ℕ))) → peek 0 toks ≡ a_hint → rule.hint may toks ≡ after_it s → Reading may toks
    at_string None at e = Bad at e
    at_string (Some s) at e = at_value (hint_value s.0.now) s.1 at e

    by : (o : Option Token) → peek 0 toks ≡ o → Reading may toks
    by (Some (token.Annotation annotation.BranchHint)) is = at_string (string (after toks)) is (ap read_as is)
    by (Some (token.Annotation a)) is = None_there (ap read_as is)
    by (Some k) is = None_there (ap read_as is)
    by None is = None_there (ap read_as is)

-- whether the machine takes a step: not at the end of what is read
abbrev pub takes_step : Base → List Open → Toks → Bool
takes_step b (o ∷ os) toks = true
takes_step Whole [] toks = not (is_end (peek 0 toks))
takes_step One [] toks = false

module _ (may : Bool) (b : Base) (m : ℕ) where
  abbrev w : Place → Rule
  w = sequences may (suc m)

  -- an open level
  by_level : (l : Level) (os : List Open) (ws : List Instruction) (place : Span) (h0 : Option code.Hint)
      (e : Expression) (toks t : Toks) (h : Option code.Hint) → First toks t h
      → rule.hint may toks ≡ Some (hint_items h, t)
      → Same may b m (hinted_step h (state (open_of l place h0 ∷ os) ws e t)) (run (todo may b (suc m) (open_of l place h0 ∷ os) ws) e toks)
  by_level level.Plain os ws place h0 e toks t h first read = at_plain may b m os ws place h0 e toks t h first read
  by_level level.PlainIf os ws place h0 e toks t h first read = at_plain_if may b m os ws place h0 e toks t h first read
  by_level level.PlainTry os ws place h0 e toks t h first read = at_plain_try may b m os ws place h0 e toks t h first read
  by_level level.PlainCatch os ws place h0 e toks t h first read = at_plain_catch may b m os ws place h0 e toks t h first read
  by_level level.Operands os ws place h0 e toks t h first read = at_operands may b m os ws place h0 e toks t h first read
  by_level level.Block os ws place h0 e toks t h first read = at_block may b m os ws place h0 e toks t h first read
  by_level level.Condition os ws place h0 e toks t h first read = at_condition may b m os ws place h0 e toks t h first read
  by_level level.Then os ws place h0 e toks t h first read = at_then may b m os ws place h0 e toks t h first
  by_level level.Try os ws place h0 e toks t h first read = at_try may b m os ws place h0 e toks t h first
  by_level level.Do os ws place h0 e toks t h first read = at_do may b m os ws place h0 e toks t h first read
  by_level level.Catch os ws place h0 e toks t h first read = at_catch may b m os ws place h0 e toks t h first read
  by_level level.Last os ws place h0 e toks t h first read = at_last may b m os ws place h0 e toks t h first
  by_level level.Delegated os ws place h0 e toks t h first read = at_delegated may b m os ws place h0 e toks t h first
  by_level level.Arm os ws place h0 e toks t h first read = at_arm may b m os ws place h0 e toks t h first read

  -- a hint that cannot be read
  placed_fails : (p : Place) (ps : List Rule) (e : Expression) (toks : Toks) → rule.hint may toks ≡ None → run (w p ∷ ps) e toks ≡ None
  placed_fails p ps e toks none = ap (λ o. (o >>= λ x. sequence may (sequences may m) (next_of p x.1) p toks x.0 x.1) >>= λ x. run ps (add e x.0) x.1) none

  bad_at : (l : Level) (os : List Open) (ws : List Instruction) (place : Span) (h0 : Option code.Hint) (e : Expression) (toks : Toks)
      → peek 0 toks ≡ a_hint → rule.hint may toks ≡ None → run (todo may b (suc m) (open_of l place h0 ∷ os) ws) e toks ≡ None
  bad_at level.Then os ws place h0 e toks is none = then_fails may b m os ws place h0 e toks (ap is_lparen is) (ap is_rparen is)
  bad_at level.Try os ws place h0 e toks is none = try_fails may b m os ws place h0 e toks (ap is_lparen is) (ap is_rparen is)
  bad_at level.Do os ws place h0 e toks is none = do_fails_at may b m os ws place h0 e toks (ap is_lparen is) (ap is_rparen is) none
  bad_at level.Last os ws place h0 e toks is none = no_end toks (todo may b (suc m) os ws) e (ap is_rparen is)
  bad_at level.Delegated os ws place h0 e toks is none = no_close toks (todo may b (suc m) os ws) e (ap is_rparen is)
  bad_at level.Operands os ws place h0 e toks is none = placed_fails Folded (behind may b (suc m) (open_of level.Operands place h0 ∷ os) ws) e toks none
  bad_at level.Condition os ws place h0 e toks is none = placed_fails Folded (behind may b (suc m) (open_of level.Condition place h0 ∷ os) ws) e toks none
  bad_at level.Catch os ws place h0 e toks is none = placed_fails CatchArms (behind may b (suc m) (open_of level.Catch place h0 ∷ os) ws) e toks none
  bad_at l os ws place h0 e toks is none = placed_fails Anywhere (behind may b (suc m) (open_of l place h0 ∷ os) ws) e toks none

  -- nothing is open
  end_fails : (e : Expression) (toks : Toks) → is_end (peek 0 toks) ≡ false → run (at_end ∷ []) e toks ≡ None
  end_fails e toks going = ap (λ x. (elim x as (λ x. Parse (List Item)) [ true ↦ Some ([], toks) | false ↦ None ]) >>= λ x. run [] (add e x.0) x.1) going

  whole_at : (ws : List Instruction) (e : Expression) (toks t : Toks) (h : Option code.Hint)
      → First toks t h → rule.hint may toks ≡ Some (hint_items h, t) → is_end (peek 0 toks) ≡ false
      → Same may Whole m (hinted_step h (state [] ws e t)) (run (w Anywhere ∷ at_end ∷ []) e toks)
  whole_at ws e toks t h first read going = anywhere may Whole m [] ws h e toks t read refl refl
      (λ is. no_step may Whole m (none_closed h) (end_fails e toks going))
      (λ is. no_step may Whole m (none_left is first) (end_fails e toks going))
      (λ q is l r n. no_step may Whole m refl (end_fails e toks going))
      refl
    where
      none_closed : (h : Option code.Hint) → closed h (state [] ws e (after t)) ≡ None
      none_closed None = refl
      none_closed (Some x) = refl

      none_left : peek 0 t ≡ None → First toks t h → at_nothing None h (state [] ws e t) ≡ None
      none_left is (Bare none is_t) = not_so (sym (ap is_end (ap (peek 0) is_t ∙ is)) ∙ going)
        where
          not_so : true ≡ false → at_nothing None h (state [] ws e t) ≡ None
          not_so e = absurd cc
      none_left is (Hinted x some at) = ap (λ h. at_nothing None h (state [] ws e t)) some

  -- a step
  pub step_as : (ls : List Open) (ws : List Instruction) (e : Expression) (toks : Toks) (r : Parse (List Item)) → rule.hint may toks ≡ r
      → step may (state ls ws e toks) ≡ ((r >>= λ h. let o : Option code.Hint × Toks = (hint_in (position toks) h.0, h.1) in Some o)
      >>= λ h. hinted_step h.0 (state ls ws e h.1))
  step_as ls ws e toks r read = ap (λ r. (r >>= λ h. let o : Option code.Hint × Toks = (hint_in (position toks) h.0, h.1) in Some o)
      >>= λ h. hinted_step h.0 (state ls ws e h.1)) read

pub unfolds : (may : Bool) (b : Base) (m : ℕ) (ls : List Open) (ws : List Instruction) (e : Expression) (toks : Toks) → takes_step b ls toks ≡ true
    → Same may b m (step may (state ls ws e toks)) (answer may b (suc m) (state ls ws e toks))
unfolds may One m [] ws e toks going = absurd cc
unfolds may Whole m [] ws e toks going = by (reading may toks)
  where
    not_end : (x : Bool) → is_end (peek 0 toks) ≡ x → not x ≡ true → is_end (peek 0 toks) ≡ false
    not_end true is yet = absurd cc
    not_end false is yet = is

    by : Reading may toks → Same may Whole m (step may (state [] ws e toks)) (answer may Whole (suc m) (state [] ws e toks))
    by (None_there read) = by_both may Whole m (step_as may Whole m [] ws e toks (Some ([], toks)) read) refl
        (whole_at may Whole m ws e toks toks None (Bare refl refl) read (not_end (is_end (peek 0 toks)) refl going))
    by (One_there v t at read) = by_both may Whole m (step_as may Whole m [] ws e toks (Some (Hint v ∷ [], t)) read) refl
        (whole_at may Whole m ws e toks t (Some (record { value = v; place = position toks }))
        (Hinted (record { value = v; place = position toks }) refl at) read (not_end (is_end (peek 0 toks)) refl going))
    by (Bad at none) = no_step may Whole m (step_as may Whole m [] ws e toks None none) (placed_fails may Whole m Anywhere (at_end ∷ []) e toks none)
unfolds may b m (o ∷ os) ws e toks going = by (reading may toks)
  where
    by : Reading may toks → Same may b m (step may (state (o ∷ os) ws e toks)) (answer may b (suc m) (state (o ∷ os) ws e toks))
    by (None_there read) = by_both may b m (step_as may b m (o ∷ os) ws e toks (Some ([], toks)) read) refl
        (by_level may b m o.level os ws o.place o.hint e toks toks None (Bare refl refl) read)
    by (One_there v t at read) = by_both may b m (step_as may b m (o ∷ os) ws e toks (Some (Hint v ∷ [], t)) read) refl
        (by_level may b m o.level os ws o.place o.hint e toks t (Some (record { value = v; place = position toks }))
        (Hinted (record { value = v; place = position toks }) refl at) read)
    by (Bad at none) = no_step may b m (step_as may b m (o ∷ os) ws e toks None none) (bad_at may b m o.level os ws o.place o.hint e toks at none)
