-- A step of the machine at a level that only an arm or ')' continues, such as an `if` after its `then`. The grammar reads the
-- same from the state before the step and from the state after it.
use Rattle.std.proofs.Common.{◌≡◌, ◌∙◌, ℕ, zero, suc, Bool, true, false, if◌then◌else◌, List, [], ◌∷◌, Option, None, Some, refl, sym, ap}
use Rattle.wast_base.specs.declared.ids.Span.{Span}
use Rattle.wat_grammar.specs.Parts.{◌>>=◌}
use Rattle.wat_tokens.specs.declared.words.Key.TheVariants as key
use Rattle.wat_tokens.specs.declared.tokens.Token.{Token}
use Rattle.wat_tokens.specs.declared.tokens.Token.TheVariants as token
use Rattle.wat_syntax.specs.Tree.{Instruction, Expression, Index}
use Rattle.wat_syntax.specs.Tree.instr
use Rattle.wat_syntax.specs.Tree.bare
use Rattle.wat_syntax.specs.Tree.plain as plainly
use Rattle.wat_syntax.specs.Tokens.{Toks, Parse, peek, after, is_lparen, is_rparen, is_key, key_of, rparen, form}
use Rattle.wat_syntax.specs.Values.{index}
use Rattle.wat_syntax.specs.Bodies.{Item, Rule, Place, Anywhere, CatchArms, Ends, CatchingArm, Part, Else, Catch}
use Rattle.wat_syntax.specs.Bodies.{CatchAll, Delegate, part_in, same_part, is_arm, next_of, terminal, arm, ends}
use Rattle.wat_syntax.specs.Bodies.{else_arm, catch_arm, catch_all_arm, handlers, sequence, sequences}
use Rattle.wat_syntax.specs.Bodies as rule
use Rattle.wat_text.specs.declared.bodies.Level.{Level}
use Rattle.wat_text.specs.declared.bodies.Level.TheVariants as level
use Rattle.wat_text.specs.declared.bodies.Hint as code
use Rattle.wat_text.specs.declared.bodies.Open.{Open}
use Rattle.wat_text.specs.Machine.{State, with_instr, opened, closed, first_by, next_by, append, replace_level, push_arm, with_toks, hinted_step}
use Rattle.wat_text.specs.Machine as machine
use Rattle.wat_text.proofs.Running.{run, add, in_turn}
use Rattle.wat_text.proofs.Levels.{Base, hint_items, todo}
use Rattle.wat_text.proofs.MachineSteps.{state, open_of, Same, no_step, one_step, by_both, next_is}
use Rattle.wat_text.proofs.Places.{arm_not, arm_by, form_by, form_not, closes, no_close, ends_at, no_end, form_at, no_form}
use Rattle.wat_text.proofs.Places.{else_at, no_else, catch_all_at, no_catch_all, catch_at, no_catch, delegate_at, no_delegate}
use Rattle.wat_text.proofs.Turns.{First, Bare, Hinted, step_is, neither, not_open, not_close, at_close}

module _ (may : Bool) (b : Base) (m : ℕ) (os : List Open) (ws : List Instruction) (place : Span) (h0 : Option code.Hint) (e : Expression) where
  abbrev w : Place → Rule
  w = sequences may (suc m)

  abbrev more : List Rule
  more = todo may b (suc m) os ws

  abbrev levels : Level → List Open
  levels l = open_of l place h0 ∷ os

  -- an arm of a level
  abbrev armed : Level → Toks → List Open
  armed l t = open_of level.Arm t.before None ∷ open_of l place None ∷ os

  -- the arms of `catch` and `catch_all`, and ')'
  abbrev catching : List Rule
  catching = w CatchArms ∷ catch_all_arm w ∷ ends ∷ more

  abbrev arms_after : List Rule
  arms_after = sequences may m CatchArms ∷ catch_all_arm w ∷ ends ∷ more

  module _ (toks t : Toks) (h : List Item) (read : rule.hint may toks ≡ Some (h, t)) where
    arms_end : is_arm Catch t ≡ false → run catching e toks ≡ run (catch_all_arm w ∷ ends ∷ more) e toks
    arms_end absent = next_is may b m CatchArms (catch_all_arm w ∷ ends ∷ more) e toks t h Ends read
        (ap (λ b. elim b [ true ↦ CatchingArm | false ↦ Ends ]) absent)

    one_arm : is_arm Catch t ≡ true → run catching e toks ≡ run (catch_arm (sequences may m) ∷ arms_after) e toks
    one_arm there = next_is may b m CatchArms (catch_all_arm w ∷ ends ∷ more) e toks t h CatchingArm read
        (ap (λ b. elim b [ true ↦ CatchingArm | false ↦ Ends ]) there)
        ∙ in_turn (catch_arm (sequences may m)) (sequences may m CatchArms) (catch_all_arm w ∷ ends ∷ more) e toks

    -- no parenthesis is next
    no_arms : is_lparen (peek 0 toks) ≡ false → is_rparen (peek 0 toks) ≡ false → run catching e toks ≡ None
    no_arms p q = by (is_arm Catch t) refl
      where
        by : (b : Bool) → is_arm Catch t ≡ b → run catching e toks ≡ None
        by true there = one_arm there ∙ no_catch (sequences may m) toks arms_after e (arm_not toks Catch p)
        by false absent = arms_end absent ∙ no_catch_all w toks (ends ∷ more) e (arm_not toks CatchAll p) ∙ no_end toks more e q

  -- without a hint
  module _ (t : Toks) (read : rule.hint may t ≡ Some ([], t)) where
    arms_close : peek 0 t ≡ Some token.Close → run catching e t ≡ run more (with_instr (instr.end_ None) e) (after t)
    arms_close is = arms_end t t [] read (arm_not t Catch (ap is_lparen is))
        ∙ no_catch_all w t (ends ∷ more) e (arm_not t CatchAll (ap is_lparen is)) ∙ ends_at t more e (ap is_rparen is)

    module _ (l : Level) (is : peek 0 t ≡ Some token.Open) where
      abbrev inside : State
      inside = state (levels l) ws e (after t)

      is_this : (p : Part) (q : Option Part) → part_in (after t) ≡ q → is_arm p t ≡ same_part p q
      is_this p q part = arm_by t p is ∙ ap (same_part p) part

      other_arms : (q : Option Part) → part_in (after t) ≡ q → same_part Catch q ≡ false → same_part CatchAll q ≡ false → run catching e t ≡ None
      other_arms q part c a = arms_end t t [] read (is_this Catch q part ∙ c)
          ∙ no_catch_all w t (ends ∷ more) e (is_this CatchAll q part ∙ a) ∙ no_end t more e (ap is_rparen is)

      catch_one : part_in (after t) ≡ Some Catch → Same may b m (machine.catch_arm inside) (run catching e t)
      catch_one part = by (index (after (after t))) refl
        where
          goes : Parse Index → Option State
          goes x = x >>= λ x. append (instr.catch x.0) (with_toks x.1 inside) >>= replace_level level.Catch >>= push_arm

          by : (x : Parse Index) → index (after (after t)) ≡ x → Same may b m (machine.catch_arm inside) (run catching e t)
          by None x = no_step may b m (ap goes x) (one_arm t t [] read (is_this Catch (Some Catch) part)
              ∙ catch_at (sequences may m) t arms_after e (is_this Catch (Some Catch) part) None x)
          by (Some x) read_x = one_step may b m (suc (suc (suc zero))) (state (armed level.Catch x.1) ws (with_instr (instr.catch x.0) e) x.1) (ap goes read_x)
              (one_arm t t [] read (is_this Catch (Some Catch) part)
              ∙ catch_at (sequences may m) t arms_after e (is_this Catch (Some Catch) part) (Some x) read_x)

      catch_rest : part_in (after t) ≡ Some CatchAll → Same may b m (machine.catch_all_arm inside) (run catching e t)
      catch_rest part = one_step may b m zero
          (state (armed level.Last (after (after t))) ws (with_instr (instr.Plain (plainly.Bare bare.catch_all)) e) (after (after t))) refl
          (arms_end t t [] read (is_this Catch (Some CatchAll) part) ∙ catch_all_at w t (ends ∷ more) e (is_this CatchAll (Some CatchAll) part))

      -- after a `catch`
      next_one : (q : Option Part) → part_in (after t) ≡ q → Same may b m (next_by q inside) (run catching e t)
      next_one (Some Catch) part = catch_one part
      next_one (Some CatchAll) part = catch_rest part
      next_one q part = no_step may b m refl (other_arms q part refl refl)

      -- after the `do`
      not_delegated : (q : Option Part) → part_in (after t) ≡ q → same_part Delegate q ≡ false → run (handlers w ∷ more) e t ≡ run catching e t
      not_delegated q part absent = no_delegate w t more e (is_this Delegate q part ∙ absent)

      delegated : part_in (after t) ≡ Some Delegate → Same may b m (machine.delegate_arm inside) (run (handlers w ∷ more) e t)
      delegated part = by (index (after (after t))) refl
        where
          goes : Parse Index → Option State
          goes x = x >>= λ x. rparen x.1 >>= λ rest. append (instr.delegate x.0) (with_toks rest inside) >>= replace_level level.Delegated

          at_label : (x : Parse Index) → index (after (after t)) ≡ x
              → run (handlers w ∷ more) e t ≡ (x >>= λ x. run (terminal rparen ∷ terminal rparen ∷ more) (with_instr (instr.delegate x.0) e) x.1)
          at_label x read_x = delegate_at w t more e (is_this Delegate (Some Delegate) part) x read_x

          after_label : (x : Index × Toks) → index (after (after t)) ≡ Some x → (r : Option Toks)
              → rparen x.1 ≡ r → Same may b m (machine.delegate_arm inside) (run (handlers w ∷ more) e t)
          after_label x read_x None r = no_step may b m
              (ap goes read_x ∙ ap (λ o. o >>= λ rest. append (instr.delegate x.0) (with_toks rest inside) >>= replace_level level.Delegated) r)
              (at_label (Some x) read_x ∙ ap (λ o. (o >>= λ rest. let y : List Item × Toks = ([], rest) in Some y)
              >>= λ y. run (terminal rparen ∷ more) (add (with_instr (instr.delegate x.0) e) y.0) y.1) r)
          after_label x read_x (Some rest) r =
              one_step may b m zero (state (open_of level.Delegated place None ∷ os) ws (with_instr (instr.delegate x.0) e) rest)
              (ap goes read_x ∙ ap (λ o. o >>= λ rest. append (instr.delegate x.0) (with_toks rest inside) >>= replace_level level.Delegated) r)
              (at_label (Some x) read_x ∙ ap (λ o. (o >>= λ rest. let y : List Item × Toks = ([], rest) in Some y)
              >>= λ y. run (terminal rparen ∷ more) (add (with_instr (instr.delegate x.0) e) y.0) y.1) r)

          by : (x : Parse Index) → index (after (after t)) ≡ x → Same may b m (machine.delegate_arm inside) (run (handlers w ∷ more) e t)
          by None x = no_step may b m (ap goes x) (at_label None x)
          by (Some x) read_x = after_label x read_x (rparen x.1) refl

      first_one : (q : Option Part) → part_in (after t) ≡ q → Same may b m (first_by q inside) (run (handlers w ∷ more) e t)
      first_one (Some Catch) part = by_both may b m refl (not_delegated (Some Catch) part refl) (catch_one part)
      first_one (Some CatchAll) part = by_both may b m refl (not_delegated (Some CatchAll) part refl) (catch_rest part)
      first_one (Some Delegate) part = delegated part
      first_one q part = no_step may b m refl (not_delegated q part refl ∙ other_arms q part refl refl)

  module _ (t : Toks) (l : Level) (is : peek 0 t ≡ Some token.Open) where
    abbrev opened_it : State
    opened_it = state (levels l) ws e (after t)

    -- the arms of `else` and `do`
    abbrev else_goes : Bool → Option State
    else_goes x = ((elim x [ true ↦ Some (after (after t)) | false ↦ None ]) >>= λ rest. Some (with_toks rest opened_it))
        >>= append (instr.else_ None) >>= replace_level level.Last >>= push_arm

    else_one : (x : Bool) → same_part Else (part_in (after t)) ≡ x → Same may b m (machine.else_arm None opened_it) (run (else_arm w ∷ ends ∷ more) e t)
    else_one true there = one_step may b m zero
        (state (armed level.Last (after (after t))) ws (with_instr (instr.else_ None) e) (after (after t))) (ap else_goes there)
        (else_at w t (ends ∷ more) e (arm_by t Else is ∙ there))
    else_one false absent = no_step may b m (ap else_goes absent) (no_else w t (ends ∷ more) e (arm_by t Else is ∙ absent) ∙ no_end t more e (ap is_rparen is))

    abbrev do_goes : Bool → Option State
    do_goes x = ((elim x [ true ↦ Some (after (after t)) | false ↦ None ]) >>= λ rest. Some (with_toks rest opened_it)) >>= replace_level level.Do >>= push_arm

    do_one : (x : Bool) → is_key key.Do (key_of (peek 0 (after t))) ≡ x
        → Same may b m (machine.do_arm None opened_it) (run (terminal (form key.Do) ∷ arm w ∷ handlers w ∷ more) e t)
    do_one true there = one_step may b m zero (state (armed level.Do (after (after t))) ws e (after (after t))) (ap do_goes there)
        (form_at t (arm w ∷ handlers w ∷ more) e key.Do (form_by t key.Do is ∙ there)
        ∙ in_turn (w Anywhere) (terminal rparen) (handlers w ∷ more) e (after (after t)))
    do_one false absent = no_step may b m (ap do_goes absent) (no_form t (arm w ∷ handlers w ∷ more) e key.Do (form_by t key.Do is ∙ absent))

  -- no parenthesis is next: each of these fails
  module _ (toks : Toks) (p : is_lparen (peek 0 toks) ≡ false) (q : is_rparen (peek 0 toks) ≡ false) where
    pub then_fails : run (else_arm w ∷ ends ∷ more) e toks ≡ None
    then_fails = no_else w toks (ends ∷ more) e (arm_not toks Else p) ∙ no_end toks more e q

    pub try_fails : run (terminal (form key.Do) ∷ arm w ∷ handlers w ∷ more) e toks ≡ None
    try_fails = no_form toks (arm w ∷ handlers w ∷ more) e key.Do (form_not toks key.Do p)

    pub do_fails : (t : Toks) (h : List Item) → rule.hint may toks ≡ Some (h, t) → run (handlers w ∷ more) e toks ≡ None
    do_fails t h read = no_delegate w toks more e (arm_not toks Delegate p) ∙ no_arms toks t h read p q

    pub do_fails_at : rule.hint may toks ≡ None → run (handlers w ∷ more) e toks ≡ None
    do_fails_at none = no_delegate w toks more e (arm_not toks Delegate p)
        ∙ ap (λ o. (o >>= λ x. sequence may (sequences may m) (next_of CatchArms x.1) CatchArms toks x.0 x.1)
        >>= λ x. run (catch_all_arm w ∷ ends ∷ more) (add e x.0) x.1) none

  module _ (toks t : Toks) (h : Option code.Hint) (first : First toks t h) where
    abbrev at_level : Level → State
    at_level l = state (levels l) ws e t

    -- a level that only an arm or ')' continues, and that has these rules left
    by_token : (l : Level) (rs : List Rule) → Rattle.wat_text.specs.Machine.takes_plain (Some l) ≡ false
        → (is_lparen (peek 0 toks) ≡ false → is_rparen (peek 0 toks) ≡ false → run rs e toks ≡ None)
        → (peek 0 t ≡ Some token.Open → h ≡ None → toks ≡ t → Same may b m (opened None (state (levels l) ws e (after t))) (run rs e t))
        → ((x : code.Hint) → opened (Some x) (state (levels l) ws e (after t)) ≡ None)
        → (peek 0 t ≡ Some token.Close → Same may b m (hinted_step h (at_level l)) (run rs e toks))
        → Same may b m (hinted_step h (at_level l)) (run rs e toks)
    by_token l rs folded fails open_bare open_hinted close = by (peek 0 t) refl
      where
        at_open : peek 0 t ≡ Some token.Open → First toks t h → Same may b m (hinted_step h (at_level l)) (run rs e toks)
        at_open is (Bare none same) = by_both may b m
            (step_is may b m os ws place h0 e toks t h first l (Some token.Open) is ∙ ap (λ h. opened h (state (levels l) ws e (after t))) none)
            (ap (run rs e) same) (open_bare is none same)
        at_open is (Hinted x some at) = no_step may b m
            (step_is may b m os ws place h0 e toks t h first l (Some token.Open) is ∙ ap (λ h. opened h (state (levels l) ws e (after t))) some ∙ open_hinted x)
            (fails (ap is_lparen at) (ap is_rparen at))

        by : (o : Option Token) → peek 0 t ≡ o → Same may b m (hinted_step h (at_level l)) (run rs e toks)
        by (Some token.Open) is = at_open is first
        by (Some token.Close) is = close is
        by o is = neither may b m os ws place h0 e toks t h first l folded (ap is_lparen is) (ap is_rparen is) (run rs e toks)
            (fails (not_open may b m os ws place h0 e toks t h first (ap is_lparen is)) (not_close may b m os ws place h0 e toks t h first (ap is_rparen is)))

    abbrev ended : State
    ended = state os ws (with_instr (instr.end_ None) e) (after t)

    pub at_then : Same may b m (hinted_step h (at_level level.Then)) (run (else_arm w ∷ ends ∷ more) e toks)
    at_then = by_token level.Then (else_arm w ∷ ends ∷ more) refl (λ p q. then_fails toks p q)
        (λ is none same. else_one t level.Then is (same_part Else (part_in (after t))) refl) (λ x. refl)
        (λ is. at_close may b m os ws place h0 e toks t h first level.Then ended (else_arm w ∷ ends ∷ more) is refl (λ q p. then_fails toks p q)
        (λ same at. no_else w toks (ends ∷ more) e (arm_not toks Else (ap is_lparen at))
        ∙ ends_at toks more e (ap is_rparen at) ∙ ap (λ t. run more (with_instr (instr.end_ None) e) (after t)) same))

    pub at_try : Same may b m (hinted_step h (at_level level.Try)) (run (terminal (form key.Do) ∷ arm w ∷ handlers w ∷ more) e toks)
    at_try = by_token level.Try (terminal (form key.Do) ∷ arm w ∷ handlers w ∷ more) refl (λ p q. try_fails toks p q)
        (λ is none same. do_one t level.Try is (is_key key.Do (key_of (peek 0 (after t)))) refl) (λ x. refl)
        (λ is. no_step may b m (step_is may b m os ws place h0 e toks t h first level.Try (Some token.Close) is ∙ none_closed h)
        (no_form toks (arm w ∷ handlers w ∷ more) e key.Do (form_not toks key.Do (not_open may b m os ws place h0 e toks t h first (ap is_lparen is)))))
      where
        none_closed : (h : Option code.Hint) → closed h (state (levels level.Try) ws e (after t)) ≡ None
        none_closed None = refl
        none_closed (Some x) = refl

    pub at_last : Same may b m (hinted_step h (at_level level.Last)) (run (ends ∷ more) e toks)
    at_last = by_token level.Last (ends ∷ more) refl (λ p q. no_end toks more e q)
        (λ is none same. no_step may b m refl (no_end t more e (ap is_rparen is))) (λ x. refl)
        (λ is. at_close may b m os ws place h0 e toks t h first level.Last ended (ends ∷ more) is refl (λ q p. no_end toks more e q)
        (λ same at. ends_at toks more e (ap is_rparen at) ∙ ap (λ t. run more (with_instr (instr.end_ None) e) (after t)) same))

    pub at_delegated : Same may b m (hinted_step h (at_level level.Delegated)) (run (terminal rparen ∷ more) e toks)
    at_delegated = by_token level.Delegated (terminal rparen ∷ more) refl (λ p q. no_close toks more e q)
        (λ is none same. no_step may b m refl (no_close t more e (ap is_rparen is))) (λ x. refl)
        (λ is. at_close may b m os ws place h0 e toks t h first level.Delegated
        (state os ws e (after t)) (terminal rparen ∷ more) is refl (λ q p. no_close toks more e q)
        (λ same at. closes toks more e (ap is_rparen at) ∙ ap (λ t. run more e (after t)) same))

    module _ (read : rule.hint may toks ≡ Some (hint_items h, t)) where
      bare_hint : h ≡ None → toks ≡ t → rule.hint may t ≡ Some ([], t)
      bare_hint none same = sym (ap (rule.hint may) same) ∙ read ∙ ap (λ h. let o : List Item × Toks = (hint_items h, t) in Some o) none

      bare_at : toks ≡ t → peek 0 toks ≡ Some token.Close → rule.hint may toks ≡ Some ([], toks)
      bare_at same at = ap (λ o. elim (rule.is_hint (Rattle.wat_syntax.specs.Values.annotation_of o)) as (λ x. Parse (List Item))
          [ true ↦ read_value | false ↦ Some ([], toks) ]) at
        where
          read_value : Parse (List Item)
          read_value = Rattle.wat_syntax.specs.Values.string (after toks) >>= λ s. rule.hint_value s.0.now
              >>= λ v. rparen s.1 >>= λ rest. if may then Some (rule.Hint v ∷ [], rest) else None

      pub at_catch : Same may b m (hinted_step h (at_level level.Catch)) (run catching e toks)
      at_catch = by_token level.Catch catching refl (λ p q. no_arms toks t (hint_items h) read p q)
          (λ is none same. next_one t (bare_hint none same) level.Catch is (part_in (after t)) refl) (λ x. refl)
          (λ is. at_close may b m os ws place h0 e toks t h first level.Catch ended catching is refl (λ q p. no_arms toks t (hint_items h) read p q)
          (λ same at. arms_close toks (bare_at same at) at ∙ ap (λ t. run more (with_instr (instr.end_ None) e) (after t)) same))

      pub at_do : Same may b m (hinted_step h (at_level level.Do)) (run (handlers w ∷ more) e toks)
      at_do = by_token level.Do (handlers w ∷ more) refl (λ p q. do_fails toks p q t (hint_items h) read)
          (λ is none same. first_one t (bare_hint none same) level.Do is (part_in (after t)) refl) (λ x. refl)
          (λ is. at_close may b m os ws place h0 e toks t h first level.Do ended (handlers w ∷ more) is refl (λ q p. do_fails toks p q t (hint_items h) read)
          (λ same at. no_delegate w toks more e (arm_not toks Delegate (ap is_lparen at))
          ∙ arms_close toks (bare_at same at) at ∙ ap (λ t. run more (with_instr (instr.end_ None) e) (after t)) same))
