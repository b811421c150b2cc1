-- The rules that follow the instructions of a level, at the token after these instructions.
use Rattle.std.proofs.Common.{◌≡◌, ◌∙◌, ◌&&◌, Bool, true, false, List, [], ◌∷◌, ◌++◌, Option, None, Some, refl, sym, ap}
use Rattle.wat_grammar.specs.Parts.{◌>>=◌}
use Rattle.wat_tokens.specs.declared.words.Key.{Key}
use Rattle.wat_tokens.specs.declared.tokens.Token.TheVariants as token
use Rattle.wat_syntax.specs.Tree.{Instruction, Expression, Index}
use Rattle.wat_syntax.specs.Tree.instr
use Rattle.wat_syntax.specs.Tokens.{Toks, Parse, peek, after, is_lparen, is_rparen, is_key, key_of, word_of, rparen, form, is_form}
use Rattle.wat_syntax.specs.Values.{index}
use Rattle.wat_syntax.specs.Bodies.{Item, Instr, Rule, Within, Anywhere, Catches, CatchArms, Part, End, Else, Catch, CatchAll}
use Rattle.wat_syntax.specs.Bodies.{Delegate, part_of, part_in, same_part, terminal, writes, hinted, arm, ends, else_arm}
use Rattle.wat_syntax.specs.Bodies.{catch_arm, catch_all_arm, handlers, part, is_part, to_end, else_to_end, catch_all_to_end}
use Rattle.wat_syntax.specs.Bodies.{catches_to_end, ◌>>◌, is_arm, arm_word, else_item, catch_all_item, catch_tag, delegate_label}
use Rattle.wat_syntax.specs.Bodies as rule
use Rattle.wat_text.specs.Machine.{with_instr, with_hint, with_last}
use Rattle.wat_text.proofs.Running.{run, add, flat, in_turn, taken_by, chosen, not_chosen}
use Rattle.wat_text.proofs.Levels.{hint_items, item_of}

-- the second token
pub second : (toks : Toks) → peek 0 (after toks) ≡ peek 1 toks
unfolding peek after
second toks = by toks.left toks refl
  where
    by : (ps : List Rattle.wat_tokens.specs.declared.tokens.Placed.Placed) (toks : Toks) → toks.left ≡ ps → peek 0
        (Rattle.wat_syntax.specs.Tokens.after_first ps toks) ≡ Rattle.wat_syntax.specs.Tokens.first (Rattle.std.specs.Prelude.drop 1 ps)
    by [] toks e = ap (λ ps. Rattle.wat_syntax.specs.Tokens.first ps) e
    by (p ∷ ps) toks e = refl

module _ (toks : Toks) where
  rparen_is : is_rparen (peek 0 toks) ≡ true → rparen toks ≡ Some (after toks)
  rparen_is h = ap (λ b. elim b [ true ↦ Some (after toks) | false ↦ None ]) h

  rparen_not : is_rparen (peek 0 toks) ≡ false → rparen toks ≡ None
  rparen_not h = ap (λ b. elim b [ true ↦ Some (after toks) | false ↦ None ]) h

  pub arm_not : (p : Part) → is_lparen (peek 0 toks) ≡ false → is_arm p toks ≡ false
  arm_not p h = ap (λ b. b && same_part p (part_of (word_of (peek 1 toks)))) h

  -- after '('
  pub arm_by : (p : Part) → peek 0 toks ≡ Some token.Open → is_arm p toks ≡ same_part p (part_in (after toks))
  arm_by p h = ap (λ o. is_lparen o && same_part p (part_of (word_of (peek 1 toks)))) h ∙ ap (λ o. same_part p (part_of (word_of o))) (sym (second toks))

  pub form_by : (k : Key) → peek 0 toks ≡ Some token.Open → is_form k toks ≡ is_key k (key_of (peek 0 (after toks)))
  form_by k h = ap (λ o. is_lparen o && is_key k (key_of (peek 1 toks))) h ∙ ap (λ o. is_key k (key_of o)) (sym (second toks))

  pub form_not : (k : Key) → is_lparen (peek 0 toks) ≡ false → is_form k toks ≡ false
  form_not k h = ap (λ b. b && is_key k (key_of (peek 1 toks))) h

  module _ (ps : List Rule) (e : Expression) where
    pub closes : is_rparen (peek 0 toks) ≡ true → run (terminal rparen ∷ ps) e toks ≡ run ps e (after toks)
    closes h = taken_by rparen ps e toks (after toks) (rparen_is h)

    pub no_close : is_rparen (peek 0 toks) ≡ false → run (terminal rparen ∷ ps) e toks ≡ None
    no_close h = ap (λ o. (o >>= λ rest. let r : List Item × Toks = ([], rest) in Some r) >>= λ x. run ps (add e x.0) x.1) (rparen_not h)

    pub ends_at : is_rparen (peek 0 toks) ≡ true → run (ends ∷ ps) e toks ≡ run ps (with_instr (instr.end_ None) e) (after toks)
    ends_at h = in_turn (terminal rparen) (writes rule.end) ps e toks ∙ taken_by rparen (writes rule.end ∷ ps) e toks (after toks) (rparen_is h)

    pub no_end : is_rparen (peek 0 toks) ≡ false → run (ends ∷ ps) e toks ≡ None
    no_end h = in_turn (terminal rparen) (writes rule.end) ps e toks
        ∙ ap (λ o. (o >>= λ rest. let r : List Item × Toks = ([], rest) in Some r) >>= λ x. run (writes rule.end ∷ ps) (add e x.0) x.1) (rparen_not h)

    pub form_at : (k : Key) → is_form k toks ≡ true → run (terminal (form k) ∷ ps) e toks ≡ run ps e (after (after toks))
    form_at k h = taken_by (form k) ps e toks (after (after toks)) (ap (λ b. elim b [ true ↦ Some (after (after toks)) | false ↦ None ]) h)

    pub no_form : (k : Key) → is_form k toks ≡ false → run (terminal (form k) ∷ ps) e toks ≡ None
    no_form k h = ap (λ b. ((elim b [ true ↦ Some (after (after toks)) | false ↦ None ]) >>= λ rest. let r : List Item × Toks = ([], rest) in
        Some r) >>= λ x. run ps (add e x.0) x.1) h

    pub word_at : (p : Part) → is_arm p toks ≡ true → run (terminal (arm_word p) ∷ ps) e toks ≡ run ps e (after (after toks))
    word_at p h = taken_by (arm_word p) ps e toks (after (after toks)) (ap (λ b. elim b [ true ↦ Some (after (after toks)) | false ↦ None ]) h)

    pub no_word : (p : Part) → is_arm p toks ≡ false → run (terminal (arm_word p) ∷ ps) e toks ≡ None
    no_word p h = ap (λ b. ((elim b [ true ↦ Some (after (after toks)) | false ↦ None ]) >>= λ rest. let r : List Item × Toks = ([], rest) in
        Some r) >>= λ x. run ps (add e x.0) x.1) h

module _ (w : Within) (toks : Toks) (ps : List Rule) (e : Expression) where
  -- the arms of `else` and `catch_all`, and what is read in them
  pub else_at : is_arm Else toks ≡ true
      → run (else_arm w ∷ ps) e toks ≡ run (w Anywhere ∷ terminal rparen ∷ ps) (with_instr (instr.else_ None) e) (after (after toks))
  else_at h = chosen (is_arm Else) (terminal (arm_word Else) >> writes else_item >> arm w) (writes []) ps e toks h
      ∙ flat (terminal (arm_word Else)) (writes else_item ∷ arm w ∷ []) ps e toks
      ∙ word_at toks (writes else_item ∷ arm w ∷ ps) e Else h
      ∙ in_turn (w Anywhere) (terminal rparen) ps (with_instr (instr.else_ None) e) (after (after toks))

  pub no_else : is_arm Else toks ≡ false → run (else_arm w ∷ ps) e toks ≡ run ps e toks
  no_else h = not_chosen (is_arm Else) (terminal (arm_word Else) >> writes else_item >> arm w) (writes []) ps e toks h

  pub catch_all_at : is_arm CatchAll toks ≡ true
      → run (catch_all_arm w ∷ ps) e toks ≡ run (w Anywhere ∷ terminal rparen ∷ ps) (add e catch_all_item) (after (after toks))
  catch_all_at h = chosen (is_arm CatchAll) (terminal (arm_word CatchAll) >> writes catch_all_item >> arm w) (writes []) ps e toks h
      ∙ flat (terminal (arm_word CatchAll)) (writes catch_all_item ∷ arm w ∷ []) ps e toks
      ∙ word_at toks (writes catch_all_item ∷ arm w ∷ ps) e CatchAll h
      ∙ in_turn (w Anywhere) (terminal rparen) ps (add e catch_all_item) (after (after toks))

  pub no_catch_all : is_arm CatchAll toks ≡ false → run (catch_all_arm w ∷ ps) e toks ≡ run ps e toks
  no_catch_all h = not_chosen (is_arm CatchAll) (terminal (arm_word CatchAll) >> writes catch_all_item >> arm w) (writes []) ps e toks h

  -- the arm of `catch`
  catch_by : (x : Parse Index) → index (after (after toks)) ≡ x
      → run (catch_tag ∷ arm w ∷ ps) e (after (after toks)) ≡ (x >>= λ x. run (w Anywhere ∷ terminal rparen ∷ ps) (with_instr (instr.catch x.0) e) x.1)
  catch_by None read = ap (λ o. (o >>= λ x. let r : List Item × Toks = (Instr (instr.catch x.0) ∷ [], x.1) in Some r)
      >>= λ y. run (arm w ∷ ps) (add e y.0) y.1) read
  catch_by (Some x) read = ap (λ o. (o >>= λ x. let r : List Item × Toks = (Instr (instr.catch x.0) ∷ [], x.1) in Some r)
      >>= λ y. run (arm w ∷ ps) (add e y.0) y.1) read
      ∙ in_turn (w Anywhere) (terminal rparen) ps (with_instr (instr.catch x.0) e) x.1

  pub catch_at : is_arm Catch toks ≡ true → (x : Parse Index) → index (after (after toks)) ≡ x
      → run (catch_arm w ∷ ps) e toks ≡ (x >>= λ x. run (w Anywhere ∷ terminal rparen ∷ ps) (with_instr (instr.catch x.0) e) x.1)
  catch_at h x read = flat (terminal (arm_word Catch)) (catch_tag ∷ arm w ∷ []) ps e toks ∙ word_at toks (catch_tag ∷ arm w ∷ ps) e Catch h ∙ catch_by x read

  pub no_catch : is_arm Catch toks ≡ false → run (catch_arm w ∷ ps) e toks ≡ None
  no_catch h = flat (terminal (arm_word Catch)) (catch_tag ∷ arm w ∷ []) ps e toks ∙ no_word toks (catch_tag ∷ arm w ∷ ps) e Catch h

  -- the arms of a `try` after its `do`
  delegate_by : (x : Parse Index) → index (after (after toks)) ≡ x
      → run (delegate_label ∷ terminal rparen ∷ terminal rparen ∷ ps) e (after (after toks))
      ≡ (x >>= λ x. run (terminal rparen ∷ terminal rparen ∷ ps) (with_instr (instr.delegate x.0) e) x.1)
  delegate_by None read = ap (λ o. (o >>= λ x. let r : List Item × Toks = (Instr (instr.delegate x.0) ∷ [], x.1) in Some r)
      >>= λ y. run (terminal rparen ∷ terminal rparen ∷ ps) (add e y.0) y.1) read
  delegate_by (Some x) read = ap (λ o. (o >>= λ x. let r : List Item × Toks = (Instr (instr.delegate x.0) ∷ [], x.1) in Some r)
      >>= λ y. run (terminal rparen ∷ terminal rparen ∷ ps) (add e y.0) y.1) read

  pub delegate_at : is_arm Delegate toks ≡ true → (x : Parse Index) → index (after (after toks)) ≡ x
      → run (handlers w ∷ ps) e toks ≡ (x >>= λ x. run (terminal rparen ∷ terminal rparen ∷ ps) (with_instr (instr.delegate x.0) e) x.1)
  delegate_at h x read = chosen (is_arm Delegate) (terminal (arm_word Delegate) >> delegate_label >> terminal rparen >> terminal rparen)
      (w CatchArms >> catch_all_arm w >> ends) ps e toks h
      ∙ flat (terminal (arm_word Delegate)) (delegate_label ∷ terminal rparen ∷ terminal rparen ∷ []) ps e toks
      ∙ word_at toks (delegate_label ∷ terminal rparen ∷ terminal rparen ∷ ps) e Delegate h ∙ delegate_by x read

  pub no_delegate : is_arm Delegate toks ≡ false → run (handlers w ∷ ps) e toks ≡ run (w CatchArms ∷ catch_all_arm w ∷ ends ∷ ps) e toks
  no_delegate h = not_chosen (is_arm Delegate) (terminal (arm_word Delegate) >> delegate_label >> terminal rparen >> terminal rparen)
      (w CatchArms >> catch_all_arm w >> ends) ps e toks h
      ∙ flat (w CatchArms) (catch_all_arm w ∷ ends ∷ []) ps e toks

-- the operator that waited for its operands, with its hint
pub hinted_operator_is : (h : Option Rattle.wat_text.specs.declared.bodies.Hint.Hint) (w : Option Instruction) (e : Expression)
    → add e (hint_items h ++ item_of w) ≡ with_last w (with_hint h e)
hinted_operator_is None None e = refl
hinted_operator_is None (Some i) e = refl
hinted_operator_is (Some h) None e = refl
hinted_operator_is (Some h) (Some i) e = refl

-- the parts of a block without parentheses, after a hint that reads as these items
module _ (may : Bool) (toks t : Toks) (h : List Item) (read : rule.hint may toks ≡ Some (h, t)) where
  part_is : (p : Part) → is_part may p toks ≡ same_part p (part_in t)
  part_is p = ap (λ o. elim o [ Some h ↦ same_part p (part_in h.1) | None ↦ false ]) read

  part_on : (ps : List Rule) (e : Expression) (p : Part) → same_part p (part_in t) ≡ true → run (part may p ∷ ps) e toks ≡ run (hinted h ∷ ps) e t
  part_on ps e p there = ap (λ o. (o >>= λ h. elim (same_part p (part_in h.1)) [ true ↦ hinted h.0 h.1 | false ↦ None ]) >>= λ x. run ps (add e x.0) x.1) read
      ∙ ap (λ b. (elim b [ true ↦ hinted h t | false ↦ None ]) >>= λ x. run ps (add e x.0) x.1) there

  module _ (ps : List Rule) (e : Expression) where
    pub part_there : (p : Part) → same_part p (part_in t) ≡ true → run (part may p ∷ ps) e toks ≡ run (hinted h ∷ ps) e t
    part_there p there = part_on ps e p there

    pub no_part_there : (p : Part) → same_part p (part_in t) ≡ false → run (part may p ∷ ps) e toks ≡ None
    no_part_there p absent =
        ap (λ o. (o >>= λ h. elim (same_part p (part_in h.1)) [ true ↦ hinted h.0 h.1 | false ↦ None ]) >>= λ x. run ps (add e x.0) x.1) read
        ∙ ap (λ b. (elim b [ true ↦ hinted h t | false ↦ None ]) >>= λ x. run ps (add e x.0) x.1) absent

    module _ (w : Within) where
      pub else_part : same_part Else (part_in t) ≡ true → run (else_to_end may w ∷ ps) e toks ≡ run (hinted h ∷ to_end may w ∷ ps) e t
      else_part there = chosen (is_part may Else) (part may Else >> to_end may w) (part may End) ps e toks (part_is Else ∙ there)
          ∙ in_turn (part may Else) (to_end may w) ps e toks ∙ part_on (to_end may w ∷ ps) e Else there

      pub no_else_part : same_part Else (part_in t) ≡ false → run (else_to_end may w ∷ ps) e toks ≡ run (part may End ∷ ps) e toks
      no_else_part absent = not_chosen (is_part may Else) (part may Else >> to_end may w) (part may End) ps e toks (part_is Else ∙ absent)

      pub catch_all_part : same_part CatchAll (part_in t) ≡ true → run (catch_all_to_end may w ∷ ps) e toks ≡ run (hinted h ∷ to_end may w ∷ ps) e t
      catch_all_part there = chosen (is_part may CatchAll) (part may CatchAll >> to_end may w) (part may End) ps e toks (part_is CatchAll ∙ there)
          ∙ in_turn (part may CatchAll) (to_end may w) ps e toks ∙ part_on (to_end may w ∷ ps) e CatchAll there

      pub no_catch_all_part : same_part CatchAll (part_in t) ≡ false → run (catch_all_to_end may w ∷ ps) e toks ≡ run (part may End ∷ ps) e toks
      no_catch_all_part absent = not_chosen (is_part may CatchAll) (part may CatchAll >> to_end may w) (part may End) ps e toks (part_is CatchAll ∙ absent)

      pub delegate_part : same_part Delegate (part_in t) ≡ true → run (catches_to_end may w ∷ ps) e toks ≡ run (hinted h ∷ ps) e t
      delegate_part there = chosen (is_part may Delegate) (part may Delegate)
          (w Catches >> catch_all_to_end may w) ps e toks (part_is Delegate ∙ there) ∙ part_there Delegate there

      pub no_delegate_part : same_part Delegate (part_in t) ≡ false
          → run (catches_to_end may w ∷ ps) e toks ≡ run (w Catches ∷ catch_all_to_end may w ∷ ps) e toks
      no_delegate_part absent =
          not_chosen (is_part may Delegate) (part may Delegate) (w Catches >> catch_all_to_end may w) ps e toks (part_is Delegate ∙ absent)
          ∙ in_turn (w Catches) (catch_all_to_end may w) ps e toks
