-- How far an expression is read. What the grammar reads in all tokens, it reads from the state of the machine after some steps.
use Rattle.std.proofs.Common.{◌≡◌, ◌∙◌, ℕ, suc, Bool, true, false, List, [], ◌∷◌, if◌then◌else◌, Option, None, Some, refl, sym, ap, subst}
use Rattle.wat_grammar.specs.Parts.{◌>>=◌}
use Rattle.wat_tokens.specs.declared.words.Word.{Word}
use Rattle.wat_tokens.specs.declared.words.Word.TheVariants as word
use Rattle.wat_tokens.specs.declared.words.BlockOp.TheVariants as opens
use Rattle.wat_tokens.specs.declared.tokens.Token.{Token}
use Rattle.wat_tokens.specs.declared.tokens.Token.TheVariants as token
use Rattle.wat_syntax.specs.Tree.{Instruction, Expression}
use Rattle.wat_syntax.specs.Tokens.{Toks, Parse, peek, count, lparen, is_end, word_of, position}
use Rattle.wat_syntax.specs.Values.{annotation_of}
use Rattle.wat_syntax.specs.Instructions.{instruction}
use Rattle.wat_syntax.specs.Bodies.{Item, Instr, Anywhere, Ends, Part, part_of, part_in, is_hint, next_of_token, at_end}
use Rattle.wat_syntax.specs.Bodies.{sequences, expression_of, expression, folded_expression, folded_by, next_of_word, ◌>>◌}
use Rattle.wat_syntax.specs.Bodies as rule
use Rattle.wat_text.specs.declared.bodies.Level.TheVariants as level
use Rattle.wat_text.specs.Machine.{State, step, folded_operator, operator_of, with_toks, read_operator, push_level}
use Rattle.wat_text.proofs.Running.{run, add, in_turn, Below, equal, joined, run_below, mix_above, mix_below, made_of}
use Rattle.wat_text.proofs.Levels.{Base, Whole, One, todo_below, answer, mixed}
use Rattle.wat_text.proofs.MachineSteps.{state, Same, folds, no_operator, read_operator_is, read_instr_is, next_is}
use Rattle.wat_text.proofs.Machines.{takes_step, unfolds}

-- If the state has a result with m steps, it is that of the rule. The result of the rule, if there is one, is also that of the
-- state with n steps and one.
pub record Going (may : Bool) (b : Base) (given : Parse Expression) (m n : ℕ) (s : State) : Type 0 where
  pub sound : Below (answer may b m s) given
  pub whole : Below given (answer may b (suc n) s)

mixed_above : (may : Bool) (b : Base) (k m : ℕ) (s : State) → Below (answer may b m s) (mixed may b k m s)
mixed_above may b k m s = run_below _ _ (mix_above k _ _ (todo_below may b m s.levels s.waiting)) s.read s.toks

mixed_below : (may : Bool) (b : Base) (k m : ℕ) (s : State) → Below (mixed may b k m s) (answer may b (suc m) s)
mixed_below may b k m s = run_below _ _ (mix_below k _ _ (todo_below may b m s.levels s.waiting)) s.read s.toks

-- a step
pub goes : (may : Bool) (b : Base) (given : Parse Expression) (m n k : ℕ) (s t : State) → step may s ≡ Some t
    → takes_step b s.levels s.toks ≡ true → m ≡ suc k → Going may b given m n s → Going may b given k n t
goes may b given m n k s t steps on one going = record {
  sound = joined (forward k) (subst (λ i. Below (answer may b i s) given) one going.sound);
  whole = joined going.whole (backward n);
}
  where
    is : (i : ℕ) → Same may b i (step may s) (answer may b (suc i) s)
    is i = unfolds may b i s.levels s.waiting s.read s.toks on

    after_step : (i : ℕ) → answer may b (suc i) s ≡ mixed may b (is i).k i t
    after_step i = (is i).is ∙ ap (λ o. o >>= mixed may b (is i).k i) steps

    forward : (i : ℕ) → Below (answer may b i t) (answer may b (suc i) s)
    forward i = joined (mixed_above may b (is i).k i t) (equal (sym (after_step i)))

    backward : (i : ℕ) → Below (answer may b (suc i) s) (answer may b (suc i) t)
    backward i = joined (equal (after_step i)) (mixed_below may b (is i).k i t)

no_answer : {A : Type 0} (given answered : Option A) → Below given answered → answered ≡ None → given ≡ None
no_answer None answered below none = refl
no_answer (Some x) answered below none = not_both (sym (below.gives x refl) ∙ none)
  where
    not_both : Some x ≡ None → Some x ≡ None
    not_both e = e

-- no step
pub refused : (may : Bool) (b : Base) (given : Parse Expression) (m n : ℕ) (s : State)
    → step may s ≡ None → takes_step b s.levels s.toks ≡ true → Going may b given m n s → given ≡ None
refused may b given m n s none on going = no_answer given (answer may b (suc n) s) going.whole
    ((unfolds may b n s.levels s.waiting s.read s.toks on).is ∙ ap (λ o. o >>= mixed may b (unfolds may b n s.levels s.waiting s.read s.toks on).k n) none)

abbrev pub nothing : Expression
nothing = record { instrs = []; branch_hints = [] }

ended_by : (a : Parse (List Item))
    → (a >>= λ xs. let o : Expression × Toks = (expression_of xs.0, xs.1) in Some o) ≡ (a >>= λ xs. run [] (add nothing xs.0) xs.1)
ended_by None = refl
ended_by (Some xs) = ap (λ e. let o : Expression × Toks = (e, xs.1) in Some o) (sym (made_of nothing xs.0))

-- the beginning of an expression
pub began : (may : Bool) (toks : Toks) (n : ℕ) (s : State) → n ≡ count toks → s.levels ≡ [] → s.waiting ≡ []
    → s.read ≡ nothing → s.toks ≡ toks → Going may Whole (expression may toks) (suc n) (count toks) s
began may toks n s few none waits reads left = record { sound = equal (ap (λ i. answer may Whole (suc i) s) few ∙ the_answer); whole = equal (sym the_answer) }
  where
    the_state : s ≡ state [] [] nothing toks
    the_state = ap (λ ls. state ls s.waiting s.read s.toks) none ∙ ap (λ ws. state [] ws s.read s.toks) waits
        ∙ ap (λ e. state [] [] e s.toks) reads ∙ ap (λ t. state [] [] nothing t) left

    the_answer : answer may Whole (suc (count toks)) s ≡ expression may toks
    the_answer = ap (answer may Whole (suc (count toks))) the_state
        ∙ sym (in_turn (sequences may (suc (count toks)) Anywhere) at_end [] nothing toks)
        ∙ sym (ended_by ((sequences may (suc (count toks)) Anywhere >> at_end) toks))

-- the end of an expression
pub came : (may : Bool) (given : Parse Expression) (m n : ℕ) (s : State) → s.levels ≡ [] → is_end (peek 0 s.toks) ≡ true
    → m ≡ suc n → (k : ℕ) → Going may Whole given m k s → given ≡ Some (s.read, s.toks)
came may given m n s none ends one k going = going.sound.gives (s.read, s.toks)
    (ap (λ i. answer may Whole i s) one ∙ ap (λ ls. answer may Whole (suc n) (state ls s.waiting s.read s.toks)) none ∙ by (peek 0 s.toks) refl)
  where
    no_hint : (o : Option Token) → peek 0 s.toks ≡ o → is_hint (annotation_of o) ≡ false → rule.hint may s.toks ≡ Some ([], s.toks)
    no_hint o is bare = ap (λ x. elim x as (λ x. Parse (List Item)) [ true ↦ value | false ↦ Some ([], s.toks) ])
        (ap (λ o. is_hint (annotation_of o)) is ∙ bare)
      where
        value : Parse (List Item)
        value = Rattle.wat_syntax.specs.Values.string (Rattle.wat_syntax.specs.Tokens.after s.toks) >>= λ b. rule.hint_value b.0.now
            >>= λ v. Rattle.wat_syntax.specs.Tokens.rparen b.1 >>= λ rest. if may then Some (rule.Hint v ∷ [], rest) else None

    at : (o : Option Token) → peek 0 s.toks ≡ o → is_hint (annotation_of o) ≡ false → next_of_token o ≡ Ends
        → answer may Whole (suc n) (state [] s.waiting s.read s.toks) ≡ Some (s.read, s.toks)
    at o is bare next = next_is may Whole n Anywhere (at_end ∷ []) s.read s.toks s.toks [] Ends (no_hint o is bare) (ap next_of_token is ∙ next)
        ∙ ap (λ x. (elim x as (λ x. Parse (List Item)) [ true ↦ Some ([], s.toks) | false ↦ None ]) >>= λ x. run [] (add s.read x.0) x.1) ends

    by : (o : Option Token) → peek 0 s.toks ≡ o → answer may Whole (suc n) (state [] s.waiting s.read s.toks) ≡ Some (s.read, s.toks)
    by None is = at None is refl refl
    by (Some token.Close) is = at (Some token.Close) is refl refl
    by o is = not_end (sym (ap is_end is) ∙ ends)
      where
        not_end : is_end o ≡ true → answer may Whole (suc n) (state [] s.waiting s.read s.toks) ≡ Some (s.read, s.toks)
        not_end e = absurd cc

-- the tokens of a state after a step
toks_of : (x y : State) → Some x ≡ Some y → y.toks ≡ x.toks
toks_of x y e = sym (ap (out x) e)
  where
    out : State → Option State → Toks
    out d None = d.toks
    out d (Some s) = s.toks

none_is_some : {A : Type 0} (P : Type 0) (x : A) → None ≡ Some x → P
none_is_some P x e = absurd cc

-- one folded instruction, after its '('
module _ (t : Toks) where
  abbrev at_first : State
  at_first = state [] [] nothing t

  -- what its operator is, and the tokens after it
  operator_toks : (w : Option Word) → part_of w ≡ part_in t → (i : Instruction × Toks)
      → instruction t ≡ Some i → (s : State) → operator_of w None at_first ≡ Some s → s.toks ≡ i.1
  operator_toks (Some (word.Block opens.if_)) is i read s e =
      toks_of _ s (sym (ap (λ o. o >>= push_level level.Condition (position t) None) (read_operator_is at_first (Some i) read)) ∙ e)
  operator_toks (Some (word.Block opens.try_)) is i read s e =
      toks_of _ s (sym (ap (λ o. o >>= push_level level.Try (position t) None) (read_instr_is at_first (Some i) read)) ∙ e)
  operator_toks (Some (word.Block op)) is i read s e =
      toks_of _ s (sym (ap (λ o. o >>= push_level level.Block (position t) None) (read_instr_is at_first (Some i) read)) ∙ e)
  operator_toks w is i read s e = by (part_in t) e
    where
      by : (q : Option Part) → (((elim q as (λ q. Option Toks) [ Some p ↦ None | None ↦ Some t ]) >>= λ r. Some (with_toks r at_first))
          >>= read_operator >>= push_level level.Operands (position t) None) ≡ Some s → s.toks ≡ i.1
      by None e = toks_of _ s (sym (ap (λ o. o >>= push_level level.Operands (position t) None) (read_operator_is at_first (Some i) read)) ∙ e)
      by (Some p) e = none_is_some _ s e

  abbrev folded_rule : ℕ → Rattle.wat_syntax.specs.Bodies.Rule
  folded_rule m = λ u. instruction u >>= λ i. folded_by (next_of_word (word_of (peek 0 t))) (sequences false m) (Instr i.0 ∷ []) i.1

  one_is : (m : ℕ) → Same false One m (folded_operator None at_first) (run (folded_rule m ∷ []) nothing t)
  one_is m = folds false One m [] [] None nothing t

  given_is : (toks : Toks) → lparen toks ≡ Some t → (i : Instruction × Toks) → instruction t ≡ Some i
      → folded_expression toks ≡ run (folded_rule (suc (count i.1)) ∷ []) nothing t
  given_is toks open_it i read =
      ap (λ o. o >>= rest) open_it ∙ ap (λ o. o >>= inner) read
      ∙ ended_by (folded_by (next_of_word (word_of (peek 0 t))) (sequences false (suc (count i.1))) (Instr i.0 ∷ []) i.1)
      ∙ sym (ap (λ o. (o >>= λ i. folded_by (next_of_word (word_of (peek 0 t))) (sequences false (suc (count j.1))) (Instr i.0 ∷ []) i.1)
      >>= λ x. run [] (add nothing x.0) x.1) read)
    where
      j : Instruction × Toks
      j = i

      inner : Instruction × Toks → Parse Expression
      inner i = folded_by (next_of_word (word_of (peek 0 t))) (sequences false (suc (count i.1))) (Instr i.0 ∷ []) i.1 >>= λ xs. Some (expression_of xs.0, xs.1)

      rest : Toks → Parse Expression
      rest u = instruction u >>= λ i. folded_by (next_of_word (word_of (peek 0 u))) (sequences false (suc (count i.1))) (Instr i.0 ∷ []) i.1
          >>= λ xs. Some (expression_of xs.0, xs.1)

  pub folded_refused : (toks : Toks) → lparen toks ≡ Some t → folded_operator None at_first ≡ None → folded_expression toks ≡ None
  folded_refused toks open_it none = by (instruction t) refl
    where
      rest : Toks → Parse Expression
      rest u = instruction u >>= λ i. folded_by (next_of_word (word_of (peek 0 u))) (sequences false (suc (count i.1))) (Instr i.0 ∷ []) i.1
          >>= λ xs. Some (expression_of xs.0, xs.1)

      inner : Instruction × Toks → Parse Expression
      inner i = folded_by (next_of_word (word_of (peek 0 t))) (sequences false (suc (count i.1))) (Instr i.0 ∷ []) i.1 >>= λ xs. Some (expression_of xs.0, xs.1)

      by : (i : Parse Instruction) → instruction t ≡ i → folded_expression toks ≡ None
      by None read = ap (λ o. o >>= rest) open_it ∙ ap (λ o. o >>= inner) read
      by (Some i) read = given_is toks open_it i read ∙ (one_is (suc (count i.1))).is
          ∙ ap (λ o. o >>= mixed false One (one_is (suc (count i.1))).k (suc (count i.1))) none

  pub folded_began : (toks : Toks) → lparen toks ≡ Some t → (s : State) → folded_operator None at_first ≡ Some s
      → (n : ℕ) → n ≡ count s.toks → Going false One (folded_expression toks) (suc n) (suc (count s.toks)) s
  folded_began toks open_it s read_it n few = by (instruction t) refl
    where
      by : (i : Parse Instruction) → instruction t ≡ i → Going false One (folded_expression toks) (suc n) (suc (count s.toks)) s
      by None read = none_is_some _ s (sym (no_operator false One n [] [] None nothing t (word_of (peek 0 t)) read) ∙ read_it)
      by (Some i) read = record {
        sound = joined (equal (ap (λ j. answer false One (suc j) s) (few ∙ ap count at)))
            (joined (mixed_above false One (one_is n₁).k n₁ s) (equal (sym is_mixed)));
        whole = joined (equal is_mixed)
            (joined (mixed_below false One (one_is n₁).k n₁ s) (equal (ap (λ j. answer false One (suc (suc j)) s) (sym (ap count at)))));
      }
        where
          n₁ : ℕ
          n₁ = suc (count i.1)

          at : s.toks ≡ i.1
          at = operator_toks (word_of (peek 0 t)) refl i read s read_it

          is_mixed : folded_expression toks ≡ mixed false One (one_is (suc (count i.1))).k (suc (count i.1)) s
          is_mixed = given_is toks open_it i read ∙ (one_is (suc (count i.1))).is
              ∙ ap (λ o. o >>= mixed false One (one_is (suc (count i.1))).k (suc (count i.1))) read_it

pub folded_came : (given : Parse Expression) (m n : ℕ) (s : State) → s.levels ≡ [] → Going false One given m n s → given ≡ Some (s.read, s.toks)
folded_came given m n s none going = going.sound.gives (s.read, s.toks) (ap (λ ls. answer false One m (state ls s.waiting s.read s.toks)) none)
