-- A step of the machine at a level that has instructions, by the next token. The grammar reads the same from the state before the
-- step and from the state after it.
use Rattle.std.proofs.Common.{◌≡◌, ◌∙◌, ℕ, suc, Bool, true, false, List, [], ◌∷◌, ◌++◌, Option, None, Some, refl, sym, ap}
use Rattle.std.specs.Borrow.{Bor}
use Rattle.wat_grammar.specs.Parts.{◌>>=◌}
use Rattle.wat_tokens.specs.declared.words.Word.{Word}
use Rattle.wat_tokens.specs.declared.words.Word.TheVariants as word
use Rattle.wat_tokens.specs.declared.words.BlockOp.{BlockOp}
use Rattle.wat_tokens.specs.declared.tokens.Token.{Token}
use Rattle.wat_tokens.specs.declared.tokens.Token.TheVariants as token
use Rattle.wat_syntax.specs.Tree.{Instruction, Expression}
use Rattle.wat_syntax.specs.Tokens.{Toks, peek, after, is_lparen, is_rparen, is_end, word_of}
use Rattle.wat_syntax.specs.Instructions.{instruction, instruction_of}
use Rattle.wat_syntax.specs.Bodies.{Instr, Rule, Place, Anywhere, Next, Ends, Folds, Opens, Stands, Part, part_of, part_in}
use Rattle.wat_syntax.specs.Bodies.{is_hint, next_of, next_of_word, next_of_token, foldedinstr, folded_by, sequence, sequences}
use Rattle.wat_syntax.specs.Bodies as rule
use Rattle.wat_text.specs.declared.bodies.Hint as code
use Rattle.wat_text.specs.declared.bodies.Open.{Open}
use Rattle.wat_text.specs.Machine.{State, with_hint, append_hint, read_instr, part_at, next_level, level_of, takes_plain, parted_by}
use Rattle.wat_text.specs.Machine.{parted_if_any, word_by, plain, other, opened, closed, at_nothing, folded_operator, hinted_by, hinted_step}
use Rattle.wat_text.proofs.Running.{run, add, in_turn}
use Rattle.wat_text.proofs.Levels.{Base, place_in, hint_items, placed, behind}
use Rattle.wat_text.proofs.MachineSteps.{state, read_instr_is, Same, no_step, by_both, next_is, stands, opens_block, folds}

-- a word is that of a block, or it is read as a part or alone
data Kind (w : Word) : Type 0 where
  Block : (op : BlockOp) → w ≡ word.Block op → Kind w
  Other : next_of_word (Some w) ≡ (elim (part_of (Some w)) [ Some p ↦ Ends | None ↦ Stands ])
      → ((s : State) → word_by (Some w) s ≡ (parted_if_any s >>= read_instr)) → Kind w

kind : (w : Word) → Kind w
kind (word.Block op) = Block op refl
kind w = Other refl (λ s. refl)

module _ (may : Bool) (b : Base) (m : ℕ) (ls : List Open) (ws : List Instruction) where
  abbrev follows : List Rule
  follows = behind may b (suc m) ls ws

  module _ (h : Option code.Hint) (e : Expression) (toks t : Toks) (read : rule.hint may toks ≡ Some (hint_items h, t)) where
    abbrev s : State
    s = state ls ws e t

    -- the result after a hint
    next : (p : Place) (n : Next) → next_of p t ≡ n
        → run (sequences may (suc m) p ∷ follows) e toks ≡ run (sequence may (sequences may m) n p toks (hint_items h) ∷ follows) e t
    next p n is = next_is may b m p follows e toks t (hint_items h) n read is

    step_is : (o : Option Token) → peek 0 t ≡ o → hinted_step h s ≡ hinted_by o h s
    step_is o is = ap (λ o. hinted_by o h s) is

    abbrev inner : Rule
    inner t = instruction t >>= λ i. folded_by (next_of_word (word_of (peek 0 t))) (sequences may m) (hint_items h ++ Instr i.0 ∷ []) i.1

    -- one in parentheses
    pub one_folded : (p : Place) → place_in b ls ≡ Some p → next_of p t ≡ Folds → peek 0 t ≡ Some token.Open
        → opened h (state ls ws e (after t)) ≡ folded_operator h (state ls ws e (after t))
        → Same may b m (hinted_step h s) (run (sequences may (suc m) p ∷ follows) e toks)
    one_folded p at is paren goes = by_both may b m (step_is (Some token.Open) paren ∙ goes)
        (next p Folds is ∙ in_turn (foldedinstr (sequences may m) (hint_items h)) (sequences may m p) follows e t
        ∙ ap (λ o. (o >>= inner) >>= λ x. run (sequences may m p ∷ follows) (add e x.0) x.1)
        (ap (λ o. elim (is_lparen o) [ true ↦ Some (after t) | false ↦ None ]) paren)
        ∙ sym (ap (λ q. run (inner ∷ placed may m q follows) e (after t)) at))
        (folds may b m ls ws h e (after t))

    module _ (at : place_in b ls ≡ Some Anywhere) (plainly : takes_plain (level_of ls) ≡ true) where
      other_is : other h s ≡ plain h s
      other_is = ap (λ b. elim b [ true ↦ plain h s | false ↦ None ]) plainly

      -- the word of an instruction
      plain_is : (w : Option Word) → word_of (peek 0 t) ≡ w → plain h s ≡ word_by w (state ls ws (with_hint h e) t)
      plain_is w is = by h
        where
          by : (h : Option code.Hint) → plain h s ≡ word_by w (state ls ws (with_hint h e) t)
          by None = ap (λ w. word_by w (state ls ws e t)) is
          by (Some x) = ap (λ w. word_by w (state ls ws (with_hint (Some x) e) t)) is

      -- what is no word is no instruction
      no_word : (o : Option Token) → peek 0 t ≡ o → next_of_token o ≡ Stands → word_of o ≡ None
          → ((r : Toks) → instruction_of o r ≡ None) → hinted_by o h s ≡ None
          → Same may b m (hinted_step h s) (run (sequences may (suc m) Anywhere ∷ follows) e toks)
      no_word o is stand none no_instr stuck = no_step may b m (step_is o is ∙ stuck)
          (next Anywhere Stands (ap next_of_token is ∙ stand)
          ∙ (stands may b m ls ws Anywhere at h e toks t None (ap (λ o. instruction_of o (after t)) is ∙ no_instr (after t))).is
          ∙ ap (λ o. o >>= Rattle.wat_text.proofs.Levels.mixed may b
          (stands may b m ls ws Anywhere at h e toks t None (ap (λ o. instruction_of o (after t)) is ∙ no_instr (after t))).k m)
          (read_instr_none (ap (λ o. instruction_of o (after t)) is ∙ no_instr (after t))))
        where
          read_instr_none : instruction t ≡ None → (append_hint h s >>= read_instr) ≡ None
          read_instr_none none = read_instr_is (state ls ws (with_hint h e) t) None none

      pub plain_none : (o : Option Token) → peek 0 t ≡ o → word_of o ≡ None → other h s ≡ None
      plain_none o is none = other_is ∙ plain_is None (ap word_of is ∙ none)

      module _ (at_close : peek 0 t ≡ Some token.Close → Same may b m (closed h (state ls ws e (after t))) (run follows e toks))
          (at_none : peek 0 t ≡ None → Same may b m (at_nothing (level_of ls) h s) (run follows e toks))
          (at_part : (q : Part) → part_in t ≡ Some q → is_lparen (peek 0 t) ≡ false → is_rparen (peek 0 t) ≡ false → is_end (peek 0 t) ≡ false
          → Same may b m (part_at (next_level (level_of ls) q) (state ls ws (with_hint h e) t) >>= read_instr) (run follows e toks))
          (goes : opened h (state ls ws e (after t)) ≡ folded_operator h (state ls ws e (after t))) where
        by_part : (w : Word) (n : Bor (List ℕ)) → peek 0 t ≡ Some (token.Word w n)
            → next_of_word (Some w) ≡ (elim (part_of (Some w)) [ Some p ↦ Ends | None ↦ Stands ])
            → ((s : State) → word_by (Some w) s ≡ (parted_if_any s >>= read_instr))
            → (q : Option Part) → part_of (Some w) ≡ q → Same may b m (hinted_step h s) (run (sequences may (suc m) Anywhere ∷ follows) e toks)
        by_part w n is next_word by_word None part = by_both may b m
            (step_is (Some (token.Word w n)) is ∙ other_is ∙ plain_is (Some w) (ap word_of is) ∙ by_word (state ls ws (with_hint h e) t)
            ∙ ap (λ q. parted_by q (state ls ws (with_hint h e) t) >>= read_instr) (ap (λ o. part_of (word_of o)) is ∙ part))
            (next Anywhere Stands (ap next_of_token is ∙ next_word ∙ ap (λ q. elim q [ Some p ↦ Ends | None ↦ Stands ]) part))
            (stands may b m ls ws Anywhere at h e toks t (instruction t) refl)
        by_part w n is next_word by_word (Some q) part = by_both may b m
            (step_is (Some (token.Word w n)) is ∙ other_is ∙ plain_is (Some w) (ap word_of is) ∙ by_word (state ls ws (with_hint h e) t)
            ∙ ap (λ q. parted_by q (state ls ws (with_hint h e) t) >>= read_instr) (ap (λ o. part_of (word_of o)) is ∙ part))
            (next Anywhere Ends (ap next_of_token is ∙ next_word ∙ ap (λ q. elim q [ Some p ↦ Ends | None ↦ Stands ]) part))
            (at_part q (ap (λ o. part_of (word_of o)) is ∙ part) (ap is_lparen is) (ap is_rparen is) (ap is_end is))

        by_kind : (w : Word) (n : Bor (List ℕ)) → peek 0 t ≡ Some (token.Word w n) → Kind w
            → Same may b m (hinted_step h s) (run (sequences may (suc m) Anywhere ∷ follows) e toks)
        by_kind w n is (Block op e₁) = by_both may b m
            (step_is (Some (token.Word w n)) is ∙ other_is ∙ plain_is (Some (word.Block op)) (ap word_of is ∙ ap (λ w. Some w) e₁))
            (next Anywhere (Opens op) (ap next_of_token is ∙ ap (λ w. next_of_word (Some w)) e₁))
            (opens_block may b m ls ws Anywhere at op h e toks t)
        by_kind w n is (Other next_word by_word) = by_part w n is next_word by_word (part_of (Some w)) refl

        by_token : (o : Option Token) → peek 0 t ≡ o → Same may b m (hinted_step h s) (run (sequences may (suc m) Anywhere ∷ follows) e toks)
        by_token None is = by_both may b m (step_is None is) (next Anywhere Ends (ap next_of_token is)) (at_none is)
        by_token (Some token.Open) is = one_folded Anywhere at (ap next_of_token is) is goes
        by_token (Some token.Close) is = by_both may b m (step_is (Some token.Close) is) (next Anywhere Ends (ap next_of_token is)) (at_close is)
        by_token (Some (token.Word w n)) is = by_kind w n is (kind w)
        by_token (Some (token.Annotation a)) is = no_word (Some (token.Annotation a)) is refl refl (λ r. refl) (either (is_hint (Some a)))
          where
            either : (b : Bool) → (elim b as (λ b. Option State) [ true ↦ None | false ↦ other h s ]) ≡ None
            either true = refl
            either false = plain_none (Some (token.Annotation a)) is refl
        by_token (Some (token.Id x)) is = no_word (Some (token.Id x)) is refl refl (λ r. refl) (plain_none (Some (token.Id x)) is refl)
        by_token (Some (token.String x)) is = no_word (Some (token.String x)) is refl refl (λ r. refl) (plain_none (Some (token.String x)) is refl)
        by_token (Some (token.Other x)) is = no_word (Some (token.Other x)) is refl refl (λ r. refl) (plain_none (Some (token.Other x)) is refl)

        -- a level that has all instructions
        pub anywhere : Same may b m (hinted_step h s) (run (sequences may (suc m) Anywhere ∷ follows) e toks)
        anywhere = by_token (peek 0 t) refl
