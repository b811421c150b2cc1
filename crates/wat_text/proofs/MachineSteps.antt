-- A step of the machine that reads an instruction. The grammar reads the same from the state before the step and from the state
-- after it.
use Rattle.std.proofs.Common.{◌≡◌, ◌∙◌, ℕ, zero, suc, Bool, List, [], ◌∷◌, ◌++◌, Option, None, Some, refl, sym, ap}
use Rattle.wast_base.specs.declared.ids.Span.{Span}
use Rattle.wat_grammar.specs.Parts.{◌>>=◌}
use Rattle.wat_tokens.specs.declared.words.Key.TheVariants as key
use Rattle.wat_tokens.specs.declared.words.Word.{Word}
use Rattle.wat_tokens.specs.declared.words.Word.TheVariants as word
use Rattle.wat_tokens.specs.declared.words.BlockOp.{BlockOp}
use Rattle.wat_tokens.specs.declared.words.BlockOp.TheVariants as opens
use Rattle.wat_syntax.specs.Tree.{Instruction, Expression}
use Rattle.wat_syntax.specs.Tokens.{Toks, Parse, peek, position, rparen, form, with_parts, word_of}
use Rattle.wat_syntax.specs.Instructions.{instruction}
use Rattle.wat_syntax.specs.Bodies.{Item, Instr, Rule, Place, Anywhere, Folded, Next, Ends, Opens, Stands, Part, part_of}
use Rattle.wat_syntax.specs.Bodies.{part_in, next_of, next_of_word, terminal, writes, hinted, arm, ends, else_arm, handlers}
use Rattle.wat_syntax.specs.Bodies.{part, End, else_to_end, catches_to_end, ◌>>◌, folded_by, sequence, sequences}
use Rattle.wat_syntax.specs.Bodies as rule
use Rattle.wat_text.specs.declared.bodies.Level.TheVariants as level
use Rattle.wat_text.specs.declared.bodies.Hint as code
use Rattle.wat_text.specs.declared.bodies.Open.{Open}
use Rattle.wat_text.specs.Machine.{State, with_toks, with_instr, with_hint, read_operator, read_instr, push_level}
use Rattle.wat_text.specs.Machine.{append_hint, with_operands, folded_operator, operator_of, plain_level}
use Rattle.wat_text.proofs.Running.{run, add, mix, chain, flat, in_turn, read_by, fails_by}
use Rattle.wat_text.proofs.Levels.{Base, place_in, hint_items, placed, behind, todo, mixed}
use Rattle.wat_text.proofs.Waiting.{last_is, before_is}

abbrev pub state : List Open → List Instruction → Expression → Toks → State
state ls ws e toks = record { levels = ls; waiting = ws; read = e; toks = toks }

abbrev pub open_of : Rattle.wat_text.specs.declared.bodies.Level.Level → Span → Option code.Hint → Open
open_of l place h = record { level = l; place = place; hint = h }

-- an instruction with its hint
pub with_both : (h : Option code.Hint) (i : Instruction) (e : Expression) → add e (hint_items h ++ Instr i ∷ []) ≡ with_instr i (with_hint h e)
with_both None i e = refl
with_both (Some h) i e = refl

pub read_operator_is : (s : State) (i : Parse Instruction) → instruction s.toks ≡ i
    → read_operator s ≡ (i >>= λ x. Some (record { levels = s.levels; waiting = s.waiting ++ x.0 ∷ []; read = s.read; toks = x.1 }))
read_operator_is s None e = ap (λ o. with_parts s.waiting (o >>= λ x. Some (x.0 ∷ [], x.1))
    >>= λ w. Some (record { levels = s.levels; waiting = w.0; read = s.read; toks = w.1 })) e
read_operator_is s (Some i) e = ap (λ o. with_parts s.waiting (o >>= λ x. Some (x.0 ∷ [], x.1))
    >>= λ w. Some (record { levels = s.levels; waiting = w.0; read = s.read; toks = w.1 })) e

pub read_instr_is : (s : State) (i : Parse Instruction) → instruction s.toks ≡ i
    → read_instr s ≡ (i >>= λ x. Some (record { levels = s.levels; waiting = s.waiting; read = with_instr x.0 s.read; toks = x.1 }))
read_instr_is s None e = ap (λ o. with_parts s.read.instrs (o >>= λ x. Some (x.0 ∷ [], x.1)) >>= λ w.
    Some (record { levels = s.levels; waiting = s.waiting; read = record { instrs = w.0; branch_hints = s.read.branch_hints }; toks = w.1 })) e
read_instr_is s (Some i) e = ap (λ o. with_parts s.read.instrs (o >>= λ x. Some (x.0 ∷ [], x.1)) >>= λ w.
    Some (record { levels = s.levels; waiting = s.waiting; read = record { instrs = w.0; branch_hints = s.read.branch_hints }; toks = w.1 })) e

-- The result of the grammar from a state, and from the state after a step, if there is one. Some of the first rules have one step
-- fewer.
pub record Same (may : Bool) (b : Base) (m : ℕ) (x : Option State) (a : Parse Expression) : Type 0 where
  pub k : ℕ
  pub is : a ≡ x >>= mixed may b k m

abbrev count_place : Option Place → ℕ
count_place None = zero
count_place (Some p) = suc zero

module _ (may : Bool) (b : Base) (m : ℕ) where
  pub no_step : {x : Option State} {a : Parse Expression} → x ≡ None → a ≡ None → Same may b m x a
  no_step x a = record { k = zero; is = a ∙ sym (ap (λ o. o >>= mixed may b zero m) x) }

  pub one_step : (k : ℕ) (t : State) {x : Option State} {a : Parse Expression} → x ≡ Some t → a ≡ mixed may b k m t → Same may b m x a
  one_step k t x a = record { k = k; is = a ∙ sym (ap (λ o. o >>= mixed may b k m) x) }

  pub by_both : {x y : Option State} {a c : Parse Expression} → x ≡ y → a ≡ c → Same may b m y c → Same may b m x a
  by_both x a s = record { k = s.k; is = a ∙ s.is ∙ sym (ap (λ o. o >>= mixed may b s.k m) x) }

  -- with what is left to read by name
  pub mixed_is : (k : ℕ) (s : State) (ps qs : List Rule) → todo may b m s.levels s.waiting ≡ ps
      → todo may b (suc m) s.levels s.waiting ≡ qs → mixed may b k m s ≡ run (mix k ps qs) s.read s.toks
  mixed_is k s ps qs p q = ap (λ rs. run (mix k rs (todo may b (suc m) s.levels s.waiting)) s.read s.toks) p ∙ ap (λ rs. run (mix k ps rs) s.read s.toks) q

  -- the next one, after a hint
  pub next_is : (p : Place) (ps : List Rule) (e : Expression) (toks t : Toks) (h : List Item) (n : Next) → rule.hint may toks ≡ Some (h, t) → next_of p t ≡ n
      → run (sequences may (suc m) p ∷ ps) e toks ≡ run (sequence may (sequences may m) n p toks h ∷ ps) e t
  next_is p ps e toks t h n read next =
      ap (λ o. (o >>= λ x. sequence may (sequences may m) (next_of p x.1) p toks x.0 x.1) >>= λ x. run ps (add e x.0) x.1) read
      ∙ ap (λ n. run (sequence may (sequences may m) n p toks h ∷ ps) e t) next

  -- what is read after a level that was opened in these
  module _ (ls : List Open) (ws : List Instruction) where
    abbrev rest : List Rule
    rest = placed may m (place_in b ls) (behind may b (suc m) ls ws)

    abbrev c : ℕ
    c = count_place (place_in b ls)

    rest_is : (q : Option Place) (ps qs : List Rule) → mix (count_place q) (placed may m q ps) (placed may (suc m) q qs) ≡ placed may m q qs
    rest_is None ps qs = refl
    rest_is (Some p) ps qs = refl

    mixed_own : (k : ℕ) (s : State) (xs ys : List Rule) → todo may b m s.levels s.waiting ≡ xs ++ todo may b m ls ws
        → todo may b (suc m) s.levels s.waiting ≡ ys ++ todo may b (suc m) ls ws
        → ((ps qs : List Rule) → mix k (xs ++ ps) (ys ++ qs) ≡ xs ++ mix c ps qs) → mixed may b k m s ≡ run (xs ++ rest) s.read s.toks
    mixed_own k s xs ys p q shape = mixed_is k s (xs ++ todo may b m ls ws) (ys ++ todo may b (suc m) ls ws) p q
        ∙ ap (λ rs. run rs s.read s.toks) (shape (todo may b m ls ws) (todo may b (suc m) ls ws))
        ∙ ap (λ rs. run (xs ++ rs) s.read s.toks) (rest_is (place_in b ls) (behind may b m ls ws) (behind may b (suc m) ls ws))

    abbrev conditions : ℕ → List Item → List Rule
    conditions n o = sequences may n Folded ∷ terminal (form key.Then) ∷ writes o ∷ arm (sequences may n) ∷ else_arm (sequences may n) ∷ ends ∷ []

    abbrev operands_of : ℕ → List Item → List Rule
    operands_of n o = sequences may n Folded ∷ terminal rparen ∷ writes o ∷ []

    condition_at : (n : ℕ) (place : Span) (h : Option code.Hint) (i : Instruction)
        → todo may b n (open_of level.Condition place h ∷ ls) (ws ++ i ∷ []) ≡ conditions n (hint_items h ++ Instr i ∷ []) ++ todo may b n ls ws
    condition_at n place h i = rw (last_is ws i, before_is ws i) refl

    operands_at : (n : ℕ) (place : Span) (h : Option code.Hint) (i : Instruction)
        → todo may b n (open_of level.Operands place h ∷ ls) (ws ++ i ∷ []) ≡ operands_of n (hint_items h ++ Instr i ∷ []) ++ todo may b n ls ws
    operands_at n place h i = rw (last_is ws i, before_is ws i) refl

    module _ (h : Option code.Hint) (e : Expression) (t : Toks) where
      abbrev s : State
      s = state ls ws e t

      -- no instruction is read
      pub no_operator : (w : Option Word) → instruction t ≡ None → operator_of w h s ≡ None
      no_operator (Some (word.Block opens.if_)) none = ap (λ o. o >>= push_level level.Condition (position t) h) (read_operator_is s None none)
      no_operator (Some (word.Block opens.try_)) none =
          ap (λ o. o >>= push_level level.Try (position t) None) (read_instr_is (state ls ws (with_hint h e) t) None none)
      no_operator (Some (word.Block op)) none =
          ap (λ o. o >>= push_level level.Block (position t) None) (read_instr_is (state ls ws (with_hint h e) t) None none)
      no_operator w none = unless_part (part_in t)
        where
          unless_part : (q : Option Part) → (((elim q [ Some p ↦ None | None ↦ Some t ]) >>= λ r. Some (with_toks r s))
              >>= read_operator >>= push_level level.Operands (position t) h) ≡ None
          unless_part None = ap (λ o. o >>= push_level level.Operands (position t) h) (read_operator_is s None none)
          unless_part (Some p) = refl

      -- an instruction with operands
      operands_step : (i : Instruction × Toks) → instruction t ≡ Some i
          → Same may b m (read_operator s >>= push_level level.Operands (position t) h)
          (run (rule.operands (sequences may m) (hint_items h ++ Instr i.0 ∷ []) ∷ rest) e i.1)
      operands_step i read = let o = hint_items h ++ Instr i.0 ∷ [] in
          one_step (suc (suc (suc c))) (state (open_of level.Operands (position t) h ∷ ls) (ws ++ i.0 ∷ []) e i.1)
          (ap (λ x. x >>= push_level level.Operands (position t) h) (read_operator_is s (Some i) read))
          (flat (sequences may m Folded) (terminal rparen ∷ writes o ∷ []) rest e i.1
          ∙ sym (mixed_own (suc (suc (suc c))) (state (open_of level.Operands (position t) h ∷ ls) (ws ++ i.0 ∷ []) e i.1)
          (operands_of m o) (operands_of (suc m) o)
          (operands_at m (position t) h i.0) (operands_at (suc m) (position t) h i.0) (λ ps qs. refl)))

      -- a block
      block_step : (i : Instruction × Toks) → instruction t ≡ Some i
          → Same may b m (append_hint h s >>= read_instr >>= push_level level.Block (position t) None)
          (run (chain (writes (hint_items h ++ Instr i.0 ∷ [])) (sequences may m Anywhere ∷ ends ∷ []) ∷ rest) e i.1)
      block_step i read = let o = hint_items h ++ Instr i.0 ∷ [] in let f = with_instr i.0 (with_hint h e) in
          one_step (suc (suc c)) (state (open_of level.Block (position t) None ∷ ls) ws f i.1)
          (ap (λ x. x >>= push_level level.Block (position t) None) (read_instr_is (state ls ws (with_hint h e) t) (Some i) read))
          (flat (writes o) (sequences may m Anywhere ∷ ends ∷ []) rest e i.1
          ∙ ap (λ g. run (sequences may m Anywhere ∷ ends ∷ rest) g i.1) (with_both h i.0 e)
          ∙ sym (mixed_own (suc (suc c)) (state (open_of level.Block (position t) None ∷ ls) ws f i.1)
          (sequences may m Anywhere ∷ ends ∷ []) (sequences may (suc m) Anywhere ∷ ends ∷ [])
          refl refl (λ ps qs. refl)))

      try_step : (i : Instruction × Toks) → instruction t ≡ Some i
          → Same may b m (append_hint h s >>= read_instr >>= push_level level.Try (position t) None)
          (run (chain (writes (hint_items h ++ Instr i.0 ∷ []))
          (terminal (form key.Do) ∷ arm (sequences may m) ∷ handlers (sequences may m) ∷ []) ∷ rest) e i.1)
      try_step i read = let o = hint_items h ++ Instr i.0 ∷ [] in let f = with_instr i.0 (with_hint h e) in
          one_step (suc (suc (suc c))) (state (open_of level.Try (position t) None ∷ ls) ws f i.1)
          (ap (λ x. x >>= push_level level.Try (position t) None) (read_instr_is (state ls ws (with_hint h e) t) (Some i) read))
          (flat (writes o) (terminal (form key.Do) ∷ arm (sequences may m) ∷ handlers (sequences may m) ∷ []) rest e i.1
          ∙ ap (λ g. run (terminal (form key.Do) ∷ arm (sequences may m) ∷ handlers (sequences may m) ∷ rest) g i.1) (with_both h i.0 e)
          ∙ sym (mixed_own (suc (suc (suc c))) (state (open_of level.Try (position t) None ∷ ls) ws f i.1)
          (terminal (form key.Do) ∷ arm (sequences may m) ∷ handlers (sequences may m) ∷ [])
          (terminal (form key.Do) ∷ arm (sequences may (suc m)) ∷ handlers (sequences may (suc m)) ∷ [])
          refl refl (λ ps qs. refl)))

      if_step : (i : Instruction × Toks) → instruction t ≡ Some i
          → Same may b m (read_operator s >>= push_level level.Condition (position t) h)
          (run (rule.folded_if (sequences may m) (hint_items h ++ Instr i.0 ∷ []) ∷ rest) e i.1)
      if_step i read = let o = hint_items h ++ Instr i.0 ∷ [] in let k = suc (suc (suc (suc (suc (suc c))))) in
          one_step k (state (open_of level.Condition (position t) h ∷ ls) (ws ++ i.0 ∷ []) e i.1)
          (ap (λ x. x >>= push_level level.Condition (position t) h) (read_operator_is s (Some i) read))
          (flat (sequences may m Folded) (terminal (form key.Then) ∷ writes o ∷ arm (sequences may m) ∷ else_arm (sequences may m) ∷ ends ∷ []) rest e i.1
          ∙ sym (mixed_own k (state (open_of level.Condition (position t) h ∷ ls) (ws ++ i.0 ∷ []) e i.1) (conditions m o) (conditions (suc m) o)
          (condition_at m (position t) h i.0) (condition_at (suc m) (position t) h i.0) (λ ps qs. refl)))

      -- a folded instruction after its '('
      abbrev folded_next : Option Word → Rule
      folded_next w = λ t. instruction t >>= λ i. folded_by (next_of_word w) (sequences may m) (hint_items h ++ Instr i.0 ∷ []) i.1

      answer_is : (w : Option Word) (i : Parse Instruction) → instruction t ≡ i
          → run (folded_next w ∷ rest) e t
          ≡ ((i >>= λ i. folded_by (next_of_word w) (sequences may m) (hint_items h ++ Instr i.0 ∷ []) i.1) >>= λ x. run rest (add e x.0) x.1)
      answer_is w i read = ap (λ o. (o >>= λ i. folded_by (next_of_word w) (sequences may m) (hint_items h ++ Instr i.0 ∷ []) i.1)
          >>= λ x. run rest (add e x.0) x.1) read

      operand_or_part : (w : Option Word) (q : Option Part) → part_in t ≡ q → (i : Instruction × Toks) → instruction t ≡ Some i
          → Same may b m (with_operands h s)
          (run (folded_by (elim q [ Some p ↦ Ends | None ↦ Stands ]) (sequences may m) (hint_items h ++ Instr i.0 ∷ []) ∷ rest) e i.1)
      operand_or_part w None is i read = by_both (ap (λ q. ((elim q [ Some p ↦ None | None ↦ Some t ]) >>= λ r. Some (with_toks r s))
          >>= read_operator >>= push_level level.Operands (position t) h) is) refl (operands_step i read)
      operand_or_part w (Some p) is i read = no_step (ap (λ q. ((elim q [ Some p ↦ None | None ↦ Some t ]) >>= λ r. Some (with_toks r s))
          >>= read_operator >>= push_level level.Operands (position t) h) is) refl

      folds_by : (w : Option Word) → part_of w ≡ part_in t → (i : Parse Instruction)
          → instruction t ≡ i → Same may b m (operator_of w h s) (run (folded_next w ∷ rest) e t)
      folds_by w is None read = no_step (no_operator w read) (answer_is w None read)
      folds_by (Some (word.Block opens.if_)) is (Some i) read = by_both refl (answer_is (Some (word.Block opens.if_)) (Some i) read) (if_step i read)
      folds_by (Some (word.Block opens.try_)) is (Some i) read = by_both refl (answer_is (Some (word.Block opens.try_)) (Some i) read) (try_step i read)
      folds_by (Some (word.Block opens.block)) is (Some i) read = by_both refl (answer_is (Some (word.Block opens.block)) (Some i) read) (block_step i read)
      folds_by (Some (word.Block opens.loop_)) is (Some i) read = by_both refl (answer_is (Some (word.Block opens.loop_)) (Some i) read) (block_step i read)
      folds_by (Some (word.Block opens.try_table)) is (Some i) read =
          by_both refl (answer_is (Some (word.Block opens.try_table)) (Some i) read) (block_step i read)
      folds_by None is (Some i) read = by_both refl (answer_is None (Some i) read) (operand_or_part None None (sym is) i read)
      folds_by (Some w) is (Some i) read = by_both refl (answer_is (Some w) (Some i) read) (operand_or_part (Some w) (part_of (Some w)) (sym is) i read)

      pub folds : Same may b m (folded_operator h s) (run (folded_next (word_of (peek 0 t)) ∷ rest) e t)
      folds = folds_by (word_of (peek 0 t)) refl (instruction t) refl

  module _ (ls : List Open) (ws : List Instruction) (p : Place) (at : place_in b ls ≡ Some p) where
    abbrev then_on : List Rule
    then_on = sequences may m p ∷ behind may b (suc m) ls ws

    rest_at : rest ls ws ≡ then_on
    rest_at = ap (λ q. placed may m q (behind may b (suc m) ls ws)) at

    hinted_is : (h : List Item) (t : Toks) (i : Parse Instruction) → instruction t ≡ i
        → hinted h t ≡ (i >>= λ x. let o : List Item × Toks = (h ++ Instr x.0 ∷ [], x.1) in Some o)
    hinted_is h t i read = ap (λ o. o >>= λ x. let o : List Item × Toks = (h ++ Instr x.0 ∷ [], x.1) in Some o) read

    -- an instruction without parentheses
    pub stands : (h : Option code.Hint) (e : Expression) (toks t : Toks) (i : Parse Instruction) → instruction t ≡ i
        → Same may b m (append_hint h (state ls ws e t) >>= read_instr)
        (run (sequence may (sequences may m) Stands p toks (hint_items h) ∷ behind may b (suc m) ls ws) e t)
    stands h e toks t None read = no_step (read_instr_is (state ls ws (with_hint h e) t) None read)
        (in_turn (hinted (hint_items h)) (sequences may m p) (behind may b (suc m) ls ws) e t
        ∙ fails_by (hinted (hint_items h)) then_on e t (hinted_is (hint_items h) t None read))
    stands h e toks t (Some i) read = let f = with_instr i.0 (with_hint h e) in
        one_step (c ls ws) (state ls ws f i.1) (read_instr_is (state ls ws (with_hint h e) t) (Some i) read)
        (in_turn (hinted (hint_items h)) (sequences may m p) (behind may b (suc m) ls ws) e t
        ∙ read_by (hinted (hint_items h)) then_on e t i.1 (hint_items h ++ Instr i.0 ∷ []) (hinted_is (hint_items h) t (Some i) read)
        ∙ ap (λ g. run then_on g i.1) (with_both h i.0 e)
        ∙ sym (ap (λ rs. run rs f i.1) rest_at)
        ∙ sym (mixed_own ls ws (c ls ws) (state ls ws f i.1) [] [] refl refl (λ ps qs. refl)))

    -- a block without parentheses, by its level
    opens_level : (op : BlockOp) (x : ℕ → Rule) (l : Rattle.wat_text.specs.declared.bodies.Level.Level) (h : Option code.Hint) (e : Expression) (toks t : Toks)
        → ((n : ℕ) (place : Span) → todo may b n (open_of l place None ∷ ls) ws ≡ (sequences may n Anywhere ∷ x n ∷ []) ++ todo may b n ls ws)
        → (i : Parse Instruction) → instruction t ≡ i
        → Same may b m (append_hint h (state ls ws e t) >>= read_instr >>= push_level l (position t) None)
        (run (chain (hinted (hint_items h)) ((sequences may m Anywhere >> x m) ∷ sequences may m p ∷ []) ∷ behind may b (suc m) ls ws) e t)
    opens_level op x l h e toks t todo_is None read =
        no_step (ap (λ o. o >>= push_level l (position t) None) (read_instr_is (state ls ws (with_hint h e) t) None read))
        (flat (hinted (hint_items h)) ((sequences may m Anywhere >> x m) ∷ sequences may m p ∷ []) (behind may b (suc m) ls ws) e t
        ∙ fails_by (hinted (hint_items h)) ((sequences may m Anywhere >> x m) ∷ then_on) e t (hinted_is (hint_items h) t None read))
    opens_level op x l h e toks t todo_is (Some i) read = let f = with_instr i.0 (with_hint h e) in let s = state (open_of l (position t) None ∷ ls) ws f i.1 in
        one_step (suc (suc (c ls ws))) s (ap (λ o. o >>= push_level l (position t) None) (read_instr_is (state ls ws (with_hint h e) t) (Some i) read))
        (flat (hinted (hint_items h)) ((sequences may m Anywhere >> x m) ∷ sequences may m p ∷ []) (behind may b (suc m) ls ws) e t
        ∙ read_by (hinted (hint_items h)) ((sequences may m Anywhere >> x m) ∷ then_on) e t i.1
        (hint_items h ++ Instr i.0 ∷ []) (hinted_is (hint_items h) t (Some i) read)
        ∙ ap (λ g. run ((sequences may m Anywhere >> x m) ∷ then_on) g i.1) (with_both h i.0 e)
        ∙ in_turn (sequences may m Anywhere) (x m) then_on f i.1
        ∙ sym (ap (λ rs. run (sequences may m Anywhere ∷ x m ∷ rs) f i.1) rest_at)
        ∙ sym (mixed_own ls ws (suc (suc (c ls ws))) s (sequences may m Anywhere ∷ x m ∷ [])
        (sequences may (suc m) Anywhere ∷ x (suc m) ∷ []) (todo_is m (position t)) (todo_is (suc m) (position t)) (λ ps qs. refl)))

    pub opens_block : (op : BlockOp) (h : Option code.Hint) (e : Expression) (toks t : Toks)
        → Same may b m (append_hint h (state ls ws e t) >>= read_instr >>= push_level (plain_level op) (position t) None)
        (run (sequence may (sequences may m) (Opens op) p toks (hint_items h) ∷ behind may b (suc m) ls ws) e t)
    opens_block opens.if_ h e toks t =
        opens_level opens.if_ (λ n. else_to_end may (sequences may n)) level.PlainIf h e toks t (λ n place. refl) (instruction t) refl
    opens_block opens.try_ h e toks t =
        opens_level opens.try_ (λ n. catches_to_end may (sequences may n)) level.PlainTry h e toks t (λ n place. refl) (instruction t) refl
    opens_block opens.block h e toks t = opens_level opens.block (λ n. part may End) level.Plain h e toks t (λ n place. refl) (instruction t) refl
    opens_block opens.loop_ h e toks t = opens_level opens.loop_ (λ n. part may End) level.Plain h e toks t (λ n place. refl) (instruction t) refl
    opens_block opens.try_table h e toks t = opens_level opens.try_table (λ n. part may End) level.Plain h e toks t (λ n place. refl) (instruction t) refl
