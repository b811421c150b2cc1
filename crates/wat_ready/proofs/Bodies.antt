-- Expressions: each rule leads from a depth of blocks to another, so what is read between two ends leads from 0 to 0. Rule by rule, in the
-- order of wat_syntax. For example, the rule of `(then ..)` keeps the depth, and that of the last ')' of an `if` leads out of a block.
use Rattle.std.proofs.Common.{◌≡◌, ℕ, zero, suc, ◌==◌, nat_lt, Bool, true, false, if◌then◌else◌, List, [], ◌∷◌, ◌++◌, Option, None, Some, refl, sym, subst}
use Rattle.std.specs.Prelude.{⊤}
use Rattle.wat_grammar.specs.Parts.{◌>>=◌}
use Rattle.wast_base.specs.Blocks.{is_balanced}
use Rattle.wast_tree_nodes.specs.Clauses.{hints_stand}
use Rattle.wast_tree_nodes.specs.Instrs.{block_effects}
use Rattle.wast_tree_nodes.specs.Sites.{BodyContext, in_instrs}
use Rattle.wat_syntax.specs.Tree.{Instruction, Expression}
use Rattle.wat_tokens.specs.declared.words.Key.TheVariants as key
use Rattle.wat_tokens.specs.declared.words.Word.{Word}
use Rattle.wat_tokens.specs.declared.words.Word.TheVariants as word
use Rattle.wat_tokens.specs.declared.words.BlockOp.{BlockOp}
use Rattle.wat_tokens.specs.declared.words.BlockOp.TheVariants as opens
use Rattle.wat_tokens.specs.declared.tokens.Token.{Token}
use Rattle.wat_tokens.specs.declared.tokens.Token.TheVariants as token
use Rattle.wat_syntax.specs.Tokens.{Toks, peek, after, count, word_of, is_lparen, is_end, lparen, rparen, form, is_form}
use Rattle.wat_syntax.specs.Values.{string, annotation_of}
use Rattle.wat_syntax.specs.Bodies.{Item, Instr, Hint, Place, Anywhere, Folded, Catches, CatchArms, Rule, Within, ◌>>◌, terminal, writes}
use Rattle.wat_syntax.specs.Bodies.{choice, is_hint, hint_value, hint, hinted, Part, End, Else, Catch, CatchAll, Delegate, part_of}
use Rattle.wat_syntax.specs.Bodies.{same_part, part_in, is_arm, arm_word, Next, Ends, Folds, Opens, Stands, Catching, CatchingArm}
use Rattle.wat_syntax.specs.Bodies.{next_of_word, next_of_token, next_of, catch_tag, delegate_label, arm, ends, else_arm, folded_if}
use Rattle.wat_syntax.specs.Bodies.{catch_arm, catch_all_arm, handlers, folded_block, operands, folded_by, foldedinstr, is_part, part}
use Rattle.wat_syntax.specs.Bodies.{to_end, rest_of_block, sequence, sequences, expression_of, at_end, expression, folded_expression}
use Rattle.wat_ready.proofs.Parses.{Of, the_same, nothing, done, bind, skip, either, Each}
use Rattle.wat_ready.proofs.Checks.{SiteOk}
use Rattle.wat_ready.proofs.Nesting.{Move, Up, Flat, move_of, Leads, Everywhere, Good, finish, step, hint_step, append, balanced, hints_are_on, checked}
use Rattle.wat_ready.proofs.Types.{of_index}
use Rattle.wat_ready.proofs.Instructions.{move_in, move_at, Whole, of_instruction}

-- a rule that leads from a depth to another
pub record Gives (a b : ℕ) (rule : Rule) : Type 0 where
  pub at : (t : Toks) → Of (Good a b) (rule t)

-- p >> q, at some tokens and at all
at_first : {a b c : ℕ} (p q : Rule) (t : Toks) → Of (Good a b) (p t) → Gives b c q → Of (Good a c) ((p >> q) t)
at_first p q t f g = bind f (λ x h. bind (g.at x.1) (λ y k. done (append h k)))

infixr 20 ◌>>>◌
◌>>>◌ : {a b c : ℕ} {p q : Rule} → Gives a b p → Gives b c q → Gives a c (p >> q)
f >>> g = record { at = λ t. bind (f.at t) (λ x h. bind (g.at x.1) (λ y k. done (append h k))) }

takes : {a : ℕ} (f : Toks → Option Toks) → Gives a a (terminal f)
takes f = record { at = λ t. skip (f t) (λ rest. done (finish refl)) }

puts : {a b : ℕ} {xs : List Item} → Good a b xs → Gives a b (writes xs)
puts h = record { at = λ t. done h }

chooses : {a b : ℕ} {p q : Rule} (test : Toks → Bool) → Gives a b p → Gives a b q → Gives a b (choice test p q)
chooses test f g = record { at = λ t. either (test t) (f.at t) (g.at t) }

no_rule : {a b : ℕ} → Gives a b (λ toks. None)
no_rule = record { at = λ t. nothing }

-- one instruction, alone and after its hint
alone : {a b : ℕ} {i : Instruction} → Leads (move_of i) a b → Everywhere i → Good a b (Instr i ∷ [])
alone l ok = step l ok (finish refl)

data HintOk : List Item → Type 0 where
  without : HintOk []
  with_one : (v : ℕ) → nat_lt v 2 ≡ true → HintOk (Hint v ∷ [])

with_hint : {k : Move} {a b : ℕ} {i : Instruction} {h : List Item} → HintOk h → Leads k a b → Whole k i → Good a b (h ++ Instr i ∷ [])
with_hint {a = a} {b = b} without l is = step (subst (λ k. Leads k a b) (sym is.leads) l) is.sites (finish refl)
with_hint {a = a} {b = b} (with_one v e) l is = hint_step v e (subst (λ k. Leads k a b) (sym is.leads) l) is.sites (finish refl)

of_hinted : {k : Move} {a b : ℕ} (h : List Item) → HintOk h → Leads k a b → (t : Toks) → move_at (word_of (peek 0 t)) ≡ k → Of (Good a b) (hinted h t)
of_hinted {k} h ok l t e = bind (of_instruction t) (λ i is. done (with_hint {k = k} ok l (subst (λ k. Whole k i.0) e is)))

value_ok : (bytes : List ℕ) (v : ℕ) → hint_value bytes ≡ Some v → nat_lt v 2 ≡ true
value_ok [] v e = absurd cc
value_ok (b ∷ []) v e = by (b == 0) (b == 1) e
  where
    by : (c d : Bool) → (if c then Some 0 else (if d then Some 1 else None)) ≡ Some v → nat_lt v 2 ≡ true
    by true d e = subst (λ n. nat_lt n 2 ≡ true) (the_same e) refl
    by false true e = subst (λ n. nat_lt n 2 ≡ true) (the_same e) refl
    by false false e = absurd cc
value_ok (b ∷ c ∷ bs) v e = absurd cc

of_hint : (may_hint : Bool) (t : Toks) → Of HintOk (hint may_hint t)
of_hint may_hint t = either (is_hint (annotation_of (peek 0 t))) (skip (string (after t)) (λ b. by b.1 (hint_value b.0.now) (value_ok b.0.now))) (done without)
  where
    given : (m : Bool) (v : ℕ) (r : Toks) → nat_lt v 2 ≡ true → Of HintOk (if m then Some (Hint v ∷ [], r) else None)
    given true v r e = done (with_one v e)
    given false v r e = nothing

    by : (r : Toks) (o : Option ℕ) → ((v : ℕ) → o ≡ Some v → nat_lt v 2 ≡ true)
        → Of HintOk (o >>= λ v. rparen r >>= λ rest. if may_hint then Some (Hint v ∷ [], rest) else None)
    by r None ok = nothing
    by r (Some v) ok = skip (rparen r) (λ rest. given may_hint v rest (ok v refl))

-- where an instruction leads, by the part that it is, and by what is next
same_move : (p : Part) (o : Option Part) → same_part p o ≡ true → move_in o ≡ move_in (Some p)
same_move End (Some End) e = refl
same_move Else (Some Else) e = refl
same_move Catch (Some Catch) e = refl
same_move CatchAll (Some CatchAll) e = refl
same_move Delegate (Some Delegate) e = refl
same_move p o e = absurd cc

no_part : (p : Part) → same_part p None ≡ true → ⊥
no_part End e = absurd cc
no_part p e = absurd cc

move_part : (p : Part) (w : Option Word) → same_part p (part_of w) ≡ true → move_at w ≡ move_in (Some p)
move_part p (Some (word.Block op)) e = absurd (no_part p e)
move_part p w e = same_move p (part_of w) e

abbrev Agrees : Next → Move → Type 0
Agrees (Opens op) k = k ≡ Up
Agrees Stands k = k ≡ Flat
Agrees Catching k = k ≡ Flat
Agrees n k = ⊤

agrees_part : (o : Option Part) → Agrees (elim o [ Some p ↦ Ends | None ↦ Stands ]) (move_in o)
agrees_part None = refl
agrees_part (Some p) = tt

agrees_word : (w : Option Word) → Agrees (next_of_word w) (move_at w)
agrees_word None = refl
agrees_word (Some (word.Block op)) = refl
agrees_word (Some w) = agrees_part (part_of (Some w))

agrees_token : (o : Option Token) → Agrees (next_of_token o) (move_at (word_of o))
agrees_token None = tt
agrees_token (Some token.Close) = tt
agrees_token (Some token.Open) = tt
agrees_token (Some (token.Word w name)) = agrees_word (Some w)
agrees_token (Some t) = refl

chosen : (c : Bool) (n m : Next) (k : Move) → Agrees n k → Agrees m k → Agrees (elim c [ true ↦ n | false ↦ m ]) k
chosen true n m k p q = p
chosen false n m k p q = q

agrees : (place : Place) (t : Toks) → Agrees (next_of place t) (move_at (word_of (peek 0 t)))
agrees Anywhere t = agrees_token (peek 0 t)
agrees Folded t = let k = move_at (word_of (peek 0 t)) in
    chosen (is_form key.Then t) Ends (elim (is_lparen (peek 0 t)) [ true ↦ Folds | false ↦ Ends ]) k tt (chosen (is_lparen (peek 0 t)) Folds Ends k tt tt)
agrees Catches t = by (same_part Catch (part_in t)) refl
  where
    by : (c : Bool) → same_part Catch (part_in t) ≡ c → Agrees (elim c [ true ↦ Catching | false ↦ Ends ]) (move_at (word_of (peek 0 t)))
    by true e = move_part Catch (word_of (peek 0 t)) e
    by false e = tt
agrees CatchArms t = chosen (is_arm Catch t) CatchingArm Ends (move_at (word_of (peek 0 t))) tt tt

-- single items
of_ends : (d : ℕ) → Gives (suc d) d ends
of_ends d = takes rparen >>> puts (alone refl (λ h. (tt, (tt, tt))))

of_catch_tag : (d : ℕ) → Gives d d catch_tag
of_catch_tag d = record { at = λ t. bind (of_index t) (λ x p. done (alone refl (λ h. (p, tt)))) }

of_delegate_label : (d : ℕ) → Gives (suc d) d delegate_label
of_delegate_label d = record { at = λ t. bind (of_index t) (λ x p. done (alone refl (λ h. (tt, (p, tt))))) }

module _ (within : Within) (is : (d : ℕ) (place : Place) → Gives d d (within place)) where
  -- blocks in parentheses
  of_arm : (d : ℕ) → Gives d d (arm within)
  of_arm d = is d Anywhere >>> takes rparen

  of_else_arm : (d : ℕ) → Gives d d (else_arm within)
  of_else_arm d = chooses (is_arm Else) (takes (arm_word Else) >>> puts (alone refl (λ h. (tt, tt))) >>> of_arm d) (puts (finish refl))

  of_folded_if : (d : ℕ) {opener : List Item} → Good d (suc d) opener → Gives d d (folded_if within opener)
  of_folded_if d h = is d Folded >>> takes (form key.Then) >>> puts h >>> of_arm (suc d) >>> of_else_arm (suc d) >>> of_ends d

  of_catch_arm : (d : ℕ) → Gives d d (catch_arm within)
  of_catch_arm d = takes (arm_word Catch) >>> of_catch_tag d >>> of_arm d

  of_catch_all_arm : (d : ℕ) → Gives d d (catch_all_arm within)
  of_catch_all_arm d = chooses (is_arm CatchAll) (takes (arm_word CatchAll) >>> puts (alone refl (λ h. tt)) >>> of_arm d) (puts (finish refl))

  of_handlers : (d : ℕ) → Gives (suc d) d (handlers within)
  of_handlers d = chooses (is_arm Delegate) (takes (arm_word Delegate) >>> of_delegate_label d >>> takes rparen >>> takes rparen)
      (is (suc d) CatchArms >>> of_catch_all_arm (suc d) >>> of_ends d)

  of_folded_block : (op : BlockOp) (d : ℕ) {opener : List Item} → Good d (suc d) opener → Gives d d (folded_block op within opener)
  of_folded_block opens.if_ d h = of_folded_if d h
  of_folded_block opens.try_ d h = puts h >>> takes (form key.Do) >>> of_arm (suc d) >>> of_handlers d
  of_folded_block op d h = puts h >>> is (suc d) Anywhere >>> of_ends d

  module _ (d : ℕ) (h : List Item) (ok : HintOk h) (i : Instruction) where
    of_operands : Whole Flat i → Gives d d (operands within (h ++ Instr i ∷ []))
    of_operands w = is d Folded >>> takes rparen >>> puts (with_hint {k = Flat} {a = d} {b = d} ok refl w)

    by_part : (o : Option Part) → Whole (move_in o) i → Gives d d (folded_by (elim o [ Some p ↦ Ends | None ↦ Stands ]) within (h ++ Instr i ∷ []))
    by_part None w = of_operands w
    by_part (Some p) w = no_rule

    of_folded_by : (w : Option Word) → Whole (move_at w) i → Gives d d (folded_by (next_of_word w) within (h ++ Instr i ∷ []))
    of_folded_by None w = of_operands w
    of_folded_by (Some (word.Block op)) w = of_folded_block op d (with_hint {k = Up} {a = d} {b = suc d} ok refl w)
    of_folded_by (Some v) w = by_part (part_of (Some v)) w

  of_foldedinstr : (d : ℕ) (h : List Item) → HintOk h → Gives d d (foldedinstr within h)
  of_foldedinstr d h ok =
      record { at = λ toks. skip (lparen toks) (λ t. bind (of_instruction t) (λ i w. (of_folded_by d h ok i.0 (word_of (peek 0 t)) w).at i.1)) }

module _ (may_hint : Bool) where
  of_part : (p : Part) {a b : ℕ} → Leads (move_in (Some p)) a b → Gives a b (part may_hint p)
  of_part p {a = a} {b = b} l = record { at = λ toks. bind (of_hint may_hint toks) (λ h ok. by h ok (same_part p (part_in h.1)) refl) }
    where
      by : (h : List Item × Toks) → HintOk h.0 → (c : Bool) → same_part p (part_in h.1) ≡ c → Of (Good a b) (elim c [ true ↦ hinted h.0 h.1 | false ↦ None ])
      by h ok true e = of_hinted {k = move_in (Some p)} h.0 ok l h.1 (move_part p (word_of (peek 0 h.1)) e)
      by h ok false e = nothing

  module _ (within : Within) (is : (d : ℕ) (place : Place) → Gives d d (within place)) (d : ℕ) where
    -- blocks without parentheses
    of_to_end : Gives (suc d) d (to_end may_hint within)
    of_to_end = is (suc d) Anywhere >>> of_part End refl

    of_rest_of_block : (op : BlockOp) → Gives (suc d) d (rest_of_block may_hint op within)
    of_rest_of_block opens.if_ =
        is (suc d) Anywhere >>> chooses (is_part may_hint Else) (of_part Else {a = suc d} {b = suc d} refl >>> of_to_end) (of_part End refl)
    of_rest_of_block opens.try_ = is (suc d) Anywhere >>> chooses (is_part may_hint Delegate) (of_part Delegate refl)
        (is (suc d) Catches >>> chooses (is_part may_hint CatchAll) (of_part CatchAll {a = suc d} {b = suc d} refl >>> of_to_end) (of_part End refl))
    of_rest_of_block op = of_to_end

    of_sequence : (n : Next) (place : Place) (toks : Toks) (h : List Item) → HintOk h → (t : Toks)
        → Agrees n (move_at (word_of (peek 0 t))) → Of (Good d d) (sequence may_hint within n place toks h t)
    of_sequence Ends place toks h ok t e = done (finish refl)
    of_sequence Folds place toks h ok t e = (of_foldedinstr within is d h ok >>> is d place).at t
    of_sequence (Opens op) place toks h ok t e =
        at_first {b = suc d} (hinted h) _ t (of_hinted {k = Up} {b = suc d} h ok refl t e) (of_rest_of_block op >>> is d place)
    of_sequence Stands place toks h ok t e = at_first {b = d} (hinted h) _ t (of_hinted {k = Flat} {b = d} h ok refl t e) (is d place)
    of_sequence Catching place toks h ok t e = at_first {b = d} (hinted h) _ t (of_hinted {k = Flat} {b = d} h ok refl t e) (is d Anywhere >>> is d place)
    of_sequence CatchingArm place toks h ok t e = (of_catch_arm within is d >>> is d place).at toks

  of_sequences : (n : ℕ) (d : ℕ) (place : Place) → Gives d d (sequences may_hint n place)
  of_sequences zero d place = no_rule
  of_sequences (suc n) d place = record {
    at = λ toks. bind (of_hint may_hint toks)
        (λ h ok. of_sequence (sequences may_hint n) (of_sequences n) d (next_of place h.1) place toks h.0 ok h.1 (agrees place h.1));
  }

-- An expression that keeps the rules 2 and 5, with its sites in any surroundings.
pub record Sound (e : Expression) : Type 0 where
  pub balances : is_balanced (block_effects e.instrs) ≡ true
  pub hints : hints_stand e ≡ true
  pub sites : (h : BodyContext) → Each SiteOk (in_instrs h e.instrs)

sound : (xs : List Item) → Good 0 0 xs → Sound (expression_of xs)
sound xs g = record { balances = balanced g; hints = hints_are_on g; sites = checked g }

of_at_end : (d : ℕ) → Gives d d at_end
of_at_end d = record { at = λ t. either (is_end (peek 0 t)) (done (finish refl)) nothing }

pub of_expression : (may_hint : Bool) (t : Toks) → Of Sound (expression may_hint t)
of_expression may_hint t = bind ((of_sequences may_hint (suc (count t)) 0 Anywhere >>> of_at_end 0).at t) (λ xs g. done (sound xs.0 g))

pub of_folded : (t : Toks) → Of Sound (folded_expression t)
of_folded t = skip (lparen t) (λ u. bind (of_instruction u) (λ i w.
    bind ((of_folded_by (sequences false (suc (count i.1))) (of_sequences false (suc (count i.1))) 0 [] without i.0 (word_of (peek 0 u)) w).at i.1)
    (λ xs g. done (sound xs.0 g))))
