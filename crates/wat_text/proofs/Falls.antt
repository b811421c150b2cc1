-- A step of the machine takes a token at least, if an instruction does: a `(`, a `)`, or the word of an instruction. So as many steps as
-- there are tokens read all of them. For example, of `(drop (i32.const 1))` the steps take `(drop`, `(i32.const 1`, `)` and `)`.
use Rattle.std.proofs.Common.{◌≡◌, ◌∙◌, ℕ, zero, suc, ◌≤◌, not, Bool, true, false, List, [], ◌∷◌, Option, None, Some, refl, sym, ap, subst, arith}
use Rattle.wat_grammar.specs.Parts.{◌>>=◌}
use Rattle.wat_tokens.specs.declared.words.Key.TheVariants as key
use Rattle.wat_tokens.specs.declared.words.Word.{Word}
use Rattle.wat_tokens.specs.declared.words.Word.TheVariants as word
use Rattle.wat_tokens.specs.declared.words.BlockOp.{BlockOp}
use Rattle.wat_tokens.specs.declared.words.BlockOp.TheVariants as opens
use Rattle.wat_tokens.specs.declared.tokens.Token.{Token}
use Rattle.wat_tokens.specs.declared.tokens.Token.TheVariants as token
use Rattle.wat_syntax.specs.Tree.{Instruction}
use Rattle.wat_syntax.specs.Tokens.{Toks, Parse, peek, after, count, is_end, position, is_key, key_of, keyword, word_of}
use Rattle.wat_syntax.specs.Values.{annotation_of}
use Rattle.wat_syntax.specs.Instructions.{instruction}
use Rattle.wat_syntax.specs.Bodies.{Part, Else, Catch, CatchAll, Delegate, part_in, same_part, is_hint, hint_value, Hint}
use Rattle.wat_syntax.specs.Bodies as rule
use Rattle.wat_text.specs.declared.bodies.Level.{Level}
use Rattle.wat_text.specs.declared.bodies.Level.TheVariants as level
use Rattle.wat_text.specs.declared.bodies.Hint as code
use Rattle.wat_text.specs.declared.bodies.Open.{Open}
use Rattle.wat_text.specs.Machine.{State, with_toks, without, else_word, no_part, taken, read_operator, read_instr}
use Rattle.wat_text.specs.Machine.{append_hinted_operator, then_arm, else_arm, do_arm, catch_arm, catch_all_arm, delegate_arm, first_by}
use Rattle.wat_text.specs.Machine.{next_by, folded_block, operator_of, opened_in, closed_by, closed_in, part_at, parted_by, next_level}
use Rattle.wat_text.specs.Machine.{level_of, word_by, other, takes_plain, at_nothing, hinted_by, step, hint_of_level, is_closed}
use Rattle.wat_text.proofs.Levels.{Base, Whole, One}
use Rattle.wat_text.proofs.Machines.{takes_step, Reading, None_there, One_there, Bad, reading, step_as}
use Rattle.wat_laws.proofs.Fewer.{one_less, Fewer, Takes, none, done, and_then, taking, some_of, either, cond}
use Rattle.wat_laws.proofs.Fewer.{no_toks, toks, fewer, rparen_takes, keyword_takes, index_fewer, string_fewer}
use Rattle.wat_text.proofs.MachineSteps.{read_operator_is, read_instr_is}

-- so many tokens at most are left in a state
pub record Left (n : ℕ) (o : Option State) : Type 0 where
  pub at : (t : State) → o ≡ Some t → count t.toks ≤ n

stuck : (n : ℕ) → Left n None
stuck n = record { at = λ t e. absurd cc }

at_state : (n : ℕ) (s : State) → count s.toks ≤ n → Left n (Some s)
at_state n s h = record { at = λ t e. subst (λ o. count_of o ≤ n) e h }
  where
    count_of : Option State → ℕ
    count_of None = 0
    count_of (Some t) = count t.toks

next : {k n : ℕ} {o : Option State} {f : State → Option State} → Left k o → ((t : State) → count t.toks ≤ k → Left n (f t)) → Left n (o >>= f)
next {o = None} h k = record { at = λ t e. absurd cc }
next {o = Some s} h k = k s (h.at s refl)

after_toks : {n : ℕ} {o : Option Toks} {f : Toks → Option State} → Takes n o → ((t : Toks) → count t ≤ n → Left n (f t)) → Left n (o >>= f)
after_toks {o = None} h k = record { at = λ t e. absurd cc }
after_toks {o = Some t} h k = k t (h.at t refl)

after_value : {T : Type 0} {n : ℕ} {o : Parse T} {f : T × Toks → Option State} → Fewer n o → ((x : T × Toks) → count x.1 ≤ n → Left n (f x)) → Left n (o >>= f)
after_value {o = None} h k = record { at = λ t e. absurd cc }
after_value {o = Some x} h k = k x (h.at x refl)

one_of : (n : ℕ) (c : Bool) (a b : Option State) → Left n a → Left n b → Left n (elim c [ true ↦ a | false ↦ b ])
one_of n true a b p q = p
one_of n false a b p q = q

open_yet : (b : Base) (t : Toks) (ls : List Open) → takes_step b ls t ≡ true → peek 0 t ≡ None → is_closed ls ≡ false
open_yet Whole t [] on none = not_so (sym on ∙ ap (λ o. not (is_end o)) none)
  where
    not_so : true ≡ false → is_closed [] ≡ false
    not_so e = absurd cc
open_yet One t [] on none = absurd cc
open_yet b t (o ∷ os) on none = refl

module _ (shrinks : (t : Toks) (x : Instruction × Toks) → instruction t ≡ Some x → suc (count x.1) ≤ count t) where
  -- an instruction takes a token
  read_operator_less : (n : ℕ) (s : State) → count s.toks ≤ suc n → Left n (read_operator s)
  read_operator_less n s h = by (instruction s.toks) refl
    where
      by : (i : Parse Instruction) → instruction s.toks ≡ i → Left n (read_operator s)
      by None read = subst (Left n) (sym (read_operator_is s None read)) (stuck n)
      by (Some i) read = subst (Left n) (sym (read_operator_is s (Some i) read))
          (at_state n _ (let l : suc (count i.1) ≤ count s.toks = shrinks s.toks i read in omega arith))

  read_instr_less : (n : ℕ) (s : State) → count s.toks ≤ suc n → Left n (read_instr s)
  read_instr_less n s h = by (instruction s.toks) refl
    where
      by : (i : Parse Instruction) → instruction s.toks ≡ i → Left n (read_instr s)
      by None read = subst (Left n) (sym (read_instr_is s None read)) (stuck n)
      by (Some i) read = subst (Left n) (sym (read_instr_is s (Some i) read))
          (at_state n _ (let l : suc (count i.1) ≤ count s.toks = shrinks s.toks i read in omega arith))

  module _ (n : ℕ) where
    more : (s : State) → count s.toks ≤ n → count s.toks ≤ suc n
    more s h = omega arith

    without_takes : (h : Option code.Hint) (t : Toks) → count t ≤ n → Takes n (without h t)
    without_takes None t h = toks n t h
    without_takes (Some x) t h = no_toks n

    else_takes : (t : Toks) → count t ≤ n → Takes n (else_word t)
    else_takes t h = by (same_part Else (part_in t))
      where
        by : (b : Bool) → Takes n (elim b [ true ↦ Some (after t) | false ↦ None ])
        by true = toks n (after t) (fewer n t h)
        by false = no_toks n

    no_part_takes : (t : Toks) → count t ≤ n → Takes n (no_part t)
    no_part_takes t h = by (part_in t)
      where
        by : (q : Option Part) → Takes n (elim q [ Some p ↦ None | None ↦ Some t ])
        by None = toks n t h
        by (Some p) = no_toks n

    takes : (f : Toks → Option Toks) (s : State) → Takes n (f s.toks) → Left n (taken f s)
    takes f s h = after_toks h (λ t h. at_state n (with_toks t s) h)

    waiting_left : (h : Option code.Hint) (s : State) → count s.toks ≤ n → Left n (append_hinted_operator h s)
    waiting_left h s few = at_state n _ few

    then_left : (h : Option code.Hint) (s : State) → count s.toks ≤ n → Left n (then_arm h s)
    then_left h s few = next (next
        (next (next (takes (without h) s (without_takes h s.toks few)) (λ t few. at_state n (with_toks (after t.toks) t) (fewer n t.toks few)))
        (λ t few. waiting_left (hint_of_level s.levels) t few)) (λ t few. at_state n _ few)) (λ t few. at_state n _ few)

    else_left : (h : Option code.Hint) (s : State) → count s.toks ≤ n → Left n (else_arm h s)
    else_left h s few = next (next (next (next (takes (without h) s (without_takes h s.toks few)) (λ t few. takes else_word t (else_takes t.toks few)))
        (λ t few. at_state n _ few)) (λ t few. at_state n _ few)) (λ t few. at_state n _ few)

    do_left : (h : Option code.Hint) (s : State) → count s.toks ≤ n → Left n (do_arm h s)
    do_left h s few = next
        (next (next (takes (without h) s (without_takes h s.toks few)) (λ t few. takes (keyword key.Do) t (keyword_takes n t.toks few key.Do)))
        (λ t few. at_state n _ few)) (λ t few. at_state n _ few)

    catch_left : (s : State) → count s.toks ≤ n → Left n (catch_arm s)
    catch_left s few = after_value (index_fewer n (after s.toks) (fewer n s.toks few)) (λ x few. at_state n _ few)

    catch_all_left : (s : State) → count s.toks ≤ n → Left n (catch_all_arm s)
    catch_all_left s few = at_state n _ (fewer n s.toks few)

    delegate_left : (s : State) → count s.toks ≤ n → Left n (delegate_arm s)
    delegate_left s few = after_value (index_fewer n (after s.toks) (fewer n s.toks few))
        (λ x few. after_toks (rparen_takes n x.1 few) (λ r few. at_state n _ few))

    first_left : (q : Option Part) (s : State) → count s.toks ≤ n → Left n (first_by q s)
    first_left (Some Catch) s few = catch_left s few
    first_left (Some CatchAll) s few = catch_all_left s few
    first_left (Some Delegate) s few = delegate_left s few
    first_left q s few = stuck n

    next_left : (q : Option Part) (s : State) → count s.toks ≤ n → Left n (next_by q s)
    next_left (Some Catch) s few = catch_left s few
    next_left (Some CatchAll) s few = catch_all_left s few
    next_left q s few = stuck n

    block_left : (op : BlockOp) (h : Option code.Hint) (s : State) → count s.toks ≤ n → Left n (folded_block op h s)
    block_left opens.if_ h s few = next (read_operator_less n s (more s few)) (λ t few. at_state n _ few)
    block_left opens.try_ h s few = next (next (at_state n _ few) (λ t few. read_instr_less n t (more t few))) (λ t few. at_state n _ few)
    block_left op h s few = next (next (at_state n _ few) (λ t few. read_instr_less n t (more t few))) (λ t few. at_state n _ few)

    operator_left : (w : Option Word) (h : Option code.Hint) (s : State) → count s.toks ≤ n → Left n (operator_of w h s)
    operator_left (Some (word.Block op)) h s few = block_left op h s few
    operator_left w h s few =
        next (next (takes no_part s (no_part_takes s.toks few)) (λ t few. read_operator_less n t (more t few))) (λ t few. at_state n _ few)

    opened_left : (l : Option Level) (h : Option code.Hint) (s : State) → count s.toks ≤ n → Left n (opened_in l h s)
    opened_left (Some level.Condition) h s few =
        one_of n (is_key key.Then (key_of (peek 0 s.toks))) _ _ (then_left h s few) (operator_left (word_of (peek 0 s.toks)) h s few)
    opened_left (Some level.Then) h s few = else_left h s few
    opened_left (Some level.Try) h s few = do_left h s few
    opened_left (Some level.Do) h s few = next (takes (without h) s (without_takes h s.toks few)) (λ t few. first_left (part_in t.toks) t few)
    opened_left (Some level.Catch) h s few = next (takes (without h) s (without_takes h s.toks few)) (λ t few. next_left (part_in t.toks) t few)
    opened_left (Some level.Last) h s few = stuck n
    opened_left (Some level.Delegated) h s few = stuck n
    opened_left l h s few = operator_left (word_of (peek 0 s.toks)) h s few

    closed_left : (l : Level) (h : Option code.Hint) (s : State) → count s.toks ≤ n → Left n (closed_by l h s)
    closed_left level.Operands h s few = waiting_left h s few
    closed_left level.Block h s few = at_state n _ few
    closed_left level.Then h s few = at_state n _ few
    closed_left level.Do h s few = at_state n _ few
    closed_left level.Catch h s few = at_state n _ few
    closed_left level.Last h s few = at_state n _ few
    closed_left level.Delegated h s few = at_state n _ few
    closed_left level.Arm h s few = at_state n _ few
    closed_left l h s few = stuck n

    closes_left : (ls : List Open) (s : State) → count s.toks ≤ n → Left n (closed_in ls s)
    closes_left [] s few = stuck n
    closes_left (o ∷ os) s few = closed_left o.level o.hint _ few

    part_left : (o : Option (Option Level)) (s : State) → count s.toks ≤ suc n → Left (suc n) (part_at o s)
    part_left (Some (Some l)) s few = at_state (suc n) _ few
    part_left (Some None) s few = at_state (suc n) _ few
    part_left None s few = stuck (suc n)

    parted_left : (q : Option Part) (s : State) → count s.toks ≤ suc n → Left (suc n) (parted_by q s)
    parted_left None s few = at_state (suc n) s few
    parted_left (Some p) s few = part_left (next_level (level_of s.levels) p) s few

    word_less : (w : Option Word) (s : State) → count s.toks ≤ suc n → Left n (word_by w s)
    word_less (Some (word.Block op)) s few = next (read_instr_less n s few) (λ t few. at_state n _ few)
    word_less None s few = stuck n
    word_less (Some w) s few = next (parted_left (part_in s.toks) s few) (λ t few. read_instr_less n t few)

    other_less : (h : Option code.Hint) (s : State) → count s.toks ≤ suc n → Left n (other h s)
    other_less h s few = one_of n
        (takes_plain (level_of s.levels)) _ _ (next (at_state (suc n) _ few) (λ t few. word_less (word_of (peek 0 t.toks)) t few)) (stuck n)

    nothing_less : (ls : List Open) (h : Option code.Hint) (s : State) → (h ≡ None → is_closed ls ≡ false)
        → count s.toks ≤ suc n → Left n (at_nothing (level_of ls) h s)
    nothing_less [] None s yet few = not_so (yet refl)
      where
        not_so : true ≡ false → Left n (at_nothing (level_of []) None s)
        not_so e = absurd cc
    nothing_less [] (Some x) s yet few = stuck n
    nothing_less (o ∷ os) h s yet few = other_less h s few

    hinted_less : (h : Option code.Hint) (s : State) → (peek 0 s.toks ≡ None → h ≡ None → is_closed s.levels ≡ false)
        → count s.toks ≤ suc n → (o : Option Token) → peek 0 s.toks ≡ o → Left n (hinted_by o h s)
    hinted_less h s yet few None is = nothing_less s.levels h s (yet is) few
    hinted_less h s yet few (Some token.Open) is = opened_left (level_of s.levels) h (with_toks (after s.toks) s) (less token.Open is)
      where
        less : (k : Token) → peek 0 s.toks ≡ Some k → count (after s.toks) ≤ n
        less k is = let l : suc (count (after s.toks)) ≡ count s.toks = one_less s.toks k is in omega arith
    hinted_less h s yet few (Some token.Close) is = next (takes (without h) (with_toks (after s.toks) s)
        (without_takes h (after s.toks) (less token.Close is))) (λ t few. closes_left t.levels t few)
      where
        less : (k : Token) → peek 0 s.toks ≡ Some k → count (after s.toks) ≤ n
        less k is = let l : suc (count (after s.toks)) ≡ count s.toks = one_less s.toks k is in omega arith
    hinted_less h s yet few (Some k) is = one_of n (is_hint (annotation_of (Some k))) _ _ (stuck n) (other_less h s few)

    hint_fewer : (may : Bool) (t : Toks) → count t ≤ suc n → Fewer (suc n) (rule.hint may t)
    hint_fewer may t few = either (is_hint (annotation_of (peek 0 t)))
        (and_then (string_fewer (suc n) (after t) (fewer (suc n) t few)) (λ b few. some_of (hint_value b.0.now)
        (λ v. taking (rparen_takes (suc n) b.1 few) (λ r few. cond may (done (suc n) _ r few) (none (suc n))))))
        (done (suc n) _ t few)

    pub falls : (may : Bool) (b : Base) (s : State) → takes_step b s.levels s.toks ≡ true → count s.toks ≤ suc n → Left n (step may s)
    falls may b s on few = by (reading may s.toks)
      where
        yet : (ls : List Open) → takes_step b ls s.toks ≡ true → peek 0 s.toks ≡ None → is_closed ls ≡ false
        yet = open_yet b s.toks

        by : Reading may s.toks → Left n (step may s)
        by (None_there read) = subst (Left n) (sym (step_as may b zero s.levels s.waiting s.read s.toks (Some ([], s.toks)) read))
            (hinted_less None s (λ none e. yet s.levels on none) few (peek 0 s.toks) refl)
        by (One_there v t at read) = subst (Left n) (sym (step_as may b zero s.levels s.waiting s.read s.toks (Some (Hint v ∷ [], t)) read))
            (hinted_less (Some (record { value = v; place = position s.toks })) (with_toks t s)
            (λ none e. some_hint (record { value = v; place = position s.toks }) e)
            ((hint_fewer may s.toks few).at (Hint v ∷ [], t) read) (peek 0 t) refl)
          where
            some_hint : (x : code.Hint) → Some x ≡ None → is_closed s.levels ≡ false
            some_hint x e = absurd cc
        by (Bad at none_read) = subst (Left n) (sym (step_as may b zero s.levels s.waiting s.read s.toks None none_read)) (stuck n)
