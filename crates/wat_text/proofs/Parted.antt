-- A step of the machine at `else`, `catch`, `end` and other parts of a block without parentheses, or at an instruction without
-- parentheses. The grammar reads the same from the state before the step and from the state after it.
use Rattle.std.proofs.Common.{◌≡◌, ◌∙◌, ℕ, zero, suc, Bool, true, false, List, [], ◌∷◌, ◌++◌, Option, None, Some, refl, sym, ap}
use Rattle.wast_base.specs.declared.ids.Span.{Span}
use Rattle.wat_grammar.specs.Parts.{◌>>=◌}
use Rattle.wat_syntax.specs.Tree.{Instruction, Expression}
use Rattle.wat_syntax.specs.Tokens.{Toks, Parse}
use Rattle.wat_syntax.specs.Instructions.{instruction}
use Rattle.wat_syntax.specs.Bodies.{Item, Instr, Rule, Place, Anywhere, Catches, Ends, Catching, Part, End, Else, Catch, CatchAll, Delegate}
use Rattle.wat_syntax.specs.Bodies.{part_in, same_part, hinted, part, to_end, else_to_end, catch_all_to_end, catches_to_end, sequences}
use Rattle.wat_syntax.specs.Bodies as rule
use Rattle.wat_text.specs.declared.bodies.Level.{Level}
use Rattle.wat_text.specs.declared.bodies.Level.TheVariants as level
use Rattle.wat_text.specs.declared.bodies.Hint as code
use Rattle.wat_text.specs.declared.bodies.Open.{Open}
use Rattle.wat_text.specs.Machine.{with_instr, with_hint, read_instr, part_at, after_part}
use Rattle.wat_text.proofs.Running.{run, flat, in_turn, read_by, fails_by}
use Rattle.wat_text.proofs.Levels.{Base, hint_items, own, todo, mixed}
use Rattle.wat_text.proofs.MachineSteps.{state, open_of, with_both, read_instr_is, Same, no_step, one_step, by_both, next_is}
use Rattle.wat_text.proofs.Places.{part_there, no_part_there, else_part, no_else_part, catch_all_part, no_catch_all_part, delegate_part, no_delegate_part}

-- whether a level is that of a block without parentheses
abbrev pub takes_parts : Level → Bool
takes_parts level.Plain = true
takes_parts level.PlainIf = true
takes_parts level.PlainTry = true
takes_parts level.PlainCatch = true
takes_parts l = false

module _ (may : Bool) (b : Base) (m : ℕ) where
  module _ (ws : List Instruction) (h : Option code.Hint) (e : Expression) (toks t : Toks) (read : rule.hint may toks ≡ Some (hint_items h, t)) where
    abbrev items : List Item
    items = hint_items h

    -- an instruction is appended, and these rules follow
    append_part : (k : ℕ) (ls : List Open) (rs : List Rule) → ((f : Expression) (r : Toks) → mixed may b k m (state ls ws f r) ≡ run rs f r)
        → Same may b m (read_instr (state ls ws (with_hint h e) t)) (run (hinted items ∷ rs) e t)
    append_part k ls rs same = by (instruction t) refl
      where
        hinted_is : (i : Parse Instruction) → instruction t ≡ i
            → hinted items t ≡ (i >>= λ x. let o : List Item × Toks = (items ++ Instr x.0 ∷ [], x.1) in Some o)
        hinted_is i read = ap (λ o. o >>= λ x. let o : List Item × Toks = (items ++ Instr x.0 ∷ [], x.1) in Some o) read

        by : (i : Parse Instruction) → instruction t ≡ i → Same may b m (read_instr (state ls ws (with_hint h e) t)) (run (hinted items ∷ rs) e t)
        by None read = no_step may b m (read_instr_is (state ls ws (with_hint h e) t) None read) (fails_by (hinted items) rs e t (hinted_is None read))
        by (Some i) read = one_step may b m k (state ls ws (with_instr i.0 (with_hint h e)) i.1) (read_instr_is (state ls ws (with_hint h e) t) (Some i) read)
            (read_by (hinted items) rs e t i.1 (items ++ Instr i.0 ∷ []) (hinted_is (Some i) read)
            ∙ ap (λ g. run rs g i.1) (with_both h i.0 e) ∙ sym (same (with_instr i.0 (with_hint h e)) i.1))

    module _ (os : List Open) (place : Span) (h0 : Option code.Hint) where
      abbrev more : List Rule
      more = todo may b (suc m) os ws

      abbrev w : Place → Rule
      w = sequences may (suc m)

      abbrev PartStep : Level → Part → Type 0
      PartStep l q = Same may b m (part_at (after_part l q) (state (open_of l place h0 ∷ os) ws (with_hint h e) t) >>= read_instr)
          (run (own may w l h0 ws ++ more) e toks)

      closes_block : Same may b m (read_instr (state os ws (with_hint h e) t)) (run (hinted items ∷ more) e t)
      closes_block = append_part zero os more (λ f r. refl)

      -- to its `end` alone
      goes_to_end : Same may b m (read_instr (state (open_of level.Plain place None ∷ os) ws (with_hint h e) t)) (run (hinted items ∷ to_end may w ∷ more) e t)
      goes_to_end = append_part zero (open_of level.Plain place None ∷ os) (to_end may w ∷ more) (λ f r. sym (in_turn (w Anywhere) (part may End) more f r))

      catches_more : Same may b m (read_instr (state (open_of level.PlainCatch place None ∷ os) ws (with_hint h e) t))
          (run (hinted items ∷ sequences may m Anywhere ∷ sequences may m Catches ∷ catch_all_to_end may w ∷ more) e t)
      catches_more = append_part (suc (suc zero)) (open_of level.PlainCatch place None ∷ os)
          (sequences may m Anywhere ∷ sequences may m Catches ∷ catch_all_to_end may w ∷ more) (λ f r. refl)

      end_only : (q : Option Part) → part_in t ≡ q → same_part End q ≡ false → run (part may End ∷ more) e toks ≡ None
      end_only q is absent = no_part_there may toks t items read more e End (ap (same_part End) is ∙ absent)

      end_there : part_in t ≡ Some End → run (part may End ∷ more) e toks ≡ run (hinted items ∷ more) e t
      end_there is = part_there may toks t items read more e End (ap (same_part End) is)

      -- after the parts of `catch`
      no_catches : (q : Option Part) → part_in t ≡ q → same_part Catch q ≡ false
          → run (w Catches ∷ catch_all_to_end may w ∷ more) e toks ≡ run (catch_all_to_end may w ∷ more) e toks
      no_catches q is absent = next_is may b m Catches (catch_all_to_end may w ∷ more) e toks t items Ends read
          (ap (λ q. elim (same_part Catch q) [ true ↦ Catching | false ↦ Ends ]) is ∙ ap (λ b. elim b [ true ↦ Catching | false ↦ Ends ]) absent)

      one_catch : part_in t ≡ Some Catch
          → run (w Catches ∷ catch_all_to_end may w ∷ more) e toks
          ≡ run (hinted items ∷ sequences may m Anywhere ∷ sequences may m Catches ∷ catch_all_to_end may w ∷ more) e t
      one_catch is = next_is may b m Catches (catch_all_to_end may w ∷ more) e toks t items Catching read
          (ap (λ q. elim (same_part Catch q) [ true ↦ Catching | false ↦ Ends ]) is)
          ∙ flat (hinted items) (sequences may m Anywhere ∷ sequences may m Catches ∷ []) (catch_all_to_end may w ∷ more) e t

      not_all : (q : Option Part) → part_in t ≡ q → same_part CatchAll q ≡ false → run (catch_all_to_end may w ∷ more) e toks ≡ run (part may End ∷ more) e toks
      not_all q is absent = no_catch_all_part may toks t items read more e w (ap (same_part CatchAll) is ∙ absent)

      all_there : part_in t ≡ Some CatchAll → run (catch_all_to_end may w ∷ more) e toks ≡ run (hinted items ∷ to_end may w ∷ more) e t
      all_there is = catch_all_part may toks t items read more e w (ap (same_part CatchAll) is)

      not_delegated : (q : Option Part) → part_in t ≡ q → same_part Delegate q ≡ false
          → run (catches_to_end may w ∷ more) e toks ≡ run (w Catches ∷ catch_all_to_end may w ∷ more) e toks
      not_delegated q is absent = no_delegate_part may toks t items read more e w (ap (same_part Delegate) is ∙ absent)

      not_else : (q : Option Part) → part_in t ≡ q → same_part Else q ≡ false → run (else_to_end may w ∷ more) e toks ≡ run (part may End ∷ more) e toks
      not_else q is absent = no_else_part may toks t items read more e w (ap (same_part Else) is ∙ absent)

      pub parts : (l : Level) (q : Part) → part_in t ≡ Some q → takes_parts l ≡ true → PartStep l q
      parts level.Plain End is there = by_both may b m refl (end_there is) closes_block
      parts level.Plain q is there = no_step may b m refl (end_only (Some q) is refl)
      parts level.PlainIf End is there = by_both may b m refl (not_else (Some End) is refl ∙ end_there is) closes_block
      parts level.PlainIf Else is there = by_both may b m refl (else_part may toks t items read more e w (ap (same_part Else) is)) goes_to_end
      parts level.PlainIf q is there = no_step may b m refl (not_else (Some q) is refl ∙ end_only (Some q) is refl)
      parts level.PlainTry End is there = by_both may b m refl
          (not_delegated (Some End) is refl ∙ no_catches (Some End) is refl ∙ not_all (Some End) is refl ∙ end_there is) closes_block
      parts level.PlainTry Else is there = no_step may b m refl
          (not_delegated (Some Else) is refl ∙ no_catches (Some Else) is refl ∙ not_all (Some Else) is refl ∙ end_only (Some Else) is refl)
      parts level.PlainTry Catch is there = by_both may b m refl (not_delegated (Some Catch) is refl ∙ one_catch is) catches_more
      parts level.PlainTry CatchAll is there =
          by_both may b m refl (not_delegated (Some CatchAll) is refl ∙ no_catches (Some CatchAll) is refl ∙ all_there is) goes_to_end
      parts level.PlainTry Delegate is there = by_both may b m refl (delegate_part may toks t items read more e w (ap (same_part Delegate) is)) closes_block
      parts level.PlainCatch End is there = by_both may b m refl (no_catches (Some End) is refl ∙ not_all (Some End) is refl ∙ end_there is) closes_block
      parts level.PlainCatch Catch is there = by_both may b m refl (one_catch is) catches_more
      parts level.PlainCatch CatchAll is there = by_both may b m refl (no_catches (Some CatchAll) is refl ∙ all_there is) goes_to_end
      parts level.PlainCatch q is there = no_step may b m refl (no_catches (Some q) is refl ∙ not_all (Some q) is refl ∙ end_only (Some q) is refl)
      parts l q is there = absurd cc

      -- no part is next
      pub no_parts : (l : Level) → part_in t ≡ None → takes_parts l ≡ true → run (own may w l h0 ws ++ more) e toks ≡ None
      no_parts level.Plain is there = end_only None is refl
      no_parts level.PlainIf is there = not_else None is refl ∙ end_only None is refl
      no_parts level.PlainTry is there = not_delegated None is refl ∙ no_catches None is refl ∙ not_all None is refl ∙ end_only None is refl
      no_parts level.PlainCatch is there = no_catches None is refl ∙ not_all None is refl ∙ end_only None is refl
      no_parts l is there = absurd cc
