-- The invariant of the loops that read an expression, and what follows from it at the end of a loop.
use Rattle.std.proofs.Common.{◌≡◌, ◌≢◌, ◌∙◌, ◌≤◌, ℕ, suc, not, Bool, true, false, List, [], ◌∷◌, map, reverse, Option, None, Some, refl, sym, ap, subst, arith}
use Rattle.wat_grammar.specs.Parts.{◌>>=◌}
use Rattle.wat_tokens.specs.declared.faults.TextError.{TextError}
use Rattle.wat_tokens.specs.declared.tokens.Placed.{Placed}
use Rattle.wat_syntax.specs.Tree.{Expression}
use Rattle.wat_syntax.specs.Tokens.{Toks, Parse, peek, first, count, is_end, word_of, lparen}
use Rattle.wat_syntax.specs.Values.{annotation_of}
use Rattle.wat_syntax.specs.Bodies.{Item, is_hint, expression, folded_expression}
use Rattle.wat_syntax.specs.Bodies as rule
use Rattle.wat_syntax.specs.BareInstructions.{bare_instr}
use Rattle.wat_text.specs.declared.reader.Reader.{Reader}
use Rattle.wat_text.specs.declared.bodies.Open.{Open}
use Rattle.wat_text.specs.declared.bodies.Body.{Body}
use Rattle.wat_text.specs.Readers.{left, IsClean, IsRefused, Reads, Expects}
use Rattle.wat_text.specs.Machine.{State, state_of, Does, EndsExpression, step, plain, level_of}
use Rattle.wat_text.specs.Machine.{takes_plain, word_by, folded_operator, is_closed, is_done, hinted_by}
use Rattle.wat_text.specs.Machine as machine
use Rattle.wat_text.proofs.Levels.{Base, Whole, One}
use Rattle.wat_text.proofs.MachineSteps.{state}
use Rattle.wat_text.proofs.Machines.{takes_step}
use Rattle.wat_laws.proofs.Shrinks.{shrinks}
use Rattle.wat_text.proofs.Falls.{falls}
use Rattle.wat_text.proofs.Goings.{Going, goes, refused, began, came, folded_began, folded_refused, folded_came, nothing}

pub record Held (may : Bool) (b : Base) (given : Parse Expression) (old now : Reader) (m n : ℕ) (s : State) : Type 0 where
  pub made : now.make ≡ false → old.make ≡ false
  pub clean : now.fault ≡ None → old.fault ≡ None
  pub keeps : old.fault ≢ None → now.fault ≡ old.fault
  pub yet : IsClean now → Going may b given m n s
  pub few : IsClean now → suc (count s.toks) ≤ m
  pub lost : old.fault ≡ None → now.make ≡ false → IsRefused now.fault → given ≡ None

-- an error stays
stays : {a b : Option TextError} → a ≡ b → b ≢ None → a ≢ None
stays e some none = some (sym e ∙ none)

is_some : (f : TextError) (a : Option TextError) → a ≡ Some f → a ≢ None
is_some f a e none = not_so (sym e ∙ none)
  where
    not_so : Some f ≡ None → ⊥
    not_so e = absurd cc

none_refused : (a : Option TextError) → a ≡ None → IsRefused a → ⊥
none_refused a e r = subst IsRefused e r

-- one step more
pub held_on : (may : Bool) (b : Base) (given : Parse Expression) (old now next : Reader) (m n k i : ℕ) (before behind : Body)
    → Does (step may) now next before behind
    → takes_step b (state_of now before).levels (left now) ≡ true → m ≡ suc k → k ≡ suc i
    → Held may b given old now m n (state_of now before) → Held may b given old next k n (state_of next behind)
held_on may b given old now next m n k i before behind does on one again held = record {
  made = λ h. held.made (does.made h);
  clean = λ h. held.clean (does.clean h);
  keeps = λ h. does.keeps (stays (held.keeps h) h) ∙ held.keeps h;
  yet = λ h. goes may b given m n k (state_of now before) (state_of next behind) (does.gives h) on one (held.yet (does.clean h.0, does.made h.1));
  few = λ h. fall h (held.few (does.clean h.0, does.made h.1));
  lost = λ h made gone. by h made gone now.fault refl;
}
  where
    -- the step takes a token
    fall : IsClean next → suc (count (left now)) ≤ m → suc (count (left next)) ≤ k
    fall h few = let enough : count (left now) ≤ suc i = omega arith in
        let left_now : count (left next) ≤ i = (falls shrinks i may b (state_of now before) on enough).at (state_of next behind) (does.gives h) in omega arith

    by : old.fault ≡ None → next.make ≡ false → IsRefused next.fault → (f : Option TextError) → now.fault ≡ f → given ≡ None
    by h made gone None e = refused may b given m n (state_of now before) (does.refuses e made gone) on (held.yet (e, does.made made))
    by h made gone (Some f) e = held.lost h (does.made made) (subst IsRefused (does.keeps (is_some f now.fault e)) gone)

-- no token is left
nothing_left : (toks : Toks) → count toks ≡ 0 → peek 0 toks ≡ None
unfolding peek count
nothing_left toks e = by toks.left e
  where
    by : (ps : List Placed) → Rattle.std.specs.Prelude.length ps ≡ 0 → first ps ≡ None
    by [] e = refl
    by (p ∷ ps) e = absurd cc

stuck_at_end : (may : Bool) (s : State) → peek 0 s.toks ≡ None → is_closed s.levels ≡ false → step may s ≡ None
stuck_at_end may s none open_yet = ap (λ r. (r >>= λ h. let o : Option Rattle.wat_text.specs.declared.bodies.Hint.Hint
    × Toks = (machine.hint_in (Rattle.wat_syntax.specs.Tokens.position s.toks) h.0, h.1) in Some o)
    >>= λ h. machine.hinted_step h.0 (machine.with_toks h.1 s)) no_hint
    ∙ ap (λ o. hinted_by o None s) none ∙ by s.levels refl
  where
    value : Parse (List Item)
    value = Rattle.wat_syntax.specs.Values.string (Rattle.wat_syntax.specs.Tokens.after s.toks) >>= λ b. rule.hint_value b.0.now >>= λ v.
        Rattle.wat_syntax.specs.Tokens.rparen b.1 >>= λ rest. Rattle.std.specs.Prelude.if◌then◌else◌ may (Some (rule.Hint v ∷ [], rest)) None

    no_hint : rule.hint may s.toks ≡ Some ([], s.toks)
    no_hint = ap (λ o. elim (is_hint (annotation_of o)) as (λ x. Parse (List Item)) [ true ↦ value | false ↦ Some ([], s.toks) ]) none

    plain_none : (o : Open) (x : Bool) → (elim x as (λ x. Option State) [ true ↦ plain None s | false ↦ None ]) ≡ None
    plain_none o true = ap (λ o. word_by (word_of o) s) none
    plain_none o false = refl

    by : (ls : List Open) → s.levels ≡ ls → machine.at_nothing (level_of s.levels) None s ≡ None
    by [] e = closed_not (sym (ap is_closed e) ∙ open_yet)
      where
        closed_not : true ≡ false → machine.at_nothing (level_of s.levels) None s ≡ None
        closed_not e = absurd cc
    by (o ∷ os) e = ap (λ ls. machine.at_nothing (level_of ls) None s) e
        ∙ ap (λ ls. elim (takes_plain (level_of ls)) as (λ x. Option State) [ true ↦ plain None s | false ↦ None ]) e
        ∙ plain_none o (takes_plain (Some o.level))

going_whole : (ls : List Open) (toks : Toks) → is_done ls toks ≡ false → takes_step Whole ls toks ≡ true
going_whole [] toks e = ap not e
going_whole (o ∷ os) toks e = refl

going_one : (ls : List Open) (toks : Toks) → is_closed ls ≡ false → takes_step One ls toks ≡ true
going_one [] toks e = absurd cc
going_one (o ∷ os) toks e = refl

pub whole_goes : (ls : List Open) (toks : Toks) → is_done ls toks ≡ false → takes_step Whole ls toks ≡ true
whole_goes = going_whole

pub one_goes : (ls : List Open) (toks : Toks) → is_closed ls ≡ false → takes_step One ls toks ≡ true
one_goes = going_one

-- a test has one result
pub not_both : {b : Bool} → b ≡ false → b ≡ true → ⊥
not_both e f = not_so (sym e ∙ f)
  where
    not_so : false ≡ true → ⊥
    not_so e = absurd cc

-- the beginning
pub held_first : (may : Bool) (old : Reader) (k n : ℕ) (body : Body) → k ≡ n → n ≡ count (left old)
    → body.levels.items ≡ [] → body.waiting ≡ [] → body.instrs ≡ [] → body.hints ≡ []
    → Held may Whole (expression may (left old)) old old (suc k) n (state_of old body)
held_first may old k n body same few none waits instrs hints = record {
  made = λ h. h;
  clean = λ h. h;
  keeps = λ h. refl;
  yet = λ h. subst (λ i. Going may Whole (expression may (left old)) (suc k) i (state_of old body)) (sym few)
      (began may (left old) k (state_of old body) (same ∙ few) (ap reverse none) (ap (map bare_instr) waits)
      (ap (λ is. record { instrs = map bare_instr is; branch_hints = body.hints }) instrs ∙ ap (λ hs. record { instrs = []; branch_hints = hs }) hints) refl);
  few = λ h. enough;
  lost = λ h made gone. absurd (none_refused old.fault h gone);
}
  where
    enough : suc (count (left old)) ≤ suc k
    enough = omega arith

-- whether all is done, and nothing is left
closed_if : (ls : List Open) (toks : Toks) → is_done ls toks ≡ true → ls ≡ []
closed_if [] toks e = refl
closed_if (o ∷ os) toks e = absurd cc

end_if : (ls : List Open) (toks : Toks) → is_done ls toks ≡ true → is_end (peek 0 toks) ≡ true
end_if [] toks e = e
end_if (o ∷ os) toks e = absurd cc

no_levels : (ls : List Open) → is_closed ls ≡ true → ls ≡ []
no_levels [] e = refl
no_levels (o ∷ os) e = absurd cc

undone : (ls : List Open) (toks : Toks) → peek 0 toks ≡ None → is_done ls toks ≡ false → is_closed ls ≡ false
undone [] toks none e = not_so (sym (ap is_end none) ∙ e)
  where
    not_so : true ≡ false → is_closed [] ≡ false
    not_so e = absurd cc
undone (o ∷ os) toks none e = refl

-- the end
held_last : (may : Bool) (b : Base) (given : Toks → Parse Expression) (old now new : Reader) (m n : ℕ) (body : Body) (done : Bool) (part : Expression)
    → Held may b (given (left old)) old now m n (state_of now body) → EndsExpression done now new → part ≡ (state_of now body).read
    → (done ≡ true → Going may b (given (left old)) m n (state_of now body) → given (left old) ≡ Some ((state_of now body).read, left now))
    → (done ≡ false → takes_step b (state_of now body).levels (left now) ≡ true)
    → (done ≡ false → count (left now) ≡ 0 → is_closed (state_of now body).levels ≡ false)
    → (done ≡ false → m ≡ 1) → Reads given old new part
held_last may b given old now new m n body done part held fin is came goes_yet open_yet last = record {
  made = λ h. held.made (sym fin.make ∙ h);
  clean = λ h. held.clean (fin.clean h);
  gives = λ h. came (fin.done h.0) (held.yet (fin.clean h.0, sym fin.make ∙ h.1))
      ∙ ap (λ e. let o : Expression × Toks = (e, left now) in Some o) (sym is)
      ∙ ap (λ t. let o : Expression × Toks = (part, t) in Some o) (sym (fin.stays h.0));
  keeps = λ h. fin.keeps (stays (held.keeps h) h) ∙ held.keeps h;
  refuses = λ h made gone. by h made gone now.fault refl;
}
  where
    -- no token is left, because there were as many steps as tokens
    all_taken : now.fault ≡ None → new.make ≡ false → IsRefused new.fault → count (left now) ≡ 0
    all_taken e made gone = let few : suc (count (left now)) ≤ m = held.few (e, sym fin.make ∙ made) in
        let one : m ≡ 1 = last (fin.undone e gone) in omega arith

    by : old.fault ≡ None → new.make ≡ false → IsRefused new.fault → (f : Option TextError) → now.fault ≡ f → given (left old) ≡ None
    by h made gone None e = refused may b (given (left old)) m n (state_of now body)
        (stuck_at_end may (state_of now body) (nothing_left (left now) (all_taken e made gone)) (open_yet (fin.undone e gone) (all_taken e made gone)))
        (goes_yet (fin.undone e gone)) (held.yet (e, sym fin.make ∙ made))
    by h made gone (Some f) e = held.lost h (sym fin.make ∙ made) (subst IsRefused (fin.keeps (is_some f now.fault e)) gone)

pub whole_last : (may : Bool) (old now new : Reader) (m k n : ℕ) (body : Body) (done : Bool) (part : Expression)
    → Held may Whole (expression may (left old)) old now m n (state_of now body) → m ≡ suc k
    → done ≡ is_done (reverse body.levels.items) (left now) → EndsExpression done now new
    → part ≡ (state_of now body).read → (done ≡ false → m ≡ 1) → Reads (expression may) old new part
whole_last may old now new m k n body done part held one at fin is last = held_last may Whole (expression may) old now new m n body done part held fin is
    (λ e going. came may (expression may (left old)) m k (state_of now body) (closed_if (reverse body.levels.items) (left now) (sym at ∙ e))
    (end_if (reverse body.levels.items) (left now) (sym at ∙ e)) one n going)
    (λ e. going_whole (reverse body.levels.items) (left now) (sym at ∙ e))
    (λ e few. undone (reverse body.levels.items) (left now) (nothing_left (left now) few) (sym at ∙ e)) last

pub folded_last : (old now new : Reader) (m n : ℕ) (body : Body) (done : Bool) (part : Expression)
    → Held false One (folded_expression (left old)) old now m n (state_of now body) → done ≡ is_closed (reverse body.levels.items) → EndsExpression done now new
    → part ≡ (state_of now body).read → (done ≡ false → m ≡ 1) → Reads folded_expression old new part
folded_last old now new m n body done part held at fin is last = held_last false One folded_expression old now new m n body done part held fin is
    (λ e going. folded_came (folded_expression (left old)) m n (state_of now body) (no_levels (reverse body.levels.items) (sym at ∙ e)) going)
    (λ e. going_one (reverse body.levels.items) (left now) (sym at ∙ e))
    (λ e few. sym at ∙ e) last

-- the beginning of one folded instruction
pub folded_first : (old opened now : Reader) (k n : ℕ) (before body : Body) → Expects lparen old opened
    → Does (folded_operator None) opened now before body → k ≡ n → n ≡ count (left now)
    → before.levels.items ≡ [] → before.waiting ≡ [] → before.instrs ≡ [] → before.hints ≡ []
    → Held false One (folded_expression (left old)) old now (suc k) (suc n) (state_of now body)
folded_first old opened now k n before body opens does same few none waits instrs hints = record {
  made = λ h. sym opens.make ∙ does.made h;
  clean = λ h. opens.clean (does.clean h);
  keeps = λ h. does.keeps (stays (opens.keeps h) h) ∙ opens.keeps h;
  yet = λ h. subst (λ i. Going false One (folded_expression (left old)) (suc k) (suc i) (state_of now body)) (sym few)
      (folded_began (left opened) (left old) (opens.gives (does.clean h.0)) (state_of now body)
      (sym (ap (folded_operator None) at_first) ∙ does.gives h) k (same ∙ few));
  few = λ h. enough;
  lost = λ h made gone. by h made gone opened.fault refl;
}
  where
    enough : suc (count (left now)) ≤ suc k
    enough = omega arith

    at_first : state_of opened before ≡ state [] [] nothing (left opened)
    at_first = ap (λ ls. state (reverse ls) (map bare_instr before.waiting) (state_of opened before).read (left opened)) none
        ∙ ap (λ ws. state [] (map bare_instr ws) (state_of opened before).read (left opened)) waits
        ∙ ap (λ is. state [] [] (record { instrs = map bare_instr is; branch_hints = before.hints }) (left opened)) instrs
        ∙ ap (λ hs. state [] [] (record { instrs = []; branch_hints = hs }) (left opened)) hints

    not_opened : (o : Option Toks) → lparen (left old) ≡ o → o ≡ None → folded_expression (left old) ≡ None
    not_opened None e none = ap rest e
      where
        rest : Option Toks → Parse Expression
        rest o = o >>= λ t. Rattle.wat_syntax.specs.Instructions.instruction t >>= λ i. rule.folded_by (rule.next_of_word (word_of (peek 0 t)))
            (rule.sequences false (suc (count i.1))) (rule.Instr i.0 ∷ []) i.1 >>= λ xs. Some (rule.expression_of xs.0, xs.1)
    not_opened (Some t) e none = absurd cc

    by : old.fault ≡ None → now.make ≡ false → IsRefused now.fault → (f : Option TextError) → opened.fault ≡ f → folded_expression (left old) ≡ None
    by h made gone None e = folded_refused (left opened) (left old) (opens.gives e) (sym (ap (folded_operator None) at_first) ∙ does.refuses e made gone)
    by h made gone (Some f) e = not_opened (lparen (left old)) refl (opens.refuses h (subst IsRefused (does.keeps (is_some f opened.fault e)) gone))
