-- The rules that an expression still has to read, one after another. The theorems here take the first rule apart. They also show
-- that more steps in the rules change no result.
use Rattle.std.proofs.Common.{◌≡◌, ◌∙◌, ℕ, zero, suc, Bool, true, false, List, [], ◌∷◌, ◌++◌, length, Option, None, Some, refl, sym, ap, subst, append_assoc}
use Rattle.std.specs.Prelude.{⊤}
use Rattle.wat_grammar.specs.Parts.{◌>>=◌}
use Rattle.wat_syntax.specs.Tree.{Instruction, Expression}
use Rattle.wat_syntax.specs.Tokens.{Toks, Parse, lparen, rparen, form, word_of, peek, with_parts}
use Rattle.wat_syntax.specs.Instructions.{instruction}
use Rattle.wat_tokens.specs.declared.words.Key.TheVariants as key
use Rattle.wat_tokens.specs.declared.words.BlockOp.{BlockOp}
use Rattle.wat_tokens.specs.declared.words.BlockOp.TheVariants as opens
use Rattle.wat_syntax.specs.Bodies.{Item, Instr, Hint, Rule, Within, Place, Anywhere, Folded, Catches, CatchArms, Next, Ends, Folds}
use Rattle.wat_syntax.specs.Bodies.{Opens, Stands, Catching, CatchingArm, ◌>>◌, terminal, writes, choice, hint, hinted, arm, ends}
use Rattle.wat_syntax.specs.Bodies.{else_arm, folded_if, catch_arm, catch_all_arm, handlers, folded_try, folded_block, folded_by}
use Rattle.wat_syntax.specs.Bodies.{foldedinstr, part, End, Else, Catch, CatchAll, Delegate, is_part, is_arm, arm_word, else_item}
use Rattle.wat_syntax.specs.Bodies.{catch_all_item, catch_tag, delegate_label, to_end, else_to_end, catch_all_to_end}
use Rattle.wat_syntax.specs.Bodies.{catches_to_end, rest_of_block, sequence, sequences, next_of, next_of_word, instrs_of, hints_of}
use Rattle.wat_text.specs.Machine.{with_instr}
use Rattle.wat_text.proofs.Loops.{no_more}

-- an expression with items more
abbrev pub add : Expression → List Item → Expression
add e [] = e
add e (Instr i ∷ xs) = add (with_instr i e) xs
add e (Hint v ∷ xs) = add (record { instrs = e.instrs; branch_hints = e.branch_hints ++ record { instr_index = length e.instrs; value = v } ∷ [] }) xs

pub add_both : (e : Expression) (xs ys : List Item) → add e (xs ++ ys) ≡ add (add e xs) ys
add_both e [] ys = refl
add_both e (Instr i ∷ xs) ys = add_both (with_instr i e) xs ys
add_both e (Hint v ∷ xs) ys =
    add_both (record { instrs = e.instrs; branch_hints = e.branch_hints ++ record { instr_index = length e.instrs; value = v } ∷ [] }) xs ys

-- rules one after another, onto an expression
abbrev pub run : List Rule → Expression → Toks → Parse Expression
run [] e toks = Some (e, toks)
run (p ∷ ps) e toks = p toks >>= λ x. run ps (add e x.0) x.1

pub in_turn : (p q : Rule) (ps : List Rule) (e : Expression) (toks : Toks) → run ((p >> q) ∷ ps) e toks ≡ run (p ∷ q ∷ ps) e toks
in_turn p q ps e toks = first (p toks)
  where
    second : (xs : List Item) (b : Parse (List Item)) → (with_parts xs b >>= λ z. run ps (add e z.0) z.1) ≡ (b >>= λ y. run ps (add (add e xs) y.0) y.1)
    second xs None = refl
    second xs (Some y) = ap (λ f. run ps f y.1) (add_both e xs y.0)

    first : (a : Parse (List Item)) → ((a >>= λ x. with_parts x.0 (q x.1)) >>= λ z. run ps (add e z.0) z.1) ≡ (a >>= λ x. run (q ∷ ps) (add e x.0) x.1)
    first None = refl
    first (Some x) = second x.0 (q x.1)

-- the rules of a construct, one after another
abbrev pub chain : Rule → List Rule → Rule
chain p [] = p
chain p (q ∷ qs) = p >> chain q qs

pub under : (p : Rule) (ps qs : List Rule) (e : Expression) (toks : Toks)
    → ((f : Expression) (t : Toks) → run ps f t ≡ run qs f t) → run (p ∷ ps) e toks ≡ run (p ∷ qs) e toks
under p ps qs e toks h = by (p toks)
  where
    by : (a : Parse (List Item)) → (a >>= λ x. run ps (add e x.0) x.1) ≡ (a >>= λ x. run qs (add e x.0) x.1)
    by None = refl
    by (Some x) = h (add e x.0) x.1

pub flat : (p : Rule) (qs ps : List Rule) (e : Expression) (toks : Toks) → run (chain p qs ∷ ps) e toks ≡ run (p ∷ (qs ++ ps)) e toks
flat p [] ps e toks = refl
flat p (q ∷ qs) ps e toks = in_turn p (chain q qs) ps e toks ∙ under p (chain q qs ∷ ps) (q ∷ (qs ++ ps)) e toks (flat q qs ps)

pub chosen : (test : Toks → Bool) (p q : Rule) (ps : List Rule) (e : Expression) (toks : Toks)
    → test toks ≡ true → run (choice test p q ∷ ps) e toks ≡ run (p ∷ ps) e toks
chosen test p q ps e toks h = rw (choice, h) refl

pub not_chosen : (test : Toks → Bool) (p q : Rule) (ps : List Rule) (e : Expression) (toks : Toks)
    → test toks ≡ false → run (choice test p q ∷ ps) e toks ≡ run (q ∷ ps) e toks
not_chosen test p q ps e toks h = rw (choice, h) refl

-- the terminal is there
pub taken_by : (t : Toks → Option Toks) (ps : List Rule) (e : Expression) (toks rest : Toks) → t toks ≡ Some rest → run (terminal t ∷ ps) e toks ≡ run ps e rest
taken_by t ps e toks rest h = rw h refl

-- a rule in front that reads this
pub read_by : (p : Rule) (ps : List Rule) (e : Expression) (toks rest : Toks) (xs : List Item)
    → p toks ≡ Some (xs, rest) → run (p ∷ ps) e toks ≡ run ps (add e xs) rest
read_by p ps e toks rest xs h = rw h refl

pub fails_by : (p : Rule) (ps : List Rule) (e : Expression) (toks : Toks) → p toks ≡ None → run (p ∷ ps) e toks ≡ None
fails_by p ps e toks h = rw h refl

-- If the first has a result, the second has the same result.
pub record Below {A : Type 0} (a b : Option A) : Type 0 where
  pub gives : (x : A) → a ≡ Some x → b ≡ Some x

pub same : {A : Type 0} (a : Option A) → Below a a
same a = record { gives = λ x e. e }

pub joined : {A : Type 0} {a b c : Option A} → Below a b → Below b c → Below a c
joined p q = record { gives = λ x e. q.gives x (p.gives x e) }

pub equal : {A : Type 0} {a b : Option A} → a ≡ b → Below a b
equal {a = a} e = subst (Below a) e (same a)

pub bound : {A B : Type 0} {a b : Option A} {h k : A → Option B} → Below a b → ((x : A) → Below (h x) (k x)) → Below (a >>= h) (b >>= k)
bound {a = None} p q = record { gives = λ y e. absurd cc }
bound {a = Some x} {b = b} {k = k} p q = record { gives = λ y e. ap (λ o. o >>= k) (p.gives x refl) ∙ (q x).gives y e }

pub record BelowRule (p q : Rule) : Type 0 where
  pub at : (toks : Toks) → Below (p toks) (q toks)

pub same_rule : (p : Rule) → BelowRule p p
same_rule p = record { at = λ toks. same (p toks) }

pub both_below : {p p' q q' : Rule} → BelowRule p p' → BelowRule q q' → BelowRule (p >> q) (p' >> q')
both_below p q = record { at = λ toks. bound (p.at toks) (λ x. bound (q.at x.1) (λ y. same (Some (x.0 ++ y.0, y.1)))) }

pub choice_below : {p p' q q' : Rule} (test : Toks → Bool) → BelowRule p p' → BelowRule q q' → BelowRule (choice test p q) (choice test p' q')
choice_below {p} {p'} {q} {q'} test ps qs = record { at = λ toks. by (test toks) toks }
  where
    by : (b : Bool) (toks : Toks) → Below (elim b [ true ↦ p toks | false ↦ q toks ]) (elim b [ true ↦ p' toks | false ↦ q' toks ])
    by true toks = ps.at toks
    by false toks = qs.at toks

-- lists of rules
abbrev pub BelowRules : List Rule → List Rule → Type 0
BelowRules [] [] = ⊤
BelowRules (p ∷ ps) (q ∷ qs) = BelowRule p q × BelowRules ps qs
BelowRules ps qs = ⊥

pub same_rules : (ps : List Rule) → BelowRules ps ps
same_rules [] = tt
same_rules (p ∷ ps) = (same_rule p, same_rules ps)

pub run_below : (ps qs : List Rule) → BelowRules ps qs → (e : Expression) (toks : Toks) → Below (run ps e toks) (run qs e toks)
run_below [] [] h e toks = same _
run_below [] (q ∷ qs) h e toks = absurd h
run_below (p ∷ ps) [] h e toks = absurd h
run_below (p ∷ ps) (q ∷ qs) h e toks = bound (h.0.at toks) (λ x. run_below ps qs h.1 (add e x.0) x.1)

pub before_both : (xs ys ps qs : List Rule) → BelowRules xs ys → BelowRules ps qs → BelowRules (xs ++ ps) (ys ++ qs)
before_both [] [] ps qs h below = below
before_both [] (y ∷ ys) ps qs h below = absurd h
before_both (x ∷ xs) [] ps qs h below = absurd h
before_both (x ∷ xs) (y ∷ ys) ps qs h below = (h.0, before_both xs ys ps qs h.1 below)

-- the first rules of one list, and the others of another
abbrev pub mix : ℕ → List Rule → List Rule → List Rule
mix zero ps qs = qs
mix (suc k) (p ∷ ps) (q ∷ qs) = p ∷ mix k ps qs
mix (suc k) ps qs = qs

pub mix_above : (k : ℕ) (ps qs : List Rule) → BelowRules ps qs → BelowRules ps (mix k ps qs)
mix_above zero ps qs h = h
mix_above (suc k) [] [] h = h
mix_above (suc k) [] (q ∷ qs) h = h
mix_above (suc k) (p ∷ ps) [] h = h
mix_above (suc k) (p ∷ ps) (q ∷ qs) h = (same_rule p, mix_above k ps qs h.1)

pub mix_below : (k : ℕ) (ps qs : List Rule) → BelowRules ps qs → BelowRules (mix k ps qs) qs
mix_below zero ps qs h = same_rules qs
mix_below (suc k) [] [] h = tt
mix_below (suc k) [] (q ∷ qs) h = absurd h
mix_below (suc k) (p ∷ ps) [] h = absurd h
mix_below (suc k) (p ∷ ps) (q ∷ qs) h = (h.0, mix_below k ps qs h.1)

-- more steps in what reads the instructions inside
pub record BelowWithin (f g : Within) : Type 0 where
  pub at : (place : Place) → BelowRule (f place) (g place)

module _ (may : Bool) (f g : Within) (below : BelowWithin f g) where
  pub arm_below : BelowRule (arm f) (arm g)
  arm_below = both_below (below.at Anywhere) (same_rule (terminal rparen))

  pub else_arm_below : BelowRule (else_arm f) (else_arm g)
  else_arm_below = choice_below (is_arm Else)
      (both_below (same_rule (terminal (arm_word Else))) (both_below (same_rule (writes else_item)) arm_below)) (same_rule (writes []))

  pub catch_arm_below : BelowRule (catch_arm f) (catch_arm g)
  catch_arm_below = both_below (same_rule (terminal (arm_word Catch))) (both_below (same_rule catch_tag) arm_below)

  pub catch_all_arm_below : BelowRule (catch_all_arm f) (catch_all_arm g)
  catch_all_arm_below = choice_below (is_arm CatchAll)
      (both_below (same_rule (terminal (arm_word CatchAll))) (both_below (same_rule (writes catch_all_item)) arm_below)) (same_rule (writes []))

  pub handlers_below : BelowRule (handlers f) (handlers g)
  handlers_below = choice_below (is_arm Delegate) (same_rule (terminal (arm_word Delegate) >> delegate_label >> terminal rparen >> terminal rparen))
      (both_below (below.at CatchArms) (both_below catch_all_arm_below (same_rule ends)))

  folded_if_below : (i : List Item) → BelowRule (folded_if f i) (folded_if g i)
  folded_if_below i = both_below (below.at Folded) (both_below (same_rule (terminal (form key.Then)))
      (both_below (same_rule (writes i)) (both_below arm_below (both_below else_arm_below (same_rule ends)))))

  folded_try_below : (i : List Item) → BelowRule (folded_try f i) (folded_try g i)
  folded_try_below i = both_below (same_rule (writes i)) (both_below (same_rule (terminal (form key.Do))) (both_below arm_below handlers_below))

  folded_block_below : (op : BlockOp) (i : List Item) → BelowRule (folded_block op f i) (folded_block op g i)
  folded_block_below opens.if_ i = folded_if_below i
  folded_block_below opens.try_ i = folded_try_below i
  folded_block_below op i = both_below (same_rule (writes i)) (both_below (below.at Anywhere) (same_rule ends))

  pub folded_by_below : (n : Next) (i : List Item) → BelowRule (folded_by n f i) (folded_by n g i)
  folded_by_below (Opens op) i = folded_block_below op i
  folded_by_below Stands i = both_below (below.at Folded) (same_rule (terminal rparen >> writes i))
  folded_by_below n i = same_rule (λ toks. None)

  foldedinstr_below : (h : List Item) → BelowRule (foldedinstr f h) (foldedinstr g h)
  foldedinstr_below h = record {
    at = λ toks. bound (same (lparen toks))
        (λ t. bound (same (instruction t)) (λ i. (folded_by_below (next_of_word (word_of (peek 0 t))) (h ++ Instr i.0 ∷ [])).at i.1));
  }

  to_end_below : BelowRule (to_end may f) (to_end may g)
  to_end_below = both_below (below.at Anywhere) (same_rule (part may End))

  pub else_to_end_below : BelowRule (else_to_end may f) (else_to_end may g)
  else_to_end_below = choice_below (is_part may Else) (both_below (same_rule (part may Else)) to_end_below) (same_rule (part may End))

  pub catch_all_to_end_below : BelowRule (catch_all_to_end may f) (catch_all_to_end may g)
  catch_all_to_end_below = choice_below (is_part may CatchAll) (both_below (same_rule (part may CatchAll)) to_end_below) (same_rule (part may End))

  pub catches_to_end_below : BelowRule (catches_to_end may f) (catches_to_end may g)
  catches_to_end_below = choice_below (is_part may Delegate) (same_rule (part may Delegate)) (both_below (below.at Catches) catch_all_to_end_below)

  rest_below : (op : BlockOp) → BelowRule (rest_of_block may op f) (rest_of_block may op g)
  rest_below opens.if_ = both_below (below.at Anywhere) else_to_end_below
  rest_below opens.try_ = both_below (below.at Anywhere) catches_to_end_below
  rest_below op = to_end_below

  pub sequence_below : (n : Next) (place : Place) (toks : Toks) (h : List Item) → BelowRule (sequence may f n place toks h) (sequence may g n place toks h)
  sequence_below Ends place toks h = same_rule (λ t. Some ([], toks))
  sequence_below Folds place toks h = both_below (foldedinstr_below h) (below.at place)
  sequence_below (Opens op) place toks h = both_below (same_rule (hinted h)) (both_below (rest_below op) (below.at place))
  sequence_below Stands place toks h = both_below (same_rule (hinted h)) (below.at place)
  sequence_below Catching place toks h = both_below (same_rule (hinted h)) (both_below (below.at Anywhere) (below.at place))
  sequence_below CatchingArm place toks h = record { at = λ t. (both_below catch_arm_below (below.at place)).at toks }

-- one more step
pub sequences_below : (may : Bool) (n : ℕ) → BelowWithin (sequences may n) (sequences may (suc n))
sequences_below may zero = record { at = λ place. record { at = λ toks. record { gives = λ x e. absurd cc } } }
sequences_below may (suc n) = record {
  at = λ place. record {
    at = λ toks.
        bound (same (hint may toks)) (λ h.
        (sequence_below may (sequences may n) (sequences may (suc n)) (sequences_below may n) (next_of place h.1) place toks h.0).at h.1);
  };
}

-- the items of an expression that is read from nothing
pub made_of : (e : Expression) (xs : List Item)
    → add e xs ≡ record { instrs = e.instrs ++ instrs_of xs; branch_hints = e.branch_hints ++ hints_of (length e.instrs) xs }
made_of e [] = ap (λ is. record { instrs = is; branch_hints = e.branch_hints }) (sym (no_more e.instrs))
    ∙ ap (λ hs. record { instrs = e.instrs ++ []; branch_hints = hs }) (sym (no_more e.branch_hints))
made_of e (Instr i ∷ xs) = made_of (with_instr i e) xs
    ∙ ap (λ is. record { instrs = is; branch_hints = e.branch_hints ++ hints_of (length (e.instrs ++ i ∷ [])) xs })
    (append_assoc e.instrs (i ∷ []) (instrs_of xs))
    ∙ ap (λ n. record { instrs = e.instrs ++ i ∷ instrs_of xs; branch_hints = e.branch_hints ++ hints_of n xs }) (one_more e.instrs)
  where
    one_more : (is : List Instruction) → length (is ++ i ∷ []) ≡ suc (length is)
    one_more [] = refl
    one_more (j ∷ js) = ap suc (one_more js)
made_of e (Hint v ∷ xs) = made_of (record { instrs = e.instrs; branch_hints = e.branch_hints ++ record { instr_index = length e.instrs; value = v } ∷ [] }) xs
    ∙ ap (λ hs. record { instrs = e.instrs ++ instrs_of xs; branch_hints = hs })
    (append_assoc e.branch_hints (record { instr_index = length e.instrs; value = v } ∷ []) (hints_of (length e.instrs) xs))
