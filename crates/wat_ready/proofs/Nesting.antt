-- Items that lead from a depth of blocks to another, with each hint before an instruction. Those that lead from 0 to 0 are an expression
-- that keeps the rules 2 and 5. For example, `block` and `end` lead from 0 to 0, and `end` alone leads from 1 to 0.
use Rattle.std.proofs.Common.{◌≡◌, ◌∙◌, ℕ, zero, suc, ◌+◌, ◌≤◌, nat_lt, ◌&&◌, Bool, true, List, [], ◌∷◌, ◌++◌, length, take, refl, sym, ap, subst, arith}
use Rattle.std.proofs.lemmas.Bool.{lt-ltb, le-leb, eq-eqb}
use Rattle.wast_base.specs.Blocks.{BlockEffect, Opens, Closes, Stays, openers, closers, never_closed, stays_open, is_balanced}
use Rattle.wast_tree_nodes.specs.Sites.{BodyContext, in_instr, in_instrs, context_after}
use Rattle.wast_tree_nodes.specs.Instrs.{turn_of, block_effects}
use Rattle.wast_tree_nodes.specs.Clauses.{stand_from, hints_stand}
use Rattle.wat_syntax.specs.Tree.{Instruction}
use Rattle.wat_syntax.specs.Bodies.{Item, Instr, Hint, instrs_of, hints_of, expression_of}
use Rattle.wat_ready.proofs.Parses.{Each, join}
use Rattle.wat_ready.proofs.Checks.{SiteOk}

-- An instruction leads into a block, out of one, or neither.
pub data Move : Type 0 where
  Up : Move
  Flat : Move
  Down : Move

abbrev pub move_by : BlockEffect → Move
move_by (Opens l) = Up
move_by Stays = Flat
move_by Closes = Down

abbrev pub move_of : Instruction → Move
move_of i = move_by (turn_of i)

-- from a depth to another
abbrev pub Leads : Move → ℕ → ℕ → Type 0
Leads Up a b = b ≡ suc a
Leads Flat a b = a ≡ b
Leads Down a b = a ≡ suc b

-- the sites of an instruction, in any surroundings
abbrev pub Everywhere : Instruction → Type 0
Everywhere i = (h : BodyContext) → Each SiteOk (in_instr h i)

pub data Good : ℕ → ℕ → List Item → Type 0 where
  finish : {a b : ℕ} → a ≡ b → Good a b []
  step : {a b c : ℕ} {i : Instruction} {xs : List Item} → Leads (move_of i) a b → Everywhere i → Good b c xs → Good a c (Instr i ∷ xs)
  hint_step : {a b c : ℕ} {i : Instruction} {xs : List Item} (v : ℕ) → nat_lt v 2 ≡ true
      → Leads (move_of i) a b → Everywhere i → Good b c xs → Good a c (Hint v ∷ Instr i ∷ xs)

pub append : {a b c : ℕ} {xs ys : List Item} → Good a b xs → Good b c ys → Good a c (xs ++ ys)
append {c = c} {ys = ys} (finish e) h = subst (λ n. Good n c ys) (sym e) h
append (step l ok g) h = step l ok (append g h)
append (hint_step v e l ok g) h = hint_step v e l ok (append g h)

abbrev pub effects : List Item → List BlockEffect
effects xs = block_effects (instrs_of xs)

-- as many blocks are opened as closed, and at each place no more are closed than opened
counted_by : (t : BlockEffect) (ts : List BlockEffect) (a b c : ℕ) → Leads (move_by t) a b
    → b + openers ts ≡ c + closers ts → a + openers (t ∷ ts) ≡ c + closers (t ∷ ts)
counted_by (Opens l) ts a b c e p = let q : b ≡ suc a = e in omega arith
counted_by Stays ts a b c e p = let q : a ≡ b = e in omega arith
counted_by Closes ts a b c e p = let q : a ≡ suc b = e in omega arith

counted : {a c : ℕ} {xs : List Item} → Good a c xs → a + openers (effects xs) ≡ c + closers (effects xs)
counted (finish e) = omega arith
counted (step {a = a} {b = b} {c = c} {i = i} {xs = xs} l ok g) = counted_by (turn_of i) (effects xs) a b c l (counted g)
counted (hint_step {a = a} {b = b} {c = c} {i = i} {xs = xs} v e l ok g) = counted_by (turn_of i) (effects xs) a b c l (counted g)

under_by : (n : ℕ) (t : BlockEffect) (ts : List BlockEffect) (a b : ℕ) → Leads (move_by t) a b
    → closers (take n ts) ≤ b + openers (take n ts) → closers (take (suc n) (t ∷ ts)) ≤ a + openers (take (suc n) (t ∷ ts))
under_by n (Opens l) ts a b e p = let q : b ≡ suc a = e in omega arith
under_by n Stays ts a b e p = let q : a ≡ b = e in omega arith
under_by n Closes ts a b e p = let q : a ≡ suc b = e in omega arith

under : {a c : ℕ} {xs : List Item} (n : ℕ) → Good a c xs → closers (take n (effects xs)) ≤ a + openers (take n (effects xs))
under zero g = omega arith
under (suc n) (finish e) = omega arith
under (suc n) (step {a = a} {b = b} {i = i} {xs = xs} l ok g) = under_by n (turn_of i) (effects xs) a b l (under n g)
under (suc n) (hint_step {a = a} {b = b} {i = i} {xs = xs} v e l ok g) = under_by n (turn_of i) (effects xs) a b l (under n g)

pub both : {a b : Bool} → a ≡ true → b ≡ true → a && b ≡ true
both {b} p q = ap (λ c. c && b) p ∙ q

never : (ts : List BlockEffect) (n : ℕ) → ((m : ℕ) → closers (take m ts) ≤ 0 + openers (take m ts)) → never_closed ts n ≡ true
never ts zero p = refl
never ts (suc n) p = both (never ts n p) (le-leb (closers (take (suc n) ts)) (openers (take (suc n) ts))
    (let q : closers (take (suc n) ts) ≤ 0 + openers (take (suc n) ts) = p (suc n) in omega arith))

pub balanced : {xs : List Item} → Good 0 0 xs → is_balanced (effects xs) ≡ true
unfolding stays_open
balanced {xs} g = both (never (effects xs) (length (effects xs)) (λ m. under m g))
    (eq-eqb (closers (effects xs)) (openers (effects xs)) (let q : 0 + openers (effects xs) ≡ 0 + closers (effects xs) = counted g in omega arith))

-- each hint is on an instruction
hints_on : {a c : ℕ} {xs : List Item} (count m n : ℕ) → m ≤ n → n + length (instrs_of xs) ≤ count → Good a c xs → stand_from count m (hints_of n xs) ≡ true
hints_on count m n p q (finish e) = refl
hints_on count m n p q (step l ok g) = hints_on count m (suc n) (omega arith) (omega arith) g
hints_on count m n p q (hint_step v e l ok g) =
    both (both (le-leb m n p) (both (lt-ltb n count (omega arith)) e)) (hints_on count (n + 1) (suc n) (omega arith) (omega arith) g)

pub hints_are_on : {a c : ℕ} {xs : List Item} → Good a c xs → hints_stand (expression_of xs) ≡ true
hints_are_on {xs = xs} g = hints_on (length (instrs_of xs)) 0 0 (omega arith) (omega arith) g

-- the sites of all instructions
pub checked : {a c : ℕ} {xs : List Item} → Good a c xs → (h : BodyContext) → Each SiteOk (in_instrs h (instrs_of xs))
checked (finish e) h = tt
checked (step {i = i} l ok g) h = join SiteOk (in_instr h i) _ (ok h) (checked g (context_after h i))
checked (hint_step {i = i} v e l ok g) h = join SiteOk (in_instr h i) _ (ok h) (checked g (context_after h i))
