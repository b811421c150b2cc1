-- Bodies, one instruction at a time.
use Rattle.std.proofs.Common.{◌≡◌, ℕ, zero, suc, ◌+◌, ◌<◌, ◌≤◌, List, [], ◌∷◌, length, drop, get_or, Option, None, Result, Ok, refl, ap, sym, ◌∙◌, subst, arith, drop-cons}
use Rattle.wast_valid_machine.specs.declared.state.State.{State}
use Rattle.wast_valid_machine.specs.declared.state.Context.{Context}
use Rattle.wast_valid_machine.specs.declared.state.Cause.{Cause}
use Rattle.wast_valid.specs.declared.body.Violation.{Violation}
use Rattle.wast_valid.specs.declared.instrs.Instr.{Instr}
use Rattle.wast_valid.specs.Steps.{step}
use Rattle.wast_valid_machine.specs.declared.state.Stop.{Stop}
use Rattle.wast_valid_machine.specs.declared.state.Stop.TheVariants.{Memory, Invalid}
use Rattle.wast_valid_machine.specs.Reports.{Reports}
use Rattle.wast_valid.specs.Bodies.{violation_at, violation_in, end_of, IsFound}

-- an error that is told
found_is : (n : ℕ) (want : Result State Cause) (next : State → Option Violation) (e : Stop) → Reports want e → (v : Option Violation) → IsFound n e v
    → v ≡ violation_at n want next
unfolding Reports violation_at
found_is n want next Memory h v f = absurd f
found_is n want next (Invalid e) h v f = f ∙ sym (ap (λ r. violation_at n r next) h)

module _ (c : Context) (is : List Instr) (n : ℕ) (i : Instr) (lt : n < length is) (here : i ≡ get_or is n i) (s : State) where
  this_instr : drop n is ≡ i ∷ drop (n + 1) is
  this_instr = let e : suc n ≡ n + 1 = omega arith in drop-cons is n i lt ∙ (λ j. sym here j ∷ drop (e j) is)

  this_one : violation_in c n (drop n is) s ≡ violation_at n (step c i s) (λ s. violation_in c (n + 1) (drop (n + 1) is) s)
  unfolding violation_in
  this_one =
      let e : suc n ≡ n + 1 = omega arith in
      ap (λ ys. violation_in c n ys s) this_instr ∙ ap (λ m. violation_at n (step c i s) (λ s. violation_in c m (drop (n + 1) is) s)) e

  pub one_valid : (t : State) → step c i s ≡ Ok t → violation_in c n (drop n is) s ≡ violation_in c (n + 1) (drop (n + 1) is) t
  unfolding violation_at
  one_valid t h = this_one ∙ ap (λ r. violation_at n r (λ s. violation_in c (n + 1) (drop (n + 1) is) s)) h

  pub one_found : (e : Stop) → Reports (step c i s) e → (v : Option Violation) → IsFound n e v → v ≡ violation_in c n (drop n is) s
  one_found e h v f = found_is n (step c i s) (λ s. violation_in c (n + 1) (drop (n + 1) is) s) e h v f ∙ sym this_one

past_end : (is : List Instr) (n : ℕ) → length is ≤ n → drop n is ≡ []
past_end [] zero le = refl
past_end [] (suc n) le = refl
past_end (i ∷ is) zero le = absurd (omega (arith, le))
past_end (i ∷ is) (suc n) le = past_end is n (omega (arith, le))

module _ (c : Context) (is : List Instr) (n : ℕ) (le : length is ≤ n) (s : State) where
  at_end : violation_in c n (drop n is) s ≡ violation_at n (end_of c s) (λ s. None)
  unfolding violation_in
  at_end = ap (λ ys. violation_in c n ys s) (past_end is n le)

  pub end_valid : (t : State) → end_of c s ≡ Ok t → violation_in c n (drop n is) s ≡ None
  unfolding violation_at
  end_valid t h = at_end ∙ ap (λ r. violation_at n r (λ s. None)) h

  pub end_found : (m : ℕ) → n ≡ m → (e : Stop) → Reports (end_of c s) e → (v : Option Violation) → IsFound m e v → v ≡ violation_in c n (drop n is) s
  end_found m same e h v f = found_is n (end_of c s) (λ s. None) e h v (subst (λ k. IsFound k e v) (sym same) f) ∙ sym at_end
