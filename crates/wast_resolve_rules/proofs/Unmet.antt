-- The first check that fails in consecutive lists of checks, and the errors that this allows.
use Rattle.std.proofs.Common.{◌≡◌, refl, sym, ap, ◌∙◌, List, [], ◌∷◌, ◌++◌, Option, Some, None, Bool, true, false, cond}
use native.Mathlib.Omega.{arith}
use Rattle.std.specs.Option.{option_or}
use Rattle.wast_resolve_rules.specs.Tree.{Span}
use Rattle.wast_base.specs.Faults.{Cause, Diagnostic}
use Rattle.wast_resolve_rules.specs.Demands.{Demand, first_unmet, Answers}

more_unmet : (b : Bool) (f : Cause × Span) (r s t : Option (Cause × Span)) → (r ≡ None → s ≡ t) → cond b r (Some f) ≡ None → cond b s (Some f) ≡ t
more_unmet true f r s t h e = h e
more_unmet false f r s t h e = cc

-- if the first list passes, the second decides
pub first_unmet-append : (ds es : List Demand) → first_unmet ds ≡ None → first_unmet (ds ++ es) ≡ first_unmet es
first_unmet-append [] es h = refl
first_unmet-append (d ∷ ds) es h = more_unmet d.met (d.fault, d.place) (first_unmet ds) (first_unmet (ds ++ es)) (first_unmet es) (first_unmet-append ds es) h

-- the first failure is in the first list, or else in the second
pub first_unmet-or : (ds es : List Demand) → first_unmet (ds ++ es) ≡ option_or (first_unmet ds) (first_unmet es)
first_unmet-or [] es = refl
first_unmet-or (d ∷ ds) es = by_met d.met (d.fault, d.place) (first_unmet ds) (first_unmet es) (first_unmet (ds ++ es)) (first_unmet-or ds es)
  where
    by_met : (b : Bool) (f : Cause × Span) (r s all : Option (Cause × Span)) → all ≡ option_or r s → cond b all (Some f) ≡ option_or (cond b r (Some f)) s
    by_met true f r s all h = h
    by_met false f r s all h = refl

-- Two lists with the same first failure still have it if lists with the same first failure are appended.
pub alike_behind : (ds es more others : List Demand) → first_unmet ds ≡ first_unmet es
    → (first_unmet ds ≡ None → first_unmet more ≡ first_unmet others) → first_unmet (ds ++ more) ≡ first_unmet (es ++ others)
alike_behind ds es more others h k = first_unmet-or ds more ∙ (by_first (first_unmet ds) (first_unmet es) (first_unmet more) (first_unmet others) h k
    ∙ sym (first_unmet-or es others))
  where
    by_first : (o p r s : Option (Cause × Span)) → o ≡ p → (o ≡ None → r ≡ s) → option_or o r ≡ option_or p s
    by_first None p r s e h = h refl ∙ ap (λ q. option_or q s) e
    by_first (Some f) p r s e h = ap (λ q. option_or q s) e

still_unmet : (b : Bool) (f g : Cause × Span) (r s : Option (Cause × Span)) → (r ≡ Some g → s ≡ Some g) → cond b r (Some f) ≡ Some g
    → cond b s (Some f) ≡ Some g
still_unmet true f g r s h e = h e
still_unmet false f g r s h e = e

-- a check that fails hides those after it
pub unmet_append : (ds es : List Demand) (f : Cause × Span) → first_unmet ds ≡ Some f → first_unmet (ds ++ es) ≡ Some f
unmet_append [] es f h = cc
unmet_append (d ∷ ds) es f h = still_unmet d.met (d.fault, d.place) f (first_unmet ds) (first_unmet (ds ++ es)) (unmet_append ds es f) h

-- errors of one list are errors of another if its conditions follow from those of the first
pub answers_more : {K L M N : Type 0} (t : Diagnostic) (o p : Option (Cause × Span)) → (K → L) → (M → N)
    → ((f : Cause × Span) → o ≡ Some f → p ≡ Some f) → Answers K M t o → Answers L N t p
answers_more t o p l m h a = grind (arith, l, m, h)

module _ {K L M N : Type 0} (t : Diagnostic) (ds es : List Demand) (l : K → L) (m : M → N) where
  pub answers_first : Answers K M t (first_unmet ds) → Answers L N t (first_unmet (ds ++ es))
  answers_first a = answers_more t (first_unmet ds) (first_unmet (ds ++ es)) l m (λ f h. unmet_append ds es f h) a

  pub answers_after : first_unmet ds ≡ None → Answers K M t (first_unmet es) → Answers L N t (first_unmet (ds ++ es))
  answers_after met a = answers_more t (first_unmet es) (first_unmet (ds ++ es)) l m (λ f h. first_unmet-append ds es met ∙ h) a

-- if consecutive lists pass, each passes
pub met_parts : (ds es : List Demand) → first_unmet (ds ++ es) ≡ None → (first_unmet ds ≡ None) × (first_unmet es ≡ None)
met_parts [] es h = (refl, h)
met_parts (d ∷ ds) es h = by_met d.met (first_unmet ds) (first_unmet es) (first_unmet (ds ++ es)) (d.fault, d.place) (met_parts ds es) h
  where
    by_met : (b : Bool) (r s all : Option (Cause × Span)) (f : Cause × Span) → (all ≡ None → (r ≡ None) × (s ≡ None)) → cond b all (Some f) ≡ None
        → (cond b r (Some f) ≡ None) × (s ≡ None)
    by_met true r s all f g h = g h
    by_met false r s all f g h = cc
