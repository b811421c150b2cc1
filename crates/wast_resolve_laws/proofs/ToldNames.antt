-- Lists of checks that differ in the names in their errors.
use Rattle.std.specs.Prelude.{⊤, if◌then◌else◌, Contains}
use Rattle.std.proofs.Common.{◌≡◌, ℕ, Bool, true, false, List, [], ◌∷◌, ◌++◌, Some, refl, ap, arith}
use Rattle.std.proofs.lemmas.List.Elements.{Contains-append_left, Contains-append_right}
use Rattle.wast_base.specs.Ids.{text_of, Mark}
use Rattle.wast_base.specs.Faults.{Cause, Unknown, DuplicateField, NoNamedFields}
use Rattle.wast_base.specs.FirstUnmet.{Demand, one_demand, first_unmet, unknown_demand}
use Rattle.wast_tree_map.specs.Named.{Naming}
use Rattle.wast_resolve_laws.specs.Tree.{Span}
use Rattle.wast_resolve_laws.specs.Renaming.{RenamesName, RenamesCause, RenamesFault}

-- one check, with the ids that its error can have
pub record Alike (n : Naming) (marks : List Mark) (d e : Demand) : Type 0 where
  pub fault : RenamesCause n marks d.place d.fault e.fault
  pub place : e.place ≡ d.place
  pub met : e.met ≡ d.met

abbrev pub AllAlike : Naming → List Mark → List Demand → List Demand → Type 0
AllAlike n marks [] [] = ⊤
AllAlike n marks [] (e ∷ es) = ⊥
AllAlike n marks (d ∷ ds) [] = ⊥
AllAlike n marks (d ∷ ds) (e ∷ es) = Alike n marks d e × AllAlike n marks ds es

module _ (n : Naming) where
  pub both_alike : (marks : List Mark) (ds es vs ws : List Demand) → AllAlike n marks ds es → AllAlike n marks vs ws → AllAlike n marks (ds ++ vs) (es ++ ws)
  both_alike marks [] [] vs ws h k = k
  both_alike marks [] (e ∷ es) vs ws h k = absurd h
  both_alike marks (d ∷ ds) [] vs ws h k = absurd h
  both_alike marks (d ∷ ds) (e ∷ es) vs ws h k = (h.0, both_alike marks ds es vs ws h.1 k)

  -- more ids are permitted
  module _ (marks more : List Mark) (wider : (m : Mark) → Contains marks m → Contains more m) where
    name_among : (place : Span) (fault : List ℕ → Cause) (text : List ℕ) (other : Cause) → RenamesName n marks place fault text other
        → RenamesName n more place fault text other
    name_among place fault text other h = (h.0, (wider (h.0, place) h.1.0, h.1.1))

    cause_among : (place : Span) (fault other : Cause) → RenamesCause n marks place fault other → RenamesCause n more place fault other
    cause_among place (Unknown word text) other h = name_among place (Unknown word) text other h
    cause_among place (DuplicateField word text) other h = name_among place (DuplicateField word) text other h
    cause_among place (NoNamedFields text k) other h = name_among place (λ t. NoNamedFields t k) text other h
    cause_among place fault other h = h

    pub all_among : (ds es : List Demand) → AllAlike n marks ds es → AllAlike n more ds es
    all_among [] [] h = tt
    all_among [] (e ∷ es) h = absurd h
    all_among (d ∷ ds) [] h = absurd h
    all_among (d ∷ ds) (e ∷ es) h = (record { fault = cause_among d.place d.fault e.fault h.0.fault; place = h.0.place; met = h.0.met }, all_among ds es h.1)

  -- two parts, each with the ids that its errors can have
  pub parts_alike : (first rest : List Mark) (ds es vs ws : List Demand) → AllAlike n first ds es → AllAlike n rest vs ws
      → AllAlike n (first ++ rest) (ds ++ vs) (es ++ ws)
  parts_alike first rest ds es vs ws h k =
      both_alike (first ++ rest) ds es vs ws (all_among first (first ++ rest) (Contains-append_left first rest) ds es h)
      (all_among rest (first ++ rest) (Contains-append_right first rest) vs ws k)

  -- the first check that fails
  first_by : (marks : List Mark) (d e : Demand) (ds es : List Demand) (b c : Bool) → c ≡ b → Alike n marks d e
      → RenamesFault n marks (first_unmet ds) (first_unmet es)
      → RenamesFault n marks (if b then first_unmet ds else Some (d.fault, d.place)) (if c then first_unmet es else Some (e.fault, e.place))
  first_by marks d e ds es true true h k rest = rest
  first_by marks d e ds es false false h k rest = (k.fault, k.place)
  first_by marks d e ds es true false h k rest = absurd (cc h)
  first_by marks d e ds es false true h k rest = absurd (cc h)

  pub first_alike : (marks : List Mark) (ds es : List Demand) → AllAlike n marks ds es → RenamesFault n marks (first_unmet ds) (first_unmet es)
  first_alike marks [] [] h = tt
  first_alike marks [] (e ∷ es) h = absurd h
  first_alike marks (d ∷ ds) [] h = absurd h
  first_alike marks (d ∷ ds) (e ∷ es) h = first_by marks d e ds es d.met e.met h.0.met h.0 (first_alike marks ds es h.1)

  -- a check whose error has no name, and one with the name of an id
  abbrev pub one_alike : (marks : List Mark) (f : Cause) (place : Span) {b c : Bool} → RenamesCause n marks place f f → c ≡ b
      → AllAlike n marks (one_demand f place b) (one_demand f place c)
  one_alike marks f place h k = (record { fault = h; place = refl; met = k }, tt)

  pub lone : (m : Mark) → Contains (m ∷ []) m
  lone m = (0, omega arith, refl)

  abbrev pub told_alike : (word : List ℕ) (m o : Mark) (b c : Bool) → o ≡ (n m.0, m.1) → c ≡ b
      → AllAlike n (m ∷ []) (unknown_demand word m b) (unknown_demand word o c)
  told_alike word m o b c h k = (
    record {
      fault = (m.0, (lone m, (refl, ap (λ (p : Mark). Unknown word (text_of p.0)) h)));
      place = ap (λ (p : Mark). p.1) h;
      met = k;
    },
    tt,
  )
