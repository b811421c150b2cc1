-- The first duplicate among the fields of a struct is their first check that fails.
use Rattle.std.proofs.Common.{◌≡◌, ℕ, zero, suc, ◌+◌, List, [], ◌∷◌, ◌++◌, length, map, get_or, Option, Some, None, option_map, codes, refl}
use Rattle.std.proofs.Common.{sym, ap, ◌∙◌, subst, subst₂, arith, append_assoc, append-nil}
use Rattle.std.proofs.Math.ListN.{get_or-map}
use Rattle.std.proofs.lemmas.List.{length-map, map-append, length-append}
use Rattle.wast_resolve_spaces.specs.Tree.{Span}
use Rattle.wast_base.specs.Ids.{Name, Mark, text_of}
use Rattle.wast_base.specs.Faults.{Cause, DuplicateField, Diagnostic}
use Rattle.wast_base.specs.Spaces.{name_if}
use Rattle.wast_resolve_rules.specs.Demands.{first_unmet, field_demand, field_demands, each_after}
use Rattle.wast_resolve_namespace.specs.Filling.{IsClash, IsFirstClash, HasFirstClash}
use Rattle.wast_resolve_spaces.specs.Clashes.{field_clash_told, FindsAmong}
use Rattle.wast_resolve_rules.proofs.Unmet.{first_unmet-append}
use Rattle.wast_resolve_spaces.proofs.Countdowns.{Ahead, from_start, still_free, one_nearer, not_here, none_past, met_here, clashes_here}

abbrev field_fault : Name → Cause
field_fault name = DuplicateField (codes "field") (text_of name)

-- the error of a field whose check fails
abbrev says : Option Mark → Option (Cause × Span)
says id = option_map (λ m. (field_fault m.0, m.1)) id

-- the first check that fails, from how far the first duplicate is ahead
abbrev unmet_at : List (Option Mark) → Option ℕ → Option (Cause × Span)
unmet_at ids None = None
unmet_at ids (Some n) = says (get_or ids n None)

-- a field, with those before and after it
module _ (all before : List (Option Mark)) (x : Option Mark) (rest : List (Option Mark)) (is : all ≡ before ++ x ∷ rest) where
  abbrev earlier : List (Option Name)
  earlier = map name_if before

  abbrev around : List (Option Name)
  around = earlier ++ name_if x ∷ map name_if rest

  seen : map name_if all ≡ around
  seen = ap (map name_if) is ∙ map-append name_if before (x ∷ rest)

  ahead_here : (o : Option ℕ) → Ahead (map name_if all) (length before) o → Ahead around (length earlier) o
  ahead_here o h = subst₂ (λ (names : List (Option Name)) (n : ℕ). Ahead names n o) seen (sym (length-map before name_if)) h

  one_on : length before + 1 ≡ length (before ++ x ∷ [])
  one_on = sym (length-append before (x ∷ []))

  by_ahead : (o : Option ℕ) → Ahead (map name_if all) (length before) o
      → ((next : Option ℕ) → Ahead (map name_if all) (length (before ++ x ∷ [])) next
      → first_unmet (each_after field_demand (before ++ x ∷ []) rest) ≡ unmet_at rest next)
      → first_unmet (field_demand before x ++ each_after field_demand (before ++ x ∷ []) rest) ≡ unmet_at (x ∷ rest) o
  by_ahead None h later =
      let on = subst (λ n. Ahead (map name_if all) n None) one_on (still_free (map name_if all) (length before) None refl h) in
      first_unmet-append (field_demand before x) (each_after field_demand (before ++ x ∷ []) rest)
      (met_here earlier (map name_if rest) field_fault x (λ c. ahead_here None h (length earlier) (omega arith) c))
      ∙ later None on
  by_ahead (Some zero) h later =
      let here : length earlier + 0 ≡ length earlier = omega arith in
      let c = clashes_here earlier (map name_if rest) field_fault x (each_after field_demand (before ++ x ∷ []) rest)
      (subst (IsClash around) here (ahead_here (Some zero) h).0) in
      c.2 ∙ sym (ap says c.1)
  by_ahead (Some (suc n)) h later =
      let on = subst (λ m. Ahead (map name_if all) m (Some n)) one_on (one_nearer (map name_if all) (length before) n (Some (suc n)) (Some n) refl refl h) in
      first_unmet-append (field_demand before x) (each_after field_demand (before ++ x ∷ []) rest)
      (met_here earlier (map name_if rest) field_fault x (not_here around (length earlier) n (ahead_here (Some (suc n)) h)))
      ∙ later (Some n) on

unmet_after : (all before rest : List (Option Mark)) (o : Option ℕ) → all ≡ before ++ rest → Ahead (map name_if all) (length before) o
    → first_unmet (each_after field_demand before rest) ≡ unmet_at rest o
unmet_after all before [] o is h =
    let long : length (map name_if all) ≡ length before = length-map all name_if ∙ ap length (is ∙ append-nil before) in
    sym (ap (unmet_at []) (none_past (map name_if all) (length before) o long h))
unmet_after all before (x ∷ rest) o is h =
    by_ahead all before x rest is o h (λ next k. unmet_after all (before ++ x ∷ []) rest next (is ∙ sym (append_assoc before (x ∷ []) rest)) k)

-- the first check that fails among the fields, from the first duplicate of their names
unmet_first : (ids : List (Option Mark)) (o : Option ℕ) → HasFirstClash (map name_if ids) o → first_unmet (field_demands ids) ≡ unmet_at ids o
unmet_first ids o h = unmet_after ids [] ids o refl (from_start (map name_if ids) o h)

-- without a duplicate nothing is found
pub finds_none : (ids : List (Option Mark)) {names : List (Option Name)} → names ≡ map name_if ids → HasFirstClash names None → FindsAmong ids None
finds_none ids is h = unmet_first ids None (subst (λ names. HasFirstClash names None) is h)

-- at the first duplicate its error is found
pub finds_clash : (ids : List (Option Mark)) {names : List (Option Name)} {p : ℕ} {id : Option Mark} {found : Option Diagnostic}
    → names ≡ map name_if ids → HasFirstClash names (Some p) → id ≡ get_or ids p None → found ≡ field_clash_told id → FindsAmong ids found
finds_clash ids {names} {p} {id} is h at seen =
    subst (FindsAmong ids) (sym seen) (by_id id (unmet_first ids (Some p) (subst (λ names. HasFirstClash names (Some p)) is h) ∙ sym (ap says at)))
  where
    by_id : (id : Option Mark) → first_unmet (field_demands ids) ≡ says id → FindsAmong ids (field_clash_told id)
    by_id None h = h
    by_id (Some m) h = h

-- If the checks of the fields pass, there is no first duplicate.
pub no_clash : (ids : List (Option Mark)) {names : List (Option Name)} {p : ℕ} → names ≡ map name_if ids → IsFirstClash names p
    → first_unmet (field_demands ids) ≡ None → ⊥
no_clash ids {names} {p} is h met =
    let first = subst (λ names. IsFirstClash names p) is h in
    by_id (get_or ids p None) (sym (unmet_first ids (Some p) first) ∙ met) (sym (get_or-map name_if ids p None) ∙ first.clash.bears)
  where
    by_id : (id : Option Mark) {name : Name} → says id ≡ None → name_if id ≡ Some name → ⊥
    by_id None same named = absurd (cc named)
    by_id (Some m) same named = absurd (cc same)
