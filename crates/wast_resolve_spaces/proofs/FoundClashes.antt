-- The search for the first duplicate finds the first check of items that fails.
use Rattle.std.proofs.Common.{◌≡◌, ℕ, zero, suc, ◌+◌, ◌≤◌, ◌^◌, List, [], ◌∷◌, ◌++◌, length, get_or, Option, Some, None, option_map}
use Rattle.std.proofs.Common.{MatchOption, refl, sym, ap, ◌∙◌, subst, subst₂, arith, append_assoc, append-nil}
use Rattle.std.specs.Prelude.{⊤}
use Rattle.std.proofs.lemmas.List.{get_or-set_same}
use Rattle.wast_resolve_spaces.specs.Tree.{Space, Span}
use Rattle.wast_base.specs.Ids.{Name, Mark}
use Rattle.wast_base.specs.Faults.{Cause, Duplicate, Diagnostic, At, diagnostic_of}
use Rattle.wast_base.specs.Spaces.{rank_of, word_of, name_if}
use Rattle.wast_tree_nodes.specs.Items.{Item}
use Rattle.wast_tree_nodes.specs.Known.{names_in}
use Rattle.wast_resolve_spaces.specs.declared.clashes.Finder.{Finder}
use Rattle.wast_tree_visit.specs.Visits.{TellsEach, Visits}
use Rattle.wast_resolve_rules.specs.Demands.{Demand, first_unmet, own_demand, field_demands, item_demand, item_demands, each_after, Answers}
use Rattle.wast_resolve_namespace.specs.Filling.{IsClash, HasFirstClash}
use Rattle.wast_resolve_spaces.specs.Clashes.{Countdown, countdown, ahead_of, counted_down_by, counted_down, Looks, FindsAmong, CountsDown}
use Rattle.wast_resolve_rules.proofs.Unmet.{first_unmet-append, answers_first, answers_after}
use Rattle.wast_resolve_spaces.proofs.Countdowns.{Ahead, from_start, not_here, none_past, names_around, AllAhead, past_free, past_due}
use Rattle.wast_resolve_spaces.proofs.Countdowns.{within, met_here, clashes_here}
use Rattle.wast_resolve_rules.proofs.Ranks.{itself}

-- E10 if an item has 2^32 fields or more
abbrev pub AreMany : Type 0 → List Item → Type 0
AreMany many [] = ⊤
AreMany many (x ∷ xs) = (2 ^ 32 ≤ length x.fields → many) × AreMany many xs

-- a result, or that there is nothing to find
abbrev Finds : Type 0 → Option Diagnostic → Option (Cause × Span) → Type 0
Finds many found unmet = MatchOption found (unmet ≡ None) (λ t. Answers ⊤ many t unmet)

-- the result for a list of checks; without a result no duplicate was ahead
record Ended (many : Type 0) (ahead : List (Option ℕ)) (ds : List Demand) (found : Option Diagnostic) : Type 0 where
  finds : Finds many found (first_unmet ds)
  free : found ≡ None → (s : Space) → get_or ahead (rank_of s) None ≡ None

-- a result stays, whatever comes after it
still_found : (a : Countdown) (x : Item) (b : Countdown) (t : Diagnostic) → a.found ≡ Some t → CountsDown a x b → b.found ≡ Some t
still_found a x b t e h =
    let stays : (counted_down a x).found ≡ Some t = ap (λ (found : Option Diagnostic). (counted_down_by found (ahead_of a.ahead x) a.ahead x).found) e in
    subst (λ (found : Option Diagnostic). Looks found x.fields b.found) stays h.1

found_stays : (a b : Countdown) (xs : List Item) (t : Diagnostic) → a.found ≡ Some t → TellsEach CountsDown a xs b → b.found ≡ Some t
found_stays a b [] t e h = ap (λ (c : Countdown). c.found) h ∙ e
found_stays a b (x ∷ xs) t e h = found_stays h.0 b xs t (still_found a x h.0 t e h.1.0) h.1.1

-- an item, the items before and after it, and the countdown over the latter
module _ (many : Type 0) (all before : List Item) (x : Item) (rest : List Item) (ahead : List (Option ℕ)) (is : all ≡ before ++ x ∷ rest)
    (h : AllAhead all before ahead)
    (next last : Countdown) (so_many : 2 ^ 32 ≤ length x.fields → many) (tells : TellsEach CountsDown next rest last) where
  abbrev earlier : List (Option Name)
  earlier = names_in x.space before

  abbrev around : List (Option Name)
  around = earlier ++ name_if x.id ∷ names_in x.space rest

  abbrev fault : Name → Cause
  fault name = Duplicate (word_of x.space)

  abbrev later : List Demand
  later = each_after item_demand (before ++ x ∷ []) rest

  abbrev from_here : List Demand
  from_here = item_demand before x ++ later

  -- what is ahead in its space, among the names around it
  ahead_here : (o : Option ℕ) → ahead_of ahead x ≡ o → Ahead around (length earlier) o
  ahead_here o e = subst₂ (λ (names : List (Option Name)) (o : Option ℕ). Ahead names (length earlier) o) (ap (names_in x.space) is
      ∙ names_around x.space before x rest (itself x.space)) e (h x.space)

  -- the result at the item is the result of all
  stays : (t : Diagnostic) (ahead : List (Option ℕ)) → next.found ≡ Some t → Answers ⊤ many t (first_unmet from_here) → Ended many ahead from_here last.found
  stays t ahead e answer = let there = found_stays next last rest t e tells in record {
    finds = subst (λ (found : Option Diagnostic). Finds many found (first_unmet from_here)) (sym there) answer;
    free = λ none. absurd (cc (there, none));
  }

  -- if the item's own check passes, a result among its fields comes before later ones
  among : (found : Option Diagnostic) → next.found ≡ found → FindsAmong x.fields found → first_unmet (own_demand before x) ≡ None
      → (next.found ≡ None → Ended many next.ahead later last.found) → Ended many next.ahead from_here last.found
  among None e k met on =
      let r = on e in
      let none = first_unmet-append (own_demand before x) (field_demands x.fields) met ∙ k in
      record { finds = subst (Finds many last.found) (sym (first_unmet-append (item_demand before x) later none)) r.finds; free = r.free }
  among (Some t) e k met on = stays t next.ahead e (answers_first t (item_demand before x) later (λ l. l) (λ m. m)
      (answers_after t (own_demand before x) (field_demands x.fields) (λ l. l) so_many met k))

  -- the result from the item on, by what is ahead of it
  by_ahead : (o : Option ℕ) → ahead_of ahead x ≡ o → next.ahead ≡ (counted_down_by None o ahead x).ahead
      → Looks (counted_down_by None o ahead x).found x.fields next.found
      → (next.found ≡ None → AllAhead all (before ++ x ∷ []) next.ahead → Ended many next.ahead later last.found) → Ended many ahead from_here last.found
  by_ahead None e same looks on =
      let met = met_here earlier (names_in x.space rest) fault x.id (λ c. ahead_here None e (length earlier) (omega arith) c) in
      subst (λ ahead. Ended many ahead from_here last.found) same
      (among next.found refl looks met (λ none. on none (subst (AllAhead all (before ++ x ∷ [])) (sym same) (past_free all before x ahead e h))))
  by_ahead (Some zero) e same looks on =
      let here : length earlier + 0 ≡ length earlier = omega arith in
      let c = clashes_here earlier (names_in x.space rest) fault x.id (field_demands x.fields ++ later)
      (subst (IsClash around) here (ahead_here (Some zero) e).0) in
      let first = subst (λ (found : Option Diagnostic). Looks found x.fields next.found)
      (ap (option_map (λ (m : Mark). At (Duplicate (word_of x.space)) m.1)) c.1) looks in
      stays (At (Duplicate (word_of x.space)) c.0.1) ahead first (ap first_unmet (append_assoc (own_demand before x) (field_demands x.fields) later) ∙ c.2)
  by_ahead (Some (suc n)) e same looks on =
      let r = rank_of x.space in
      let met = met_here earlier (names_in x.space rest) fault x.id (not_here around (length earlier) n (ahead_here (Some (suc n)) e)) in
      let ended = among next.found refl looks met (λ none. on none (subst (AllAhead all (before ++ x ∷ [])) (sym same) (past_due all before x ahead n e h))) in
      let there = get_or-set_same ahead r (Some n) None (within ahead r (suc n) e) in
      record { finds = ended.finds; free = λ none. absurd (cc (ap (λ (l : List (Option ℕ)). get_or l r None) same, ended.free none x.space, there)) }

-- the countdown over the remaining items finds the first whose check fails
found_after : (many : Type 0) (all before rest : List Item) (a b : Countdown) → all ≡ before ++ rest → a.found ≡ None → AllAhead all before a.ahead
    → AreMany many rest → TellsEach CountsDown a rest b
    → Ended many a.ahead (each_after item_demand before rest) b.found
found_after many all before [] a b is none h m t = record {
  finds = subst (λ (found : Option Diagnostic). Finds many found None) (sym (ap (λ (c : Countdown). c.found) t ∙ none)) refl;
  free = λ none s. none_past (names_in s all) (length (names_in s before)) (get_or a.ahead (rank_of s) None) (ap (λ xs. length (names_in s xs)) (is
      ∙ append-nil before)) (h s);
}
found_after many all before (x ∷ rest) a b is none h m t =
    let begun : counted_down a x ≡ counted_down_by None (ahead_of a.ahead x) a.ahead x =
    ap (λ (found : Option Diagnostic). counted_down_by found (ahead_of a.ahead x) a.ahead x) none in
    by_ahead many all before x rest a.ahead is h t.0 b m.0 t.1.1 (ahead_of a.ahead x) refl (t.1.0.0 ∙ ap (λ (c : Countdown). c.ahead) begun)
    (subst (λ (c : Countdown). Looks c.found x.fields t.0.found) begun t.1.0.1)
    (λ none k. found_after many all (before ++ x ∷ []) rest t.0 b (is ∙ sym (append_assoc before (x ∷ []) rest)) none k m.1 t.1.1)

-- a visitor's relation on its model holds for the whole list
seen_as : {V A S : Type 0} (of : V → S) (step : S → A → S → Type 0) (a b : V) (xs : List A)
    → TellsEach (λ old x new. step (of old) x (of new)) a xs b → TellsEach step (of a) xs (of b)
seen_as of step a b [] h = ap of h
seen_as of step a b (x ∷ xs) h = (of h.0, (h.1.0, seen_as of step h.0 b xs h.1.1))

-- what holds of the diagnostic of an error holds of the error
of_told : {E : Type 0} (many : Type 0) (tells : E → Diagnostic) (found : Option E) (unmet : Option (Cause × Span))
    → Finds many (option_map tells found) unmet → MatchOption found (unmet ≡ None) (λ e. Answers ⊤ many (tells e) unmet)
of_told many tells None unmet h = h
of_told many tells (Some e) unmet h = h

module _ (many : Type 0) {a b : Finder} {xs : List Item} (h : Visits (λ old x new. CountsDown (countdown old) x (countdown new)) a xs b)
    (start : a.found ≡ None)
    (clashes : (s : Space) → HasFirstClash (names_in s xs) (get_or a.ahead (rank_of s) None)) (m : AreMany many xs) where
  ended : Ended many a.ahead (item_demands xs) (countdown b).found
  ended =
      found_after many xs [] xs (countdown a) (countdown b) refl (ap (option_map diagnostic_of) start)
      (λ s. from_start (names_in s xs) (get_or a.ahead (rank_of s) None) (clashes s)) m
      (seen_as countdown CountsDown a b xs h.tells)

  -- the result after all items is the first whose check fails
  pub found_first : MatchOption b.found (first_unmet (item_demands xs) ≡ None) (λ e. Answers ⊤ many (diagnostic_of e) (first_unmet (item_demands xs)))
  found_first = of_told many diagnostic_of b.found (first_unmet (item_demands xs)) ended.finds

  -- without a result, no space has a duplicate
  pub found_free : b.found ≡ None → (s : Space) → get_or a.ahead (rank_of s) None ≡ None
  found_free none s = ended.free (ap (option_map diagnostic_of) none) s
