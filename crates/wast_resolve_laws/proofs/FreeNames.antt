-- If no item has the id of an earlier one of its space, each name has the number of its owner.
use Rattle.std.proofs.Common.{◌≡◌, ℕ, zero, suc, ◌<◌, Bool, true, false, not, ◌||◌, true≢false, is_some, cond, List, [], ◌∷◌, ◌++◌, length}
use Rattle.std.proofs.Common.{get_or, Option, Some, None, option_map, refl, sym, ap, ◌∙◌, arith}
use Rattle.std.proofs.lemmas.Bool.{eqb-true}
use Rattle.wast_base.specs.Ids.{Name, Mark}
use Rattle.wast_base.specs.Spaces.{same_space, rank_of, word_of, name_if, is_called, position_of, is_borne}
use Rattle.wast_tree_nodes.specs.Items.{Item}
use Rattle.wast_tree_nodes.specs.Known.{names_in}
use Rattle.wast_base.specs.Faults.{Cause, Duplicate}
use Rattle.wast_tree_nodes.proofs.Bearing.{borne_by_both}
use Rattle.wast_resolve_laws.specs.Tree.{Span, Space}
use Rattle.wast_resolve_rules.specs.Demands.{first_unmet, new_name_in, own_demand, field_demands, item_demand, item_demands, each_after}
use Rattle.wast_base.proofs.Names.{same_name_itself}
use Rattle.wast_base.proofs.Positions.{position_head}
use Rattle.wast_resolve_rules.proofs.Ranks.{same_rank}
use Rattle.wast_resolve_rules.proofs.Unmet.{met_parts}

-- the first item has the name, or a later one
or_parts : (a b : Bool) → (a || b) ≡ false → (a ≡ false) × (b ≡ false)
or_parts true b h = absurd cc
or_parts false b h = (refl, h)

-- No item before has the name, so its number is the position.
abbrev IsFree : Space → Name → List Item → List Item → ℕ → Type 0
IsFree s q before xs p = (is_borne q (names_in s before) ≡ false) × (position_of q (names_in s xs) ≡ Some p)

not_borne : (b : Bool) (f : Cause × Span) → cond (not b) None (Some f) ≡ None → b ≡ false
not_borne true f h = absurd (cc h)
not_borne false f h = refl

abbrev name_or : Name → Option Name → Name
name_or d None = d
name_or d (Some n) = n

-- the name of an item whose check passes
met_name : (word : List ℕ) (earlier : List (Option Name)) (id : Option Mark) (q : Name) → first_unmet (new_name_in word earlier id) ≡ None
    → name_if id ≡ Some q → is_borne q earlier ≡ false
met_name word earlier None q met is = absurd (cc is)
met_name word earlier (Some m) q met is =
    let name : m.0 ≡ q = ap (name_or q) is in
    ap (λ r. is_borne r earlier) (sym name) ∙ not_borne (is_borne m.0 earlier) (Duplicate word, m.1) met

-- the names before, and one more
one_more : (s : Space) (q : Name) (before : List Item) (x : Item) → is_borne q (names_in s (before ++ x ∷ [])) ≡ false
    → (is_borne q (names_in s before) ≡ false) × (is_borne q (names_in s (x ∷ [])) ≡ false)
one_more s q before x h = or_parts (is_borne q (names_in s before)) (is_borne q (names_in s (x ∷ []))) (sym (borne_by_both s q before (x ∷ [])) ∙ h)

-- a name that an item does not have
not_called : (q : Name) (o : Option Name) → is_borne q (o ∷ []) ≡ false → is_called q o ≡ false
not_called q o h = by_test (is_called q o) refl
  where
    by_test : (b : Bool) → is_called q o ≡ b → is_called q o ≡ false
    by_test false e = e
    by_test true e = absurd (true≢false (sym (ap is_some (position_head (is_called q) true o [] e)) ∙ h))

-- an item of the space, or of another, before others
module _ (s : Space) (q : Name) (before : List Item) (x : Item) (rest : List Item)
    (after : (p : ℕ) → get_or (names_in s rest) p None ≡ Some q → p < length (names_in s rest) → IsFree s q (before ++ x ∷ []) rest p) where
  here : (b : Bool) → same_space s x.space ≡ b → first_unmet (own_demand before x) ≡ None → (p : ℕ)
      → get_or (cond b (name_if x.id ∷ []) [] ++ names_in s rest) p None ≡ Some q → p < length (cond b (name_if x.id ∷ []) [] ++ names_in s rest)
      → (is_borne q (names_in s before) ≡ false) × (position_of q (cond b (name_if x.id ∷ []) [] ++ names_in s rest) ≡ Some p)
  here false other met p at lt = let found = after p at lt in ((one_more s q before x found.0).0, found.1)
  here true same met zero at lt =
      let t : s ≡ x.space = same_rank s x.space (eqb-true (rank_of s) (rank_of x.space) same) in
      let called : is_called q (name_if x.id) ≡ true = ap (is_called q) at ∙ same_name_itself q in (
        ap (λ u. is_borne q (names_in u before)) t
            ∙ met_name (word_of x.space) (names_in x.space before) x.id q met at,
        position_head (is_called q) true (name_if x.id) (names_in s rest) called,
      )
  here true same met (suc p) at lt =
      let found = after p at (omega (arith, lt)) in
      let parts = one_more s q before x found.0 in
      let other : is_called q (name_if x.id) ≡ false =
      not_called q (name_if x.id) (ap (λ b. is_borne q (cond b (name_if x.id ∷ []) [] ++ [])) (sym same) ∙ parts.1) in
      (parts.0, position_head (is_called q) false (name_if x.id) (names_in s rest) other ∙ ap (option_map suc) found.1)

free_from : (s : Space) (q : Name) (before xs : List Item) → first_unmet (each_after item_demand before xs) ≡ None
    → (p : ℕ) → get_or (names_in s xs) p None ≡ Some q → p < length (names_in s xs) → IsFree s q before xs p
free_from s q before [] met p at lt = absurd (omega (arith, lt))
free_from s q before (x ∷ xs) met p at lt =
    let both = met_parts (item_demand before x) (each_after item_demand (before ++ x ∷ []) xs) met in
    let its = met_parts (own_demand before x) (field_demands x.fields) both.0 in
    here s q before x xs (free_from s q (before ++ x ∷ []) xs both.1) (same_space s x.space) refl its.0 p at lt

pub free_position : (s : Space) (q : Name) (xs : List Item) → first_unmet (item_demands xs) ≡ None → (p : ℕ) → p < length (names_in s xs)
    → get_or (names_in s xs) p None ≡ Some q → position_of q (names_in s xs) ≡ Some p
free_position s q xs met p lt at = (free_from s q [] xs met p at lt).1
