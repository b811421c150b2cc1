-- How far the first duplicate of each space is ahead, item by item.
use Rattle.std.proofs.Common.{◌≡◌, ◌≢◌, ℕ, zero, suc, ◌+◌, ◌<◌, ◌≤◌, List, [], ◌∷◌, ◌++◌, length, get_or, set, Option, Some, None, Bool}
use Rattle.std.proofs.Common.{true, false, true≢false, not, cond, refl, sym, ap, ◌∙◌, subst, arith, append-nil}
use Rattle.std.specs.Prelude.{if◌then◌else◌}
use Rattle.std.proofs.lemmas.Bool.{eqb-true, eq-eqb}
use Rattle.std.proofs.lemmas.Grind.{flat_map-append}
use Rattle.std.proofs.lemmas.List.{get_or-set_same, get_or-set_other, length-append}
use Rattle.std.proofs.Math.Seq.{get_or-append_seam, take-append_seam}
use Rattle.wast_resolve_spaces.specs.Tree.{Space, Span}
use Rattle.wast_base.specs.Ids.{Name, Mark}
use Rattle.wast_base.specs.Faults.{Cause}
use Rattle.wast_base.specs.Spaces.{rank_of, same_space, name_if, is_borne}
use Rattle.wast_tree_nodes.specs.Items.{Item}
use Rattle.wast_tree_nodes.specs.Known.{name_in, names_in}
use Rattle.wast_resolve_rules.specs.Demands.{Demand, first_unmet, new_name_by}
use Rattle.wast_resolve_namespace.specs.Filling.{IsClash, HasFirstClash}
use Rattle.wast_resolve_spaces.specs.Clashes.{ahead_of}

-- From a position on no item is a duplicate, or that many after it is the first.
abbrev pub Ahead : List (Option Name) → ℕ → Option ℕ → Type 0
Ahead names at None = (p : ℕ) → at ≤ p → IsClash names p → ⊥
Ahead names at (Some n) = IsClash names (at + n) × ((p : ℕ) → at ≤ p → IsClash names p → at + n ≤ p)

-- At the start this is the first duplicate of the space.
pub from_start : (names : List (Option Name)) (o : Option ℕ) → HasFirstClash names o → Ahead names 0 o
from_start names None h = λ p le c. h p c
from_start names (Some n) h = let there : n ≡ 0 + n = omega arith in (subst (IsClash names) there h.clash, λ p le c. let far = h.least p c in omega arith)

-- if no item from a position on is a duplicate, none from the next on is
pub still_free : (names : List (Option Name)) (at : ℕ) (o : Option ℕ) → o ≡ None → Ahead names at o → Ahead names (at + 1) o
still_free names at None e h = λ p le c. h p (omega arith) c
still_free names at (Some n) e h = absurd (cc e)

-- one position on, the first duplicate is one nearer
pub one_nearer : (names : List (Option Name)) (at n : ℕ) (o next : Option ℕ) → o ≡ Some (suc n) → next ≡ Some n → Ahead names at o → Ahead names (at + 1) next
one_nearer names at n o next e f h =
    let due = subst (Ahead names at) e h in
    let there : at + suc n ≡ at + 1 + n = omega arith in
    subst (Ahead names (at + 1)) (sym f) (subst (IsClash names) there due.0, λ p le c. let far = due.1 p (omega arith) c in omega arith)

-- if the first duplicate comes later, this item is not one
pub not_here : (names : List (Option Name)) (at n : ℕ) → Ahead names at (Some (suc n)) → IsClash names at → ⊥
not_here names at n h c = let far = h.1 at (omega arith) c in omega arith

-- after all items no duplicate is ahead
pub none_past : (names : List (Option Name)) (at : ℕ) (o : Option ℕ) → length names ≡ at → Ahead names at o → o ≡ None
none_past names at None e h = refl
none_past names at (Some n) e h = let within = h.0.within in absurd (omega arith)

module _ (earlier later : List (Option Name)) where
  -- an item with the name of an earlier one is a duplicate
  clash_here : (q : Name) → is_borne q earlier ≡ true → IsClash (earlier ++ Some q ∷ later) (length earlier)
  clash_here q h = record {
    name = q;
    within = omega (arith, length-append earlier (Some q ∷ later));
    bears = get_or-append_seam earlier (Some q) later None;
    borne = ap (is_borne q) (take-append_seam earlier (Some q ∷ later)) ∙ h;
  }

  -- a duplicate has the name of an earlier item
  bearer_here : (o : Option Name) → IsClash (earlier ++ o ∷ later) (length earlier) → (q : Name) × (o ≡ Some q) × (is_borne q earlier ≡ true)
  bearer_here o c = (
    c.name,
    sym (get_or-append_seam earlier o later None)
        ∙ c.bears,
    ap (is_borne c.name) (sym (take-append_seam earlier (o ∷ later))) ∙ c.borne,
  )

  -- the check of an item that is not a duplicate passes
  pub met_here : (fault : Name → Cause) (mark : Option Mark) → (IsClash (earlier ++ name_if mark ∷ later) (length earlier) → ⊥)
      → first_unmet (new_name_by fault earlier mark) ≡ None
  met_here fault None h = refl
  met_here fault (Some m) h = by_test (is_borne m.0 earlier) (fault m.0, m.1) (λ e. h (clash_here m.0 e))
    where
      by_test : (b : Bool) (f : Cause × Span) → (b ≡ true → ⊥) → cond (not b) None (Some f) ≡ None
      by_test true f h = absurd (h refl)
      by_test false f h = refl

  -- a duplicate has an id, and its check is the first that fails
  pub clashes_here : (fault : Name → Cause) (mark : Option Mark) (ds : List Demand) → IsClash (earlier ++ name_if mark ∷ later) (length earlier)
      → (m : Mark) × (mark ≡ Some m) × (first_unmet (new_name_by fault earlier mark ++ ds) ≡ Some (fault m.0, m.1))
  clashes_here fault None ds c = absurd (cc (bearer_here None c).1)
  clashes_here fault (Some m) ds c =
      let b = bearer_here (Some m.0) c in
      let borne : is_borne m.0 earlier ≡ true = subst (λ q. is_borne q earlier ≡ true) (cc b.1) b.2 in
      (m, refl, ap (λ t. cond (not t) (first_unmet ds) (Some (fault m.0, m.1))) borne)

-- an item of the space has its name in it
own_name : (s : Space) (x : Item) → same_space s x.space ≡ true → name_in s x ≡ name_if x.id ∷ []
own_name s x h = ap (λ b. if b then name_if x.id ∷ [] else []) h

-- an item of another space has none
no_name : (s : Space) (x : Item) → same_space s x.space ≡ false → name_in s x ≡ []
no_name s x h = ap (λ b. if b then name_if x.id ∷ [] else []) h

-- the names around an item of the space: those before it, its own and those after it
pub names_around : (s : Space) (before : List Item) (x : Item) (rest : List Item) → same_space s x.space ≡ true
    → names_in s (before ++ x ∷ rest) ≡ names_in s before ++ name_if x.id ∷ names_in s rest
names_around s before x rest h = flat_map-append (name_in s) before (x ∷ rest) ∙ ap (λ ns. names_in s before ++ (ns ++ names_in s rest)) (own_name s x h)

-- an item of the space counts as one more
one_counted : (s : Space) (before : List Item) (x : Item) → same_space s x.space ≡ true
    → length (names_in s (before ++ x ∷ [])) ≡ length (names_in s before) + 1
one_counted s before x h = ap length (names_around s before x [] h) ∙ length-append (names_in s before) (name_if x.id ∷ [])

-- an item of another space does not count
none_counted : (s : Space) (before : List Item) (x : Item) → same_space s x.space ≡ false → length (names_in s (before ++ x ∷ [])) ≡ length (names_in s before)
none_counted s before x h = ap length (flat_map-append (name_in s) before (x ∷ []) ∙ (ap (λ ns. names_in s before ++ (ns ++ [])) (no_name s x h)
    ∙ append-nil (names_in s before)))

-- what is ahead in a space after an item; it is the same if the item is of another space
after_one : (s : Space) (names : List (Option Name)) (before : List Item) (x : Item) (o next : Option ℕ) → Ahead names (length (names_in s before)) o
    → (same_space s x.space ≡ true → Ahead names (length (names_in s before) + 1) next) → (same_space s x.space ≡ false → next ≡ o)
    → Ahead names (length (names_in s (before ++ x ∷ []))) next
after_one s names before x o next h own other = by_test (same_space s x.space) refl
  where
    by_test : (b : Bool) → same_space s x.space ≡ b → Ahead names (length (names_in s (before ++ x ∷ []))) next
    by_test true e = subst (λ at. Ahead names at next) (sym (one_counted s before x e)) (own e)
    by_test false e = subst (λ at. Ahead names at next) (sym (none_counted s before x e)) (subst (Ahead names (length (names_in s before))) (sym (other e)) h)

-- a space has one rank
same_rank : (s t : Space) → same_space s t ≡ true → rank_of s ≡ rank_of t
same_rank s t h = eqb-true (rank_of s) (rank_of t) h

-- different spaces have different ranks
other_rank : (s t : Space) → same_space s t ≡ false → rank_of s ≢ rank_of t
other_rank s t h e = absurd (true≢false (sym (eq-eqb (rank_of s) (rank_of t) e) ∙ h))

-- a position with an entry is inside the list
pub within : (ahead : List (Option ℕ)) (i n : ℕ) → get_or ahead i None ≡ Some n → i < length ahead
within [] i n h = absurd (cc h)
within (o ∷ ahead) zero n h = omega arith
within (o ∷ ahead) (suc i) n h = let lt = within ahead i n h in omega arith

-- what is ahead in each space, after the items before
abbrev pub AllAhead : List Item → List Item → List (Option ℕ) → Type 0
AllAhead all before ahead = (s : Space) → Ahead (names_in s all) (length (names_in s before)) (get_or ahead (rank_of s) None)

-- after an item of a space without a duplicate ahead, the same is ahead in each space
pub past_free : (all before : List Item) (x : Item) (ahead : List (Option ℕ)) → ahead_of ahead x ≡ None → AllAhead all before ahead
    → AllAhead all (before ++ x ∷ []) ahead
past_free all before x ahead e h = λ s.
    let o = get_or ahead (rank_of s) None in
    after_one s (names_in s all) before x o o (h s)
    (λ own. still_free (names_in s all) (length (names_in s before)) o (ap (λ r. get_or ahead r None) (same_rank s x.space own) ∙ e) (h s))
    (λ other. refl)

-- after an item of a space whose first duplicate comes later, that duplicate is one nearer
pub past_due : (all before : List Item) (x : Item) (ahead : List (Option ℕ)) (n : ℕ) → ahead_of ahead x ≡ Some (suc n) → AllAhead all before ahead
    → AllAhead all (before ++ x ∷ []) (set ahead (rank_of x.space) (Some n))
past_due all before x ahead n e h = λ s.
    let o = get_or ahead (rank_of s) None in
    let r = rank_of x.space in
    let next = get_or (set ahead r (Some n)) (rank_of s) None in
    after_one s (names_in s all) before x o next (h s)
    (λ own.
    let same = same_rank s x.space own in
    one_nearer (names_in s all) (length (names_in s before)) n o next (ap (λ i. get_or ahead i None) same ∙ e)
    (ap (λ i. get_or (set ahead r (Some n)) i None) same ∙ get_or-set_same ahead r (Some n) None (within ahead r (suc n) e)) (h s))
    (λ other. get_or-set_other ahead r (rank_of s) (Some n) None (other_rank s x.space other))
