-- Lemmas: the least and the first rule that fails, from the state of a visitor.
use Rattle.std.proofs.Common.{◌≡◌, ℕ, ◌+◌, ◌<◌, Bool, true, false, ◌&&◌, Option, Some, None, List, [], ◌∷◌, ◌++◌, length, get_or, take}
use Rattle.std.proofs.Common.{flat_map, append-nil, refl, sym, ap, ◌∙◌}
use Rattle.std.specs.Prelude.{min, map, is_none, is_some, ◌||◌}
use Rattle.std.proofs.lemmas.Grind.{flat_map-append}
use Rattle.std.proofs.lemmas.List.{take_more}
use Rattle.std.specs.List.{list_all}
use Rattle.wast_base.specs.Ids.{Name, name_of}
use Rattle.wast_base.specs.Spaces.{is_settled_index}
use Rattle.wast_tree_visit.specs.Tree.{Span, Space, Index}
use Rattle.wast_tree_visit.specs.Tree.index
use Rattle.wast_tree_visit.specs.declared.first_failing.IllFormed.{IllFormed}
use Rattle.wast_tree_visit.specs.IllFormed.{place_or_last, failing_at, failing_from}
use Rattle.wast_tree_nodes.specs.Known.{IdContext}
use Rattle.wast_tree_nodes.specs.Sites.{Check, ItemIndex, InnerIndex, PlainId, Clause, Covered}
use Rattle.wast_tree_nodes.specs.Uncovered.{head_of, first_of}
use Rattle.wast_tree_visit.specs.Visits.{TellsEach, Visits}
use Rattle.wast_tree_nodes.specs.WellFormed.{is_written_index, is_kept, unless_holds, failing_clauses_at, min_with, least_of}
use Rattle.wast_tree_visit.proofs.Telling.{first_behind, first_nothing}

-- the least of joined lists of numbers
least_behind : (o : Option ℕ) (ms ns : List ℕ) → least_of (least_of o ms) ns ≡ least_of o (ms ++ ns)
least_behind o [] ns = refl
least_behind o (m ∷ ms) ns = least_behind (Some (min_with o m)) ms ns

-- a rule that fails is kept
least_stays : (n : ℕ) (ns : List ℕ) → is_none (least_of (Some n) ns) ≡ false
least_stays n [] = refl
least_stays n (m ∷ ms) = least_stays (min n m) ms

least_unless : (n : ℕ) (b c : Bool) (ns : List ℕ) → is_none (least_of None ns) ≡ c → is_none (least_of None (unless_holds n b ++ ns)) ≡ (b && c)
least_unless n true c ns h = h
least_unless n false c ns h = least_stays n ns

-- an index that is not a generated id passes
written_settles : (number : Name → Option ℕ) (i : Index) → is_written_index i ≡ true → is_settled_index number i ≡ true
written_settles number (index.Num n p) h = refl
written_settles number (index.Id id) h = ap (λ b. b || is_some (number (name_of id))) h

pub none_unless_generated : (o : Option ℕ) (k : IdContext) (s : Space) (i : Index) → is_written_index i ≡ true
    → o ≡ least_of o (failing_clauses_at k (ItemIndex s i))
none_unless_generated o k s i h = sym (ap (λ b. least_of o (unless_holds 6 b)) (written_settles (k.number s) i h))

-- no rule fails if all checks pass
pub none_fails : (k : IdContext) (asks : List Check) → is_none (least_of None (flat_map (failing_clauses_at k) asks)) ≡ list_all (is_kept k) asks
none_fails k [] = refl
none_fails k (ItemIndex s i ∷ asks) = least_unless 6 (is_kept k (ItemIndex s i)) (list_all (is_kept k) asks) (flat_map (failing_clauses_at k) asks)
    (none_fails k asks)
none_fails k (InnerIndex i ∷ asks) = least_unless 6 (is_kept k (InnerIndex i)) (list_all (is_kept k) asks) (flat_map (failing_clauses_at k) asks)
    (none_fails k asks)
none_fails k (PlainId m ∷ asks) = none_fails k asks
none_fails k (Clause n holds ∷ asks) = least_unless n holds (list_all (is_kept k) asks) (flat_map (failing_clauses_at k) asks) (none_fails k asks)
none_fails k (Covered f holds ∷ asks) = none_fails k asks

first_unless : (ill : ℕ → IllFormed) (n : ℕ) (b c : Bool) (fs : List IllFormed) → is_none (head_of fs) ≡ c
    → is_none (head_of (map ill (unless_holds n b) ++ fs)) ≡ (b && c)
first_unless ill n true c fs h = h
first_unless ill n false c fs h = refl

-- a rule that fails at a position
abbrev ill : Span → ℕ → IllFormed
ill place n = record { clause = n; span = place }

none_from : (k : IdContext) (before : Span) (asks : List Check) → is_none (head_of (failing_from k before asks)) ≡ list_all (is_kept k) asks
none_from k before [] = refl
none_from k before (ItemIndex s i ∷ asks) =
    let here = place_or_last before (ItemIndex s i) in
    first_unless (ill here) 6 (is_kept k (ItemIndex s i)) (list_all (is_kept k) asks) (failing_from k here asks) (none_from k here asks)
none_from k before (InnerIndex i ∷ asks) =
    let here = place_or_last before (InnerIndex i) in
    first_unless (ill here) 6 (is_kept k (InnerIndex i)) (list_all (is_kept k) asks) (failing_from k here asks) (none_from k here asks)
none_from k before (PlainId m ∷ asks) = none_from k m.1 asks
none_from k before (Clause n holds ∷ asks) =
    first_unless (ill before) n holds (list_all (is_kept k) asks) (failing_from k before asks) (none_from k before asks)
none_from k before (Covered f holds ∷ asks) = none_from k before asks

first_of_two : (xs ys : List IllFormed) → is_none (head_of (xs ++ ys)) ≡ (is_none (head_of xs) && is_none (head_of ys))
first_of_two [] ys = refl
first_of_two (x ∷ xs) ys = refl

all-append : (k : IdContext) (xs ys : List Check) → list_all (is_kept k) (xs ++ ys) ≡ (list_all (is_kept k) xs && list_all (is_kept k) ys)
all-append k [] ys = refl
all-append k (x ∷ xs) ys = ap (λ b. is_kept k x && b) (all-append k xs ys) ∙ and_assoc (is_kept k x) (list_all (is_kept k) xs) (list_all (is_kept k) ys)
  where
    and_assoc : (x y z : Bool) → (x && (y && z)) ≡ ((x && y) && z)
    and_assoc true y z = refl
    and_assoc false y z = refl

-- the same for parts, each with its own position
pub none_in : {T : Type 0} (k : IdContext) (place : T → Span) (asks : T → List Check) (xs : List T)
    → is_none (head_of (flat_map (λ x. failing_from k (place x) (asks x)) xs)) ≡ list_all (is_kept k) (flat_map asks xs)
none_in k place asks [] = refl
none_in k place asks (x ∷ xs) =
    let here = failing_from k (place x) (asks x) in let behind = flat_map (λ y. failing_from k (place y) (asks y)) xs in
    first_of_two here behind
    ∙ (ap (λ b. b && is_none (head_of behind)) (none_from k (place x) (asks x))
    ∙ (ap (λ b. list_all (is_kept k) (asks x) && b) (none_in k place asks xs)
    ∙ sym (all-append k (asks x) (flat_map asks xs))))

-- the first of joined lists
first_more : {F : Type 0} (xs ys : List F) → first_of (head_of xs) ys ≡ head_of (xs ++ ys)
first_more [] ys = refl
first_more (x ∷ xs) ys = refl

-- one more part of a list
pub first_more_in : {T F : Type 0} (f : T → List F) (xs : List T) (i : ℕ) (x d : T) → i < length xs → x ≡ get_or xs i d
    → first_of (head_of (flat_map f (take i xs))) (f x) ≡ head_of (flat_map f (take (i + 1) xs))
first_more_in f xs i x d lt is =
    first_more (flat_map f (take i xs)) (f x)
    ∙ sym (ap (λ ys. head_of (flat_map f ys)) (take_more xs i d lt ∙ ap (λ y. take i xs ++ y ∷ []) (sym is))
    ∙ (ap head_of (flat_map-append f (take i xs) (x ∷ [])) ∙ ap (λ ys. head_of (flat_map f (take i xs) ++ ys)) (append-nil (f x))))

-- a visitor that keeps an identifier context
module _ {V : Type 0} (keeps : V → IdContext) where
  least_each : (of : V → Option ℕ) (a b : V) (xs : List Check)
      → TellsEach (λ old x new. (keeps new ≡ keeps old) × (of new ≡ least_of (of old) (failing_clauses_at (keeps old) x))) a xs b
      → of b ≡ least_of (of a) (flat_map (failing_clauses_at (keeps a)) xs)
  least_each of a b [] h = ap of h
  least_each of a b (x ∷ xs) h =
      least_each of h.0 b xs h.1.1
      ∙ (ap (λ c. least_of (of h.0) (flat_map (failing_clauses_at c) xs)) h.1.0.0
      ∙ (ap (λ c. least_of c (flat_map (failing_clauses_at (keeps a)) xs)) h.1.0.1
      ∙ least_behind (of a) (failing_clauses_at (keeps a) x) (flat_map (failing_clauses_at (keeps a)) xs)))

  -- the least rule that fails
  pub least_told : (of : V → Option ℕ) {a b : V} {xs : List Check}
      → Visits (λ old x new. (keeps new ≡ keeps old) × (of new ≡ least_of (of old) (failing_clauses_at (keeps old) x))) a xs b
      → of b ≡ least_of (of a) (flat_map (failing_clauses_at (keeps a)) xs)
  least_told of {a} {b} {xs} h = least_each of a b xs h.tells

  -- a visitor that also keeps the last position
  module _ (place : V → Span) (of : V → Option IllFormed) where
    abbrev finds : V → Check → V → Type 0
    finds old x new = (keeps new ≡ keeps old) × (place new ≡ place_or_last (place old) x) ×
        (of new ≡ first_of (of old) (failing_at (keeps old) (place_or_last (place old) x) x))

    known_each : (a b : V) (xs : List Check) → TellsEach finds a xs b → keeps b ≡ keeps a
    known_each a b [] h = ap keeps h
    known_each a b (x ∷ xs) h = known_each h.0 b xs h.1.1 ∙ h.1.0.0

    found_each : (a b : V) (xs : List Check) → TellsEach finds a xs b → of b ≡ first_of (of a) (failing_from (keeps a) (place a) xs)
    found_each a b [] h = ap of h ∙ sym (first_nothing (of a))
    found_each a b (x ∷ xs) h =
        let here = place_or_last (place a) x in
        found_each h.0 b xs h.1.1
        ∙ (ap (λ c. first_of (of h.0) (failing_from c (place h.0) xs)) h.1.0.0
        ∙ (ap (λ c. first_of (of h.0) (failing_from (keeps a) c xs)) h.1.0.1
        ∙ (ap (λ c. first_of c (failing_from (keeps a) here xs)) h.1.0.2
        ∙ first_behind (of a) (failing_at (keeps a) here x) (failing_from (keeps a) here xs))))

    -- the context is unchanged, and the first rule that fails is found
    pub known_told : {a b : V} {xs : List Check} → Visits finds a xs b → keeps b ≡ keeps a
    known_told {a} {b} {xs} h = known_each a b xs h.tells

    pub found_told : {a b : V} {xs : List Check} → Visits finds a xs b → of b ≡ first_of (of a) (failing_from (keeps a) (place a) xs)
    found_told {a} {b} {xs} h = found_each a b xs h.tells
