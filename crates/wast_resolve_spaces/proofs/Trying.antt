-- The index spaces that are filled so far, by rank.
use Rattle.std.proofs.Common.{◌≡◌, ℕ, ◌+◌, ◌<◌, ◌≤◌, ◌^◌, ◌⊎◌, inl, inr, List, [], ◌∷◌, ◌++◌, refl, sym, ap, ◌∙◌, subst, arith, length, map}
use Rattle.std.proofs.Common.{get_or, length-append, append_assoc}
use Rattle.std.specs.Prelude.{⊤, Option, Some, None, Result, Ok, Contains}
use Rattle.std.specs.FinMap.{get-empty}
use Rattle.std.proofs.Math.ListN.{set, length-set, get_or-map, get_or-append}
use Rattle.std.proofs.Math.Seq.{get_or-append_seam}
use Rattle.std.proofs.lemmas.List.{get_or-set_same, get_or-set_other}
use Rattle.std.proofs.lemmas.List.FromFn.{get_or-range_with_len}
use Rattle.std.proofs.lemmas.List.{map-append}
use Rattle.std.proofs.lemmas.List.Elements.{Contains-get_or, Contains-append_left, Contains-append_right}
use Rattle.wast_base.specs.Ids.{Name}
use Rattle.wast_base.specs.declared.faults.Error.{Error}
use Rattle.wast_base.specs.Faults.{Diagnostic, Cause}
use Rattle.wast_base.specs.Spaces.{spaces, rank_of, position_of}
use Rattle.wast_tree_nodes.specs.Items.{Item, items}
use Rattle.wast_tree_nodes.specs.Known.{id_context, names_in}
use Rattle.wast_resolve_spaces.specs.Tree.{Space, Span, ModuleField}
use Rattle.wast_resolve_spaces.specs.Tree.space
use Rattle.wast_resolve_rules.specs.Demands.{Answers, HasManyItems, space_counts, field_counts, item_counts}
use Rattle.wast_resolve_namespace.specs.Namespaces.{NameSpace, empty_from, number_in}
use Rattle.wast_base.specs.Order.{key_cmp, key_of}
use Rattle.wast_resolve_names.specs.Resolvers.{known_in}
use Rattle.wast_resolve_names.specs.Gathers.{Stops, Gathers, gathered_of}
use Rattle.wast_resolve_namespace.specs.Filling.{HasFirstClash, IsTried}
use Rattle.wast_resolve_rules.proofs.Ranks.{at_rank, same_rank}
use Rattle.wast_resolve_spaces.proofs.FoundClashes.{AreMany}

pub below_8 : (s : Space) → rank_of s < 8
below_8 s = grind (arith)

pub rank_at : (i : ℕ) (d : Space) → i < 8 → rank_of (get_or spaces i d) ≡ i
rank_at i d lt = sym (get_or-map rank_of spaces i d) ∙ (get_or-range_with_len 0 8 i (rank_of d) lt ∙ omega arith)

-- what was collected for the space of a rank
gathered_at : (names : Space → List (Option Name)) (all before rest : List (Result (List (Option Name)) Error))
    (x : Result (List (Option Name)) Error) → ((s : Space) → Gathers (Ok []) (names s) (gathered_of all s))
    → before ++ x ∷ rest ≡ all → (s : Space) → rank_of s ≡ length before → Gathers (Ok []) (names s) x
gathered_at names all before rest x h is s at =
    let nothing : Result (List (Option Name)) Error = Ok [] in
    subst (λ g. Gathers (Ok []) (names s) g)
    (ap (λ i. get_or all i nothing) at ∙ (ap (λ l. get_or l (length before) nothing) (sym is) ∙ get_or-append_seam before x rest nothing)) (h s)

-- the next space, and what was collected for it
pub gathered_next : (names : Space → List (Option Name)) (all before rest : List (Result (List (Option Name)) Error))
    (x : Result (List (Option Name)) Error) → length all ≡ 8 → ((s : Space) → Gathers (Ok []) (names s) (gathered_of all s))
    → before ++ x ∷ rest ≡ all → (length before < 8) × Gathers (Ok []) (names (get_or spaces (length before) space.Func)) x
gathered_next names all before rest x eight each whole =
    let long = ap length whole in
    let lt : length before < 8 = omega (arith, long, eight, length-append before (x ∷ rest)) in
    (lt, gathered_at names all before rest x each whole (get_or spaces (length before) space.Func) (rank_at (length before) space.Func lt))

-- the names of the items by their spaces
abbrev pub by_space : List Item → Space → List (Option Name)
by_space xs s = names_in s xs

-- those of the first i ranks
pub record AreTried (names : Space → List (Option Name)) (tried : List NameSpace) (clashes : List (Option ℕ)) (i : ℕ) : Type 0 where
  pub count : length tried ≡ i
  pub slots : length clashes ≡ 8
  pub each : (s : Space) → rank_of s < i → IsTried (names s) (get_or tried (rank_of s) (empty_from 0)) (get_or clashes (rank_of s) None)

before_or_at : (r i : ℕ) → r < i + 1 → (r < i) ⊎ (r ≡ i)
before_or_at r i h = grind (arith)

module _ (names : Space → List (Option Name)) where
  pub tried_none : (tried : List NameSpace) (clashes : List (Option ℕ)) → tried ≡ [] → length clashes ≡ 8 → AreTried names tried clashes 0
  tried_none tried clashes none slots = record { count = ap length none; slots = slots; each = λ s lt. absurd (omega arith) }

  as_tried : (s : Space) (a b : NameSpace) (c d : Option ℕ) → a ≡ b → c ≡ d → IsTried (names s) a c → IsTried (names s) b d
  as_tried s a b c d e f h = subst (λ o. IsTried (names s) b o) f (subst (λ n. IsTried (names s) n c) e h)

  pub tried_more : (tried : List NameSpace) (clashes : List (Option ℕ)) (i : ℕ) (new : NameSpace) (clash : Option ℕ) (t : Space)
      (more : List NameSpace) → AreTried names tried clashes i → i < 8 → rank_of t ≡ i
      → IsTried (names t) new clash → more ≡ tried ++ new ∷ [] → AreTried names more (set clashes i clash) (i + 1)
  tried_more tried clashes i new clash t more p lt at h is = subst (λ (ns : List NameSpace). AreTried names ns (set clashes i clash) (i + 1)) (sym is) record {
    count = length-append tried (new ∷ []) ∙ omega (arith, p.count);
    slots = length-set clashes i clash ∙ p.slots;
    each = λ s below. elim (before_or_at (rank_of s) i below) [
      | inl before ↦ as_tried s (get_or tried (rank_of s) (empty_from 0)) _ (get_or clashes (rank_of s) None) _
          (sym (get_or-append tried (new ∷ []) (empty_from 0) (rank_of s) (omega (arith, p.count))))
          (sym (get_or-set_other clashes i (rank_of s) clash None (λ e. omega arith))) (p.each s before)
      | inr here ↦ as_tried s new _ clash _
          (sym (ap (λ r. get_or (tried ++ new ∷ []) r (empty_from 0)) (here ∙ sym p.count) ∙ get_or-append_seam tried new [] (empty_from 0)))
          (sym (ap (λ r. get_or (set clashes i clash) r None) here ∙ get_or-set_same clashes i clash None (omega (arith, p.slots))))
          (subst (λ u. IsTried (names u) new clash) (same_rank t s (at ∙ sym here)) h)
    ];
  }

  tried_clash : (ns : List (Option Name)) (s : NameSpace) (o : Option ℕ) → IsTried ns s o → HasFirstClash ns o
  tried_clash ns s None h = h.free
  tried_clash ns s (Some p) h = h

  pub all_clashes : (tried : List NameSpace) (clashes : List (Option ℕ)) → (i : ℕ) → 8 ≤ i → AreTried names tried clashes i → (s : Space)
      → HasFirstClash (names s) (get_or clashes (rank_of s) None)
  all_clashes tried clashes i le p s = tried_clash (names s) (get_or tried (rank_of s) (empty_from 0)) (get_or clashes (rank_of s) None)
      (p.each s (let b = below_8 s in omega arith))

  -- if no space has a duplicate, each name has its position as its number
  tried_number : (ns : List (Option Name)) (s : NameSpace) (o : Option ℕ) → IsTried ns s o → o ≡ None → (name : Name) → number_in s name ≡ position_of name ns
  tried_number ns s None h e = h.number
  tried_number ns s (Some p) h e = cc

  pub all_numbers : (tried : List NameSpace) (clashes : List (Option ℕ)) → (i : ℕ) → 8 ≤ i → AreTried names tried clashes i
      → ((s : Space) → get_or clashes (rank_of s) None ≡ None)
      → (s : Space) (name : Name) → (known_in tried).number s name ≡ position_of name (names s)
  all_numbers tried clashes i le p free s = tried_number (names s) (get_or tried (rank_of s) (empty_from 0)) (get_or clashes (rank_of s) None)
      (p.each s (let b = below_8 s in omega arith)) (free s)

pub known_by : (xs : List Item) (tried : List NameSpace)
    → ((s : Space) (name : Name) → (known_in tried).number s name ≡ position_of name (names_in s xs)) → known_in tried ≡ id_context xs
known_by xs tried h = λ i. record { number = λ s name. h s name i }

-- without spaces the identifier context is that of no items
pub nothing_known : known_in [] ≡ id_context []
nothing_known = known_by [] [] (λ s name. get-empty key_cmp (key_of name))

counted_space : (f : Space → ℕ) (s : Space) → Contains (map f spaces) (f s)
counted_space f s = subst (λ n. Contains (map f spaces) n) (get_or-map f spaces (rank_of s) space.Func
    ∙ ap f (at_rank s space.Func)) (Contains-get_or (map f spaces) (rank_of s) (f space.Func) (below_8 s))

many_items : (fields : List ModuleField) (n : ℕ) → Contains (item_counts (items fields)) n → 2 ^ 32 ≤ n → HasManyItems fields
many_items fields n c le = (n, (c, le))

stops_one : (t : Diagnostic) (fields : List ModuleField) (o : Option (Cause × Span)) (begun n : ℕ) → Contains (item_counts (items fields)) n
    → Stops t begun n → Answers ⊤ (HasManyItems fields) t o
stops_one t fields o begun n c h = grind (arith, many_items)

-- an error in one space is an error of the call
pub stops_all : (t : Diagnostic) (fields : List ModuleField) (s : Space) (o : Option (Cause × Span)) → Stops t 0 (length (names_in s (items fields)))
    → Answers ⊤ (HasManyItems fields) t o
stops_all t fields s o h =
    let xs = items fields in
    let n = length (names_in s xs) in
    stops_one t fields o 0 n (Contains-append_left (space_counts xs) (field_counts xs) n (counted_space (λ s. length (names_in s xs)) s)) h

many_after : (many : Type 0) (before xs : List Item) → ((n : ℕ) → Contains (field_counts (before ++ xs)) n → 2 ^ 32 ≤ n → many) → AreMany many xs
many_after many before [] h = tt
many_after many before (x ∷ xs) h = (
  (λ le. h (length x.fields) (subst (λ (ns : List ℕ). Contains ns (length x.fields)) (sym (map-append (λ (x : Item). length x.fields) before (x ∷ xs)))
      (Contains-append_right (field_counts before) (field_counts (x ∷ xs)) (length x.fields) (0, omega arith, refl))) le),
  many_after many (before ++ x ∷ []) xs (λ n c le. h n (subst (λ (ys : List Item). Contains (field_counts ys) n) (append_assoc before (x ∷ []) xs) c) le),
)

-- a struct with that many fields is an item with that many
pub many_fields : (fields : List ModuleField) → AreMany (HasManyItems fields) (items fields)
many_fields fields =
    let xs = items fields in
    many_after (HasManyItems fields) [] xs (λ n c le. many_items fields n (Contains-append_right (space_counts xs) (field_counts xs) n c) le)
