-- The checks of two parts, one after another.
use Rattle.std.proofs.Common.{◌≡◌, ap, ◌∙◌, sym, subst, List, [], ◌∷◌, ◌++◌, Option, Some, None, refl, Result, Ok, Err, append-nil}
use Rattle.std.specs.List.{flat_map}
use Rattle.std.proofs.lemmas.Grind.{flat_map-append}
use Rattle.wast_base.specs.Faults.{Cause, Diagnostic, diagnostic_of}
use Rattle.wast_tree_nodes.specs.Sites.{Check, ItemIndex, Site, Asked, if_there, in_index, at_index, at_label, in_id, in_ref, in_cast}
use Rattle.wast_tree_nodes.specs.Sites.{in_shared_id, uncovered_check, check_sites}
use Rattle.wast_tree_nodes.specs.Known.{IdContext}
use Rattle.wast_base.specs.declared.faults.Error.{Error}
use Rattle.wast_base.specs.Blocks.{Blocks}
use Rattle.std.proofs.lemmas.List.{map-append}
use Rattle.wast_resolve_names.specs.Tree.{Span, Space, Id, Index, RefType}
use Rattle.wast_base.specs.declared.faults.Form.{Form}
use Rattle.wast_resolve_rules.specs.Demands.{Demand, first_unmet, Answers, ask_demand, ask_demands, site_demand, site_demands, open_counts_at, open_counts}
use Rattle.wast_resolve_rules.specs.Scopes.{Scope}
use Rattle.wast_resolve_names.specs.Walking.{Walks}
use Rattle.wast_resolve_rules.proofs.Unmet.{first_unmet-append, answers_more, answers_first, answers_after}

module _ {A : Type 0} (f : A → List Demand) (xs ys : List A) where
  demands-append : flat_map f (xs ++ ys) ≡ flat_map f xs ++ flat_map f ys
  demands-append = flat_map-append f xs ys

  pub both_met : first_unmet (flat_map f xs) ≡ None → first_unmet (flat_map f ys) ≡ None → first_unmet (flat_map f (xs ++ ys)) ≡ None
  both_met a b = ap first_unmet demands-append ∙ (first_unmet-append (flat_map f xs) (flat_map f ys) a ∙ b)

  pub first_fails : (K M : Type 0) (t : Diagnostic) → Answers K M t (first_unmet (flat_map f xs)) → Answers K M t (first_unmet (flat_map f (xs ++ ys)))
  first_fails K M t a = subst (λ ds. Answers K M t (first_unmet ds)) (sym demands-append) (answers_first t (flat_map f xs) (flat_map f ys) (λ x. x) (λ x. x) a)

  pub second_fails : (K M : Type 0) (t : Diagnostic) → first_unmet (flat_map f xs) ≡ None → Answers K M t (first_unmet (flat_map f ys))
      → Answers K M t (first_unmet (flat_map f (xs ++ ys)))
  second_fails K M t met a = subst (λ ds. Answers K M t (first_unmet ds)) (sym demands-append)
      (answers_after t (flat_map f xs) (flat_map f ys) (λ x. x) (λ x. x) met a)

-- the same if the second part has weaker conditions than both, and the first has no others
module _ (K M : Type 0) (c : Scope) (xs ys : List Site) (t : Diagnostic) where
  pub fails_first : Answers ⊥ ⊥ t (first_unmet (site_demands c xs)) → Answers K M t (first_unmet (site_demands c (xs ++ ys)))
  fails_first a = first_fails (site_demand c) xs ys K M t (answers_more t _ _ (λ l. absurd l) (λ m. absurd m) (λ f h. h) a)

  pub fails_second : first_unmet (site_demands c xs) ≡ None → Answers K M t (first_unmet (site_demands c ys))
      → Answers K M t (first_unmet (site_demands c (xs ++ ys)))
  fails_second met a = second_fails (site_demand c) xs ys K M t met a

-- and if the second part has no other conditions
module _ (K M : Type 0) (c : Scope) (xs ys : List Site) (t : Diagnostic) where
  pub fails_behind : first_unmet (site_demands c xs) ≡ None → Answers ⊥ ⊥ t (first_unmet (site_demands c ys))
      → Answers K M t (first_unmet (site_demands c (xs ++ ys)))
  fails_behind met a = second_fails (site_demand c) xs ys K M t met (answers_more t _ _ (λ l. absurd l) (λ m. absurd m) (λ f h. h) a)

pub more_answers : (K M N : Type 0) (t : Diagnostic) (o : Option (Cause × Span)) → (M → N) → Answers K M t o → Answers K N t o
more_answers K M N t o n a = answers_more t o o (λ l. l) n (λ f h. h) a

-- an id without a check
pub id_met : (k : IdContext) (id : Option Id) → first_unmet (ask_demands k (if_there in_id id)) ≡ None
id_met k None = refl
id_met k (Some id) = refl

-- the same for the id of a shared signature that no item has
pub shared_id_met : {N : Type 0} (k : IdContext) (names : List N) (id : Option Id) (f : Form) → ask_demands k (in_shared_id names id ++ uncovered_check f) ≡ []
shared_id_met k [] None f = refl
shared_id_met k [] (Some id) f = refl
shared_id_met k (name ∷ names) id f = refl

-- checks of ids alone
pub asking_demands : (c : Scope) (asks : List Check) → site_demands c (check_sites asks) ≡ ask_demands c.known asks
asking_demands c [] = refl
asking_demands c (a ∷ asks) = ap (λ ds. ask_demand c.known a ++ ds) (asking_demands c asks)

-- indices in a field
pub indices_demands : (c : Scope) (s : Space) (is : List Index) → site_demands c (flat_map (at_index s) is) ≡ ask_demands c.known (flat_map (in_index s) is)
indices_demands c s [] = refl
indices_demands c s (i ∷ is) = ap (λ ds. ask_demand c.known (ItemIndex s i) ++ ds) (indices_demands c s is)

pub optional_demands : (c : Scope) (s : Space) (o : Option Index) → site_demands c (if_there (at_index s) o) ≡ ask_demands c.known (if_there (in_index s) o)
optional_demands c s None = refl
optional_demands c s (Some i) = refl

-- checks after it that always pass
pub all_but_asks : (c : Scope) (ss : List Site) (asks : List Check) → ask_demands c.known asks ≡ []
    → site_demands c (ss ++ check_sites asks) ≡ site_demands c ss
all_but_asks c ss asks none = flat_map-append (site_demand c) ss (check_sites asks)
    ∙ (ap (λ ds. site_demands c ss ++ ds) (asking_demands c asks ∙ none) ∙ append-nil (site_demands c ss))

-- whether a construct is supported, or a clause holds, is a check that passes
pub all_but_last : (c : Scope) (ss : List Site) (last : Check) → ask_demand c.known last ≡ [] → site_demands c (ss ++ Asked last ∷ []) ≡ site_demands c ss
all_but_last c ss last none = all_but_asks c ss (last ∷ []) (ap (λ ds. ds ++ []) none)

-- and it enters no block
pub all_counts_but_last : (ss : List Site) (last : Check) → open_counts (ss ++ Asked last ∷ []) ≡ open_counts ss
all_counts_but_last ss last = flat_map-append open_counts_at ss (Asked last ∷ []) ∙ append-nil (open_counts ss)

-- a walk over a part of what is walked
pub walks_as : {T U K L M N : Type 0} (l : K → L) (n : M → N) (ds es : List Demand) (want new : T) (want2 new2 : U)
    (result : Result (Unit {0}) Error) → first_unmet ds ≡ first_unmet es → (new ≡ want → new2 ≡ want2)
    → Walks K M ds want new result → Walks L N es want2 new2 result
walks_as l n ds es want new want2 new2 (Ok x) same h w = (sym same ∙ w.0, h w.1)
walks_as l n ds es want new want2 new2 (Err e) same h w = answers_more (diagnostic_of e) (first_unmet ds) (first_unmet es) l n (λ f g. sym same ∙ g) w

-- a walk over checks of ids alone
pub walks_asking : {T : Type 0} (c : Scope) (asks : List Check) (want new : T) (result : Result (Unit {0}) Error)
    → Walks ⊥ ⊥ (ask_demands c.known asks) want new result → Walks ⊥ ⊥ (site_demands c (check_sites asks)) want new result
walks_asking c asks want new result walked =
    walks_as (λ l. l) (λ m. m) (ask_demands c.known asks) (site_demands c (check_sites asks)) want new want new result
    (ap first_unmet (sym (asking_demands c asks))) (λ h. h) walked

-- more errors are permitted
pub more_refused : {T : Type 0} (K M : Type 0) (ds : List Demand) (want new : T) (result : Result (Unit {0}) Error) → Walks ⊥ ⊥ ds want new result
    → Walks K M ds want new result
more_refused K M ds want new result walked = walks_as {L = K} {N = M} (λ l. absurd l) (λ m. absurd m) ds ds want new want new result refl (λ h. h) walked

-- a value that is built of a part
pub walks_in : {T U : Type 0} (K M : Type 0) (make : T → U) (ds : List Demand) (want new : T) (result : Result (Unit {0}) Error)
    → Walks K M ds want new result → Walks K M ds (make want) (make new) result
walks_in K M make ds want new result walked = walks_as {L = K} {N = M} (λ l. l) (λ m. m) ds ds want new (make want) (make new) result refl (ap make) walked

-- a value that is built of a part, with more errors permitted
pub walks_made_in : {T U : Type 0} (K M : Type 0) (make : T → U) (ds : List Demand) (want new : T) (result : Result (Unit {0}) Error)
    → Walks ⊥ ⊥ ds want new result → Walks K M ds (make want) (make new) result
walks_made_in K M make ds want new result walked = walks_as {L = K} {N = M} (λ l. absurd l) (λ m. absurd m) ds ds want new (make want)
    (make new) result refl (ap make) walked

-- and with later checks that always pass
pub walks_before_asks : {T U : Type 0} (K M : Type 0) (c : Scope) (ss : List Site) (asks : List Check) → ask_demands c.known asks ≡ []
    → (make : T → U) (want new : T) (result : Result (Unit {0}) Error)
    → Walks ⊥ ⊥ (site_demands c ss) want new result → Walks K M (site_demands c (ss ++ check_sites asks)) (make want) (make new) result
walks_before_asks K M c ss asks none make want new result walked =
    walks_as {L = K} {N = M} (λ l. absurd l) (λ m. absurd m) (site_demands c ss) (site_demands c (ss ++ check_sites asks)) want new (make want)
    (make new) result (ap first_unmet (sym (all_but_asks c ss asks none))) (ap make) walked

pub walks_before : {T U : Type 0} (K M : Type 0) (c : Scope) (ss : List Site) (last : Check) → ask_demand c.known last ≡ []
    → (make : T → U) (want new : T) (result : Result (Unit {0}) Error)
    → Walks ⊥ ⊥ (site_demands c ss) want new result → Walks K M (site_demands c (ss ++ Asked last ∷ [])) (make want) (make new) result
walks_before K M c ss last none make want new result walked =
    walks_before_asks K M c ss (last ∷ []) (ap (λ ds. ds ++ []) none) make want new result walked

-- the label and the two types of a branch on a cast
pub cast_sites : (blocks : Blocks) (l : Index) (to from : RefType)
    → in_cast blocks l to from ≡ at_label blocks l ++ (check_sites (in_ref to) ++ check_sites (in_ref from))
cast_sites blocks l to from = ap (λ ss. at_label blocks l ++ ss) (map-append Asked (in_ref to) (in_ref from))
