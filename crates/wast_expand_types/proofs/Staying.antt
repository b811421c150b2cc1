-- Resolving changes nothing if no type is needed, and no type is needed if each signature is found.
use Rattle.std.specs.Prelude.{Option, Some, None, is_some, Bool, true, false, not, ◌&&◌, ◌||◌}
use Rattle.std.proofs.Common.{◌≡◌, List, [], ◌∷◌, ◌++◌, map, refl, sym, ap, ◌∙◌}
use Rattle.std.specs.List.{list_all}
use Rattle.std.specs.Cmp.{first_so, second_so}
use Rattle.std.proofs.lemmas.List.Folds.{list_all-append}
use Rattle.wast_tree_nodes.specs.Sites.{Where, OfItem, OfCall, OfBlock, Check, ItemIndex, Site, Asked, Used, LocalAt, FieldAt, LabelAt}
use Rattle.wast_tree_nodes.specs.Sites.{check_sites, in_type, in_rec, in_field, in_module}
use Rattle.wast_tree_nodes.specs.Types.{is_short}
use Rattle.wast_expand_types.specs.Tree.{Index, FunctionType, Rec, ModuleField}
use Rattle.wast_expand_types.specs.Tree.ty
use Rattle.wast_expand_types.specs.Tree.field
use Rattle.wast_tree_map.specs.Mapped.{no_change, mapped_site, KeepsMarks, Joins, Each}
use Rattle.wast_tree_map.proofs.Laws.{stands, still, same_keeps, alike}
use Rattle.wast_tree_map.proofs.Kept.{joins_at}
use Rattle.wast_tree_map.proofs.Fields.{field_at}
use Rattle.wast_expand_keys.specs.Signatures.{Signature, signature_of}
use Rattle.wast_expand_keys.specs.NeedingUses.{inline_signature, needs_type, needed_if, needed_without, needed_at, needed_in, needed_signatures}
use Rattle.wast_expand_keys.specs.Expanders.{LookUp}
use Rattle.wast_expand_keys.specs.Expanded.{bound_if, bound_index, bound_inline, binding_change, bound_field}
use Rattle.wast_expand_types.proofs.Needing.{ty_none, rec_none}

pub left_none : {A : Type 0} (xs ys : List A) → xs ++ ys ≡ [] → xs ≡ []
left_none [] ys h = refl
left_none (x ∷ xs) ys h = absurd cc

pub right_none : {A : Type 0} (xs ys : List A) → xs ++ ys ≡ [] → ys ≡ []
right_none [] ys h = h
right_none (x ∷ xs) ys h = absurd cc

-- The type use of a block has an index or an inline type.
abbrev is_said : Where → Option Index → Option FunctionType → Bool
is_said OfItem i inline = true
is_said OfCall i inline = true
is_said OfBlock i inline = is_some i || is_some inline

abbrev pub says : Site → Bool
says (Used w u) = is_said w u.index u.inline
says x = true

pub asking_says : (asks : List Check) → list_all says (check_sites asks) ≡ true
asking_says [] = refl
asking_says (a ∷ asks) = asking_says asks

-- Resolving keeps ids.
pub binding_keeps : (find : LookUp) → KeepsMarks (binding_change find)
binding_keeps find = record { params = λ u. refl; owns = λ o. refl }

module _ (find : LookUp) where
  -- a type use with an index is unchanged, and so is that of a block with a short inline type
  index_stays : (w : Where) (i : Option Index) (inline : Option FunctionType) → needed_without w i inline ≡ [] → bound_index find w i inline ≡ i
  index_stays w (Some j) inline h = refl
  index_stays w None inline h = unneeded (needs_type w inline) (inline_signature inline) h
    where
      unneeded : (b : Bool) (s : Signature) → needed_if b s ≡ [] → bound_if b (find s) ≡ None
      unneeded true s h = absurd cc
      unneeded false s h = refl

  inline_stays : (w : Where) (i : Option Index) (inline : Option FunctionType) → is_said w i inline ≡ true → bound_inline w i inline ≡ inline
  inline_stays OfBlock (Some i) inline h = refl
  inline_stays OfBlock None (Some t) h = refl
  inline_stays OfBlock None None h = absurd cc
  inline_stays x i inline h = refl

  site_stays : (s : Site) → needed_at s ≡ [] → says s ≡ true → Joins no_change (binding_change find) no_change s
  site_stays (Used w u) h e = λ t. record { index = index_stays w u.index u.inline h t; inline = inline_stays w u.index u.inline e t }
  site_stays (Asked (ItemIndex s i)) h e = refl
  site_stays (LocalAt locals i) h e = refl
  site_stays (FieldAt owner i) h e = (refl, refl)
  site_stays (LabelAt blocks i) h e = refl
  site_stays x h e = tt

  sites_stay : (ss : List Site) → needed_in ss ≡ [] → list_all says ss ≡ true → Each (Joins no_change (binding_change find) no_change) ss
  sites_stay [] h e = tt
  sites_stay (s ∷ ss) h e = (
    site_stays s (left_none (needed_at s) (needed_in ss) h) (first_so (says s) (list_all says ss) e),
    sites_stay ss (right_none (needed_at s) (needed_in ss) h) (second_so (says s) (list_all says ss) e),
  )

  -- Fields that need nothing are unchanged, if each type use of a block has an index or an inline type.
  pub fields_stay : (xs : List ModuleField) → needed_signatures xs ≡ [] → list_all says (in_module xs) ≡ true → map (bound_field find) xs ≡ xs
  fields_stay xs h e = alike (binding_change find) no_change (λ o. refl) (λ o. refl) xs (sites_stay (in_module xs) h e) ∙ still xs

  field_stays : (x : ModuleField) → needed_in (in_field x) ≡ [] → list_all says (in_field x) ≡ true → bound_field find x ≡ x
  field_stays x h e =
      let a = field_at x in
      sym (ap (bound_field find) a.still)
      ∙ (joins_at x a no_change (binding_change find) no_change (record { keeps = same_keeps; ids = λ o. refl; owns = λ o. refl })
      (sites_stay (in_field x) h e) ∙ a.still)

  pub ty_stays : (t : ty.«Type») → bound_field find (field.Ty t) ≡ field.Ty t
  ty_stays t = field_stays (field.Ty t) (ty_none t) (asking_says (in_type t))

  pub rec_stays : (r : Rec) → bound_field find (field.Rec r) ≡ field.Rec r
  rec_stays r = field_stays (field.Rec r) (rec_none r) (asking_says (in_rec r))

  -- a field that equals one that needs nothing
  pub stays_as : {x y : ModuleField} → x ≡ y → needed_in (in_field y) ≡ [] → list_all says (in_field y) ≡ true → x ≡ bound_field find x
  stays_as {x} {y} e h k = e ∙ (sym (field_stays y h k) ∙ ap (bound_field find) (sym e))

-- If each signature is found, nothing is needed afterwards.
module _ (find : LookUp) where
  abbrev pub found : List Signature → Bool
  found ss = list_all (λ s. is_some (find s)) ss

  some_bound : (w : Where) (inline : Option FunctionType) (o : Option Index) → (is_some o && true) ≡ true → needed_without w o inline ≡ []
  some_bound w inline (Some j) h = refl
  some_bound w inline None h = absurd cc

  index_bound : (w : Where) (i : Option Index) (inline : Option FunctionType) → found (needed_without w i inline) ≡ true
      → needed_without w (bound_index find w i inline) (bound_inline w i inline) ≡ []
  index_bound OfItem (Some j) inline h = refl
  index_bound OfCall (Some j) inline h = refl
  index_bound OfBlock (Some j) inline h = refl
  index_bound OfItem None inline h = some_bound OfItem inline (find (inline_signature inline)) h
  index_bound OfCall None inline h = some_bound OfCall inline (find (inline_signature inline)) h
  index_bound OfBlock None None h = refl
  index_bound OfBlock None (Some t) h = by_length (is_short t) refl h
    where
      by_length : (b : Bool) → is_short t ≡ b → found (needed_if (not b) (signature_of t)) ≡ true
          → needed_without OfBlock (bound_if (not b) (find (signature_of t))) (Some t) ≡ []
      by_length true e h = ap (λ c. needed_if (not c) (signature_of t)) e
      by_length false e h = some_bound OfBlock (Some t) (find (signature_of t)) h

  site_bound : (s : Site) → found (needed_at s) ≡ true → needed_at (mapped_site (binding_change find) s) ≡ []
  site_bound (Used w u) h = index_bound w u.index u.inline h
  site_bound x h = refl

  sites_bound : (ss : List Site) → found (needed_in ss) ≡ true → needed_in (map (mapped_site (binding_change find)) ss) ≡ []
  sites_bound [] h = refl
  sites_bound (s ∷ ss) h =
      let both : found (needed_at s) && found (needed_in ss) ≡ true = sym (list_all-append (λ s. is_some (find s)) (needed_at s) (needed_in ss)) ∙ h in
      ap (λ zs. zs ++ needed_in (map (mapped_site (binding_change find)) ss))
      (site_bound s (first_so (found (needed_at s)) (found (needed_in ss)) both))
      ∙ sites_bound ss (second_so (found (needed_at s)) (found (needed_in ss)) both)

  pub fields_bound : (xs : List ModuleField) → found (needed_signatures xs) ≡ true → needed_signatures (map (bound_field find) xs) ≡ []
  fields_bound xs h = ap needed_in (stands (binding_change find) (binding_keeps find) xs) ∙ sites_bound (in_module xs) h

-- Once type uses are resolved, each type use of a block has an index or an inline type.
module _ (find : LookUp) where
  use_says : (w : Where) (i : Option Index) (inline : Option FunctionType) → is_said w (bound_index find w i inline) (bound_inline w i inline) ≡ true
  use_says OfBlock (Some i) inline = refl
  use_says OfBlock None None = refl
  use_says OfBlock None (Some t) = or_true (is_some (bound_index find OfBlock None (Some t)))
    where
      or_true : (b : Bool) → (b || true) ≡ true
      or_true true = refl
      or_true false = refl
  use_says x i inline = refl

  bound_says : (s : Site) → says (mapped_site (binding_change find) s) ≡ true
  bound_says (Used w u) = use_says w u.index u.inline
  bound_says x = refl

  sites_say : (ss : List Site) → list_all says (map (mapped_site (binding_change find)) ss) ≡ true
  sites_say [] = refl
  sites_say (s ∷ ss) = ap (λ b. b && list_all says (map (mapped_site (binding_change find)) ss)) (bound_says s) ∙ sites_say ss

  pub fields_say : (xs : List ModuleField) → list_all says (in_module (map (bound_field find) xs)) ≡ true
  fields_say xs = ap (list_all says) (stands (binding_change find) (binding_keeps find) xs) ∙ sites_say (in_module xs)
