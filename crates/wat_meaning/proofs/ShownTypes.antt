-- Types that type uses need do not depend on names and strings.
--
-- A signature has no names, so fields without the addresses of their names need the same types, at the same positions. The types that are
-- appended have no names at all.
--
--   (func (param (@name "a") i32)), at any address      (type (func (param i32))) is appended
use Rattle.std.specs.List.{flat_map}
use Rattle.std.specs.Prelude.{position, if◌then◌else◌, nat_lt, ◌==◌}
use Rattle.std.proofs.Common.{◌≡◌, ℕ, ◌+◌, false, not, ◌&&◌, length, List, [], ◌∷◌, ◌++◌, map, Option, Some, None, option_map, refl, sym, ap, ◌∙◌}
use Rattle.std.proofs.lemmas.List.{length-map}
use Rattle.wast_base.specs.Filling.{with_ids_from, missing_id_count}
use Rattle.wast_tree_nodes.specs.Known.{id_context}
use Rattle.wast_tree_nodes.specs.Sites.{if_there, Where, OfBlock, Site, Used, in_module}
use Rattle.wast_tree_nodes.specs.Types.{is_short}
use Rattle.wast_expand_keys.specs.Signatures.{Signature, type_of_param, signature_of}
use Rattle.wast_expand_keys.specs.NeedingUses.{inline_signature, needs_type, needed_if, needed_without, needed_at, needed_in, needed_signatures}
use Rattle.wast_expand_keys.specs.Numbers.{TypeNames, type_names, numbered_signature}
use Rattle.wast_expand_keys.specs.EligibleTypes.{is_eligible, kind_signature, taken_by}
use Rattle.wast_expand_keys.specs.ImpliedTypes.{eligible_in, eligible_signatures, is_among, first_new, implied_signatures}
use Rattle.wast_expand_keys.specs.TypeSpace.{types_in, type_space, has_signature, index_for}
use Rattle.wast_expand_keys.specs.Expanders.{LookUp, index_of}
use Rattle.wast_expand_keys.specs.Expanded.{lacks_id, with_type_id, unnamed_param, unnamed_type, def_of, start_of_text, implied_types}
use Rattle.wast_expand_keys.specs.Expanded.{fields_with_types, binding_of, bindings_in, bindings, found_for, bound_if, bound_index}
use Rattle.wast_expand_keys.specs.Expanded.{bound_inline, binding_change, bound_field, expanded_fields, type_id_count}
use Rattle.wast_expand_keys.specs.Completed.{fields_with_implied_types}
use Rattle.wast_expand_keys.specs.Positioned.{position_for, fields_with_type_positions}
use Rattle.wat_syntax.specs.Tree.{Id, Index, NameAnnotation, ValType, FunctionType, InnerTypeKind, TypeDef, ModuleField}
use Rattle.wat_syntax.specs.Tree.index
use Rattle.wat_syntax.specs.Tree.space
use Rattle.wat_syntax.specs.Tree.inner
use Rattle.wat_syntax.specs.Tree.ty
use Rattle.wat_syntax.specs.Tree.field
use Rattle.wat_ready.specs.Shown.{shown_composite, shown_field, shown_fields, shown_function_type, shown_param, shown_type, shown_type_def}
use Rattle.wat_meaning.proofs.ShownInline.{filled_shown, missing_shown}
use Rattle.wat_ready.specs.ShownSites.{shown_site}
use Rattle.wat_meaning.proofs.ShownItems.{items_shown}
use Rattle.wat_ready.proofs.ShownLists.{map_same, flat_same, both_changed}
use Rattle.wat_ready.proofs.ShownSites.{sites_shown}
use Rattle.wat_meaning.proofs.ShownTypesMapped.{IgnoresNames, shown_mapped}

-- The signature of a function type, and whether it is short.
pub signature_shown : (t : FunctionType) → signature_of (shown_function_type t) ≡ signature_of t
signature_shown t = ap (λ (vs : List ValType). (vs, t.results)) (map_same shown_param type_of_param (λ p. refl) t.params)

inline_shown : (t : Option FunctionType) → inline_signature (option_map shown_function_type t) ≡ inline_signature t
inline_shown None = refl
inline_shown (Some t) = signature_shown t

short_shown : (t : FunctionType) → is_short (shown_function_type t) ≡ is_short t
short_shown t = ap (λ (n : ℕ). n == 0 && nat_lt (length t.results) 2) (length-map t.params shown_param)

needs_shown : (w : Where) (t : Option FunctionType) → needs_type w (option_map shown_function_type t) ≡ needs_type w t
needs_shown OfBlock None = refl
needs_shown OfBlock (Some t) = ap not (short_shown t)
needs_shown x t = refl

-- The signatures that type uses need.
without_shown : (w : Where) (o : Option Index) (t : Option FunctionType)
    → needed_without w o (option_map shown_function_type t) ≡ needed_without w o t
without_shown w None t = λ i. needed_if (needs_shown w t i) (inline_shown t i)
without_shown w (Some i) t = refl

site_shown : (s : Site) → needed_at (shown_site s) ≡ needed_at s
site_shown (Used w u) = without_shown w u.index u.inline
site_shown x = refl

pub needed_shown : (xs : List ModuleField) → needed_signatures (shown_fields xs) ≡ needed_signatures xs
needed_shown xs = ap needed_in (sites_shown xs) ∙ flat_same shown_site needed_at site_shown (in_module xs)

-- The look-up of source types by id.
pub type_names_shown : (xs : List ModuleField) → type_names (shown_fields xs) ≡ type_names xs
type_names_shown xs = ap (λ its. (id_context its).number space.Ty) (items_shown xs)

-- The signatures of eligible types.
kind_shown : (t : InnerTypeKind) → kind_signature (shown_composite t) ≡ kind_signature t
kind_shown (inner.Func t) = ap Some (signature_shown t)
kind_shown x = refl

module _ (k : TypeNames) where
  taken_shown : (d : TypeDef) → taken_by k (shown_type_def d) ≡ taken_by k d
  taken_shown d = ap (λ (o : Option Signature). if is_eligible d then option_map (numbered_signature k) o else None) (kind_shown d.kind)

  eligible_shown : (x : ModuleField) → eligible_in k (shown_field x) ≡ eligible_in k x
  eligible_shown (field.Ty t) = ap (if_there (λ (s : Signature). s ∷ [])) (taken_shown t.def)
  eligible_shown x = refl

  abbrev no_signature : Option Signature
  no_signature = None

  entries_shown : (x : ModuleField) → types_in k (shown_field x) ≡ types_in k x
  entries_shown (field.Ty t) = ap (λ (o : Option Signature). o ∷ []) (taken_shown t.def)
  entries_shown (field.Rec r) = map_same shown_type (λ (t : ty.«Type»). no_signature) (λ t. refl) r.types
  entries_shown x = refl

  bindings_in_shown : (x : ModuleField) → bindings_in k (shown_field x) ≡ bindings_in k x
  bindings_in_shown (field.Ty t) = ap (λ (o : Option Signature). binding_of o t.id) (taken_shown t.def)
  bindings_in_shown x = refl

pub all_eligible_shown : (xs : List ModuleField) → eligible_signatures (shown_fields xs) ≡ eligible_signatures xs
all_eligible_shown xs =
    ap (λ k. flat_map (eligible_in k) (shown_fields xs)) (type_names_shown xs)
    ∙ flat_same shown_field (eligible_in (type_names xs)) (eligible_shown (type_names xs)) xs

-- The signatures that no eligible type has.
pub implied_shown : (xs : List ModuleField) → implied_signatures (shown_fields xs) ≡ implied_signatures xs
implied_shown xs = λ i. first_new (is_among (all_eligible_shown xs i)) (map (numbered_signature (type_names_shown xs i)) (needed_shown xs i))

-- The appended types have no names.
abbrev with_params : Signature → List (Option Id × Option NameAnnotation × ValType) → ModuleField
with_params s ps =
    let d = record (def_of s false) { kind = inner.Func (record { params = ps; results = s.1 }) } in
    field.Ty (record { span = start_of_text; id = None; name = None; def = d })

no_names : (vs : List ValType) → map shown_param (map unnamed_param vs) ≡ map unnamed_param vs
no_names [] = refl
no_names (v ∷ vs) = ap (λ ps. unnamed_param v ∷ ps) (no_names vs)

unnamed_shown : (s : Signature) → shown_field (unnamed_type s) ≡ unnamed_type s
unnamed_shown s = ap (with_params s) (no_names s.0)

types_shown : (ss : List Signature) → map unnamed_type ss ≡ shown_fields (map unnamed_type ss)
types_shown [] = refl
types_shown (s ∷ ss) = λ i. sym (unnamed_shown s) i ∷ types_shown ss i

pub shown_completed : (xs : List ModuleField) → fields_with_implied_types (shown_fields xs) ≡ shown_fields (fields_with_implied_types xs)
shown_completed xs =
    both_changed shown_field xs (map unnamed_type (implied_signatures xs)) _ _ refl
    (ap (map unnamed_type) (implied_shown xs) ∙ types_shown (implied_signatures xs))

-- The type space, and the position of the type of a signature.
pub type_space_shown : (xs : List ModuleField) → type_space (shown_fields xs) ≡ type_space xs
type_space_shown xs = λ i. entries i ++ map Some (implied_shown xs i)
  where
    entries : flat_map (types_in (type_names (shown_fields xs))) (shown_fields xs) ≡ flat_map (types_in (type_names xs)) xs
    entries =
        ap (λ k. flat_map (types_in k) (shown_fields xs)) (type_names_shown xs)
        ∙ flat_same shown_field (types_in (type_names xs)) (entries_shown (type_names xs)) xs

pub index_shown : (xs : List ModuleField) → index_for (shown_fields xs) ≡ index_for xs
index_shown xs = λ i s. position (has_signature (numbered_signature (type_names_shown xs i) s)) (type_space_shown xs i)

pub position_shown : (xs : List ModuleField) → position_for (shown_fields xs) ≡ position_for xs
position_shown xs = λ i s. option_map (λ k. index.Num k start_of_text) (index_shown xs i s)

-- A type use with the index of its type keeps its names.
module _ (find : LookUp) where
  bound_shown : (w : Where) (o : Option Index) (t : Option FunctionType)
      → bound_index find w o (option_map shown_function_type t) ≡ bound_index find w o t
  bound_shown w None t = λ i. bound_if (needs_shown w t i) (find (inline_shown t i))
  bound_shown w (Some i) t = refl

  inline_bound : (w : Where) (o : Option Index) (t : Option FunctionType)
      → bound_inline w o (option_map shown_function_type t) ≡ option_map shown_function_type (bound_inline w o t)
  inline_bound OfBlock (Some i) t = refl
  inline_bound OfBlock None (Some t) = refl
  inline_bound OfBlock None None = refl
  inline_bound x o t = refl

  pub binding_ignores : IgnoresNames (binding_change find)
  binding_ignores = record {
    used = λ w u i. record { index = bound_shown w u.index u.inline i; inline = inline_bound w u.index u.inline i };
    local = λ l i. refl;
  }

  pub bound_fields_shown : (xs : List ModuleField) → map (bound_field find) (shown_fields xs) ≡ shown_fields (map (bound_field find) xs)
  bound_fields_shown xs = shown_mapped (binding_change find) binding_ignores xs

pub shown_positioned : (xs : List ModuleField) → fields_with_type_positions (shown_fields xs) ≡ shown_fields (fields_with_type_positions xs)
shown_positioned xs =
    (λ i. map (bound_field (position_shown xs i)) (shown_completed xs i))
    ∙ bound_fields_shown (position_for xs) (fields_with_implied_types xs)

-- With generated ids from a counter: the same types need an id.
lacks_shown : (x : ModuleField) → lacks_id (shown_field x) ≡ lacks_id x
lacks_shown (field.Ty t) = refl
lacks_shown x = refl

type_id_shown : (n : ℕ) (x : ModuleField) → with_type_id n (shown_field x) ≡ shown_field (with_type_id n x)
type_id_shown n (field.Ty t) = refl
type_id_shown n x = refl

pub shown_type_count : (xs : List ModuleField) → type_id_count (shown_fields xs) ≡ type_id_count xs
shown_type_count xs = λ i. missing_shown lacks_id lacks_shown xs i + length (implied_shown xs i)

implied_types_shown : (n : ℕ) (ss : List Signature) → implied_types n ss ≡ shown_fields (implied_types n ss)
implied_types_shown n [] = refl
implied_types_shown n (s ∷ ss) =
    λ i. (ap (with_type_id n) (sym (unnamed_shown s)) ∙ type_id_shown n (unnamed_type s)) i ∷ implied_types_shown (n + 1) ss i

pub shown_with_types : (n : ℕ) (xs : List ModuleField) → fields_with_types n (shown_fields xs) ≡ shown_fields (fields_with_types n xs)
shown_with_types n xs =
    both_changed shown_field (with_ids_from lacks_id with_type_id n xs)
    (implied_types (n + missing_id_count lacks_id xs) (implied_signatures xs)) _ _
    (filled_shown lacks_id with_type_id lacks_shown type_id_shown n xs)
    ((λ i. implied_types (n + missing_shown lacks_id lacks_shown xs i) (implied_shown xs i))
    ∙ implied_types_shown (n + missing_id_count lacks_id xs) (implied_signatures xs))

pub found_shown : (xs : List ModuleField) (n : ℕ) → found_for (shown_fields xs) n ≡ found_for xs n
found_shown xs n = λ i s. index_of (all_bindings i) (numbered_signature (type_names_shown xs i) s)
  where
    all_bindings : bindings (type_names (shown_fields xs)) (fields_with_types n (shown_fields xs))
        ≡ bindings (type_names xs) (fields_with_types n xs)
    all_bindings =
        (λ i. bindings (type_names_shown xs i) (shown_with_types n xs i))
        ∙ flat_same shown_field (bindings_in (type_names xs)) (bindings_in_shown (type_names xs)) (fields_with_types n xs)

pub shown_expanded : (n : ℕ) (xs : List ModuleField) → expanded_fields n (shown_fields xs) ≡ shown_fields (expanded_fields n xs)
shown_expanded n xs =
    (λ i. map (bound_field (found_shown xs n i)) (shown_with_types n xs i))
    ∙ bound_fields_shown (found_for xs n) (fields_with_types n xs)
