-- Two lists of fields have the same name section if their items have the same names, and the same lists of names
-- inside.
use Rattle.std.proofs.Common.{◌≡◌, ℕ, List, [], ◌∷◌, ◌++◌, map, Option, Some, None, option_map, refl, sym, ap, ◌∙◌}
use Rattle.std.specs.Prelude.{slice_get}
use Rattle.std.specs.List.{flat_map}
use Rattle.std.proofs.lemmas.List.{map-append}
use Rattle.std.proofs.lemmas.Option.{slice_get-map}
use mathlib.Core.Path.{fun_ext}
use Rattle.wast_tree_nodes.specs.Imports.{item_sigs}
use Rattle.wast_core_name_section.specs.Tree.{Space, Func, FunctionType, TypeUse, TagType, ItemKind, ItemSig, ImportItems, ModuleField}
use Rattle.wast_core_name_section.specs.Tree.ty
use Rattle.wast_core_name_section.specs.declared.within.Within.{Within}
use Rattle.wast_core_name_section.specs.declared.within.Within.TheVariants as within
use Rattle.wast_core_name_section.specs.declared.names_payload.NameMap.{NameMap}
use Rattle.wast_core_name_section.specs.declared.names_payload.NameMap.TheVariants as map_of
use Rattle.wast_core_name_section.specs.GivenNames.{named_from}
use Rattle.wast_core_name_section.specs.WithinItems.{arity, arity_of, types_within, types_of, locals_of, labels_in, inline_params}
use Rattle.wast_core_name_section.specs.WithinItems.{tag_params, list_of, lists_in_type, lists_in_func, lists_in_tag}
use Rattle.wast_core_name_section.specs.WithinItems.{lists_in_imported_func, lists_in_kind, lists_in_sig, lists_in_import, lists_within}
use Rattle.wast_core_name_section.specs.ModuleNames.{sig_name, import_names, item_names_in, given_name_in, names_given, named_items, direct}
use Rattle.wast_core_name_section.specs.ModuleNames.{named_of, indirect, named_within, map_names, module_name, name_maps, name_subsections}
use Rattle.wast_core_name_section.proofs.Each.{each_like}

-- The lists inside a field are those inside another, each field among the fields of its module.
abbrev pub SameLists : List ModuleField → List ModuleField → ModuleField → ModuleField → Type 0
SameLists xs ys x y = (w : Within) → lists_within (types_of xs) w x ≡ lists_within (types_of ys) w y

abbrev pub SameInKind : ItemKind → ItemKind → Type 0
SameInKind k l = (w : Within) → lists_in_kind w k ≡ lists_in_kind w l

abbrev pub SameInImport : ImportItems → ImportItems → Type 0
SameInImport i j = (w : Within) → lists_in_import w i ≡ lists_in_import w j

-- A change of fields that does not change the name section.
pub record KeepsNames (f : ModuleField → ModuleField) : Type 0 where
  pub items : (x : ModuleField) → item_names_in (f x) ≡ item_names_in x
  pub lists : (xs : List ModuleField) (x : ModuleField) → SameLists (map f xs) xs (f x) x

module _ (f : ModuleField → ModuleField) (keeps : KeepsNames f) where
  same_items : (s : Space) (xs : List ModuleField) → named_items s (map f xs) ≡ named_items s xs
  same_items s xs = ap (named_from 0) (each_like f (names_given s) (names_given s) (λ x. ap (flat_map (given_name_in s)) (keeps.items x)) xs)

  same_map : (xs : List ModuleField) (m : NameMap) → map_names (map f xs) m ≡ map_names xs m
  same_map xs (map_of.Items s) = ap (direct (named_of s)) (same_items s xs)
  same_map xs (map_of.Within w) =
      ap (λ lists. indirect (named_within w) (named_from 0 lists)) (each_like f (lists_within (types_of (map f xs)) w) (lists_within (types_of xs) w)
      (λ x. keeps.lists xs x w) xs)

  pub same_subsections : (name : Option (List ℕ)) (xs : List ModuleField) → name_subsections name (map f xs) ≡ name_subsections name xs
  same_subsections name xs = ap (λ g. module_name name ++ flat_map g name_maps) (fun_ext (same_map xs))

-- Two lists of fields whose items have the same names and lists have the same subsections.
module _ (xs ys : List ModuleField) (items : (s : Space) → flat_map (names_given s) xs ≡ flat_map (names_given s) ys) (lists : (w : Within)
    → flat_map (lists_within (types_of xs) w) xs ≡ flat_map (lists_within (types_of ys) w) ys) where
  map_alike : (m : NameMap) → map_names xs m ≡ map_names ys m
  map_alike (map_of.Items s) = ap (λ names. direct (named_of s) (named_from 0 names)) (items s)
  map_alike (map_of.Within w) = ap (λ lists. indirect (named_within w) (named_from 0 lists)) (lists w)

  pub subsections_alike : (name : Option (List ℕ)) → name_subsections name xs ≡ name_subsections name ys
  subsections_alike name = ap (λ g. module_name name ++ flat_map g name_maps) (fun_ext map_alike)

-- How many parameters the type at an index has.
abbrev pub arity_in : ty.«Type» → Option ℕ
arity_in t = arity t.def.kind

abbrev arities : List ModuleField → List (Option ℕ)
arities xs = map arity_in (types_of xs)

abbrev found : Option (Option ℕ) → Option ℕ
found None = None
found (Some n) = n

arity_found : (t : Option ty.«Type») → arity_of t ≡ found (option_map arity_in t)
arity_found None = refl
arity_found (Some t) = refl

arity_read : (xs : List ModuleField) (n : ℕ) → arity_of (slice_get (types_of xs) n) ≡ found (slice_get (arities xs) n)
arity_read xs n = arity_found (slice_get (types_of xs) n) ∙ ap found (sym (slice_get-map arity_in (types_of xs) n))

module _ (f : ModuleField → ModuleField) (alike : (x : ModuleField) → map arity_in (types_within (f x)) ≡ map arity_in (types_within x)) where
  same_arities : (xs : List ModuleField) → arities (map f xs) ≡ arities xs
  same_arities [] = refl
  same_arities (x ∷ xs) =
      map-append arity_in (types_within (f x)) (types_of (map f xs))
      ∙ (ap (λ ns. ns ++ arities (map f xs)) (alike x)
      ∙ (ap (λ ns. map arity_in (types_within x) ++ ns) (same_arities xs) ∙ sym (map-append arity_in (types_within x) (types_of xs))))

  pub same_arity : (xs : List ModuleField) (n : ℕ) → arity_of (slice_get (types_of (map f xs)) n) ≡ arity_of (slice_get (types_of xs) n)
  same_arity xs n = arity_read (map f xs) n ∙ (ap (λ ns. found (slice_get ns n)) (same_arities xs) ∙ sym (arity_read xs n))

-- The lists inside parts that have the same names.
pub in_type : (w : Within) (s t : ty.«Type») → s.def ≡ t.def → lists_in_type w s ≡ lists_in_type w t
in_type within.Fields s t is = ap (λ d. lists_in_type within.Fields (record t { def = d })) is
in_type within.Parameters s t is = ap (λ d. lists_in_type within.Parameters (record t { def = d })) is
in_type x s t is = refl

pub in_func : (w : Within) (xs ys : List ty.«Type») (f g : Func) → locals_of xs f ≡ locals_of ys g → labels_in f.kind ≡ labels_in g.kind
    → lists_in_func xs w f ≡ lists_in_func ys w g
in_func within.Labels xs ys f g is also = ap (λ (names : List (Option (List ℕ))). list_of names ∷ []) also
in_func within.Locals xs ys f g is also = ap (λ (names : List (Option (List ℕ))). list_of names ∷ []) is
in_func x xs ys f g is also = refl

pub in_tag : (w : Within) (s t : TagType) → tag_params s ≡ tag_params t → lists_in_tag w s ≡ lists_in_tag w t
in_tag within.TagParameters s t is = ap (λ (names : List (Option (List ℕ))). list_of names ∷ []) is
in_tag x s t is = refl

pub in_imported_func : (w : Within) (u v : TypeUse FunctionType) → inline_params u ≡ inline_params v → lists_in_imported_func w u ≡ lists_in_imported_func w v
in_imported_func within.Locals u v is = ap (λ (names : List (Option (List ℕ))). list_of names ∷ []) is
in_imported_func x u v is = refl

-- What an import has, if each of its signatures is changed so that it has the same.
module _ (f : ItemSig → ItemSig) (i j : ImportItems) (changed : item_sigs j ≡ map f (item_sigs i)) where
  pub names_imported : ((s : ItemSig) → sig_name (f s) ≡ sig_name s) → import_names j ≡ import_names i
  names_imported same = ap (map sig_name) changed ∙ map_like (item_sigs i)
    where
      map_like : (sigs : List ItemSig) → map sig_name (map f sigs) ≡ map sig_name sigs
      map_like [] = refl
      map_like (s ∷ sigs) = λ t. same s t ∷ map_like sigs t

  pub in_import : ((s : ItemSig) → SameInKind (f s).kind s.kind) → SameInImport j i
  in_import same w = ap (flat_map (lists_in_sig w)) changed ∙ each_like f (lists_in_sig w) (lists_in_sig w) (λ s. same s w) (item_sigs i)
