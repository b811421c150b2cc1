-- The ids of types among the items of a list, and how they are collected.
use Rattle.std.proofs.Common.{◌≡◌, ℕ, ◌+◌, ◌<◌, ◌≤◌, List, [], ◌∷◌, ◌++◌, length, get_or, take, drop, map, append_assoc, length-append}
use Rattle.std.proofs.Common.{Option, inl, inr, refl, sym, ap, ◌∙◌, arith}
use Rattle.std.specs.List.{flat_map}
use Rattle.std.proofs.lemmas.List.{take_more, take-append-drop, map-append}
use Rattle.std.proofs.lemmas.List.Concat.{flat_map-append}
use Rattle.wast_base.specs.declared.faults.Error.{Error}
use Rattle.wast_base.specs.Ids.{Name, mark_of_option}
use Rattle.wast_base.specs.Spaces.{name_if}
use Rattle.wast_tree_nodes.specs.Items.{item, items_of_type, space_of_kind, item_of_sig, items_of_import, items_in, items}
use Rattle.wast_tree_nodes.specs.Known.{name_in, names_in}
use Rattle.wast_expand_types.specs.Tree.{Id, Rec, ItemKind, ItemSig, ImportItems, ModuleField}
use Rattle.wast_expand_types.specs.Tree.ty
use Rattle.wast_expand_types.specs.Tree.space
use Rattle.wast_expand_types.specs.Tree.kind
use Rattle.wast_expand_types.specs.Tree.import_items
use Rattle.wast_expand_types.specs.Tree.field
use Rattle.wast_expand_keys.specs.TypeSpace.{ids_in, type_ids}
use Rattle.wast_expand_types.specs.TypeItems.{StopsGathering}

-- the names of the types, by their ids
abbrev pub names_by : List (Option Id) → List (Option Name)
names_by ids = map (λ id. name_if (mark_of_option id)) ids

member_names : (ms : List ty.«Type») → names_in space.Ty (flat_map items_of_type ms) ≡ names_by (map (λ t. t.id) ms)
member_names [] = refl
member_names (m ∷ ms) = ap (λ ns. name_if (mark_of_option m.id) ∷ ns) (member_names ms)

kind_names : (k : ItemKind) (id : Option Id) → name_in space.Ty (item (space_of_kind k) id []) ≡ []
kind_names (kind.Func u) id = refl
kind_names x id = refl

sig_names : {A : Type 0} (sig : A → ItemSig) (xs : List A) → names_in space.Ty (flat_map (λ x. item_of_sig (sig x) ∷ []) xs) ≡ []
sig_names sig [] = refl
sig_names sig (x ∷ xs) = ap (λ ns. ns ++ names_in space.Ty (flat_map (λ x. item_of_sig (sig x) ∷ []) xs)) (kind_names (sig x).kind (sig x).id)
    ∙ sig_names sig xs

pub import_names : (i : ImportItems) → names_in space.Ty (items_of_import i) ≡ []
import_names (import_items.Single source name sig) = ap (λ ns. ns ++ []) (kind_names sig.kind sig.id)
import_names (import_items.Group1 source items) = sig_names (λ p. p.1) items
import_names (import_items.Group2 source sig names) = sig_names (λ name. sig) names

field_names : (x : ModuleField) → names_in space.Ty (items_in x) ≡ names_by (ids_in x)
field_names (field.Rec r) = member_names r.types
field_names (field.Import i) = import_names i.items
field_names x = refl

-- other fields have none
pub other_names : (x : ModuleField) → ((t : ty.«Type») → x ≡ field.Ty t → ⊥) → ((r : Rec) → x ≡ field.Rec r → ⊥) → names_in space.Ty (items_in x) ≡ []
other_names (field.Ty t) none lone = absurd (none t refl)
other_names (field.Rec r) none lone = absurd (lone r refl)
other_names (field.Import i) none lone = import_names i.items
other_names x none lone = refl

pub names_of_types : (xs : List ModuleField) → names_in space.Ty (items xs) ≡ names_by (type_ids xs)
names_of_types [] = refl
names_of_types (x ∷ xs) =
    flat_map-append (name_in space.Ty) (items_in x) (items xs)
    ∙ (ap (λ ns. ns ++ names_in space.Ty (items xs)) (field_names x) ∙ (ap (λ ns. names_by (ids_in x) ++ ns) (names_of_types xs)
    ∙ sym (map-append (λ id. name_if (mark_of_option id)) (ids_in x) (type_ids xs))))

-- the names of the types in a list of fields, and in a list of types
abbrev pub in_fields : List ModuleField → List (Option Name)
in_fields xs = names_in space.Ty (items xs)

abbrev pub in_types : List ty.«Type» → List (Option Name)
in_types ts = names_in space.Ty (flat_map items_of_type ts)

pub fields_join : (xs ys : List ModuleField) → in_fields (xs ++ ys) ≡ in_fields xs ++ in_fields ys
fields_join xs ys = ap (names_in space.Ty) (flat_map-append items_in xs ys) ∙ flat_map-append (name_in space.Ty) (items xs) (items ys)

pub types_join : (xs ys : List ty.«Type») → in_types (xs ++ ys) ≡ in_types xs ++ in_types ys
types_join xs ys = ap (names_in space.Ty) (flat_map-append items_of_type xs ys)
    ∙ flat_map-append (name_in space.Ty) (flat_map items_of_type xs) (flat_map items_of_type ys)

stops_later : (names more : List (Option Name)) (e : Error) → length names ≤ length more → StopsGathering names e → StopsGathering more e
stops_later names more e le (inl m) = inl m
stops_later names more e le (inr r) = inr (r.0, omega (arith, r.1, le))

-- what is collected from a list, one part after another
module _ {A : Type 0} (F : List A → List (Option Name)) (joins : (xs ys : List A) → F (xs ++ ys) ≡ F xs ++ F ys) (old new : List (Option Name))
    (xs : List A) (i : ℕ) (x : A) (lt : i < length xs) (is : x ≡ get_or xs i x)
    (so_far : new ≡ old ++ F (take i xs)) where
  one_taken : F (take (i + 1) xs) ≡ F (take i xs) ++ F (x ∷ [])
  one_taken = ap F (take_more xs i x lt ∙ ap (λ y. take i xs ++ y ∷ []) (sym is)) ∙ joins (take i xs) (x ∷ [])

  pub gathers_one : new ++ F (x ∷ []) ≡ old ++ F (take (i + 1) xs)
  gathers_one = ap (λ ns. ns ++ F (x ∷ [])) so_far ∙ (append_assoc old (F (take i xs)) (F (x ∷ [])) ∙ ap (λ ns. old ++ ns) (sym one_taken))

  pub stops_in_one : (e : Error) → StopsGathering (new ++ F (x ∷ [])) e → StopsGathering (old ++ F xs) e
  stops_in_one e h =
      let all : F xs ≡ F (take (i + 1) xs) ++ F (drop (i + 1) xs) = ap F (sym (take-append-drop (i + 1) xs)) ∙ joins (take (i + 1) xs) (drop (i + 1) xs) in
      let whole : length (old ++ F xs) ≡ length (old ++ F (take (i + 1) xs)) + length (F (drop (i + 1) xs)) =
      ap (λ ns. length (old ++ ns)) all ∙ (ap length (sym (append_assoc old (F (take (i + 1) xs)) (F (drop (i + 1) xs))))
      ∙ length-append (old ++ F (take (i + 1) xs)) (F (drop (i + 1) xs))) in
      let here : length (new ++ F (x ∷ [])) ≡ length (old ++ F (take (i + 1) xs)) = ap length gathers_one in
      stops_later (new ++ F (x ∷ [])) (old ++ F xs) e (omega (arith, whole, here)) h
