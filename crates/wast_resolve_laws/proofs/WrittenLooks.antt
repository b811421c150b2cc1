-- The expansion by ids and the one by positions differ only in ids of items and in references to them, so a function
-- that ignores both has the same value.
use Rattle.std.specs.Prelude.{⊤}
use Rattle.std.proofs.Common.{◌≡◌, ℕ, ◌+◌, Bool, List, [], ◌∷◌, ◌++◌, map, length, Option, Some, None, option_map, refl, sym, ap, ◌∙◌, arith}
use Rattle.std.specs.List.{flat_map, position}
use Rattle.std.specs.Option.{option_or}
use Rattle.std.proofs.lemmas.List.{map-append}
use Rattle.wast_base.specs.Ids.{Name, gensym_id}
use Rattle.wast_base.specs.Spaces.{position_of}
use Rattle.wast_tree_nodes.specs.Items.{Item, items_in}
use Rattle.wast_tree_nodes.specs.Sites.{in_field}
use Rattle.wast_tree_nodes.proofs.Asking.{each_of_each}
use Rattle.wast_base.specs.Filling.{one_if, missing_id_count}
use Rattle.wast_expand_inline.specs.Referring.{wants_id}
use Rattle.wast_expand_inline.specs.Written.{desugared_from, desugared_by_position}
use Rattle.wast_expand_keys.specs.Signatures.{Signature}
use Rattle.wast_expand_keys.specs.Numbers.{TypeNames, type_names, numbered_signature}
use Rattle.wast_expand_types.proofs.TypeItems.{names_by, names_of_types}
use Rattle.wast_expand_keys.specs.NeedingUses.{needed_at, needed_in, needed_signatures}
use Rattle.wast_expand_keys.specs.ImpliedTypes.{eligible_in, is_among, first_new, implied_signatures}
use Rattle.wast_expand_keys.specs.ImpliedTypes as implied_types
use Rattle.wast_expand_keys.specs.TypeSpace.{types_in, type_space, has_signature, ids_in}
use Rattle.wast_expand_keys.specs.Expanded.{start_of_text, lacks_id, unnamed_type, type_id_count}
use Rattle.wast_expand_keys.specs.Completed.{fields_with_implied_types}
use Rattle.wast_expand_keys.specs.Positioned.{position_for}
use Rattle.wast_resolve_laws.specs.Tree.{Id, Index, Space, Span, FunctionType, TypeUse, ModuleField}
use Rattle.wast_resolve_laws.specs.Tree.index
use Rattle.wast_resolve_laws.specs.Tree.field
use Rattle.wast_resolve_rules.specs.ImportOrder.{import_place, defines, nothing_defined}
use Rattle.wast_resolve_rules.specs.Scopes.{Shape, Scope, shapes_in, shapes_of_types, implicit_param_count}
use Rattle.wast_resolve_rules.specs.Demands.{Demand, declared_ids, open_counts, body_counts_in, order_demands}
use Rattle.wast_resolve_rules.proofs.Orders.{orders_from, orders_are}
use Rattle.wast_resolve_laws.proofs.WrittenSame.{called, IsBlind, AllOwn, fields_alike}

-- the type use of a function, and the number of its parameters and locals
abbrev functions_in : ModuleField → List (TypeUse FunctionType × ℕ)
functions_in (field.Func f) = (f.ty, length (declared_ids f.ty.inline f.kind)) ∷ []
functions_in x = []

-- the data of a field without the id of its item and its references
pub record Look : Type 0 where
  pub needs : List Signature
  pub ids : List (Option Id)
  pub writes : TypeNames → List Signature
  pub types : TypeNames → List (Option Signature)
  pub shapes : List Shape
  pub functions : List (TypeUse FunctionType × ℕ)
  pub opens : List ℕ
  pub place : Option Span
  pub space : Option Space
  pub lacks : Bool

abbrev pub look : ModuleField → Look
look x = record {
  needs = needed_in (in_field x);
  ids = ids_in x;
  writes = λ k. eligible_in k x;
  types = λ k. types_in k x;
  shapes = shapes_in x;
  functions = functions_in x;
  opens = open_counts (in_field x);
  place = import_place x;
  space = defines x;
  lacks = lacks_id x;
}

-- It is the same for any indices.
abbrev Any : Space → Index → Index → Type 0
Any s i j = ⊤

all_any : (n : ℕ) (before : List Item) (xs : List ModuleField) → AllOwn Any n before xs
all_any n before [] = tt
all_any n before (x ∷ xs) = (λ s id its bears. tt, all_any (n + one_if (wants_id x)) (before ++ items_in x) xs)

look_blind : (n : ℕ) → IsBlind Any n look
look_blind n = record {
  exported = λ span e i j name same. refl;
  of_elem = λ span i j is64 p same. refl;
  of_data = λ span i j is64 pieces same. refl;
  given = λ m span le. record { of_import = λ at name source k. refl; of_field = by_field (Some (gensym_id m span)) None };
}
  where
    by_field : (a b : Option Id) (x : ModuleField) → look (called a x) ≡ look (called b x)
    by_field a b (field.Func f) = refl
    by_field a b x = refl

-- The data of fields that differ in nothing else.
by_looks : {A : Type 0} (g : Look → List A) (xs : List ModuleField) → flat_map (λ x. g (look x)) xs ≡ flat_map g (map look xs)
by_looks g [] = refl
by_looks g (x ∷ xs) = ap (λ ys. g (look x) ++ ys) (by_looks g xs)

abbrev bodies_of : Scope → Look → List ℕ
bodies_of c l = map (λ p. implicit_param_count c (Some p.0) + p.1) l.functions ++ l.opens

body_by_look : (c : Scope) (x : ModuleField) → body_counts_in c x ≡ bodies_of c (look x)
body_by_look c (field.Func f) = refl
body_by_look c x = refl

bodies_by_looks : (c : Scope) (xs : List ModuleField) → flat_map (body_counts_in c) xs ≡ flat_map (λ x. bodies_of c (look x)) xs
bodies_by_looks c [] = refl
bodies_by_looks c (x ∷ xs) = ap (λ ns. ns ++ flat_map (body_counts_in c) xs) (body_by_look c x) ∙ ap (λ ns. bodies_of c (look x) ++ ns) (bodies_by_looks c xs)

abbrev orders_of : Option Space → List Look → List Demand
orders_of last [] = []
orders_of last (l ∷ ls) = nothing_defined last l.place ++ orders_of (option_or l.space last) ls

orders_by_looks : (last : Option Space) (xs : List ModuleField) → orders_from last xs ≡ orders_of last (map look xs)
orders_by_looks last [] = refl
orders_by_looks last (x ∷ xs) = ap (λ ds. nothing_defined last (import_place x) ++ ds) (orders_by_looks (option_or (defines x) last) xs)

wanted_by_looks : (xs : List ModuleField) → missing_id_count lacks_id xs ≡ missing_id_count (λ (l : Look). l.lacks) (map look xs)
wanted_by_looks [] = refl
wanted_by_looks (x ∷ xs) = ap (λ m. one_if (lacks_id x) + m) (wanted_by_looks xs)

pub record LookAlike (xs ys : List ModuleField) : Type 0 where
  pub looks : map look xs ≡ map look ys

module _ {xs ys : List ModuleField} (h : LookAlike xs ys) where
  alike : {A : Type 0} (g : Look → List A) → flat_map (λ x. g (look x)) xs ≡ flat_map (λ x. g (look x)) ys
  alike g = by_looks g xs ∙ (ap (flat_map g) h.looks ∙ sym (by_looks g ys))

  pub alike_shapes : shapes_of_types xs ≡ shapes_of_types ys
  alike_shapes = alike (λ l. l.shapes)

  pub alike_bodies : (c : Scope) → flat_map (body_counts_in c) xs ≡ flat_map (body_counts_in c) ys
  alike_bodies c = bodies_by_looks c xs ∙ (alike (bodies_of c) ∙ sym (bodies_by_looks c ys))

  alike_needed : needed_signatures xs ≡ needed_signatures ys
  alike_needed = each_of_each in_field needed_at xs ∙ (alike (λ l. l.needs) ∙ sym (each_of_each in_field needed_at ys))

  -- the ids of source types have the same numbers
  alike_names : type_names xs ≡ type_names ys
  alike_names =
      ap {B = TypeNames} (λ (names : List (Option Name)) (q : Name). position_of q names) (names_of_types xs
      ∙ (ap names_by (alike (λ l. l.ids)) ∙ sym (names_of_types ys)))

  pub alike_implied : implied_signatures xs ≡ implied_signatures ys
  alike_implied =
      ap (λ (k : TypeNames). first_new (is_among (flat_map (eligible_in k) xs)) (map (numbered_signature k) (needed_signatures xs))) alike_names
      ∙ (ap (λ (ss : List Signature). first_new (is_among ss) (map (numbered_signature (type_names ys)) (needed_signatures xs)))
      (alike (λ l. l.writes (type_names ys)))
      ∙ ap (λ (ss : List Signature). first_new (is_among (implied_types.eligible_signatures ys)) (map (numbered_signature (type_names ys)) ss)) alike_needed)

  alike_type_space : type_space xs ≡ type_space ys
  alike_type_space =
      ap (λ (k : TypeNames). flat_map (types_in k) xs ++ map Some (implied_signatures xs)) alike_names
      ∙ (ap (λ ts. ts ++ map Some (implied_signatures xs)) (alike (λ l. l.types (type_names ys)))
      ∙ ap (λ (ss : List Signature). flat_map (types_in (type_names ys)) ys ++ map Some ss) alike_implied)

  pub alike_positions : position_for xs ≡ position_for ys
  alike_positions i s = option_map (λ p. index.Num p start_of_text) (position (has_signature (numbered_signature (alike_names i) s)) (alike_type_space i))

  pub alike_orders : order_demands xs ≡ order_demands ys
  alike_orders = orders_are xs ∙ (orders_by_looks None xs ∙ (ap (orders_of None) h.looks ∙ (sym (orders_by_looks None ys) ∙ sym (orders_are ys))))

  pub alike_wants : type_id_count xs ≡ type_id_count ys
  alike_wants =
      ap (λ m. m + length (implied_signatures xs)) (wanted_by_looks xs
      ∙ (ap (missing_id_count (λ (l : Look). l.lacks)) h.looks ∙ sym (wanted_by_looks ys)))
      ∙ ap (λ (ss : List Signature). missing_id_count lacks_id ys + length ss) alike_implied

module _ (n : ℕ) (fields : List ModuleField) where
  pub written_looks : LookAlike (desugared_from n fields) (desugared_by_position fields)
  written_looks = record { looks = fields_alike Any (look_blind n) n [] fields (omega arith) (all_any n [] fields) }

  -- What is the same for each part is the same with the appended types.
  pub completed_alike : {X : Type 0} {give : ModuleField → X} (Same : Space → Index → Index → Type 0) → IsBlind Same n give → AllOwn Same n [] fields
      → map give (fields_with_implied_types (desugared_from n fields)) ≡ map give (fields_with_implied_types (desugared_by_position fields))
  completed_alike {give = give} Same blind own =
      map-append give (desugared_from n fields) (map unnamed_type (implied_signatures (desugared_from n fields)))
      ∙ (ap (λ ys. ys ++ map give (map unnamed_type (implied_signatures (desugared_from n fields)))) (fields_alike Same blind n [] fields (omega arith) own)
      ∙ (ap (λ ss. map give (desugared_by_position fields) ++ map give (map unnamed_type ss)) (alike_implied written_looks)
      ∙ sym (map-append give (desugared_by_position fields) (map unnamed_type (implied_signatures (desugared_by_position fields))))))

  pub completed_looks : LookAlike (fields_with_implied_types (desugared_from n fields)) (fields_with_implied_types (desugared_by_position fields))
  completed_looks = record { looks = completed_alike Any (look_blind n) (all_any n [] fields) }
