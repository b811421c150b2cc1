-- The index for a signature is the id of a type in the list.
use Rattle.std.proofs.Common.{◌≡◌, ◌≤◌, Bool, true, false, cond, ◌&&◌, ◌||◌, List, [], ◌∷◌, ◌++◌, Option, Some, None, refl, ap, ◌∙◌, arith}
use Rattle.std.specs.List.{list_any}
use Rattle.wast_base.specs.Ids.{name_of, generation_of}
use Rattle.wast_base.specs.Spaces.{name_if, same_space, is_called, is_borne}
use Rattle.wast_tree_nodes.specs.Items.{Item, fields_of, item, items_in, items}
use Rattle.wast_tree_nodes.specs.Known.{names_in}
use Rattle.wast_tree_nodes.specs.Generations.{greatest_item}
use Rattle.wast_tree_nodes.proofs.Bearing.{borne_among, borne_by_both}
use Rattle.wast_expand_keys.specs.Signatures.{Signature, same_signature}
use Rattle.wast_expand_keys.specs.Numbers.{TypeNames}
use Rattle.wast_expand_keys.specs.EligibleTypes.{taken_by}
use Rattle.wast_expand_keys.specs.Expanders.{index_of}
use Rattle.wast_expand_keys.specs.Expanded.{binding_of, bindings}
use Rattle.wast_resolve_laws.specs.Tree.{Id, Index, StructField, ModuleField}
use Rattle.wast_resolve_laws.specs.Tree.index
use Rattle.wast_resolve_laws.specs.Tree.space
use Rattle.wast_resolve_laws.specs.Tree.field
use Rattle.wast_base.proofs.Names.{same_name_itself}

-- the index is the id of a type among the items
pub record IsTypeOf (xs : List Item) (i : Index) : Type 0 where
  pub id : Id
  pub is : i ≡ index.Id id
  pub borne : is_borne (name_of id) (names_in space.Ty xs) ≡ true
  pub below : generation_of (name_of id) ≤ greatest_item xs

or_true : (b c : Bool) → c ≡ true → (b || c) ≡ true
or_true true c h = refl
or_true false c h = h

later : (x : Item) (xs : List Item) (i : Index) → IsTypeOf xs i → IsTypeOf (x ∷ xs) i
later x xs i h = let b = h.below in record {
  id = h.id;
  is = h.is;
  borne = borne_by_both space.Ty (name_of h.id) (x ∷ []) xs
      ∙ or_true (is_borne (name_of h.id) (names_in space.Ty (x ∷ []))) (is_borne (name_of h.id) (names_in space.Ty xs)) h.borne;
  below = omega (arith, b);
}

later_all : (ys xs : List Item) (i : Index) → IsTypeOf xs i → IsTypeOf (ys ++ xs) i
later_all [] xs i h = h
later_all (y ∷ ys) xs i h = later y (ys ++ xs) i (later_all ys xs i h)

here : (xs : List Item) (id : Id) (fields : List StructField) (i : Index) → i ≡ index.Id id → IsTypeOf (item space.Ty (Some id) fields ∷ xs) i
here xs id fields i is = record {
  id = id;
  is = is;
  borne = borne_among space.Ty (name_of id) (item space.Ty (Some id) fields ∷ xs)
      ∙ ap (λ b. b || list_any (λ (x : Item). same_space space.Ty x.space && is_called (name_of id) (name_if x.id)) xs) (same_name_itself (name_of id));
  below = omega arith;
}

pub found : (k : TypeNames) (xs : List ModuleField) (s : Signature) (i : Index) → index_of (bindings k xs) s ≡ Some i → IsTypeOf (items xs) i
found k [] s i h = absurd (cc h)
found k (field.Ty t ∷ xs) s i h = by_taken (taken_by k t.def) t.id (fields_of t.def.kind) (found k xs s i) h
  where
    by_test : (b : Bool) (id : Id) (fs : List StructField) → (index_of (bindings k xs) s ≡ Some i → IsTypeOf (items xs) i)
        → cond b (Some (index.Id id)) (index_of (bindings k xs) s) ≡ Some i → IsTypeOf (item space.Ty (Some id) fs ∷ items xs) i
    by_test true id fs f h = here (items xs) id fs i (cc h)
    by_test false id fs f h = later (item space.Ty (Some id) fs) (items xs) i (f h)

    by_taken : (o : Option Signature) (id : Option Id) (fs : List StructField) → (index_of (bindings k xs) s ≡ Some i → IsTypeOf (items xs) i)
        → index_of (binding_of o id ++ bindings k xs) s ≡ Some i → IsTypeOf (item space.Ty id fs ∷ items xs) i
    by_taken None id fs f h = later (item space.Ty id fs) (items xs) i (f h)
    by_taken (Some t) None fs f h = later (item space.Ty None fs) (items xs) i (f h)
    by_taken (Some t) (Some id) fs f h = by_test (same_signature s t) id fs f h
found k (x ∷ xs) s i h = later_all (items_in x) (items xs) i (found k xs s i h)
