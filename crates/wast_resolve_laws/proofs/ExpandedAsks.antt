-- The checks of the expanded fields are those of the fields with the appended types, and those of the types of type
-- uses.
use Rattle.std.proofs.Common.{◌≡◌, ℕ, ◌+◌, Bool, true, false, List, [], ◌∷◌, ◌++◌, map, append_assoc, Option, Some, None, refl, sym, ap, ◌∙◌}
use Rattle.std.proofs.lemmas.Grind.{flat_map-append}
use Rattle.wast_base.specs.Filling.{one_if, given_if, with_ids_from, missing_id_count}
use Rattle.wast_tree_nodes.specs.Sites.{Check, ItemIndex, Where, OfBlock, Site, Asked, Used, if_there, in_index, in_signature, in_type_use}
use Rattle.wast_tree_nodes.specs.Sites.{asked_in, checks_of, in_field, in_module}
use Rattle.wast_tree_map.specs.Mapped.{mapped_ask, mapped_site}
use Rattle.wast_tree_map.proofs.Laws.{stands}
use Rattle.wast_expand_keys.specs.Signatures.{Signature}
use Rattle.wast_expand_keys.specs.NeedingUses.{inline_signature, needs_type}
use Rattle.wast_expand_keys.specs.ImpliedTypes.{implied_signatures}
use Rattle.wast_expand_keys.specs.Expanders.{LookUp}
use Rattle.wast_expand_keys.specs.Expanded.{lacks_id, with_type_id, unnamed_type, implied_types, fields_with_types, bound_if, bound_index}
use Rattle.wast_expand_keys.specs.Expanded.{bound_inline, bound_use, binding_change, bound_field}
use Rattle.wast_expand_keys.specs.Completed.{fields_with_implied_types}
use Rattle.wast_expand_types.proofs.Staying.{binding_keeps}
use Rattle.wast_resolve_laws.specs.Tree.{Index, FunctionType, TypeUse, ModuleField}
use Rattle.wast_resolve_laws.specs.Tree.space
use Rattle.wast_resolve_laws.specs.Tree.field

-- Resolving type uses leaves other checks unchanged.
pub bound_ask : (find : LookUp) (a : Check) → mapped_ask (binding_change find).index a ≡ a
bound_ask find (ItemIndex s i) = refl
bound_ask find a = refl

-- A property that depends on each check, and on those of the fields, depends on the checks of the fields.
module _ {M : Type 0} (find : LookUp) (measure : List Check → M) (each : (a : Check) (ps qs : List Check) → measure ps ≡ measure qs
    → measure (a ∷ ps) ≡ measure (a ∷ qs))
    (skip : (s : Signature) (i : Index) (ps : List Check) → find s ≡ Some i → measure (ItemIndex space.Ty i ∷ ps) ≡ measure ps) where
  after : (cs ps qs : List Check) → measure ps ≡ measure qs → measure (cs ++ ps) ≡ measure (cs ++ qs)
  after [] ps qs h = h
  after (c ∷ cs) ps qs h = each c (cs ++ ps) (cs ++ qs) (after cs ps qs h)

  index_measure : (w : Where) (i : Option Index) (inline : Option FunctionType) (ps qs : List Check) → measure ps ≡ measure qs
      → measure (if_there (in_index space.Ty) (bound_index find w i inline) ++ ps) ≡ measure (if_there (in_index space.Ty) i ++ qs)
  index_measure w (Some j) inline ps qs h = each (ItemIndex space.Ty j) ps qs h
  index_measure w None inline ps qs h = by_need (needs_type w inline)
    where
      found : (o : Option Index) → find (inline_signature inline) ≡ o → measure (if_there (in_index space.Ty) o ++ ps) ≡ measure qs
      found None e = h
      found (Some i) e = skip (inline_signature inline) i ps e ∙ h

      by_need : (b : Bool) → measure (if_there (in_index space.Ty) (bound_if b (find (inline_signature inline))) ++ ps) ≡ measure qs
      by_need true = found (find (inline_signature inline)) refl
      by_need false = h

  -- the empty inline type of a block has no check
  given_asks : (w : Where) (i : Option Index) (inline : Option FunctionType) → if_there in_signature (bound_inline w i inline) ≡ if_there in_signature inline
  given_asks OfBlock (Some i) inline = refl
  given_asks OfBlock None (Some t) = refl
  given_asks OfBlock None None = refl
  given_asks x i inline = refl

  use_measure : (w : Where) (u : TypeUse FunctionType) (ps qs : List Check) → measure ps ≡ measure qs
      → measure (in_type_use (bound_use find w u) ++ ps) ≡ measure (in_type_use u ++ qs)
  use_measure w u ps qs h =
      let new = if_there (in_index space.Ty) (bound_index find w u.index u.inline) in
      let old = if_there (in_index space.Ty) u.index in
      let rest = if_there in_signature u.inline in
      ap (λ asks. measure ((new ++ asks) ++ ps)) (given_asks w u.index u.inline)
      ∙ (ap measure (append_assoc new rest ps) ∙ (index_measure w u.index u.inline (rest ++ ps) (rest ++ qs) (after rest ps qs h)
      ∙ ap measure (sym (append_assoc old rest qs))))

  site_measure : (s : Site) (ps qs : List Check) → measure ps ≡ measure qs → measure (asked_in (mapped_site (binding_change find) s) ++ ps) ≡ measure
      (asked_in s ++ qs)
  site_measure (Asked a) ps qs h = ap (λ b. measure (b ∷ ps)) (bound_ask find a) ∙ each a ps qs h
  site_measure (Used w u) ps qs h = use_measure w u ps qs h
  site_measure s ps qs h = after (asked_in s) ps qs h

  sites_measure : (ss : List Site) → measure (checks_of (map (mapped_site (binding_change find)) ss)) ≡ measure (checks_of ss)
  sites_measure [] = refl
  sites_measure (s ∷ ss) = site_measure s (checks_of (map (mapped_site (binding_change find)) ss)) (checks_of ss) (sites_measure ss)

  pub bound_measure : (xs : List ModuleField) → measure (checks_of (in_module (map (bound_field find) xs))) ≡ measure (checks_of (in_module xs))
  bound_measure xs = ap (λ ss. measure (checks_of ss)) (stands (binding_change find) (binding_keeps find) xs) ∙ sites_measure (in_module xs)

-- Ids have no check.
named_asks : (b : Bool) (n : ℕ) (x : ModuleField) → in_field (given_if b with_type_id n x) ≡ in_field x
named_asks false n x = refl
named_asks true n (field.Ty t) = refl
named_asks true n x = refl

filled_asks : (n : ℕ) (xs : List ModuleField) → in_module (with_ids_from lacks_id with_type_id n xs) ≡ in_module xs
filled_asks n [] = refl
filled_asks n (x ∷ xs) = ap (λ os. os ++ in_module (with_ids_from lacks_id with_type_id (n + one_if (lacks_id x)) xs)) (named_asks (lacks_id x) n x)
    ∙ ap (λ os. in_field x ++ os) (filled_asks (n + one_if (lacks_id x)) xs)

implied_asks : (n : ℕ) (ss : List Signature) → in_module (implied_types n ss) ≡ in_module (map unnamed_type ss)
implied_asks n [] = refl
implied_asks n (s ∷ ss) = ap (λ os. in_field (unnamed_type s) ++ os) (implied_asks (n + 1) ss)

pub typed_asks : (n : ℕ) (fields : List ModuleField) → in_module (fields_with_types n fields) ≡ in_module (fields_with_implied_types fields)
typed_asks n fields =
    let m : ℕ = n + missing_id_count lacks_id fields in
    flat_map-append in_field (with_ids_from lacks_id with_type_id n fields) (implied_types m (implied_signatures fields))
    ∙ (ap (λ os. os ++ in_module (implied_types m (implied_signatures fields))) (filled_asks n fields)
    ∙ (ap (λ os. in_module fields ++ os) (implied_asks m (implied_signatures fields))
    ∙ sym (flat_map-append in_field fields (map unnamed_type (implied_signatures fields)))))
