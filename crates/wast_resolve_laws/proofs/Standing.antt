-- The checks of the resolved fields are those of the fields, with each index numbered; and functions declare the same
-- ids.
use Rattle.std.proofs.Common.{◌≡◌, Bool, true, ◌&&◌, List, ◌++◌, map, refl, sym, ap, ◌∙◌}
use Rattle.std.specs.Prelude.{Option, Some, None}
use Rattle.std.specs.List.{flat_map, list_all}
use Rattle.std.specs.Cmp.{first_so}
use Rattle.std.proofs.lemmas.List.Folds.{list_all-map}
use Rattle.wast_tree_nodes.specs.Sites.{Check, ItemIndex, Where, OfItem, OfCall, OfBlock, Site, Used, if_there, in_index, in_signature}
use Rattle.wast_tree_nodes.specs.Sites.{in_type_use, asked_in, checks_of, in_module}
use Rattle.wast_tree_nodes.specs.Types.{inline_alone}
use Rattle.wast_tree_map.specs.Mapped.{Change, KeepsMarks, mapped_ask, mapped_site, mapped_func_kind, mapped_field}
use Rattle.wast_tree_map.proofs.Ways.{index_in, both_at, option_at}
use Rattle.wast_tree_map.proofs.Types.{signature_at}
use Rattle.wast_tree_map.proofs.Fields.{marks_stay}
use Rattle.wast_tree_map.proofs.Kept.{stands_in}
use Rattle.wast_tree_map.proofs.Laws.{stands}
use Rattle.wast_resolve_laws.specs.Tree.{Index, FunctionType, TypeUse, FuncKind, ModuleField}
use Rattle.wast_resolve_laws.specs.Tree.space
use Rattle.wast_resolve_laws.specs.Tree.func
use Rattle.wast_resolve_rules.specs.Scopes.{Scope}
use Rattle.wast_resolve_rules.specs.Demands.{kind_marks}
use Rattle.wast_resolve_rules.specs.Resolved.{numbered_at, numbered_use, resolved_use, numbering_change}
use Rattle.wast_resolve_laws.proofs.ImpliedSignatures.{all_pass, all_parts}
use Rattle.wast_resolve_rules.proofs.Numbering.{numbering_keeps}

module _ (c : Scope) where
  pub use_stands : (u : TypeUse FunctionType) → in_type_use (numbered_use c.known u) ≡ map (mapped_ask (numbered_at c.known)) (in_type_use u)
  use_stands u = stands_in (u.index, u.inline) (both_at u.index u.inline (option_at (index_in space.Ty) u.index) (option_at signature_at u.inline))
      (numbering_change c) (numbering_keeps c)

  -- the checks of a site after numbering, also of its inline type beside an index
  abbrev pub numbered_in : Site → List Check
  numbered_in (Used w u) = map (mapped_ask (numbered_at c.known)) (in_type_use u)
  numbered_in s = asked_in (mapped_site (numbering_change c) s)

  -- A property of these holds for the checks afterwards, because no inline type is added.
  module _ (ok : Check → Bool) where
    said_passes : (i : Option Index) (inline : Option FunctionType) → list_all ok (if_there (in_index space.Ty) i ++ if_there in_signature inline) ≡ true
        → list_all ok (if_there (in_index space.Ty) i ++ if_there in_signature (inline_alone i inline)) ≡ true
    said_passes None inline h = h
    said_passes (Some i) inline h = ap (λ b. b && true) (first_so (ok (ItemIndex space.Ty i)) (list_all ok (if_there in_signature inline)) h)

    use_passes : (w : Where) (u : TypeUse FunctionType) → list_all ok (map (mapped_ask (numbered_at c.known)) (in_type_use u)) ≡ true
        → list_all ok (in_type_use (resolved_use c.known w u)) ≡ true
    use_passes OfItem u h = ap (list_all ok) (use_stands u) ∙ h
    use_passes OfCall u h = said_passes (numbered_use c.known u).index (numbered_use c.known u).inline (ap (list_all ok) (use_stands u) ∙ h)
    use_passes OfBlock u h = said_passes (numbered_use c.known u).index (numbered_use c.known u).inline (ap (list_all ok) (use_stands u) ∙ h)

    site_passes : (s : Site) → list_all ok (numbered_in s) ≡ true → list_all ok (asked_in (mapped_site (numbering_change c) s)) ≡ true
    site_passes (Used w u) h = use_passes w u h
    site_passes s h = h

    pub sites_pass : (ss : List Site) → list_all ok (flat_map numbered_in ss) ≡ true
        → list_all ok (checks_of (map (mapped_site (numbering_change c)) ss)) ≡ true
    sites_pass ss h =
        all_parts ok asked_in (map (mapped_site (numbering_change c)) ss)
        ∙ (list_all-map (λ s. list_all ok (asked_in s)) (mapped_site (numbering_change c)) ss
        ∙ all_pass (λ s. list_all ok (numbered_in s)) (λ s. list_all ok (asked_in (mapped_site (numbering_change c) s))) site_passes ss
        (sym (all_parts ok numbered_in ss) ∙ h))

    pub asked_passes : (fields : List ModuleField) → list_all ok (flat_map numbered_in (in_module fields)) ≡ true
        → list_all ok (checks_of (in_module (map (mapped_field (numbering_change c)) fields))) ≡ true
    asked_passes fields h = ap (λ ss. list_all ok (checks_of ss)) (stands (numbering_change c) (numbering_keeps c) fields) ∙ sites_pass (in_module fields) h

-- The declarations of a function are the same if the ids of its locals are.
pub kind_declared : (f : Change) → KeepsMarks f → (u : TypeUse FunctionType) (k : FuncKind) → kind_marks (mapped_func_kind f u k) ≡ kind_marks k
kind_declared f keeps u (func.Import import exact) = refl
kind_declared f keeps u (func.Inline locals e) = marks_stay f keeps locals
