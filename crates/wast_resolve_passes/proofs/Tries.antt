-- Trials: over indices, labels, memory arguments and blocks.
use Rattle.std.proofs.Common.{◌≡◌, List, [], ◌∷◌, ◌++◌, Bool, true, false, Some, None, codes, IsTrue, IsFalse, refl, sym, ap, ◌∙◌, append-nil, arith}
use Rattle.std.specs.List.{flat_map}
use Rattle.std.proofs.lemmas.Bool.{eqb-true}
use Rattle.std.specs.Prelude.{◌==◌, length, map}
use Rattle.wast_base.specs.Blocks.{Blocks}
use Rattle.wast_resolve_labels.specs.Asked.{number_among}
use Rattle.wast_tree_nodes.specs.Sites.{LocalAt, Locals, check_sites, at_label, in_block, in_param, in_select, in_val}
use Rattle.wast_tree_map.specs.Mapped.{mapped_block, mapped_select, named_param}
use Rattle.wast_resolve_rules.specs.Demands.{Demand, first_unmet, known_index, site_demands, use_demand}
use Rattle.wast_resolve_rules.specs.Resolved.{resolved_index, numbering_change}
use Rattle.wast_resolve_rules.specs.Scopes.{Scope, local_number}
use Rattle.wast_resolve_passes.specs.Locals.{LocalSpace, local_in, Numbers}
use Rattle.wast_resolve_passes.specs.Standing.{AreNumbers, HasNoNames, SelectsNumber, OpensBlock}
use Rattle.wast_resolve_passes.specs.Tree.{Index, ValType, SelectTypes, FunctionType, BlockType}
use Rattle.wast_resolve_passes.specs.Tree.index
use Rattle.wast_resolve_names.specs.Walking.{Tries}
use Rattle.wast_resolve_passes.proofs.Within.{same_known, same_numbered, label_unmet}

-- a trial that fails changes nothing
pub tries_not : {T : Type 0} (ds : List Demand) (want old new : T) (b : Bool) → Tries ds want old new b → IsFalse b → new ≡ old
tries_not ds want old new true w h = absurd (cc h)
tries_not ds want old new false w h = w

-- a local
pub local_tried : (c : Scope) (l : Locals) (s : LocalSpace) (i new : Index) (b : Bool) → Numbers c l s
    → Tries (known_index (local_in s) (codes "local") i) (resolved_index (local_in s) i) i new b
    → Tries (site_demands c (LocalAt l i ∷ [])) (resolved_index (local_number c l) i) i new b
local_tried c l s i new true h w = (
  ap first_unmet (append-nil (known_index (local_number c l) (codes "local") i)
      ∙ sym (same_known (local_in s) (local_number c l) h (codes "local") i)) ∙ w.0,
  w.1 ∙ same_numbered (local_in s) (local_number c l) h i,
)
local_tried c l s i new false h w = w

-- a label
pub label_tried : (c : Scope) (blocks : Blocks) (i new : Index) (b : Bool)
    → (IsTrue b → first_unmet (known_index (number_among blocks) (codes "label") i) ≡ None)
    → (IsTrue b → new ≡ resolved_index (number_among blocks) i) → (IsFalse b → new ≡ i)
    → Tries (site_demands c (at_label blocks i)) ((numbering_change c).label blocks i) i new b
label_tried c blocks i new true met is stays = (sym (label_unmet blocks i) ∙ met refl, is refl)
label_tried c blocks i new false met is stays = stays refl

pub no_names : (t : FunctionType) → t.params ≡ [] → AreNumbers t.results → HasNoNames t
no_names t none results = record {
  asks = ap (λ ps. flat_map in_param ps ++ flat_map in_val t.results) none ∙ results.asks;
  stays = λ f i. record { params = (ap (map (named_param (λ o. o) f)) none ∙ sym none) i; results = results.stays f i };
}

pub none_of : {A : Type 0} (xs : List A) → (length xs == 0) ≡ true → xs ≡ []
none_of [] h = refl
none_of (x ∷ xs) h = absurd (omega (arith, eqb-true (length (x ∷ xs)) 0 h))

pub selects_some : (ts : List ValType) → AreNumbers ts → SelectsNumber (record { tys = Some ts })
selects_some ts h = record { asks = h.asks; stays = λ f i. record { tys = Some (h.stays f i) } }

pub select_tried : {U : Type 0} (make : SelectTypes → U) (c : Scope) (t : SelectTypes) (b : Bool) → (IsTrue b → SelectsNumber t)
    → Tries (site_demands c (check_sites (in_select t))) (make (mapped_select (numbering_change c).index t)) (make t) (make t) b
select_tried make c t true h = let s = h refl
    in (ap (λ asks. first_unmet (site_demands c (check_sites asks))) s.asks, ap make (sym (s.stays (numbering_change c).index)))
select_tried make c t false h = refl

pub block_tried : {U : Type 0} (make : BlockType → U) (c : Scope) (block : BlockType) (old new : Blocks) (b : Bool) → OpensBlock block old new b
    → Tries (site_demands c (in_block old block)) (make (mapped_block (numbering_change c) block)) (make block) (make block) b
block_tried make c block old new true h = (
  ap first_unmet (append-nil (use_demand c block.ty))
      ∙ h.0.met c,
  ap make (λ i. record { label = block.label; label_name = block.label_name; ty = (sym (h.0.stays c)) i }),
)
block_tried make c block old new false h = refl
