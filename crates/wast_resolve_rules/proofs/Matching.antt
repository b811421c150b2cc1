-- An inline type matches the same types before and after its indices are numbered.
use Rattle.std.proofs.Common.{◌≡◌, ◌&&◌, List, [], ◌∷◌, map, Option, Some, None, option_map, refl, ap, ◌∙◌}
use Rattle.std.specs.Bool.{beq}
use Rattle.wast_base.specs.Ids.{span_of_index}
use Rattle.wast_base.proofs.Numbered.{denoted_still, span_still}
use Rattle.wast_tree_nodes.specs.Known.{IdContext}
use Rattle.wast_tree_map.specs.Mapped.{mapped_heap, mapped_val, mapped_param, mapped_signature}
use Rattle.wast_expand_keys.specs.Signatures.{Signature, type_of_param, same_heap_by, same_value_by, same_values_by}
use Rattle.wast_resolve_rules.specs.Tree.{Id, Index, NameAnnotation, HeapType, ValType, FunctionType, TypeUse}
use Rattle.wast_resolve_rules.specs.Tree.index
use Rattle.wast_resolve_rules.specs.Tree.space
use Rattle.wast_resolve_rules.specs.Tree.heap
use Rattle.wast_resolve_rules.specs.Tree.value
use Rattle.wast_resolve_rules.specs.Scopes.{Shape, Function, Struct, Other, Scope, denoted, type_at}
use Rattle.wast_resolve_rules.specs.Matches.{same_number, same_type, signatures_match}
use Rattle.wast_resolve_rules.specs.Demands.{match_with, match_demands, match_if}
use Rattle.wast_resolve_rules.specs.Resolved.{numbered_at, numbered_use}

module _ (k : IdContext) where
  same_index_still : (i j : Index) → same_type k (numbered_at k space.Ty i) j ≡ same_type k i j
  same_index_still i j = ap (λ o. same_number o (denoted (k.number space.Ty) j)) (denoted_still (k.number space.Ty) i)

  same_heap_still : (a b : HeapType) → same_heap_by (same_type k) (mapped_heap (numbered_at k) a) b ≡ same_heap_by (same_type k) a b
  same_heap_still (heap.Abstract s a) b = refl
  same_heap_still (heap.Concrete i) (heap.Concrete j) = same_index_still i j
  same_heap_still (heap.Concrete i) (heap.Abstract t b) = refl
  same_heap_still (heap.Concrete i) (heap.Exact j) = refl
  same_heap_still (heap.Exact i) (heap.Exact j) = same_index_still i j
  same_heap_still (heap.Exact i) (heap.Abstract t b) = refl
  same_heap_still (heap.Exact i) (heap.Concrete j) = refl

  same_value_still : (a b : ValType) → same_value_by (same_type k) (mapped_val (numbered_at k) a) b ≡ same_value_by (same_type k) a b
  same_value_still (value.Ref r) (value.Ref q) = ap (λ b. beq r.nullable q.nullable && b) (same_heap_still r.heap q.heap)
  same_value_still a b = refl

  same_values_still : (vs ws : List ValType) → same_values_by (same_type k) (map (mapped_val (numbered_at k)) vs) ws ≡ same_values_by (same_type k) vs ws
  same_values_still [] ws = refl
  same_values_still (v ∷ vs) [] = refl
  same_values_still (v ∷ vs) (w ∷ ws) =
      ap (λ b. b && same_values_by (same_type k) (map (mapped_val (numbered_at k)) vs) ws) (same_value_still v w)
      ∙ ap (λ b. same_value_by (same_type k) v w && b) (same_values_still vs ws)

  types_of_params : (ps : List (Option Id × Option NameAnnotation × ValType))
      → map type_of_param (map (mapped_param (numbered_at k)) ps) ≡ map (mapped_val (numbered_at k)) (map type_of_param ps)
  types_of_params [] = refl
  types_of_params (p ∷ ps) = ap (λ vs. mapped_val (numbered_at k) p.2 ∷ vs) (types_of_params ps)

  matches_still : (t : FunctionType) (s : Signature) → signatures_match k (mapped_signature (numbered_at k) t) s ≡ signatures_match k t s
  matches_still t s =
      let same = same_type k in
      ap (λ vs. same_values_by same vs s.0 && same_values_by same (map (mapped_val (numbered_at k)) t.results) s.1) (types_of_params t.params)
      ∙ (ap (λ b. b && same_values_by same (map (mapped_val (numbered_at k)) t.results) s.1) (same_values_still (map type_of_param t.params) s.0)
      ∙ ap (λ b. same_values_by same (map type_of_param t.params) s.0 && b) (same_values_still t.results s.1))

module _ (c : Scope) where
  with_still : (t : FunctionType) (i : Index) (o : Option Shape)
      → match_with (signatures_match c.known (mapped_signature (numbered_at c.known) t)) (span_of_index (numbered_at c.known space.Ty i)) o
      ≡ match_with (signatures_match c.known t) (span_of_index i) o
  with_still t i None = ap (λ p. match_with (signatures_match c.known t) p None) (span_still (c.known.number space.Ty) i)
  with_still t i (Some (Struct number)) = ap (λ p. match_with (signatures_match c.known t) p (Some (Struct number))) (span_still (c.known.number space.Ty) i)
  with_still t i (Some Other) = ap (λ p. match_with (signatures_match c.known t) p (Some Other)) (span_still (c.known.number space.Ty) i)
  with_still t i (Some (Function s)) =
      ap (λ p. match_with (signatures_match c.known (mapped_signature (numbered_at c.known) t)) p (Some (Function s))) (span_still (c.known.number space.Ty) i)
      ∙ ap (λ b. match_with (λ u. b) (span_of_index i) (Some (Function s))) (matches_still c.known t s)

  demands_still : (i : Index) (t : FunctionType)
      → match_demands c (numbered_at c.known space.Ty i) (mapped_signature (numbered_at c.known) t) ≡ match_demands c i t
  demands_still i t =
      ap (λ o. match_with (signatures_match c.known (mapped_signature (numbered_at c.known) t)) (span_of_index (numbered_at c.known space.Ty i))
      (type_at c.types o)) (denoted_still (c.known.number space.Ty) i)
      ∙ with_still t i (type_at c.types (denoted (c.known.number space.Ty) i))

  -- the same for a type use
  pub matched_still : (u : TypeUse FunctionType) → match_if c (numbered_use c.known u).index (numbered_use c.known u).inline ≡ match_if c u.index u.inline
  matched_still u = by_parts u.index u.inline
    where
      by_parts : (i : Option Index) (inline : Option FunctionType)
          → match_if c (option_map (numbered_at c.known space.Ty) i) (option_map (mapped_signature (numbered_at c.known)) inline) ≡ match_if c i inline
      by_parts None None = refl
      by_parts None (Some t) = refl
      by_parts (Some i) None = refl
      by_parts (Some i) (Some t) = demands_still i t
