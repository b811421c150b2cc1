-- An index and its number name the same item, so types compare equal.
use Rattle.std.proofs.Common.{◌≡◌, ℕ, ◌+◌, List, [], ◌∷◌, ◌++◌, map, Option, Some, None, option_map, is_some, refl, sym, ap, ◌∙◌, append-nil}
use Rattle.std.proofs.lemmas.Grind.{flat_map-append}
use Rattle.wast_base.specs.declared.ids.Span.{Span}
use Rattle.wast_base.specs.Faults.{Cause}
use Rattle.wast_base.specs.Ids.{Name, name_of}
use Rattle.wast_base.specs.Spaces.{word_of}
use Rattle.wast_base.proofs.Numbered.{denoted_still}
use Rattle.wast_tree_nodes.specs.Known.{IdContext}
use Rattle.wast_tree_nodes.specs.Sites.{Check, ItemIndex, if_there, in_index, in_signature}
use Rattle.wast_tree_map.specs.Mapped.{mapped_ask, mapped_val, mapped_signature}
use Rattle.wast_tree_map.proofs.Kept.{stands_in}
use Rattle.wast_tree_map.proofs.Ways.{option_at}
use Rattle.wast_tree_map.proofs.Types.{signature_at}
use Rattle.wast_expand_keys.specs.Signatures.{Signature, signature_of, same_signature_by}
use Rattle.wast_resolve_laws.specs.Tree.{Id, Index, FunctionType}
use Rattle.wast_resolve_laws.specs.Tree.index
use Rattle.wast_resolve_laws.specs.Tree.space
use Rattle.wast_resolve_laws.specs.Tree.heap
use Rattle.wast_resolve_laws.specs.Tree.value
use Rattle.wast_resolve_rules.specs.Scopes.{Shape, Function, Struct, Other, Scope}
use Rattle.wast_resolve_rules.specs.Matches.{same_number, same_type, signatures_match}
use Rattle.wast_resolve_rules.specs.Demands.{Demand, first_unmet, known_index, ask_demand, ask_demands, match_with}
use Rattle.wast_resolve_rules.specs.Resolved.{numbered_by, resolved_index, numbered_at, numbering_change}
use Rattle.wast_resolve_laws.proofs.OtherNames.{signatures_same, signature_changed}
use Rattle.wast_resolve_rules.proofs.Unmet.{met_parts, first_unmet-append}
use Rattle.wast_resolve_rules.proofs.Numbering.{numbering_keeps}

pub met_both : (ds es : List Demand) → first_unmet ds ≡ None → first_unmet es ≡ None → first_unmet (ds ++ es) ≡ None
met_both ds es h k = first_unmet-append ds es h ∙ k

-- An index whose check passes becomes a number, which has no check.
met_id : (f : Cause) (s : Span) (word : List ℕ) (number : Name → Option ℕ) (id : Id) (o : Option ℕ)
    → first_unmet (record { fault = f; place = s; met = is_some o } ∷ []) ≡ None → known_index number word (numbered_by o id) ≡ []
met_id f s word number id None h = absurd (cc h)
met_id f s word number id (Some k) h = refl

pub met_index : (number other : Name → Option ℕ) (word : List ℕ) (i : Index) → first_unmet (known_index number word i) ≡ None
    → known_index other word (resolved_index number i) ≡ []
met_index number other word (index.Num k p) h = refl
met_index number other word (index.Id id) h = met_id _ _ word other id (number (name_of id)) h

-- Types are compared by the items that their indices name.
module _ (k : IdContext) where
  type_still : (i j : Index) → same_type k (numbered_at k space.Ty i) (numbered_at k space.Ty j) ≡ same_type k i j
  type_still i j = λ t. same_number (denoted_still (k.number space.Ty) i t) (denoted_still (k.number space.Ty) j t)

  abbrev pub numbered_signature : Signature → Signature
  numbered_signature s = (map (mapped_val (numbered_at k)) s.0, map (mapped_val (numbered_at k)) s.1)

  pub matches_still : (t : FunctionType) (s : Signature)
      → signatures_match k (mapped_signature (numbered_at k) t) (numbered_signature s) ≡ signatures_match k t s
  matches_still t s =
      ap (λ u. same_signature_by (same_type k) u (numbered_signature s)) (signature_changed (λ o. o) (numbered_at k) t)
      ∙ signatures_same (numbered_at k) (same_type k) (same_type k) type_still (signature_of t) s

  -- The data of types.
  abbrev pub numbered_shape : Shape → Shape
  numbered_shape (Function s) = Function (numbered_signature s)
  numbered_shape (Struct number) = Struct number
  numbered_shape Other = Other

  -- The checks if there are both.
  pub with_still : (p : Span) (t : FunctionType) (o : Option Shape)
      → match_with (signatures_match k (mapped_signature (numbered_at k) t)) p (option_map numbered_shape o) ≡ match_with (signatures_match k t) p o
  with_still p t None = refl
  with_still p t (Some (Function s)) = ap (λ b. match_with (λ u. b) p (Some (Function s))) (matches_still t s)
  with_still p t (Some (Struct number)) = refl
  with_still p t (Some Other) = refl

  -- Checks that pass.
  pub ask_rests : (a : Check) → first_unmet (ask_demand k a) ≡ None → ask_demand k (mapped_ask (numbered_at k) a) ≡ []
  ask_rests (ItemIndex s i) h = met_index (k.number s) (k.number s) (word_of s) i h
  ask_rests x h = refl

  asks_rest : (asks : List Check) → first_unmet (ask_demands k asks) ≡ None → ask_demands k (map (mapped_ask (numbered_at k)) asks) ≡ []
  asks_rest [] h = refl
  asks_rest (a ∷ asks) h =
      let p = met_parts (ask_demand k a) (ask_demands k asks) h in
      λ i. ask_rests a p.0 i ++ asks_rest asks p.1 i

  pub index_asks : (o : Option Index) → first_unmet (ask_demands k (if_there (in_index space.Ty) o)) ≡ None
      → ask_demands k (if_there (in_index space.Ty) (option_map (numbered_at k space.Ty) o)) ≡ []
  index_asks None h = refl
  index_asks (Some i) h = λ t. met_index (k.number space.Ty) (k.number space.Ty) (word_of space.Ty) i
      (sym (ap first_unmet (append-nil (known_index (k.number space.Ty) (word_of space.Ty) i))) ∙ h) t ++ []

  pub inline_asks : (o : Option FunctionType) → first_unmet (ask_demands k (if_there in_signature o)) ≡ None
      → ask_demands k (if_there in_signature (option_map (mapped_signature (numbered_at k)) o)) ≡ []
  inline_asks o h =
      let c : Scope = record { known = k; types = [] } in
      ap (ask_demands k) (stands_in o (option_at signature_at o) (numbering_change c) (numbering_keeps c)) ∙ asks_rest (if_there in_signature o) h

  pub both_asks : (o : Option Index) (t : Option FunctionType) → first_unmet (ask_demands k (if_there (in_index space.Ty) o ++ if_there in_signature t)) ≡ None
      → (first_unmet (ask_demands k (if_there (in_index space.Ty) o)) ≡ None) × (first_unmet (ask_demands k (if_there in_signature t)) ≡ None)
  both_asks o t h =
      met_parts (ask_demands k (if_there (in_index space.Ty) o)) (ask_demands k (if_there in_signature t))
      (ap first_unmet (sym (flat_map-append (ask_demand k) (if_there (in_index space.Ty) o) (if_there in_signature t))) ∙ h)
