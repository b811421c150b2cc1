-- Two lists are the same, apart from generated ids and positions of indices in type uses, if their indices and type
-- uses get the same numbers.
use Rattle.std.proofs.Common.{◌≡◌, ℕ, ◌+◌, Bool, true, false, List, [], ◌∷◌, Option, Some, None, option_map, refl, sym, ap, ◌∙◌}
use Rattle.wast_base.specs.Ids.{Name}
use Rattle.wast_base.specs.Spaces.{position_of}
use Rattle.wast_tree_nodes.specs.Sites.{Check, ItemIndex, InnerIndex, PlainId, Clause, Covered, Where, OfItem, OfCall, OfBlock, Site, Asked}
use Rattle.wast_tree_nodes.specs.Sites.{Used, LocalAt, FieldAt, LabelAt, if_there, in_index, in_signature, in_type_use, in_module, asked_in}
use Rattle.wast_tree_nodes.specs.Sites.{checks_of}
use Rattle.wast_tree_nodes.specs.Known.{IdContext}
use Rattle.wast_tree_nodes.specs.Types.{inline_alone}
use Rattle.wast_tree_map.specs.Mapped.{Change, no_change, compose, mapped_signature, JoinsAsk, Joins, Each}
use Rattle.wast_tree_map.specs.Laws.{all_mapped}
use Rattle.wast_tree_map.proofs.Ways.{each_first, each_rest, option_at}
use Rattle.wast_tree_map.proofs.Types.{signature_at}
use Rattle.wast_tree_map.proofs.Laws.{twice, same_keeps, alike}
use Rattle.wast_tree_map.proofs.Kept.{joins_in}
use Rattle.wast_expand_keys.specs.Signatures.{Signature}
use Rattle.wast_expand_keys.specs.NeedingUses.{inline_signature, needs_type}
use Rattle.wast_expand_keys.specs.Expanders.{LookUp}
use Rattle.wast_expand_keys.specs.Expanded.{bound_if, bound_index, bound_inline, bound_use, binding_change}
use Rattle.wast_expand_types.proofs.Staying.{binding_keeps}
use Rattle.wast_resolve_laws.specs.Tree.{Index, FunctionType, TypeUse, ModuleField}
use Rattle.wast_resolve_laws.specs.Tree.space
use Rattle.wast_resolve_rules.specs.Scopes.{Shape, Scope, denoted, type_at, field_in, implicit_param_count}
use Rattle.wast_resolve_rules.specs.Resolved.{resolved_index, numbered_at, numbering_change}
use Rattle.wast_resolve_rules.specs.Stripped.{at_start, stripping}
use Rattle.wast_resolve_laws.proofs.Bodies.{Stands, all_stand}
use Rattle.wast_resolve_laws.proofs.Nameless.{number_of, denoted_number, number_at, unsaid_alike}
use Rattle.wast_resolve_rules.proofs.Numbering.{numbering_keeps}

-- fields with resolved type uses, once each index is a number: one change
abbrev pub telling : Scope → LookUp → Change
telling c find = compose (compose (binding_change find) (numbering_change c)) stripping

pub one_pass : (c : Scope) (find : LookUp) (xs : List ModuleField)
    → all_mapped stripping (all_mapped (numbering_change c) (all_mapped (binding_change find) xs)) ≡ all_mapped (telling c find) xs
one_pass c find xs =
    ap (all_mapped stripping) (twice (binding_change find) (numbering_change c) (binding_keeps find) xs)
    ∙ twice (compose (binding_change find) (numbering_change c)) stripping
    (record { params = λ u. (numbering_keeps c).params ((binding_change find).used OfItem u); owns = λ o. refl }) xs

-- a local by its name, after some unnamed parameters
abbrev behind_nameless : List (Option Name) → Index → ℕ → Index
behind_nameless names i n = resolved_index (λ name. option_map (λ p. n + p) (position_of name names)) i

module _ (c d : Scope) where
  -- an index that is looked up has the same number, and so has each
  abbrev pub SameAsk : Check → Type 0
  SameAsk a = JoinsAsk no_change.index (numbered_at c.known) (numbered_at d.known) a

  abbrev pub Same : List Check → Type 0
  Same asks = Each SameAsk asks

  abbrev inline_at : IdContext → Option FunctionType → Option FunctionType
  inline_at k t = option_map (mapped_signature (numbered_at k)) t

  inline_alike : (t : Option FunctionType) → Same (if_there in_signature t) → inline_at c.known t ≡ inline_at d.known t
  inline_alike t h =
      let a = option_at signature_at t in
      ap (inline_at c.known) (sym a.still) ∙ joins_in t a no_change (numbering_change c) (numbering_change d) (record {
        keeps = same_keeps;
        ids = λ o. refl;
        owns = λ o. refl;
      }) h

  -- the empty inline type of a block has no index
  given_alike : (w : Where) (i : Option Index) (t : Option FunctionType) → inline_at c.known t ≡ inline_at d.known t
      → inline_at c.known (bound_inline w i t) ≡ inline_at d.known (bound_inline w i t)
  given_alike OfItem i t h = h
  given_alike OfCall i t h = h
  given_alike OfBlock (Some i) t h = h
  given_alike OfBlock None (Some t) h = h
  given_alike OfBlock None None h = refl

  -- whether there is an index does not depend on its position
  alone_at : (i : Option Index) (t : Option FunctionType) → inline_alone i t ≡ inline_alone (option_map at_start i) t
  alone_at None t = refl
  alone_at (Some i) t = refl

  alone_alike : (i j : Option Index) (t u : Option FunctionType) → option_map at_start i ≡ option_map at_start j → t ≡ u → inline_alone i t ≡ inline_alone j u
  alone_alike i j t u same inline = alone_at i t ∙ (ap (λ o. inline_alone o t) same ∙ (sym (alone_at j t) ∙ ap (inline_alone j) inline))

  module _ (find other : LookUp) (found : (s : Signature) → number_at c.known (find s) ≡ number_at d.known (other s)) where
    found_if : (b : Bool) (s : Signature) → number_at c.known (bound_if b (find s)) ≡ number_at d.known (bound_if b (other s))
    found_if true s = found s
    found_if false s = refl

    index_alike : (w : Where) (i : Option Index) (t : Option FunctionType) → Same (if_there (in_index space.Ty) i)
        → number_at c.known (bound_index find w i t) ≡ number_at d.known (bound_index other w i t)
    index_alike w None t h = found_if (needs_type w t) (inline_signature t)
    index_alike w (Some i) t h = ap (λ j. Some (at_start j)) h.0

    its_index : (w : Where) (u : TypeUse FunctionType) → Same (in_type_use u)
        → number_at c.known (bound_index find w u.index u.inline) ≡ number_at d.known (bound_index other w u.index u.inline)
    its_index w u h = index_alike w u.index u.inline (each_first SameAsk (if_there (in_index space.Ty) u.index) (if_there in_signature u.inline) h)

    use_alike : (w : Where) (u : TypeUse FunctionType) → Same (in_type_use u) → (telling c find).used w u ≡ (telling d other).used w u
    use_alike w u h = by_place w (its_index w u h)
        (given_alike w u.index u.inline (inline_alike u.inline (each_rest SameAsk (if_there (in_index space.Ty) u.index) (if_there in_signature u.inline) h)))
      where
        by_place : (w : Where)
            → number_at c.known (bound_index find w u.index u.inline) ≡ number_at d.known (bound_index other w u.index u.inline)
            → inline_at c.known (bound_inline w u.index u.inline) ≡ inline_at d.known (bound_inline w u.index u.inline)
            → (telling c find).used w u ≡ (telling d other).used w u
        by_place OfItem index inline i = record { index = index i; inline = inline i }
        by_place OfCall index inline i = record { index = index i; inline = alone_alike _ _ _ _ index inline i }
        by_place OfBlock index inline i = record { index = index i; inline = alone_alike _ _ _ _ index inline i }

    -- A local is in a function whose type use is the same, so as many parameters are unnamed.
    module _ (types : c.types ≡ d.types) where
      nameless_alike : (o : Option (TypeUse FunctionType)) → Same (if_there in_type_use o)
          → implicit_param_count c (option_map (λ u. bound_use find OfItem u) (option_map (λ u. u) o)) ≡ implicit_param_count d
          (option_map (λ u. bound_use other OfItem u) o)
      nameless_alike None h = refl
      nameless_alike (Some u) h = unsaid_alike c d types (bound_index find OfItem u.index u.inline)
          (bound_index other OfItem u.index u.inline) u.inline (its_index OfItem u h)

      -- A field is in the type that its owner names.
      field_alike : (owner i : Index) → numbered_at c.known space.Ty owner ≡ numbered_at d.known space.Ty owner
          → resolved_index (field_in (type_at c.types (denoted (c.known.number space.Ty) owner))) i ≡ resolved_index
          (field_in (type_at d.types (denoted (d.known.number space.Ty) owner))) i
      field_alike owner i same =
          let number_alike = denoted_number (c.known.number space.Ty) owner
          ∙ (ap (λ j. number_of (at_start j)) same ∙ sym (denoted_number (d.known.number space.Ty) owner)) in
          ap (λ o. resolved_index (field_in (type_at c.types o)) i) number_alike
          ∙ ap (λ (ts : List Shape). resolved_index (field_in (type_at ts (denoted (d.known.number space.Ty) owner))) i) types

      site_alike : (s : Site) → Same (asked_in s) → Stands SameAsk s → Joins no_change (telling c find) (telling d other) s
      site_alike (Asked (ItemIndex s i)) h o = h.0
      site_alike (Asked (InnerIndex i)) h o = tt
      site_alike (Asked (PlainId m)) h o = tt
      site_alike (Asked (Clause n holds)) h o = tt
      site_alike (Asked (Covered form holds)) h o = tt
      site_alike (Used w u) h o = use_alike w u h
      site_alike (LocalAt locals i) h o = ap (behind_nameless locals.names i) (nameless_alike locals.owner o)
      site_alike (FieldAt owner i) h o = (h.0, field_alike owner i h.0)
      site_alike (LabelAt blocks i) h o = refl
      site_alike x h o = tt

      sites_alike : (ss : List Site) → Same (checks_of ss) → Each (Stands SameAsk) ss → Each (Joins no_change (telling c find) (telling d other)) ss
      sites_alike [] h o = tt
      sites_alike (s ∷ ss) h o = (
        site_alike s (each_first SameAsk (asked_in s) (checks_of ss) h) o.0,
        sites_alike ss
            (each_rest SameAsk (asked_in s) (checks_of ss) h) o.1,
      )

      pub all_same : (xs : List ModuleField) → Same (checks_of (in_module xs)) → all_mapped (telling c find) xs ≡ all_mapped (telling d other) xs
      all_same xs h = alike (telling c find) (telling d other) (λ o. refl) (λ o. refl) xs (sites_alike (in_module xs) h (all_stand SameAsk xs h))
