-- The checks of a site that passed still pass once each index is a number.
use Rattle.std.proofs.Common.{◌≡◌, ℕ, ◌+◌, List, [], ◌∷◌, ◌++◌, map, Option, Some, None, option_map, is_some, refl, ap, ◌∙◌, append-nil}
use Rattle.std.specs.Prelude.{if◌then◌else◌, codes}
use Rattle.std.specs.List.{slice_get}
use Rattle.std.proofs.lemmas.Option.{slice_get-map}
use Rattle.std.proofs.lemmas.Grind.{flat_map-append}
use Rattle.wast_base.specs.declared.ids.Span.{Span}
use Rattle.wast_base.specs.Faults.{Cause}
use Rattle.wast_base.specs.Ids.{name_of, mark_of, span_of_index}
use Rattle.wast_base.specs.Spaces.{word_of}
use Rattle.wast_base.proofs.Numbered.{denoted_still, span_still}
use Rattle.wast_resolve_labels.specs.OpenBlocks.{label_depth}
use Rattle.wast_tree_nodes.specs.Known.{IdContext, id_context}
use Rattle.wast_tree_nodes.specs.Types.{said_once, inline_alone}
use Rattle.wast_tree_nodes.specs.Sites.{ItemIndex, Where, OfItem, OfCall, OfBlock, Site, Asked, Used, Declared, LocalAt, FieldAt, LabelAt}
use Rattle.wast_tree_nodes.specs.Sites.{Repeated, Begins, Ends, if_there, in_index, in_signature, in_type_use}
use Rattle.wast_tree_map.specs.Mapped.{mapped_site, mapped_signature}
use Rattle.wast_tree_map.specs.Mapped.{mapped_locals}
use Rattle.wast_resolve_rules.specs.Scopes.{field_in}
use Rattle.wast_resolve_rules.specs.Demands.{named_field}
use Rattle.wast_resolve_laws.specs.Tree.{Id, Index, FunctionType, TypeUse}
use Rattle.wast_resolve_laws.specs.Tree.index
use Rattle.wast_resolve_laws.specs.Tree.space
use Rattle.wast_resolve_rules.specs.Scopes.{Shape, Function, Struct, Other, Scope, denoted, type_at, local_number, field_number}
use Rattle.wast_resolve_rules.specs.Matches.{signatures_match}
use Rattle.wast_resolve_rules.specs.Demands.{first_unmet, ask_demand, ask_demands, match_with, match_demands, match_if, field_at}
use Rattle.wast_resolve_rules.specs.Demands.{access_demand, site_demand, site_demands}
use Rattle.wast_resolve_rules.specs.Resolved.{numbered_by, resolved_index, numbered_at, numbered_use, resolved_use, numbering_change}
use Rattle.wast_resolve_rules.proofs.Unmet.{met_parts}
use Rattle.wast_resolve_laws.proofs.NumberedTypes.{met_both, met_index, numbered_shape, with_still, ask_rests, index_asks, inline_asks, both_asks}

-- In the scope of a list, and in that of the numbered list.
module _ (c : Scope) where
  abbrev k : IdContext
  k = c.known

  abbrev pub rested : Scope
  rested = record { known = c.known; types = map (numbered_shape c.known) c.types }

  pub at_still : (o : Option ℕ) → type_at rested.types o ≡ option_map (numbered_shape k) (type_at c.types o)
  at_still None = refl
  at_still (Some n) = slice_get-map (numbered_shape k) c.types n

  match_still : (i : Index) (t : FunctionType) → match_demands rested (numbered_at k space.Ty i) (mapped_signature (numbered_at k) t) ≡ match_demands c i t
  match_still i t =
      let number = k.number space.Ty in
      (λ j. match_with (signatures_match k (mapped_signature (numbered_at k) t)) (span_still number i j) (type_at rested.types (denoted_still number i j)))
      ∙ (ap (match_with (signatures_match k (mapped_signature (numbered_at k) t)) (span_of_index i)) (at_still (denoted number i))
      ∙ with_still k (span_of_index i) t (type_at c.types (denoted number i)))

  if_still : (o : Option Index) (t : Option FunctionType)
      → match_if rested (option_map (numbered_at k space.Ty) o) (option_map (mapped_signature (numbered_at k)) t) ≡ match_if c o t
  if_still None None = refl
  if_still None (Some t) = refl
  if_still (Some i) None = refl
  if_still (Some i) (Some t) = match_still i t

  -- a type use with an inline type, and one with an index alone
  asks_of : (o : Option Index) (t : Option FunctionType) → first_unmet (ask_demands k (if_there (in_index space.Ty) o ++ if_there in_signature t)) ≡ None
      → ask_demands k (if_there (in_index space.Ty) (option_map (numbered_at k space.Ty) o) ++ if_there in_signature
      (option_map (mapped_signature (numbered_at k)) t)) ≡ []
  asks_of o t h =
      let p = both_asks k o t h in
      flat_map-append (ask_demand k) (if_there (in_index space.Ty) (option_map (numbered_at k space.Ty) o))
      (if_there in_signature (option_map (mapped_signature (numbered_at k)) t))
      ∙ (λ i. index_asks k o p.0 i ++ inline_asks k t p.1 i)

  once_asks : (o : Option Index) (t : Option FunctionType) → first_unmet (ask_demands k (if_there (in_index space.Ty) o ++ if_there in_signature t)) ≡ None
      → ask_demands k (in_type_use (said_once (numbered_use k (record { index = o; inline = t })))) ++ match_if rested
      (option_map (numbered_at k space.Ty) o) (inline_alone (option_map (numbered_at k space.Ty) o) (option_map (mapped_signature (numbered_at k)) t)) ≡ []
  once_asks None t h = λ i. asks_of None t h i ++ none t i
    where
      none : (t : Option FunctionType) → match_if rested None (option_map (mapped_signature (numbered_at k)) t) ≡ []
      none None = refl
      none (Some t) = refl
  once_asks (Some j) t h = λ i. asks_of (Some j) None (alone (both_asks k (Some j) t h).0) i ++ []
    where
      alone : first_unmet (ask_demands k (if_there (in_index space.Ty) (Some j))) ≡ None
          → first_unmet (ask_demands k (if_there (in_index space.Ty) (Some j) ++ [])) ≡ None
      alone e = ap (λ asks. first_unmet (ask_demands k asks)) (append-nil (if_there (in_index space.Ty) (Some j))) ∙ e

  use_rests : (w : Where) (u : TypeUse FunctionType) → first_unmet (site_demand c (Used w u)) ≡ None
      → first_unmet (site_demand rested (Used w (resolved_use k w u))) ≡ None
  use_rests OfItem u h =
      let p = met_parts (ask_demands k (in_type_use u)) (match_if c u.index u.inline) h in
      ap first_unmet (λ i. asks_of u.index u.inline p.0 i ++ if_still u.index u.inline i) ∙ p.1
  use_rests OfCall u h = ap first_unmet (once_asks u.index u.inline (met_parts (ask_demands k (in_type_use u)) (match_if c u.index u.inline) h).0)
  use_rests OfBlock u h = ap first_unmet (once_asks u.index u.inline (met_parts (ask_demands k (in_type_use u)) (match_if c u.index u.inline) h).0)

  -- a struct field access
  field_rests : (types : List Shape) (o : Option ℕ) (i : Index) → first_unmet (field_at c.types o i) ≡ None
      → field_at types o (resolved_index (field_in (type_at c.types o)) i) ≡ []
  field_rests types None i h = refl
  field_rests types (Some n) (index.Num m p) h = refl
  field_rests types (Some n) (index.Id id) h = by (slice_get c.types n) h
    where
      by_number : (f : Cause) (s : Span) (o : Option ℕ) → first_unmet (record { fault = f; place = s; met = is_some o } ∷ []) ≡ None
          → field_at types (Some n) (numbered_by o id) ≡ []
      by_number f s None h = absurd (cc h)
      by_number f s (Some m) h = refl

      by : (o : Option Shape) → first_unmet (named_field n o (mark_of id)) ≡ None → field_at types (Some n) (numbered_by (field_in o (name_of id)) id) ≡ []
      by None h = absurd (cc h)
      by (Some (Function s)) h = absurd (cc h)
      by (Some (Struct number)) h = by_number _ _ (number (name_of id)) h
      by (Some Other) h = absurd (cc h)

  access_rests : (owner i : Index) → first_unmet (access_demand c owner i) ≡ None
      → access_demand rested (numbered_at k space.Ty owner) (resolved_index (field_number c owner) i) ≡ []
  access_rests owner i h =
      let number = k.number space.Ty in
      let p = met_parts (ask_demand k (ItemIndex space.Ty owner)) (field_at c.types (denoted number owner) i) h in
      λ j. met_index number number (word_of space.Ty) owner p.0 j ++ (ap (λ o. field_at rested.types o (resolved_index (field_number c owner) i))
      (denoted_still number owner) ∙ field_rests rested.types (denoted number owner) i p.1) j

  site_rests : (s : Site) → first_unmet (site_demand c s) ≡ None → first_unmet (site_demand rested (mapped_site (numbering_change c) s)) ≡ None
  site_rests (Asked a) h = ap first_unmet (ask_rests k a h)
  site_rests (Used w u) h = use_rests w u h
  site_rests (Declared before m) h = h
  site_rests (LocalAt locals i) h =
      ap first_unmet (met_index (local_number c locals) (local_number rested (mapped_locals (numbering_change c) locals)) (codes "local") i h)
  site_rests (FieldAt owner i) h = ap first_unmet (access_rests owner i h)
  site_rests (LabelAt blocks i) h = ap first_unmet (met_index (λ name. label_depth name blocks) (λ name. label_depth name blocks) (codes "label") i h)
  site_rests (Repeated blocks m) h = h
  site_rests (Begins blocks m) h = refl
  site_rests Ends h = refl

  pub sites_rest : (ss : List Site) → first_unmet (site_demands c ss) ≡ None
      → first_unmet (site_demands rested (map (mapped_site (numbering_change c)) ss)) ≡ None
  sites_rest [] h = refl
  sites_rest (s ∷ ss) h =
      let p = met_parts (site_demand c s) (site_demands c ss) h in
      met_both (site_demand rested (mapped_site (numbering_change c) s)) (site_demands rested (map (mapped_site (numbering_change c)) ss))
      (site_rests s p.0) (sites_rest ss p.1)
