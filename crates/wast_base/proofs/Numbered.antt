-- Lemmas: an index and its number name the same item, at the same position.
use Rattle.std.proofs.Common.{◌≡◌, ℕ, Option, Some, None, refl, ap, ◌∙◌}
use Rattle.wast_base.specs.declared.ids.Id.{Id}
use Rattle.wast_base.specs.declared.ids.Index.{Index}
use Rattle.wast_base.specs.declared.ids.Index.TheVariants as index
use Rattle.wast_base.specs.Ids.{Name, name_of, place_of, span_of_index}
use Rattle.wast_base.specs.Denoted.{denoted, numbered_by, resolved_index}

pub denoted_still : (number : Name → Option ℕ) (i : Index) → denoted number (resolved_index number i) ≡ denoted number i
denoted_still number (index.Num k p) = refl
denoted_still number (index.Id id) = by (number (name_of id)) refl
  where
    by : (o : Option ℕ) → number (name_of id) ≡ o → denoted number (numbered_by o id) ≡ o
    by None h = h
    by (Some k) h = refl

pub span_still : (number : Name → Option ℕ) (i : Index) → span_of_index (resolved_index number i) ≡ span_of_index i
span_still number (index.Num k p) = refl
span_still number (index.Id id) = by (number (name_of id))
  where
    by : (o : Option ℕ) → span_of_index (numbered_by o id) ≡ place_of id
    by None = refl
    by (Some k) = refl

-- numbering an index twice is the same as once, if both look-ups agree
pub resolved_twice : (number other : Name → Option ℕ) → ((q : Name) → other q ≡ number q) → (i : Index)
    → resolved_index other (resolved_index number i) ≡ resolved_index number i
resolved_twice number other h (index.Num k p) = refl
resolved_twice number other h (index.Id id) = by (number (name_of id)) refl
  where
    by : (o : Option ℕ) → number (name_of id) ≡ o → resolved_index other (numbered_by o id) ≡ numbered_by o id
    by None e = ap (λ o. numbered_by o id) (h (name_of id) ∙ e)
    by (Some k) e = refl
