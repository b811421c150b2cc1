-- Type uses have the same checks in the expansion by ids as in the one by positions, if the ids have these positions as
-- numbers.
use Rattle.std.proofs.Common.{◌≡◌, ℕ, false, List, [], ◌∷◌, map, Option, Some, None, is_some, refl, sym, ap, ◌∙◌, ◌++◌}
use Rattle.std.specs.Prelude.{codes}
use Rattle.std.specs.Option.{option_or}
use Rattle.wast_base.specs.Ids.{name_of, mark_of}
use Rattle.wast_base.specs.Faults.{Cause}
use Rattle.wast_base.specs.Spaces.{word_of}
use Rattle.wast_tree_nodes.specs.Sites.{ItemIndex, Site, Asked, LocalAt, in_module, FieldAt}
use Rattle.wast_tree_map.specs.Mapped.{Change, mapped_locals, mapped_site}
use Rattle.wast_tree_map.specs.Laws.{all_mapped}
use Rattle.wast_tree_map.proofs.Laws.{stands}
use Rattle.wast_expand_inline.specs.Written.{desugared_from, desugared_by_position}
use Rattle.wast_expand_keys.specs.Completed.{fields_with_implied_types}
use Rattle.wast_resolve_laws.specs.Tree.space
use Rattle.wast_resolve_laws.specs.Tree.{Index, Space, Span, ModuleField}
use Rattle.wast_resolve_laws.specs.Tree.index
use Rattle.wast_resolve_rules.specs.Scopes.{Scope}
use Rattle.wast_resolve_rules.specs.Demands.{first_unmet, unknown_demand, site_demand, site_demands, access_demand, field_at}
use Rattle.wast_resolve_rules.specs.Resolved.{numbered_by, numbered_at}
use Rattle.wast_resolve_laws.proofs.Nameless.{by_names}
use Rattle.wast_resolve_rules.proofs.Unmet.{first_unmet-or}
use Rattle.wast_resolve_laws.proofs.WrittenSame.{AllOwn}
use Rattle.wast_resolve_laws.proofs.WrittenOwn.{Numbers}
use Rattle.wast_resolve_laws.proofs.WrittenTold.{telling_numbers, told_alike}

-- the first check that fails of some sites
abbrev first_of : List (Option (Cause × Span)) → Option (Cause × Span)
first_of [] = None
first_of (o ∷ os) = option_or o (first_of os)

-- An index that is still an id is unknown.
abbrev unmet_at : Space → Index → Option (Cause × Span)
unmet_at s (index.Num n p) = None
unmet_at s (index.Id id) = first_unmet (unknown_demand (word_of s) (mark_of id) false)

module _ (c : Scope) where
  -- the indices outside of type uses are numbers
  abbrev numbers : Change
  numbers = telling_numbers c.known (λ w u. u) (λ l i. i) (λ o i. i) (λ b i. i)

  abbrev unmet : Site → Option (Cause × Span)
  unmet (Asked (ItemIndex s i)) = unmet_at s i
  unmet s = first_unmet (site_demand c s)

  index_unmet : (s : Space) (i : Index) → first_unmet (site_demand c (Asked (ItemIndex s i))) ≡ unmet_at s (numbered_at c.known s i)
  index_unmet s (index.Num n p) = refl
  index_unmet s (index.Id id) = by_number (c.known.number s (name_of id))
    where
      by_number : (o : Option ℕ) → first_unmet (unknown_demand (word_of s) (mark_of id) (is_some o)) ≡ unmet_at s (numbered_by o id)
      by_number None = refl
      by_number (Some n) = refl

  access_unmet : (owner i : Index) → first_unmet (access_demand c owner i) ≡ first_unmet (access_demand c (numbered_at c.known space.Ty owner) i)
  access_unmet (index.Num n p) i = refl
  access_unmet (index.Id id) i = by_number (c.known.number space.Ty (name_of id)) refl
    where
      by_number : (o : Option ℕ) → c.known.number space.Ty (name_of id) ≡ o
          → first_unmet (unknown_demand (word_of space.Ty) (mark_of id) (is_some o) ++ field_at c.types o i) ≡ first_unmet
          (access_demand c (numbered_by o id) i)
      by_number None is = ap (λ o. first_unmet (unknown_demand (word_of space.Ty) (mark_of id) (is_some o) ++ field_at c.types o i)) (sym is)
      by_number (Some n) is = refl

  site_unmet : (s : Site) → first_unmet (site_demand c s) ≡ unmet (mapped_site numbers s)
  site_unmet (Asked (ItemIndex s i)) = index_unmet s i
  site_unmet (LocalAt locals i) = ap first_unmet (by_names c locals (codes "local") i ∙ sym (by_names c (mapped_locals numbers locals) (codes "local") i))
  site_unmet (FieldAt owner i) = access_unmet owner i
  site_unmet s = refl

  sites_unmet : (ss : List Site) → first_unmet (site_demands c ss) ≡ first_of (map unmet (map (mapped_site numbers) ss))
  sites_unmet [] = refl
  sites_unmet (s ∷ ss) =
      first_unmet-or (site_demand c s) (site_demands c ss)
      ∙ (ap (λ o. option_or o (first_unmet (site_demands c ss))) (site_unmet s) ∙ ap (option_or (unmet (mapped_site numbers s))) (sites_unmet ss))

  fields_unmet : (xs : List ModuleField) → first_unmet (site_demands c (in_module xs)) ≡ first_of (map unmet (in_module (all_mapped numbers xs)))
  fields_unmet xs = sites_unmet (in_module xs) ∙ ap (λ ss. first_of (map unmet ss)) (sym (stands numbers (record { params = λ u. refl; owns = λ o. refl }) xs))

  pub written_uses : (n : ℕ) (fields : List ModuleField) → AllOwn (Numbers c.known) n [] fields
      → first_unmet (site_demands c (in_module (fields_with_implied_types (desugared_from n fields)))) ≡ first_unmet
      (site_demands c (in_module (fields_with_implied_types (desugared_by_position fields))))
  written_uses n fields own =
      fields_unmet (fields_with_implied_types (desugared_from n fields))
      ∙ (ap (λ xs. first_of (map unmet (in_module xs))) (told_alike c.known (λ w u. u) (λ l i. i) (λ o i. i) (λ b i. i) n fields own)
      ∙ sym (fields_unmet (fields_with_implied_types (desugared_by_position fields))))
