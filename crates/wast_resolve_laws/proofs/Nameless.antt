-- Parameters of a function without an inline type. If two scopes have the same types and the index has the same number
-- in both, the function has as many in both. Whether a name is a local depends on the names alone.
use Rattle.std.proofs.Common.{◌≡◌, ℕ, ◌+◌, List, Option, Some, None, option_map, is_some, refl, sym, ap, ◌∙◌}
use Rattle.wast_base.specs.Ids.{Name, name_of, mark_of}
use Rattle.wast_base.specs.Spaces.{position_of}
use Rattle.wast_tree_nodes.specs.Known.{IdContext}
use Rattle.wast_tree_nodes.specs.Sites.{Locals}
use Rattle.wast_resolve_laws.specs.Tree.{Index, FunctionType}
use Rattle.wast_resolve_laws.specs.Tree.index
use Rattle.wast_resolve_laws.specs.Tree.space
use Rattle.wast_resolve_rules.specs.Scopes.{Scope, denoted, type_at, params_of, unsaid_params, implicit_param_count, local_number}
use Rattle.wast_resolve_rules.specs.Demands.{unknown_demand, known_index}
use Rattle.wast_resolve_rules.specs.Resolved.{numbered_by, resolved_index, numbered_at}
use Rattle.wast_resolve_rules.specs.Stripped.{at_start}

-- After some unnamed parameters a name is known if it is among the names.
behind_some : (n : ℕ) (o : Option ℕ) → is_some (option_map (λ p. n + p) o) ≡ is_some o
behind_some n None = refl
behind_some n (Some p) = refl

pub by_names : (c : Scope) (l : Locals) (word : List ℕ) (i : Index)
    → known_index (local_number c l) word i ≡ known_index (λ name. position_of name l.names) word i
by_names c l word (index.Num n p) = refl
by_names c l word (index.Id id) = ap (unknown_demand word (mark_of id)) (behind_some (implicit_param_count c l.owner) (position_of (name_of id) l.names))

-- the number of an index
abbrev pub number_of : Index → Option ℕ
number_of (index.Num n p) = Some n
number_of (index.Id id) = None

abbrev number_if : Option Index → Option ℕ
number_if None = None
number_if (Some i) = number_of i

pub denoted_number : (number : Name → Option ℕ) (i : Index) → denoted number i ≡ number_of (at_start (resolved_index number i))
denoted_number number (index.Num n p) = refl
denoted_number number (index.Id id) = by_number (number (name_of id))
  where
    by_number : (o : Option ℕ) → o ≡ number_of (at_start (numbered_by o id))
    by_number None = refl
    by_number (Some n) = refl

-- a type use has the number of its index, at offset 0
abbrev pub number_at : IdContext → Option Index → Option Index
number_at k i = option_map at_start (option_map (numbered_at k space.Ty) i)

module _ (c d : Scope) (types : c.types ≡ d.types) where
  pub unsaid_denoted : (i j : Index) → denoted (c.known.number space.Ty) i ≡ denoted (d.known.number space.Ty) j
      → unsaid_params c (Some i) None ≡ unsaid_params d (Some j) None
  unsaid_denoted i j same =
      ap (λ o. params_of (type_at c.types o)) same ∙ ap (λ ts. params_of (type_at ts (denoted (d.known.number space.Ty) j))) types

  pub unsaid_alike : (i j : Option Index) (t : Option FunctionType) → number_at c.known i ≡ number_at d.known j → unsaid_params c i t ≡ unsaid_params d j t
  unsaid_alike i j (Some t) same = refl
  unsaid_alike None None None same = refl
  unsaid_alike None (Some j) None same = absurd (cc same)
  unsaid_alike (Some i) None None same = absurd (cc same)
  unsaid_alike (Some i) (Some j) None same =
      unsaid_denoted i j (denoted_number (c.known.number space.Ty) i ∙ (ap number_if same ∙ sym (denoted_number (d.known.number space.Ty) j)))
