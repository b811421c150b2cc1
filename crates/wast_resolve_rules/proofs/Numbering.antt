-- Numbering indices keeps the ids of the parameters in a type use, and those inside items.
use Rattle.std.proofs.Common.{◌≡◌, List, [], ◌∷◌, refl, ap, map, Option, Some, None, option_map}
use Rattle.wast_base.specs.Ids.{mark_of_option}
use Rattle.wast_tree_nodes.specs.Sites.{param_marks}
use Rattle.wast_tree_map.specs.Mapped.{Indices, KeepsMarks, mapped_param, mapped_signature}
use Rattle.wast_resolve_rules.specs.Tree.{Id, NameAnnotation, ValType, FunctionType}
use Rattle.wast_resolve_rules.specs.Scopes.{Scope}
use Rattle.wast_resolve_rules.specs.Resolved.{numbered_at, numbering_change}

module _ (f : Indices) where
  params_keep : (ps : List (Option Id × Option NameAnnotation × ValType))
      → map (λ p. mark_of_option p.0) (map (mapped_param f) ps) ≡ map (λ p. mark_of_option p.0) ps
  params_keep [] = refl
  params_keep (p ∷ ps) = ap (λ ms. mark_of_option p.0 ∷ ms) (params_keep ps)

  pub inline_keeps : (inline : Option FunctionType) → param_marks (option_map (mapped_signature f) inline) ≡ param_marks inline
  inline_keeps None = refl
  inline_keeps (Some t) = params_keep t.params

pub numbering_keeps : (c : Scope) → KeepsMarks (numbering_change c)
numbering_keeps c = record { params = λ u. inline_keeps (numbered_at c.known) u.inline; owns = λ o. refl }
