-- Function bodies in which nothing is left to resolve. A walk over fields may skip them.
--
--   (func (type 0) local.get 0 call 1)      its indices are numbers: no check fails, and no index changes
--   (func (type 0) local.get $x)            the id has to be resolved
use Rattle.std.specs.Prelude.{◌≡◌, None}
use Rattle.wast_tree_map.specs.Mapped.{mapped_func_kind}
use Rattle.wast_resolve_rules.specs.Demands.{first_unmet, site_demands}
use Rattle.wast_resolve_rules.specs.Resolved.{numbering_change}
use Rattle.wast_resolve_rules.specs.Scopes.{Scope}
use Rattle.wast_resolve_passes.specs.Locals.{locals_in}
use Rattle.wast_resolve_passes.specs.Standing.{initial_context}
use Rattle.wast_resolve_passes.specs.Tree.{FunctionType, TypeUse, FuncKind, ModuleField}
use Rattle.wast_resolve_passes.specs.Tree.field
use Rattle.wast_resolve_passes.specs.TwoSteps.{in_body, with_locals}

-- Each check in the body of a function passes, and the body does not change. This holds for each type use of the function
-- and each module around it. The types of its locals may change.
pub record IsNumberedBody (k : FuncKind) : Type 0 where
  pub met : (c : Scope) (u : TypeUse FunctionType) → first_unmet (site_demands c (in_body (initial_context (locals_in u k)) k)) ≡ None
  pub stays : (c : Scope) (u : TypeUse FunctionType) → mapped_func_kind (numbering_change c) u k ≡ with_locals (numbering_change c) k

-- the same for a field, if it is a function
abbrev pub IsNumberedField : ModuleField → Type 0
IsNumberedField (field.Func f) = IsNumberedBody f.kind
IsNumberedField x = Unit {0}
