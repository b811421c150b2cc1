-- The ids of parameters and locals, and their numbers. Only contracts of private functions use this.
--
--   (type (func (param i32))) (func (type 0) (local $l i32))      $l is number 1, after the unnamed parameter
use Rattle.std.specs.Prelude.{⊤, ◌≡◌, ℕ, ◌+◌, ◌<◌, ◌≤◌, ◌^◌, List, [], ◌∷◌, ◌++◌, length, map, Option, Some, None, Result, IfErr, OnOk, option_map, codes}
use Rattle.wast_base.specs.declared.faults.Error.{Error}
use Rattle.wast_base.specs.Ids.{Name, Mark, mark_of_option}
use Rattle.wast_base.specs.Faults.{Cause, Duplicate, diagnostic_of}
use Rattle.wast_base.specs.Spaces.{name_if, position_of}
use Rattle.wast_tree_nodes.specs.Sites.{Site, Locals, local_marks, param_marks, declaration_sites, in_func_kind}
use Rattle.wast_resolve_passes.specs.Tree.{Span, Id, NameAnnotation, ValType, FunctionType, TypeUse, Local, FuncKind}
use Rattle.wast_resolve_passes.specs.Tree.func
use Rattle.wast_resolve_rules.specs.Scopes.{Scope, implicit_param_count, local_number}
use Rattle.wast_resolve_rules.specs.Demands.{first_unmet, site_demands, declared_ids, open_counts, Answers}
use Rattle.wast_resolve_namespace.specs.Namespaces.{NameSpace, number_in}

-- the parameters of an inline type
abbrev pub params_in : Option FunctionType → List (Option Id × Option NameAnnotation × ValType)
params_in None = []
params_in (Some t) = t.params

-- the declarations before a body, after some parameters; an inline import has none
abbrev pub body_declarations : List (Option Mark) → FuncKind → List Site
body_declarations params (func.Import import exact) = []
body_declarations params (func.Inline locals e) = declaration_sites [] (params ++ local_marks locals)

-- the ids of parameters, then those of locals
abbrev pub marks : {A B : Type 0} → (A → Option Mark) → (B → Option Mark) → List A → List B → List (Option Mark)
marks f g xs ys = map f xs ++ map g ys

-- the same for the AST types
abbrev pub marks_of : List (Option Id × Option NameAnnotation × ValType) → List Local → List (Option Mark)
marks_of params locals = marks (λ p. mark_of_option p.0) (λ l. mark_of_option l.id) params locals

-- the names of ids
abbrev pub names : List (Option Mark) → List (Option Name)
names ms = map name_if ms

-- the error of a duplicate id
abbrev pub said_of : Option Mark → Option (Cause × Span)
said_of m = option_map (λ (m : Mark). (Duplicate (codes "local"), m.1)) m

-- ids with their numbers, after some unnamed parameters
pub record LocalSpace : Type 0 where
  pub space : NameSpace
  pub nameless : ℕ

-- the number of a name
abbrev pub local_in : LocalSpace → Name → Option ℕ
local_in s name = option_map (λ n. s.nameless + n) (number_in s.space name)

-- Each number is below 2^32.
abbrev pub AreFew : LocalSpace → Type 0
AreFew s = (name : Name) (n : ℕ) → number_in s.space name ≡ Some n → s.nameless + n < 2 ^ 32

-- A name has its position after some unnamed ones as its number.
abbrev pub NumbersFrom : ℕ → List (Option Name) → LocalSpace → Type 0
NumbersFrom behind names s = (name : Name) → local_in s name ≡ option_map (λ p. behind + p) (position_of name names)

-- Names have the numbers of these parameters and locals.
abbrev pub Numbers : Scope → Locals → LocalSpace → Type 0
Numbers c l s = (name : Name) → local_in s name ≡ local_number c l name

-- the parameters and locals of a function
abbrev pub locals_in : TypeUse FunctionType → FuncKind → Locals
locals_in u k = record { owner = Some u; names = names (declared_ids u.inline k) }

-- the same if the function has a body
abbrev pub NumbersIn : Scope → Locals → FuncKind → LocalSpace → Type 0
NumbersIn c l (func.Import import exact) s = ⊤
NumbersIn c l (func.Inline locals e) s = Numbers c l s

-- Two type uses have the same parameters: as many unnamed ones, and the same ids.
pub record SaysAsMuch (c : Scope) (u v : TypeUse FunctionType) : Type 0 where
  pub nameless : implicit_param_count c (Some v) ≡ implicit_param_count c (Some u)
  pub marks : param_marks v.inline ≡ param_marks u.inline

-- the number of parameters and locals of a function, and the numbers of enclosing blocks
abbrev pub kind_counts : Scope → TypeUse FunctionType → FuncKind → List ℕ
kind_counts c u k = (implicit_param_count c (Some u) + length (declared_ids u.inline k)) ∷ open_counts (in_func_kind u k)

-- The result of collecting ids of locals: no duplicate, or the error of the first; or E12; or E10 if there are 2^32.
abbrev pub NamesLocals : {T : Type 0} → Scope → ℕ → List Site → ℕ → Result T Error → Type 0
NamesLocals c nameless sites count result =
    OnOk result (first_unmet (site_demands c sites) ≡ None) × IfErr result (λ e. Answers ⊤ (2 ^ 32 ≤ nameless + count) (diagnostic_of e) (first_unmet (site_demands c sites)))
