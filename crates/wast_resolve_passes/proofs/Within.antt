-- Indices inside a function: locals by their ids, and labels by the enclosing blocks.
use Rattle.std.proofs.Common.{◌≡◌, ℕ, List, [], ◌∷◌, ◌++◌, Option, Some, None, is_some, codes, Result, Ok, Err, refl, sym, ap, ◌∙◌, append-nil}
use Rattle.std.specs.FinMap.{get-empty}
use Rattle.std.specs.Prelude.{⊤, ◌+◌, option_map}
use Rattle.wast_base.specs.Blocks.{Blocks}
use Rattle.wast_base.specs.declared.faults.Error.{Error}
use Rattle.wast_base.specs.Faults.{diagnostic_of}
use Rattle.wast_base.specs.Ids.{Name, Mark, name_of, mark_of, mark_of_option}
use Rattle.wast_resolve_labels.specs.Asked.{number_among, wrong_label}
use Rattle.wast_base.specs.FirstUnmet.{unknown_demand}
use Rattle.wast_base.specs.Order.{key_of, key_cmp}
use Rattle.wast_resolve_namespace.specs.Namespaces.{empty_from}
use Rattle.wast_base.specs.Outcomes.{Outcome}
use Rattle.wast_resolve_passes.specs.Tree.{Id, Index}
use Rattle.wast_resolve_passes.specs.Tree.index
use Rattle.wast_resolve_rules.specs.Scopes.{Scope, local_number}
use Rattle.wast_resolve_rules.specs.Resolved.{numbered_by, resolved_index}
use Rattle.wast_resolve_rules.specs.Demands.{first_unmet, known_index, site_demands, repeated_demand}
use Rattle.wast_resolve_passes.specs.Locals.{LocalSpace, local_in, Numbers}
use Rattle.wast_resolve_names.specs.Walking.{Walks}
use Rattle.wast_resolve_rules.proofs.Unmet.{answers_more}
use Rattle.wast_tree_nodes.specs.Sites.{Locals, LocalAt, Repeated, constant_context}

-- if names have the same numbers, indices do
module _ (f g : Name → Option ℕ) (same : (name : Name) → f name ≡ g name) where
  pub same_known : (word : List ℕ) (i : Index) → known_index f word i ≡ known_index g word i
  same_known word (index.Num n p) = refl
  same_known word (index.Id id) = ap (λ o. unknown_demand word (mark_of id) (is_some o)) (same (name_of id))

  pub same_numbered : (i : Index) → resolved_index f i ≡ resolved_index g i
  same_numbered (index.Num n p) = refl
  same_numbered (index.Id id) = ap (λ o. numbered_by o id) (same (name_of id))

-- a local
pub local_walked : (M : Type 0) (c : Scope) (l : Locals) (s : LocalSpace) (i new : Index) (result : Result (Unit {0}) Error) → Numbers c l s
    → Outcome ⊥ ⊥ (first_unmet (known_index (local_in s) (codes "local") i)) result → new ≡ resolved_index (local_in s) i
    → Walks ⊤ M (site_demands c (LocalAt l i ∷ [])) (resolved_index (local_number c l) i) new result
local_walked M c l s i new (Ok x) h met is = (
  ap first_unmet (append-nil (known_index (local_number c l) (codes "local") i)
      ∙ sym (same_known (local_in s) (local_number c l) h (codes "local") i)) ∙ met,
  is ∙ same_numbered (local_in s) (local_number c l) h i,
)
local_walked M c l s i new (Err e) h unmet is =
    let all = append-nil (known_index (local_number c l) (codes "local") i) ∙ sym (same_known (local_in s) (local_number c l) h (codes "local") i) in
    answers_more (diagnostic_of e) _ _ (λ l. absurd l) (λ m. absurd m) (λ f g. ap first_unmet all ∙ g) unmet

-- a label that no enclosing block has
pub label_unmet : (blocks : Blocks) (i : Index) → first_unmet (known_index (number_among blocks) (codes "label") i) ≡ first_unmet
    (known_index (number_among blocks) (codes "label") i ++ [])
label_unmet blocks i = ap first_unmet (sym (append-nil (known_index (number_among blocks) (codes "label") i)))

-- a label that is not expected
pub repeated_unmet : (blocks : Blocks) (m : Option Mark) → wrong_label blocks m ≡ first_unmet (repeated_demand blocks m ++ [])
repeated_unmet blocks None = refl
repeated_unmet blocks (Some m) = refl

-- a label at an `else` or an `end`
pub label_checked : (M : Type 0) (c : Scope) (blocks : Blocks) (o : Option Id) (result : Result (Unit {0}) Error)
    → Outcome ⊥ ⊥ (wrong_label blocks (mark_of_option o)) result
    → Walks ⊤ M (site_demands c (Repeated blocks (mark_of_option o) ∷ [])) o o result
label_checked M c blocks o (Ok x) h = (sym (repeated_unmet blocks (mark_of_option o)) ∙ h, refl)
label_checked M c blocks o (Err e) h = answers_more (diagnostic_of e) _ _ (λ l. absurd l) (λ m. absurd m)
    (λ f g. sym (repeated_unmet blocks (mark_of_option o)) ∙ g) h

-- a constant expression has no locals
pub none_numbers : (c : Scope) (s : LocalSpace) → s ≡ record { space = empty_from 0; nameless = 0 } → Numbers c constant_context.locals s
none_numbers c s is name = ap (λ (s : LocalSpace). local_in s name) is ∙ ap (option_map (λ n. 0 + n)) (get-empty key_cmp (key_of name))
