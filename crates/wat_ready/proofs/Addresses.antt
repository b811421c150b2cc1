-- Whether the checks of a tree pass does not depend on the addresses of its texts. So a tree is well formed if its bare tree is what the
-- rules read.
use Rattle.std.proofs.Common.{◌≡◌, ◌∙◌, Bool, true, not, List, [], ◌∷◌, ◌++◌, map, Option, None, Some, option_map, IsTrue, refl, sym, ap, subst}
use Rattle.std.proofs.lemmas.List.{map-append}
use Rattle.wast_base.specs.Ids.{Name, Mark, mark_of_option, is_generated, place_of}
use Rattle.wast_tree_nodes.specs.Items.{items}
use Rattle.wast_tree_nodes.specs.Known.{id_context}
use Rattle.wast_tree_nodes.specs.Sites.{Check, ItemIndex, InnerIndex, PlainId, Clause, Covered, Site, Asked, Used, Declared, LocalAt}
use Rattle.wast_tree_nodes.specs.Sites.{FieldAt, LabelAt, Repeated, Begins, Ends, in_type_use, mark_asked, asked_in, checks_of, in_module}
use Rattle.wast_tree_nodes.specs.Sites.{param_marks}
use Rattle.wast_tree_nodes.specs.WellFormed.{is_well_formed, is_written_index}
use Rattle.wast_tree_map.specs.Named.{RenamesIds, renamed_mark, identity_naming, named_ask, named_site}
use Rattle.wast_tree_map.proofs.Laws.{stands_named}
use Rattle.wast_tree_map.proofs.Types.{signature_at}
use Rattle.wast_tree_map.proofs.Ways.{index_in, both_at, option_at}
use Rattle.wat_syntax.specs.Tree.{Id, Index, Space, NameAnnotation, ValType, TypeUse, FunctionType, ModuleField}
use Rattle.wat_syntax.specs.Tree.index
use Rattle.wat_syntax.specs.Tree.space
use Rattle.wat_syntax.specs.Bare.{bare_id, bare_index}
use Rattle.wat_syntax.specs.BareFields.{bare_fields}
use Rattle.wat_ready.specs.Erasing.{erased, erased_use, erased_type, erased_fields}
use Rattle.wat_ready.proofs.Checks.{IsOk, all_pass}
use Rattle.wat_ready.proofs.Erased.{name_kept, bare_is_erased}
use Rattle.wat_ready.proofs.Parses.{Each}
use Rattle.wat_ready.proofs.ShownSites.{checks_shown}

-- The change keeps the names of ids.
mark_kept : (o : Option Id) → mark_of_option (option_map bare_id o) ≡ renamed_mark identity_naming (mark_of_option o)
mark_kept None = refl
mark_kept (Some id) = ap (λ (n : Name). let m : Mark = (n, place_of id) in Some m) (name_kept id.name)

abbrev Param : Type 0
Param = Option Id × Option NameAnnotation × ValType

params_kept : (o : Option FunctionType) → param_marks (option_map erased_type o) ≡ map (renamed_mark identity_naming) (param_marks o)
params_kept None = refl
params_kept (Some t) = each t.params
  where
    each : (ps : List Param) → param_marks (Some (erased_type (record { params = ps; results = t.results }))) ≡ map (renamed_mark identity_naming)
        (param_marks (Some (record { params = ps; results = t.results })))
    each [] = refl
    each (p ∷ ps) = λ i. mark_kept p.0 i ∷ each ps i

names : RenamesIds identity_naming erased
names = record { params = λ u. params_kept u.inline; owns = mark_kept }

-- A function of checks that does not see the addresses of ids.
pub record Ignores {A : Type 0} (p : Check → A) : Type 0 where
  pub item : (s : Space) (i : Index) → p (ItemIndex s (bare_index i)) ≡ p (ItemIndex s i)
  pub inner : (i : Index) → p (InnerIndex (bare_index i)) ≡ p (InnerIndex i)

-- Its values are the same after the change.
module _ {A : Type 0} (p : Check → A) (ignores : Ignores p) where
  check_same : (c : Check) → p (named_ask identity_naming erased.index c) ≡ p c
  check_same (ItemIndex s i) = ignores.item s i
  check_same x = refl

  asks_same : (cs : List Check) → map p (map (named_ask identity_naming erased.index) cs) ≡ map p cs
  asks_same [] = refl
  asks_same (c ∷ cs) = λ i. check_same c i ∷ asks_same cs i

  use_same : (u : TypeUse FunctionType) → map p (in_type_use (erased_use u)) ≡ map p (in_type_use u)
  use_same u =
      ap (map p) ((both_at u.index u.inline (option_at (index_in space.Ty) u.index) (option_at signature_at u.inline)).stands identity_naming erased names)
      ∙ asks_same (in_type_use u)

  mark_same : (m : Option Mark) → map p (mark_asked (renamed_mark identity_naming m)) ≡ map p (mark_asked m)
  mark_same None = refl
  mark_same (Some m) = refl

  site_same : (s : Site) → map p (asked_in (named_site identity_naming erased s)) ≡ map p (asked_in s)
  site_same (Asked a) = λ i. check_same a i ∷ []
  site_same (Used w u) = use_same u
  site_same (Declared before m) = refl
  site_same (LocalAt locals i) = λ t. ignores.inner i t ∷ []
  site_same (FieldAt owner i) = λ t. ignores.item space.Ty owner t ∷ ignores.inner i t ∷ []
  site_same (LabelAt blocks i) = λ t. ignores.inner i t ∷ []
  site_same (Repeated blocks m) = mark_same m
  site_same (Begins blocks m) = mark_same m
  site_same Ends = refl

  sites_same : (ss : List Site) → map p (checks_of (map (named_site identity_naming erased) ss)) ≡ map p (checks_of ss)
  sites_same [] = refl
  sites_same (s ∷ ss) =
      map-append p (asked_in (named_site identity_naming erased s)) (checks_of (map (named_site identity_naming erased) ss))
      ∙ ((λ i. site_same s i ++ sites_same ss i) ∙ sym (map-append p (asked_in s) (checks_of ss)))

  pub checks_erased : (xs : List ModuleField) → map p (checks_of (in_module (erased_fields xs))) ≡ map p (checks_of (in_module xs))
  checks_erased xs = ap (λ ss. map p (checks_of ss)) (stands_named identity_naming erased names xs) ∙ sites_same (in_module xs)

-- Whether a check passes, in whatever module.
abbrev verdict : Check → Bool
verdict (ItemIndex s i) = is_written_index i
verdict (InnerIndex i) = is_written_index i
verdict (PlainId m) = not (is_generated m.0)
verdict (Clause n holds) = holds
verdict (Covered f holds) = true

verdict_of : (c : Check) → IsOk c → verdict c ≡ true
verdict_of (ItemIndex s i) p = p
verdict_of (InnerIndex i) p = p
verdict_of (PlainId m) p = p
verdict_of (Clause n holds) p = p
verdict_of (Covered f holds) p = refl

ok_of : (c : Check) → verdict c ≡ true → IsOk c
ok_of (ItemIndex s i) p = p
ok_of (InnerIndex i) p = p
ok_of (PlainId m) p = p
ok_of (Clause n holds) p = p
ok_of (Covered f holds) p = tt

-- It is the same for the bare tree.
written_kept : (i : Index) → is_written_index (bare_index i) ≡ is_written_index i
written_kept (index.Num n span) = refl
written_kept (index.Id id) = ap (λ (n : Name). not (is_generated n)) (name_kept id.name)

verdicts_same : (xs : List ModuleField) → map verdict (checks_of (in_module (bare_fields xs))) ≡ map verdict (checks_of (in_module xs))
verdicts_same xs =
    ap (λ ys. map verdict (checks_of (in_module ys))) (bare_is_erased xs)
    ∙ (ap (map verdict) (checks_shown (erased_fields xs)) ∙ checks_erased verdict (record { item = λ s i. written_kept i; inner = written_kept }) xs)

-- A list of checks that pass.
abbrev AllTrue : List Bool → Type 0
AllTrue bs = Each (λ b. b ≡ true) bs

verdicts : (cs : List Check) → Each IsOk cs → AllTrue (map verdict cs)
verdicts [] p = tt
verdicts (c ∷ cs) p = (verdict_of c p.0, verdicts cs p.1)

oks : (cs : List Check) → AllTrue (map verdict cs) → Each IsOk cs
oks [] p = tt
oks (c ∷ cs) p = (ok_of c p.0, oks cs p.1)

-- If the checks of the bare tree pass, the tree is well formed.
pub well_formed_too : (xs : List ModuleField) → Each IsOk (checks_of (in_module (bare_fields xs))) → IsTrue (is_well_formed xs)
well_formed_too xs p =
    all_pass (id_context (items xs)) (checks_of (in_module xs))
    (oks (checks_of (in_module xs)) (subst AllTrue (verdicts_same xs) (verdicts (checks_of (in_module (bare_fields xs))) p)))
