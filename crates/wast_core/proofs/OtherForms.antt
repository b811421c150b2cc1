-- Renaming keeps the unsupported constructs, because none depends on a name.
use Rattle.std.proofs.Common.{◌≡◌, ◌<◌, List, [], ◌∷◌, ◌++◌, map, Option, Some, None, option_map, refl, sym, ap, ◌∙◌}
use Rattle.std.specs.List.{flat_map}
use Rattle.std.specs.Prelude.{if◌then◌else◌}
use Rattle.std.proofs.lemmas.Grind.{flat_map-append}
use Rattle.wast_base.specs.declared.ids.Span.{Span}
use Rattle.wast_base.specs.Ids.{Mark}
use Rattle.wast_base.specs.Faults.{Cause}
use Rattle.wast_base.specs.declared.faults.Form.{Form}
use Rattle.wast_tree_nodes.specs.Sites.{Check, ItemIndex, Site, Asked, Used, Repeated, Begins, if_there, in_index, in_signature}
use Rattle.wast_tree_nodes.specs.Sites.{in_type_use, mark_asked, asked_in, checks_of, in_module}
use Rattle.wast_tree_nodes.specs.Uncovered.{uncovered_in, uncovered_forms}
use Rattle.wast_tree_map.specs.Mapped.{KeepsMarks, mapped_site}
use Rattle.wast_tree_map.specs.Laws.{all_mapped}
use Rattle.wast_tree_map.specs.Named.{Naming, named_ask, named_site, renamed_mark}
use Rattle.wast_tree_map.proofs.Laws.{stands, stands_named}
use Rattle.wast_tree_map.proofs.Types.{signature_at}
use Rattle.wast_tree_map.proofs.Ways.{index_in, both_at, option_at}
use Rattle.wast_expand_inline.specs.Written.{desugared_from}
use Rattle.wast_resolve_rules.specs.Demands.{first_unmet, demands}
use Rattle.wast_resolve_rules.specs.Explicit.{explicit_fields, by_positions}
use Rattle.wast_resolve_rules.specs.Finished.{resolved_fields_from}
use Rattle.wast_resolve_rules.specs.Resolved.{resolved_fields}
use Rattle.wast_resolve_rules.specs.Stripped.{at_start, stripping}
use Rattle.wast_resolve_laws.specs.Laws.{SamePositions}
use Rattle.wast_resolve_laws.specs.Renaming.{Renaming, IsRenaming, renaming, renamed_use, renamed_fields, told_marks, RenamesFault}
use Rattle.wast_resolve_laws.specs.Renaming.{RenamedAnswer, RenamedPositions, WrittenAnswer, WrittenPositions}
use Rattle.wast_resolve_laws.proofs.OtherNames.{names}
use Rattle.wast_core.specs.Tree.{Index, FunctionType, TypeUse, ModuleField}
use Rattle.wast_core.specs.Tree.space
use Rattle.wast_core.specs.Headline.{IsMet}
use Rattle.wast_core.specs.OtherForms.{SameForms, RenamedForms, WrittenForms}

-- The unsupported constructs among checks.
abbrev forms : List Check → List Form
forms asks = flat_map uncovered_in asks

-- A change of sites that keeps the constructs of each site keeps those of all.
sites_keep : (f : Site → Site) → ((s : Site) → forms (asked_in (f s)) ≡ forms (asked_in s)) → (ss : List Site)
    → forms (checks_of (map f ss)) ≡ forms (checks_of ss)
sites_keep f same [] = refl
sites_keep f same (s ∷ ss) =
    flat_map-append uncovered_in (asked_in (f s)) (checks_of (map f ss))
    ∙ ((λ i. same s i ++ sites_keep f same ss i) ∙ sym (flat_map-append uncovered_in (asked_in s) (checks_of ss)))

-- Generated ids and positions of type uses do not matter.
use_stripped : (o : Option Index) (t : Option FunctionType)
    → forms (if_there (in_index space.Ty) (option_map at_start o) ++ if_there in_signature t) ≡ forms
    (if_there (in_index space.Ty) o ++ if_there in_signature t)
use_stripped None t = refl
use_stripped (Some i) t = refl

ask_stripped : (a : Check) → forms (asked_in (mapped_site stripping (Asked a))) ≡ forms (asked_in (Asked a))
ask_stripped (ItemIndex s i) = refl
ask_stripped x = refl

site_stripped : (s : Site) → forms (asked_in (mapped_site stripping s)) ≡ forms (asked_in s)
site_stripped (Asked a) = ask_stripped a
site_stripped (Used w u) = use_stripped u.index u.inline
site_stripped x = refl

stripping_keeps : KeepsMarks stripping
stripping_keeps = record { params = λ u. refl; owns = λ o. refl }

stripped_forms : (xs : List ModuleField) → uncovered_forms (all_mapped stripping xs) ≡ uncovered_forms xs
stripped_forms xs = ap (λ ss. forms (checks_of ss)) (stands stripping stripping_keeps xs) ∙ sites_keep (mapped_site stripping) site_stripped (in_module xs)

forms_alike : (xs ys : List ModuleField) → all_mapped stripping xs ≡ all_mapped stripping ys → uncovered_forms xs ≡ uncovered_forms ys
forms_alike xs ys alike = sym (stripped_forms xs) ∙ (ap uncovered_forms alike ∙ stripped_forms ys)

-- Names do not matter.
module _ (r : Renaming) (is : IsRenaming r) where
  abbrev n : Naming
  n = r.name

  ask_named : (a : Check) → uncovered_in (named_ask n (renaming r).index a) ≡ uncovered_in a
  ask_named (ItemIndex s i) = refl
  ask_named x = refl

  asks_named : (asks : List Check) → forms (map (named_ask n (renaming r).index) asks) ≡ forms asks
  asks_named [] = refl
  asks_named (a ∷ asks) = λ i. ask_named a i ++ asks_named asks i

  use_named : (u : TypeUse FunctionType) → forms (in_type_use (renamed_use r u)) ≡ forms (in_type_use u)
  use_named u =
      ap forms ((both_at u.index u.inline (option_at (index_in space.Ty) u.index) (option_at signature_at u.inline)).stands n (renaming r) (names r is))
      ∙ asks_named (in_type_use u)

  mark_named : (m : Option Mark) → forms (mark_asked (renamed_mark n m)) ≡ forms (mark_asked m)
  mark_named None = refl
  mark_named (Some m) = refl

  site_named : (s : Site) → forms (asked_in (named_site n (renaming r) s)) ≡ forms (asked_in s)
  site_named (Asked a) = ap (λ fs. fs ++ []) (ask_named a)
  site_named (Used w u) = use_named u
  site_named (Repeated blocks m) = mark_named m
  site_named (Begins blocks m) = mark_named m
  site_named x = refl

  named_forms : (xs : List ModuleField) → uncovered_forms (renamed_fields r xs) ≡ uncovered_forms xs
  named_forms xs = ap (λ ss. forms (checks_of ss)) (stands_named n (renaming r) (names r is) xs)
      ∙ sites_keep (named_site n (renaming r)) site_named (in_module xs)

-- If each check passed, each passes.
met_so : (r : Renaming) (marks : List Mark) (a b : Option (Cause × Span)) → RenamesFault r.name marks a b → a ≡ None → b ≡ None
met_so r marks None None f h = refl
met_so r marks None (Some g) f h = absurd f
met_so r marks (Some e) b f h = absurd (cc h)

-- The fields numbered by position have the unsupported constructs of those resolved with a counter.
by_position : SamePositions → (fields others : List ModuleField) → IsMet fields → IsMet others
    → uncovered_forms (resolved_fields (by_positions others)) ≡ uncovered_forms (resolved_fields (by_positions fields)) → SameForms fields others
by_position positions fields others met still same m n above over =
    forms_alike (resolved_fields_from n others) (resolved_fields (by_positions others)) (positions n others over still)
    ∙ (same ∙ sym (forms_alike (resolved_fields_from m fields) (resolved_fields (by_positions fields)) (positions m fields above met)))

pub renamed_forms : SamePositions → RenamedAnswer → RenamedPositions → RenamedForms
renamed_forms positions answer renamed r is fields met =
    by_position positions fields (renamed_fields r fields) met
    (met_so r (told_marks (explicit_fields fields)) (first_unmet (demands (explicit_fields fields)))
    (first_unmet (demands (explicit_fields (renamed_fields r fields)))) (answer r is fields) met)
    (ap uncovered_forms (renamed r is fields) ∙ named_forms r is (resolved_fields (by_positions fields)))

pub written_forms : SamePositions → RenamedAnswer → RenamedPositions → WrittenAnswer → WrittenPositions → WrittenForms
written_forms positions answer renamed written written_positions r is n fields above met =
    let all = desugared_from n fields in
    let all_met : IsMet all = written n fields above ∙ met in
    let same : uncovered_forms (resolved_fields (by_positions all)) ≡ uncovered_forms (resolved_fields (by_positions fields)) =
    forms_alike (resolved_fields (by_positions all)) (resolved_fields (by_positions fields)) (written_positions n fields above met) in (
      by_position positions fields all met all_met same,
      by_position positions fields (renamed_fields r all) met
          (met_so r (told_marks (explicit_fields all)) (first_unmet (demands (explicit_fields all)))
          (first_unmet (demands (explicit_fields (renamed_fields r all)))) (answer r is all) all_met)
          (ap uncovered_forms (renamed r is all) ∙ (named_forms r is (resolved_fields (by_positions all)) ∙ same)),
    )
