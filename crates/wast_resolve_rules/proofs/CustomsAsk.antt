-- A custom section has no checks.
use Rattle.std.proofs.Common.{◌≡◌, List, [], ◌∷◌, refl}
use Rattle.std.specs.List.{flat_map}
use Rattle.wast_tree_nodes.specs.Sites.{check_sites, in_subsection, in_custom}
use Rattle.wast_resolve_rules.specs.Scopes.{Scope}
use Rattle.wast_resolve_rules.specs.Demands.{site_demands}
use Rattle.wast_resolve_rules.specs.Tree.{Custom, Dylink0Subsection}
use Rattle.wast_resolve_rules.specs.Tree.custom
use Rattle.wast_resolve_rules.specs.Tree.dylink

subsections_ask : (s : Scope) (ss : List Dylink0Subsection) → site_demands s (check_sites (flat_map in_subsection ss)) ≡ []
subsections_ask s [] = refl
subsections_ask s (dylink.TargetArch text ∷ ss) = subsections_ask s ss
subsections_ask s (x ∷ ss) = subsections_ask s ss

pub custom_asks : (s : Scope) (c : Custom) → site_demands s (in_custom c) ≡ []
custom_asks s (custom.Dylink0 info) = subsections_ask s info.subsections
custom_asks s c = refl
