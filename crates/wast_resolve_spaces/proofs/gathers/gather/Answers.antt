use Rattle.std.proofs.Common.{[], Ok, ◌<◌, subst, sym}
use Rattle.std.proofs.lemmas.List.Elements.{All-get_or}
use Rattle.wast_base.specs.Spaces.{rank_of}
use Rattle.wast_tree_nodes.specs.Items.{items}
use Rattle.wast_tree_nodes.specs.Known.{names_in}
use Rattle.wast_resolve_names.specs.Gathers.{Gathers, gathered_of}
use Rattle.wast_resolve_spaces.proofs.Collecting.{gathers_both, gathered_told}
use Rattle.wast_resolve_spaces.proofs.Trying.{below_8}
use Rattle.wast_resolve_spaces.proofs.gathers.gather.Goals as goal

pub returns-clause-slots : goal.returns-clause-slots
returns-clause-slots c = (gathered_told (λ v. v.gathered.items) c.visit_items-2.ensures c.in_ok-start_each.ensures.slots).0

pub returns-clause-each : goal.returns-clause-each
returns-clause-each c s =
    let started = c.in_ok-start_each.field-0.items in
    let eight = c.in_ok-start_each.ensures.slots in
    let none = All-get_or (Gathers (Ok []) []) started (rank_of s) (Ok [])
    (subst (λ n. rank_of s < n) (sym eight) (below_8 s)) c.in_ok-start_each.ensures.each in
    gathers_both (Ok []) (gathered_of started s) (gathered_of c.visit_items-2.new.visitor.gathered.items s) [] (names_in s (items c.args.fields.now)) none
    ((gathered_told (λ v. v.gathered.items) c.visit_items-2.ensures eight).1 s)
