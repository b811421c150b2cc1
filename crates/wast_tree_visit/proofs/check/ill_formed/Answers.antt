use Rattle.std.proofs.Common.{None, flat_map, sym, ap, ◌∙◌}
use Rattle.std.specs.Prelude.{is_none}
use Rattle.wast_tree_nodes.specs.Items.{items}
use Rattle.wast_tree_nodes.specs.Known.{id_context}
use Rattle.wast_tree_nodes.specs.Sites.{in_field, in_module, checks_of}
use Rattle.wast_tree_nodes.specs.WellFormed.{failing_clauses_at, least_of}
use Rattle.wast_tree_visit.proofs.Failing.{none_fails}
use Rattle.wast_tree_visit.proofs.Visiting.{asked_each}
use Rattle.wast_tree_visit.proofs.check.ill_formed.Goals as goal

pub returns-clause-least : goal.returns-clause-least
returns-clause-least c =
    let fields = c.args.fields.now in
    c.least_failing_own.ensures ∙ ap (λ asks. least_of None (flat_map (failing_clauses_at (id_context (items fields))) asks)) (sym (asked_each in_field fields))

pub returns-clause-none : goal.returns-clause-none
returns-clause-none c =
    let fields = c.args.fields.now in
    ap is_none (returns-clause-least c) ∙ none_fails (id_context (items fields)) (checks_of (in_module fields))
