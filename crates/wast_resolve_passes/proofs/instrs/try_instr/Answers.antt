use Rattle.std.proofs.Common.{[], ◌∷◌, refl, sym, ap, ◌∙◌}
use Rattle.wast_tree_nodes.specs.Sites.{LocalAt, at_label}
use Rattle.wast_resolve_rules.specs.Demands.{site_demands}
use Rattle.wast_resolve_rules.specs.Resolved.{numbering_change}
use Rattle.wast_resolve_names.specs.Resolvers.{scope_of}
use Rattle.wast_resolve_passes.specs.Tree.instr
use Rattle.wast_resolve_passes.proofs.Tries.{block_tried, select_tried, tries_not}
use Rattle.wast_resolve_names.proofs.Trials.{tries_in}
use Rattle.wast_resolve_passes.proofs.instrs.try_instr.Goals as goal

pub returns-in-local_get-clause-walks : goal.returns-in-local_get-clause-walks
returns-in-local_get-clause-walks c l numbers =
    let names = c.args.names.now in
    let i = c.in-local_get.local in
    let ds = site_demands (scope_of names) (LocalAt l i ∷ []) in
    rw c.in-local_get.is (tries_in instr.local_get ds ds
    ((numbering_change (scope_of names)).local l i) i c.try_local.new.index c.try_local.result refl (c.try_local.ensures.walks names l numbers))

pub returns-in-local_set-clause-walks : goal.returns-in-local_set-clause-walks
returns-in-local_set-clause-walks c l numbers =
    let names = c.args.names.now in
    let i = c.in-local_set.local in
    let ds = site_demands (scope_of names) (LocalAt l i ∷ []) in
    rw c.in-local_set.is (tries_in instr.local_set ds ds
    ((numbering_change (scope_of names)).local l i) i c.try_local-in-local_set.new.index c.try_local-in-local_set.result refl
    (c.try_local-in-local_set.ensures.walks names l numbers))

pub returns-in-local_tee-clause-walks : goal.returns-in-local_tee-clause-walks
returns-in-local_tee-clause-walks c l numbers =
    let names = c.args.names.now in
    let i = c.in-local_tee.local in
    let ds = site_demands (scope_of names) (LocalAt l i ∷ []) in
    rw c.in-local_tee.is (tries_in instr.local_tee ds ds
    ((numbering_change (scope_of names)).local l i) i c.try_local-in-local_tee.new.index c.try_local-in-local_tee.result refl
    (c.try_local-in-local_tee.ensures.walks names l numbers))

pub returns-in-br-clause-walks : goal.returns-in-br-clause-walks
returns-in-br-clause-walks c l numbers =
    let names = c.args.names.now in
    let blocks = c.args.labels.now in
    let label = c.in-br.label in
    let ds = site_demands (scope_of names) (at_label blocks label) in
    rw c.in-br.is (tries_in instr.br ds ds ((numbering_change (scope_of names)).label blocks label) label c.try_label.new.label c.try_label.result
    refl (c.try_label.ensures names))

pub returns-in-br-clause-stays : goal.returns-in-br-clause-stays
returns-in-br-clause-stays c h =
    let names = c.args.names.now in
    let blocks = c.args.labels.now in
    let label = c.in-br.label in
    let ds = site_demands (scope_of names) (at_label blocks label) in
    ap instr.br (tries_not ds ((numbering_change (scope_of names)).label blocks label) label c.try_label.new.label c.try_label.result
    (c.try_label.ensures names) h) ∙ sym c.in-br.is

pub returns-in-br_if-clause-walks : goal.returns-in-br_if-clause-walks
returns-in-br_if-clause-walks c l numbers =
    let names = c.args.names.now in
    let blocks = c.args.labels.now in
    let label = c.in-br_if.label in
    let ds = site_demands (scope_of names) (at_label blocks label) in
    rw c.in-br_if.is (tries_in instr.br_if ds ds
    ((numbering_change (scope_of names)).label blocks label) label c.try_label-in-br_if.new.label c.try_label-in-br_if.result refl
    (c.try_label-in-br_if.ensures names))

pub returns-in-br_if-clause-stays : goal.returns-in-br_if-clause-stays
returns-in-br_if-clause-stays c h =
    let names = c.args.names.now in
    let blocks = c.args.labels.now in
    let label = c.in-br_if.label in
    let ds = site_demands (scope_of names) (at_label blocks label) in
    ap instr.br_if (tries_not ds ((numbering_change (scope_of names)).label blocks label) label c.try_label-in-br_if.new.label
    c.try_label-in-br_if.result (c.try_label-in-br_if.ensures names) h) ∙ sym c.in-br_if.is

pub returns-in-block-clause-walks : goal.returns-in-block-clause-walks
returns-in-block-clause-walks c l numbers =
    rw c.in-block.is (block_tried instr.block
    (scope_of c.args.names.now) c.in-block.block c.args.labels.now c.try_block.new.labels c.try_block.result c.try_block.ensures)

pub returns-in-loop_-clause-walks : goal.returns-in-loop_-clause-walks
returns-in-loop_-clause-walks c l numbers =
    rw c.in-loop_.is (block_tried instr.loop_
    (scope_of c.args.names.now) c.in-loop_.block c.args.labels.now c.try_block-in-loop_.new.labels c.try_block-in-loop_.result c.try_block-in-loop_.ensures)

pub returns-in-if_-clause-walks : goal.returns-in-if_-clause-walks
returns-in-if_-clause-walks c l numbers =
    rw c.in-if_.is (block_tried instr.if_
    (scope_of c.args.names.now) c.in-if_.block c.args.labels.now c.try_block-in-if_.new.labels c.try_block-in-if_.result c.try_block-in-if_.ensures)

pub returns-in-try_-clause-walks : goal.returns-in-try_-clause-walks
returns-in-try_-clause-walks c l numbers =
    rw c.in-try_.is (block_tried instr.try_
    (scope_of c.args.names.now) c.in-try_.block c.args.labels.now c.try_block-in-try_.new.labels c.try_block-in-try_.result c.try_block-in-try_.ensures)

pub returns-in-select-clause-walks : goal.returns-in-select-clause-walks
returns-in-select-clause-walks c l numbers =
    rw c.in-select.is (select_tried instr.select (scope_of c.args.names.now) c.in-select.types c.selects_number.result c.selects_number.ensures)
