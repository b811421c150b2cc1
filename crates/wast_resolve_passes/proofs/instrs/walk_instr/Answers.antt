use Rattle.std.specs.Prelude.{⊤, [], ◌∷◌, ◌++◌}
use Rattle.wast_base.specs.Blocks.{without_innermost}
use Rattle.wast_base.specs.Ids.{mark_of_option}
use Rattle.wast_tree_map.specs.Mapped.{mapped_br_table}
use Rattle.wast_tree_nodes.specs.Sites.{Ends, LocalAt, Repeated, check_sites, at_index, at_label, in_br_table, in_handlers, in_pair, in_ref, in_select}
use Rattle.wast_resolve_passes.specs.Tree.space
use Rattle.wast_resolve_passes.specs.Tree.instr
use Rattle.wast_resolve_passes.specs.Standing.{context_of}
use Rattle.wast_resolve_rules.specs.Demands.{HasMany, open_counts, site_demands}
use Rattle.wast_resolve_rules.specs.Resolved.{numbering_change}
use Rattle.wast_resolve_names.specs.Resolvers.{scope_of}
use Rattle.wast_resolve_passes.proofs.Casts.{cast_walked, uncovered_cast_walked, cast_moves, uncovered_cast_moves}
use Rattle.wast_resolve_passes.proofs.Moving.{asking_moves, br_table_moves, still_moves}
use Rattle.wast_resolve_rules.proofs.Unmoved.{handlers_stay}
use Rattle.wast_resolve_names.proofs.Parts.{walks_in}
use Rattle.wast_resolve_passes.proofs.instrs.walk_instr.Goals as goal

pub returns-in-block-clause-blocks : goal.returns-in-block-clause-blocks
returns-in-block-clause-blocks c l = rw c.in-block.is (c.walk_block.ensures.blocks l)

pub returns-in-loop_-clause-blocks : goal.returns-in-loop_-clause-blocks
returns-in-loop_-clause-blocks c l = rw c.in-loop_.is (c.walk_block-in-loop_.ensures.blocks l)

pub returns-in-if_-clause-blocks : goal.returns-in-if_-clause-blocks
returns-in-if_-clause-blocks c l = rw c.in-if_.is (c.walk_block-in-if_.ensures.blocks l)

pub returns-in-try_-clause-blocks : goal.returns-in-try_-clause-blocks
returns-in-try_-clause-blocks c l = rw c.in-try_.is (c.walk_block-in-try_.ensures.blocks l)

pub returns-in-end_-clause-blocks : goal.returns-in-end_-clause-blocks
returns-in-end_-clause-blocks c l = rw c.in-end_.is (c.walk_end.ensures.blocks l)

pub returns-in-delegate-clause-blocks : goal.returns-in-delegate-clause-blocks
returns-in-delegate-clause-blocks c l = rw c.in-delegate.is (c.walk_delegate.ensures.blocks l)

pub returns-in-br_table-clause-blocks : goal.returns-in-br_table-clause-blocks
returns-in-br_table-clause-blocks c l = rw c.in-br_table.is (br_table_moves c.args.labels.now l c.in-br_table.table c.walk_br_table.result)

pub returns-in-else_-clause-walks : goal.returns-in-else_-clause-walks
returns-in-else_-clause-walks c l numbers =
    let names = c.args.names.now in
    let label = c.in-else_.label in
    rw c.in-else_.is (walks_in ⊤ (HasMany []) instr.else_ (site_demands (scope_of names) (Repeated c.args.labels.now (mark_of_option label) ∷ []))
    label label c.walk_else.result (c.walk_else.ensures names))

pub returns-in-end_-clause-walks : goal.returns-in-end_-clause-walks
returns-in-end_-clause-walks c l numbers =
    let names = c.args.names.now in
    let label = c.in-end_.label in
    rw c.in-end_.is (walks_in ⊤ (HasMany []) instr.end_ (site_demands (scope_of names) (Repeated c.args.labels.now (mark_of_option label) ∷ Ends ∷ []))
    label label c.walk_end.result (c.walk_end.ensures.walks names))

pub returns-in-delegate-clause-walks : goal.returns-in-delegate-clause-walks
returns-in-delegate-clause-walks c l numbers =
    let names = c.args.names.now in
    let blocks = without_innermost c.args.labels.now in
    let label = c.in-delegate.label in
    rw c.in-delegate.is (walks_in ⊤ (HasMany []) instr.delegate (site_demands (scope_of names) (Ends ∷ at_label blocks label))
    ((numbering_change (scope_of names)).label blocks label) c.walk_delegate.new.label c.walk_delegate.result (c.walk_delegate.ensures.walks names))

pub returns-in-br_table-clause-walks : goal.returns-in-br_table-clause-walks
returns-in-br_table-clause-walks c l numbers =
    let names = c.args.names.now in
    let blocks = c.args.labels.now in
    let table = c.in-br_table.table in
    let sites = in_br_table blocks table in
    rw c.in-br_table.is (walks_in ⊤ (HasMany (open_counts sites)) instr.br_table (site_demands (scope_of names) sites)
    (mapped_br_table (numbering_change (scope_of names)) blocks table) c.walk_br_table.new.table c.walk_br_table.result (c.walk_br_table.ensures names))

pub returns-in-select-clause-blocks : goal.returns-in-select-clause-blocks
returns-in-select-clause-blocks c l = rw c.in-select.is (asking_moves c.args.labels.now l (in_select c.in-select.types) c.walk_part-in-select.result)

pub returns-in-br_on_cast-clause-walks : goal.returns-in-br_on_cast-clause-walks
returns-in-br_on_cast-clause-walks c l numbers =
    let x = c.in-br_on_cast.arg in
    let walk = c.walk_br_on_cast in
    let new = walk.new.arg in
    rw c.in-br_on_cast.is (cast_walked c.args.names.now c.args.labels.now
    (x.label, (x.to_type, x.from_type)) (new.label, (new.to_type, new.from_type))
    (λ q. instr.br_on_cast (record { label = q.0; from_type = q.1.1; to_type = q.1.0 })) walk.result walk.ensures)

pub returns-in-br_on_cast-clause-blocks : goal.returns-in-br_on_cast-clause-blocks
returns-in-br_on_cast-clause-blocks c l =
    let x = c.in-br_on_cast.arg in
    rw c.in-br_on_cast.is (cast_moves c.args.labels.now l x.label x.to_type x.from_type c.walk_br_on_cast.result)

pub returns-in-br_on_cast_fail-clause-walks : goal.returns-in-br_on_cast_fail-clause-walks
returns-in-br_on_cast_fail-clause-walks c l numbers =
    let x = c.in-br_on_cast_fail.arg in
    let walk = c.walk_br_on_cast_fail in
    let new = walk.new.arg in
    rw c.in-br_on_cast_fail.is (cast_walked c.args.names.now c.args.labels.now
    (x.label, (x.to_type, x.from_type)) (new.label, (new.to_type, new.from_type))
    (λ q. instr.br_on_cast_fail (record { label = q.0; from_type = q.1.1; to_type = q.1.0 })) walk.result walk.ensures)

pub returns-in-br_on_cast_fail-clause-blocks : goal.returns-in-br_on_cast_fail-clause-blocks
returns-in-br_on_cast_fail-clause-blocks c l =
    let x = c.in-br_on_cast_fail.arg in
    rw c.in-br_on_cast_fail.is (cast_moves c.args.labels.now l x.label x.to_type x.from_type c.walk_br_on_cast_fail.result)

pub returns-in-br_on_cast_desc_eq-clause-walks : goal.returns-in-br_on_cast_desc_eq-clause-walks
returns-in-br_on_cast_desc_eq-clause-walks c l numbers =
    let x = c.in-br_on_cast_desc_eq.arg in
    let walk = c.walk_br_on_cast_desc_eq in
    let new = walk.new.arg in
    rw c.in-br_on_cast_desc_eq.is (uncovered_cast_walked c.args.names.now c.args.labels.now
    (x.label, (x.to_type, x.from_type)) (new.label, (new.to_type, new.from_type))
    (λ q. instr.br_on_cast_desc_eq (record { label = q.0; from_type = q.1.1; to_type = q.1.0 })) walk.result walk.ensures)

pub returns-in-br_on_cast_desc_eq-clause-blocks : goal.returns-in-br_on_cast_desc_eq-clause-blocks
returns-in-br_on_cast_desc_eq-clause-blocks c l =
    let x = c.in-br_on_cast_desc_eq.arg in
    rw c.in-br_on_cast_desc_eq.is (uncovered_cast_moves c.args.labels.now l x.label x.to_type x.from_type c.walk_br_on_cast_desc_eq.result)

pub returns-in-br_on_cast_desc_eq_fail-clause-walks : goal.returns-in-br_on_cast_desc_eq_fail-clause-walks
returns-in-br_on_cast_desc_eq_fail-clause-walks c l numbers =
    let x = c.in-br_on_cast_desc_eq_fail.arg in
    let walk = c.walk_br_on_cast_desc_eq_fail in
    let new = walk.new.arg in
    rw c.in-br_on_cast_desc_eq_fail.is (uncovered_cast_walked c.args.names.now c.args.labels.now
    (x.label, (x.to_type, x.from_type)) (new.label, (new.to_type, new.from_type))
    (λ q. instr.br_on_cast_desc_eq_fail (record { label = q.0; from_type = q.1.1; to_type = q.1.0 })) walk.result walk.ensures)

pub returns-in-br_on_cast_desc_eq_fail-clause-blocks : goal.returns-in-br_on_cast_desc_eq_fail-clause-blocks
returns-in-br_on_cast_desc_eq_fail-clause-blocks c l =
    let x = c.in-br_on_cast_desc_eq_fail.arg in
    rw c.in-br_on_cast_desc_eq_fail.is (uncovered_cast_moves c.args.labels.now l x.label x.to_type x.from_type c.walk_br_on_cast_desc_eq_fail.result)

pub returns-in-resume-clause-blocks : goal.returns-in-resume-clause-blocks
returns-in-resume-clause-blocks c l =
    let labels = c.args.labels.now in
    let x = c.in-resume.arg in
    rw c.in-resume.is (still_moves labels l (at_index space.Ty x.type_index ++ in_handlers labels x.table) c.walk_resume.result
    (handlers_stay (context_of l labels) labels x.table))

pub returns-in-resume_throw-clause-blocks : goal.returns-in-resume_throw-clause-blocks
returns-in-resume_throw-clause-blocks c l =
    let labels = c.args.labels.now in
    let x = c.in-resume_throw.arg in
    rw c.in-resume_throw.is (still_moves labels l
    (check_sites (in_pair space.Ty x.type_index space.Tag x.tag_index) ++ in_handlers labels x.table) c.walk_boxed_throw.result
    (handlers_stay (context_of l labels) labels x.table))

pub returns-in-resume_throw_ref-clause-blocks : goal.returns-in-resume_throw_ref-clause-blocks
returns-in-resume_throw_ref-clause-blocks c l =
    let labels = c.args.labels.now in
    let x = c.in-resume_throw_ref.arg in
    rw c.in-resume_throw_ref.is (still_moves labels l (at_index space.Ty x.type_index ++ in_handlers labels x.table) c.walk_resume_throw_ref.result
    (handlers_stay (context_of l labels) labels x.table))

pub returns-in-ref_test-clause-blocks : goal.returns-in-ref_test-clause-blocks
returns-in-ref_test-clause-blocks c l = rw c.in-ref_test.is (asking_moves c.args.labels.now l (in_ref c.in-ref_test.arg.rt) c.walk_part-in-ref_test.result)

pub returns-in-ref_cast-clause-blocks : goal.returns-in-ref_cast-clause-blocks
returns-in-ref_cast-clause-blocks c l = rw c.in-ref_cast.is (asking_moves c.args.labels.now l (in_ref c.in-ref_cast.arg.rt) c.walk_part-in-ref_cast.result)

-- Written by tools/ops from here.

pub returns-in-rethrow-clause-walks : goal.returns-in-rethrow-clause-walks
returns-in-rethrow-clause-walks c l numbers =
    let names = c.args.names.now in
    let blocks = c.args.labels.now in
    let label = c.in-rethrow.label in
    let walk = c.walk_branch in
    rw c.in-rethrow.is (walks_in ⊤ (HasMany []) instr.rethrow (site_demands (scope_of names) (at_label blocks label))
    ((numbering_change (scope_of names)).label blocks label) walk.new.label walk.result (walk.ensures names))

pub returns-in-br-clause-walks : goal.returns-in-br-clause-walks
returns-in-br-clause-walks c l numbers =
    let names = c.args.names.now in
    let blocks = c.args.labels.now in
    let label = c.in-br.label in
    let walk = c.walk_branch-in-br in
    rw c.in-br.is (walks_in ⊤ (HasMany []) instr.br (site_demands (scope_of names) (at_label blocks label))
    ((numbering_change (scope_of names)).label blocks label) walk.new.label walk.result (walk.ensures names))

pub returns-in-br_if-clause-walks : goal.returns-in-br_if-clause-walks
returns-in-br_if-clause-walks c l numbers =
    let names = c.args.names.now in
    let blocks = c.args.labels.now in
    let label = c.in-br_if.label in
    let walk = c.walk_branch-in-br_if in
    rw c.in-br_if.is (walks_in ⊤ (HasMany []) instr.br_if (site_demands (scope_of names) (at_label blocks label))
    ((numbering_change (scope_of names)).label blocks label) walk.new.label walk.result (walk.ensures names))

pub returns-in-local_get-clause-walks : goal.returns-in-local_get-clause-walks
returns-in-local_get-clause-walks c l numbers =
    let names = c.args.names.now in
    let i = c.in-local_get.local in
    let walk = c.walk_local in
    rw c.in-local_get.is (walks_in ⊤ (HasMany []) instr.local_get (site_demands (scope_of names) (LocalAt l i ∷ []))
    ((numbering_change (scope_of names)).local l i) walk.new.index walk.result (walk.ensures names l numbers))

pub returns-in-local_set-clause-walks : goal.returns-in-local_set-clause-walks
returns-in-local_set-clause-walks c l numbers =
    let names = c.args.names.now in
    let i = c.in-local_set.local in
    let walk = c.walk_local-in-local_set in
    rw c.in-local_set.is (walks_in ⊤ (HasMany []) instr.local_set (site_demands (scope_of names) (LocalAt l i ∷ []))
    ((numbering_change (scope_of names)).local l i) walk.new.index walk.result (walk.ensures names l numbers))

pub returns-in-local_tee-clause-walks : goal.returns-in-local_tee-clause-walks
returns-in-local_tee-clause-walks c l numbers =
    let names = c.args.names.now in
    let i = c.in-local_tee.local in
    let walk = c.walk_local-in-local_tee in
    rw c.in-local_tee.is (walks_in ⊤ (HasMany []) instr.local_tee (site_demands (scope_of names) (LocalAt l i ∷ []))
    ((numbering_change (scope_of names)).local l i) walk.new.index walk.result (walk.ensures names l numbers))

pub returns-in-br_on_null-clause-walks : goal.returns-in-br_on_null-clause-walks
returns-in-br_on_null-clause-walks c l numbers =
    let names = c.args.names.now in
    let blocks = c.args.labels.now in
    let label = c.in-br_on_null.label in
    let walk = c.walk_branch-in-br_on_null in
    rw c.in-br_on_null.is (walks_in ⊤ (HasMany []) instr.br_on_null (site_demands (scope_of names) (at_label blocks label))
    ((numbering_change (scope_of names)).label blocks label) walk.new.label walk.result (walk.ensures names))

pub returns-in-br_on_non_null-clause-walks : goal.returns-in-br_on_non_null-clause-walks
returns-in-br_on_non_null-clause-walks c l numbers =
    let names = c.args.names.now in
    let blocks = c.args.labels.now in
    let label = c.in-br_on_non_null.label in
    let walk = c.walk_branch-in-br_on_non_null in
    rw c.in-br_on_non_null.is (walks_in ⊤ (HasMany []) instr.br_on_non_null (site_demands (scope_of names) (at_label blocks label))
    ((numbering_change (scope_of names)).label blocks label) walk.new.label walk.result (walk.ensures names))

-- To here.
