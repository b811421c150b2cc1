-- Proves BlocksAreCounted: counting block starts and ends finds the enclosing blocks.
use Rattle.std.proofs.Common.{◌≡◌, List, [], ◌∷◌, ◌++◌, refl, ap, ◌∙◌}
use Rattle.std.specs.List.{flat_map}
use Rattle.wast_base.specs.Ids.{mark_of_option}
use Rattle.wast_resolve_labels.specs.Laws.{WalksAsCounted}
use Rattle.wast_resolve_labels.specs.Turns.{blocks_after, blocks_after_all}
use Rattle.wast_tree_nodes.specs.Instrs.{turn_of, block_effects}
use Rattle.wast_tree_nodes.specs.Sites.{BodyContext, Begins, after_all, at_label, context_after, in_catch, in_heap, in_instr, in_instrs}
use Rattle.wast_tree_nodes.specs.Sites.{in_mem_arg, in_select, uncovered_check, in_ref, in_cast}
use Rattle.wast_tree_nodes.proofs.Behind.{after-append}
use Rattle.wast_resolve_laws.specs.Tree.{Instruction}
use Rattle.wast_resolve_laws.specs.Tree.form
use Rattle.wast_resolve_laws.specs.Tree.instr
use Rattle.wast_resolve_laws.specs.Laws.{BlocksAreCounted}
use Rattle.wast_resolve_rules.proofs.Unmoved.{asking_stays, catches_stay, labels_stay, cast_stays, behind_stays, handlers_stay}

-- an instruction has the same effect on the enclosing blocks as on their count
turned : (h : BodyContext) (i : Instruction) → (after_all h (in_instr h i)).blocks ≡ blocks_after h.blocks (turn_of i)
turned h (instr.Mem op m) = ap (λ (g : BodyContext). g.blocks) (asking_stays h (in_mem_arg m))
turned h (instr.select t) = ap (λ (g : BodyContext). g.blocks) (asking_stays h (in_select t))
turned h (instr.ref_null t) = ap (λ (g : BodyContext). g.blocks) (asking_stays h (in_heap t))
turned h (instr.try_table t) =
    let begins = Begins h.blocks (mark_of_option t.block.label) ∷ [] in
    ap (λ (g : BodyContext). g.blocks) (after-append h (flat_map (in_catch h.blocks) t.catches) begins
    ∙ ap (λ g. after_all g begins) (catches_stay h h.blocks t.catches))
turned h (instr.br_table t) =
    let default = at_label h.blocks t.default in
    ap (λ (g : BodyContext). g.blocks) (after-append h (flat_map (at_label h.blocks) t.labels) default
    ∙ ap (λ g. after_all g default) (labels_stay h h.blocks t.labels))
turned h (instr.MemLane op a) = ap (λ (g : BodyContext). g.blocks) (asking_stays h (in_mem_arg a.memarg))
turned h (instr.ref_test a) = ap (λ (g : BodyContext). g.blocks) (asking_stays h (in_ref a.rt))
turned h (instr.ref_cast a) = ap (λ (g : BodyContext). g.blocks) (asking_stays h (in_ref a.rt))
turned h (instr.ref_cast_desc_eq a) = ap (λ (g : BodyContext). g.blocks) (asking_stays h (in_ref a.rt ++ uncovered_check form.Descriptor))
turned h (instr.br_on_cast a) = ap (λ (g : BodyContext). g.blocks) (cast_stays h h.blocks a.label a.to_type a.from_type)
turned h (instr.br_on_cast_fail a) = ap (λ (g : BodyContext). g.blocks) (cast_stays h h.blocks a.label a.to_type a.from_type)
turned h (instr.br_on_cast_desc_eq a) =
    ap (λ (g : BodyContext). g.blocks) (behind_stays h (in_cast h.blocks a.label a.to_type a.from_type) (uncovered_check form.Descriptor)
    (cast_stays h h.blocks a.label a.to_type a.from_type))
turned h (instr.br_on_cast_desc_eq_fail a) =
    ap (λ (g : BodyContext). g.blocks) (behind_stays h (in_cast h.blocks a.label a.to_type a.from_type) (uncovered_check form.Descriptor)
    (cast_stays h h.blocks a.label a.to_type a.from_type))
turned h (instr.resume a) = ap (λ (g : BodyContext). g.blocks) (handlers_stay h h.blocks a.table)
turned h (instr.resume_throw a) = ap (λ (g : BodyContext). g.blocks) (handlers_stay h h.blocks a.table)
turned h (instr.resume_throw_ref a) = ap (λ (g : BodyContext). g.blocks) (handlers_stay h h.blocks a.table)
turned h i = refl

all_turned : (h : BodyContext) (is : List Instruction) → (after_all h (in_instrs h is)).blocks ≡ blocks_after_all h.blocks (block_effects is)
all_turned h [] = refl
all_turned h (i ∷ is) =
    ap (λ (g : BodyContext). g.blocks) (after-append h (in_instr h i) (in_instrs (context_after h i) is))
    ∙ (all_turned (context_after h i) is ∙ ap (λ bs. blocks_after_all bs (block_effects is)) (turned h i))

pub blocks_are_counted : WalksAsCounted → BlocksAreCounted
blocks_are_counted law h is none = all_turned h is ∙ (ap (λ bs. blocks_after_all bs (block_effects is)) none ∙ law (block_effects is))
