-- Lemmas: the sites of joined lists of instructions.
use Rattle.std.proofs.Common.{◌≡◌, List, [], ◌∷◌, ◌++◌, refl, sym, ap, ◌∙◌, append_assoc}
use Rattle.wast_tree_nodes.specs.Tree.{Instruction}
use Rattle.wast_tree_nodes.specs.Sites.{BodyContext, Site, context_after_site, after_all, context_after, in_instr, in_instrs}

pub after-append : (h : BodyContext) (xs ys : List Site) → after_all h (xs ++ ys) ≡ after_all (after_all h xs) ys
after-append h [] ys = refl
after-append h (x ∷ xs) ys = after-append (context_after_site h x) xs ys

pub instrs-append : (h : BodyContext) (xs ys : List Instruction) → in_instrs h (xs ++ ys) ≡ in_instrs h xs ++ in_instrs (after_all h (in_instrs h xs)) ys
instrs-append h [] ys = refl
instrs-append h (x ∷ xs) ys =
    ap (λ ss. in_instr h x ++ ss)
    (instrs-append (context_after h x) xs ys
    ∙ ap (λ g. in_instrs (context_after h x) xs ++ in_instrs g ys) (sym (after-append h (in_instr h x) (in_instrs (context_after h x) xs))))
    ∙ sym (append_assoc (in_instr h x) (in_instrs (context_after h x) xs) (in_instrs (after_all h (in_instr h x ++ in_instrs (context_after h x) xs)) ys))
