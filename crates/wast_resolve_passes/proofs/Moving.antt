-- The enclosing blocks along a body: which sites change them.
use Rattle.std.proofs.Common.{◌≡◌, List, [], ◌∷◌, Result, Ok, Err, OnOk, refl, sym, ap, ◌∙◌}
use Rattle.std.specs.List.{flat_map}
use Rattle.wast_base.specs.Blocks.{Blocks}
use Rattle.wast_base.specs.declared.faults.Error.{Error}
use Rattle.wast_tree_nodes.specs.Sites.{Check, Site, Asked, BodyContext, Locals, context_after_site, after_all, check_sites, at_label, in_br_table}
use Rattle.wast_tree_nodes.proofs.Behind.{after-append}
use Rattle.wast_resolve_rules.proofs.Unmoved.{asking_stays, labels_stay}
use Rattle.wast_resolve_passes.specs.Tree.{BrTableIndices}
use Rattle.wast_resolve_passes.specs.Standing.{context_of}

-- the parameters and locals do not change
locals_after : (h : BodyContext) (s : Site) → (context_after_site h s).locals ≡ h.locals
locals_after h (Asked a) = refl
locals_after h x = refl

pub locals_stay : (h : BodyContext) (ss : List Site) → (after_all h ss).locals ≡ h.locals
locals_stay h [] = refl
locals_stay h (s ∷ ss) = locals_stay (context_after_site h s) ss ∙ locals_after h s

-- the context of an instruction, from its enclosing blocks
pub stands_by : (l : Locals) (s : Blocks) (ss : List Site) (t : Blocks) → t ≡ (after_all (context_of l s) ss).blocks
    → context_of l t ≡ after_all (context_of l s) ss
stands_by l s ss t is =
    ap (context_of l) is ∙ sym (λ i. record { locals = locals_stay (context_of l s) ss i; blocks = (after_all (context_of l s) ss).blocks })

on_ok : {T A : Type 0} (r : Result T Error) → A → OnOk r A
on_ok (Ok x) a = a
on_ok (Err e) a = tt

pub asking_moves : {T : Type 0} (s : Blocks) (l : Locals) (asks : List Check) (r : Result T Error)
    → OnOk r (s ≡ (after_all (context_of l s) (check_sites asks)).blocks)
asking_moves s l asks r = on_ok r (ap (λ (g : BodyContext). g.blocks) (sym (asking_stays (context_of l s) asks)))

pub br_table_moves : {T : Type 0} (s : Blocks) (l : Locals) (t : BrTableIndices) (r : Result T Error)
    → OnOk r (s ≡ (after_all (context_of l s) (in_br_table s t)).blocks)
br_table_moves s l t r =
    let h = context_of l s in
    let stays = after-append h (flat_map (at_label s) t.labels) (at_label s t.default)
    ∙ ap (λ g. after_all g (at_label s t.default)) (labels_stay h s t.labels) in
    on_ok r (ap (λ (g : BodyContext). g.blocks) (sym stays))

-- if nothing changes
pub still_moves : {T : Type 0} (s : Blocks) (l : Locals) (ss : List Site) (r : Result T Error) → after_all (context_of l s) ss ≡ context_of l s
    → OnOk r (s ≡ (after_all (context_of l s) ss).blocks)
still_moves s l ss r stays = on_ok r (ap (λ (g : BodyContext). g.blocks) (sym stays))
