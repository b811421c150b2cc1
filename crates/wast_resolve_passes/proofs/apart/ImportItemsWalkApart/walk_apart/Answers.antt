use Rattle.std.proofs.Common.{false, refl, sym, subst, ◌++◌}
use Rattle.std.specs.List.{flat_map}
use Rattle.wast_tree_nodes.specs.Sites.{Covered, check_sites, uncovered_check, in_sig, in_shared_id}
use Rattle.wast_resolve_passes.specs.Tree.{ItemSig}
use Rattle.wast_resolve_passes.specs.Tree.form
use Rattle.wast_resolve_passes.specs.Tree.import_items
use Rattle.wast_tree_map.specs.Mapped.{mapped_item_kind, mapped_sig}
use Rattle.wast_tree_map.proofs.Alone.{shared_id_stays}
use Rattle.wast_resolve_rules.specs.Demands.{site_demands}
use Rattle.wast_resolve_rules.specs.Resolved.{numbering_change}
use Rattle.wast_resolve_names.specs.Resolvers.{scope_of}
use Rattle.wast_resolve_names.specs.Walking.{Walks}
use Rattle.wast_resolve_names.proofs.Parts.{walks_before, walks_before_asks, shared_id_met}
use Rattle.wast_resolve_passes.proofs.apart.ImportItemsWalkApart.walk_apart.Goals as goal

pub returns-in-Group1 : goal.returns-in-Group1
returns-in-Group1 c =
    let x = c.in-Group1.items in
    let s = scope_of c.args.names.now in
    rw c.in-Group1.is (walks_before ⊥ ⊥ s (flat_map (λ p. in_sig p.1) x) (Covered form.CompactImports false) refl
    (λ items. import_items.Group1 c.in-Group1.«module» items) _ c.walk_each_apart.new.parts c.walk_each_apart.result c.walk_each_apart.ensures)

pub returns-in-Group2 : goal.returns-in-Group2
returns-in-Group2 c =
    let s = scope_of c.args.names.now in
    let sig = c.in-Group2.sig in
    let names = c.in-Group2.items in
    let f = numbering_change s in
    let of_sig = λ (x : ItemSig). import_items.Group2 c.in-Group2.«module» x names in
    let asks = in_shared_id names sig.id ++ uncovered_check form.CompactImports in
    rw c.in-Group2.is (subst (λ id. Walks ⊥ ⊥ (site_demands s (in_sig sig ++ check_sites asks))
    (of_sig (record sig { id = id; kind = mapped_item_kind f sig.kind })) (of_sig c.walk_apart-in-Group2.new.self) c.walk_apart-in-Group2.result)
    (sym (shared_id_stays f (λ o. refl) (λ o. refl) names sig.id))
    (walks_before_asks ⊥ ⊥ s (in_sig sig) asks (shared_id_met s.known names sig.id form.CompactImports) of_sig
    (mapped_sig f sig) c.walk_apart-in-Group2.new.self c.walk_apart-in-Group2.result c.walk_apart-in-Group2.ensures))
