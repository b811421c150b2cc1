-- The statements of this crate: all checks of the fields that the rules read pass, and none has a generated id.
use Rattle.std.proofs.Common.{List, subst}
use Rattle.wast_base.specs.Ids.{mark_of_option}
use Rattle.wast_tree_nodes.specs.Items.{items, items_in}
use Rattle.wast_tree_nodes.specs.Known.{id_context}
use Rattle.wast_tree_nodes.specs.Sites.{asked_in, checks_of, in_field, in_module}
use Rattle.wast_tree_nodes.specs.Generations.{greatest_item, greatest_asked}
use Rattle.wat_syntax.specs.Tree.{ModuleField}
use Rattle.wat_ready.specs.Ready.{AreWellFormed, AreWellFormedWithAddresses, HaveNoGeneratedId, IdIsNotGenerated}
use Rattle.wat_ready.proofs.Addresses.{well_formed_too}
use Rattle.wat_ready.proofs.Parses.{Each, through, over}
use Rattle.wat_ready.proofs.Checks.{IsOk, SiteOk, ItemOk, all_pass, no_more, mark_zero, asked_zero, items_zero}
use Rattle.wat_ready.proofs.Types.{of_optional_id}
use Rattle.wat_ready.proofs.Fields.{FieldOk, of_modulefields}

checks : (fs : List ModuleField) → Each FieldOk fs → Each IsOk (checks_of (in_module fs))
checks fs p = over IsOk asked_in (in_module fs) (through FieldOk SiteOk in_field (λ f p. p.0) fs p)

pub well_formed : AreWellFormed
well_formed toks x e = all_pass (id_context (items x.0)) (checks_of (in_module x.0)) (checks x.0 ((of_modulefields toks).at x e))

pub well_formed_with_addresses : AreWellFormedWithAddresses
well_formed_with_addresses toks fields x e same =
    well_formed_too fields (subst (λ fs. Each IsOk (checks_of (in_module fs))) same (checks x.0 ((of_modulefields toks).at x e)))

pub not_generated : HaveNoGeneratedId
not_generated toks x e =
    let p = (of_modulefields toks).at x e in
    no_more (greatest_item (items x.0)) (greatest_asked (checks_of (in_module x.0)))
    (items_zero (items x.0) (through FieldOk ItemOk items_in (λ f p. p.1) x.0 p)) (asked_zero (checks_of (in_module x.0)) (checks x.0 p))

pub id_not_generated : IdIsNotGenerated
id_not_generated toks x e = mark_zero (mark_of_option x.0) ((of_optional_id toks).at x e)
