use Rattle.std.proofs.Common.{◌∙◌, ap, nat_lt, length}
use Rattle.wast_core_name_section.specs.GivenNames.{named_from}
use Rattle.wast_core_name_section.specs.ModuleNames.{named_of, named_items, named_within, named_lists}
use Rattle.wast_core_name_section.specs.WithinItems.{types_of}
use Rattle.wast_core_name_section.proofs.NameMaps.{direct_some, indirect_some}
use Rattle.wast_core_name_section.proofs.names_payload.any_in_map.Goals as goal

pub returns-in-Items : goal.returns-in-Items
returns-in-Items c =
    let space = c.in-Items.space in
    rw c.in-Items.is (c.any_of.ensures ∙ (ap (λ xs. nat_lt 0 (length (named_from 0 xs))) c.with_items-there.ensures
    ∙ direct_some (named_of space) (named_items space c.args.fields.now)))

pub returns-in-Within : goal.returns-in-Within
returns-in-Within c =
    let w = c.in-Within.within in
    let fields = c.args.fields.now in
    rw c.in-Within.is (c.any_lists.ensures ∙ (ap (λ xs. nat_lt 0 (length (named_from 0 xs))) (c.with_lists-there.ensures (types_of fields))
    ∙ indirect_some (named_within w) (named_lists w fields)))
