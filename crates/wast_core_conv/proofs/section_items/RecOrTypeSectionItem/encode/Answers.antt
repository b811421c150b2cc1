use Rattle.std.proofs.Common.{◌≡◌, ◌∙◌, true, map, ap, sym, subst}
use Rattle.std.specs.List.{list_all}
use Rattle.wast_tree_nodes.specs.Sites.{in_type, in_rec}
use Rattle.wast_tree_nodes.specs.Resolved.{is_numbered, are_numbered}
use Rattle.wast_core_conv.specs.Entries.{is_encodable_entry}
use Rattle.wast_core_conv.specs.Meaning as meaning
use Rattle.wast_core_conv.proofs.EachPasses.{each_passes}
use Rattle.wast_core_conv.proofs.Ready.{asks_numbered}
use Rattle.wasm_ops.specs.Spelling.{sub_type}
use Rattle.wast_core_conv.proofs.TypesReady.{def_covered, types_covered}
use Rattle.wast_core_conv.proofs.section_items.RecOrTypeSectionItem.encode.Goals as goal

pub sub_type-requires : goal.sub_type-requires
sub_type-requires c = asks_numbered (in_type c.in-Ty.ty.now) (subst (λ e. is_encodable_entry e ≡ true) c.in-Ty.is c.requires)

pub subtype-requires : goal.subtype-requires
subtype-requires c =
    ap (λ x. (sub_type x).is_covered) c.in_ok-sub_type-in-Ty.ensures.value
    ∙ def_covered c.in-Ty.ty.now.def (subst (λ e. is_encodable_entry e ≡ true) c.in-Ty.is c.requires)

pub group-requires : goal.group-requires
group-requires c =
    let rec = c.in-Rec.rec.now in
    ap (list_all (λ t. are_numbered (in_type t))) c.as_slice.ensures
    ∙ (sym (each_passes is_numbered in_type rec.types) ∙ asks_numbered (in_rec rec) (subst (λ e. is_encodable_entry e ≡ true) c.in-Rec.is c.requires))

pub rec-requires : goal.rec-requires
rec-requires c =
    ap (list_all (λ x. (sub_type x).is_covered)) c.as_slice-in-Rec.ensures
    ∙ (ap (list_all (λ x. (sub_type x).is_covered)) c.in_ok-types-in-Rec.ensures.value
    ∙ (ap (λ ts. list_all (λ x. (sub_type x).is_covered) (map (λ t. meaning.as_sub_type t.def) ts)) c.as_slice.ensures
    ∙ types_covered c.in-Rec.rec.now (subst (λ e. is_encodable_entry e ≡ true) c.in-Rec.is c.requires)))
