use Rattle.std.proofs.Common.{refl, ap, subst}
use Rattle.std.specs.Prelude.{⊤, IsTrue}
use Rattle.wast_tree_nodes.specs.Sites.{check_sites, at_index, exported_space, in_func, in_type, in_rec, in_import, in_table_kind}
use Rattle.wast_tree_nodes.specs.Sites.{in_memory_kind, in_global, in_elem, in_data_kind, in_tag_type}
use Rattle.wast_resolve_passes.specs.Tree.field
use Rattle.wast_resolve_passes.specs.Tree.space
use Rattle.wast_resolve_rules.specs.Demands.{HasMany, body_counts_in, site_demands, first_unmet}
use Rattle.wast_tree_map.specs.Mapped.{mapped_type, mapped_rec, mapped_import, mapped_func, mapped_table, mapped_memory, mapped_global}
use Rattle.wast_tree_map.specs.Mapped.{mapped_export, mapped_elem, mapped_data, mapped_tag}
use Rattle.wast_resolve_rules.specs.Resolved.{numbered_at, numbering_change}
use Rattle.wast_resolve_names.specs.Resolvers.{scope_of}
use Rattle.wast_resolve_rules.proofs.CustomsAsk.{custom_asks}
use Rattle.wast_resolve_passes.specs.NumberedBodies.{IsNumberedField}
use Rattle.wast_resolve_names.proofs.Parts.{walks_in}
use Rattle.wast_resolve_passes.proofs.TwoSteps.{of_field}
use Rattle.wast_resolve_passes.proofs.walks.walk_field.Goals as goal

pub returns-in-Ty : goal.returns-in-Ty
returns-in-Ty c =
    let x = c.in-Ty.ty in
    let s = scope_of c.args.names.now in
    rw c.in-Ty.is (of_field (HasMany (body_counts_in s (field.Ty x))) field.Ty s (check_sites (in_type x))
    (mapped_type (numbering_change s) x) c.walk_outside.new.part c.walk_outside.result c.walk_outside.ensures)

pub returns-in-Rec : goal.returns-in-Rec
returns-in-Rec c =
    let x = c.in-Rec.rec in
    let s = scope_of c.args.names.now in
    rw c.in-Rec.is (of_field (HasMany (body_counts_in s (field.Rec x))) field.Rec s (check_sites (in_rec x))
    (mapped_rec (numbering_change s) x) c.walk_outside-in-Rec.new.part c.walk_outside-in-Rec.result c.walk_outside-in-Rec.ensures)

pub returns-in-Import : goal.returns-in-Import
returns-in-Import c =
    let x = c.in-Import.imports in
    let s = scope_of c.args.names.now in
    rw c.in-Import.is (of_field (HasMany (body_counts_in s (field.Import x))) field.Import s (in_import x.items)
    (mapped_import (numbering_change s) x) c.walk_apart.new.self c.walk_apart.result c.walk_apart.ensures)

pub returns-in-Table : goal.returns-in-Table
returns-in-Table c =
    let x = c.in-Table.table in
    let s = scope_of c.args.names.now in
    rw c.in-Table.is (walks_in ⊤ (HasMany (body_counts_in s (field.Table x))) field.Table (site_demands s (in_table_kind x.kind))
    (mapped_table (numbering_change s) x) c.walk_constants.new.self c.walk_constants.result c.walk_constants.ensures)

pub returns-in-Memory : goal.returns-in-Memory
returns-in-Memory c =
    let x = c.in-Memory.memory in
    let s = scope_of c.args.names.now in
    rw c.in-Memory.is (of_field (HasMany (body_counts_in s (field.Memory x))) field.Memory s (in_memory_kind x.kind)
    (mapped_memory (numbering_change s) x) c.walk_apart-in-Memory.new.self c.walk_apart-in-Memory.result c.walk_apart-in-Memory.ensures)

pub returns-in-Global : goal.returns-in-Global
returns-in-Global c =
    let x = c.in-Global.global in
    let s = scope_of c.args.names.now in
    rw c.in-Global.is (walks_in ⊤ (HasMany (body_counts_in s (field.Global x))) field.Global (site_demands s (in_global x))
    (mapped_global (numbering_change s) x) c.walk_constants-in-Global.new.self c.walk_constants-in-Global.result c.walk_constants-in-Global.ensures)

pub returns-in-Export : goal.returns-in-Export
returns-in-Export c =
    let x = c.in-Export.export in
    let s = scope_of c.args.names.now in
    rw c.in-Export.is (of_field (HasMany (body_counts_in s (field.Export x))) field.Export s (at_index (exported_space x.kind) x.item)
    (mapped_export (numbering_change s) x) c.walk_outside-in-Export.new.part c.walk_outside-in-Export.result c.walk_outside-in-Export.ensures)

pub returns-in-Start : goal.returns-in-Start
returns-in-Start c =
    let x = c.in-Start.func in
    let s = scope_of c.args.names.now in
    rw c.in-Start.is (of_field (HasMany (body_counts_in s (field.Start x))) field.Start s (at_index space.Func x)
    (numbered_at s.known space.Func x) c.walk_outside_index.new.index c.walk_outside_index.result c.walk_outside_index.ensures)

pub returns-in-Elem : goal.returns-in-Elem
returns-in-Elem c =
    let x = c.in-Elem.elem in
    let s = scope_of c.args.names.now in
    rw c.in-Elem.is (walks_in ⊤ (HasMany (body_counts_in s (field.Elem x))) field.Elem (site_demands s (in_elem x))
    (mapped_elem (numbering_change s) x) c.walk_constants-in-Elem.new.self c.walk_constants-in-Elem.result c.walk_constants-in-Elem.ensures)

pub returns-in-Data : goal.returns-in-Data
returns-in-Data c =
    let x = c.in-Data.data in
    let s = scope_of c.args.names.now in
    rw c.in-Data.is (walks_in ⊤ (HasMany (body_counts_in s (field.Data x))) field.Data (site_demands s (in_data_kind x.kind))
    (mapped_data (numbering_change s) x) c.walk_constants-in-Data.new.self c.walk_constants-in-Data.result c.walk_constants-in-Data.ensures)

pub returns-in-Tag : goal.returns-in-Tag
returns-in-Tag c =
    let x = c.in-Tag.tag in
    let s = scope_of c.args.names.now in
    rw c.in-Tag.is (of_field (HasMany (body_counts_in s (field.Tag x))) field.Tag s (in_tag_type x.ty)
    (mapped_tag (numbering_change s) x) c.walk_apart-in-Tag.new.self c.walk_apart-in-Tag.result c.walk_apart-in-Tag.ensures)

pub walk_func-requires : goal.walk_func-requires
walk_func-requires c = subst (λ x. IsTrue c.args.skips_bodies → IsNumberedField x) c.in-Func.is c.requires

pub returns-in-Func : goal.returns-in-Func
returns-in-Func c =
    let f = c.in-Func.func in
    let s = scope_of c.args.names.now in
    rw c.in-Func.is (walks_in ⊤ (HasMany (body_counts_in s (field.Func f))) field.Func (site_demands s (in_func f))
    (mapped_func (numbering_change s) f) c.walk_func.new.func c.walk_func.result c.walk_func.ensures)

pub returns-in-Custom : goal.returns-in-Custom
returns-in-Custom c = rw c.in-Custom.is (ap first_unmet (custom_asks (scope_of c.args.names.now) c.in-Custom.field-0), refl)
