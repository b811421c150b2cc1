use Rattle.std.proofs.Common.{◌≡◌, ◌++◌, ◌∙◌, List, Option, ap, sym, subst, inl}
use Rattle.std.specs.Prelude.{All}
use Rattle.wast_base.specs.Ids.{Name}
use Rattle.wast_base.specs.Spaces.{position_of}
use Rattle.wast_base.specs.Filling.{RunsOut}
use Rattle.wast_tree_nodes.specs.Items.{items}
use Rattle.wast_tree_nodes.specs.Known.{names_in}
use Rattle.wast_expand_types.specs.Tree.space
use Rattle.wast_expand_keys.specs.Numbers.{type_names}
use Rattle.wast_expand_keys.specs.Expanders.{Bound, numbers_in}
use Rattle.wast_expand_types.specs.Binding.{IsPassedField}
use Rattle.wast_expand_types.proofs.Expanding.{counts, lists, all_passed}
use Rattle.wast_expand_types.proofs.expansion.expand_fields.Goals as goal

pub bind_fields-bound-requires : goal.bind_fields-bound-requires
bind_fields-bound-requires c h =
    subst (All IsPassedField) (sym c.in_ok-name_types.ensures.fields) (all_passed c.args.gensym.now c.args.fields.now (c.requires h))

pub returns-clause-refusal : goal.returns-clause-refusal
returns-clause-refusal c =
    let e = c.in_ok-name_types.ensures in
    let knows : (q : Name) → numbers_in c.with_names-cx.result q ≡ type_names c.args.fields.now q =
    λ q. ap (λ (cx : Bound). numbers_in cx q) c.with_names-cx.ensures
    ∙ ap (position_of q) (e.names ∙ ap (λ (ns : List (Option Name)). ns ++ names_in space.Ty (items c.args.fields.now)) c.none-names.ensures) in
    let total = counts c.args.gensym.now c.args.fields.now c.name_types.new.fields c.as_slice.result.now c.with_names-cx.result
    (record { alloc = c.args.alloc; cx = c.bind_types.new.cx; implied = c.new.result; gensym = c.replace.result }) e.fields
    (c.replace.ensures.value ∙ e.counted) c.as_slice.ensures
    knows (ap (λ (cx : Bound). cx.bound) c.with_names-cx.ensures) c.new.ensures c.in_ok-bind_types.ensures.names c.in_ok-bind_types.ensures.ok in
    inl (subst (λ n. RunsOut n c.in-Err.e) total c.in-Err.ensures.refusal)

pub returns-in-Ok-clause-list : goal.returns-in-Ok-clause-list
returns-in-Ok-clause-list c =
    let e = c.in_ok-name_types.ensures in
    let knows : (q : Name) → numbers_in c.with_names-cx.result q ≡ type_names c.args.fields.now q =
    λ q. ap (λ (cx : Bound). numbers_in cx q) c.with_names-cx.ensures
    ∙ ap (position_of q) (e.names ∙ ap (λ (ns : List (Option Name)). ns ++ names_in space.Ty (items c.args.fields.now)) c.none-names.ensures) in
    lists c.args.gensym.now c.args.fields.now c.name_types.new.fields c.as_slice.result.now c.with_names-cx.result (record {
      alloc = c.args.alloc;
      cx = c.bind_types.new.cx;
      implied = c.new.result;
      gensym = c.replace.result;
    }) e.fields (c.replace.ensures.value ∙ e.counted) c.as_slice.ensures
    knows (ap (λ (cx : Bound). cx.bound) c.with_names-cx.ensures) c.new.ensures c.in_ok-bind_types.ensures.names c.in_ok-bind_types.ensures.ok
    c.in-Ok.ensures.adds c.in-Ok.ensures.bound c.in_ok-append-in-Ok.ensures.ok

pub returns-in-Ok-clause-counted : goal.returns-in-Ok-clause-counted
returns-in-Ok-clause-counted c =
    let e = c.in_ok-name_types.ensures in
    let knows : (q : Name) → numbers_in c.with_names-cx.result q ≡ type_names c.args.fields.now q =
    λ q. ap (λ (cx : Bound). numbers_in cx q) c.with_names-cx.ensures
    ∙ ap (position_of q) (e.names ∙ ap (λ (ns : List (Option Name)). ns ++ names_in space.Ty (items c.args.fields.now)) c.none-names.ensures) in
    c.in-Ok.ensures.adds.counter
    ∙ counts c.args.gensym.now c.args.fields.now c.name_types.new.fields c.as_slice.result.now c.with_names-cx.result (record {
      alloc = c.args.alloc;
      cx = c.bind_types.new.cx;
      implied = c.new.result;
      gensym = c.replace.result;
    }) e.fields (c.replace.ensures.value ∙ e.counted) c.as_slice.ensures
    knows (ap (λ (cx : Bound). cx.bound) c.with_names-cx.ensures) c.new.ensures c.in_ok-bind_types.ensures.names c.in_ok-bind_types.ensures.ok
