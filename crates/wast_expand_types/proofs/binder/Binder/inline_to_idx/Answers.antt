use Rattle.std.proofs.Common.{sym, ap, ◌∙◌, subst, ◌∷◌, []}
use Rattle.wast_base.specs.Ids.{gensym_id}
use Rattle.wast_base.specs.Spaces.{position_of}
use Rattle.wast_expand_types.specs.Tree.index
use Rattle.wast_expand_keys.specs.NeedingUses.{inline_signature}
use Rattle.wast_expand_keys.specs.Numbers.{numbered_signature}
use Rattle.wast_expand_keys.specs.Expanders.{Bound, index_of, Extends}
use Rattle.wast_expand_keys.specs.Expanded.{start_of_text}
use Rattle.wast_expand_types.proofs.OneMore.{now_bound, adds_one}
use Rattle.wast_expand_types.proofs.binder.Binder.inline_to_idx.Goals as goal

pub returns-clause-index : goal.returns-clause-index
returns-clause-index c =
    let e = c.in_ok-index-in-None.ensures in
    let k = c.in_ok-key.ensures in
    let names = e.names ∙ ap (λ (cx : Bound). cx.names) k.stays in
    ap (index_of c.add_type.new.self.cx.bound) ((λ i. numbered_signature (λ name. position_of name (names i)) (inline_signature c.args.inline.now)) ∙ sym k.ok)
    ∙ now_bound c.inline_key.new.cx.bound c.add_type.new.self.cx.bound c.in_ok-key.key _ _ (sym c.in-None.ensures) e.index e.types

pub returns-clause-adds : goal.returns-clause-adds
returns-clause-adds c =
    let e = c.in_ok-index-in-None.ensures in
    let k = c.in_ok-key.ensures in
    let bound = λ (cx : Bound). Extends cx.bound c.add_type.new.self.cx.bound
    ((c.in_ok-key.key, index.Id (gensym_id c.args.self.now.gensym start_of_text)) ∷ []) in
    adds_one k.ok (ap (λ (cx : Bound). index_of cx.bound c.in_ok-key.key) (sym k.stays) ∙ sym c.in-None.ensures) (e.names
    ∙ ap (λ (cx : Bound). cx.names) k.stays) (subst bound k.stays e.types) e.implied e.counted
