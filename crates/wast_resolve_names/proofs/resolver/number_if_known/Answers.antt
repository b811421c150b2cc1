use Rattle.std.proofs.Common.{Bool, ap, sym, subst, append-nil}
use Rattle.wast_tree_nodes.specs.Sites.{ItemIndex, in_index}
use Rattle.wast_resolve_rules.specs.Demands.{first_unmet, ask_demand, ask_demands}
use Rattle.wast_resolve_rules.specs.Resolved.{numbered_at}
use Rattle.wast_resolve_names.specs.Resolvers.{known_of}
use Rattle.wast_resolve_names.specs.Walking.{Tries}
use Rattle.wast_resolve_names.proofs.Trials.{tries_index, tries_in}
use Rattle.wast_base.specs.Spaces.{word_of}
use Rattle.wast_resolve_names.proofs.resolver.number_if_known.Goals as goal

pub returns : goal.returns
returns c =
    let k = known_of c.args.names.now in
    let s = c.args.space in
    let i = c.args.idx.now in
    let new = c.try_number.new.idx in
    let asked = ask_demand k (ItemIndex s i) in
    subst (λ (b : Bool). Tries (ask_demands k (in_index s i)) (numbered_at k s i) i new b) (sym c.is_some.ensures)
    (tries_in (λ j. j) asked (ask_demands k (in_index s i)) (numbered_at k s i) i new _ (ap first_unmet (sym (append-nil asked)))
    (tries_index (k.number s) (word_of s) i new c.try_number.result c.try_number.ensures.number c.try_number.ensures.index))
