use Rattle.std.proofs.Common.{length, ◌&&◌}
use Rattle.std.specs.List.{list_all}
use Rattle.wast_tree_nodes.specs.Clauses.{stand_from}
use Rattle.wast_tree_nodes.specs.Sites.{in_local}
use Rattle.wast_core_conv.specs.Encodable.{are_encodable, is_encodable_instr}
use Rattle.wast_core_conv.specs.Meaning as meaning
use Rattle.wast_core_conv.proofs.EachPasses.{both_true}
use Rattle.wast_core_conv.proofs.Hinting.{hints_written}
use Rattle.wast_core_conv.proofs.hint_values.put_hints.Goals as goal

pub encode-requires : goal.encode-requires
encode-requires g c =
    let is = c.args.instrs.now in
    both_true (list_all (λ l. are_encodable (in_local l)) c.args.locals.now)
    (list_all is_encodable_instr is && stand_from (length is) 0 c.args.hints.now) c.requires.locals
    (both_true (list_all is_encodable_instr is) (stand_from (length is) 0 c.args.hints.now) c.requires.instrs c.requires.hints)

pub returns : goal.returns
returns g c = hints_written g.S.Sink.rules c.args.out.now c.encode.new.out
    (meaning.body_of c.args.locals.now c.args.instrs.now) c.args.hints.now c.in-Ok.count c.encode.result c.in-Ok.ensures.1 c.encode.ensures
