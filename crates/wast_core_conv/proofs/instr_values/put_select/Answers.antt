use Rattle.std.proofs.Common.{◌≡◌, true, sym, ◌∙◌, subst}
use Rattle.std.specs.Prelude.{map}
use Rattle.std.specs.List.{flat_map}
use Rattle.wast_tree_nodes.specs.Sites.{if_there, in_val}
use Rattle.wasm_ops.specs.Spelling.{val_type}
use Rattle.wast_core_conv.specs.Encodable.{is_encodable_ask, are_encodable}
use Rattle.wast_core_conv.specs.Meaning as meaning
use Rattle.wast_core_conv.proofs.EachPasses.{each_passes}
use Rattle.wast_core_conv.proofs.Spelled.{list_written, select_written}
use Rattle.wast_core_conv.proofs.instr_values.put_select.Goals as goal

pub encode-requires-in-Some : goal.encode-requires-in-Some
encode-requires-in-Some g c =
    rw c.as_slice.ensures (sym (each_passes is_encodable_ask in_val c.in-Some.written)
    ∙ subst (λ o. are_encodable (if_there (flat_map in_val) o) ≡ true) c.in-Some.is c.requires)

pub returns-in-None : goal.returns-in-None
returns-in-None g c = rw c.in-None.is c.encode.ensures

pub returns-in-Some : goal.returns-in-Some
returns-in-Some g c =
    rw c.in-Some.is
    (select_written g.S.Sink.rules c.args.out.now c.encode-in-Some.new.out (map meaning.as_val_type c.in-Some.written) c.encode-in-Some.result
    (list_written g.S.Sink.rules c.args.out.now c.encode-in-Some.new.out 0x1c (λ x. (val_type x).bytes)
    (λ x. (val_type x).in_range) meaning.as_val_type c.as_slice.result.now c.in-Some.written c.encode-in-Some.result c.as_slice.ensures
    c.encode-in-Some.ensures))
