use Rattle.std.proofs.Common.{◌∙◌, ap}
use Rattle.std.specs.List.{list_all}
use Rattle.wast_base.specs.Ids.{is_number}
use Rattle.wast_core_conv.proofs.Spelled.{branches_written}
use Rattle.wast_core_conv.proofs.Standing.{br_table_parts}
use Rattle.wast_core_conv.proofs.instr_values.put_br_table.Goals as goal

pub index-requires : goal.index-requires
index-requires g c = (br_table_parts c.args.table.now c.requires).1

pub encode-requires : goal.encode-requires
encode-requires g c = ap (list_all is_number) c.as_slice.ensures ∙ (br_table_parts c.args.table.now c.requires).0

pub returns : goal.returns
returns g c =
    rw (← c.index.ensures)
    (branches_written g.S.Sink.rules c.args.out.now c.encode.new.out c.as_slice.result.now c.args.table.now.labels c.index.result c.encode.result
    c.as_slice.ensures c.encode.ensures)
