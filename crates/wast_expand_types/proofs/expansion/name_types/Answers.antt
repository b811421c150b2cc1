use Rattle.std.proofs.Common.{◌<◌, length, length-set, ◌∙◌, arith}
use Rattle.std.proofs.lemmas.Result.{err_from_is_err_and}
use Rattle.wast_expand_types.proofs.Naming.{stops_in_field, names_next, counted_next, fields_next}
use Rattle.wast_expand_types.proofs.expansion.name_types.Goals as goal

pub loop-i-preserved : goal.loop-i-preserved
loop-i-preserved c =
    let l = c.loop-i in
    let e = c.in_ok-name_type.ensures in
    let new = c.name_type.new in
    let x = c.at_mut.result.now in
    let at = c.at_mut.ensures.value in
    let lt : l.i < length l.fields = omega (arith, l.invariant.len, c.loop-i-test.true, c.len-i-end.ensures) in
    record {
      len = length-set l.fields l.i new.field ∙ l.invariant.len;
      fields = fields_next c.args.names.now l.names c.args.fields.now l.fields l.gensym c.args.gensym.now l.i x lt at l.invariant.counted
          l.invariant.names new.field new.gensym new.names e.field e.counted l.invariant.fields;
      counted = counted_next c.args.names.now l.names c.args.fields.now l.fields l.gensym c.args.gensym.now l.i x lt at l.invariant.counted
          l.invariant.names new.field new.gensym new.names e.counted;
      names = names_next c.args.names.now l.names c.args.fields.now l.fields l.gensym c.args.gensym.now l.i x lt at l.invariant.counted
          l.invariant.names new.field new.gensym new.names e.names;
      rising = omega (arith, l.invariant.rising, e.counted);
    }

pub returns-in_err-name_type-clause-refusal : goal.returns-in_err-name_type-clause-refusal
returns-in_err-name_type-clause-refusal c =
    let p = err_from_is_err_and c.from_residual.result c.from_residual.ensures.1 in
    let l = c.loop-i in
    let lt : l.i < length l.fields = omega (arith, l.invariant.len, c.loop-i-test.true, c.len-i-end.ensures) in
    rw (p.1, p.2) (stops_in_field c.args.names.now l.names c.args.fields.now l.fields l.gensym c.args.gensym.now l.i c.at_mut.result.now lt
    c.at_mut.ensures.value l.invariant.counted l.invariant.names
    c.in_err-name_type.field-0.0 c.in_err-name_type.ensures.refusal)
