-- The goal of `unnamed_params` that is too large for a search: a turn of the loop is a step of the rule.
use Rattle.std.proofs.Common.{map, arith, rules}
use Rattle.wat_syntax.specs.Tokens.{with_parts}
use Rattle.wat_syntax.specs.Types.{goes_on, unnamed_param, unnamed_params}
use Rattle.wat_syntax.specs.Bare.{bare_param}
use Rattle.wat_text.specs.Readers.{left}
use Rattle.wat_text.proofs.Steps.{one_bare}
use Rattle.wat_text.proofs.reader.Reader.unnamed_params.Goals as goal

pub loop-preserved : goal.loop-preserved
loop-preserved c =
    let first = c.args.self.now in
    one_bare bare_param goes_on unnamed_param (with_parts (map bare_param c.args.params.now) (unnamed_params (left first))) first
    c.loop.self c.unnamed_param-param.new.self c.push_param.new.self c.loop.counter c.left-end.result c.unnamed_param-param.result
    c.loop.params c.push_param.new.params (omega (arith, c.loop-test.true)) (search rules) c.unnamed_param-param.ensures c.push_param.ensures c.loop.invariant
