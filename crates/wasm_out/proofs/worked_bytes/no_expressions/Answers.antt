use Rattle.wasm_out.proofs.Worked as worked
use Rattle.wasm_out.proofs.worked_bytes.no_expressions.Goals as goal

pub returns : goal.returns
returns c = worked.no_expressions
