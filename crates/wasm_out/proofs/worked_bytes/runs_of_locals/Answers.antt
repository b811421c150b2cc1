use Rattle.wasm_out.proofs.Worked as worked
use Rattle.wasm_out.proofs.worked_bytes.runs_of_locals.Goals as goal

pub returns : goal.returns
returns c = worked.runs_of_locals
