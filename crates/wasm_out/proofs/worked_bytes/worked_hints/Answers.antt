use Rattle.wasm_out.proofs.Worked as worked
use Rattle.wasm_out.proofs.worked_bytes.worked_hints.Goals as goal

pub returns : goal.returns
returns c = worked.worked_hints
