use Rattle.wasm_out.proofs.Worked as worked
use Rattle.wasm_out.proofs.worked_bytes.worked_producers.Goals as goal

pub returns : goal.returns
returns c = worked.worked_producers
