use Rattle.wasm_out.proofs.Worked as worked
use Rattle.wasm_out.proofs.worked_bytes.nested_body.Goals as goal

pub returns : goal.returns
returns c = worked.nested_body
