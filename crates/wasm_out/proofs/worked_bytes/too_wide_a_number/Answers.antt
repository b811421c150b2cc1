use Rattle.wasm_out.proofs.TooWide.{no_module}
use Rattle.wasm_out.proofs.worked_bytes.too_wide_a_number.Goals as goal

pub returns : goal.returns
returns c = no_module
