use Rattle.wasm_out.proofs.PartCodes.{entry_code, payload_whole, part_code}
use Rattle.wasm_out.proofs.laws.part_spelling_law.Goals as goal

pub returns-clause-entries : goal.returns-clause-entries
returns-clause-entries c = entry_code

pub returns-clause-payloads : goal.returns-clause-payloads
returns-clause-payloads c = payload_whole

pub returns-clause-parts : goal.returns-clause-parts
returns-clause-parts c = part_code
