use Rattle.wasm_out.proofs.PartCodes.{one_module, one_spelling}
use Rattle.wasm_out.proofs.laws.reading_laws.Goals as goal

pub returns-clause-one_module : goal.returns-clause-one_module
returns-clause-one_module c = one_module

pub returns-clause-one_spelling : goal.returns-clause-one_spelling
returns-clause-one_spelling c = one_spelling
