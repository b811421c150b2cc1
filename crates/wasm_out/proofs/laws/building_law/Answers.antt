use Rattle.std.proofs.Common.{refl}
use Rattle.wasm_out.specs.Parts.{entry}
use Rattle.wasm_out.proofs.Building.{built_with-built}
use Rattle.wasm_out.proofs.laws.building_law.Goals as goal

pub returns-clause-more : goal.returns-clause-more
returns-clause-more c = λ kind items item. built_with-built (entry kind) items item

pub returns-clause-payloads : goal.returns-clause-payloads
returns-clause-payloads c = λ kind items. refl
