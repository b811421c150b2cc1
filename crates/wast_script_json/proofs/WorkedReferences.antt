-- Proves the examples of specs/WorkedReferences by computing them.
use Rattle.std.proofs.Common.{refl}
use Rattle.wast_script_json.specs.WorkedReferences.{WorkedReferences}

pub references : WorkedReferences
references = (λ n k. refl, λ n k. refl, λ n k. refl, λ n. refl, λ n k. refl, λ n. refl, λ n k. refl, λ n k. refl, λ n k. refl)
