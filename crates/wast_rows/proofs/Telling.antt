-- The line of a module.
use Rattle.std.proofs.Common.{◌≡◌, ℕ, zero, suc, ◌≤◌, ◌==◌, List, Some, None, Result, Ok, sym, subst, arith}
use Rattle.std.specs.Global.{Vec}
use Rattle.wast_base.specs.declared.faults.Error.{Error}
use Rattle.wast_core.specs.declared.module.Module.{Module}
use Rattle.wast_core.specs.Headline.{Encodes}
use Rattle.wast_core.specs.Modules.{ill_formed, generation_bound}
use Rattle.wast_rows.specs.Answers.{TellsAnswer, TellsModule, TellsWritten, TellsFormed, TellsRow}

-- The line by the largest generation in the module.
written_row : (m : Module) (bound : ℕ) (line : List ℕ) → bound ≤ 0 → TellsModule m line → TellsWritten (bound == 0) m line
written_row m zero line le tells = tells
written_row m (suc n) line le tells = absurd (omega arith)

-- The line of a module that was encoded.
pub encoded_row : (m after : Module) (counter : ℕ) (answer : Result (Vec ℕ) Error) (line : List ℕ) → ill_formed m ≡ None → generation_bound m ≤ 0
    → Encodes m 1 answer after counter → TellsAnswer answer line
    → TellsRow (Some (Ok m)) line
encoded_row m after counter answer line well fresh encodes tells =
    subst (λ clause. TellsFormed clause m line) (sym well) (written_row m (generation_bound m) line fresh (record {
      answer = answer;
      after = after;
      counter = counter;
      encodes = encodes;
      tells = tells;
    }))
