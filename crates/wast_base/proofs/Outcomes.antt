-- Lemma: an `Outcome` restricts the error of a failed call.
use Rattle.std.proofs.Common.{Option, Result, Ok, Err}
use Rattle.std.specs.Prelude.{IfErr}
use Rattle.wast_base.specs.declared.ids.Span.{Span}
use Rattle.wast_base.specs.declared.faults.Error.{Error}
use Rattle.wast_base.specs.Faults.{Cause, diagnostic_of}
use Rattle.wast_base.specs.FirstUnmet.{Answers}
use Rattle.wast_base.specs.Outcomes.{Outcome}

-- the error is one that `Answers` permits
pub error_answers : {T : Type 0} (memory many : Type 0) (unmet : Option (Cause × Span)) (r : Result T Error) → Outcome memory many unmet r
    → IfErr r (λ e. Answers memory many (diagnostic_of e) unmet)
error_answers memory many unmet (Ok x) h = tt
error_answers memory many unmet (Err e) h = h
