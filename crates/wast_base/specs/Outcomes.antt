-- The result of a call that may fail with the first failed check.
--
--   Outcome ⊥ ⊥ None (Ok x)                             holds: all checks pass
--   Outcome ⊥ ⊥ (Some (E4, 8)) (Err e)                  holds only if e is E4 at 8
--   Outcome memory ⊥ unmet (Err e), e is E12            holds if `memory` does
use Rattle.std.specs.Prelude.{◌≡◌, Option, None, Result, Ok, Err}
use Rattle.wast_base.specs.declared.ids.Span.{Span}
use Rattle.wast_base.specs.declared.faults.Error.{Error}
use Rattle.wast_base.specs.Faults.{Cause, Diagnostic, At, Nowhere, diagnostic_of}
use Rattle.wast_base.specs.FirstUnmet.{Answers}

-- The call succeeds only if no check fails, and an error reports the first failed check or a permitted limit.
abbrev pub Outcome : {T : Type 0} → (memory many : Type 0) → Option (Cause × Span) → Result T Error → Type 0
Outcome memory many unmet (Ok x) = unmet ≡ None
Outcome memory many unmet (Err e) = Answers memory many (diagnostic_of e) unmet

-- The same, and on success the value is `want`. `memory` is the condition under which E12 is permitted.
abbrev pub Gives : {T : Type 0} → (memory : Type 0) → Option (Cause × Span) → T → Result T Error → Type 0
Gives memory unmet want (Ok x) = (unmet ≡ None) × (x ≡ want)
Gives memory unmet want (Err e) = Answers memory ⊥ (diagnostic_of e) unmet

-- the new value after an error with a position, and the old value after one without
abbrev pub after_told : {S : Type 0} → Diagnostic → S → S → S
after_told (At fault place) new old = new
after_told (Nowhere fault) new old = old

-- the new value, except after an error without a position, such as E12: then the old value
abbrev pub unless_refused : {T S : Type 0} → Result T Error → S → S → S
unless_refused (Ok x) new old = new
unless_refused (Err e) new old = after_told (diagnostic_of e) new old
