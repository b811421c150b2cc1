-- The result for a module that may be resolved is one for a parsed module, which a caller may have changed.
use Rattle.std.proofs.Common.{ℕ, List, Option, Result, Ok, Err}
use Rattle.std.specs.Global.{Vec}
use Rattle.wast_base.specs.declared.spaces.Space.{Space}
use Rattle.wast_core.specs.declared.module.Module.{Module}
use Rattle.wat_tokens.specs.declared.faults.TextError.{TextError}
use Rattle.wat_bytes.specs.declared.names.Denoted.{Denoted}
use Rattle.wat_bytes.specs.declared.refusals.Refused.{Refused}
use Rattle.wat_bytes.specs.declared.refusals.Refused.TheVariants as answer
use Rattle.wat_bytes.specs.Names.{ListsModule, NumbersModule}
use Rattle.wat_bytes.specs.Texts.{EncodesModule, OrUnready}

-- No such result is an error of a text.
asked : {A : Type 0} (is_answer : Module → Result A Refused → Type 0) (m : Module)
    → ((e : TextError) → is_answer m (Err (answer.Text e)) → ⊥) → (r : Result A Refused) → is_answer m r → OrUnready is_answer m r
asked is_answer m none (Ok x) h = h
asked is_answer m none (Err (answer.Text e)) h = absurd (none e h)
asked is_answer m none (Err (answer.Module e)) h = h
asked is_answer m none (Err (answer.Uncovered u)) h = h

pub encoded_asked : (m : Module) (r : Result (Vec ℕ) Refused) → EncodesModule m r → OrUnready EncodesModule m r
encoded_asked m r h = asked EncodesModule m (λ e x. x) r h

pub listed_asked : (m : Module) (r : Result (Vec Denoted) Refused) → ListsModule m r → OrUnready ListsModule m r
listed_asked m r h = asked ListsModule m (λ e x. x) r h

pub numbered_asked : (s : Space) (name : List ℕ) (m : Module) (r : Result (Option ℕ) Refused) → NumbersModule s name m r → OrUnready (NumbersModule s name) m r
numbered_asked s name m r h = asked (NumbersModule s name) m (λ e x. x) r h
