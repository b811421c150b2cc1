-- What a run has read and written, after each read.
use Rattle.std.proofs.Common.{ℕ, List, [], ◌++◌, Option, sym, subst, append-nil}
use Rattle.std.specs.Io.KnownBytes.{Consumes, IsAtEnd, Keeps}
use Rattle.std.proofs.KnownBytes.{Consumes-nil, Consumes-trans, Consumes-kept, Appends-nil}
use Rattle.wast_rows.specs.declared.errors.RunError.{RunError}
use Rattle.wast_rows.specs.declared.errors.RunError.TheVariants as error
use Rattle.wast_rows.specs.Runs.{Ran, Stopped, StopsReading, EndedWriter, AnswersWriter, StopsWriter}
use Rattle.wast_rows.proofs.Feeding.{AnswersEnded-nil}
use Rattle.wast_rows.proofs.Writing.{EndedWriter-more, AnswersWriter-more, StopsWriter-more}

-- The start.
pub StopsReading-nil : (P : List ℕ → List ℕ → Type 0) (r w : Option (List ℕ)) → StopsReading P [] r r w w
StopsReading-nil P r w = record { text = []; output = []; consumed = Consumes-nil r; answered = AnswersEnded-nil P [] tt; appended = Appends-nil w }

-- A read that fails.
pub StopsReading-kept : (P : List ℕ → List ℕ → Type 0) (r s t w x : Option (List ℕ)) (left : List ℕ) → StopsReading P left r s w x → Keeps s t
    → StopsReading P left r t w x
StopsReading-kept P r s t w x left so_far kept =
    record {
      text = so_far.text;
      output = so_far.output;
      consumed = Consumes-kept r s t so_far.text so_far.consumed kept;
      answered = so_far.answered;
      appended = so_far.appended;
    }

module _ (P : List ℕ → List ℕ → Type 0) (r s t w x y : Option (List ℕ)) where
  written : (left : List ℕ) (so_far : StopsReading P left r s w x) → EndedWriter P so_far.text left w x
  written left so_far = record { output = so_far.output; answered = so_far.answered; appended = so_far.appended }

  -- One piece more.
  pub StopsReading-more : (left piece after : List ℕ) → StopsReading P left r s w x → Consumes s t piece → EndedWriter P (left ++ piece) after x y
      → StopsReading P after r t w y
  StopsReading-more left piece after so_far consumed fed =
      let whole = EndedWriter-more P so_far.text left piece after w x y (written left so_far) fed in
      record {
        text = so_far.text ++ piece;
        output = whole.output;
        consumed = Consumes-trans r s t so_far.text piece so_far.consumed consumed;
        answered = whole.answered;
        appended = whole.appended;
      }

  -- The end.
  pub Ran-end : (left : List ℕ) → StopsReading P left r s w x → Consumes s t [] → IsAtEnd t → AnswersWriter P left x y → Ran P r t w y
  Ran-end left so_far consumed end last =
      let whole = AnswersWriter-more P so_far.text left w x y (written left so_far) last in
      record {
        text = so_far.text;
        output = whole.output;
        consumed = subst (Consumes r t) (append-nil so_far.text) (Consumes-trans r s t so_far.text [] so_far.consumed consumed);
        at_end = end;
        answered = whole.answered;
        appended = whole.appended;
      }

  stopped_at : (e : RunError) (text : List ℕ) → Consumes r t text → StopsWriter P text e w y → Stopped P e r t w y
  stopped_at error.Read text consumed stopped = absurd stopped
  stopped_at error.Write text consumed stopped = record {
    text = text;
    output = stopped.output;
    consumed = consumed;
    begun = stopped.begun;
    appended = stopped.appended;
  }
  stopped_at error.Memory text consumed stopped = record {
    text = text;
    output = stopped.output;
    consumed = consumed;
    begun = stopped.begun;
    appended = stopped.appended;
  }

  -- An error after a piece.
  pub Stopped-piece : (left piece : List ℕ) (e : RunError) → StopsReading P left r s w x → Consumes s t piece → StopsWriter P (left ++ piece) e x y
      → Stopped P e r t w y
  Stopped-piece left piece e so_far consumed last =
      stopped_at e (so_far.text ++ piece) (Consumes-trans r s t so_far.text piece so_far.consumed consumed)
      (StopsWriter-more P so_far.text left piece e w x y (written left so_far) last)

  -- An error at the end.
  pub Stopped-end : (left : List ℕ) (e : RunError) → StopsReading P left r s w x → Consumes s t [] → StopsWriter P left e x y → Stopped P e r t w y
  Stopped-end left e so_far consumed last = Stopped-piece left [] e so_far consumed (subst (λ l. StopsWriter P l e x y) (sym (append-nil left)) last)
