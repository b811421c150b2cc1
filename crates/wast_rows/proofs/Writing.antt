-- What a writer has taken after several writes.
use Rattle.std.proofs.Common.{◌+◌, ◌<◌, suc, add-one, get_or, subst, ◌≡◌, ◌≢◌, ℕ, List, [], ◌∷◌, ◌++◌, length, ◌==◌, false, Option, Result}
use Rattle.std.proofs.Common.{Ok, Err, OnErr, IfErr, IsErrAnd, refl, sym, ap, ◌∙◌, append_assoc, take, drop, take-append-drop}
use Rattle.std.proofs.Math.Seq.{take-suc, drop-cons}
use Rattle.std.specs.Io.KnownBytes.{Appends, Keeps}
use Rattle.std.proofs.KnownBytes.{Appends-nil, Appends-trans, Appends-kept, Keeps-refl}
use Rattle.wast_rows.specs.declared.errors.RunError.{RunError}
use Rattle.wast_rows.specs.declared.errors.RunError.TheVariants as error
use Rattle.wast_rows.specs.Lines.{line_feed, ended_line}
use Rattle.wast_rows.specs.Runs.{IsOpen, WritesOn, BeginsAnswer, BeginsLine, BeginsBytes, StopsWriter, StopsLine, AnswersLine, AnswersWriter, EndedWriter}
use Rattle.wast_rows.proofs.Feeding.{AnswersEnded-nil, AnswersEnded-feed, AnswersEnded-more, AnswersText-open, AnswersText-more}
use Rattle.wast_rows.proofs.Feeding.{BeginsText-feed, BeginsText-open, BeginsText-more, short_none, short_more}

-- What holds after a failed write holds for its error.
pub when_written : {T : Type 0} (r : Result T RunError) (S : RunError → Type 0) → OnErr r (S error.Write) → IfErr r (λ e. e ≡ error.Write) → IfErr r S
when_written (Ok x) S p e = tt
when_written (Err y) S p e = subst S (sym e) p

-- What holds for an error holds if that is the error.
pub if_raised : {T : Type 0} (r : Result T RunError) (S : RunError → Type 0) (e : RunError) → IsErrAnd r (λ d. d ≡ e) → S e → IfErr r S
if_raised (Ok x) S e is p = absurd is
if_raised (Err y) S e is p = subst S (sym is) p

-- A line with a length above 0 has bytes.
pub some_line : (line : List ℕ) → (length line == 0) ≡ false → line ≢ []
some_line [] test e = cc
some_line (byte ∷ line) test e = cc

-- One write more.
pub WritesOn-more : (bytes rest left : List ℕ) (count : ℕ) (a b c : Option (List ℕ)) → WritesOn bytes rest a b → Appends b c (take count rest)
    → left ≡ drop count rest → WritesOn bytes left a c
WritesOn-more bytes rest left count a b c so_far written e =
    record {
      part = so_far.part ++ take count rest;
      split = so_far.split ∙ ap (λ l. so_far.part ++ l) (sym (take-append-drop count rest) ∙ ap (λ l. take count rest ++ l) (sym e))
          ∙ sym (append_assoc so_far.part (take count rest) left);
      appended = Appends-trans a b c so_far.part (take count rest) so_far.appended written;
    }

module _ (P : List ℕ → List ℕ → Type 0) where
  -- A prefix of the line for a line of the input.
  pub BeginsLine-partly : (line told bytes : List ℕ) (a b : Option (List ℕ)) → P line told → bytes ≡ ended_line told → BeginsBytes bytes a b
      → BeginsLine P line a b
  BeginsLine-partly line told bytes a b answers e begun =
      let taken = begun.writes_on in
      record { part = taken.part; begun = BeginsAnswer.partly line [] told begun.rest refl answers (sym e ∙ taken.split); appended = taken.appended }

  -- A text without a final line feed: the open line, one that ends, and more.
  pub EndedWriter-nil : (line : List ℕ) (a : Option (List ℕ)) → IsOpen line → EndedWriter P line line a a
  EndedWriter-nil line a no_feed = record { output = []; answered = AnswersEnded-nil P line no_feed; appended = Appends-nil a }

  pub EndedWriter-feed : (line : List ℕ) (a b : Option (List ℕ)) → IsOpen line → AnswersLine P line a b → EndedWriter P (ended_line line) [] a b
  EndedWriter-feed line a b no_feed last = record {
    output = ended_line last.told;
    answered = AnswersEnded-feed P line last.told no_feed last.answers;
    appended = last.appended;
  }

  pub EndedWriter-more : (text middle more left : List ℕ) (a b c : Option (List ℕ)) → EndedWriter P text middle a b → EndedWriter P (middle ++ more) left b c
      → EndedWriter P (text ++ more) left a c
  EndedWriter-more text middle more left a b c first second =
      record {
        output = first.output ++ second.output;
        answered = AnswersEnded-more P text middle more left first.output second.output first.answered second.answered;
        appended = Appends-trans a b c first.output second.output first.appended second.appended;
      }

  -- What is written at the end: for the open line, after the lines for those that ended.
  pub AnswersWriter-open : (line : List ℕ) (a b : Option (List ℕ)) → line ≢ [] → IsOpen line → AnswersLine P line a b → AnswersWriter P line a b
  AnswersWriter-open line a b some no_feed last = record {
    output = ended_line last.told;
    answered = AnswersText-open P line last.told some no_feed last.answers;
    appended = last.appended;
  }

  pub AnswersWriter-more : (text left : List ℕ) (a b c : Option (List ℕ)) → EndedWriter P text left a b → AnswersWriter P left b c → AnswersWriter P text a c
  AnswersWriter-more text left a b c fed last =
      record {
        output = fed.output ++ last.output;
        answered = AnswersText-more P text left fed.output last.output fed.answered last.answered;
        appended = Appends-trans a b c fed.output last.output fed.appended last.appended;
      }

  -- What is written before an error: for a line that ends, for the last line, and after the lines for those that ended.
  nothing_short : (text : List ℕ) (a b : Option (List ℕ)) → Keeps a b → StopsWriter P text error.Memory a b
  nothing_short text a b kept = record { output = []; begun = short_none P text; appended = Appends-kept a a b [] (Appends-nil a) kept }

  pub StopsWriter-none : (text : List ℕ) (a : Option (List ℕ)) → StopsWriter P text error.Memory a a
  StopsWriter-none text a = nothing_short text a a (Keeps-refl a)

  pub StopsWriter-feed : (line rest : List ℕ) (e : RunError) (a b : Option (List ℕ)) → IsOpen line → StopsLine P line e a b
      → StopsWriter P (line ++ (line_feed ∷ rest)) e a b
  StopsWriter-feed line rest error.Read a b no_feed stopped = absurd stopped
  StopsWriter-feed line rest error.Write a b no_feed stopped =
      record { output = stopped.part; begun = BeginsText-feed P line rest stopped.part no_feed stopped.begun; appended = stopped.appended }
  StopsWriter-feed line rest error.Memory a b no_feed stopped = nothing_short (line ++ (line_feed ∷ rest)) a b stopped

  pub StopsWriter-open : (line : List ℕ) (e : RunError) (a b : Option (List ℕ)) → line ≢ [] → IsOpen line → StopsLine P line e a b → StopsWriter P line e a b
  StopsWriter-open line error.Read a b some no_feed stopped = absurd stopped
  StopsWriter-open line error.Write a b some no_feed stopped =
      record { output = stopped.part; begun = BeginsText-open P line stopped.part some no_feed stopped.begun; appended = stopped.appended }
  StopsWriter-open line error.Memory a b some no_feed stopped = nothing_short line a b stopped

  pub StopsWriter-more : (text middle more : List ℕ) (e : RunError) (a b c : Option (List ℕ)) → EndedWriter P text middle a b
      → StopsWriter P (middle ++ more) e b c
      → StopsWriter P (text ++ more) e a c
  StopsWriter-more text middle more error.Read a b c fed stopped = absurd stopped
  StopsWriter-more text middle more error.Write a b c fed stopped =
      record {
        output = fed.output ++ stopped.output;
        begun = BeginsText-more P text middle more fed.output stopped.output fed.answered stopped.begun;
        appended = Appends-trans a b c fed.output stopped.output fed.appended stopped.appended;
      }
  StopsWriter-more text middle more error.Memory a b c fed stopped =
      record {
        output = fed.output ++ stopped.output;
        begun = short_more P text middle more fed.output stopped.output fed.answered stopped.begun;
        appended = Appends-trans a b c fed.output stopped.output fed.appended stopped.appended;
      }

  -- One turn of a loop over bytes.
  pub EndedWriter-next : (pending bytes middle left : List ℕ) (i : ℕ) (a b c : Option (List ℕ)) → i < length bytes
      → EndedWriter P (pending ++ take i bytes) middle a b
      → EndedWriter P (middle ++ (get_or bytes i 0 ∷ [])) left b c → EndedWriter P (pending ++ take (i + 1) bytes) left a c
  EndedWriter-next pending bytes middle left i a b c inside first second =
      rw (add-one, take-suc bytes i 0 inside, sym (append_assoc pending (take i bytes) (get_or bytes i 0 ∷ [])))
      (EndedWriter-more (pending ++ take i bytes) middle (get_or bytes i 0 ∷ []) left a b c first second)

  pub StopsWriter-next : (pending bytes middle : List ℕ) (i : ℕ) (e : RunError) (a b c : Option (List ℕ)) → i < length bytes
      → EndedWriter P (pending ++ take i bytes) middle a b
      → ((rest : List ℕ) → StopsWriter P (middle ++ (get_or bytes i 0 ∷ rest)) e b c) → StopsWriter P (pending ++ bytes) e a c
  StopsWriter-next pending bytes middle i e a b c inside first second =
      let rest = drop (suc i) bytes in
      let whole : take i bytes ++ (get_or bytes i 0 ∷ rest) ≡ bytes = ap (λ l. take i bytes ++ l) (sym (drop-cons bytes i 0 inside))
      ∙ take-append-drop i bytes in
      subst (λ l. StopsWriter P l e a c) (append_assoc pending (take i bytes) (get_or bytes i 0 ∷ rest) ∙ ap (λ l. pending ++ l) whole)
      (StopsWriter-more (pending ++ take i bytes) middle (get_or bytes i 0 ∷ rest) e a b c first (second rest))
