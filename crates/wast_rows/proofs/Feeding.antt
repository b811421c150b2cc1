-- How lines come out of bytes, piece by piece.
use Rattle.std.proofs.Common.{◌≡◌, ◌≢◌, ℕ, List, [], ◌∷◌, ◌++◌, refl, sym, ap, subst, ◌∙◌, append_assoc, append-nil}
use Rattle.std.specs.List.{AllZip, AllByRecursion}
use Rattle.std.proofs.lemmas.Bool.{ne_eqb}
use Rattle.std.proofs.lemmas.Grind.{flat_map-append}
use Rattle.wast_rows.specs.Lines.{line_feed, before_if, before_lines, onto_first, lines_of, ended_line, ended_lines}
use Rattle.wast_rows.specs.Runs.{IsOpen, AnswersText, BeginsAnswer, BeginsText, BeginsLines, AnswersEnded}

-- A byte that is not a line feed is added to the first line.
before_other : (byte : ℕ) (lines : List (List ℕ)) → byte ≢ line_feed → before_lines byte lines ≡ onto_first byte lines
before_other byte lines other = ap (λ test. before_if test byte lines) (ne_eqb byte line_feed other)

-- A line feed ends the open line.
pub lines_of-fed : (line rest : List ℕ) → IsOpen line → lines_of (line ++ (line_feed ∷ rest)) ≡ line ∷ lines_of rest
lines_of-fed [] rest no_feed = refl
lines_of-fed (byte ∷ line) rest no_feed = ap (before_lines byte) (lines_of-fed line rest no_feed.1) ∙ before_other byte (line ∷ lines_of rest) no_feed.0

-- An open line that is not empty is the last line.
pub lines_of-open : (byte : ℕ) (line : List ℕ) → IsOpen (byte ∷ line) → lines_of (byte ∷ line) ≡ (byte ∷ line) ∷ []
lines_of-open byte [] no_feed = before_other byte [] no_feed.0
lines_of-open byte (next ∷ line) no_feed = ap (before_lines byte) (lines_of-open next line no_feed.1) ∙ before_other byte ((next ∷ line) ∷ []) no_feed.0

pub IsOpen-push : (line : List ℕ) (byte : ℕ) → IsOpen line → byte ≢ line_feed → IsOpen (line ++ (byte ∷ []))
IsOpen-push [] byte no_feed other = (other, tt)
IsOpen-push (first ∷ line) byte no_feed other = (no_feed.0, IsOpen-push line byte no_feed.1 other)

all_zip_append : {A B : Type 0} (R : A → B → Type 0) (xs us : List A) (ys vs : List B) → AllZip R xs ys → AllZip R us vs → AllZip R (xs ++ us) (ys ++ vs)
all_zip_append R [] us [] vs p q = q
all_zip_append R [] us (y ∷ ys) vs p q = absurd p
all_zip_append R (x ∷ xs) us [] vs p q = absurd p
all_zip_append R (x ∷ xs) us (y ∷ ys) vs p q = (p.0, all_zip_append R xs us ys vs p.1 q)

all_append : {A : Type 0} (Q : A → Type 0) (xs ys : List A) → AllByRecursion Q xs → AllByRecursion Q ys → AllByRecursion Q (xs ++ ys)
all_append Q [] ys p q = q
all_append Q (x ∷ xs) ys p q = (p.0, all_append Q xs ys p.1 q)

-- Lines that ended come first.
lines_of-ended : (asked : List (List ℕ)) (rest : List ℕ) → AllByRecursion IsOpen asked → lines_of (ended_lines asked ++ rest) ≡ asked ++ lines_of rest
lines_of-ended [] rest each = refl
lines_of-ended (line ∷ asked) rest each =
    ap lines_of (append_assoc (ended_line line) (ended_lines asked) rest ∙ append_assoc line (line_feed ∷ []) (ended_lines asked ++ rest))
    ∙ lines_of-fed line (ended_lines asked ++ rest) each.0 ∙ ap (λ l. line ∷ l) (lines_of-ended asked rest each.1)

module _ (P : List ℕ → List ℕ → Type 0) where
  -- An open line alone.
  pub AnswersEnded-nil : (line : List ℕ) → IsOpen line → AnswersEnded P line line []
  AnswersEnded-nil line no_feed = record { asked = []; told = []; each_open = tt; left_open = no_feed; split = refl; answered = tt; shown = refl }

  -- A line feed.
  pub AnswersEnded-feed : (line told : List ℕ) → IsOpen line → P line told → AnswersEnded P (ended_line line) [] (ended_line told)
  AnswersEnded-feed line told no_feed answers =
      record {
        asked = line ∷ [];
        told = told ∷ [];
        each_open = (no_feed, tt);
        left_open = tt;
        split = sym (append-nil (ended_line line)) ∙ sym (append-nil (ended_lines (line ∷ [])));
        answered = (answers, tt);
        shown = sym (append-nil (ended_line told));
      }

  -- Some text, and then more.
  pub AnswersEnded-more : (text middle more left output after : List ℕ) → AnswersEnded P text middle output → AnswersEnded P (middle ++ more) left after
      → AnswersEnded P (text ++ more) left (output ++ after)
  AnswersEnded-more text middle more left output after first second =
      record {
        asked = first.asked ++ second.asked;
        told = first.told ++ second.told;
        each_open = all_append IsOpen first.asked second.asked first.each_open second.each_open;
        left_open = second.left_open;
        split = ap (λ t. t ++ more) first.split ∙ append_assoc (ended_lines first.asked) middle more ∙ ap (λ t. ended_lines first.asked ++ t) second.split
            ∙ sym (append_assoc (ended_lines first.asked) (ended_lines second.asked) left)
            ∙ ap (λ t. t ++ left) (sym (flat_map-append ended_line first.asked second.asked));
        answered = all_zip_append P _ _ _ _ first.answered second.answered;
        shown = ap (λ o. o ++ after) first.shown ∙ ap (λ o. ended_lines first.told ++ o) second.shown ∙ sym (flat_map-append ended_line first.told second.told);
      }

  -- The lines of a longer text are those that ended, and those of the rest.
  lines_beyond : (text left output rest : List ℕ) → (fed : AnswersEnded P text left output) → lines_of (text ++ rest) ≡ fed.asked ++ lines_of (left ++ rest)
  lines_beyond text left output rest fed =
      ap (λ t. lines_of (t ++ rest)) fed.split ∙ ap lines_of (append_assoc (ended_lines fed.asked) left rest)
      ∙ lines_of-ended fed.asked (left ++ rest) fed.each_open

  -- Right lines for the rest make right lines for the whole.
  pub AnswersText-more : (text left output after : List ℕ) → AnswersEnded P text left output → AnswersText P left after → AnswersText P text (output ++ after)
  AnswersText-more text left output after fed last =
      let split : lines_of text ≡ fed.asked ++ lines_of left =
      ap lines_of (sym (append-nil text)) ∙ lines_beyond text left output [] fed ∙ ap (λ l. fed.asked ++ lines_of l) (append-nil left) in
      record {
        told = fed.told ++ last.told;
        answered = subst (λ l. AllZip P l (fed.told ++ last.told)) (sym split) (all_zip_append P _ _ _ _ fed.answered last.answered);
        shown = ap (λ o. o ++ after) fed.shown ∙ ap (λ o. ended_lines fed.told ++ o) last.shown ∙ sym (flat_map-append ended_line fed.told last.told);
      }

  -- An open line.
  pub AnswersText-open : (line told : List ℕ) → line ≢ [] → IsOpen line → P line told → AnswersText P line (ended_line told)
  AnswersText-open [] told some no_feed answers = absurd (some refl)
  AnswersText-open (byte ∷ line) told some no_feed answers =
      record {
        told = told ∷ [];
        answered = subst (λ l. AllZip P l (told ∷ [])) (sym (lines_of-open byte line no_feed)) (answers, tt);
        shown = sym (append-nil (ended_line told));
      }

  -- A prefix of the lines for the rest makes a prefix of the lines for the whole.
  pub BeginsText-more : (text middle more output after : List ℕ) → AnswersEnded P text middle output → BeginsText P (middle ++ more) after
      → BeginsText P (text ++ more) (output ++ after)
  BeginsText-more text middle more output after fed last =
      record {
        asked = fed.asked ++ last.asked;
        told = fed.told ++ last.told;
        later = last.later;
        part = last.part;
        split = lines_beyond text middle output more fed ∙ ap (λ l. fed.asked ++ l) last.split ∙ sym (append_assoc fed.asked last.asked last.later);
        answered = all_zip_append P _ _ _ _ fed.answered last.answered;
        begun = last.begun;
        shown = ap (λ o. o ++ after) fed.shown ∙ ap (λ o. ended_lines fed.told ++ o) last.shown
            ∙ sym (append_assoc (ended_lines fed.told) (ended_lines last.told) last.part)
            ∙ ap (λ o. o ++ last.part) (sym (flat_map-append ended_line fed.told last.told));
      }

  -- No line is written.
  pub short_none : (text : List ℕ) → BeginsLines P text []
  short_none text = record { asked = []; told = []; later = lines_of text; split = refl; answered = tt; shown = refl }

  -- The lines for the first lines of the rest, after the lines before them, are those for the first lines of the whole.
  pub short_more : (text middle more output after : List ℕ) → AnswersEnded P text middle output → BeginsLines P (middle ++ more) after
      → BeginsLines P (text ++ more) (output ++ after)
  short_more text middle more output after fed last =
      record {
        asked = fed.asked ++ last.asked;
        told = fed.told ++ last.told;
        later = last.later;
        split = lines_beyond text middle output more fed ∙ ap (λ l. fed.asked ++ l) last.split ∙ sym (append_assoc fed.asked last.asked last.later);
        answered = all_zip_append P _ _ _ _ fed.answered last.answered;
        shown = ap (λ o. o ++ after) fed.shown ∙ ap (λ o. ended_lines fed.told ++ o) last.shown ∙ sym (flat_map-append ended_line fed.told last.told);
      }

  begins_longer : (line : List ℕ) (later : List (List ℕ)) (part : List ℕ) → BeginsAnswer P (line ∷ []) part → BeginsAnswer P (line ∷ later) part
  begins_longer line later part (BeginsAnswer.nothing e) = BeginsAnswer.nothing e
  begins_longer line later part (BeginsAnswer.partly first rest told more e answers split) = BeginsAnswer.partly line later told more refl
      (subst (λ l. P l told) (cc) answers) split

  -- A prefix of the line for a line that ended, and for the last line.
  pub BeginsText-feed : (line rest part : List ℕ) → IsOpen line → BeginsAnswer P (line ∷ []) part → BeginsText P (line ++ (line_feed ∷ rest)) part
  BeginsText-feed line rest part no_feed begun =
      record {
        asked = [];
        told = [];
        later = line ∷ lines_of rest;
        part = part;
        split = lines_of-fed line rest no_feed;
        answered = tt;
        begun = begins_longer line _ part begun;
        shown = refl;
      }

  pub BeginsText-open : (line part : List ℕ) → line ≢ [] → IsOpen line → BeginsAnswer P (line ∷ []) part → BeginsText P line part
  BeginsText-open [] part some no_feed begun = absurd (some refl)
  BeginsText-open (byte ∷ line) part some no_feed begun =
      record {
        asked = [];
        told = [];
        later = (byte ∷ line) ∷ [];
        part = part;
        split = lines_of-open byte line no_feed;
        answered = tt;
        begun = begun;
        shown = refl;
      }
