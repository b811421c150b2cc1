-- A number: its text, and then its value.
use Rattle.std.proofs.Common.{◌≡◌, ◌≢◌, ◌∙◌, ℕ, List, Option, None, Some, Result, Ok, Err, sym, ap, subst}
use Rattle.std.specs.Prelude.{IfOk, IfErr}
use Rattle.wat_tokens.specs.declared.faults.TextFault.{TextFault}
use Rattle.std.specs.Borrow.{Bor}
use Rattle.wat_grammar.specs.Parts.{◌>>=◌}
use Rattle.wat_syntax.specs.Tokens.{Parse}
use Rattle.wat_syntax.specs.Values.{number_text, number}
use Rattle.wat_syntax.specs.Bare.{bare_text}
use Rattle.wast_script.specs.declared.reader.Reader.{Reader}
use Rattle.wast_script.specs.Readers.{left, IsRefusal, IsRefused, Decides}
use Rattle.wast_script.proofs.Faults.{by_fault}

-- A reader read the text of a number, and then its value.
pub number_read : {T : Type 0} (meaning : List ℕ → Option T) (old mid new : Reader) (text : Bor (List ℕ)) (x : T) → Decides number_text old mid (bare_text text)
    → new.lists ≡ mid.lists → new.tokens ≡ mid.tokens → (new.fault ≡ None → mid.fault ≡ None)
    → (new.fault ≡ None → meaning text.now ≡ Some x) → (new.fault ≡ None → left new ≡ left mid)
    → (mid.fault ≢ None → new.fault ≡ mid.fault) → (mid.fault ≡ None → IsRefused new.fault → meaning text.now ≡ None) → Decides (number meaning) old new x
number_read {T = T} meaning old mid new text x d lists tokens clean gives stays keeps refuses = record {
  lists = lists ∙ d.lists;
  tokens = tokens ∙ d.tokens;
  clean = λ h. d.clean (clean h);
  gives = λ h. ap rest (d.gives (clean h)) ∙ ap (λ o. o >>= λ n. Some (n, left mid)) (gives h) ∙ ap (λ t. Some (x, t)) (sym (stays h));
  keeps = λ h. keeps (λ e. h (d.clean e)) ∙ d.keeps h;
  refuses = λ h r. by_fault mid new keeps r (λ e. ap rest (d.gives e) ∙ ap (λ o. o >>= λ n. Some (n, left mid)) (refuses e r)) (λ g. ap rest (d.refuses h g));
}
  where
    rest : Parse (Bor (List ℕ)) → Parse T
    rest p = p >>= λ t. meaning t.0.now >>= λ n. Some (n, t.1)

-- the value of a text, or that it has none, by what the code found
pub ok_of : {T : Type 0} (meaning : List ℕ → Option T) (text : List ℕ) (found : Result T TextFault) (x : T)
    → IfOk found (λ n. meaning text ≡ Some n) → found ≡ Ok x → meaning text ≡ Some x
ok_of meaning text (Ok y) x h e = h ∙ ap Some cc
ok_of meaning text (Err f) x h e = absurd cc

pub err_of : {T : Type 0} (meaning : List ℕ → Option T) (text : List ℕ) (found : Result T TextFault) (f : TextFault)
    → IfErr found (λ e. IsRefusal e → meaning text ≡ None) → found ≡ Err f → IsRefusal f → meaning text ≡ None
err_of meaning text (Ok y) f h e r = absurd cc
err_of meaning text (Err g) f h e r = let same : f ≡ g = cc in h (subst IsRefusal same r)
