-- The value of a signed integer or a floating-point number in the code is that of the rule, and a text that the code rejects has
-- none by the rule.
use Rattle.std.proofs.Common.{◌≡◌, ◌≢◌, ◌∙◌, ℕ, ◌==◌, Bool, true, false, List, [], ◌∷◌, Option, None, Some, Ok, Err, eqb-true, refl, sym, ap, subst}
use Rattle.std.specs.Prelude.{◌^◌, nat_lt, if◌then◌else◌, ℤ, option_map, codes}
use Rattle.std.specs.Float.{Format}
use Rattle.std.specs.Borrow.{Bor}
use Rattle.wat_grammar.specs.Parts.{◌>>=◌, after}
use Rattle.wat_grammar.specs.Characters.{digit}
use Rattle.wat_grammar.specs.Integers.{natural, uN, sign, signed, with_sign, is_signed, bits_of, signed_of, integer}
use Rattle.wat_grammar.specs.Floats.{magnitude, fN}
use Rattle.wat_tokens.specs.Numbers.{answer}
use Rattle.wat_tokens.specs.Fractions.{UnlessMemory, MayLack}
use Rattle.wat_tokens.specs.declared.faults.TextFault.{TextFault}
use Rattle.wat_tokens.specs.declared.faults.TextFault.TheVariants as fault
use Rattle.wat_tokens.proofs.Backwards.{none_first}
use Rattle.wast_base.specs.declared.ids.Span.{Span}
use Rattle.wat_tokens.specs.declared.faults.TextError.{TextError}
use Rattle.wat_syntax.specs.Tokens.{Parse}
use Rattle.wat_syntax.specs.Values.{number_text, number}
use Rattle.wat_syntax.specs.Bare.{bare_text}
use Rattle.wat_text.specs.declared.reader.Reader.{Reader}
use Rattle.wat_text.specs.Readers.{left, IsRefusal, IsRefused, Decides, Fails}

-- no number begins with a sign
no_minus : (cs : List ℕ) → natural (0x2d ∷ cs) ≡ None
no_minus cs = none_first digit 10 0x2d cs refl refl

no_plus : (cs : List ℕ) → natural (0x2b ∷ cs) ≡ None
no_plus cs = none_first digit 10 0x2b cs refl refl

-- an unsigned integer, a signed one, and either of them, by their numbers of any size
abbrev unsigned_in : ℕ → Option ℕ → Option ℕ
unsigned_in N o = o >>= λ n. if nat_lt n (2 ^ N) then Some n else None

abbrev signed_in : ℕ → Bool → Option ℕ → Option ℕ
signed_in N is_negative o = option_map (bits_of N) ((o >>= λ n. Some (with_sign is_negative n)) >>= λ i. if is_signed N i then Some i else None)

abbrev first_some : Option ℕ → Option ℕ → Option ℕ → Option ℕ
first_some o p q = elim (elim o as (λ x. Option ℕ) [ Some n ↦ Some n | None ↦ p ]) as (λ x. Option ℕ) [ Some n ↦ Some n | None ↦ q ]

-- an integer, by its sign and by what is after a '+'
abbrev from_sign : ℕ → List ℕ → Bool × List ℕ → Option (List ℕ) → Option ℕ
from_sign N text s a = first_some (unsigned_in N (natural text)) (signed_in N s.0 (natural s.1)) (a >>= λ digits. uN N digits)

none_of : (N : ℕ) (is_negative : Bool) (o p q : Option ℕ) → o ≡ None → p ≡ None → q ≡ None → first_some (unsigned_in N o) (signed_in N is_negative p) q ≡ None
none_of N s None None None e f g = refl
none_of N s (Some n) p q e f g = absurd cc
none_of N s None (Some n) q e f g = absurd cc
none_of N s None None (Some n) e f g = absurd cc

no_sign : (c : ℕ) (cs : List ℕ) → c == 0x2d ≡ false → c == 0x2b ≡ false → sign (c ∷ cs) ≡ (false, c ∷ cs)
no_sign c cs e f = ap (λ b. if b then (true, cs) else (if c == 0x2b then (false, cs) else (false, c ∷ cs))) e
    ∙ ap (λ b. if b then (false, cs) else (false, c ∷ cs)) f

not_after : (c : ℕ) (cs : List ℕ) → c == 0x2b ≡ false → after (codes "+") (c ∷ cs) ≡ None
not_after c cs f = ap (λ b. elim b as (λ b. Option (List ℕ)) [ true ↦ Some cs | false ↦ None ]) f

no_integer : (N : ℕ) (text : List ℕ) → natural (sign text).1 ≡ None → integer N text ≡ None
no_integer N [] h = none_of N false (natural []) (natural []) None h h refl
no_integer N (c ∷ cs) h = go (c == 0x2d) refl (c == 0x2b) refl h
  where
    go : (x : Bool) → c == 0x2d ≡ x → (y : Bool) → c == 0x2b ≡ y → natural (sign (c ∷ cs)).1 ≡ None → integer N (c ∷ cs) ≡ None
    go true e y f h = subst (λ a. natural (sign (a ∷ cs)).1 ≡ None → integer N (a ∷ cs) ≡ None) (sym (eqb-true c 0x2d e))
        (λ k. none_of N true (natural (0x2d ∷ cs)) (natural cs) None (no_minus cs) k refl) h
    go false e true f h = subst (λ a. natural (sign (a ∷ cs)).1 ≡ None → integer N (a ∷ cs) ≡ None) (sym (eqb-true c 0x2b f))
        (λ k. none_of N false (natural (0x2b ∷ cs)) (natural cs) (uN N cs) (no_plus cs) k (ap (unsigned_in N) k)) h
    go false e false f h =
        let k : natural (c ∷ cs) ≡ None = ap (λ (s : Bool × List ℕ). natural s.1) (sym (no_sign c cs e f)) ∙ h in
        ap (λ s. from_sign N (c ∷ cs) s (after (codes "+") (c ∷ cs))) (no_sign c cs e f) ∙ ap (from_sign N (c ∷ cs) (false, c ∷ cs)) (not_after c cs f)
        ∙ none_of N false (natural (c ∷ cs)) (natural (c ∷ cs)) None k k refl

ok_is : {S T : Type 0} (o : Option S) (v : Option T) (x : T) → answer o v ≡ Ok x → v ≡ Some x
ok_is None v x e = absurd cc
ok_is (Some n) None x e = absurd cc
ok_is (Some n) (Some v) x e = ap Some cc

err_is : {S T : Type 0} (o : Option S) (v : Option T) (e : TextFault) → (o ≡ None → v ≡ None) → answer o v ≡ Err e → v ≡ None
err_is None v e none h = none refl
err_is (Some n) None e none h = refl
err_is (Some n) (Some v) e none h = absurd cc

not_signed : (o : Option ℕ) (is_negative : Bool) → (o >>= λ n. Some (with_sign is_negative n)) ≡ None → o ≡ None
not_signed None s h = refl
not_signed (Some n) s h = absurd cc

pub signed_is : (N : ℕ) (text : List ℕ) (x : ℤ) → answer (signed text) (option_map (signed_of N) (integer N text)) ≡ Ok x
    → option_map (signed_of N) (integer N text) ≡ Some x
signed_is N text x e = ok_is (signed text) _ x e

pub signed_not : (N : ℕ) (text : List ℕ) (e : TextFault) → answer (signed text) (option_map (signed_of N) (integer N text)) ≡ Err e
    → option_map (signed_of N) (integer N text) ≡ None
signed_not N text e h = err_is (signed text) _ e
    (λ none. ap (option_map (signed_of N)) (no_integer N text (not_signed (natural (sign text).1) (sign text).0 none))) h

no_float : (f : Format) (text : List ℕ) → magnitude (sign text).1 ≡ None → fN f text ≡ None
no_float f text h = rw (fN, h) refl

pub float_is : (f : Format) (text : List ℕ) (x : ℕ)
    → UnlessMemory (MayLack (sign text).1) (Ok x) (answer (magnitude (sign text).1) (fN f text)) → fN f text ≡ Some x
float_is f text x e = ok_is (magnitude (sign text).1) (fN f text) x (sym e)

no_memory : (e : TextFault) (may_lack : Type 0) → IsRefusal e → ¬ ((e ≡ fault.Memory) × may_lack)
no_memory e may_lack h = λ k. subst IsRefusal k.0 h

pub float_not : (f : Format) (text : List ℕ) (e : TextFault)
    → UnlessMemory (MayLack (sign text).1) (Err e) (answer (magnitude (sign text).1) (fN f text)) → IsRefusal e → fN f text ≡ None
float_not f text e h refusal = err_is (magnitude (sign text).1) (fN f text) e (no_float f text) (sym (h (no_memory e _ refusal)))

-- A reader read the text of a number, and then its value.
pub number_read : {T : Type 0} (meaning : List ℕ → Option T) (old mid new : Reader) (text : Bor (List ℕ)) (x : T) → Decides number_text old mid (bare_text text)
    → new.make ≡ mid.make → (new.fault ≡ None → mid.fault ≡ None) → (new.fault ≡ None → meaning text.now ≡ Some x) → (new.fault ≡ None → left new ≡ left mid)
    → (mid.fault ≢ None → new.fault ≡ mid.fault) → (mid.fault ≡ None → IsRefused new.fault → meaning text.now ≡ None) → Decides (number meaning) old new x
number_read {T = T} meaning old mid new text x d make clean gives stays keeps refuses = record {
  make = make ∙ d.make;
  clean = λ h. d.clean (clean h);
  gives = λ h. ap rest (d.gives (clean h)) ∙ ap (λ o. o >>= λ n. Some (n, left mid)) (gives h) ∙ ap (λ t. Some (x, t)) (sym (stays h));
  keeps = λ h. keeps (λ e. h (d.clean e)) ∙ d.keeps h;
  refuses = λ h r. go mid.fault refl h r;
}
  where
    rest : Parse (Bor (List ℕ)) → Parse T
    rest p = p >>= λ t. meaning t.0.now >>= λ n. Some (n, t.1)

    go : (o : Option TextError) → mid.fault ≡ o → old.fault ≡ None → IsRefused new.fault → number meaning (left old) ≡ None
    go None e h r = ap rest (d.gives e) ∙ ap (λ o. o >>= λ n. Some (n, left mid)) (refuses e r)
    go (Some y) e h r = ap rest (d.refuses h (subst IsRefused (keeps (λ n. cc)) r))

-- A reader read the text of a number, and stored that it has no value.
pub fault_read : {T : Type 0} (meaning : List ℕ → Option T) (old mid new : Reader) (text : Bor (List ℕ)) (x : T) (e : TextFault) (span : Span)
    → Decides number_text old mid (bare_text text) → Fails e span mid new
    → (IsRefusal e → meaning text.now ≡ None) → Decides (number meaning) old new x
fault_read meaning old mid new text x e span d f none =
    number_read meaning old mid new text x d f.make (λ h. absurd (faulty h)) (λ h. absurd (faulty h)) (λ h. absurd (faulty h)) f.keeps
    (λ h r. none (subst IsRefused (f.first h) r))
  where
    at : (o : Option TextError) → mid.fault ≡ o → new.fault ≢ None
    at None is h = absurd (cc (f.first is))
    at (Some y) is h = absurd (cc (f.keeps (λ n. cc)))

    faulty : new.fault ≢ None
    faulty = at mid.fault refl
