-- The value of an unsigned number in the code is that of the rule, and a text that the code rejects has no value by the rule. An index that
-- is a number is read at once.
use Rattle.std.proofs.Common.{◌≡◌, ◌∙◌, ℕ, false, List, Option, None, Some, Ok, Err, refl, sym, ap, subst}
use Rattle.std.specs.Borrow.{Bor}
use Rattle.wast_base.specs.declared.ids.Span.{Span}
use Rattle.wast_base.specs.declared.ids.Id.{Id}
use Rattle.wast_base.specs.declared.ids.Index.{Index}
use Rattle.wast_base.specs.declared.ids.Index.TheVariants as by
use Rattle.wat_grammar.specs.Parts.{◌>>=◌}
use Rattle.wat_grammar.specs.Integers.{natural, uN}
use Rattle.wat_tokens.specs.Numbers.{answer}
use Rattle.wat_tokens.specs.declared.faults.TextFault.{TextFault}
use Rattle.wat_tokens.specs.declared.tokens.Token.{Token}
use Rattle.wat_tokens.specs.declared.tokens.Token.TheVariants as token
use Rattle.wat_syntax.specs.Tokens.{Toks, Parse, peek, after, position}
use Rattle.wat_syntax.specs.Values.{number_in, is_number, u32, id_in, is_index, index}
use Rattle.wat_syntax.proofs.Numbers.{not_unsigned}
use Rattle.wat_text.specs.declared.reader.Reader.{Reader}
use Rattle.wat_text.specs.Readers.{left, IsRefused, Decides, Finds}

ok_is : {S T : Type 0} (o : Option S) (v : Option T) (x : T) → answer o v ≡ Ok x → v ≡ Some x
ok_is None v x e = absurd cc
ok_is (Some n) None x e = absurd cc
ok_is (Some n) (Some v) x e = ap Some cc

err_is : {S T : Type 0} (o : Option S) (f : S → Option T) (e : TextFault) → answer o (o >>= f) ≡ Err e → (o >>= f) ≡ None
err_is None f e h = refl
err_is {T = T} (Some n) f e h = go (f n) h
  where
    go : (v : Option T) → answer (Some n) v ≡ Err e → v ≡ None
    go None h = refl
    go (Some v) h = absurd cc

pub unsigned_is : (N : ℕ) (text : List ℕ) (x : ℕ) → answer (natural text) (uN N text) ≡ Ok x → uN N text ≡ Some x
unsigned_is N text x e = ok_is (natural text) (uN N text) x e

pub unsigned_not : (N : ℕ) (text : List ℕ) (e : TextFault) → answer (natural text) (uN N text) ≡ Err e → uN N text ≡ None
unsigned_not N text e h = err_is (natural text) _ e h

pub no_u32 : (toks : Toks) → is_number (peek 0 toks) ≡ false → u32 toks ≡ None
no_u32 toks h = go (peek 0 toks) (after toks) h
  where
    reads : Parse (Bor (List ℕ)) → Parse ℕ
    reads text = text >>= λ text. uN 32 text.0.now >>= λ n. Some (n, text.1)

    go : (t : Option Token) (rest : Toks) → is_number t ≡ false → reads (number_in t >>= λ text. Some (text, rest)) ≡ None
    go (Some (token.Other text)) rest h = ap (λ o. o >>= λ n. Some (n, rest)) (not_unsigned 32 text.now h)
    go None rest h = refl
    go (Some t) rest h = refl

-- the same of an index
pub no_index : (toks : Toks) → is_index (peek 0 toks) ≡ false → index toks ≡ None
no_index toks h =
    let numbered : ℕ × Toks → Parse Index = λ n. Some (by.Num n.0 (position toks), n.1) in
    let either : Option (Id × Toks) → Parse Index = λ o. elim o as (λ o. Parse Index) [ Some x ↦ Some (by.Id x.0, x.1) | None ↦ u32 toks >>= numbered ] in
    ap either (no_id (peek 0 toks) h) ∙ ap (λ o. o >>= numbered) (no_u32 toks (no_number (peek 0 toks) h))
  where
    no_number : (t : Option Token) → is_index t ≡ false → is_number t ≡ false
    no_number None h = refl
    no_number (Some (token.Id name)) h = absurd cc
    no_number (Some t) h = h

    found : Option Id → Option (Id × Toks)
    found o = o >>= λ x. Some (x, after toks)

    no_id : (t : Option Token) → is_index t ≡ false → found (id_in t (position toks)) ≡ None
    no_id None h = refl
    no_id (Some (token.Id name)) h = absurd cc
    no_id (Some t) h = refl

-- a number is an index, and no id
numbered : (toks rest : Toks) (n : ℕ) → u32 toks ≡ Some (n, rest) → index toks ≡ Some (by.Num n (position toks), rest)
numbered toks rest n h =
    let as_number : ℕ × Toks → Parse Index = λ x. Some (by.Num x.0 (position toks), x.1) in
    let either : Option (Id × Toks) → Parse Index = λ o. elim o as (λ o. Parse Index) [ Some x ↦ Some (by.Id x.0, x.1) | None ↦ u32 toks >>= as_number ] in
    ap either (no_id (peek 0 toks) h) ∙ ap (λ o. o >>= as_number) h
  where
    reads : Parse (Bor (List ℕ)) → Parse ℕ
    reads text = text >>= λ text. uN 32 text.0.now >>= λ n. Some (n, text.1)

    found : Option Id → Option (Id × Toks)
    found o = o >>= λ x. Some (x, after toks)

    no_id : (t : Option Token) → reads (number_in t >>= λ text. Some (text, after toks)) ≡ Some (n, rest) → found (id_in t (position toks)) ≡ None
    no_id None h = refl
    no_id (Some (token.Id name)) h = absurd cc
    no_id (Some t) h = refl

pub number_index : (old new : Reader) (n : ℕ) (place : Span) (found : Option ℕ) → place ≡ position (left old) → found ≡ Some n
    → Finds u32 old new found → Decides index old new (by.Num n place)
number_index old new n place found at is f = record {
  make = f.make;
  clean = λ h. sym f.fault ∙ h;
  gives = λ h. numbered (left old) (left new) n (f.there n is) ∙ ap (λ p. Some (by.Num n p, left new)) (sym at);
  keeps = λ h. f.fault;
  refuses = λ h r. absurd (subst IsRefused (f.fault ∙ h) r);
}

-- if no number is found, the rule reads what is left as before
pub after_none : {S T : Type 0} (rule : Toks → Parse T) (other : Toks → Parse S) (old mid new : Reader) (found : Option S) (x : T)
    → found ≡ None → Finds other old mid found → Decides rule mid new x → Decides rule old new x
after_none rule other old mid new found x none f d = record {
  make = d.make ∙ f.make;
  clean = λ h. sym f.fault ∙ d.clean h;
  gives = λ h. ap rule (sym (f.stays none)) ∙ d.gives h;
  keeps = λ h. d.keeps (λ e. h (sym f.fault ∙ e)) ∙ f.fault;
  refuses = λ h r. ap rule (sym (f.stays none)) ∙ d.refuses (f.fault ∙ h) r;
}
