-- If no reference type is next, the rule of reference types is `None`.
use Rattle.std.proofs.Common.{◌≡◌, Bool, true, false, Option, None, Some, refl}
use Rattle.std.specs.Prelude.{is_some, ◌||◌}
use Rattle.wat_tokens.specs.declared.tokens.Token.{Token}
use Rattle.wat_tokens.specs.declared.tokens.Token.TheVariants as token
use Rattle.wat_tokens.specs.declared.words.Key.{Key}
use Rattle.wat_tokens.specs.declared.words.Key.TheVariants as key
use Rattle.wat_syntax.specs.Tokens.{Toks, peek, key_of, is_form, is_lparen, keyword_in, form}
use Rattle.wat_syntax.specs.Types.{is_reftype, reftype, refword}

none_of : {A : Type 0} (o : Option A) → is_some o ≡ false → o ≡ None
none_of None h = refl
none_of (Some x) h = absurd cc

both : (a b : Bool) → (a || b) ≡ false → (a ≡ false) × (b ≡ false)
both true b h = absurd cc
both false b h = (refl, h)

-- a keyword is not a parenthesis
no_paren : (t : Option Token) (k : Key) → key_of t ≡ Some k → is_lparen t ≡ false
no_paren (Some token.Open) k e = absurd cc
no_paren (Some t) k e = refl
no_paren None k e = refl

no_form : (toks : Toks) (k : Key) → is_form k toks ≡ false → form k toks ≡ None
no_form toks k h = rw (form, h) refl

absent : (toks : Toks) → (o : Option Key) → key_of (peek 0 toks) ≡ o → is_reftype toks ≡ false
    → (keyword_in refword toks ≡ None) × (form key.Ref toks ≡ None) × (form key.Shared toks ≡ None)
absent toks None e h =
    let p = both (is_form key.Ref toks) (is_form key.Shared toks) (rw (is_reftype, e) at h) in
    (rw (keyword_in, e) refl, no_form toks key.Ref p.0, no_form toks key.Shared p.1)
absent toks (Some k) e h =
    let no : refword k ≡ None = none_of (refword k) (rw (is_reftype, e) at h) in
    let closed = no_paren (peek 0 toks) k e in
    (rw (keyword_in, e, no) refl, no_form toks key.Ref (rw (is_form, closed) refl), no_form toks key.Shared (rw (is_form, closed) refl))

pub no_reftype : (toks : Toks) → is_reftype toks ≡ false → reftype toks ≡ None
no_reftype toks h =
    let a = absent toks (key_of (peek 0 toks)) refl h in
    rw (reftype, a.0, a.2, a.1) refl
