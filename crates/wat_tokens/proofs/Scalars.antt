-- Closes what reading '\u{..}' leaves: the number is read into 64 bits first, and one with more is no character.
use Rattle.std.proofs.Common.{◌≡◌, ◌∙◌, ℕ, ◌+◌, Bool, true, false, List, length, drop, take, ◌-◌, Option, None, Some, refl, sym, ap, arith}
use Rattle.std.specs.Prelude.{if◌then◌else◌}
use Rattle.std.proofs.lemmas.List.{take_all, length-drop}
use Rattle.std.specs.Char.{encode_utf8}
use Rattle.wat_grammar.specs.Parts.{◌>>=◌}
use Rattle.wat_grammar.specs.Integers.{hexnum}
use Rattle.wat_grammar.specs.Strings.{is_scalar, braced, unicode}
use Rattle.wat_tokens.specs.Strings.{character, scalar_in}

-- what is in the braces, by the character with its number
abbrev pick : List ℕ → ℕ → Bool → Option (List ℕ × List ℕ)
pick rest n is = if is then (let p : List ℕ × List ℕ = (encode_utf8 n, rest) in Some p) else None

abbrev braces : List ℕ → Option ℕ → Option (List ℕ × List ℕ)
braces rest None = None
braces rest (Some n) = pick rest n (is_scalar n)

in_braces : (digits rest : List ℕ) (o : Option ℕ) → (o >>= λ n. character n) ≡ None → (braces rest o) ≡ None
in_braces digits rest None h = refl
in_braces digits rest (Some n) h = go (is_scalar n) refl h
  where
    go : (b : Bool) → is_scalar n ≡ b → (if b then Some n else None) ≡ None → pick rest n b ≡ None
    go true e h = absurd cc
    go false e h = refl

in_braces_is : (digits rest : List ℕ) (c : ℕ) (o : Option ℕ) → (o >>= λ n. character n) ≡ Some c → (braces rest o) ≡ Some (encode_utf8 c, rest)
in_braces_is digits rest c None h = absurd cc
in_braces_is digits rest c (Some n) h = go (is_scalar n) refl h
  where
    go : (b : Bool) → is_scalar n ≡ b → (if b then Some n else None) ≡ Some c → pick rest n b ≡ Some (encode_utf8 c, rest)
    go true e h = ap (λ m. pick rest m true) (let same : n ≡ c = cc in same)
    go false e h = absurd cc

abbrev whole : Option (List ℕ × List ℕ) → Option (List ℕ × List ℕ)
whole None = None
whole (Some t) = braces t.1 (hexnum t.0)

unicode_is : (text : List ℕ) → unicode text ≡ whole (braced text)
unicode_is text = go (braced text)
  where
    inner : (rest : List ℕ) (o : Option ℕ)
        → (o >>= λ n. if is_scalar n then (let p : List ℕ × List ℕ = (encode_utf8 n, rest) in Some p) else None) ≡ braces rest o
    inner rest None = refl
    inner rest (Some n) = refl

    go : (o : Option (List ℕ × List ℕ))
        → (o >>= λ t. hexnum t.0 >>= λ n. if is_scalar n then (let p : List ℕ × List ℕ = (encode_utf8 n, t.1) in Some p) else None) ≡ whole o
    go None = refl
    go (Some t) = inner t.1 (hexnum t.0)

pub scalar_none : (text : List ℕ) (n : ℕ) → braced text ≡ Some (take n text, drop (n + 1) text) → None ≡ scalar_in (take n text) → unicode text ≡ None
scalar_none text n is none = unicode_is text ∙ ap whole is ∙ in_braces (take n text) (drop (n + 1) text) (hexnum (take n text)) (sym none)

pub scalar_some : (text : List ℕ) (n c : ℕ) → braced text ≡ Some (take n text, drop (n + 1) text) → Some c ≡ scalar_in (take n text)
    → unicode text ≡ Some (encode_utf8 c, take (length text - (n + 1)) (drop (n + 1) text))
scalar_some text n c is some = unicode_is text ∙ ap whole is ∙ in_braces_is (take n text) (drop (n + 1) text) c (hexnum (take n text)) (sym some)
    ∙ ap (λ xs. Some (encode_utf8 c, xs)) (sym (take_all (length text - (n + 1)) (drop (n + 1) text) (omega (arith, length-drop (n + 1) text))))

pub unclosed : (text : List ℕ) → braced text ≡ None → unicode text ≡ None
unclosed text is = unicode_is text ∙ ap whole is
