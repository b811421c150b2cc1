-- Closes the cut of a word out of a text: a word is ASCII, so that a character begins where it ends.
use Rattle.std.proofs.Common.{◌≡◌, ◌∙◌, ℕ, zero, suc, ◌+◌, ◌-◌, ◌<◌, ◌≤◌, ◌==◌, Bool, true, false, List, []}
use Rattle.std.proofs.Common.{◌∷◌, length, drop, take, get_or, refl, ap, subst, arith, eqb-true, ◌⊎◌, inl, inr}
use Rattle.std.proofs.lemmas.Bool.{leb-true, cases_lt}
use Rattle.std.proofs.lemmas.Str.{IsCharBoundary-after_ascii}
use Rattle.std.proofs.lemmas.List.{length-drop}
use Rattle.std.specs.Prelude.{IsUtf8, IsCharBoundary, nat_le, ◌&&◌}
use Rattle.std.specs.Int.{is_in_range}
use Rattle.wat_grammar.specs.Parts.{front}
use Rattle.wat_grammar.specs.Tokens.{is_idchar}
use Rattle.wat_tokens.proofs.Fronts.{front_more, front_stop, front_end, front_is, front_short}

no_right : (a : Bool) → a && false ≡ false
no_right true = refl
no_right false = refl

above : (lo hi c : ℕ) → hi < c → is_in_range lo hi c ≡ false
above lo hi c h = ap (λ x. nat_le lo c && x) (go (nat_le c hi) refl) ∙ no_right (nat_le lo c)
  where
    go : (x : Bool) → nat_le c hi ≡ x → nat_le c hi ≡ false
    go true e = absurd (let below : c ≤ hi = leb-true c hi e in omega (arith, below, h))
    go false e = e

apart : (k c : ℕ) → k < c → c == k ≡ false
apart k c h = go (c == k) refl
  where
    go : (x : Bool) → c == k ≡ x → c == k ≡ false
    go true e = absurd (let same : c ≡ k = eqb-true c k e in omega (arith, same, h))
    go false e = e

no_idchar : (c : ℕ) → 0x7f < c → is_idchar c ≡ false
no_idchar c h =
    let a : is_in_range 0x30 0x39 c ≡ false = above 0x30 0x39 c (omega (arith, h)) in
    let b : is_in_range 0x41 0x5a c ≡ false = above 0x41 0x5a c (omega (arith, h)) in
    let d : is_in_range 0x61 0x7a c ≡ false = above 0x61 0x7a c (omega (arith, h)) in
    let e : c == 0x21 ≡ false = apart 0x21 c (omega (arith, h)) in
    let f : is_in_range 0x23 0x27 c ≡ false = above 0x23 0x27 c (omega (arith, h)) in
    let g : is_in_range 0x2a 0x2b c ≡ false = above 0x2a 0x2b c (omega (arith, h)) in
    let i : is_in_range 0x2d 0x2f c ≡ false = above 0x2d 0x2f c (omega (arith, h)) in
    let j : c == 0x3a ≡ false = apart 0x3a c (omega (arith, h)) in
    let k : is_in_range 0x3c 0x40 c ≡ false = above 0x3c 0x40 c (omega (arith, h)) in
    let l : c == 0x5c ≡ false = apart 0x5c c (omega (arith, h)) in
    let m : is_in_range 0x5e 0x60 c ≡ false = above 0x5e 0x60 c (omega (arith, h)) in
    let n : c == 0x7c ≡ false = apart 0x7c c (omega (arith, h)) in
    let o : c == 0x7e ≡ false = apart 0x7e c (omega (arith, h)) in
    rw (a, b, d, e, f, g, i, j, k, l, m, n, o) refl

pub is_ascii : (c : ℕ) → is_idchar c ≡ true → c < 128
is_ascii c h = go (cases_lt c 128)
  where
    go : (c < 128) ⊎ (128 ≤ c) → c < 128
    go (inl below) = below
    go (inr over) = absurd (let none : is_idchar c ≡ false = no_idchar c (omega (arith, over)) in cc)

word_from : (T : List ℕ) → IsUtf8 T → (n b : ℕ) → IsCharBoundary T b → length T ≤ b + n → IsCharBoundary T (b + length (front is_idchar (drop b T)))
word_from T utf8 zero b start over =
    let none : length (front is_idchar (drop b T)) ≡ 0 = front_end is_idchar b T (omega (arith, over)) in
    subst (λ k. IsCharBoundary T k) {x = b} {y = b + length (front is_idchar (drop b T))} (omega (arith, none)) start
word_from T utf8 (suc n) b start over = step (cases_lt b (length T)) (is_idchar (get_or T b 0)) refl (word_from T utf8 n (b + 1))
  where
    step : (b < length T) ⊎ (length T ≤ b) → (x : Bool) → is_idchar (get_or T b 0) ≡ x
        → (IsCharBoundary T (b + 1) → length T ≤ b + 1 + n → IsCharBoundary T (b + 1 + length (front is_idchar (drop (b + 1) T))))
        → IsCharBoundary T (b + length (front is_idchar (drop b T)))
    step (inr past) x e inner =
        let none : length (front is_idchar (drop b T)) ≡ 0 = front_end is_idchar b T past in
        subst (λ k. IsCharBoundary T k) {x = b} {y = b + length (front is_idchar (drop b T))} (omega (arith, none)) start
    step (inl below) true e inner =
        let more : length (front is_idchar (drop b T)) ≡ suc (length (front is_idchar (drop (b + 1) T))) = front_more is_idchar b T below e in
        subst (λ k. IsCharBoundary T k) {x = b + 1 + length (front is_idchar (drop (b + 1) T))} {y = b + length (front is_idchar (drop b T))}
        (omega (arith, more))
        (inner (IsCharBoundary-after_ascii T b utf8 below (is_ascii (get_or T b 0) e)) (omega (arith, over)))
    step (inl below) false e inner =
        let none : length (front is_idchar (drop b T)) ≡ 0 = front_stop is_idchar b T below e in
        subst (λ k. IsCharBoundary T k) {x = b} {y = b + length (front is_idchar (drop b T))} (omega (arith, none)) start

-- a word ends at the start of a character, if it begins at one
pub word_ends : (T : List ℕ) (b : ℕ) → IsUtf8 T → IsCharBoundary T b → IsCharBoundary T (b + length (front is_idchar (drop b T)))
word_ends T b utf8 start = word_from T utf8 (length T) b start (omega arith)

pub word_is : (T : List ℕ) (b : ℕ) → take (length (front is_idchar (drop b T))) (drop b T) ≡ front is_idchar (drop b T)
word_is T b = front_is is_idchar (drop b T)

pub word_inside : (T : List ℕ) (b : ℕ) → b ≤ length T → b + length (front is_idchar (drop b T)) ≤ length T
word_inside T b h = let s = front_short is_idchar (drop b T) in let l = length-drop b T in omega (arith, s, l, h)

pub word_cut : (T rest : List ℕ) (b n : ℕ) → rest ≡ drop b T → n ≡ length (front is_idchar rest) → take (b + n - b) (drop b T) ≡ front is_idchar (drop b T)
word_cut T rest b n left long =
    let e : n ≡ length (front is_idchar (drop b T)) = long ∙ ap (λ r. length (front is_idchar r)) left in
    ap (λ k. take k (drop b T)) {x = b + n - b} {y = length (front is_idchar (drop b T))} (omega (arith, e)) ∙ front_is is_idchar (drop b T)
