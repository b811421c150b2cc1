-- Closes what is asked of a place: a character begins there, and the text goes on so far.
use Rattle.std.proofs.Common.{◌≡◌, ◌∙◌, ℕ, suc, ◌+◌, ◌-◌, ◌<◌, ◌≤◌, ◌==◌, Bool, true, false, List, [], ◌∷◌, length}
use Rattle.std.proofs.Common.{drop, get_or, None, Some, refl, sym, ap, subst, arith, drop-cons, eqb-true, ◌⊎◌, inl, inr}
use Rattle.std.proofs.lemmas.Bool.{cases_lt}
use Rattle.std.proofs.lemmas.List.{drop-drop}
use Rattle.std.proofs.lemmas.Str.{IsCharBoundary-after_ascii, IsCharBoundary-before_ascii}
use Rattle.std.specs.Prelude.{IsUtf8, IsCharBoundary}
use Rattle.std.specs.Prelude.{◌&&◌}
use Rattle.wat_grammar.specs.Parts.{front}
use Rattle.wat_grammar.specs.Tokens.{is_idchar}
use Rattle.wat_tokens.specs.Scans.{first_of, is_first, begins_of}
use Rattle.wat_tokens.proofs.Idchars.{is_ascii}
use Rattle.wat_tokens.proofs.Fronts.{front_more}
use Rattle.wat_tokens.proofs.Comments.{all_read}

-- a byte at a place is in the text
pub below : (T : List ℕ) (i c : ℕ) → first_of (drop i T) ≡ Some c → i < length T
below T i c h = go (cases_lt i (length T))
  where
    go : (i < length T) ⊎ (length T ≤ i) → i < length T
    go (inl l) = l
    go (inr over) = absurd (let none : None ≡ Some c = sym (ap first_of (all_read i T over)) ∙ h in cc)

pub byte_is : (T : List ℕ) (i c : ℕ) → first_of (drop i T) ≡ Some c → get_or T i 0 ≡ c
byte_is T i c h = let same : Some (get_or T i 0) ≡ Some c = sym (ap first_of (drop-cons T i 0 (below T i c h))) ∙ h in cc

pub at_byte : (T : List ℕ) (i c : ℕ) → IsUtf8 T → first_of (drop i T) ≡ Some c → c < 128 → IsCharBoundary T i
at_byte T i c utf8 h ascii = IsCharBoundary-before_ascii T i (below T i c h) (subst (λ x. x < 128) (sym (byte_is T i c h)) ascii)

pub after_first : (T : List ℕ) (i : ℕ) → IsUtf8 T → first_of (drop i T) ≡ Some 0x24 → IsCharBoundary T (i + 1)
after_first T i utf8 h = IsCharBoundary-after_ascii T i utf8 (below T i 0x24 h) (subst (λ x. x < 128) (sym (byte_is T i 0x24 h)) (omega arith))

pub after_byte : (T : List ℕ) (i : ℕ) → IsUtf8 T → first_of (drop (i + 1) T) ≡ Some 0x40 → IsCharBoundary T (i + 2)
after_byte T i utf8 h = subst (λ k. IsCharBoundary T k) {x = i + 1 + 1} {y = i + 2} (omega arith)
    (IsCharBoundary-after_ascii T (i + 1) utf8 (below T (i + 1) 0x40 h) (subst (λ x. x < 128) (sym (byte_is T (i + 1) 0x40 h)) (omega arith)))

first_is : (t : List ℕ) (c : ℕ) → is_first c t ≡ true → first_of t ≡ Some c
first_is [] c h = absurd cc
first_is (d ∷ ds) c h = ap Some (eqb-true d c h)

pub first_below : (T : List ℕ) (i c : ℕ) → is_first c (drop i T) ≡ true → i < length T
first_below T i c h = below T i c (first_is (drop i T) c h)

pub first_after : (T : List ℕ) (i : ℕ) → IsUtf8 T → is_first 0x40 (drop (i + 1) T) ≡ true → IsCharBoundary T (i + 2)
first_after T i utf8 h = after_byte T i utf8 (first_is (drop (i + 1) T) 0x40 h)

pub idchar_boundary : (T : List ℕ) (i c : ℕ) → IsUtf8 T → first_of (drop i T) ≡ Some c → is_idchar c ≡ true → IsCharBoundary T i
idchar_boundary T i c utf8 h k = at_byte T i c utf8 h (is_ascii c k)

pub some_word : (T : List ℕ) (i c : ℕ) → first_of (drop i T) ≡ Some c → is_idchar c ≡ true → i < i + length (front is_idchar (drop i T))
some_word T i c h k = let more : length (front is_idchar (drop i T)) ≡ suc (length (front is_idchar (drop (i + 1) T))) = front_more is_idchar i T
    (below T i c h) (ap is_idchar (byte_is T i c h) ∙ k) in omega (arith, more)

-- two semicolons
pub begins : (T : List ℕ) (i : ℕ) → (is_first 0x3b (drop i T) && is_first 0x3b (drop (i + 1) T)) ≡ begins_of (drop i T)
begins T i = ap (λ x. is_first 0x3b (drop i T) && is_first 0x3b x) (sym (drop-drop 1 i T)) ∙ go (drop i T)
  where
    no_right : (a : Bool) → a && false ≡ false
    no_right true = refl
    no_right false = refl

    go : (t : List ℕ) → (is_first 0x3b t && is_first 0x3b (drop 1 t)) ≡ begins_of t
    go [] = refl
    go (c ∷ []) = no_right (c == 0x3b)
    go (c ∷ d ∷ ds) = refl
