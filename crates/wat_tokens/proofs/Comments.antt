-- Closes the loop over a block comment.
use Rattle.std.proofs.Common.{◌≡◌, ◌≢◌, ◌∙◌, ℕ, zero, suc, ◌+◌, ◌-◌, ◌<◌, ◌≤◌, ◌==◌, ◌&&◌, ◌||◌, not, Bool, true, false}
use Rattle.std.proofs.Common.{List, [], ◌∷◌, length, drop, get_or, None, Some, refl, sym, ap, ap₂, arith, add-one}
use Rattle.std.proofs.lemmas.List.{drop-drop, length-drop}
use Rattle.wat_grammar.specs.Parts.{front}
use Rattle.wat_grammar.specs.Space.{blockcomment}
use Rattle.wat_tokens.specs.Scans.{is_first}
use Rattle.wat_tokens.proofs.Braces.{differs}
use Rattle.wat_tokens.proofs.Fronts.{begins, stops, tail_at, tail_is, parted}

-- neither the first character of '(;' nor that of ';)'
abbrev quiet : ℕ → Bool
quiet c = not (c == 0x28 || c == 0x3b)

starts : (n b c : ℕ) (cs : List ℕ) → (b == 0x28 && c == 0x3b) ≡ true → blockcomment n (b ∷ c ∷ cs) ≡ blockcomment (suc n) cs
unfolding blockcomment
starts n b c cs h = rw (h, blockcomment) refl

goes_on : (n b c : ℕ) (cs : List ℕ) → (b == 0x28 && c == 0x3b) ≡ false
    → (b == 0x3b && c == 0x29) ≡ false → blockcomment n (b ∷ c ∷ cs) ≡ blockcomment n (c ∷ cs)
unfolding blockcomment
goes_on n b c cs h k = rw (h, k, blockcomment) refl

closes : (n b c : ℕ) (cs : List ℕ) → (b == 0x28 && c == 0x3b) ≡ false → (b == 0x3b && c == 0x29) ≡ true → blockcomment (suc n) (b ∷ c ∷ cs) ≡ blockcomment n cs
unfolding blockcomment
closes n b c cs h k = rw (h, k, blockcomment) refl

is_over : (b c : ℕ) (cs : List ℕ) → (b == 0x28 && c == 0x3b) ≡ false → (b == 0x3b && c == 0x29) ≡ true → blockcomment 0 (b ∷ c ∷ cs) ≡ Some cs
unfolding blockcomment
is_over b c cs h k = rw (h, k, blockcomment) refl

none_left : (n : ℕ) → blockcomment n [] ≡ None
unfolding blockcomment
none_left n = refl

one_left : (n b : ℕ) → blockcomment n (b ∷ []) ≡ None
unfolding blockcomment
one_left n b = refl

pub open_past : (n : ℕ) (more : List ℕ) → is_first 0x3b more ≡ true → blockcomment n (0x28 ∷ more) ≡ blockcomment (n + 1) (drop 1 more)
open_past n [] h = absurd cc
open_past n (c ∷ cs) h = starts n 0x28 c cs h ∙ ap (λ k. blockcomment k cs) {x = suc n} {y = n + 1} (sym (add-one n))

pub open_not : (n : ℕ) (more : List ℕ) → is_first 0x3b more ≡ false → blockcomment n (0x28 ∷ more) ≡ blockcomment n more
open_not n [] h = one_left n 0x28 ∙ sym (none_left n)
open_not n (c ∷ cs) h = goes_on n 0x28 c cs h refl

pub close_past : (n m : ℕ) (more : List ℕ) → n ≡ m + 1 → is_first 0x29 more ≡ true → blockcomment n (0x3b ∷ more) ≡ blockcomment m (drop 1 more)
close_past n m [] one h = absurd cc
close_past n m (c ∷ cs) one h = ap (λ k. blockcomment k (0x3b ∷ c ∷ cs)) (one ∙ add-one m) ∙ closes m 0x3b c cs refl h

pub close_not : (n : ℕ) (more : List ℕ) → is_first 0x29 more ≡ false → blockcomment n (0x3b ∷ more) ≡ blockcomment n more
close_not n [] h = one_left n 0x3b ∙ sym (none_left n)
close_not n (c ∷ cs) h = goes_on n 0x3b c cs refl h

pub ends : (n : ℕ) (more : List ℕ) → n ≡ 0 → is_first 0x29 more ≡ true → blockcomment n (0x3b ∷ more) ≡ Some (drop 1 more)
ends n [] none h = absurd cc
ends n (c ∷ cs) none h = ap (λ k. blockcomment k (0x3b ∷ c ∷ cs)) none ∙ is_over 0x3b c cs refl h

quiet_one : (n c : ℕ) (cs : List ℕ) → c == 0x28 ≡ false → c == 0x3b ≡ false → blockcomment n (c ∷ cs) ≡ blockcomment n cs
quiet_one n c [] p q = one_left n c ∙ sym (none_left n)
quiet_one n c (d ∷ ds) p q = goes_on n c d ds (ap (λ x. x && d == 0x3b) p) (ap (λ x. x && d == 0x29) q)

quiet_run : (n k : ℕ) (cs : List ℕ) → k ≤ length (front quiet cs) → blockcomment n cs ≡ blockcomment n (drop k cs)
quiet_run n zero cs h = refl
quiet_run n (suc k) [] h = absurd (omega (arith, h))
quiet_run n (suc k) (c ∷ cs) h = go (c == 0x28) (c == 0x3b) refl refl (quiet_run n k cs)
  where
    none : quiet c ≡ false → ⊥
    none e = let l : length (front quiet (c ∷ cs)) ≡ 0 = ap length (stops quiet c cs e) in omega (arith, h, l)

    go : (a b : Bool) → c == 0x28 ≡ a → c == 0x3b ≡ b → (k ≤ length (front quiet cs) → blockcomment n cs ≡ blockcomment n (drop k cs))
        → blockcomment n (c ∷ cs) ≡ blockcomment n (drop k cs)
    go true b p q inner = absurd (none (ap (λ x. not (x || c == 0x3b)) p))
    go false true p q inner = absurd (none (ap₂ (λ x y. not (x || y)) p q))
    go false false p q inner =
        let l : length (front quiet (c ∷ cs)) ≡ suc (length (front quiet cs)) = ap length (begins quiet c cs (ap₂ (λ x y. not (x || y)) p q)) in
        quiet_one n c cs p q ∙ inner (omega (arith, h, l))

pub quiet_past : (n c k : ℕ) (more : List ℕ) → c ≢ 0x28 → c ≢ 0x3b → k ≤ length (front quiet more) → blockcomment n (c ∷ more) ≡ blockcomment n (drop k more)
quiet_past n c k more p q run = quiet_one n c more (differs c 0x28 p) (differs c 0x3b q) ∙ quiet_run n k more run

pub no_end : (n : ℕ) (rest : List ℕ) → length rest < 1 → blockcomment n rest ≡ None
no_end n [] none = none_left n
no_end n (c ∷ cs) none = absurd (omega (arith, none))

-- the first character is known
pub known : (n c : ℕ) (rest : List ℕ) → 1 ≤ length rest → get_or rest 0 0 ≡ c → blockcomment n rest ≡ blockcomment n (c ∷ tail_at 1 rest)
known n c rest some is = ap (blockcomment n) (parted rest some ∙ ap (λ b. b ∷ tail_at 1 rest) is)

pub some_first : (c : ℕ) (cs : List ℕ) → is_first c cs ≡ true → 1 ≤ length cs
some_first c [] h = absurd cc
some_first c (d ∷ ds) h = omega arith

pub tails : (k : ℕ) (rest : List ℕ) → tail_at k (tail_at 1 rest) ≡ drop (1 + k) rest
tails k rest = tail_is k (tail_at 1 rest) ∙ ap (drop k) (tail_is 1 rest) ∙ drop-drop k 1 rest

-- what is left of a text, after k characters more
pub left_after : (k : ℕ) (text rest later : List ℕ) → later ≡ drop k rest → k ≤ length rest
    → length rest ≤ length text → rest ≡ drop (length text - length rest) text
    → (length later + k ≡ length rest) × (later ≡ drop (length text - length later) text)
left_after k text rest later is short inside left =
    let long : length later ≡ length rest - k = ap length is ∙ length-drop k rest in (
      omega (arith, long, short),
      is ∙ ap (drop k) left ∙ drop-drop k (length text - length rest) text
          ∙ ap (λ n. drop n text) {x = length text - length rest + k} {y = length text - length later} (omega (arith, long, short, inside)),
    )

pub all_read : (i : ℕ) (text : List ℕ) → length text ≤ i → drop i text ≡ []
all_read zero [] h = refl
all_read zero (x ∷ xs) h = absurd (omega arith)
all_read (suc i) [] h = refl
all_read (suc i) (x ∷ xs) h = all_read i xs (omega arith)
