-- Closes the loops that count the characters at the start of a text which pass a test.
use Rattle.std.proofs.Common.{◌≡◌, ◌∙◌, ℕ, zero, suc, ◌+◌, ◌-◌, ◌<◌, ◌≤◌, not, cond, Bool, true, false, List, [], ◌∷◌}
use Rattle.std.proofs.Common.{length, drop, take, map, get_or, refl, sym, ap, arith, add-one, drop-cons, take_all}
use Rattle.std.proofs.lemmas.List.{length-drop}
use Rattle.std.proofs.lemmas.Simd.{length-chunk, leading_from_mask_l, trailing_mask_l}
use Rattle.std.specs.List.{prefix_len}
use lib.Count.{count_trailing_zeros}
use lib.Lanes.{chunk, mask_l}
use Rattle.wat_grammar.specs.Parts.{front}

pub begins : (is : ℕ → Bool) (c : ℕ) (cs : List ℕ) → is c ≡ true → front is (c ∷ cs) ≡ c ∷ front is cs
begins is c cs h = rw (front, h) refl

pub stops : (is : ℕ → Bool) (c : ℕ) (cs : List ℕ) → is c ≡ false → front is (c ∷ cs) ≡ []
stops is c cs h = rw (front, h) refl

pub front_more : (is : ℕ → Bool) (i : ℕ) (cs : List ℕ) → i < length cs → is (get_or cs i 0) ≡ true
    → length (front is (drop i cs)) ≡ suc (length (front is (drop (i + 1) cs)))
front_more is i cs below h = ap (λ x. length (front is x)) (drop-cons cs i 0 below) ∙ rw add-one (ap length (begins is (get_or cs i 0) (drop (suc i) cs) h))

pub front_stop : (is : ℕ → Bool) (i : ℕ) (cs : List ℕ) → i < length cs → is (get_or cs i 0) ≡ false → length (front is (drop i cs)) ≡ 0
front_stop is i cs below h = ap (λ x. length (front is x)) (drop-cons cs i 0 below) ∙ ap length (stops is (get_or cs i 0) (drop (suc i) cs) h)

pub front_end : (is : ℕ → Bool) (i : ℕ) (cs : List ℕ) → length cs ≤ i → length (front is (drop i cs)) ≡ 0
front_end is zero [] h = refl
front_end is zero (x ∷ xs) h = absurd (omega arith)
front_end is (suc i) [] h = refl
front_end is (suc i) (x ∷ xs) h = front_end is i xs (omega arith)

-- a text whose first character does not pass
pub front_none : (is : ℕ → Bool) (cs : List ℕ) → is (get_or cs 0 0) ≡ false → length (front is cs) ≡ 0
front_none is [] h = refl
front_none is (c ∷ cs) h = ap length (stops is c cs h)

front_of : (is : ℕ → Bool) (c : ℕ) (cs : List ℕ) (b : Bool) → is c ≡ b → take (length (front is cs)) cs ≡ front is cs
    → take (length (front is (c ∷ cs))) (c ∷ cs) ≡ front is (c ∷ cs)
front_of is c cs true h ih = ap (λ xs. take (length xs) (c ∷ cs)) (begins is c cs h) ∙ ap (λ xs. c ∷ xs) ih ∙ sym (begins is c cs h)
front_of is c cs false h ih = rw (stops is c cs h) refl

pub front_is : (is : ℕ → Bool) (cs : List ℕ) → take (length (front is cs)) cs ≡ front is cs
front_is is [] = refl
front_is is (c ∷ cs) = front_of is c cs (is c) refl (front_is is cs)

pub front_short : (is : ℕ → Bool) (cs : List ℕ) → length (front is cs) ≤ length cs
front_short is [] = omega arith
front_short is (c ∷ cs) = go (is c) refl (front_short is cs)
  where
    go : (x : Bool) → is c ≡ x → length (front is cs) ≤ length cs → length (front is (c ∷ cs)) ≤ suc (length cs)
    go true e h = let l : length (front is (c ∷ cs)) ≡ suc (length (front is cs)) = ap length (begins is c cs e) in omega (arith, l, h)
    go false e h = let l : length (front is (c ∷ cs)) ≡ 0 = ap length (stops is c cs e) in omega (arith, l)

-- the characters after some that pass the test
pub front_past : (is : ℕ → Bool) (k : ℕ) (cs : List ℕ) → k ≤ length (front is cs) → length (front is (drop k cs)) ≡ length (front is cs) - k
front_past is zero cs h = omega arith
front_past is (suc k) [] h = absurd (omega (arith, h))
front_past is (suc k) (c ∷ cs) h = go (is c) refl (front_past is k cs)
  where
    go : (x : Bool) → is c ≡ x → (k ≤ length (front is cs) → length (front is (drop k cs)) ≡ length (front is cs) - k)
        → length (front is (drop k cs)) ≡ length (front is (c ∷ cs)) - suc k
    go true e inner =
        let l : length (front is (c ∷ cs)) ≡ suc (length (front is cs)) = ap length (begins is c cs e) in
        let i = inner (omega (arith, h, l)) in
        omega (arith, l, i)
    go false e inner = let l : length (front is (c ∷ cs)) ≡ 0 = ap length (stops is c cs e) in absurd (omega (arith, h, l))

-- the characters from a place on, as a pattern or a range cuts them
abbrev pub tail_at : ℕ → List ℕ → List ℕ
tail_at k cs = take (length cs - k) (drop k cs)

pub tail_is : (k : ℕ) (cs : List ℕ) → tail_at k cs ≡ drop k cs
tail_is k cs = take_all (length cs - k) (drop k cs) (omega (arith, length-drop k cs))

-- a text with a character is that character and its tail
pub parted : (cs : List ℕ) → 1 ≤ length cs → cs ≡ get_or cs 0 0 ∷ tail_at 1 cs
parted [] h = absurd (omega (arith, h))
parted (c ∷ cs) h = ap (λ r. c ∷ r) (sym (tail_is 1 (c ∷ cs)))

-- one that passes, and some after it
pub front_step : (is : ℕ → Bool) (k : ℕ) (cs : List ℕ) → 1 ≤ length cs → is (get_or cs 0 0) ≡ true → k ≤ length (front is (tail_at 1 cs))
    → (length (front is cs) ≡ suc (k + length (front is (tail_at k (tail_at 1 cs))))) × (length (tail_at k (tail_at 1 cs)) + suc k ≡ length cs)
front_step is k cs some passes run =
    let m = tail_at 1 cs in
    let l : length cs ≡ suc (length m) = ap length (parted cs some) in
    let f : length (front is cs) ≡ suc (length (front is m)) = ap (λ x. length (front is x)) (parted cs some)
    ∙ ap length (begins is (get_or cs 0 0) m passes) in
    let r : length (front is (tail_at k m)) ≡ length (front is m) - k = ap (λ x. length (front is x)) (tail_is k m) ∙ front_past is k m run in
    let t : length (tail_at k m) ≡ length m - k = ap length (tail_is k m) ∙ length-drop k m in
    (omega (arith, f, r, run), omega (arith, l, t, run, front_short is m))

front_in : (is : ℕ → Bool) (n : ℕ) (cs : List ℕ) → prefix_len is (take n cs) ≤ length (front is cs)
front_in is zero cs = omega arith
front_in is (suc n) [] = omega arith
front_in is (suc n) (c ∷ cs) = go (is c) refl (front_in is n cs)
  where
    go : (x : Bool) → is c ≡ x → prefix_len is (take n cs) ≤ length (front is cs) → prefix_len is (c ∷ take n cs) ≤ length (front is (c ∷ cs))
    go true e h =
        let l : length (front is (c ∷ cs)) ≡ suc (length (front is cs)) = ap length (begins is c cs e) in
        let p : prefix_len is (c ∷ take n cs) ≡ 1 + prefix_len is (take n cs) = ap (λ b. cond b (1 + prefix_len is (take n cs)) 0) e in
        omega (arith, l, p, h)
    go false e h = let p : prefix_len is (c ∷ take n cs) ≡ 0 = ap (λ b. cond b (1 + prefix_len is (take n cs)) 0) e in omega (arith, p)

-- A look at n characters at once: `found` has a bit for each, which is set if the character stops the front.
pub none_found : (stop : ℕ → Bool) (n : ℕ) (cs : List ℕ) (found : ℕ) → n ≤ length cs
    → found ≡ mask_l (map stop (chunk 0 n cs)) → found ≡ 0 → n ≤ length (front (λ c. not (stop c)) cs)
none_found stop n cs found long is none =
    let whole : prefix_len (λ c. not (stop c)) (chunk 0 n cs) ≡ length (chunk 0 n cs) = leading_from_mask_l stop (chunk 0 n cs) (sym is ∙ none) in
    let some : prefix_len (λ c. not (stop c)) (chunk 0 n cs) ≤ length (front (λ c. not (stop c)) cs) = front_in (λ c. not (stop c)) n cs in
    omega (arith, whole, some, length-chunk 0 n cs (omega (arith, long)))

pub first_found : (stop : ℕ → Bool) (n : ℕ) (cs : List ℕ) (found : ℕ) → n ≤ length cs → n ≤ 64 → found ≡ mask_l (map stop (chunk 0 n cs)) → 0 < found
    → count_trailing_zeros 64 found ≤ length (front (λ c. not (stop c)) cs)
first_found stop n cs found long few is set =
    let first : count_trailing_zeros 64 found ≡ prefix_len (λ c. not (stop c)) (chunk 0 n cs) =
    ap (count_trailing_zeros 64) is
    ∙ trailing_mask_l stop 64 (chunk 0 n cs) (omega (arith, length-chunk 0 n cs (omega (arith, long)), few)) (omega (arith, is, set)) in
    let some : prefix_len (λ c. not (stop c)) (chunk 0 n cs) ≤ length (front (λ c. not (stop c)) cs) = front_in (λ c. not (stop c)) n cs in
    omega (arith, first, some)
