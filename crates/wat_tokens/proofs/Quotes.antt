-- Closes the loop that looks for the quote at the end of a string.
use Rattle.std.proofs.Common.{◌≡◌, ◌≢◌, ◌∙◌, ℕ, zero, suc, ◌+◌, ◌-◌, ◌<◌, ◌≤◌, ◌==◌, ◌||◌, not, Bool, true, false}
use Rattle.std.proofs.Common.{List, [], ◌∷◌, length, drop, get_or, Option, None, Some, refl, sym, ap, ap₂, arith}
use Rattle.std.proofs.lemmas.List.{length-drop}
use Rattle.wat_grammar.specs.Parts.{◌>>=◌, front}
use Rattle.wat_grammar.specs.Tokens.{string_length}
use Rattle.wat_tokens.specs.Scans.{after_these}
use Rattle.wat_tokens.proofs.Braces.{differs}
use Rattle.wat_tokens.proofs.Fronts.{begins, stops, front_short, tail_at, tail_is, parted}

-- neither a quote nor a backslash
abbrev plain : ℕ → Bool
plain c = not (c == 0x22 || c == 0x5c)

pub begun : (i : ℕ) (o : Option ℕ) → i ≡ 0 → o ≡ after_these i o
begun i None none = refl
begun i (Some n) none = ap Some (omega (arith, none))

twice : (i j n : ℕ) (o : Option ℕ) → n ≡ i + j → after_these i (after_these j o) ≡ after_these n o
twice i j n None both = refl
twice i j n (Some m) both = ap Some (omega (arith, both))

one_more : (o : Option ℕ) → (o >>= λ n. Some (suc n)) ≡ after_these 1 o
one_more None = refl
one_more (Some n) = ap Some (omega arith)

escaped : (c : ℕ) (cs : List ℕ) → string_length true (c ∷ cs) ≡ (string_length false cs >>= λ n. Some (suc n))
unfolding string_length
escaped c cs = refl

goes_on : (c : ℕ) (cs : List ℕ) → c == 0x22 ≡ false → string_length false (c ∷ cs) ≡ (string_length (c == 0x5c) cs >>= λ n. Some (suc n))
unfolding string_length
goes_on c cs h = rw (h, string_length) refl

is_over : (c : ℕ) (cs : List ℕ) → c == 0x22 ≡ true → string_length false (c ∷ cs) ≡ Some 0
unfolding string_length
is_over c cs h = rw (h, string_length) refl

none_left : (e : Bool) → string_length e [] ≡ None
unfolding string_length
none_left true = refl
none_left false = refl

plain_one : (c : ℕ) (cs : List ℕ) → c == 0x22 ≡ false → c == 0x5c ≡ false → string_length false (c ∷ cs) ≡ after_these 1 (string_length false cs)
plain_one c cs q e = goes_on c cs q ∙ ap (λ b. string_length b cs >>= λ n. Some (suc n)) e ∙ one_more (string_length false cs)

plain_run : (k : ℕ) (cs : List ℕ) → k ≤ length (front plain cs) → string_length false cs ≡ after_these k (string_length false (drop k cs))
plain_run zero cs h = begun 0 (string_length false cs) refl
plain_run (suc k) [] h = absurd (omega (arith, h))
plain_run (suc k) (c ∷ cs) h = go (c == 0x22) (c == 0x5c) refl refl (plain_run k cs)
  where
    none : plain c ≡ false → ⊥
    none e = let l : length (front plain (c ∷ cs)) ≡ 0 = ap length (stops plain c cs e) in omega (arith, h, l)

    go : (a b : Bool) → c == 0x22 ≡ a → c == 0x5c ≡ b → (k ≤ length (front plain cs) → string_length false cs ≡ after_these k (string_length false (drop k cs)))
        → string_length false (c ∷ cs) ≡ after_these (suc k) (string_length false (drop k cs))
    go true b p q inner = absurd (none (ap (λ x. not (x || c == 0x5c)) p))
    go false true p q inner = absurd (none (ap₂ (λ x y. not (x || y)) p q))
    go false false p q inner =
        let l : length (front plain (c ∷ cs)) ≡ suc (length (front plain cs)) = ap length (begins plain c cs (ap₂ (λ x y. not (x || y)) p q)) in
        plain_one c cs p q ∙ ap (after_these 1) (inner (omega (arith, h, l))) ∙ twice 1 k (suc k) (string_length false (drop k cs)) (omega arith)

-- after an escape, and one character more
pub two_past : (cs : List ℕ) → 1 ≤ length cs → 1 ≤ length (tail_at 1 cs) → get_or (tail_at 1 cs) 0 0 ≢ 0x22 → get_or (tail_at 1 cs) 0 0 ≢ 0x5c
    → string_length true cs ≡ after_these (length cs - length (tail_at 1 (tail_at 1 cs))) (string_length false (tail_at 1 (tail_at 1 cs)))
two_past cs some more p q =
    let m = tail_at 1 cs in
    let d = get_or m 0 0 in
    let l = tail_at 1 m in
    let a : length cs ≡ suc (length m) = ap length (parted cs some) in
    let b : length m ≡ suc (length l) = ap length (parted m more) in
    ap (string_length true) (parted cs some ∙ ap (λ r. get_or cs 0 0 ∷ r) (parted m more))
    ∙ escaped (get_or cs 0 0) (d ∷ l) ∙ one_more (string_length false (d ∷ l))
    ∙ ap (after_these 1) (plain_one d l (differs d 0x22 p) (differs d 0x5c q)) ∙ twice 1 1 (length cs - length l) (string_length false l) (omega (arith, a, b))

pub one_past : (cs : List ℕ) → 1 ≤ length cs → string_length true cs ≡ after_these (length cs - length (tail_at 1 cs)) (string_length false (tail_at 1 cs))
one_past cs some =
    let m = tail_at 1 cs in
    let a : length cs ≡ suc (length m) = ap length (parted cs some) in
    ap (string_length true) (parted cs some) ∙ escaped (get_or cs 0 0) m ∙ one_more (string_length false m)
    ∙ ap (λ n. after_these n (string_length false m)) {x = 1} {y = length cs - length m} (omega (arith, a))

pub none_past : (cs : List ℕ) → length cs < 1 → string_length true cs ≡ after_these (length cs - length cs) (string_length false cs)
none_past [] none = none_left true ∙ sym (ap (after_these 0) (none_left false))
none_past (c ∷ cs) none = absurd (omega (arith, none))

-- the steps of the loop over a string of t characters
pub escape_past : (t : ℕ) (rest later : List ℕ) → 1 ≤ length rest → get_or rest 0 0 ≡ 0x5c → length rest ≤ t → length later ≤ length (tail_at 1 rest)
    → string_length true (tail_at 1 rest) ≡ after_these (length (tail_at 1 rest) - length later) (string_length false later)
    → after_these (t - length rest) (string_length false rest) ≡ after_these (t - length later) (string_length false later)
escape_past t rest later some is inside short past =
    let m = tail_at 1 rest in
    let a : length rest ≡ suc (length m) = ap length (parted rest some) in
    let n = suc (length m - length later) in
    ap (λ x. after_these (t - length rest) (string_length false x)) (parted rest some ∙ ap (λ b. b ∷ m) is)
    ∙ ap (after_these (t - length rest)) (goes_on 0x5c m refl ∙ one_more (string_length true m)
    ∙ ap (after_these 1) past ∙ twice 1 (length m - length later) n (string_length false later) (omega arith))
    ∙ twice (t - length rest) n (t - length later) (string_length false later) (omega (arith, a, inside, short))

pub plain_past : (t k : ℕ) (rest : List ℕ) → 1 ≤ length rest → get_or rest 0 0 ≢ 0x22
    → get_or rest 0 0 ≢ 0x5c → length rest ≤ t → k ≤ length (front plain (tail_at 1 rest))
    → after_these (t - length rest) (string_length false rest)
    ≡ after_these (t - length (tail_at k (tail_at 1 rest))) (string_length false (tail_at k (tail_at 1 rest)))
plain_past t k rest some p q inside run =
    let m = tail_at 1 rest in
    let d = get_or rest 0 0 in
    let l = tail_at k m in
    let a : length rest ≡ suc (length m) = ap length (parted rest some) in
    let b : length l ≡ length m - k = ap length (tail_is k m) ∙ length-drop k m in
    ap (λ x. after_these (t - length rest) (string_length false x)) (parted rest some)
    ∙ ap (after_these (t - length rest)) (plain_one d m (differs d 0x22 p) (differs d 0x5c q)
    ∙ ap (after_these 1) (plain_run k m run ∙ ap (λ x. after_these k (string_length false x)) (sym (tail_is k m)))
    ∙ twice 1 k (suc k) (string_length false l) (omega arith))
    ∙ twice (t - length rest) (suc k) (t - length l) (string_length false l) (omega (arith, a, b, inside, run, front_short plain m))

pub ends : (t : ℕ) (rest : List ℕ) → 1 ≤ length rest → get_or rest 0 0 ≡ 0x22 → after_these t (string_length false rest) ≡ Some t
ends t rest some is =
    let m = tail_at 1 rest in
    ap (λ x. after_these t (string_length false x)) (parted rest some ∙ ap (λ b. b ∷ m) is) ∙ ap (after_these t) (is_over 0x22 m refl) ∙ ap Some (omega arith)

pub no_end : (t : ℕ) (rest : List ℕ) → length rest < 1 → after_these t (string_length false rest) ≡ None
no_end t [] none = ap (after_these t) (none_left false)
no_end t (c ∷ cs) none = absurd (omega (arith, none))
