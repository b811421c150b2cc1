-- Closes what reading hexadecimal digits leaves: the mantissa, and whether more is left, stand for all digits that were read.
use Rattle.std.proofs.Common.{◌≡◌, ◌∙◌, ℕ, zero, suc, ◌+◌, ◌*◌, ◌<◌, ◌≤◌, ◌||◌, List, [], ◌∷◌, ◌++◌, length}
use Rattle.std.proofs.Common.{take, get_or, Option, None, Some, refl, sym, ap, subst, arith, lt-ltb}
use Rattle.std.specs.Prelude.{nat_lt, ◌^◌}
use Rattle.std.proofs.lemmas.List.{take_more, take_all}
use native.Mathlib.Nat.{pow-suc, pow-zero}
use Rattle.wat_grammar.specs.Characters.{hexdigit}
use Rattle.wat_tokens.specs.Fractions.{value_after, count, Keeps}
use Rattle.wat_tokens.specs.declared.floats.Leading.{Leading}
use Rattle.wat_tokens.proofs.Forwards.{taken, skipped, counted, uncounted}

-- one more digit, which the mantissa takes
pub keeps_taken : (n digit : ℕ) (s r : Leading) → digit < 16 → s.mantissa < 2 ^ 59 → r.mantissa ≡ s.mantissa * 16 + digit
    → r.dropped ≡ s.dropped → r.is_more ≡ s.is_more → Keeps n s → Keeps (16 * n + digit) r
keeps_taken n digit s r h l m d is k =
    let none : s.dropped ≡ 0 = go s.dropped refl in
    let one : 16 ^ s.dropped ≡ 1 = ap (λ k. 16 ^ k) none ∙ pow-zero 16 in
    let same : 16 ^ r.dropped ≡ 1 = ap (λ k. 16 ^ k) d ∙ one in
    let zero_left : k.rest ≡ 0 = omega (arith, k.small, one) in
    record {
      rest = k.rest;
      total = omega (arith, k.total, ap (λ y. s.mantissa * y) one, ap (λ y. r.mantissa * y) same, m);
      small = omega (arith, zero_left, same);
      more = is ∙ k.more;
      long = λ some. absurd (omega (arith, none, d));
      fits = omega (arith, m);
    }
  where
    go : (j : ℕ) → s.dropped ≡ j → s.dropped ≡ 0
    go zero e = e
    go (suc j) e = absurd (omega (arith, k.long (omega (arith, e))))

-- one more digit, which is left
pub keeps_left : (n digit : ℕ) (s r : Leading) → digit < 16 → 2 ^ 59 ≤ s.mantissa
    → r.mantissa ≡ s.mantissa → r.dropped ≡ s.dropped + 1 → r.is_more ≡ (s.is_more || nat_lt 0 digit)
    → Keeps n s → Keeps (16 * n + digit) r
keeps_left n digit s r h l m d is k =
    let next : 16 ^ r.dropped ≡ 16 ^ s.dropped * 16 = ap (λ j. 16 ^ j) {x = r.dropped} {y = suc s.dropped} (omega (arith, d)) ∙ pow-suc 16 s.dropped in
    record {
      rest = 16 * k.rest + digit;
      total = omega (arith, k.total, ap (λ y. r.mantissa * y) next, ap (λ y. y * 16 ^ s.dropped) m);
      small = omega (arith, k.small, next);
      more = is ∙ ap (λ b. b || nat_lt 0 digit) k.more ∙ either k.rest digit;
      long = λ some. omega (arith, m);
      fits = omega (arith, m, k.fits);
    }
  where
    either : (a b : ℕ) → (nat_lt 0 a || nat_lt 0 b) ≡ nat_lt 0 (16 * a + b)
    either zero b = ap (nat_lt 0) {x = b} {y = 16 * zero + b} (omega arith)
    either (suc a) b = ap (λ x. x || nat_lt 0 b) (lt-ltb 0 (suc a) (omega arith)) ∙ sym (lt-ltb 0 (16 * suc a + b) (omega arith))

-- ---- a text

value_append : (f : ℕ → Option ℕ) (radix n : ℕ) (xs ys : List ℕ) → value_after f radix n (xs ++ ys) ≡ value_after f radix (value_after f radix n xs) ys
unfolding value_after
value_append f radix n [] ys = refl
value_append f radix n (x ∷ xs) ys = go (f x) (λ m. value_append f radix m xs ys)
  where
    go : (o : Option ℕ) → ((m : ℕ) → value_after f radix m (xs ++ ys) ≡ value_after f radix (value_after f radix m xs) ys)
        → elim o as (λ o. ℕ) [ Some d ↦ value_after f radix (radix * n + d) (xs ++ ys) | None ↦ value_after f radix n (xs ++ ys) ]
        ≡ value_after f radix (elim o as (λ o. ℕ) [ Some d ↦ value_after f radix (radix * n + d) xs | None ↦ value_after f radix n xs ]) ys
    go None more = more n
    go (Some d) more = more (radix * n + d)

count_append : (f : ℕ → Option ℕ) (xs ys : List ℕ) → count f (xs ++ ys) ≡ count f xs + count f ys
unfolding count
count_append f [] ys = omega arith
count_append f (x ∷ xs) ys = go (f x) (count_append f xs ys)
  where
    go : (o : Option ℕ) → count f (xs ++ ys) ≡ count f xs + count f ys
        → elim o as (λ o. ℕ) [ Some d ↦ suc (count f (xs ++ ys)) | None ↦ count f (xs ++ ys) ]
        ≡ elim o as (λ o. ℕ) [ Some d ↦ suc (count f xs) | None ↦ count f xs ] + count f ys
    go None more = more
    go (Some d) more = omega (arith, more)

-- how far a text is read
pub record Reading (start leading : Leading) (i : ℕ) (text : List ℕ) : Type 0 where
  pub keeps : (n : ℕ) → Keeps n start → Keeps (value_after hexdigit 16 n (take i text)) leading
  pub many : leading.count ≡ start.count + count hexdigit (take i text)
  pub most : leading.count ≤ start.count + i
  pub dropped : leading.dropped ≤ leading.count

pub begun : (start : Leading) (text : List ℕ) → start.dropped ≤ start.count → Reading start start 0 text
unfolding value_after count
begun start text h = record { keeps = λ n k. k; many = omega arith; most = omega arith; dropped = h }

value_on : (n i : ℕ) (text : List ℕ) (d : ℕ) → i < length text → hexdigit (get_or text i 0) ≡ Some d
    → value_after hexdigit 16 n (take (i + 1) text) ≡ 16 * value_after hexdigit 16 n (take i text) + d
unfolding value_after
value_on n i text d h is = ap (value_after hexdigit 16 n) (take_more text i 0 h) ∙ value_append hexdigit 16 n (take i text) (get_or text i 0 ∷ [])
    ∙ taken hexdigit 16 (value_after hexdigit 16 n (take i text)) (get_or text i 0) d [] is

value_off : (n i : ℕ) (text : List ℕ) → i < length text → hexdigit (get_or text i 0) ≡ None
    → value_after hexdigit 16 n (take (i + 1) text) ≡ value_after hexdigit 16 n (take i text)
unfolding value_after
value_off n i text h is = ap (value_after hexdigit 16 n) (take_more text i 0 h) ∙ value_append hexdigit 16 n (take i text) (get_or text i 0 ∷ [])
    ∙ skipped hexdigit 16 (value_after hexdigit 16 n (take i text)) (get_or text i 0) [] is

count_none : count hexdigit [] ≡ 0
unfolding count
count_none = refl

count_on : (i : ℕ) (text : List ℕ) (d : ℕ) → i < length text → hexdigit (get_or text i 0) ≡ Some d
    → count hexdigit (take (i + 1) text) ≡ count hexdigit (take i text) + 1
count_on i text d h is = ap (count hexdigit) (take_more text i 0 h) ∙ count_append hexdigit (take i text) (get_or text i 0 ∷ [])
    ∙ ap (λ k. count hexdigit (take i text) + k) (counted hexdigit (get_or text i 0) d [] is ∙ ap suc count_none)

count_off : (i : ℕ) (text : List ℕ) → i < length text → hexdigit (get_or text i 0) ≡ None → count hexdigit (take (i + 1) text) ≡ count hexdigit (take i text)
count_off i text h is = ap (count hexdigit) (take_more text i 0 h) ∙ count_append hexdigit (take i text) (get_or text i 0 ∷ [])
    ∙ omega (arith, uncounted hexdigit (get_or text i 0) [] is ∙ count_none)

pub digit_read : (start leading next : Leading) (i d : ℕ) (text : List ℕ) → i < length text → hexdigit (get_or text i 0) ≡ Some d
    → ((n : ℕ) → Keeps n leading → Keeps (16 * n + d) next) → next.count ≡ leading.count + 1
    → next.dropped ≤ next.count → Reading start leading i text → Reading start next (i + 1) text
digit_read start leading next i d text h is put many dropped m = record {
  keeps = λ n k. subst (λ v. Keeps v next) (sym (value_on n i text d h is)) (put (value_after hexdigit 16 n (take i text)) (m.keeps n k));
  many = omega (arith, many, m.many, count_on i text d h is);
  most = omega (arith, many, m.most);
  dropped = dropped;
}

pub other_read : (start leading : Leading) (i : ℕ) (text : List ℕ) → i < length text
    → hexdigit (get_or text i 0) ≡ None → Reading start leading i text → Reading start leading (i + 1) text
other_read start leading i text h is m = record {
  keeps = λ n k. subst (λ v. Keeps v leading) (sym (value_off n i text h is)) (m.keeps n k);
  many = omega (arith, m.many, count_off i text h is);
  most = omega (arith, m.most);
  dropped = m.dropped;
}

pub all_keeps : (start leading : Leading) (i : ℕ) (text : List ℕ) → length text ≤ i
    → Reading start leading i text → (n : ℕ) → Keeps n start → Keeps (value_after hexdigit 16 n text) leading
all_keeps start leading i text h m n k = subst (λ t. Keeps (value_after hexdigit 16 n t) leading) (take_all i text h) (m.keeps n k)

pub all_many : (start leading : Leading) (i : ℕ) (text : List ℕ) → length text ≤ i
    → Reading start leading i text → leading.count ≡ start.count + count hexdigit text
all_many start leading i text h m = subst (λ t. leading.count ≡ start.count + count hexdigit t) (take_all i text h) m.many
