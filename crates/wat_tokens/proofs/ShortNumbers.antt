-- Closes what is left of short numbers, which are digits alone: they are read from the left, and have neither a sign nor `0x`.
use Rattle.std.proofs.Common.{◌≡◌, ◌∙◌, ℕ, ◌+◌, ◌-◌, ◌*◌, ◌<◌, ◌≤◌, ◌==◌, Bool, true, false, List, [], ◌∷◌, length, take, get_or, ne_eqb}
use Rattle.std.proofs.Common.{eqb-true, Option, None, Some, Result, Ok, refl, sym, ap, subst, arith}
use Rattle.std.specs.Prelude.{◌^◌, nat_lt, nat_le, if◌then◌else◌, reverse}
use Rattle.std.specs.Option.{ok_or}
use Rattle.std.proofs.lemmas.Bool.{lt-ltb, le-leb, and_from}
use Rattle.std.proofs.lemmas.List.{take_all}
use Rattle.wat_grammar.specs.Parts.{◌>>=◌}
use Rattle.wat_grammar.specs.Characters.{digit}
use Rattle.wat_grammar.specs.Integers.{num, hexnum, natural, uN, sign}
use Rattle.wat_tokens.specs.Numbers.{answer, bits_in, wrapped}
use Rattle.wat_tokens.specs.Fractions.{is_digits_after, value_after}
use Rattle.wat_tokens.specs.declared.faults.TextFault.{TextFault}
use Rattle.wat_tokens.specs.declared.faults.TextFault.TheVariants as fault
use Rattle.wat_tokens.proofs.Backwards.{Read, nothing, more_digit, ended, turned}
use Rattle.wat_tokens.proofs.Forwards.{when, number_is}
use Rattle.wat_tokens.proofs.TwosComplement.{no_minus, no_plus, no_sign}

digit_is : (c : ℕ) → 0x30 ≤ c → c ≤ 0x39 → digit c ≡ Some (c - 0x30)
digit_is c low high = ap (λ b. if b then Some (c - 0x30) else None) (and_from (nat_le 0x30 c) (nat_le c 0x39) (le-leb 0x30 c low) (le-leb c 0x39 high))

-- How far digits are read: `any` says whether there is one.
pub record Digits (value : ℕ) (done : List ℕ) : Type 0 where
  pub any : Bool
  pub read : Read digit 10 any value (reverse done)
  pub empty : any ≡ false → done ≡ []
  pub fits : value < 2 ^ 64

pub no_digit : Digits 0 []
no_digit = record { any = false; read = nothing; empty = λ none. refl; fits = omega arith }

pub digit_on : (i value next : ℕ) (text : List ℕ) → i < length text → 0x30 ≤ get_or text i 0 → get_or text i 0 ≤ 0x39
    → next ≡ value * 10 + (get_or text i 0 - 0x30) → next < 2 ^ 64
    → Digits value (take i text) → Digits next (take (i + 1) text)
digit_on i value next text h low high is small m =
    let same : 10 * value + (get_or text i 0 - 0x30) ≡ next = omega (arith, is) in
    let apart : get_or text i 0 == 0x5f ≡ false = ne_eqb (get_or text i 0) 0x5f (λ e. omega (arith, e, high)) in
    record {
      any = true;
      read = rw (turned i text h) (subst (λ n. Read digit 10 true n (get_or text i 0 ∷ reverse (take i text))) same
          (more_digit digit 10 (get_or text i 0) (get_or text i 0 - 0x30) apart (digit_is (get_or text i 0) low high) m.read));
      empty = λ none. absurd cc;
      fits = small;
    }

-- digits have no `0x`
no_digits : (ds : List ℕ) → is_digits_after digit false (0x30 ∷ 0x78 ∷ ds) ≡ false
unfolding is_digits_after
no_digits ds = refl

no_prefix : (ds : List ℕ) → num (0x30 ∷ 0x78 ∷ ds) ≡ None
no_prefix ds = number_is digit 10 refl (0x30 ∷ 0x78 ∷ ds) ∙ ap (λ b. when b (value_after digit 10 0 (0x30 ∷ 0x78 ∷ ds))) (no_digits ds)

decimal_is : (text : List ℕ) (n : ℕ) → num text ≡ Some n → natural text ≡ Some n
decimal_is [] n is = is
decimal_is (c ∷ []) n is = go (c == 0x30)
  where
    go : (x : Bool) → elim (elim x as (λ x. Option (List ℕ)) [ true ↦ None | false ↦ None ]) as (λ o. Option ℕ)
        [ Some digits ↦ hexnum digits | None ↦ num (c ∷ []) ] ≡ Some n
    go true = is
    go false = is
decimal_is (c ∷ d ∷ ds) n is = go (c == 0x30) refl (d == 0x78) refl
  where
    go : (x : Bool) → c == 0x30 ≡ x → (y : Bool) → d == 0x78 ≡ y
        → elim (elim x as (λ x. Option (List ℕ)) [ true ↦ elim y as (λ y. Option (List ℕ)) [ true ↦ Some ds | false ↦ None ] | false ↦ None ])
        as (λ o. Option ℕ) [ Some digits ↦ hexnum digits | None ↦ num (c ∷ d ∷ ds) ] ≡ Some n
    go true e true f = absurd (cc (is, ap (λ a. num (a ∷ d ∷ ds)) (eqb-true c 0x30 e) ∙ ap (λ a. num (0x30 ∷ a ∷ ds)) (eqb-true d 0x78 f) ∙ no_prefix ds))
    go true e false f = is
    go false e y f = is

pub digits_end : (i value : ℕ) (text : List ℕ) → length text ≤ i → length text == 0 ≡ false → Digits value (take i text) → natural text ≡ Some value
digits_end i value text all some m = decimal_is text value (go m.any refl)
  where
    whole : Read digit 10 m.any value (reverse text)
    whole = subst (λ t. Read digit 10 m.any value (reverse t)) (take_all i text all) m.read

    go : (x : Bool) → m.any ≡ x → num text ≡ Some value
    go true is = ended digit 10 (subst (λ b. Read digit 10 b value (reverse text)) is whole)
    go false is = let none : length text == 0 ≡ true = ap (λ t. length t == 0) (sym (take_all i text all) ∙ m.empty is) in absurd (cc (some, none))

-- a short number of 64 bits
pub natural_short : (text : List ℕ) (n : ℕ) → natural text ≡ Some n → n < 2 ^ 64 → Ok n ≡ answer (natural text) (uN 64 text)
natural_short text n is small =
    sym (ap (λ o. answer o (o >>= λ m. if nat_lt m (2 ^ 64) then Some m else None)) is
    ∙ ap (λ b. answer (Some n) (if b then Some n else None)) (lt-ltb n (2 ^ 64) small))

-- a short number has no sign
signless : (text : List ℕ) (n : ℕ) → natural text ≡ Some n → sign text ≡ (false, text)
signless [] n is = refl
signless (c ∷ cs) n is = go (c == 0x2d) refl (c == 0x2b) refl
  where
    go : (x : Bool) → c == 0x2d ≡ x → (y : Bool) → c == 0x2b ≡ y → sign (c ∷ cs) ≡ (false, c ∷ cs)
    go true e y f = absurd (cc (is, ap (λ a. natural (a ∷ cs)) (eqb-true c 0x2d e) ∙ no_minus cs))
    go false e true f = absurd (cc (is, ap (λ a. natural (a ∷ cs)) (eqb-true c 0x2b f) ∙ no_plus cs))
    go false e false f = no_sign c cs e f

pub wrapped_short : (half n : ℕ) (text : List ℕ) (bits : Option ℕ) (r : Result ℕ TextFault) → natural text ≡ Some n → bits ≡ bits_in half false n
    → r ≡ ok_or bits fault.Range
    → r ≡ wrapped half (sign text).0 (natural (sign text).1)
wrapped_short half n text bits r is of_n was =
    was ∙ ap (λ b. ok_or b fault.Range) of_n ∙ go (bits_in half false n)
    ∙ sym (ap (λ (s : Bool × List ℕ). wrapped half s.0 (natural s.1)) (signless text n is) ∙ ap (wrapped half false) is)
  where
    go : (b : Option ℕ) → ok_or b fault.Range ≡ answer (Some n) b
    go None = refl
    go (Some x) = refl
