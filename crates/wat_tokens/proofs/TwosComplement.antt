-- Closes what is left of integers with a sign: one number of 64 bits and one comparison are all cases of the rules for iN.
use Rattle.std.proofs.Common.{◌≡◌, ◌∙◌, ℕ, zero, suc, ◌+◌, ◌-◌, ◌*◌, ◌<◌, ◌==◌, Bool, true, false, List}
use Rattle.std.proofs.Common.{[], ◌∷◌, Option, None, Some, Ok, Err, eqb-true, refl, sym, ap, subst, arith}
use Rattle.std.specs.Prelude.{◌^◌, nat_lt, nat_le, if◌then◌else◌, ℤ, pos, negsuc, neg_ℤ, option_map, codes, int_lt, int_le, ◌&&◌}
use Rattle.std.specs.Int.{Width, w8, w16, w32, w64, cast_signed, cast_unsigned}
use mir.Val.{bits}
use Rattle.std.proofs.lemmas.Int.{of_z-to_z}
use Rattle.wat_grammar.specs.Parts.{◌>>=◌, after}
use Rattle.wat_grammar.specs.Characters.{digit}
use Rattle.wat_grammar.specs.Integers.{natural, uN, sign, signed, with_sign, is_signed, bits_of, signed_of, integer}
use Rattle.wat_tokens.specs.Numbers.{answer, bits_in, wrapped}
use Rattle.wat_tokens.specs.declared.faults.TextFault.{TextFault}
use Rattle.wat_tokens.proofs.Backwards.{none_first}

-- no number begins with a sign
pub no_minus : (cs : List ℕ) → natural (0x2d ∷ cs) ≡ None
no_minus cs = none_first digit 10 0x2d cs refl refl

pub no_plus : (cs : List ℕ) → natural (0x2b ∷ cs) ≡ None
no_plus cs = none_first digit 10 0x2b cs refl refl

-- what the three kinds of text give: one without a sign, one with, and one with a '+' before a number that only uN has
abbrev unsigned_in : ℕ → Option ℕ → Option ℕ
unsigned_in N o = o >>= λ n. if nat_lt n (2 ^ N) then Some n else None

abbrev signed_in : ℕ → Bool → Option ℕ → Option ℕ
signed_in N is_negative o = option_map (bits_of N) ((o >>= λ n. Some (with_sign is_negative n)) >>= λ i. if is_signed N i then Some i else None)

abbrev first_some : Option ℕ → Option ℕ → Option ℕ → Option ℕ
first_some o p q = elim (elim o as (λ x. Option ℕ) [ Some n ↦ Some n | None ↦ p ]) as (λ x. Option ℕ) [ Some n ↦ Some n | None ↦ q ]

second_some : (p : Option ℕ) → first_some None p None ≡ p
second_some None = refl
second_some (Some n) = refl

-- the range of an sN, by half its numbers
abbrev is_within : ℕ → ℤ → Bool
is_within half i = int_le (neg_ℤ (pos half)) i && int_lt i (pos half)

and_true : (b : Bool) → (b && true) ≡ b
and_true true = refl
and_true false = refl

mapped : (N : ℕ) (i : ℤ) (b : Bool) → option_map (bits_of N) (if b then Some i else None) ≡ (if b then Some (bits_of N i) else None)
mapped N i true = refl
mapped N i false = refl

positive : (N h n : ℕ) → 2 ^ (N - 1) ≡ suc h → signed_in N false (Some n) ≡ (if nat_lt n (suc h) then Some n else None)
positive N h n half = mapped N (pos n) (is_within (2 ^ (N - 1)) (pos n)) ∙ ap (λ k. if is_within k (pos n) then Some n else None) half

le_suc : (m h : ℕ) → nat_le m h ≡ nat_le (suc m) (suc h)
le_suc m h = grind arith

zero_cases : (x y : Bool) → x ≡ true → y ≡ true → (if true && x then Some zero else None) ≡ (if y then Some zero else None)
zero_cases true true e f = refl
zero_cases true false e f = absurd (cc f)
zero_cases false y e f = absurd (cc e)

not_zero : (m : ℕ) → suc m == 0 ≡ false
not_zero m = grind arith

negative : (N h n : ℕ) → 2 ^ (N - 1) ≡ suc h → 2 ^ N ≡ 2 * suc h → signed_in N true (Some n) ≡ bits_in (suc h) true n
negative N h zero half all = mapped N (pos 0) (is_within (2 ^ (N - 1)) (pos 0)) ∙ ap (λ k. if is_within k (pos 0) then Some zero else None) half
    ∙ zero_cases (nat_lt 0 (suc h)) (nat_le 0 (suc h)) (grind arith) (grind arith)
negative N h (suc m) half all = mapped N (negsuc m) (is_within (2 ^ (N - 1)) (negsuc m))
    ∙ ap (λ k. if is_within k (negsuc m) then Some (2 ^ N - (m + 1)) else None) half
    ∙ ap (λ b. if b then Some (2 ^ N - (m + 1)) else None) (and_true (nat_le m h) ∙ le_suc m h)
    ∙ ap (λ k. if nat_le (suc m) (suc h) then Some k else None) less
    ∙ ap (λ b. if nat_le (suc m) (suc h) then Some (if b then zero else 2 * suc h - suc m) else None) (sym (not_zero m))
  where
    less : 2 ^ N - (m + 1) ≡ 2 * suc h - suc m
    less = omega arith

plus_cases : (n : ℕ) (x y : Bool) → (x ≡ true → y ≡ true)
    → first_some None (if x then Some n else None) (if y then Some n else None) ≡ (if y then Some n else None)
plus_cases n true true h = refl
plus_cases n true false h = absurd (cc (h refl))
plus_cases n false true h = refl
plus_cases n false false h = refl

plain_cases : (n : ℕ) (x y : Bool) → (x ≡ true → y ≡ true)
    → first_some (if y then Some n else None) (if x then Some n else None) None ≡ (if y then Some n else None)
plain_cases n true true h = refl
plain_cases n true false h = absurd (cc (h refl))
plain_cases n false true h = refl
plain_cases n false false h = refl

wider : (n h : ℕ) → nat_lt n (suc h) ≡ true → nat_lt n (2 * suc h) ≡ true
wider n h is = grind arith

minus_at : (N h : ℕ) → 2 ^ (N - 1) ≡ suc h → 2 ^ N ≡ 2 * suc h → (o p : Option ℕ) → o ≡ None
    → first_some (unsigned_in N o) (signed_in N true p) None ≡ (p >>= λ n. bits_in (suc h) true n)
minus_at N h half all o None is = ap (λ o. first_some (unsigned_in N o) None None) is
minus_at N h half all o (Some n) is = ap (λ o. first_some (unsigned_in N o) (signed_in N true (Some n)) None) is
    ∙ second_some (signed_in N true (Some n)) ∙ negative N h n half all

plus_at : (N h : ℕ) → 2 ^ (N - 1) ≡ suc h → 2 ^ N ≡ 2 * suc h → (o p : Option ℕ) → o ≡ None
    → first_some (unsigned_in N o) (signed_in N false p) (unsigned_in N p) ≡ (p >>= λ n. bits_in (suc h) false n)
plus_at N h half all o None is = ap (λ o. first_some (unsigned_in N o) None None) is
plus_at N h half all o (Some n) is = ap (λ o. first_some (unsigned_in N o) (signed_in N false (Some n)) (unsigned_in N (Some n))) is
    ∙ ap (λ x. first_some None x (unsigned_in N (Some n))) (positive N h n half)
    ∙ ap (λ k. first_some None (if nat_lt n (suc h) then Some n else None) (if nat_lt n k then Some n else None)) all
    ∙ plus_cases n (nat_lt n (suc h)) (nat_lt n (2 * suc h)) (wider n h)

plain_at : (N h : ℕ) → 2 ^ (N - 1) ≡ suc h → 2 ^ N ≡ 2 * suc h → (o : Option ℕ)
    → first_some (unsigned_in N o) (signed_in N false o) None ≡ (o >>= λ n. bits_in (suc h) false n)
plain_at N h half all None = refl
plain_at N h half all (Some n) = ap (λ x. first_some (unsigned_in N (Some n)) x None) (positive N h n half)
    ∙ ap (λ k. first_some (if nat_lt n k then Some n else None) (if nat_lt n (suc h) then Some n else None) None) all
    ∙ plain_cases n (nat_lt n (suc h)) (nat_lt n (2 * suc h)) (wider n h)

-- what the code computes of a text, as a number
abbrev within : ℕ → List ℕ → Option ℕ
within half text = natural (sign text).1 >>= λ n. bits_in half (sign text).0 n

-- an integer, by its sign and by what is after a '+'
abbrev from_sign : ℕ → List ℕ → Bool × List ℕ → Option (List ℕ) → Option ℕ
from_sign N text s a = first_some (unsigned_in N (natural text)) (signed_in N s.0 (natural s.1)) (a >>= λ digits. uN N digits)

pub no_sign : (c : ℕ) (cs : List ℕ) → c == 0x2d ≡ false → c == 0x2b ≡ false → sign (c ∷ cs) ≡ (false, c ∷ cs)
no_sign c cs e f = ap (λ b. if b then (true, cs) else (if c == 0x2b then (false, cs) else (false, c ∷ cs))) e
    ∙ ap (λ b. if b then (false, cs) else (false, c ∷ cs)) f

not_after : (c : ℕ) (cs : List ℕ) → c == 0x2b ≡ false → after (codes "+") (c ∷ cs) ≡ None
not_after c cs f = ap (λ b. elim b as (λ b. Option (List ℕ)) [ true ↦ Some cs | false ↦ None ]) f

integer_is : (N h : ℕ) → 2 ^ (N - 1) ≡ suc h → 2 ^ N ≡ 2 * suc h → (text : List ℕ) → integer N text ≡ within (suc h) text
integer_is N h half all [] = plain_at N h half all (natural [])
integer_is N h half all (c ∷ cs) = go (c == 0x2d) refl (c == 0x2b) refl
  where
    go : (x : Bool) → c == 0x2d ≡ x → (y : Bool) → c == 0x2b ≡ y → integer N (c ∷ cs) ≡ within (suc h) (c ∷ cs)
    go true e y f = subst (λ a. integer N (a ∷ cs) ≡ within (suc h) (a ∷ cs)) (sym (eqb-true c 0x2d e))
        (minus_at N h half all (natural (0x2d ∷ cs)) (natural cs) (no_minus cs))
    go false e true f = subst (λ a. integer N (a ∷ cs) ≡ within (suc h) (a ∷ cs)) (sym (eqb-true c 0x2b f))
        (plus_at N h half all (natural (0x2b ∷ cs)) (natural cs) (no_plus cs))
    go false e false f = ap (λ s. from_sign N (c ∷ cs) s (after (codes "+") (c ∷ cs))) (no_sign c cs e f)
        ∙ ap (from_sign N (c ∷ cs) (false, c ∷ cs)) (not_after c cs f)
        ∙ plain_at N h half all (natural (c ∷ cs)) ∙ sym (ap (λ s. natural s.1 >>= λ n. bits_in (suc h) s.0 n) (no_sign c cs e f))

same_answer : {T : Type 0} (o : Option ℕ) (b : Bool) (v : Option T) → answer (o >>= λ n. Some (with_sign b n)) v ≡ answer o v
same_answer None b v = refl
same_answer (Some n) b None = refl
same_answer (Some n) b (Some x) = refl

as_integer : (N h : ℕ) → 2 ^ (N - 1) ≡ suc h → 2 ^ N ≡ 2 * suc h → (text : List ℕ)
    → wrapped (suc h) (sign text).0 (natural (sign text).1) ≡ answer (signed text) (integer N text)
as_integer N h half all text = ap (answer (natural (sign text).1)) (sym (integer_is N h half all text))
    ∙ sym (same_answer (natural (sign text).1) (sign text).0 (integer N text))

ok_at : (F : Option ℤ) (v : Option ℕ) (g : ℕ → ℤ) (b : ℕ) (z : ℤ) → Ok b ≡ answer F v → z ≡ g b → Ok z ≡ answer F (option_map g v)
ok_at None v g b z e is = absurd cc
ok_at (Some i) None g b z e is = absurd cc
ok_at (Some i) (Some n) g b z e is = let same : b ≡ n = cc in ap Ok (is ∙ ap g same)

err_at : (F : Option ℤ) (v : Option ℕ) (g : ℕ → ℤ) (e : TextFault) → Err e ≡ answer F v → Err e ≡ answer F (option_map g v)
err_at None v g e is = cc
err_at (Some i) None g e is = cc
err_at (Some i) (Some n) g e is = absurd cc

-- the number that the code gives of bits, and the fault
pub ok_integer : (N h : ℕ) → 2 ^ (N - 1) ≡ suc h → 2 ^ N ≡ 2 * suc h → (text : List ℕ) (b : ℕ) (z : ℤ)
    → Ok b ≡ wrapped (suc h) (sign text).0 (natural (sign text).1) → z ≡ signed_of N b
    → Ok z ≡ answer (signed text) (option_map (signed_of N) (integer N text))
ok_integer N h half all text b z e is = ok_at (signed text) (integer N text) (signed_of N) b z (e ∙ as_integer N h half all text) is

pub err_integer : (N h : ℕ) → 2 ^ (N - 1) ≡ suc h → 2 ^ N ≡ 2 * suc h → (text : List ℕ) (e : TextFault)
    → Err e ≡ wrapped (suc h) (sign text).0 (natural (sign text).1)
    → Err e ≡ answer (signed text) (option_map (signed_of N) (integer N text))
err_integer N h half all text e is = err_at (signed text) (integer N text) (signed_of N) e (is ∙ as_integer N h half all text)

-- The signed interpretation of the kit is that of the rules; the result of a cast is read through its bits once more.
read_back : (w : Width) (b : ℕ) (r : ℤ) → b < 2 ^ bits w → r ≡ cast_signed w b → cast_signed w (cast_unsigned w r) ≡ cast_signed w b
read_back w b r h is = ap (λ r. cast_signed w (cast_unsigned w r)) is ∙ ap (cast_signed w) (of_z-to_z w b h)

same8 : (b : ℕ) → b < 0x100 → cast_signed w8 b ≡ signed_of 8 b
same8 b h = grind arith

pub interpreted8 : (b : ℕ) (r : ℤ) → b < 0x100 → r ≡ cast_signed w8 b → cast_signed w8 (cast_unsigned w8 r) ≡ signed_of 8 b
interpreted8 b r h is = read_back w8 b r h is ∙ same8 b h

same16 : (b : ℕ) → b < 0x1_0000 → cast_signed w16 b ≡ signed_of 16 b
same16 b h = grind arith

pub interpreted16 : (b : ℕ) (r : ℤ) → b < 0x1_0000 → r ≡ cast_signed w16 b → cast_signed w16 (cast_unsigned w16 r) ≡ signed_of 16 b
interpreted16 b r h is = read_back w16 b r h is ∙ same16 b h

same32 : (b : ℕ) → b < 0x1_0000_0000 → cast_signed w32 b ≡ signed_of 32 b
same32 b h = grind arith

pub interpreted32 : (b : ℕ) (r : ℤ) → b < 0x1_0000_0000 → r ≡ cast_signed w32 b → cast_signed w32 (cast_unsigned w32 r) ≡ signed_of 32 b
interpreted32 b r h is = read_back w32 b r h is ∙ same32 b h

same64 : (b : ℕ) → b < 0x1_0000_0000_0000_0000 → cast_signed w64 b ≡ signed_of 64 b
same64 b h = grind arith

pub interpreted64 : (b : ℕ) (r : ℤ) → b < 0x1_0000_0000_0000_0000 → r ≡ cast_signed w64 b → cast_signed w64 (cast_unsigned w64 r) ≡ signed_of 64 b
interpreted64 b r h is = read_back w64 b r h is ∙ same64 b h
