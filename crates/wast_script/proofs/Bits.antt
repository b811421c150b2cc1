-- The bits of an integer with or without a sign: those of the value that the code has of it are those of the rule. A number without a
-- value has none by the rule.
use Rattle.std.proofs.Common.{◌≡◌, ◌∙◌, ℕ, suc, ◌-◌, ◌*◌, ◌<◌, Bool, true, false, List, Option, None, Some, Ok, Err, refl, sym, ap, subst, arith}
use Rattle.std.specs.Prelude.{◌^◌, nat_lt, ◌&&◌, if◌then◌else◌, ℤ, pos, negsuc, neg_ℤ, int_le, int_lt, option_map, codes}
use Rattle.std.specs.Int.{Width, w8, w16, w32, w64, cast_signed, cast_unsigned}
use Rattle.std.specs.Float.{Format}
use Rattle.std.proofs.lemmas.Int.{of_z-to_z}
use Rattle.std.proofs.lemmas.Bool.{ltb-true}
use Rattle.wat_grammar.specs.Parts.{◌>>=◌, after}
use Rattle.wat_grammar.specs.Integers.{natural, uN, sign, signed, with_sign, is_signed, bits_of, signed_of, integer}
use Rattle.wat_grammar.specs.Floats.{magnitude, fN}
use Rattle.wat_tokens.specs.Numbers.{answer}
use Rattle.wat_tokens.specs.Fractions.{UnlessMemory, MayLack}
use Rattle.wat_tokens.specs.declared.faults.TextFault.{TextFault}
use Rattle.wat_tokens.specs.declared.faults.TextFault.TheVariants as fault
use Rattle.wat_text.specs.Readers.{IsRefusal as IsTextRefusal}
use Rattle.wat_text.proofs.Signs.{signed_is, signed_not, float_not as text_float_not}
use Rattle.wast_script.specs.declared.values.Number.TheVariants as num
use Rattle.wast_script.specs.Readers.{IsRefusal}

-- an unsigned integer, a signed one, and either of them, by their numbers of any size (as in wat_text)
abbrev unsigned_in : ℕ → Option ℕ → Option ℕ
unsigned_in N o = o >>= λ n. if nat_lt n (2 ^ N) then Some n else None

abbrev signed_in : ℕ → Bool → Option ℕ → Option ℕ
signed_in N is_negative o = option_map (bits_of N) ((o >>= λ n. Some (with_sign is_negative n)) >>= λ i. if is_signed N i then Some i else None)

abbrev first_some : Option ℕ → Option ℕ → Option ℕ → Option ℕ
first_some o p q = elim (elim o as (λ x. Option ℕ) [ Some n ↦ Some n | None ↦ p ]) as (λ x. Option ℕ) [ Some n ↦ Some n | None ↦ q ]

-- the range of an sN, by half its numbers
abbrev is_within : ℕ → ℤ → Bool
is_within half i = int_le (neg_ℤ (pos half)) i && int_lt i (pos half)

-- an integer has so many bits at most
unsigned_few : (N : ℕ) (o : Option ℕ) (n : ℕ) → unsigned_in N o ≡ Some n → n < 2 ^ N
unsigned_few N None n e = absurd cc
unsigned_few N (Some m) n e = go (nat_lt m (2 ^ N)) refl e
  where
    go : (b : Bool) → nat_lt m (2 ^ N) ≡ b → (if b then Some m else None) ≡ Some n → n < 2 ^ N
    go true is e = let same : m ≡ n = cc in subst (λ k. k < 2 ^ N) same (ltb-true m (2 ^ N) is)
    go false is e = absurd cc

after_few : (N : ℕ) (a : Option (List ℕ)) (n : ℕ) → (a >>= λ digits. uN N digits) ≡ Some n → n < 2 ^ N
after_few N None n e = absurd cc
after_few N (Some digits) n e = unsigned_few N (natural digits) n e

bits_few : (N h : ℕ) → 2 ^ (N - 1) ≡ suc h → 2 ^ N ≡ 2 * suc h → (i : ℤ) → is_signed N i ≡ true → bits_of N i < 2 ^ N
bits_few N h half all (pos n) e =
    let below : nat_lt n (suc h) ≡ true = subst (λ k. is_within k (pos n) ≡ true) half e in
    let few : n < suc h = ltb-true n (suc h) below in
    omega (arith, few, all)
bits_few N h half all (negsuc n) e = omega (arith, all)

signed_few : (N h : ℕ) → 2 ^ (N - 1) ≡ suc h → 2 ^ N ≡ 2 * suc h → (is_negative : Bool) (o : Option ℕ) (n : ℕ) → signed_in N is_negative o ≡ Some n → n < 2 ^ N
signed_few N h half all s None n e = absurd cc
signed_few N h half all s (Some m) n e = go (is_signed N (with_sign s m)) refl e
  where
    go : (b : Bool) → is_signed N (with_sign s m) ≡ b → option_map (bits_of N) (if b then Some (with_sign s m) else None) ≡ Some n → n < 2 ^ N
    go true is e = let same : bits_of N (with_sign s m) ≡ n = cc in subst (λ k. k < 2 ^ N) same (bits_few N h half all (with_sign s m) is)
    go false is e = absurd cc

first_few : (M : ℕ) (o p q : Option ℕ) (n : ℕ) → ((k : ℕ) → o ≡ Some k → k < M) → ((k : ℕ) → p ≡ Some k → k < M) → ((k : ℕ) → q ≡ Some k → k < M)
    → first_some o p q ≡ Some n → n < M
first_few M (Some x) p q n f g h e = f n e
first_few M None (Some x) q n f g h e = g n e
first_few M None None (Some x) n f g h e = h n e
first_few M None None None n f g h e = absurd cc

few : (N h : ℕ) → 2 ^ (N - 1) ≡ suc h → 2 ^ N ≡ 2 * suc h → (text : List ℕ) (n : ℕ) → integer N text ≡ Some n → n < 2 ^ N
few N h half all text n e =
    first_few (2 ^ N) (unsigned_in N (natural text)) (signed_in N (sign text).0 (natural (sign text).1)) (after (codes "+") text >>= λ digits. uN N digits) n
    (unsigned_few N (natural text)) (signed_few N h half all (sign text).0 (natural (sign text).1)) (after_few N (after (codes "+") text)) e

-- the bits of a value, by those that the rule has
bits_at : (w : Width) (N : ℕ) (o : Option ℕ) (z : ℤ) → ((n : ℕ) → o ≡ Some n → cast_unsigned w (signed_of N n) ≡ n) → option_map (signed_of N) o ≡ Some z
    → option_map num.Bits o ≡ Some (num.Bits (cast_unsigned w z))
bits_at w N None z back e = absurd cc
bits_at w N (Some n) z back e = let same : signed_of N n ≡ z = cc in ap (λ k. Some (num.Bits k)) (sym (back n refl) ∙ ap (cast_unsigned w) same)

back8 : (b : ℕ) → b < 0x100 → cast_signed w8 b ≡ signed_of 8 b
back8 b h = grind arith

back16 : (b : ℕ) → b < 0x1_0000 → cast_signed w16 b ≡ signed_of 16 b
back16 b h = grind arith

back32 : (b : ℕ) → b < 0x1_0000_0000 → cast_signed w32 b ≡ signed_of 32 b
back32 b h = grind arith

back64 : (b : ℕ) → b < 0x1_0000_0000_0000_0000 → cast_signed w64 b ≡ signed_of 64 b
back64 b h = grind arith

pub bits8 : (text : List ℕ) (z : ℤ) → answer (signed text) (option_map (signed_of 8) (integer 8 text)) ≡ Ok z
    → option_map num.Bits (integer 8 text) ≡ Some (num.Bits (cast_unsigned w8 z))
bits8 text z e = bits_at w8 8 (integer 8 text) z
    (λ n is. let small : n < 0x100 = few 8 127 refl refl text n is in ap (cast_unsigned w8) (sym (back8 n small)) ∙ of_z-to_z w8 n small) (signed_is 8 text z e)

pub bits16 : (text : List ℕ) (z : ℤ) → answer (signed text) (option_map (signed_of 16) (integer 16 text)) ≡ Ok z
    → option_map num.Bits (integer 16 text) ≡ Some (num.Bits (cast_unsigned w16 z))
bits16 text z e = bits_at w16 16 (integer 16 text) z
    (λ n is. let small : n < 0x1_0000 = few 16 0x7fff refl refl text n is in
    ap (cast_unsigned w16) (sym (back16 n small)) ∙ of_z-to_z w16 n small) (signed_is 16 text z e)

pub bits32 : (text : List ℕ) (z : ℤ) → answer (signed text) (option_map (signed_of 32) (integer 32 text)) ≡ Ok z
    → option_map num.Bits (integer 32 text) ≡ Some (num.Bits (cast_unsigned w32 z))
bits32 text z e = bits_at w32 32 (integer 32 text) z
    (λ n is. let small : n < 0x1_0000_0000 = few 32 0x7fff_ffff refl refl text n is in
    ap (cast_unsigned w32) (sym (back32 n small)) ∙ of_z-to_z w32 n small) (signed_is 32 text z e)

pub bits64 : (text : List ℕ) (z : ℤ) → answer (signed text) (option_map (signed_of 64) (integer 64 text)) ≡ Ok z
    → option_map num.Bits (integer 64 text) ≡ Some (num.Bits (cast_unsigned w64 z))
bits64 text z e = bits_at w64 64 (integer 64 text) z
    (λ n is. let small : n < 0x1_0000_0000_0000_0000 = few 64 0x7fff_ffff_ffff_ffff refl refl text n is in
    ap (cast_unsigned w64) (sym (back64 n small)) ∙ of_z-to_z w64 n small) (signed_is 64 text z e)

unmapped : {S T : Type 0} (f : S → T) (o : Option S) → option_map f o ≡ None → o ≡ None
unmapped f None e = refl
unmapped f (Some x) e = absurd cc

-- the bits of a text that has no signed integer
pub bits_not : (N : ℕ) (text : List ℕ) (e : TextFault)
    → answer (signed text) (option_map (signed_of N) (integer N text)) ≡ Err e → option_map num.Bits (integer N text) ≡ None
bits_not N text e h = ap (option_map num.Bits) (unmapped (signed_of N) (integer N text) (signed_not N text e h))

-- what is no failed allocation here is none in wat_text
refusal : (e : TextFault) → IsRefusal e → IsTextRefusal e
refusal fault.Memory h = h
refusal e h = tt

-- a text that has no floating-point number
pub float_not : (f : Format) (text : List ℕ) (e : TextFault)
    → UnlessMemory (MayLack (sign text).1) (Err e) (answer (magnitude (sign text).1) (fN f text)) → IsRefusal e → fN f text ≡ None
float_not f text e h r = text_float_not f text e h (refusal e r)
