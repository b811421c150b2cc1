-- Proofs that `Vec<u8>` and `Length` follow the rules of a sink, over lists of bytes and over counts.
use Rattle.std.proofs.Common.{◌≡◌, ◌≤◌, ◌<◌, ◌+◌, ◌-◌, ◌^◌, ℕ, List, [], ◌∷◌, ◌++◌, take, drop, length, refl, sym, ap, ◌∙◌, append_assoc, arith, length-append}
use Rattle.std.proofs.lemmas.List.{append-nil, take_at}
use Rattle.std.proofs.Math.Seq.{drop-append-add}
use Rattle.wasm_ops.specs.Leb128.{unsigned}

-- A list of bytes.
pub none : (a : List ℕ) → a ≡ a ++ []
none a = sym (append-nil a)

pub grows : (a b x : List ℕ) → b ≡ a ++ x → length b ≡ length a + length x
grows a b x e = ap length e ∙ length-append a x

pub joins : (a b c x y : List ℕ) → b ≡ a ++ x → c ≡ b ++ y → c ≡ a ++ (x ++ y)
joins a b c x y e f = f ∙ ap (λ l. l ++ y) e ∙ append_assoc a x y

pub cuts_back : (a b c x : List ℕ) → b ≡ a ++ x → c ≡ take (length a) b → c ≡ a ++ []
cuts_back a b c x e f = f ∙ ap (take (length a)) e ∙ take_at a x (length a) refl ∙ none a

-- The list with the byte at that position replaced by the encoding of a number: with_number [5, 0, 9] 1 300 = [5,
-- 172, 2, 9].
abbrev pub with_number : List ℕ → ℕ → ℕ → List ℕ
with_number a at n = take at a ++ (unsigned n ++ drop (at + 1) a)

pub sets : (a b c : List ℕ) (byte n : ℕ) (x : List ℕ) → b ≡ a ++ byte ∷ x → c ≡ with_number b (length a) n → c ≡ a ++ (unsigned n ++ x)
sets a b c byte n x e f =
    f ∙ ap (λ l. with_number l (length a) n) e ∙ ap (λ l. l ++ (unsigned n ++ drop (length a + 1) (a ++ byte ∷ x))) (take_at a (byte ∷ x) (length a) refl)
    ∙ ap (λ l. a ++ (unsigned n ++ l)) (drop-append-add a (byte ∷ x) 1)

-- A count of bytes.
pub count_none : (a : ℕ) → a ≡ a + 0
count_none a = omega arith

pub count_joins : (a b c : ℕ) (x y : List ℕ) → b ≡ a + length x → c ≡ b + length y → c ≡ a + length (x ++ y)
count_joins a b c x y e f = omega (arith, length-append x y)

pub count_cuts : (a c : ℕ) → c ≡ a → c ≡ a + 0
count_cuts a c e = omega arith

-- The count after one byte is replaced by the encoding of a number.
abbrev pub count_with : ℕ → ℕ → ℕ → Type 0
count_with a n b = b + 1 ≡ a + length (unsigned n)

pub count_sets : (a b c byte n : ℕ) (x : List ℕ) → b ≡ a + length (byte ∷ x) → count_with b n c → c ≡ a + length (unsigned n ++ x)
count_sets a b c byte n x e f = omega (arith, length-append (unsigned n) x)

pub count_less : (a m n : ℕ) → m ≤ n → a + n < 2 ^ 64 → a + m < 2 ^ 64
count_less a m n le h = omega arith

pub count_rest : (a b : ℕ) (x : List ℕ) (n : ℕ) → length x ≤ n → a + n < 2 ^ 64 → b ≡ a + length x → b + (n - length x) < 2 ^ 64
count_rest a b x n le h e = omega arith
