-- Each unsigned number has one spelling, and no spelling begins another.
use Rattle.std.proofs.Common.{◌≡◌, ◌^◌, ◌<◌, ◌≤◌, ℕ, zero, suc, ◌+◌, ◌/◌, ◌%◌, List, [], ◌∷◌, ◌++◌, length, refl, sym, ap, ◌∙◌, arith, inl, inr}
use Rattle.std.proofs.Math.Nat.{pow-suc}
use Rattle.std.proofs.lemmas.Bool.{cases_lt, lt-ltb, le-ltb}
use Rattle.wasm_ops.specs.Leb128.{value, IsChain, SpellsUnsigned, unsigned_in, unsigned}
use Rattle.wasm_ops.proofs.Chains.{chain_begins, chain-cons, same_chain}

unsigned_in-small : (k n : ℕ) → n < 128 → unsigned_in k n ≡ n ∷ []
unfolding unsigned_in
unsigned_in-small zero n lt = refl
unsigned_in-small (suc k) n lt = rw (lt-ltb n 128 lt, unsigned_in) refl

unsigned_in-large : (k n : ℕ) → 128 ≤ n → unsigned_in (suc k) n ≡ (128 + n % 128) ∷ unsigned_in k (n / 128)
unfolding unsigned_in
unsigned_in-large k n le = rw (le-ltb n 128 le, unsigned_in) refl

unsigned_in-is : (k n : ℕ) → n ≤ k → IsChain (unsigned_in k n) × (value (unsigned_in k n) ≡ n)
unsigned_in-is zero n le = rw (unsigned_in-small zero n (omega arith)) (omega arith, omega arith)
unsigned_in-is (suc k) n le =
    elim (cases_lt n 128) [
      | inl lt ↦ rw (unsigned_in-small (suc k) n lt) (lt, omega (arith, lt))
      | inr ge ↦
          let r = unsigned_in-is k (n / 128) (omega arith) in
          rw (unsigned_in-large k n ge) (chain-cons (128 + n % 128) (unsigned_in k (n / 128)) (omega arith) (omega arith) r.0, omega (arith, r.1))
    ]

unsigned_in-shortest : (k n : ℕ) (other : List ℕ) → n ≤ k → IsChain other → value other ≡ n → length (unsigned_in k n) ≤ length other
unsigned_in-shortest k n [] le h e = absurd h
unsigned_in-shortest zero n (b ∷ bs) le h e = rw (unsigned_in-small zero n (omega arith)) (omega arith)
unsigned_in-shortest (suc k) n (b ∷ []) le h e = rw (unsigned_in-small (suc k) n (omega (arith, h, e))) (omega arith)
unsigned_in-shortest (suc k) n (b ∷ c ∷ bs) le h e =
    elim (cases_lt n 128) [
      | inl lt ↦ rw (unsigned_in-small (suc k) n lt) (omega arith)
      | inr ge ↦ rw (unsigned_in-large k n ge) (omega (arith, unsigned_in-shortest k (n / 128) (c ∷ bs) (omega arith) h.2 (omega (arith, e))))
    ]

pub unsigned_spells : (n : ℕ) → SpellsUnsigned (unsigned n) n
unfolding unsigned
unsigned_spells n =
    let r = unsigned_in-is n n (omega arith) in
    record { chain = r.0; sum = r.1; shortest = λ other h e. unsigned_in-shortest n n other (omega arith) h e }

pub is_unsigned : (bytes : List ℕ) (n : ℕ) → SpellsUnsigned bytes n → bytes ≡ unsigned n
is_unsigned bytes n s =
    let u = unsigned_spells n in
    same_chain bytes (unsigned n) s.chain u.chain (omega (arith, s.shortest (unsigned n) u.chain u.sum, u.shortest bytes s.chain s.sum)) (s.sum ∙ sym u.sum)

pub spells_begins : (a b x y : List ℕ) (m n : ℕ) → SpellsUnsigned a m → SpellsUnsigned b n → a ++ x ≡ b ++ y → (a ≡ b) × (m ≡ n) × (x ≡ y)
spells_begins a b x y m n s t e =
    let r = chain_begins a b x y s.chain t.chain e in
    (r.0, sym s.sum ∙ ap value r.0 ∙ t.sum, r.1)

pub unsigned_begins : (m n : ℕ) (r s : List ℕ) → unsigned m ++ r ≡ unsigned n ++ s → (m ≡ n) × (r ≡ s)
unsigned_begins m n r s e = let b = spells_begins (unsigned m) (unsigned n) r s m n (unsigned_spells m) (unsigned_spells n) e in (b.1, b.2)

-- ---- what the writer's loop needs

unsigned_in-fuel : (k j n : ℕ) → n ≤ k → n ≤ j → unsigned_in k n ≡ unsigned_in j n
unsigned_in-fuel zero j n le lf = unsigned_in-small zero n (omega arith) ∙ sym (unsigned_in-small j n (omega arith))
unsigned_in-fuel (suc k) zero n le lf = unsigned_in-small (suc k) n (omega arith) ∙ sym (unsigned_in-small zero n (omega arith))
unsigned_in-fuel (suc k) (suc j) n le lf =
    elim (cases_lt n 128) [
      | inl lt ↦ unsigned_in-small (suc k) n lt ∙ sym (unsigned_in-small (suc j) n lt)
      | inr ge ↦ unsigned_in-large k n ge ∙ ap (λ bs. (128 + n % 128) ∷ bs) (unsigned_in-fuel k j (n / 128) (omega arith) (omega arith))
          ∙ sym (unsigned_in-large j n ge)
    ]

pub unsigned-small : (n : ℕ) → n < 128 → unsigned n ≡ n ∷ []
unfolding unsigned
unsigned-small n lt = unsigned_in-small n n lt

pub unsigned-large : (n : ℕ) → 128 ≤ n → unsigned n ≡ (128 + n % 128) ∷ unsigned (n / 128)
unfolding unsigned
unsigned-large zero ge = absurd (omega arith)
unsigned-large (suc k) ge = unsigned_in-large k (suc k) ge
    ∙ ap (λ bs. (128 + suc k % 128) ∷ bs) (unsigned_in-fuel k (suc k / 128) (suc k / 128) (omega arith) (omega arith))

-- as many bytes as the number's size asks
pub unsigned_fits : (k n : ℕ) → n < 128 ^ suc k → length (unsigned n) ≤ suc k
unsigned_fits zero n lt = rw (unsigned-small n (omega arith)) (omega arith)
unsigned_fits (suc k) n lt =
    elim (cases_lt n 128) [
      | inl small ↦ rw (unsigned-small n small) (omega arith)
      | inr ge ↦ let e = pow-suc 128 (suc k) in rw (unsigned-large n ge) (omega (arith, unsigned_fits k (n / 128) (omega (arith, e))))
    ]

pub unsigned-nonempty : (n : ℕ) → 0 < length (unsigned n)
unsigned-nonempty n = elim (cases_lt n 128) [ inl lt ↦ rw (unsigned-small n lt) (omega arith) | inr ge ↦ rw (unsigned-large n ge) (omega arith) ]
