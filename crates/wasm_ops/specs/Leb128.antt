-- LEB128 numbers: seven bits in each byte, the lowest first (binary format: integers).
--
-- All bytes but the last have their highest bit set. SpellsUnsigned and SpellsSigned define the value of bytes and
-- require the fewest bytes, because the specification permits longer encodings. `unsigned` and `signed` compute these
-- fewest bytes.
--
--   unsigned 624485         e5 8e 26: 101 + 14 * 128 + 38 * 128^2
--   signed (negsuc 64)      bf 7f: the number is -65, and 63 + 127 * 128 = 128^2 - 65
use Rattle.std.specs.Prelude.{◌≡◌, ◌^◌, ◌<◌, ◌≤◌, ℕ, zero, suc, ◌+◌, ◌-◌, ◌*◌, ◌/◌, ◌%◌, ℤ, pos, negsuc, Bool, true, false, nat_lt, List, [], ◌∷◌, length}

-- The value of bytes as an unsigned number: the sum over i of (byte i mod 128) * 128^i.
abbrev pub value : List ℕ → ℕ
value [] = 0
value (b ∷ bs) = b % 128 + 128 * value bs

-- Bytes that form a number: all but the last are at least 128, and the last is below 128.
abbrev pub IsChain : List ℕ → Type 0
IsChain [] = ⊥
IsChain (b ∷ []) = b < 128
IsChain (b ∷ c ∷ bs) = (128 ≤ b) × (b < 256) × IsChain (c ∷ bs)

abbrev pub last_byte : List ℕ → ℕ
last_byte [] = 0
last_byte (b ∷ []) = b
last_byte (b ∷ c ∷ bs) = last_byte (c ∷ bs)

-- The bytes are the shortest encoding of n: their value is n, and no shorter bytes have that value.
pub record SpellsUnsigned (bytes : List ℕ) (n : ℕ) : Type 0 where
  pub chain : IsChain bytes
  pub sum : value bytes ≡ n
  pub shortest : (other : List ℕ) → IsChain other → value other ≡ n → length bytes ≤ length other

-- The bytes have this value as a signed number: it is negative if the last byte is at least 64. Then 128^k is
-- subtracted for k bytes.
abbrev pub HasSigned : List ℕ → ℤ → Type 0
HasSigned bytes (pos n) = (last_byte bytes < 64) × (value bytes ≡ n)
HasSigned bytes (negsuc n) = (64 ≤ last_byte bytes) × (value bytes + suc n ≡ 128 ^ length bytes)

-- The bytes are the shortest encoding of z: they have that value, and no shorter bytes have it.
pub record SpellsSigned (bytes : List ℕ) (z : ℤ) : Type 0 where
  pub chain : IsChain bytes
  pub sum : HasSigned bytes z
  pub shortest : (other : List ℕ) → IsChain other → HasSigned other z → length bytes ≤ length other

-- The encoding of n, if k + 1 bytes are enough.
unfoldable pub unsigned_in : ℕ → ℕ → List ℕ
unsigned_in zero n = n ∷ []
unsigned_in (suc k) n = elim (nat_lt n 128) [ true ↦ n ∷ [] | false ↦ (128 + n % 128) ∷ unsigned_in k (n / 128) ]

-- The shortest encoding of an unsigned number.
unfoldable pub unsigned : ℕ → List ℕ
unsigned n = unsigned_in n n

-- Seven bits of a number, or of its complement if it is negative.
abbrev pub complement_if : Bool → ℕ → ℕ
complement_if false d = d
complement_if true d = 127 - d

-- The signed encoding of n, or of its complement, if k + 1 bytes are enough.
unfoldable pub signed_in : Bool → ℕ → ℕ → List ℕ
signed_in negative zero n = complement_if negative n ∷ []
signed_in negative (suc k) n = elim (nat_lt n 64) [ true ↦ complement_if negative n ∷ [] | false ↦ (128 + complement_if negative (n % 128)) ∷ signed_in negative k (n / 128) ]

unfoldable pub digits : Bool → ℕ → List ℕ
digits negative n = signed_in negative n n

-- The shortest encoding of a signed number, in two's complement.
unfoldable pub signed : ℤ → List ℕ
signed (pos n) = signed_in false n n
signed (negsuc n) = signed_in true n n
