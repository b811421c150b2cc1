-- A section that is filled item by item, and the contract of its methods: each adds one item, or changes nothing.
--
--   built_with empty [00]                      count = 1, bytes = 00
--   behind_count (count = 1, bytes = 00)       01 00: a function section with one function of type 0
use Rattle.std.specs.Prelude.{◌≡◌, ◌⊎◌, ◌+◌, ℕ, List, [], ◌++◌, length, Result, Ok, Err}
use Rattle.std.specs.List.{flat_map}
use Rattle.wast_base.specs.declared.faults.Error.{Error}
use Rattle.wast_base.specs.Faults.{too_large, out_of_memory}
use Rattle.wasm_ops.specs.Leb128.{unsigned}

-- The items so far: their number and their bytes.
pub record Built : Type 0 where
  pub count : ℕ
  pub bytes : List ℕ

-- No items.
abbrev pub empty : Built
empty = record { count = 0; bytes = [] }

-- The items with one more at the end.
abbrev pub built_with : Built → List ℕ → Built
built_with b item = record { count = b.count + 1; bytes = b.bytes ++ item }

-- The payload: the number of items, then the items (binary format: lists).
abbrev pub behind_count : Built → List ℕ
behind_count b = unsigned b.count ++ b.bytes

-- The items of a list, added one after another.
abbrev pub builder_of : {A : Type 0} → (A → List ℕ) → List A → Built
builder_of spell items = record { count = length items; bytes = flat_map spell items }

-- The reason of an error: allocation failed (E12), or a number, count or length is out of range (E10).
abbrev pub IsRefused : Type 0 → Error → Type 0
IsRefused InRange e = (e ≡ out_of_memory) ⊎ ((e ≡ too_large) × (InRange → ⊥))

-- On success one item is added, and it is in range. After an error nothing is changed.
abbrev pub Adds : {A : Type 0} → Type 0 → Built → Built → List ℕ → Result A Error → Type 0
Adds InRange old new item (Ok x) = (new ≡ built_with old item) × InRange
Adds InRange old new item (Err e) = (new ≡ old) × IsRefused InRange e

-- On success the bytes are appended, and the value is in range. After an error nothing is changed.
abbrev pub Appends : {A : Type 0} → Type 0 → List ℕ → List ℕ → List ℕ → Result A Error → Type 0
Appends InRange old new bytes (Ok x) = (new ≡ old ++ bytes) × InRange
Appends InRange old new bytes (Err e) = (new ≡ old) × IsRefused InRange e

-- On success the result has these bytes, and the value is in range.
abbrev pub Makes : Type 0 → List ℕ → Result (List ℕ) Error → Type 0
Makes InRange bytes (Ok made) = (made ≡ bytes) × InRange
Makes InRange bytes (Err e) = IsRefused InRange e
