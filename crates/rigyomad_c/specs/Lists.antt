-- Lists of all names of a text, as C has them: a record of each name, and the bytes of all of them one after another.
--
--   (module (func $a) (func $bc))      two records, with starts 0 and 1, and the bytes "abc"
use Rattle.std.specs.Prelude.{Result, Ok, Err, ◌≡◌, ℕ, ◌+◌, ◌<◌, ◌≤◌, ◌⊎◌, List, [], ◌∷◌, length, drop, ◌++◌}
use Rattle.std.specs.Global.{Vec}
use Rattle.wast_base.specs.Spaces.{rank_of}
use Rattle.wast_base.specs.Ids.{text_of, name_of}
use Rattle.wat_bytes.specs.Texts.{OfText, number_of}
use Rattle.wat_bytes.specs.Names.{ListsText}
use Rattle.wat_bytes.specs.declared.names.Denoted.{Denoted}
use Rattle.wat_bytes.specs.declared.refusals.Refused.{Refused}
use Rattle.rigyomad_c.specs.declared.statuses.Status.{Status}
use Rattle.rigyomad_c.specs.declared.statuses.Status.TheVariants as status
use Rattle.rigyomad_c.specs.Answers.{status_of, IsNoText}
use Rattle.rigyomad_c.specs.declared.lists.Name.{Name}
use Rattle.rigyomad_c.specs.declared.lists.Room.{Room}

-- The bytes of a name, without the `$` of its id.
abbrev pub bytes_in : Denoted → List ℕ
bytes_in d = text_of (name_of d.id)

-- The record of a name that has `start` bytes of other names before it.
abbrev pub name_at : ℕ → Denoted → Name
name_at start d = record { space = rank_of d.space; number = d.number; offset = d.id.span.offset; start = start; size = length (bytes_in d) }

-- The bytes of names, one name after another: those of `$a` and `$bc` are `abc`.
unfoldable pub bytes_of : List Denoted → List ℕ
bytes_of [] = []
bytes_of (d ∷ ds) = bytes_in d ++ bytes_of ds

-- The records of names, after `start` bytes of others: those of `$a` and `$bc` start at 0 and 1.
unfoldable pub names_from : ℕ → List Denoted → List Name
names_from start [] = []
names_from start (d ∷ ds) = name_at start d ∷ names_from (start + length (bytes_in d)) ds

-- The room for no name.
abbrev pub no_room : Room
no_room = record { names = 0; bytes = 0 }

-- The room that records and bytes need.
abbrev pub Needs : Room → List Name → List ℕ → Type 0
Needs room records text = (room.names ≡ length records) × (room.bytes ≡ length text)

-- Two slices have that room.
abbrev pub HaveRoom : List Name → List ℕ → List Name → List ℕ → Type 0
HaveRoom records text names bytes = (length records ≤ length names) × (length text ≤ length bytes)

-- One of two slices does not have that room.
abbrev pub LackRoom : List Name → List ℕ → List Name → List ℕ → Type 0
LackRoom records text names bytes = (length names < length records) ⊎ (length bytes < length text)

-- Writing records and bytes to two slices. They are at the front of both if both have room. Otherwise both are not
-- changed, and the room says what is needed.
abbrev pub PutsBoth : List Name → List ℕ → Room → List Name → List Name → List ℕ → List ℕ → Status → Type 0
PutsBoth records text room names names_new bytes bytes_new status.Done =
    Needs room records text × HaveRoom records text names bytes
    × (names_new ≡ records ++ drop (length records) names) × (bytes_new ≡ text ++ drop (length text) bytes)
PutsBoth records text room names names_new bytes bytes_new status.Short =
    Needs room records text × LackRoom records text names bytes × (names_new ≡ names) × (bytes_new ≡ bytes)
PutsBoth records text room names names_new bytes bytes_new status.Memory =
    (room ≡ no_room) × (names_new ≡ names) × (bytes_new ≡ bytes)
PutsBoth records text room names names_new bytes bytes_new status.Fault = ⊥
PutsBoth records text room names names_new bytes bytes_new status.Utf8 = ⊥
PutsBoth records text room names names_new bytes bytes_new status.Unknown = ⊥

-- Writing names to two slices.
abbrev pub Puts : List Denoted → Room → List Name → List Name → List ℕ → List ℕ → Status → Type 0
Puts all room names names_new bytes bytes_new s = PutsBoth (names_from 0 all) (bytes_of all) room names names_new bytes bytes_new s

-- Writing the result of listing to two slices.
abbrev pub PutsList : Result (Vec Denoted) Refused → Room → List Name → List Name → List ℕ → List ℕ → Status → Type 0
PutsList (Ok all) room names names_new bytes bytes_new s = Puts all.items room names names_new bytes bytes_new s
PutsList (Err r) room names names_new bytes bytes_new s = (room ≡ no_room) × (names_new ≡ names) × (bytes_new ≡ bytes) × (s ≡ status_of (number_of r))

-- Listing the names of a text: a result that `names_of_text` may return for this text is written to two slices.
pub record ListsRead (text : List ℕ) (room : Room) (names names_new : List Name) (bytes bytes_new : List ℕ) (s : Status) : Type 0 where
  pub answer : Result (Vec Denoted) Refused
  pub listed : OfText ListsText text answer
  pub put : PutsList answer room names names_new bytes bytes_new s

-- Listing the names of bytes, which are no text if they are not UTF-8.
abbrev pub Lists : List ℕ → Room → List Name → List Name → List ℕ → List ℕ → Status → Type 0
Lists text room names names_new bytes bytes_new status.Utf8 = IsNoText text × (room ≡ no_room) × (names_new ≡ names) × (bytes_new ≡ bytes)
Lists text room names names_new bytes bytes_new s = ListsRead text room names names_new bytes bytes_new s
