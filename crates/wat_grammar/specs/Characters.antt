-- Digits (text format: integers).
use Rattle.std.specs.Prelude.{ℕ, ◌+◌, ◌-◌, if◌then◌else◌, Option, None, Some}
use Rattle.std.specs.Int.{is_in_range}

-- digit ::= '0' ⇒ 0 | .. | '9' ⇒ 9
abbrev pub digit : ℕ → Option ℕ
digit c = if is_in_range 0x30 0x39 c then Some (c - 0x30) else None

-- hexdigit ::= d:digit ⇒ d | 'A' ⇒ 10 | .. | 'F' ⇒ 15 | 'a' ⇒ 10 | .. | 'f' ⇒ 15
abbrev pub hexdigit : ℕ → Option ℕ
hexdigit c =
    if is_in_range 0x30 0x39 c then Some (c - 0x30) else
    (if is_in_range 0x41 0x46 c then Some (c - 0x41 + 10) else
    (if is_in_range 0x61 0x66 c then Some (c - 0x61 + 10) else None))
