-- Integers of texts, as the rules compute them.
use Rattle.std.specs.Prelude.{◌≡◌, Some, None, codes, pos, negsuc}
use Rattle.wat_grammar.specs.Characters.{digit, hexdigit}
use Rattle.wat_grammar.specs.Integers.{num, hexnum, natural, uN, sN, iN, integer, signed_of}

-- digits of both kinds, and the characters beside them
abbrev pub Digits : Type 0
Digits = (digit 0x39 ≡ Some 9) × (digit 0x3a ≡ None) × (hexdigit 0x46 ≡ Some 15) × (hexdigit 0x61 ≡ Some 10) × (hexdigit 0x67 ≡ None)

-- underscores are between digits alone, one at a time
abbrev pub Numbers : Type 0
Numbers = (num (codes "1_000") ≡ Some 1000) × (hexnum (codes "f_F") ≡ Some 255)
    × (num (codes "1__0") ≡ None) × (num (codes "_1") ≡ None) × (num (codes "1_") ≡ None) × (num (codes "1f") ≡ None) × (num (codes "") ≡ None)

-- `0x` is small, and has a digit after it
abbrev pub Naturals : Type 0
Naturals = (natural (codes "0x10") ≡ Some 16) × (natural (codes "010") ≡ Some 10)
    × (natural (codes "0x") ≡ None) × (natural (codes "0x_1") ≡ None) × (natural (codes "0X1") ≡ None) × (natural (codes "0_x1") ≡ None)

-- no sign, and the greatest number of 8 bits
abbrev pub Unsigned : Type 0
Unsigned = (uN 8 (codes "255") ≡ Some 255) × (uN 8 (codes "256") ≡ None) × (uN 8 (codes "+1") ≡ None) × (uN 8 (codes "-0") ≡ None)

-- one sign at most, and the least and the greatest number of 8 bits
abbrev pub Signed : Type 0
Signed = (sN 8 (codes "-0x80") ≡ Some (negsuc 127)) × (sN 8 (codes "+127") ≡ Some (pos 127)) × (sN 8 (codes "-0") ≡ Some (pos 0))
    × (sN 8 (codes "-129") ≡ None) × (sN 8 (codes "128") ≡ None) × (sN 8 (codes "--1") ≡ None) × (sN 8 (codes "- 1") ≡ None)

-- two's complement: a number below zero is as many bits as one from 128 on
abbrev pub Integers : Type 0
Integers = (iN 8 (codes "-1") ≡ Some 255) × (iN 8 (codes "255") ≡ Some 255) × (iN 8 (codes "-128") ≡ Some 128) × (iN 8 (codes "+127") ≡ Some 127)
    × (iN 8 (codes "256") ≡ None) × (iN 8 (codes "+128") ≡ None) × (iN 8 (codes "-129") ≡ None)
    × (signed_of 8 255 ≡ negsuc 0) × (signed_of 8 127 ≡ pos 127) × (signed_of 8 128 ≡ negsuc 127)

-- a sign before a number that has none
abbrev pub SignBefore : Type 0
SignBefore = (integer 8 (codes "+255") ≡ Some 255) × (integer 8 (codes "-128") ≡ Some 128) × (integer 8 (codes "+256") ≡ None) × (integer 8 (codes "++1") ≡ None) × (integer 8 (codes "-255") ≡ None)
