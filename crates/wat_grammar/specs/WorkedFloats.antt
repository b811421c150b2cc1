-- Floating-point numbers of texts, as the rules compute them.
use Rattle.std.specs.Prelude.{◌≡◌, Option, Some, None, false, codes}
use Rattle.std.specs.Float.{binary32, binary64}
use Rattle.wat_grammar.specs.Floats.{frac, hexfrac, Magnitude, number, infinity, canonical, payload, float, hexfloat, magnitude, fN}

-- digits after the point: m/10^k and m/16^k, with underscores between digits alone
abbrev pub Fractions : Type 0
Fractions = (frac (codes "05") ≡ Some (5, 2)) × (frac (codes "2_5") ≡ Some (25, 2)) × (hexfrac (codes "8f") ≡ Some (0x8f, 2))
    × (frac (codes "") ≡ None) × (frac (codes "_5") ≡ None) × (frac (codes "5_") ≡ None) × (frac (codes "1__0") ≡ None) × (frac (codes "f") ≡ None)

-- with and without a fraction and an exponent
abbrev pub Decimals : Type 0
Decimals = (float (codes "1_2") ≡ Some (number 12 1)) × (float (codes "1.") ≡ Some (number 1 1)) × (float (codes "1.5") ≡ Some (number 15 10))
    × (float (codes "1.5e-2") ≡ Some (number 15 1000)) × (float (codes "1.E+2") ≡ Some (number 100 1)) × (float (codes "2e1_0") ≡ Some (number 20000000000 1))

-- what is no decimal number
abbrev pub NoDecimals : Type 0
NoDecimals = (float (codes "") ≡ None) × (float (codes ".5") ≡ None) × (float (codes "1._5") ≡ None) × (float (codes "1_.5") ≡ None)
    × (float (codes "1.5_") ≡ None) × (float (codes "1e") ≡ None) × (float (codes "1e+") ≡ None) × (float (codes "1e_2") ≡ None)
    × (float (codes "1.2.3") ≡ None) × (float (codes "1e2e3") ≡ None) × (float (codes "1e2.5") ≡ None) × (float (codes "1p2") ≡ None)

-- after '0x': a power of 2, with a decimal exponent
abbrev pub Hexadecimals : Type 0
Hexadecimals = (hexfloat (codes "1.8p1") ≡ Some (number 48 16)) × (hexfloat (codes "eE") ≡ Some (number 0xee 1)) × (hexfloat (codes "1.P-1_0") ≡ Some (number 1 1024))
    × (hexfloat (codes "") ≡ None) × (hexfloat (codes ".8") ≡ None) × (hexfloat (codes "1pa") ≡ None) × (hexfloat (codes "1_p1") ≡ None)

-- the other forms, and what is none
abbrev pub Magnitudes : Type 0
Magnitudes = (magnitude (codes "inf") ≡ Some infinity) × (magnitude (codes "nan") ≡ Some canonical) × (magnitude (codes "nan:0x1_0") ≡ Some (payload 16))
    × (magnitude (codes "0x1p4") ≡ Some (number 16 1)) × (magnitude (codes "1p4") ≡ None) × (magnitude (codes "0X1") ≡ None) × (magnitude (codes "0x") ≡ None)
    × (magnitude (codes "infinity") ≡ None) × (magnitude (codes "NaN") ≡ None) × (magnitude (codes "nan:1") ≡ None) × (magnitude (codes "nan:0x") ≡ None)

-- bits of 32, with the sign; rounded to nearest, and to even at a tie
abbrev pub Singles : Type 0
Singles = (fN binary32 (codes "-0") ≡ Some 0x8000_0000) × (fN binary32 (codes "1.5") ≡ Some 0x3fc0_0000) × (fN binary32 (codes "+0.1") ≡ Some 0x3dcc_cccd)
    × (fN binary32 (codes "0x1.000001p0") ≡ Some 0x3f80_0000) × (fN binary32 (codes "0x1.000003p0") ≡ Some 0x3f80_0002)
    × (fN binary32 (codes "-0x1p-149") ≡ Some 0x8000_0001) × (fN binary32 (codes "0x1p-150") ≡ Some 0) × (fN binary32 (codes "0x1.8p-150") ≡ Some 1)
    × (fN binary32 (codes "0x1.fffffep127") ≡ Some 0x7f7f_ffff) × (fN binary32 (codes "0x1.ffffffp127") ≡ None) × (fN binary32 (codes "--1") ≡ None)

-- infinities, and numbers that are none: a payload has 1 to 2^23 − 1
abbrev pub Specials : Type 0
Specials = (fN binary32 (codes "inf") ≡ Some 0x7f80_0000) × (fN binary32 (codes "-inf") ≡ Some 0xff80_0000) × (fN binary32 (codes "nan") ≡ Some 0x7fc0_0000)
    × (fN binary32 (codes "-nan:0x1") ≡ Some 0xff80_0001) × (fN binary32 (codes "nan:0x7fffff") ≡ Some 0x7fff_ffff)
    × (fN binary32 (codes "nan:0x0") ≡ None) × (fN binary32 (codes "nan:0x800000") ≡ None)

-- bits of 64
abbrev pub Doubles : Type 0
Doubles = (fN binary64 (codes "0.1") ≡ Some 0x3fb9_9999_9999_999a) × (fN binary64 (codes "0x1.fffffffffffff8p1023") ≡ None)
    × (fN binary64 (codes "4.9e-324") ≡ Some 1) × (fN binary64 (codes "nan") ≡ Some 0x7ff8_0000_0000_0000)
