-- Closes what the kind of a byte says of it.
use Rattle.std.proofs.Common.{◌≡◌, ℕ, ◌≤◌, ◌==◌, Bool, true, false, List, length, get_or, refl, arith, eqb-true}
use Rattle.wat_grammar.specs.Parts.{front}
use Rattle.wat_grammar.specs.Space.{is_blank}
use Rattle.wat_grammar.specs.Tokens.{is_idchar}
use Rattle.wat_tokens.specs.Scans.{kind_of}
use Rattle.wat_tokens.specs.declared.scans.Kind.TheVariants as kind
use Rattle.wat_tokens.proofs.Braces.{differs}
use Rattle.wat_tokens.proofs.Fronts.{front_none}
use Rattle.wat_tokens.proofs.Steps.{kinds}

word_needs : (a1 a2 a3 a4 a5 s i : Bool) → kinds a1 a2 a3 a4 a5 s i ≡ kind.Word → i ≡ true
word_needs true a2 a3 a4 a5 s i h = absurd cc
word_needs false true a3 a4 a5 s i h = absurd cc
word_needs false false true a4 a5 s i h = absurd cc
word_needs false false false true a5 s i h = absurd cc
word_needs false false false false true s i h = absurd cc
word_needs false false false false false true i h = absurd cc
word_needs false false false false false false true h = refl
word_needs false false false false false false false h = absurd cc

pub word_is_idchar : (c : ℕ) → kind_of c ≡ kind.Word → is_idchar c ≡ true
word_is_idchar c h = word_needs (is_blank c) (c == 0x28) (c == 0x29) (c == 0x22) (c == 0x24) (c == 0x3b) (is_idchar c) h

dollar_needs : (a1 a2 a3 a4 a5 s i : Bool) → kinds a1 a2 a3 a4 a5 s i ≡ kind.Dollar → a5 ≡ true
dollar_needs true a2 a3 a4 a5 s i h = absurd cc
dollar_needs false true a3 a4 a5 s i h = absurd cc
dollar_needs false false true a4 a5 s i h = absurd cc
dollar_needs false false false true a5 s i h = absurd cc
dollar_needs false false false false true s i h = refl
dollar_needs false false false false false true i h = absurd cc
dollar_needs false false false false false false true h = absurd cc
dollar_needs false false false false false false false h = absurd cc

pub is_dollar : (c : ℕ) → kind_of c ≡ kind.Dollar → c ≡ 0x24
is_dollar c h = eqb-true c 0x24 (dollar_needs (is_blank c) (c == 0x28) (c == 0x29) (c == 0x22) (c == 0x24) (c == 0x3b) (is_idchar c) h)

blank_needs : (a1 a2 a3 a4 a5 s i : Bool) → kinds a1 a2 a3 a4 a5 s i ≡ kind.Blank → a1 ≡ true
blank_needs true a2 a3 a4 a5 s i h = refl
blank_needs false true a3 a4 a5 s i h = absurd cc
blank_needs false false true a4 a5 s i h = absurd cc
blank_needs false false false true a5 s i h = absurd cc
blank_needs false false false false true s i h = absurd cc
blank_needs false false false false false true i h = absurd cc
blank_needs false false false false false false true h = absurd cc
blank_needs false false false false false false false h = absurd cc

pub blank_is : (c : ℕ) → kind_of c ≡ kind.Blank → is_blank c ≡ true
blank_is c h = blank_needs (is_blank c) (c == 0x28) (c == 0x29) (c == 0x22) (c == 0x24) (c == 0x3b) (is_idchar c) h

-- a byte from '!' on is no white space
dark : (c : ℕ) → 0x21 ≤ c → is_blank c ≡ false
dark c h =
    let a : c == 0x20 ≡ false = differs c 0x20 (λ e. omega (arith, e, h)) in
    let b : c == 0x09 ≡ false = differs c 0x09 (λ e. omega (arith, e, h)) in
    let d : c == 0x0a ≡ false = differs c 0x0a (λ e. omega (arith, e, h)) in
    let f : c == 0x0d ≡ false = differs c 0x0d (λ e. omega (arith, e, h)) in
    rw (a, b, d, f) refl

pub dark_stops : (cs : List ℕ) → 0x21 ≤ get_or cs 0 0 → length (front is_blank cs) ≡ 0
dark_stops cs h = front_none is_blank cs (dark (get_or cs 0 0) h)
