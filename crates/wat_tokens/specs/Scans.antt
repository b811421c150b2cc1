-- What cutting a text into tokens returns (text format: tokens). The rules are those of wat_grammar.
use Rattle.std.specs.Prelude.{◌≡◌, ◌≢◌, ◌<◌, ◌≤◌, ◌==◌, ◌+◌, ℕ, Bool, true, false, if◌then◌else◌, List, [], ◌∷◌, length, drop, map, Option, None, Some, Result, MatchResult, codes, ⊤}
use Rattle.wat_grammar.specs.Parts.{◌>>=◌}
use Rattle.wat_grammar.specs.Space.{is_blank}
use Rattle.wat_grammar.specs.Tokens as grammar
use Rattle.wat_tokens.specs.declared.faults.TextError.{TextError}
use Rattle.wat_tokens.specs.declared.faults.TextFault.TheVariants as fault
use Rattle.wat_tokens.specs.declared.tokens.Annotation.{Annotation}
use Rattle.wat_tokens.specs.declared.tokens.Annotation.TheVariants as annotation
use Rattle.wat_tokens.specs.declared.tokens.Token.{Token}
use Rattle.wat_tokens.specs.declared.tokens.Token.TheVariants as token
use Rattle.wat_tokens.specs.declared.tokens.Placed.{Placed}
use Rattle.wat_tokens.specs.declared.scans.Kind.{Kind}
use Rattle.wat_tokens.specs.declared.scans.Kind.TheVariants as kind
use Rattle.wat_tokens.specs.declared.scans.Part.{Part}
use Rattle.wat_tokens.specs.declared.scans.Skipped.{Skipped}
use Rattle.wat_tokens.specs.Words.{word_named}

-- so many characters more
abbrev pub after_these : ℕ → Option ℕ → Option ℕ
after_these i o = o >>= λ n. Some (i + n)

-- the id of an annotation with a meaning
abbrev pub id_of : Annotation → List ℕ
id_of annotation.Name = codes "name"
id_of annotation.Custom = codes "custom"
id_of annotation.Producers = codes "producers"
id_of annotation.Dylink0 = codes "dylink.0"
id_of annotation.BranchHint = codes "metadata.code.branch_hint"

-- A token as the rules have it: by its bytes, wherever they are kept.
abbrev pub seen : Token → grammar.Token
seen token.Open = grammar.Open
seen token.Close = grammar.Close
seen (token.Annotation kind) = grammar.Annotation (id_of kind)
seen (token.Word word text) = grammar.Word text.now
seen (token.Other text) = grammar.Word text.now
seen (token.Id name) = grammar.Id name.now
seen (token.String bytes) = grammar.String bytes.now

-- The word of a token is that of its text: a word that means something of its own has its meaning, and others have none.
abbrev pub IsNamed : Token → Type 0
IsNamed (token.Word word text) = word_named text.now ≡ Some word
IsNamed (token.Other text) = word_named text.now ≡ None
IsNamed other = ⊤

-- a token at a place
abbrev pub placed : Token → ℕ → Placed
placed t place = record { token = t; span = record { offset = place } }

-- tokens and their places
abbrev pub seen_all : List Placed → List grammar.Placed
seen_all found = map (λ p. (seen p.token, p.span.offset)) found

-- what strings stand for: their bytes, if there is something to keep them in
abbrev pub contents_of : {T : Type 0} → Option T → grammar.Contents
contents_of None = grammar.as_written
contents_of (Some strings) = grammar.bytes_of

-- the first byte of a text
abbrev pub first_of : List ℕ → Option ℕ
first_of [] = None
first_of (c ∷ cs) = Some c

-- whether this is the first byte of a text
abbrev pub is_first : ℕ → List ℕ → Bool
is_first c [] = false
is_first c (d ∷ ds) = d == c

-- whether a text begins with ';;'
abbrev pub begins_of : List ℕ → Bool
begins_of [] = false
begins_of (c ∷ cs) = grammar.begins_comment c cs

-- what a byte begins outside of strings and comments
abbrev pub kind_of : ℕ → Kind
kind_of c = if is_blank c then kind.Blank else (if c == 0x28 then kind.Open else (if c == 0x29 then kind.Close else (if c == 0x22 then kind.Quote else (if c == 0x24 then kind.Dollar else
    (if c == 0x3b then kind.Semicolon else (if grammar.is_idchar c then kind.Word else kind.Other))))))

-- what is read at a place ends after it, and in the text
abbrev pub IsInside : List ℕ → ℕ → ℕ → Type 0
IsInside text place end = (place < end) × (end ≤ length text)

-- A rule is read: it gives these bytes, and the text from `end` on is left.
pub record IsRead (read : Option (List ℕ × List ℕ)) (text : List ℕ) (begin : ℕ) (bytes : List ℕ) (end : ℕ) : Type 0 where
  pub gives : read ≡ Some (bytes, drop end text)
  pub forward : begin < end
  pub inside : end ≤ length text

-- The same of what may be empty.
pub record IsName (read : Option (List ℕ × List ℕ)) (text : List ℕ) (begin : ℕ) (bytes : List ℕ) (end : ℕ) : Type 0 where
  pub gives : read ≡ Some (bytes, drop end text)
  pub forward : 0 < length bytes → begin < end
  pub inside : end ≤ length text

-- the token of a part, if it has one
abbrev pub token_of : Option Placed → List grammar.Placed
token_of None = []
token_of (Some p) = (seen p.token, p.span.offset) ∷ []

-- the word of the token of a part, if it has one, is that of its text
abbrev pub IsNamedPart : Option Placed → Type 0
IsNamedPart None = ⊤
IsNamedPart (Some p) = IsNamed p.token

-- A part is what a rule reads. If memory is refused, the text may be right.
abbrev pub Reads : Option (List grammar.Placed × List ℕ) → List ℕ → Result Part TextError → Type 0
Reads read text result = MatchResult result (λ p. read ≡ Some (token_of p.token, drop p.end text)) (λ e. e.fault ≢ fault.Memory → read ≡ None)

-- whether a part opens a parenthesis, as a number of them
abbrev pub opens_of : Bool → ℕ
opens_of true = 1
opens_of false = 0

-- A part of an annotation without a meaning is what a rule reads.
abbrev pub Skips : Option (ℕ × List ℕ) → List ℕ → Result Skipped TextError → Type 0
Skips read text result = MatchResult result (λ x. read ≡ Some (opens_of x.opens, drop x.end text)) (λ e. e.fault ≢ fault.Memory → read ≡ None)

-- The rules do not read the text, and the error is at a place in it. If memory is refused, the text may be right.
pub record IsFault {A : Type 0} (read : Option A) (text : List ℕ) (e : TextError) : Type 0 where
  pub refused : e.fault ≢ fault.Memory → read ≡ None
  pub inside : e.span.offset ≤ length text
