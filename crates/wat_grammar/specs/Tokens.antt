-- Tokens (text format: tokens, identifiers, annotations). A text is the list of its bytes. Characters from U+80 on are in strings and
-- comments alone, and each of their bytes is from 0x80 on.
use Rattle.std.specs.Prelude.{ℕ, zero, suc, ◌+◌, ◌-◌, nat_le, ◌==◌, ◌&&◌, ◌||◌, Bool, true, false, if◌then◌else◌, List, [], ◌∷◌, ◌++◌, length, take, drop, Option, None, Some, Ok, Err, codes, bytes_eq}
use Rattle.std.specs.Int.{is_in_range}
use Rattle.std.specs.Str.{is_utf8}
use Rattle.wat_grammar.specs.Parts.{◌>>=◌, front}
use Rattle.wat_grammar.specs.Space.{is_blank, behind, linecomment, blockcomment}
use Rattle.wat_grammar.specs.Strings.{string}

-- What a token is. A number, a keyword and a reserved token such as `0$x` are each a Word: their characters tell them apart. An
-- Annotation is `(@` and the id of an annotation with a meaning. Of ids and strings the bytes are kept that they stand for.
pub data Token : Type 0 where
  Open : Token
  Close : Token
  Annotation : List ℕ → Token
  Word : List ℕ → Token
  Id : List ℕ → Token
  String : List ℕ → Token

-- a token and how many bytes come before it in the text; before an Annotation, how many come before its `@`
abbrev pub Placed : Type 0
Placed = Token × ℕ

-- idchar ::= '0' | .. | '9' | 'A' | .. | 'Z' | 'a' | .. | 'z'
--   | '!' | '#' | '$' | '%' | '&' | ''' | '*' | '+' | '-' | '.' | '/' | ':' | '<' | '=' | '>' | '?' | '@' | '\' | '^' | '_' | '`' | '|' | '~'
abbrev pub is_idchar : ℕ → Bool
is_idchar c = is_in_range 0x30 0x39 c || (is_in_range 0x41 0x5a c || (is_in_range 0x61 0x7a c || (c == 0x21 || (is_in_range 0x23 0x27 c
    || (is_in_range 0x2a 0x2b c || (is_in_range 0x2d 0x2f c || (c == 0x3a || (is_in_range 0x3c 0x40 c || (c == 0x5c || (is_in_range 0x5e 0x60 c
    || (c == 0x7c || c == 0x7e)))))))))))

-- How many characters of a string come before the quote that ends it, for the text after its first quote. A backslash and the
-- character after it belong together, so `\"` ends no string: is_escaped says that the character before was such a backslash.
unfoldable pub string_length : Bool → List ℕ → Option ℕ
string_length is_escaped [] = None
string_length true (c ∷ cs) = string_length false cs >>= λ n. Some (suc n)
string_length false (c ∷ cs) = elim (c == 0x22) [ true ↦ Some 0 | false ↦ string_length (c == 0x5c) cs >>= λ n. Some (suc n) ]

-- what a string stands for, by the characters between its quotes
abbrev pub Contents : Type 0
Contents = List ℕ → Option (List ℕ)

-- the bytes of the rule string
abbrev pub bytes_of : Contents
bytes_of content = elim (string content) [ Ok bytes ↦ Some bytes | Err n ↦ None ]

-- the characters themselves, for a reader that does not want the bytes
abbrev pub as_written : Contents
as_written content = Some content

-- A string, by the text after its first quote: what it stands for, and the text after it.
abbrev pub a_string : Contents → List ℕ → Option (List ℕ × List ℕ)
a_string contents text = string_length false text >>= λ n. contents (take n text) >>= λ bytes. Some (bytes, drop (suc n) text)

-- name ::= b*:string, if b* is UTF-8
abbrev pub a_name : Contents → List ℕ → Option (List ℕ × List ℕ)
a_name contents text = a_string contents text >>= λ s. if is_utf8 s.0 then Some s else None

-- An id after its '$', or that of an annotation after its '(@': id ::= '$' idchar+ | '$' name, annotid ::= idchar+ | name. Neither is
-- empty: the specification says so of `$""`, and `(@"")` is refused as the Rust crate `wast` does.
abbrev pub not_empty : List ℕ × List ℕ → Option (List ℕ × List ℕ)
not_empty x = elim x.0 [ [] ↦ None | c ∷ cs ↦ Some x ]

abbrev pub id_chars : Contents → List ℕ → Option (List ℕ × List ℕ)
id_chars contents [] = Some ([], [])
id_chars contents (c ∷ cs) = elim (c == 0x22) [ true ↦ a_name contents cs | false ↦ Some (front is_idchar (c ∷ cs), behind is_idchar (c ∷ cs)) ]

abbrev pub an_id : Contents → List ℕ → Option (List ℕ × List ℕ)
an_id contents text = id_chars contents text >>= λ x. not_empty x

-- What may come after a token: white space, a parenthesis, or a comment. Two tokens side by side are one reserved token, because the
-- longest match counts and reserved ::= (idchar | string | ',' | ';' | '[' | ']' | '{' | '}')+. So `"a""b"` and `a"b"` are none of ours.
-- A line comment may follow directly, as in `nop;;x`, which the Rust crate `wast` reads too.
abbrev pub ends : List ℕ → Bool
ends [] = true
ends (c ∷ cs) = is_blank c || (c == 0x28 || (c == 0x29 || c == 0x3b))

-- the annotations with a meaning: names, custom sections, branch hints
abbrev pub has_meaning : List ℕ → Bool
has_meaning id = bytes_eq id (codes "name") || (bytes_eq id (codes "custom") || (bytes_eq id (codes "producers") || (bytes_eq id (codes "dylink.0")
    || bytes_eq id (codes "metadata.code.branch_hint"))))

-- A part of a text: the tokens that it gives, and the text after it. The number is the place of the text that it reads.
abbrev pub Part : Type 0
Part = ℕ → List ℕ → Option (List Placed × List ℕ)

-- one token that may end where it does
abbrev pub one_token : Token → ℕ → List ℕ → Option (List Placed × List ℕ)
one_token token place rest = if ends rest then Some ((token, place) ∷ [], rest) else None

-- string, by the text after its first quote
abbrev pub string_token : Contents → Part
string_token contents place text = a_string contents text >>= λ s. one_token (String s.0) place s.1

-- id, by the text after its '$'
abbrev pub id_token : Contents → Part
id_token contents place text = an_id contents text >>= λ x. one_token (Id x.0) place x.1

-- idchar+, which is a keyword, a number or a reserved token
abbrev pub word : Part
word place text = one_token (Word (front is_idchar text)) place (behind is_idchar text)

-- What is in the body of an annotation without a meaning: annot ::= '(@' annotid (space | token)* ')', where a token may be reserved,
-- and parentheses match. Each step is the number of parentheses that are opened, and the text after it.
abbrev pub skipped_open : Contents → List ℕ → Option (ℕ × List ℕ)
skipped_open contents [] = Some (1, [])
skipped_open contents (c ∷ cs) = elim (c == 0x3b) [
  | true ↦ blockcomment 0 cs >>= λ rest. Some (0, rest)
  | false ↦ elim (c == 0x40) [ true ↦ an_id contents cs >>= λ x. Some (1, x.1) | false ↦ Some (1, c ∷ cs) ]
]

abbrev pub is_reserved : ℕ → Bool
is_reserved c = c == 0x2c || (c == 0x3b || (c == 0x5b || (c == 0x5d || (c == 0x7b || c == 0x7d))))

abbrev pub begins_comment : ℕ → List ℕ → Bool
begins_comment c [] = false
begins_comment c (d ∷ cs) = c == 0x3b && d == 0x3b

abbrev pub skipped_part : Contents → List ℕ → Option (ℕ × List ℕ)
skipped_part contents [] = None
skipped_part contents (c ∷ cs) =
    elim (c == 0x28) [
      | true ↦ skipped_open contents cs
      | false ↦
          elim (c == 0x22) [
            | true ↦ a_string contents cs >>= λ s. Some (0, s.1)
            | false ↦
                elim (begins_comment c cs) [
                  | true ↦ Some (0, linecomment (drop 1 cs))
                  | false ↦
                      elim (is_blank c || is_reserved c) [
                        | true ↦ Some (0, cs)
                        | false ↦
                            elim (is_idchar c) [ true ↦ Some (0, behind is_idchar (c ∷ cs)) | false ↦ None ]
                      ]
                ]
          ]
    ]

-- The text after the ')' that ends an annotation, inside of so many other parentheses. A step takes a character or more, so n steps
-- are enough for a text of n characters.
unfoldable pub skipped : Contents → ℕ → ℕ → List ℕ → Option (List ℕ)
skipped contents n depth [] = None
skipped contents zero depth (c ∷ cs) = None
skipped contents (suc n) depth (c ∷ cs) = elim (c == 0x29) [
  | true ↦ elim depth [ zero ↦ Some cs | suc d ↦ skipped contents n d cs ]
  | false ↦ skipped_part contents (c ∷ cs) >>= λ x. skipped contents n (x.0 + depth) x.1
]

-- An annotation, by the text after its '(@', whose `@` is at the place: with a meaning it is a token, and what it contains are tokens
-- of the text too. Without a meaning the whole of it is white space.
abbrev pub annotation : Contents → Part
annotation contents place text = an_id contents text >>= λ x. elim (has_meaning x.0) [
  | true ↦ Some ((Annotation x.0, place) ∷ [], x.1)
  | false ↦ skipped contents (length x.1) 0 x.1 >>= λ rest. Some ([], rest)
]

-- after a '(': a comment, an annotation, or a token
abbrev pub opened : Contents → Part
opened contents place [] = Some ((Open, place) ∷ [], [])
opened contents place (c ∷ cs) = elim (c == 0x3b) [
  | true ↦ blockcomment 0 cs >>= λ rest. Some ([], rest)
  | false ↦ elim (c == 0x40) [ true ↦ annotation contents (suc place) cs | false ↦ Some ((Open, place) ∷ [], c ∷ cs) ]
]

-- What a text begins with: white space, a comment, an annotation or a token. Nothing else begins with these characters.
abbrev pub part : Contents → Part
part contents place [] = None
part contents place (c ∷ cs) =
    elim (is_blank c) [
      | true ↦ Some ([], behind is_blank (c ∷ cs))
      | false ↦
          elim (c == 0x28) [
            | true ↦ opened contents place cs
            | false ↦
                elim (c == 0x29) [
                  | true ↦ Some ((Close, place) ∷ [], cs)
                  | false ↦
                      elim (c == 0x22) [
                        | true ↦ string_token contents place cs
                        | false ↦
                            elim (c == 0x24) [
                              | true ↦ id_token contents place cs
                              | false ↦
                                  elim (begins_comment c cs) [
                                    | true ↦ Some ([], linecomment (drop 1 cs))
                                    | false ↦
                                        elim (is_idchar c) [ true ↦ word place (c ∷ cs) | false ↦ None ]
                                  ]
                            ]
                      ]
                ]
          ]
    ]

-- The tokens of the rest of a text, of n parts at most. A text has len bytes, so len less what is left is the place of the rest.
unfoldable pub parts : Contents → ℕ → ℕ → List ℕ → Option (List Placed)
parts contents n len [] = Some []
parts contents zero len (c ∷ cs) = None
parts contents (suc n) len (c ∷ cs) = part contents (len - length (c ∷ cs)) (c ∷ cs) >>= λ x. parts contents n len x.1 >>= λ ys. Some (x.0 ++ ys)

-- The tokens of a text. A part has a character or more, so there are no more parts than characters. Of "(a $b)" they are
-- (Open, 0), (Word "a", 1), (Id "b", 3) and (Close, 5); of "a[" there are none.
abbrev pub tokens : Contents → List ℕ → Option (List Placed)
tokens contents text = parts contents (length text) (length text) text
