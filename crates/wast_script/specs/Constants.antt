-- Arguments of actions, and what results have to be (test scripts: const, result).
--
--   (i32.const -1)                            I32 (negsuc 0)
--   (f32.const nan:canonical)                 F32 number.Canonical, of a result alone
--   (v128.const i64x2 1 2)                    V128 shape.I64x2 (number.Bits 1 ∷ number.Bits 2 ∷ [])
--   (either (i32.const 1) (i32.const 2))      Either 2, and the two values after it
use Rattle.std.specs.Prelude.{ℕ, zero, suc, Bool, true, false, ◌&&◌, List, [], ◌∷◌, length, ℤ, Option, None, Some, option_map, bytes_eq, codes}
use Rattle.std.specs.Float.{Format, binary32, binary64}
use Rattle.wat_grammar.specs.Parts.{◌>>=◌}
use Rattle.wat_grammar.specs.Integers.{integer}
use Rattle.wat_grammar.specs.Floats.{fN}
use Rattle.wat_tokens.specs.declared.tokens.Token.{Token}
use Rattle.wat_tokens.specs.declared.tokens.Token.TheVariants as token
use Rattle.wat_syntax.specs.Tree.{Index, HeapType}
use Rattle.wat_syntax.specs.Tree.heap
use Rattle.wat_syntax.specs.Tokens.{Toks, Parse, peek, after, count, is_lparen, is_rparen, lparen, rparen, many_lists}
use Rattle.wat_syntax.specs.Values.{number, u32, is_number, index}
use Rattle.wat_syntax.specs.Types.{heaptype}
use Rattle.wat_syntax.specs.Instructions.{signed_number, times}
use Rattle.wast_script.specs.Words.{constant_named, shape_named}
use Rattle.wast_script.specs.declared.words.Use.{Use}
use Rattle.wast_script.specs.declared.words.Use.TheVariants as usage
use Rattle.wast_script.specs.declared.values.Number.{Number}
use Rattle.wast_script.specs.declared.values.Number.TheVariants as num
use Rattle.wast_script.specs.declared.values.Shape.{Shape}
use Rattle.wast_script.specs.declared.values.Shape.TheVariants as shape
use Rattle.wast_script.specs.declared.words.Constant.{Constant}
use Rattle.wast_script.specs.declared.words.Constant.TheVariants as constant

-- a value, with the lanes of a vector
pub data Value : Type 0 where
  I32 : ℤ → Value
  I64 : ℤ → Value
  F32 : Number → Value
  F64 : Number → Value
  V128 : Shape → List Number → Value
  RefNull : Option HeapType → Value
  RefExtern : Option ℕ → Value
  RefHost : ℕ → Value
  RefFunc : Option Index → Value
  Ref : HeapType → Value
  Either : ℕ → Value

-- the text of a word; a word that no module has is one of the other tokens
abbrev pub word_in : Option Token → Option (List ℕ)
word_in (Some (token.Word w text)) = Some text.now
word_in (Some (token.Other text)) = Some text.now
word_in t = None

-- whether a word is this one
abbrev pub is_same_word : List ℕ → Option (List ℕ) → Bool
is_same_word word None = false
is_same_word word (Some found) = bytes_eq found word

abbrev pub is_word : List ℕ → Option Token → Bool
is_word word t = is_same_word word (word_in t)

-- a word, and '(' with a word
abbrev pub the_word : List ℕ → Toks → Option Toks
the_word word toks = elim (is_word word (peek 0 toks)) [ true ↦ Some (after toks) | false ↦ None ]

abbrev pub is_form : List ℕ → Toks → Bool
is_form word toks = is_lparen (peek 0 toks) && is_word word (peek 1 toks)

abbrev pub form : List ℕ → Toks → Option Toks
form word toks = elim (is_form word toks) [ true ↦ Some (after (after toks)) | false ↦ None ]

-- a word that means something, by what each word means
abbrev pub word_that : {T : Type 0} → (List ℕ → Option T) → Toks → Parse T
word_that meaning toks = word_in (peek 0 toks) >>= λ w. meaning w >>= λ x. Some (x, after toks)

-- numpat ::= num | 'nan:canonical' | 'nan:arithmetic': the second and the third of a result alone
abbrev pub nan_of : Use → List ℕ → Option Number
nan_of usage.Argument text = None
nan_of usage.Result text = elim (bytes_eq text (codes "nan:canonical")) [
  | true ↦ Some num.Canonical
  | false ↦ elim (bytes_eq text (codes "nan:arithmetic")) [ true ↦ Some num.Arithmetic | false ↦ None ]
]

abbrev pub float_of : Format → Use → List ℕ → Option Number
float_of f u text = elim (nan_of u text) [ Some n ↦ Some n | None ↦ option_map num.Bits (fN f text) ]

-- a lane of a vector (text format: vector instructions)
abbrev pub lane_of : Shape → Use → List ℕ → Option Number
lane_of shape.I8x16 u text = option_map num.Bits (integer 8 text)
lane_of shape.I16x8 u text = option_map num.Bits (integer 16 text)
lane_of shape.I32x4 u text = option_map num.Bits (integer 32 text)
lane_of shape.I64x2 u text = option_map num.Bits (integer 64 text)
lane_of shape.F32x4 u text = float_of binary32 u text
lane_of shape.F64x2 u text = float_of binary64 u text

abbrev pub lane_count : Shape → ℕ
lane_count shape.I8x16 = 16
lane_count shape.I16x8 = 8
lane_count shape.I32x4 = 4
lane_count shape.F32x4 = 4
lane_count shape.I64x2 = 2
lane_count shape.F64x2 = 2

abbrev pub lanes : Shape → Use → Toks → Parse (List Number)
lanes s u toks = times (lane_count s) (number (lane_of s u)) toks

-- shape and lanes, as `i64x2 1 2`
abbrev pub vector : Use → Toks → Parse Value
vector u toks = word_that shape_named toks >>= λ s. lanes s.0 u s.1 >>= λ ns. Some (V128 s.0 ns.0, ns.1)

-- a part that may be left out: it is there if a test of the tokens says so
abbrev pub unless : {T : Type 0} → Bool → (Toks → Parse T) → Toks → Parse (Option T)
unless is_absent part toks = elim is_absent [ true ↦ Some (None, toks) | false ↦ part toks >>= λ x. Some (Some x.0, x.1) ]

-- the type of a null reference, which a result may leave out
abbrev pub null_type : Use → Toks → Parse (Option HeapType)
null_type usage.Result toks = unless (is_rparen (peek 0 toks)) heaptype toks
null_type usage.Argument toks = unless false heaptype toks

-- the number of a host's reference, which a result may leave out
abbrev pub host_number : Use → Toks → Parse (Option ℕ)
host_number usage.Result toks = elim (is_number (peek 0 toks)) [ true ↦ unless false u32 toks | false ↦ Some (None, toks) ]
host_number usage.Argument toks = unless false u32 toks

-- the function of a reference, which may be left out
abbrev pub function_index : Toks → Parse (Option Index)
function_index toks = unless (is_rparen (peek 0 toks)) index toks

-- a value after its word
abbrev pub constant_of : Constant → Use → Toks → Parse Value
constant_of constant.I32 u toks = signed_number 32 toks >>= λ n. Some (I32 n.0, n.1)
constant_of constant.I64 u toks = signed_number 64 toks >>= λ n. Some (I64 n.0, n.1)
constant_of constant.F32 u toks = number (float_of binary32 u) toks >>= λ n. Some (F32 n.0, n.1)
constant_of constant.F64 u toks = number (float_of binary64 u) toks >>= λ n. Some (F64 n.0, n.1)
constant_of constant.V128 u toks = vector u toks
constant_of constant.RefNull u toks = null_type u toks >>= λ t. Some (RefNull t.0, t.1)
constant_of constant.RefExtern u toks = host_number u toks >>= λ n. Some (RefExtern n.0, n.1)
constant_of constant.RefHost u toks = u32 toks >>= λ n. Some (RefHost n.0, n.1)
constant_of constant.RefFunc u toks = function_index toks >>= λ x. Some (RefFunc x.0, x.1)
constant_of (constant.Ref ht shared) u toks = Some (Ref (heap.Abstract shared ht), toks)

-- references to a function, and any of a type, are results alone
abbrev pub allowed : Use → Constant → Option Constant
allowed usage.Argument constant.RefFunc = None
allowed usage.Argument (constant.Ref ht shared) = None
allowed u c = Some c

abbrev pub value_named : Use → List ℕ → Option Constant
value_named u word = constant_named word >>= allowed u

abbrev pub value_word : Use → Option Token → Option Constant
value_word u t = word_in t >>= value_named u

abbrev pub next_constant : Use → Toks → Parse Constant
next_constant u toks = word_that (value_named u) toks

-- '(' .. ')': a value in its parentheses
abbrev pub value : Use → Toks → Parse Value
value u toks = lparen toks >>= λ t. next_constant u t >>= λ c. constant_of c.0 u c.1 >>= λ v. rparen v.1 >>= λ rest. Some (v.0, rest)

-- '(' 'either', if something is in it: a result has to be one of its alternatives, so it has one
abbrev pub either_form : Toks → Option Toks
either_form toks = elim (is_rparen (peek 2 toks)) [ true ↦ None | false ↦ form (codes "either") toks ]

-- The alternatives of `either`, to the ')' of the outermost of so many. An `either` in another is one with it, because both are for a
-- result that is one of their values. A step takes a token or more, so n steps are enough for n tokens.
abbrev pub alternatives : ℕ → ℕ → Toks → Parse (List Value)
alternatives n zero toks = Some ([], toks)
alternatives zero (suc depth) toks = None
alternatives (suc n) (suc depth) toks = elim (is_rparen (peek 0 toks)) [
  | true ↦ alternatives n depth (after toks)
  | false ↦ elim (either_form toks) [
    | Some t ↦ alternatives n (suc (suc depth)) t
    | None ↦ value usage.Result toks >>= λ v. alternatives n (suc depth) v.1 >>= λ vs. Some (v.0 ∷ vs.0, vs.1)
  ]
]

abbrev pub all_alternatives : Toks → Parse (List Value)
all_alternatives toks = alternatives (count toks) 1 toks

-- '(' 'either' .. ')', after its word
abbrev pub either : Toks → Parse (List Value)
either toks = all_alternatives toks >>= λ vs. Some (Either (length vs.0) ∷ vs.0, vs.1)

abbrev pub one_value : Use → Toks → Parse (List Value)
one_value u toks = value u toks >>= λ v. Some (v.0 ∷ [], v.1)

-- const | result: the values that an argument or a result is
abbrev pub argument_or_result : Use → Toks → Parse (List Value)
argument_or_result usage.Argument toks = one_value usage.Argument toks
argument_or_result usage.Result toks = elim (either_form toks) [ Some t ↦ either t | None ↦ one_value usage.Result toks ]

abbrev pub is_form_next : Toks → Bool
is_form_next toks = is_lparen (peek 0 toks)

-- const* | result*
abbrev pub values : Use → Toks → Parse (List Value)
values u toks = many_lists is_form_next (argument_or_result u) (count toks) toks
