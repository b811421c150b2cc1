-- The words of scripts that are no words of modules, and what each means (test scripts). A word is a token by its text, so `module` is
-- the same word in a script and in a module.
--
--   verb_named (codes "register")     Some verb.Register
--   verb_named (codes "func")         None
use Rattle.std.specs.Prelude.{ℕ, true, false, List, [], ◌∷◌, Option, None, Some, bytes_eq, codes}
use Rattle.wat_syntax.specs.Tree.abstract
use Rattle.wast_script.specs.declared.values.Shape.{Shape}
use Rattle.wast_script.specs.declared.values.Shape.TheVariants as shape
use Rattle.wast_script.specs.declared.words.Verb.{Verb}
use Rattle.wast_script.specs.declared.words.Verb.TheVariants as verb
use Rattle.wast_script.specs.declared.words.Constant.{Constant}
use Rattle.wast_script.specs.declared.words.Constant.TheVariants as constant

-- what a word means by a table, if it is in the table
abbrev pub meaning_in : {T : Type 0} → List (List ℕ × T) → List ℕ → Option T
meaning_in [] word = None
meaning_in (e ∷ es) word = elim (bytes_eq word e.0) [ true ↦ Some e.1 | false ↦ meaning_in es word ]

-- the words that begin commands
abbrev pub verbs : List (List ℕ × Verb)
verbs = (codes "module", verb.Module)
    ∷ (codes "register", verb.Register)
    ∷ (codes "invoke", verb.Invoke)
    ∷ (codes "get", verb.Get)
    ∷ (codes "assert_return", verb.AssertReturn)
    ∷ (codes "assert_trap", verb.AssertTrap)
    ∷ (codes "assert_exhaustion", verb.AssertExhaustion)
    ∷ (codes "assert_exception", verb.AssertException)
    ∷ (codes "assert_suspension", verb.AssertSuspension)
    ∷ (codes "assert_malformed", verb.AssertMalformed)
    ∷ (codes "assert_malformed_custom", verb.AssertMalformedCustom)
    ∷ (codes "assert_invalid", verb.AssertInvalid)
    ∷ (codes "assert_invalid_custom", verb.AssertInvalidCustom)
    ∷ (codes "assert_unlinkable", verb.AssertUnlinkable)
    ∷ (codes "thread", verb.Thread)
    ∷ (codes "wait", verb.Wait)
    ∷ []

abbrev pub verb_named : List ℕ → Option Verb
verb_named word = meaning_in verbs word

-- the words that begin values
abbrev pub constants : List (List ℕ × Constant)
constants = (codes "i32.const", constant.I32)
    ∷ (codes "i64.const", constant.I64)
    ∷ (codes "f32.const", constant.F32)
    ∷ (codes "f64.const", constant.F64)
    ∷ (codes "v128.const", constant.V128)
    ∷ (codes "ref.null", constant.RefNull)
    ∷ (codes "ref.extern", constant.RefExtern)
    ∷ (codes "ref.host", constant.RefHost)
    ∷ (codes "ref.func", constant.RefFunc)
    ∷ (codes "ref.any", constant.Ref abstract.Any false)
    ∷ (codes "ref.eq", constant.Ref abstract.Eq false)
    ∷ (codes "ref.i31", constant.Ref abstract.I31 false)
    ∷ (codes "ref.i31_shared", constant.Ref abstract.I31 true)
    ∷ (codes "ref.struct", constant.Ref abstract.Struct false)
    ∷ (codes "ref.array", constant.Ref abstract.Array false)
    ∷ []

abbrev pub constant_named : List ℕ → Option Constant
constant_named word = meaning_in constants word

-- shape ::= 'i8x16' | 'i16x8' | .. (text format: vector instructions)
abbrev pub shapes : List (List ℕ × Shape)
shapes = (codes "i8x16", shape.I8x16)
    ∷ (codes "i16x8", shape.I16x8)
    ∷ (codes "i32x4", shape.I32x4)
    ∷ (codes "i64x2", shape.I64x2)
    ∷ (codes "f32x4", shape.F32x4)
    ∷ (codes "f64x2", shape.F64x2)
    ∷ []

abbrev pub shape_named : List ℕ → Option Shape
shape_named word = meaning_in shapes word
