-- Scripts and their commands, as the definitions compute them. In `codes ".."`, `\"` is a quote of the text.
use Rattle.std.specs.Prelude.{ℕ, ◌≡◌, List, [], ◌∷◌, map, negsuc, pos, Option, Some, None, codes}
use Rattle.wast_base.specs.Ids.{source_id}
use Rattle.wat_grammar.specs.Parts.{◌>>=◌}
use Rattle.wat_tokens.specs.declared.tokens.Token.{Token}
use Rattle.wat_tokens.specs.declared.tokens.Token.TheVariants as token
use Rattle.wat_tokens.specs.declared.tokens.Placed.{Placed}
use Rattle.wat_tokens.specs.declared.words.Key.TheVariants as key
use Rattle.wat_syntax.specs.Tree.{Span, Id}
use Rattle.wat_syntax.specs.Tree.heap
use Rattle.wat_syntax.specs.Tree.index as by
use Rattle.wat_syntax.specs.Values.{text_of}
use Rattle.wat_syntax.specs.Worked.{num, named, quoted, the, toks, made}
use Rattle.wast_script.specs.Constants.{I32, F32, V128, RefNull, Either, values}
use Rattle.wast_script.specs.Grammar.{Kind, Module_, Register, Acts, Thread, ThreadEnd, Wait, Command, in_parentheses, script_of}
use Rattle.wast_script.specs.declared.commands.ActionKind.TheVariants as action_kind
use Rattle.wast_script.specs.declared.commands.ModuleForm.TheVariants as module_form
use Rattle.wast_script.specs.declared.values.Number.TheVariants as number
use Rattle.wast_script.specs.declared.values.Shape.TheVariants as shape
use Rattle.wast_script.specs.declared.words.Use.TheVariants as usage

-- a position, an id and a token at a position
abbrev pub at : ℕ → Span
at n = record { offset = n }

abbrev pub id_at : ℕ → List ℕ → Id
id_at n name = source_id (text_of name) (at n)

abbrev pub token_at : ℕ → Token → Placed
token_at n t = record { token = t; span = at n }

abbrev pub command_at : ℕ → Kind → Command
command_at n k = record { span = at n; kind = k }

-- the kinds of the commands of a text
abbrev pub kinds_of : List ℕ → Option (List Kind)
kinds_of text = script_of text >>= λ cs. Some (map (λ c. c.kind) cs)

-- `(i32.const -1)` is a value, and a NaN is one of a result alone. Of `(either (i32.const 1) (i32.const 2))` both are
-- alternatives, and `(either)` has none. The type of `(ref.null (exact 1))` is a heap type of the text format.
abbrev pub Values : Type 0
Values = (made (values usage.Argument (toks (token.Open ∷ num (codes "i32.const") ∷ num (codes "-1") ∷ token.Close ∷ []))) ≡ Some (I32 (negsuc 0) ∷ [], 0))
    × (made (values usage.Result (toks (token.Open ∷ num (codes "f32.const") ∷ num (codes "nan:canonical") ∷ token.Close ∷ [])))
    ≡ Some (F32 number.Canonical ∷ [], 0))
    × (made (values usage.Argument (toks (token.Open ∷ num (codes "f32.const") ∷ num (codes "nan:canonical") ∷ token.Close ∷ []))) ≡ None)
    × (made (values usage.Argument (toks (token.Open ∷ num (codes "v128.const") ∷ num (codes "i64x2") ∷ num (codes "1") ∷ num (codes "-1") ∷ token.Close ∷ [])))
    ≡ Some (V128 shape.I64x2 (number.Bits 1 ∷ number.Bits 18446744073709551615 ∷ []) ∷ [], 0))
    × (made (values usage.Result (toks (token.Open ∷ num (codes "either") ∷ token.Open ∷ num (codes "i32.const") ∷ num (codes "1") ∷ token.Close
    ∷ token.Open ∷ num (codes "i32.const") ∷ num (codes "2") ∷ token.Close ∷ token.Close ∷ []))) ≡ Some (Either 2 ∷ I32 (pos 1) ∷ I32 (pos 2) ∷ [], 0))
    × (made (values usage.Result (toks (token.Open ∷ num (codes "either") ∷ token.Close ∷ []))) ≡ None)
    × (made (values usage.Result (toks (token.Open ∷ num (codes "either") ∷ token.Open ∷ num (codes "either") ∷ token.Close ∷ token.Close ∷ []))) ≡ None)
    × (made (values usage.Argument (toks (token.Open ∷ num (codes "ref.null") ∷ token.Open ∷ the key.Exact ∷ num (codes "1") ∷ token.Close ∷ token.Close ∷ [])))
    ≡ Some (RefNull (Some (heap.Exact (by.Num 1 (at 4)))) ∷ [], 0))

-- A module is its tokens, without the word `definition`. Its strings are those of a binary module, or of one in quotes.
abbrev pub Modules : Type 0
Modules = (made (in_parentheses (toks
    (token.Open ∷ num (codes "module") ∷ named (codes "m") ∷ num (codes "quote") ∷ quoted (codes "(") ∷ token.Close ∷ num (codes "x") ∷ [])))
    ≡ Some (
      record {
        span = at 1;
        id = Some (id_at 2 (codes "m"));
        form = module_form.Quote;
        tokens = token_at 0 token.Open ∷ token_at 1 (num (codes "module")) ∷ token_at 2 (named (codes "m"))
            ∷ token_at 3 (num (codes "quote")) ∷ token_at 4 (quoted (codes "(")) ∷ token_at 5 token.Close ∷ [];
        strings = token_at 4 (quoted (codes "(")) ∷ [];
      },
      1,
    ))
    × (made (in_parentheses (toks (token.Open ∷ num (codes "module") ∷ token.Open ∷ token.Close ∷ []))) ≡ None)

-- Commands of texts. A text without a command is one module without its parentheses, and `(wait $t` has no `)`.
abbrev pub Scripts : Type 0
Scripts = (script_of (codes "(wait $t)") ≡ Some (command_at 1 (Wait (id_at 6 (codes "t"))) ∷ []))
    × (script_of (codes "(wait $t") ≡ None)
    × (script_of (codes "(wait $t))") ≡ None)
    × (kinds_of (codes "(register \"a\" $m)(wait $t)") ≡ Some (Register (codes "a") (Some (id_at 14 (codes "m"))) ∷ Wait (id_at 23 (codes "t")) ∷ []))
    × (kinds_of (codes "(thread $t (wait $u))") ≡ Some (Thread (id_at 8 (codes "t")) None ∷ Wait (id_at 17 (codes "u")) ∷ ThreadEnd ∷ []))
    × (kinds_of (codes "(invoke \"f\" (i32.const 7))")
    ≡ Some (Acts (record { span = at 1; kind = action_kind.Invoke; «module» = None; name = codes "f"; arguments = I32 (pos 7) ∷ [] }) ∷ []))
    × (kinds_of (codes "()") ≡ Some (Module_ (record {
      span = at 0;
      id = None;
      form = module_form.Fields;
      tokens = token_at 0 token.Open ∷ token_at 1 token.Close ∷ [];
      strings = [];
    }) ∷ []))
