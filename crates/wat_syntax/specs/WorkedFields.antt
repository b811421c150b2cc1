-- Fields with expressions, as the rules compute them.
use Rattle.std.specs.Prelude.{ℕ, ◌≡◌, true, false, pos, List, [], ◌∷◌, Some, None, codes}
use Rattle.wast_base.specs.Ids.{source_id}
use Rattle.wast_base.specs.declared.ids.Index.TheVariants as by
use Rattle.wat_tokens.specs.declared.words.Key.TheVariants as key
use Rattle.wat_tokens.specs.declared.words.Word.TheVariants as word
use Rattle.wat_tokens.specs.declared.words.OwnOp.TheVariants as own
use Rattle.wat_tokens.specs.declared.tokens.Token.{Token}
use Rattle.wat_tokens.specs.declared.tokens.Token.TheVariants as token
use Rattle.wat_syntax.specs.Tree.{Span, RefType, FunctionType, TypeUse, Expression, InlineExport}
use Rattle.wat_syntax.specs.Tree.value
use Rattle.wat_syntax.specs.Tree.heap
use Rattle.wat_syntax.specs.Tree.abstract
use Rattle.wat_syntax.specs.Tree.instr
use Rattle.wat_syntax.specs.Tree.bare
use Rattle.wat_syntax.specs.Tree.plain
use Rattle.wat_syntax.specs.Tree.func
use Rattle.wat_syntax.specs.Tree.table
use Rattle.wat_syntax.specs.Tree.memory
use Rattle.wat_syntax.specs.Tree.global
use Rattle.wat_syntax.specs.Tree.elem
use Rattle.wat_syntax.specs.Tree.payload
use Rattle.wat_syntax.specs.Tree.data_kind
use Rattle.wat_syntax.specs.Tree.bytes
use Rattle.wat_syntax.specs.Values.{text_of}
use Rattle.wat_syntax.specs.Segments.{elemfield, datafield}
use Rattle.wat_syntax.specs.Fields.{funcfield, tablefield, memoryfield, globalfield}
use Rattle.wat_syntax.specs.Worked.{the, num, named, quoted, toks, made}

-- the position of a token
abbrev at : ℕ → Span
at n = record { offset = n }

abbrev nop : Token
nop = token.Word (word.Plain (plain.Bare bare.nop)) (text_of [])

-- `(i32.const 7)`, and before other tokens
abbrev of_seven : Expression
of_seven = record { instrs = instr.i32_const (pos 7) ∷ []; branch_hints = [] }

abbrev with_seven : List Token → List Token
with_seven rest = token.Open ∷ token.Word (word.Own own.i32_const) (text_of []) ∷ num (codes "7") ∷ token.Close ∷ rest

-- the expression of function 0
abbrev of_function : Expression
of_function = record { instrs = instr.ref_func (by.Num 0 (at 4)) ∷ []; branch_hints = [] }

abbrev funcref : RefType
funcref = record { nullable = true; heap = heap.Abstract false abstract.Func }

abbrev externref : RefType
externref = record { nullable = true; heap = heap.Abstract false abstract.Extern }

abbrev no_exports : InlineExport
no_exports = record { names = [] }

abbrev no_type : TypeUse FunctionType
no_type = record { index = None; inline = None }

-- `func $f (local i32) nop`; `func (import "" "") (exact)` is imported; `func (exact)` is none, because no import is before it
abbrev pub Functions : Type 0
Functions = (made (funcfield (toks (the key.Func ∷ named (codes "f") ∷ token.Open ∷ the key.Local ∷ the key.I32 ∷ token.Close ∷ nop ∷ token.Close ∷ [])))
    ≡ Some (
      record {
        span = at 0;
        id = Some (source_id (text_of (codes "f")) (at 1));
        name = None;
        exports = no_exports;
        kind = func.Inline (record { id = None; name = None; ty = value.I32 } ∷ [])
            (record { instrs = instr.Plain (plain.Bare bare.nop) ∷ []; branch_hints = [] });
        ty = no_type;
      },
      1,
    ))
    × (made (funcfield (toks (the key.Func ∷ token.Open ∷ the key.Import ∷ quoted [] ∷ quoted []
    ∷ token.Close ∷ token.Open ∷ the key.Exact ∷ token.Close ∷ token.Close ∷ [])))
    ≡ Some (
      record {
        span = at 0;
        id = None;
        name = None;
        exports = no_exports;
        kind = func.Import (record { «module» = text_of []; field = text_of [] }) true;
        ty = no_type;
      },
      1,
    ))
    × (made (funcfield (toks (the key.Func ∷ token.Open ∷ the key.Exact ∷ token.Close ∷ token.Close ∷ []))) ≡ None)

-- `table 1 funcref`; `table funcref (elem 0)` has the function, and `table externref (elem 0)` an expression; `table 1` is none
abbrev pub Tables : Type 0
Tables = (made (tablefield (toks (the key.Table ∷ num (codes "1") ∷ the key.Funcref ∷ token.Close ∷ [])))
    ≡ Some (
      record {
        span = at 0;
        id = None;
        name = None;
        exports = no_exports;
        kind = table.Normal (record { limits = record { is64 = false; min = 1; max = None }; elem = funcref; shared = false }) None;
      },
      1,
    ))
    × (made (tablefield (toks (the key.Table ∷ the key.Funcref ∷ token.Open ∷ the key.Elem ∷ num (codes "0") ∷ token.Close ∷ [])))
    ≡ Some (
      record {
        span = at 0;
        id = None;
        name = None;
        exports = no_exports;
        kind = table.Inline funcref false false (payload.Indices (by.Num 0 (at 4) ∷ []));
      },
      0,
    ))
    × (made (tablefield (toks (the key.Table ∷ the key.Externref ∷ token.Open ∷ the key.Elem ∷ num (codes "0") ∷ token.Close ∷ [])))
    ≡ Some (
      record {
        span = at 0;
        id = None;
        name = None;
        exports = no_exports;
        kind = table.Inline externref false false (payload.Exprs externref (of_function ∷ []));
      },
      0,
    ))
    × (made (tablefield (toks (the key.Table ∷ num (codes "1") ∷ token.Close ∷ []))) ≡ None)

-- `memory i64 1`; `memory i64 (data "ab")`; `memory (i32.const 7)` is none
abbrev pub Memories : Type 0
Memories = (made (memoryfield (toks (the key.Memory ∷ the key.I64 ∷ num (codes "1") ∷ token.Close ∷ [])))
    ≡ Some (
      record {
        span = at 0;
        id = None;
        name = None;
        exports = no_exports;
        kind = memory.Normal (record { limits = record { is64 = true; min = 1; max = None }; shared = false; page_size_log2 = None });
      },
      1,
    ))
    × (made (memoryfield (toks (the key.Memory ∷ the key.I64 ∷ token.Open ∷ the key.Data ∷ quoted (codes "ab") ∷ token.Close ∷ [])))
    ≡ Some (record { span = at 0; id = None; name = None; exports = no_exports; kind = memory.Inline true (bytes.String (text_of (codes "ab")) ∷ []) None }, 0))
    × (made (memoryfield (toks (the key.Memory ∷ with_seven []))) ≡ None)

-- `global i32 (i32.const 7)`; an imported one has no value
abbrev pub Globals : Type 0
Globals = (made (globalfield (toks (the key.Global ∷ the key.I32 ∷ with_seven [])))
    ≡ Some (
      record {
        span = at 0;
        id = None;
        name = None;
        exports = no_exports;
        ty = record { ty = value.I32; mutable = false; shared = false };
        kind = global.Inline of_seven;
      },
      0,
    ))
    × (made (globalfield (toks (the key.Global ∷ token.Open ∷ the key.Import ∷ quoted [] ∷ quoted [] ∷ token.Close ∷ the key.I32 ∷ token.Close ∷ [])))
    ≡ Some (
      record {
        span = at 0;
        id = None;
        name = None;
        exports = no_exports;
        ty = record { ty = value.I32; mutable = false; shared = false };
        kind = global.Import (record { «module» = text_of []; field = text_of [] });
      },
      1,
    ))

-- `elem func 0` is passive; `elem declare func 0`; `elem (i32.const 7) 0` is active, with no table and without 'func', and
-- `elem (i32.const 7) externref` is that of table 0; `elem 0` is none, because an active one has an offset
abbrev pub Elements : Type 0
Elements = (made (elemfield (toks (the key.Elem ∷ the key.Func ∷ num (codes "0") ∷ token.Close ∷ [])))
    ≡ Some (record { span = at 0; id = None; name = None; kind = elem.Passive; payload = payload.Indices (by.Num 0 (at 2) ∷ []) }, 1))
    × (made (elemfield (toks (the key.Elem ∷ the key.Declare ∷ the key.Func ∷ num (codes "0") ∷ token.Close ∷ [])))
    ≡ Some (record { span = at 0; id = None; name = None; kind = elem.Declared; payload = payload.Indices (by.Num 0 (at 3) ∷ []) }, 1))
    × (made (elemfield (toks (the key.Elem ∷ with_seven (num (codes "0") ∷ token.Close ∷ []))))
    ≡ Some (record { span = at 0; id = None; name = None; kind = elem.Active None of_seven; payload = payload.Indices (by.Num 0 (at 5) ∷ []) }, 1))
    × (made (elemfield (toks (the key.Elem ∷ with_seven (the key.Externref ∷ with_seven (token.Close ∷ [])))))
    ≡ Some (
      record {
        span = at 0;
        id = None;
        name = None;
        kind = elem.Active (Some (by.Num 0 (at 0))) of_seven;
        payload = payload.Exprs externref (of_seven ∷ []);
      },
      1,
    ))
    × (made (elemfield (toks (the key.Elem ∷ num (codes "0") ∷ token.Close ∷ []))) ≡ None)

-- `data "a" (i16 1 -2)` is passive; `data (memory 1) (i32.const 7) "a"` is active; `data (v128)` is none
abbrev pub Bytes : Type 0
Bytes = (made (datafield
    (toks (the key.Data ∷ quoted (codes "a") ∷ token.Open ∷ the key.I16 ∷ num (codes "1") ∷ num (codes "-2") ∷ token.Close ∷ token.Close ∷ [])))
    ≡ Some (
      record {
        span = at 0;
        id = None;
        name = None;
        kind = data_kind.Passive;
        bytes = bytes.String (text_of (codes "a")) ∷ bytes.Integral (1 ∷ 0 ∷ 0xfe ∷ 0xff ∷ []) ∷ [];
      },
      1,
    ))
    × (made (datafield (toks (the key.Data ∷ token.Open ∷ the key.Memory ∷ num (codes "1") ∷ token.Close ∷ with_seven (quoted (codes "a") ∷ token.Close ∷ []))))
    ≡ Some (
      record {
        span = at 0;
        id = None;
        name = None;
        kind = data_kind.Active (by.Num 1 (at 3)) of_seven;
        bytes = bytes.String (text_of (codes "a")) ∷ [];
      },
      1,
    ))
    × (made (datafield (toks (the key.Data ∷ token.Open ∷ the key.V128 ∷ token.Close ∷ token.Close ∷ []))) ≡ None)
