-- Values and types, as the rules compute them.
use Rattle.std.specs.Prelude.{ℕ, ◌≡◌, true, false, [], ◌∷◌, Some, None, codes}
use Rattle.wast_base.specs.Ids.{source_id, text_start}
use Rattle.wast_base.specs.declared.ids.Index.TheVariants as by
use Rattle.wat_tokens.specs.declared.words.Key.TheVariants as key
use Rattle.wat_tokens.specs.declared.tokens.Token.TheVariants as token
use Rattle.wat_tokens.specs.declared.tokens.Annotation.TheVariants as annotation
use Rattle.wat_syntax.specs.Tree.{Span}
use Rattle.wat_syntax.specs.Tree.value
use Rattle.wat_syntax.specs.Tree.heap
use Rattle.wat_syntax.specs.Tree.abstract
use Rattle.wat_syntax.specs.Tree.storage
use Rattle.wat_syntax.specs.Tree.inner
use Rattle.wat_syntax.specs.Values.{u32, string, name, name_annotation, index, index_or_zero, text_of}
use Rattle.wat_syntax.specs.Types.{heaptype, reftype, valtype, fieldtype, functype, comptype, subtype}
use Rattle.wat_syntax.specs.Types.{limits, addrtype, tabletype, memtype, globaltype, typeuse}
use Rattle.wat_syntax.specs.Worked.{the, num, named, quoted, toks, made}

-- the position of a token
abbrev at : ℕ → Span
at n = record { offset = n }

-- `4`, `$x`, and `i32`, which is no number; `)` is no name; an index that is left out is 0
abbrev pub Values : Type 0
Values = (made (u32 (toks (num (codes "4") ∷ token.Close ∷ []))) ≡ Some (4, 1)) × (made (u32 (toks (the key.I32 ∷ []))) ≡ None)
    × (made (index (toks (named (codes "x") ∷ []))) ≡ Some (by.Id (source_id (text_of (codes "x")) text_start), 0))
    × (made (index (toks (num (codes "0x10") ∷ []))) ≡ Some (by.Num 16 text_start, 0)) × (made (index (toks (num (codes "+1") ∷ []))) ≡ None)
    × (made (index_or_zero (toks (token.Close ∷ []))) ≡ Some (by.Num 0 text_start, 1))
    × (made (string (toks (quoted (codes "a") ∷ []))) ≡ Some (text_of (codes "a"), 0)) × (made (name (toks (token.Close ∷ []))) ≡ None)
    × (made (name_annotation (toks (token.Close ∷ []))) ≡ Some (None, 1))
    × (made (name_annotation (toks (token.Annotation annotation.Name ∷ token.Close ∷ []))) ≡ None)

-- `func`, `1`, `(exact 1)`, `(ref null any)`, `anyref`; `(ref)`, `(func)` and `i32` are no reference types
abbrev pub References : Type 0
References = (made (heaptype (toks (the key.Func ∷ []))) ≡ Some (heap.Abstract false abstract.Func, 0))
    × (made (heaptype (toks (num (codes "1") ∷ []))) ≡ Some (heap.Concrete (by.Num 1 text_start), 0))
    × (made (heaptype (toks (token.Open ∷ the key.Exact ∷ num (codes "1") ∷ token.Close ∷ []))) ≡ Some (heap.Exact (by.Num 1 (at 2)), 0))
    × (made (reftype (toks (token.Open ∷ the key.Ref ∷ the key.Null ∷ the key.Any ∷ token.Close ∷ [])))
    ≡ Some (record { nullable = true; heap = heap.Abstract false abstract.Any }, 0))
    × (made (reftype (toks (the key.Anyref ∷ []))) ≡ Some (record { nullable = true; heap = heap.Abstract false abstract.Any }, 0))
    × (made (reftype (toks (token.Open ∷ the key.Ref ∷ token.Close ∷ []))) ≡ None)
    × (made (reftype (toks (token.Open ∷ the key.Func ∷ token.Close ∷ []))) ≡ None) × (made (reftype (toks (the key.I32 ∷ []))) ≡ None)
    × (made (valtype (toks (the key.I32 ∷ []))) ≡ Some (value.I32, 0)) × (made (valtype (toks (the key.I8 ∷ []))) ≡ None)

-- `(mut i8)`, `(param $x i32) (param i64 i64) (result f32)`; `(param $x i32 i64)` has an id for two, and
-- `(param i32)` is not after `(result i32)`
abbrev pub Composites : Type 0
Composites = (made (fieldtype (toks (token.Open ∷ the key.Mut ∷ the key.I8 ∷ token.Close ∷ []))) ≡ Some ((true, storage.I8), 0))
    × (made (fieldtype (toks (token.Open ∷ the key.Mut ∷ token.Close ∷ []))) ≡ None)
    × (made (functype true (toks (token.Open ∷ the key.Param ∷ named (codes "x") ∷ the key.I32
    ∷ token.Close ∷ token.Open ∷ the key.Param ∷ the key.I64 ∷ the key.I64 ∷ token.Close
    ∷ token.Open ∷ the key.Result ∷ the key.F32 ∷ token.Close ∷ [])))
    ≡ Some (
      record {
        params = (Some (source_id (text_of (codes "x")) (at 2)), None, value.I32)
            ∷ (None, None, value.I64) ∷ (None, None, value.I64) ∷ [];
        results = value.F32 ∷ [];
      },
      0,
    ))
    × (made (functype true (toks (token.Open ∷ the key.Param ∷ named (codes "x") ∷ the key.I32 ∷ the key.I64 ∷ token.Close ∷ []))) ≡ None)
    × (made (functype false (toks (token.Open ∷ the key.Param ∷ named (codes "x") ∷ the key.I32 ∷ token.Close ∷ []))) ≡ None)
    × (made (functype true
    (toks (token.Open ∷ the key.Result ∷ the key.I32 ∷ token.Close ∷ token.Open ∷ the key.Param ∷ the key.I32 ∷ token.Close ∷ []))) ≡ None)
    × (made (comptype (toks (token.Open ∷ the key.Array ∷ the key.I8 ∷ token.Close ∷ [])))
    ≡ Some (inner.Array (record { mutable = false; ty = storage.I8 }), 0))
    × (made (subtype (toks (token.Open ∷ the key.Sub ∷ num (codes "0") ∷ token.Open ∷ the key.Struct ∷ token.Close ∷ token.Close ∷ [])))
    ≡ Some (
      record {
        kind = inner.Struct (record { fields = [] });
        shared = false;
        parents = by.Num 0 (at 2) ∷ [];
        descriptor = None;
        describes = None;
        final_type = Some false;
      },
      0,
    ))
    × (made (subtype (toks (token.Open ∷ the key.Sub ∷ token.Close ∷ []))) ≡ None)

-- `1 2`, `i64 1`; `2 funcref` has no maximum; `(pagesize 2)` is 2^1, and 3 is no page size; `(mut i32)`; `(type 0) (result i32)`
abbrev pub Externals : Type 0
Externals = (made (limits false (toks (num (codes "1") ∷ num (codes "2") ∷ []))) ≡ Some (record { is64 = false; min = 1; max = Some 2 }, 0))
    × (made (addrtype (toks (the key.I32 ∷ the key.I64 ∷ []))) ≡ Some (false, 1))
    × (made (tabletype (toks (num (codes "2") ∷ the key.Funcref ∷ []))) ≡ Some (
      record {
        limits = record { is64 = false; min = 2; max = None };
        elem = record { nullable = true; heap = heap.Abstract false abstract.Func };
        shared = false;
      },
      0,
    ))
    × (made (tabletype (toks (the key.Funcref ∷ []))) ≡ None)
    × (made (memtype (toks (the key.I64 ∷ num (codes "1") ∷ token.Open ∷ the key.Pagesize ∷ num (codes "2") ∷ token.Close ∷ [])))
    ≡ Some (record { limits = record { is64 = true; min = 1; max = None }; shared = false; page_size_log2 = Some 1 }, 0))
    × (made (memtype (toks (num (codes "1") ∷ token.Open ∷ the key.Pagesize ∷ num (codes "3") ∷ token.Close ∷ []))) ≡ None)
    × (made (globaltype (toks (token.Open ∷ the key.Mut ∷ the key.I32 ∷ token.Close ∷ [])))
    ≡ Some (record { ty = value.I32; mutable = true; shared = false }, 0))
    × (made (typeuse false (toks (token.Open ∷ the key.Ty ∷ num (codes "0") ∷ token.Close ∷ token.Open ∷ the key.Result ∷ the key.I32 ∷ token.Close ∷ [])))
    ≡ Some (record { index = Some (by.Num 0 (at 2)); inline = Some (record { params = []; results = value.I32 ∷ [] }) }, 0))
    × (made (typeuse false (toks (token.Close ∷ []))) ≡ Some (record { index = None; inline = None }, 1))
