-- Types (text format: types), in the order of the specification. Beside the types of version 3.0 there are those of proposals that
-- `wast` reads: shared types (shared-everything threads), exact types, `describes` and `descriptor` (custom descriptors),
-- continuations (stack switching), exceptions of the old proposal, and page sizes.
use Rattle.std.specs.Prelude.{ℕ, ◌||◌, ◌&&◌, not, Bool, true, false, if◌then◌else◌, List, [], ◌∷◌, Option, None, Some, is_some}
use Rattle.std.specs.Int.{is_power_of_two, trailing_zeros, w64}
use Rattle.wat_syntax.specs.Tree.{Id, Index, NameAnnotation, ValType, RefType, HeapType, AbstractHeapType, StorageType, StructField}
use Rattle.wat_syntax.specs.Tree.{StructType, FunctionType, TypeUse, InnerTypeKind, TypeDef, Rec, Limits, TableType, MemoryType, GlobalType}
use Rattle.wat_syntax.specs.Tree.value
use Rattle.wat_syntax.specs.Tree.heap
use Rattle.wat_syntax.specs.Tree.abstract
use Rattle.wat_syntax.specs.Tree.storage
use Rattle.wat_syntax.specs.Tree.inner
use Rattle.wat_syntax.specs.Tree.ty
use Rattle.wat_grammar.specs.Parts.{◌>>=◌}
use Rattle.wat_tokens.specs.declared.words.Key.{Key}
use Rattle.wat_tokens.specs.declared.words.Key.TheVariants as key
use Rattle.wat_syntax.specs.Tokens.{Toks, Parse, peek, after, position, count, is_lparen, is_end, key_of, lparen}
use Rattle.wat_syntax.specs.Tokens.{rparen, keyword, is_form, form, keyword_in, optional, is_there, many, many_lists}
use Rattle.wat_syntax.specs.Values.{u64, is_number, id, name_annotation, index, is_index}

-- numtype ::= 'i32' | 'i64' | 'f32' | 'f64', and vectype ::= 'v128' (text format: number types, vector types)
abbrev pub numtype_or_vectype : Key → Option ValType
numtype_or_vectype key.I32 = Some value.I32
numtype_or_vectype key.I64 = Some value.I64
numtype_or_vectype key.F32 = Some value.F32
numtype_or_vectype key.F64 = Some value.F64
numtype_or_vectype key.V128 = Some value.V128
numtype_or_vectype k = None

-- absheaptype ::= 'any' | 'eq' | .. (text format: heap types)
abbrev pub absheaptype : Key → Option AbstractHeapType
absheaptype key.Any = Some abstract.Any
absheaptype key.Eq = Some abstract.Eq
absheaptype key.I31 = Some abstract.I31
absheaptype key.Struct = Some abstract.Struct
absheaptype key.Array = Some abstract.Array
absheaptype key.None = Some abstract.None
absheaptype key.Func = Some abstract.Func
absheaptype key.Nofunc = Some abstract.NoFunc
absheaptype key.Exn = Some abstract.Exn
absheaptype key.Noexn = Some abstract.NoExn
absheaptype key.Extern = Some abstract.Extern
absheaptype key.Noextern = Some abstract.NoExtern
absheaptype key.Cont = Some abstract.Cont
absheaptype key.Nocont = Some abstract.NoCont
absheaptype k = None

-- '(' 'shared' ht:absheaptype ')' | '(' 'exact' x:typeidx ')'
abbrev pub heaptype_form : Toks → Parse HeapType
heaptype_form toks = elim (form key.Shared toks) [
  | Some t ↦ keyword_in absheaptype t >>= λ ht. rparen ht.1 >>= λ rest. Some (heap.Abstract true ht.0, rest)
  | None ↦ form key.Exact toks >>= λ t. index t >>= λ x. rparen x.1 >>= λ rest. Some (heap.Exact x.0, rest)
]

-- heaptype ::= ht:absheaptype ⇒ ht | x:typeidx ⇒ x | .. (text format: heap types)
abbrev pub heaptype : Toks → Parse HeapType
heaptype toks = elim (keyword_in absheaptype toks) [
  | Some ht ↦ Some (heap.Abstract false ht.0, ht.1)
  | None ↦ elim (is_lparen (peek 0 toks)) [
    | true ↦ heaptype_form toks
    | false ↦ index toks >>= λ x. Some (heap.Concrete x.0, x.1)
  ]
]

-- 'anyref' ≡ '(' 'ref' 'null' 'any' ')', and so on (text format: reference types: abbreviations): the heap type
abbrev pub refword : Key → Option AbstractHeapType
refword key.Anyref = Some abstract.Any
refword key.Eqref = Some abstract.Eq
refword key.I31ref = Some abstract.I31
refword key.Structref = Some abstract.Struct
refword key.Arrayref = Some abstract.Array
refword key.Nullref = Some abstract.None
refword key.Funcref = Some abstract.Func
refword key.Nullfuncref = Some abstract.NoFunc
refword key.Exnref = Some abstract.Exn
refword key.Nullexnref = Some abstract.NoExn
refword key.Externref = Some abstract.Extern
refword key.Nullexternref = Some abstract.NoExtern
refword key.Contref = Some abstract.Cont
refword key.Nullcontref = Some abstract.NoCont
refword k = None

-- '(' 'shared' 'anyref' ')' ≡ '(' 'ref' 'null' '(' 'shared' 'any' ')' ')', and so on: after '(' 'shared'
abbrev pub shared_reftype : Toks → Parse RefType
shared_reftype toks =
    keyword_in refword toks >>= λ ht. rparen ht.1 >>= λ rest.
    Some (record { nullable = true; heap = heap.Abstract true ht.0 }, rest)

-- '(' 'ref' 'null'? ht:heaptype ')'
abbrev pub reftype_form : Toks → Parse RefType
reftype_form toks =
    form key.Ref toks >>= λ t. is_there (keyword key.Null) t >>= λ null. heaptype null.1 >>= λ ht. rparen ht.1 >>= λ rest.
    Some (record { nullable = null.0; heap = ht.0 }, rest)

-- reftype ::= '(' 'ref' ht:heaptype ')' ⇒ ref ht | '(' 'ref' 'null' ht:heaptype ')' ⇒ ref null ht (text format: reference types)
abbrev pub reftype : Toks → Parse RefType
reftype toks = elim (keyword_in refword toks) [
  | Some ht ↦ Some (record { nullable = true; heap = heap.Abstract false ht.0 }, ht.1)
  | None ↦ elim (form key.Shared toks) [ Some t ↦ shared_reftype t | None ↦ reftype_form toks ]
]

-- whether a reference type is next
abbrev pub is_reftype : Toks → Bool
is_reftype toks = elim (key_of (peek 0 toks)) [
  | Some k ↦ is_some (refword k)
  | None ↦ is_form key.Ref toks || is_form key.Shared toks
]

-- valtype ::= t:numtype ⇒ t | t:vectype ⇒ t | t:reftype ⇒ t (text format: value types)
abbrev pub valtype : Toks → Parse ValType
valtype toks = elim (keyword_in numtype_or_vectype toks) [
  | Some t ↦ Some t
  | None ↦ reftype toks >>= λ t. Some (value.Ref t.0, t.1)
]

-- whether the form goes on
abbrev pub goes_on : Toks → Bool
goes_on toks = not (is_end (peek 0 toks))

-- t*:valtype*, up to the end of the form
abbrev pub valtypes : Toks → Parse (List ValType)
valtypes toks = many goes_on valtype (count toks) toks

-- storagetype ::= t:valtype ⇒ t | t:packtype ⇒ t; packtype ::= 'i8' | 'i16' (text format: composite types)
abbrev pub storagetype : Toks → Parse StorageType
storagetype toks = elim (keyword key.I8 toks) [
  | Some rest ↦ Some (storage.I8, rest)
  | None ↦ elim (keyword key.I16 toks) [
    | Some rest ↦ Some (storage.I16, rest)
    | None ↦ valtype toks >>= λ t. Some (storage.Val t.0, t.1)
  ]
]

-- fieldtype ::= t:storagetype ⇒ t | '(' 'mut' t:storagetype ')' ⇒ mut t: whether it is mutable, and its type
abbrev pub fieldtype : Toks → Parse (Bool × StorageType)
fieldtype toks = elim (form key.Mut toks) [
  | Some t ↦ storagetype t >>= λ ty. rparen ty.1 >>= λ rest. Some ((true, ty.0), rest)
  | None ↦ storagetype toks >>= λ ty. Some ((false, ty.0), ty.1)
]

-- a parameter without an id
abbrev pub unnamed_param : Toks → Parse (Option Id × Option NameAnnotation × ValType)
unnamed_param toks = valtype toks >>= λ t. Some ((None, None, t.0), t.1)

-- '(' 'param' t*:valtype* ')' ≡ ('(' 'param' t:valtype ')')*: after '(' 'param'
abbrev pub unnamed_params : Toks → Parse (List (Option Id × Option NameAnnotation × ValType))
unnamed_params toks = many goes_on unnamed_param (count toks) toks

-- param ::= '(' 'param' id? t:valtype ')' ⇒ t, after '(' 'param': one with an id or a name annotation, or any number without
abbrev pub named_params : Toks → Parse (List (Option Id × Option NameAnnotation × ValType))
named_params toks = optional id toks >>= λ x. name_annotation x.1 >>= λ n. elim (is_some x.0 || is_some n.0) [
  | true ↦ valtype n.1 >>= λ t. Some ((x.0, n.0, t.0) ∷ [], t.1)
  | false ↦ unnamed_params n.1
]

-- Only the parameters of types and functions can have ids, those of blocks and calls cannot.
abbrev pub params : Bool → Toks → Parse (List (Option Id × Option NameAnnotation × ValType))
params are_named toks = elim are_named [ true ↦ named_params toks | false ↦ unnamed_params toks ]

abbrev pub param : Bool → Toks → Parse (List (Option Id × Option NameAnnotation × ValType))
param are_named toks = form key.Param toks >>= λ t. params are_named t >>= λ ps. rparen ps.1 >>= λ rest. Some (ps.0, rest)

-- result ::= '(' 'result' t:valtype ')' ⇒ t, and '(' 'result' t*:valtype* ')' ≡ ('(' 'result' t:valtype ')')*
abbrev pub result : Toks → Parse (List ValType)
result toks = form key.Result toks >>= λ t. valtypes t >>= λ ts. rparen ts.1 >>= λ rest. Some (ts.0, rest)

-- param*
abbrev pub all_params : Bool → Toks → Parse (List (Option Id × Option NameAnnotation × ValType))
all_params are_named toks = many_lists (is_form key.Param) (param are_named) (count toks) toks

-- result*
abbrev pub all_results : Toks → Parse (List ValType)
all_results toks = many_lists (is_form key.Result) result (count toks) toks

-- t1*:param* t2*:result* ⇒ t1* → t2* (text format: composite types). No form has a parameter after the results, so a function type
-- is not followed by one: `(result i32) (param i32)` is refused.
abbrev pub functype : Bool → Toks → Parse FunctionType
functype are_named toks =
    all_params are_named toks >>= λ ps. all_results ps.1 >>= λ rs. elim (is_form key.Param rs.1) [
      | true ↦ None
      | false ↦ Some (record { params = ps.0; results = rs.0 }, rs.1)
    ]

-- a field without an id
abbrev pub unnamed_field : Toks → Parse StructField
unnamed_field toks = fieldtype toks >>= λ f. Some (record { id = None; name = None; mutable = f.0.0; ty = f.0.1 }, f.1)

abbrev pub unnamed_fields : Toks → Parse (List StructField)
unnamed_fields toks = many goes_on unnamed_field (count toks) toks

-- field ::= '(' 'field' id? ft:fieldtype ')' ⇒ ft, and '(' 'field' ft*:fieldtype* ')' ≡ ('(' 'field' ft:fieldtype ')')*: after
-- '(' 'field'
abbrev pub struct_fields : Toks → Parse (List StructField)
struct_fields toks = optional id toks >>= λ x. name_annotation x.1 >>= λ n. elim (is_some x.0 || is_some n.0) [
  | true ↦ fieldtype n.1 >>= λ f. Some (record { id = x.0; name = n.0; mutable = f.0.0; ty = f.0.1 } ∷ [], f.1)
  | false ↦ unnamed_fields n.1
]

abbrev pub struct_field : Toks → Parse (List StructField)
struct_field toks = form key.Field toks >>= λ t. struct_fields t >>= λ fs. rparen fs.1 >>= λ rest. Some (fs.0, rest)

-- field*
abbrev pub all_fields : Toks → Parse (List StructField)
all_fields toks = many_lists (is_form key.Field) struct_field (count toks) toks

-- ft*:field* ⇒ struct ft*
abbrev pub structtype : Toks → Parse StructType
structtype toks = all_fields toks >>= λ fs. Some (record { fields = fs.0 }, fs.1)

-- '(' 'cont' x:typeidx (stack switching)
abbrev pub conttype : Toks → Parse InnerTypeKind
conttype toks = form key.Cont toks >>= λ t. index t >>= λ x. Some (inner.Cont (record { 0 = x.0 }), x.1)

abbrev pub arraytype : Toks → Parse InnerTypeKind
arraytype toks = elim (form key.Array toks) [
  | Some t ↦ fieldtype t >>= λ f. Some (inner.Array (record { mutable = f.0.0; ty = f.0.1 }), f.1)
  | None ↦ conttype toks
]

abbrev pub struct_or_arraytype : Toks → Parse InnerTypeKind
struct_or_arraytype toks = elim (form key.Struct toks) [
  | Some t ↦ structtype t >>= λ st. Some (inner.Struct st.0, st.1)
  | None ↦ arraytype toks
]

-- a composite type before its ')'
abbrev pub comptype_form : Toks → Parse InnerTypeKind
comptype_form toks = elim (form key.Func toks) [
  | Some t ↦ functype true t >>= λ ft. Some (inner.Func ft.0, ft.1)
  | None ↦ struct_or_arraytype toks
]

-- comptype ::= '(' 'func' ft:functype ')' ⇒ ft | '(' 'struct' st:structtype ')' ⇒ st | '(' 'array' at:fieldtype ')' ⇒ at
--   | '(' 'cont' x:typeidx ')' ⇒ cont x (text format: composite types)
abbrev pub comptype : Toks → Parse InnerTypeKind
comptype toks = comptype_form toks >>= λ c. rparen c.1 >>= λ rest. Some (c.0, rest)

-- '(' k x:typeidx ')', or nothing
abbrev pub related : Key → Toks → Parse (Option Index)
related k toks = elim (form k toks) [
  | Some t ↦ index t >>= λ x. rparen x.1 >>= λ rest. Some (Some x.0, rest)
  | None ↦ Some (None, toks)
]

-- a composite type with what it describes, and what describes it
abbrev pub described : Bool → Option Bool → List Index → Toks → Parse TypeDef
described shared final parents toks =
    related key.Describes toks >>= λ d. related key.Descriptor d.1 >>= λ e. comptype e.1 >>= λ c.
    Some (record { kind = c.0; shared = shared; parents = parents; descriptor = e.0; describes = d.0; final_type = final }, c.1)

-- the same, in '(' 'shared' ')' if it is shared
abbrev pub maybe_shared : Option Bool → List Index → Toks → Parse TypeDef
maybe_shared final parents toks = elim (form key.Shared toks) [
  | Some t ↦ described true final parents t >>= λ d. rparen d.1 >>= λ rest. Some (d.0, rest)
  | None ↦ described false final parents toks
]

-- whether an index is next
abbrev pub is_index_next : Toks → Bool
is_index_next toks = is_index (peek 0 toks)

-- x*:typeidx*
abbrev pub indices : Toks → Parse (List Index)
indices toks = many is_index_next index (count toks) toks

-- subtype ::= '(' 'sub' 'final'? x*:typeidx* ct:comptype ')' ⇒ sub final? x* ct, and ct ≡ '(' 'sub' 'final' ct ')' (text format:
-- recursive types)
abbrev pub subtype : Toks → Parse TypeDef
subtype toks = elim (form key.Sub toks) [
  | Some t ↦
      is_there (keyword key.Final) t >>= λ final. indices final.1 >>= λ xs.
      maybe_shared (Some final.0) xs.0 xs.1 >>= λ d. rparen d.1 >>= λ rest. Some (d.0, rest)
  | None ↦ maybe_shared None [] toks
]

-- typedef ::= '(' 'type' id? st:subtype ')' ⇒ st (text format: recursive types): between the parentheses
abbrev pub typedef : Toks → Parse ty.Type
typedef toks =
    keyword key.Ty toks >>= λ t. optional id t >>= λ x. name_annotation x.1 >>= λ n. subtype n.1 >>= λ d.
    Some (record { span = position toks; id = x.0; name = n.0; def = d.0 }, d.1)

abbrev pub typedef_form : Toks → Parse ty.Type
typedef_form toks = lparen toks >>= λ t. typedef t >>= λ d. rparen d.1 >>= λ rest. Some (d.0, rest)

abbrev pub typedefs : Toks → Parse (List ty.Type)
typedefs toks = many goes_on typedef_form (count toks) toks

-- rectype ::= '(' 'rec' td*:typedef* ')' ⇒ rec td*: between the parentheses
abbrev pub rectype : Toks → Parse Rec
rectype toks = keyword key.Rec toks >>= λ t. typedefs t >>= λ ts.
    Some (record { span = position toks; types = ts.0 }, ts.1)

-- addrtype ::= 'i32' | 'i64' | ε ⇒ i32: whether it is i64 (text format: address types)
abbrev pub addrtype : Toks → Parse Bool
addrtype toks = elim (keyword key.I32 toks) [ Some rest ↦ Some (false, rest) | None ↦ is_there (keyword key.I64) toks ]

-- u64?
abbrev pub optional_u64 : Toks → Parse (Option ℕ)
optional_u64 toks = elim (is_number (peek 0 toks)) [ true ↦ u64 toks >>= λ n. Some (Some n.0, n.1) | false ↦ Some (None, toks) ]

-- limits ::= n:u64 ⇒ [n .. 2^64 − 1] | n:u64 m:u64 ⇒ [n .. m], with the address type that is before them (text format: limits)
abbrev pub limits : Bool → Toks → Parse Limits
limits is64 toks =
    u64 toks >>= λ n. optional_u64 n.1 >>= λ m.
    Some (record { is64 = is64; min = n.0; max = m.0 }, m.1)

-- tabletype ::= at:addrtype lim:limits t:reftype ⇒ at lim t (text format: table types), with 'shared' before it
abbrev pub tabletype : Toks → Parse TableType
tabletype toks =
    is_there (keyword key.Shared) toks >>= λ shared. addrtype shared.1 >>= λ at. limits at.0 at.1 >>= λ lim. reftype lim.1 >>= λ t.
    Some (record { limits = lim.0; elem = t.0; shared = shared.0 }, t.1)

-- '(' 'pagesize' n:u64 ')' ⇒ k, if n = 2^k, or nothing (custom page sizes)
abbrev pub pagesize : Toks → Parse (Option ℕ)
pagesize toks = elim (form key.Pagesize toks) [
  | Some t ↦ u64 t >>= λ n. rparen n.1 >>= λ rest. if is_power_of_two n.0 then Some (Some (trailing_zeros w64 n.0), rest) else None
  | None ↦ Some (None, toks)
]

-- memtype ::= at:addrtype lim:limits ⇒ at lim page (text format: memory types), with 'shared' and the size of its pages after it
abbrev pub memtype : Toks → Parse MemoryType
memtype toks =
    addrtype toks >>= λ at. limits at.0 at.1 >>= λ lim. is_there (keyword key.Shared) lim.1 >>= λ shared. pagesize shared.1 >>= λ p.
    Some (record { limits = lim.0; shared = shared.0; page_size_log2 = p.0 }, p.1)

-- whether the keyword of a reference type is after '(' 'shared', as in '(' 'shared' 'anyref' ')': then no global type is shared
abbrev pub is_shared_ref : Toks → Bool
is_shared_ref toks = is_some (key_of (peek 2 toks) >>= λ k. refword k)

-- globaltype ::= t:valtype ⇒ t | '(' 'mut' t:valtype ')' ⇒ mut t (text format: global types) | '(' 'shared' 'mut'? t:valtype ')'
abbrev pub globaltype : Toks → Parse GlobalType
globaltype toks = elim (is_form key.Shared toks && not (is_shared_ref toks)) [
  | true ↦
      is_there (keyword key.Mut) (after (after toks)) >>= λ m. valtype m.1 >>= λ t. rparen t.1 >>= λ rest.
      Some (record { ty = t.0; mutable = m.0; shared = true }, rest)
  | false ↦ elim (form key.Mut toks) [
    | Some u ↦ valtype u >>= λ t. rparen t.1 >>= λ rest. Some (record { ty = t.0; mutable = true; shared = false }, rest)
    | None ↦ valtype toks >>= λ t. Some (record { ty = t.0; mutable = false; shared = false }, t.1)
  ]
]

-- '(' 'type' x:typeidx ')', or nothing
abbrev pub type_index : Toks → Parse (Option Index)
type_index toks = related key.Ty toks

-- typeuse ::= '(' 'type' x:typeidx ')' t1*:param* t2*:result* (text format: type uses). Its index or its type may be left out.
abbrev pub typeuse : Bool → Toks → Parse (TypeUse FunctionType)
typeuse are_named toks = type_index toks >>= λ x. elim (is_form key.Param x.1 || is_form key.Result x.1) [
  | true ↦ functype are_named x.1 >>= λ t. Some (record { index = x.0; inline = Some t.0 }, t.1)
  | false ↦ Some (record { index = x.0; inline = None }, x.1)
]
