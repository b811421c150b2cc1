-- Tokens and trees without addresses: each text that is in them, of an id, a name, a string or a word, is at address 0. Here are tokens
-- and types; BareInstructions and BareFields have the others.
--
-- A `&str` in a definition has an address beside its bytes, and only the bytes mean something. The tokens of the code have addresses,
-- and so has a tree that the code makes of them. The rules read bare tokens, and so make bare trees. A contract compares the bare part
-- of a tree with what the rule makes. Two trees are alike but for addresses if their bare trees are equal.
--
--   bare_index of `$f`, at any address     `$f` at address 0, at the same position of the source
use Rattle.std.specs.Prelude.{ℕ, Bool, List, map, Option, option_map}
use Rattle.std.specs.Borrow.{Bor}
use Rattle.wast_base.specs.declared.ids.Name as code
use Rattle.wast_base.specs.declared.ids.Name.TheVariants as id_name
use Rattle.wat_tokens.specs.declared.tokens.Token.{Token}
use Rattle.wat_tokens.specs.declared.tokens.Token.TheVariants as token
use Rattle.wat_tokens.specs.declared.tokens.Placed.{Placed}
use Rattle.wat_syntax.specs.Tree.{Id, Index, NameAnnotation, ValType, RefType, HeapType, StorageType, StructField, StructType, ArrayType}
use Rattle.wat_syntax.specs.Tree.{ContType, FunctionType, TypeUse, InnerTypeKind, TypeDef, Rec, TableType, GlobalType, TagType}
use Rattle.wat_syntax.specs.Tree.index
use Rattle.wat_syntax.specs.Tree.value
use Rattle.wat_syntax.specs.Tree.heap
use Rattle.wat_syntax.specs.Tree.storage
use Rattle.wat_syntax.specs.Tree.inner
use Rattle.wat_syntax.specs.Tree.ty
use Rattle.wat_syntax.specs.Tree.tag
use Rattle.wat_syntax.specs.Values.{text_of}

-- a text
abbrev pub bare_text : Bor (List ℕ) → Bor (List ℕ)
bare_text text = text_of text.now

-- tokens
abbrev pub bare_token : Token → Token
bare_token token.Open = token.Open
bare_token token.Close = token.Close
bare_token (token.Annotation a) = token.Annotation a
bare_token (token.Word w name) = token.Word w (bare_text name)
bare_token (token.Id name) = token.Id (bare_text name)
bare_token (token.String bytes) = token.String (bare_text bytes)
bare_token (token.Other text) = token.Other (bare_text text)

abbrev pub bare_placed : Placed → Placed
bare_placed p = record { token = bare_token p.token; span = p.span }

-- ids and indices
abbrev pub bare_id_name : code.Name → code.Name
bare_id_name (id_name.Written text) = id_name.Written (bare_text text)
bare_id_name (id_name.Generated n) = id_name.Generated n

abbrev pub bare_id : Id → Id
bare_id x = record { name = bare_id_name x.name; span = x.span }

abbrev pub bare_id_option : Option Id → Option Id
bare_id_option x = option_map bare_id x

abbrev pub bare_index : Index → Index
bare_index (index.Num n span) = index.Num n span
bare_index (index.Id x) = index.Id (bare_id x)

abbrev pub bare_index_option : Option Index → Option Index
bare_index_option x = option_map bare_index x

abbrev pub bare_indices : List Index → List Index
bare_indices xs = map bare_index xs

-- a name annotation
abbrev pub bare_name : NameAnnotation → NameAnnotation
bare_name a = record { name = bare_text a.name }

abbrev pub bare_name_option : Option NameAnnotation → Option NameAnnotation
bare_name_option a = option_map bare_name a

-- types
abbrev pub bare_heap : HeapType → HeapType
bare_heap (heap.Abstract shared t) = heap.Abstract shared t
bare_heap (heap.Concrete x) = heap.Concrete (bare_index x)
bare_heap (heap.Exact x) = heap.Exact (bare_index x)

abbrev pub bare_ref : RefType → RefType
bare_ref t = record { nullable = t.nullable; heap = bare_heap t.heap }

abbrev pub bare_val : ValType → ValType
bare_val value.I32 = value.I32
bare_val value.I64 = value.I64
bare_val value.F32 = value.F32
bare_val value.F64 = value.F64
bare_val value.V128 = value.V128
bare_val (value.Ref t) = value.Ref (bare_ref t)

abbrev pub bare_vals : List ValType → List ValType
bare_vals ts = map bare_val ts

abbrev pub bare_storage : StorageType → StorageType
bare_storage storage.I8 = storage.I8
bare_storage storage.I16 = storage.I16
bare_storage (storage.Val t) = storage.Val (bare_val t)

-- a field of a struct or of an array: whether it is mutable, and its type
abbrev pub bare_field_type : Bool × StorageType → Bool × StorageType
bare_field_type f = (f.0, bare_storage f.1)

abbrev pub bare_param : Option Id × Option NameAnnotation × ValType → Option Id × Option NameAnnotation × ValType
bare_param p = (bare_id_option p.0, bare_name_option p.1, bare_val p.2)

abbrev pub bare_params : List (Option Id × Option NameAnnotation × ValType) → List (Option Id × Option NameAnnotation × ValType)
bare_params ps = map bare_param ps

abbrev pub bare_function_type : FunctionType → FunctionType
bare_function_type t = record { params = bare_params t.params; results = bare_vals t.results }

abbrev pub bare_type_use : TypeUse FunctionType → TypeUse FunctionType
bare_type_use u = record { index = bare_index_option u.index; inline = option_map bare_function_type u.inline }

abbrev pub bare_struct_field : StructField → StructField
bare_struct_field f = record { id = bare_id_option f.id; name = bare_name_option f.name; mutable = f.mutable; ty = bare_storage f.ty }

abbrev pub bare_struct_type : StructType → StructType
bare_struct_type t = record { fields = map bare_struct_field t.fields }

abbrev pub bare_array_type : ArrayType → ArrayType
bare_array_type t = record { mutable = t.mutable; ty = bare_storage t.ty }

abbrev pub bare_cont_type : ContType → ContType
bare_cont_type t = record { 0 = bare_index t.0 }

abbrev pub bare_composite : InnerTypeKind → InnerTypeKind
bare_composite (inner.Func t) = inner.Func (bare_function_type t)
bare_composite (inner.Struct t) = inner.Struct (bare_struct_type t)
bare_composite (inner.Array t) = inner.Array (bare_array_type t)
bare_composite (inner.Cont t) = inner.Cont (bare_cont_type t)

abbrev pub bare_type_def : TypeDef → TypeDef
bare_type_def d = record {
  kind = bare_composite d.kind;
  shared = d.shared;
  parents = bare_indices d.parents;
  descriptor = bare_index_option d.descriptor;
  describes = bare_index_option d.describes;
  final_type = d.final_type;
}

abbrev pub bare_type : ty.Type → ty.Type
bare_type t = record { span = t.span; id = bare_id_option t.id; name = bare_name_option t.name; def = bare_type_def t.def }

abbrev pub bare_rec : Rec → Rec
bare_rec r = record { span = r.span; types = map bare_type r.types }

abbrev pub bare_table_type : TableType → TableType
bare_table_type t = record { limits = t.limits; elem = bare_ref t.elem; shared = t.shared }

abbrev pub bare_global_type : GlobalType → GlobalType
bare_global_type t = record { ty = bare_val t.ty; mutable = t.mutable; shared = t.shared }

abbrev pub bare_tag_type : TagType → TagType
bare_tag_type (tag.Exception u) = tag.Exception (bare_type_use u)
