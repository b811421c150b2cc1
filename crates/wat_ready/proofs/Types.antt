-- Ids, indices and types: no rule reads a generated id. Rule by rule, in the order of wat_syntax.
use Rattle.std.proofs.Common.{Bool, true, false, ◌||◌, ◌&&◌, not, is_some, List, [], flat_map, Option, None, Some, refl}
use Rattle.wat_grammar.specs.Parts.{◌>>=◌}
use Rattle.wast_base.specs.declared.ids.Span.{Span}
use Rattle.wast_tree_nodes.specs.Items.{items_of_type}
use Rattle.wast_tree_nodes.specs.Sites.{if_there, in_index, in_id, in_heap, in_ref, in_val, in_storage, in_param, in_signature, in_struct_field}
use Rattle.wast_tree_nodes.specs.Sites.{in_struct, in_inner, in_descriptor, in_def, in_type, in_rec, in_type_use, in_table_type, in_global_type}
use Rattle.wat_tokens.specs.declared.words.Key.{Key}
use Rattle.wat_tokens.specs.declared.words.Key.TheVariants as key
use Rattle.wat_tokens.specs.declared.tokens.Token.{Token}
use Rattle.wat_tokens.specs.declared.tokens.Token.TheVariants as token
use Rattle.wat_syntax.specs.Tree.{Id, Index, ValType, StorageType, Rec}
use Rattle.wat_syntax.specs.Tree.ty
use Rattle.wat_syntax.specs.Tree.space
use Rattle.wat_syntax.specs.Tree.value
use Rattle.wat_syntax.specs.Tokens.{Toks, Parse, peek, after, position, count, is_lparen, key_of, lparen}
use Rattle.wat_syntax.specs.Tokens.{rparen, keyword, keyword_in, form, is_form, is_there, optional}
use Rattle.wat_syntax.specs.Values.{id, id_in, name_annotation, index, u32, is_index, index_or_zero}
use Rattle.wat_syntax.specs.Types.{numtype_or_vectype, absheaptype, refword, heaptype_form, heaptype, reftype, valtype, goes_on, storagetype}
use Rattle.wat_syntax.specs.Types.{fieldtype, unnamed_param, unnamed_params, params, param, result, all_results, functype, unnamed_field}
use Rattle.wat_syntax.specs.Types.{struct_fields, struct_field, structtype, comptype_form, related, described, maybe_shared, is_index_next, indices}
use Rattle.wat_syntax.specs.Types.{subtype, typedef, typedef_form, rectype, addrtype, limits, tabletype, is_shared_ref, globaltype, typeuse}
use Rattle.wat_ready.proofs.Parses.{Of, nothing, done, bind, skip, closed, either, read, read_of, Each, IfSome, join, through, over, there, of_many, of_lists}
use Rattle.wat_ready.proofs.Checks.{IsOk, In, IndexOk, IdOk, IfId, ItemOk, id_ok}

-- ids and indices
of_id : (t : Toks) → Of IdOk (id t)
of_id t = by (peek 0 t) (position t)
  where
    by : (o : Option Token) (span : Span) → Of IdOk (id_in o span >>= λ x. let p : Id × Toks = (x, after t) in Some p)
    by None span = nothing
    by (Some (token.Id name)) span = done refl
    by (Some o) span = nothing

pub of_optional_id : (t : Toks) → Of IfId (optional id t)
of_optional_id t = read_of (of_id t) (λ x p. done p) (done tt)

pub of_index : (t : Toks) → Of IndexOk (index t)
of_index t = read_of (of_id t) (λ x p. done (p, tt)) (skip (u32 t) (λ n. done (refl, tt)))

pub of_index_or_zero : (t : Toks) → Of IndexOk (index_or_zero t)
of_index_or_zero t = either (is_index (peek 0 t)) (of_index t) (done (refl, tt))

pub of_index_if : (c : Bool) (t : Toks) → Of (IfSome IndexOk) (elim c [ true ↦ index t >>= λ x. Some (Some x.0, x.1) | false ↦ Some (None, t) ])
of_index_if c t = either c (bind (of_index t) (λ x p. done p)) (done tt)

pub of_indices : (t : Toks) → Of (Each IndexOk) (indices t)
of_indices t = of_many is_index_next index of_index (count t) t

pub of_related : (k : Key) (t : Toks) → Of (IfSome IndexOk) (related k t)
of_related k t = read (form k t) (λ u. bind (of_index u) (λ x p. skip (rparen x.1) (λ r. done p))) (done tt)

-- heap types, reference types and value types
of_heap_form : (t : Toks) → Of (In in_heap) (heaptype_form t)
of_heap_form t = read (form key.Shared t) (λ u. skip (keyword_in absheaptype u) (λ h. skip (rparen h.1) (λ r. done (tt, (tt, tt)))))
    (skip (form key.Exact t) (λ u. bind (of_index u) (λ x p. skip (rparen x.1) (λ r. done (p.0, (tt, tt))))))

pub of_heap : (t : Toks) → Of (In in_heap) (heaptype t)
of_heap t = read (keyword_in absheaptype t) (λ h. done (tt, (tt, tt))) (either (is_lparen (peek 0 t)) (of_heap_form t) (bind (of_index t) (λ x p. done p)))

pub of_ref : (t : Toks) → Of (In in_ref) (reftype t)
of_ref t = read (keyword_in refword t) (λ h. done (tt, (tt, tt))) (read (form key.Shared t)
    (λ u. skip (keyword_in refword u) (λ h. skip (rparen h.1) (λ r. done (tt, (tt, tt)))))
    (skip (form key.Ref t) (λ u. skip (is_there (keyword key.Null) u) (λ n. bind (of_heap n.1) (λ h p. skip (rparen h.1) (λ r. done p))))))

of_number_type : (o : Option Key) (r : Toks) → Of (In in_val) (o >>= λ k. numtype_or_vectype k >>= λ x. let p : ValType × Toks = (x, r) in Some p)
of_number_type None r = nothing
of_number_type (Some key.I32) r = done tt
of_number_type (Some key.I64) r = done tt
of_number_type (Some key.F32) r = done tt
of_number_type (Some key.F64) r = done tt
of_number_type (Some key.V128) r = done tt
of_number_type (Some k) r = nothing

pub of_val : (t : Toks) → Of (In in_val) (valtype t)
of_val t = by (keyword_in numtype_or_vectype t) (of_number_type (key_of (peek 0 t)) (after t))
  where
    by : (o : Parse ValType) → Of (In in_val) o → Of (In in_val) (elim o [ Some t ↦ Some t | None ↦ reftype t >>= λ t. Some (value.Ref t.0, t.1) ])
    by None h = bind (of_ref t) (λ r p. done p)
    by (Some x) h = h

of_storage : (t : Toks) → Of (In in_storage) (storagetype t)
of_storage t = read (keyword key.I8 t) (λ r. done tt) (read (keyword key.I16 t) (λ r. done tt) (bind (of_val t) (λ x p. done p)))

of_fieldtype : (t : Toks) → Of (λ (x : Bool × StorageType). In in_storage x.1) (fieldtype t)
of_fieldtype t = read (form key.Mut t) (λ u. bind (of_storage u) (λ x p. skip (rparen x.1) (λ r. done p))) (bind (of_storage t) (λ x p. done p))

-- composite types
of_unnamed_params : (t : Toks) → Of (Each (In in_param)) (unnamed_params t)
of_unnamed_params t = of_many goes_on unnamed_param (λ t. bind (of_val t) (λ x p. done p)) (count t) t

of_params : (named : Bool) (t : Toks) → Of (Each (In in_param)) (params named t)
of_params named t = either named
    (bind (of_optional_id t) (λ x p. skip (name_annotation x.1) (λ n. either (is_some x.0 || is_some n.0)
    (bind (of_val n.1) (λ v q. done (join IsOk (if_there in_id x.0) (in_val v.0) (id_ok x.0 p) q, tt))) (of_unnamed_params n.1))))
    (of_unnamed_params t)

pub of_all_results : (t : Toks) → Of (Each (In in_val)) (all_results t)
of_all_results t = of_lists (is_form key.Result) result (λ t. skip (form key.Result t) (λ u. closed (of_many goes_on valtype of_val (count u) u))) (count t) t

of_functype : (named : Bool) (t : Toks) → Of (In in_signature) (functype named t)
of_functype named t = bind (of_lists (is_form key.Param) (param named) (λ t. skip (form key.Param t) (λ u. closed (of_params named u))) (count t) t) (λ ps p.
    bind (of_all_results ps.1) (λ rs q. either (is_form key.Param rs.1) nothing
    (done (join IsOk (flat_map in_param ps.0) (flat_map in_val rs.0) (over IsOk in_param ps.0 p) (over IsOk in_val rs.0 q)))))

of_struct_fields : (t : Toks) → Of (Each (In in_struct_field)) (struct_fields t)
of_struct_fields t = bind (of_optional_id t) (λ x p. skip (name_annotation x.1) (λ n. either (is_some x.0 || is_some n.0)
    (bind (of_fieldtype n.1) (λ f q. done (join IsOk (if_there in_id x.0) (in_storage f.0.1) (id_ok x.0 p) q, tt)))
    (of_many goes_on unnamed_field (λ t. bind (of_fieldtype t) (λ f q. done q)) (count n.1) n.1)))

of_struct : (t : Toks) → Of (In in_struct) (structtype t)
of_struct t = bind (of_lists (is_form key.Field) struct_field (λ t. skip (form key.Field t) (λ u. closed (of_struct_fields u))) (count t) t)
    (λ fs p. done (over IsOk in_struct_field fs.0 p))

of_comptype_form : (t : Toks) → Of (In in_inner) (comptype_form t)
of_comptype_form t = read (form key.Func t) (λ u. bind (of_functype true u) (λ x p. done p)) (read (form key.Struct t) (λ u. bind (of_struct u) (λ x p. done p))
    (read (form key.Array t) (λ u. bind (of_fieldtype u) (λ x p. done p)) (skip (form key.Cont t) (λ u. bind (of_index u) (λ x p. done (p.0, (tt, tt)))))))

-- definitions of types
of_described : (shared : Bool) (final : Option Bool) (parents : List Index)
    → Each IndexOk parents → (t : Toks) → Of (In in_def) (described shared final parents t)
of_described shared final parents h t =
    bind (of_related key.Describes t) (λ d p. bind (of_related key.Descriptor d.1) (λ e q. bind (closed (of_comptype_form e.1)) (λ c r. done
    (join IsOk (flat_map (in_index space.Ty) parents) _ (over IsOk (in_index space.Ty) parents h)
    (join IsOk (if_there in_descriptor e.0) _ (there IndexOk IsOk in_descriptor (λ i p. (p.0, (tt, tt))) e.0 q)
    (join IsOk (if_there in_descriptor d.0) _ (there IndexOk IsOk in_descriptor (λ i p. (p.0, (tt, tt))) d.0 p) (join IsOk (in_inner c.0) _ r (tt, tt))))))))

of_maybe_shared : (final : Option Bool) (parents : List Index) → Each IndexOk parents → (t : Toks) → Of (In in_def) (maybe_shared final parents t)
of_maybe_shared final parents h t = read (form key.Shared t) (λ u. closed (of_described true final parents h u)) (of_described false final parents h t)

of_subtype : (t : Toks) → Of (In in_def) (subtype t)
of_subtype t = read (form key.Sub t)
    (λ u. skip (is_there (keyword key.Final) u) (λ f. bind (of_indices f.1) (λ xs p. closed (of_maybe_shared (Some f.0) xs.0 p xs.1))))
    (of_maybe_shared None [] tt t)

abbrev pub TypeOk : ty.Type → Type 0
TypeOk x = In in_type x × IfId x.id

pub of_typedef : (t : Toks) → Of TypeOk (typedef t)
of_typedef t = skip (keyword key.Ty t) (λ u. bind (of_optional_id u) (λ x q. skip (name_annotation x.1) (λ n. bind (of_subtype n.1) (λ d p. done (p, q)))))

abbrev pub RecOk : Rec → Type 0
RecOk x = In in_rec x × Each ItemOk (flat_map items_of_type x.types)

pub of_rectype : (t : Toks) → Of RecOk (rectype t)
of_rectype t = skip (keyword key.Rec t) (λ u. bind (of_many goes_on typedef_form (λ t. skip (lparen t) (λ u. closed (of_typedef u))) (count u) u)
    (λ ts p. done (through TypeOk IsOk in_type (λ x p. p.0) ts.0 p, through TypeOk ItemOk items_of_type (λ x p. (p.1, tt)) ts.0 p)))

pub of_typeuse : (named : Bool) (t : Toks) → Of (In in_type_use) (typeuse named t)
of_typeuse named t = bind (of_related key.Ty t) (λ x p. either (is_form key.Param x.1 || is_form key.Result x.1)
    (bind (of_functype named x.1)
    (λ f q. done (join IsOk (if_there (in_index space.Ty) x.0) (in_signature f.0) (there IndexOk IsOk (in_index space.Ty) (λ i p. p) x.0 p) q)))
    (done (join IsOk (if_there (in_index space.Ty) x.0) [] (there IndexOk IsOk (in_index space.Ty) (λ i p. p) x.0 p) tt)))

-- types of tables and globals
pub of_table_type : (t : Toks) → Of (In in_table_type) (tabletype t)
of_table_type t = skip (is_there (keyword key.Shared) t)
    (λ s. skip (addrtype s.1) (λ a. skip (limits a.0 a.1) (λ l. bind (of_ref l.1) (λ r p. done (join IsOk (in_ref r.0) _ p (tt, tt))))))

pub of_global_type : (t : Toks) → Of (In in_global_type) (globaltype t)
of_global_type t = either (is_form key.Shared t && not (is_shared_ref t))
    (skip (is_there (keyword key.Mut) (after (after t))) (λ m. bind (of_val m.1) (λ v p. skip (rparen v.1) (λ r. done (join IsOk (in_val v.0) _ p (tt, tt))))))
    (read (form key.Mut t) (λ u. bind (of_val u) (λ v p. skip (rparen v.1) (λ r. done (join IsOk (in_val v.0) _ p (tt, tt)))))
    (bind (of_val t) (λ v p. done (join IsOk (in_val v.0) _ p (tt, tt)))))
