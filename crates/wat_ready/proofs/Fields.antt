-- The fields of a module: no rule reads a generated id, and the rules 1 to 5 of well-formedness hold. Rule by rule, in the order of
-- wat_syntax.
use Rattle.std.proofs.Common.{◌≡◌, ℕ, ◌<◌, ◌^◌, nat_lt, count_ones, Bool, true, false, ◌||◌, ◌&&◌, not, is_some}
use Rattle.std.proofs.Common.{if◌then◌else◌, List, [], ◌∷◌, ◌++◌, flat_map, Option, None, Some, refl, ap, arith}
use Rattle.std.specs.Borrow.{Bor}
use Rattle.std.specs.Int.{is_power_of_two, trailing_zeros, w64}
use Rattle.std.proofs.lemmas.Nat.Bits.{bit_at-trailing_zeros}
use Rattle.std.proofs.lemmas.Nat.{ones_le_self}
use Rattle.std.proofs.lemmas.Bool.{ltb-true, lt-ltb, eqb-true}
use Rattle.wat_grammar.specs.Parts.{◌>>=◌}
use Rattle.wat_grammar.specs.Integers.{natural}
use Rattle.wast_base.specs.Blocks.{stays_open}
use Rattle.wast_base.specs.Ids.{Name, Mark}
use Rattle.wast_base.specs.declared.ids.Index.TheVariants as by_number
use Rattle.wast_tree_nodes.specs.Clauses as clauses
use Rattle.wast_tree_nodes.specs.Items.{item_of_sig, items_of_import, items_in}
use Rattle.wast_tree_nodes.specs.Sites.{constant_context, check_sites, if_there, at_index, in_val, in_ref, in_type, in_rec, in_local}
use Rattle.wast_tree_nodes.specs.Sites.{param_marks, local_marks, declaration_sites, body_here, in_func_kind, in_func, in_table_type}
use Rattle.wast_tree_nodes.specs.Sites.{in_global_type, in_tag_type, in_type_use, in_item_kind, in_sig, in_shared_id, in_import}
use Rattle.wast_tree_nodes.specs.Sites.{in_instrs, in_constant, in_payload, in_table_kind, in_memory_kind, in_global_kind, in_global}
use Rattle.wast_tree_nodes.specs.Sites.{in_elem_kind, in_elem, in_data_kind, in_subsection, in_custom, in_field}
use Rattle.wat_tokens.specs.declared.words.Key.{Key}
use Rattle.wat_tokens.specs.declared.words.Key.TheVariants as key
use Rattle.wat_tokens.specs.declared.tokens.Token.{Token}
use Rattle.wat_tokens.specs.declared.tokens.Token.TheVariants as token
use Rattle.wat_tokens.specs.declared.tokens.Annotation.TheVariants as annotation
use Rattle.wat_syntax.specs.Tree.{Span, Index, HeapType, RefType, FunctionType, TypeUse, Expression, ItemSig}
use Rattle.wat_syntax.specs.Tree.{ImportItems, Imports, InlineImport, ElemKind, ElemPayload, FuncKind, Func, Table}
use Rattle.wat_syntax.specs.Tree.{Memory, Global, Elem, Data, Tag, Export, Custom, Dylink0Subsection, ModuleField}
use Rattle.wat_syntax.specs.Tree.space
use Rattle.wat_syntax.specs.Tree.heap
use Rattle.wat_syntax.specs.Tree.abstract
use Rattle.wat_syntax.specs.Tree.elem
use Rattle.wat_syntax.specs.Tree.payload
use Rattle.wat_syntax.specs.Tree.custom
use Rattle.wat_syntax.specs.Tree.dylink
use Rattle.wat_syntax.specs.Tokens.{Toks, Parse, peek, after, count, is_lparen, is_end, key_of, is_key}
use Rattle.wat_syntax.specs.Tokens.{lparen, rparen, keyword, form, is_form, is_there, with_parts}
use Rattle.wat_syntax.specs.Values.{is_number, is_string, name, name_annotation, index, number_text, u64}
use Rattle.wat_syntax.specs.Types.{is_reftype, goes_on, addrtype, limits, pagesize, memtype}
use Rattle.wat_syntax.specs.Modules.{Head, inline_exports, inline_import, head, externtype_of, externtype}
use Rattle.wat_syntax.specs.Modules.{import_item, import_items_of, import_names, import_group, import_items_from}
use Rattle.wat_syntax.specs.Modules.{importfield, tagfield, unnamed_local, local, externidx_keyword, exportfield}
use Rattle.wat_syntax.specs.Segments.{expression_in, offset_expression, elemexpr, funcref_of, exprs_payload, funcs_payload, funcrefs_payload}
use Rattle.wat_syntax.specs.Segments.{elemlist, short_elemlist, optional_number_index, is_func, is_funcref, are_typed, table_or_first}
use Rattle.wat_syntax.specs.Segments.{active_elems, is_active, elem_of, elemfield, datastring, memuse, is_data, data_kind_of, datafield}
use Rattle.wat_syntax.specs.Fields.{func_body, func_of, funcfield, inline_elements, init_expression, table_of}
use Rattle.wat_syntax.specs.Fields.{tablefield, has_inline_data, memory_of, memoryfield, global_of, globalfield}
use Rattle.wat_syntax.specs.Customs.{customfield, producersfield, dylinkfield}
use Rattle.wat_syntax.specs.ModuleFields.{form_of, field_of, modulefield, modulefields}
use Rattle.wat_ready.proofs.Parses.{Of, nothing, done, bind, skip, closed, either, read, Each, IfSome, join, through, over, there, of_many, of_lists}
use Rattle.wat_ready.proofs.Checks.{IsOk, SiteOk, In, At, IndexOk, IfId, ItemOk, asked, id_ok}
use Rattle.wat_ready.proofs.Types.{of_optional_id, of_index, of_index_if, of_related, of_ref, of_val}
use Rattle.wat_ready.proofs.Types.{of_typedef, of_rectype, of_typeuse, of_table_type, of_global_type}
use Rattle.wat_ready.proofs.Bodies.{Sound, of_expression, of_folded}

-- rule 3
abbrev PageOk : Option ℕ → Type 0
PageOk p = clauses.is_page_exponent p ≡ true

abbrev Fits : ℕ → Type 0
Fits n = n < 2 ^ 64

of_u64 : (t : Toks) → Of Fits (u64 t)
of_u64 t = skip (number_text t) (λ x. by (natural x.0.now) x.1)
  where
    bound : (n : ℕ) (b : Bool) (r : Toks) → nat_lt n (2 ^ 64) ≡ b → Of Fits ((if b then Some n else None) >>= λ n. let o : ℕ × Toks = (n, r) in Some o)
    bound n true r e = done (ltb-true n (2 ^ 64) e)
    bound n false r e = nothing

    by : (o : Option ℕ) (r : Toks) → Of Fits ((o >>= λ n. if nat_lt n (2 ^ 64) then Some n else None) >>= λ n. let o : ℕ × Toks = (n, r) in Some o)
    by None r = nothing
    by (Some n) r = bound n (nat_lt n (2 ^ 64)) r refl

below_64 : (n : ℕ) → is_power_of_two n ≡ true → n < 2 ^ 64 → trailing_zeros w64 n < 64
below_64 n p h = (bit_at-trailing_zeros w64 n (positive n p) h).0
  where
    positive : (n : ℕ) → is_power_of_two n ≡ true → 0 < n
    positive n h = let one = eqb-true (count_ones n) 1 h in let bits = ones_le_self n in omega arith

of_pagesize : (t : Toks) → Of PageOk (pagesize t)
of_pagesize t = read (form key.Pagesize t) (λ u. bind (of_u64 u) (λ n h. skip (rparen n.1) (λ r. by n.0 r h (is_power_of_two n.0) refl))) (done refl)
  where
    by : (n : ℕ) (r : Toks) → n < 2 ^ 64 → (b : Bool) → is_power_of_two n ≡ b → Of PageOk (if b then Some (Some (trailing_zeros w64 n), r) else None)
    by n r h true e = done (lt-ltb (trailing_zeros w64 n) 64 (below_64 n e h))
    by n r h false e = nothing

-- rule 4
same_func : (h : HeapType) → clauses.is_func_heap h ≡ is_func h
same_func (heap.Abstract true t) = refl
same_func (heap.Abstract false abstract.Func) = refl
same_func (heap.Abstract false t) = refl
same_func h = refl

allowed : (o : Option Index) (p : ElemPayload) (span : Span) → clauses.is_some_or (table_or_first o p span) (clauses.holds_functions p) ≡ true
allowed (Some x) p span = refl
allowed None (payload.Indices xs) span = refl
allowed None (payload.Exprs t es) span = by (is_funcref t) (ap (λ b. t.nullable && b) (same_func t.heap))
  where
    by : (b : Bool) → clauses.is_funcref t ≡ b
        → clauses.is_some_or (elim (not b) [ true ↦ Some (by_number.Num 0 span) | false ↦ None ]) (clauses.is_funcref t) ≡ true
    by true e = e
    by false e = refl

-- what fields begin with
of_head : (t : Toks) → Of (λ (h : Head). IfId h.id) (head t)
of_head t = bind (of_optional_id (after t)) (λ x p. skip (name_annotation x.1) (λ n. skip (inline_exports n.1) (λ e. done p)))

-- imports
of_kind : (k : Option Key) (t : Toks) → Of (At in_item_kind) (externtype_of k t)
of_kind (Some key.Func) t = read (form key.Exact t) (λ u. bind (of_typeuse true u) (λ x p. skip (rparen x.1) (λ r. done (p, ((tt, tt), tt)))))
    (bind (of_typeuse true t) (λ x p. done (p, tt)))
of_kind (Some key.Table) t = bind (of_table_type t) (λ x p. done (asked (in_table_type x.0) p))
of_kind (Some key.Memory) t = skip (memtype t) (λ x. done tt)
of_kind (Some key.Global) t = bind (of_global_type t) (λ x p. done (asked (in_global_type x.0) p))
of_kind (Some key.Tag) t = bind (of_typeuse true t) (λ x p. done (p, tt))
of_kind k t = nothing

abbrev SigOk : ItemSig → Type 0
SigOk x = At in_sig x × IfId x.id

of_sig : (t : Toks) → Of SigOk (externtype t)
of_sig t = skip (lparen t) (λ u. bind (of_optional_id (after u))
    (λ x q. skip (name_annotation x.1) (λ n. bind (of_kind (key_of (peek 0 u)) n.1) (λ k p. skip (rparen k.1) (λ r. done (p, q))))))

abbrev PairOk : Bor (List ℕ) × ItemSig → Type 0
PairOk x = SigOk x.1

of_item : (t : Toks) → Of PairOk (import_item t)
of_item t = skip (form key.Item t) (λ u. skip (name u) (λ nm. bind (of_sig nm.1) (λ x p. skip (rparen x.1) (λ r. done p))))

abbrev ItemsOk : ImportItems → Type 0
ItemsOk x = At in_import x × Each ItemOk (items_of_import x)

shared_ok : (names : List (Bor (List ℕ))) (x : ItemSig) → IfId x.id → Each IsOk (in_shared_id names x.id)
shared_ok [] x p = id_ok x.id p
shared_ok (n ∷ ns) x p = tt

names_ok : (names : List (Bor (List ℕ))) (x : ItemSig) → IfId x.id → Each ItemOk (flat_map (λ name. item_of_sig x ∷ []) names)
names_ok [] x p = tt
names_ok (n ∷ ns) x p = (p, names_ok ns x p)

of_group : (from first : Bor (List ℕ)) (t : Toks) → Of ItemsOk (import_group from first t)
of_group from first t = either (is_end (peek 0 t))
    (skip (rparen t) (λ u. skip (with_parts (first ∷ []) (import_names u)) (λ ns. bind (of_sig ns.1) (λ x p.
    done (join SiteOk (in_sig x.0) _ p.0 (asked _ (join IsOk (in_shared_id ns.0 x.0.id) _ (shared_ok ns.0 x.0 p.1) (tt, tt))), names_ok ns.0 x.0 p.1)))))
    (bind (of_sig t) (λ x p. skip (rparen x.1) (λ u. bind (more x.0 p (import_items_of u) (of_many (is_form key.Item) import_item of_item (count u) u)) (λ xs q.
    let sigs = through PairOk SiteOk (λ p. in_sig p.1) (λ x p. p.0) xs.0 q in
    done (join SiteOk (flat_map (λ p. in_sig p.1) xs.0) _ sigs ((tt, tt), tt), through PairOk ItemOk (λ p. item_of_sig p.1 ∷ []) (λ x p. (p.1, tt)) xs.0 q)))))
  where
    more : (x : ItemSig) → SigOk x → (o : Parse (List (Bor (List ℕ) × ItemSig))) → Of (Each PairOk) o → Of (Each PairOk) (with_parts ((first, x) ∷ []) o)
    more x p None q = nothing
    more x p (Some ys) q = done (p, q.at ys refl)

of_items : (from : Bor (List ℕ)) (t : Toks) → Of ItemsOk (import_items_from from t)
of_items from t = either (is_string (peek 0 t)) (skip (name t) (λ n. bind (of_sig n.1) (λ x p. done (p.0, (p.1, tt)))))
    (skip (form key.Item t) (λ u. skip (name u) (λ n. of_group from n.0 n.1)))

of_import : (t : Toks) → Of (λ (x : Imports). ItemsOk x.items) (importfield t)
of_import t = skip (name (after t)) (λ nm. bind (of_items nm.0 nm.1) (λ x p. done p))

-- functions
of_local : (t : Toks) → Of (Each (In in_local)) (local t)
of_local t = skip (form key.Local t) (λ u. closed (bind (of_optional_id u) (λ x p. skip (name_annotation x.1) (λ n. either (is_some x.0 || is_some n.0)
    (bind (of_val n.1) (λ v q. done (join IsOk (in_val v.0) _ q (id_ok x.0 p), tt)))
    (of_many goes_on unnamed_local (λ t. bind (of_val t) (λ v q. done (join IsOk (in_val v.0) [] q tt))) (count n.1) n.1)))))

declared : (before : List (Option Name)) (ms : List (Option Mark)) → Each SiteOk (declaration_sites before ms)
declared before [] = tt
declared before (m ∷ ms) = (tt, declared _ ms)

of_body : (u : TypeUse FunctionType) (t : Toks) → Of (At (in_func_kind u)) (func_body t)
of_body u t = bind (of_lists (is_form key.Local) local of_local (count t) t) (λ ls p. bind (of_expression true ls.1) (λ e q.
    let marks = param_marks u.inline ++ local_marks ls.0 in
    done (join SiteOk (check_sites (flat_map in_local ls.0)) _ (asked (flat_map in_local ls.0) (over IsOk in_local ls.0 p))
    (join SiteOk (declaration_sites [] marks) _ (declared [] marks)
    (join SiteOk (in_instrs (body_here u marks) e.0.instrs) _ (q.sites (body_here u marks)) ((q.hints, tt), tt))))))

of_func_of : (i : Option InlineImport) (t : Toks) → Of (λ (k : FuncKind × TypeUse FunctionType). In in_type_use k.1 × At (in_func_kind k.1) k.0) (func_of i t)
of_func_of (Some i) t = read (form key.Exact t) (λ u. bind (of_typeuse true u) (λ x p. skip (rparen x.1) (λ r. done (p, ((tt, tt), tt)))))
    (bind (of_typeuse true t) (λ x p. done (p, ((tt, tt), tt))))
of_func_of None t = bind (of_typeuse true t) (λ u p. bind (of_body u.0 u.1) (λ k q. done (p, q)))

of_func : (t : Toks) → Of (λ (f : Func). At in_func f × IfId f.id) (funcfield t)
of_func t = bind (of_head t) (λ h i. skip (inline_import h.1) (λ m. bind (of_func_of m.0 m.1) (λ k p. done ((p.0, p.1), i))))

-- constant expressions
constant : (e : Expression) → Sound e → Each SiteOk (in_constant e)
constant e p = join SiteOk (in_instrs constant_context e.instrs) _ (p.sites constant_context) ((p.balances, tt), tt)

constants : (es : List Expression) → Each Sound es → Each SiteOk (flat_map in_constant es)
constants es p = through Sound SiteOk in_constant constant es p

of_expression_in : (k : Key) (t : Toks) → Of Sound (expression_in k t)
of_expression_in k t = read (form k t) (λ u. closed (of_expression false u)) (of_folded t)

-- elements
of_exprs : (r : RefType) → In in_ref r → (t : Toks) → Of (At in_payload) (exprs_payload r t)
of_exprs r q t = bind (of_many goes_on elemexpr (of_expression_in key.Item) (count t) t)
    (λ es p. done (join SiteOk (flat_map in_constant es.0) _ (constants es.0 p) (asked (in_ref r) q)))

of_funcs : (t : Toks) → Of (At in_payload) (funcs_payload t)
of_funcs t = bind (of_many goes_on index of_index (count t) t) (λ xs p. done (through IndexOk SiteOk (at_index space.Func) (λ i p. (p, tt)) xs.0 p))

of_funcref_elems : (r : RefType) → In in_ref r → (t : Toks) → Of (At in_payload) (funcrefs_payload r t)
unfolding stays_open
of_funcref_elems r q t = bind (of_many goes_on funcref_of
    (λ t. bind (of_index t) (λ x p. done (record { balances = refl; hints = refl; sites = λ h. (p, tt) }))) (count t) t)
    (λ es p. done (join SiteOk (flat_map in_constant es.0) _ (constants es.0 p) (asked (in_ref r) q)))

of_elemlist : (t : Toks) → Of (At in_payload) (elemlist t)
of_elemlist t = read (keyword key.Func t) (λ u. of_funcs u) (bind (of_ref t) (λ r p. of_exprs r.0 p r.1))

of_short : (t : Toks) → Of (At in_payload) (short_elemlist t)
of_short t = either (is_key key.Func (key_of (peek 0 t)) || is_reftype t) (of_elemlist t) (of_funcs t)

abbrev ElemOk : ElemKind × ElemPayload → Type 0
ElemOk k = At in_elem_kind k.0 × (At in_payload k.1 × (clauses.is_segment_type_allowed k.0 k.1 ≡ true))

first_ok : (o : Option Index) (p : ElemPayload) (span : Span) → IfSome IndexOk o → IfSome IndexOk (table_or_first o p span)
first_ok (Some x) p span q = q
first_ok None p span q = by (are_typed p)
  where
    by : (b : Bool) → IfSome IndexOk (elim b [ true ↦ Some (by_number.Num 0 span) | false ↦ None ])
    by true = (refl, tt)
    by false = tt

of_active : (t : Toks) → Of ElemOk (active_elems t)
of_active t = bind (of_related key.Table t) (λ x p. by x.0 p x.1)
  where
    by : (o : Option Index) → IfSome IndexOk o → (r : Toks) → Of ElemOk (elim o [
      | Some table ↦ offset_expression r >>= λ e. elemlist e.1 >>= λ el. Some ((elem.Active (Some table) e.0, el.0), el.1)
      | None ↦ optional_number_index r >>= λ n. offset_expression n.1 >>= λ e. short_elemlist e.1 >>= λ el.
          Some ((elem.Active (table_or_first n.0 el.0 t.before) e.0, el.0), el.1)
    ])
    by (Some x) o r = bind (of_expression_in key.Offset r) (λ e p. bind (of_elemlist e.1) (λ el q. done ((o, constant e.0 p), (q, refl))))
    by None o r = bind (of_index_if (is_number (peek 0 r)) r) (λ n m. bind (of_expression_in key.Offset n.1) (λ e p. bind (of_short e.1) (λ el q.
        let o = table_or_first n.0 el.0 t.before in
        done (
          join SiteOk (if_there (at_index space.Table) o) _ (there IndexOk SiteOk (at_index space.Table)
              (λ i p. (p, tt)) o (first_ok n.0 el.0 t.before m)) (constant e.0 p),
          (q, allowed n.0 el.0 t.before),
        ))))

of_elem_of : (t : Toks) → Of ElemOk (elem_of t)
of_elem_of t = read (keyword key.Declare t) (λ u. bind (of_elemlist u) (λ el q. done (tt, (q, refl))))
    (either (is_active t) (of_active t) (bind (of_elemlist t) (λ el q. done (tt, (q, refl)))))

of_elem : (t : Toks) → Of (λ (e : Elem). At in_elem e × IfId e.id) (elemfield t)
of_elem t = bind (of_optional_id (after t)) (λ x i. skip (name_annotation x.1) (λ n. bind (of_elem_of n.1) (λ k p.
    done (join SiteOk (in_elem_kind k.0.0) _ p.0 (join SiteOk (in_payload k.0.1) _ p.1.0 ((p.1.1, tt), tt)), i))))

-- data
of_memuse : (t : Toks) → Of IndexOk (memuse t)
of_memuse t = read (form key.Memory t) (λ u. closed (of_index u)) (either (is_number (peek 0 t)) (of_index t) (done (refl, tt)))

of_data_kind : (t : Toks) → Of (At in_data_kind) (data_kind_of t)
of_data_kind t = either (is_data t) (done tt) (bind (of_memuse t) (λ x q. bind (of_expression_in key.Offset x.1) (λ e p. done (q, constant e.0 p))))

of_data : (t : Toks) → Of (λ (d : Data). At in_data_kind d.kind × IfId d.id) (datafield t)
of_data t = bind (of_optional_id (after t))
    (λ x i. skip (name_annotation x.1) (λ n. bind (of_data_kind n.1) (λ k p. skip (datastring k.1) (λ bs. done (p, i)))))

-- tables, memories and globals
of_init : (t : Toks) → Of (IfSome Sound) (init_expression t)
of_init t = either (is_end (peek 0 t)) (done tt) (bind (of_expression false t) (λ e p. done p))

of_inline_elements : (r : RefType) → In in_ref r → (t : Toks) → Of (At in_payload) (inline_elements r t)
of_inline_elements r q t = either (is_lparen (peek 0 t)) (of_exprs r q t) (either (is_funcref r) (of_funcs t) (of_funcref_elems r q t))

of_table_of : (i : Option InlineImport) (t : Toks) → Of (At in_table_kind) (table_of i t)
of_table_of (Some i) t = bind (of_table_type t) (λ x p. done (asked (in_table_type x.0) p))
of_table_of None t = skip (is_there (keyword key.Shared) t) (λ s. skip (addrtype s.1) (λ a. either (is_number (peek 0 a.1))
    (skip (limits a.0 a.1) (λ l. bind (of_ref l.1)
    (λ r p. bind (of_init r.1) (λ e q. done (join SiteOk (check_sites (in_table_type (record { limits = l.0; elem = r.0; shared = s.0 }))) _
    (asked _ (join IsOk (in_ref r.0) _ p (tt, tt))) (there Sound SiteOk in_constant constant e.0 q))))))
    (bind (of_ref a.1) (λ r p. skip (form key.Elem r.1) (λ u. bind (of_inline_elements r.0 p u) (λ el q. skip (rparen el.1) (λ x.
    done (join SiteOk (check_sites (in_ref r.0)) _ (asked (in_ref r.0) p) (join SiteOk (in_payload el.0) _ q ((tt, tt), tt))))))))))

of_table : (t : Toks) → Of (λ (f : Table). At in_table_kind f.kind × IfId f.id) (tablefield t)
of_table t = bind (of_head t) (λ h i. skip (inline_import h.1) (λ m. bind (of_table_of m.0 m.1) (λ k p. done (p, i))))

of_memory_of : (i : Option InlineImport) (t : Toks) → Of (At in_memory_kind) (memory_of i t)
of_memory_of (Some i) t = skip (memtype t) (λ x. done tt)
of_memory_of None t = either (has_inline_data t)
    (skip (addrtype t) (λ a. bind (of_pagesize a.1)
    (λ p h. skip (form key.Data p.1) (λ u. skip (datastring u) (λ bs. skip (rparen bs.1) (λ r. done ((h, tt), tt)))))))
    (skip (memtype t) (λ x. done tt))

of_memory : (t : Toks) → Of (λ (f : Memory). At in_memory_kind f.kind × IfId f.id) (memoryfield t)
of_memory t = bind (of_head t) (λ h i. skip (inline_import h.1) (λ m. bind (of_memory_of m.0 m.1) (λ k p. done (p, i))))

of_global_of : (i : Option InlineImport) (t : Toks) → Of (At in_global_kind) (global_of i t)
of_global_of (Some i) t = done tt
of_global_of None t = bind (of_expression false t) (λ e p. done (constant e.0 p))

of_global : (t : Toks) → Of (λ (f : Global). At in_global f × IfId f.id) (globalfield t)
of_global t = bind (of_head t) (λ h i. skip (inline_import h.1) (λ m. bind (of_global_type m.1) (λ g p. bind (of_global_of m.0 g.1) (λ k q.
    done (join SiteOk (check_sites (in_global_type g.0)) (in_global_kind k.0) (asked (in_global_type g.0) p) q, i)))))

-- tags, exports and custom sections
of_tag : (t : Toks) → Of (λ (x : Tag). At in_tag_type x.ty × IfId x.id) (tagfield t)
of_tag t = bind (of_head t) (λ h i. skip (inline_import h.1) (λ m. bind (of_typeuse true m.1) (λ u p. done ((p, tt), i))))

of_export : (t : Toks) → Of (λ (x : Export). IndexOk x.item) (exportfield t)
of_export t = skip (name (after t))
    (λ nm. skip (lparen nm.1) (λ u. skip (externidx_keyword u) (λ k. bind (of_index k.1) (λ x p. skip (rparen x.1) (λ r. done p)))))

custom_ok : (c : Custom) → Each SiteOk (in_custom c)
custom_ok (custom.Raw s) = tt
custom_ok (custom.Producers s) = tt
custom_ok (custom.Dylink0 s) = asked (flat_map in_subsection s.subsections) (over IsOk in_subsection s.subsections (all s.subsections))
  where
    one : (x : Dylink0Subsection) → Each IsOk (in_subsection x)
    one (dylink.TargetArch n) = (tt, tt)
    one x = tt

    all : (xs : List Dylink0Subsection) → Each (In in_subsection) xs
    all [] = tt
    all (x ∷ xs) = (one x, all xs)

-- fields, with the ids of their items
abbrev pub FieldOk : ModuleField → Type 0
FieldOk f = At in_field f × Each ItemOk (items_in f)

of_form : (k : Option Key) (t : Toks) → Of FieldOk (form_of k t)
of_form (Some key.Ty) t = bind (of_typedef t) (λ x p. done (asked (in_type x.0) p.0, (p.1, tt)))
of_form (Some key.Rec) t = bind (of_rectype t) (λ x p. done (asked (in_rec x.0) p.0, p.1))
of_form (Some key.Import) t = bind (of_import t) (λ x p. done p)
of_form (Some key.Func) t = bind (of_func t) (λ x p. done (p.0, (p.1, tt)))
of_form (Some key.Table) t = bind (of_table t) (λ x p. done (p.0, (p.1, tt)))
of_form (Some key.Memory) t = bind (of_memory t) (λ x p. done (p.0, (p.1, tt)))
of_form (Some key.Global) t = bind (of_global t) (λ x p. done (p.0, (p.1, tt)))
of_form (Some key.Export) t = bind (of_export t) (λ x p. done ((p, tt), tt))
of_form (Some key.Start) t = bind (of_index (after t)) (λ x p. done ((p, tt), tt))
of_form (Some key.Elem) t = bind (of_elem t) (λ x p. done (p.0, (p.1, tt)))
of_form (Some key.Data) t = bind (of_data t) (λ x p. done (p.0, (p.1, tt)))
of_form (Some key.Tag) t = bind (of_tag t) (λ x p. done (p.0, (p.1, tt)))
of_form k t = nothing

of_field : (o : Option Token) (t : Toks) → Of FieldOk (field_of o t)
of_field (Some token.Open) t = of_form (key_of (peek 0 (after t))) (after t)
of_field (Some (token.Annotation annotation.Custom)) t = skip (customfield t) (λ x. done (custom_ok x.0, tt))
of_field (Some (token.Annotation annotation.Producers)) t = skip (producersfield t) (λ x. done (custom_ok x.0, tt))
of_field (Some (token.Annotation annotation.Dylink0)) t = skip (dylinkfield t) (λ x. done (custom_ok x.0, tt))
of_field o t = nothing

pub of_modulefields : (t : Toks) → Of (Each FieldOk) (modulefields t)
of_modulefields t = of_many goes_on modulefield (λ t. closed (of_field (peek 0 t) t)) (count t) t
