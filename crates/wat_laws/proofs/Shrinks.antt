-- An instruction takes a token at least: its word. Each rule after the word leaves no more tokens than there were, rule by rule as in
-- wat_syntax. For example, of `i32.const 7 drop` the first instruction leaves one token of three.
use Rattle.std.proofs.Common.{◌≡◌, ◌∙◌, ℕ, zero, suc, ◌≤◌, false, List, [], Option, None, Some, option_map, refl, sym, ap, arith}
use Rattle.std.specs.Prelude.{codes, ◌||◌}
use Rattle.std.specs.Int.{is_power_of_two}
use Rattle.std.specs.Float.{binary32, binary64}
use Rattle.wat_grammar.specs.Parts.{◌>>=◌}
use Rattle.wat_grammar.specs.Integers.{uN, integer, signed_of}
use Rattle.wat_grammar.specs.Floats.{fN}
use Rattle.wast_base.specs.declared.index_ops.IndexOp.TheVariants as one
use Rattle.wat_tokens.specs.declared.words.Key.TheVariants as key
use Rattle.wat_tokens.specs.declared.words.Key.{Key}
use Rattle.wat_tokens.specs.declared.words.Word.{Word}
use Rattle.wat_tokens.specs.declared.words.Word.TheVariants as word
use Rattle.wat_tokens.specs.declared.words.OwnOp.{OwnOp}
use Rattle.wat_tokens.specs.declared.words.OwnOp.TheVariants as own
use Rattle.wat_tokens.specs.declared.words.AtomicOp.{AtomicOp}
use Rattle.wat_tokens.specs.declared.words.AtomicOp.TheVariants as atomic
use Rattle.wat_tokens.specs.declared.words.BlockOp.{BlockOp}
use Rattle.wat_tokens.specs.declared.words.BlockOp.TheVariants as opens
use Rattle.wat_tokens.specs.Words.{alignment_bytes}
use Rattle.wat_tokens.specs.declared.tokens.Token.{Token}
use Rattle.wat_tokens.specs.declared.tokens.Token.TheVariants as token
use Rattle.std.specs.Borrow.{Bor}
use Rattle.wat_syntax.specs.Tree.{Instruction, Ordering, Index}
use Rattle.wast_base.specs.declared.ids.Index.TheVariants as by_id
use Rattle.wat_syntax.specs.Tree.plain as plainly
use Rattle.wat_syntax.specs.Tree.bare
use Rattle.wat_syntax.specs.Tokens.{Toks, Parse, first, is_lparen, keyword_in, after, count, peek, keyword, form, is_form, word_of}
use Rattle.wat_syntax.specs.Values.{id, index}
use Rattle.wat_syntax.specs.Types.{absheaptype, heaptype_form, heaptype, refword, shared_reftype, reftype_form}
use Rattle.wat_syntax.specs.Types.{reftype, numtype_or_vectype, valtype, valtypes, goes_on, unnamed_param, param}
use Rattle.wat_syntax.specs.Types.{result, all_results, functype, related, typeuse, is_index_next, indices}
use Rattle.wat_syntax.specs.Instructions.{u8, signed_number, f32, f64, laneidx, times, f64x2, f32x4, i64x2, i32x4, i16x8, v128const}
use Rattle.wat_syntax.specs.Instructions.{struct_access, memory_ordering, assigned, assignment, offset, align, memarg, is_lane_alone}
use Rattle.wat_syntax.specs.Instructions.{lane_memarg, one_or_two, none_or_two, select, array_new_fixed, br_table, callindirect, cast}
use Rattle.wat_syntax.specs.Instructions.{is_switch, handle, on, resumetable, own_instr, atomic_of, ordering_or_default, plaininstr}
use Rattle.wat_syntax.specs.Instructions.{blocktype, is_catch, catch_of, catch, catches, opener, instruction_of, instruction}
use Rattle.wat_laws.specs.Lengths.{TakesToken}
use Rattle.wat_laws.proofs.Fewer.{one_less, Fewer, none, done, and_then, taking, some_of, either, cond, if_taken, if_read}
use Rattle.wat_laws.proofs.Fewer.{fewer, lparen_takes, rparen_takes, keyword_takes, form_takes, number_fewer, id_fewer}
use Rattle.wat_laws.proofs.Fewer.{u32_fewer, index_fewer, optional_fewer, optional_index_fewer, index_or_zero_fewer}
use Rattle.wat_laws.proofs.Fewer.{many_fewer, name_annotation_fewer, lists_fewer, is_there_fewer, keyword_in_fewer}

module _ (n : ℕ) where
  heaptype_form_fewer : (t : Toks) → count t ≤ n → Fewer n (heaptype_form t)
  heaptype_form_fewer t h = if_taken (form key.Shared t) (form_takes n t h key.Shared)
      (λ t h. and_then (keyword_in_fewer n t h absheaptype) (λ x h. taking (rparen_takes n x.1 h) (λ r h. done n _ r h)))
      (taking (form_takes n t h key.Exact) (λ t h. and_then (index_fewer n t h) (λ x h. taking (rparen_takes n x.1 h) (λ r h. done n _ r h))))

  heaptype_fewer : (t : Toks) → count t ≤ n → Fewer n (heaptype t)
  heaptype_fewer t h = if_read (keyword_in absheaptype t) (keyword_in_fewer n t h absheaptype) (λ x h. done n _ x.1 h)
      (either (is_lparen (peek 0 t)) (heaptype_form_fewer t h) (and_then (index_fewer n t h) (λ x h. done n _ x.1 h)))

  shared_reftype_fewer : (t : Toks) → count t ≤ n → Fewer n (shared_reftype t)
  shared_reftype_fewer t h = and_then (keyword_in_fewer n t h refword) (λ x h. taking (rparen_takes n x.1 h) (λ r h. done n _ r h))

  reftype_form_fewer : (t : Toks) → count t ≤ n → Fewer n (reftype_form t)
  reftype_form_fewer t h = taking (form_takes n t h key.Ref) (λ t h. and_then (is_there_fewer n t h (keyword key.Null) (keyword_takes n t h key.Null))
      (λ x h. and_then (heaptype_fewer x.1 h) (λ y h. taking (rparen_takes n y.1 h) (λ r h. done n _ r h))))

  reftype_fewer : (t : Toks) → count t ≤ n → Fewer n (reftype t)
  reftype_fewer t h = if_read (keyword_in refword t) (keyword_in_fewer n t h refword) (λ x h. done n _ x.1 h)
      (if_taken (form key.Shared t) (form_takes n t h key.Shared) (λ t h. shared_reftype_fewer t h) (reftype_form_fewer t h))

  valtype_fewer : (t : Toks) → count t ≤ n → Fewer n (valtype t)
  valtype_fewer t h = if_read (keyword_in numtype_or_vectype t) (keyword_in_fewer n t h numtype_or_vectype)
      (λ x h. done n _ x.1 h) (and_then (reftype_fewer t h) (λ x h. done n _ x.1 h))

  valtypes_fewer : (t : Toks) → count t ≤ n → Fewer n (valtypes t)
  valtypes_fewer t h = many_fewer n goes_on valtype valtype_fewer (count t) t h

  unnamed_param_fewer : (t : Toks) → count t ≤ n → Fewer n (unnamed_param t)
  unnamed_param_fewer t h = and_then (valtype_fewer t h) (λ x h. done n _ x.1 h)

  param_fewer : (t : Toks) → count t ≤ n → Fewer n (param false t)
  param_fewer t h = taking (form_takes n t h key.Param) (λ t h. and_then
      (many_fewer n goes_on unnamed_param unnamed_param_fewer (count t) t h) (λ x h. taking (rparen_takes n x.1 h) (λ r h. done n _ r h)))

  result_fewer : (t : Toks) → count t ≤ n → Fewer n (result t)
  result_fewer t h = taking (form_takes n t h key.Result) (λ t h. and_then (valtypes_fewer t h) (λ x h. taking (rparen_takes n x.1 h) (λ r h. done n _ r h)))

  all_results_fewer : (t : Toks) → count t ≤ n → Fewer n (all_results t)
  all_results_fewer t h = lists_fewer n (is_form key.Result) result result_fewer (count t) t h

  functype_fewer : (t : Toks) → count t ≤ n → Fewer n (functype false t)
  functype_fewer t h = and_then (lists_fewer n (is_form key.Param) (param false) param_fewer (count t) t h)
      (λ x h. and_then (all_results_fewer x.1 h) (λ y h. either (is_form key.Param y.1) (none n) (done n _ y.1 h)))

  related_fewer : (k : Key) (t : Toks) → count t ≤ n → Fewer n (related k t)
  related_fewer k t h = if_taken (form k t) (form_takes n t h k)
      (λ t h. and_then (index_fewer n t h) (λ x h. taking (rparen_takes n x.1 h) (λ r h. done n _ r h))) (done n _ t h)

  typeuse_fewer : (t : Toks) → count t ≤ n → Fewer n (typeuse false t)
  typeuse_fewer t h = and_then (related_fewer key.Ty t h) (λ x h. either (is_form key.Param x.1 || is_form key.Result x.1)
      (and_then (functype_fewer x.1 h) (λ y h. done n _ y.1 h)) (done n _ x.1 h))

  indices_fewer : (t : Toks) → count t ≤ n → Fewer n (indices t)
  indices_fewer t h = many_fewer n is_index_next index (λ t h. index_fewer n t h) (count t) t h

  u8_fewer : (t : Toks) → count t ≤ n → Fewer n (u8 t)
  u8_fewer t h = number_fewer n t h (uN 8)

  signed_fewer : (N : ℕ) (t : Toks) → count t ≤ n → Fewer n (signed_number N t)
  signed_fewer N t h = number_fewer n t h (λ text. option_map (signed_of N) (integer N text))

  f32_fewer : (t : Toks) → count t ≤ n → Fewer n (f32 t)
  f32_fewer t h = and_then (number_fewer n t h (fN binary32)) (λ x h. done n _ x.1 h)

  f64_fewer : (t : Toks) → count t ≤ n → Fewer n (f64 t)
  f64_fewer t h = and_then (number_fewer n t h (fN binary64)) (λ x h. done n _ x.1 h)

  laneidx_fewer : (t : Toks) → count t ≤ n → Fewer n (laneidx t)
  laneidx_fewer t h = and_then (u8_fewer t h) (λ x h. done n _ x.1 h)

  times_fewer : {T : Type 0} (k : ℕ) (part : Toks → Parse T) → ((t : Toks) → count t ≤ n → Fewer n (part t))
      → (t : Toks) → count t ≤ n → Fewer n (times k part t)
  times_fewer zero part p t h = done n [] t h
  times_fewer (suc k) part p t h = and_then (p t h) (λ x h. and_then (times_fewer k part p x.1 h) (λ xs h. done n _ xs.1 h))

  f64x2_fewer : (t : Toks) → count t ≤ n → Fewer n (f64x2 t)
  f64x2_fewer t h = taking (keyword_takes n t h key.F64x2) (λ t h. and_then (times_fewer 2 f64 f64_fewer t h) (λ x h. done n _ x.1 h))

  f32x4_fewer : (t : Toks) → count t ≤ n → Fewer n (f32x4 t)
  f32x4_fewer t h = if_taken (keyword key.F32x4 t) (keyword_takes n t h key.F32x4)
      (λ t h. and_then (times_fewer 4 f32 f32_fewer t h) (λ x h. done n _ x.1 h)) (f64x2_fewer t h)

  i64x2_fewer : (t : Toks) → count t ≤ n → Fewer n (i64x2 t)
  i64x2_fewer t h = if_taken (keyword key.I64x2 t) (keyword_takes n t h key.I64x2)
      (λ t h. and_then (times_fewer 2 (signed_number 64) (signed_fewer 64) t h) (λ x h. done n _ x.1 h)) (f32x4_fewer t h)

  i32x4_fewer : (t : Toks) → count t ≤ n → Fewer n (i32x4 t)
  i32x4_fewer t h = if_taken (keyword key.I32x4 t) (keyword_takes n t h key.I32x4)
      (λ t h. and_then (times_fewer 4 (signed_number 32) (signed_fewer 32) t h) (λ x h. done n _ x.1 h)) (i64x2_fewer t h)

  i16x8_fewer : (t : Toks) → count t ≤ n → Fewer n (i16x8 t)
  i16x8_fewer t h = if_taken (keyword key.I16x8 t) (keyword_takes n t h key.I16x8)
      (λ t h. and_then (times_fewer 8 (signed_number 16) (signed_fewer 16) t h) (λ x h. done n _ x.1 h)) (i32x4_fewer t h)

  v128_fewer : (t : Toks) → count t ≤ n → Fewer n (v128const t)
  v128_fewer t h = if_taken (keyword key.I8x16 t) (keyword_takes n t h key.I8x16)
      (λ t h. and_then (times_fewer 16 (signed_number 8) (signed_fewer 8) t h) (λ x h. done n _ x.1 h)) (i16x8_fewer t h)

  access_fewer : (t : Toks) → count t ≤ n → Fewer n (struct_access t)
  access_fewer t h = and_then (index_fewer n t h) (λ x h. and_then (index_fewer n x.1 h) (λ y h. done n _ y.1 h))

  ordering_fewer : (t : Toks) → count t ≤ n → Fewer n (memory_ordering t)
  ordering_fewer t h = if_taken (keyword key.SeqCst t) (keyword_takes n t h key.SeqCst) (λ t h. done n _ t h)
      (if_taken (keyword key.AcqRel t) (keyword_takes n t h key.AcqRel) (λ t h. done n _ t h) (done n _ t h))

  assignment_fewer : (name : List ℕ) (t : Toks) → count t ≤ n → Fewer n (assignment name t)
  assignment_fewer name t h = some_of (assigned name (peek 0 t)) (λ text. done n text (after t) (fewer n t h))

  offset_fewer : (t : Toks) → count t ≤ n → Fewer n (offset t)
  offset_fewer t h = if_read (assignment (codes "offset=") t) (assignment_fewer (codes "offset=") t h)
      (λ x h. some_of (uN 64 x.0) (λ k. done n k x.1 h)) (done n _ t h)

  align_fewer : (N : ℕ) (t : Toks) → count t ≤ n → Fewer n (align N t)
  align_fewer N t h = if_read (assignment (codes "align=") t) (assignment_fewer (codes "align=") t h)
      (λ x h. some_of (uN 64 x.0) (λ k. cond (is_power_of_two k) (done n k x.1 h) (none n))) (done n _ t h)

  memarg_fewer : (N : ℕ) (t : Toks) → count t ≤ n → Fewer n (memarg N t)
  memarg_fewer N t h = and_then (ordering_fewer t h) (λ o h. and_then (index_or_zero_fewer n o.1 h)
      (λ x h. and_then (offset_fewer x.1 h) (λ k h. and_then (align_fewer N k.1 h) (λ a h. done n _ a.1 h))))

  lane_memarg_fewer : (N : ℕ) (t : Toks) → count t ≤ n → Fewer n (lane_memarg N t)
  lane_memarg_fewer N t h = either (is_lane_alone t) (and_then (laneidx_fewer t h) (λ l h. done n _ l.1 h))
      (and_then (memarg_fewer N t h) (λ x h. and_then (laneidx_fewer x.1 h) (λ l h. done n _ l.1 h)))

  one_or_two_fewer : (t : Toks) → count t ≤ n → Fewer n (one_or_two t)
  one_or_two_fewer t h = and_then (index_fewer n t h) (λ x h. and_then (optional_index_fewer n x.1 h) (λ y h. by x.0 y.0 y.1 h))
    where
      by : (x : Index) (o : Option Index) (r : Toks) → count r ≤ n
          → Fewer {T = Index × Index} n (elim o [ Some second ↦ Some ((x, second), r) | None ↦ Some ((by_id.Num 0 t.before, x), r) ])
      by x None r h = done n _ r h
      by x (Some y) r h = done n _ r h

  none_or_two_fewer : (t : Toks) → count t ≤ n → Fewer n (none_or_two t)
  none_or_two_fewer t h = and_then (optional_index_fewer n t h) (λ x h. by x.0 x.1 h)
    where
      by : (o : Option Index) (r : Toks) → count r ≤ n
          → Fewer {T = Index × Index} n
          (elim o [ Some first ↦ index r >>= λ y. Some ((first, y.0), y.1) | None ↦ Some ((by_id.Num 0 t.before, by_id.Num 0 t.before), r) ])
      by None r h = done n _ r h
      by (Some x) r h = and_then (index_fewer n r h) (λ y h. done n _ y.1 h)

  select_fewer : (t : Toks) → count t ≤ n → Fewer n (select t)
  select_fewer t h = either (is_form key.Result t) (and_then (all_results_fewer t h) (λ x h. done n _ x.1 h)) (done n _ t h)

  new_fixed_fewer : (t : Toks) → count t ≤ n → Fewer n (array_new_fixed t)
  new_fixed_fewer t h = and_then (index_fewer n t h) (λ x h. and_then (u32_fewer n x.1 h) (λ y h. done n _ y.1 h))

  br_table_fewer : (t : Toks) → count t ≤ n → Fewer n (br_table t)
  br_table_fewer t h = and_then (index_fewer n t h) (λ x h. and_then (indices_fewer x.1 h) (λ y h. done n _ y.1 h))

  handle_fewer : (t : Toks) → count t ≤ n → Fewer n (handle t)
  handle_fewer t h = and_then (index_fewer n t h) (λ x h. either (is_switch (word_of (peek 0 x.1))) (done n _ (after x.1) (fewer n x.1 h))
      (and_then (index_fewer n x.1 h) (λ l h. done n _ l.1 h)))

  on_fewer : (t : Toks) → count t ≤ n → Fewer n (on t)
  on_fewer t h = taking (form_takes n t h key.On) (λ t h. and_then (handle_fewer t h) (λ x h. taking (rparen_takes n x.1 h) (λ r h. done n _ r h)))

  resume_fewer : (t : Toks) → count t ≤ n → Fewer n (resumetable t)
  resume_fewer t h = and_then (many_fewer n (is_form key.On) on on_fewer (count t) t h) (λ x h. done n _ x.1 h)

  callindirect_fewer : (t : Toks) → count t ≤ n → Fewer n (callindirect t)
  callindirect_fewer t h = and_then (index_or_zero_fewer n t h) (λ x h. and_then (typeuse_fewer x.1 h) (λ y h. done n _ y.1 h))

  cast_fewer : (t : Toks) → count t ≤ n → Fewer n (cast t)
  cast_fewer t h = and_then (index_fewer n t h) (λ x h. and_then (reftype_fewer x.1 h) (λ y h. and_then (reftype_fewer y.1 h) (λ z h. done n _ z.1 h)))

  own_fewer : (op : OwnOp) (t : Toks) → count t ≤ n → Fewer n (own_instr op t)
  own_fewer own.else_ t h = and_then (optional_fewer n t h id (id_fewer n t h)) (λ x h. done n _ x.1 h)
  own_fewer own.end_ t h = and_then (optional_fewer n t h id (id_fewer n t h)) (λ x h. done n _ x.1 h)
  own_fewer own.br_table t h = br_table_fewer t h
  own_fewer own.call_indirect t h = and_then (callindirect_fewer t h) (λ x h. done n _ x.1 h)
  own_fewer own.return_call_indirect t h = and_then (callindirect_fewer t h) (λ x h. done n _ x.1 h)
  own_fewer own.select t h = select_fewer t h
  own_fewer own.i32_const t h = and_then (signed_fewer 32 t h) (λ x h. done n _ x.1 h)
  own_fewer own.i64_const t h = and_then (signed_fewer 64 t h) (λ x h. done n _ x.1 h)
  own_fewer own.f32_const t h = and_then (f32_fewer t h) (λ x h. done n _ x.1 h)
  own_fewer own.f64_const t h = and_then (f64_fewer t h) (λ x h. done n _ x.1 h)
  own_fewer own.v128_const t h = and_then (v128_fewer t h) (λ x h. done n _ x.1 h)
  own_fewer own.i8x16_shuffle t h = and_then (times_fewer 16 u8 u8_fewer t h) (λ x h. done n _ x.1 h)
  own_fewer own.ref_null t h = and_then (heaptype_fewer t h) (λ x h. done n _ x.1 h)
  own_fewer own.ref_test t h = and_then (reftype_fewer t h) (λ x h. done n _ x.1 h)
  own_fewer own.ref_cast t h = and_then (reftype_fewer t h) (λ x h. done n _ x.1 h)
  own_fewer own.ref_cast_desc_eq t h = and_then (reftype_fewer t h) (λ x h. done n _ x.1 h)
  own_fewer own.br_on_cast t h = and_then (cast_fewer t h) (λ x h. done n _ x.1 h)
  own_fewer own.br_on_cast_fail t h = and_then (cast_fewer t h) (λ x h. done n _ x.1 h)
  own_fewer own.br_on_cast_desc_eq t h = and_then (cast_fewer t h) (λ x h. done n _ x.1 h)
  own_fewer own.br_on_cast_desc_eq_fail t h = and_then (cast_fewer t h) (λ x h. done n _ x.1 h)
  own_fewer own.array_new_fixed t h = new_fixed_fewer t h
  own_fewer own.atomic_fence t h = and_then (ordering_fewer t h) (λ x h. done n _ x.1 h)
  own_fewer own.resume t h = and_then (index_fewer n t h) (λ x h. and_then (resume_fewer x.1 h) (λ y h. done n _ y.1 h))
  own_fewer own.resume_throw t h =
      and_then (index_fewer n t h) (λ x h. and_then (index_fewer n x.1 h) (λ y h. and_then (resume_fewer y.1 h) (λ z h. done n _ z.1 h)))
  own_fewer own.resume_throw_ref t h = and_then (index_fewer n t h) (λ x h. and_then (resume_fewer x.1 h) (λ y h. done n _ y.1 h))

  atomic_of_fewer : (op : AtomicOp) (o : Ordering) (t : Toks) → count t ≤ n → Fewer n (atomic_of op o t)
  atomic_of_fewer atomic.Global o t h = and_then (index_fewer n t h) (λ x h. done n _ x.1 h)
  atomic_of_fewer atomic.Table o t h = and_then (index_or_zero_fewer n t h) (λ x h. done n _ x.1 h)
  atomic_of_fewer atomic.Struct o t h = and_then (access_fewer t h) (λ x h. done n _ x.1 h)
  atomic_of_fewer atomic.Array o t h = and_then (index_fewer n t h) (λ x h. done n _ x.1 h)

  plain_fewer : (w : Word) (name : Bor (List ℕ)) (t : Toks) → count t ≤ n → Fewer n (plaininstr w name t)
  plain_fewer (word.Plain op) name t h = done n _ t h
  plain_fewer (word.Mem op N) name t h = and_then (memarg_fewer (alignment_bytes N) t h) (λ x h. done n _ x.1 h)
  plain_fewer (word.Lane op) name t h = and_then (laneidx_fewer t h) (λ x h. done n _ x.1 h)
  plain_fewer (word.MemLane op N) name t h = and_then (lane_memarg_fewer (alignment_bytes N) t h) (λ x h. done n _ x.1 h)
  plain_fewer (word.Index op) name t h = and_then (index_fewer n t h) (λ x h. done n _ x.1 h)
  plain_fewer (word.IndexOrZero op) name t h = and_then (index_or_zero_fewer n t h) (λ x h. done n _ x.1 h)
  plain_fewer (word.Uncovered op) name t h = and_then (index_fewer n t h) (λ x h. done n _ x.1 h)
  plain_fewer (word.UncoveredOrZero op) name t h = and_then (index_or_zero_fewer n t h) (λ x h. done n _ x.1 h)
  plain_fewer (word.Pair op) name t h = and_then (index_fewer n t h) (λ x h. and_then (index_fewer n x.1 h) (λ y h. done n _ y.1 h))
  plain_fewer (word.OneOrTwo op) name t h = and_then (one_or_two_fewer t h) (λ x h. done n _ x.1 h)
  plain_fewer (word.NoneOrTwo op) name t h = and_then (none_or_two_fewer t h) (λ x h. done n _ x.1 h)
  plain_fewer (word.Own op) name t h = own_fewer op t h
  plain_fewer (word.Atomic op) name t h = and_then (ordering_fewer t h) (λ x h. atomic_of_fewer op (ordering_or_default x.0) x.1 h)
  plain_fewer word.Beyond name t h = done n _ t h
  plain_fewer w name t h = none n

  blocktype_fewer : (t : Toks) → count t ≤ n → Fewer n (blocktype t)
  blocktype_fewer t h = and_then (optional_fewer n t h id (id_fewer n t h))
      (λ l h. and_then (name_annotation_fewer n l.1 h) (λ a h. and_then (typeuse_fewer a.1 h) (λ u h. done n _ u.1 h)))

  catch_of_fewer : (w : Option Word) (t : Toks) → count t ≤ n → Fewer n (catch_of w t)
  catch_of_fewer (Some (word.Index one.Catch)) t h = and_then (index_fewer n t h) (λ x h. and_then (index_fewer n x.1 h) (λ y h. done n _ y.1 h))
  catch_of_fewer (Some (word.Key key.CatchRef)) t h = and_then (index_fewer n t h) (λ x h. and_then (index_fewer n x.1 h) (λ y h. done n _ y.1 h))
  catch_of_fewer (Some (word.Key key.CatchAllRef)) t h = and_then (index_fewer n t h) (λ x h. done n _ x.1 h)
  catch_of_fewer (Some (word.Plain (plainly.Bare bare.catch_all))) t h = and_then (index_fewer n t h) (λ x h. done n _ x.1 h)
  catch_of_fewer w t h = none n

  catch_fewer : (t : Toks) → count t ≤ n → Fewer n (catch t)
  catch_fewer t h = taking (lparen_takes n t h) (λ t h. and_then (catch_of_fewer (word_of (peek 0 t)) (after t) (fewer n t h))
      (λ c h. taking (rparen_takes n c.1 h) (λ r h. done n _ r h)))

  catches_fewer : (t : Toks) → count t ≤ n → Fewer n (catches t)
  catches_fewer t h = many_fewer n is_catch catch catch_fewer (count t) t h

  opener_fewer : (op : BlockOp) (t : Toks) → count t ≤ n → Fewer n (opener op t)
  opener_fewer opens.block t h = and_then (blocktype_fewer t h) (λ x h. done n _ x.1 h)
  opener_fewer opens.loop_ t h = and_then (blocktype_fewer t h) (λ x h. done n _ x.1 h)
  opener_fewer opens.if_ t h = and_then (blocktype_fewer t h) (λ x h. done n _ x.1 h)
  opener_fewer opens.try_ t h = and_then (blocktype_fewer t h) (λ x h. done n _ x.1 h)
  opener_fewer opens.try_table t h = and_then (blocktype_fewer t h) (λ x h. and_then (catches_fewer x.1 h) (λ y h. done n _ y.1 h))

  by_word : (w : Word) (name : Bor (List ℕ)) (t : Toks) → count t ≤ n → Fewer n (instruction_of (Some (token.Word w name)) t)
  by_word (word.Key k) name t h = none n
  by_word (word.Block op) name t h = opener_fewer op t h
  by_word w name t h = plain_fewer w name t h

  by_token : (o : Option Token) (t : Toks) → count t ≤ n → Fewer n (instruction_of o t)
  by_token (Some (token.Word w name)) t h = by_word w name t h
  by_token o t h = none n

pub shrinks : (t : Toks) (x : Instruction × Toks) → instruction t ≡ Some x → suc (count x.1) ≤ count t
shrinks t x e = by (peek 0 t) refl
  where
    least : (k : Token) → peek 0 t ≡ Some k → count x.1 ≤ count (after t) → suc (count x.1) ≤ count t
    least k is h = let l : suc (count (after t)) ≡ count t = one_less t k is in omega arith

    by : (o : Option Token) → peek 0 t ≡ o → suc (count x.1) ≤ count t
    by None is = absurd (no_instr (sym (ap (λ o. instruction_of o (after t)) is) ∙ e))
      where
        no_instr : None ≡ Some x → ⊥
        no_instr e = absurd cc
    by (Some k) is = least k is ((by_token (count (after t)) (Some k) (after t) (omega arith)).at x (sym (ap (λ o. instruction_of o (after t)) is) ∙ e))

pub takes_token : TakesToken
takes_token toks x e = let l : suc (count x.1) ≤ count toks = shrinks toks x e in omega arith
