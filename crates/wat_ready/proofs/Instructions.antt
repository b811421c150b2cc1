-- Instructions: no rule reads a generated id, and each alignment is a power of two (rule 1). An instruction opens a block, closes one, or
-- does neither, as its word says. Rule by rule, in the order of wat_syntax.
use Rattle.std.proofs.Common.{◌≡◌, ℕ, Bool, true, false, List, [], ◌∷◌, ◌++◌, flat_map, Option, None, Some, if◌then◌else◌, refl}
use Rattle.std.specs.Prelude.{codes}
use Rattle.std.specs.Int.{is_power_of_two}
use Rattle.std.specs.Borrow.{Bor}
use Rattle.wat_grammar.specs.Parts.{◌>>=◌}
use Rattle.wat_grammar.specs.Integers.{uN}
use Rattle.wast_base.specs.Ids.{mark_of_option}
use Rattle.wast_base.specs.declared.ids.Index.TheVariants as by_number
use Rattle.wast_base.specs.declared.index_ops.IndexOp.{IndexOp}
use Rattle.wast_base.specs.declared.index_ops.IndexOp.TheVariants as one
use Rattle.wast_tree_nodes.specs.Sites.{BodyContext, constant_context, check_sites, in_instr, in_ref, in_heap}
use Rattle.wast_tree_nodes.specs.Sites.{in_val, in_type_use, at_label, in_handle, in_handlers, in_catch, in_mem_arg}
use Rattle.wat_tokens.specs.Words.{alignment_bytes, op_of}
use Rattle.wat_tokens.specs.declared.words.Alignment.{Alignment}
use Rattle.wat_tokens.specs.declared.words.Alignment.TheVariants as alignment
use Rattle.wat_tokens.specs.declared.words.IndexOrZeroOp.{IndexOrZeroOp}
use Rattle.wat_tokens.specs.declared.words.IndexOrZeroOp.TheVariants as or_zero
use Rattle.wat_tokens.specs.declared.words.Key.TheVariants as key
use Rattle.wat_tokens.specs.declared.words.PairOp.{PairOp}
use Rattle.wat_tokens.specs.declared.words.PairOp.TheVariants as two
use Rattle.wat_tokens.specs.declared.words.Word.{Word}
use Rattle.wat_tokens.specs.declared.words.Word.TheVariants as word
use Rattle.wat_tokens.specs.declared.words.OwnOp.{OwnOp}
use Rattle.wat_tokens.specs.declared.words.OwnOp.TheVariants as own
use Rattle.wat_tokens.specs.declared.words.AtomicOp.{AtomicOp}
use Rattle.wat_tokens.specs.declared.words.AtomicOp.TheVariants as atomic
use Rattle.wat_tokens.specs.declared.words.UncoveredOp.{UncoveredOp}
use Rattle.wat_tokens.specs.declared.words.UncoveredOp.TheVariants as other
use Rattle.wat_tokens.specs.declared.words.BlockOp.{BlockOp}
use Rattle.wat_tokens.specs.declared.words.BlockOp.TheVariants as opens
use Rattle.wat_tokens.specs.declared.tokens.Token.{Token}
use Rattle.wat_tokens.specs.declared.tokens.Token.TheVariants as token
use Rattle.wat_syntax.specs.Tree.{Index, RefType, Ordering, LoadOrStoreLane, StructAccess, CallIndirect, BrOnCast, BlockType, Plain, Instruction}
use Rattle.wat_syntax.specs.Tree.instr
use Rattle.wat_syntax.specs.Tree.bare
use Rattle.wat_syntax.specs.Tree.plain
use Rattle.wat_syntax.specs.Tokens.{Toks, Parse, peek, after, count, word_of, lparen, form, is_form}
use Rattle.wat_syntax.specs.Values.{name_annotation, index, is_index, u32}
use Rattle.wat_syntax.specs.Operators.{index_instr, uncovered_instr, pair_instr}
use Rattle.wat_syntax.specs.Instructions.{own_instr, atomic_of, plaininstr, opener, instruction_of, instruction, callindirect}
use Rattle.wat_syntax.specs.Instructions.{cast, memory_ordering, resumetable, handle, on, is_switch, struct_access, assignment}
use Rattle.wat_syntax.specs.Instructions.{offset, align, memarg, is_lane_alone, lane_memarg, laneidx, one_or_two, none_or_two}
use Rattle.wat_syntax.specs.Instructions.{ordering_or_default, blocktype, catches, catch, catch_of, is_catch, last, before_last}
use Rattle.wat_syntax.specs.Bodies.{Part, End, Else, Catch, CatchAll, Delegate, part_of}
use Rattle.wat_ready.proofs.Parses.{Of, nothing, done, bind, skip, closed, either, Each, IfSome, join, through, over, of_many}
use Rattle.wat_ready.proofs.Checks.{IsOk, SiteOk, In, At, IndexOk, IfId, asked, mark_ok}
use Rattle.wat_ready.proofs.Nesting.{Move, Up, Flat, Down, move_of, Everywhere}
use Rattle.wat_ready.proofs.Types.{of_optional_id, of_index, of_index_or_zero, of_index_if, of_indices, of_heap, of_ref, of_all_results, of_typeuse}

-- indices
abbrev Two : Index × Index → Type 0
Two x = IndexOk x.0 × IndexOk x.1

of_one_or_two : (t : Toks) → Of Two (one_or_two t)
of_one_or_two t = bind (of_index t) (λ x p. bind (of_index_if (is_index (peek 0 x.1)) x.1) (λ y q. by x.0 p y.0 y.1 q))
  where
    by : (x : Index) → IndexOk x → (o : Option Index) (r : Toks) → IfSome IndexOk o
        → Of Two (elim o [ Some second ↦ Some ((x, second), r) | None ↦ Some ((by_number.Num 0 t.before, x), r) ])
    by x p None r q = done ((refl, tt), p)
    by x p (Some y) r q = done (p, q)

of_none_or_two : (t : Toks) → Of Two (none_or_two t)
of_none_or_two t = bind (of_index_if (is_index (peek 0 t)) t) (λ x p. by x.0 x.1 p)
  where
    by : (o : Option Index) (r : Toks) → IfSome IndexOk o
        → Of Two (elim o [ Some first ↦ index r >>= λ y. Some ((first, y.0), y.1) | None ↦ Some ((by_number.Num 0 t.before, by_number.Num 0 t.before), r) ])
    by None r q = done ((refl, tt), (refl, tt))
    by (Some x) r q = bind (of_index r) (λ y p. done (q, p))

last_ok : (x : Index) (xs : List Index) → IndexOk x → Each IndexOk xs → IndexOk (last x xs)
last_ok x [] p q = p
last_ok x (y ∷ ys) p q = last_ok y ys q.0 q.1

before_ok : (x : Index) (xs : List Index) → IndexOk x → Each IndexOk xs → Each IndexOk (before_last x xs)
before_ok x [] p q = tt
before_ok x (y ∷ ys) p q = (p, before_ok y ys q.0 q.1)

-- calls, casts and accesses
of_call : (t : Toks) → Of (λ (c : CallIndirect). IndexOk c.table × In in_type_use c.ty) (callindirect t)
of_call t = bind (of_index_or_zero t) (λ x p. bind (of_typeuse false x.1) (λ u q. done (p, q)))

of_cast : (t : Toks) → Of (λ (c : BrOnCast). IndexOk c.label × (In in_ref c.to_type × In in_ref c.from_type)) (cast t)
of_cast t = bind (of_index t) (λ l p. bind (of_ref l.1) (λ s q. bind (of_ref s.1) (λ u r. done (p, (r, q)))))

cast_ok : (a b : RefType) → In in_ref a × In in_ref b → Each SiteOk (check_sites (in_ref a ++ in_ref b))
cast_ok a b p = asked (in_ref a ++ in_ref b) (join IsOk (in_ref a) (in_ref b) p.0 p.1)

of_access : (t : Toks) → Of (λ (x : StructAccess). IndexOk x.owner × IndexOk x.field) (struct_access t)
of_access t = bind (of_index t) (λ x p. bind (of_index x.1) (λ y q. done (p, q)))

-- memory arguments
abbrev IsPower : ℕ → Type 0
IsPower n = is_power_of_two n ≡ true

power : (N : Alignment) → IsPower (alignment_bytes N)
unfolding lib.Count.ones
power alignment.One = refl
power N = refl

of_align : (N : ℕ) → IsPower N → (t : Toks) → Of IsPower (align N t)
of_align N h t = by (assignment (codes "align=") t)
  where
    checked : (n : ℕ) (r : Toks) (b : Bool) → is_power_of_two n ≡ b → Of IsPower (if b then Some (n, r) else None)
    checked n r true e = done e
    checked n r false e = nothing

    by : (o : Parse (List ℕ)) → Of IsPower
        (elim o [ Some digits ↦ uN 64 digits.0 >>= λ n. if is_power_of_two n then Some (n, digits.1) else None | None ↦ Some (N, t) ])
    by None = done h
    by (Some x) = skip (uN 64 x.0) (λ n. checked n x.1 (is_power_of_two n) refl)

of_arg : (N : ℕ) → IsPower N → (t : Toks) → Of (In in_mem_arg) (memarg N t)
of_arg N h t = skip (memory_ordering t)
    (λ o. bind (of_index_or_zero o.1) (λ x p. skip (offset x.1) (λ n. bind (of_align N h n.1) (λ a q. done (p.0, (q, (tt, tt)))))))

of_lane_arg : (N : ℕ) → IsPower N → (t : Toks) → Of (λ (x : LoadOrStoreLane). In in_mem_arg x.memarg) (lane_memarg N t)
of_lane_arg N h t = either (is_lane_alone t) (skip (laneidx t) (λ l. done (refl, (h, (tt, tt)))))
    (bind (of_arg N h t) (λ m p. skip (laneidx m.1) (λ l. done p)))

abbrev BlockOk : BlockType → Type 0
BlockOk b = IfId b.label × In in_type_use b.ty

of_block : (t : Toks) → Of BlockOk (blocktype t)
of_block t = bind (of_optional_id t) (λ l p. skip (name_annotation l.1) (λ n. bind (of_typeuse false n.1) (λ u q. done (p, q))))

-- where an instruction leads, by the part of a block that its word is, and by its word
abbrev pub move_in : Option Part → Move
move_in (Some End) = Down
move_in (Some Delegate) = Down
move_in (Some Else) = Flat
move_in (Some Catch) = Flat
move_in (Some CatchAll) = Flat
move_in None = Flat

abbrev pub move_at : Option Word → Move
move_at (Some (word.Block op)) = Up
move_at w = move_in (part_of w)

module _ (h : BodyContext) where
  -- an instruction that leads so, with its sites in these surroundings
  abbrev Is : Move → Instruction → Type 0
  Is k i = (move_of i ≡ k) × Each SiteOk (in_instr h i)

  plain_op : (op : Plain) → Is (move_at (Some (word.Plain op))) (instr.Plain op)
  plain_op (plain.Bare bare.catch_all) = (refl, tt)
  plain_op (plain.Bare b) = (refl, tt)
  plain_op op = (refl, tt)

  index_op : (op : IndexOp) (x : Index) → IndexOk x → Is (move_at (Some (word.Index op))) (index_instr op x)
  index_op one.Delegate x p = (refl, (tt, (p, tt)))
  index_op one.Catch x p = (refl, (p, tt))
  index_op op x p = (refl, (p, tt))

  or_zero_op : (op : IndexOrZeroOp) (x : Index) → IndexOk x → Is Flat (index_instr (op_of op) x)
  or_zero_op or_zero.table_get x p = (refl, (p, tt))
  or_zero_op op x p = (refl, (p, tt))

  uncovered_op : (op : UncoveredOp) (x : Index) → IndexOk x → Is Flat (uncovered_instr op x)
  uncovered_op other.cont_new x p = (refl, (p, ((tt, tt), tt)))
  uncovered_op op x p = (refl, (p, ((tt, tt), tt)))

  pair_op : (op : PairOp) (x y : Index) → IndexOk x → IndexOk y → Is Flat (pair_instr op x y)
  pair_op two.struct_get x y p q = (refl, ((p.0, q), tt))
  pair_op two.struct_get_s x y p q = (refl, ((p.0, q), tt))
  pair_op two.struct_get_u x y p q = (refl, ((p.0, q), tt))
  pair_op two.struct_set x y p q = (refl, ((p.0, q), tt))
  pair_op two.memory_init x y p q = (refl, (q, (p, tt)))
  pair_op two.memory_copy x y p q = (refl, (q, (p, tt)))
  pair_op two.table_init x y p q = (refl, (q, (p, tt)))
  pair_op two.cont_bind x y p q = (refl, (p, (q, ((tt, tt), tt))))
  pair_op two.switch x y p q = (refl, (p, (q, ((tt, tt), tt))))
  pair_op op x y p q = (refl, (p, (q, tt)))

  -- handlers
  of_handle : (t : Toks) → Of (At (in_handle h.blocks)) (handle t)
  of_handle t = bind (of_index t) (λ x p. either (is_switch (word_of (peek 0 x.1))) (done (p, tt)) (bind (of_index x.1) (λ l q. done (p, (q, tt)))))

  of_resume : (t : Toks) → Of (At (in_handlers h.blocks)) (resumetable t)
  of_resume t = bind (of_many (is_form key.On) on (λ t. skip (form key.On t) (λ u. closed (of_handle u))) (count t) t)
      (λ hs p. done (join SiteOk (flat_map (in_handle h.blocks) hs.0) _ (over SiteOk (in_handle h.blocks) hs.0 p) ((tt, tt), tt)))

  of_own : (op : OwnOp) (t : Toks) → Of (Is (move_at (Some (word.Own op)))) (own_instr op t)
  of_own own.else_ t = bind (of_optional_id t) (λ x p. done (refl, (mark_ok (mark_of_option x.0) p, tt)))
  of_own own.end_ t = bind (of_optional_id t) (λ x p. done (refl, (mark_ok (mark_of_option x.0) p, (tt, tt))))
  of_own own.br_table t = bind (of_index t) (λ x p. bind (of_indices x.1) (λ y q.
      let ls = through IndexOk SiteOk (at_label h.blocks) (λ i p. (p, tt)) (before_last x.0 y.0) (before_ok x.0 y.0 p q) in
      done (refl, join SiteOk (flat_map (at_label h.blocks) (before_last x.0 y.0)) _ ls (last_ok x.0 y.0 p q, tt))))
  of_own own.call_indirect t = bind (of_call t) (λ c p. done (refl, (p.0, (p.1, tt))))
  of_own own.return_call_indirect t = bind (of_call t) (λ c p. done (refl, (p.0, (p.1, tt))))
  of_own own.select t = either (is_form key.Result t)
      (bind (of_all_results t) (λ x p. done (refl, asked (flat_map in_val x.0) (over IsOk in_val x.0 p)))) (done (refl, tt))
  of_own own.ref_null t = bind (of_heap t) (λ x p. done (refl, asked (in_heap x.0) p))
  of_own own.ref_test t = bind (of_ref t) (λ x p. done (refl, asked (in_ref x.0) p))
  of_own own.ref_cast t = bind (of_ref t) (λ x p. done (refl, asked (in_ref x.0) p))
  of_own own.ref_cast_desc_eq t = bind (of_ref t) (λ x p. done (refl, asked _ (join IsOk (in_ref x.0) _ p (tt, tt))))
  of_own own.br_on_cast t = bind (of_cast t) (λ c p. done (refl, (p.0, cast_ok c.0.to_type c.0.from_type p.1)))
  of_own own.br_on_cast_fail t = bind (of_cast t) (λ c p. done (refl, (p.0, cast_ok c.0.to_type c.0.from_type p.1)))
  of_own own.br_on_cast_desc_eq t = bind (of_cast t) (λ c p. done (
    refl,
    (p.0, join SiteOk (check_sites (in_ref c.0.to_type ++ in_ref c.0.from_type)) _ (cast_ok c.0.to_type c.0.from_type p.1) ((tt, tt), tt)),
  ))
  of_own own.br_on_cast_desc_eq_fail t = bind (of_cast t) (λ c p. done (
    refl,
    (p.0, join SiteOk (check_sites (in_ref c.0.to_type ++ in_ref c.0.from_type)) _ (cast_ok c.0.to_type c.0.from_type p.1) ((tt, tt), tt)),
  ))
  of_own own.array_new_fixed t = bind (of_index t) (λ x p. skip (u32 x.1) (λ n. done (refl, (p, tt))))
  of_own own.atomic_fence t = skip (memory_ordering t) (λ o. done (refl, ((tt, tt), tt)))
  of_own own.resume t = bind (of_index t) (λ x p. bind (of_resume x.1) (λ r q. done (refl, (p, q))))
  of_own own.resume_throw t = bind (of_index t) (λ x p. bind (of_index x.1) (λ y q. bind (of_resume y.1) (λ r s. done (refl, (p, (q, s))))))
  of_own own.resume_throw_ref t = bind (of_index t) (λ x p. bind (of_resume x.1) (λ r q. done (refl, (p, q))))
  of_own op t = skip _ (λ x. done (refl, tt))

  of_atomic : (op : AtomicOp) (o : Ordering) (t : Toks) → Of (Is Flat) (atomic_of op o t)
  of_atomic atomic.Global o t = bind (of_index t) (λ x p. done (refl, (p, ((tt, tt), tt))))
  of_atomic atomic.Table o t = bind (of_index_or_zero t) (λ x p. done (refl, (p, ((tt, tt), tt))))
  of_atomic atomic.Struct o t = bind (of_access t) (λ x p. done (refl, ((p.0.0, p.1), ((tt, tt), tt))))
  of_atomic atomic.Array o t = bind (of_index t) (λ x p. done (refl, (p, ((tt, tt), tt))))

  of_word : (w : Word) (name : Bor (List ℕ)) (t : Toks) → Of (Is (move_at (Some w))) (plaininstr w name t)
  of_word (word.Plain op) name t = done (plain_op op)
  of_word (word.Mem op N) name t = bind (of_arg (alignment_bytes N) (power N) t) (λ m p. done (refl, asked (in_mem_arg m.0) p))
  of_word (word.Lane op) name t = skip (laneidx t) (λ x. done (refl, tt))
  of_word (word.MemLane op N) name t = bind (of_lane_arg (alignment_bytes N) (power N) t) (λ m p. done (refl, asked (in_mem_arg m.0.memarg) p))
  of_word (word.Index op) name t = bind (of_index t) (λ x p. done (index_op op x.0 p))
  of_word (word.IndexOrZero op) name t = bind (of_index_or_zero t) (λ x p. done (or_zero_op op x.0 p))
  of_word (word.Uncovered op) name t = bind (of_index t) (λ x p. done (uncovered_op op x.0 p))
  of_word (word.UncoveredOrZero op) name t = bind (of_index_or_zero t) (λ x p. done (uncovered_op op x.0 p))
  of_word (word.Pair op) name t = bind (of_index t) (λ x p. bind (of_index x.1) (λ y q. done (pair_op op x.0 y.0 p q)))
  of_word (word.OneOrTwo op) name t = bind (of_one_or_two t) (λ x p. done (pair_op op x.0.0 x.0.1 p.0 p.1))
  of_word (word.NoneOrTwo op) name t = bind (of_none_or_two t) (λ x p. done (pair_op op x.0.0 x.0.1 p.0 p.1))
  of_word (word.Own op) name t = of_own op t
  of_word (word.Atomic op) name t = skip (memory_ordering t) (λ o. of_atomic op (ordering_or_default o.0) o.1)
  of_word word.Beyond name t = done (refl, ((tt, tt), tt))
  of_word w name t = nothing

  -- blocks
  of_catch_of : (w : Option Word) (t : Toks) → Of (At (in_catch h.blocks)) (catch_of w t)
  of_catch_of (Some (word.Index one.Catch)) t = bind (of_index t) (λ x p. bind (of_index x.1) (λ l q. done (p, (q, tt))))
  of_catch_of (Some (word.Key key.CatchRef)) t = bind (of_index t) (λ x p. bind (of_index x.1) (λ l q. done (p, (q, tt))))
  of_catch_of (Some (word.Key key.CatchAllRef)) t = bind (of_index t) (λ l q. done (q, tt))
  of_catch_of (Some (word.Plain (plain.Bare bare.catch_all))) t = bind (of_index t) (λ l q. done (q, tt))
  of_catch_of w t = nothing

  of_catches : (t : Toks) → Of (Each (At (in_catch h.blocks))) (catches t)
  of_catches t = of_many is_catch catch (λ t. skip (lparen t) (λ u. closed (of_catch_of (word_of (peek 0 u)) (after u)))) (count t) t

  of_opener : (op : BlockOp) (t : Toks) → Of (Is Up) (opener op t)
  of_opener opens.try_table t = bind (of_block t) (λ b p. bind (of_catches b.1) (λ c q.
      let cs = over SiteOk (in_catch h.blocks) c.0 q in
      done (refl, (p.1, join SiteOk (flat_map (in_catch h.blocks) c.0) _ cs (mark_ok (mark_of_option b.0.label) p.0, tt)))))
  of_opener op t = bind (of_block t) (λ b p. done (refl, (p.1, (mark_ok (mark_of_option b.0.label) p.0, tt))))

  of_token : (o : Option Token) (t : Toks) → Of (Is (move_at (word_of o))) (instruction_of o t)
  of_token None t = nothing
  of_token (Some (token.Word (word.Key k) name)) t = nothing
  of_token (Some (token.Word (word.Block op) name)) t = of_opener op t
  of_token (Some (token.Word w name)) t = of_word w name t
  of_token (Some o) t = nothing

-- an instruction that leads so, with its sites in any surroundings
pub record Whole (k : Move) (i : Instruction) : Type 0 where
  pub leads : move_of i ≡ k
  pub sites : Everywhere i

pub of_instruction : (t : Toks) → Of (Whole (move_at (word_of (peek 0 t)))) (instruction t)
of_instruction t = record {
  at = λ x e. record {
    leads = ((of_token constant_context (peek 0 t) (after t)).at x e).0;
    sites = λ h. ((of_token h (peek 0 t) (after t)).at x e).1;
  };
}
