-- Instructions without a type use: they need no type, and resolving keeps them.
use Rattle.std.proofs.Common.{◌≡◌, [], ◌++◌, refl, ap, ◌∙◌}
use Rattle.std.proofs.lemmas.List.{map-id}
use Rattle.wast_tree_nodes.specs.declared.immediates.CallIndirect.{CallIndirect}
use Rattle.wast_tree_nodes.specs.Sites.{uncovered_check, in_index, in_heap, in_ref, in_mem_arg, in_pair, in_cast, in_select}
use Rattle.wast_expand_types.specs.Tree.{BlockType, TryTable, ResumeTable, Instruction}
use Rattle.wast_expand_types.specs.Tree.form
use Rattle.wast_expand_types.specs.Tree.space
use Rattle.wast_expand_types.specs.Tree.instr
use Rattle.wast_tree_map.proofs.Types.{heap_at, ref_at}
use Rattle.wast_tree_map.proofs.Fields.{mem_arg_at}
use Rattle.wast_expand_types.specs.Binding.{IsPassed}
use Rattle.wast_expand_types.proofs.Needing.{select_stays, handlers_kept, needed_asking, needed_besides, needed_br_table, needed_cast, needed_resume}

-- The instruction is of no kind that has a type use.
record HasNoTypeUse (i : Instruction) : Type 0 where
  not_block : (b : BlockType) → i ≡ instr.block b → ⊥
  not_loop : (b : BlockType) → i ≡ instr.loop_ b → ⊥
  not_if : (b : BlockType) → i ≡ instr.if_ b → ⊥
  not_try : (b : BlockType) → i ≡ instr.try_ b → ⊥
  not_try_table : (t : TryTable) → i ≡ instr.try_table t → ⊥
  not_call : (c : CallIndirect) → i ≡ instr.call_indirect c → ⊥
  not_return_call : (c : CallIndirect) → i ≡ instr.return_call_indirect c → ⊥

passed : (i : Instruction) → HasNoTypeUse i → IsPassed i
passed (instr.block b) u = absurd (u.not_block b refl)
passed (instr.loop_ b) u = absurd (u.not_loop b refl)
passed (instr.if_ b) u = absurd (u.not_if b refl)
passed (instr.try_ b) u = absurd (u.not_try b refl)
passed (instr.try_table t) u = absurd (u.not_try_table t refl)
passed (instr.call_indirect c) u = absurd (u.not_call c refl)
passed (instr.return_call_indirect c) u = absurd (u.not_return_call c refl)
passed (instr.Mem op m) u = record { needs = needed_asking (in_mem_arg m); stays = λ find. ap (instr.Mem op) (mem_arg_at m).still }
passed (instr.MemLane op a) u = record {
  needs = needed_asking (in_mem_arg a.memarg);
  stays = λ find t. instr.MemLane op (record a { memarg = (mem_arg_at a.memarg).still t });
}
passed (instr.br_table x) u = record {
  needs = needed_br_table [] x;
  stays = λ find t. instr.br_table (record { labels = map-id x.labels t; default = x.default });
}
passed (instr.select x) u = record { needs = needed_asking (in_select x); stays = λ find. ap instr.select (select_stays x) }
passed (instr.ref_null x) u = record { needs = needed_asking (in_heap x); stays = λ find. ap instr.ref_null (heap_at x).still }
passed (instr.ref_test a) u = record {
  needs = needed_asking (in_ref a.rt);
  stays = λ find t. instr.ref_test (record { rt = (ref_at a.rt).still t });
}
passed (instr.ref_cast a) u = record {
  needs = needed_asking (in_ref a.rt);
  stays = λ find t. instr.ref_cast (record { rt = (ref_at a.rt).still t });
}
passed (instr.ref_cast_desc_eq a) u = record {
  needs = needed_asking (in_ref a.rt ++ uncovered_check form.Descriptor);
  stays = λ find t. instr.ref_cast_desc_eq (record { rt = (ref_at a.rt).still t });
}
passed (instr.br_on_cast a) u = record {
  needs = needed_cast [] a.label a.to_type a.from_type;
  stays = λ find t. instr.br_on_cast (record { label = a.label; from_type = (ref_at a.from_type).still t; to_type = (ref_at a.to_type).still t });
}
passed (instr.br_on_cast_fail a) u = record {
  needs = needed_cast [] a.label a.to_type a.from_type;
  stays = λ find t. instr.br_on_cast_fail (record { label = a.label; from_type = (ref_at a.from_type).still t; to_type = (ref_at a.to_type).still t });
}
passed (instr.br_on_cast_desc_eq a) u = record {
  needs = needed_besides (in_cast [] a.label a.to_type a.from_type) (uncovered_check form.Descriptor) ∙ needed_cast [] a.label a.to_type a.from_type;
  stays = λ find t. instr.br_on_cast_desc_eq (record {
    label = a.label;
    from_type = (ref_at a.from_type).still t;
    to_type = (ref_at a.to_type).still t;
  });
}
passed (instr.br_on_cast_desc_eq_fail a) u = record {
  needs = needed_besides (in_cast [] a.label a.to_type a.from_type) (uncovered_check form.Descriptor) ∙ needed_cast [] a.label a.to_type a.from_type;
  stays = λ find t. instr.br_on_cast_desc_eq_fail (record {
    label = a.label;
    from_type = (ref_at a.from_type).still t;
    to_type = (ref_at a.to_type).still t;
  });
}
passed (instr.resume a) u = record {
  needs = needed_resume [] (in_index space.Ty a.type_index) a.table;
  stays = λ find. ap (λ (x : ResumeTable). instr.resume (record { type_index = a.type_index; table = x })) (handlers_kept find [] a.table);
}
passed (instr.resume_throw a) u = record {
  needs = needed_resume [] (in_pair space.Ty a.type_index space.Tag a.tag_index) a.table;
  stays = λ find. ap (λ (x : ResumeTable). instr.resume_throw (record { type_index = a.type_index; tag_index = a.tag_index; table = x }))
      (handlers_kept find [] a.table);
}
passed (instr.resume_throw_ref a) u = record {
  needs = needed_resume [] (in_index space.Ty a.type_index) a.table;
  stays = λ find. ap (λ (x : ResumeTable). instr.resume_throw_ref (record { type_index = a.type_index; table = x })) (handlers_kept find [] a.table);
}
passed i u = record { needs = refl; stays = λ find. refl }

pub without_type_use : (i : Instruction) → ((b : BlockType) → i ≡ instr.block b → ⊥) → ((b : BlockType) → i ≡ instr.loop_ b → ⊥)
    → ((b : BlockType) → i ≡ instr.if_ b → ⊥) → ((b : BlockType) → i ≡ instr.try_ b → ⊥) → ((t : TryTable) → i ≡ instr.try_table t → ⊥)
    → ((c : CallIndirect) → i ≡ instr.call_indirect c → ⊥) → ((c : CallIndirect) → i ≡ instr.return_call_indirect c → ⊥) → IsPassed i
without_type_use i b1 b2 b3 b4 t c1 c2 = passed i (record {
  not_block = b1;
  not_loop = b2;
  not_if = b3;
  not_try = b4;
  not_try_table = t;
  not_call = c1;
  not_return_call = c2;
})
