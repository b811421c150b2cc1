-- What is built item by item is the list of the items, and what is put together is a body.
use Rattle.std.proofs.Common.{◌≡◌, ℕ, true, List, [], ◌∷◌, ◌++◌, length, refl, sym, ap, ◌∙◌, subst, append_assoc, append-nil, length-append}
use Rattle.std.specs.List.{flat_map}
use Rattle.std.proofs.lemmas.List.{flat_map_more}
use Rattle.std.proofs.lemmas.List.Elements.{All-nil, All-cons}
use Rattle.wast_base.specs.Blocks.{Stays, stays_open, is_balanced}
use Rattle.wasm_ops.specs.ConstExprs.{SpellsExpression}
use Rattle.wasm_ops.specs.Table.{Instr, instrs, IsInstr, SpellsInstrs, instr}
use Rattle.wasm_ops.specs.Turns.{turn_of}
use Rattle.wasm_out.specs.Bodies.{Body, locals, IsSpellableContent, SpellsBody}
use Rattle.wasm_out.specs.Built.{Built, built_with, builder_of}

-- one item more
pub built_with-built : {A : Type 0} (spell : A → List ℕ) (items : List A) (item : A)
    → built_with (builder_of spell items) (spell item) ≡ builder_of spell (items ++ (item ∷ []))
built_with-built spell items item =
    let f : ℕ → Built = λ n. record { count = n; bytes = flat_map spell items ++ spell item } in
    let g : List ℕ → Built = λ bs. record { count = length (items ++ (item ∷ [])); bytes = bs } in
    ap f (sym (length-append items (item ∷ []))) ∙ ap g (flat_map_more spell [] items item)

-- one instruction
pub spells_instr : (i : Instr) → IsInstr i → SpellsInstrs (instr i).bytes
spells_instr i p = record { list = i ∷ []; in_range = All-cons IsInstr i [] p (All-nil IsInstr); spelled = sym (append-nil (instr i).bytes) }

-- an expression of one instruction, which opens and closes no block
pub spells_expression : (i : Instr) → IsInstr i → turn_of i ≡ Stays → SpellsExpression (instr i).bytes
unfolding stays_open spells_instr
spells_expression i p stays =
    let one = spells_instr i p in
    let balanced = subst (λ t. is_balanced (t ∷ []) ≡ true) (sym stays) refl in
    record { list = i ∷ []; in_range = record { instrs = one.in_range; balanced = balanced }; spelled = one.spelled }

-- locals, instructions and an end
pub spells_body : (b : Body) (bytes : List ℕ) → IsSpellableContent b → bytes ≡ (locals b.locals ++ instrs b.instrs) ++ (0x0b ∷ []) → SpellsBody bytes
spells_body b bytes p e = record { body = b; in_range = p; spelled = e ∙ append_assoc (locals b.locals) (instrs b.instrs) (0x0b ∷ []) }
