-- Appending a type for a signature that has none.
use Rattle.std.proofs.Common.{◌≡◌, ℕ, ◌+◌, cond, List, [], ◌∷◌, ◌++◌, length, Some, None, is_some, sym, ap, ◌∙◌}
use Rattle.std.specs.Option.{option_or}
use Rattle.wast_base.specs.Ids.{gensym_id}
use Rattle.wast_expand_types.specs.Tree.{Index, ValType}
use Rattle.wast_expand_types.specs.Tree.index
use Rattle.wast_expand_keys.specs.Signatures.{Signature, same_signature}
use Rattle.wast_expand_keys.specs.SignatureLaws.{signatures_equiv}
use Rattle.wast_expand_keys.specs.Numbers.{TypeNames, numbered_signature}
use Rattle.wast_expand_keys.specs.Expanders.{BoundSignatures, numbers_in, index_of, with_more, Extends}
use Rattle.wast_expand_keys.specs.Expanded.{start_of_text, implied_type, implied_types, bindings}
use Rattle.wast_expand_types.specs.Binding.{new_signatures, AddsTypes}
use Rattle.wast_expand_types.specs.declared.binder.Binder.{Binder}
use Rattle.wast_expand_types.proofs.Adding.{types_again}
use Rattle.wast_expand_types.proofs.NumberedTypes.{twice}

pub now_bound : (old new : BoundSignatures) (s : Signature) (i j : Index) → index_of old s ≡ None → i ≡ j → Extends old new ((s, j) ∷ [])
    → index_of new s ≡ Some i
now_bound old new s i j none is h =
    h s ∙ (ap (λ o. option_or o (cond (same_signature s s) (Some j) None)) none ∙ (ap (λ b. cond b (Some j) None) (signatures_equiv.refl s)
    ∙ ap (λ (k : Index). Some k) (sym is)))

module _ (a : Binder) (s key : Signature) (is : key ≡ numbered_signature (numbers_in a.cx) s) where
  new_one : index_of a.cx.bound key ≡ None → new_signatures a.cx (s ∷ []) ≡ key ∷ []
  new_one none = ap (λ b. cond b [] (numbered_signature (numbers_in a.cx) s ∷ [])) (ap is_some (ap (index_of a.cx.bound) (sym is) ∙ none))
      ∙ ap (λ (t : Signature). t ∷ []) (sym is)

  one_binding : (n : ℕ) → (key, index.Id (gensym_id n start_of_text)) ∷ [] ≡ bindings (numbers_in a.cx) (implied_types n (key ∷ []))
  one_binding n =
      let k : TypeNames = numbers_in a.cx in
      let stays : key ≡ numbered_signature k key = is ∙ (sym (twice k s) ∙ ap (numbered_signature k) (sym is)) in
      ap (λ (t : Signature). (t, index.Id (gensym_id n start_of_text)) ∷ []) stays
      ∙ ap (λ (vs : List ValType). (numbered_signature k (vs, key.1), index.Id (gensym_id n start_of_text)) ∷ []) (sym (types_again key.0))

pub adds_one : {a b : Binder} {s key : Signature} → key ≡ numbered_signature (numbers_in a.cx) s → index_of a.cx.bound key ≡ None
    → b.cx.names ≡ a.cx.names → Extends a.cx.bound b.cx.bound ((key, index.Id (gensym_id a.gensym start_of_text)) ∷ [])
    → b.implied ≡ a.implied ++ implied_type a.gensym key ∷ [] → b.gensym ≡ a.gensym + 1 → AddsTypes a b (s ∷ [])
adds_one {a} {b} {s} {key} is none names types fields counter =
    let one : new_signatures a.cx (s ∷ []) ≡ key ∷ [] = new_one a s key is none in
    record {
      names = names;
      types = λ t. types t ∙ ap (λ more. with_more (index_of a.cx.bound) more t) (one_binding a s key is a.gensym
          ∙ ap (λ ss. bindings (numbers_in a.cx) (implied_types a.gensym ss)) (sym one));
      fields = fields ∙ ap (λ ss. a.implied ++ implied_types a.gensym ss) (sym one);
      counter = counter ∙ ap (λ (ss : List Signature). a.gensym + length ss) (sym one);
    }
