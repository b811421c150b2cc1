-- Equality of signatures is an equivalence, and equal signatures have equal hash input.
--
-- Maps need both, because a key must be found by any equal key. For example, `(func (param $p i32))` and
-- `(func (param $q i32))` have one signature and one hash.
use Rattle.std.specs.Prelude.{◌≡◌, ◌==◌, Bool, ◌&&◌, List, ◌++◌}
use Rattle.std.proofs.Common.{refl, sym, ap, subst, ◌∙◌}
use mathlib.Core.Path.{fun_ext}
use denote.Enum.Declared.{tag_of}
use Rattle.std.specs.Bool.{beq}
use Rattle.std.specs.Cmp.{IsEquivalence, on_equiv, and_equiv}
use Rattle.std.specs.Cmp.Lexicographic.{lists_equiv}
use Rattle.std.specs.Hash.{HashWrites, Alike, on_Alike, and-Alike, items_Alike}
use Rattle.std.specs.Hash as fed
use lib.Pointwise.{pointwise}
use Rattle.wast_base.specs.Ids.{named_by, same_name, same_index}
use Rattle.wast_base.specs.declared.ids.Name as code
use Rattle.wast_base.specs.declared.ids.Name.TheVariants as name
use Rattle.wast_base.specs.contracts.ids.NamePartialEq.TheImpl as names
use Rattle.wast_base.specs.contracts.ids.IndexPartialEq.TheImpl as indices
use Rattle.wast_tree_nodes.specs.contracts.types.AbstractHeapType as abstract_heaps
use Rattle.wast_tree_nodes.specs.contracts.types.HeapTypePartialEq.TheImpl as heaps
use Rattle.wast_tree_nodes.specs.contracts.types.RefTypePartialEq.TheImpl as refs
use Rattle.wast_tree_nodes.specs.contracts.types.ValTypePartialEq.TheImpl as values
use Rattle.wast_tree_nodes.specs.contracts.types.ValTypeEq.TheImpl.Laws as equal
use Rattle.wast_tree_nodes.specs.contracts.types.ValTypeHash.TheImpl as hashed
use Rattle.wast_tree_nodes.specs.contracts.types.ValTypeHash.TheImpl.Laws as alike
use Rattle.wast_expand_keys.specs.Tree.{Index, AbstractHeapType, HeapType, RefType, ValType}
use Rattle.wast_expand_keys.specs.Tree.index
use Rattle.wast_expand_keys.specs.Tree.abstract
use Rattle.wast_expand_keys.specs.Tree.heap
use Rattle.wast_expand_keys.specs.Tree.value
use Rattle.wast_expand_keys.specs.Signatures.{Signature, heap_rank, same_heap, same_ref, same_value, same_values, same_signature}

-- `==` of the AST types is the equality of this crate
name_is : (a b : code.Name) → same_name (named_by a) (named_by b) ≡ names.ghosts.eq a b
name_is (name.Written a) (name.Written b) = refl
name_is (name.Generated a) (name.Generated b) = refl
name_is (name.Written a) (name.Generated b) = refl
name_is (name.Generated a) (name.Written b) = refl

index_is : (a b : Index) → same_index a b ≡ indices.ghosts.eq a b
index_is (index.Num m p) (index.Num n q) = refl
index_is (index.Id a) (index.Id b) = name_is a.name b.name
index_is (index.Num m p) (index.Id b) = refl
index_is (index.Id a) (index.Num n q) = refl

rank_is : (a : AbstractHeapType) → heap_rank a ≡ tag_of abstract_heaps.the_type a
rank_is abstract.Func = refl
rank_is a = refl

heap_is : (a b : HeapType) → same_heap a b ≡ heaps.ghosts.eq a b
heap_is (heap.Abstract s a) (heap.Abstract t b) = λ i. beq s t && rank_is a i == rank_is b i
heap_is (heap.Concrete i) (heap.Concrete j) = index_is i j
heap_is (heap.Exact i) (heap.Exact j) = index_is i j
heap_is (heap.Abstract s a) (heap.Concrete j) = refl
heap_is (heap.Abstract s a) (heap.Exact j) = refl
heap_is (heap.Concrete i) (heap.Abstract t b) = refl
heap_is (heap.Concrete i) (heap.Exact j) = refl
heap_is (heap.Exact i) (heap.Abstract t b) = refl
heap_is (heap.Exact i) (heap.Concrete j) = refl

ref_is : (r q : RefType) → same_ref r q ≡ refs.ghosts.eq r q
ref_is r q = ap (λ same. beq r.nullable q.nullable && same) (heap_is r.heap q.heap)

value_is : (v w : ValType) → same_value v w ≡ values.ghosts.eq v w
value_is (value.Ref r) (value.Ref q) = ref_is r q
value_is value.I32 value.I32 = refl
value_is value.I64 value.I64 = refl
value_is value.F32 value.F32 = refl
value_is value.F64 value.F64 = refl
value_is value.V128 value.V128 = refl
value_is v w = refl

-- so the tests of the AST types have its properties
same_value_is : same_value ≡ values.ghosts.eq
same_value_is = fun_ext (λ v. fun_ext (value_is v))

-- the same for lists of value types
pub same_values_are : (vs ws : List ValType) → same_values vs ws ≡ pointwise values.ghosts.eq vs ws
same_values_are vs ws = ap (λ (same : ValType → ValType → Bool). pointwise same vs ws) same_value_is

-- equality of lists of value types is an equivalence
pub values_equiv : IsEquivalence same_values
values_equiv = lists_equiv (subst IsEquivalence (sym same_value_is) equal.laws-law)

-- equality of signatures is an equivalence
pub signatures_equiv : IsEquivalence same_signature
signatures_equiv = and_equiv (on_equiv (λ (s : Signature). s.0) values_equiv) (on_equiv (λ (s : Signature). s.1) values_equiv)

-- the hash input of a signature, from that of value types
abbrev pub signature_fed : (ValType → HashWrites) → Signature → HashWrites
signature_fed F s = fed.slice F s.0 ++ fed.slice F s.1

values_alike : Alike same_values (fed.slice hashed.ghosts.hash_input)
values_alike = items_Alike (record { fed = λ v w h. alike.respects_eq-law v w (sym (value_is v w) ∙ h) })

-- equal signatures have equal hash input
pub signatures_alike : Alike same_signature (signature_fed hashed.ghosts.hash_input)
signatures_alike = and-Alike (on_Alike (λ (s : Signature). s.0) values_alike) (on_Alike (λ (s : Signature). s.1) values_alike)
