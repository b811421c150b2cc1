-- An order of signatures for maps: it is total, and two signatures are equal exactly if neither is less.
--
-- Lengths are compared first, so that types are compared only between lists of equal lengths.
--
--   (func (result f64 f64))          less than (func (param i32)): fewer parameters
--   (func (param f64))               less than (func (param i32) (result i32)): fewer results
use Rattle.std.specs.Prelude.{◌≡◌, ◌==◌, Bool, true, false, ◌&&◌, List, length}
use Rattle.std.specs.declared.cmp.Ordering.{Ordering}
use Rattle.std.specs.Ordering.{nat_cmp, ordering_then, eq_by_cmp, as_partial_cmp}
use Rattle.std.specs.Cmp.{IsTotalOrder, IsPartialOrder, on_total, then_total, nat_cmp_total, both_tied, unsigned_ties, unsigned_Decides, po}
use Rattle.std.specs.Cmp.Lexicographic.{slice_cmp, lists_total, lists_ties, as_long}
use mathlib.Core.Bool.{true≢false}
use Rattle.std.proofs.Common.{refl, sym, ◌∙◌}
use Rattle.wast_tree_nodes.specs.contracts.types.ValTypeOrd.TheImpl as ordered
use Rattle.wast_tree_nodes.specs.contracts.types.ValTypeOrd.TheImpl.Laws as laws
use Rattle.wast_expand_keys.specs.Tree.{ValType}
use Rattle.wast_expand_keys.specs.Signatures.{Signature, same_value, same_values, same_signature}
use Rattle.wast_expand_keys.specs.SignatureLaws.{same_values_are}

-- the order of value types
abbrev pub value_cmp : ValType → ValType → Ordering
value_cmp = ordered.ghosts.cmp

-- the order of lists of value types: the first difference decides
abbrev pub values_cmp : List ValType → List ValType → Ordering
values_cmp vs ws = slice_cmp value_cmp vs ws

-- The order of signatures: number of parameters, number of results, types of parameters, types of results.
abbrev pub signature_cmp : Signature → Signature → Ordering
signature_cmp s t = ordering_then (ordering_then (ordering_then (nat_cmp (length s.0) (length t.0)) (nat_cmp (length s.1) (length t.1))) (values_cmp s.0 t.0)) (values_cmp s.1 t.1)

values_total : IsTotalOrder values_cmp
values_total = lists_total laws.total-law

-- the order is total
pub signatures_total : IsTotalOrder signature_cmp
signatures_total = then_total (then_total (then_total (on_total (λ (s : Signature). length s.0) nat_cmp_total) (on_total (λ (s : Signature). length s.1) nat_cmp_total)) (on_total (λ (s : Signature). s.0) values_total)) (on_total (λ (s : Signature). s.1) values_total)

values_tied : (vs ws : List ValType) → same_values vs ws ≡ eq_by_cmp values_cmp vs ws
values_tied vs ws = same_values_are vs ws ∙ lists_ties value_cmp laws.matches_eq-law vs ws

-- tests that follow from two tests may come before them
tested_before : (l r a b : Bool) → (a ≡ true → l ≡ true) → (b ≡ true → r ≡ true) → (a && b) ≡ (((l && r) && a) && b)
tested_before true true a b f g = refl
tested_before true false false b f g = refl
tested_before true false true false f g = refl
tested_before true false true true f g = sym (g refl)
tested_before false r false b f g = refl
tested_before false r true b f g = absurd (true≢false (sym (f refl)))

-- equal lists have the same length
same_long : (vs ws : List ValType) → same_values vs ws ≡ true → (length vs == length ws) ≡ true
same_long vs ws h = (unsigned_Decides (length vs) (length ws)).1 (as_long same_value vs ws h)

with_lengths : (s t : Signature) → same_signature s t ≡ (((length s.0 == length t.0 && length s.1 == length t.1) && same_values s.0 t.0) && same_values s.1 t.1)
with_lengths s t = tested_before (length s.0 == length t.0) (length s.1 == length t.1) (same_values s.0 t.0) (same_values s.1 t.1) (same_long s.0 t.0) (same_long s.1 t.1)

-- signatures are equal exactly if the order compares them as equal
pub signatures_tied : (s t : Signature) → same_signature s t ≡ eq_by_cmp signature_cmp s t
signatures_tied s t = with_lengths s t ∙ both_tied _ _ _ _ (both_tied _ _ _ _ (both_tied _ _ _ _ (unsigned_ties (length s.0) (length t.0)) (unsigned_ties (length s.1) (length t.1))) (values_tied s.0 t.0)) (values_tied s.1 t.1)

-- so `partial_cmp` has the properties that its trait requires
pub signatures_ordered : IsPartialOrder same_signature (as_partial_cmp signature_cmp)
signatures_ordered = po signatures_total signatures_tied
