-- Look-ups in an ordered map, before and after a signature is added.
use Rattle.std.proofs.Common.{◌≡◌, Bool, true, false, cond, [], ◌∷◌, ◌++◌, Option, Some, None, refl, sym, ap, ◌∙◌}
use mathlib.Core.Path.{fun_ext}
use Rattle.std.specs.BTreeMap.{is_at}
use Rattle.std.specs.Map.{lookup}
use Rattle.std.specs.Option.{option_or, unwrap_or}
use Rattle.wast_expand_keys.specs.Tree.{Index}
use Rattle.wast_expand_keys.specs.Signatures.{Signature, same_signature}
use Rattle.wast_expand_keys.specs.SignatureLaws.{signatures_equiv}
use Rattle.wast_expand_keys.specs.SignatureOrder.{signature_cmp, signatures_tied}
use Rattle.wast_expand_keys.specs.Expanders.{BoundSignatures, index_of, with_more}

-- the order finds what equality finds
pub found_in_order : (es : BoundSignatures) (s : Signature) → lookup (is_at (signature_cmp s)) es ≡ index_of es s
found_in_order es s = ap (λ (test : Signature → Bool). lookup test es) (fun_ext (λ (z : Signature). sym (signatures_tied s z)))

-- equal signatures have the same index
pub same_index_of : (es : BoundSignatures) (s k : Signature) → same_signature s k ≡ true → index_of es s ≡ index_of es k
same_index_of es s k h = ap (λ (test : Signature → Bool). lookup test es) (fun_ext (λ (z : Signature). signatures_equiv.congr s k z h))

-- the entry at a key is the index of the key, if it has one
kept_or_new : (b : Bool) (o p : Option Index) (i w : Index) → (b ≡ true → o ≡ p) → w ≡ unwrap_or p i → cond b (Some w) o ≡ option_or o (cond b (Some i) None)
kept_or_new true None p i w h e = ap (λ (j : Index). Some j) (e ∙ ap (λ q. unwrap_or q i) (sym (h refl)))
kept_or_new true (Some j) p i w h e = ap (λ (k : Index). Some k) (e ∙ ap (λ q. unwrap_or q i) (sym (h refl)))
kept_or_new false None p i w h e = refl
kept_or_new false (Some j) p i w h e = refl

-- so a key keeps its index, and a new key gets the index
pub put_once : (es fs : BoundSignatures) (k s : Signature) (i w : Index) → w ≡ unwrap_or (lookup (is_at (signature_cmp k)) es) i
    → lookup (is_at (signature_cmp s)) fs ≡ cond (is_at (signature_cmp k) s) (Some w) (lookup (is_at (signature_cmp s)) es)
    → index_of fs s ≡ with_more (index_of es) ((k, i) ∷ []) s
put_once es fs k s i w is h =
    sym (found_in_order fs s) ∙ (h ∙ (ap (λ o. cond (is_at (signature_cmp k) s) (Some w) o) (found_in_order es s)
    ∙ (ap (λ b. cond b (Some w) (index_of es s)) (sym (signatures_tied k s) ∙ signatures_equiv.symm k s)
    ∙ kept_or_new (same_signature s k) (index_of es s) (index_of es k) i w (same_index_of es s k) (is ∙ ap (λ o. unwrap_or o i) (found_in_order es k)))))

-- additions after additions
pub lookup-append : (test : Signature → Bool) (a b : BoundSignatures) → lookup test (a ++ b) ≡ option_or (lookup test a) (lookup test b)
lookup-append test [] b = refl
lookup-append test (e ∷ a) b = head_case (test e.0) e.1 (lookup test a) (lookup test b) (lookup test (a ++ b)) (lookup-append test a b)
  where
    head_case : (t : Bool) (i : Index) (o p both : Option Index) → both ≡ option_or o p → cond t (Some i) both ≡ option_or (cond t (Some i) o) p
    head_case true i o p both h = refl
    head_case false i o p both h = h

pub or_or : (o p q : Option Index) → option_or (option_or o p) q ≡ option_or o (option_or p q)
or_or None p q = refl
or_or (Some i) p q = refl
