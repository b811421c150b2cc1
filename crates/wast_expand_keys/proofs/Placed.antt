-- Look-ups in the two maps of an `Expander`, before and after a signature is added.
use Rattle.std.proofs.Common.{◌≡◌, ℕ, Bool, true, false, cond, [], ◌∷◌, Option, Some, None, is_some, refl, sym, ap, subst, ◌∙◌}
use mathlib.Core.Bool.{true≢false}
use Rattle.std.specs.Cmp.{unsigned_tied, unsigned_Decides, nat_eq_equiv}
use Rattle.std.specs.Ordering.{nat_cmp, is_eq}
use Rattle.std.specs.declared.cmp.Ordering.TheVariants.{Less}
use Rattle.std.specs.List.{fold, AllByRecursion}
use Rattle.std.specs.List.Sorted.{IsStrictlySortedBy}
use Rattle.std.specs.Map.{keys_of, values_of, lookup}
use Rattle.std.specs.BTreeMap.{is_at}
use Rattle.std.specs.Option.{option_or, unwrap_or}
use Rattle.std.specs.Hash.FoldHasher as folding
use Rattle.wast_expand_keys.specs.Tree.{Index}
use Rattle.wast_expand_keys.specs.Signatures.{Signature, same_signature}
use Rattle.wast_expand_keys.specs.SignatureLaws.{signatures_equiv, signatures_alike}
use Rattle.wast_expand_keys.specs.SignatureOrder.{signature_cmp}
use Rattle.wast_expand_keys.specs.Expanders.{BoundSignatures, index_of, Extends}
use Rattle.wast_expand_keys.specs.Hashed.{hash_of, Firsts, with_hash, bindings_of, ArePlaced, BindsFirst}
use Rattle.wast_expand_keys.proofs.Bound.{same_index_of, put_once, lookup-append, or_or}

-- equal signatures have the same hash
same_hash : (s k : Signature) → same_signature s k ≡ true → hash_of s ≡ hash_of k
same_hash s k h = ap (λ writes. folding.finish (fold folding.write folding.initial writes)) (signatures_alike.fed s k h)

same_number : (m n : ℕ) → is_at (nat_cmp m) n ≡ true → m ≡ n
same_number m n h = (unsigned_Decides m n).0 (sym (unsigned_tied m n) ∙ h)

at_itself : (n : ℕ) → is_at (nat_cmp n) n ≡ true
at_itself n = unsigned_tied n n ∙ nat_eq_equiv.refl n

-- In ascending hashes no hash occurs twice.
none_behind : (es : Firsts) (h : ℕ) → AllByRecursion (λ k. nat_cmp h k ≡ Less) (keys_of es) → with_hash es h ≡ None
none_behind [] h all = refl
none_behind (e ∷ es) h all = ap (λ o. cond (is_eq o) (Some e.1) (with_hash es h)) all.0 ∙ none_behind es h all.1

kept_case : (t : Bool) (e : ℕ × (Signature × Index)) (es : Firsts) (h : ℕ) (b : Signature × Index) → is_at (nat_cmp h) e.0 ≡ t
    → AllByRecursion (λ k. nat_cmp e.0 k ≡ Less) (keys_of es) → with_hash es h ≡ Some b → cond t (Some e.1) (with_hash es h) ≡ Some b
kept_case true e es h b is all found =
    absurd (true≢false (sym (ap is_some (sym (none_behind es e.0 all) ∙ (ap (with_hash es) (sym (same_number h e.0 is)) ∙ found)))))
kept_case false e es h b is all found = found

-- The index of a signature in the first map: that of the entry with its hash, if the signatures are equal.
abbrev matching : Signature → Option (Signature × Index) → Option Index
matching s None = None
matching s (Some b) = cond (same_signature s b.0) (Some b.1) None

found_case : (q t : Bool) (s : Signature) (e : ℕ × (Signature × Index)) (es : Firsts) → is_at (nat_cmp (hash_of s)) e.0 ≡ q
    → same_signature s e.1.0 ≡ t → hash_of e.1.0 ≡ e.0
    → AllByRecursion (λ k. nat_cmp e.0 k ≡ Less) (keys_of es) → lookup (same_signature s) (values_of es) ≡ matching s (with_hash es (hash_of s))
    → cond t (Some e.1.1) (lookup (same_signature s) (values_of es)) ≡ matching s (cond q (Some e.1) (with_hash es (hash_of s)))
found_case true true s e es at same own all later = ap (λ b. cond b (Some e.1.1) None) (sym same)
found_case true false s e es at same own all later =
    later ∙ (ap (matching s) (ap (with_hash es) (same_number (hash_of s) e.0 at) ∙ none_behind es e.0 all) ∙ ap (λ b. cond b (Some e.1.1) None) (sym same))
found_case false true s e es at same own all later =
    absurd (true≢false (sym (ap (λ h. is_at (nat_cmp h) e.0) (same_hash s e.1.0 same ∙ own) ∙ at_itself e.0) ∙ at))
found_case false false s e es at same own all later = later

found_first : (es : Firsts) (s : Signature) → IsStrictlySortedBy nat_cmp (keys_of es) → ((h : ℕ) (b : Signature × Index) → with_hash es h ≡ Some b
    → hash_of b.0 ≡ h)
    → lookup (same_signature s) (values_of es) ≡ matching s (with_hash es (hash_of s))
unfolding IsStrictlySortedBy
found_first [] s sorted hashed = refl
found_first (e ∷ es) s sorted hashed =
    let own : hash_of e.1.0 ≡ e.0 = hashed e.0 e.1 (ap (λ t. cond t (Some e.1) (with_hash es e.0)) (at_itself e.0)) in
    let later = found_first es s sorted.1 (λ h b found. hashed h b (kept_case (is_at (nat_cmp h) e.0) e es h b refl sorted.0 found)) in
    found_case (is_at (nat_cmp (hash_of s)) e.0) (same_signature s e.1.0) s e es refl refl own sorted.0 later

found_in : {es : Firsts} {others : BoundSignatures} (s : Signature) → ArePlaced es others
    → index_of (bindings_of es others) s ≡ option_or (matching s (with_hash es (hash_of s))) (index_of others s)
found_in {es} {others} s placed = lookup-append (same_signature s) (values_of es) others
    ∙ ap (λ o. option_or o (index_of others s)) (found_first es s placed.ascending placed.hashed)

-- the cases of a look-up
pub found_at_hash : {es : Firsts} {others : BoundSignatures} (s : Signature) (b : Signature × Index) → ArePlaced es others
    → with_hash es (hash_of s) ≡ Some b → same_signature b.0 s ≡ true
    → Some b.1 ≡ index_of (bindings_of es others) s
found_at_hash {es} {others} s b placed found same =
    sym (found_in s placed ∙ (ap (λ o. option_or (matching s o) (index_of others s)) found
    ∙ ap (λ t. option_or (cond t (Some b.1) None) (index_of others s)) (signatures_equiv.symm s b.0 ∙ same)))

pub found_beside : {es : Firsts} {others : BoundSignatures} (s : Signature) (b : Signature × Index) → ArePlaced es others
    → with_hash es (hash_of s) ≡ Some b → same_signature b.0 s ≡ false
    → index_of others s ≡ index_of (bindings_of es others) s
found_beside {es} {others} s b placed found same =
    sym (found_in s placed ∙ (ap (λ o. option_or (matching s o) (index_of others s)) found
    ∙ ap (λ t. option_or (cond t (Some b.1) None) (index_of others s)) (signatures_equiv.symm s b.0 ∙ same)))

pub found_else : {es : Firsts} {others : BoundSignatures} (s : Signature) → ArePlaced es others → with_hash es (hash_of s) ≡ None
    → index_of others s ≡ index_of (bindings_of es others) s
found_else {es} {others} s placed found = sym (found_in s placed ∙ ap (λ o. option_or (matching s o) (index_of others s)) found)

-- an empty map has no entries
pub none_placed : ArePlaced [] []
unfolding IsStrictlySortedBy
none_placed = record { ascending = tt; hashed = λ h b found. absurd (true≢false (sym (ap is_some found))); shared = λ s found. refl }

none_last : (o : Option Index) → option_or o None ≡ o
none_last None = refl
none_last (Some i) = refl

not_true : (t : Bool) → (t ≡ true → false ≡ true) → t ≡ false
not_true true h = absurd (true≢false (sym (h refl)))
not_true false h = refl

-- Adding a signature whose hash is new.
first_case : (q : Bool) (s k : Signature) (i : Index) (at : Option (Signature × Index)) (o : Option Index) → (q ≡ true → at ≡ None)
    → (q ≡ true → o ≡ None) → (same_signature s k ≡ true → q ≡ true)
    → option_or (matching s (cond q (Some (k, i)) at)) o ≡ option_or (option_or (matching s at) o) (cond (same_signature s k) (Some i) None)
first_case true s k i at o none_at none_o h =
    let new : Option Index = cond (same_signature s k) (Some i) None in
    ap (λ p. option_or new p) (none_o refl)
    ∙ (none_last new ∙ sym (ap (λ p. option_or (option_or (matching s p) o) new) (none_at refl) ∙ ap (λ p. option_or p new) (none_o refl)))
first_case false s k i at o none_at none_o h =
    let old : Option Index = option_or (matching s at) o in
    sym (ap (λ t. option_or old (cond t (Some i) None)) (not_true (same_signature s k) h) ∙ none_last old)

hash_case : (q : Bool) (k : Signature) (i : Index) (h : ℕ) (b : Signature × Index) (at : Option (Signature × Index)) → (q ≡ true → hash_of k ≡ h)
    → (at ≡ Some b → hash_of b.0 ≡ h)
    → cond q (Some (k, i)) at ≡ Some b → hash_of b.0 ≡ h
hash_case true k i h b at own old is = sym (ap (λ o. hash_of (unwrap_or {T = Signature × Index} o (k, i)).0) is) ∙ own refl
hash_case false k i h b at own old is = old is

none_case : (q : Bool) (b : Signature × Index) (at : Option (Signature × Index)) → cond q (Some b) at ≡ None → at ≡ None
none_case true b at is = absurd (true≢false (ap is_some is))
none_case false b at is = is

module _ {es : Firsts} (fs : Firsts) {others : BoundSignatures} (k : Signature) (i : Index) (placed : ArePlaced es others)
    (none : with_hash es (hash_of k) ≡ None)
    (more : (h : ℕ) → with_hash fs h ≡ cond (is_at (nat_cmp (hash_of k)) h) (Some (k, i)) (with_hash es h)) where
  pub first_placed : IsStrictlySortedBy nat_cmp (keys_of fs) → ArePlaced fs others
  first_placed ascending = record {
    ascending = ascending;
    hashed = λ h b found. hash_case (is_at (nat_cmp (hash_of k)) h) k i h b (with_hash es h) (same_number (hash_of k) h) (placed.hashed h b)
        (sym (more h) ∙ found);
    shared = λ s found. placed.shared s (none_case (is_at (nat_cmp (hash_of k)) (hash_of s)) (k, i) (with_hash es (hash_of s))
        (sym (more (hash_of s)) ∙ found));
  }

  pub first_extends : IsStrictlySortedBy nat_cmp (keys_of fs) → Extends (bindings_of es others) (bindings_of fs others) ((k, i) ∷ [])
  first_extends ascending s =
      let at : Option (Signature × Index) = with_hash es (hash_of s) in
      let gone : is_at (nat_cmp (hash_of k)) (hash_of s) ≡ true → at ≡ None = λ e. ap (with_hash es) (sym (same_number (hash_of k) (hash_of s) e)) ∙ none in
      found_in s (first_placed ascending) ∙ (ap (λ o. option_or (matching s o) (index_of others s)) (more (hash_of s))
      ∙ (first_case (is_at (nat_cmp (hash_of k)) (hash_of s)) s k i at (index_of others s) gone (λ e. placed.shared s (gone e))
      (λ e. ap (is_at (nat_cmp (hash_of k))) (same_hash s k e) ∙ at_itself (hash_of k))
      ∙ ap (λ o. option_or o (cond (same_signature s k) (Some i) None)) (sym (found_in s placed))))

-- Adding a signature whose hash is taken.
module _ {es : Firsts} {others : BoundSignatures} (more : BoundSignatures) (k : Signature) (i : Index) (placed : ArePlaced es others)
    (taken : is_some (with_hash es (hash_of k)) ≡ true)
    (extends : Extends others more ((k, i) ∷ [])) where
  other_placed : ArePlaced es more
  other_placed = record {
    ascending = placed.ascending;
    hashed = placed.hashed;
    shared = λ s none. extends s ∙ (ap (λ o. option_or o (cond (same_signature s k) (Some i) None)) (placed.shared s none)
        ∙ ap (λ t. cond t (Some i) None) (not_true (same_signature s k) (λ e. ap is_some (sym none ∙ ap (with_hash es) (same_hash s k e)) ∙ taken)));
  }

  other_extends : Extends (bindings_of es others) (bindings_of es more) ((k, i) ∷ [])
  other_extends s =
      found_in s other_placed ∙ (ap (option_or (matching s (with_hash es (hash_of s)))) (extends s)
      ∙ (sym (or_or (matching s (with_hash es (hash_of s))) (index_of others s) (cond (same_signature s k) (Some i) None))
      ∙ ap (λ o. option_or o (cond (same_signature s k) (Some i) None)) (sym (found_in s placed))))

-- a key that has an index keeps it
kept_bound : (t : Bool) (o : Option Index) (i : Index) → (t ≡ true → is_some o ≡ true) → o ≡ option_or o (cond t (Some i) None)
kept_bound t (Some j) i h = refl
kept_bound false None i h = refl
kept_bound true None i h = absurd (true≢false (sym (h refl)))

first_kept : {es : Firsts} {others : BoundSignatures} (k : Signature) (i : Index) (b : Signature × Index) → ArePlaced es others
    → with_hash es (hash_of k) ≡ Some b → same_signature b.0 k ≡ true
    → Extends (bindings_of es others) (bindings_of es others) ((k, i) ∷ [])
first_kept {es} {others} k i b placed found same s =
    kept_bound (same_signature s k) (index_of (bindings_of es others) s) i (λ e. ap is_some (same_index_of (bindings_of es others) s k e
    ∙ sym (found_at_hash k b placed found same)))

-- n is the hash that the program computed
pub binds_new : {es fs : Firsts} (k : Signature) (i : Index) (n : ℕ) (w : Signature × Index) → n ≡ hash_of k → w ≡ (k, i) → with_hash es n ≡ None
    → ((h : ℕ) → with_hash fs h ≡ cond (is_at (nat_cmp n) h) (Some w) (with_hash es h)) → IsStrictlySortedBy nat_cmp (keys_of fs) → BindsFirst es fs k i
binds_new {es} {fs} k i n w is w_is none more ascending others placed =
    let gone : with_hash es (hash_of k) ≡ None = ap (with_hash es) (sym is) ∙ none in
    let now : (h : ℕ) → with_hash fs h ≡ cond (is_at (nat_cmp (hash_of k)) h) (Some (k, i)) (with_hash es h) = λ h. more h
    ∙ (λ j. cond (is_at (nat_cmp (is j)) h) (Some (w_is j)) (with_hash es h)) in
    (first_placed fs k i placed gone now ascending, first_extends fs k i placed gone now ascending)

pub binds_bound : {es : Firsts} (k : Signature) (i : Index) (n : ℕ) (b : Signature × Index) → n ≡ hash_of k → with_hash es n ≡ Some b
    → same_signature b.0 k ≡ true → BindsFirst es es k i
binds_bound {es} k i n b is found same others placed = (placed, first_kept k i b placed (ap (with_hash es) (sym is) ∙ found) same)

-- adding to the second map: j is the key that was returned, and w the entry at it afterwards
module _ {es fs : Firsts} {others : BoundSignatures} (more : BoundSignatures) (k j : Signature) (i w : Index) (placed : ArePlaced es others)
    (is : j ≡ k) (taken : is_some (with_hash es (hash_of k)) ≡ true)
    (stays : fs ≡ es) (w_is : w ≡ unwrap_or (lookup (is_at (signature_cmp j)) others) i)
    (found : (s : Signature) → lookup (is_at (signature_cmp s)) more ≡ cond (is_at (signature_cmp j) s) (Some w)
    (lookup (is_at (signature_cmp s)) others)) where
  extends_others : Extends others more ((k, i) ∷ [])
  extends_others s =
      put_once others more k s i w (w_is ∙ ap (λ t. unwrap_or (lookup (is_at (signature_cmp t)) others) i) is)
      (found s ∙ ap (λ t. cond (is_at (signature_cmp t) s) (Some w) (lookup (is_at (signature_cmp s)) others)) is)

  pub more_placed : ArePlaced fs more
  more_placed = subst (λ gs. ArePlaced gs more) (sym stays) (other_placed more k i placed taken extends_others)

  pub more_extends : Extends (bindings_of es others) (bindings_of fs more) ((k, i) ∷ [])
  more_extends = subst (λ gs. Extends (bindings_of es others) (bindings_of gs more) ((k, i) ∷ [])) (sym stays)
      (other_extends more k i placed taken extends_others)
