-- One pair that is moved back among sorted ones, step by step, with its key.
use Rattle.std.proofs.Common.{◌≡◌, ◌≢◌, ℕ, ◌+◌, ◌-◌, ◌<◌, ◌≤◌, Bool, List, length, get_or, set, true, false, sym, ap, ◌∙◌, subst, subst₂, arith, inl, inr}
use Rattle.std.specs.Prelude.{slice_index}
use Rattle.std.specs.List.{SwappedAt}
use Rattle.std.specs.Ordering.{is_lt}
use Rattle.std.specs.Cmp.{IsStrictWeakOrder}
use Rattle.std.proofs.lemmas.Bool.{cases_eq}
use Rattle.std.proofs.lemmas.List.{get_or-set_same, get_or-set_other}
use Rattle.std.proofs.lemmas.List.Sorted.{ranks_by}
use Rattle.wast_base.specs.declared.ids.Id.{Id}
use Rattle.wast_base.specs.Ids.{text_of, name_of}
use Rattle.wast_base.specs.Order.{key_cmp}
use Rattle.wast_base.proofs.Keys.{keys_total, exact_keys}
use Rattle.wast_resolve_namespace.specs.Filling.{pair_cmp, AreRankedTo}
use Rattle.wast_resolve_namespace.specs.Heads.{IsHead, AreHeads}
use Rattle.wast_resolve_namespace.specs.Places.{entry_of}
use Rattle.wast_resolve_namespace.proofs.Basics.{any_default}
use Rattle.wast_resolve_namespace.proofs.Ties.{pairs_total}

-- whether a pair comes before another
abbrev pub before : Id × ℕ → Id × ℕ → Bool
before a b = is_lt (pair_cmp key_cmp (entry_of a) (entry_of b))

before_weak : IsStrictWeakOrder before
before_weak = ranks_by (pairs_total keys_total exact_keys) entry_of

-- The first n pairs are sorted except for one, which may have to be moved back further.
pub record IsOnItsWay (es : List (Id × ℕ)) (n at : ℕ) : Type 0 where
  pub others : (k : ℕ) (d : Id × ℕ) → k + 1 < n → k + 1 ≢ at → before (get_or es (k + 1) d) (get_or es k d) ≡ false
  pub across : (k : ℕ) (d : Id × ℕ) → k + 1 ≡ at → k + 2 < n → before (get_or es (k + 2) d) (get_or es k d) ≡ false

alike : (x y z w : Id × ℕ) → x ≡ z → y ≡ w → before z w ≡ false → before x y ≡ false
alike x y z w e f h = subst₂ (λ (a b : Id × ℕ). before a b ≡ false) (sym e) (sym f) h

module _ (es fs : List (Id × ℕ)) (n at a : ℕ) (next : at ≡ a + 1) (swapped : SwappedAt es fs a at) where
  stays : (k : ℕ) (d : Id × ℕ) → k ≢ a → k ≢ at → get_or fs k d ≡ get_or es k d
  stays = swapped.2

  at_first : (k : ℕ) (d : Id × ℕ) → k ≡ a → get_or fs k d ≡ get_or es at d
  at_first k d is = ap (λ i. get_or fs i d) is ∙ swapped.0 d

  at_second : (k : ℕ) (d : Id × ℕ) → k ≡ at → get_or fs k d ≡ get_or es a d
  at_second k d is = ap (λ i. get_or fs i d) is ∙ swapped.1 d

  -- one step back
  pub step_back : (d e : Id × ℕ) → at < length es → before (get_or es at d) (get_or es a e) ≡ true → IsOnItsWay es n at → IsOnItsWay fs n a
  step_back d e within test h = record {
    others = λ k f lt not. elim (cases_eq k a) [
      | inl is ↦
          let turned = before_weak.one_way (get_or es at d) (get_or es a e) test in
          alike _ _ (get_or es a e) (get_or es at d)
          (at_second (k + 1) f (omega (arith, is, next)) ∙ any_default es a f e (omega (arith, next, within)))
          (at_first k f is ∙ any_default es at f d within) turned
      | inr other ↦ elim (cases_eq k at) [
        | inl is ↦
            alike _ _ (get_or es (a + 2) f) (get_or es a f)
            (stays (k + 1) f (omega (arith, is, next)) (omega (arith, is)) ∙ ap (λ i. get_or es i f) (let i : k + 1 ≡ a + 2 = omega (arith, is, next) in i))
            (at_second k f is) (h.across a f (omega (arith, next)) (omega (arith, is, next, lt)))
        | inr apart ↦
            alike _ _ (get_or es (k + 1) f) (get_or es k f)
            (stays (k + 1) f not (omega (arith, other, next))) (stays k f other apart) (h.others k f lt (omega (arith, other, next)))
      ]
    ];
    across = λ k f is lt.
        alike _ _ (get_or es (k + 1) f) (get_or es k f)
        (at_second (k + 2) f (omega (arith, is, next)) ∙ ap (λ i. get_or es i f) (sym is))
        (stays k f (omega (arith, is)) (omega (arith, is, next)))
        (h.others k f (omega (arith, lt)) (omega (arith, is, next)));
  }

-- If it does not come before its neighbour, all are sorted.
pub arrived : (es : List (Id × ℕ)) (n at : ℕ) (d e : Id × ℕ) → n ≤ length es → IsOnItsWay es n at
    → before (get_or es at d) (get_or es (at - 1) e) ≡ false → AreRankedTo es n
arrived es n at d e within h test k f low lt = elim (cases_eq (k + 1) at) [
  | inr other ↦ h.others k f lt other
  | inl is ↦
      let back : k ≡ at - 1 = omega (arith, is) in
      alike _ _ (get_or es at d) (get_or es (at - 1) e)
      (ap (λ i. get_or es i f) is ∙ any_default es at f d (omega (arith, is, lt, within)))
      (ap (λ i. get_or es i f) back ∙ any_default es (at - 1) f e (omega (arith, is, lt, within))) test
]

-- Keys that move with their pairs.
pub heads_swapped : (es fs : List (Id × ℕ)) (hs ks : List ℕ) (n a b : ℕ) → a < n → b < n → SwappedAt es fs a b → SwappedAt hs ks a b
    → AreHeads es hs n → AreHeads fs ks n
heads_swapped es fs hs ks n a b lt below pairs heads h = record {
  head = λ k d within. elim (cases_eq k a) [
    | inl is ↦ subst₂ (λ (e : Id × ℕ) (m : ℕ). IsHead (text_of (name_of e.0)) m)
        (sym (ap (λ i. get_or fs i d) is ∙ pairs.0 d)) (sym (ap (λ i. slice_index ks i) is ∙ heads.0 0)) (h.head b d below)
    | inr other ↦ elim (cases_eq k b) [
      | inl is ↦ subst₂ (λ (e : Id × ℕ) (m : ℕ). IsHead (text_of (name_of e.0)) m)
          (sym (ap (λ i. get_or fs i d) is ∙ pairs.1 d)) (sym (ap (λ i. slice_index ks i) is ∙ heads.1 0)) (h.head a d lt)
      | inr apart ↦ subst₂ (λ (e : Id × ℕ) (m : ℕ). IsHead (text_of (name_of e.0)) m)
          (sym (pairs.2 k d other apart)) (sym (heads.2 k 0 other apart)) (h.head k d within)
    ]
  ];
}

-- One key more.
pub heads_more : (es : List (Id × ℕ)) (hs : List ℕ) (n h : ℕ) (d : Id × ℕ) → n < length es → n < length hs → AreHeads es hs n
    → IsHead (text_of (name_of (get_or es n d).0)) h → AreHeads es (set hs n h) (n + 1)
heads_more es hs n h d within room heads head = record {
  head = λ k e lt. elim (cases_eq k n) [
    | inl is ↦ subst₂ (λ (x : Id × ℕ) (m : ℕ). IsHead (text_of (name_of x.0)) m)
        (any_default es n d e within ∙ ap (λ i. get_or es i e) (sym is)) (sym (ap (λ i. get_or (set hs n h) i 0) is ∙ get_or-set_same hs n h 0 room)) head
    | inr other ↦ subst (IsHead (text_of (name_of (get_or es k e).0))) (sym (get_or-set_other hs n k h 0 other)) (heads.head k e (omega (arith, lt, other)))
  ];
}
