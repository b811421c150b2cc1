-- The alternatives of `either`: one step, and the value that counts them.
use Rattle.std.proofs.Common.{◌≡◌, ◌∙◌, ℕ, suc, ◌+◌, ◌-◌, ◌<◌, ◌≤◌, Bool, true, false, List, [], ◌∷◌, ◌++◌, length, map}
use Rattle.std.proofs.Common.{All, Option, None, Some, refl, sym, ap, subst, arith, length-append, append_assoc}
use Rattle.std.specs.Prelude.{slice_set}
use Rattle.std.specs.Global.{Vec}
use Rattle.std.proofs.lemmas.List.{length-map, map_push, map-set, set_at}
use Rattle.std.proofs.lemmas.List.Elements.{All-push, All-set}
use Rattle.wat_grammar.specs.Parts.{◌>>=◌}
use Rattle.wat_syntax.specs.Tokens.{Toks, Parse, peek, after, is_rparen, with_parts}
use Rattle.wast_script.specs.declared.values.Number.{Number}
use Rattle.wast_script.specs.declared.values.Value.TheVariants as val
use Rattle.wast_script.specs.declared.words.Use.TheVariants as usage
use Rattle.wast_script.specs.declared.reader.Lists.{Lists}
use Rattle.wast_script.specs.declared.reader.Reader.{Reader}
use Rattle.wast_script.specs.Constants.{Value, Either, either_form, value, one_value, alternatives, all_alternatives, either, argument_or_result}
use Rattle.wast_script.specs.Scripts.{value_in}
use Rattle.wast_script.specs.Readers.{left, read_values, IsRefused, HasLanes, HaveLanes, Accepts, Moves, PushesValue, SetsEither, ReadsOnto, TakesAlternative}
use Rattle.wat_text.proofs.Loops.{after_both}
use Rattle.wast_script.proofs.Faults.{none_refused, by_fault}
use Rattle.wast_script.proofs.Goes.{more_is}

-- one step, by whether ')' is next, and whether '(' 'either' is
abbrev branch : ℕ → ℕ → Toks → Bool → Option Toks → Parse (List Value)
branch n d toks closes opens = elim closes [
  | true ↦ alternatives n d (after toks)
  | false ↦ elim opens [
    | Some t ↦ alternatives n (suc (suc d)) t
    | None ↦ value usage.Result toks >>= λ v. alternatives n (suc d) v.1 >>= λ vs. Some (v.0 ∷ vs.0, vs.1)
  ]
]

step_is : (n depth d : ℕ) (toks : Toks) (closes : Bool) (opens : Option Toks) → depth ≡ suc d
    → is_rparen (peek 0 toks) ≡ closes → either_form toks ≡ opens
    → alternatives (suc n) depth toks ≡ branch n d toks closes opens
step_is n depth d toks closes opens e f g = ap (λ k. alternatives (suc n) k toks) e
    ∙ ap (λ c. branch n d toks c (either_form toks)) f ∙ ap (branch n d toks closes) g

-- a step that adds no value
without_value : (depth behind : ℕ) (a b : Reader) → b.lists ≡ a.lists → b.tokens ≡ a.tokens → b.fault ≡ a.fault → behind ≤ suc depth
    → ((n d : ℕ) → depth ≡ suc d → alternatives (suc n) depth (left a) ≡ alternatives n behind (left b)) → TakesAlternative depth behind a b
without_value depth behind a b lists tokens fault few step = record {
  commands = ap (λ (l : Lists). l.commands) lists;
  tokens = tokens;
  clean = λ h. sym fault ∙ h;
  lanes = λ h l. subst HaveLanes (sym lists) l;
  few = few;
  gives = λ h l n d e. ap (with_parts (read_values a.lists)) (step n d e)
      ∙ ap (λ (l : Lists). with_parts (read_values l) (alternatives n behind (left b))) (sym lists);
  keeps = λ h. fault;
  refuses = λ h l f. absurd (none_refused b.fault (fault ∙ h) f);
}

-- the end of one, and one in another
pub closes_one : (depth behind : ℕ) (a b : Reader) → is_rparen (peek 0 (left a)) ≡ true
    → Moves after a b → behind ≡ depth - 1 → TakesAlternative depth behind a b
closes_one depth behind a b is m less = without_value depth behind a b m.lists m.tokens m.fault (omega (arith, less))
    (λ n d e. let one : d ≡ behind = omega (arith, less, e) in
    step_is n depth d (left a) true (either_form (left a)) e is refl
    ∙ ap (λ k. alternatives n k (after (left a))) one ∙ ap (alternatives n behind) (sym m.left))

pub opens_one : (depth behind : ℕ) (a b : Reader) → is_rparen (peek 0 (left a)) ≡ false
    → Accepts either_form a b true → behind ≡ depth + 1 → TakesAlternative depth behind a b
opens_one depth behind a b is m more = without_value depth behind a b m.lists m.tokens m.fault (omega (arith, more))
    (λ n d e. let one : suc (suc d) ≡ behind = omega (arith, more, e) in
    step_is n depth d (left a) false (Some (left b)) e is (m.there refl) ∙ ap (λ k. alternatives n k (left b)) one)

abbrev single : Parse Value → Parse (List Value)
single o = o >>= λ v. Some (v.0 ∷ [], v.1)

one_is : (p : Parse Value) (ms : List Value) (rest : Toks) → single p ≡ Some (ms, rest) → (v : Value) × ((p ≡ Some (v, rest)) × (ms ≡ v ∷ []))
one_is None ms rest e = absurd cc
one_is (Some r) ms rest e = (
  r.0,
  (
    ap (λ t. let o : Value × Toks = (r.0, t) in Some o) (ap (λ (o : List Value × Toks). o.1) (the_same e)),
    sym (ap (λ (o : List Value × Toks). o.0) (the_same e)),
  ),
)
  where
    the_same : {A : Type 0} {x y : A} → Some x ≡ Some y → x ≡ y
    the_same e = cc

none_is : (p : Parse Value) → single p ≡ None → p ≡ None
none_is None e = refl
none_is (Some r) e = absurd cc

-- a value
pub reads_one : (depth : ℕ) (a m b : Reader) → is_rparen (peek 0 (left a)) ≡ false → Accepts either_form a m false
    → ReadsOnto (one_value usage.Result) m b → TakesAlternative depth depth a b
reads_one depth a m b is not r = record {
  commands = r.commands ∙ ap (λ (l : Lists). l.commands) not.lists;
  tokens = r.tokens ∙ not.tokens;
  clean = λ h. sym not.fault ∙ r.clean h;
  lanes = λ h l. r.lanes h (at_mid l);
  few = omega arith;
  gives = λ h l n d e.
      let more = more_is (read_values m.lists) (read_values b.lists) (one_value usage.Result (left m)) (left b) (r.gives h (at_mid l)) in
      let one = one_is (value usage.Result (left m)) more.0 (left b) more.1.0 in
      ap (with_parts (read_values a.lists)) (step_is n depth d (left a) false None e is (not.absent refl)
      ∙ ap (λ t. value usage.Result t >>= λ v. alternatives n (suc d) v.1 >>= λ vs. Some (v.0 ∷ vs.0, vs.1)) (sym (not.stays refl))
      ∙ ap (λ o. o >>= λ v. alternatives n (suc d) v.1 >>= λ vs. Some (v.0 ∷ vs.0, vs.1)) one.1.0)
      ∙ ap (λ (l : Lists). with_parts (read_values l) (with_parts (one.0 ∷ []) (alternatives n (suc d) (left b)))) (sym not.lists)
      ∙ sym (after_both (read_values m.lists) (one.0 ∷ []) (alternatives n (suc d) (left b)))
      ∙ ap (λ vs. with_parts vs (alternatives n (suc d) (left b))) (sym (more.1.1 ∙ ap (λ ms. read_values m.lists ++ ms) one.1.1))
      ∙ ap (λ k. with_parts (read_values b.lists) (alternatives n k (left b))) (sym e);
  keeps = λ h. r.keeps (λ g. h (sym not.fault ∙ g)) ∙ not.fault;
  refuses = λ h l f n d e. step_is n depth d (left a) false None e is (not.absent refl)
      ∙ ap (λ t. value usage.Result t >>= λ v. alternatives n (suc d) v.1 >>= λ vs. Some (v.0 ∷ vs.0, vs.1)) (sym (not.stays refl))
      ∙ ap (λ o. o >>= λ v. alternatives n (suc d) v.1 >>= λ vs. Some (v.0 ∷ vs.0, vs.1))
      (none_is (value usage.Result (left m)) (r.refuses (not.fault ∙ h) (at_mid l) f));
}
  where
    at_mid : HaveLanes a.lists → HaveLanes m.lists
    at_mid l = subst HaveLanes (sym not.lists) l

-- `either`: its alternatives are counted in the value before them
pub either_read : (a b c d : Reader) (at count : ℕ) → at ≡ length a.lists.values.items → PushesValue a b (val.Either 0) → ReadsOnto all_alternatives b c
    → count ≡ length c.lists.values.items - (at + 1) → SetsEither at count c d → ReadsOnto either a d
either_read a b c d at count first p r few s = record {
  commands = s.commands ∙ r.commands ∙ p.commands;
  tokens = s.tokens ∙ r.tokens ∙ p.tokens;
  clean = λ h. p.clean (r.clean (sym s.fault ∙ h));
  lanes = λ h l. subst (λ (n : Vec Number). All (HasLanes (length n.items)) d.lists.values.items) (sym s.lanes)
      (subst (All (HasLanes (length c.lists.lanes.items))) (sym (s.values (room h l)))
      (All-set (HasLanes (length c.lists.lanes.items)) c.lists.values.items at (val.Either count) tt (r.lanes (sym s.fault ∙ h) (pushed h l))));
  gives = λ h l. ap (λ t. with_parts (read_values a.lists) (made (all_alternatives t))) (sym (p.left (r.clean (sym s.fault ∙ h))))
      ∙ ap (λ o. with_parts (read_values a.lists) (made o)) (more h l).1.0
      ∙ ap (λ k. let o : List Value × Toks = (read_values a.lists ++ Either k ∷ (more h l).0, left c) in Some o) (sym (counted h l))
      ∙ ap (λ vs. let o : List Value × Toks = (vs, left c) in Some o) (sym (all_seen h l))
      ∙ ap (λ t. let o : List Value × Toks = (read_values d.lists, t) in Some o) (sym s.left);
  keeps = λ h. s.fault ∙ r.keeps (λ g. h (p.clean g)) ∙ p.keeps h;
  refuses = λ h l f. by_fault b c r.keeps (subst IsRefused s.fault f)
      (λ g. ap (λ t. made (all_alternatives t)) (sym (p.left g)) ∙ ap made (r.refuses g (pushed_at g l) (subst IsRefused s.fault f)))
      (λ g. absurd (p.memory h g));
}
  where
    made : Parse (List Value) → Parse (List Value)
    made o = o >>= λ vs. Some (Either (length vs.0) ∷ vs.0, vs.1)

    pushed_at : b.fault ≡ None → HaveLanes a.lists → HaveLanes b.lists
    pushed_at g l = subst (λ (n : Vec Number). All (HasLanes (length n.items)) b.lists.values.items) (sym p.lanes)
        (subst (All (HasLanes (length a.lists.lanes.items))) (sym (p.pushed g))
        (All-push (HasLanes (length a.lists.lanes.items)) a.lists.values.items (val.Either 0) l tt))

    pushed : d.fault ≡ None → HaveLanes a.lists → HaveLanes b.lists
    pushed h l = pushed_at (r.clean (sym s.fault ∙ h)) l

    before : d.fault ≡ None → read_values b.lists ≡ read_values a.lists ++ Either 0 ∷ []
    before h = ap (λ (n : Vec Number). map (value_in n.items) b.lists.values.items) p.lanes
        ∙ ap (map (value_in a.lists.lanes.items)) (p.pushed (r.clean (sym s.fault ∙ h)))
        ∙ map_push (value_in a.lists.lanes.items) a.lists.values.items (val.Either 0)

    more : d.fault ≡ None → HaveLanes a.lists
        → (vs : List Value) × ((all_alternatives (left b) ≡ Some (vs, left c)) × (read_values c.lists ≡ read_values b.lists ++ vs))
    more h l = more_is (read_values b.lists) (read_values c.lists) (all_alternatives (left b)) (left c) (r.gives (sym s.fault ∙ h) (pushed h l))

    whole : (h : d.fault ≡ None) (l : HaveLanes a.lists) → read_values c.lists ≡ read_values a.lists ++ Either 0 ∷ (more h l).0
    whole h l = (more h l).1.1 ∙ ap (λ vs. vs ++ (more h l).0) (before h) ∙ append_assoc (read_values a.lists) (Either 0 ∷ []) (more h l).0

    sizes : (h : d.fault ≡ None) (l : HaveLanes a.lists) → length c.lists.values.items ≡ length a.lists.values.items + suc (length (more h l).0)
    sizes h l = sym (length-map c.lists.values.items (value_in c.lists.lanes.items))
        ∙ ap length (whole h l) ∙ length-append (read_values a.lists) (Either 0 ∷ (more h l).0)
        ∙ ap (λ n. n + suc (length (more h l).0)) (length-map a.lists.values.items (value_in a.lists.lanes.items))

    room : (h : d.fault ≡ None) (l : HaveLanes a.lists) → at < length c.lists.values.items
    room h l = let n = length (more h l).0 in let e : length c.lists.values.items ≡ length a.lists.values.items + suc n = sizes h l in omega (arith, e, first)

    counted : (h : d.fault ≡ None) (l : HaveLanes a.lists) → count ≡ length (more h l).0
    counted h l = let n = length (more h l).0 in
        let e : length c.lists.values.items ≡ length a.lists.values.items + suc n = sizes h l in omega (arith, e, first, few)

    all_seen : (h : d.fault ≡ None) (l : HaveLanes a.lists) → read_values d.lists ≡ read_values a.lists ++ Either count ∷ (more h l).0
    all_seen h l = ap (λ (n : Vec Number). map (value_in n.items) d.lists.values.items) s.lanes ∙ ap (map (value_in c.lists.lanes.items)) (s.values (room h l))
        ∙ map-set (value_in c.lists.lanes.items) c.lists.values.items at (val.Either count)
        ∙ ap (λ vs. slice_set vs at (Either count)) (whole h l)
        ∙ set_at (read_values a.lists) (Either 0) (more h l).0 (Either count) at (length-map a.lists.values.items (value_in a.lists.lanes.items) ∙ sym first)

-- `either` as a result
pub either_result : (a m b : Reader) → Accepts either_form a m true → ReadsOnto either m b → ReadsOnto (argument_or_result usage.Result) a b
either_result a m b is r = record {
  commands = r.commands ∙ ap (λ (l : Lists). l.commands) is.lists;
  tokens = r.tokens ∙ is.tokens;
  clean = λ h. sym is.fault ∙ r.clean h;
  lanes = λ h l. r.lanes h (at_mid l);
  gives = λ h l. ap (λ o. with_parts (read_values a.lists) (by_form o)) (is.there refl)
      ∙ ap (λ (k : Lists). with_parts (read_values k) (either (left m))) (sym is.lists) ∙ r.gives h (at_mid l);
  keeps = λ h. r.keeps (λ g. h (sym is.fault ∙ g)) ∙ is.fault;
  refuses = λ h l f. ap by_form (is.there refl) ∙ r.refuses (is.fault ∙ h) (at_mid l) f;
}
  where
    by_form : Option Toks → Parse (List Value)
    by_form o = elim o as (λ o. Parse (List Value)) [ Some t ↦ either t | None ↦ one_value usage.Result (left a) ]

    at_mid : HaveLanes a.lists → HaveLanes m.lists
    at_mid l = subst HaveLanes (sym is.lists) l
