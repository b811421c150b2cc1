-- One append after another, and what is cut back.
use Rattle.std.proofs.Common.{◌≡◌, ◌≤◌, ◌<◌, ◌+◌, ◌-◌, ℕ, Bool, true, false, List, [], ◌∷◌, ◌++◌, Result, Ok, Err, is_err, refl, sym, ap}
use Rattle.std.proofs.Common.{◌∙◌, subst, inl, inr, arith, length, take, get_or, append-nil}
use Rattle.std.specs.Prelude.{All}
use Rattle.std.specs.List.{flat_map, list_all}
use Rattle.std.proofs.lemmas.Grind.{flat_map-append}
use Rattle.std.proofs.lemmas.List.{take_more}
use Rattle.std.proofs.lemmas.List.Concat.{flat_map-cons}
use Rattle.std.proofs.lemmas.List.Elements.{All-head, All-more}
use Rattle.wasm_ops.proofs.Everywhere.{all_one, flat_one}
use Rattle.wast_base.specs.declared.faults.Error.{Error}
use Rattle.wasm_ops.specs.declared.sink.Refusal.{Refusal}
use Rattle.wasm_ops.specs.Sinks.{SinkRules, IsRefusal, Writes, Puts, Skips, AppendLaws, refused_as}

-- what has no room behind x has none where x is a part
pub refused_behind : {S : Type 0} (rules : SinkRules S) (all part : Type 0) (a b : S) (x y whole : List ℕ) (e : Refusal)
    → AppendLaws rules → length x + length y ≤ length whole → (all → part) → rules.appended a b x → IsRefusal rules b (length y) part e
    → IsRefusal rules a (length whole) all e
refused_behind rules all part a b x y whole e laws le has h r =
    elim r [
      | inl p ↦ inl (
        p.0,
        λ f. p.1 (laws.fits_less b (length y) (length whole - length x) (omega arith)
            (laws.fits_rest a b x (length whole) (omega arith) f h)),
      )
      | inr p ↦ inr (p.0, λ s. p.1 (has s))
    ]

-- after x, y was refused: the sink is cut back to its size before x
pub cut_back : {S A : Type 0} (rules : SinkRules S) (all part : Type 0) (a b c d : S) (x y whole : List ℕ) (n : ℕ) (r : Result A Refusal)
    → AppendLaws rules → length x + length y ≤ length whole → (all → part) → rules.appended a b x → Writes rules part b c y r → is_err r ≡ true
    → n ≡ rules.size_of a → rules.is_cut c n d → Writes rules all a d whole r
cut_back rules all part a b c d x y whole n (Ok t) laws le has h p bad s k = absurd cc
cut_back rules all part a b c d x y whole n (Err e) laws le has h p bad s k = (
  laws.cuts_back a c d (x ++ []) (laws.joins a b c x [] h p.0) (subst (λ (m : ℕ). rules.is_cut c m d) s k),
  refused_behind rules all part a b x y whole e laws le has h p.1,
)

-- the range said another way
pub puts_as : {S A : Type 0} (rules : SinkRules S) (one other : Type 0) (a b : S) (x : List ℕ) (r : Result A Refusal)
    → (one → other) → (other → one) → Writes rules one a b x r → Writes rules other a b x r
puts_as rules one other a b x (Ok t) f g p = (p.0, f p.1)
puts_as rules one other a b x (Err e) f g p =
    (p.0, elim p.1 [ inl q ↦ inl q | inr q ↦ inr (q.0, λ s. q.1 (g s)) ])

-- the range and the bytes said another way
pub written_as : {S A : Type 0} (rules : SinkRules S) (one other : Type 0) (a b : S) (x y : List ℕ) (r : Result A Refusal)
    → (one → other) → (other → one) → x ≡ y → Writes rules one a b x r → Writes rules other a b y r
written_as rules one other a b x y r f g is p = subst (λ z. Writes rules other a b z r) is (puts_as rules one other a b x r f g p)

-- what was no error was appended, and is in range
pub was_put : {S A : Type 0} (rules : SinkRules S) (in_range : Type 0) (a b : S) (x : List ℕ) (r : Result A Refusal)
    → Writes rules in_range a b x r → is_err r ≡ false → rules.appended a b x × in_range
was_put rules in_range a b x (Ok t) p good = p
was_put rules in_range a b x (Err e) p good = absurd cc

flat_map-take-more : {X A : Type 0} (f : X → List A) (xs : List X) (k : ℕ) (x : X) → k < length xs → x ≡ get_or xs k x
    → flat_map f (take k xs) ++ f x ≡ flat_map f (take (k + 1) xs)
flat_map-take-more f xs k x lt is =
    ap (λ bs. flat_map f (take k xs) ++ bs) (sym (flat_map-cons f x [] ∙ append-nil (f x)))
    ∙ sym (flat_map-append f (take k xs) (x ∷ []))
    ∙ ap (λ y. flat_map f (take k xs ++ y ∷ [])) is
    ∙ ap (flat_map f) (sym (take_more xs k x lt))

-- one item more
pub one_item_more : {S A X : Type 0} (rules : SinkRules S) (spell : X → List ℕ) (in_range : X → Type 0) (a b c : S) (xs : List X) (k : ℕ) (x : X)
    (r : Result A Refusal)
    → AppendLaws rules → k < length xs → x ≡ get_or xs k x → rules.appended a b (flat_map spell (take k xs)) → All in_range (take k xs)
    → Writes rules (in_range x) b c (spell x) r → is_err r ≡ false
    → rules.appended a c (flat_map spell (take (k + 1) xs)) × All in_range (take (k + 1) xs)
one_item_more rules spell in_range a b c xs k x r laws lt is has all p good =
    let one = was_put rules (in_range x) b c (spell x) r p good in (
      subst (rules.appended a c) (flat_map-take-more spell xs k x lt is) (laws.joins a b c (flat_map spell (take k xs)) (spell x) has one.0),
      All-more in_range xs k x lt all (subst in_range is one.1),
    )

-- all are covered where each value of the type is
pub all_covered : {X : Type 0} (is_covered : X → Bool) (xs : List X) → ((x : X) → is_covered x ≡ true) → list_all is_covered xs ≡ true
all_covered is_covered [] each = refl
all_covered is_covered (x ∷ xs) each = rw (each x, all_covered is_covered xs each) refl

-- who said no stays as it was
said_no : {S : Type 0} (rules : SinkRules S) (a b : S) (count : ℕ) (says : Bool) → Skips rules a b count says → says ≡ false → b ≡ a
said_no rules a b count true p says_no = absurd cc
said_no rules a b count false p says_no = p

-- after x and a no, y was refused: the sink is cut back to its size before x
pub cut_after_no : {S A : Type 0} (rules : SinkRules S) (all part : Type 0) (a b s c d : S) (x y whole : List ℕ) (n count : ℕ) (says : Bool)
    (r : Result A Refusal)
    → AppendLaws rules → length x + length y ≤ length whole → (all → part) → rules.appended a b x → Skips rules b s count says → says ≡ false
    → Writes rules part s c y r → is_err r ≡ true → n ≡ rules.size_of a → rules.is_cut c n d → Writes rules all a d whole r
cut_after_no rules all part a b s c d x y whole n count says r laws le has h told says_no p bad at k =
    cut_back rules all part a s c d x y whole n r laws le has (subst (λ t. rules.appended a t x) (sym (said_no rules b s count says told says_no)) h) p bad at k

-- nothing was appended before
pub after_nothing : {S A : Type 0} (rules : SinkRules S) (in_range : Type 0) (a b c : S) (x : List ℕ) (r : Result A Refusal)
    → AppendLaws rules → rules.appended a b [] → Writes rules in_range b c x r → Writes rules in_range a c x r
after_nothing rules in_range a b c x (Ok t) laws h p = (laws.joins a b c [] x h p.0, p.1)
after_nothing rules in_range a b c x (Err e) laws h p = (
  laws.joins a b c [] [] h p.0,
  refused_behind rules in_range in_range a b [] x x e laws (omega arith) (λ i. i) h p.1,
)

-- a call that tells a refusal by its error
pub told_as : {S : Type 0} (rules : SinkRules S) (in_range : Type 0) (a b : S) (x : List ℕ) (r : Refusal) (e : Error)
    → Writes {A = Unit {0}} rules in_range a b x (Err r) → e ≡ refused_as r → Puts {A = Unit {0}} rules in_range a b x (Err e)
told_as rules in_range a b x r e p is = (
  p.0,
  elim p.1 [
    | inl q ↦ inl (is ∙ ap refused_as q.0, q.1)
    | inr q ↦ inr (is ∙ ap refused_as q.0, q.1)
  ],
)

-- a list of one
pub one_written : {S A X : Type 0} (rules : SinkRules S) (spell : X → List ℕ) (InRange : X → Type 0) (a b : S) (x : X) (r : Result A Refusal)
    → Writes rules (InRange x) a b (spell x) r → Writes rules (All InRange (x ∷ [])) a b (flat_map spell (x ∷ [])) r
one_written rules spell InRange a b x r p =
    written_as rules (InRange x) (All InRange (x ∷ [])) a b (spell x) (flat_map spell (x ∷ [])) r (all_one InRange x) (All-head InRange x [])
    (sym (flat_one spell x)) p
