-- The entries of items with their positions, as they are counted and written.
use Rattle.std.proofs.Common.{◌≡◌, ◌≤◌, ◌<◌, ◌+◌, ℕ, List, [], ◌∷◌, ◌++◌, length, Option, Some, None, Result, Ok, Err, refl, sym, ap, ◌∙◌}
use Rattle.std.proofs.Common.{subst, arith, length-append, ◌^◌, inl, inr, take, drop, take-append-drop}
use Rattle.std.specs.Prelude.{All, nat_lt, true}
use Rattle.std.proofs.lemmas.Bool.{lt-ltb}
use Rattle.std.specs.List.{flat_map}
use Rattle.std.proofs.lemmas.Grind.{flat_map-append}
use Rattle.std.proofs.lemmas.List.Elements.{All-nil, All-head, All-append}
use Rattle.wasm_ops.specs.declared.sink.Refusal.{Refusal}
use Rattle.wasm_ops.specs.Sinks.{SinkRules, Writes, AppendLaws}
use Rattle.wasm_ops.specs.Leb128.{unsigned}
use Rattle.wasm_ops.specs.Spelling.{InRangeU32}
use Rattle.wasm_ops.proofs.Everywhere.{all_left, all_right, all_one, flat_one}
use Rattle.wasm_ops.proofs.Sinking.{cut_back, written_as, one_written}
use Rattle.wast_core_name_section.specs.GivenNames.{named_from}
use Rattle.wast_core_name_section.specs.FoundNames.{saturated_count, entry_spelling, InRangeEntryOf, WritesItems}

-- Items after others are counted on from these.
pub named_append : {A : Type 0} (n : ℕ) (xs ys : List (Option A)) → named_from n (xs ++ ys) ≡ named_from n xs ++ named_from (n + length xs) ys
named_append n [] ys = ap (λ k. named_from k ys) (omega arith)
named_append n (None ∷ xs) ys = named_append (n + 1) xs ys ∙ ap (λ k. named_from (n + 1) xs ++ named_from k ys) (omega arith)
named_append n (Some text ∷ xs) ys = ap (λ z. (n, text) ∷ z) (named_append (n + 1) xs ys ∙ ap (λ k. named_from (n + 1) xs ++ named_from k ys) (omega arith))

-- The entries of items after those of others.
pub names_after : {S R A : Type 0} (rules : SinkRules S) (entry : ℕ × A → List ℕ) (InRange : ℕ × A → Type 0) (a b c : S)
    (items more : List (Option A)) (first position : ℕ) (t u v : R)
    → AppendLaws rules → WritesItems rules entry InRange items first a b (Ok t) → position ≡ saturated_count (first + length items)
    → WritesItems rules entry InRange more position b c (Ok u) → WritesItems rules entry InRange (items ++ more) first a c (Ok v)
names_after rules entry InRange a b c items more first position t u v laws has at p = λ n from.
    let here : position ≡ saturated_count (n + length items) = omega arith in
    let one = named_from n items in
    let next = named_from (n + length items) more in
    let told = has n from in
    let one_more = p (n + length items) here in
    subst (λ z. rules.appended a c (flat_map entry z) × All InRange z) (sym (named_append n items more)) (
      subst (rules.appended a c) (sym (flat_map-append entry one next)) (laws.joins a b c (flat_map entry one) (flat_map entry next) told.0 one_more.0),
      All-append InRange one next told.1 one_more.1,
    )

-- If writing the next entries fails, the sink is no shorter than before the first.
pub names_kept : {S R A : Type 0} (rules : SinkRules S) (entry : ℕ × A → List ℕ) (InRange : ℕ × A → Type 0) (a b c : S)
    (items more : List (Option A)) (first position size : ℕ) (t : R) (e : Refusal)
    → AppendLaws rules → first < 2 ^ 64 → WritesItems rules entry InRange items first a b (Ok t) → position ≡ saturated_count (first + length items)
    → WritesItems {R = R} rules entry InRange more position b c (Err e) → size ≡ rules.size_of a → size ≤ rules.size_of c
names_kept rules entry InRange a b c items more first position size t e laws fits has at p start =
    let from : first ≡ saturated_count first = omega arith in
    let before = laws.grows a b (flat_map entry (named_from first items)) (has first from).0 in
    let after = laws.grows b c [] (p (first + length items) at).0 in
    omega arith

-- If writing the next entries fails, the sink is cut back to its size before the first.
pub names_back : {S R A : Type 0} (rules : SinkRules S) (entry : ℕ × A → List ℕ) (InRange : ℕ × A → Type 0) (a b c d : S)
    (items more rest all : List (Option A)) (first position size : ℕ) (t : R) (e : Refusal)
    → AppendLaws rules → all ≡ (items ++ more) ++ rest → WritesItems rules entry InRange items first a b (Ok t)
    → position ≡ saturated_count (first + length items)
    → WritesItems {R = R} rules entry InRange more position b c (Err e) → size ≡ rules.size_of a → rules.is_cut c size d
    → WritesItems {R = R} rules entry InRange all first a d (Err e)
names_back {R = R} rules entry InRange a b c d items more rest all first position size t e laws parts has at p start k = λ n from.
    let here : position ≡ saturated_count (n + length items) = omega arith in
    let one = named_from n items in
    let next = named_from (n + length items) more in
    let last = named_from (n + length (items ++ more)) rest in
    let is : named_from n all ≡ (one ++ next) ++ last = ap (named_from n) parts ∙ named_append n (items ++ more) rest
    ∙ ap (λ z. z ++ last) (named_append n items more) in
    cut_back {A = R} rules (All InRange (named_from n all)) (All InRange next) a b c d (flat_map entry one) (flat_map entry next)
    (flat_map entry (named_from n all)) size (Err e) laws
    (omega (
      arith,
      ap (λ z. length (flat_map entry z)) is,
      ap length (flat_map-append entry (one ++ next) last),
      ap length (flat_map-append entry one next),
      length-append (flat_map entry (one ++ next)) (flat_map entry last),
      length-append (flat_map entry one) (flat_map entry next),
    ))
    (λ h. all_right InRange one next (all_left InRange (one ++ next) last (subst (All InRange) is h)))
    (has n from).0 (p (n + length items) here) refl start k

-- How many items have an entry does not depend on where counting starts.
pub as_many : {A : Type 0} (m n : ℕ) (xs : List (Option A)) → length (named_from m xs) ≡ length (named_from n xs)
as_many m n [] = refl
as_many m n (None ∷ xs) = as_many (m + 1) (n + 1) xs
as_many m n (Some text ∷ xs) = omega (arith, as_many (m + 1) (n + 1) xs)

-- How many of these and of others have an entry, as a `u64` counts them.
pub count_more : {A : Type 0} (names more : List (Option A)) (m n : ℕ) → m ≡ saturated_count (length (named_from 0 names))
    → n ≡ saturated_count (length (named_from 0 more)) → saturated_count (m + n) ≡ saturated_count (length (named_from 0 (names ++ more)))
count_more names more m n is also =
    omega (
      arith,
      ap length (named_append 0 names more),
      length-append (named_from 0 names) (named_from (0 + length names) more),
      as_many
          (0 + length names) 0 more,
    )

-- The entry of one item, after its position as a 32-bit number.
pub entry_written : {S R A : Type 0} (rules : SinkRules S) (spell : A → List ℕ) (InRange : A → Type 0) (a b : S) (x : A) (position index : ℕ)
    (r : Result R Refusal)
    → index ≡ position → index < 4294967296 → Writes rules (InRangeU32 index × InRange x) a b (unsigned index ++ spell x) r
    → WritesItems rules (entry_spelling spell) (InRangeEntryOf InRange) (Some x ∷ []) position a b r
entry_written rules spell InRange a b x position index r at small p = λ n from.
    let here : index ≡ n = omega arith in
    one_written rules (entry_spelling spell) (InRangeEntryOf InRange) a b (n, x) r
    (subst (λ i. Writes rules (InRangeU32 i × InRange x) a b (unsigned i ++ spell x) r) here p)

-- The entry of one item, by another value.
pub entry_as : {S R A B : Type 0} (rules : SinkRules S) (entry : ℕ × A → List ℕ) (InRange : ℕ × A → Type 0) (other : ℕ × B → List ℕ) (Other : ℕ × B
    → Type 0) (a b : S) (x : A) (y : B) (position : ℕ) (r : Result R Refusal)
    → ((n : ℕ) → entry (n, x) ≡ other (n, y)) → ((n : ℕ) → InRange (n, x) → Other (n, y)) → ((n : ℕ) → Other (n, y) → InRange (n, x))
    → WritesItems rules entry InRange (Some x ∷ []) position a b r → WritesItems rules other Other (Some y ∷ []) position a b r
entry_as rules entry InRange other Other a b x y position r is to back p = λ n at.
    written_as rules (All InRange ((n, x) ∷ [])) (All Other ((n, y) ∷ [])) a b (flat_map entry ((n, x) ∷ [])) (flat_map other ((n, y) ∷ [])) r
    (λ h. all_one Other (n, y) (to n (All-head InRange (n, x) [] h))) (λ h. all_one InRange (n, x) (back n (All-head Other (n, y) [] h)))
    (flat_one entry (n, x) ∙ is n ∙ sym (flat_one other (n, y))) (p n at)

-- Whether any of these and of others have an entry.
pub none_named : {A : Type 0} (m n : ℕ) (names : List (Option A)) (count : ℕ) → count ≡ saturated_count (length (named_from m names)) → count ≡ 0
    → named_from n names ≡ []
none_named {A = A} m n names count is never = empty (named_from n names) (omega (arith, as_many m n names))
  where
    empty : (es : List (ℕ × A)) → length es ≡ 0 → es ≡ []
    empty [] h = refl
    empty (e ∷ es) h = absurd (omega arith)

pub none_more : {A : Type 0} (names more : List (Option A)) (count : ℕ) → named_from 0 names ≡ []
    → count ≡ saturated_count (length (named_from 0 more)) → count ≡ 0 → named_from 0 (names ++ more) ≡ []
none_more names more count none is never =
    named_append 0 names more ∙ (ap (λ es. es ++ named_from (0 + length names) more) none ∙ none_named 0 (0 + length names) more count is never)

pub some_more : {A : Type 0} (names more rest all : List (Option A)) (count : ℕ) → all ≡ (names ++ more) ++ rest
    → count ≡ saturated_count (length (named_from 0 more)) → (count ≡ 0 → ⊥) → true ≡ nat_lt 0 (length (named_from 0 all))
some_more names more rest all count parts is some =
    sym (lt-ltb 0 (length (named_from 0 all)) (omega (
      arith,
      ap (λ xs. length (named_from 0 xs)) parts,
      ap length (named_append 0 (names ++ more) rest),
      ap length (named_append 0 names more),
      length-append (named_from 0 (names ++ more)) (named_from (0 + length (names ++ more)) rest),
      length-append (named_from 0 names) (named_from (0 + length names) more),
      as_many (0 + length names) 0 more,
    )))

-- Items without names after others.
pub nameless_more : {A : Type 0} (names more : List (Option A)) (count : ℕ) → ((n : ℕ) → named_from n names ≡ [])
    → count ≡ saturated_count (length (named_from 0 more)) → count ≡ 0 → (n : ℕ) → named_from n (names ++ more) ≡ []
nameless_more names more count none is never n =
    named_append n names more ∙ (ap (λ es. es ++ named_from (n + length names) more) (none n) ∙ none_named 0 (n + length names) more count is never)

-- The names from a position on are all, if none is before it.
pub named_behind : {A B : Type 0} (f : A → List (Option B)) (xs : List A) (i before : ℕ) → before ≡ length (flat_map f (take i xs))
    → ((n : ℕ) → named_from n (flat_map f (take i xs)) ≡ [])
    → (n : ℕ) → named_from (n + before) (flat_map f (drop i xs)) ≡ named_from n (flat_map f xs)
named_behind f xs i before is none n =
    let items = flat_map f (take i xs) in
    let rest = flat_map f (drop i xs) in
    let whole : flat_map f xs ≡ items ++ rest = ap (flat_map f) (sym (take-append-drop i xs)) ∙ flat_map-append f (take i xs) (drop i xs) in
    ap (λ m. named_from (n + m) rest) is
    ∙ sym (ap (named_from n) whole ∙ (named_append n items rest ∙ ap (λ es. es ++ named_from (n + length items) rest) (none n)))

-- One list of entries after another.
pub both_entries : {S R A : Type 0} (rules : SinkRules S) (entry : A → List ℕ) (InRange : A → Type 0) (a b c : S) (xs ys : List A) (t u v : R)
    → AppendLaws rules → Writes rules (All InRange xs) a b (flat_map entry xs) (Ok t) → Writes rules (All InRange ys) b c (flat_map entry ys) (Ok u)
    → Writes rules (All InRange (xs ++ ys)) a c (flat_map entry (xs ++ ys)) (Ok v)
both_entries rules entry InRange a b c xs ys t u v laws p q = (
  subst (rules.appended a c) (sym (flat_map-append entry xs ys)) (laws.joins a b c (flat_map entry xs) (flat_map entry ys) p.0 q.0),
  All-append InRange xs ys p.1 q.1,
)

-- Writing the first list failed.
pub first_refused : {S A : Type 0} (R : Type 0) (rules : SinkRules S) (entry : A → List ℕ) (InRange : A → Type 0) (a b : S) (xs ys : List A) (e : Refusal)
    → AppendLaws rules → Writes {A = R} rules (All InRange xs) a b (flat_map entry xs) (Err e)
    → Writes {A = R} rules (All InRange (xs ++ ys)) a b (flat_map entry (xs ++ ys)) (Err e)
first_refused R rules entry InRange a b xs ys e laws p =
    let least : length (flat_map entry xs) ≤ length (flat_map entry (xs ++ ys)) =
    omega (arith, ap length (flat_map-append entry xs ys), length-append (flat_map entry xs) (flat_map entry ys)) in (
      p.0,
      elim p.1 [
        | inl q ↦ inl (q.0, λ f. q.1 (laws.fits_less a (length (flat_map entry xs)) (length (flat_map entry (xs ++ ys))) least f))
        | inr q ↦ inr (q.0, λ h. q.1 (all_left InRange xs ys h))
      ],
    )

-- Writing the second list failed: the sink is cut back to its size before the first.
pub second_refused : {S R A : Type 0} (rules : SinkRules S) (entry : A → List ℕ) (InRange : A → Type 0) (a b c d : S) (xs ys : List A) (t : R)
    (e : Refusal) (size : ℕ)
    → AppendLaws rules → Writes rules (All InRange xs) a b (flat_map entry xs) (Ok t)
    → Writes {A = R} rules (All InRange ys) b c (flat_map entry ys) (Err e) → size ≡ rules.size_of a → rules.is_cut c size d
    → Writes {A = R} rules (All InRange (xs ++ ys)) a d (flat_map entry (xs ++ ys)) (Err e)
second_refused {R = R} rules entry InRange a b c d xs ys t e size laws p q start k =
    cut_back {A = R} rules (All InRange (xs ++ ys)) (All InRange ys) a b c d (flat_map entry xs) (flat_map entry ys) (flat_map entry (xs ++ ys)) size
    (Err e) laws
    (omega (arith, ap length (flat_map-append entry xs ys), length-append (flat_map entry xs) (flat_map entry ys)))
    (all_right InRange xs ys) p.0 q refl start k

-- And the sink is no shorter than before the first.
pub second_kept : {S R : Type 0} (A : Type 0) (rules : SinkRules S) (one other : Type 0) (a b c : S) (x y : List ℕ) (t : R) (e : Refusal) (size : ℕ)
    → AppendLaws rules → Writes rules one a b x (Ok t) → Writes {A = A} rules other b c y (Err e) → size ≡ rules.size_of a → size ≤ rules.size_of c
second_kept A rules one other a b c x y t e size laws p q start = omega (arith, laws.grows a b x p.0, laws.grows b c [] q.0, start)

-- An item without an entry, as entries of other items are written.
pub none_written : {S A B : Type 0} (R : Type 0) (rules : SinkRules S) (entry : ℕ × A → List ℕ) (InRange : ℕ × A → Type 0) (other : ℕ × B
    → List ℕ) (Other : ℕ × B → Type 0) (a b : S) (position : ℕ) (r : Result R Refusal)
    → WritesItems rules entry InRange (None ∷ []) position a b r → WritesItems rules other Other (None ∷ []) position a b r
none_written R rules entry InRange other Other a b position r p = λ n at.
    written_as rules (All InRange []) (All Other []) a b [] [] r (λ h. All-nil Other) (λ h. All-nil InRange) refl (p n at)
