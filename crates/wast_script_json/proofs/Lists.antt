-- Lanes and values in a list, one after another.
use Rattle.std.proofs.Common.{◌≡◌, ℕ, ◌+◌, ◌<◌, ◌≤◌, Bool, true, false, List, [], ◌∷◌, ◌++◌, length, get_or, drop, Option, Some, None, refl}
use Rattle.std.proofs.Common.{sym, ap, ◌∙◌, append_assoc, append-nil}
use Rattle.std.proofs.lemmas.List.{drop_more, drop_all, nil_from_length}
use Rattle.std.specs.Prelude.{codes, if◌then◌else◌}
use Rattle.std.specs.List.{flat_map, join_by}
use Rattle.wast_script.specs.declared.values.Number.{Number}
use Rattle.wast_script.specs.declared.values.Value.{Value}
use Rattle.wast_script_json.specs.Values.{number_text, value_text, comma, is_joined_after, left_after, ending, values_from, is_either_of}
use Rattle.wast_script_json.specs.Values.{one_either, results_by, results_text}

-- lanes from one on, by whether a comma is before it
abbrev pub lanes_from : Bool → List Number → List ℕ
lanes_from is_joined [] = []
lanes_from is_joined (n ∷ ns) = comma is_joined ++ (number_text n ++ lanes_from true ns)

more_lanes : (ns : List Number) → lanes_from true ns ≡ flat_map (λ n. codes ", " ++ number_text n) ns
more_lanes [] = refl
more_lanes (n ∷ ns) = sym (append_assoc (codes ", ") (number_text n) (lanes_from true ns))
    ∙ ap (λ (l : List ℕ). (codes ", " ++ number_text n) ++ l) (more_lanes ns)

pub all_lanes : (ns : List Number) → lanes_from false ns ≡ join_by number_text (codes ", ") ns
all_lanes [] = refl
all_lanes (n ∷ ns) = ap (λ (l : List ℕ). number_text n ++ l) (more_lanes ns)

-- what was written, after two or three more pieces of it
two_more : (o a b x y r t : List ℕ) → a ≡ o ++ x → b ≡ a ++ y → o ++ (x ++ (y ++ r)) ≡ t → b ++ r ≡ t
two_more o a b x y r t e f h =
    ap (λ (l : List ℕ). l ++ r) (f ∙ ap (λ (l : List ℕ). l ++ y) e) ∙ append_assoc (o ++ x) y r ∙ append_assoc o x (y ++ r) ∙ h

three_more : (o a b c x y z r t : List ℕ) → a ≡ o ++ x → b ≡ a ++ y → c ≡ b ++ z → o ++ (x ++ (y ++ (z ++ r))) ≡ t → c ++ r ≡ t
three_more o a b c x y z r t e f g h =
    ap (λ (l : List ℕ). l ++ r) (g ∙ ap (λ (l : List ℕ). l ++ z) f) ∙ append_assoc (a ++ y) z r ∙ append_assoc a y (z ++ r)
    ∙ ap (λ (l : List ℕ). l ++ (y ++ (z ++ r))) e ∙ append_assoc o x (y ++ (z ++ r)) ∙ h

-- the loop over lanes: one more of them, and all
pub lane_written : (ns : List Number) (i : ℕ) (d : Number) (is_joined : Bool) (o a b t : List ℕ) → i < length ns → a ≡ o ++ comma is_joined
    → b ≡ a ++ number_text (get_or ns i d) → o ++ lanes_from is_joined (drop i ns) ≡ t → b ++ lanes_from true (drop (i + 1) ns) ≡ t
lane_written ns i d is_joined o a b t few e f h =
    two_more o a b (comma is_joined) (number_text (get_or ns i d)) (lanes_from true (drop (i + 1) ns)) t e f
    (ap (λ (l : List Number). o ++ lanes_from is_joined l) (sym (drop_more ns i d few)) ∙ h)

pub lanes_written : (ns : List Number) (i : ℕ) (is_joined : Bool) (o t : List ℕ) → length ns ≤ i → o ++ lanes_from is_joined (drop i ns) ≡ t → o ≡ t
lanes_written ns i is_joined o t all h = sym (append-nil o) ∙ ap (λ (l : List Number). o ++ lanes_from is_joined l) (sym (drop_all i ns all)) ∙ h

-- the loop over values: one more of them, and all
pub value_written : (lanes : List Number) (vs : List Value) (i : ℕ) (d : Value) (is_joined joined : Bool) (left after : ℕ) (o a b c t : List ℕ) → i < length vs
    → a ≡ o ++ comma is_joined → b ≡ a ++ value_text lanes (get_or vs i d) → after ≡ left_after (get_or vs i d) left → c ≡ b ++ ending left after
    → joined ≡ is_joined_after (get_or vs i d) → o ++ values_from lanes is_joined left (drop i vs) ≡ t
    → c ++ values_from lanes joined after (drop (i + 1) vs) ≡ t
unfolding values_from
value_written lanes vs i d is_joined joined left after o a b c t few e f g w j h =
    let v = get_or vs i d in
    ap (λ (n : ℕ). c ++ values_from lanes joined n (drop (i + 1) vs)) g ∙ ap (λ (k : Bool). c ++ values_from lanes k (left_after v left) (drop (i + 1) vs)) j
    ∙ three_more o a b c (comma is_joined) (value_text lanes v) (ending left (left_after v left))
    (values_from lanes (is_joined_after v) (left_after v left) (drop (i + 1) vs)) t e f
    (w ∙ ap (λ (n : ℕ). b ++ ending left n) g) (ap (λ (l : List Value). o ++ values_from lanes is_joined left l) (sym (drop_more vs i d few)) ∙ h)

pub values_written : (lanes : List Number) (vs : List Value) (i : ℕ) (is_joined : Bool) (left : ℕ) (o t : List ℕ) → length vs ≤ i
    → o ++ values_from lanes is_joined left (drop i vs) ≡ t → o ≡ t
unfolding values_from
values_written lanes vs i is_joined left o t all h =
    sym (append-nil o) ∙ ap (λ (l : List Value). o ++ values_from lanes is_joined left l) (sym (drop_all i vs all)) ∙ h

-- whether results are one `either`
pub one_is : (vs rest : List Value) (v : Value) (b : Bool) (n : ℕ) (o : Option (List Value)) → vs ≡ v ∷ rest → n ≡ length rest → b ≡ is_either_of n v
    → o ≡ (if b then Some rest else None) → o ≡ one_either vs
one_is vs rest v b n o parts few e h =
    h ∙ ap (λ (c : Bool). if c then Some rest else None) (e ∙ ap (λ (m : ℕ). is_either_of m v) few) ∙ ap one_either (sym parts)

pub none_is : (vs : List Value) → length vs ≡ 0 → None ≡ one_either vs
none_is vs none = ap one_either (sym (nil_from_length vs none))

-- results by what they are
pub results_are : (lanes : List Number) (vs values : List Value) (o : Option (List Value)) (w old : List ℕ) → vs ≡ values → o ≡ one_either vs
    → w ≡ old ++ results_by lanes vs o → w ≡ old ++ results_text lanes values
results_are lanes vs values o w old same is h =
    h ∙ ap (λ (p : Option (List Value)). old ++ results_by lanes vs p) is ∙ ap (λ (us : List Value). old ++ results_text lanes us) same
