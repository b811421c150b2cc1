-- Closes the look at 16 bytes: they are passed up to the first that stops it.
use Rattle.std.proofs.Common.{◌≡◌, ℕ, ◌<◌, ◌≤◌, not, Bool, true, false, List, length, map, refl, subst, arith}
use lib.Count.{count_trailing_zeros}
use lib.Lanes.{chunk, mask_l}
use Rattle.wat_grammar.specs.Parts.{front}
use Rattle.wat_grammar.specs.Strings.{is_raw}
use Rattle.wat_tokens.proofs.Fronts.{first_found, none_found, front_short}
use Rattle.wat_tokens.proofs.strings.raw_run.Goals as goal

twice : (b : Bool) → not (not b) ≡ b
twice true = refl
twice false = refl

passed : (T : List ℕ) → length (front (λ c. not (not (is_raw c))) T) ≡ length (front is_raw T)
passed T = λ i. length (front (λ c. twice (is_raw c) i) T)

first_not_raw : (T : List ℕ) (found : ℕ) → 16 ≤ length T → found ≡ mask_l (map (λ c. not (is_raw c)) (chunk 0 16 T)) → 0 < found
    → count_trailing_zeros 64 found ≤ length (front is_raw T)
first_not_raw T found long is set = subst (λ n. count_trailing_zeros 64 found ≤ n) (passed T)
    (first_found (λ c. not (is_raw c)) 16 T found long (omega arith) is set)

all_raw : (T : List ℕ) (found : ℕ) → 16 ≤ length T → found ≡ mask_l (map (λ c. not (is_raw c)) (chunk 0 16 T)) → found ≡ 0 → 16 ≤ length (front is_raw T)
all_raw T found long is none = subst (λ n. 16 ≤ n) (passed T) (none_found (λ c. not (is_raw c)) 16 T found long is none)

pub returns-then-found-ne0-clause-short : goal.returns-then-found-ne0-clause-short
returns-then-found-ne0-clause-short c =
    let T = c.args.text.now in
    let few = first_not_raw T _ (omega arith) c.not_raw_bits-found.ensures (omega arith) in
    omega (arith, few, front_short is_raw T)

pub returns-then-found-ne0-clause-front : goal.returns-then-found-ne0-clause-front
returns-then-found-ne0-clause-front c = first_not_raw c.args.text.now _ (omega arith) c.not_raw_bits-found.ensures (omega arith)

pub returns-clause-front : goal.returns-clause-front
returns-clause-front c = all_raw c.args.text.now _ (omega arith) c.not_raw_bits-found.ensures (omega arith)
