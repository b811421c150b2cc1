-- What was written, by equal parts of it.
use Rattle.std.proofs.Common.{◌≡◌, ℕ, List, ◌++◌, ap, ◌∙◌}

pub said : {X Y : Type 0} (f : X → Y → List ℕ) (o : List ℕ) {w : List ℕ} {a b : X} {x y : Y} → a ≡ b → x ≡ y → w ≡ o ++ f a x → w ≡ o ++ f b y
said f o {a = a} {y = y} e g h = h ∙ ap (λ z. o ++ f a z) g ∙ ap (λ c. o ++ f c y) e

pub said_of_three : {X Y Z : Type 0} (f : X → Y → Z → List ℕ) (o : List ℕ) {w : List ℕ} {a b : X} {x y : Y} {p q : Z} → a ≡ b → x ≡ y → p ≡ q
    → w ≡ o ++ f a x p → w ≡ o ++ f b y q
said_of_three f o {a = a} {x = x} {y = y} {q = q} e g i h = h ∙ ap (λ z. o ++ f a x z) i ∙ ap (λ z. o ++ f a z q) g ∙ ap (λ c. o ++ f c y q) e
