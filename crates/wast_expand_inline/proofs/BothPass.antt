-- Lemmas about two tests of the same value.
use Rattle.std.proofs.Common.{◌≡◌, Bool, true, false, ◌&&◌, ◌||◌, refl, ap}

pub first_is : (a b : Bool) → (a && b) ≡ true → a ≡ true
first_is true b h = refl
first_is false b h = h

pub second_is : (a b : Bool) → (a && b) ≡ true → b ≡ true
second_is true b h = h
second_is false b h = absurd cc

-- If each of two tests implies another, then passing one of the two implies passing one of the others.
pub either_stays : (a b c d : Bool) → (a ≡ true → c ≡ true) → (b ≡ true → d ≡ true) → (a || b) ≡ true → (c || d) ≡ true
either_stays true b c d f g h = ap (λ e. e || d) (f refl)
either_stays false b true d f g h = refl
either_stays false b false d f g h = g h
