-- Other labels do not change which instructions open and close blocks.
use Rattle.std.specs.Prelude.{◌&&◌, ◌==◌, length, nat_le, option_map, take}
use Rattle.std.proofs.Common.{◌≡◌, ℕ, zero, suc, ◌+◌, List, [], ◌∷◌, refl, ap, ◌∙◌, map}
use Rattle.std.proofs.lemmas.List.{length-map, take-map}
use Rattle.wast_base.specs.Blocks.{BlockEffect, Opens, Closes, Stays, openers, closers, never_closed, stays_open, is_balanced}
use Rattle.wast_tree_map.specs.Named.{Naming}

-- The effect of an instruction, with another label.
abbrev pub renamed_turn : Naming → BlockEffect → BlockEffect
renamed_turn n (Opens l) = Opens (option_map n l)
renamed_turn n Closes = Closes
renamed_turn n Stays = Stays

openers_named : (n : Naming) (ts : List BlockEffect) → openers (map (renamed_turn n) ts) ≡ openers ts
openers_named n [] = refl
openers_named n (Opens l ∷ ts) = ap (λ k. k + 1) (openers_named n ts)
openers_named n (Closes ∷ ts) = openers_named n ts
openers_named n (Stays ∷ ts) = openers_named n ts

closers_named : (n : Naming) (ts : List BlockEffect) → closers (map (renamed_turn n) ts) ≡ closers ts
closers_named n [] = refl
closers_named n (Opens l ∷ ts) = closers_named n ts
closers_named n (Closes ∷ ts) = ap (λ k. k + 1) (closers_named n ts)
closers_named n (Stays ∷ ts) = closers_named n ts

never_named : (n : Naming) (ts : List BlockEffect) (k : ℕ) → never_closed (map (renamed_turn n) ts) k ≡ never_closed ts k
never_named n ts zero = refl
never_named n ts (suc k) =
    ap (λ b. b && nat_le (closers (take (suc k) (map (renamed_turn n) ts))) (openers (take (suc k) (map (renamed_turn n) ts)))) (never_named n ts k)
    ∙ (ap (λ us. never_closed ts k && nat_le (closers us) (openers us)) (take-map (renamed_turn n) (suc k) ts)
    ∙ (ap (λ c. never_closed ts k && nat_le c (openers (map (renamed_turn n) (take (suc k) ts)))) (closers_named n (take (suc k) ts))
    ∙ ap (λ o. never_closed ts k && nat_le (closers (take (suc k) ts)) o) (openers_named n (take (suc k) ts))))

stays_named : (n : Naming) (ts : List BlockEffect) → stays_open (map (renamed_turn n) ts) ≡ stays_open ts
unfolding stays_open
stays_named n ts = ap (never_closed (map (renamed_turn n) ts)) (length-map ts (renamed_turn n)) ∙ never_named n ts (length ts)

pub balanced_named : (n : Naming) (ts : List BlockEffect) → is_balanced (map (renamed_turn n) ts) ≡ is_balanced ts
balanced_named n ts =
    ap (λ b. b && closers (map (renamed_turn n) ts) == openers (map (renamed_turn n) ts)) (stays_named n ts)
    ∙ (ap (λ c. stays_open ts && c == openers (map (renamed_turn n) ts)) (closers_named n ts) ∙ ap (λ o. stays_open ts && closers ts == o) (openers_named n ts))
