-- Closes the look at 16 bytes: a lane has its top bit where one of the two comparisons has it.
use Rattle.std.proofs.Common.{◌≡◌, ◌∙◌, ℕ, ◌%◌, ◌^◌, ◌||◌, Bool, true, false, cond, eqb, List, [], ◌∷◌, map, refl, ap, ap₂, arith, bit_or}
use Rattle.std.proofs.lemmas.List.{length-map}
use Rattle.std.proofs.lemmas.Simd.{zip2_splat, zip2_of_maps, mask_l-mod}
use lib.Lanes.{mask_l, top}
use Rattle.wat_tokens.proofs.scans.either_bits.Goals as goal

either : (a b : Bool) → top 7 (bit_or (cond a 255 0) (cond b 255 0)) ≡ a || b
either true true = refl
either true false = refl
either false true = refl
either false false = refl

tops : (one other : ℕ) (cs : List ℕ) → map (top 7) (map (λ c. bit_or (cond (eqb c one) 255 0) (cond (eqb c other) 255 0)) cs) ≡ map
    (λ c. eqb c one || eqb c other) cs
tops one other [] = refl
tops one other (c ∷ cs) = ap₂ (λ b bs. b ∷ bs) (either (eqb c one) (eqb c other)) (tops one other cs)

pub returns : goal.returns
returns c =
    let bytes = c.args.bytes in
    let one = c.args.one in
    let other = c.args.other in
    let long = c.fits-bytes.0 in
    let lanes = zip2_of_maps bit_or (λ x. cond (eqb x one) 255 0) (λ x. cond (eqb x other) 255 0) bytes
    (zip2_splat (λ x y. cond (eqb x y) 255 0) bytes 16 one long) (zip2_splat (λ x y. cond (eqb x y) 255 0) bytes 16 other long) in
    ap (λ l. mask_l (map (top 7) l) % 2 ^ 64) lanes ∙ ap (λ l. mask_l l % 2 ^ 64) (tops one other bytes)
    ∙ mask_l-mod (map (λ x. eqb x one || eqb x other) bytes) 64 (omega (arith, length-map bytes (λ x. eqb x one || eqb x other), long))
