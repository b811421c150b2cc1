-- Closes the look at 16 bytes: a lane has its top bit where one of the comparisons has it, which is compared with the rule at each of
-- the 256 bytes, by computing.
use Rattle.std.proofs.Common.{◌≡◌, ◌∙◌, ℕ, ◌%◌, ◌^◌, not, cond, eqb, ltb, List, [], ◌∷◌, map, refl, ap, ap₂, arith, bit_or, w8, Fits}
use Rattle.std.proofs.lemmas.Bool.{agree_below_at}
use Rattle.std.proofs.lemmas.List.{length-map}
use Rattle.std.proofs.lemmas.Simd.{zip2_splat, zip2_of_maps, mask_l-mod}
use lib.Lanes.{mask_l, top, Each1}
use Rattle.wat_grammar.specs.Strings.{is_raw}
use Rattle.wat_tokens.proofs.strings.not_raw_bits.Goals as goal

abbrev below : ℕ → ℕ → ℕ
below x y = cond (ltb x y) 255 0

abbrev equal : ℕ → ℕ → ℕ
equal x y = cond (eqb x y) 255 0

abbrev lane : ℕ → ℕ
lane x = bit_or (bit_or (bit_or (below x 0x20) (equal x 0x7f)) (equal x 0x22)) (equal x 0x5c)

tops : (cs : List ℕ) → Each1 (Fits w8) cs → map (top 7) (map lane cs) ≡ map (λ c. not (is_raw c)) cs
tops [] fits = refl
tops (c ∷ cs) fits = ap₂ (λ b bs. b ∷ bs) (agree_below_at (λ x. top 7 (lane x)) (λ x. not (is_raw x)) 256 c refl fits.0.fits) (tops cs fits.1)

pub returns : goal.returns
returns c =
    let bytes = c.args.bytes in
    let long = c.fits-bytes.0 in
    let two = zip2_of_maps bit_or (λ x. below x 0x20) (λ x. equal x 0x7f) bytes (zip2_splat below bytes 16 0x20 long) (zip2_splat equal bytes 16 0x7f long) in
    let three = zip2_of_maps bit_or (λ x. bit_or (below x 0x20) (equal x 0x7f)) (λ x. equal x 0x22) bytes two (zip2_splat equal bytes 16 0x22 long) in
    let lanes = zip2_of_maps bit_or (λ x. bit_or (bit_or (below x 0x20) (equal x 0x7f)) (equal x 0x22)) (λ x. equal x 0x5c) bytes three
    (zip2_splat equal bytes 16 0x5c long) in
    ap (λ l. mask_l (map (top 7) l) % 2 ^ 64) lanes ∙ ap (λ l. mask_l l % 2 ^ 64) (tops bytes c.fits-bytes.1)
    ∙ mask_l-mod (map (λ x. not (is_raw x)) bytes) 64 (omega (arith, length-map bytes (λ x. not (is_raw x)), long))
