-- The tokens of groups: a token by its number, how many there are, and the same tokens after a group is freed.
use Rattle.std.proofs.Common.{◌≡◌, ◌∙◌, ℕ, zero, suc, ◌+◌, ◌-◌, ◌<◌, ◌≤◌, List, [], ◌∷◌, ◌++◌, length, map, take, drop, get_or, slice_get}
use Rattle.std.proofs.Common.{None, Some, refl, sym, ap, arith, append-nil, length-append}
use Rattle.std.proofs.lemmas.List.{get_or_append_left}
use Rattle.std.proofs.lemmas.Option.{slice_get_within, slice_get_past, get_or_from_slice_get}
use Rattle.std.specs.Global.{Vec}
use Rattle.wast_base.specs.declared.ids.Span.{Span}
use Rattle.wat_tokens.specs.Groups.{all_in}
use Rattle.wat_tokens.specs.Scans as scans
use Rattle.wat_tokens.specs.declared.tokens.Placed.{Placed}
use Rattle.wat_tokens.specs.declared.tokens.Token.TheVariants as token
use Rattle.wat_syntax.specs.Tokens.{first, position_in, after_first}
use Rattle.wat_syntax.specs.Bare.{bare_token, bare_placed}
use Rattle.wat_text.specs.Readers.{left_of, exactly, grouped, token_in}
use Rattle.wat_text.proofs.Lefts.{peeked, none_peeked, placed, none_placed, skipped}

-- ---- the token of a number

here : (xs ys : List Placed) (n : ℕ) (p : Placed) → n < length xs → p ≡ get_or xs n p → Some p ≡ slice_get (xs ++ ys) n
here [] ys n p few h = absurd (omega (arith, few))
here (x ∷ xs) ys zero p few h = ap Some h
here (x ∷ xs) ys (suc n) p few h = here xs ys n p (omega (arith, few)) h

there : (xs ys : List Placed) (n m : ℕ) → length xs ≤ n → m ≡ n - length xs → slice_get (xs ++ ys) n ≡ slice_get ys m
there [] ys n m all e = let same : n ≡ m = omega (arith, e) in ap (slice_get ys) same
there (x ∷ xs) ys zero m all e = absurd (omega (arith, all))
there (x ∷ xs) ys (suc n) m all e = there xs ys n m (omega (arith, all)) (omega (arith, e))

-- no token has this number
past : (ps : List Placed) (n : ℕ) → None ≡ slice_get ps n → length ps ≤ n
past [] n h = omega arith
past (p ∷ ps) zero h = absurd cc
past (p ∷ ps) (suc n) h = omega (arith, past ps n h)

-- ---- the loop over the groups

pub first_in : (group : Vec Placed) (later : List (Vec Placed)) (n : ℕ) (p : Placed) → n < length group.items → p ≡ get_or group.items n p
    → token_in (group ∷ later) n ≡ Some p
unfolding token_in
first_in group later n p few h = sym (here group.items (all_in later) n p few h)

pub later_in : (group : Vec Placed) (later : List (Vec Placed)) (n : ℕ) → length group.items ≤ n
    → token_in (group ∷ later) n ≡ token_in later (n - length group.items)
unfolding token_in
later_in group later n all = there group.items (all_in later) n (n - length group.items) all refl

pub none_in : (groups : List (Vec Placed)) (n : ℕ) → length groups ≡ 0 → token_in groups n ≡ None
unfolding token_in
none_in [] n e = refl
none_in (g ∷ gs) n e = absurd (omega (arith, e))

-- ---- so many tokens of a list

length_exactly : (n : ℕ) (ps : List Placed) → length (exactly n ps) ≡ n
unfolding exactly
length_exactly zero ps = refl
length_exactly (suc n) [] = omega (arith, length_exactly n [])
length_exactly (suc n) (p ∷ ps) = omega (arith, length_exactly n ps)

exactly_all : (n : ℕ) (ps : List Placed) → n ≡ length ps → exactly n ps ≡ ps
unfolding exactly
exactly_all zero [] e = refl
exactly_all (suc n) [] e = absurd (omega (arith, e))
exactly_all zero (p ∷ ps) e = absurd (omega (arith, e))
exactly_all (suc n) (p ∷ ps) e = ap (λ ts. p ∷ ts) (exactly_all n ps (omega (arith, e)))

pub exactly_here : (m n : ℕ) (ps : List Placed) (p : Placed) → n < m → Some p ≡ slice_get ps n → Some p ≡ slice_get (exactly m ps) n
unfolding exactly
exactly_here zero n ps p few h = absurd (omega (arith, few))
exactly_here (suc m) n [] p few h = absurd cc
exactly_here (suc m) zero (x ∷ xs) p few h = h
exactly_here (suc m) (suc n) (x ∷ xs) p few h = exactly_here m n xs p (omega (arith, few)) h

pub exactly_lacks : (m n : ℕ) (ps : List Placed) → n < m → None ≡ slice_get ps n → Some (scans.placed token.Close 0) ≡ slice_get (exactly m ps) n
unfolding exactly
exactly_lacks zero n ps few h = absurd (omega (arith, few))
exactly_lacks (suc m) zero [] few h = refl
exactly_lacks (suc m) (suc n) [] few h = exactly_lacks m n [] (omega (arith, few)) refl
exactly_lacks (suc m) zero (x ∷ xs) few h = absurd cc
exactly_lacks (suc m) (suc n) (x ∷ xs) few h = exactly_lacks m n xs (omega (arith, few)) h

-- of two lists one after another
exactly_cut : (n : ℕ) (ps qs : List Placed) → take n ps ++ exactly (n - length (take n ps)) qs ≡ exactly n (ps ++ qs)
unfolding exactly
exactly_cut zero ps qs = refl
exactly_cut (suc n) [] qs = let same : suc n - 0 ≡ suc n = omega arith in ap (λ m. exactly m qs) same
exactly_cut (suc n) (p ∷ ps) qs =
    let same : suc n - suc (length (take n ps)) ≡ n - length (take n ps) = omega arith in
    ap (λ m. p ∷ (take n ps ++ exactly m qs)) same ∙ ap (λ ts. p ∷ ts) (exactly_cut n ps qs)

pub exactly_past : (m n : ℕ) (ps : List Placed) → m ≤ n → None ≡ slice_get (exactly m ps) n
exactly_past m n ps all = sym (slice_get_past (exactly m ps) n (omega (arith, length_exactly m ps, all)))

-- ---- the tokens of a group and those after it

pub group_length : (found : List Placed) (count : ℕ) (later : List (Vec Placed)) → length (grouped found count later) ≡ length found + (count - length found)
unfolding grouped
group_length found count later = length-append found (exactly (count - length found) (all_in later))
    ∙ ap (λ n. length found + n) (length_exactly (count - length found) (all_in later))

-- of tokens in one list
pub one_group : (found : List Placed) (count : ℕ) (later : List (Vec Placed)) → count ≡ length found → grouped found count later ≡ found
unfolding grouped exactly
one_group found count later e = let none : count - length found ≡ 0 = omega (arith, e) in ap (λ n. found ++ exactly n (all_in later)) none ∙ append-nil found

-- of groups of which none is read
pub all_groups : (found : List Placed) (count : ℕ) (groups : List (Vec Placed)) → found ≡ [] → count ≡ length (all_in groups)
    → grouped found count groups ≡ all_in groups
unfolding grouped
all_groups found count groups none e =
    let all : count - 0 ≡ length (all_in groups) = omega (arith, e) in
    ap (λ ts. ts ++ exactly (count - length ts) (all_in groups)) none ∙ exactly_all (count - 0) (all_in groups) all

inside : (found : List Placed) (count : ℕ) (later : List (Vec Placed)) (n : ℕ) → n < length found → n < length (grouped found count later)
inside found count later n few = omega (arith, group_length found count later, few)

same_here : (found : List Placed) (count : ℕ) (later : List (Vec Placed)) (n : ℕ) (p : Placed) → n < length found → p ≡ get_or found n p
    → p ≡ get_or (grouped found count later) n p
unfolding grouped
same_here found count later n p few h = h ∙ sym (get_or_append_left found (exactly (count - length found) (all_in later)) p n few)

pub token_here : (found : List Placed) (count : ℕ) (later : List (Vec Placed)) (n : ℕ) (p : Placed) → n < length found → p ≡ get_or found n p
    → Some p ≡ slice_get (grouped found count later) n
unfolding grouped
token_here found count later n p few h = here found (exactly (count - length found) (all_in later)) n p few h

pub token_there : (found : List Placed) (count : ℕ) (later : List (Vec Placed)) (n : ℕ) → length found ≤ n
    → slice_get (grouped found count later) n ≡ slice_get (exactly (count - length found) (all_in later)) (n - length found)
unfolding grouped
token_there found count later n all = there found (exactly (count - length found) (all_in later)) n (n - length found) all refl

-- ---- the next token, its position, and the position before it

pub peeked_here : (at ahead n : ℕ) (found : List Placed) (count : ℕ) (later : List (Vec Placed)) (p : Placed) → n ≡ at + ahead → n < length found
    → p ≡ get_or found n p
    → Some (bare_token p.token) ≡ first (drop ahead (drop at (map bare_placed (grouped found count later))))
peeked_here at ahead n found count later p e few h = peeked at ahead n (grouped found count later) p e (inside found count later n few)
    (same_here found count later n p few h)

pub peeked_at : (at ahead n : ℕ) (ps : List Placed) (p : Placed) → n ≡ at + ahead → Some p ≡ slice_get ps n
    → Some (bare_token p.token) ≡ first (drop ahead (drop at (map bare_placed ps)))
peeked_at at ahead n ps p e h = peeked at ahead n ps p e (slice_get_within ps n p (sym h)) (sym (get_or_from_slice_get ps n p p (sym h)))

pub none_peeked_at : (at ahead n : ℕ) (ps : List Placed) → n ≡ at + ahead → None ≡ slice_get ps n → None ≡ first (drop ahead (drop at (map bare_placed ps)))
none_peeked_at at ahead n ps e h = sym (none_peeked at ahead ps (omega (arith, e, past ps n h)))

pub placed_here : (at : ℕ) (found : List Placed) (count : ℕ) (later : List (Vec Placed)) (end : Span) (p : Placed) → at < length found → p ≡ get_or found at p
    → p.span ≡ position_in (drop at (map bare_placed (grouped found count later))) end
placed_here at found count later end p few h = placed at (grouped found count later) end p (inside found count later at few)
    (same_here found count later at p few h)

pub placed_at : (n : ℕ) (ps : List Placed) (end : Span) (p : Placed) → Some p ≡ slice_get ps n → p.span ≡ position_in (drop n (map bare_placed ps)) end
placed_at n ps end p h = placed n ps end p (slice_get_within ps n p (sym h)) (sym (get_or_from_slice_get ps n p p (sym h)))

pub none_placed_at : (n : ℕ) (ps : List Placed) (end : Span) → None ≡ slice_get ps n → end ≡ position_in (drop n (map bare_placed ps)) end
none_placed_at n ps end h = sym (none_placed n ps end (past ps n h))

-- ---- one more token is read, and a group is freed

pub skipped_here : (n : ℕ) (found : List Placed) (count : ℕ) (later : List (Vec Placed)) (end : Span) → n < length found
    → left_of (n + 1) (map bare_placed (grouped found count later)) end ≡ after_first (drop n (map bare_placed (grouped found count later)))
    (left_of n (map bare_placed (grouped found count later)) end)
skipped_here n found count later end few = skipped n (grouped found count later) end (inside found count later n few)

-- the tokens after those of a list
beyond : (n m : ℕ) (xs ys : List Placed) → n ≡ length xs + m → drop m (map bare_placed ys) ≡ drop n (map bare_placed (xs ++ ys))
beyond n m [] ys e = let same : m ≡ n = omega (arith, e) in ap (λ k. drop k (map bare_placed ys)) same
beyond zero m (x ∷ xs) ys e = absurd (omega (arith, e))
beyond (suc n) m (x ∷ xs) ys e = beyond n m xs ys (omega (arith, e))

-- a reader that has read more than a list of tokens, without this list
freed : (at now : ℕ) (xs ys : List Placed) (end : Span) → length xs < at → now ≡ at - length xs
    → left_of now (map bare_placed ys) end ≡ left_of at (map bare_placed (xs ++ ys)) end
freed at now xs ys end read e =
    let before : drop (now - 1) (map bare_placed ys) ≡ drop (at - 1) (map bare_placed (xs ++ ys)) = beyond (at - 1) (now - 1) xs ys (omega (arith, read, e)) in
    let after : drop now (map bare_placed ys) ≡ drop at (map bare_placed (xs ++ ys)) = beyond at now xs ys (omega (arith, read, e)) in
    λ i. record { before = position_in (before i) end; left = after i; end = end }

pub regrouped : (found : List Placed) (count : ℕ) (groups later : List (Vec Placed)) (group : Vec Placed) (tokens : List Placed)
    (at now read rest : ℕ) (end : Span)
    → groups ≡ group ∷ later → tokens ≡ take rest group.items → read ≡ length found → read < at → now ≡ at - read → rest ≡ count - read
    → left_of now (map bare_placed (grouped tokens rest later)) end ≡ left_of at (map bare_placed (grouped found count groups)) end
unfolding grouped
regrouped found count groups later group tokens at now read rest end is cut all more e fewer =
    let counted : rest ≡ count - length found = omega (arith, fewer, all) in
    let tail : tokens ++ exactly (rest - length tokens) (all_in later) ≡ exactly (count - length found) (all_in groups) =
    ap (λ ts. ts ++ exactly (rest - length ts) (all_in later)) cut ∙ exactly_cut rest group.items (all_in later)
    ∙ ap (λ gs. exactly rest (all_in gs)) (sym is) ∙ ap (λ n. exactly n (all_in groups)) counted in
    ap (λ ts. left_of now (map bare_placed ts) end) tail
    ∙ freed at now found (exactly (count - length found) (all_in groups)) end (omega (arith, all, more)) (omega (arith, all, e))
