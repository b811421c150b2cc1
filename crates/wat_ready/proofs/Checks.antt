-- What is proved of each check of what the rules read: it keeps the rules 1 to 5 of well-formedness, and its id is not generated. So it
-- passes in whatever module, and its generation is 0.
use Rattle.std.proofs.Common.{◌≡◌, ◌∙◌, ℕ, true, not, ◌&&◌, ◌||◌, is_some, max, List, [], ◌∷◌, map, Option, None, Some, refl, ap, arith}
use Rattle.std.specs.Prelude.{⊤}
use Rattle.std.specs.List.{list_all}
use Rattle.wast_base.specs.Ids.{Name, Written, Generated, Mark, name_of, mark_of_option, is_generated, generation_of}
use Rattle.wast_base.specs.Spaces.{is_settled_index}
use Rattle.wast_tree_nodes.specs.Items.{Item}
use Rattle.wast_tree_nodes.specs.Known.{IdContext}
use Rattle.wast_tree_nodes.specs.Sites.{Check, ItemIndex, InnerIndex, PlainId, Clause, Covered, Site, asked_in, check_sites, if_there, in_id, mark_asked}
use Rattle.wast_tree_nodes.specs.WellFormed.{is_written_index, is_kept, are_kept}
use Rattle.wast_tree_nodes.specs.Generations.{max_of, generation_or_zero, generation_at, generation_in, greatest_item, greatest_asked}
use Rattle.wat_syntax.specs.Tree.{Id, Index}
use Rattle.wat_syntax.specs.Tree.index
use Rattle.wat_ready.proofs.Parses.{Each}

-- checks and sites
abbrev pub IsOk : Check → Type 0
IsOk (ItemIndex s i) = is_written_index i ≡ true
IsOk (InnerIndex i) = is_written_index i ≡ true
IsOk (PlainId m) = not (is_generated m.0) ≡ true
IsOk (Clause n holds) = holds ≡ true
IsOk (Covered f holds) = ⊤

abbrev pub SiteOk : Site → Type 0
SiteOk s = Each IsOk (asked_in s)

-- the checks, or the sites, of a part of a tree
abbrev pub In : {T : Type 0} → (T → List Check) → T → Type 0
In f x = Each IsOk (f x)

abbrev pub At : {T : Type 0} → (T → List Site) → T → Type 0
At f x = Each SiteOk (f x)

-- an index, as the one check of a list; an id; an optional id, of an item too
abbrev pub IndexOk : Index → Type 0
IndexOk i = (is_written_index i ≡ true) × ⊤

abbrev pub IdOk : Id → Type 0
IdOk x = not (is_generated (name_of x)) ≡ true

abbrev pub MarkOk : Option Mark → Type 0
MarkOk None = ⊤
MarkOk (Some m) = not (is_generated m.0) ≡ true

abbrev pub IfId : Option Id → Type 0
IfId o = MarkOk (mark_of_option o)

abbrev pub ItemOk : Item → Type 0
ItemOk x = MarkOk x.id

pub asked : (cs : List Check) → Each IsOk cs → Each SiteOk (check_sites cs)
asked [] p = tt
asked (c ∷ cs) p = ((p.0, tt), asked cs p.1)

pub mark_ok : (m : Option Mark) → MarkOk m → Each IsOk (mark_asked m)
mark_ok None p = tt
mark_ok (Some m) p = (p, tt)

pub id_ok : (o : Option Id) → IfId o → Each IsOk (if_there in_id o)
id_ok None p = tt
id_ok (Some x) p = (p, tt)

-- such a check passes in whatever module
settled : (number : Name → Option ℕ) (i : Index) → is_written_index i ≡ true → is_settled_index number i ≡ true
settled number (index.Num n span) p = refl
settled number (index.Id x) p = ap (λ b. b || is_some (number (name_of x))) p

passes : (k : IdContext) (c : Check) → IsOk c → is_kept k c ≡ true
passes k (ItemIndex s i) p = settled (k.number s) i p
passes k (InnerIndex i) p = p
passes k (PlainId m) p = refl
passes k (Clause n holds) p = p
passes k (Covered f holds) p = refl

pub all_pass : (k : IdContext) (cs : List Check) → Each IsOk cs → are_kept k cs ≡ true
all_pass k [] p = refl
all_pass k (c ∷ cs) p = ap (λ b. b && list_all (is_kept k) cs) (passes k c p.0) ∙ all_pass k cs p.1

-- its generation is 0, and so is that of an item
name_zero : (n : Name) → not (is_generated n) ≡ true → generation_of n ≡ 0
name_zero (Written text) p = refl
name_zero (Generated n) p = absurd cc

pub mark_zero : (m : Option Mark) → MarkOk m → generation_or_zero m ≡ 0
mark_zero None p = refl
mark_zero (Some m) p = name_zero m.0 p

index_zero : (i : Index) → is_written_index i ≡ true → generation_at i ≡ 0
index_zero (index.Num n span) p = refl
index_zero (index.Id x) p = name_zero (name_of x) p

check_zero : (c : Check) → IsOk c → generation_in c ≡ 0
check_zero (ItemIndex s i) p = index_zero i p
check_zero (InnerIndex i) p = index_zero i p
check_zero (PlainId m) p = name_zero m.0 p
check_zero (Clause n holds) p = refl
check_zero (Covered f holds) p = refl

pub no_more : (m n : ℕ) → m ≡ 0 → n ≡ 0 → max m n ≡ 0
no_more m n p q = omega arith

pub asked_zero : (cs : List Check) → Each IsOk cs → greatest_asked cs ≡ 0
asked_zero [] p = refl
asked_zero (c ∷ cs) p = no_more (generation_in c) (max_of (map generation_in cs)) (check_zero c p.0) (asked_zero cs p.1)

pub items_zero : (xs : List Item) → Each ItemOk xs → greatest_item xs ≡ 0
items_zero [] p = refl
items_zero (x ∷ xs) p = no_more (generation_or_zero x.id) (max_of (map (λ x. generation_or_zero x.id) xs)) (mark_zero x.id p.0) (items_zero xs p.1)
