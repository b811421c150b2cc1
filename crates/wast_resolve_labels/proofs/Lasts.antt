-- The last unclosed opener, and the last one with a label.
use Rattle.std.proofs.Common.{◌≡◌, ℕ, zero, suc, ◌+◌, List, [], ◌∷◌, ◌++◌, Option, Some, None, option_map, Bool, true, false, cond, refl}
use Rattle.std.proofs.Common.{ap, sym, ◌∙◌, length, drop, arith, length-append}
use Rattle.std.proofs.lemmas.Bool.{false_from_ne_true}
use Rattle.wast_base.specs.Blocks.{Blocks, BlockEffect, Opens, Closes, Stays, stays_open}
use Rattle.wast_base.specs.Ids.{Name}
use Rattle.wast_base.specs.Spaces.{is_called}
use Rattle.wast_resolve_labels.specs.OpenBlocks.{label_depth, is_expected_label}
use Rattle.wast_resolve_labels.specs.Turns.{open_blocks, open_count, IsOpen, IsLastOpen, IsLastOf}
use Rattle.wast_base.proofs.Names.{called_is, same_name_itself}
use Rattle.wast_base.proofs.Positions.{position_head}

-- Openers after the first instruction.
one_behind : (t : BlockEffect) (ts : List BlockEffect) (l : Option Name) (at : ℕ) → IsOpen ts l at → IsOpen (t ∷ ts) l (suc at)
one_behind t ts l at h = record { opener = h.opener; stays = h.stays }

behind_one : (t : BlockEffect) (ts : List BlockEffect) (l : Option Name) (at : ℕ) → IsOpen (t ∷ ts) l (suc at) → IsOpen ts l at
behind_one t ts l at h = record { opener = h.opener; stays = h.stays }

last_behind : (t : BlockEffect) (ts : List BlockEffect) (l : Option Name) (at : ℕ) → IsLastOpen (t ∷ ts) l (suc at) → IsLastOpen ts l at
last_behind t ts l at h = record {
  is_open = behind_one t ts l at h.is_open;
  last = λ r m lt o. h.last (suc r) m (omega arith) (one_behind t ts m r o);
}

last_of_behind : (t : BlockEffect) (ts : List BlockEffect) (label : Name) (at : ℕ) → IsLastOf (t ∷ ts) label (suc at) → IsLastOf ts label at
last_of_behind t ts label at h = record {
  is_open = behind_one t ts (Some label) at h.is_open;
  last = λ r lt o. h.last (suc r) (omega arith) (one_behind t ts (Some label) r o);
}

opens_with : (t : BlockEffect) (ts : List BlockEffect) (l : Option Name) → IsOpen (t ∷ ts) l zero → t ≡ Opens l
opens_with t ts l h = the_turn t (Opens l) h.opener
  where
    the_turn : (a b : BlockEffect) → ◌≡◌ {A = Option BlockEffect} (Some a) (Some b) → a ≡ b
    the_turn a b e = cc

here_open : (ts : List BlockEffect) (l : Option Name) → stays_open ts ≡ true → IsOpen (Opens l ∷ ts) l zero
here_open ts l h = record { opener = refl; stays = h }

-- An unclosed opener adds its label after the others.
added : (ts : List BlockEffect) (l : Option Name) → stays_open ts ≡ true → open_blocks (Opens l ∷ ts) ≡ open_blocks ts ++ l ∷ []
added ts l h = ap (λ b. cond b (open_blocks ts ++ l ∷ []) (open_blocks ts)) h

not_added : (ts : List BlockEffect) (l : Option Name) → stays_open ts ≡ false → open_blocks (Opens l ∷ ts) ≡ open_blocks ts
not_added ts l h = ap (λ b. cond b (open_blocks ts ++ l ∷ []) (open_blocks ts)) h

-- No block is open if no opener is unclosed.
none_open : (ts : List BlockEffect) → ((at : ℕ) (l : Option Name) → IsOpen ts l at → ⊥) → open_blocks ts ≡ []
none_open [] h = refl
none_open (Opens l ∷ ts) h =
    not_added ts l (false_from_ne_true (stays_open ts) (λ e. h zero l (here_open ts l e)))
    ∙ none_open ts (λ at m o. h (suc at) m (one_behind (Opens l) ts m at o))
none_open (Closes ∷ ts) h = none_open ts (λ at m o. h (suc at) m (one_behind Closes ts m at o))
none_open (Stays ∷ ts) h = none_open ts (λ at m o. h (suc at) m (one_behind Stays ts m at o))

pub expects_any : (ts : List BlockEffect) (label : Name) → ((at : ℕ) (l : Option Name) → IsOpen ts l at → ⊥)
    → is_expected_label (Some label) (open_blocks ts) ≡ true
expects_any ts label h = ap (is_expected_label (Some label)) (none_open ts h)

-- The block of the last opener is the first.
abbrev BeginsWith : Option Name → Blocks → Type 0
BeginsWith l ls = (rest : Blocks) × (ls ≡ l ∷ rest)

still_first : (b : Bool) (l m : Option Name) (ls : Blocks) → BeginsWith l ls → BeginsWith l (cond b (ls ++ m ∷ []) ls)
still_first true l m ls h = (h.0 ++ m ∷ [], ap (λ xs. xs ++ m ∷ []) h.1)
still_first false l m ls h = h

last_opened_is_first : (t : BlockEffect) (ts : List BlockEffect) (own : Option Name) → t ≡ Opens own → stays_open ts ≡ true
    → ((at : ℕ) (l : Option Name) → IsOpen ts l at → ⊥) → BeginsWith own (open_blocks (t ∷ ts))
last_opened_is_first t ts own e h never = ([], ap (λ u. open_blocks (u ∷ ts)) e ∙ added ts own h ∙ ap (λ ls. ls ++ own ∷ []) (none_open ts never))

last_is_first : (ts : List BlockEffect) (own : Option Name) (at : ℕ) → IsLastOpen ts own at → BeginsWith own (open_blocks ts)
last_is_first [] own at h = absurd (cc (h.is_open.opener))
last_is_first (t ∷ ts) own zero h =
    last_opened_is_first t ts own (opens_with t ts own h.is_open) h.is_open.stays (λ r m o. h.last (suc r) m (omega arith) (one_behind t ts m r o))
last_is_first (Opens l ∷ ts) own (suc at) h = still_first (stays_open ts) own l (open_blocks ts) (last_is_first ts own at (last_behind (Opens l) ts own at h))
last_is_first (Closes ∷ ts) own (suc at) h = last_is_first ts own at (last_behind Closes ts own at h)
last_is_first (Stays ∷ ts) own (suc at) h = last_is_first ts own at (last_behind Stays ts own at h)

pub expects_the_last : (ts : List BlockEffect) (own : Option Name) (at : ℕ) (label : Name) → IsLastOpen ts own at
    → is_expected_label (Some label) (open_blocks ts) ≡ is_called label own
expects_the_last ts own at label h = ap (is_expected_label (Some label)) (last_is_first ts own at h).1

-- The depth of a label if one more block is last.
denotes_head : (q : Name) (b : Bool) (l : Option Name) (ls : Blocks) → is_called q l ≡ b
    → label_depth q (l ∷ ls) ≡ cond b (Some 0) (option_map suc (label_depth q ls))
denotes_head q b l ls h = position_head (is_called q) b l ls h

found_further : (q : Name) (b : Bool) (l m : Option Name) (ls : Blocks) (n : ℕ) → is_called q l ≡ b
    → ((k : ℕ) → label_depth q ls ≡ Some k → label_depth q (ls ++ m ∷ []) ≡ Some k) → label_depth q (l ∷ ls) ≡ Some n
    → label_depth q (l ∷ (ls ++ m ∷ [])) ≡ Some n
found_further q true l m ls n e f h = denotes_head q true l (ls ++ m ∷ []) e ∙ sym (denotes_head q true l ls e) ∙ h
found_further q false l m ls n e f h = by_rest (label_depth q ls) refl
  where
    by_rest : (o : Option ℕ) → label_depth q ls ≡ o → label_depth q (l ∷ (ls ++ m ∷ [])) ≡ Some n
    by_rest None g = absurd (cc (sym h ∙ denotes_head q false l ls e ∙ ap (option_map suc) g))
    by_rest (Some k) g = denotes_head q false l (ls ++ m ∷ []) e ∙ ap (option_map suc) (f k g ∙ sym g) ∙ sym (denotes_head q false l ls e) ∙ h

still_found : (q : Name) (m : Option Name) (ls : Blocks) (n : ℕ) → label_depth q ls ≡ Some n → label_depth q (ls ++ m ∷ []) ≡ Some n
still_found q m [] n h = absurd (cc (h))
still_found q m (l ∷ ls) n h = found_further q (is_called q l) l m ls n refl (still_found q m ls) h

none_first : (q : Name) (b : Bool) (l : Option Name) (ls : Blocks) → is_called q l ≡ b → label_depth q (l ∷ ls) ≡ None → (b ≡ false) × (label_depth q ls ≡ None)
none_first q true l ls e h = absurd (cc (sym (denotes_head q true l ls e) ∙ h))
none_first q false l ls e h = (refl, by_rest (label_depth q ls) refl)
  where
    by_rest : (o : Option ℕ) → label_depth q ls ≡ o → label_depth q ls ≡ None
    by_rest None g = g
    by_rest (Some k) g = absurd (cc (sym h ∙ denotes_head q false l ls e ∙ ap (option_map suc) g))

found_last : (q : Name) (m : Option Name) (ls : Blocks) → is_called q m ≡ true → label_depth q ls ≡ None → label_depth q (ls ++ m ∷ []) ≡ Some (length ls)
found_last q m [] e h = denotes_head q true m [] e
found_last q m (l ∷ ls) e h =
    let x = none_first q (is_called q l) l ls refl h in
    denotes_head q false l (ls ++ m ∷ []) x.0 ∙ ap (option_map suc) (found_last q m ls e x.1)

still_none : (q : Name) (m : Option Name) (ls : Blocks) → is_called q m ≡ false → label_depth q ls ≡ None → label_depth q (ls ++ m ∷ []) ≡ None
still_none q m [] e h = denotes_head q false m [] e
still_none q m (l ∷ ls) e h =
    let x = none_first q (is_called q l) l ls refl h in
    denotes_head q false l (ls ++ m ∷ []) x.0 ∙ ap (option_map suc) (still_none q m ls e x.1)

-- There are as many enclosing blocks as unclosed openers.
one_longer : (b : Bool) (l : Option Name) (ls : Blocks) (n : ℕ) → length ls ≡ n → length (cond b (ls ++ l ∷ []) ls) ≡ cond b (n + 1) n
one_longer true l ls n h = omega (arith, h, length-append ls (l ∷ []))
one_longer false l ls n h = h

as_many : (ts : List BlockEffect) → length (open_blocks ts) ≡ open_count ts
as_many [] = refl
as_many (Opens l ∷ ts) = one_longer (stays_open ts) l (open_blocks ts) (open_count ts) (as_many ts)
as_many (Closes ∷ ts) = as_many ts
as_many (Stays ∷ ts) = as_many ts

-- A label that no enclosing block has.
none_added : (q : Name) (b : Bool) (l : Option Name) (ls : Blocks) → (b ≡ true → is_called q l ≡ false) → label_depth q ls ≡ None
    → label_depth q (cond b (ls ++ l ∷ []) ls) ≡ None
none_added q true l ls f h = still_none q l ls (f refl) h
none_added q false l ls f h = h

pub denotes_nothing : (ts : List BlockEffect) (label : Name) → ((at : ℕ) → IsOpen ts (Some label) at → ⊥) → label_depth label (open_blocks ts) ≡ None
denotes_nothing [] q never = refl
denotes_nothing (Opens l ∷ ts) q never =
    none_added q (stays_open ts) l (open_blocks ts) (λ e. false_from_ne_true (is_called q l) (λ same.
    never zero record { opener = ap (λ m. Some (Opens m)) (called_is q l same); stays = e }))
    (denotes_nothing ts q (λ at o. never (suc at) (one_behind (Opens l) ts (Some q) at o)))
denotes_nothing (Closes ∷ ts) q never = denotes_nothing ts q (λ at o. never (suc at) (one_behind Closes ts (Some q) at o))
denotes_nothing (Stays ∷ ts) q never = denotes_nothing ts q (λ at o. never (suc at) (one_behind Stays ts (Some q) at o))

-- The last opener with a label.
found_added : (q : Name) (b : Bool) (l : Option Name) (ls : Blocks) (n : ℕ) → label_depth q ls ≡ Some n → label_depth q (cond b (ls ++ l ∷ []) ls) ≡ Some n
found_added q true l ls n h = still_found q l ls n h
found_added q false l ls n h = h

found_here : (t : BlockEffect) (ts : List BlockEffect) (q : Name) → t ≡ Opens (Some q) → stays_open ts ≡ true
    → ((at : ℕ) → IsOpen ts (Some q) at → ⊥) → label_depth q (open_blocks (t ∷ ts)) ≡ Some (open_count ts)
found_here t ts q e h never =
    ap (λ u. label_depth q (open_blocks (u ∷ ts))) e ∙ ap (label_depth q) (added ts (Some q) h)
    ∙ found_last q (Some q) (open_blocks ts) (same_name_itself q) (denotes_nothing ts q never) ∙ ap Some (as_many ts)

pub denotes_the_last : (ts : List BlockEffect) (label : Name) (at : ℕ) → IsLastOf ts label at
    → label_depth label (open_blocks ts) ≡ Some (open_count (drop (suc at) ts))
denotes_the_last [] q at h = absurd (cc (h.is_open.opener))
denotes_the_last (t ∷ ts) q zero h = found_here t ts q (opens_with t ts (Some q) h.is_open) h.is_open.stays
    (λ r o. h.last (suc r) (omega arith) (one_behind t ts (Some q) r o))
denotes_the_last (Opens l ∷ ts) q (suc at) h =
    found_added q (stays_open ts) l (open_blocks ts) (open_count (drop (suc at) ts)) (denotes_the_last ts q at (last_of_behind (Opens l) ts q at h))
denotes_the_last (Closes ∷ ts) q (suc at) h = denotes_the_last ts q at (last_of_behind Closes ts q at h)
denotes_the_last (Stays ∷ ts) q (suc at) h = denotes_the_last ts q at (last_of_behind Stays ts q at h)
