-- The search for the first duplicate id of a module, from the first duplicate of each index space.
--
-- A visitor goes through the items once. It counts down to the first duplicate of each space, so it needs no look-ups.
--
--   (func $a) (table $t) (func $a)      in `func` one item comes before the duplicate, in `table` there is none
use Rattle.std.specs.Prelude.{◌≡◌, ⊤, ℕ, zero, suc, ◌≤◌, ◌^◌, List, length, codes, Option, Some, None, option_map, MatchOption, slice_index_or, slice_set}
use Rattle.wast_base.specs.Ids.{Mark, text_of}
use Rattle.wast_base.specs.Faults.{Duplicate, DuplicateField, Diagnostic, At, diagnostic_of}
use Rattle.wast_base.specs.Spaces.{word_of, rank_of}
use Rattle.wast_tree_nodes.specs.Items.{Item}
use Rattle.wast_resolve_spaces.specs.declared.clashes.Finder.{Finder}
use Rattle.wast_resolve_rules.specs.Demands.{first_unmet, field_demands, Answers}

-- For each space, by rank: how many items come before its first duplicate; and what was found.
pub record Countdown : Type 0 where
  pub ahead : List (Option ℕ)
  pub found : Option Diagnostic

-- the visitor as a countdown
abbrev pub countdown : Finder → Countdown
countdown f = record { ahead = f.ahead; found = option_map diagnostic_of f.found }

-- how many items of the same space come before its first duplicate
abbrev pub ahead_of : List (Option ℕ) → Item → Option ℕ
ahead_of ahead x = slice_index_or ahead (rank_of x.space) None

-- the error of an item with a duplicate id
abbrev pub clash_told : Item → Option Diagnostic
clash_told x = option_map (λ m. At (Duplicate (word_of x.space)) m.1) x.id

-- the error of a field with a duplicate id
abbrev pub field_clash_told : Option Mark → Option Diagnostic
field_clash_told id = option_map (λ m. At (DuplicateField (codes "field") (text_of m.0)) m.1) id

-- the countdown after an item, from what was found and what is ahead in its space
abbrev pub counted_down_by : Option Diagnostic → Option ℕ → List (Option ℕ) → Item → Countdown
counted_down_by (Some t) n ahead x = record { ahead = ahead; found = Some t }
counted_down_by None None ahead x = record { ahead = ahead; found = None }
counted_down_by None (Some zero) ahead x = record { ahead = ahead; found = clash_told x }
counted_down_by None (Some (suc n)) ahead x = record { ahead = slice_set ahead (rank_of x.space) (Some n); found = None }

-- the countdown after an item, without its fields
abbrev pub counted_down : Countdown → Item → Countdown
counted_down c x = counted_down_by c.found (ahead_of c.ahead x) c.ahead x

-- What is found among the fields of a struct: the first duplicate, E12, or E10 if there are 2^32 fields or more.
abbrev pub FindsAmong : List (Option Mark) → Option Diagnostic → Type 0
FindsAmong ids found = let unmet = first_unmet (field_demands ids) in MatchOption found (unmet ≡ None) (λ t. Answers ⊤ (2 ^ 32 ≤ length ids) t unmet)

-- an earlier result stays; else the fields decide
abbrev pub Looks : Option Diagnostic → List (Option Mark) → Option Diagnostic → Type 0
Looks (Some t) ids found = found ≡ Some t
Looks None ids found = FindsAmong ids found

-- the countdown before and after an item; its own duplicate comes before those of its fields
abbrev pub CountsDown : Countdown → Item → Countdown → Type 0
CountsDown old x new = (new.ahead ≡ (counted_down old x).ahead) × Looks (counted_down old x).found x.fields new.found
