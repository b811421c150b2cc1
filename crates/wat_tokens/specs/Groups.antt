-- Tokens in groups: in lists, one after another.
use Rattle.std.specs.Prelude.{◌≡◌, List, ◌++◌, length}
use Rattle.std.specs.List.{flat_map}
use Rattle.std.specs.Global.{Vec}
use Rattle.wat_tokens.specs.declared.tokens.Placed.{Placed}
use Rattle.wat_tokens.specs.declared.groups.TokenGroups.{TokenGroups}
use Rattle.wat_tokens.specs.declared.groups.Grouping.{Grouping}

-- the tokens of the groups, one group after another
abbrev pub all_in : List (Vec Placed) → List Placed
all_in groups = flat_map (λ g. g.items) groups

-- The count of the groups is that of their tokens.
abbrev pub IsCounted : TokenGroups → Type 0
IsCounted found = found.count ≡ length (all_in found.groups.items)

-- the tokens that are put in groups so far: those of the full groups, and those of the last one
unfoldable pub tokens_in : Grouping → List Placed
tokens_in found = all_in found.full.groups.items ++ found.last.items
