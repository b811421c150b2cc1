-- The kinds of fields (text format: modules).
--
-- Custom sections have a kind for each position in the binary module, because the encoder writes them position by position.
--
--   (func)                            kind `Func`, number 3
--   (@custom "a" (before first))      kind `Custom BeforeFirst`, number 12
use Rattle.std.specs.Prelude.{ℕ, ◌+◌, ◌==◌, Bool, List, ◌∷◌, map}
use Rattle.wast_tree_nodes.specs.Tree.{ModuleField}
use Rattle.wast_tree_nodes.specs.Customs.{place_rank, places}
use Rattle.wast_tree_nodes.specs.Profiles.{profile_of}
use Rattle.wast_tree_nodes.specs.declared.kinds.FieldKind.{FieldKind}
use Rattle.wast_tree_nodes.specs.declared.kinds.FieldKind.TheVariants as kind

-- the kind of a field
abbrev pub kind_in : ModuleField → FieldKind
kind_in f = (profile_of f).kind

-- the number of a kind
abbrev pub kind_rank : FieldKind → ℕ
kind_rank kind.Ty = 0
kind_rank kind.Rec = 1
kind_rank kind.Import = 2
kind_rank kind.Func = 3
kind_rank kind.Table = 4
kind_rank kind.Memory = 5
kind_rank kind.Global = 6
kind_rank kind.Export = 7
kind_rank kind.Start = 8
kind_rank kind.Elem = 9
kind_rank kind.Data = 10
kind_rank kind.Tag = 11
kind_rank (kind.Custom place) = 12 + place_rank place

-- all kinds, in the order of their numbers
abbrev pub kinds : List FieldKind
kinds = kind.Ty ∷ kind.Rec ∷ kind.Import ∷ kind.Func ∷ kind.Table ∷ kind.Memory ∷ kind.Global ∷ kind.Export ∷ kind.Start ∷ kind.Elem ∷ kind.Data ∷ kind.Tag ∷ map kind.Custom places

-- whether two kinds are the same
abbrev pub same_kind : FieldKind → FieldKind → Bool
same_kind k l = kind_rank k == kind_rank l

-- whether a field is of a kind
abbrev pub is_of : FieldKind → ModuleField → Bool
is_of k f = same_kind k (kind_in f)
