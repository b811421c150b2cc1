-- Whether a module is resolved: each index is a number, and each type use that needs an index has one (text format: indices,
-- type uses).
--
-- The type use of a block may have no index if its inline type is short, because the binary format has a short form for it.
--
--   (func (type 0) block (result i32) i32.const 1 end drop)     resolved
--   (func (type $t))                                            not resolved: an id
--   (func (result i32) i32.const 1)                             not resolved: a function needs an index
use Rattle.std.specs.Prelude.{Bool, true, ◌&&◌, ◌||◌, is_some, List}
use Rattle.std.specs.List.{list_all}
use Rattle.wast_base.specs.Ids.{is_number}
use Rattle.wast_tree_nodes.specs.Tree.{ModuleField}
use Rattle.wast_tree_nodes.specs.Types.{says_enough}
use Rattle.wast_tree_nodes.specs.Sites.{Check, ItemIndex, InnerIndex, PlainId, Clause, Covered, Site, Asked, Used, Declared, LocalAt, FieldAt, LabelAt, Repeated, Begins, Ends, in_type_use, checks_of, in_module}

-- whether an index of a check is a number
abbrev pub is_numbered : Check → Bool
is_numbered (ItemIndex s i) = is_number i
is_numbered (InnerIndex i) = is_number i
is_numbered (PlainId m) = true
is_numbered (Clause n holds) = true
is_numbered (Covered f holds) = true

-- the same for all of a list
abbrev pub are_numbered : List Check → Bool
are_numbered asks = list_all is_numbered asks

-- whether all indices in a list of fields are numbers
abbrev pub has_numbers : List ModuleField → Bool
has_numbers fields = are_numbered (checks_of (in_module fields))

-- Whether a site passes, by a test of a check alone and a test of the checks in a type use. Indices in a body are numbers, and a
-- type use has an index or the short inline type of a block.
abbrev pub site_passes : (Check → Bool) → (Check → Bool) → Site → Bool
site_passes alone within (Asked a) = alone a
site_passes alone within (Used w u) = (is_some u.index || says_enough w u.inline) && list_all within (in_type_use u)
site_passes alone within (Declared before m) = true
site_passes alone within (LocalAt locals i) = is_number i
site_passes alone within (FieldAt owner i) = is_number owner && is_number i
site_passes alone within (LabelAt blocks i) = is_number i
site_passes alone within (Repeated blocks m) = true
site_passes alone within (Begins blocks m) = true
site_passes alone within Ends = true

-- whether a site is resolved: its indices are numbers, and a type use has an index or the short inline type of a block
abbrev pub is_resolved_site : Site → Bool
is_resolved_site s = site_passes is_numbered is_numbered s

-- whether a list of fields is resolved
abbrev pub is_resolved : List ModuleField → Bool
is_resolved fields = list_all is_resolved_site (in_module fields)
