-- The fields with each type use resolved to the position of its type, without generated ids (text format, type uses:
-- abbreviations). Theorems use this form, because it does not depend on the counter.
--
--   (func)      (func (type 0)) (type (func))
use Rattle.std.specs.Prelude.{List, map, option_map}
use Rattle.wast_expand_keys.specs.Tree.{ModuleField}
use Rattle.wast_expand_keys.specs.Tree.index
use Rattle.wast_expand_keys.specs.TypeSpace.{index_for}
use Rattle.wast_expand_keys.specs.Expanders.{LookUp}
use Rattle.wast_expand_keys.specs.Expanded.{start_of_text, bound_field}
use Rattle.wast_expand_keys.specs.Completed.{fields_with_implied_types}

-- the position of the type of a signature, as an index
abbrev pub position_for : List ModuleField → LookUp
position_for fields s = option_map (λ k. index.Num k start_of_text) (index_for fields s)

-- the fields and the missing types, with type uses resolved to positions
abbrev pub fields_with_type_positions : List ModuleField → List ModuleField
fields_with_type_positions fields = map (bound_field (position_for fields)) (fields_with_implied_types fields)
