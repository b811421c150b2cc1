-- The fields with all types, without generated ids (text format, type uses: abbreviations).
--
--   (func)                      (func) (type (func))
--   (func) (type $t (func))     (func) (type $t (func))
use Rattle.std.specs.Prelude.{List, ◌++◌, map}
use Rattle.wast_expand_keys.specs.Tree.{ModuleField}
use Rattle.wast_expand_keys.specs.ImpliedTypes.{implied_signatures}
use Rattle.wast_expand_keys.specs.Expanded.{unnamed_type}

-- the fields, and after them the missing types, without ids
abbrev pub fields_with_implied_types : List ModuleField → List ModuleField
fields_with_implied_types fields = fields ++ map unnamed_type (implied_signatures fields)
