-- A function with other branch hints (text format: custom annotations).
use Rattle.std.specs.Prelude.{List}
use Rattle.wast_tree_nodes.specs.Tree.{BranchHint, FuncKind}
use Rattle.wast_tree_nodes.specs.Tree.func

-- the function's locals and body with these hints; a function with an inline import has no body and is unchanged
abbrev pub with_hints : List BranchHint → FuncKind → FuncKind
with_hints hints (func.Inline locals e) = func.Inline locals (record e { branch_hints = hints })
with_hints hints (func.Import import exact) = func.Import import exact
