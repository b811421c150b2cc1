-- The renaming that keeps every name and sets the address of every id to 0.
--
-- Ids of a tree have addresses of the text that they are in. Two trees of one text may differ in them. With this renaming, what is
-- proved of other ids holds for other addresses of the same ids.
--
--   (func $f), with `$f` at any address      (func $f), with `$f` at address 0
use Rattle.wast_resolve_laws.specs.Renaming.{Renaming}
use Rattle.wat_syntax.specs.Bare.{bare_id}

abbrev pub erasing : Renaming
erasing = record { name = λ n. n; id = bare_id }
