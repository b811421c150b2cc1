-- A parsed module has the items of its bare module, so it has the same list of names.
--
--   (func $f (export "a"))      one item, the function $f, wherever "$f" and "a" are
use Rattle.std.proofs.Common.{◌≡◌, refl}
use Rattle.wat_text.specs.Denotes.{bare_kind}
use Rattle.wat_text.specs.declared.modules.TextKind.{TextKind}
use Rattle.wat_text.specs.declared.modules.TextKind.TheVariants as held
use Rattle.wat_meaning.proofs.SameNumbers.{same_items}
use Rattle.wat_bytes.specs.Names.{items_of}
use Rattle.wat_bytes.specs.Texts.{kind_of}

pub items_bare : (k : TextKind) → items_of (kind_of (bare_kind k)) ≡ items_of (kind_of k)
items_bare (held.Fields xs) = same_items xs
items_bare (held.Binary ps) = refl
