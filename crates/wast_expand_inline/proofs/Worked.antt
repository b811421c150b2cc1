-- Computes the example modules.
use Rattle.std.proofs.Common.{refl}
use Rattle.wast_expand_inline.specs.WorkedFields.{EmptyMemory, LongMemory, ImportedFuncs, ExactImport, TableOfTwo, GlobalAndTag}

pub empty_memory : EmptyMemory
empty_memory a b = (refl, refl, refl)

pub long_memory : LongMemory
long_memory a b c d e = (refl, refl, refl)

pub imported_funcs : ImportedFuncs
imported_funcs a b c d e f = (refl, refl, refl)

pub exact_import : ExactImport
exact_import a b = refl

pub table_of_two : TableOfTwo
table_of_two a b = (refl, refl, refl)

pub global_and_tag : GlobalAndTag
global_and_tag a b c d e = (refl, refl, refl)
