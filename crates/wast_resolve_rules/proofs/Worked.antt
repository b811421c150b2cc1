-- Computes the example modules.
use Rattle.std.proofs.Common.{refl}
use Rattle.wast_resolve_rules.specs.WorkedAnswers.{Row27, Row31, Row32, Row2, Row7, Row8, Row24, TwoFunctions, ClashOfTypes}
use Rattle.wast_resolve_rules.specs.WorkedAnswers.{FieldsOfOneStruct, FieldsOfTwoStructs, ClashesInOrder, Row14, Row22, Row23, UnknownNames}
use Rattle.wast_resolve_rules.specs.WorkedAnswers.{MatchedByNumber, Row17, IndirectCalls}
use Rattle.wast_resolve_rules.specs.WorkedBodies.{NestedLabels, InnermostOfTwo, CaughtOutside, CaughtInItself, DelegatedOutside}
use Rattle.wast_resolve_rules.specs.WorkedBodies.{DelegatedToItself, LabelsAtEnds, BlockOfTwo, BehindNameless}
use Rattle.wast_resolve_rules.specs.WorkedEarly.{RowsEarly, ImportedInPlace}
use Rattle.wast_resolve_rules.specs.WorkedFields.{Row48, Row16}
use Rattle.wast_resolve_rules.specs.WorkedImports.{Row12, Row13, Row21, BehindAMemory, ImportsInOrder, ImportedTwice, UnknownStart}
use Rattle.wast_resolve_rules.specs.WorkedUnknowns.{UnknownInSegments, UnknownInTables, UnknownInGlobals}

pub row27 : Row27
row27 a b c d e f = (refl, refl, refl)

pub row31 : Row31
row31 a b c d e = refl

pub row32 : Row32
row32 a b = refl

pub row2 : Row2
row2 = (refl, refl, refl)

pub row7 : Row7
row7 a = (refl, refl, refl, refl)

pub row8 : Row8
row8 = (refl, refl, refl)

pub row24 : Row24
row24 = (refl, refl)

pub two_functions : TwoFunctions
two_functions a = (refl, refl)

pub clash_of_types : ClashOfTypes
clash_of_types a b = (refl, refl)

pub fields_of_one_struct : FieldsOfOneStruct
fields_of_one_struct a b = (refl, refl, refl)

pub fields_of_two_structs : FieldsOfTwoStructs
fields_of_two_structs a b = refl

pub clashes_in_order : ClashesInOrder
clashes_in_order a b c d = (refl, refl, refl, refl)

pub row14 : Row14
row14 a b = refl

pub row22 : Row22
row22 = refl

pub row23 : Row23
row23 = refl

pub unknown_names : UnknownNames
unknown_names a b c = (refl, refl)

pub matched_by_number : MatchedByNumber
matched_by_number a b c d e = (refl, refl, refl)

pub row17 : Row17
row17 a b c = (refl, refl)

pub indirect_calls : IndirectCalls
indirect_calls a b c = (refl, refl, refl, refl, refl, refl, refl)

pub row12 : Row12
row12 a b = refl

pub row21 : Row21
row21 a b = refl

pub behind_a_memory : BehindAMemory
behind_a_memory a b = refl

pub imports_in_order : ImportsInOrder
imports_in_order a b c d = (refl, refl)

pub imported_twice : ImportedTwice
imported_twice a b c d e f = (refl, refl)

pub unknown_start : UnknownStart
unknown_start a = refl

pub row13 : Row13
row13 a b c = refl

pub unknown_in_segments : UnknownInSegments
unknown_in_segments a b c = (refl, refl, refl)

pub unknown_in_tables : UnknownInTables
unknown_in_tables a b = (refl, refl)

pub unknown_in_globals : UnknownInGlobals
unknown_in_globals a b = (refl, refl)

pub nested_labels : NestedLabels
nested_labels a b c d = (refl, refl, refl)

pub innermost_of_two : InnermostOfTwo
innermost_of_two a b c d = (refl, refl)

pub caught_outside : CaughtOutside
caught_outside a b c d = (refl, refl)

pub caught_in_itself : CaughtInItself
caught_in_itself a b = refl

pub delegated_outside : DelegatedOutside
delegated_outside a b = (refl, refl)

pub delegated_to_itself : DelegatedToItself
delegated_to_itself a b = refl

pub labels_at_ends : LabelsAtEnds
labels_at_ends a b = (refl, refl)

pub block_of_two : BlockOfTwo
block_of_two = (refl, refl)

pub behind_nameless : BehindNameless
behind_nameless a b = (refl, refl, refl, refl)

pub row48 : Row48
row48 a b c d e = (refl, refl, refl, refl)

pub row16 : Row16
row16 a b = (refl, refl, refl, refl)

pub rows_early : RowsEarly
rows_early a b c = (refl, refl, refl, refl)

pub imported_in_place : ImportedInPlace
imported_in_place a b c d e f = (refl, refl)
