-- Computes the example modules.
use Rattle.std.proofs.Common.{refl}
use Rattle.wast_expand_keys.specs.WorkedExpansions.{SameSignatures, OrderedSignatures, DistinctSignatures, SameReferences, Row2, Row7, Row8}
use Rattle.wast_expand_keys.specs.WorkedExpansions.{Row23, Row37, EligibleTypes, Several, AfterStruct, ByIdAndNumber, Row65, UnknownIds}
use Rattle.wast_expand_keys.specs.WorkedExpansions.{FirstOfTwo, UsesInOrder, IndirectCalls}

pub same_signatures : SameSignatures
same_signatures = (refl, refl, refl, refl, refl)

pub ordered_signatures : OrderedSignatures
ordered_signatures = (refl, refl, refl, refl, refl)

pub distinct_signatures : DistinctSignatures
distinct_signatures = (refl, refl)

pub same_references : SameReferences
same_references a b = (refl, refl, refl, refl, refl, refl, refl, refl, refl, refl, refl)

pub row2 : Row2
row2 = (refl, refl, refl, refl, refl, refl, refl)

pub row7 : Row7
row7 a = (refl, refl, refl, refl, refl, refl, refl)

pub row8 : Row8
row8 = (refl, refl, refl, refl, refl, refl)

pub row23 : Row23
row23 = (refl, refl, refl, refl, refl, refl)

pub row37 : Row37
row37 = (refl, refl, refl)

pub eligible_types : EligibleTypes
eligible_types = ((refl, refl), (refl, refl), (refl, refl), (refl, refl), (refl, refl), (refl, refl))

pub several : Several
several a = (refl, refl, refl, refl, refl, refl, refl, refl)

pub after_struct : AfterStruct
after_struct = (refl, refl, refl, refl)

pub by_id_and_number : ByIdAndNumber
by_id_and_number a b c = (refl, refl, refl, refl, refl, refl)

pub row65 : Row65
row65 a b = (refl, refl, refl)

pub unknown_ids : UnknownIds
unknown_ids a b c = (refl, refl, refl, refl)

pub first_of_two : FirstOfTwo
first_of_two a b = (refl, refl)

pub uses_in_order : UsesInOrder
uses_in_order a = (refl, refl, refl, refl)

pub indirect_calls : IndirectCalls
indirect_calls = (refl, refl, refl)
