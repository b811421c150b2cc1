-- Proves the example name sections by computing them.
use Rattle.std.proofs.Common.{refl}
use Rattle.wasm_ops.specs.Leb128.{unsigned, unsigned_in}
use Rattle.wast_core_name_section.specs.WorkedNames.{Row34, Row35, InlineParameter, SecondOfGroup, NoFunctionType, GeneratedField}
use Rattle.wast_core_name_section.specs.WorkedNames.{NamedGlobal, ImportedFunction, EachSpace, ImportedParameter, TagParameter, NamedLabels}
use Rattle.wast_core_name_section.specs.WorkedNames.{GroupedImport, SharedSignature}

pub row34 : Row34
unfolding unsigned unsigned_in
row34 a b = refl

pub row35 : Row35
unfolding unsigned unsigned_in
row35 a b = refl

pub inline_parameter : InlineParameter
unfolding unsigned unsigned_in
inline_parameter a b c = refl

pub second_of_group : SecondOfGroup
unfolding unsigned unsigned_in
second_of_group a = refl

pub no_function_type : NoFunctionType
unfolding unsigned unsigned_in
no_function_type a = refl

pub generated_field : GeneratedField
unfolding unsigned unsigned_in
generated_field = refl

pub named_global : NamedGlobal
unfolding unsigned unsigned_in
named_global a = refl

pub imported_function : ImportedFunction
unfolding unsigned unsigned_in
imported_function a b c = refl

pub each_space : EachSpace
unfolding unsigned unsigned_in
each_space a b c d e f = refl

pub imported_parameter : ImportedParameter
unfolding unsigned unsigned_in
imported_parameter a b c d e = refl

pub tag_parameter : TagParameter
unfolding unsigned unsigned_in
tag_parameter a b c d = refl

pub named_labels : NamedLabels
unfolding unsigned unsigned_in
named_labels a b c d e f = refl

pub grouped_import : GroupedImport
unfolding unsigned unsigned_in
grouped_import a b c d e f = refl

pub shared_signature : SharedSignature
unfolding unsigned unsigned_in
shared_signature a b c d = refl
