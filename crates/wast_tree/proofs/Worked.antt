-- Proves the examples of specs/Private by computing them.
use Rattle.std.proofs.Common.{refl}
use Rattle.wast_base.specs.Blocks.{stays_open}
use Rattle.wast_tree.specs.Private.Instructions.{InstructionsAsk}
use Rattle.wast_tree.specs.Private.Examples.{SameIds, StandsInRow27, StandsInFilledMemory, StandsEverywhere, StandsInPlace}
use Rattle.wast_tree.specs.Private.Examples.{StandsInSegments, StandsInBlocks, KnownInRows, WellFormedRows, SettledIndices}
use Rattle.wast_tree.specs.Private.Examples.{UnsettledIndices, WellFormedFuncs, WellFormedHints, WellFormedTypes, WellFormedSegments}
use Rattle.wast_tree.specs.Private.Examples.{WellFormedEntities, WellFormedInPlace, WellFormedBlocks, IllFormedClauses, FirstIllFormed}
use Rattle.wast_tree.specs.Private.Examples.{WrittenOutFields, GenerationsOfRows, StandsInAccess, StandsInSharedImports, UncoveredForms}
use Rattle.wast_tree.specs.Private.Examples.{FirstUncovered}

pub same_ids : SameIds
same_ids a b = (refl, refl, refl, refl, refl, refl, refl, refl)

pub stands_in_row27 : StandsInRow27
stands_in_row27 a b c d e f = (refl, refl, refl)

pub stands_in_filled_memory : StandsInFilledMemory
unfolding stays_open
stands_in_filled_memory a b c d e = (refl, refl, refl)

pub stands_everywhere : StandsEverywhere
stands_everywhere a = (refl, refl)

pub stands_in_place : StandsInPlace
unfolding stays_open
stands_in_place a = (refl, refl, refl, refl)

pub stands_in_segments : StandsInSegments
unfolding stays_open
stands_in_segments = (refl, refl, refl)

pub stands_in_blocks : StandsInBlocks
stands_in_blocks a = (refl, refl)

pub known_in_rows : KnownInRows
known_in_rows a b c d e f = (refl, refl, refl, refl, refl, refl, refl, refl)

pub well_formed_rows : WellFormedRows
well_formed_rows a b c d e f = (refl, refl, refl)

pub settled_indices : SettledIndices
settled_indices a = (refl, refl, refl, refl)

pub unsettled_indices : UnsettledIndices
unsettled_indices = (refl, refl, refl, refl, refl)

pub well_formed_funcs : WellFormedFuncs
well_formed_funcs a = (refl, refl, refl, refl, refl, refl, refl, refl, refl, refl, refl)

pub well_formed_hints : WellFormedHints
unfolding stays_open
well_formed_hints = (refl, refl, refl, refl, refl, refl, refl, refl)

pub well_formed_types : WellFormedTypes
well_formed_types a = (refl, refl, refl, refl, refl, refl, refl, refl, refl, refl, refl, refl)

pub well_formed_segments : WellFormedSegments
unfolding stays_open
well_formed_segments = (refl, refl, refl, refl, refl)

pub well_formed_entities : WellFormedEntities
unfolding stays_open
well_formed_entities = (refl, refl, refl, refl, refl)

pub well_formed_in_place : WellFormedInPlace
unfolding stays_open
well_formed_in_place a = (refl, refl, refl, refl, refl, refl, refl)

pub well_formed_blocks : WellFormedBlocks
unfolding stays_open
well_formed_blocks = (refl, refl, refl, refl, refl, refl, refl, refl, refl)

pub ill_formed_clauses : IllFormedClauses
unfolding stays_open lib.Count.ones
ill_formed_clauses a = (refl, refl, refl, refl, refl, refl, refl, refl)

pub first_is_ill_formed : FirstIllFormed
unfolding stays_open lib.Count.ones
first_is_ill_formed a = (refl, refl, refl, refl, refl, refl)

pub written_out_fields : WrittenOutFields
written_out_fields a b c d e f = (refl, refl, refl, refl, refl, refl, refl)

pub generations_of_rows : GenerationsOfRows
generations_of_rows a b c d e f = (refl, refl, refl, refl, refl, refl, refl, refl, refl, refl)

pub stands_in_access : StandsInAccess
stands_in_access a = refl

pub stands_in_shared_imports : StandsInSharedImports
stands_in_shared_imports a b = (refl, refl, refl, refl)

pub uncovered_in_forms : UncoveredForms
uncovered_in_forms a = (refl, refl, refl, refl, refl, refl, refl, refl, refl)

pub first_is_uncovered : FirstUncovered
first_is_uncovered = (refl, refl, refl, refl)

pub instructions_ask : InstructionsAsk
unfolding lib.Count.ones
instructions_ask name c lanes = (
  refl,
  refl,
  refl,
  refl,
  refl,
  refl,
  refl,
  refl,
  refl,
  refl,
  refl,
  refl,
  refl,
  refl,
  refl,
  refl,
  refl,
  refl,
  refl,
  refl,
  refl,
  refl,
  refl,
  refl,
  refl,
  refl,
  refl,
  refl,
  refl,
  refl,
  refl,
  refl,
  refl,
  refl,
  refl,
  refl,
  refl,
  refl,
  refl,
  refl,
  refl,
  refl,
  refl,
  refl,
  refl,
  refl,
  refl,
  refl,
  refl,
  refl,
  refl,
  refl,
  refl,
  refl,
  refl,
  refl,
  refl,
  refl,
  refl,
  refl,
  refl,
  refl,
  refl,
  refl,
  refl,
  refl,
  refl,
  refl,
  refl,
  refl,
  refl,
  refl,
  refl,
  refl,
  refl,
  refl,
  refl,
  refl,
  refl,
  refl,
  refl,
  refl,
  refl,
  refl,
  refl,
  refl,
  refl,
  refl,
  refl,
  refl,
  refl,
  refl,
  refl,
  refl,
  refl,
  refl,
  refl,
)
