-- Names as the code finds and writes them: as texts, regardless of their addresses (custom sections: name section).
--
-- The code counts positions in a `u64` that stops at the largest value, and the definitions count without a limit. The
-- two agree below 2^32, and larger positions are out of range.
use Rattle.std.specs.Prelude.{ℕ, ◌≡◌, ◌-◌, ◌^◌, min, List, [], ◌∷◌, ◌++◌, Option, Some, None, option_map, Result, All}
use Rattle.std.specs.List.{flat_map}
use Rattle.std.specs.Borrow.{Bor}
use Rattle.wast_tree_nodes.specs.declared.profiles.FieldItems.{FieldItems}
use Rattle.wast_tree_nodes.specs.Profiles.{items_read}
use Rattle.wasm_ops.specs.declared.sink.Refusal.{Refusal}
use Rattle.wasm_ops.specs.Sinks.{SinkRules, Writes}
use Rattle.wasm_ops.specs.Leb128.{unsigned}
use Rattle.wasm_ops.specs.Spelling.{InRangeU32, vec, length_prefixed, InRangeVec, InRangeSized}
use Rattle.wast_core_name_section.specs.declared.name_lists.Listed.{Listed}
use Rattle.wast_core_name_section.specs.declared.name_lists.Listed.TheVariants as listed
use Rattle.wast_core_name_section.specs.declared.within.Lists.{Lists}
use Rattle.wast_core_name_section.specs.declared.within.Lists.TheVariants as lists
use Rattle.wast_core_name_section.specs.declared.within.Within.{Within}
use Rattle.wast_core_name_section.specs.GivenNames.{named_from}
use Rattle.wast_core_name_section.specs.ModuleNames.{names_defined}
use Rattle.wast_core_name_section.specs.WithinItems.{param_name, field_name, local_name, label_in, where_named, lists_in_type, lists_in_import}
use Rattle.wast_core_name_section.specs.Tree.{Space}

-- A text, if there is one.
abbrev pub text_seen : Option (Bor (List ℕ)) → Option (List ℕ)
text_seen text = option_map (λ t. t.now) text

-- The item that a value may be, with its name.
abbrev pub item_seen : Option (Option (Bor (List ℕ))) → List (Option (List ℕ))
item_seen None = []
item_seen (Some text) = text_seen text ∷ []

-- The items found in a field, each with its index space and its name.
abbrev pub items_seen : FieldItems → List (Space × Option (List ℕ))
items_seen i = names_defined (items_read i)

-- A count in a `u64` that stops at the largest value.
abbrev pub saturated_count : ℕ → ℕ
saturated_count n = min n (2 ^ 64 - 1)

-- The bytes of an entry: its position and its content.
abbrev pub entry_spelling : {A : Type 0} → (A → List ℕ) → ℕ × A → List ℕ
entry_spelling spell e = unsigned e.0 ++ spell e.1

-- Whether an entry is in range: its position and its content.
abbrev pub InRangeEntryOf : {A : Type 0} → (A → Type 0) → ℕ × A → Type 0
InRangeEntryOf InRange e = InRangeU32 e.0 × InRange e.1

-- The entries of items were appended, or none. `position` is the number of the first item, as a `u64` counts it.
abbrev pub WritesItems : {S R A : Type 0} → SinkRules S → (ℕ × A → List ℕ) → (ℕ × A → Type 0) → List (Option A) → ℕ → S → S → Result R Refusal → Type 0
WritesItems rules entry InRange items position old new result =
    (n : ℕ) → position ≡ saturated_count n
    → Writes rules (All InRange (named_from n items)) old new (flat_map entry (named_from n items)) result

-- The bytes of a name map as a subsection with this id. Without entries there is no subsection.
abbrev pub map_bytes : {A : Type 0} → ℕ → (ℕ × A → List ℕ) → List (ℕ × A) → List ℕ
map_bytes id entry [] = []
map_bytes id entry (e ∷ es) = id ∷ length_prefixed (vec entry) (e ∷ es)

-- Whether the count, the length and the entries of a name map are in range.
abbrev pub InRangeMap : {A : Type 0} → (ℕ × A → List ℕ) → (ℕ × A → Type 0) → List (ℕ × A) → Type 0
InRangeMap entry InRange [] = Unit {0}
InRangeMap entry InRange (e ∷ es) = InRangeSized (InRangeVec InRange) (vec entry) (e ∷ es)

-- The names in a list, by their positions.
abbrev pub names_listed : Listed → List (ℕ × List ℕ)
names_listed (listed.Fields fields) = named_from 0 (flat_map (λ f. field_name f ∷ []) fields.now)
names_listed (listed.Locals params first locals) =
    named_from 0 (flat_map (λ p. param_name p ∷ []) params.now) ++ named_from first (flat_map (λ l. local_name l ∷ []) locals.now)
names_listed (listed.Labels first instrs) = named_from first (flat_map label_in instrs.now)

-- The item with this list, if one is found.
abbrev pub lists_found : Option Listed → List (Option (List (ℕ × List ℕ)))
lists_found None = []
lists_found (Some listed) = where_named (names_listed listed) ∷ []

-- The lists that are found in a field.
abbrev pub lists_seen : Within → Lists → List (Option (List (ℕ × List ℕ)))
lists_seen w (lists.One found) = lists_found found
lists_seen w (lists.Types types) = flat_map (lists_in_type w) types.now
lists_seen w (lists.Imported i) = lists_in_import w i.now
