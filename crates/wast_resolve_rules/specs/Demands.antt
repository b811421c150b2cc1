-- The checks of resolving, E1 to E9, as one list in the order in which they are reported (text format: identifiers,
-- indices, modules).
--
-- Each check is an error with its position, and whether it passes. Resolving fails with the first that does not. The
-- order is: imports (E1); duplicate ids of items, and after each struct those of its fields (E2, E3); then everything
-- else, field by field. It is one list, so that "first" needs no further definition.
--
--   (module (start $x) (func $a) (func $a))     E2 at the second $a, not E4 at $x: duplicates come before uses
--
-- Examples that compute: WorkedAnswers, WorkedBodies, WorkedEarly, WorkedFields, WorkedImports, WorkedUnknowns.
use Rattle.std.specs.Prelude.{◌≡◌, ⊤, ℕ, ◌+◌, ◌≤◌, ◌^◌, ◌⊎◌, Bool, false, not, is_some, List, [], ◌∷◌, ◌++◌, length, map, flat_map, Option, Some, None, slice_get, codes, Contains, IsTrue}
use Rattle.std.specs.List.{list_any}
use Rattle.wast_resolve_rules.specs.Tree.{Span, Index, FunctionType, TypeUse, FuncKind, ModuleField}
use Rattle.wast_resolve_rules.specs.Tree.space
use Rattle.wast_resolve_rules.specs.Tree.index
use Rattle.wast_resolve_rules.specs.Tree.func
use Rattle.wast_resolve_rules.specs.Tree.field
use Rattle.wast_base.specs.Ids.{Name, text_of, Mark, mark_of, span_of_index}
use Rattle.wast_base.specs.Faults.{Cause, Duplicate, DuplicateField, OutOfBounds, NotFunc, NoMatch, Labels, NoNamedFields, diagnostic_of}
use Rattle.wast_base.specs.declared.faults.Error.{Error}
use Rattle.wast_base.specs.Spaces.{spaces, word_of, name_if, is_borne}
use Rattle.wast_tree_nodes.specs.Items.{Item, items}
use Rattle.wast_base.specs.Blocks.{Blocks}
use Rattle.wast_resolve_labels.specs.OpenBlocks.{label_depth, is_expected_label}
use Rattle.wast_tree_nodes.specs.Sites.{Check, ItemIndex, InnerIndex, PlainId, Clause, Covered, Site, Asked, Used, Declared, LocalAt, FieldAt, LabelAt, Repeated, Begins, Ends, in_type_use, param_marks, local_marks, in_field, in_module}
use Rattle.wast_tree_nodes.specs.Known.{IdContext, names_in}
use Rattle.wast_expand_keys.specs.Signatures.{Signature}
use Rattle.wast_expand_inline.specs.Segments.{has_oversized_data}
use Rattle.wast_resolve_rules.specs.Explicit.{explicit_fields, generated_id_count}
pub use Rattle.wast_base.specs.FirstUnmet.{Demand, one_demand, first_unmet, unknown_demand, known_index, Answers}
use Rattle.wast_resolve_rules.specs.ImportOrder.{order_demand}
use Rattle.wast_resolve_rules.specs.Scopes.{Shape, Function, Struct, Other, Scope, module_scope, denoted, type_at, implicit_param_count, local_number}
use Rattle.wast_resolve_rules.specs.Matches.{signatures_match}

-- runs a check on each element, given the elements before it
abbrev pub each_after : {A : Type 0} → (List A → A → List Demand) → List A → List A → List Demand
each_after f before [] = []
each_after f before (x ∷ xs) = f before x ++ each_after f (before ++ x ∷ []) xs

-- The check that an id is not among earlier names, with the error if it is.
abbrev pub new_name_by : (Name → Cause) → List (Option Name) → Option Mark → List Demand
new_name_by fault earlier None = []
new_name_by fault earlier (Some m) = one_demand (fault m.0) m.1 (not (is_borne m.0 earlier))

-- E2 for this kind of item
abbrev pub new_name_in : List ℕ → List (Option Name) → Option Mark → List Demand
new_name_in word earlier id = new_name_by (λ name. Duplicate word) earlier id

-- E3 for this kind of field
abbrev pub new_field_name_in : List ℕ → List (Option Name) → Option Mark → List Demand
new_field_name_in word earlier id = new_name_by (λ name. DuplicateField word (text_of name)) earlier id

-- The check that no earlier item of the same index space has the id (E2).
abbrev pub own_demand : List Item → Item → List Demand
own_demand before x = new_name_in (word_of x.space) (names_in x.space before) x.id

-- The check that no earlier field of the struct has the id (E3).
abbrev pub field_demand : List (Option Mark) → Option Mark → List Demand
field_demand before id = new_field_name_in (codes "field") (map name_if before) id

-- the checks of all fields of a struct
abbrev pub field_demands : List (Option Mark) → List Demand
field_demands ids = each_after field_demand [] ids

-- the check of an item, then those of its fields
abbrev pub item_demand : List Item → Item → List Demand
item_demand before x = own_demand before x ++ field_demands x.fields

-- the checks of all items
abbrev pub item_demands : List Item → List Demand
item_demands xs = each_after item_demand [] xs

-- The check that an id names an item of its index space (E4). Numbers are not checked.
abbrev pub ask_demand : IdContext → Check → List Demand
ask_demand k (ItemIndex s i) = known_index (k.number s) (word_of s) i
ask_demand k (InnerIndex i) = []
ask_demand k (PlainId m) = []
ask_demand k (Clause n holds) = []
ask_demand k (Covered form holds) = []

-- the checks of a list of look-ups
abbrev pub ask_demands : IdContext → List Check → List Demand
ask_demands k asks = flat_map (ask_demand k) asks

-- The check that an inline type matches the type at the index beside it: there is one (E6), it is a function type (E5),
-- and its signature is equal (E7).
abbrev pub match_with : (Signature → Bool) → Span → Option Shape → List Demand
match_with same place None = one_demand OutOfBounds place false
match_with same place (Some (Function s)) = one_demand NoMatch place (same s)
match_with same place (Some (Struct number)) = one_demand NotFunc place false
match_with same place (Some Other) = one_demand NotFunc place false

-- the same for an inline type and an index
abbrev pub match_demands : Scope → Index → FunctionType → List Demand
match_demands c i t = match_with (signatures_match c.known t) (span_of_index i) (type_at c.types (denoted (c.known.number space.Ty) i))

-- the same if there are both
abbrev pub match_if : Scope → Option Index → Option FunctionType → List Demand
match_if c None None = []
match_if c None (Some t) = []
match_if c (Some i) None = []
match_if c (Some i) (Some t) = match_demands c i t

-- the checks of a type use: its index, its inline type, and that both match
abbrev pub use_demand : Scope → TypeUse FunctionType → List Demand
use_demand c u = ask_demands c.known (in_type_use u) ++ match_if c u.index u.inline

-- The check that a type is a struct with named fields (E9), and that one of its fields has the id (E4).
abbrev pub named_field : ℕ → Option Shape → Mark → List Demand
named_field n None m = one_demand (NoNamedFields (text_of m.0) n) m.1 false
named_field n (Some (Function s)) m = one_demand (NoNamedFields (text_of m.0) n) m.1 false
named_field n (Some (Struct number)) m = unknown_demand (codes "field") m (is_some (number m.0))
named_field n (Some Other) m = one_demand (NoNamedFields (text_of m.0) n) m.1 false

-- the same for the type at an index; if it is unknown, the check of that index has failed already
abbrev pub field_at : List Shape → Option ℕ → Index → List Demand
field_at types None i = []
field_at types (Some n) (index.Num m place) = []
field_at types (Some n) (index.Id id) = named_field n (slice_get types n) (mark_of id)

-- the checks of a field access: the index of the struct type, then the field
abbrev pub access_demand : Scope → (owner i : Index) → List Demand
access_demand c owner i = ask_demand c.known (ItemIndex space.Ty owner) ++ field_at c.types (denoted (c.known.number space.Ty) owner) i

-- The check that a label at `else` or `end` is that of the innermost block (E8). Without an enclosing block it passes.
abbrev pub repeated_demand : Blocks → Option Mark → List Demand
repeated_demand blocks None = []
repeated_demand blocks (Some m) = one_demand Labels m.1 (is_expected_label (Some m.0) blocks)

-- The checks at a site: duplicate ids of parameters and locals (E2), and unknown ids of locals, fields and labels (E4).
abbrev pub site_demand : Scope → Site → List Demand
site_demand c (Asked a) = ask_demand c.known a
site_demand c (Used w u) = use_demand c u
site_demand c (Declared before m) = new_name_in (codes "local") before m
site_demand c (LocalAt locals i) = known_index (local_number c locals) (codes "local") i
site_demand c (FieldAt owner i) = access_demand c owner i
site_demand c (LabelAt blocks i) = known_index (λ name. label_depth name blocks) (codes "label") i
site_demand c (Repeated blocks m) = repeated_demand blocks m
site_demand c (Begins blocks m) = []
site_demand c Ends = []

-- the checks at all sites
abbrev pub site_demands : Scope → List Site → List Demand
site_demands c sites = flat_map (site_demand c) sites

-- all checks but the order of imports: first those of items, then those of sites
abbrev pub name_demands : List ModuleField → List Demand
name_demands fields = item_demands (items fields) ++ site_demands (module_scope fields) (in_module fields)

-- the check of each import, given the fields before it
abbrev pub order_demands : List ModuleField → List Demand
order_demands fields = each_after order_demand [] fields

-- all checks: the order of imports comes first
abbrev pub demands : List ModuleField → List Demand
demands fields = order_demands fields ++ name_demands fields

-- The sizes that permit E10 from 2^32 on: items of each index space, fields of each struct, parameters and locals of
-- each function, and enclosing blocks. This definition counts the items.
abbrev pub space_counts : List Item → List ℕ
space_counts xs = map (λ s. length (names_in s xs)) spaces

-- the number of fields of each item
abbrev pub field_counts : List Item → List ℕ
field_counts xs = map (λ x. length x.fields) xs

-- both for all items
abbrev pub item_counts : List Item → List ℕ
item_counts xs = space_counts xs ++ field_counts xs

-- the ids of the locals of a function; an inline import has none
abbrev pub kind_marks : FuncKind → List (Option Mark)
kind_marks (func.Import import exact) = []
kind_marks (func.Inline locals e) = local_marks locals

-- the ids of the parameters of an inline type, then those of the locals
abbrev pub declared_ids : Option FunctionType → FuncKind → List (Option Mark)
declared_ids inline k = param_marks inline ++ kind_marks k

-- the number of parameters and locals of a function, unnamed ones included
abbrev pub local_counts_in : Scope → ModuleField → List ℕ
local_counts_in c (field.Func f) = (implicit_param_count c (Some f.ty) + length (declared_ids f.ty.inline f.kind)) ∷ []
local_counts_in c x = []

-- the number of enclosing blocks at the start of a block, itself included
abbrev pub open_counts_at : Site → List ℕ
open_counts_at (Begins blocks m) = (length blocks + 1) ∷ []
open_counts_at s = []

-- the same for all sites of a list
abbrev pub open_counts : List Site → List ℕ
open_counts sites = flat_map open_counts_at sites

-- the sizes in a field: its parameters and locals, and its enclosing blocks
abbrev pub body_counts_in : Scope → ModuleField → List ℕ
body_counts_in c x = local_counts_in c x ++ open_counts (in_field x)

-- the sizes in all fields
abbrev pub body_counts : List ModuleField → List ℕ
body_counts fields = flat_map (body_counts_in (module_scope fields)) fields

-- One of the numbers is 2^32 or more.
abbrev pub HasMany : List ℕ → Type 0
HasMany ns = (n : ℕ) × (Contains ns n × (2 ^ 32 ≤ n))

-- There are 2^32 items or more in an index space, or as many fields in a struct.
abbrev pub HasManyItems : List ModuleField → Type 0
HasManyItems fields = HasMany (item_counts (items fields))

-- The same; or, if no two items have the same id, as many locals in a function or enclosing blocks.
abbrev pub IsCrowded : List ModuleField → Type 0
IsCrowded fields = HasManyItems fields ⊎ ((first_unmet (item_demands (items fields)) ≡ None) × HasMany (body_counts fields))

-- The errors of numbering: the first check that fails, at its position; E12; or E10 if a size is 2^32 or more.
abbrev pub IsUnnumbered : List ModuleField → Error → Type 0
IsUnnumbered fields e = Answers ⊤ (IsCrowded fields) (diagnostic_of e) (first_unmet (name_demands fields))

-- The condition for E10: a size is 2^32 or more after expansion, the counter would overflow a `u64`, or the inline data
-- of a memory has 2^32 bytes or more.
abbrev pub IsTooLarge : ℕ → List ModuleField → Type 0
IsTooLarge n fields = IsCrowded (explicit_fields fields) ⊎ ((2 ^ 64 ≤ n + generated_id_count fields) ⊎ IsTrue (list_any has_oversized_data fields))

-- The errors of resolving from a counter: the first check that fails on the expanded fields without generated ids; E12;
-- or E10 if something is too large.
abbrev pub IsUnresolved : ℕ → List ModuleField → Error → Type 0
IsUnresolved n fields e = Answers ⊤ (IsTooLarge n fields) (diagnostic_of e) (first_unmet (demands (explicit_fields fields)))
