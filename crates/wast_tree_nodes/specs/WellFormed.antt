-- Whether a list of fields is well formed, and which rule it breaks.
--
-- Resolving and encoding require it. A module that is built by hand may break one of six rules. Rules 1 to 5 are clauses of
-- `Sites`. Rule 6 is that a generated id names an item of its index space.
--
--   a load with the alignment 3              rule 1
--   (export "a" (func ID)), ID generated     rule 6, unless a function has the id ID
--   (export "a" (func $f)) without $f        well formed: resolving fails with E4
use Rattle.std.specs.Prelude.{ℕ, min, Bool, true, not, List, [], ◌∷◌, flat_map, Option, Some, None, if◌then◌else◌}
use Rattle.std.specs.List.{list_all}
use Rattle.wast_tree_nodes.specs.Tree.{Index, ModuleField}
use Rattle.wast_tree_nodes.specs.Tree.index
use Rattle.wast_base.specs.Ids.{name_of, is_generated}
use Rattle.wast_base.specs.Spaces.{is_settled_index}
use Rattle.wast_tree_nodes.specs.Items.{items}
use Rattle.wast_tree_nodes.specs.Sites.{Check, ItemIndex, InnerIndex, PlainId, Clause, Covered, checks_of, in_module}
use Rattle.wast_tree_nodes.specs.Known.{IdContext, id_context}

-- whether an index is not a generated id
abbrev pub is_written_index : Index → Bool
is_written_index (index.Num n span) = true
is_written_index (index.Id id) = not (is_generated (name_of id))

-- Whether a check does not break a rule: a generated id names an item, and a local, label or field has no generated id.
abbrev pub is_kept : IdContext → Check → Bool
is_kept k (ItemIndex s i) = is_settled_index (k.number s) i
is_kept k (InnerIndex i) = is_written_index i
is_kept k (PlainId m) = true
is_kept k (Clause n holds) = holds
is_kept k (Covered f holds) = true

-- the same for all of a list
abbrev pub are_kept : IdContext → List Check → Bool
are_kept k asks = list_all (is_kept k) asks

-- whether a list of fields is well formed
abbrev pub is_well_formed : List ModuleField → Bool
is_well_formed fields = are_kept (id_context (items fields)) (checks_of (in_module fields))

-- the number of a rule, unless it holds
abbrev pub unless_holds : ℕ → Bool → List ℕ
unless_holds n holds = if holds then [] else n ∷ []

-- the rule that a check breaks, if any; the rule about generated ids is the sixth
abbrev pub failing_clauses_at : IdContext → Check → List ℕ
failing_clauses_at k (ItemIndex s i) = unless_holds 6 (is_settled_index (k.number s) i)
failing_clauses_at k (InnerIndex i) = unless_holds 6 (is_written_index i)
failing_clauses_at k (PlainId m) = []
failing_clauses_at k (Clause n holds) = unless_holds n holds
failing_clauses_at k (Covered f holds) = []

-- the rules that the fields break, in the order of the checks
abbrev pub failing_clauses : List ModuleField → List ℕ
failing_clauses fields = flat_map (failing_clauses_at (id_context (items fields))) (checks_of (in_module fields))

-- the lesser of two numbers, the first of which is optional
abbrev pub min_with : Option ℕ → ℕ → ℕ
min_with None n = n
min_with (Some m) n = min m n

-- the least of an optional number and a list
abbrev pub least_of : Option ℕ → List ℕ → Option ℕ
least_of o [] = o
least_of o (n ∷ ns) = least_of (Some (min_with o n)) ns

-- the least number of a rule that the fields break
abbrev pub ill_formed : List ModuleField → Option ℕ
ill_formed fields = least_of None (failing_clauses fields)
