-- The effect of a walk over a part of the tree.
--
-- For example, a walk over `call $f` returns `call 0` if $f is function 0, and else fails with E4 at $f.
use Rattle.std.specs.Prelude.{⊤, ◌≡◌, Bool, true, false, List, None, Result, Ok, Err}
use Rattle.wast_base.specs.declared.faults.Error.{Error}
use Rattle.wast_base.specs.Faults.{diagnostic_of}
use Rattle.wast_tree_nodes.specs.Sites.{Check, Site}
use Rattle.wast_tree_map.specs.Mapped.{Change}
use Rattle.wast_resolve_rules.specs.Demands.{Demand, first_unmet, ask_demands, site_demands, open_counts, HasMany, Answers}
use Rattle.wast_base.specs.Blocks.{Blocks}
use Rattle.wast_tree_nodes.specs.Sites.{in_cast}
use Rattle.wast_tree_map.specs.Mapped.{mapped_ref}
use Rattle.wast_resolve_names.specs.Tree.{Index, RefType}
use Rattle.wast_resolve_rules.specs.Resolved.{numbering_change}
use Rattle.wast_resolve_names.specs.Resolvers.{Resolution, known_of, scope_of}

-- Each check passes and the part is the expected one; or the walk fails. Its error is that of the first check that
-- fails, or E12 or E10 if their conditions hold.
abbrev pub Walks : {T : Type 0} → (memory many : Type 0) → List Demand → T → T → Result (Unit {0}) Error → Type 0
Walks memory many ds want new (Ok x) = (first_unmet ds ≡ None) × (new ≡ want)
Walks memory many ds want new (Err e) = Answers memory many (diagnostic_of e) (first_unmet ds)

-- for a part with these checks outside of bodies: no E10 and E12
abbrev pub WalksAsks : {T : Type 0} → Resolution → (T → List Check) → (Change → T → T) → T → T → Result (Unit {0}) Error → Type 0
WalksAsks names asked mapped old new result = Walks ⊥ ⊥ (ask_demands (known_of names) (asked old)) (mapped (numbering_change (scope_of names)) old) new result

-- for a part with these sites
abbrev pub WalksSites : {T : Type 0} → Resolution → (T → List Site) → (Change → T → T) → T → T → Result (Unit {0}) Error → Type 0
WalksSites names sites mapped old new result = Walks ⊥ ⊥ (site_demands (scope_of names) (sites old)) (mapped (numbering_change (scope_of names)) old) new result

-- for a part with functions: E12, or E10 under a condition, since the ids of their locals are allocated
abbrev pub WalksFunctions : {T : Type 0} → Type 0 → Resolution → (T → List Site) → (Change → T → T) → T → T → Result (Unit {0}) Error → Type 0
WalksFunctions many names sites mapped old new result = Walks ⊤ many (site_demands (scope_of names) (sites old)) (mapped (numbering_change (scope_of names)) old) new result

-- for a part with bodies: E12, or E10 if there are 2^32 enclosing blocks or more
abbrev pub WalksBodies : {T : Type 0} → Resolution → (T → List Site) → (Change → T → T) → T → T → Result (Unit {0}) Error → Type 0
WalksBodies names sites mapped old new result = WalksFunctions (HasMany (open_counts (sites old))) names sites mapped old new result

-- a branch on a cast: its label, the target type and the source type
abbrev pub Cast : Type 0
Cast = Index × (RefType × RefType)

abbrev pub WalksCast : Resolution → Blocks → (old new : Cast) → Result (Unit {0}) Error → Type 0
WalksCast names blocks old new result =
    let f = numbering_change (scope_of names) in
    Walks ⊥ ⊥ (site_demands (scope_of names) (in_cast blocks old.0 old.1.0 old.1.1)) (f.label blocks old.0, (mapped_ref f.index old.1.0, mapped_ref f.index old.1.1)) new result

-- A trial: each check passes and the part is the expected one, or nothing changes.
abbrev pub Tries : {T : Type 0} → List Demand → T → T → T → Bool → Type 0
Tries ds want old new true = (first_unmet ds ≡ None) × (new ≡ want)
Tries ds want old new false = new ≡ old

-- a trial over a part with these sites
abbrev pub TriesSites : {T : Type 0} → Resolution → (T → List Site) → (Change → T → T) → T → T → Bool → Type 0
TriesSites names sites mapped old new done = Tries (site_demands (scope_of names) (sites old)) (mapped (numbering_change (scope_of names)) old) old new done
