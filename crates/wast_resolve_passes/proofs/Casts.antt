-- Branches on a cast: a walk over the label and the two types, for the instruction that is built of them. The walk needs no
-- memory, and the contract of an instruction permits errors E10 and E12 too.
use Rattle.std.specs.Prelude.{⊤}
use Rattle.std.proofs.Common.{◌≡◌, List, ◌++◌, Result, OnOk, false, refl}
use Rattle.wast_base.specs.Blocks.{Blocks}
use Rattle.wast_base.specs.declared.faults.Error.{Error}
use Rattle.wast_tree_map.specs.Mapped.{mapped_ref}
use Rattle.wast_tree_nodes.specs.Sites.{Site, Locals, Covered, after_all, check_sites, uncovered_check, in_cast}
use Rattle.wast_resolve_rules.specs.Demands.{HasMany, open_counts, site_demands}
use Rattle.wast_resolve_rules.specs.Resolved.{numbering_change}
use Rattle.wast_resolve_names.specs.Resolvers.{Resolution, scope_of}
use Rattle.wast_resolve_names.specs.Walking.{Cast, Walks, WalksCast}
use Rattle.wast_resolve_passes.specs.Standing.{context_of}
use Rattle.wast_resolve_passes.specs.Tree.{Index, RefType, Instruction}
use Rattle.wast_resolve_passes.specs.Tree.form
use Rattle.wast_resolve_rules.proofs.Unmoved.{behind_stays, cast_stays}
use Rattle.wast_resolve_names.proofs.Parts.{walks_made_in, walks_before}
use Rattle.wast_resolve_passes.proofs.Moving.{still_moves}

module _ (names : Resolution) (blocks : Blocks) (old new : Cast) (make : Cast → Instruction) (result : Result (Unit {0}) Error) where
  abbrev sites : List Site
  sites = in_cast blocks old.0 old.1.0 old.1.1

  abbrev uncovered_sites : List Site
  uncovered_sites = sites ++ check_sites (uncovered_check form.Descriptor)

  abbrev want : Cast
  want = let f = numbering_change (scope_of names) in (f.label blocks old.0, (mapped_ref f.index old.1.0, mapped_ref f.index old.1.1))

  pub cast_walked : WalksCast names blocks old new result
      → Walks ⊤ (HasMany (open_counts sites)) (site_demands (scope_of names) sites) (make want) (make new) result
  cast_walked walked = walks_made_in ⊤ (HasMany (open_counts sites)) make (site_demands (scope_of names) sites) want new result walked

  -- the same with the check of an unsupported form after it, which always passes
  pub uncovered_cast_walked : WalksCast names blocks old new result
      → Walks ⊤ (HasMany (open_counts uncovered_sites)) (site_demands (scope_of names) uncovered_sites) (make want) (make new) result
  uncovered_cast_walked walked =
      walks_before ⊤ (HasMany (open_counts uncovered_sites)) (scope_of names) sites (Covered form.Descriptor false) refl make want new result walked

-- The enclosing blocks do not change.
module _ {T : Type 0} (blocks : Blocks) (l : Locals) (label : Index) (to from : RefType) (result : Result T Error) where
  pub cast_moves : OnOk result (blocks ≡ (after_all (context_of l blocks) (in_cast blocks label to from)).blocks)
  cast_moves = still_moves blocks l (in_cast blocks label to from) result (cast_stays (context_of l blocks) blocks label to from)

  pub uncovered_cast_moves : OnOk result
      (blocks ≡ (after_all (context_of l blocks) (in_cast blocks label to from ++ check_sites (uncovered_check form.Descriptor))).blocks)
  uncovered_cast_moves =
      still_moves blocks l (in_cast blocks label to from ++ check_sites (uncovered_check form.Descriptor)) result
      (behind_stays (context_of l blocks) (in_cast blocks label to from) (uncovered_check form.Descriptor)
      (cast_stays (context_of l blocks) blocks label to from))
