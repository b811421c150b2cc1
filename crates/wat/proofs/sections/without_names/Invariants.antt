-- What the loop of `without_names` keeps: what was kept, and what will be of the bytes that are left.
use Rattle.std.proofs.Common.{◌≡◌, ◌≤◌, ◌++◌, ◌-◌}
use Rattle.wat.specs.Sections.{kept, without_names}
use Rattle.wat.proofs.sections.without_names.Given as goal

abbrev pub invariant-loop : goal.invariant-loop
invariant-loop l = (l.counter ≤ l.end) × (l.kept.items ++ kept (l.end - l.counter) l.rest ≡ without_names l.fn.bytes)
