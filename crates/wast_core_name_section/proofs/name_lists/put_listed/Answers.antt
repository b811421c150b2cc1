use Rattle.wast_core_name_section.proofs.name_lists.put_listed.Goals as goal

pub returns-in-Locals-clause-names : goal.returns-in-Locals-clause-names
returns-in-Locals-clause-names g c = rw c.in-Locals.is c.put_both.ensures.names
