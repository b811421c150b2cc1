use Rattle.std.proofs.Common.{refl, sym, rules, arith}
use Rattle.wast_base.specs.Ids.{mark_of_option}
use Rattle.wat_bytes.specs.Names.{source_mark}
use Rattle.wat_bytes.proofs.Listing.{adds_none, adds_entry}
use Rattle.wat_bytes.proofs.lister.Lister.try_add.Goals as goal

pub returns-in_default-source_id-clause-listed : goal.returns-in_default-source_id-clause-listed
returns-in_default-source_id-clause-listed c =
    adds_none c.args.self.now _ (source_mark (mark_of_option c.args.id.now)) (search rules) refl refl (omega arith) refl

pub returns-clause-listed : goal.returns-clause-listed
returns-clause-listed c =
    adds_entry c.args.self.now _ (source_mark (mark_of_option c.args.id.now)) _ (sym c.in-Some-source_id.ensures) refl refl refl refl
    (omega arith) c.in_ok-push.ensures.items
