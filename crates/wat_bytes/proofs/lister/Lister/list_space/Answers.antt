use Rattle.wat_bytes.proofs.Listing.{lists_told}
use Rattle.wat_bytes.proofs.lister.Lister.list_space.Goals as goal

pub returns : goal.returns
returns c = (lists_told c.visit_items.ensures).listed c.if-self.false
