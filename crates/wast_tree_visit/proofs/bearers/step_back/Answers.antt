use Rattle.std.proofs.Common.{◌≡◌, ◌+◌, ◌-◌, ap, ◌∙◌, arith}
use Rattle.std.specs.List.{list_any}
use Rattle.wast_base.specs.Ids.{name_of}
use Rattle.wast_tree_visit.specs.Private.IdOwners.{bears, items_before, steps_back}
use Rattle.wast_tree_visit.proofs.Places.{stepped_back, stepped_over, field_before, nearer_back}
use Rattle.wast_tree_visit.proofs.bearers.step_back.Goals as goal

pub returns-then-place-gt0-clause-borne : goal.returns-then-place-gt0-clause-borne
returns-then-place-gt0-clause-borne g c =
    let p = bears c.args.space (name_of c.args.id.now) in
    let f = c.args.place.field in
    let e : c.args.place.item ≡ c.args.place.item - 1 + 1 = omega (arith, c.if-place-gt0.true) in
    ap (λ i. list_any p (items_before g.T.HasItems.items c.args.fields.now (record { field = f; item = i }))) e
    ∙ stepped_back g.T.HasItems.items c.args.fields.now p f (c.args.place.item - 1) c.look_at.result.found c.look_at.ensures.found

pub returns-then-look-le1-clause-borne : goal.returns-then-look-le1-clause-borne
returns-then-look-le1-clause-borne g c =
    let p = bears c.args.space (name_of c.args.id.now) in
    let e : c.args.place.field ≡ c.args.place.field - 1 + 1 = omega (arith, c.if-place-eq0.false) in
    let o : c.args.place.item ≡ 0 = omega (arith, c.if-place-gt0.false) in
    ap (λ f. list_any p (items_before g.T.HasItems.items c.args.fields.now (record { field = f; item = c.args.place.item }))) e
    ∙ (ap (λ i. list_any p (items_before g.T.HasItems.items c.args.fields.now (record { field = c.args.place.field - 1 + 1; item = i }))) o
    ∙ stepped_over g.T.HasItems.items c.args.fields.now p (c.args.place.field - 1) c.look_at-look.result.found
    (omega (arith, c.if-look-le1.true, c.look_at-look.ensures.items)) c.look_at-look.ensures.found)

pub returns-then-look-le1-clause-nearer : goal.returns-then-look-le1-clause-nearer
returns-then-look-le1-clause-nearer g c =
    let e : c.args.place.field ≡ c.args.place.field - 1 + 1 = omega (arith, c.if-place-eq0.false) in
    let o : c.args.place.item ≡ 0 = omega (arith, c.if-place-gt0.false) in
    let h = nearer_back g.T.HasItems.items c.args.fields.now (c.args.place.field - 1) 0 (omega arith) in
    let k = ap (λ f. steps_back g.T.HasItems.items c.args.fields.now (record { field = f; item = 0 })) e in
    let m = ap (λ i. steps_back g.T.HasItems.items c.args.fields.now (record { field = c.args.place.field; item = i })) o in
    omega (arith, h, k, m)

pub returns-clause-borne : goal.returns-clause-borne
returns-clause-borne g c =
    let p = bears c.args.space (name_of c.args.id.now) in
    let e : c.args.place.field ≡ c.args.place.field - 1 + 1 = omega (arith, c.if-place-eq0.false) in
    let o : c.args.place.item ≡ 0 = omega (arith, c.if-place-gt0.false) in
    ap (λ f. list_any p (items_before g.T.HasItems.items c.args.fields.now (record { field = f; item = c.args.place.item }))) e
    ∙ (ap (λ i. list_any p (items_before g.T.HasItems.items c.args.fields.now (record { field = c.args.place.field - 1 + 1; item = i }))) o
    ∙ ap (list_any p) (field_before g.T.HasItems.items c.args.fields.now (c.args.place.field - 1) c.look_at-look.result.items
    (omega (arith, c.look_at-look.ensures.items))))

pub returns-clause-nearer : goal.returns-clause-nearer
returns-clause-nearer g c =
    let e : c.args.place.field ≡ c.args.place.field - 1 + 1 = omega (arith, c.if-place-eq0.false) in
    let o : c.args.place.item ≡ 0 = omega (arith, c.if-place-gt0.false) in
    let h = nearer_back g.T.HasItems.items c.args.fields.now (c.args.place.field - 1) c.look_at-look.result.items
    (omega (arith, c.look_at-look.ensures.items)) in
    let k = ap (λ f. steps_back g.T.HasItems.items c.args.fields.now (record { field = f; item = 0 })) e in
    let m = ap (λ i. steps_back g.T.HasItems.items c.args.fields.now (record { field = c.args.place.field; item = i })) o in
    omega (arith, h, k, m)
