use Rattle.std.proofs.Common.{◌≡◌, ◌<◌, ap, sym, subst, ◌∙◌, arith}
use Rattle.std.proofs.lemmas.Result.{err_from_is_err_and}
use Rattle.wast_core.specs.declared.module.Module.{Module}
use Rattle.wast_core.specs.Headline.{name_of_module, EncodesKind}
use Rattle.wast_core.specs.Modules.{IsReady, bound_of_kind}
use Rattle.wast_rows.proofs.Started.{held_ready, stays_ready, adds_found, adds_no_room, adds_none, counts_found, counts_no_room}
use Rattle.wast_rows.proofs.Started.{counts_none, found_text, rises, unput}
use Rattle.wast_rows.proofs.starting.add_start.Goals as goal

pub put_start-requires : goal.put_start-requires
put_start-requires c = found_text c.args.gensym.now c.args.module.now.kind c.find_start.new.module.kind c.args.idx c.in_ok-start.start
    c.in_ok-start.ensures.answer

pub encode_module-requires : goal.encode_module-requires
encode_module-requires c =
    let ready = c.requires.ready.above in
    let above : bound_of_kind c.args.module.now.kind < c.args.gensym.now = omega (arith, ready) in
    stays_ready c.find_start.new.module c.put_start.new.module c.find_start.new.gensym c.in_ok-put_start.ensures.stays
    (held_ready c.at_rest.ensures.well_formed c.at_rest.ensures.below c.args.gensym.now c.args.module.now.kind c.find_start.new.module.kind
    c.put_start.new.module.kind c.args.idx c.in_ok-start.start c.in_ok-put_start.field-0
    c.requires.ready.well_formed above c.in_ok-start.ensures.answer c.in_ok-put_start.ensures.put)
    c.in_ok-start.ensures.ready

pub returns-in_err-start-clause-answer : goal.returns-in_err-start-clause-answer
returns-in_err-start-clause-answer c =
    let p = err_from_is_err_and c.from_residual.result c.from_residual.ensures.1 in
    rw (p.1, p.2)
    (adds_none c.args.gensym.now (name_of_module c.args.module.now) c.args.module.now.kind c.find_start.new.module.kind c.args.idx
    c.in_err-start.field-0.0 c.in_err-start.ensures.answer)

pub returns-in_err-start-clause-counter_grows : goal.returns-in_err-start-clause-counter_grows
returns-in_err-start-clause-counter_grows c =
    rises c.args.module.now.kind c.find_start.new.module.kind c.args.gensym.now c.find_start.new.gensym c.in_err-start.ensures.counter

pub returns-in_err-put_start-clause-answer : goal.returns-in_err-put_start-clause-answer
returns-in_err-put_start-clause-answer c =
    let p = err_from_is_err_and c.from_residual-in_err-put_start.result c.from_residual-in_err-put_start.ensures.1 in
    rw (p.1, p.2)
    (adds_no_room c.args.gensym.now
    (name_of_module c.args.module.now) c.args.module.now.kind c.find_start.new.module.kind c.put_start.new.module.kind c.args.idx
    c.in_ok-start.start c.in_err-put_start.field-0.0 c.in_ok-start.ensures.answer
    c.in_err-put_start.ensures.put)

pub returns-in_err-put_start-clause-counter_grows : goal.returns-in_err-put_start-clause-counter_grows
returns-in_err-put_start-clause-counter_grows c =
    rises c.args.module.now.kind c.find_start.new.module.kind c.args.gensym.now c.find_start.new.gensym c.in_ok-start.ensures.counter

pub returns-in_err-put_start-clause-ready : goal.returns-in_err-put_start-clause-ready
returns-in_err-put_start-clause-ready c =
    let found = c.find_start.new.module in
    let same = unput found.kind c.put_start.new.module.kind c.in_ok-start.start c.in_err-put_start.field-0.0 c.in_err-put_start.ensures.put in
    subst (λ (m : Module). IsReady m c.find_start.new.gensym) (sym (c.in_err-put_start.ensures.stays
    ∙ ap (λ k. record found { kind = k }) same)) c.in_ok-start.ensures.ready

pub returns-clause-answer : goal.returns-clause-answer
returns-clause-answer c =
    let old = c.args.module.now in
    let found = c.find_start.new.module in
    let put = c.put_start.new.module in
    let last = c.encode_module.new.module in
    let m = c.find_start.new.gensym in
    let ready = c.requires.ready.above in
    let above : bound_of_kind old.kind < c.args.gensym.now = omega (arith, ready) in
    let named : name_of_module put ≡ name_of_module old = ap name_of_module (c.in_ok-put_start.ensures.stays
    ∙ ap (λ (x : Module). record x { kind = put.kind }) c.in_ok-start.ensures.stays) in
    adds_found c.at_rest.ensures.withheld c.at_rest.ensures.still c.at_rest.ensures.below c.at_rest.ensures.starts_last
    c.one_meaning.ensures.one_module c.args.gensym.now m (name_of_module old) old.kind found.kind put.kind last.kind c.args.idx
    c.in_ok-start.start c.in_ok-put_start.field-0 above c.requires.settled c.in_ok-start.ensures.answer c.in_ok-start.ensures.counter
    c.in_ok-put_start.ensures.put c.encode_module.result
    (subst (λ name. EncodesKind m name put.kind c.encode_module.result last.kind) named c.encode_module.ensures.answer.kind)

pub returns-clause-counter_grows : goal.returns-clause-counter_grows
returns-clause-counter_grows c =
    let a = rises c.args.module.now.kind c.find_start.new.module.kind c.args.gensym.now c.find_start.new.gensym c.in_ok-start.ensures.counter in
    let b = rises c.put_start.new.module.kind c.encode_module.new.module.kind c.find_start.new.gensym c.encode_module.new.gensym
    c.encode_module.ensures.answer.counter in
    omega (arith, a, b)

pub returns-in_err-start-clause-counter : goal.returns-in_err-start-clause-counter
returns-in_err-start-clause-counter c =
    let p = err_from_is_err_and c.from_residual.result c.from_residual.ensures.1 in
    rw (p.1, p.2)
    (counts_none c.args.gensym.now c.find_start.new.gensym c.args.module.now.kind c.find_start.new.module.kind c.args.idx
    c.in_err-start.field-0.0 c.in_err-start.ensures.answer c.in_err-start.ensures.counter)

pub returns-in_err-put_start-clause-counter : goal.returns-in_err-put_start-clause-counter
returns-in_err-put_start-clause-counter c =
    let p = err_from_is_err_and c.from_residual-in_err-put_start.result c.from_residual-in_err-put_start.ensures.1 in
    rw (p.1, p.2)
    (counts_no_room c.args.gensym.now c.find_start.new.gensym c.args.module.now.kind c.find_start.new.module.kind c.put_start.new.module.kind
    c.args.idx c.in_ok-start.start c.in_err-put_start.field-0.0 c.in_ok-start.ensures.answer
    c.in_ok-start.ensures.counter)

pub returns-clause-counter : goal.returns-clause-counter
returns-clause-counter c =
    let old = c.args.module.now in
    let ready = c.requires.ready.above in
    let above : bound_of_kind old.kind < c.args.gensym.now = omega (arith, ready) in
    counts_found c.at_rest.ensures.fills c.args.gensym.now c.find_start.new.gensym c.encode_module.new.gensym old.kind c.find_start.new.module.kind
    c.put_start.new.module.kind c.encode_module.new.module.kind c.args.idx c.in_ok-start.start
    c.in_ok-put_start.field-0 above c.in_ok-start.ensures.answer c.in_ok-start.ensures.counter c.in_ok-put_start.ensures.put c.encode_module.result
    c.encode_module.ensures.answer.counter
