use Rattle.std.proofs.Common.{sym, ap, ◌∙◌, arith}
use Rattle.wast_valid_machine.proofs.Matches.{one_matches, one_differs, all_matched, lengths_differ}
use Rattle.wast_valid_machine.proofs.tables.do_all_match.Goals as goal

pub returns-then-found-expected : goal.returns-then-found-expected
returns-then-found-expected c = sym (lengths_differ c.args.types.now c.args.found.now c.args.expected.now c.if-found-expected.true)

pub returns-then-not-does_match : goal.returns-then-not-does_match
returns-then-not-does_match c = sym (c.loop-i.invariant.1 ∙ one_differs c.args.types.now c.args.found.now c.args.expected.now c.loop-i.i c.type_at.result c.type_at-in-loop-i.result c.loop-i-test.true c.loop-i.invariant.0 c.type_at.ensures c.type_at-in-loop-i.ensures (sym c.does_match.ensures ∙ c.if-not-does_match.true))

pub loop-i-preserved : goal.loop-i-preserved
loop-i-preserved c = (
  c.loop-i.invariant.0,
  c.loop-i.invariant.1 ∙ one_matches c.args.types.now c.args.found.now c.args.expected.now c.loop-i.i c.type_at.result c.type_at-in-loop-i.result c.loop-i-test.true c.loop-i.invariant.0 c.type_at.ensures c.type_at-in-loop-i.ensures (sym c.does_match.ensures ∙ c.if-not-does_match.false),
)

pub returns : goal.returns
returns c = sym (c.loop-i.invariant.1 ∙ all_matched c.args.types.now c.args.found.now c.args.expected.now c.loop-i.i c.loop-i.invariant.0 c.loop-i-test.false)
