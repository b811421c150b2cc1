-- The loop of `token_in`: the token is in the groups that are left.
use Rattle.std.proofs.Common.{◌≡◌}
use Rattle.std.specs.VecDeque.Iter.{deque_iter_rest}
use Rattle.wat_text.specs.Readers.{token_in}
use Rattle.wat_text.proofs.reader.token_in.Given as goal

abbrev pub invariant-loop-group : goal.invariant-loop-group
invariant-loop-group l = token_in (deque_iter_rest l.group-iterator) l.rest ≡ token_in l.fn.groups.items l.fn.ahead
