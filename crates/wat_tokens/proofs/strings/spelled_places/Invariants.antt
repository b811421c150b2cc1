-- The loop of `spelled_places`: the places of all elements are those so far, and those of the elements that are left.
use Rattle.std.proofs.Common.{◌≡◌, ◌+◌, ◌-◌, ◌^◌, ◌<◌, ◌++◌, length}
use Rattle.wat_tokens.specs.Strings.{spelled}
use Rattle.wat_tokens.proofs.strings.spelled_places.Given as goal

abbrev pub invariant-loop : goal.invariant-loop
invariant-loop l = record {
  all : spelled l.fn.count l.fn.at l.fn.text ≡ l.places.items ++ spelled (l.fn.count - l.counter) l.place l.rest;
  fits : l.place + length l.rest < 2 ^ 64;
}
