use Rattle.std.proofs.Common.{Ok, Err, rules}
use Rattle.std.proofs.lemmas.Result.{err_from_is_err_and}
use Rattle.wast_resolve_names.specs.Resolvers.{known_of}
use Rattle.wast_resolve_core_types.proofs.PartsOfTypes.{signature_part}
use Rattle.wast_resolve_names.proofs.CallingNames.{calls_walk, calls_kept, needs_of_resolver}
use Rattle.wast_resolve_names.proofs.matches.FunctionTypeTypeReference.resolve.Goals as goal

pub resolve_type_func-requires : goal.resolve_type_func-requires
resolve_type_func-requires c = let needs = needs_of_resolver signature_part c.args.cx c.args.self.now c.requires in search rules

pub returns-in_err-resolve_type_func-clause-refusal : goal.returns-in_err-resolve_type_func-clause-refusal
returns-in_err-resolve_type_func-clause-refusal c =
    let called = c.in_err-resolve_type_func.ensures in
    let p = err_from_is_err_and c.from_residual.result c.from_residual.ensures.1 in
    rw (p.1, p.2) (calls_walk (λ names. known_of names.now) (Err _) signature_part called.calls called.rest)

pub returns-in_err-resolve_type_func-clause-calls : goal.returns-in_err-resolve_type_func-clause-calls
returns-in_err-resolve_type_func-clause-calls c =
    let p = err_from_is_err_and c.from_residual.result c.from_residual.ensures.1 in
    rw (p.1, p.2) (calls_kept (λ names. known_of names.now) c.in_err-resolve_type_func.ensures.calls)

pub returns-clause-met : goal.returns-clause-met
returns-clause-met c =
    let called = c.in_ok-resolve_type_func.ensures in
    (calls_walk (λ names. known_of names.now) (Ok _) signature_part called.calls called.rest).0

pub returns-clause-becomes : goal.returns-clause-becomes
returns-clause-becomes c =
    let called = c.in_ok-resolve_type_func.ensures in
    (calls_walk (λ names. known_of names.now) (Ok _) signature_part called.calls called.rest).1

pub returns-clause-calls : goal.returns-clause-calls
returns-clause-calls c = calls_kept (λ names. known_of names.now) c.in_ok-resolve_type_func.ensures.calls
