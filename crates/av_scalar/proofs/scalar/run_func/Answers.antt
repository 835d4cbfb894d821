use Rattle.std.proofs.Common.{ap, sym, ◌∙◌, refl, subst}
use Rattle.std.proofs.lemmas.Result.{err_from_is_err_and}
use Rattle.av_ir.specs.Run.{types_at}
use Rattle.av_ir.specs.ScalarRun.{argument_values, memref_types}
use Rattle.av_scalar.specs.Names.{env_of}
use Rattle.av_scalar.specs.Stores.{AreSmall, sizes_of}
use Rattle.av_scalar.proofs.Starts.{all_standing, func_ends, func_stops, small_at_first}
use Rattle.av_scalar.proofs.scalar.run_func.Goals as goal

pub run_region-requires-clause-small : goal.run_region-requires-clause-small
run_region-requires-clause-small c =
    subst AreSmall (sym c.into_vec.ensures) (small_at_first c.args.f.now c.args.args c.in_ok-bound.bound c.requires.fits c.in_ok-bound.ensures)

pub ended-requires : goal.ended-requires
ended-requires c =
    all_standing c.args.args c.in_ok-bound.bound c.from_vec.result c.in_ok-bound.ensures (ap sizes_of c.from_vec.ensures ∙ c.in_ok-results.ensures.sizes ∙ ap sizes_of c.into_vec.ensures)

pub returns-in_err-results : goal.returns-in_err-results
returns-in_err-results c =
    let p = err_from_is_err_and c.from_residual-in_err-results.result c.from_residual-in_err-results.ensures.1 in
    rw (p.1, p.2)
    (func_stops c.args.f.now c.args.args c.as_slice-types.result.now c.in_ok-kinds.kinds (env_of c.in_ok-names.names) c.in_ok-words.words c.as_slice-3.result.now c.in_ok-bound.bound c.into_vec.result.items
    c.as_slice-types.ensures
    (c.in_ok-kinds.ensures ∙ ap (λ ts. memref_types (types_at ts c.as_slice-2.result.now)) c.as_slice-types.ensures ∙ ap (λ ids. memref_types (types_at c.args.f.now.values ids)) c.as_slice-2.ensures)
    c.in_ok-names.ensures.env (c.in_ok-words.ensures ∙ ap (argument_values 0) c.as_slice.ensures) c.as_slice-3.ensures c.in_ok-bound.ensures c.into_vec.ensures c.args.steps
    c.in_err-results.field-0.0 c.in_err-results.ensures.meets)

pub returns : goal.returns
returns c =
    func_ends c.args.f.now c.args.args c.as_slice-types.result.now c.in_ok-kinds.kinds (env_of c.in_ok-names.names) c.in_ok-words.words c.as_slice-3.result.now c.in_ok-bound.bound c.into_vec.result.items
    c.as_slice-types.ensures
    (c.in_ok-kinds.ensures ∙ ap (λ ts. memref_types (types_at ts c.as_slice-2.result.now)) c.as_slice-types.ensures ∙ ap (λ ids. memref_types (types_at c.args.f.now.values ids)) c.as_slice-2.ensures)
    c.in_ok-names.ensures.env (c.in_ok-words.ensures ∙ ap (argument_values 0) c.as_slice.ensures) c.as_slice-3.ensures c.in_ok-bound.ensures c.into_vec.ensures c.args.steps
    c.run_region.new.machine.memory.items c.in_ok-results.results c.run_region.new.machine.left c.in_ok-results.ensures.meets
    (record { memory = c.from_vec.result; at = c.in_ok-bound.bound.at; words = c.new-2.result }) c.from_vec.ensures refl c.in_ok-ended.field-0 c.in_ok-ended.ensures
