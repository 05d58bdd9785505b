use Rattle.std.proofs.Common.{ℕ, ◌<◌, length, take, arith}
use Rattle.std.proofs.lemmas.Option.{slice_get_within}
use Rattle.run_record.specs.Record.{list_of, shared_in, calls_of}
use Rattle.run_record.proofs.ListLemmas.{shared_at, number_at}
use Rattle.run_record.proofs.laws.order.calls_have_their_numbers_among_the_entries.Goals as goal

pub returns : goal.returns
returns c r order worker i x at =
    let n : ℕ = length (shared_in (take i (list_of r worker))) in
    let call = shared_at (list_of r worker) i x at in
    let within = slice_get_within (calls_of r worker) n x call in
    let numbered : n < length (order.times worker) = omega (arith, within, order.history.all worker) in
    order.history.among worker n _ x call (number_at (order.times worker) n numbered)
