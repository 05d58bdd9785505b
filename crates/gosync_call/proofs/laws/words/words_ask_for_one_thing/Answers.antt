use Rattle.std.proofs.Common.{◌≡◌, ◌∙◌, Some, sym, ap}
use Rattle.gosync_call.proofs.AskedWords.{no_file_refused, no_refusal_to_check, no_run_to_check, no_seed_refused, no_seed_to_check, not_both, same_record, same_seed}
use Rattle.gosync_call.proofs.Fronts.{asking}
use Rattle.gosync_call.proofs.Runs.{file_at, mode_in}
use Rattle.gosync_call.proofs.laws.words.words_ask_for_one_thing.Goals as goal

pub returns-clause-some : goal.returns-clause-some
returns-clause-some c words = asking words

pub returns-clause-one_file : goal.returns-clause-one_file
returns-clause-one_file c words mode other file name asks also =
    let same : Some (mode, file) ≡ Some (other, name) = sym asks ∙ also in
    (ap mode_in same, ap file_at same)

pub returns-clause-one_seed : goal.returns-clause-one_seed
returns-clause-one_seed c words seed other asks also = same_seed words seed other asks also

pub returns-clause-no_seed : goal.returns-clause-no_seed
returns-clause-no_seed c words mode file seed asks make = not_both words seed mode file make asks

pub returns-clause-nothing : goal.returns-clause-nothing
returns-clause-nothing c words refused = (λ mode file asks. no_file_refused words mode file refused asks, λ file asks. no_refusal_to_check words file refused asks, λ seed asks. no_seed_refused words seed refused asks)

pub returns-clause-one_record : goal.returns-clause-one_record
returns-clause-one_record c words file name asks also = same_record words file name asks also

pub returns-clause-no_record : goal.returns-clause-no_record
returns-clause-no_record c words name asks = (λ mode file also. no_run_to_check words mode file name also asks, λ seed also. no_seed_to_check words seed name also asks)
