use Rattle.std.proofs.Common.{[], codes}
use Rattle.record_text.specs.Cuts.{parts_in}
use Rattle.record_text.proofs.SaidLemmas.{along, no_words, begin_reach, begin_front, begin_said}
use Rattle.record_text.proofs.item_reading.read_begin.Goals as goal

pub returns-in_err-word : goal.returns-in_err-word
returns-in_err-word c =
    rw c.from_residual.ensures (along c.args.workload.now (codes "begin") [] (parts_in 32 c.args.rest) (no_words c.args.workload.now (codes "begin")) c.in_err-word.ensures)

pub returns-in_err-reach : goal.returns-in_err-reach
returns-in_err-reach c =
    rw c.from_residual-in_err-reach.ensures (along c.args.workload.now (codes "begin") _ (parts_in 32 c.args.rest) (begin_reach c.args.workload.now c.in_ok-word.word.now (parts_in 32 c.in_ok-word.rest) c.in_err-reach.ensures) c.in_ok-word.ensures)

pub returns-in_err-front : goal.returns-in_err-front
returns-in_err-front c =
    rw c.from_residual-in_err-front.ensures (along c.args.workload.now (codes "begin") _ (parts_in 32 c.args.rest) (begin_front c.args.workload.now c.in_ok-word.word.now (parts_in 32 c.in_ok-word.rest) c.in_err-front.ensures) c.in_ok-word.ensures)

pub returns : goal.returns
returns c =
    begin_said c.args.workload.now (parts_in 32 c.args.rest) (parts_in 32 c.in_ok-word.rest) c.in_ok-word.word.now c.in_ok-front.front.now c.in_ok-reach.reach c.in_ok-word.ensures c.in_ok-reach.ensures.0 c.in_ok-reach.ensures.1 c.in_ok-front.ensures
