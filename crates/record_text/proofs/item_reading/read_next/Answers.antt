use Rattle.std.proofs.Common.{◌∷◌, ◌∙◌, [], ap, codes}
use Rattle.record_text.specs.Cuts.{parts_in}
use Rattle.record_text.proofs.SaidLemmas.{along, no_words, no_two, next_reach, next_last, next_shown, next_said}
use Rattle.record_text.proofs.item_reading.read_next.Goals as goal

pub returns-in_err-word : goal.returns-in_err-word
returns-in_err-word c =
    rw c.from_residual.ensures (along c.args.workload.now (codes "next") [] (parts_in 32 c.args.rest) (no_words c.args.workload.now (codes "next")) c.in_err-word.ensures)

pub returns-in_err-reach : goal.returns-in_err-reach
returns-in_err-reach c =
    rw c.from_residual-in_err-reach.ensures (along c.args.workload.now (codes "next") _ (parts_in 32 c.args.rest) (next_reach c.args.workload.now c.in_ok-word.word.now (parts_in 32 c.in_ok-word.rest) c.in_err-reach.ensures) c.in_ok-word.ensures)

pub returns-in_err-front : goal.returns-in_err-front
returns-in_err-front c =
    rw c.from_residual-in_err-front.ensures (along c.args.workload.now (codes "next") _ (parts_in 32 c.args.rest) (no_two c.args.workload.now (codes "next") c.in_ok-word.word.now) (c.in_ok-word.ensures ∙ ap (λ ws. c.in_ok-word.word.now ∷ ws) c.in_err-front.ensures))

pub returns-in_err-last : goal.returns-in_err-last
returns-in_err-last c =
    rw c.from_residual-in_err-last.ensures (along c.args.workload.now (codes "next") _ (parts_in 32 c.args.rest) (next_last c.args.workload.now c.in_ok-word.word.now c.in_ok-front.front.now (parts_in 32 c.in_ok-front.rest) c.in_err-last.ensures) (c.in_ok-word.ensures ∙ ap (λ ws. c.in_ok-word.word.now ∷ ws) c.in_ok-front.ensures))

pub returns-in_err-shown : goal.returns-in_err-shown
returns-in_err-shown c =
    rw c.from_residual-in_err-shown.ensures (along c.args.workload.now (codes "next") _ (parts_in 32 c.args.rest) (next_shown c.args.workload.now c.in_ok-word.word.now c.in_ok-front.front.now c.in_ok-last.last.now c.in_err-shown.ensures) (c.in_ok-word.ensures ∙ ap (λ ws. c.in_ok-word.word.now ∷ ws) (c.in_ok-front.ensures ∙ ap (λ ws. c.in_ok-front.front.now ∷ ws) c.in_ok-last.ensures)))

pub returns : goal.returns
returns c =
    next_said c.args.workload.now (parts_in 32 c.args.rest) (parts_in 32 c.in_ok-word.rest) (parts_in 32 c.in_ok-front.rest) c.in_ok-word.word.now c.in_ok-front.front.now c.in_ok-last.last.now c.in_ok-reach.reach c.in_ok-shown.shown c.in_ok-word.ensures c.in_ok-reach.ensures.0 c.in_ok-reach.ensures.1 c.in_ok-front.ensures c.in_ok-last.ensures c.in_ok-shown.ensures.0 c.in_ok-shown.ensures.1
