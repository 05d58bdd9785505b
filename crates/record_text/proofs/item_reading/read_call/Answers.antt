use Rattle.std.proofs.Common.{◌∷◌, ◌∙◌, [], ap, codes}
use Rattle.record_text.specs.Cuts.{parts_in}
use Rattle.record_text.proofs.SaidLemmas.{along, no_words, no_two, call_place, call_reply, call_said}
use Rattle.record_text.proofs.item_reading.read_call.Goals as goal

pub returns-in_err-word : goal.returns-in_err-word
returns-in_err-word c =
    rw c.from_residual.ensures (along c.args.workload.now (codes "call") [] (parts_in 32 c.args.rest) (no_words c.args.workload.now (codes "call")) c.in_err-word.ensures)

pub returns-in_err-place : goal.returns-in_err-place
returns-in_err-place c =
    rw c.from_residual-in_err-place.ensures (along c.args.workload.now (codes "call") _ (parts_in 32 c.args.rest) (call_place c.args.workload.now c.in_ok-word.word.now (parts_in 32 c.in_ok-word.rest) c.in_err-place.ensures) c.in_ok-word.ensures)

pub returns-in_err-front : goal.returns-in_err-front
returns-in_err-front c =
    rw c.from_residual-in_err-front.ensures (along c.args.workload.now (codes "call") _ (parts_in 32 c.args.rest) (no_two c.args.workload.now (codes "call") c.in_ok-word.word.now) (c.in_ok-word.ensures ∙ ap (λ ws. c.in_ok-word.word.now ∷ ws) c.in_err-front.ensures))

pub returns-in_err-reply : goal.returns-in_err-reply
returns-in_err-reply c =
    rw c.from_residual-in_err-reply.ensures (along c.args.workload.now (codes "call") _ (parts_in 32 c.args.rest) (call_reply c.args.workload.now c.in_ok-word.word.now c.in_ok-front.front.now (parts_in 32 c.in_ok-front.rest) c.in_err-reply.ensures) (c.in_ok-word.ensures ∙ ap (λ ws. c.in_ok-word.word.now ∷ ws) c.in_ok-front.ensures))

pub returns : goal.returns
returns c =
    call_said c.args.workload.now (parts_in 32 c.args.rest) (parts_in 32 c.in_ok-word.rest) (parts_in 32 c.in_ok-front.rest) c.in_ok-word.word.now c.in_ok-front.front.now c.in_ok-place.place c.in_ok-reply.reply c.in_ok-word.ensures c.in_ok-place.ensures.0 c.in_ok-place.ensures.1 c.in_ok-front.ensures c.in_ok-reply.ensures.0 c.in_ok-reply.ensures.1
