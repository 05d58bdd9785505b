use Rattle.run_record.specs.Objects.{contents_of}
use Rattle.run_record.proofs.Limits.{adds_int64}
use Rattle.run_record.proofs.laws.limits.an_int64_answers_an_int64.Goals as goal

pub returns : goal.returns
returns c plan history calls caller i a amount x lawful all at is =
    let start = contents_of plan in
    let types = c.calls_keep_the_type.ensures in
    adds_int64 plan types.start types.after history calls lawful all
    (λ n entry place. c.each_entry_is_a_call.ensures.call start history calls n entry lawful place)
    caller i a amount x at is
