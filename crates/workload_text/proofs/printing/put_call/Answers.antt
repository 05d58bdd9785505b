use Rattle.std.proofs.Common.{◌∷◌, ◌++◌, ap, ◌∙◌}
use Rattle.std.specs.Prelude.{slice_get}
use Rattle.std.specs.Option.{option_to_list}
use Rattle.workload.specs.KeywordWords.{verb_word}
use Rattle.workload.specs.CallWords.{operands_of}
use Rattle.workload.specs.Canonical.{name_of, second_name}
use Rattle.workload_text.proofs.PrintLemmas.{call_closed}
use Rattle.workload_text.proofs.printing.put_call.Goals as goal

pub returns : goal.returns
returns c =
    let call = c.args.call.now in
    let objects = c.args.objects.now in
    let start = c.args.text.now.items in
    c.in_ok-push.ensures.items
    ∙ call_closed start _ _ _ _ (name_of (slice_get objects call.object) ∷ option_to_list (second_name objects call.operation)) (operands_of call.operation)
    (c.in_ok-put_keyword.ensures ∙ ap (λ v. start ++ verb_word v) c.verb.ensures) c.in_ok-put_names.ensures c.in_ok-put_operands.ensures
