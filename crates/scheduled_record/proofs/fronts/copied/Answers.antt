use Rattle.std.proofs.Common.{ℕ, List, ◌++◌, ap, ◌∙◌, arith}
use Rattle.std.specs.List.{list_all}
use Rattle.record_text.specs.Numbers.{has_64_bits}
use Rattle.scheduled_record.proofs.NumbersFit.{all_fit}
use Rattle.scheduled_record.proofs.fronts.copied.Goals as goal

pub returns-clause-fits : goal.returns-clause-fits
returns-clause-fits c =
    let front = c.args.front.now in
    ap (list_all has_64_bits) c.in_ok-extend_from_slice.ensures.ok ∙ (ap (λ (l : List ℕ). list_all has_64_bits (l ++ front)) c.new-copy.ensures ∙ all_fit front (λ i. omega (arith, c.type_inv.front i)))
