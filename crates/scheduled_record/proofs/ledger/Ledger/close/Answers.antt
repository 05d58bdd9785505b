use Rattle.std.proofs.Common.{not, map, length, sym, ap, ◌∙◌}
use Rattle.std.proofs.lemmas.List.{length-map}
use Rattle.std.proofs.lemmas.List.FromFn.{length-map-range_with_len}
use Rattle.scheduled_record.specs.Ledgers.{waits_in}
use Rattle.scheduled_record.proofs.Adding.{closing_adds}
use Rattle.scheduled_record.proofs.ledger.Ledger.close.Goals as goal

pub add_all_on_starts-requires-clause-among : goal.add_all_on_starts-requires-clause-among
add_all_on_starts-requires-clause-among c =
    ap length c.deref-then-has_dormant.ensures.value ∙ (ap length c.in_ok-ended.ensures ∙ (length-map c.deref.result.now not
    ∙ (ap length c.deref.ensures.value ∙ (ap length c.in_ok-waits.ensures ∙ length-map-range_with_len (waits_in c.args.self.now) 0 c.args.workload.now.workers))))

pub add_all_on_starts-requires-then-has_dormant-clause-among : goal.add_all_on_starts-requires-then-has_dormant-clause-among
add_all_on_starts-requires-then-has_dormant-clause-among c =
    ap length c.deref-then-has_dormant-2.ensures.value ∙ (ap length c.in_ok-waits.ensures ∙ length-map-range_with_len (waits_in c.args.self.now) 0 c.args.workload.now.workers)

pub returns-in_ok-add_all_on_starts-2 : goal.returns-in_ok-add_all_on_starts-2
returns-in_ok-add_all_on_starts-2 c =
    closing_adds c.args.workload.now c.args.self.now c.add_all_on_starts.new.self c.add_all_on_starts-then-has_dormant.new.self c.deref-then-has_dormant-2.result.now c.deref-then-has_dormant.result.now
    (c.deref-then-has_dormant-2.ensures.value ∙ c.in_ok-waits.ensures)
    (c.deref-then-has_dormant.ensures.value ∙ (c.in_ok-ended.ensures ∙ ap (map not) (c.deref.ensures.value ∙ sym c.deref-then-has_dormant-2.ensures.value)))
    (sym c.has_dormant.ensures ∙ c.if-has_dormant.true) c.in_ok-add_all_on_starts.ensures c.in_ok-add_all_on_starts-2.ensures
