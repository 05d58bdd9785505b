use Rattle.std.proofs.Common.{ℕ, length, take, ap, ◌∙◌, Some}
use Rattle.run_record.specs.declared.made.Made.{Made}
use Rattle.run_record.specs.Objects.{contents_of}
use Rattle.run_record.specs.Record.{list_of, shared_in, calls_of}
use Rattle.run_laws.proofs.OneOrder.{leads_on, seen_by, unseen_by, AreOne, AreAmong, AreItems, place_by, placed_by}
use Rattle.run_laws.proofs.order.what_happened_before_is_seen.Goals as goal

pub returns-clause-places : goal.returns-clause-places
returns-clause-places c plan r lawful order e f entry call first second entered = (λ before. placed_by r order among one e f entry call first second entered before, λ before. place_by r order among e f entry call first second entered before) where
  among : AreAmong
  among = c.calls_have_their_numbers_among_the_entries.ensures

  at : AreItems
  at = c.calls_are_items_of_lists.ensures.at

  one : AreOne r order among
  one a b x y is_x is_y entered_x entered_y same = (c.each_entry_is_a_call.ensures.once (contents_of plan) r.history (calls_of r) a.worker b.worker (length (shared_in (take a.place (list_of r a.worker)))) (length (shared_in (take b.place (list_of r b.worker)))) x y
      lawful.shared (at (list_of r a.worker) a.place x (a.at ∙ ap (λ (m : Made). Some m) is_x)) (at (list_of r b.worker) b.place y (b.at ∙ ap (λ (m : Made). Some m) is_y)) entered_x entered_y same).0

pub returns-clause-seen : goal.returns-clause-seen
returns-clause-seen c plan r e f between entry call lawful order leads first second entered =
    let among = c.calls_have_their_numbers_among_the_entries.ensures in
    seen_by r order among e f entry call (leads_on r order among c.calls_are_items_of_lists.ensures.at plan lawful e between f leads) first second entered

pub returns-clause-unseen : goal.returns-clause-unseen
returns-clause-unseen c plan r e f between entry call lawful order leads first second entered =
    let among = c.calls_have_their_numbers_among_the_entries.ensures in
    unseen_by r order among e f entry call (leads_on r order among c.calls_are_items_of_lists.ensures.at plan lawful e between f leads) first second entered
