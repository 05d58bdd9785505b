use Rattle.step_runner.specs.State.{start}
use Rattle.step_runner.specs.Turns.{after_items}
use Rattle.step_runner.proofs.DormantLemmas.{none_started, others_live, waiting_items, waiting_replies}
use Rattle.step_runner.proofs.laws.who_waits_to_be_started_makes_no_call.Goals as goal

pub returns-clause-replies : goal.returns-clause-replies
returns-clause-replies c plan items worker valid below = waiting_replies plan worker below (after_items plan items (start plan)) (c.validity.ensures.always plan items valid)

pub returns-clause-items : goal.returns-clause-items
returns-clause-items c plan items worker valid below = waiting_items plan worker (c.validity.ensures.goes_on plan) c.items_are_of_their_workers.ensures.others items (start plan) (c.validity.ensures.begins plan valid)

pub returns-clause-all : goal.returns-clause-all
returns-clause-all c plan valid all = none_started plan valid all

pub returns-clause-live : goal.returns-clause-live
returns-clause-live c plan items worker valid below live = others_live plan worker below (after_items plan items (start plan)) (c.validity.ensures.always plan items valid) live
