-- A circle of waits that a record explains, which is in no order.
use Rattle.std.proofs.Common.{◌≡◌, ℕ, zero, suc, ◌<◌, List, [], ◌∷◌, negsuc, Some, slice_get, refl, ap, arith}
use Rattle.std.specs.Prelude.{Ok}
use Rattle.std.proofs.lemmas.Option.{none-some, same_Some}
use Rattle.wait_cores.specs.GroupEdges.{group_releases, group_acquires}
use Rattle.wait_cores.specs.declared.group.GroupEvent.{GroupEvent}
use Rattle.wait_cores.specs.declared.group.GroupEvent.TheVariants.{Add, Wait}
use Rattle.wait_cores.specs.declared.group.GroupReply.{GroupReply}
use Rattle.wait_cores.specs.declared.group.GroupReply.TheVariants as grouped
use Rattle.script_calls.specs.declared.call.Call.{Call}
use Rattle.script_calls.specs.declared.call.Operation.TheVariants as operations
use Rattle.script_calls.specs.declared.call.Reply.TheVariants.{Returned}
use Rattle.sync_model.specs.declared.answer.Answer.TheVariants.{Done}
use Rattle.sync_model.specs.declared.journal.Entry.{Entry}
use Rattle.sync_model.specs.Journal.{TimesRise}
use Rattle.sync_types.specs.declared.wait_call.WaitGroupCall.TheVariants as calls
use Rattle.run_record.specs.declared.made.Made.{Made}
use Rattle.run_record.specs.declared.made.Made.TheVariants.{Entered}
use Rattle.run_record.specs.Explains.{Explains}
use Rattle.run_record.specs.Lines.{SpeltCall, AreSpelt}
use Rattle.run_record.specs.Record.{ObjectEntry, journal_of, list_of}
use Rattle.run_record.specs.WaitGroupKind.{IsWaitGroupJournal}
use Rattle.run_laws.specs.Examples.{on, entry}
use Rattle.run_laws.specs.ExamplesCircle.{plan, outcome, waits, is_done, in_a_circle}
use Rattle.run_laws.proofs.OneOrder.{same_entry}
use Rattle.run_laws.proofs.SmallRecords.{ByScript, IsSmall, is_record, no_starts, no_parts, whole_line, are_whole, both_ended, quiet_edges}

abbrev own_wait : ℕ → ℕ → Entry GroupEvent GroupReply
own_wait worker time = record (entry worker Wait grouped.Done) { time = time }

abbrev own_done : ℕ → ℕ → Entry GroupEvent GroupReply
own_done worker time = record (entry worker (Add (negsuc 0)) grouped.Done) { time = time }

-- of a group that one worker is done with, and the other one waits for
first_journal : (made waited : ℕ) → IsWaitGroupJournal 2 1 (is_done 1 made ∷ waits 0 waited ∷ [])
first_journal made waited = let own = own_done 1 made ∷ own_wait 0 waited ∷ [] in (own, refl, ((refl, refl), ((refl, refl), tt)), quiet_edges group_releases group_acquires own (refl, (refl, tt)))

second_journal : (made waited : ℕ) → IsWaitGroupJournal 2 1 (is_done 0 made ∷ waits 1 waited ∷ [])
second_journal made waited = let own = own_done 0 made ∷ own_wait 1 waited ∷ [] in (own, refl, ((refl, refl), ((refl, refl), tt)), quiet_edges group_releases group_acquires own (refl, (refl, tt)))

module _ (wait_0 done_0 wait_1 done_1 : ℕ) where
  abbrev journals : List (List ObjectEntry)
  journals = (is_done 1 done_1 ∷ waits 0 wait_0 ∷ []) ∷ (is_done 0 done_0 ∷ waits 1 wait_1 ∷ []) ∷ []

  abbrev made_first : List Made
  made_first = Entered 1 (waits 0 wait_0) ∷ Entered 2 (is_done 0 done_0) ∷ []

  abbrev made_second : List Made
  made_second = Entered 2 (waits 1 wait_1) ∷ Entered 1 (is_done 1 done_1) ∷ []

  small : IsSmall plan journals made_first made_second
  small = record {
    objects = refl;
    quiet_first = ((refl, refl), ((refl, refl), tt));
    quiet_second = ((refl, refl), ((refl, refl), tt));
    two = ((refl, (refl, tt)), ((refl, (refl, tt)), tt));
    follow = (first_journal done_1 wait_0, (second_journal done_0 wait_1, tt));
    parts = no_parts plan journals made_first made_second (refl, (refl, tt));
    starts = no_starts plan _ refl;
    once_first = (refl, (refl, (refl, tt)));
    once_second = (refl, (refl, (refl, tt)));
  }

  abbrev spelt : ℕ → ObjectEntry → Call → SpeltCall
  spelt object made call = record { call = call; items = Entered object made ∷ []; reply = Returned }

  abbrev first : List SpeltCall
  first = spelt 1 (waits 0 wait_0) (on 0 (operations.WaitGroup calls.Wait)) ∷ spelt 2 (is_done 0 done_0) (on 1 (operations.WaitGroup calls.Done)) ∷ []

  abbrev second : List SpeltCall
  second = spelt 2 (waits 1 wait_1) (on 1 (operations.WaitGroup calls.Wait)) ∷ spelt 1 (is_done 1 done_1) (on 0 (operations.WaitGroup calls.Done)) ∷ []

  spelt_first : AreSpelt plan 0 0 first
  spelt_first = ((Done (Ok tt), (own_wait 0 wait_0 ∷ [], refl, ((0, refl), (refl, refl))), refl), ((Done (Ok tt), (own_done 0 done_0 ∷ [], refl, ((0, refl), (refl, refl))), refl), tt))

  spelt_second : AreSpelt plan 1 0 second
  spelt_second = ((Done (Ok tt), (own_wait 1 wait_1 ∷ [], refl, ((0, refl), (refl, refl))), refl), ((Done (Ok tt), (own_done 1 done_1 ∷ [], refl, ((0, refl), (refl, refl))), refl), tt))

  pub explained : ByScript → Explains plan outcome (in_a_circle wait_0 done_0 wait_1 done_1)
  explained by_script = record {
    lines = whole_line first ∷ whole_line second ∷ [];
    are = (by_script plan _ _ _ refl).1 (record { scripts = refl; lists = refl; replies = refl; each = are_whole plan refl first second spelt_first spelt_second });
    lawful = is_record plan journals made_first made_second small;
    agrees = (both_ended first second, refl);
  }

-- two entries, with the lower number first
two_rise : (x y : ObjectEntry) → x.time < y.time → TimesRise (x ∷ y ∷ [])
two_rise x y less zero zero a b before at_a at_b = absurd (omega (arith, before))
two_rise x y less zero (suc zero) a b before at_a at_b = let first = ap (λ (e : ObjectEntry). e.time) (same_Some x a at_a) in let second = ap (λ (e : ObjectEntry). e.time) (same_Some y b at_b) in omega (arith, less, first, second)
two_rise x y less zero (suc (suc j)) a b before at_a at_b = absurd (none-some b at_b)
two_rise x y less (suc zero) zero a b before at_a at_b = absurd (omega (arith, before))
two_rise x y less (suc zero) (suc zero) a b before at_a at_b = absurd (omega (arith, before))
two_rise x y less (suc zero) (suc (suc j)) a b before at_a at_b = absurd (none-some b at_b)
two_rise x y less (suc (suc i)) j a b before at_a at_b = absurd (none-some a at_a)

pub journals_rise : (object : ℕ) → TimesRise (journal_of (in_a_circle 1 0 1 0) object)
journals_rise zero i j a b before at_a at_b = absurd (none-some a at_a)
journals_rise (suc zero) i j a b before at_a at_b = two_rise (is_done 1 0) (waits 0 1) (omega arith) i j a b before at_a at_b
journals_rise (suc (suc zero)) i j a b before at_a at_b = two_rise (is_done 0 0) (waits 1 1) (omega arith) i j a b before at_a at_b
journals_rise (suc (suc (suc object))) i j a b before at_a at_b = absurd (none-some a at_a)

-- the same of a list of two
two_in_list : (x y : ObjectEntry) (n m : ℕ) → x.time < y.time → (i j object other : ℕ) (a b : ObjectEntry) → i < j
    → slice_get (Entered n x ∷ Entered m y ∷ []) i ≡ Some (Entered object a) → slice_get (Entered n x ∷ Entered m y ∷ []) j ≡ Some (Entered other b) → a.time < b.time
two_in_list x y n m less zero zero object other a b before at_a at_b = absurd (omega (arith, before))
two_in_list x y n m less zero (suc zero) object other a b before at_a at_b =
    let first = ap (λ (e : ObjectEntry). e.time) (same_entry n object x a (same_Some (Entered n x) (Entered object a) at_a)) in
    let second = ap (λ (e : ObjectEntry). e.time) (same_entry m other y b (same_Some (Entered m y) (Entered other b) at_b)) in
    omega (arith, less, first, second)
two_in_list x y n m less zero (suc (suc j)) object other a b before at_a at_b = absurd (none-some (Entered other b) at_b)
two_in_list x y n m less (suc zero) zero object other a b before at_a at_b = absurd (omega (arith, before))
two_in_list x y n m less (suc zero) (suc zero) object other a b before at_a at_b = absurd (omega (arith, before))
two_in_list x y n m less (suc zero) (suc (suc j)) object other a b before at_a at_b = absurd (none-some (Entered other b) at_b)
two_in_list x y n m less (suc (suc i)) j object other a b before at_a at_b = absurd (none-some (Entered object a) at_a)

pub lists_rise : (worker i j object other : ℕ) (x y : ObjectEntry) → i < j → slice_get (list_of (in_a_circle 0 1 0 1) worker) i ≡ Some (Entered object x) → slice_get (list_of (in_a_circle 0 1 0 1) worker) j ≡ Some (Entered other y) → x.time < y.time
lists_rise zero i j object other x y before at_x at_y = two_in_list (waits 0 0) (is_done 0 1) 1 2 (omega arith) i j object other x y before at_x at_y
lists_rise (suc zero) i j object other x y before at_x at_y = two_in_list (waits 1 0) (is_done 1 1) 2 1 (omega arith) i j object other x y before at_x at_y
lists_rise (suc (suc worker)) i j object other x y before at_x at_y = absurd (none-some (Entered object x) at_x)
