-- A signal notifies the worker that has waited longest, and nobody behind it; a broadcast notifies all.
use Rattle.std.proofs.Common.{◌≡◌, ℕ, ◌+◌, ◌<◌, ◌≤◌, Bool, true, false, ◌==◌, List, Some, slice_get, refl, sym, ap, ◌∙◌, arith}
use Rattle.std.specs.Prelude.{cond, nat_lt}
use Rattle.std.proofs.lemmas.Bool.{false≢true, and_from, and_right, ltb-false, le-ltb, lt-ltb, eq-eqb}
use Rattle.wait_cores.specs.NotifyMachine.{NotifyState, callers_of, next, place_of, place_with}
use Rattle.wait_cores.specs.declared.notify.NotifyEvent.TheVariants.{Signal}
use Rattle.wait_cores.specs.declared.notify.NotifyReply.{NotifyReply}
use Rattle.wait_cores.specs.declared.notify.NotifyReply.TheVariants.{Done, Still}
use Rattle.wait_cores.specs.declared.notify.NotifyPlace.TheVariants.{Waiting, Notified}
use Rattle.workload.specs.Plan.{Plan}
use Rattle.step_runner.specs.declared.turns.item.Deed.{Deed}
use Rattle.step_runner.specs.declared.turns.item.Item.{Item}
use Rattle.race_clocks.specs.Seen.{is_waiting, is_notified, cond_made, cond_behind, notifies}
use Rattle.race_clocks.specs.Rows.{item, signal, broadcast}

-- a signal notifies one ticket more at most, and gives nobody another ticket
record Moves (s t : NotifyState) : Type 0 where
  most : t.notified ≤ s.notified + 1
  tickets : t.tickets ≡ s.tickets

by_tests : (a b : Bool) (s : NotifyState) → Moves s (cond {A = NotifyState × NotifyReply} a (cond b (record s { notified = s.notified + 1 }) s, Done) (s, Still)).0
by_tests true true s = record { most = omega arith; tickets = refl }
by_tests true false s = record { most = omega arith; tickets = refl }
by_tests false b s = record { most = omega arith; tickets = refl }

signal_moves : (s : NotifyState) (caller : ℕ) → Moves s (next s caller Signal).0
signal_moves s caller = by_tests (nat_lt caller (callers_of s)) (nat_lt s.notified s.next_ticket) s

waits_below : (notified ticket : ℕ) → place_with notified (Some (Some ticket)) ≡ Waiting → notified ≤ ticket
waits_below notified ticket is = by (nat_lt ticket notified) refl is where
  by : (b : Bool) → nat_lt ticket notified ≡ b → cond b Notified Waiting ≡ Waiting → notified ≤ ticket
  by true e is = absurd (false≢true (sym (ap is_notified is)))
  by false e is = ltb-false ticket notified e

still_waits : (notified ticket : ℕ) → notified ≤ ticket → is_notified (place_with notified (Some (Some ticket))) ≡ false
still_waits notified ticket below = ap (λ b. is_notified (cond b Notified Waiting)) (le-ltb ticket notified below)

module _ (plan : Plan) (place caller w v a b : ℕ) (earlier : List Item) where
  abbrev before : NotifyState
  before = cond_behind plan place earlier

  abbrev behind : Bool → NotifyState
  behind here = cond here (next before caller Signal).0 before

  pub not_later : slice_get before.tickets w ≡ Some (Some a) → slice_get before.tickets v ≡ Some (Some b) → a < b → place_of before w ≡ Waiting → notifies plan place v earlier (item place caller signal) ≡ false
  not_later at_w at_v less waits = and_right (is_waiting (place_of before v)) (is_notified (place_of (behind (place == place)) v)) (by (place == place)) where
    low : before.notified ≤ a
    low = waits_below before.notified a (ap (place_with before.notified) (sym at_w) ∙ waits)

    by : (here : Bool) → is_notified (place_of (behind here) v) ≡ false
    by true = let moves = signal_moves before caller in let most = moves.most in
        ap (λ t. is_notified (place_with (next before caller Signal).0.notified t)) (ap (λ ts. slice_get ts v) moves.tickets ∙ at_v) ∙ still_waits (next before caller Signal).0.notified b (omega (arith, less, low, most))
    by false = ap (λ t. is_notified (place_with before.notified t)) at_v ∙ still_waits before.notified b (omega (arith, less, low))

told_by_tests : (b c : Bool) (s : NotifyState) → b ≡ true → c ≡ true → (cond {A = NotifyState × NotifyReply} b (cond c (record s { notified = s.notified + 1 }) s, Done) (s, Still)).0 ≡ record s { notified = s.notified + 1 }
told_by_tests true true s is also = refl
told_by_tests true false s is also = absurd (false≢true also)
told_by_tests false c s is also = absurd (false≢true is)

told_by_test : (b : Bool) (s : NotifyState) → b ≡ true → (cond {A = NotifyState × NotifyReply} b (record s { notified = s.next_ticket }, Done) (s, Still)).0 ≡ record s { notified = s.next_ticket }
told_by_test true s is = refl
told_by_test false s is = absurd (false≢true is)

notified_above : (notified ticket : ℕ) → ticket < notified → is_notified (place_with notified (Some (Some ticket))) ≡ true
notified_above notified ticket above = ap (λ b. is_notified (cond b Notified Waiting)) (lt-ltb ticket notified above)

waiting_below : (notified ticket : ℕ) → notified ≤ ticket → is_waiting (place_with notified (Some (Some ticket))) ≡ true
waiting_below notified ticket below = ap (λ b. is_waiting (cond b Notified Waiting)) (le-ltb ticket notified below)

module _ (plan : Plan) (place caller w a : ℕ) (earlier : List Item) where
  abbrev seen : NotifyState
  seen = cond_behind plan place earlier

  told_from : (deed : Deed) (after : NotifyState) → cond_made seen caller deed ≡ after → slice_get seen.tickets w ≡ Some (Some a) → slice_get after.tickets w ≡ Some (Some a) → seen.notified ≤ a → a < after.notified → notifies plan place w earlier (item place caller deed) ≡ true
  told_from deed after is at_w still low high = and_from (is_waiting (place_of seen w)) (is_notified (place_of (cond (place == place) (cond_made seen caller deed) seen) w))
      (ap (λ t. is_waiting (place_with seen.notified t)) at_w ∙ waiting_below seen.notified a low)
      (ap (λ b. is_notified (place_of (cond b (cond_made seen caller deed) seen) w)) (eq-eqb place place refl) ∙ ap (λ s. is_notified (place_of s w)) is ∙ ap (λ t. is_notified (place_with after.notified t)) still ∙ notified_above after.notified a high)

  pub signal_tells : caller < callers_of seen → slice_get seen.tickets w ≡ Some (Some a) → a ≡ seen.notified → a < seen.next_ticket → notifies plan place w earlier (item place caller signal) ≡ true
  signal_tells is at_w first taken = told_from signal (record seen { notified = seen.notified + 1 })
      (told_by_tests (nat_lt caller (callers_of seen)) (nat_lt seen.notified seen.next_ticket) seen (lt-ltb caller (callers_of seen) is) (lt-ltb seen.notified seen.next_ticket (omega (arith, first, taken)))) at_w at_w (omega (arith, first)) (omega (arith, first))

  pub broadcast_tells : caller < callers_of seen → slice_get seen.tickets w ≡ Some (Some a) → seen.notified ≤ a → a < seen.next_ticket → notifies plan place w earlier (item place caller broadcast) ≡ true
  broadcast_tells is at_w low taken = told_from broadcast (record seen { notified = seen.next_ticket })
      (told_by_test (nat_lt caller (callers_of seen)) seen (lt-ltb caller (callers_of seen) is)) at_w at_w low taken
