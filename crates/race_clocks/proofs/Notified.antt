-- Whom an event of a cond notifies: those of whom the code tells.
use Rattle.std.proofs.Common.{◌≡◌, ℕ, zero, suc, ◌+◌, ◌<◌, ◌≤◌, inl, inr, Bool, true, false, cond, List, [], ◌∷◌, map, get_or, length, Option, Some, None, refl, sym, ap, ◌∙◌, subst, arith}
use Rattle.std.specs.Prelude.{◌==◌, ◌&&◌, ◌||◌, slice_get}
use Rattle.std.specs.List.{flat_map, range_with_len}
use Rattle.std.specs.Option.{option_map_or}
use Rattle.std.proofs.lemmas.Bool.{eqb-true, cases_lt}
use Rattle.std.proofs.lemmas.Bool.Decides.{eqb_tells}
use Rattle.std.proofs.lemmas.List.FromFn.{get_or-map-range_with_len}
use Rattle.wait_cores.specs.NotifyMachine as notify
use Rattle.wait_cores.specs.declared.notify.NotifyEvent.{NotifyEvent}
use Rattle.wait_cores.specs.declared.notify.NotifyPlace.{NotifyPlace}
use Rattle.wait_cores.specs.declared.notify.NotifyPlace.TheVariants as notify_places
use Rattle.workload.specs.Plan.{Plan}
use Rattle.step_runner.specs.declared.turns.item.Item.{Item}
use Rattle.race_clocks.specs.Channels as all
use Rattle.race_clocks.specs.Handing.{are_for, cond_event, cond_at, was_told, notice, notices}
use Rattle.race_clocks.specs.Passing.{cond_given, IsSeen}
use Rattle.race_clocks.specs.Seen as run
use Rattle.race_clocks.specs.declared.channel.Channel.TheVariants as channels
use Rattle.race_clocks.specs.declared.seen.Seen.{Seen}
use Rattle.race_clocks.proofs.ItemChannels.{and_false, and_true, or_false, behind, off_cond, cond_same}
use Rattle.race_clocks.proofs.Lists.{flat_more}

never_told : (worker : ℕ) (state : notify.NotifyState) → run.is_told worker state state ≡ false
never_told worker state = by_place (notify.place_of state worker)
  where
    by_place : (place : NotifyPlace) → (run.is_waiting place && run.is_notified place) ≡ false
    by_place notify_places.Waiting = refl
    by_place notify_places.Notified = refl
    by_place notify_places.Out = refl

-- ---- of the first workers one is told of where it was told

module _ (object m n : ℕ) (same : (object == m) ≡ true) (before : List NotifyPlace) (after : notify.NotifyState) where
  abbrev c : all.Channel
  c = all.Notice m n

  abbrev told : ℕ → Bool
  told worker = was_told (get_or before worker notify_places.Out) (notify.place_of after worker)

  one : (worker : ℕ) (b : Bool) → are_for c (cond b (channels.Notice object worker ∷ []) []) ≡ ((worker == n) && b)
  one worker true = or_false ((object == m) && (worker == n)) ∙ ap (λ x. x && (worker == n)) same ∙ sym (and_true (worker == n))
  one worker false = sym (and_false (worker == n))

  abbrev so_far : ℕ → Bool
  so_far k = are_for c (flat_map (notice object before after) (range_with_len 0 k))

  next : (k : ℕ) → so_far (k + 1) ≡ (((k == n) && told k) || so_far k)
  next k =
      ap (are_for c) (flat_more (notice object before after) k)
      ∙ behind c (flat_map (notice object before after) (range_with_len 0 k)) (notice object before after k)
      ∙ ap (λ x. x || so_far k) (one k (told k))

  abbrev Tells : ℕ → Type 0
  Tells k = (n < k → so_far k ≡ told n) × (k ≤ n → so_far k ≡ false)

  up_to : (k : ℕ) → Tells k
  up_to zero = (λ less. absurd (omega (arith, less)), λ more. refl)
  up_to (suc k) =
      let more : k + 1 ≡ suc k = omega arith in
      let before_k = up_to k in
      subst Tells more (
        (λ less. elim (eqb_tells k n) [
          | inl (is, here) ↦ next k ∙ ap (λ x. (x && told k) || so_far k) is ∙ ap (λ x. told k || x) (before_k.1 (omega (arith, here))) ∙ or_false (told k) ∙ ap told here
          | inr (isnt, apart) ↦ next k ∙ ap (λ x. (x && told k) || so_far k) isnt ∙ before_k.0 (omega (arith, less, apart))
        ]),
        (λ above. elim (eqb_tells k n) [
          | inl (is, here) ↦ absurd (omega (arith, above, here))
          | inr (isnt, apart) ↦ next k ∙ ap (λ x. (x && told k) || so_far k) isnt ∙ before_k.1 (omega (arith, above))
        ]),
      )

out_there : (notified n : ℕ) (tickets : List (Option ℕ)) → length tickets ≤ n → notify.place_with notified (slice_get tickets n) ≡ notify_places.Out
out_there notified n [] over = refl
out_there notified zero (ticket ∷ tickets) over = absurd (omega (arith, over))
out_there notified (suc n) (ticket ∷ tickets) over = out_there notified n tickets (omega (arith, over))

module _ (workers object m n : ℕ) (same : (object == m) ≡ true) (state after : notify.NotifyState) (callers : notify.callers_of state ≡ workers) where
  by_worker : are_for (all.Notice m n) (notices workers object (map (notify.place_of state) (range_with_len 0 workers)) after) ≡ run.is_told n state after
  by_worker = elim (cases_lt n workers) [
    | inl less ↦
        (up_to object m n same (map (notify.place_of state) (range_with_len 0 workers)) after workers).0 less
        ∙ ap (λ place. was_told place (notify.place_of after n)) (get_or-map-range_with_len (notify.place_of state) 0 workers n n notify_places.Out less (omega arith))
    | inr over ↦
        (up_to object m n same (map (notify.place_of state) (range_with_len 0 workers)) after workers).1 over
        ∙ ap (λ place. was_told place (notify.place_of after n)) (sym (out_there state.notified n state.tickets (omega (arith, over, callers))))
  ]

-- ---- of an item

module _ (plan : Plan) (earlier : List Item) (item : Item) (old : Seen) (seen : IsSeen plan earlier old) (m n : ℕ) where
  abbrev state : ℕ → notify.NotifyState
  state place = run.cond_behind plan place earlier

  callers : (place : ℕ) → notify.callers_of (state place) ≡ plan.workers
  callers place = ap notify.callers_of (sym (seen.conds place)) ∙ seen.are place

  by_event : (s : notify.NotifyState) → notify.callers_of s ≡ plan.workers → (item.object == m) ≡ true → (event : Option NotifyEvent)
      → are_for (all.Notice m n) (option_map_or (λ event. notices plan.workers item.object (map (notify.place_of s) (range_with_len 0 plan.workers)) (notify.next s item.caller event).0) event [])
      ≡ run.is_told n s (option_map_or (λ event. (notify.next s item.caller event).0) event s)
  by_event s of same None = sym (never_told n s)
  by_event s of same (Some event) = by_worker plan.workers item.object m n same s (notify.next s item.caller event).0 of

  by_object : (here : Bool) → (item.object == m) ≡ here → are_for (all.Notice m n) (cond_given plan.workers item (state item.object)) ≡ run.is_told n (state m) (cond here (run.cond_made (state m) item.caller item.deed) (state m))
  by_object false apart =
      off_cond (all.Notice m n) plan.workers item (state item.object) (cond_event item.deed) (λ worker. ap (λ b. b && (worker == n)) apart) ∙ sym (never_told n (state m))
  by_object true same =
      ap (λ place. are_for (all.Notice m n) (cond_given plan.workers item (state place))) (eqb-true item.object m same)
      ∙ by_event (state m) (callers m) same (cond_event item.deed)
      ∙ ap (λ after. run.is_told n (state m) after) (cond_same (state m) item.caller item.deed)

  pub notices_so : are_for (all.Notice m n) (cond_given plan.workers item (cond_at plan.workers old.conds item.object)) ≡ run.notifies plan m n earlier item
  notices_so = ap (λ s. are_for (all.Notice m n) (cond_given plan.workers item s)) (seen.conds item.object) ∙ by_object (item.object == m) refl
