-- At each moment of a run the machine Starts stands as the run's workers do, and at its end all have ended.
use Rattle.std.proofs.Common.{◌≡◌, ℕ, ◌+◌, ◌<◌, ◌==◌, ◌&&◌, not, Bool, true, false, cond, List, [], ◌∷◌, ◌++◌, fold, get_or, set, Option, Some, None, slice_get, inl, inr, refl, sym, ap, ◌∙◌, subst}
use Rattle.std.specs.List.{list_all}
use Rattle.std.specs.Option.{option_map_or}
use Rattle.std.proofs.lemmas.Bool.Decides.{eqb_tells}
use Rattle.std.proofs.lemmas.List.{get_or-set_other}
use Rattle.std.proofs.lemmas.List.Sums.{fold-append}
use Rattle.std.proofs.lemmas.Option.{none-some, same_Some}
use Rattle.script_calls.specs.Starts.{started_by, starts, group_of}
use Rattle.script_calls.specs.declared.call.Call.{Call}
use Rattle.script_calls.specs.declared.call.ComposedCall.TheVariants.{Go}
use Rattle.script_calls.specs.declared.call.Operation.TheVariants as operations
use Rattle.script_calls.specs.declared.call.Reply.{Reply}
use Rattle.starts_core.specs.StartsMachine.{begun}
use Rattle.workload.specs.declared.turn.Turn.{Turn}
use Rattle.workload.specs.declared.turn.Turn.TheVariants as items
use Rattle.workload.specs.Plan.{Plan, is_dormant, has_dormant}
use Rattle.run_record.specs.Objects.{first_part, starts_number}
use Rattle.kept_record.specs.Acts.{deeds_on}
use Rattle.kept_record.specs.Keeping.{Act, made_by}
use Rattle.step_runner.specs.declared.state.Stand.{Stand}
use Rattle.step_runner.specs.declared.state.Stand.TheVariants.{Waits, Live, Gone}
use Rattle.step_runner.specs.declared.step.Step.{Step}
use Rattle.step_runner.specs.declared.step.Step.TheVariants as steps
use Rattle.step_runner.specs.declared.turns.answer.Answer.{Answer}
use Rattle.step_runner.specs.declared.turns.answer.Answer.TheVariants as answers
use Rattle.step_runner.specs.declared.turns.item.Item.{Item}
use Rattle.step_runner.specs.RunItems.{made_by as turn_made, unless_ended, all_made}
use Rattle.step_runner.specs.State.{State, with_moment, stand_of, stands_behind, woken, IsStateOf}
use Rattle.step_runner.specs.TurnWithin.{done_on, turn_within, items_within}
use Rattle.step_runner.specs.Turns.{script_left, done_calls, closing_calls, is_empty, is_behind, settled_with, begun_by, next_call, turn_of, with_event, and_then, items_of, after_items}
use Rattle.scheduled_record.specs.RunActs.{is_nothing, with_item}
use Rattle.scheduled_record.specs.ItemsOf.{HasPool}
use Rattle.scheduled_record.proofs.InRange.{IsCallOf}
use Rattle.scheduled_record.proofs.OnObjects.{Told}
use Rattle.scheduled_record.proofs.RunInRange.{stands, live, left_all, of_worker, moment_still}
use Rattle.scheduled_record.proofs.StartsLed.{state_by, Leads}
use Rattle.scheduled_record.proofs.StartsSo.{kept_items, one_done, done_made, gone_behind, none_of}
use Rattle.scheduled_record.proofs.StartsWalk.{AreOwn, stands_after, settled_stands, call_led}

live_waits : Live ≡ Waits → ⊥
live_waits same = cc

live_gone : Live ≡ Gone → ⊥
live_gone same = cc

module _ (plan : Plan) (parts : (place part : ℕ) → HasPool plan place → part < plan.workers → first_part plan place + part < starts_number plan) (some : has_dormant plan ≡ true) (own : AreOwn) where
  abbrev on : List Act → List Told
  on acts = deeds_on (starts_number plan) acts

  abbrev with_items : List Act → List Item → List Act
  with_items acts made = fold (with_item plan) acts made

  -- what is so at each moment: Starts stands as the workers do, whoever has closed its script has made something, and nobody is started whom no call starts
  pub record So (acts : List Act) (s : State) : Type 0 where
    pub led : Leads (begun plan.dormant) (on acts) (state_by s.stands)
    pub gone : (v : ℕ) → is_dormant plan v ≡ true → stand_of v s ≡ Gone → is_nothing (made_by v acts) ≡ false
    pub grouped : (v : ℕ) → is_dormant plan v ≡ true → group_of v plan.scripts ≡ None → stand_of v s ≡ Waits

  -- ---- one turn

  module _ (acts : List Act) (s : State) (of : IsStateOf plan s) (so : So acts s) (w : ℕ) where
    abbrev behind : Bool
    behind = is_behind plan w s

    -- behind its script a worker stands before the `done` on its group
    closing_is : (call : Call) → slice_get (script_left plan w s ++ closing_calls plan w) 0 ≡ Some call → is_behind plan w s ≡ true → (group : ℕ) × (call ≡ done_on group)
    closing_is call at over = by_left (script_left plan w s) over at where
      by_group : (group : Option ℕ) → slice_get (done_calls group) 0 ≡ Some call → (group : ℕ) × (call ≡ done_on group)
      by_group None at = absurd (none-some call at)
      by_group (Some group) at = (group, sym (same_Some (done_on group) call at))

      by_dormant : (b : Bool) → slice_get (cond b (done_calls (group_of w plan.scripts)) []) 0 ≡ Some call → (group : ℕ) × (call ≡ done_on group)
      by_dormant true at = by_group (group_of w plan.scripts) at
      by_dormant false at = absurd (none-some call at)

      by_left : (left : List Call) → is_empty left ≡ true → slice_get (left ++ closing_calls plan w) 0 ≡ Some call → (group : ℕ) × (call ≡ done_on group)
      by_left [] over at = by_dormant (is_dormant plan w) at
      by_left (c ∷ left) over at = absurd cc

    not_go : (call : Call) → slice_get (script_left plan w s ++ closing_calls plan w) 0 ≡ Some call → is_behind plan w s ≡ true → (started : ℕ) → call.operation ≡ operations.Composed (Go started) → ⊥
    not_go call at over started is =
        let closes = closing_is call at over in
        no closes.0 (ap (λ (c : Call). c.operation) (sym closes.1) ∙ is)
      where
        no : (group : ℕ) → (done_on group).operation ≡ operations.Composed (Go started) → ⊥
        no group same = cc

    -- no call of a script starts one that no call starts
    starts_none : (v : ℕ) → group_of v plan.scripts ≡ None → (call : Call) → slice_get (script_left plan w s ++ closing_calls plan w) 0 ≡ Some call → is_behind plan w s ≡ false → not (starts v call) ≡ true
    starts_none v none call at not_over =
        by_left (script_left plan w s) not_over (left_all (λ call. not (starts v call)) (get_or plan.scripts w []) (get_or s.replies w []) (of_worker (λ call. not (starts v call)) plan.scripts w (none_of v plan.scripts none))) at
      where
        head : (a b : Bool) → (a && b) ≡ true → a ≡ true
        head true b is = refl
        head false b is = is

        by_left : (left : List Call) → is_empty left ≡ false → list_all (λ call. not (starts v call)) left ≡ true → slice_get (left ++ closing_calls plan w) 0 ≡ Some call → not (starts v call) ≡ true
        by_left [] not_over all at = absurd cc
        by_left (c ∷ left) not_over all at = subst (λ (c : Call). not (starts v c) ≡ true) (same_Some c call at) (head (not (starts v c)) (list_all (λ call. not (starts v call)) left) all)

    module _ (call : Call) (at : slice_get (script_left plan w s ++ closing_calls plan w) 0 ≡ Some call) (lives : stand_of w s ≡ Live) (called : IsCallOf plan call.operation) where
      abbrev made : List Item
      made = items_within call w s.moment (begun_by w s) s.objects

      abbrev answer : Answer
      answer = (turn_within call w s.moment (begun_by w s) s.objects).1

      abbrev after : List Stand
      after = stands_after behind w (started_by call.operation) answer s.stands

      -- one that closes its script makes the `done`
      closes : (reply : Reply (List ℕ)) → answer ≡ answers.Completed reply → behind ≡ true → is_nothing (made_by w (with_items acts made)) ≡ false
      closes reply is over =
          let closing = closing_is call at over in
          by_group closing.0 closing.1
        where
          by_group : (group : ℕ) → call ≡ done_on group → is_nothing (made_by w (with_items acts made)) ≡ false
          by_group group same =
              subst (λ (c : Call). is_nothing (made_by w (with_items acts (items_within c w s.moment (begun_by w s) s.objects))) ≡ false) (sym same)
              (done_made plan w group (items_within (done_on group) w s.moment (begun_by w s) s.objects) acts
              (one_done w s.moment group s.objects reply (ap (λ (c : Call). (turn_within c w s.moment (begun_by w s) s.objects).1) (sym same) ∙ is)))

      gone_by : (v : ℕ) → is_dormant plan v ≡ true → (b : Bool) → behind ≡ b → (a : Answer) → answer ≡ a → get_or (stands_after b w (started_by call.operation) a s.stands) v Gone ≡ Gone → is_nothing (made_by v (with_items acts made)) ≡ false
      gone_by v dormant b over answers.Still is gone = kept_items plan v made acts (so.gone v dormant gone)
      gone_by v dormant b over answers.Unfinished is gone = kept_items plan v made acts (so.gone v dormant gone)
      gone_by v dormant true over (answers.Completed reply) is gone = elim (eqb_tells v w) [
        | inl same ↦ subst (λ (n : ℕ). is_nothing (made_by n (with_items acts made)) ≡ false) (sym same.1) (closes reply is over)
        | inr apart ↦ kept_items plan v made acts (so.gone v dormant (sym (get_or-set_other s.stands w v Gone Gone apart.1) ∙ gone))
      ]
      gone_by v dormant false over (answers.Completed reply) is gone = kept_items plan v made acts (so.gone v dormant (gone_behind s.stands (started_by call.operation) v gone))
      gone_by v dormant b over (answers.Misused misuse) is gone = kept_items plan v made acts (so.gone v dormant gone)

      grouped_by : (v : ℕ) → group_of v plan.scripts ≡ None → stand_of v s ≡ Waits → (b : Bool) → behind ≡ b → (a : Answer) → get_or (stands_after b w (started_by call.operation) a s.stands) v Gone ≡ Waits
      grouped_by v none waits b over answers.Still = waits
      grouped_by v none waits b over answers.Unfinished = waits
      grouped_by v none waits true over (answers.Completed reply) = get_or-set_other s.stands w v Gone Gone (λ (same : v ≡ w). live_waits (sym lives ∙ (ap (λ (n : ℕ). stand_of n s) (sym same) ∙ waits))) ∙ waits
      grouped_by v none waits false over (answers.Completed reply) = by_started (started_by call.operation) refl where
        by_started : (o : Option ℕ) → started_by call.operation ≡ o → get_or (stands_behind o s.stands) v Gone ≡ Waits
        by_started None is = waits
        by_started (Some x) is = elim (eqb_tells x v) [
          | inl same ↦ absurd (no (starts v call) (ap (λ (o : Option ℕ). option_map_or (λ (started : ℕ). started == v) o false) is ∙ same.0) (starts_none v none call at over))
          | inr apart ↦ get_or-set_other s.stands x v (woken (get_or s.stands x Gone)) Gone (λ (same : v ≡ x). apart.1 (sym same)) ∙ waits
        ] where
          no : (b : Bool) → b ≡ true → not b ≡ true → ⊥
          no true is other = no_false other where
            no_false : false ≡ true → ⊥
            no_false same = cc
          no false is other = no_true is where
            no_true : false ≡ true → ⊥
            no_true same = cc
      grouped_by v none waits b over (answers.Misused misuse) = waits

      call_so : So (with_items acts made) (settled_with plan w call (turn_within call w s.moment (begun_by w s) s.objects) s).0
      call_so =
          let is : (settled_with plan w call (turn_within call w s.moment (begun_by w s) s.objects) s).0.stands ≡ after =
          settled_stands plan w call answer (record s { objects = (turn_within call w s.moment (begun_by w s) s.objects).0.0; begun = set s.begun w (turn_within call w s.moment (begun_by w s) s.objects).0.1 }) in
          record {
            led = subst (λ (l : List Stand). Leads (begun plan.dormant) (on (with_items acts made)) (state_by l)) (sym is) (call_led plan parts some own s of w call lives called (not_go call at) acts so.led);
            gone = λ v dormant gone. gone_by v dormant behind refl answer refl (ap (λ (l : List Stand). get_or l v Gone) (sym is) ∙ gone);
            grouped = λ v dormant none. ap (λ (l : List Stand). get_or l v Gone) is ∙ grouped_by v none (so.grouped v dormant none) behind refl answer;
          }

    turn_so : So (with_items acts (turn_made plan w s)) (turn_of plan w s).0
    turn_so = chosen (next_call plan w s) refl where
      chosen : (next : Option Call) → next_call plan w s ≡ next
          → So (with_items acts (option_map_or (λ call. items_within call w s.moment (begun_by w s) s.objects) next [])) (option_map_or (λ call. settled_with plan w call (turn_within call w s.moment (begun_by w s) s.objects) s) next (s, steps.Still)).0
      chosen None at = so
      chosen (Some call) at = let here = live plan s of w (stand_of w s) (script_left plan w s ++ closing_calls plan w) call at in call_so call here.1 here.0 (stands plan s of w call at).goes

  -- ---- some turns

  with_state : (x : State × Step) → (with_event x).0 ≡ x.0
  with_state (s, steps.Still) = refl
  with_state (s, steps.Made) = refl
  with_state (s, steps.Misused misuse) = refl

  same_stands : (acts : List Act) (s : State) (moment : ℕ) → So acts s → So acts (with_moment moment s)
  same_stands acts s moment so = record { led = so.led; gone = so.gone; grouped = so.grouped }

  pub run_so : ((worker : ℕ) (s : State) → IsStateOf plan s → IsStateOf plan (turn_of plan worker s).0) → (list : List Turn) (s : State) (acts : List Act) → IsStateOf plan s → So acts s → So (with_items acts (all_made plan list s)) (after_items plan list s)
  run_so goes_on [] s acts of so = so
  run_so goes_on (items.Worker w ∷ rest) s acts of so =
      subst (λ (l : List Act). So l (after_items plan (items.Worker w ∷ rest) s)) (sym (fold-append (with_item plan) acts (turn_made plan w s) (unless_ended (turn_of plan w s) (all_made plan rest))))
      (later (turn_of plan w s) (goes_on w s of) (turn_so acts s of so w) (λ t of_t so_t. run_so goes_on rest t (with_items acts (turn_made plan w s)) of_t so_t))
    where
      later : (x : State × Step) → IsStateOf plan x.0 → So (with_items acts (turn_made plan w s)) x.0
          → ((t : State) → IsStateOf plan t → So (with_items acts (turn_made plan w s)) t → So (with_items (with_items acts (turn_made plan w s)) (all_made plan rest t)) (after_items plan rest t))
          → So (with_items (with_items acts (turn_made plan w s)) (unless_ended x (all_made plan rest))) (and_then x (items_of plan rest)).0
      later (t, steps.Still) of_t so_t each = each t of_t so_t
      later (t, steps.Made) of_t so_t each = subst (λ (u : State). So (with_items (with_items acts (turn_made plan w s)) (all_made plan rest t)) u) (sym (with_state (items_of plan rest t))) (each t of_t so_t)
      later (t, steps.Misused misuse) of_t so_t each = so_t
  run_so goes_on (items.Moment moment ∷ rest) s acts of so = run_so goes_on rest (with_moment moment s) acts (moment_still plan moment s of) (same_stands acts s moment so)
