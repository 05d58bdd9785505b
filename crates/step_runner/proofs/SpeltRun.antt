-- The items of each call of a run spell it.
use Rattle.std.proofs.Common.{◌≡◌, ◌≢◌, ℕ, zero, suc, ◌+◌, ◌<◌, Bool, true, false, eqb, ◌&&◌, List, [], ◌∷◌, ◌++◌, map, drop, length, get_or, Option, Some, None, inl, inr, ◌⊎◌, refl, sym, ap, ◌∙◌, subst, append-nil, append_assoc, arith}
use Rattle.std.specs.Prelude.{◌==◌, Ok, Err, slice_get, if◌then◌else◌}
use Rattle.std.specs.Option.{option_map_or}
use Rattle.std.proofs.lemmas.Bool.{eq-eqb, eqb-true, eqb-false}
use Rattle.std.proofs.lemmas.List.{length-set, get_or-set_same, get_or-set_other}
use Rattle.std.proofs.lemmas.List.Elements.{filter-append}
use Rattle.sync_model.specs.declared.answer.Answer.TheVariants.{Done}
use Rattle.script_calls.specs.Runs.{passed_over, left_of, RunsAlong}
use Rattle.script_calls.specs.Starts.{started_by}
use Rattle.script_calls.specs.declared.call.Call.{Call}
use Rattle.script_calls.specs.declared.call.Reply.{Reply}
use Rattle.sync_types.specs.declared.misuse.Misuse.{Misuse}
use Rattle.protocols.specs.Spelling.{CallAnswer}
use Rattle.workload.specs.Dialect.{has_variables}
use Rattle.workload.specs.declared.turn.Turn.{Turn}
use Rattle.workload.specs.declared.turn.Turn.TheVariants as items
use Rattle.workload.specs.Draft.{all_keys, distinct_count}
use Rattle.workload.specs.Plan.{Plan}
use Rattle.workload.specs.Puts.{puts_at}
use Rattle.run_record.specs.Calls.{SpellsCall}
use Rattle.run_record.specs.Lines.{SpeltCall, misused, EndsBy}
use Rattle.run_record.specs.StartsKind.{done_part}
use Rattle.run_record.specs.declared.made.Made.{Made}
use Rattle.workload.specs.Keys.{keys_in}
use Rattle.step_runner.specs.declared.turns.answer.Answer.{Answer}
use Rattle.step_runner.specs.declared.turns.answer.Answer.TheVariants as answers
use Rattle.step_runner.specs.declared.turns.object_state.ObjectState.{ObjectState}
use Rattle.step_runner.specs.declared.turns.item.Item.{Item}
use Rattle.step_runner.specs.Objects.{EachAt}
use Rattle.step_runner.specs.Stands.{IsOutAt, IsOutBut}
use Rattle.step_runner.specs.StandsWithin.{waits_within, IsWithinCall, StandsAfter, left_within}
use Rattle.step_runner.specs.TurnWithin.{Taken, items_within}
use Rattle.step_runner.specs.Recorded.{recorded_reply, recorded}
use Rattle.step_runner.specs.Tells.{Tells}
use Rattle.step_runner.specs.Within.{IsIdle}
use Rattle.step_runner.specs.declared.step.Step.{Step}
use Rattle.step_runner.specs.declared.step.Step.TheVariants as steps
use Rattle.step_runner.specs.RunItems.{made_by, unless_ended, all_made}
use Rattle.step_runner.specs.CallTurns.{stands_before}
use Rattle.step_runner.specs.Spelt.{by_worker, part_by, made_for, misuse_by, misuse_of, came}
use Rattle.step_runner.specs.declared.state.Stand.{Stand}
use Rattle.step_runner.specs.declared.state.Stand.TheVariants.{Waits, Live, Gone}
use Rattle.step_runner.specs.State.{State, start, first_stand, stand_of, with_stand, with_moment, IsStateOf}
use Rattle.step_runner.specs.Turns.{answered, begun_by, next_call, settled, turn_of, and_then, items_of as after_all, after_items}
use Rattle.step_runner.proofs.FormLemmas.{TurnStands, Standing, kinds_in, own_out, own_at}
use Rattle.step_runner.proofs.MadeLemmas.{event_state}
use Rattle.step_runner.proofs.NextCalls.{IsOfScript, IsClosing, left_with, next_is, next_live, not_live, gone_own, started_stand, not_woken}
use Rattle.step_runner.proofs.RunKeys.{HasKeys}
use Rattle.step_runner.proofs.RunLemmas.{GoesOn, Kept}
use Rattle.step_runner.proofs.SpeltLines.{count-append, recorded-append, flat-push, spelt-push, map-push}
use Rattle.step_runner.proofs.NoAccess.{no_access}
use Rattle.step_runner.proofs.SpeltSoFar.{Spells, Trace, calls_in, Fallen, Rests, StandsAs, SoFar, FallsAs, stayed_line, misused_line, rest_left, count_spelt, ends_line}
use Rattle.step_runner.proofs.SpeltSome.{some_spell}
use Rattle.step_runner.proofs.SpeltStarts.{awake_done, done_spelt, closes_misused}
use Rattle.step_runner.proofs.SpeltTurns.{items_in, count_in, made_in, ByTurns, same_parts, more_last, more_spelt, part_of_other, part_of_own, part_elsewhere}
use Rattle.step_runner.proofs.StartLemmas.{each_start, none_begun, none_replied}
use Rattle.step_runner.proofs.TurnLemmas.{TurnsUse, Takes, takes_by, takes_use, turn_cases, moved, completed_script, begun_own, begun_other, replied_begun, replied_begun_other, ready, replied_other, still_same, turn_before}

-- with a turn more
abbrev more : Plan → Trace → ℕ → State → Trace
more plan made by s = record { all = made.all ++ made_by plan by s; parts = λ worker number. made.parts worker number ++ part_by plan worker number by s }

-- a worker that is idle and out stands before its next call, if there is one
fresh : Spells → (plan : Plan) (worker before : ℕ) (t : State) → IsStateOf plan t → Rests plan worker [] (stand_of worker t) (begun_by worker t) → begun_by worker t ≡ 0 → EachAt (λ place. IsIdle worker) t.objects → IsOutBut None worker t.objects
    → StandsAs plan worker before [] (stand_of worker t) (next_call plan worker t) (begun_by worker t) t.objects
fresh laws plan worker before t of rests none_begun idle out = by_next (next_call plan worker t) refl
  where
    by_next : (o : Option Call) → next_call plan worker t ≡ o → StandsAs plan worker before [] (stand_of worker t) o (begun_by worker t) t.objects
    by_next None is = (rests, idle)
    by_next (Some call) is =
        let entered = laws.enters plan worker before call t.objects (ready plan worker t call of is) of.objects idle out in
        let none : before + 0 ≡ before = omega arith in
        subst (λ (n : ℕ). StandsAs plan worker before [] (stand_of worker t) (Some call) n t.objects) (sym none_begun)
        (entered.0, λ later answer l. entered.1 later answer (subst (λ (n : ℕ). left_within plan worker n call t.objects 0 later answer) none l))

live_rests : (plan : Plan) (worker : ℕ) (t : State) → stand_of worker t ≡ Live → Rests plan worker [] (stand_of worker t) (begun_by worker t)
live_rests plan worker t live = subst (λ (stand : Stand). Rests plan worker [] stand (begun_by worker t)) (sym live) refl

live_waits : Live ≡ Waits → ⊥
live_waits e = cc

gone_waits : Gone ≡ Waits → ⊥
gone_waits e = cc

gone_live : Gone ≡ Live → ⊥
gone_live e = cc

live_not : Live ≢ Waits
live_not e = cc

none_before : {X : Type 0} (earlier later : List X) → earlier ++ later ≡ [] → earlier ≡ []
none_before [] later none = refl
none_before (x ∷ earlier) later none = absurd cc

none_behind : {X : Type 0} (earlier later : List X) → earlier ++ later ≡ [] → later ≡ []
none_behind [] later none = none
none_behind (x ∷ earlier) later none = absurd cc

-- ---- one turn

pub record Run (plan : Plan) (s : State) : Type 0 where
  pub standing : Standing plan s
  pub keys : HasKeys (all_keys plan.scripts) (distinct_count (all_keys plan.scripts)) s
  pub plain : has_variables plan ≡ false

-- behind a turn: so far, or as a line, where the turn was a misuse
abbrev Behind : Plan → Bool → ℕ → ℕ → Trace → State × Step → Type 0
Behind plan over worker by made (t, steps.Still) = SoFar plan worker made t
Behind plan over worker by made (t, steps.Made) = SoFar plan worker made t
Behind plan over worker by made (t, steps.Misused misuse) = FallsAs plan over worker made (get_or t.replies worker []) (next_call plan worker t) (if by == worker then Some misuse else None)

module _ (laws : Spells) (stand_laws : TurnStands) (uses : TurnsUse) (plan : Plan) (over : Bool) (goes : GoesOn plan) (by : ℕ) (s : State) (run : Run plan s) where
  of : IsStateOf plan s
  of = run.standing.of

  -- the state behind the turn
  state_of : (call : Call) (objects : List ObjectState) (waits : ℕ) (answer : Answer) → Takes plan by s call objects waits answer → IsStateOf plan (settled plan by call answer (moved by objects waits s)).0
  state_of call objects waits answer takes = subst (λ (x : State × Step). IsStateOf plan x.0) (turn_before plan by s call objects waits answer takes.next takes.turn) (goes by s of)

  answered_of : (call : Call) (objects : List ObjectState) (waits : ℕ) (reply : Reply (List ℕ)) → Takes plan by s call objects waits (answers.Completed reply) → IsOfScript plan by (get_or s.replies by []) call
      → IsStateOf plan (answered by call reply (moved by objects waits s))
  answered_of call objects waits reply takes is = subst (IsStateOf plan) (completed_script plan by (moved by objects waits s) call reply is) (state_of call objects waits (answers.Completed reply) takes)

  -- the turn's items are in the list of its worker, and in no other
  own_items : (made : List Item) (call : Call) → next_call plan by s ≡ Some call → by_worker by (made ++ made_by plan by s) ≡ by_worker by made ++ items_within call by s.moment (begun_by by s) s.objects
  own_items made call is =
      let turn = items_within call by s.moment (begun_by by s) s.objects in
      let is_turn : made_by plan by s ≡ turn = ap (λ (o : Option Call). option_map_or (λ call. items_within call by s.moment (begun_by by s) s.objects) o []) is in
      ap (λ (l : List Item). by_worker by (made ++ l)) is_turn ∙ filter-append (λ (item : Item). item.caller == by) made turn ∙ ap (λ (l : List Item). by_worker by made ++ l) (laws.by_itself by s.moment (begun_by by s) call s.objects)

  own_list : (made : List Item) (call : Call) → next_call plan by s ≡ Some call
      → made_in plan (made ++ made_by plan by s) by ≡ made_in plan made by ++ recorded plan (count_in (made_in plan made by)) (items_within call by s.moment (begun_by by s) s.objects)
  own_list made call is =
      let turn = items_within call by s.moment (begun_by by s) s.objects in
      let zero_first : 0 + count_in (made_in plan made by) ≡ count_in (made_in plan made by) = omega arith in
      ap (recorded plan 0) (own_items made call is) ∙ recorded-append plan 0 (by_worker by made) turn ∙ ap (λ (n : ℕ). made_in plan made by ++ recorded plan n turn) zero_first

  other_items : (made : List Item) (worker : ℕ) → worker ≢ by → by_worker worker (made ++ made_by plan by s) ≡ by_worker worker made
  other_items made worker apart =
      filter-append (λ (item : Item). item.caller == worker) made (made_by plan by s) ∙ ap (λ (l : List Item). by_worker worker made ++ l) (none (next_call plan by s)) ∙ append-nil (by_worker worker made)
    where
      none : (o : Option Call) → by_worker worker (option_map_or (λ call. items_within call by s.moment (begun_by by s) s.objects) o []) ≡ []
      none None = refl
      none (Some call) = laws.by_no_other by worker s.moment (begun_by by s) call s.objects (λ same. apart (sym same))

  -- ---- another worker

  module _ (worker : ℕ) (made : Trace) (apart : worker ≢ by) (h : SoFar plan worker made s) where
    abbrev first : ℕ
    first = count_in (items_in h.fallen.spelt)

    other_by : (o : Option Call) → next_call plan worker s ≡ o → StandsAs plan worker first h.fallen.last (stand_of worker s) o (begun_by worker s) s.objects
    other_by o is = subst (λ (o : Option Call). StandsAs plan worker first h.fallen.last (stand_of worker s) o (begun_by worker s) s.objects) is h.stands

    -- its objects behind the turn
    other_idle : (call : Call) (objects : List ObjectState) (waits : ℕ) (answer : Answer) → Takes plan by s call objects waits answer → next_call plan worker s ≡ None → EachAt (λ place. IsIdle worker) objects
    other_idle call objects waits answer takes none =
        takes_by (λ x. EachAt (λ place. IsIdle worker) x.0.0) plan by s call objects waits answer of takes (λ r. laws.idle plan.workers worker by s.moment (begun_by by s) call s.objects r apart (other_by None none).1)

    other_stands : (call : Call) (objects : List ObjectState) (waits : ℕ) (answer : Answer) → Takes plan by s call objects waits answer
        → StandsAs plan worker first h.fallen.last (stand_of worker s) (next_call plan worker s) (begun_by worker s) objects
    other_stands call objects waits answer takes = by_next (next_call plan worker s) refl
      where
        by_next : (o : Option Call) → next_call plan worker s ≡ o → StandsAs plan worker first h.fallen.last (stand_of worker s) o (begun_by worker s) objects
        by_next None none = ((other_by None none).0, other_idle call objects waits answer takes none)
        by_next (Some own) some =
            let stands = other_by (Some own) some in
            takes_by (λ x. StandsAs plan worker first h.fallen.last (stand_of worker s) (Some own) (begun_by worker s) x.0.0) plan by s call objects waits answer of takes
            (λ r.
            let kept = laws.others plan worker by (first + count_in h.fallen.last) s.moment (begun_by worker s) (begun_by by s) own call s.objects (ready plan worker s own of some) r apart in
            (kept.0 stands.0, λ later answer l. stands.1 later answer (kept.1 later answer l)))

    abbrev other_fallen : (given : List (Reply (List ℕ))) → given ≡ get_or s.replies worker [] → Fallen plan worker (more plan made by s) given
    other_fallen given same = record {
      spelt = h.fallen.spelt;
      last = h.fallen.last;
      rest = h.fallen.rest;
      runs = h.fallen.runs;
      replies = h.fallen.replies ∙ ap (map (recorded_reply plan)) (sym same);
      items = h.fallen.items ∙ sym (ap (recorded plan 0) (other_items made.all worker apart));
      turns = same_parts plan h.fallen.spelt h.fallen.last (made.parts worker) ((more plan made by s).parts worker)
          (λ k. ap (λ (l : List Item). made.parts worker k ++ l) (part_of_other plan worker k by s apart) ∙ append-nil (made.parts worker k)) h.fallen.turns;
      are = h.fallen.are;
      asleep = λ sleeps none. h.fallen.asleep sleeps (sym (other_items made.all worker apart) ∙ none);
    }

    other_so_far : (t : State) → get_or t.replies worker [] ≡ get_or s.replies worker [] → (stand_of worker t ≡ Waits → stand_of worker s ≡ Waits)
        → StandsAs plan worker first h.fallen.last (stand_of worker t) (next_call plan worker t) (begun_by worker t) t.objects → SoFar plan worker (more plan made by s) t
    other_so_far t same waits stands = record {
      fallen = other_fallen (get_or t.replies worker []) same;
      unstarted = λ waiting. other_items made.all worker apart ∙ h.unstarted (waits waiting);
      stands = stands;
    }

    -- it stands as before
    other_kept : (t : State) → get_or t.replies worker [] ≡ get_or s.replies worker [] → begun_by worker t ≡ begun_by worker s → stand_of worker t ≡ stand_of worker s
        → StandsAs plan worker first h.fallen.last (stand_of worker s) (next_call plan worker s) (begun_by worker s) t.objects → SoFar plan worker (more plan made by s) t
    other_kept t same same_begun same_stand stands =
        let given = get_or s.replies worker [] in
        other_so_far t same (λ waits. sym same_stand ∙ waits)
        (subst (λ (done : List (Reply (List ℕ))). StandsAs plan worker first h.fallen.last (stand_of worker t) (slice_get (left_with plan worker (stand_of worker t) done) 0) (begun_by worker t) t.objects) (sym same)
        (subst (λ (n : ℕ). StandsAs plan worker first h.fallen.last (stand_of worker t) (slice_get (left_with plan worker (stand_of worker t) given) 0) n t.objects) (sym same_begun)
        (subst (λ (stand : Stand). StandsAs plan worker first h.fallen.last stand (slice_get (left_with plan worker stand given) 0) (begun_by worker s) t.objects) (sym same_stand) stands)))

    other_moved : (call : Call) (objects : List ObjectState) (waits : ℕ) (answer : Answer) → Takes plan by s call objects waits answer → SoFar plan worker (more plan made by s) (moved by objects waits s)
    other_moved call objects waits answer takes = other_kept (moved by objects waits s) refl (begun_other by worker waits objects s apart) refl (other_stands call objects waits answer takes)

    -- it was started by the turn
    other_woken : (call : Call) (objects : List ObjectState) (waits : ℕ) (answer : Answer) → Takes plan by s call objects waits answer → (t : State) → IsStateOf plan t → t.objects ≡ objects
        → get_or t.replies worker [] ≡ get_or s.replies worker [] → begun_by worker t ≡ begun_by worker s → stand_of worker s ≡ Waits → stand_of worker t ≡ Live → SoFar plan worker (more plan made by s) t
    other_woken call objects waits answer takes t valid there same same_begun waited live =
        let asleep : stand_of worker s ≢ Live = λ (e : stand_of worker s ≡ Live). live_waits (sym e ∙ waited) in
        let none = not_live plan worker s asleep in
        let rests : (h.fallen.last ≡ []) × (begun_by worker s ≡ 0) = subst (λ (stand : Stand). Rests plan worker h.fallen.last stand (begun_by worker s)) waited (other_by None none).0 in
        let out : IsOutBut None worker s.objects = subst (λ (o : Option Call). IsOutBut (option_map_or (λ c. waits_within (kinds_in plan) c (begun_by worker s)) o None) worker s.objects) none (run.standing.out worker) in
        let out_behind = takes_by (λ x. IsOutBut None worker x.0.0) plan by s call objects waits answer of takes (λ r. stand_laws.others plan.workers worker by s.moment (begun_by by s) call None s.objects r apart out) in
        other_so_far t same (λ waits. absurd (live_waits (sym live ∙ waits)))
        (subst (λ (last : List Made). StandsAs plan worker first last (stand_of worker t) (next_call plan worker t) (begun_by worker t) t.objects) (sym rests.0)
        (fresh laws plan worker first t valid (live_rests plan worker t live) (same_begun ∙ rests.1) (subst (EachAt (λ place. IsIdle worker)) (sym there) (other_idle call objects waits answer takes none))
        (subst (IsOutBut None worker) (sym there) out_behind)))

    other_completed : (call : Call) (objects : List ObjectState) (waits : ℕ) (reply : Reply (List ℕ)) → Takes plan by s call objects waits (answers.Completed reply) → IsOfScript plan by (get_or s.replies by []) call
        → SoFar plan worker (more plan made by s) (answered by call reply (moved by objects waits s))
    other_completed call objects waits reply takes is =
        let t = answered by call reply (moved by objects waits s) in
        let same = replied_other by worker reply (moved by objects waits s) apart in
        let same_begun = replied_begun_other by worker reply (moved by objects waits s) apart ∙ begun_other by worker waits objects s apart in
        elim (started_stand (started_by call.operation) s.stands worker) [
          | inl stays ↦ other_kept t same same_begun stays (other_stands call objects waits (answers.Completed reply) takes)
          | inr wakes ↦ other_woken call objects waits (answers.Completed reply) takes t (answered_of call objects waits reply takes is) refl same same_begun wakes.waited wakes.live
        ]

    other_behind : Behind plan over worker by (more plan made by s) (turn_of plan by s)
    other_behind = turn_cases (Behind plan over worker by (more plan made by s)) plan by s of (record {
      ended = λ none. other_kept s refl refl refl h.stands;
      still = λ call objects waits takes. other_moved call objects waits answers.Still takes;
      unfinished = λ call objects waits takes. other_moved call objects waits answers.Unfinished takes;
      completed = λ call objects waits reply takes is. other_completed call objects waits reply takes is;
      closed = λ call objects waits reply takes is.
          other_kept (with_stand by Gone (moved by objects waits s)) refl (begun_other by worker waits objects s apart) (get_or-set_other s.stands by worker Gone Gone apart) (other_stands call objects waits (answers.Completed reply) takes);
      misused = λ call objects waits misuse takes. misused_by call objects waits misuse takes;
    })
      where
        not_by : (b : Bool) → (by == worker) ≡ b → b ≡ false
        not_by true is = absurd (apart (sym (eqb-true by worker is)))
        not_by false is = refl

        misused_by : (call : Call) (objects : List ObjectState) (waits : ℕ) (misuse : Misuse) → Takes plan by s call objects waits (answers.Misused misuse)
            → FallsAs plan over worker (more plan made by s) (get_or s.replies worker []) (next_call plan worker s) (if by == worker then Some misuse else None)
        misused_by call objects waits misuse takes =
            subst (λ (b : Bool). FallsAs plan over worker (more plan made by s) (get_or s.replies worker []) (next_call plan worker s) (if b then Some misuse else None)) (sym (not_by (by == worker) refl))
            (ends_line laws plan run.plain over worker (more plan made by s) (moved by objects waits s) (state_of call objects waits (answers.Misused misuse) takes) (other_moved call objects waits (answers.Misused misuse) takes))

  -- ---- the worker itself

  module _ (made : Trace) (h : SoFar plan by made s) where
    abbrev before : ℕ
    before = count_in (items_in h.fallen.spelt)

    abbrev so_many : ℕ
    so_many = count_in (made_in plan made.all by)

    count_is : before + count_in h.fallen.last ≡ so_many
    count_is = sym (count-append (items_in h.fallen.spelt) h.fallen.last) ∙ ap count_in h.fallen.items

    rest_is : h.fallen.rest ≡ left_of (get_or plan.scripts by []) (get_or s.replies by [])
    rest_is = rest_left laws plan by made (get_or s.replies by []) h.fallen

    module _ (call : Call) (some : next_call plan by s ≡ Some call) where
      abbrev turn_made : List Made
      turn_made = recorded plan so_many (items_within call by s.moment (begun_by by s) s.objects)

      abbrev own_last : List Made
      own_last = h.fallen.last ++ turn_made

      live : stand_of by s ≡ Live
      live = next_live plan by s call some

      own_stands : IsWithinCall by call (begun_by by s) s.objects
          × ((later : List Made) (answer : CallAnswer (Reply ℕ)) → left_within plan by so_many call s.objects (begun_by by s) later answer → SpellsCall plan by before call (h.fallen.last ++ later) answer)
      own_stands =
          let stands = subst (λ (o : Option Call). StandsAs plan by before h.fallen.last (stand_of by s) o (begun_by by s) s.objects) some h.stands in
          (stands.0, λ later answer l. stands.1 later answer (subst (λ (n : ℕ). left_within plan by n call s.objects (begun_by by s) later answer) (sym count_is) l))

      list_is : made_in plan (made.all ++ made_by plan by s) by ≡ items_in h.fallen.spelt ++ own_last
      list_is = own_list made.all call some ∙ ap (λ (l : List Made). l ++ turn_made) (sym h.fallen.items) ∙ append_assoc (items_in h.fallen.spelt) h.fallen.last turn_made

      -- they are the turn's, before this call
      own_turns : ByTurns plan h.fallen.spelt own_last ((more plan made by s).parts by)
      own_turns =
          let turn = items_within call by s.moment (begun_by by s) s.objects in
          let is_turn : made_by plan by s ≡ turn = ap (λ (o : Option Call). option_map_or (λ call. items_within call by s.moment (begun_by by s) s.objects) o []) some in
          let count = count_spelt plan by made (get_or s.replies by []) h.fallen in
          subst (λ (n : ℕ). ByTurns plan h.fallen.spelt (h.fallen.last ++ recorded plan n turn) ((more plan made by s).parts by)) count_is
          (more_last plan h.fallen.spelt h.fallen.last (made.parts by) ((more plan made by s).parts by) turn
          (ap (λ (l : List Item). made.parts by (length h.fallen.spelt) ++ l) (ap (λ (n : ℕ). part_by plan by n by s) (sym count) ∙ part_of_own plan by s ∙ is_turn))
          (λ k far. ap (λ (l : List Item). made.parts by k ++ l) (part_elsewhere plan by k s (λ same. far (same ∙ count))) ∙ append-nil (made.parts by k)) h.fallen.turns)

      -- as long as the call isn't completed
      abbrev own_fallen : Fallen plan by (more plan made by s) (get_or s.replies by [])
      own_fallen = record {
        spelt = h.fallen.spelt;
        last = own_last;
        rest = h.fallen.rest;
        runs = h.fallen.runs;
        replies = h.fallen.replies;
        items = sym list_is;
        turns = own_turns;
        are = h.fallen.are;
        asleep = λ sleeps none. h.fallen.asleep sleeps (none_before (by_worker by made.all) _ (sym (own_items made.all call some) ∙ none));
      }

      abbrev Told : Taken → Type 0
      Told x = Tells plan (left_within plan by so_many call s.objects (begun_by by s)) (left_within plan by (so_many + count_in turn_made) call x.0.0 x.0.1) turn_made x.1 × StandsAfter by call x.1 x.0.1 x.0.0

      told : (objects : List ObjectState) (waits : ℕ) (answer : Answer) → Takes plan by s call objects waits answer → Told ((objects, waits), answer)
      told objects waits answer takes =
          takes_by Told plan by s call objects waits answer of takes (λ r. laws.own plan by so_many s.moment (begun_by by s) call s.objects r (no_access plan.workers by call.operation call.object s.objects plan run.plain of.objects r) run.keys.maps (own_out stand_laws plan by s run.standing call some) own_stands.0)

      own_live : (t : State) → stand_of by t ≡ Live → stand_of by t ≡ Waits → by_worker by (more plan made by s).all ≡ []
      own_live t is waits = absurd (live_waits (sym is ∙ waits))

      -- a turn without an event
      own_still : (objects : List ObjectState) (waits : ℕ) → Takes plan by s call objects waits answers.Still → SoFar plan by (more plan made by s) (moved by objects waits s)
      own_still objects waits takes =
          let t = told objects waits answers.Still takes in
          let nothing : turn_made ≡ [] = t.0 in
          let same : moved by objects waits s ≡ s = still_same by s objects waits (takes_use uses plan by s call objects waits answers.Still of takes) in
          subst (SoFar plan by (more plan made by s)) (sym same) (record {
            fallen = own_fallen;
            unstarted = own_live s live;
            stands = subst (λ (l : List Made). StandsAs plan by before l (stand_of by s) (next_call plan by s) (begun_by by s) s.objects) (sym (ap (λ (l : List Made). h.fallen.last ++ l) nothing ∙ append-nil h.fallen.last)) h.stands;
          })

      -- an event after which the call has not returned
      own_unfinished : (objects : List ObjectState) (waits : ℕ) → Takes plan by s call objects waits answers.Unfinished → SoFar plan by (more plan made by s) (moved by objects waits s)
      own_unfinished objects waits takes =
          let t = told objects waits answers.Unfinished takes in
          let count : before + count_in own_last ≡ so_many + count_in turn_made = omega (arith, count-append h.fallen.last turn_made, count_is) in
          record {
            fallen = own_fallen;
            unstarted = own_live (moved by objects waits s) live;
            stands = subst (λ (o : Option Call). StandsAs plan by before own_last (stand_of by s) o (begun_by by (moved by objects waits s)) objects) (sym some)
                (subst (λ (n : ℕ). StandsAs plan by before own_last (stand_of by s) (Some call) n objects) (sym (begun_own by waits objects s (omega (arith, takes.below, of.waits)))) (
                  t.1,
                  λ later answer l.
                      subst (λ (items : List Made). SpellsCall plan by before call items answer) (sym (append_assoc h.fallen.last turn_made later))
                      (own_stands.1 (turn_made ++ later) answer (t.0 later answer (subst (λ (n : ℕ). left_within plan by n call objects waits later answer) count l))),
                ));
          }

      -- one that completes the call
      own_spells : (objects : List ObjectState) (waits : ℕ) (reply : Reply (List ℕ)) → Takes plan by s call objects waits (answers.Completed reply) → SpellsCall plan by before call own_last (Done (Ok (recorded_reply plan reply)))
      own_spells objects waits reply takes = own_stands.1 turn_made (Done (Ok (recorded_reply plan reply))) (told objects waits (answers.Completed reply) takes).0

      abbrev one_more : Reply (List ℕ) → SpeltCall
      one_more reply = record { call = call; items = own_last; reply = recorded_reply plan reply }

      own_completed : (objects : List ObjectState) (waits : ℕ) (reply : Reply (List ℕ)) → Takes plan by s call objects waits (answers.Completed reply) → IsOfScript plan by (get_or s.replies by []) call
          → SoFar plan by (more plan made by s) (answered by call reply (moved by objects waits s))
      own_completed objects waits reply takes is =
          let t = answered by call reply (moved by objects waits s) in
          let one = one_more reply in
          let spelt = h.fallen.spelt in
          let script = get_or plan.scripts by [] in
          let here : by < length s.replies = omega (arith, takes.below, of.workers) in
          let now : get_or t.replies by [] ≡ get_or s.replies by [] ++ reply ∷ [] = get_or-set_same s.replies by (get_or s.replies by [] ++ reply ∷ []) [] here in
          let spells = own_spells objects waits reply takes in
          let none : before ≡ 0 + before = omega arith in
          let first = count_in (items_in (spelt ++ one ∷ [])) in
          let still_live : stand_of by t ≡ Live = not_woken (started_by call.operation) s.stands by Live live_not live in
          let none_begun : begun_by by t ≡ 0 = replied_begun by reply (moved by objects waits s) (omega (arith, takes.below, of.waits, length-set s.begun by waits)) in
          record {
            fallen = record {
              spelt = spelt ++ one ∷ [];
              last = [];
              rest = drop (passed_over call one.reply) is.rest;
              runs = subst (λ (made : List (Call × Reply ℕ)). RunsAlong script made (drop (passed_over call one.reply) is.rest)) (sym (map-push (λ (x : SpeltCall). (x.call, x.reply)) spelt one))
                  (laws.runs.along script (calls_in spelt) call is.rest one.reply (subst (RunsAlong script (calls_in spelt)) (rest_is ∙ is.left) h.fallen.runs));
              replies = map-push (λ (x : SpeltCall). x.reply) spelt one ∙ ap (λ (l : List (Reply ℕ)). l ++ recorded_reply plan reply ∷ []) h.fallen.replies
                  ∙ sym (map-push (recorded_reply plan) (get_or s.replies by []) reply) ∙ ap (map (recorded_reply plan)) (sym now);
              items = append-nil (items_in (spelt ++ one ∷ [])) ∙ flat-push spelt one ∙ sym list_is;
              turns = more_spelt plan spelt one ((more plan made by s).parts by) own_turns;
              are = spelt-push plan by 0 spelt one h.fallen.are (subst (λ (n : ℕ). SpellsCall plan by n call one.items (Done (Ok one.reply))) none spells);
              asleep = λ sleeps nothing. absurd (some_spell plan by before call takes.below one.items (Done (Ok one.reply)) spells (none_behind (items_in spelt) one.items (sym list_is ∙ ap (recorded plan 0) nothing)));
            };
            unstarted = own_live t still_live;
            stands = fresh laws plan by first t (answered_of call objects waits reply takes is) (live_rests plan by t still_live) none_begun (told objects waits (answers.Completed reply) takes).1
                (own_at stand_laws plan by s run.standing call objects waits (answers.Completed reply) takes);
          }

      -- one that completes the `done` behind the script
      own_closed : (objects : List ObjectState) (waits : ℕ) (reply : Reply (List ℕ)) → Takes plan by s call objects waits (answers.Completed reply) → IsClosing plan by (get_or s.replies by []) call
          → SoFar plan by (more plan made by s) (with_stand by Gone (moved by objects waits s))
      own_closed objects waits reply takes is =
          let t = with_stand by Gone (moved by objects waits s) in
          let gone : stand_of by t ≡ Gone = gone_own s.stands by in
          let not_live_then : stand_of by t ≢ Live = λ (e : stand_of by t ≡ Live). gone_live (sym gone ∙ e) in
          let done : done_part plan by own_last (Done (Ok tt)) =
          done_spelt plan by before is.group own_last (Done (Ok (recorded_reply plan reply))) is.waits is.under (subst (λ (c : Call). SpellsCall plan by before c own_last (Done (Ok (recorded_reply plan reply)))) is.is (own_spells objects waits reply takes)) in
          record {
            fallen = own_fallen;
            unstarted = λ waits. absurd (gone_waits (sym gone ∙ waits));
            stands = subst (λ (o : Option Call). StandsAs plan by before own_last (stand_of by t) o (begun_by by t) objects) (sym (not_live plan by t not_live_then))
                (subst (λ (stand : Stand). Rests plan by own_last stand (begun_by by t)) (sym gone) done, (told objects waits (answers.Completed reply) takes).1);
          }

      own_misused : (objects : List ObjectState) (waits : ℕ) (misuse : Misuse) → Takes plan by s call objects waits (answers.Misused misuse)
          → FallsAs plan over by (more plan made by s) (get_or s.replies by []) (next_call plan by s) (Some misuse)
      own_misused objects waits misuse takes = by_came (came plan (more plan made by s).all by) refl
        where
          spells : SpellsCall plan by before call own_last (Done (Err misuse))
          spells = own_stands.1 turn_made (Done (Err misuse)) (told objects waits (answers.Misused misuse) takes).0

          by_sort : IsOfScript plan by (get_or s.replies by []) call ⊎ IsClosing plan by (get_or s.replies by []) call → EndsBy plan by before (misused misuse) h.fallen.rest own_last
          by_sort (inl is) = subst (λ (rest : List Call). EndsBy plan by before (misused misuse) rest own_last) (sym (rest_is ∙ is.left)) spells
          by_sort (inr is) =
              let done : done_part plan by own_last (Done (Err misuse)) =
              done_spelt plan by before is.group own_last (Done (Err misuse)) is.waits is.under (subst (λ (c : Call). SpellsCall plan by before c own_last (Done (Err misuse))) is.is spells) in
              subst (λ (rest : List Call). EndsBy plan by before (misused misuse) rest own_last) (sym (rest_is ∙ is.none)) (closes_misused plan by is.waits own_last misuse done)

          by_came : (b : Bool) → came plan (more plan made by s).all by ≡ b → FallsAs plan over by (more plan made by s) (get_or s.replies by []) (next_call plan by s) (Some misuse)
          by_came true is = misused_line plan over by (more plan made by s) (get_or s.replies by []) (next_call plan by s) (Some misuse) own_fallen misuse refl is (by_sort (next_is plan by s call some))
          by_came false is = stayed_line plan over by (more plan made by s) (get_or s.replies by []) (next_call plan by s) (Some misuse) own_fallen is

    -- one that stands before no call makes nothing
    own_ended : next_call plan by s ≡ None → SoFar plan by (more plan made by s) s
    own_ended none =
        let nothing : made_by plan by s ≡ [] = ap (λ (o : Option Call). option_map_or (λ call. items_within call by s.moment (begun_by by s) s.objects) o []) none in
        let same : (more plan made by s).all ≡ made.all = ap (λ (l : List Item). made.all ++ l) nothing ∙ append-nil made.all in
        record {
          fallen = record {
            spelt = h.fallen.spelt;
            last = h.fallen.last;
            rest = h.fallen.rest;
            runs = h.fallen.runs;
            replies = h.fallen.replies;
            items = h.fallen.items ∙ sym (ap (λ (l : List Item). made_in plan l by) same);
            turns = same_parts plan h.fallen.spelt h.fallen.last (made.parts by) ((more plan made by s).parts by)
                (λ k. ap (λ (l : List Item). made.parts by k ++ l) (no_part k nothing ((by == by) && stands_before by k s)) ∙ append-nil (made.parts by k)) h.fallen.turns;
            are = h.fallen.are;
            asleep = λ sleeps none. h.fallen.asleep sleeps (sym (ap (by_worker by) same) ∙ none);
          };
          unstarted = λ waits. ap (by_worker by) same ∙ h.unstarted waits;
          stands = h.stands;
        }
      where
        no_part : (k : ℕ) → made_by plan by s ≡ [] → (b : Bool) → (if b then made_by plan by s else []) ≡ []
        no_part k nothing true = nothing
        no_part k nothing false = refl

    own_behind : Behind plan over by by (more plan made by s) (turn_of plan by s)
    own_behind = turn_cases (Behind plan over by by (more plan made by s)) plan by s of (record {
      ended = own_ended;
      still = λ call objects waits takes. own_still call takes.next objects waits takes;
      unfinished = λ call objects waits takes. own_unfinished call takes.next objects waits takes;
      completed = λ call objects waits reply takes is. own_completed call takes.next objects waits reply takes is;
      closed = λ call objects waits reply takes is. own_closed call takes.next objects waits reply takes is;
      misused = λ call objects waits misuse takes.
          subst (λ (b : Bool). FallsAs plan over by (more plan made by s) (get_or s.replies by []) (next_call plan by s) (if b then Some misuse else None)) (sym (eq-eqb by by refl)) (own_misused call takes.next objects waits misuse takes);
    })

  pub turn_behind : (made : Trace) → ((worker : ℕ) → SoFar plan worker made s) → (worker : ℕ) → Behind plan over worker by (more plan made by s) (turn_of plan by s)
  turn_behind made all worker = by_worker_is (eqb worker by) refl
    where
      by_worker_is : (b : Bool) → eqb worker by ≡ b → Behind plan over worker by (more plan made by s) (turn_of plan by s)
      by_worker_is true is = subst (λ (w : ℕ). Behind plan over w by (more plan made by s) (turn_of plan by s)) (sym (eqb-true worker by is)) (own_behind made (all by))
      by_worker_is false far = other_behind worker made (eqb-false worker by far) (all worker)

-- ---- turns in order

module _ (laws : Spells) (stand_laws : TurnStands) (uses : TurnsUse) (plan : Plan) (over : Bool) (goes : GoesOn plan) (kept : Kept plan (Run plan)) where
  abbrev After : ℕ → Trace → State → Option Misuse → Type 0
  After worker made t met = FallsAs plan over worker made (get_or t.replies worker []) (next_call plan worker t) met

  -- what a turn and what follows it make behind others
  abbrev behind_all : Trace → ℕ → State → List Turn → State × Step → Trace
  behind_all made by s rest x = record {
    all = made.all ++ (made_by plan by s ++ unless_ended x (all_made plan rest));
    parts = λ worker number. made.parts worker number ++ (part_by plan worker number by s ++ unless_ended x (made_for plan worker number rest));
  }

  -- what turns make behind others
  abbrev joined : Trace → List Turn → State → Trace
  joined made list s = record { all = made.all ++ all_made plan list s; parts = λ worker number. made.parts worker number ++ made_for plan worker number list s }

  with_clock : (worker moment : ℕ) (made : Trace) (s : State) → SoFar plan worker made s → SoFar plan worker made (with_moment moment s)
  with_clock worker moment made s h = record { fallen = h.fallen; unstarted = h.unstarted; stands = h.stands }

  goes_behind : (made : Trace) (by : ℕ) (s : State) (rest : List Turn) (t : State) → joined (more plan made by s) rest t ≡ behind_all made by s rest (t, steps.Still)
  goes_behind made by s rest t =
      λ i.
      record {
        all = append_assoc made.all (made_by plan by s) (all_made plan rest t) i;
        parts = λ worker number. append_assoc (made.parts worker number) (part_by plan worker number by s) (made_for plan worker number rest t) i;
      }

  ends_behind : (made : Trace) (by : ℕ) (s : State) (rest : List Turn) (t : State) (misuse : Misuse) → more plan made by s ≡ behind_all made by s rest (t, steps.Misused misuse)
  ends_behind made by s rest t misuse =
      λ i.
      record {
        all = made.all ++ sym (append-nil (made_by plan by s)) i;
        parts = λ worker number. made.parts worker number ++ sym (append-nil (part_by plan worker number by s)) i;
      }

  later_fall : (rest : List Turn) (made : Trace) (by : ℕ) (s : State) (x : State × Step) → Run plan x.0 → ((worker : ℕ) → Behind plan over worker by (more plan made by s) x)
      → ((earlier : Trace) (t : State) → Run plan t → ((worker : ℕ) → SoFar plan worker earlier t) → (worker : ℕ) → After worker (joined earlier rest t) (after_items plan rest t) (misuse_of plan worker rest t))
      → (worker : ℕ) → After worker (behind_all made by s rest x) (and_then x (after_all plan rest)).0 (misuse_by worker by x (misuse_of plan worker rest))
  later_fall rest made by s (t, steps.Still) run all later worker = subst (λ (m : Trace). After worker m (after_items plan rest t) (misuse_of plan worker rest t)) (goes_behind made by s rest t) (later (more plan made by s) t run all worker)
  later_fall rest made by s (t, steps.Made) run all later worker =
      subst (λ (u : State). After worker (behind_all made by s rest (t, steps.Made)) u (misuse_of plan worker rest t)) (sym (event_state (after_all plan rest t)))
      (subst (λ (m : Trace). After worker m (after_items plan rest t) (misuse_of plan worker rest t)) (goes_behind made by s rest t) (later (more plan made by s) t run all worker))
  later_fall rest made by s (t, steps.Misused misuse) run all later worker = subst (λ (m : Trace). After worker m t (if by == worker then Some misuse else None)) (ends_behind made by s rest t misuse) (all worker)

  nothing_behind : (made : Trace) (s : State) → made ≡ joined made [] s
  nothing_behind made s = λ i. record { all = sym (append-nil made.all) i; parts = λ worker number. sym (append-nil (made.parts worker number)) i }

  pub items_fall : (list : List Turn) (made : Trace) (s : State) → Run plan s → ((worker : ℕ) → SoFar plan worker made s) → (worker : ℕ) → After worker (joined made list s) (after_items plan list s) (misuse_of plan worker list s)
  items_fall [] made s run all worker = subst (λ (m : Trace). After worker m s None) (nothing_behind made s) (ends_line laws plan run.plain over worker made s run.standing.of (all worker))
  items_fall (items.Worker by ∷ rest) made s run all worker =
      later_fall rest made by s (turn_of plan by s) (kept.turn by s run) (turn_behind laws stand_laws uses plan over goes by s run made all) (items_fall rest) worker
  items_fall (items.Moment moment ∷ rest) made s run all worker =
      items_fall rest made (with_moment moment s) (kept.moment moment s run) (λ w. with_clock w moment made s (all w)) worker

-- ---- from the start on

-- nothing was made
abbrev pub nothing : Trace
nothing = record { all = []; parts = λ worker number. [] }

-- who isn't a worker doesn't wait
first_gone : (dormant : List Bool) (k : ℕ) → get_or (map first_stand dormant) k Gone ≡ Gone → get_or dormant k false ≡ false
first_gone [] k gone = refl
first_gone (true ∷ dormant) zero gone = absurd cc
first_gone (false ∷ dormant) zero gone = refl
first_gone (waits ∷ dormant) (suc k) gone = first_gone dormant k gone

pub begun : Spells → TurnStands → (plan : Plan) → IsStateOf plan (start plan) → (worker : ℕ) → SoFar plan worker nothing (start plan)
begun laws stand_laws plan of worker = record {
  fallen = record {
    spelt = [];
    last = [];
    rest = get_or plan.scripts worker [];
    runs = refl;
    replies = ap (map (recorded_reply plan)) (sym (none_replied plan.workers worker));
    items = refl;
    turns = record { each = λ k one at. absurd cc; current = refl; later = λ k far. refl };
    are = tt;
    asleep = λ sleeps none. refl;
  };
  unstarted = λ waits. refl;
  stands = fresh laws plan worker 0 (start plan) of (by_stand (stand_of worker (start plan)) refl) (none_begun plan.workers worker)
      (each_start (λ place. IsIdle worker) plan (λ place kind. laws.begins worker plan.workers (puts_at place plan.scripts) (keys_in plan.scripts) kind))
      (each_start (λ place object. (None ≡ Some place → ⊥) → IsOutAt worker object) plan (λ place kind far. stand_laws.begins worker plan.workers (puts_at place plan.scripts) (keys_in plan.scripts) kind));
}
  where
    by_stand : (stand : Stand) → stand_of worker (start plan) ≡ stand → Rests plan worker [] stand (begun_by worker (start plan))
    by_stand Waits is = (refl, none_begun plan.workers worker)
    by_stand Live is = refl
    by_stand Gone is = awake_done plan worker (first_gone plan.dormant worker is)
