-- Along a run each `range` is a cursor that shows what its map holds at that moment.
use Rattle.std.proofs.Common.{◌≡◌, ℕ, zero, suc, ◌+◌, ◌<◌, ◌≤◌, ◌==◌, not, Bool, true, false, cond, List, [], ◌∷◌, ◌++◌, map, filter, flat_map, fold, length, None, Some, slice_get, refl, sym, ap, ◌∙◌, subst, append-nil, append_assoc, arith}
use Rattle.std.specs.FinMap.{entries}
use Rattle.std.specs.List.{range_with_len}
use Rattle.std.proofs.Math.Seq.{take-length}
use Rattle.std.proofs.lemmas.Bool.{eq-eqb}
use Rattle.std.proofs.lemmas.List.Sums.{fold-append}
use Rattle.std.proofs.lemmas.Option.{none-some}
use Rattle.sync_types.specs.Renaming.{IsRenamed}
use Rattle.sync_types.specs.declared.atomic_object.Number.{Number}
use Rattle.script_calls.specs.declared.call.Operation.{Operation}
use Rattle.script_calls.specs.declared.call.Operation.TheVariants as operations
use Rattle.script_calls.specs.declared.call.Reply.{Reply}
use Rattle.script_calls.specs.declared.call.Reply.TheVariants as replies
use Rattle.sync_model.specs.declared.item.Item.{Item as Call}
use Rattle.sync_model.specs.declared.item.SharedCall.{SharedCall}
use Rattle.sync_model.specs.declared.item.SharedCall.TheVariants as calls
use Rattle.sync_model.specs.declared.item.SharedReply.{SharedReply}
use Rattle.sync_model.specs.declared.item.SharedReply.TheVariants as answers
use Rattle.sync_model.specs.SharedHistory.{Contents, map_at, number_at, contents_after, contents_at}
use Rattle.starts_core.specs.declared.starts.StartEvent.TheVariants as starts
use Rattle.starts_core.specs.declared.starts.StartReply.TheVariants as told
use Rattle.workload.specs.Keys.{keys_in, key_number, key_name}
use Rattle.workload.specs.Plan.{Plan, has_dormant}
use Rattle.run_record.specs.declared.made.Made.{Made}
use Rattle.run_record.specs.declared.made.Made.TheVariants.{Shared, Entered}
use Rattle.run_record.specs.MapKind.{step_showing, cursor_showing}
use Rattle.run_record.specs.Objects.{contents_of, map_number, atomic_number}
use Rattle.run_record.specs.Record.{shared_in}
use Rattle.kept_record.specs.Acts.{AreAnswered, bare}
use Rattle.kept_record.specs.Keeping.{Act, Account, made_by, with_act, opened, account_of}
use Rattle.step_runner.specs.declared.turns.item.Deed.{Deed}
use Rattle.step_runner.specs.declared.turns.item.Deed.TheVariants as deeds
use Rattle.step_runner.specs.declared.turns.item.Item.{Item}
use Rattle.step_runner.specs.declared.turns.object_state.ObjectState.{ObjectState}
use Rattle.step_runner.specs.declared.turns.object_state.ObjectState.TheVariants as states
use Rattle.step_runner.specs.LeadsTo.{on_object, MapGoes, AtomicGoes, VarGoes}
use Rattle.step_runner.specs.Recorded.{made_shared, shared_calls, recorded_deed, recorded_item}
use Rattle.step_runner.specs.Spelt.{made_on_starts}
use Rattle.scheduled_record.specs.RunActs.{acts_by, waits_still, going_acts, with_item, acts_of, ending_acts, leaving_acts, closing_acts, closed_acts}
use Rattle.scheduled_record.proofs.Begun.{event_none}
use Rattle.scheduled_record.proofs.Contents.{ByKey, behind_all, behind_both, ContentLaws, HoldsAt, HasLine, Holds, Goes, by_deed, going_leaves}
use Rattle.scheduled_record.proofs.ContentsBegin.{history_makes}
use Rattle.scheduled_record.proofs.CursorKept.{calls_kept, HasCursors, ArePlain, plain_keep, AreSteps, steps_add, cursor_keeps, same_count}
use Rattle.scheduled_record.proofs.CursorShows.{shows_all}
use Rattle.scheduled_record.proofs.Cursors.{Shows, new_cursor}
use Rattle.scheduled_record.specs.ItemsOf.{is_key, IsDeedOn, AreItemsOf}
use Rattle.scheduled_record.proofs.Lists.{made-append, shared-append}

-- ---- acts that are no cursor's

silent_plain : (w : ℕ) (made : List Made) → shared_in made ≡ [] → ArePlain (acts_by w made)
silent_plain w [] none = tt
silent_plain w (Shared x ∷ made) none = absurd cc
silent_plain w (Entered object entry ∷ made) none = (tt, silent_plain w made none)

both_plain : (acts more : List Act) → ArePlain acts → ArePlain more → ArePlain (acts ++ more)
both_plain [] more first second = second
both_plain (act ∷ acts) more first second = (first.0, both_plain acts more first.1 second)

workers_plain : (makes : ℕ → List Made) (passes : ℕ → Bool) → ((w : ℕ) → ArePlain (acts_by w (makes w))) → (first count : ℕ) → ArePlain (flat_map (λ w. acts_by w (makes w)) (filter passes (range_with_len first count)))
workers_plain makes passes each first zero = tt
workers_plain makes passes each first (suc count) = chosen (passes first) (workers_plain makes passes each (first + 1) count) where
  chosen : (b : Bool) → ArePlain (flat_map (λ w. acts_by w (makes w)) (filter passes (range_with_len (first + 1) count)))
      → ArePlain (flat_map (λ w. acts_by w (makes w)) (cond b (first ∷ filter passes (range_with_len (first + 1) count)) (filter passes (range_with_len (first + 1) count))))
  chosen true rest = both_plain (acts_by first (makes first)) (flat_map (λ w. acts_by w (makes w)) (filter passes (range_with_len (first + 1) count))) (each first) rest
  chosen false rest = rest

module _ (plan : Plan) where
  closing_plain : (acts : List Act) → ArePlain (closing_acts plan acts)
  closing_plain acts = chosen (has_dormant plan) where
    chosen : (b : Bool) → ArePlain (cond b (ending_acts plan acts ++ leaving_acts plan acts) [])
    chosen true = both_plain (ending_acts plan acts) (leaving_acts plan acts)
        (workers_plain (λ w. made_on_starts plan w starts.End told.Done) (λ w. not (waits_still plan acts w)) (λ w. (tt, tt)) 0 plan.workers)
        (workers_plain (λ w. made_on_starts plan w starts.Leave told.Never) (waits_still plan acts) (λ w. (tt, tt)) 0 plan.workers)
    chosen false = tt

  going_plain : (acts : List Act) (w : ℕ) → ArePlain (going_acts plan acts w)
  going_plain acts w = chosen (waits_still plan acts w) where
    chosen : (b : Bool) → ArePlain (acts_by w (cond b (made_on_starts plan w starts.Leave told.Go) []))
    chosen true = (tt, tt)
    chosen false = tt

  going_silent : (acts : List Act) (w : ℕ) → shared_in (made_by w (going_acts plan acts w)) ≡ []
  going_silent acts w = chosen (waits_still plan acts w) (w == w) refl where
    chosen : (b c : Bool) → (w == w) ≡ c → shared_in (made_by w (acts_by w (cond b (made_on_starts plan w starts.Leave told.Go) []))) ≡ []
    chosen true true is = ap (λ (c : Bool). shared_in (cond c (made_on_starts plan w starts.Leave told.Go) [])) is
    chosen true false is = ap (λ (c : Bool). shared_in (cond c (made_on_starts plan w starts.Leave told.Go) [])) is
    chosen false c is = refl

  steps_are : (m b : ℕ) (shown : List (ℕ × ℕ)) → AreSteps (map (step_showing (keys_in plan.scripts) m b) shown ++ (calls.Next b, answers.Shown None) ∷ [])
  steps_are m b [] = (tt, tt)
  steps_are m b (pair ∷ shown) = (tt, steps_are m b shown)

  -- ---- a `range` shows what its map holds

  record Held (place : ℕ) (pairs : List (List ℕ × ℕ)) (contents : Contents) : Type 0 where
    m : ByKey
    renamed : IsRenamed (key_number (keys_in plan.scripts)) (is_key plan) m (map_at contents (map_number plan.objects place))
    are : pairs ≡ entries m

  abbrev range_of : (place caller : ℕ) → List (List ℕ × ℕ) → Item
  range_of place caller pairs = record { object = place; caller = caller; deed = deeds.Placed operations.Range (replies.Pairs pairs) }

  same_pairs : (m next : ByKey) (pairs : List (List ℕ × ℕ)) (operation : Operation) (reply : Reply (List ℕ)) → deeds.Placed operations.Range (replies.Pairs pairs) ≡ deeds.Placed operation reply → MapGoes operation m reply next → pairs ≡ entries m
  same_pairs m next pairs operation reply same goes = pairs_are ((subst (λ (x : Operation). MapGoes x m (replies.Pairs pairs) next) asks (subst (λ (r : Reply (List ℕ)). MapGoes operation m r next) gives goes)).0) where
    asks : operation ≡ operations.Range
    asks = cc

    gives : reply ≡ replies.Pairs pairs
    gives = cc

    pairs_are : replies.Pairs pairs ≡ replies.Pairs (entries m) → pairs ≡ entries m
    pairs_are e = cc

  module _ (pairs : List (List ℕ × ℕ)) (operation : Operation) (reply : Reply (List ℕ)) (same : deeds.Placed operations.Range (replies.Pairs pairs) ≡ deeds.Placed operation reply) where
    is_range : operation ≡ operations.Range
    is_range = cc

    on_atomic : (first next : Number) → AtomicGoes operation first reply next → ⊥
    on_atomic first next goes = subst (λ (x : Operation). AtomicGoes x first reply next) is_range goes

    on_var : (first next : ℕ) → VarGoes operation first reply next → ⊥
    on_var first next goes = subst (λ (x : Operation). VarGoes x first reply next) is_range goes

  held : (place caller : ℕ) (pairs : List (List ℕ × ℕ)) (made : List Item) (contents : Contents) (o : ObjectState) → HoldsAt plan place o (range_of place caller pairs ∷ made) contents → Held place pairs contents
  held place caller pairs made contents (states.Map last) here = let calls = here.2 in record { m = here.0; renamed = here.1; are = same_pairs here.0 calls.2 pairs calls.0 calls.1 calls.3 calls.4 }
  held place caller pairs made contents (states.Atomic last) here = absurd (on_atomic pairs here.0 here.1 here.3 (number_at contents (atomic_number plan.objects place)) here.2 here.4)
  held place caller pairs made contents (states.Var last) here = let calls = here.1 in absurd (on_var pairs calls.0 calls.1 calls.3 here.0 calls.2 calls.4)
  held place caller pairs made contents (states.Mutex m) here = absurd here.0
  held place caller pairs made contents (states.RwMutex m) here = absurd here.0
  held place caller pairs made contents (states.Cond m other) here = absurd here.0
  held place caller pairs made contents (states.WaitGroup m other) here = absurd here.0
  held place caller pairs made contents (states.Once m other delta) here = absurd here.0
  held place caller pairs made contents (states.OnceFunc m code) here = absurd here.0
  held place caller pairs made contents (states.OnceValue m value) here = absurd here.0
  held place caller pairs made contents (states.Pool m) here = absurd here.0
  held place caller pairs made contents (states.Sema m size) here = absurd here.0
  held place caller pairs made contents (states.Flight m keys other delta) here = absurd here.0

  -- ---- an item

  abbrev start : Contents
  start = contents_of plan

  module _ (named : (word : List ℕ) → is_key plan word ≡ true → key_name (keys_in plan.scripts) (key_number (keys_in plan.scripts) word) ≡ word) (kept : Account) (caller before : ℕ) (long : length (calls_kept kept caller) ≡ before) (contents : Contents)
      (whole : contents_at start kept.history (length kept.history) ≡ contents) (has : HasCursors start kept) where
    abbrev IsKept : List Made → Type 0
    IsKept made = HasCursors start (fold with_act kept (acts_by caller made))

    range_kept : (place : ℕ) (pairs : List (List ℕ × ℕ)) → Held place pairs contents → IsKept (map (made_shared plan) (shared_calls plan before place operations.Range (replies.Pairs pairs)))
    range_kept place pairs holds =
        let mine = map_number plan.objects place in
        let shown : List (ℕ × ℕ) = map (λ (pair : List ℕ × ℕ). (key_number (keys_in plan.scripts) pair.0, pair.1)) pairs in
        let asked : List (SharedCall × SharedReply) = cursor_showing (keys_in plan.scripts) mine before shown in
        let adds = steps_add plan caller kept asked (tt, steps_are mine before shown) in
        let shows : Shows (map_at (contents_at start kept.history (length kept.history)) mine) shown =
        subst (λ (c : Contents). Shows (map_at c mine) shown) (sym whole)
        (subst (λ (l : List (List ℕ × ℕ)). Shows (map_at contents mine) (map (λ (pair : List ℕ × ℕ). (key_number (keys_in plan.scripts) pair.0, pair.1)) l)) (sym holds.are)
        (shows_all (key_name (keys_in plan.scripts)) (key_number (keys_in plan.scripts)) (is_key plan) named holds.m (map_at contents mine) holds.renamed)) in
        cursor_keeps plan caller start kept asked (fold with_act kept (acts_by caller (map (made_shared plan) asked))) adds
        (new_cursor (keys_in plan.scripts) mine (length kept.history) before start kept.history (calls_kept kept caller) long (has.below caller) (same (length kept.history)) shown shows adds.added adds.are) has
      where
        same : (n : ℕ) → n ≤ n
        same n = omega arith

    placed_kept : (place : ℕ) (operation : Operation) (reply : Reply (List ℕ)) → ((pairs : List (List ℕ × ℕ)) → operation ≡ operations.Range → reply ≡ replies.Pairs pairs → Held place pairs contents)
        → IsKept (map (made_shared plan) (shared_calls plan before place operation reply))
    placed_kept place (operations.Map call) (replies.Map reply) holds = plain_keep start kept (acts_by caller (map (made_shared plan) (shared_calls plan before place (operations.Map call) (replies.Map reply)))) (tt, tt) has
    placed_kept place operations.Range (replies.Pairs pairs) holds = range_kept place pairs (holds pairs refl refl)
    placed_kept place (operations.Atomic call) (replies.Atomic reply) holds = plain_keep start kept (acts_by caller (map (made_shared plan) (shared_calls plan before place (operations.Atomic call) (replies.Atomic reply)))) (tt, tt) has
    placed_kept place operation reply holds = has

    deed_kept : (place : ℕ) (deed : Deed) → ((pairs : List (List ℕ × ℕ)) → deed ≡ deeds.Placed operations.Range (replies.Pairs pairs) → Held place pairs contents) → IsKept (recorded_deed plan before place caller deed)
    deed_kept place (deeds.Placed operation reply) holds = placed_kept place operation reply (λ pairs asks gives. holds pairs (ap (λ (x : Operation). deeds.Placed x reply) asks ∙ ap (λ (r : Reply (List ℕ)). deeds.Placed operations.Range r) gives))
    deed_kept place (deeds.Entered event answer) holds = plain_keep start kept (acts_by caller (recorded_deed plan before place caller (deeds.Entered event answer))) (silent_plain caller (recorded_deed plan before place caller (deeds.Entered event answer)) (event_none plan place caller event answer)) has

  -- ---- a run

  module _ (laws : ContentLaws plan) (ends : List ObjectState) (lines : (place : ℕ) (o : ObjectState) → slice_get ends place ≡ Some o → HasLine plan place o) (there : (place : ℕ) → place < length plan.objects → (o : ObjectState) × (slice_get ends place ≡ Some o))
      (named : (word : List ℕ) → is_key plan word ≡ true → key_name (keys_in plan.scripts) (key_number (keys_in plan.scripts) word) ≡ word)
      (bares : (acts : List Act) → map bare (account_of plan acts).acts ≡ map bare acts) where
    item_held : (item : Item) (items : List Item) (contents : Contents) → IsDeedOn plan item.object item.deed → Holds plan ends (item ∷ items) contents → (pairs : List (List ℕ × ℕ)) → item.deed ≡ deeds.Placed operations.Range (replies.Pairs pairs) → Held item.object pairs contents
    item_held item items contents on holds pairs is =
        let here = there item.object (subst (IsDeedOn plan item.object) is on).0 in
        held item.object item.caller pairs (on_object item.object items) contents here.0
        (subst (λ (d : Deed). HoldsAt plan item.object here.0 (record { object = item.object; caller = item.caller; deed = d } ∷ on_object item.object items) contents) is
        (subst (λ (b : Bool). HoldsAt plan item.object here.0 (cond b (item ∷ on_object item.object items) (on_object item.object items)) contents) (eq-eqb item.object item.object refl) (holds.at item.object here.0 here.1)))

    pub items_kept : (acts : List Act) (items : List Item) → AreItemsOf plan items → Holds plan ends items (behind_all start acts) → HasCursors start (account_of plan acts) → HasCursors start (account_of plan (fold (with_item plan) acts items))
    items_kept acts [] of holds has = has
    items_kept acts (item ∷ items) of holds has = items_kept (acts ++ (going ++ own)) items of.1
        (subst (λ (c : Contents). Holds plan ends items c) (sym (behind_both start acts (going ++ own) ∙ (behind_both contents going own ∙ ap (λ (c : Contents). behind_all c own) leaves.1))) goes.1)
        (subst (λ (l : List Act). HasCursors start (account_of plan l)) (append_assoc acts going own) (subst (λ (k : Account). HasCursors start k) (sym (fold-append with_act (opened plan) (acts ++ going) own)) kept_own))
      where
        contents : Contents
        contents = behind_all start acts

        going : List Act
        going = going_acts plan acts item.caller

        before : ℕ
        before = length (shared_in (made_by item.caller acts))

        own : List Act
        own = acts_by item.caller (recorded_item plan before item)

        leaves : AreAnswered contents going × (behind_all contents going ≡ contents)
        leaves = going_leaves plan laws ends lines there acts item.caller contents

        goes : Goes plan laws ends lines items contents own
        goes = by_deed plan laws ends lines there item.object item.caller before item.deed items contents of.0.on holds

        kept : Account
        kept = account_of plan (acts ++ going)

        has_going : HasCursors start kept
        has_going = subst (λ (k : Account). HasCursors start k) (sym (fold-append with_act (opened plan) acts going)) (plain_keep start (account_of plan acts) going (going_plain acts item.caller) has)

        long : length (calls_kept kept item.caller) ≡ before
        long = same_count item.caller kept.acts (acts ++ going) (bares (acts ++ going))
            ∙ ap (length {A = Call}) (ap shared_in (made-append item.caller acts going) ∙ (shared-append (made_by item.caller acts) (made_by item.caller going)
            ∙ (ap (λ (l : List Call). shared_in (made_by item.caller acts) ++ l) (going_silent acts item.caller) ∙ append-nil (shared_in (made_by item.caller acts)))))

        whole : contents_at start kept.history (length kept.history) ≡ contents
        whole = ap (contents_after start) (take-length kept.history) ∙ (history_makes plan (acts ++ going) ∙ (behind_both start acts going ∙ leaves.1))

        kept_own : HasCursors start (fold with_act kept own)
        kept_own = deed_kept named kept item.caller before long contents whole has_going item.object item.deed (item_held item items contents of.0.on holds)

  none_yet : HasCursors start (opened plan)
  none_yet = record { each = λ c b m x at is. absurd (none-some x at); below = λ c i b y at is. absurd (none-some y at) }

  module _ (laws : ContentLaws plan) (ends : List ObjectState) (lines : (place : ℕ) (o : ObjectState) → slice_get ends place ≡ Some o → HasLine plan place o) (there : (place : ℕ) → place < length plan.objects → (o : ObjectState) × (slice_get ends place ≡ Some o))
      (named : (word : List ℕ) → is_key plan word ≡ true → key_name (keys_in plan.scripts) (key_number (keys_in plan.scripts) word) ≡ word)
      (bares : (acts : List Act) → map bare (account_of plan acts).acts ≡ map bare acts) where
    pub run_kept : (items : List Item) → AreItemsOf plan items → Holds plan ends items start → HasCursors start (account_of plan (closed_acts plan (acts_of plan items)))
    run_kept items of holds = subst (λ (k : Account). HasCursors start k) (sym (fold-append with_act (opened plan) (acts_of plan items) (closing_acts plan (acts_of plan items))))
        (plain_keep start (account_of plan (acts_of plan items)) (closing_acts plan (acts_of plan items)) (closing_plain (acts_of plan items)) (items_kept laws ends lines there named bares [] items of holds none_yet))
