-- What maps and atomics contain along a run is what its objects hold: so each call is answered where it is made as the one-thread objects answer it.
use Rattle.std.proofs.Common.{◌≡◌, ◌≢◌, ℕ, zero, suc, ◌+◌, ◌<◌, ◌==◌, not, Bool, true, false, cond, List, [], ◌∷◌, ◌++◌, map, filter, flat_map, fold, length, take, count_by, Some, None, slice_get, slice_set, inl, inr, refl, sym, ap, ◌∙◌, subst, arith}
use Rattle.std.specs.Prelude.{unwrap_or, Option}
use Rattle.std.specs.FinMap.{FinMap, empty, entries}
use Rattle.std.specs.List.{AllByRecursion, range_with_len}
use Rattle.std.specs.Ordering.{nat_cmp}
use Rattle.std.specs.Cmp.Lexicographic.{slice_cmp}
use Rattle.std.proofs.lemmas.Bool.{cases_order, eq-eqb}
use Rattle.std.proofs.lemmas.Bool.Decides.{eqb_tells}
use Rattle.std.proofs.lemmas.List.{length-set, get_or-set_same, get_or-set_other}
use Rattle.std.proofs.lemmas.List.Sums.{sum_by-cons}
use Rattle.std.proofs.lemmas.Option.{none-some, same_Some}
use Rattle.sync_types.specs.Renaming.{renamed_call, IsRenamed, is_call_at}
use Rattle.sync_types.specs.SequentialAtomic.{atomic_reply, atomic_after, is_atomic_entry}
use Rattle.sync_types.specs.SequentialMap.{map_reply, map_after, is_map_entry}
use Rattle.sync_types.specs.declared.atomic_object.AtomicCall.{AtomicCall}
use Rattle.sync_types.specs.declared.atomic_object.Number.{Number}
use Rattle.sync_types.specs.declared.atomic_object.Number.TheVariants.{Bool as Truth}
use Rattle.sync_types.specs.declared.map_object.MapCall.{MapCall}
use Rattle.script_calls.specs.declared.call.Operation.{Operation}
use Rattle.script_calls.specs.declared.call.Operation.TheVariants as operations
use Rattle.script_calls.specs.declared.call.Reply.{Reply}
use Rattle.script_calls.specs.declared.call.Reply.TheVariants as replies
use Rattle.sync_model.specs.declared.item.SharedCall.TheVariants as calls
use Rattle.sync_model.specs.declared.item.SharedReply.TheVariants as answers
use Rattle.sync_model.specs.SharedHistory.{Contents, map_at, number_at}
use Rattle.starts_core.specs.declared.starts.StartEvent.TheVariants as starts
use Rattle.starts_core.specs.declared.starts.StartReply.TheVariants as told
use Rattle.pool_core.specs.declared.pool_event.PoolEvent.{PoolEvent}
use Rattle.pool_core.specs.declared.pool_event.PoolEvent.TheVariants as pool_events
use Rattle.workload.specs.declared.object.ObjectLine.{ObjectLine}
use Rattle.workload.specs.Keys.{keys_in, key_number}
use Rattle.workload.specs.Plan.{Plan, has_dormant}
use Rattle.run_record.specs.declared.entered.ObjectEvent.{ObjectEvent}
use Rattle.run_record.specs.declared.entered.ObjectEvent.TheVariants as events
use Rattle.run_record.specs.declared.entered.ObjectReply.{ObjectReply}
use Rattle.run_record.specs.declared.made.Made.{Made}
use Rattle.run_record.specs.declared.made.Made.TheVariants.{Shared, Entered}
use Rattle.run_record.specs.MapKind.{step_showing}
use Rattle.run_record.specs.Objects.{is_map, is_atomic, map_number, atomic_number, first_part}
use Rattle.kept_record.specs.Acts.{contents_behind, AreAnswered}
use Rattle.run_record.specs.Record.{shared_in}
use Rattle.kept_record.specs.Keeping.{Act, made_by}
use Rattle.step_runner.specs.declared.turns.item.Deed.{Deed}
use Rattle.step_runner.specs.declared.turns.item.Deed.TheVariants as deeds
use Rattle.step_runner.specs.declared.turns.item.Item.{Item}
use Rattle.step_runner.specs.declared.turns.object_state.ObjectState.{ObjectState}
use Rattle.step_runner.specs.declared.turns.object_state.ObjectState.TheVariants as states
use Rattle.step_runner.specs.LeadsTo.{on_object, CallsTo, MapGoes, AtomicGoes, VarGoes}
use Rattle.step_runner.specs.Recorded.{made_shared, made_on, shared_calls, recorded_pool_event, recorded_event, recorded_deed, recorded_item}
use Rattle.step_runner.specs.Spelt.{made_on_starts}
use Rattle.scheduled_record.specs.RunActs.{acts_by, waits_still, going_acts, with_item, ending_acts, leaving_acts, closing_acts, closed_acts}
use Rattle.scheduled_record.specs.ItemsOf.{is_key, has_key, IsDeedOn, AreItemsOf}

-- ---- numbers among maps and among atomics

module _ {A : Type 0} (is : A → Bool) where
  abbrev count_before : List A → ℕ → ℕ
  count_before xs place = count_by is (take place xs)

  counted : (x : A) → is x ≡ true → ◌≡◌ {A = ℕ} (cond (is x) 1 0) 1
  counted x such = ap (λ (b : Bool). cond {A = ℕ} b 1 0) such

  -- such a one at a place counts for each later place
  counts_on : (xs : List A) (i j : ℕ) (x : A) → slice_get xs i ≡ Some x → is x ≡ true → i < j → count_before xs i < count_before xs j
  counts_on [] i j x at such before = absurd (none-some x at)
  counts_on (y ∷ xs) i zero x at such before = absurd (omega (arith, before))
  counts_on (y ∷ xs) zero (suc j) x at such before = let here = counted y (ap is (ap (λ (o : Option A). unwrap_or o y) at) ∙ such) in omega (arith, sum_by-cons (λ z. cond (is z) 1 0) y (take j xs), here)
  counts_on (y ∷ xs) (suc i) (suc j) x at such before =
      let on = counts_on xs i j x at such (omega (arith, before)) in omega (arith, sum_by-cons (λ z. cond (is z) 1 0) y (take i xs), sum_by-cons (λ z. cond (is z) 1 0) y (take j xs), on)

  -- so no two of them have one number
  pub numbers_apart : (xs : List A) (i j : ℕ) (x y : A) → slice_get xs i ≡ Some x → slice_get xs j ≡ Some y → is x ≡ true → is y ≡ true → (i ≡ j → ⊥) → count_before xs i ≡ count_before xs j → ⊥
  numbers_apart xs i j x y at_x at_y such other apart same = elim (cases_order i j) [
    | inl e ↦ apart e
    | inr unequal ↦ elim unequal [
      | inl below ↦ let on = counts_on xs i j x at_x such below in omega (arith, on, same)
      | inr above ↦ let on = counts_on xs j i y at_y other above in omega (arith, on, same)
    ]
  ]

  -- and each number is one of theirs
  pub number_within : (xs : List A) (i : ℕ) (x : A) → slice_get xs i ≡ Some x → is x ≡ true → count_before xs i < count_by is xs
  number_within [] i x at such = absurd (none-some x at)
  number_within (y ∷ xs) zero x at such = let here = counted y (ap is (ap (λ (o : Option A). unwrap_or o y) at) ∙ such) in omega (arith, sum_by-cons (λ z. cond (is z) 1 0) y xs, here)
  number_within (y ∷ xs) (suc i) x at such = let on = number_within xs i x at such in omega (arith, sum_by-cons (λ z. cond (is z) 1 0) y (take i xs), sum_by-cons (λ z. cond (is z) 1 0) y xs, on)

-- ---- contents

abbrev pub ByKey : Type 0
ByKey = FinMap (slice_cmp nat_cmp) ℕ

abbrev pub behind_all : Contents → List Act → Contents
behind_all contents acts = fold (λ contents act. contents_behind act.made contents) contents acts

pub answered_both : (contents : Contents) (acts more : List Act) → AreAnswered contents acts → AreAnswered (behind_all contents acts) more → AreAnswered contents (acts ++ more)
answered_both contents [] more first second = second
answered_both contents (act ∷ acts) more first second = (first.0, answered_both (contents_behind act.made contents) acts more first.1 second)

pub behind_both : (contents : Contents) (acts more : List Act) → behind_all contents (acts ++ more) ≡ behind_all (behind_all contents acts) more
behind_both contents [] more = refl
behind_both contents (act ∷ acts) more = behind_both (contents_behind act.made contents) acts more

-- what is said of maps with renamed keys, and of entries
pub record ContentLaws (plan : Plan) : Type 0 where
  pub reply : (m : ByKey) (n : FinMap nat_cmp ℕ) (call : MapCall (List ℕ)) → IsRenamed (key_number (keys_in plan.scripts)) (is_key plan) m n → is_call_at (is_key plan) call ≡ true
      → map_reply (renamed_call (key_number (keys_in plan.scripts)) call) n ≡ map_reply call m
  pub after : (m : ByKey) (n : FinMap nat_cmp ℕ) (call : MapCall (List ℕ)) → IsRenamed (key_number (keys_in plan.scripts)) (is_key plan) m n → is_call_at (is_key plan) call ≡ true
      → IsRenamed (key_number (keys_in plan.scripts)) (is_key plan) (map_after call m) (map_after (renamed_call (key_number (keys_in plan.scripts)) call) n)
  pub entries : (n : FinMap nat_cmp ℕ) (call : MapCall ℕ) → is_map_entry call n ≡ false → map_after call n ≡ n
  pub numbers : (held : Number) (call : AtomicCall) → is_atomic_entry call held ≡ false → atomic_after call held ≡ held

abbrev pub IsEvent : Deed → Type 0
IsEvent (deeds.Entered event answer) = Unit {0}
IsEvent (deeds.Placed operation reply) = ⊥

abbrev pub IsEntered : Item → Type 0
IsEntered item = IsEvent item.deed

abbrev IsEntry : Made → Type 0
IsEntry (Shared x) = ⊥
IsEntry (Entered object entry) = Unit {0}

-- entries change no contents
entries_leave : (caller : ℕ) (made : List Made) (contents : Contents) → AllByRecursion IsEntry made → AreAnswered contents (acts_by caller made) × (behind_all contents (acts_by caller made) ≡ contents)
entries_leave caller [] contents all = (tt, refl)
entries_leave caller (Entered object entry ∷ made) contents all = let rest = entries_leave caller made contents all.1 in ((tt, rest.0), rest.1)
entries_leave caller (Shared x ∷ made) contents all = absurd all.0

module _ (plan : Plan) where
  abbrev rename : List ℕ → ℕ
  rename = key_number (keys_in plan.scripts)

  -- the steps of a cursor change no contents
  shown_all : (caller m begin : ℕ) (shown : List (ℕ × ℕ)) (contents : Contents)
      → AreAnswered contents (acts_by caller (map (made_shared plan) (map (step_showing (keys_in plan.scripts) m begin) shown ++ (calls.Next begin, answers.Shown None) ∷ [])))
      × (behind_all contents (acts_by caller (map (made_shared plan) (map (step_showing (keys_in plan.scripts) m begin) shown ++ (calls.Next begin, answers.Shown None) ∷ []))) ≡ contents)
  shown_all caller m begin [] contents = (((None, refl), tt), refl)
  shown_all caller m begin (pair ∷ shown) contents = let rest = shown_all caller m begin shown contents in (((Some pair, refl), rest.0), rest.1)

  -- The contents hold what the object does that goes on by these items, and comes to this in the end
  abbrev pub HoldsAt : ℕ → ObjectState → List Item → Contents → Type 0
  HoldsAt place (states.Map last) made contents = (m : ByKey) × IsRenamed rename (is_key plan) m (map_at contents (map_number plan.objects place)) × CallsTo MapGoes m made last
  HoldsAt place (states.Atomic last) made contents = CallsTo AtomicGoes (number_at contents (atomic_number plan.objects place)) made last
  HoldsAt place (states.Var last) made contents = (held : ℕ) × CallsTo VarGoes held made last
  HoldsAt place o made contents = AllByRecursion IsEntered made

  -- the object at a place has a line of its kind
  abbrev pub HasLine : ℕ → ObjectState → Type 0
  HasLine place (states.Map last) = (line : ObjectLine) × (slice_get plan.objects place ≡ Some line) × (is_map line.kind ≡ true)
  HasLine place (states.Atomic last) = (line : ObjectLine) × (slice_get plan.objects place ≡ Some line) × (is_atomic line.kind ≡ true)
  HasLine place o = Unit {0}

  pub record Holds (ends : List ObjectState) (items : List Item) (contents : Contents) : Type 0 where
    pub maps : length contents.maps ≡ count_by (λ object. is_map object.kind) plan.objects
    pub numbers : length contents.numbers ≡ count_by (λ object. is_atomic object.kind) plan.objects
    pub at : (place : ℕ) (o : ObjectState) → slice_get ends place ≡ Some o → HoldsAt place o (on_object place items) contents

  -- what another object holds doesn't change
  still : (place : ℕ) (o : ObjectState) (made : List Item) (contents next : Contents)
      → (HasLine place o → (last : ByKey) → o ≡ states.Map last → map_at next (map_number plan.objects place) ≡ map_at contents (map_number plan.objects place))
      → (HasLine place o → (last : Number) → o ≡ states.Atomic last → number_at next (atomic_number plan.objects place) ≡ number_at contents (atomic_number plan.objects place))
      → HasLine place o → HoldsAt place o made contents → HoldsAt place o made next
  still place (states.Map last) made contents next maps numbers line holds = (holds.0, subst (λ (n : FinMap nat_cmp ℕ). IsRenamed rename (is_key plan) holds.0 n) (sym (maps line last refl)) holds.1, holds.2)
  still place (states.Atomic last) made contents next maps numbers line holds = subst (λ (n : Number). CallsTo AtomicGoes n made last) (sym (numbers line last refl)) holds
  still place (states.Var last) made contents next maps numbers line holds = holds
  still place (states.Mutex m) made contents next maps numbers line holds = holds
  still place (states.RwMutex m) made contents next maps numbers line holds = holds
  still place (states.Cond m other) made contents next maps numbers line holds = holds
  still place (states.WaitGroup m other) made contents next maps numbers line holds = holds
  still place (states.Once m other delta) made contents next maps numbers line holds = holds
  still place (states.OnceFunc m code) made contents next maps numbers line holds = holds
  still place (states.OnceValue m value) made contents next maps numbers line holds = holds
  still place (states.Pool m) made contents next maps numbers line holds = holds
  still place (states.Sema m size) made contents next maps numbers line holds = holds
  still place (states.Flight m keys other delta) made contents next maps numbers line holds = holds

  module _ (laws : ContentLaws plan) (ends : List ObjectState) (lines : (place : ℕ) (o : ObjectState) → slice_get ends place ≡ Some o → HasLine place o) where
    abbrev pub Goes : List Item → Contents → List Act → Type 0
    Goes items contents acts = AreAnswered contents acts × Holds ends items (behind_all contents acts)

    -- ---- an item that is no call

    swept : (place caller : ℕ) (answer : ObjectReply) (first count : ℕ) → AllByRecursion IsEntry (map (λ part. made_on plan (first_part plan place + part) caller (events.Pool pool_events.Sweep) answer) (range_with_len first count))
    swept place caller answer first zero = tt
    swept place caller answer first (suc count) = (tt, swept place caller answer (first + 1) count)

    pool_entries : (place caller : ℕ) (event : PoolEvent ℕ) (answer : ObjectReply) → AllByRecursion IsEntry (recorded_pool_event plan place caller event answer)
    pool_entries place caller (pool_events.Put item) answer = (tt, tt)
    pool_entries place caller pool_events.LookOwn answer = (tt, tt)
    pool_entries place caller (pool_events.LookOther part) answer = (tt, tt)
    pool_entries place caller (pool_events.LookVictim part) answer = (tt, tt)
    pool_entries place caller pool_events.Sweep answer = swept place caller answer 0 plan.workers

    event_entries : (place caller : ℕ) (event : ObjectEvent) (answer : ObjectReply) → AllByRecursion IsEntry (recorded_event plan place caller event answer)
    event_entries place caller (events.Pool event) answer = pool_entries place caller event answer
    event_entries place caller (events.Starts event) answer = (tt, tt)
    event_entries place caller (events.Mutex event) answer = (tt, tt)
    event_entries place caller (events.RwMutex event) answer = (tt, tt)
    event_entries place caller (events.Cond event) answer = (tt, tt)
    event_entries place caller (events.WaitGroup event) answer = (tt, tt)
    event_entries place caller (events.Once event) answer = (tt, tt)
    event_entries place caller (events.OnceFunc event) answer = (tt, tt)
    event_entries place caller (events.OnceValue event) answer = (tt, tt)
    event_entries place caller (events.Sema event) answer = (tt, tt)
    event_entries place caller (events.Flight event) answer = (tt, tt)

    module _ (place caller : ℕ) (items : List Item) (contents : Contents) where
      abbrev item_of : Deed → Item
      item_of deed = record { object = place; caller = caller; deed = deed }

      module _ (event : ObjectEvent) (answer : ObjectReply) where
        abbrev entered : Item
        entered = item_of (deeds.Entered event answer)

        no_call : {S : Type 0} (goes : Operation → S → Reply (List ℕ) → S → Type 0) (first last : S) (made : List Item) {X : Type 0} → CallsTo goes first (entered ∷ made) last → X
        no_call goes first last made calls = absurd (no calls.0 calls.1 calls.3) where
          no : (operation : Operation) (reply : Reply (List ℕ)) → deeds.Entered event answer ≡ deeds.Placed operation reply → ⊥
          no operation reply same = cc

        dropped : (q : ℕ) (o : ObjectState) (made : List Item) (b : Bool) → HoldsAt q o (cond b (entered ∷ made) made) contents → HoldsAt q o made contents
        dropped q o made false holds = holds
        dropped q (states.Map last) made true holds = no_call MapGoes holds.0 last made holds.2
        dropped q (states.Atomic last) made true holds = no_call AtomicGoes (number_at contents (atomic_number plan.objects q)) last made holds
        dropped q (states.Var last) made true holds = no_call VarGoes holds.0 last made holds.1
        dropped q (states.Mutex m) made true holds = holds.1
        dropped q (states.RwMutex m) made true holds = holds.1
        dropped q (states.Cond m other) made true holds = holds.1
        dropped q (states.WaitGroup m other) made true holds = holds.1
        dropped q (states.Once m other delta) made true holds = holds.1
        dropped q (states.OnceFunc m code) made true holds = holds.1
        dropped q (states.OnceValue m value) made true holds = holds.1
        dropped q (states.Pool m) made true holds = holds.1
        dropped q (states.Sema m size) made true holds = holds.1
        dropped q (states.Flight m keys other delta) made true holds = holds.1

        event_goes : Holds ends (entered ∷ items) contents → Goes items contents (acts_by caller (recorded_event plan place caller event answer))
        event_goes holds = let leave = entries_leave caller (recorded_event plan place caller event answer) contents (event_entries place caller event answer) in (
          leave.0,
          subst (λ (next : Contents). Holds ends items next) (sym leave.1) (record {
            maps = holds.maps;
            numbers = holds.numbers;
            at = λ q o at. dropped q o (on_object q items) (place == q) (holds.at q o at);
          }),
        )

      -- ---- a call

      module _ (operation : Operation) (reply : Reply (List ℕ)) (key : has_key plan operation ≡ true) (o : ObjectState) (there : slice_get ends place ≡ Some o) (holds : Holds ends (item_of (deeds.Placed operation reply) ∷ items) contents) where
        abbrev placed : Item
        placed = item_of (deeds.Placed operation reply)

        -- what the object at the place comes to, and no other changes
        updated : (next : Contents) → length next.maps ≡ count_by (λ object. is_map object.kind) plan.objects → length next.numbers ≡ count_by (λ object. is_atomic object.kind) plan.objects
            → HoldsAt place o (on_object place items) next
            → ((q : ℕ) (other : ObjectState) → q ≢ place → HasLine q other → (last : ByKey) → other ≡ states.Map last → map_at next (map_number plan.objects q) ≡ map_at contents (map_number plan.objects q))
            → ((q : ℕ) (other : ObjectState) → q ≢ place → HasLine q other → (last : Number) → other ≡ states.Atomic last → number_at next (atomic_number plan.objects q) ≡ number_at contents (atomic_number plan.objects q))
            → Holds ends items next
        updated next maps_long numbers_long here maps numbers = record {
          maps = maps_long;
          numbers = numbers_long;
          at = λ q other at. elim (eqb_tells place q) [
            | inl same ↦ subst (λ (p : ℕ). HoldsAt p other (on_object p items) next) same.1 (subst (λ (x : ObjectState). HoldsAt place x (on_object place items) next) (same_Some o other (sym there ∙ (ap (slice_get ends) same.1 ∙ at))) here)
            | inr apart ↦ still q other (on_object q items) contents next (maps q other (λ same. apart.1 (sym same))) (numbers q other (λ same. apart.1 (sym same))) (lines q other at)
                (subst (λ (b : Bool). HoldsAt q other (cond b (placed ∷ on_object q items) (on_object q items)) contents) apart.0 (holds.at q other at))
          ];
        }

        at_place : HoldsAt place o (placed ∷ on_object place items) contents
        at_place = subst (λ (b : Bool). HoldsAt place o (cond b (placed ∷ on_object place items) (on_object place items)) contents) (eq-eqb place place refl) (holds.at place o there)

        -- with the same contents
        unchanged : HoldsAt place o (on_object place items) contents → Holds ends items contents
        unchanged here = updated contents holds.maps holds.numbers here (λ q other apart line last is. refl) (λ q other apart line last is. refl)

        abbrev acts_for : ℕ → Operation → Reply (List ℕ) → List Act
        acts_for before asked given = acts_by caller (map (made_shared plan) (shared_calls plan before place asked given))

        -- the call is the item's
        same_call : {S : Type 0} (goes : Operation → S → Reply (List ℕ) → S → Type 0) (first : S) (next : S) (asked : Operation) (given : Reply (List ℕ)) → deeds.Placed operation reply ≡ deeds.Placed asked given → goes asked first given next → goes operation first reply next
        same_call goes first next asked given same is =
            let asks : asked ≡ operation = cc in
            let gives : given ≡ reply = cc in
            subst (λ (r : Reply (List ℕ)). goes operation first r next) gives (subst (λ (x : Operation). goes x first given next) asks is)

        -- ---- on a map

        module _ (last : ByKey) (is_a_map : o ≡ states.Map last) (m next : ByKey) (named : IsRenamed rename (is_key plan) m (map_at contents (map_number plan.objects place))) (rest : CallsTo MapGoes next (on_object place items) last) where
          abbrev mine : ℕ
          mine = map_number plan.objects place

          abbrev held : FinMap nat_cmp ℕ
          held = map_at contents mine

          abbrev with_map : FinMap nat_cmp ℕ → Contents
          with_map n = record contents { maps = slice_set contents.maps mine n }

          line : HasLine place (states.Map last)
          line = subst (λ (x : ObjectState). HasLine place x) is_a_map (lines place o there)

          within : mine < length contents.maps
          within = subst (λ (n : ℕ). mine < n) (sym holds.maps) (number_within (λ (object : ObjectLine). is_map object.kind) plan.objects place line.0 line.1 line.2)

          map_set : (n : FinMap nat_cmp ℕ) → IsRenamed rename (is_key plan) next n → Holds ends items (with_map n)
          map_set n renamed = updated (with_map n) (length-set contents.maps mine n ∙ holds.maps) holds.numbers
              (subst (λ (x : ObjectState). HoldsAt place x (on_object place items) (with_map n)) (sym is_a_map) (next, subst (λ (k : FinMap nat_cmp ℕ). IsRenamed rename (is_key plan) next k) (sym (get_or-set_same contents.maps mine n empty within)) renamed, rest))
              (λ q other apart line_q kept is. get_or-set_other contents.maps mine (map_number plan.objects q) n empty (differs q other apart line_q kept is)) (λ q other apart line_q kept is. refl)
            where
              differs : (q : ℕ) (other : ObjectState) → q ≢ place → HasLine q other → (kept : ByKey) → other ≡ states.Map kept → map_number plan.objects q ≢ mine
              differs q other apart line_q kept is same = let there_q : HasLine q (states.Map kept) = subst (λ (x : ObjectState). HasLine q x) is line_q in
                  numbers_apart (λ (object : ObjectLine). is_map object.kind) plan.objects q place there_q.0 line.0 there_q.1 line.1 there_q.2 line.2 apart same

          map_kept : (n : FinMap nat_cmp ℕ) → n ≡ held → IsRenamed rename (is_key plan) next n → Holds ends items contents
          map_kept n same renamed = unchanged (subst (λ (x : ObjectState). HoldsAt place x (on_object place items) contents) (sym is_a_map) (next, subst (λ (k : FinMap nat_cmp ℕ). IsRenamed rename (is_key plan) next k) same renamed, rest))

          map_call : (call : MapCall (List ℕ)) → is_call_at (is_key plan) call ≡ true → next ≡ map_after call m → (before : ℕ) → Goes items contents (acts_for before (operations.Map call) (replies.Map (map_reply call m)))
          map_call call keyed is before = ((ap answers.Map (sym (laws.reply m held call named keyed)), tt), chosen (is_map_entry (renamed_call rename call) held) refl) where
            renamed : IsRenamed rename (is_key plan) next (map_after (renamed_call rename call) held)
            renamed = subst (λ (x : ByKey). IsRenamed rename (is_key plan) x (map_after (renamed_call rename call) held)) (sym is) (laws.after m held call named keyed)

            chosen : (b : Bool) → is_map_entry (renamed_call rename call) held ≡ b → Holds ends items (cond b (with_map (map_after (renamed_call rename call) held)) contents)
            chosen true entry = map_set (map_after (renamed_call rename call) held) renamed
            chosen false entry = map_kept (map_after (renamed_call rename call) held) (laws.entries held (renamed_call rename call) entry) renamed

          range_call : next ≡ m → (pairs : List (List ℕ × ℕ)) (before : ℕ) → Goes items contents (acts_for before operations.Range (replies.Pairs pairs))
          range_call is pairs before =
              let shown = shown_all caller mine before (map (λ pair. (rename pair.0, pair.1)) pairs) contents in
              ((refl, shown.0), subst (λ (c : Contents). Holds ends items c) (sym shown.1) (map_kept held refl (subst (λ (x : ByKey). IsRenamed rename (is_key plan) x held) (sym is) named)))

          on_map : (asked : Operation) (given : Reply (List ℕ)) → has_key plan asked ≡ true → MapGoes asked m given next → (before : ℕ) → Goes items contents (acts_for before asked given)
          on_map (operations.Map call) given keyed goes before = subst (λ (r : Reply (List ℕ)). Goes items contents (acts_for before (operations.Map call) r)) (sym goes.0) (map_call call keyed goes.1 before)
          on_map operations.Range given keyed goes before = subst (λ (r : Reply (List ℕ)). Goes items contents (acts_for before operations.Range r)) (sym goes.0) (range_call goes.1 (entries m) before)
          on_map asked given keyed goes before = absurd goes

        -- ---- on an atomic

        module _ (last : Number) (is_an_atomic : o ≡ states.Atomic last) (next : Number) (rest : CallsTo AtomicGoes next (on_object place items) last) where
          abbrev own : ℕ
          own = atomic_number plan.objects place

          abbrev number : Number
          number = number_at contents own

          abbrev with_number : Number → Contents
          with_number n = record contents { numbers = slice_set contents.numbers own n }

          line_of : HasLine place (states.Atomic last)
          line_of = subst (λ (x : ObjectState). HasLine place x) is_an_atomic (lines place o there)

          own_within : own < length contents.numbers
          own_within = subst (λ (n : ℕ). own < n) (sym holds.numbers) (number_within (λ (object : ObjectLine). is_atomic object.kind) plan.objects place line_of.0 line_of.1 line_of.2)

          number_set : Holds ends items (with_number next)
          number_set = updated (with_number next) holds.maps (length-set contents.numbers own next ∙ holds.numbers)
              (subst (λ (x : ObjectState). HoldsAt place x (on_object place items) (with_number next)) (sym is_an_atomic) (subst (λ (n : Number). CallsTo AtomicGoes n (on_object place items) last) (sym (get_or-set_same contents.numbers own next (Truth false) own_within)) rest))
              (λ q other apart line_q kept is. refl) (λ q other apart line_q kept is. get_or-set_other contents.numbers own (atomic_number plan.objects q) next (Truth false) (differs q other apart line_q kept is))
            where
              differs : (q : ℕ) (other : ObjectState) → q ≢ place → HasLine q other → (kept : Number) → other ≡ states.Atomic kept → atomic_number plan.objects q ≢ own
              differs q other apart line_q kept is same = let there_q : HasLine q (states.Atomic kept) = subst (λ (x : ObjectState). HasLine q x) is line_q in
                  numbers_apart (λ (object : ObjectLine). is_atomic object.kind) plan.objects q place there_q.0 line_of.0 there_q.1 line_of.1 there_q.2 line_of.2 apart same

          atomic_call : (call : AtomicCall) → next ≡ atomic_after call number → (before : ℕ) → Goes items contents (acts_for before (operations.Atomic call) (replies.Atomic (atomic_reply call number)))
          atomic_call call is before = ((refl, tt), chosen (is_atomic_entry call number) refl) where
            chosen : (b : Bool) → is_atomic_entry call number ≡ b → Holds ends items (cond b (with_number (atomic_after call number)) contents)
            chosen true entry = subst (λ (n : Number). Holds ends items (with_number n)) is number_set
            chosen false entry = unchanged (subst (λ (x : ObjectState). HoldsAt place x (on_object place items) contents) (sym is_an_atomic) (subst (λ (n : Number). CallsTo AtomicGoes n (on_object place items) last) (is ∙ laws.numbers number call entry) rest))

          on_atomic : (asked : Operation) (given : Reply (List ℕ)) → AtomicGoes asked number given next → (before : ℕ) → Goes items contents (acts_for before asked given)
          on_atomic (operations.Atomic call) given goes before = subst (λ (r : Reply (List ℕ)). Goes items contents (acts_for before (operations.Atomic call) r)) (sym goes.0) (atomic_call call goes.1 before)
          on_atomic asked given goes before = absurd goes

        on_var : (first next : ℕ) → Holds ends items contents → (asked : Operation) (given : Reply (List ℕ)) → VarGoes asked first given next → (before : ℕ) → Goes items contents (acts_for before asked given)
        on_var first next kept (operations.Var call) given goes before = (tt, kept)
        on_var first next kept asked given goes before = absurd goes

        by_object : (x : ObjectState) → o ≡ x → HoldsAt place x (placed ∷ on_object place items) contents → (before : ℕ) → Goes items contents (acts_for before operation reply)
        by_object (states.Map last) is here before = let calls = here.2 in
            on_map last is here.0 calls.2 here.1 calls.5 operation reply key (same_call MapGoes here.0 calls.2 calls.0 calls.1 calls.3 calls.4) before
        by_object (states.Atomic last) is here before = on_atomic last is here.2 here.5 operation reply (same_call AtomicGoes (number_at contents (atomic_number plan.objects place)) here.2 here.0 here.1 here.3 here.4) before
        by_object (states.Var last) is here before = let calls = here.1 in
            on_var here.0 calls.2 (unchanged (subst (λ (x : ObjectState). HoldsAt place x (on_object place items) contents) (sym is) (calls.2, calls.5))) operation reply (same_call VarGoes here.0 calls.2 calls.0 calls.1 calls.3 calls.4) before
        by_object (states.Mutex m) is here before = absurd here.0
        by_object (states.RwMutex m) is here before = absurd here.0
        by_object (states.Cond m other) is here before = absurd here.0
        by_object (states.WaitGroup m other) is here before = absurd here.0
        by_object (states.Once m other delta) is here before = absurd here.0
        by_object (states.OnceFunc m code) is here before = absurd here.0
        by_object (states.OnceValue m value) is here before = absurd here.0
        by_object (states.Pool m) is here before = absurd here.0
        by_object (states.Sema m size) is here before = absurd here.0
        by_object (states.Flight m keys other delta) is here before = absurd here.0

    -- ---- an item

    module _ (there : (place : ℕ) → place < length plan.objects → (o : ObjectState) × (slice_get ends place ≡ Some o)) where
      pub by_deed : (place caller before : ℕ) (deed : Deed) (items : List Item) (contents : Contents) → IsDeedOn plan place deed → Holds ends (record { object = place; caller = caller; deed = deed } ∷ items) contents
          → Goes items contents (acts_by caller (recorded_deed plan before place caller deed))
      by_deed place caller before (deeds.Entered event answer) items contents on holds = event_goes place caller items contents event answer holds
      by_deed place caller before (deeds.Placed operation reply) items contents on holds = let here = there place on.0 in
          by_object place caller items contents operation reply on.1 here.0 here.1 holds here.0 refl (at_place place caller items contents operation reply on.1 here.0 here.1 holds) before

      -- ---- a run

      pub going_leaves : (acts : List Act) (worker : ℕ) (contents : Contents) → AreAnswered contents (going_acts plan acts worker) × (behind_all contents (going_acts plan acts worker) ≡ contents)
      going_leaves acts worker contents = chosen (waits_still plan acts worker) where
        chosen : (b : Bool) → AreAnswered contents (acts_by worker (cond b (made_on_starts plan worker starts.Leave told.Go) [])) × (behind_all contents (acts_by worker (cond b (made_on_starts plan worker starts.Leave told.Go) [])) ≡ contents)
        chosen true = ((tt, tt), refl)
        chosen false = (tt, refl)

      pub items_go : (begins : Contents) (acts : List Act) (items : List Item) → AreItemsOf plan items → AreAnswered begins acts → Holds ends items (behind_all begins acts)
          → AreAnswered begins (fold (with_item plan) acts items) × Holds ends [] (behind_all begins (fold (with_item plan) acts items))
      items_go begins acts [] of answered holds = (answered, holds)
      items_go begins acts (item ∷ items) of answered holds =
          let contents : Contents = behind_all begins acts in
          let going : List Act = going_acts plan acts item.caller in
          let before : ℕ = length (shared_in (made_by item.caller acts)) in
          let own : List Act = acts_by item.caller (recorded_item plan before item) in
          let leaves = going_leaves acts item.caller contents in
          let goes : Goes items contents own = by_deed item.object item.caller before item.deed items contents of.0.on holds in
          items_go begins (acts ++ (going ++ own)) items of.1
          (answered_both begins acts (going ++ own) answered (answered_both contents going own leaves.0 (subst (λ (c : Contents). AreAnswered c own) (sym leaves.1) goes.0)))
          (subst (λ (c : Contents). Holds ends items c) (sym (behind_both begins acts (going ++ own) ∙ (behind_both contents going own ∙ ap (λ (c : Contents). behind_all c own) leaves.1))) goes.1)

  -- ---- the end of a run changes nothing

  abbrev Leaves : List Act → Type 0
  Leaves acts = (contents : Contents) → AreAnswered contents acts × (behind_all contents acts ≡ contents)

  both_leave : (acts more : List Act) → Leaves acts → Leaves more → Leaves (acts ++ more)
  both_leave acts more first second contents = (answered_both contents acts more (first contents).0 (second (behind_all contents acts)).0, behind_both contents acts more ∙ ((second (behind_all contents acts)).1 ∙ (first contents).1))

  workers_leave : (makes : ℕ → List Made) (passes : ℕ → Bool) → ((w : ℕ) → Leaves (acts_by w (makes w))) → (first count : ℕ) → Leaves (flat_map (λ w. acts_by w (makes w)) (filter passes (range_with_len first count)))
  workers_leave makes passes each first zero contents = (tt, refl)
  workers_leave makes passes each first (suc count) contents = chosen (passes first) (workers_leave makes passes each (first + 1) count) where
    chosen : (b : Bool) → Leaves (flat_map (λ w. acts_by w (makes w)) (filter passes (range_with_len (first + 1) count)))
        → AreAnswered contents (flat_map (λ w. acts_by w (makes w)) (cond b (first ∷ filter passes (range_with_len (first + 1) count)) (filter passes (range_with_len (first + 1) count))))
        × (behind_all contents (flat_map (λ w. acts_by w (makes w)) (cond b (first ∷ filter passes (range_with_len (first + 1) count)) (filter passes (range_with_len (first + 1) count)))) ≡ contents)
    chosen true rest = both_leave (acts_by first (makes first)) (flat_map (λ w. acts_by w (makes w)) (filter passes (range_with_len (first + 1) count))) (each first) rest contents
    chosen false rest = rest contents

  closing_leaves : (acts : List Act) → Leaves (closing_acts plan acts)
  closing_leaves acts = chosen (has_dormant plan) where
    chosen : (b : Bool) → Leaves (cond b (ending_acts plan acts ++ leaving_acts plan acts) [])
    chosen true = both_leave (ending_acts plan acts) (leaving_acts plan acts)
        (workers_leave (λ w. made_on_starts plan w starts.End told.Done) (λ w. not (waits_still plan acts w)) (λ w contents. ((tt, tt), refl)) 0 plan.workers)
        (workers_leave (λ w. made_on_starts plan w starts.Leave told.Never) (waits_still plan acts) (λ w contents. ((tt, tt), refl)) 0 plan.workers)
    chosen false = λ contents. (tt, refl)

  pub closed_answered : (begins : Contents) (acts : List Act) → AreAnswered begins acts → AreAnswered begins (closed_acts plan acts)
  closed_answered begins acts answered = answered_both begins acts (closing_acts plan acts) answered (closing_leaves acts (behind_all begins acts)).0

  pub closed_behind : (begins : Contents) (acts : List Act) → behind_all begins (closed_acts plan acts) ≡ behind_all begins acts
  closed_behind begins acts = behind_both begins acts (closing_acts plan acts) ∙ (closing_leaves acts (behind_all begins acts)).1
