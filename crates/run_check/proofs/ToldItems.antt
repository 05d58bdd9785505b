-- Each item of a claim of which all clauses hold is what its place in the list says.
use Rattle.std.proofs.Common.{◌≡◌, ◌⊎◌, inl, inr, ℕ, ◌<◌, ◌≤◌, ℤ, pos, Bool, true, false, cond, List, [], ◌∷◌, ◌++◌, map, length, get_or, Option, Some, None, slice_get, refl, sym, ap, ◌∙◌, subst, arith}
use Rattle.std.specs.Prelude.{unwrap_or}
use Rattle.std.specs.List.{AllByRecursion, flat_map}
use Rattle.std.specs.Option.{option_map}
use Rattle.std.proofs.lemmas.Bool.{false≢true}
use Rattle.std.proofs.lemmas.List.{append-nil, get_or_past, length-map}
use Rattle.std.proofs.lemmas.Option.{get_or_from_slice_get, none-some, same_Some, slice_get-map, slice_get_cases, slice_get_within}
use Rattle.sync_model.specs.declared.journal.Deed.{Deed}
use Rattle.sync_model.specs.declared.journal.Deed.TheVariants.{Event, Halt}
use Rattle.wait_cores.specs.declared.once.OnceEvent.{OnceEvent}
use Rattle.wait_cores.specs.declared.once.OnceEvent.TheVariants.{End}
use Rattle.wait_cores.specs.declared.once.OnceReply.TheVariants as once_replies
use Rattle.script_calls.specs.declared.call.Call.{Call}
use Rattle.workload.specs.declared.object.ObjectKind.{ObjectKind}
use Rattle.workload.specs.declared.object.ObjectKind.TheVariants as kinds
use Rattle.workload.specs.declared.object.ObjectLine.{ObjectLine}
use Rattle.workload.specs.Plan.{Plan}
use Rattle.workload.specs.Readable.{IsReadable}
use Rattle.run_record.specs.declared.entered.ObjectEvent.{ObjectEvent}
use Rattle.run_record.specs.declared.entered.ObjectEvent.TheVariants as object_events
use Rattle.run_record.specs.declared.entered.ObjectReply.{ObjectReply}
use Rattle.run_record.specs.declared.entered.ObjectReply.TheVariants as object_replies
use Rattle.run_record.specs.declared.made.Made.{Made}
use Rattle.run_record.specs.declared.made.Made.TheVariants.{Shared, Entered}
use Rattle.run_record.specs.Explains.{AreLines, Explains}
use Rattle.run_record.specs.Lines.{Line, SpeltCall, items_of}
use Rattle.run_record.specs.Record.{ObjectEntry, Record, list_of, object_number}
use Rattle.run_cuts.specs.CallsAlong.{calls_along}
use Rattle.record_text.specs.declared.item_line.ItemLine.{ItemLine}
use Rattle.record_text.specs.Told.{items_of as told_of}
use Rattle.record_text.proofs.OwnWords.{each_at}
use Rattle.run_check.specs.declared.told.deeds.Speaker.{Speaker}
use Rattle.run_check.specs.declared.told.deeds.Speaker.TheVariants as speakers
use Rattle.run_check.specs.ToldItems.{Kept, along_start, declared_speaker, kept_at, kept_by, script_call, speaker_of}
use Rattle.record_clauses.specs.Account.{Account, Claim, ToldItem, made_in, outcome_of, record_of}
use Rattle.record_clauses.specs.Clauses.{IsSpelt}
use Rattle.record_clauses.specs.Lists.{before_halts, calls_told, halts, is_halt, without_halts}
use Rattle.run_check.specs.Items.{line_of}
use Rattle.run_check.proofs.ToldAlong.{IsSuch, ItemIsSuch, all_are}
use Rattle.run_check.proofs.ToldBack.{AllAre, HaltIs}
use Rattle.run_check.proofs.ToldCursors.{NextsAre, line_nexts}
use Rattle.run_check.proofs.ToldEntries.{DeedIs, ReplyIs}
use Rattle.run_check.proofs.ToldLists.{paired}
use Rattle.run_check.proofs.ToldEvents.{DeedFits, EventFits, ItemFits, line_events}
use Rattle.run_check.proofs.ToldHeld.{KeepsTypes}
use Rattle.run_check.proofs.ToldKept.{EndWordOn, HasEnd, kept_value}
use Rattle.run_check.proofs.ToldOnceWords.{end_words, has_end}
use Rattle.run_check.proofs.ToldOnces.{Keeps, func_keeps, value_keeps}
use Rattle.run_check.proofs.ToldSums.{EndIs, SumsAre, line_sums}
use Rattle.run_check.proofs.ToldTickets.{tickets}
use Rattle.run_check.proofs.ToldTypes.{EntriesAreCalls, TypeFits, line_64, line_calls}
use Rattle.run_check.proofs.ToldPlaces.{AllOf, each_of}
use Rattle.run_check.proofs.ToldPlain.{own_entry}
use Rattle.run_check.proofs.ToldSpeakers.{declared, deed_is_so}

-- the item has nothing that its line leaves out
abbrev pub IsPlain : ℕ → Made → Type 0
IsPlain number (Shared x) = number ≡ 0
IsPlain number (Entered object entry) = (entry.knew ≡ 0) × (entry.time ≡ 0)

-- ---- halts aside

nexts_with : (list : List Made) (before begin : ℕ) → NextsAre before begin (without_halts list) → NextsAre before begin list
nexts_with [] before begin nexts = tt
nexts_with (Shared x ∷ list) before begin nexts = (nexts.0, nexts_with list _ _ nexts.1)
nexts_with (Entered object entry ∷ list) before begin nexts = nexts_with list before begin (by (halts entry.deed) nexts) where
  by : (b : Bool) → NextsAre before begin (cond b (without_halts list) (Entered object entry ∷ without_halts list)) → NextsAre before begin (without_halts list)
  by true nexts = nexts
  by false nexts = nexts

module _ (plan : Plan) (worker : ℕ) (P : Option Call → Made → Type 0) where
  fits_each : (list : List ToldItem) → AllOf plan worker P (without_halts (made_in list)) (calls_told list) → AllByRecursion (λ (x : ToldItem). is_halt x.made ≡ false → P (script_call plan worker x.call) x.made) list
  fits_each [] all = tt
  fits_each (x ∷ list) all = by (is_halt x.made) refl (λ rest. fits_each list rest) all where
    by : (b : Bool) → is_halt x.made ≡ b → (AllOf plan worker P (without_halts (made_in list)) (calls_told list) → AllByRecursion (λ (x : ToldItem). is_halt x.made ≡ false → P (script_call plan worker x.call) x.made) list)
        → AllOf plan worker P (cond b (without_halts (made_in list)) (x.made ∷ without_halts (made_in list))) (cond b (calls_told list) (x.call ∷ calls_told list))
        → (is_halt x.made ≡ false → P (script_call plan worker x.call) x.made) × AllByRecursion (λ (x : ToldItem). is_halt x.made ≡ false → P (script_call plan worker x.call) x.made) list
    by true is later all = (λ none. absurd (false≢true (sym none ∙ is)), later all)
    by false is later all = (λ none. all.0, later all.1)

module _ (keeps : KeepsTypes) (entered : EntriesAreCalls) (claim : Claim) (account : Account) (readable : IsReadable claim.plan) (explains : Explains claim.plan (outcome_of claim account) (record_of claim account)) (same_lines : explains.lines ≡ account.lines) (spelt : IsSpelt claim account)
    (count : length claim.lists ≡ claim.plan.workers) (items : List ItemLine)
    (written : (worker : ℕ) (list : List ToldItem) → slice_get claim.lists worker ≡ Some list → map (line_of worker) list ≡ map Some (told_of items worker)) where
  abbrev r : Record
  r = record_of claim account

  are : AreLines claim.plan r (outcome_of claim account) account.lines
  are = subst (AreLines claim.plan r (outcome_of claim account)) same_lines explains.are

  -- a worker's list, and the line that it is
  record IsListOf (worker : ℕ) (list : List ToldItem) (line : Line) : Type 0 where
    pub at : slice_get account.lines worker ≡ Some line
    pub below : worker < claim.plan.workers
    pub made : items_of line ≡ made_in list
    pub calm : line.first ++ (flat_map (λ (s : SpeltCall). s.items) line.spelt ++ line.last) ≡ without_halts (made_in list)
    pub calls : calls_told list ≡ calls_along line

  module _ (worker : ℕ) (list : List ToldItem) (there : slice_get claim.lists worker ≡ Some list) where
    at_made : slice_get (map made_in claim.lists) worker ≡ Some (made_in list)
    at_made = slice_get-map made_in claim.lists worker ∙ ap (λ (o : Option (List ToldItem)). option_map made_in o) there

    list_is : list_of r worker ≡ made_in list
    list_is = get_or_from_slice_get (map made_in claim.lists) worker (made_in list) [] at_made

    own_line : (line : Line) × IsListOf worker list line
    own_line =
        let (line, at, same) = paired items_of made_in account.lines claim.lists are.lists worker list there in
        let (aside, at_aside, calm) = paired items_of without_halts (map before_halts account.lines) (map made_in claim.lists) spelt.lines.lists worker (made_in list) at_made in
        let before : before_halts line ≡ aside = same_Some (before_halts line) aside (sym (slice_get-map before_halts account.lines worker ∙ ap (λ (o : Option Line). option_map before_halts o) at) ∙ at_aside) in
        let within = slice_get_within claim.lists worker list there in (
          line,
          record {
            at = at;
            below = omega (arith, within, count);
            made = same;
            calm = ap (λ (last : List Made). line.first ++ (flat_map (λ (s : SpeltCall). s.items) line.spelt ++ last)) (sym (append-nil line.last)) ∙ ap items_of before ∙ calm;
            calls = spelt.told.calls worker list line there at;
          },
        )

    sums_are : SumsAre (pos 0) (made_in list)
    sums_are =
        let (line, own) = own_line in
        subst (SumsAre (pos 0)) own.made (line_sums claim.plan worker line (are.each worker line own.at) (line_64 keeps entered claim.plan (outcome_of claim account) r readable explains.lawful account.lines are worker line own.at))

    nexts_are : NextsAre 0 0 (made_in list)
    nexts_are =
        let (line, own) = own_line in
        nexts_with (made_in list) 0 0 (subst (NextsAre 0 0) own.calm (line_nexts claim.plan worker line (are.each worker line own.at)))

    events_are : AllByRecursion (ItemFits claim.plan worker) (made_in list)
    events_are =
        let (line, own) = own_line in
        subst (AllByRecursion (ItemFits claim.plan worker)) own.made (line_events claim.plan worker line readable own.below (are.each worker line own.at) (are.runs worker line own.at))

    calls_are : AllByRecursion (λ (x : ToldItem). is_halt x.made ≡ false → TypeFits claim.plan (script_call claim.plan worker x.call) x.made) list
    calls_are =
        let (line, own) = own_line in
        fits_each claim.plan worker (TypeFits claim.plan) list
        (subst (λ (made : List Made). AllOf claim.plan worker (TypeFits claim.plan) made (calls_told list)) own.calm
        (subst (AllOf claim.plan worker (TypeFits claim.plan) (line.first ++ (flat_map (λ (s : SpeltCall). s.items) line.spelt ++ line.last))) (sym own.calls)
        (line_calls keeps entered claim.plan (outcome_of claim account) r readable explains.lawful account.lines are worker line own.at)))

  -- whoever has an item has a list
  has_list : (worker i : ℕ) (made : Made) → slice_get (list_of r worker) i ≡ Some made → (list : List ToldItem) × (slice_get claim.lists worker ≡ Some list) × (slice_get (made_in list) i ≡ Some made)
  has_list worker i made at = by (slice_get_cases claim.lists worker).1 where
    by : ((list : List ToldItem) × (worker < length claim.lists) × (slice_get claim.lists worker ≡ Some list) × (get_or claim.lists worker list ≡ list)) ⊎ ((length claim.lists ≤ worker) × (slice_get claim.lists worker ≡ None)) → (list : List ToldItem) × (slice_get claim.lists worker ≡ Some list) × (slice_get (made_in list) i ≡ Some made)
    by (inl (list, within, there, read)) = (list, there, sym (ap (λ (l : List Made). slice_get l i) (list_is worker list there)) ∙ at)
    by (inr (past, none)) = absurd (none-some made (sym (ap (λ (l : List Made). slice_get l i) (get_or_past (map made_in claim.lists) worker [] (let long = length-map claim.lists made_in in omega (arith, past, long)))) ∙ at))

  -- each entry fits its object
  fits_at : (kept : Kept) (sum : ℤ) (worker i object : ℕ) (entry : ObjectEntry) → slice_get (list_of r worker) i ≡ Some (Entered object entry) → DeedFits (speaker_of claim.plan kept object worker sum) entry.deed
  fits_at kept sum worker i object entry at =
      let (list, there, here) = has_list worker i (Entered object entry) at in
      each_at (ItemFits claim.plan worker) (made_in list) i (Entered object entry) (events_are worker list there) here kept sum

  fits_declared : (kept : Kept) (sum : ℤ) (worker i place : ℕ) (line : ObjectLine) (entry : ObjectEntry) → slice_get claim.plan.objects place ≡ Some line → slice_get (list_of r worker) i ≡ Some (Entered (object_number place) entry)
      → DeedFits (declared_speaker kept (object_number place) worker sum line.kind) entry.deed
  fits_declared kept sum worker i place line entry at here =
      subst (λ (s : Speaker). DeedFits s entry.deed) (declared claim.plan kept worker sum place line at) (fits_at kept sum worker i (object_number place) entry here)

  abbrev kept : Kept
  kept = kept_by items claim.plan.workers

  abbrev told_list_of : ℕ → List ToldItem
  told_list_of worker = get_or claim.lists worker []

  list_below : (worker : ℕ) → worker < claim.plan.workers → slice_get claim.lists worker ≡ Some (told_list_of worker)
  list_below worker below = by (slice_get_cases claim.lists worker).1 where
    by : ((list : List ToldItem) × (worker < length claim.lists) × (slice_get claim.lists worker ≡ Some list) × (get_or claim.lists worker list ≡ list)) ⊎ ((length claim.lists ≤ worker) × (slice_get claim.lists worker ≡ None)) → slice_get claim.lists worker ≡ Some (told_list_of worker)
    by (inl (list, within, there, read)) = there ∙ ap (λ (l : List ToldItem). Some l) (sym (get_or_from_slice_get claim.lists worker list [] there))
    by (inr (past, none)) = absurd (omega (arith, past, count, below))

  module _ (place : ℕ) (line : ObjectLine) (at : slice_get claim.plan.objects place ≡ Some line) (worker i : ℕ) (entry : ObjectEntry) (here : slice_get (list_of r worker) i ≡ Some (Entered (object_number place) entry)) (sum : ℤ) where
    -- a once keeps what is told of it
    once_keeps : (atomic : ℕ) (delta : ℤ) → line.kind ≡ kinds.Once atomic delta → (v : ℤ) → Keeps v entry.deed → unwrap_or (kept_at kept (object_number place)) sum ≡ v
    once_keeps atomic delta kind v keeps_it =
        let (ender, below, ends) = has_end claim.plan r explains.lawful (outcome_of claim account) account.lines are place line atomic delta at kind worker i entry v here keeps_it in
        let within : ender < claim.plan.workers = let long = length-map claim.lists made_in in omega (arith, below, long, count) in
        let words : (other : ℕ) → other < claim.plan.workers → AllByRecursion (EndWordOn (object_number place) v) (made_in (told_list_of other)) =
        λ other less. subst (AllByRecursion (EndWordOn (object_number place) v)) (list_is other (told_list_of other) (list_below other less))
        (end_words claim.plan r explains.lawful (outcome_of claim account) account.lines are place line atomic delta at kind worker i entry v here keeps_it other) in
        ap (λ (o : Option ℤ). unwrap_or o sum) (kept_value items claim.plan.workers told_list_of (λ w less. written w (told_list_of w) (list_below w less)) (λ w less. sums_are w (told_list_of w) (list_below w less)) (object_number place) v words
        ender within (subst (HasEnd (object_number place)) (list_is ender (told_list_of ender) (list_below ender within)) ends))

    -- the end of another function came to what is declared
    ends_at : (kind : ObjectKind) → line.kind ≡ kind → (other k : ℕ) (e : ObjectEntry) (deed : Deed ObjectEvent ObjectReply) → slice_get (list_of r other) k ≡ Some (Entered (object_number place) e) → e.deed ≡ deed → DeedFits (declared_speaker [] (object_number place) other (pos 0) kind) deed
    ends_at kind is other k e deed there same = subst (DeedFits (declared_speaker [] (object_number place) other (pos 0) kind)) same (subst (λ (kind : ObjectKind). DeedFits (declared_speaker [] (object_number place) other (pos 0) kind) e.deed) is (fits_declared [] (pos 0) other k place line e at there))

    mutex_by : line.kind ≡ kinds.Mutex → (event : ObjectEvent) (reply : ObjectReply) → entry.deed ≡ Event event reply → ReplyIs (speakers.Mutex worker) reply
    mutex_by kind event (object_replies.Mutex reply) is = tickets claim.plan r explains.lawful worker i place line entry event reply at kind here is
    mutex_by kind event reply is = tt

    once_by : (atomic : ℕ) (delta : ℤ) → line.kind ≡ kinds.Once atomic delta → (event : OnceEvent ℤ) (reply : ObjectReply) → entry.deed ≡ Event (object_events.Once event) reply → ReplyIs (speakers.Once sum (unwrap_or (kept_at kept (object_number place)) sum)) reply
    once_by atomic delta kind event (object_replies.Once (once_replies.Done v)) is = once_keeps atomic delta kind v (subst (Keeps v) (sym is) refl)
    once_by atomic delta kind event (object_replies.Once (once_replies.Left v)) is = once_keeps atomic delta kind v (subst (Keeps v) (sym is) refl)
    once_by atomic delta kind event reply is = tt

    func_by : (code : ℕ) → line.kind ≡ kinds.OnceFunc code → (event : ObjectEvent) (reply : ObjectReply) → entry.deed ≡ Event event reply → ReplyIs (speakers.OnceFunc code) reply
    func_by code kind event (object_replies.OnceFunc reply) is =
        func_keeps claim.plan r explains.lawful place line code at kind (λ other k e v answer there same. (ends_at (kinds.OnceFunc code) kind other k e (Event (object_events.OnceFunc (End v)) answer) there same).0) worker i entry event reply here is
    func_by code kind event reply is = tt

    value_by : (value : ℕ) → line.kind ≡ kinds.OnceValue value → (event : ObjectEvent) (reply : ObjectReply) → entry.deed ≡ Event event reply → ReplyIs (speakers.OnceValue value) reply
    value_by value kind event (object_replies.OnceValue reply) is =
        value_keeps claim.plan r explains.lawful place line value at kind (λ other k e v answer there same. (ends_at (kinds.OnceValue value) kind other k e (Event (object_events.OnceValue (End v)) answer) there same).0) worker i entry event reply here is
    value_by value kind event reply is = tt

    -- the reply is what the object's place says
    reply_by : (kind : ObjectKind) → line.kind ≡ kind → (event : ObjectEvent) (reply : ObjectReply) → entry.deed ≡ Event event reply → EventFits (declared_speaker kept (object_number place) worker sum kind) event → ReplyIs (declared_speaker kept (object_number place) worker sum kind) reply
    reply_by kinds.Mutex kind event reply is fits = mutex_by kind event reply is
    reply_by (kinds.Once atomic delta) kind (object_events.Once event) reply is fits = once_by atomic delta kind event reply is
    reply_by (kinds.Once atomic delta) kind event reply is fits = absurd fits
    reply_by (kinds.OnceFunc code) kind event reply is fits = func_by code kind event reply is
    reply_by (kinds.OnceValue value) kind event reply is fits = value_by value kind event reply is
    reply_by any kind event reply is fits = tt

  -- the deed of each entry is what its place in the list says
  deed_at : (sum : ℤ) (worker i object : ℕ) (entry : ObjectEntry) → slice_get (list_of r worker) i ≡ Some (Entered object entry) → EndIs sum entry.deed → DeedIs (speaker_of claim.plan kept object worker sum) entry.deed
  deed_at sum worker i object entry here ends =
      deed_is_so claim.plan kept worker sum object entry.deed ends (fits_at kept sum worker i object entry here)
      (λ event reply place line number at is fits.
      subst (λ (o : ℕ). ReplyIs (declared_speaker kept o worker sum line.kind) reply) (sym number)
      (reply_by place line at worker i entry (here ∙ ap (λ (o : ℕ). Some (Entered o entry)) number) sum line.kind refl event reply is (subst (λ (o : ℕ). EventFits (declared_speaker kept o worker sum line.kind) event) number fits)))

  -- nothing else is told of the items
  module _ (plain : (worker i : ℕ) (list : List ToldItem) (x : ToldItem) → slice_get claim.lists worker ≡ Some list → slice_get list i ≡ Some x → IsPlain x.number x.made) where
    module _ (worker : ℕ) (list : List ToldItem) (there : slice_get claim.lists worker ≡ Some list) where
      halt_is : (x : ToldItem) (i object : ℕ) (entry : ObjectEntry) → slice_get list i ≡ Some x → x.made ≡ Entered object entry → (deed : Deed ObjectEvent ObjectReply) → entry.deed ≡ deed → HaltIs claim.plan kept worker x.call deed
      halt_is x i object entry at made (Halt misuse) is = spelt.told.halts worker i list x there at (ap is_halt made ∙ ap halts is)
      halt_is x i object entry at made deed is = tt

      such : (i : ℕ) (x : ToldItem) → slice_get list i ≡ Some x → (made : Made) → x.made ≡ made → IsSuch claim.plan kept worker x.call x.number made
      such i x at (Shared item) made = (
        subst (λ (m : Made). is_halt m ≡ false → TypeFits claim.plan (script_call claim.plan worker x.call) m) made
            (each_at (λ (x : ToldItem). is_halt x.made ≡ false → TypeFits claim.plan (script_call claim.plan worker x.call) x.made) list i x (calls_are worker list there) at) refl,
        subst (IsPlain x.number) made (plain worker i list x there at),
      )
      such i x at (Entered object entry) made =
          let here : slice_get (list_of r worker) i ≡ Some (Entered object entry) =
          ap (λ (l : List Made). slice_get l i) (list_is worker list there) ∙ slice_get-map (λ (y : ToldItem). y.made) list i ∙ ap (λ (o : Option ToldItem). option_map (λ (y : ToldItem). y.made) o) at ∙ ap (λ (m : Made). Some m) made in
          let (knew, time) = subst (IsPlain x.number) made (plain worker i list x there at) in
          (λ sum ends. deed_at sum worker i object entry here ends, halt_is x i object entry at made entry.deed refl, own_entry claim.plan r explains.lawful worker i object entry here, knew, time)

      pub all_are_so : AllAre claim.plan kept worker along_start list (told_of items worker)
      all_are_so = all_are claim.plan kept worker along_start list (told_of items worker) (written worker list there) (nexts_are worker list there) (sums_are worker list there) (each_of (ItemIsSuch claim.plan kept worker) list (λ i x at. such i x at x.made refl))
