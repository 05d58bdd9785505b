-- The flight that a call on a group of flights led or joined.
use Rattle.std.proofs.Common.{◌≡◌, ◌≢◌, ◌⊎◌, inl, inr, ℕ, zero, suc, ◌+◌, ◌<◌, ◌≤◌, ℤ, ◌==◌, Bool, true, false, cond, ◌||◌, List, [], ◌∷◌, ◌++◌, map, length, get_or, Some, None, slice_get, refl, sym, ap, ◌∙◌, subst, append_assoc, length-append, arith}
use Rattle.std.specs.List.{AllByRecursion}
use Rattle.std.proofs.lemmas.Bool.{eqb-true, eq-eqb, false≢true, cases_lt}
use Rattle.std.proofs.lemmas.Option.{none-some, same_Some, slice_get_within}
use Rattle.sync_types.specs.declared.atomic_object.AtomicCall.TheVariants.{Add}
use Rattle.sync_types.specs.declared.atomic_object.AtomicReply.TheVariants.{Held}
use Rattle.sync_types.specs.declared.atomic_object.Number.TheVariants.{Int64}
use Rattle.script_calls.specs.declared.call.Reply.{Reply}
use Rattle.script_calls.specs.declared.call.Reply.TheVariants as replies
use Rattle.script_calls.specs.declared.outcome.Outcome.{Outcome}
use Rattle.sync_model.specs.declared.item.Item.{Item}
use Rattle.sync_model.specs.declared.item.SharedCall.TheVariants as calls
use Rattle.sync_model.specs.declared.item.SharedReply.TheVariants as answers
use Rattle.sync_model.specs.declared.journal.Deed.{Deed}
use Rattle.sync_model.specs.declared.journal.Deed.TheVariants.{Event, Refused, Halt}
use Rattle.sync_model.specs.declared.journal.Entry.{Entry}
use Rattle.sync_model.specs.Journal.{Follows, by, is_such, logged, log_of}
use Rattle.sync_model.specs.Log as log
use Rattle.sync_model.specs.Log.{after}
use Rattle.flight_core.specs.declared.event.FlightEvent.{FlightEvent}
use Rattle.flight_core.specs.declared.event.FlightEvent.TheVariants.{Join, Land, Leave}
use Rattle.flight_core.specs.declared.event.FlightReply.{FlightReply}
use Rattle.flight_core.specs.declared.event.FlightReply.TheVariants as flown
use Rattle.flight_core.specs.FlightLaws.{FlightEntry, Log, state_after, lead_by, join_by, leave_by, land_by, EndsNone, is_join, has_join, IsIdle, JoinsFlight}
use Rattle.flight_core.specs.FlightMachine.{FlightState, next, start}
use Rattle.workload.specs.declared.object.ObjectKind.TheVariants as kinds
use Rattle.workload.specs.declared.object.ObjectLine.{ObjectLine}
use Rattle.workload.specs.Plan.{Plan}
use Rattle.run_record.specs.declared.entered.ObjectEvent.{ObjectEvent}
use Rattle.run_record.specs.declared.entered.ObjectEvent.TheVariants as event
use Rattle.run_record.specs.declared.entered.ObjectReply.{ObjectReply}
use Rattle.run_record.specs.declared.entered.ObjectReply.TheVariants as reply
use Rattle.run_record.specs.declared.made.Made.{Made}
use Rattle.run_record.specs.declared.made.Made.TheVariants.{Shared, Entered}
use Rattle.run_record.specs.Explains.{AreLines, IsRecordOf}
use Rattle.run_record.specs.FlightKind.{IsFlightJournal}
use Rattle.run_record.specs.Flights.{IsOnFlights, IsFlight, HasJoiner, AddsOnce, FliesOnce}
use Rattle.run_record.specs.Lines.{Line, items_of}
use Rattle.run_record.specs.Objects.{atomic_number}
use Rattle.run_record.specs.Parts.{lifted_deed, lifted}
use Rattle.run_record.specs.Record.{Record, ObjectEntry, object_number, journal_of, list_of, entries_in}
use Rattle.run_record.specs.Returns.{HasLed, HasJoined, FlightReturns}
use Rattle.run_record.proofs.CondWaits.{within}
use Rattle.run_record.proofs.FlightLands.{LandsFrom, Lands, line_lands, lands_none}
use Rattle.run_record.proofs.FlightReturns.{FlightGives}
use Rattle.run_record.proofs.JournalCuts.{last_of, second_at, mid_at, at_mid, cut_map, map_both, by_both, by_first, cut_by, CutIn, cut_in, cut_log}
use Rattle.run_record.proofs.JournalParts.{cut_two, log_at, log_cut, logged_such}
use Rattle.run_record.proofs.Lifts.{lifted_from, lifted_at}
use Rattle.run_record.proofs.ListLemmas.{at_length}
use Rattle.run_record.proofs.ListOrder.{entries_both, entries_first, entries_cut}
use Rattle.run_record.proofs.ObjectJournals.{journal_at}

abbrev Own : Type 0
Own = Entry FlightEvent FlightReply

abbrev lift : Own → ObjectEntry
lift entry = lifted event.Flight reply.Flight entry

-- what holds of a group's machine, by the laws below
pub record FlightLaws : Type 0 where
  pub logs : (s : FlightState) (journal : List Own) → Follows next true s None journal → log.Follows next s (log_of journal)
  pub apart : (s : FlightState) (earlier later : Log) → log.Follows next s (earlier ++ later) → log.Follows next s earlier × log.Follows next (after next s earlier) later
  pub gives : FlightGives
  pub joined : (callers caller key : ℕ) (value : ℤ) (before between rest : Log) → IsIdle caller between
      → log.Follows next (start callers) (before ++ join_by caller key ∷ (between ++ leave_by caller value ∷ rest)) → JoinsFlight caller key value before between
  pub alone : (state : FlightState) (leader other key : ℕ) (between rest : Log) → EndsNone leader between → log.Follows next state (lead_by leader key ∷ (between ++ lead_by other key ∷ rest)) → ⊥
  pub tells : (callers caller key : ℕ) (value : ℤ) (shared : Bool) (before between rest : Log) → EndsNone caller between
      → log.Follows next (state_after callers before) (lead_by caller key ∷ (between ++ land_by caller value shared ∷ rest)) → shared ≡ has_join key between

-- the deed of an entry of a group
of_flight : (d : Deed FlightEvent FlightReply) (e : FlightEvent) (r : FlightReply) → lifted_deed event.Flight reply.Flight d ≡ Event (event.Flight e) (reply.Flight r) → d ≡ Event e r
of_flight (Event f s) e r is = ap read is where
  read : Deed ObjectEvent ObjectReply → Deed FlightEvent FlightReply
  read (Event (event.Flight g) (reply.Flight t)) = Event g t
  read d = Event f s
of_flight (Refused f m) e r is = absurd cc
of_flight (Halt m) e r is = absurd cc

abbrev IsStill : ObjectEntry → Type 0
IsStill entry = entry.deed ≡ Event (event.Flight Leave) (reply.Flight flown.Still)

-- ---- idle callers

still_reply : (d : Deed FlightEvent FlightReply) (e : FlightEvent) (r : FlightReply) → d ≡ Event e r → lifted_deed event.Flight reply.Flight d ≡ Event (event.Flight Leave) (reply.Flight flown.Still) → r ≡ flown.Still
still_reply d e r is stood = let both : Event e r ≡ Event Leave flown.Still = sym is ∙ of_flight d Leave flown.Still stood in cc

idle_log : (w : ℕ) (xs : List Own) → AllByRecursion IsStill (by w (map lift xs)) → IsIdle w (log_of xs)
idle_log w [] all = tt
idle_log w (x ∷ xs) all = by_test (x.caller == w) refl (idle_log w xs) all where
  by_deed : (d : Deed FlightEvent FlightReply) → x.deed ≡ d → IsIdle w (log_of xs) → (x.caller ≡ w → IsStill (lift x)) → IsIdle w (logged x.caller d (log_of xs))
  by_deed (Event e r) is idle stood = ((λ own. still_reply x.deed e r is (stood own)), idle)
  by_deed (Refused e m) is idle stood = idle
  by_deed (Halt m) is idle stood = idle

  by_test : (b : Bool) → (x.caller == w) ≡ b → (AllByRecursion IsStill (by w (map lift xs)) → IsIdle w (log_of xs)) → AllByRecursion IsStill (cond b (lift x ∷ by w (map lift xs)) (by w (map lift xs))) → IsIdle w (logged x.caller x.deed (log_of xs))
  by_test true own later all = by_deed x.deed refl (later all.1) (λ same. all.0)
  by_test false other later all = by_deed x.deed refl (later all) (λ same. absurd (false≢true (sym other ∙ eq-eqb x.caller w same)))

idle_both : (w : ℕ) (xs ys : Log) → IsIdle w xs → IsIdle w ys → IsIdle w (xs ++ ys)
idle_both w [] ys one other = other
idle_both w (x ∷ xs) ys one other = (one.0, idle_both w xs ys one.1 other)

idle_at : (w : ℕ) (xs ys : Log) (x : FlightEntry) → IsIdle w (xs ++ x ∷ ys) → x.caller ≡ w → x.reply ≡ flown.Still
idle_at w [] ys x idle own = idle.0 own
idle_at w (z ∷ xs) ys x idle own = idle_at w xs ys x idle.1 own

-- an event of an idle caller was answered that it isn't at the place that it needs
idle_has : (w : ℕ) (xs : List Own) (less more : List ObjectEntry) (y : ObjectEntry) (e : FlightEvent) (r : FlightReply) → IsIdle w (log_of xs) → by w (map lift xs) ≡ less ++ y ∷ more → IsOnFlights e r y → r ≡ flown.Still
idle_has w xs less more y e r idle is deed =
    let c = cut_by w (map lift xs) less more y is in
    let m = cut_map lift xs c.front c.rest y c.parts in
    let own = of_flight m.item.deed e r (ap (λ (z : ObjectEntry). z.deed) m.is ∙ deed) in
    let parts : log_of xs ≡ log_of m.before ++ log.entry m.item.caller e r ∷ log_of m.behind = ap log_of m.parts ∙ log_at m.before m.behind m.item e r own in
    idle_at w (log_of m.before) (log_of m.behind) (log.entry m.item.caller e r) (subst (IsIdle w) parts idle) (ap (λ (z : ObjectEntry). z.caller) m.is ∙ c.mine)

-- what is asked of a caller's own entries holds where there are none
none_logged : (P : FlightEntry → Type 0) (w : ℕ) (xs : List Own) → ((k : ℕ) (z : Own) → slice_get xs k ≡ Some z → z.caller ≢ w) → AllByRecursion (λ (e : FlightEntry). e.caller ≡ w → P e) (log_of xs)
none_logged P w [] none = tt
none_logged P w (x ∷ xs) none = by_deed x.deed (none_logged P w xs (λ k z at. none (suc k) z at)) where
  by_deed : (d : Deed FlightEvent FlightReply) → AllByRecursion (λ (e : FlightEntry). e.caller ≡ w → P e) (log_of xs) → AllByRecursion (λ (e : FlightEntry). e.caller ≡ w → P e) (logged x.caller d (log_of xs))
  by_deed (Event e r) later = ((λ own. absurd (none 0 x refl own)), later)
  by_deed (Refused e m) later = later
  by_deed (Halt m) later = later

-- ---- joiners

join_deed : (key : ℕ) (d : Deed FlightEvent FlightReply) → is_such (is_join key) d ≡ true → d ≡ Event (Join key) flown.Queued
join_deed key (Event (Join own) flown.Queued) is = ap (λ (k : ℕ). Event (Join k) flown.Queued) (eqb-true own key is)
join_deed key (Event (Join own) flown.Lead) is = absurd (false≢true is)
join_deed key (Event (Join own) (flown.Landed shared)) is = absurd (false≢true is)
join_deed key (Event (Join own) (flown.Left value)) is = absurd (false≢true is)
join_deed key (Event (Join own) flown.Still) is = absurd (false≢true is)
join_deed key (Event (Land value) r) is = absurd (false≢true is)
join_deed key (Event Leave r) is = absurd (false≢true is)
join_deed key (Refused e m) is = absurd (false≢true is)
join_deed key (Halt m) is = absurd (false≢true is)

or_true : (a b : Bool) → b ≡ true → (a || b) ≡ true
or_true true b is = refl
or_true false b is = is

joins_logged : (key : ℕ) (xs : List Own) (k : ℕ) (x : Own) → slice_get xs k ≡ Some x → x.deed ≡ Event (Join key) flown.Queued → has_join key (log_of xs) ≡ true
joins_logged key [] k x at is = absurd (none-some x at)
joins_logged key (y ∷ xs) zero x at is =
    let same : y ≡ x = same_Some y x at in
    let deed : y.deed ≡ Event (Join key) flown.Queued = ap (λ (z : Own). z.deed) same ∙ is in
    ap (λ (d : Deed FlightEvent FlightReply). has_join key (logged y.caller d (log_of xs))) deed ∙ ap (λ (b : Bool). b || has_join key (log_of xs)) (eq-eqb key key refl)
joins_logged key (y ∷ xs) (suc k) x at is = by_deed y.deed (joins_logged key xs k x at is) where
  by_deed : (d : Deed FlightEvent FlightReply) → has_join key (log_of xs) ≡ true → has_join key (logged y.caller d (log_of xs)) ≡ true
  by_deed (Event e r) later = or_true (is_join key e r) (has_join key (log_of xs)) later
  by_deed (Refused e m) later = later
  by_deed (Halt m) later = later

-- ---- a flight, where a journal is cut at its lead and its landing

none_mine : (w : ℕ) (xs : List ObjectEntry) → by w xs ≡ [] → (k : ℕ) (z : ObjectEntry) → slice_get xs k ≡ Some z → z.caller ≢ w
none_mine w [] none k z at own = absurd (none-some z at)
none_mine w (x ∷ xs) none zero z at own =
    let same : x ≡ z = same_Some x z at in
    let first = by_first w x xs (ap (λ (e : ObjectEntry). e.caller) same ∙ own) in
    let clash : x ∷ by w xs ≡ [] = sym first ∙ none in
    cc
none_mine w (x ∷ xs) none (suc k) z at own = none_mine w xs (rest (x.caller == w) none) k z at own where
  rest : (b : Bool) → cond b (x ∷ by w xs) (by w xs) ≡ [] → by w xs ≡ []
  rest true is = absurd cc
  rest false is = is

abbrev flight_at : (journal front mid rest : List ObjectEntry) (lead landing : ObjectEntry) (key leader : ℕ) (value : ℤ) (shared : Bool) → journal ≡ front ++ lead ∷ (mid ++ landing ∷ rest)
    → IsOnFlights (Join key) flown.Lead lead → IsOnFlights (Land value) (flown.Landed shared) landing → lead.caller ≡ leader → landing.caller ≡ leader → by leader mid ≡ []
    → IsFlight journal key leader (length front) (length front + suc (length mid)) value shared
flight_at journal front mid rest lead landing key leader value shared parts leads lands led_by landed_by none = record {
  lead = lead;
  landing = landing;
  at_lead = subst (λ (l : List ObjectEntry). slice_get l (length front) ≡ Some lead) (sym parts) (at_length front (mid ++ landing ∷ rest) lead);
  at_landing = subst (λ (l : List ObjectEntry). slice_get l (length front + suc (length mid)) ≡ Some landing) (sym parts) (second_at front mid rest lead landing (length front + suc (length mid)) refl);
  leads = leads;
  lands = lands;
  led_by = led_by;
  landed_by = landed_by;
  in_order = omega arith;
  busy = λ i entry above below at.
      let there = at_mid front mid rest lead landing i entry (subst (λ (l : List ObjectEntry). slice_get l i ≡ Some entry) parts at) above below in
      none_mine leader mid none there.0 entry there.1;
}

-- ---- what the lists show

entries_all : (object : ℕ) (xs : List ObjectEntry) → entries_in object (map (λ entry. Entered object entry) xs) ≡ xs
entries_all object [] = refl
entries_all object (x ∷ xs) = entries_first object x (map (λ entry. Entered object entry) xs) ∙ ap (λ (l : List ObjectEntry). x ∷ l) (entries_all object xs)

module _ (laws : FlightLaws) (plan : Plan) (r : Record) (lawful : IsRecordOf plan r) (place atomic : ℕ) (amount : ℤ) (group : ObjectLine) (there : slice_get plan.objects place ≡ Some group) (of_kind : group.kind ≡ kinds.Flight atomic amount) where
  abbrev object : ℕ
  object = object_number place

  abbrev a : ℕ
  a = atomic_number plan.objects atomic

  abbrev journal : List ObjectEntry
  journal = journal_of r object

  kept : IsFlightJournal plan.workers journal
  kept = journal_at plan r place group (kinds.Flight atomic amount) lawful there of_kind

  abbrev own : List Own
  own = kept.0

  follows : log.Follows next (start plan.workers) (log_of own)
  follows = laws.logs (start plan.workers) own kept.2

  -- in a list a flight is three items
  leader_list : (d : ℕ) (front mid rest : List ObjectEntry) (lead landing : ObjectEntry) (value : ℤ) (shared : Bool) → journal ≡ front ++ lead ∷ (mid ++ landing ∷ rest) → lead.caller ≡ d → landing.caller ≡ d
      → IsOnFlights (Land value) (flown.Landed shared) landing → Lands object a amount (list_of r d)
      → ((less : List ObjectEntry) (y : ObjectEntry) (e : FlightEvent) (r : FlightReply) → by d mid ≡ less ++ y ∷ [] → IsOnFlights e r y → r ≡ flown.Still)
      → (by d mid ≡ []) × AddsOnce (list_of r d) object a amount value lead landing
  leader_list d front mid rest lead landing value shared parts led landed lands rightly idle = by_last (last_of (entries_in object l.before) (by d front) (by d mid) l.lead lead so) where
    before : by d (front ++ lead ∷ mid) ≡ by d front ++ lead ∷ by d mid
    before = by_both d front (lead ∷ mid) ∙ ap (λ (es : List ObjectEntry). by d front ++ es) (by_first d lead mid led)

    own_journal : by d journal ≡ by d (front ++ lead ∷ mid) ++ landing ∷ by d rest
    own_journal = ap (by d) (parts ∙ sym (append_assoc front (lead ∷ mid) (landing ∷ rest))) ∙ by_both d (front ++ lead ∷ mid) (landing ∷ rest)
        ∙ ap (λ (es : List ObjectEntry). by d (front ++ lead ∷ mid) ++ es) (by_first d landing rest landed)

    c : CutIn object (list_of r d) (by d (front ++ lead ∷ mid)) landing (by d rest)
    c = cut_in object (list_of r d) (by d (front ++ lead ∷ mid)) (by d rest) landing (lawful.once d object ∙ own_journal)

    l : LandsFrom object a amount c.front value
    l = rightly c.front c.rest landing value shared c.parts lands

    so : entries_in object l.before ++ l.lead ∷ [] ≡ by d front ++ lead ∷ by d mid
    so = sym (ap (entries_in object) l.are ∙ entries_both object l.before (Entered object l.lead ∷ (Shared l.add ∷ [])) ∙ ap (λ (es : List ObjectEntry). entries_in object l.before ++ es) (entries_first object l.lead (Shared l.add ∷ []))) ∙ c.before ∙ before

    by_last : ((l.lead ≡ lead) × (by d mid ≡ [])) ⊎ ((less : List ObjectEntry) × (by d mid ≡ less ++ l.lead ∷ [])) → (by d mid ≡ []) × AddsOnce (list_of r d) object a amount value lead landing
    by_last (inl (same, none)) = (
      none,
      record {
        earlier = l.before;
        add = l.add;
        later = c.rest;
        are = c.parts ∙ ap (λ (xs : List Made). xs ++ Entered object landing ∷ c.rest) l.are ∙ append_assoc l.before (Entered object l.lead ∷ (Shared l.add ∷ [])) (Entered object landing ∷ c.rest)
            ∙ ap (λ (e : ObjectEntry). l.before ++ Entered object e ∷ (Shared l.add ∷ (Entered object landing ∷ c.rest))) same;
        adds = l.adds;
        comes_to = l.comes_to;
      },
    )
    by_last (inr (less, is)) = let wrong = idle less l.lead (Join l.key) flown.Lead is l.leads in absurd cc

  -- so it is in the list of whoever led
  module _ (outcome : Outcome) (lines : List Line) (are : AreLines plan r outcome lines) where
    each_got : {A B : Type 0} (f : A → B) (P : B → Type 0) (d : B) (xs : List A) (i : ℕ) → P d → ((x : A) → slice_get xs i ≡ Some x → P (f x)) → P (get_or (map f xs) i d)
    each_got f P d [] i none each = none
    each_got f P d (x ∷ xs) zero none each = each x refl
    each_got f P d (x ∷ xs) (suc i) none each = each_got f P d xs i none each

    lists_land : (d : ℕ) → Lands object a amount (list_of r d)
    lists_land d = subst (λ (lists : List (List Made)). Lands object a amount (get_or lists d [])) are.lists
        (each_got items_of (Lands object a amount) [] lines d (lands_none object a amount [] tt) (λ line at. line_lands laws.gives plan place atomic amount group there of_kind d line (are.each d line at)))

    -- while a flight lasts nobody leads another one of its key
    leads_apart : (key m n : ℕ) (x y : ObjectEntry) → m < n → slice_get journal m ≡ Some x → slice_get journal n ≡ Some y → IsOnFlights (Join key) flown.Lead x → IsOnFlights (Join key) flown.Lead y
        → ((i : ℕ) (z : ObjectEntry) → m < i → i < n → slice_get journal i ≡ Some z → z.caller ≢ x.caller) → ⊥
    leads_apart key m n x y before at_x at_y is_x is_y busy =
        let first = lifted_from event.Flight reply.Flight own m x (subst (λ (es : List ObjectEntry). slice_get es m ≡ Some x) kept.1 at_x) in
        let second = lifted_from event.Flight reply.Flight own n y (subst (λ (es : List ObjectEntry). slice_get es n ≡ Some y) kept.1 at_y) in
        let first_deed = of_flight first.0.deed (Join key) flown.Lead (ap (λ (e : ObjectEntry). e.deed) first.2 ∙ is_x) in
        let second_deed = of_flight second.0.deed (Join key) flown.Lead (ap (λ (e : ObjectEntry). e.deed) second.2 ∙ is_y) in
        let cut = cut_two own m n first.0 second.0 before first.1 second.1 in
        let parts : log_of own ≡ log_of cut.front ++ lead_by first.0.caller key ∷ (log_of cut.mid ++ lead_by second.0.caller key ∷ log_of cut.rest) =
        ap log_of cut.parts ∙ log_cut cut.front cut.mid cut.rest first.0 second.0 (Join key) (Join key) flown.Lead flown.Lead first_deed second_deed in
        let others : (k : ℕ) (z : Own) → slice_get cut.mid k ≡ Some z → z.caller ≢ first.0.caller = λ k z at mine.
        (let found = cut.inner k z at in
        busy found.0 (lift z) found.2 found.3 (subst (λ (es : List ObjectEntry). slice_get es found.0 ≡ Some (lift z)) (sym kept.1) (lifted_at event.Flight reply.Flight own found.0 z found.1)) (mine ∙ ap (λ (e : ObjectEntry). e.caller) first.2)) in
        let ends : EndsNone first.0.caller (log_of cut.mid) = none_logged _ first.0.caller cut.mid others in
        let behind = (laws.apart (start plan.workers) (log_of cut.front) (lead_by first.0.caller key ∷ (log_of cut.mid ++ lead_by second.0.caller key ∷ log_of cut.rest)) (subst (λ (l : Log). log.Follows next (start plan.workers) l) parts follows)).1 in
        laws.alone (after next (start plan.workers) (log_of cut.front)) first.0.caller second.0.caller key (log_of cut.mid) (log_of cut.rest) ends behind

    -- so two flights of a key that last at one moment are one
    same_flight : (key came leader from to another begin end : ℕ) (value other : ℤ) (shared other_shared : Bool) → IsFlight journal key leader from to value shared → from ≤ came → came < to
        → IsFlight journal key another begin end other other_shared → begin ≤ came → came < end → (another ≡ leader) × (begin ≡ from) × (end ≡ to)
    same_flight key came leader from to another begin end value other shared other_shared f above below g above_too below_too = by_order (cases_lt from begin) (cases_lt begin from) where
      first : from < begin → ⊥
      first less = leads_apart key from begin f.lead g.lead less f.at_lead g.at_lead f.leads g.leads (λ i z later sooner at mine. f.busy i z later (omega (arith, sooner, above_too, below)) at (mine ∙ f.led_by))

      second : begin < from → ⊥
      second less = leads_apart key begin from g.lead f.lead less g.at_lead f.at_lead g.leads f.leads (λ i z later sooner at mine. g.busy i z later (omega (arith, sooner, above, below_too)) at (mine ∙ g.led_by))

      leaders : begin ≡ from → another ≡ leader
      leaders same = sym g.led_by ∙ (ap (λ (e : ObjectEntry). e.caller) (same_Some g.lead f.lead (sym g.at_lead ∙ (ap (λ (n : ℕ). slice_get journal n) same ∙ f.at_lead))) ∙ f.led_by)

      by_ends : begin ≡ from → (to < end) ⊎ (end ≤ to) → (end < to) ⊎ (to ≤ end) → (another ≡ leader) × (begin ≡ from) × (end ≡ to)
      by_ends same (inl less) more = absurd (g.busy to f.landing (omega (arith, above_too, below)) less f.at_landing (f.landed_by ∙ sym (leaders same)))
      by_ends same (inr one) (inl less) = absurd (f.busy end g.landing (omega (arith, above, below_too)) less g.at_landing (g.landed_by ∙ leaders same))
      by_ends same (inr one) (inr two) = (leaders same, same, omega (arith, one, two))

      by_order : (from < begin) ⊎ (begin ≤ from) → (begin < from) ⊎ (from ≤ begin) → (another ≡ leader) × (begin ≡ from) × (end ≡ to)
      by_order (inl less) more = absurd (first less)
      by_order (inr one) (inl less) = absurd (second less)
      by_order (inr one) (inr two) = let same : begin ≡ from = omega (arith, one, two) in by_ends same (cases_lt to end) (cases_lt end to)

    -- ---- a call that led

    long : (xs : List Own) → length (map lift xs) ≡ length xs
    long [] = refl
    long (x ∷ xs) = ap suc (long xs)

    has_joiner : (front mid rest : List Own) (lead landing : Own) (key : ℕ) → own ≡ front ++ lead ∷ (mid ++ landing ∷ rest) → has_join key (log_of mid) ≡ true
        → HasJoiner journal key (length (map lift front)) (length (map lift front) + suc (length (map lift mid)))
    has_joiner front mid rest lead landing key parts has =
        let found = logged_such (is_join key) mid has in
        let at = subst (λ (l : List Own). slice_get l (length front + suc found.at) ≡ Some found.entry) (sym parts) (mid_at front mid rest lead landing found.at found.entry (length front + suc found.at) refl found.is) in
        let within_mid = slice_get_within mid found.at found.entry found.is in
        record {
          at = length front + suc found.at;
          joiner = lift found.entry;
          is = subst (λ (l : List ObjectEntry). slice_get l (length front + suc found.at) ≡ Some (lift found.entry)) (sym kept.1) (lifted_at event.Flight reply.Flight own (length front + suc found.at) found.entry at);
          joins = ap (lifted_deed event.Flight reply.Flight) (join_deed key found.entry.deed found.such);
          after_lead = omega (arith, long front);
          before_landing = omega (arith, within_mid, long front, long mid);
        }

    joiner_has : (front mid rest : List Own) (lead landing : Own) (key : ℕ) → own ≡ front ++ lead ∷ (mid ++ landing ∷ rest) → HasJoiner journal key (length (map lift front)) (length (map lift front) + suc (length (map lift mid)))
        → has_join key (log_of mid) ≡ true
    joiner_has front mid rest lead landing key parts h =
        let y = lifted_from event.Flight reply.Flight own h.at h.joiner (subst (λ (l : List ObjectEntry). slice_get l h.at ≡ Some h.joiner) kept.1 h.is) in
        let above = h.after_lead in
        let below = h.before_landing in
        let k = at_mid front mid rest lead landing h.at y.0 (subst (λ (l : List Own). slice_get l h.at ≡ Some y.0) parts y.1) (omega (arith, above, long front)) (omega (arith, below, long front, long mid)) in
        joins_logged key mid k.0 y.0 k.1 (of_flight y.0.deed (Join key) flown.Queued (ap (λ (e : ObjectEntry). e.deed) y.2 ∙ h.joins))

    -- the journal, where its group's entries are cut at two
    journal_cut : (front mid rest : List Own) (x y : Own) → own ≡ front ++ x ∷ (mid ++ y ∷ rest) → journal ≡ map lift front ++ lift x ∷ (map lift mid ++ lift y ∷ map lift rest)
    journal_cut front mid rest x y parts = kept.1 ∙ ap (map lift) parts ∙ map_both lift front (x ∷ (mid ++ y ∷ rest)) ∙ ap (λ (l : List ObjectEntry). map lift front ++ lift x ∷ l) (map_both lift mid (y ∷ rest))

    -- two entries of a worker, one behind the other in its list, cut the journal
    record CutTwice (worker : ℕ) (between : List ObjectEntry) (first last : ObjectEntry) : Type 0 where
      front : List Own
      mid : List Own
      rest : List Own
      x : Own
      y : Own
      parts : own ≡ front ++ x ∷ (mid ++ y ∷ rest)
      x_is : lift x ≡ first
      y_is : lift y ≡ last
      first_mine : first.caller ≡ worker
      last_mine : last.caller ≡ worker
      mine : by worker (map lift mid) ≡ between

    cut_twice : (worker : ℕ) (earlier between later : List ObjectEntry) (first last : ObjectEntry) → by worker journal ≡ earlier ++ first ∷ (between ++ last ∷ later) → CutTwice worker between first last
    cut_twice worker earlier between later first last is =
        let one = cut_by worker journal earlier (between ++ last ∷ later) first is in
        let two = cut_by worker one.rest between later last one.behind in
        let m = cut_map lift own one.front one.rest first (sym kept.1 ∙ one.parts) in
        let n = cut_map lift m.behind two.front two.rest last (m.rest_is ∙ two.parts) in
        record {
          front = m.before;
          mid = n.before;
          rest = n.behind;
          x = m.item;
          y = n.item;
          parts = m.parts ∙ ap (λ (l : List Own). m.before ++ m.item ∷ l) n.parts;
          x_is = m.is;
          y_is = n.is;
          first_mine = one.mine;
          last_mine = two.mine;
          mine = ap (by worker) n.front_is ∙ two.before;
        }

    -- the journal at these entries
    cut_journal : (worker : ℕ) (between : List ObjectEntry) (first last : ObjectEntry) (c : CutTwice worker between first last) → journal ≡ map lift c.front ++ first ∷ (map lift c.mid ++ last ∷ map lift c.rest)
    cut_journal worker between first last c = journal_cut c.front c.mid c.rest c.x c.y c.parts
        ∙ ap (λ (e : ObjectEntry). map lift c.front ++ e ∷ (map lift c.mid ++ lift c.y ∷ map lift c.rest)) c.x_is
        ∙ ap (λ (e : ObjectEntry). map lift c.front ++ first ∷ (map lift c.mid ++ e ∷ map lift c.rest)) c.y_is

    -- and the log
    cut_logged : (worker : ℕ) (between : List ObjectEntry) (first last : ObjectEntry) (e f : FlightEvent) (s t : FlightReply) (c : CutTwice worker between first last) → IsOnFlights e s first → IsOnFlights f t last
        → log.Follows next (start plan.workers) (log_of c.front ++ log.entry worker e s ∷ (log_of c.mid ++ log.entry worker f t ∷ log_of c.rest))
    cut_logged worker between first last e f s t c is_first is_last =
        let x_deed : c.x.deed ≡ Event e s = of_flight c.x.deed e s (ap (λ (z : ObjectEntry). z.deed) c.x_is ∙ is_first) in
        let y_deed : c.y.deed ≡ Event f t = of_flight c.y.deed f t (ap (λ (z : ObjectEntry). z.deed) c.y_is ∙ is_last) in
        let x_mine : c.x.caller ≡ worker = ap (λ (z : ObjectEntry). z.caller) c.x_is ∙ c.first_mine in
        let y_mine : c.y.caller ≡ worker = ap (λ (z : ObjectEntry). z.caller) c.y_is ∙ c.last_mine in
        let parts : log_of own ≡ log_of c.front ++ log.entry worker e s ∷ (log_of c.mid ++ log.entry worker f t ∷ log_of c.rest) =
        ap log_of c.parts ∙ log_cut c.front c.mid c.rest c.x c.y e f s t x_deed y_deed
        ∙ ap (λ (n : ℕ). log_of c.front ++ log.entry n e s ∷ (log_of c.mid ++ log.entry c.y.caller f t ∷ log_of c.rest)) x_mine
        ∙ ap (λ (n : ℕ). log_of c.front ++ log.entry worker e s ∷ (log_of c.mid ++ log.entry n f t ∷ log_of c.rest)) y_mine in
        subst (λ (l : Log). log.Follows next (start plan.workers) l) parts follows

    led_tells : (worker key : ℕ) (value : ℤ) (shared : Bool) (lead landing : ObjectEntry) (c : CutTwice worker [] lead landing) → IsOnFlights (Join key) flown.Lead lead → IsOnFlights (Land value) (flown.Landed shared) landing → shared ≡ has_join key (log_of c.mid)
    led_tells worker key value shared lead landing c leads lands =
        let others : (k : ℕ) (z : Own) → slice_get c.mid k ≡ Some z → z.caller ≢ worker = λ k z at. none_mine worker (map lift c.mid) c.mine k (lift z) (lifted_at event.Flight reply.Flight c.mid k z at) in
        let follows_it = cut_logged worker [] lead landing (Join key) (Land value) flown.Lead (flown.Landed shared) c leads lands in
        laws.tells plan.workers worker key value shared (log_of c.front) (log_of c.mid) (log_of c.rest) (none_logged _ worker c.mid others)
        (laws.apart (start plan.workers) (log_of c.front) (lead_by worker key ∷ (log_of c.mid ++ land_by worker value shared ∷ log_of c.rest)) follows_it).1

    led_cut : (worker key : ℕ) (earlier later items : List Made) (x : Item) (value : ℤ) (shared : Bool) (lead landing : ObjectEntry) → items ≡ Entered object lead ∷ (Shared x ∷ (Entered object landing ∷ []))
        → list_of r worker ≡ earlier ++ Entered object lead ∷ (Shared x ∷ (Entered object landing ∷ later)) → IsOnFlights (Join key) flown.Lead lead → IsOnFlights (Land value) (flown.Landed shared) landing
        → x.call ≡ calls.Atomic a (Add (Int64 amount)) → x.reply ≡ answers.Atomic (Held (Int64 value)) → CutTwice worker [] lead landing → FliesOnce r object a amount worker key items value shared
    led_cut worker key earlier later items x value shared lead landing items_are list_is leads lands asked replied c =
        let from : ℕ = length (map lift c.front) in
        let to : ℕ = length (map lift c.front) + suc (length (map lift c.mid)) in
        let flight : IsFlight journal key worker from to value shared = flight_at journal (map lift c.front) (map lift c.mid) (map lift c.rest) lead landing key worker value shared (cut_journal worker [] lead landing c) leads lands c.first_mine c.last_mine c.mine in
        let tells = led_tells worker key value shared lead landing c leads lands in
        let in_order : from < to = omega arith in
        let at_from : from ≤ from = omega arith in
        record {
          leader = worker;
          from = from;
          to = to;
          flight = flight;
          added = record { earlier = earlier; add = x; later = later; are = list_is; adds = asked; comes_to = replied };
          first = lead;
          between = Shared x ∷ [];
          last = landing;
          are = items_are;
          came = from;
          left = to;
          at_first = flight.at_lead;
          at_last = flight.at_landing;
          led_or_joined = inl (refl, refl, refl);
          only = λ another begin end other other_shared g above below. same_flight key from worker from to another begin end value other shared other_shared flight at_from in_order g above below;
          shared_so = λ is. has_joiner c.front c.mid c.rest c.x c.y key c.parts (sym tells ∙ is);
          joined_so = λ h. tells ∙ joiner_has c.front c.mid c.rest c.x c.y key c.parts h;
        }

    led_one : (worker key : ℕ) (earlier later items : List Made) (x : Item) (value : ℤ) (shared : Bool) → list_of r worker ≡ earlier ++ (items ++ later) → HasLed object key (Shared x ∷ []) value shared items
        → x.call ≡ calls.Atomic a (Add (Int64 amount)) → x.reply ≡ answers.Atomic (Held (Int64 value)) → FliesOnce r object a amount worker key items value shared
    led_one worker key earlier later items x value shared list led asked replied =
        let lead = led.leads.entry in
        let landing = led.lands.entry in
        let items_are : items ≡ Entered object lead ∷ (Shared x ∷ (Entered object landing ∷ [])) =
        led.are ∙ ap (λ (l : List Made). l ++ (Shared x ∷ led.landed)) led.leads.are ∙ ap (λ (l : List Made). Entered object lead ∷ (Shared x ∷ l)) led.lands.are in
        let list_is : list_of r worker ≡ earlier ++ Entered object lead ∷ (Shared x ∷ (Entered object landing ∷ later)) = list ∙ ap (λ (l : List Made). earlier ++ (l ++ later)) items_are in
        led_cut worker key earlier later items x value shared lead landing items_are list_is led.leads.deed led.lands.deed asked replied
        (cut_twice worker (entries_in object earlier) [] (entries_in object later) lead landing (sym (lawful.once worker object) ∙ ap (entries_in object) list_is ∙ entries_cut object earlier (Shared x ∷ []) later lead landing))

    -- ---- a call that joined

    -- the flight around a join of the worker, which stands between these entries
    record Around (worker key : ℕ) (value : ℤ) (front mid : List Own) : Type 0 where
      leader : ℕ
      before : List Own
      lead : Own
      since : List Own
      until : List Own
      landing : Own
      behind : List Own
      front_is : front ≡ before ++ lead ∷ since
      mid_is : mid ≡ until ++ landing ∷ behind
      another : leader ≢ worker
      led_by : lead.caller ≡ leader
      landed_by : landing.caller ≡ leader
      leads : lead.deed ≡ Event (Join key) flown.Lead
      lands : landing.deed ≡ Event (Land value) (flown.Landed true)
      idle_since : IsIdle leader (log_of since)
      idle_until : IsIdle leader (log_of until)

    around : (worker key : ℕ) (value : ℤ) (front mid : List Own) → JoinsFlight worker key value (log_of front) (log_of mid) → Around worker key value front mid
    around worker key value front mid f =
        let led = cut_log front f.earlier f.since (lead_by f.leader key) f.led in
        let landed = cut_log mid f.until f.later (land_by f.leader value true) f.landed in
        record {
          leader = f.leader;
          before = led.front;
          lead = led.entry;
          since = led.rest;
          until = landed.front;
          landing = landed.entry;
          behind = landed.rest;
          front_is = led.parts;
          mid_is = landed.parts;
          another = f.another;
          led_by = led.caller;
          landed_by = landed.caller;
          leads = led.deed;
          lands = landed.deed;
          idle_since = subst (IsIdle f.leader) (sym led.behind) f.idle_since;
          idle_until = subst (IsIdle f.leader) (sym landed.before) f.idle_until;
        }

    -- four entries of a list
    four : (all front mid rest before since until behind : List Own) (x y lead landing : Own) → all ≡ front ++ x ∷ (mid ++ y ∷ rest) → front ≡ before ++ lead ∷ since → mid ≡ until ++ landing ∷ behind
        → all ≡ before ++ lead ∷ ((since ++ x ∷ until) ++ landing ∷ (behind ++ y ∷ rest))
    four all front mid rest before since until behind x y lead landing parts front_is mid_is =
        parts ∙ ap (λ (l : List Own). l ++ x ∷ (mid ++ y ∷ rest)) front_is ∙ append_assoc before (lead ∷ since) (x ∷ (mid ++ y ∷ rest))
        ∙ ap (λ (l : List Own). before ++ lead ∷ (since ++ x ∷ (l ++ y ∷ rest))) mid_is
        ∙ ap (λ (l : List Own). before ++ lead ∷ (since ++ x ∷ l)) (append_assoc until (landing ∷ behind) (y ∷ rest))
        ∙ ap (λ (l : List Own). before ++ lead ∷ l) (sym (append_assoc since (x ∷ until) (landing ∷ (behind ++ y ∷ rest))))

    -- and how far they stand apart
    record Apart (from came to left : ℕ) : Type 0 where
      above : from < came
      at : from ≤ came
      below : came < to
      later : to < left

    far : (front mid before since until behind : List Own) (x lead landing : Own) → front ≡ before ++ lead ∷ since → mid ≡ until ++ landing ∷ behind
        → Apart (length (map lift before)) (length front) (length (map lift before) + suc (length (map lift (since ++ x ∷ until)))) (length front + suc (length mid))
    far front mid before since until behind x lead landing front_is mid_is =
        let a = ap (λ (l : List Own). length l) front_is ∙ length-append before (lead ∷ since) in
        let b = ap (λ (l : List Own). length l) mid_is ∙ length-append until (landing ∷ behind) in
        let c = long before in
        let d = long (since ++ x ∷ until) ∙ length-append since (x ∷ until) in
        record { above = omega (arith, a, c); at = omega (arith, a, c); below = omega (arith, a, c, d); later = omega (arith, a, b, c, d) }

    joined_made : (worker key : ℕ) (items : List Made) (value : ℤ) (j : HasJoined object key value items) (came left leader : ℕ) (front mid rest : List ObjectEntry) (lead landing : ObjectEntry) → worker ≢ leader
        → journal ≡ front ++ lead ∷ (mid ++ landing ∷ rest) → IsOnFlights (Join key) flown.Lead lead → IsOnFlights (Land value) (flown.Landed true) landing → lead.caller ≡ leader → landing.caller ≡ leader
        → (by leader mid ≡ []) × AddsOnce (list_of r leader) object a amount value lead landing → slice_get journal came ≡ Some j.first → slice_get journal left ≡ Some j.last
        → Apart (length front) came (length front + suc (length mid)) left → FliesOnce r object a amount worker key items value true
    joined_made worker key items value j came left leader front mid rest lead landing another parts leads lands led_by landed_by lists at_first at_last apart =
        let from : ℕ = length front in
        let to : ℕ = length front + suc (length mid) in
        let flight : IsFlight journal key leader from to value true = flight_at journal front mid rest lead landing key leader value true parts leads lands led_by landed_by lists.0 in
        record {
          leader = leader;
          from = from;
          to = to;
          flight = flight;
          added = lists.1;
          first = j.first;
          between = map (λ entry. Entered object entry) j.between;
          last = j.last;
          are = j.are;
          came = came;
          left = left;
          at_first = at_first;
          at_last = at_last;
          led_or_joined = inr (another, j.joins, j.leaves, apart.above, apart.below, apart.later);
          only = λ different begin end other other_shared g after_begin before_end. same_flight key came leader from to different begin end value other true other_shared flight apart.at apart.below g after_begin before_end;
          shared_so = λ is. record { at = came; joiner = j.first; is = at_first; joins = j.joins; after_lead = apart.above; before_landing = apart.below };
          joined_so = λ h. refl;
        }

    joined_around : (worker key : ℕ) (items : List Made) (value : ℤ) (j : HasJoined object key value items) (c : CutTwice worker j.between j.first j.last) → Around worker key value c.front c.mid → FliesOnce r object a amount worker key items value true
    joined_around worker key items value j c w =
        let x_mine : c.x.caller ≡ worker = ap (λ (e : ObjectEntry). e.caller) c.x_is ∙ c.first_mine in
        let join_is : c.x.deed ≡ Event (Join key) flown.Queued = of_flight c.x.deed (Join key) flown.Queued (ap (λ (e : ObjectEntry). e.deed) c.x_is ∙ j.joins) in
        let mid : List Own = w.since ++ c.x ∷ w.until in
        let parts = four own c.front c.mid c.rest w.before w.since w.until w.behind c.x c.y w.lead w.landing c.parts w.front_is w.mid_is in
        let cut = journal_cut w.before mid (w.behind ++ c.y ∷ c.rest) w.lead w.landing parts in
        let idle : IsIdle w.leader (log_of mid) = subst (IsIdle w.leader) (sym (log_at w.since w.until c.x (Join key) flown.Queued join_is))
        (idle_both w.leader (log_of w.since) (join_by c.x.caller key ∷ log_of w.until) w.idle_since ((λ mine. absurd (w.another (sym mine ∙ x_mine))), w.idle_until)) in
        let lead_is : IsOnFlights (Join key) flown.Lead (lift w.lead) = ap (lifted_deed event.Flight reply.Flight) w.leads in
        let landing_is : IsOnFlights (Land value) (flown.Landed true) (lift w.landing) = ap (lifted_deed event.Flight reply.Flight) w.lands in
        let came : ℕ = length c.front in
        let left : ℕ = length c.front + suc (length c.mid) in
        joined_made worker key items value j came left w.leader (map lift w.before) (map lift mid) (map lift (w.behind ++ c.y ∷ c.rest)) (lift w.lead) (lift w.landing) (λ same. w.another (sym same)) cut lead_is landing_is w.led_by w.landed_by
        (leader_list w.leader (map lift w.before) (map lift mid) (map lift (w.behind ++ c.y ∷ c.rest)) (lift w.lead) (lift w.landing) value true cut w.led_by w.landed_by landing_is (lists_land w.leader)
        (λ less y e given is deed. idle_has w.leader mid less [] y e given idle is deed))
        (subst (λ (l : List ObjectEntry). slice_get l came ≡ Some j.first) (sym kept.1)
        (lifted_at event.Flight reply.Flight own came c.x (subst (λ (l : List Own). slice_get l came ≡ Some c.x) (sym c.parts) (at_length c.front (c.mid ++ c.y ∷ c.rest) c.x)) ∙ ap (λ (e : ObjectEntry). Some e) c.x_is))
        (subst (λ (l : List ObjectEntry). slice_get l left ≡ Some j.last) (sym kept.1)
        (lifted_at event.Flight reply.Flight own left c.y (subst (λ (l : List Own). slice_get l left ≡ Some c.y) (sym c.parts) (second_at c.front c.mid c.rest c.x c.y left refl)) ∙ ap (λ (e : ObjectEntry). Some e) c.y_is))
        (far c.front c.mid w.before w.since w.until w.behind c.x w.lead w.landing w.front_is w.mid_is)

    joined_cut : (worker key : ℕ) (items : List Made) (value : ℤ) (j : HasJoined object key value items) → CutTwice worker j.between j.first j.last → FliesOnce r object a amount worker key items value true
    joined_cut worker key items value j c =
        let follows_it = cut_logged worker j.between j.first j.last (Join key) Leave flown.Queued (flown.Left value) c j.joins j.leaves in
        let idle = idle_log worker c.mid (subst (AllByRecursion IsStill) (sym c.mine) j.sleeps) in
        joined_around worker key items value j c (around worker key value c.front c.mid (laws.joined plan.workers worker key value (log_of c.front) (log_of c.mid) (log_of c.rest) idle follows_it))

    joined_one : (worker key : ℕ) (earlier later items : List Made) (value : ℤ) → list_of r worker ≡ earlier ++ (items ++ later) → HasJoined object key value items → FliesOnce r object a amount worker key items value true
    joined_one worker key earlier later items value list j =
        let list_is : list_of r worker ≡ earlier ++ Entered object j.first ∷ (map (λ entry. Entered object entry) j.between ++ Entered object j.last ∷ later) =
        list ∙ within earlier (map (λ entry. Entered object entry) j.between) [] later items (Entered object j.first) (Entered object j.last) j.are in
        joined_cut worker key items value j (cut_twice worker (entries_in object earlier) j.between (entries_in object later) j.first j.last
        (sym (lawful.once worker object) ∙ ap (entries_in object) list_is ∙ entries_cut object earlier (map (λ entry. Entered object entry) j.between) later j.first j.last
        ∙ ap (λ (es : List ObjectEntry). entries_in object earlier ++ j.first ∷ (es ++ j.last ∷ entries_in object later)) (entries_all object j.between)))

    pub flies_once : (worker key : ℕ) (earlier later items : List Made) (answer : Reply ℕ) → list_of r worker ≡ earlier ++ (items ++ later) → FlightReturns object a amount key items answer
        → (value : ℤ) × (shared : Bool) × (answer ≡ replies.Flown value shared) × FliesOnce r object a amount worker key items value shared
    flies_once worker key earlier later items answer list (inl (value, shared, x, is, led, asked, replied)) = (value, shared, is, led_one worker key earlier later items x value shared list led asked replied)
    flies_once worker key earlier later items answer list (inr (value, is, joined)) = (value, true, is, joined_one worker key earlier later items value list joined)
