-- Each worker starts others only between its going and its end, by its list.
use Rattle.std.proofs.Common.{◌≡◌, ◌⊎◌, inl, inr, ℕ, ◌<◌, ◌≤◌, ◌+◌, ◌==◌, Bool, true, false, cond, List, [], ◌∷◌, ◌++◌, map, length, get_or, Some, None, slice_get, refl, sym, ap, ◌∙◌, subst}
use Rattle.std.specs.Prelude.{Ok, Err}
use Rattle.std.specs.List.{flat_map}
use Rattle.std.proofs.lemmas.Bool.{false≢true}
use Rattle.std.proofs.lemmas.List.{get_or_past, length-map}
use Rattle.std.proofs.lemmas.Option.{slice_get_cases}
use Rattle.sync_model.specs.declared.answer.Answer.TheVariants.{Done, Halted}
use Rattle.sync_model.specs.declared.journal.Deed.{Deed}
use Rattle.sync_model.specs.declared.journal.Deed.TheVariants.{Event, Refused, Halt}
use Rattle.sync_model.specs.declared.journal.Entry.{Entry}
use Rattle.sync_model.specs.Journal.{by, logged, log_of}
use Rattle.sync_model.specs.Log as log
use Rattle.script_calls.specs.declared.call.Call.{Call}
use Rattle.script_calls.specs.declared.outcome.Outcome.{Outcome}
use Rattle.protocols.specs.Stands.{stand_from}
use Rattle.starts_core.specs.declared.starts.StartEvent.{StartEvent}
use Rattle.starts_core.specs.declared.starts.StartEvent.TheVariants.{Start, End, Leave}
use Rattle.starts_core.specs.declared.starts.StartPlace.{StartPlace}
use Rattle.starts_core.specs.declared.starts.StartPlace.TheVariants.{Dormant, Live}
use Rattle.starts_core.specs.declared.starts.StartReply.{StartReply}
use Rattle.starts_core.specs.declared.starts.StartReply.TheVariants as answers
use Rattle.starts_core.specs.StartsMachine.{first_place}
use Rattle.starts_core.specs.StartsStanding.{stands_after}
use Rattle.workload.specs.Plan.{Plan, is_dormant}
use Rattle.run_record.specs.declared.entered.ObjectEvent.{ObjectEvent}
use Rattle.run_record.specs.declared.entered.ObjectEvent.TheVariants as event
use Rattle.run_record.specs.declared.entered.ObjectReply.{ObjectReply}
use Rattle.run_record.specs.declared.entered.ObjectReply.TheVariants as reply
use Rattle.run_record.specs.declared.made.Made.{Made}
use Rattle.run_record.specs.declared.made.Made.TheVariants.{Shared, Entered}
use Rattle.run_record.specs.Explains.{AreLines}
use Rattle.run_record.specs.Lines.{SpeltCall, Stay, LineEnd, whole, misused, halted, unfinished, stayed, Line, items_of, AreSpelt, EndsBy, IsLineOf}
use Rattle.run_record.specs.Objects.{starts_number}
use Rattle.run_record.specs.Parts.{lifted, lifted_deed}
use Rattle.run_record.specs.Record.{Record, ObjectEntry, list_of, shared_in, entries_in}
use Rattle.run_record.proofs.Having.{Each, each_both, each_left, get_at}
use Rattle.run_record.proofs.JournalParts.{log_both}
use Rattle.run_record.proofs.LineParts.{each_first}
use Rattle.run_record.proofs.ListOrder.{entries_both, entries_first}
use Rattle.run_record.proofs.OpeningLemmas.{GoesBy, started_on, came_by, goes_by, own_entries, first_alone}
use Rattle.run_record.proofs.PlainLemmas.{none_first}
use Rattle.run_record.proofs.StartItems.{MayDo, Does, StartsNobody, of_call, opening_nobody, closing_nobody, halts_nobody}

-- where a worker stands behind a deed of its own
abbrev pub behind_deed : StartPlace → Deed ObjectEvent ObjectReply → StartPlace
behind_deed stand (Event (event.Starts e) (reply.Starts r)) = stands_after stand e r
behind_deed stand (Event e r) = stand
behind_deed stand (Refused e misuse) = stand
behind_deed stand (Halt misuse) = stand

abbrev pub IsStart : Deed ObjectEvent ObjectReply → Type 0
IsStart (Event (event.Starts (Start worker)) r) = Unit {0}
IsStart (Event e r) = ⊥
IsStart (Refused e misuse) = ⊥
IsStart (Halt misuse) = ⊥

-- where it stands behind its entries
abbrev pub behind_all : StartPlace → List ObjectEntry → StartPlace
behind_all stand [] = stand
behind_all stand (x ∷ xs) = behind_all (behind_deed stand x.deed) xs

-- it starts others only while it is live
abbrev pub InTurn : StartPlace → List ObjectEntry → Type 0
InTurn stand [] = Unit {0}
InTurn stand (x ∷ xs) = (IsStart x.deed → stand ≡ Live) × InTurn (behind_deed stand x.deed) xs

turns_both : (stand : StartPlace) (xs ys : List ObjectEntry) → InTurn stand xs → InTurn (behind_all stand xs) ys → InTurn stand (xs ++ ys)
turns_both stand [] ys first second = second
turns_both stand (x ∷ xs) ys first second = (first.0, turns_both (behind_deed stand x.deed) xs ys first.1 second)

-- an entry that stands among them
pub turn_at : (stand : StartPlace) (xs ys : List ObjectEntry) (x : ObjectEntry) → InTurn stand (xs ++ x ∷ ys) → IsStart x.deed → behind_all stand xs ≡ Live
turn_at stand [] ys x turns is = turns.0 is
turn_at stand (y ∷ xs) ys x turns is = turn_at (behind_deed stand y.deed) xs ys x turns.1 is

-- who starts nobody
idle_deed : (d : Deed ObjectEvent ObjectReply) → MayDo (λ worker. ⊥) (Unit {0}) d → IsStart d → ⊥
idle_deed (Event (event.Starts (Start worker)) r) none is = none.0
idle_deed (Event e r) none is = is
idle_deed (Refused e misuse) none is = is
idle_deed (Halt misuse) none is = is

idle : (object : ℕ) (stand : StartPlace) (items : List Made) → Each StartsNobody items → InTurn stand (entries_in object items)
idle object stand [] each = tt
idle object stand (Shared x ∷ items) each = idle object stand items each.1
idle object stand (Entered other entry ∷ items) each = chosen (other == object) (λ at. idle object at items each.1) where
  chosen : (b : Bool) → ((at : StartPlace) → InTurn at (entries_in object items)) → InTurn stand (cond b (entry ∷ entries_in object items) (entries_in object items))
  chosen true rest = (λ is. absurd (idle_deed entry.deed each.0 is), rest (behind_deed stand entry.deed))
  chosen false rest = rest stand

-- and who does nothing but start others stays live
live_deed : (P : ℕ → Type 0) (d : Deed ObjectEvent ObjectReply) → MayDo P ⊥ d → behind_deed Live d ≡ Live
live_deed P (Event (event.Starts (Start worker)) (reply.Starts r)) may = refl
live_deed P (Event (event.Starts End) r) may = absurd may
live_deed P (Event (event.Starts Leave) r) may = absurd may
live_deed P (Event e r) may = refl
live_deed P (Refused e misuse) may = refl
live_deed P (Halt misuse) may = refl

-- it is in turn, and is live behind them
abbrev LiveThrough : StartPlace → List ObjectEntry → Type 0
LiveThrough stand xs = InTurn stand xs × (behind_all stand xs ≡ Live)

live : (P : ℕ → Type 0) (object : ℕ) (items : List Made) → Each (Does P ⊥) items → LiveThrough Live (entries_in object items)
live P object [] each = (tt, refl)
live P object (Shared x ∷ items) each = live P object items each.1
live P object (Entered other entry ∷ items) each = chosen (other == object) (live P object items each.1) where
  chosen : (b : Bool) → LiveThrough Live (entries_in object items) → LiveThrough Live (cond b (entry ∷ entries_in object items) (entries_in object items))
  chosen true rest =
      let same = sym (live_deed P entry.deed each.0) in
      ((λ is. refl, subst (λ (s : StartPlace). InTurn s (entries_in object items)) same rest.0), subst (λ (s : StartPlace). behind_all s (entries_in object items) ≡ Live) same rest.1)
  chosen false rest = rest

-- a worker that waits is live once it goes
module _ (object : ℕ) where
  abbrev raised : Entry StartEvent StartReply → ObjectEntry
  raised x = lifted event.Starts reply.Starts x

  asked : (earlier : List (Entry StartEvent StartReply)) → Each (λ entry. entry.deed ≡ Event Leave answers.Still) earlier → behind_all Dormant (map raised earlier) ≡ Dormant
  asked [] each = refl
  asked (x ∷ earlier) each = ap (λ (d : Deed StartEvent StartReply). behind_all (behind_deed Dormant (lifted_deed event.Starts reply.Starts d)) (map raised earlier)) each.0 ∙ asked earlier each.1

  both_behind : (stand : StartPlace) (xs ys : List ObjectEntry) → behind_all stand (xs ++ ys) ≡ behind_all (behind_all stand xs) ys
  both_behind stand [] ys = refl
  both_behind stand (x ∷ xs) ys = both_behind (behind_deed stand x.deed) xs ys

  goes_live : (first : List Made) → GoesBy object first → behind_all Dormant (entries_in object first) ≡ Live
  goes_live first g =
      ap (λ (l : List Made). behind_all Dormant (entries_in object l)) g.are
      ∙ (ap (behind_all Dormant) (entries_both object (map (started_on object) g.earlier) (started_on object g.leave ∷ [])
      ∙ (ap (λ (es : List ObjectEntry). es ++ entries_in object (started_on object g.leave ∷ [])) (own_entries object g.earlier) ∙ ap (λ (es : List ObjectEntry). map raised g.earlier ++ es) (entries_first object (raised g.leave) [])))
      ∙ (both_behind Dormant (map raised g.earlier) (raised g.leave ∷ [])
      ∙ (ap (λ (s : StartPlace). behind_all s (raised g.leave ∷ [])) (asked g.earlier g.asks)
      ∙ ap (λ (d : Deed StartEvent StartReply). behind_deed Dormant (lifted_deed event.Starts reply.Starts d)) g.goes)))

-- whether a line is of a worker that stayed
abbrev is_stayed : LineEnd → Bool
is_stayed whole = false
is_stayed (misused misuse) = false
is_stayed (halted misuse) = false
is_stayed unfinished = false
is_stayed (stayed stay) = true

stay_of : (ending : LineEnd) → is_stayed ending ≡ true → (stay : Stay) × (ending ≡ stayed stay)
stay_of whole is = absurd (false≢true is)
stay_of (misused misuse) is = absurd (false≢true is)
stay_of (halted misuse) is = absurd (false≢true is)
stay_of unfinished is = absurd (false≢true is)
stay_of (stayed stay) is = (stay, refl)

module _ (plan : Plan) (worker : ℕ) where
  abbrev object : ℕ
  object = starts_number plan

  spelt_live : (before : ℕ) (spelt : List SpeltCall) → AreSpelt plan worker before spelt → Each (Does (λ started. Unit {0}) ⊥) (flat_map (λ s. s.items) spelt)
  spelt_live before [] are = tt
  spelt_live before (s ∷ spelt) are = each_both (Does (λ started. Unit {0}) ⊥) s.items (flat_map (λ t. t.items) spelt)
      (of_call (λ started. Unit {0}) ⊥ plan worker before s.call (λ started is. tt) s.items (Done (Ok s.reply)) are.0) (spelt_live (before + length (shared_in s.items)) spelt are.1)

  -- what stands behind the completed calls, before items that start nobody
  module _ (before : ℕ) (halts : List Made) (none : Each StartsNobody halts) where
    of_closed : (last : List Made) → Each StartsNobody last → InTurn Live (entries_in object (last ++ halts))
    of_closed last each = idle object Live (last ++ halts) (each_both StartsNobody last halts each none)

    of_begun : (last : List Made) → Each (Does (λ started. Unit {0}) ⊥) last → InTurn Live (entries_in object (last ++ halts))
    of_begun last each =
        let l = live (λ started. Unit {0}) object last each in
        subst (InTurn Live) (sym (entries_both object last halts)) (turns_both Live (entries_in object last) (entries_in object halts) l.0 (subst (λ (s : StartPlace). InTurn s (entries_in object halts)) (sym l.1) (idle object Live halts none)))

    last_turns : (ending : LineEnd) (rest : List Call) (last : List Made) → EndsBy plan worker before ending rest last → InTurn Live (entries_in object (last ++ halts))
    last_turns whole rest last ends = of_closed last (closing_nobody plan worker last (Done (Ok tt)) ends.1)
    last_turns (misused misuse) [] last ends = of_closed last (closing_nobody plan worker last (Done (Err misuse)) ends)
    last_turns (misused misuse) (call ∷ rest) last ends = of_begun last (of_call (λ started. Unit {0}) ⊥ plan worker before call (λ started is. tt) last (Done (Err misuse)) ends)
    last_turns (halted misuse) [] last ends = of_closed last (closing_nobody plan worker last (Halted misuse) ends)
    last_turns (halted misuse) (call ∷ rest) last ends = of_begun last (of_call (λ started. Unit {0}) ⊥ plan worker before call (λ started is. tt) last (Halted misuse) ends)
    last_turns unfinished [] last (later, answer, some, ends) = of_closed last (each_left StartsNobody last later (closing_nobody plan worker (last ++ later) answer ends))
    last_turns unfinished (call ∷ rest) last (later, answer, ends) =
        of_begun last (each_left (Does (λ started. Unit {0}) ⊥) last later (of_call (λ started. Unit {0}) ⊥ plan worker before call (λ started is. tt) (last ++ later) answer ends))
    last_turns (stayed stay) rest last ends = of_closed last (subst (Each StartsNobody) (sym ends) tt)

  module _ (line : Line) (is : IsLineOf plan worker line) where
    -- it comes to its script, and is live then
    came_live : (stand : StartPlace) → LiveThrough stand (entries_in object line.first) → InTurn stand (entries_in object (items_of line))
    came_live stand first =
        let calls = flat_map (λ s. s.items) line.spelt in
        let made = live (λ started. Unit {0}) object calls (spelt_live 0 line.spelt is.calls) in
        let last = last_turns (length (shared_in calls)) line.halts (halts_nobody line.ending line.halts is.halts) line.ending line.rest line.last is.ends in
        let behind : InTurn Live (entries_in object (calls ++ (line.last ++ line.halts))) =
        subst (InTurn Live) (sym (entries_both object calls (line.last ++ line.halts))) (turns_both Live (entries_in object calls) (entries_in object (line.last ++ line.halts)) made.0 (subst (λ (s : StartPlace). InTurn s (entries_in object (line.last ++ line.halts))) (sym made.1) last)) in
        subst (InTurn stand) (sym (entries_both object line.first (calls ++ (line.last ++ line.halts))))
        (turns_both stand (entries_in object line.first) (entries_in object (calls ++ (line.last ++ line.halts))) first.0 (subst (λ (s : StartPlace). InTurn s (entries_in object (calls ++ (line.last ++ line.halts)))) (sym first.1) behind))

    first_idle : (stand : StartPlace) → InTurn stand (entries_in object line.first)
    first_idle stand = idle object stand line.first (each_first StartsNobody plan worker (λ items answer opens. opening_nobody plan worker items answer opens) line.ending line.spelt line.first is.opens)

    pub line_turns : InTurn (first_place (is_dormant plan worker)) (entries_in object (items_of line))
    line_turns = by_waiting (is_dormant plan worker) refl (is_stayed line.ending) refl where
      by_waiting : (waits : Bool) → is_dormant plan worker ≡ waits → (b : Bool) → is_stayed line.ending ≡ b → InTurn (first_place waits) (entries_in object (items_of line))
      by_waiting false awake b at = came_live Live
          (subst (λ (l : List Made). LiveThrough Live (entries_in object l)) (sym (none_first plan worker awake line.ending line.spelt line.first is.opens)) (tt, refl))
      by_waiting true waits false came = came_live Dormant
          (first_idle Dormant, goes_live object line.first (goes_by plan worker line.first waits (came_by plan worker line.ending line.spelt line.first (λ stay ending. false≢true (sym came ∙ ap is_stayed ending)) is.opens)))
      by_waiting true waits true stays =
          let s = stay_of line.ending stays in
          subst (λ (l : List Made). InTurn Dormant (entries_in object l)) (sym (first_alone plan worker line s.0 is s.1)) (first_idle Dormant)

-- so does each worker of a record
pub list_turns : (plan : Plan) (r : Record) (outcome : Outcome) (lines : List Line) → AreLines plan r outcome lines → (worker : ℕ) → InTurn (first_place (is_dormant plan worker)) (entries_in (starts_number plan) (list_of r worker))
list_turns plan r outcome lines are worker = of_line (slice_get_cases lines worker).1 where
  Turns : List Made → Type 0
  Turns list = InTurn (first_place (is_dormant plan worker)) (entries_in (starts_number plan) list)

  of_line : ((line : Line) × (worker < length lines) × (slice_get lines worker ≡ Some line) × (get_or lines worker line ≡ line)) ⊎ ((length lines ≤ worker) × (slice_get lines worker ≡ None)) → Turns (list_of r worker)
  of_line (inl (line, low, at, read)) =
      subst Turns (sym (ap (λ (l : List (List Made)). get_or l worker []) (sym are.lists) ∙ get_at items_of [] lines worker line at)) (line_turns plan worker line (are.each worker line at))
  of_line (inr (past, none)) =
      let long : length r.lists ≤ worker = subst (λ (l : List (List Made)). length l ≤ worker) are.lists (subst (λ n. n ≤ worker) (sym (length-map lines items_of)) past) in
      subst Turns (sym (get_or_past r.lists worker [] long)) tt

-- The same by the journal: its log, as far as one worker's own entries tell
abbrev own_raised : Entry StartEvent StartReply → ObjectEntry
own_raised x = lifted event.Starts reply.Starts x

pub by_raised : (worker : ℕ) (xs : List (Entry StartEvent StartReply)) → by worker (map own_raised xs) ≡ map own_raised (by worker xs)
by_raised worker [] = refl
by_raised worker (x ∷ xs) = chosen (x.caller == worker) (by_raised worker xs) where
  chosen : (b : Bool) → by worker (map own_raised xs) ≡ map own_raised (by worker xs) → cond b (own_raised x ∷ by worker (map own_raised xs)) (by worker (map own_raised xs)) ≡ map own_raised (cond b (x ∷ by worker xs) (by worker xs))
  chosen true rest = ap (λ (es : List ObjectEntry). own_raised x ∷ es) rest
  chosen false rest = rest

pub stands_alike : (worker : ℕ) (stand : StartPlace) (xs : List (Entry StartEvent StartReply)) → stand_from stands_after stand worker (log_of xs) ≡ behind_all stand (map own_raised (by worker xs))
stands_alike worker stand [] = refl
stands_alike worker stand (x ∷ xs) = by_deed (λ at. stands_alike worker at xs) x.deed refl (x.caller == worker) refl where
  by_deed : ((at : StartPlace) → stand_from stands_after at worker (log_of xs) ≡ behind_all at (map own_raised (by worker xs))) → (d : Deed StartEvent StartReply) → x.deed ≡ d → (b : Bool) → (x.caller == worker) ≡ b → stand_from stands_after stand worker (logged x.caller d (log_of xs)) ≡ behind_all stand (map own_raised (cond b (x ∷ by worker xs) (by worker xs)))
  by_deed later (Event e r) is true mine =
      ap (λ (b : Bool). stand_from stands_after (cond b (stands_after stand e r) stand) worker (log_of xs)) mine
      ∙ (later (stands_after stand e r)
      ∙ ap (λ (d : Deed StartEvent StartReply). behind_all (behind_deed stand (lifted_deed event.Starts reply.Starts d)) (map own_raised (by worker xs))) (sym is))
  by_deed later (Event e r) is false other = ap (λ (b : Bool). stand_from stands_after (cond b (stands_after stand e r) stand) worker (log_of xs)) other ∙ later stand
  by_deed later (Refused e misuse) is true mine = later stand ∙ ap (λ (d : Deed StartEvent StartReply). behind_all (behind_deed stand (lifted_deed event.Starts reply.Starts d)) (map own_raised (by worker xs))) (sym is)
  by_deed later (Refused e misuse) is false other = later stand
  by_deed later (Halt misuse) is true mine = later stand ∙ ap (λ (d : Deed StartEvent StartReply). behind_all (behind_deed stand (lifted_deed event.Starts reply.Starts d)) (map own_raised (by worker xs))) (sym is)
  by_deed later (Halt misuse) is false other = later stand

-- where an event of the log stands in the journal
pub record Logged (xs : List (Entry StartEvent StartReply)) (before rest : List (log.Entry StartEvent StartReply)) (e : log.Entry StartEvent StartReply) : Type 0 where
  pub front : List (Entry StartEvent StartReply)
  pub entry : Entry StartEvent StartReply
  pub behind : List (Entry StartEvent StartReply)
  pub parts : xs ≡ front ++ entry ∷ behind
  pub earlier : log_of front ≡ before
  pub caller : entry.caller ≡ e.caller
  pub deed : entry.deed ≡ Event e.event e.reply

heads : (x y : log.Entry StartEvent StartReply) (xs ys : List (log.Entry StartEvent StartReply)) → x ∷ xs ≡ y ∷ ys → (x ≡ y) × (xs ≡ ys)
heads x y xs ys is = (cc, cc)

pub logged_at : (xs : List (Entry StartEvent StartReply)) (before rest : List (log.Entry StartEvent StartReply)) (e : log.Entry StartEvent StartReply) → log_of xs ≡ before ++ e ∷ rest → Logged xs before rest e
logged_at [] [] rest e is = absurd cc
logged_at [] (b ∷ before) rest e is = absurd cc
logged_at (x ∷ xs) before rest e is = by_deed (λ earlier own. logged_at xs earlier rest e own) x.deed refl before is where
  deeper : (own before : List (log.Entry StartEvent StartReply)) → log_of (x ∷ []) ++ own ≡ before → Logged xs own rest e → Logged (x ∷ xs) before rest e
  deeper own before is l = record {
    front = x ∷ l.front;
    entry = l.entry;
    behind = l.behind;
    parts = ap (λ (es : List (Entry StartEvent StartReply)). x ∷ es) l.parts;
    earlier = first l.front ∙ (ap (λ (es : List (log.Entry StartEvent StartReply)). log_of (x ∷ []) ++ es) l.earlier ∙ is);
    caller = l.caller;
    deed = l.deed;
  } where
    first : (front : List (Entry StartEvent StartReply)) → log_of (x ∷ front) ≡ log_of (x ∷ []) ++ log_of front
    first front = log_both (x ∷ []) front

  by_deed : ((earlier : List (log.Entry StartEvent StartReply)) → log_of xs ≡ earlier ++ e ∷ rest → Logged xs earlier rest e) → (d : Deed StartEvent StartReply) → x.deed ≡ d → (before : List (log.Entry StartEvent StartReply))
      → logged x.caller d (log_of xs) ≡ before ++ e ∷ rest → Logged (x ∷ xs) before rest e
  by_deed on (Event f r) is [] own =
      let same = heads (log.entry x.caller f r) e (log_of xs) rest own in
      record {
        front = [];
        entry = x;
        behind = xs;
        parts = refl;
        earlier = refl;
        caller = ap (λ (l : log.Entry StartEvent StartReply). l.caller) same.0;
        deed = is ∙ ap (λ (l : log.Entry StartEvent StartReply). Event l.event l.reply) same.0;
      }
  by_deed on (Event f r) is (b ∷ before) own =
      let same = heads (log.entry x.caller f r) b (log_of xs) (before ++ e ∷ rest) own in
      deeper before (b ∷ before) (ap (λ (d : Deed StartEvent StartReply). logged x.caller d [] ++ before) is ∙ ap (λ (l : log.Entry StartEvent StartReply). l ∷ before) same.0) (on before same.1)
  by_deed on (Refused f misuse) is before own = deeper before before (ap (λ (d : Deed StartEvent StartReply). logged x.caller d [] ++ before) is) (on before own)
  by_deed on (Halt misuse) is before own = deeper before before (ap (λ (d : Deed StartEvent StartReply). logged x.caller d [] ++ before) is) (on before own)
