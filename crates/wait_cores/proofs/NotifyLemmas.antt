-- What each event does to the numbers of a cond and to a caller's ticket, and what comes of it over a log.
use Rattle.std.proofs.Common.{◌≡◌, ◌≢◌, ◌⊎◌, inl, inr, ℕ, ◌==◌, ◌+◌, ◌-◌, ◌^◌, ◌<◌, ◌≤◌, min, Bool, true, false, cond, [], ◌∷◌, ◌++◌, length, set, Option, Some, None, refl, sym, ◌∙◌, subst, arith}
use Rattle.std.specs.Prelude.{nat_lt, ◌||◌, ◌&&◌, not, IsTrue}
use Rattle.std.specs.List.{slice_get, count_by, list_any, list_all}
use Rattle.std.proofs.lemmas.Bool.{ltb-false, ltb-true}
use Rattle.std.proofs.lemmas.Bool.Decides.{nat_tests, eqb_tells}
use Rattle.std.proofs.lemmas.List.Sums.{sum_by-cons}
use Rattle.wait_cores.specs.declared.notify.NotifyEvent.{NotifyEvent}
use Rattle.wait_cores.specs.declared.notify.NotifyEvent.TheVariants.{Ticket, Signal, Broadcast, Leave}
use Rattle.wait_cores.specs.declared.notify.NotifyReply.{NotifyReply}
use Rattle.wait_cores.specs.declared.notify.NotifyReply.TheVariants.{Done, Still}
use Rattle.wait_cores.specs.declared.notify.NotifyPlace.{NotifyPlace}
use Rattle.wait_cores.specs.declared.notify.NotifyPlace.TheVariants.{Out, Waiting, Notified}
use Rattle.sync_model.specs.Log.{entry, after, Follows}
use Rattle.wait_cores.specs.NotifyMachine.{NotifyState, start, next, made, leave_from, callers_of, place_of, place_with, following}
use Rattle.wait_cores.specs.NotifyLaws.{Log, NotifyEntry, is_ticket, is_signal, is_broadcast, is_ticket_of, is_signal_of, is_broadcast_of, pending_of, NotifiesAfter}
use Rattle.wait_cores.proofs.Places.{get-set_other, get-set_either, get-set_within}
use Rattle.wait_cores.proofs.LogParts.{ComesApart}

or_first : (a b : Bool) → (a || b) ≡ false → a ≡ false
or_first true b h = h
or_first false b h = refl

or_second : (a b : Bool) → (a || b) ≡ false → b ≡ false
or_second true b h = cc
or_second false b h = h

le_trans : {a b c : ℕ} → a ≤ b → b ≤ c → a ≤ c
le_trans h k = omega arith

and_first : (a b : Bool) → (a && b) ≡ true → a ≡ true
and_first true b h = refl
and_first false b h = h

and_second : (a b : Bool) → (a && b) ≡ true → b ≡ true
and_second true b h = h
and_second false b h = cc

not_own : (d c : ℕ) → not (d == c) ≡ true → c ≢ d
not_own d c h e = elim (eqb_tells d c) [ inl same ↦ (let y = same.0 in cc) | inr apart ↦ apart.1 (sym e) ]

le_or_lt : (m n : ℕ) → (m ≤ n) ⊎ (n < m)
le_or_lt m n = grind (arith, nat_tests)

abbrev one_if : Bool → ℕ
one_if b = cond b 1 0

-- the numbers of one state and the next, with the tickets
record Stepped (s : NotifyState) (e : NotifyEntry) (s' : NotifyState) : Type 0 where
  fewer : is_broadcast e ≡ false → s'.notified ≤ s.notified + one_if (is_signal e)
  sound : s.notified ≤ s.next_ticket → s.next_ticket ≤ 2 ^ 64 - 1 → s'.notified ≤ s'.next_ticket
  grows : s.next_ticket ≤ 2 ^ 64 - 1 → s.next_ticket ≤ s'.next_ticket
  counts : s.next_ticket ≤ 2 ^ 64 - 1 → s'.next_ticket ≡ min (s.next_ticket + one_if (is_ticket e)) (2 ^ 64 - 1)
  takes : (c n : ℕ) → slice_get s'.tickets c ≡ Some (Some n) → (slice_get s.tickets c ≡ Some (Some n)) ⊎ (n ≡ s.next_ticket)
  others : (c : ℕ) → c ≢ e.caller → slice_get s'.tickets c ≡ slice_get s.tickets c
  rises : s.notified ≤ s.next_ticket → s.notified ≤ s'.notified
  reaches : s.notified < s.next_ticket → s.notified + one_if (is_signal e) ≤ s'.notified
  reaches_all : (t : ℕ) → t < s.next_ticket → is_broadcast e ≡ true → t < s'.notified

step_ticket : (s : NotifyState) (d : ℕ)
    → Stepped s (entry d Ticket Done) (record { next_ticket = following s.next_ticket; notified = s.notified; tickets = set s.tickets d (Some s.next_ticket) })
step_ticket s d = record {
  fewer = λ h. omega arith;
  sound = λ h k. omega arith;
  grows = λ h. omega arith;
  counts = λ h. refl;
  takes = λ c n h. elim (get-set_either s.tickets d c (Some s.next_ticket) (Some n) h) [ inl e ↦ inr cc | inr e ↦ inl e ];
  others = λ c ne. get-set_other s.tickets d c (Some s.next_ticket) ne;
  rises = λ h. omega arith;
  reaches = λ h. omega arith;
  reaches_all = λ t h k. cc;
}

step_signal_counts : (s : NotifyState) (d : ℕ) → s.notified < s.next_ticket
    → Stepped s (entry d Signal Done) (record { next_ticket = s.next_ticket; notified = s.notified + 1; tickets = s.tickets })
step_signal_counts s d below = record {
  fewer = λ h. omega arith;
  sound = λ h k. omega arith;
  grows = λ h. omega arith;
  counts = λ h. omega arith;
  takes = λ c n h. inl h;
  others = λ c ne. refl;
  rises = λ h. omega arith;
  reaches = λ h. omega arith;
  reaches_all = λ t h k. cc;
}

step_signal_idle : (s : NotifyState) (d : ℕ) → s.next_ticket ≤ s.notified → Stepped s (entry d Signal Done) s
step_signal_idle s d above = record {
  fewer = λ h. omega arith;
  sound = λ h k. omega arith;
  grows = λ h. omega arith;
  counts = λ h. omega arith;
  takes = λ c n h. inl h;
  others = λ c ne. refl;
  rises = λ h. omega arith;
  reaches = λ h. omega arith;
  reaches_all = λ t h k. cc;
}

step_signal : (b : Bool) (s : NotifyState) (d : ℕ) → nat_lt s.notified s.next_ticket ≡ b → Stepped s (entry d Signal Done) (cond b (record s { notified = s.notified + 1 }) s)
step_signal true s d is = step_signal_counts s d (ltb-true s.notified s.next_ticket is)
step_signal false s d is = step_signal_idle s d (ltb-false s.notified s.next_ticket is)

step_broadcast : (s : NotifyState) (d : ℕ)
    → Stepped s (entry d Broadcast Done) (record { next_ticket = s.next_ticket; notified = s.next_ticket; tickets = s.tickets })
step_broadcast s d = record {
  fewer = λ h. cc;
  sound = λ h k. omega arith;
  grows = λ h. omega arith;
  counts = λ h. omega arith;
  takes = λ c n h. inl h;
  others = λ c ne. refl;
  rises = λ h. omega arith;
  reaches = λ h. omega arith;
  reaches_all = λ t h k. omega arith;
}

-- no count has an event without effect
counts_nothing : (event : NotifyEvent) → (is_ticket_of event Still ≡ false) × (is_signal_of event Still ≡ false) × (is_broadcast_of event Still ≡ false)
counts_nothing Ticket = (refl, refl, refl)
counts_nothing Signal = (refl, refl, refl)
counts_nothing Broadcast = (refl, refl, refl)
counts_nothing Leave = (refl, refl, refl)

step_still : (s : NotifyState) (d : ℕ) (event : NotifyEvent) → Stepped s (entry d event Still) s
step_still s d event =
    let none : (is_ticket_of event Still ≡ false) × (is_signal_of event Still ≡ false) × (is_broadcast_of event Still ≡ false) = counts_nothing event in
    record {
      fewer = λ h. rw none.1 (omega arith);
      sound = λ h k. h;
      grows = λ h. omega arith;
      counts = λ h. rw none.0 (omega arith);
      takes = λ c n h. inl h;
      others = λ c ne. refl;
      rises = λ h. omega arith;
      reaches = λ h. rw none.1 (omega arith);
      reaches_all = λ t h k. cc;
    }

step_left : (s : NotifyState) (d : ℕ) → Stepped s (entry d Leave Done) (record { next_ticket = s.next_ticket; notified = s.notified; tickets = set s.tickets d None })
step_left s d = record {
  fewer = λ h. omega arith;
  sound = λ h k. h;
  grows = λ h. omega arith;
  counts = λ h. omega arith;
  takes = λ c n h. elim (get-set_either s.tickets d c None (Some n) h) [ inl e ↦ cc | inr e ↦ inl e ];
  others = λ c ne. get-set_other s.tickets d c None ne;
  rises = λ h. omega arith;
  reaches = λ h. omega arith;
  reaches_all = λ t h k. cc;
}

step_leave : (p : NotifyPlace) (s : NotifyState) (d : ℕ) → Stepped s (entry d Leave (leave_from p s d).1) (leave_from p s d).0
step_leave Notified s d = step_left s d
step_leave Waiting s d = step_still s d Leave
step_leave Out s d = step_still s d Leave

step_made : (s : NotifyState) (d : ℕ) (event : NotifyEvent) → Stepped s (entry d event (made s d event).1) (made s d event).0
step_made s d Ticket = step_ticket s d
step_made s d Signal = step_signal (nat_lt s.notified s.next_ticket) s d refl
step_made s d Broadcast = step_broadcast s d
step_made s d Leave = step_leave (place_of s d) s d

step_if : (b : Bool) (s : NotifyState) (d : ℕ) (event : NotifyEvent) → Stepped s (entry d event (cond b (made s d event) (s, Still)).1) (cond b (made s d event) (s, Still)).0
step_if true s d event = step_made s d event
step_if false s d event = step_still s d event

-- each entry of a log that follows the machine
steps : (s : NotifyState) (d : ℕ) (event : NotifyEvent) (reply : NotifyReply) → (next s d event).1 ≡ reply → Stepped s (entry d event reply) (next s d event).0
steps s d event reply h =
    let P : NotifyReply → Type 0 = λ r. Stepped s (entry d event r) (next s d event).0 in
    subst P h (step_if (nat_lt d (callers_of s)) s d event)

-- the numbers of a state that a log from the start leads to
record IsSound (s : NotifyState) : Type 0 where
  notified : s.notified ≤ s.next_ticket
  capped : s.next_ticket ≤ 2 ^ 64 - 1

sound_step : (s s' : NotifyState) (e : NotifyEntry) → Stepped s e s' → IsSound s → IsSound s'
sound_step s s' e step is = record { notified = step.sound is.notified is.capped; capped = let n = step.counts is.capped in omega arith }

sound_after : (s : NotifyState) (log : Log) → Follows next s log → IsSound s → IsSound (after next s log)
sound_after s [] h is = is
sound_after s (e ∷ log) h is =
    let s' : NotifyState = (next s e.caller e.event).0 in sound_after s' log h.1 (sound_step s s' e (steps s e.caller e.event e.reply h.0) is)

start_sound : (callers : ℕ) → IsSound (start callers)
start_sound callers = record { notified = omega arith; capped = omega arith }

-- the tickets are counted up to the last number
counted : (s : NotifyState) (log : Log) → Follows next s log → s.next_ticket ≤ 2 ^ 64 - 1 → (after next s log).next_ticket ≡ min (s.next_ticket + count_by is_ticket log) (2 ^ 64 - 1)
counted s [] h is = omega arith
counted s (e ∷ log) h is =
    let s' : NotifyState = (next s e.caller e.event).0 in
    let step : Stepped s e s' = steps s e.caller e.event e.reply h.0 in
    let n : s'.next_ticket ≡ min (s.next_ticket + one_if (is_ticket e)) (2 ^ 64 - 1) = step.counts is in
    let rest : (after next s' log).next_ticket ≡ min (s'.next_ticket + count_by is_ticket log) (2 ^ 64 - 1) = counted s' log h.1 (omega arith) in
    let more : count_by is_ticket (e ∷ log) ≡ one_if (is_ticket e) + count_by is_ticket log = sum_by-cons (λ x. one_if (is_ticket x)) e log in
    rest ∙ omega arith

pub counts_tickets : (callers : ℕ) (log : Log) → Follows next (start callers) log → (after next (start callers) log).next_ticket ≡ min (count_by is_ticket log) (2 ^ 64 - 1)
counts_tickets callers log h = let n : (after next (start callers) log).next_ticket ≡ min (0 + count_by is_ticket log) (2 ^ 64 - 1) = counted (start callers) log h (omega arith) in omega arith

-- without a broadcast no more are notified than there are signals
few_notified : (s : NotifyState) (log : Log) → Follows next s log → list_any is_broadcast log ≡ false → (after next s log).notified ≤ s.notified + count_by is_signal log
few_notified s [] h none = omega arith
few_notified s (e ∷ log) h none =
    let s' : NotifyState = (next s e.caller e.event).0 in
    let step : Stepped s e s' = steps s e.caller e.event e.reply h.0 in
    let here : s'.notified ≤ s.notified + one_if (is_signal e) = step.fewer (or_first (is_broadcast e) (list_any is_broadcast log) none) in
    let rest : (after next s' log).notified ≤ s'.notified + count_by is_signal log = few_notified s' log h.1 (or_second (is_broadcast e) (list_any is_broadcast log) none) in
    let more : count_by is_signal (e ∷ log) ≡ one_if (is_signal e) + count_by is_signal log = sum_by-cons (λ x. one_if (is_signal x)) e log in
    rw more (le_trans rest (omega arith))

-- a ticket of the caller's is none before this one
record TookSince (t c : ℕ) (s : NotifyState) : Type 0 where
  own : (n : ℕ) → slice_get s.tickets c ≡ Some (Some n) → t ≤ n
  upto : t ≤ s.next_ticket
  sound : IsSound s

took_step : (t c : ℕ) (s s' : NotifyState) (e : NotifyEntry) → Stepped s e s' → TookSince t c s → TookSince t c s'
took_step t c s s' e step is = record {
  own = λ n h. elim (step.takes c n h) [ inl old ↦ is.own n old | inr new ↦ (let u = is.upto in omega arith) ];
  upto = (let g = step.grows is.sound.capped in let u = is.upto in omega arith);
  sound = sound_step s s' e step is.sound;
}

took_after : (t c : ℕ) (s : NotifyState) (log : Log) → Follows next s log → TookSince t c s → TookSince t c (after next s log)
took_after t c s [] h is = is
took_after t c s (e ∷ log) h is =
    let s' : NotifyState = (next s e.caller e.event).0 in took_after t c s' log h.1 (took_step t c s s' e (steps s e.caller e.event e.reply h.0) is)

notified_below : (notified : ℕ) (mine : Option (Option ℕ)) → place_with notified mine ≡ Notified → (n : ℕ) × (mine ≡ Some (Some n)) × (n < notified)
notified_below notified (Some (Some n)) h = (n, refl, below_by (nat_lt n notified) h (ltb-true n notified)) where
  below_by : (b : Bool) → cond b Notified Waiting ≡ Notified → (b ≡ true → n < notified) → n < notified
  below_by true e f = f refl
  below_by false e f = cc
notified_below notified (Some None) h = cc
notified_below notified None h = cc

left_from : (b : Bool) (p : NotifyPlace) (s : NotifyState) (c : ℕ) → (cond b (leave_from p s c) (s, Still)).1 ≡ Done → p ≡ Notified
left_from true Notified s c h = refl
left_from true Waiting s c h = cc
left_from true Out s c h = cc
left_from false p s c h = cc

-- what a caller that takes a ticket has then, the numbers being those of before
taken_if : (b : Bool) (s : NotifyState) (c : ℕ) → nat_lt c (callers_of s) ≡ b → (cond b (made s c Ticket) (s, Still)).1 ≡ Done
    → slice_get (cond b (made s c Ticket) (s, Still)).0.tickets c ≡ Some (Some s.next_ticket)
taken_if true s c within h = get-set_within s.tickets c (Some s.next_ticket) (ltb-true c (length s.tickets) within)
taken_if false s c within h = cc

same_notified : (b : Bool) (s : NotifyState) (c : ℕ) → (cond b (made s c Ticket) (s, Still)).0.notified ≡ s.notified
same_notified true s c = refl
same_notified false s c = refl

pub leaves_when_notified : ComesApart next → (callers : ℕ) (before between rest : Log) (c : ℕ)
    → Follows next (start callers) (before ++ entry c Ticket Done ∷ (between ++ entry c Leave Done ∷ rest))
    → NotifiesAfter (pending_of (after next (start callers) before)) between
leaves_when_notified apart callers before between rest c h =
    let s : NotifyState = after next (start callers) before in
    let parts : Follows next (start callers) before × Follows next s (entry c Ticket Done ∷ (between ++ entry c Leave Done ∷ rest)) = apart (start callers) before _ h in
    let sound : IsSound s = sound_after (start callers) before parts.0 (start_sound callers) in
    let from : Follows next s (entry c Ticket Done ∷ (between ++ entry c Leave Done ∷ rest)) = parts.1 in
    let s' : NotifyState = (next s c Ticket).0 in
    let step : Stepped s (entry c Ticket Done) s' = steps s c Ticket Done from.0 in
    let took : slice_get s'.tickets c ≡ Some (Some s.next_ticket) = taken_if (nat_lt c (callers_of s)) s c refl from.0 in
    let notified : s'.notified ≡ s.notified = same_notified (nat_lt c (callers_of s)) s c in
    let since : TookSince s.next_ticket c s' = record {
      own = λ n own. (let same : n ≡ s.next_ticket = cc in omega arith);
      upto = step.grows sound.capped;
      sound = sound_step s s' (entry c Ticket Done) step sound;
    } in
    let t : NotifyState = after next s' between in
    let on : Follows next s' between × Follows next t (entry c Leave Done ∷ rest) = apart s' between _ from.1 in
    let since_then : TookSince s.next_ticket c t = took_after s.next_ticket c s' between on.0 since in
    let leaves : place_of t c ≡ Notified = left_from (nat_lt c (callers_of t)) (place_of t c) t c on.1.0 in
    let mine : (n : ℕ) × (slice_get t.tickets c ≡ Some (Some n)) × (n < t.notified) = notified_below t.notified (slice_get t.tickets c) leaves in
    let above : s.next_ticket ≤ mine.0 = since_then.own mine.0 mine.1 in
    by_any (list_any is_broadcast between) refl s.next_ticket s.notified s'.notified t.notified mine.0 above mine.2 notified sound.notified
    (λ none. few_notified s' between on.0 none)
  where
    by_any : (any : Bool) → list_any is_broadcast between ≡ any → (ticket notified notified' then n : ℕ) → ticket ≤ n → n < then → notified' ≡ notified → notified ≤ ticket
        → (list_any is_broadcast between ≡ false → then ≤ notified' + count_by is_signal between) → IsTrue any ⊎ (ticket - notified < count_by is_signal between)
    by_any true is ticket notified notified' then n a b e d f = inl refl
    by_any false is ticket notified notified' then n a b e d f = let g = f is in inr (omega arith)

-- the caller has this ticket, which was taken
record Has (t c : ℕ) (s : NotifyState) : Type 0 where
  own : slice_get s.tickets c ≡ Some (Some t)
  given : t < s.next_ticket
  sound : IsSound s

has_step : (t c : ℕ) (s s' : NotifyState) (e : NotifyEntry) → Stepped s e s' → c ≢ e.caller → Has t c s → Has t c s'
has_step t c s s' e step other is = record {
  own = step.others c other ∙ is.own;
  given = (let g = step.grows is.sound.capped in let u = is.given in omega arith);
  sound = sound_step s s' e step is.sound;
}

-- enough signals or a broadcast reach the ticket
reached : (t c : ℕ) (s : NotifyState) (log : Log) → Follows next s log → list_all (λ e. not (e.caller == c)) log ≡ true → Has t c s
    → IsTrue (list_any is_broadcast log) ⊎ (t < s.notified + count_by is_signal log) → Has t c (after next s log) × (t < (after next s log).notified)
reached t c s [] h others is (inl any) = cc
reached t c s [] h others is (inr enough) = (is, omega arith)
reached t c s (e ∷ log) h others is enough =
    let s' : NotifyState = (next s e.caller e.event).0 in
    let step : Stepped s e s' = steps s e.caller e.event e.reply h.0 in
    let other : c ≢ e.caller = not_own e.caller c (and_first _ _ others) in
    let more : count_by is_signal (e ∷ log) ≡ one_if (is_signal e) + count_by is_signal log = sum_by-cons (λ x. one_if (is_signal x)) e log in
    reached t c s' log h.1 (and_second _ _ others) (has_step t c s s' e step other is)
    (elim enough [
      | inl any ↦ by_any (is_broadcast e) refl s'.notified any (step.reaches_all t is.given)
      | inr some ↦ inr (on_from s.notified s'.notified (one_if (is_signal e)) (step.rises is.sound.notified) (λ u. step.reaches (let g = is.given in omega arith)) (rw more at some))
    ])
  where
    by_any : (b : Bool) → is_broadcast e ≡ b → (notified' : ℕ) → IsTrue (b || list_any is_broadcast log) → (is_broadcast e ≡ true → t < notified')
        → IsTrue (list_any is_broadcast log) ⊎ (t < notified' + count_by is_signal log)
    by_any true is notified' any f = let g = f is in inr (omega arith)
    by_any false is notified' any f = inl any

    on_from : (notified notified' here : ℕ) → notified ≤ notified' → (notified ≤ t → notified + here ≤ notified') → t < notified + (here + count_by is_signal log)
        → t < notified' + count_by is_signal log
    on_from notified notified' here a f b = elim (le_or_lt notified t) [ inl low ↦ (let g = f low in omega arith) | inr high ↦ omega arith ]

notified_place : (notified t : ℕ) (mine : Option (Option ℕ)) → mine ≡ Some (Some t) → t < notified → place_with notified mine ≡ Notified
notified_place notified t mine is below = rw is (by_test (nat_lt t notified) (ltb-false t notified)) where
  by_test : (b : Bool) → (b ≡ false → notified ≤ t) → cond b Notified Waiting ≡ Notified
  by_test true f = refl
  by_test false f = let g = f refl in absurd (omega arith)

pub notifies_in_order : (callers : ℕ) (before between : Log) (c : ℕ)
    → Follows next (start callers) before → Follows next (after next (start callers) before) (entry c Ticket Done ∷ between)
    → count_by is_ticket before < 2 ^ 64 - 1 → IsTrue (list_all (λ e. not (e.caller == c)) between)
    → NotifiesAfter (pending_of (after next (start callers) before)) between
    → place_of (after next (after next (start callers) before) (entry c Ticket Done ∷ between)) c ≡ Notified
notifies_in_order callers before between c first from few others enough =
    let s : NotifyState = after next (start callers) before in
    let sound : IsSound s = sound_after (start callers) before first (start_sound callers) in
    let s' : NotifyState = (next s c Ticket).0 in
    let step : Stepped s (entry c Ticket Done) s' = steps s c Ticket Done from.0 in
    let numbers : s'.next_ticket ≡ min (s.next_ticket + 1) (2 ^ 64 - 1) = step.counts sound.capped in
    let counted : s.next_ticket ≡ min (count_by is_ticket before) (2 ^ 64 - 1) = counts_tickets callers before first in
    let notified : s'.notified ≡ s.notified = same_notified (nat_lt c (callers_of s)) s c in
    let has : Has s.next_ticket c s' = record {
      own = taken_if (nat_lt c (callers_of s)) s c refl from.0;
      given = omega arith;
      sound = sound_step s s' (entry c Ticket Done) step sound;
    } in
    let low = sound.notified in
    let far : IsTrue (list_any is_broadcast between) ⊎ (s.next_ticket < s'.notified + count_by is_signal between) =
    elim enough [ inl any ↦ inl any | inr some ↦ inr (omega arith) ] in
    let then : Has s.next_ticket c (after next s' between) × (s.next_ticket < (after next s' between).notified) = reached s.next_ticket c s' between from.1 others has far in
    notified_place (after next s' between).notified s.next_ticket (slice_get (after next s' between).tickets c) then.0.own then.1

pub notifies_taken : (callers : ℕ) (log : Log) → Follows next (start callers) log → (after next (start callers) log).notified ≤ (after next (start callers) log).next_ticket
notifies_taken callers log h = (sound_after (start callers) log h (start_sound callers)).notified
