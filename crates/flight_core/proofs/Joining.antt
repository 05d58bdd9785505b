-- Which flight a caller joins.
use Rattle.std.proofs.Common.{◌≡◌, ◌≢◌, ◌⊎◌, inl, inr, ℕ, suc, Bool, true, false, ◌||◌, ◌==◌, List, [], ◌∷◌, ◌++◌, set, refl, sym, ap, ◌∙◌, subst}
use Rattle.std.specs.Prelude.{ℤ, if◌then◌else◌}
use Rattle.std.specs.List.{list_any}
use Rattle.std.proofs.lemmas.Bool.{false≢true}
use Rattle.flight_core.specs.declared.event.FlightEvent.{FlightEvent}
use Rattle.flight_core.specs.declared.event.FlightEvent.TheVariants.{Join, Land, Leave}
use Rattle.flight_core.specs.declared.event.FlightReply.{FlightReply}
use Rattle.flight_core.specs.declared.event.FlightReply.TheVariants as reply
use Rattle.flight_core.specs.declared.event.FlightPlace.{FlightPlace}
use Rattle.flight_core.specs.declared.event.FlightPlace.TheVariants.{Out, Leads, Waits, Landed}
use Rattle.sync_model.specs.Log.{entry, after, Follows}
use Rattle.flight_core.specs.FlightMachine.{FlightState, start, next, place_of, leads, landed, ended, is_flying, is_joined}
use Rattle.flight_core.specs.FlightLaws.{FlightEntry, Log, EndsNone, IsIdle, IsOneEach, JoinsFlight}
use Rattle.flight_core.proofs.Steps.{Moves, led, queued, lands, leaves, still, moves, at, set_here, set_there, map_there, at_start, equal, unequal, one_each, has-one-each, nobody_leads, led_before, other_led, joined_waits, still_joined, stays_landed, unchanged, leaver_landed, entry_is}
use Rattle.flight_core.proofs.Sharing.{ComesApart, other_leads_on, leads_through, led_leads}

-- ---- who leads

who_leads : (key : ℕ) (p : FlightPlace) → leads key p ≡ true → p ≡ Leads key
who_leads key Out is = absurd (false≢true is)
who_leads key (Leads own) is = ap Leads (equal own key is)
who_leads key (Waits own) is = absurd (false≢true is)
who_leads key (Landed value) is = absurd (false≢true is)

somebody_leads : (key : ℕ) (places : List FlightPlace) → list_any (leads key) places ≡ true → (x : ℕ) × (at places x ≡ Leads key)
somebody_leads key [] is = absurd (false≢true is)
somebody_leads key (p ∷ places) is = by_test (leads key p) refl (somebody_leads key places) where
  by_test : (b : Bool) → leads key p ≡ b → (list_any (leads key) places ≡ true → (x : ℕ) × (at places x ≡ Leads key)) → (x : ℕ) × (at (p ∷ places) x ≡ Leads key)
  by_test true here later = (0, who_leads key p here)
  by_test false here later = let there = later (sym (ap (λ (b : Bool). b || list_any (leads key) places) here) ∙ is) in (suc there.0, there.1)

-- ---- when a leader led

-- one that leads after its own event led before, and the event changed nothing, or leads since
own_step : (s : FlightState) (c key : ℕ) (event : FlightEvent) (n : FlightState × FlightReply) → Moves s c event n → place_of n.0 c ≡ Leads key
    → ((place_of s c ≡ Leads key) × (n.1 ≡ reply.Still)) ⊎ ((event ≡ Join key) × (n.1 ≡ reply.Lead))
own_step s c key event n (led own below at_c none) is = let here : Leads own ≡ Leads key = sym (set_here s.places c (Leads own) below) ∙ is in let same : own ≡ key = cc in inr (ap Join same, refl)
own_step s c key event n (queued own below at_c flies) is = let here : Waits own ≡ Leads key = sym (set_here s.places c (Waits own) below) ∙ is in cc
own_step s c key event n (lands own value below at_c) is =
    let here : at (set s.places c Out) c ≡ Leads key = led_before key own value (at (set s.places c Out) c) (sym (map_there own value (set s.places c Out) c) ∙ is) in
    let out : Out ≡ Leads key = sym (set_here s.places c Out below) ∙ here in
    cc
own_step s c key event n (leaves value below at_c) is = let here : Out ≡ Leads key = sym (set_here s.places c Out below) ∙ is in cc
own_step s c key event n (still of may) is = inl (is, refl)

-- the caller leads the flight of the key since an entry of the log, and its later events changed nothing
record LeadsSince (c key : ℕ) (log : Log) : Type 0 where
  earlier : Log
  since : Log
  parts : log ≡ earlier ++ entry c (Join key) reply.Lead ∷ since
  idle : IsIdle c since

abbrev LedFrom : FlightState → ℕ → ℕ → Log → Type 0
LedFrom s c key log = ((place_of s c ≡ Leads key) × IsIdle c log) ⊎ LeadsSince c key log

led_step : (s : FlightState) (c key : ℕ) (e : FlightEntry) (log : Log) → (next s e.caller e.event).1 ≡ e.reply → LedFrom (next s e.caller e.event).0 c key log → LedFrom s c key (e ∷ log)
led_step s c key e log replied (inr later) = inr record { earlier = e ∷ later.earlier; since = later.since; parts = ap (λ (l : Log). e ∷ l) later.parts; idle = later.idle }
led_step s c key e log replied (inl (there, idle)) = by_test (c == e.caller) refl where
  n : FlightState × FlightReply
  n = next s e.caller e.event

  by_own : c ≡ e.caller → ((place_of s e.caller ≡ Leads key) × (n.1 ≡ reply.Still)) ⊎ ((e.event ≡ Join key) × (n.1 ≡ reply.Lead)) → LedFrom s c key (e ∷ log)
  by_own same (inl (was, stood)) = inl (subst (λ (x : ℕ). place_of s x ≡ Leads key) (sym same) was, ((λ own. sym replied ∙ stood), idle))
  by_own same (inr (event, answer)) = inr record {
    earlier = [];
    since = log;
    parts = ap (λ (x : FlightEntry). x ∷ log) (entry_is e (Join key) reply.Lead event (sym replied ∙ answer) ∙ ap (λ (x : ℕ). entry x (Join key) reply.Lead) (sym same));
    idle = idle;
  }

  by_test : (b : Bool) → (c == e.caller) ≡ b → LedFrom s c key (e ∷ log)
  by_test true is =
      let same = equal c e.caller is in
      by_own same (own_step s e.caller key e.event n (moves s e.caller e.event) (subst (λ (x : ℕ). place_of n.0 x ≡ Leads key) same there))
  by_test false is =
      let apart = unequal c e.caller is in
      inl (other_led s e.caller c key e.event n apart (moves s e.caller e.event) there, ((λ own. absurd (apart (sym own))), idle))

led_from : (s : FlightState) (c key : ℕ) (log : Log) → Follows next s log → place_of (after next s log) c ≡ Leads key → LedFrom s c key log
led_from s c key [] follows is = inl (is, tt)
led_from s c key (e ∷ log) follows is = led_step s c key e log follows.0 (led_from (next s e.caller e.event).0 c key log follows.1 is)

leads_since : (callers c key : ℕ) (log : Log) → Follows next (start callers) log → place_of (after next (start callers) log) c ≡ Leads key → LeadsSince c key log
leads_since callers c key log follows is = by_case (led_from (start callers) c key log follows is) where
  by_case : LedFrom (start callers) c key log → LeadsSince c key log
  by_case (inl (led_first, idle)) = let clash : Out ≡ Leads key = sym (at_start callers c) ∙ led_first in cc
  by_case (inr since) = since

-- ---- when it lands

record LandsSoon (d : ℕ) (value : ℤ) (log : Log) : Type 0 where
  until : Log
  later : Log
  parts : log ≡ until ++ entry d (Land value) (reply.Landed true) ∷ later
  idle : IsIdle d until

-- a leader's own event while somebody still waits for its flight changes nothing
leader_idles : (s : FlightState) (c d key : ℕ) (event : FlightEvent) (n : FlightState × FlightReply) → c ≢ d → Moves s d event n → place_of s d ≡ Leads key → place_of s c ≡ Waits key → place_of n.0 c ≡ Waits key → n.1 ≡ reply.Still
leader_idles s c d key event n ne (led own below at_d none) leading waits on = let clash : Out ≡ Leads key = sym at_d ∙ leading in cc
leader_idles s c d key event n ne (queued own below at_d flies) leading waits on = let clash : Out ≡ Leads key = sym at_d ∙ leading in cc
leader_idles s c d key event n ne (lands own value below at_d) leading waits on = by_test (key == own) refl where
  keys : Leads own ≡ Leads key
  keys = sym at_d ∙ leading

  same : own ≡ key
  same = cc

  there : place_of (ended s d own value) c ≡ landed own value (Waits key)
  there = map_there own value (set s.places d Out) c ∙ ap (landed own value) (set_there s.places c d Out ne ∙ waits)

  by_test : (b : Bool) → (key == own) ≡ b → reply.Landed (is_joined own s) ≡ reply.Still
  by_test true e = let clash : Landed value ≡ Waits key = sym (there ∙ ap (λ (b : Bool). if b then Landed value else Waits key) e) ∙ on in cc
  by_test false e = absurd (unequal key own e (sym same))
leader_idles s c d key event n ne (leaves value below at_d) leading waits on = let clash : Landed value ≡ Leads key = sym at_d ∙ leading in cc
leader_idles s c d key event n ne (still of may) leading waits on = refl

-- the leader of a flight that somebody waits for lands it before that one leaves, with what it leaves with
lands_soon : (s : FlightState) (c d key : ℕ) (value : ℤ) (between rest : Log) → c ≢ d → IsOneEach s → IsIdle c between → place_of s c ≡ Waits key → place_of s d ≡ Leads key → Follows next s (between ++ entry c Leave (reply.Left value) ∷ rest) → LandsSoon d value between
lands_soon s c d key value [] rest ne each idle waits leading follows = let there : Waits key ≡ Landed value = sym waits ∙ leaver_landed s c value Leave (next s c Leave) (moves s c Leave) follows.0 in cc
lands_soon s c d key value (e ∷ between) rest ne each idle waits leading follows = by_test (c == e.caller) refl (λ on leads_on. lands_soon (next s e.caller e.event).0 c d key value between rest ne (one_each s e.caller e.event each) idle.1 on leads_on follows.1) where
  n : FlightState × FlightReply
  n = next s e.caller e.event

  moved : Moves s e.caller e.event n
  moved = moves s e.caller e.event

  later_so : LandsSoon d value between → (e.caller ≡ d → e.reply ≡ reply.Still) → LandsSoon d value (e ∷ between)
  later_so soon stood = record { until = e ∷ soon.until; later = soon.later; parts = ap (λ (l : Log). e ∷ l) soon.parts; idle = (stood, soon.idle) }

  by_own : c ≡ e.caller → (place_of n.0 c ≡ Waits key → place_of n.0 d ≡ Leads key → LandsSoon d value between) → LandsSoon d value (e ∷ between)
  by_own same go =
      let none = unchanged s e.caller e.event n moved (follows.0 ∙ idle.0 (sym same)) in
      later_so (go (ap (λ (z : FlightState). place_of z c) none ∙ waits) (ap (λ (z : FlightState). place_of z d) none ∙ leading)) (λ own. absurd (ne (same ∙ own)))

  by_leader : c ≢ e.caller → (place_of n.0 c ≡ Waits key → place_of n.0 d ≡ Leads key → LandsSoon d value between) → place_of n.0 c ≡ Waits key → (b : Bool) → (d == e.caller) ≡ b → LandsSoon d value (e ∷ between)
  by_leader apart go on true is =
      let same = equal d e.caller is in
      let stood = leader_idles s c e.caller key e.event n apart moved (subst (λ (x : ℕ). place_of s x ≡ Leads key) same leading) waits on in
      later_so (go on (ap (λ (z : FlightState). place_of z d) (unchanged s e.caller e.event n moved stood) ∙ leading)) (λ own. sym follows.0 ∙ stood)
  by_leader apart go on false is =
      let other = unequal d e.caller is in
      later_so (go on (other_leads_on s d e.caller key e.event n other moved leading)) (λ own. absurd (other (sym own)))

  by_other : c ≢ e.caller → (place_of n.0 c ≡ Waits key → place_of n.0 d ≡ Leads key → LandsSoon d value between) → (place_of n.0 c ≡ Waits key) ⊎ ((v : ℤ) × (e.event ≡ Land v) × (n.1 ≡ reply.Landed true) × (place_of s e.caller ≡ Leads key) × (place_of n.0 c ≡ Landed v)) → LandsSoon d value (e ∷ between)
  by_other apart go (inl on) = by_leader apart go on (d == e.caller) refl
  by_other apart go (inr (v, event, answer, lead, there)) =
      let with_it : v ≡ value = stays_landed n.0 c v value between rest idle.1 there follows.1 in
      let leader : e.caller ≡ d = each key e.caller d lead leading in
      record {
        until = [];
        later = between;
        parts = ap (λ (x : FlightEntry). x ∷ between) (entry_is e (Land value) (reply.Landed true) (event ∙ ap Land with_it) (sym follows.0 ∙ answer) ∙ ap (λ (x : ℕ). entry x (Land value) (reply.Landed true)) leader);
        idle = tt;
      }

  by_test : (b : Bool) → (c == e.caller) ≡ b → (place_of n.0 c ≡ Waits key → place_of n.0 d ≡ Leads key → LandsSoon d value between) → LandsSoon d value (e ∷ between)
  by_test true is go = by_own (equal c e.caller is) go
  by_test false is go = let apart = unequal c e.caller is in by_other apart go (still_joined s c e.caller key e.event n apart moved waits)

-- ---- the flight that a caller joins

joins_flying : (s : FlightState) (c key : ℕ) (event : FlightEvent) (n : FlightState × FlightReply) → Moves s c event n → event ≡ Join key → n.1 ≡ reply.Queued → (is_flying key s ≡ true) × (place_of s c ≡ Out)
joins_flying s c key event n (led own below is none) join same = cc
joins_flying s c key event n (queued own below is flies) join same = let e : own ≡ key = cc in (subst (λ (k : ℕ). is_flying k s ≡ true) e flies, is)
joins_flying s c key event n (lands own value below is) join same = cc
joins_flying s c key event n (leaves value below is) join same = cc
joins_flying s c key event n (still of may) join same = cc

pub joins-one : ComesApart next → (callers c key : ℕ) (value : ℤ) (before between rest : Log) → IsIdle c between
    → Follows next (start callers) (before ++ entry c (Join key) reply.Queued ∷ (between ++ entry c Leave (reply.Left value) ∷ rest)) → JoinsFlight c key value before between
joins-one apart callers c key value before between rest idle follows =
    let s : FlightState = after next (start callers) before in
    let n : FlightState × FlightReply = next s c (Join key) in
    let moved : Moves s c (Join key) n = moves s c (Join key) in
    let parts = apart (start callers) before (entry c (Join key) reply.Queued ∷ (between ++ entry c Leave (reply.Left value) ∷ rest)) follows in
    let flies = joins_flying s c key (Join key) n moved refl parts.1.0 in
    let leader = somebody_leads key s.places flies.0 in
    let d = leader.0 in
    let another : c ≢ d = λ same. (let clash : Out ≡ Leads key = sym flies.1 ∙ (ap (place_of s) same ∙ leader.1) in cc) in
    let since = leads_since callers d key before parts.0 leader.1 in
    let waits = joined_waits s c key (Join key) n moved refl parts.1.0 in
    let leading = other_leads_on s d c key (Join key) n (λ same. another (sym same)) moved leader.1 in
    let soon = lands_soon n.0 c d key value between rest another (one_each s c (Join key) (has-one-each callers before)) idle waits leading parts.1.1 in
    record {
      leader = d;
      earlier = since.earlier;
      since = since.since;
      until = soon.until;
      later = soon.later;
      another = λ same. another (sym same);
      led = since.parts;
      landed = soon.parts;
      idle_since = since.idle;
      idle_until = soon.idle;
    }

-- ---- one that leads leads alone

leads_free : (s : FlightState) (c key : ℕ) (event : FlightEvent) (n : FlightState × FlightReply) → Moves s c event n → event ≡ Join key → n.1 ≡ reply.Lead → is_flying key s ≡ false
leads_free s c key event n (led own below is none) join same = let e : own ≡ key = cc in subst (λ (k : ℕ). is_flying k s ≡ false) e none
leads_free s c key event n (queued own below is flies) join same = cc
leads_free s c key event n (lands own value below is) join same = cc
leads_free s c key event n (leaves value below is) join same = cc
leads_free s c key event n (still of may) join same = cc

pub leads-alone : ComesApart next → (s : FlightState) (c d key : ℕ) (between rest : Log) → EndsNone c between → Follows next s (entry c (Join key) reply.Lead ∷ (between ++ entry d (Join key) reply.Lead ∷ rest)) → ⊥
leads-alone apart s c d key between rest ends follows =
    let first : FlightState = (next s c (Join key)).0 in
    let end : FlightState = after next first between in
    let parts = apart first between (entry d (Join key) reply.Lead ∷ rest) follows.1 in
    let lead : place_of first c ≡ Leads key = led_leads s c key (Join key) (next s c (Join key)) (moves s c (Join key)) refl follows.0 in
    let free : is_flying key end ≡ false = leads_free end d key (Join key) (next end d (Join key)) (moves end d (Join key)) refl parts.1.0 in
    nobody_leads key end.places c free (leads_through first c key between parts.0 ends lead)
