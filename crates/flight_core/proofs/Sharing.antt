-- How long a leader leads, for what whoever waits waits, and what a landing tells.
use Rattle.std.proofs.Common.{◌≡◌, ◌≢◌, ℕ, zero, suc, Bool, true, false, cond, ◌||◌, ◌==◌, List, [], ◌∷◌, ◌++◌, set, map, refl, sym, ap, ◌∙◌, subst}
use Rattle.std.specs.Prelude.{ℤ}
use Rattle.std.specs.List.{list_any}
use Rattle.std.proofs.lemmas.Bool.{false≢true}
use Rattle.flight_core.specs.declared.event.FlightEvent.{FlightEvent}
use Rattle.flight_core.specs.declared.event.FlightEvent.TheVariants.{Join, Land, Leave}
use Rattle.flight_core.specs.declared.event.FlightReply.{FlightReply}
use Rattle.flight_core.specs.declared.event.FlightReply.TheVariants as reply
use Rattle.flight_core.specs.declared.event.FlightPlace.{FlightPlace}
use Rattle.flight_core.specs.declared.event.FlightPlace.TheVariants.{Out, Leads, Waits, Landed}
use Rattle.sync_model.specs.Log.{entry, after, Follows}
use Rattle.flight_core.specs.FlightMachine.{FlightState, start, next, place_of, leads, joins, landed, is_flying, is_joined}
use Rattle.flight_core.specs.FlightEdges.{flight_releases}
use Rattle.flight_core.specs.FlightLaws.{FlightEntry, Log, EndsNone, is_join, has_join, IsOneEach, IsAwaited}
use Rattle.flight_core.proofs.Steps.{Moves, led, queued, lands, leaves, still, moves, at, set_here, set_there, map_there, at_start, equal, unequal, differ, one_each, has-one-each, or_true, joined_by}

own_leads_on : (s : FlightState) (c key : ℕ) (event : FlightEvent) (n : FlightState × FlightReply) → Moves s c event n → flight_releases event n.1 ≡ false → place_of s c ≡ Leads key → place_of n.0 c ≡ Leads key
own_leads_on s c key event n (led own below at_c none) ends is = let clash : Out ≡ Leads key = sym at_c ∙ is in cc
own_leads_on s c key event n (queued own below at_c flies) ends is = let clash : Out ≡ Leads key = sym at_c ∙ is in cc
own_leads_on s c key event n (lands own value below at_c) ends is = absurd (false≢true (sym ends))
own_leads_on s c key event n (leaves value below at_c) ends is = let clash : Landed value ≡ Leads key = sym at_c ∙ is in cc
own_leads_on s c key event n (still of may) ends is = is

pub other_leads_on : (s : FlightState) (c d key : ℕ) (event : FlightEvent) (n : FlightState × FlightReply) → c ≢ d → Moves s d event n → place_of s c ≡ Leads key → place_of n.0 c ≡ Leads key
other_leads_on s c d key event n ne (led own below at_d none) is = set_there s.places c d (Leads own) ne ∙ is
other_leads_on s c d key event n ne (queued own below at_d flies) is = set_there s.places c d (Waits own) ne ∙ is
other_leads_on s c d key event n ne (lands own value below at_d) is = map_there own value (set s.places d Out) c ∙ ap (landed own value) (set_there s.places c d Out ne ∙ is)
other_leads_on s c d key event n ne (leaves value below at_d) is = set_there s.places c d Out ne ∙ is
other_leads_on s c d key event n ne (still of may) is = is

leads_on : (s : FlightState) (c d key : ℕ) (event : FlightEvent) (n : FlightState × FlightReply) → Moves s d event n → (d ≡ c → flight_releases event n.1 ≡ false) → place_of s c ≡ Leads key → place_of n.0 c ≡ Leads key
leads_on s c d key event n moved ends is = by_test (c == d) refl where
  by_test : (b : Bool) → (c == d) ≡ b → place_of n.0 c ≡ Leads key
  by_test true e =
      let same : d ≡ c = sym (equal c d e) in
      subst (λ (x : ℕ). Moves s x event n → place_of n.0 c ≡ Leads key) (sym same) (λ own. own_leads_on s c key event n own (ends same) is) moved
  by_test false e = other_leads_on s c d key event n (unequal c d e) moved is

-- what a caller that ends no flight in a log hasn't ended by its first entry
ends_not : (s : FlightState) (c : ℕ) (e : FlightEntry) (log : Log) → Follows next s (e ∷ log) → EndsNone c (e ∷ log) → e.caller ≡ c → flight_releases e.event (next s e.caller e.event).1 ≡ false
ends_not s c e log follows ends own = ap (flight_releases e.event) follows.0 ∙ ends.0 own

leads_first : (s : FlightState) (c key : ℕ) (e : FlightEntry) (log : Log) → Follows next s (e ∷ log) → EndsNone c (e ∷ log) → place_of s c ≡ Leads key → place_of (next s e.caller e.event).0 c ≡ Leads key
leads_first s c key e log follows ends is = leads_on s c e.caller key e.event (next s e.caller e.event) (moves s e.caller e.event) (ends_not s c e log follows ends) is

pub leads_through : (s : FlightState) (c key : ℕ) (log : Log) → Follows next s log → EndsNone c log → place_of s c ≡ Leads key → place_of (after next s log) c ≡ Leads key
leads_through s c key [] follows ends is = is
leads_through s c key (e ∷ log) follows ends is = leads_through (next s e.caller e.event).0 c key log follows.1 ends.1 (leads_first s c key e log follows ends is)

pub led_leads : (s : FlightState) (c key : ℕ) (event : FlightEvent) (n : FlightState × FlightReply) → Moves s c event n → event ≡ Join key → n.1 ≡ reply.Lead → place_of n.0 c ≡ Leads key
led_leads s c key event n (led own below is none) join same = let e : own ≡ key = cc in set_here s.places c (Leads own) below ∙ ap Leads e
led_leads s c key event n (queued own below is flies) join same = cc
led_leads s c key event n (lands own value below is) join same = cc
led_leads s c key event n (leaves value below is) join same = cc
led_leads s c key event n (still of may) join same = cc

pub leads-until : (s : FlightState) (c key : ℕ) (log : Log) → Follows next s (entry c (Join key) reply.Lead ∷ log) → EndsNone c log → place_of (after next (next s c (Join key)).0 log) c ≡ Leads key
leads-until s c key log follows ends = leads_through (next s c (Join key)).0 c key log follows.1 ends (led_leads s c key (Join key) (next s c (Join key)) (moves s c (Join key)) refl follows.0)

-- ---- whoever waits waits for a flight that there is

-- a caller that led no flight of the key goes elsewhere
flies_on : (key : ℕ) (places : List FlightPlace) (c : ℕ) (p : FlightPlace) → leads key (at places c) ≡ false → list_any (leads key) places ≡ true → list_any (leads key) (set places c p) ≡ true
flies_on key [] c p unled flies = flies
flies_on key (q ∷ places) zero p unled flies = or_true (leads key p) (list_any (leads key) places) (sym (ap (λ (b : Bool). b || list_any (leads key) places) unled) ∙ flies)
flies_on key (q ∷ places) (suc c) p unled flies = by_test (leads key q) refl (flies_on key places c p unled) where
  by_test : (b : Bool) → leads key q ≡ b → (list_any (leads key) places ≡ true → list_any (leads key) (set places c p) ≡ true) → (leads key q || list_any (leads key) (set places c p)) ≡ true
  by_test true is later = ap (λ (b : Bool). b || list_any (leads key) (set places c p)) is
  by_test false is later = or_true (leads key q) (list_any (leads key) (set places c p)) (later (sym (ap (λ (b : Bool). b || list_any (leads key) places) is) ∙ flies))

same_leads : (key own : ℕ) (value : ℤ) (p : FlightPlace) → leads key (landed own value p) ≡ leads key p
same_leads key own value Out = refl
same_leads key own value (Leads other) = refl
same_leads key own value (Waits other) = by_test (other == own) where
  by_test : (b : Bool) → leads key (cond b (Landed value) (Waits other)) ≡ false
  by_test true = refl
  by_test false = refl
same_leads key own value (Landed other) = refl

flies_mapped : (key own : ℕ) (value : ℤ) (places : List FlightPlace) → list_any (leads key) (map (landed own value) places) ≡ list_any (leads key) places
flies_mapped key own value [] = refl
flies_mapped key own value (p ∷ places) = ap (λ (b : Bool). b || list_any (leads key) (map (landed own value) places)) (same_leads key own value p) ∙ ap (λ (b : Bool). leads key p || b) (flies_mapped key own value places)

-- whoever waits after a landing waited before, for another flight
waits_before : (key own : ℕ) (value : ℤ) (p : FlightPlace) → landed own value p ≡ Waits key → (p ≡ Waits key) × ((own == key) ≡ false)
waits_before key own value Out is = cc
waits_before key own value (Leads other) is = cc
waits_before key own value (Waits other) is = by_test (other == own) refl is where
  by_test : (b : Bool) → (other == own) ≡ b → cond b (Landed value) (Waits other) ≡ Waits key → (Waits other ≡ Waits key) × ((own == key) ≡ false)
  by_test true e same = cc
  by_test false e same =
      let keys : other ≡ key = cc in
      let apart : (key == own) ≡ false = subst (λ (n : ℕ). (n == own) ≡ false) keys e in
      (same, differ key own apart)
waits_before key own value (Landed other) is = cc

awaited_by : (s : FlightState) (c : ℕ) (event : FlightEvent) (n : FlightState × FlightReply) → Moves s c event n → IsAwaited s → IsAwaited n.0
awaited_by s c event n (led own below at_c none) h key x is = by_test (x == c) refl where
  unled : leads key (at s.places c) ≡ false
  unled = ap (leads key) at_c

  by_test : (b : Bool) → (x == c) ≡ b → list_any (leads key) (set s.places c (Leads own)) ≡ true
  by_test true e = let clash : Leads own ≡ Waits key = sym (set_here s.places c (Leads own) below) ∙ ap (at (set s.places c (Leads own))) (sym (equal x c e)) ∙ is in cc
  by_test false e = flies_on key s.places c (Leads own) unled (h key x (sym (set_there s.places x c (Leads own) (unequal x c e)) ∙ is))
awaited_by s c event n (queued own below at_c flies) h key x is = by_test (x == c) refl where
  unled : leads key (at s.places c) ≡ false
  unled = ap (leads key) at_c

  by_test : (b : Bool) → (x == c) ≡ b → list_any (leads key) (set s.places c (Waits own)) ≡ true
  by_test true e =
      let keys : Waits own ≡ Waits key = sym (set_here s.places c (Waits own) below) ∙ ap (at (set s.places c (Waits own))) (sym (equal x c e)) ∙ is in
      let same : own ≡ key = cc in
      flies_on key s.places c (Waits own) unled (subst (λ (k : ℕ). is_flying k s ≡ true) same flies)
  by_test false e = flies_on key s.places c (Waits own) unled (h key x (sym (set_there s.places x c (Waits own) (unequal x c e)) ∙ is))
awaited_by s c event n (lands own value below at_c) h key x is = by_test (x == c) refl where
  before : (at (set s.places c Out) x ≡ Waits key) × ((own == key) ≡ false)
  before = waits_before key own value (at (set s.places c Out) x) (sym (map_there own value (set s.places c Out) x) ∙ is)

  by_test : (b : Bool) → (x == c) ≡ b → list_any (leads key) (map (landed own value) (set s.places c Out)) ≡ true
  by_test true e = let clash : Out ≡ Waits key = sym (set_here s.places c Out below) ∙ ap (at (set s.places c Out)) (sym (equal x c e)) ∙ before.0 in cc
  by_test false e =
      let there : at s.places x ≡ Waits key = sym (set_there s.places x c Out (unequal x c e)) ∙ before.0 in
      flies_mapped key own value (set s.places c Out) ∙ flies_on key s.places c Out (ap (leads key) at_c ∙ before.1) (h key x there)
awaited_by s c event n (leaves value below at_c) h key x is = by_test (x == c) refl where
  by_test : (b : Bool) → (x == c) ≡ b → list_any (leads key) (set s.places c Out) ≡ true
  by_test true e = let clash : Out ≡ Waits key = sym (set_here s.places c Out below) ∙ ap (at (set s.places c Out)) (sym (equal x c e)) ∙ is in cc
  by_test false e = flies_on key s.places c Out (ap (leads key) at_c) (h key x (sym (set_there s.places x c Out (unequal x c e)) ∙ is))
awaited_by s c event n (still of may) h key x is = h key x is

awaited_after : (s : FlightState) (log : Log) → IsAwaited s → IsAwaited (after next s log)
awaited_after s [] h = h
awaited_after s (e ∷ log) h = awaited_after (next s e.caller e.event).0 log (awaited_by s e.caller e.event (next s e.caller e.event) (moves s e.caller e.event) h)

pub always-awaited : (callers : ℕ) (log : Log) → IsAwaited (after next (start callers) log)
always-awaited callers log = awaited_after (start callers) log (λ key x is. let clash : Out ≡ Waits key = sym (at_start callers x) ∙ is in cc)

-- ---- what a landing tells

-- a caller that hadn't joined goes where it hasn't
joins_kept : (key : ℕ) (places : List FlightPlace) (c : ℕ) (p : FlightPlace) → joins key (at places c) ≡ false → joins key p ≡ false → list_any (joins key) (set places c p) ≡ list_any (joins key) places
joins_kept key [] c p was now = refl
joins_kept key (q ∷ places) zero p was now = ap (λ (b : Bool). b || list_any (joins key) places) (now ∙ sym was)
joins_kept key (q ∷ places) (suc c) p was now = ap (λ (b : Bool). joins key q || b) (joins_kept key places c p was now)

same_joins : (key own : ℕ) (value : ℤ) (p : FlightPlace) → (own == key) ≡ false → joins key (landed own value p) ≡ joins key p
same_joins key own value Out apart = refl
same_joins key own value (Leads other) apart = refl
same_joins key own value (Waits other) apart = by_test (other == own) refl where
  by_test : (b : Bool) → (other == own) ≡ b → joins key (cond b (Landed value) (Waits other)) ≡ (other == key)
  by_test true e = sym (subst (λ (n : ℕ). (n == key) ≡ false) (sym (equal other own e)) apart)
  by_test false e = refl
same_joins key own value (Landed other) apart = refl

joins_mapped : (key own : ℕ) (value : ℤ) (places : List FlightPlace) → (own == key) ≡ false → list_any (joins key) (map (landed own value) places) ≡ list_any (joins key) places
joins_mapped key own value [] apart = refl
joins_mapped key own value (p ∷ places) apart = ap (λ (b : Bool). b || list_any (joins key) (map (landed own value) places)) (same_joins key own value p apart) ∙ ap (λ (b : Bool). joins key p || b) (joins_mapped key own value places apart)

nobody_joins : (key : ℕ) (event : FlightEvent) → is_join key event reply.Still ≡ false
nobody_joins key (Join own) = refl
nobody_joins key (Land value) = refl
nobody_joins key Leave = refl

-- what an event other than the landing of the flight of the key adds to those who have joined it
joined_step : (s : FlightState) (c d key : ℕ) (event : FlightEvent) (n : FlightState × FlightReply) → Moves s d event n → IsOneEach s → place_of s c ≡ Leads key → (d ≡ c → flight_releases event n.1 ≡ false)
    → is_joined key n.0 ≡ (is_join key event n.1 || is_joined key s)
joined_step s c d key event n (led own below at_d none) each is ends = joins_kept key s.places d (Leads own) (ap (joins key) at_d) refl
joined_step s c d key event n (queued own below at_d flies) each is ends = by_test (own == key) refl where
  by_test : (b : Bool) → (own == key) ≡ b → list_any (joins key) (set s.places d (Waits own)) ≡ ((own == key) || is_joined key s)
  by_test true e = joined_by key (set s.places d (Waits own)) d (ap (joins key) (set_here s.places d (Waits own) below) ∙ e) ∙ sym (ap (λ (b : Bool). b || is_joined key s) e)
  by_test false e = joins_kept key s.places d (Waits own) (ap (joins key) at_d) e ∙ sym (ap (λ (b : Bool). b || is_joined key s) e)
joined_step s c d key event n (lands own value below at_d) each is ends = by_test (own == key) refl where
  by_test : (b : Bool) → (own == key) ≡ b → list_any (joins key) (map (landed own value) (set s.places d Out)) ≡ is_joined key s
  by_test true e = absurd (false≢true (sym (ends (each key d c (at_d ∙ ap Leads (equal own key e)) is))))
  by_test false e = joins_mapped key own value (set s.places d Out) e ∙ joins_kept key s.places d Out (ap (joins key) at_d) refl
joined_step s c d key event n (leaves value below at_d) each is ends = joins_kept key s.places d Out (ap (joins key) at_d) refl
joined_step s c d key event n (still of may) each is ends = sym (ap (λ (b : Bool). b || is_joined key s) (nobody_joins key of))

or_moved : (a b c : Bool) → (b || (a || c)) ≡ ((a || b) || c)
or_moved true true c = refl
or_moved true false c = refl
or_moved false b c = refl

or_false : (a : Bool) → (a || false) ≡ a
or_false true = refl
or_false false = refl

joined_through : (s : FlightState) (c key : ℕ) (log : Log) → IsOneEach s → Follows next s log → EndsNone c log → place_of s c ≡ Leads key → is_joined key (after next s log) ≡ (has_join key log || is_joined key s)
joined_through s c key [] each follows ends is = refl
joined_through s c key (e ∷ log) each follows ends is =
    let n : FlightState × FlightReply = next s e.caller e.event in
    let later : is_joined key (after next n.0 log) ≡ (has_join key log || is_joined key n.0) = joined_through n.0 c key log (one_each s e.caller e.event each) follows.1 ends.1 (leads_first s c key e log follows ends is) in
    let one : is_joined key n.0 ≡ (is_join key e.event n.1 || is_joined key s) = joined_step s c e.caller key e.event n (moves s e.caller e.event) each is (ends_not s c e log follows ends) in
    let so : is_joined key n.0 ≡ (is_join key e.event e.reply || is_joined key s) = one ∙ ap (λ (r : FlightReply). is_join key e.event r || is_joined key s) follows.0 in
    later ∙ ap (λ (b : Bool). has_join key log || b) so ∙ or_moved (is_join key e.event e.reply) (has_join key log) (is_joined key s)

who_joins : (key : ℕ) (p : FlightPlace) → joins key p ≡ true → p ≡ Waits key
who_joins key Out is = absurd (false≢true is)
who_joins key (Leads own) is = absurd (false≢true is)
who_joins key (Waits own) is = ap Waits (equal own key is)
who_joins key (Landed value) is = absurd (false≢true is)

somebody_joined : (key : ℕ) (places : List FlightPlace) → list_any (joins key) places ≡ true → (x : ℕ) × (at places x ≡ Waits key)
somebody_joined key [] is = absurd (false≢true is)
somebody_joined key (p ∷ places) is = by_test (joins key p) refl (somebody_joined key places) where
  by_test : (b : Bool) → joins key p ≡ b → (list_any (joins key) places ≡ true → (x : ℕ) × (at places x ≡ Waits key)) → (x : ℕ) × (at (p ∷ places) x ≡ Waits key)
  by_test true here later = (0, who_joins key p here)
  by_test false here later = let there = later (sym (ap (λ (b : Bool). b || list_any (joins key) places) here) ∙ is) in (suc there.0, there.1)

-- where there is no flight of the key nobody has joined one
none_joined : (s : FlightState) (key : ℕ) → IsAwaited s → is_flying key s ≡ false → is_joined key s ≡ false
none_joined s key awaited none = by_test (is_joined key s) refl where
  by_test : (b : Bool) → is_joined key s ≡ b → b ≡ false
  by_test true is = let there = somebody_joined key s.places is in absurd (false≢true (sym none ∙ awaited key there.0 there.1))
  by_test false is = refl

-- nobody has joined a flight when it begins
led_alone : (s : FlightState) (c key : ℕ) (event : FlightEvent) (n : FlightState × FlightReply) → Moves s c event n → event ≡ Join key → n.1 ≡ reply.Lead → IsAwaited s → is_joined key n.0 ≡ false
led_alone s c key event n (led own below is none) join same awaited =
    let e : own ≡ key = cc in joins_kept key s.places c (Leads own) (ap (joins key) is) refl ∙ none_joined s key awaited (subst (λ (k : ℕ). is_flying k s ≡ false) e none)
led_alone s c key event n (queued own below is flies) join same awaited = cc
led_alone s c key event n (lands own value below is) join same awaited = cc
led_alone s c key event n (leaves value below is) join same awaited = cc
led_alone s c key event n (still of may) join same awaited = cc

landing_tells : (s : FlightState) (c key : ℕ) (shared : Bool) (event : FlightEvent) (n : FlightState × FlightReply) → Moves s c event n → n.1 ≡ reply.Landed shared → place_of s c ≡ Leads key → shared ≡ is_joined key s
landing_tells s c key shared event n (led own below at_c none) same is = cc
landing_tells s c key shared event n (queued own below at_c flies) same is = cc
landing_tells s c key shared event n (lands own value below at_c) same is =
    let keys : Leads own ≡ Leads key = sym at_c ∙ is in
    let e : own ≡ key = cc in
    let told : is_joined own s ≡ shared = cc in
    sym told ∙ ap (λ (k : ℕ). is_joined k s) e
landing_tells s c key shared event n (leaves value below at_c) same is = cc
landing_tells s c key shared event n (still of may) same is = cc

-- each part of a log follows the machine, the later one from the state that the earlier one leads to
abbrev pub ComesApart : (FlightState → ℕ → FlightEvent → FlightState × FlightReply) → Type 0
ComesApart n = (s : FlightState) (earlier later : Log) → Follows n s (earlier ++ later) → Follows n s earlier × Follows n (after n s earlier) later

pub tells-joined : ComesApart next → (callers c key : ℕ) (value : ℤ) (shared : Bool) (before between rest : Log) → EndsNone c between
    → Follows next (after next (start callers) before) (entry c (Join key) reply.Lead ∷ (between ++ entry c (Land value) (reply.Landed shared) ∷ rest)) → shared ≡ has_join key between
tells-joined apart callers c key value shared before between rest ends follows =
    let s : FlightState = after next (start callers) before in
    let first : FlightState = (next s c (Join key)).0 in
    let end : FlightState = after next first between in
    let parts = apart first between (entry c (Land value) (reply.Landed shared) ∷ rest) follows.1 in
    let lead : place_of first c ≡ Leads key = led_leads s c key (Join key) (next s c (Join key)) (moves s c (Join key)) refl follows.0 in
    let alone : is_joined key first ≡ false = led_alone s c key (Join key) (next s c (Join key)) (moves s c (Join key)) refl follows.0 (always-awaited callers before) in
    let each : IsOneEach first = one_each s c (Join key) (has-one-each callers before) in
    let told : shared ≡ is_joined key end = landing_tells end c key shared (Land value) (next end c (Land value)) (moves end c (Land value)) parts.1.0 (leads_through first c key between parts.0 ends lead) in
    told ∙ joined_through first c key between each parts.0 ends lead ∙ ap (λ (b : Bool). has_join key between || b) alone ∙ or_false (has_join key between)
