-- The machine Starts along what a run does on it: who goes, who is started, the ends and those that were never started.
use Rattle.std.proofs.Common.{◌≡◌, ◌≢◌, ℕ, zero, suc, ◌+◌, ◌<◌, ◌≤◌, Bool, true, false, if◌then◌else◌, cond, List, [], ◌∷◌, ◌++◌, map, filter, length, get_or, set, slice_get, inl, inr, refl, sym, ap, ap₂, ◌∙◌, subst, arith}
use Rattle.std.specs.Prelude.{unwrap_or}
use Rattle.std.specs.List.{list_any, range_with_len}
use Rattle.std.proofs.lemmas.Bool.{lt-ltb}
use Rattle.std.proofs.lemmas.Bool.Decides.{eqb_tells}
use Rattle.std.proofs.lemmas.List.{length-map, length-set, map-append, get_or-set_same, get_or-set_other}
use Rattle.std.proofs.lemmas.Option.{unwrap_or-slice_get}
use Rattle.sync_model.specs.Log as log
use Rattle.starts_core.specs.declared.starts.StartEvent.{StartEvent}
use Rattle.starts_core.specs.declared.starts.StartEvent.TheVariants as starts
use Rattle.starts_core.specs.declared.starts.StartPlace.{StartPlace}
use Rattle.starts_core.specs.declared.starts.StartPlace.TheVariants as places
use Rattle.starts_core.specs.declared.starts.StartReply.{StartReply}
use Rattle.starts_core.specs.declared.starts.StartReply.TheVariants as replied
use Rattle.starts_core.specs.StartsMachine.{StartsState, begun, first_place, callers_of, place_of, is_live, is_any_live, started, ended, left_from, with_place, made, next}
use Rattle.step_runner.specs.declared.state.Stand.{Stand}
use Rattle.step_runner.specs.declared.state.Stand.TheVariants.{Waits, Live, Gone}
use Rattle.step_runner.specs.State.{first_stand, woken}
use Rattle.scheduled_record.proofs.OnObjects.{Told}
use Rattle.scheduled_record.proofs.StartsOn.{starts_told}

abbrev pub Entry : Type 0
Entry = log.Entry StartEvent StartReply

abbrev pub told_of : Entry → Told
told_of e = starts_told e.caller e.event e.reply

-- what is done leads from the first state to the last, and each answer is the machine's
pub record Leads (first : StartsState) (done : List Told) (last : StartsState) : Type 0 where
  pub all : List Entry
  pub are : done ≡ map told_of all
  pub follows : log.Follows next first all
  pub ends : log.after next first all ≡ last

pub nothing_led : (p : StartsState) → Leads p [] p
nothing_led p = record { all = []; are = refl; follows = tt; ends = refl }

pub one_led : (p q : StartsState) (w : ℕ) (event : StartEvent) (reply : StartReply) → next p w event ≡ (q, reply) → Leads p (starts_told w event reply ∷ []) q
one_led p q w event reply is =
    record { all = record { caller = w; event = event; reply = reply } ∷ []; are = refl; follows = (ap (λ (x : StartsState × StartReply). x.1) is, tt); ends = ap (λ (x : StartsState × StartReply). x.0) is }

follows-joined : (p m : StartsState) (all more : List Entry) → log.Follows next p all → log.after next p all ≡ m → log.Follows next m more → log.Follows next p (all ++ more)
follows-joined p m [] more follows ends later = subst (λ (s : StartsState). log.Follows next s more) (sym ends) later
follows-joined p m (e ∷ all) more follows ends later = (follows.0, follows-joined (next p e.caller e.event).0 m all more follows.1 ends later)

after-joined : (p : StartsState) (all more : List Entry) → log.after next p (all ++ more) ≡ log.after next (log.after next p all) more
after-joined p [] more = refl
after-joined p (e ∷ all) more = after-joined (next p e.caller e.event).0 all more

pub joined_led : (p m q : StartsState) (done more : List Told) → Leads p done m → Leads m more q → Leads p (done ++ more) q
joined_led p m q done more first second = record {
  all = first.all ++ second.all;
  are = ap₂ (λ (a b : List Told). a ++ b) first.are second.are ∙ sym (map-append told_of first.all second.all);
  follows = follows-joined p m first.all second.all first.follows first.ends second.follows;
  ends = after-joined p first.all second.all ∙ (ap (λ (s : StartsState). log.after next s second.all) first.ends ∙ second.ends);
}

-- ---- how a worker stands, and its place

-- whoever waits to be started is dormant, and any other is live until the end of the run
abbrev pub place_by : Stand → StartPlace
place_by Waits = places.Dormant
place_by Live = places.Live
place_by Gone = places.Live

abbrev pub state_by : List Stand → StartsState
state_by stands = record { places = map place_by stands }

pub begins : (dormant : List Bool) → state_by (map first_stand dormant) ≡ begun dormant
begins dormant = ap (λ (l : List StartPlace). let s : StartsState = record { places = l } in s) (each dormant) where
  each : (dormant : List Bool) → map place_by (map first_stand dormant) ≡ map first_place dormant
  each [] = refl
  each (true ∷ dormant) = ap (λ (l : List StartPlace). places.Dormant ∷ l) (each dormant)
  each (false ∷ dormant) = ap (λ (l : List StartPlace). places.Live ∷ l) (each dormant)

pub place_at : (stands : List Stand) (w : ℕ) → w < length stands → place_of (state_by stands) w ≡ place_by (get_or stands w Gone)
place_at [] w within = absurd (omega arith)
place_at (stand ∷ stands) zero within = refl
place_at (stand ∷ stands) (suc w) within = place_at stands w (omega arith)

pub callers_by : (stands : List Stand) → callers_of (state_by stands) ≡ length stands
callers_by stands = length-map stands place_by

by_caller : (p : StartsState) (w : ℕ) (event : StartEvent) → w < callers_of p → next p w event ≡ made p w event
by_caller p w event within = ap (λ (b : Bool). if b then made p w event else (p, replied.Still)) (lt-ltb w (callers_of p) within)

-- a worker that is live goes
pub goes_led : (stands : List Stand) (w : ℕ) → w < length stands → get_or stands w Gone ≡ Live → Leads (state_by stands) (starts_told w starts.Leave replied.Go ∷ []) (state_by stands)
goes_led stands w within live =
    one_led (state_by stands) (state_by stands) w starts.Leave replied.Go (by_caller (state_by stands) w starts.Leave (subst (λ (n : ℕ). w < n) (sym (callers_by stands)) within)
    ∙ ap (λ (place : StartPlace). let x : StartsState × StartReply = (state_by stands, left_from place (state_by stands)) in x) (place_at stands w within ∙ ap place_by live))

-- one that is started stands so
pub starts_led : (stands : List Stand) (w other : ℕ) → w < length stands → Leads (state_by stands) (starts_told w (starts.Start other) replied.Done ∷ []) (state_by (set stands other (woken (get_or stands other Gone))))
starts_led stands w other within =
    one_led (state_by stands) (state_by (set stands other (woken (get_or stands other Gone)))) w (starts.Start other) replied.Done (by_caller (state_by stands) w (starts.Start other) (subst (λ (n : ℕ). w < n) (sym (callers_by stands)) within)
    ∙ ap (λ (l : List StartPlace). let x : StartsState × StartReply = (record { places = l }, replied.Done) in x) (woken_at stands other))
  where
    woken_so : (stand : Stand) → started (place_by stand) ≡ place_by (woken stand)
    woken_so Waits = refl
    woken_so Live = refl
    woken_so Gone = refl

    woken_at : (stands : List Stand) (other : ℕ) → set (map place_by stands) other (started (unwrap_or (slice_get (map place_by stands) other) places.Ended)) ≡ map place_by (set stands other (woken (get_or stands other Gone)))
    woken_at [] other = refl
    woken_at (stand ∷ stands) zero = ap (λ (place : StartPlace). place ∷ map place_by stands) (woken_so stand)
    woken_at (stand ∷ stands) (suc other) = ap (λ (l : List StartPlace). place_by stand ∷ l) (woken_at stands other)

-- ---- the ends

place_same : (p : StartsState) (w : ℕ) (place : StartPlace) → w < callers_of p → place_of (with_place p w place) w ≡ place
place_same p w place within = unwrap_or-slice_get (set p.places w place) w places.Ended ∙ get_or-set_same p.places w place places.Ended within

place_other : (p : StartsState) (w v : ℕ) (place : StartPlace) → v ≢ w → place_of (with_place p w place) v ≡ place_of p v
place_other p w v place apart = unwrap_or-slice_get (set p.places w place) v places.Ended ∙ (get_or-set_other p.places w v place places.Ended apart ∙ sym (unwrap_or-slice_get p.places v places.Ended))

none_ended : (place : StartPlace) → ended place ≡ places.Live → ⊥
none_ended places.Dormant is = no is where
  no : places.Dormant ≡ places.Live → ⊥
  no same = cc
none_ended places.Live is = no is where
  no : places.Ended ≡ places.Live → ⊥
  no same = cc
none_ended places.Ended is = no is where
  no : places.Ended ≡ places.Live → ⊥
  no same = cc

-- these workers end, and none of them is live behind it
pub record EndsLed (passes : ℕ → Bool) (first count : ℕ) (p : StartsState) : Type 0 where
  pub last : StartsState
  pub led : Leads p (map (λ (w : ℕ). starts_told w starts.End replied.Done) (filter passes (range_with_len first count))) last
  pub callers : callers_of last ≡ callers_of p
  pub stay : (v : ℕ) → passes v ≡ false → place_of last v ≡ place_of p v
  pub rest : (v : ℕ) → (place_of p v ≡ places.Live → ⊥) → place_of last v ≡ places.Live → ⊥
  pub over : (i : ℕ) → i < count → passes (first + i) ≡ true → place_of last (first + i) ≡ places.Live → ⊥

pub ends_led : (passes : ℕ → Bool) (first count : ℕ) (p : StartsState) → first + count ≤ callers_of p → EndsLed passes first count p
ends_led passes first zero p most = record { last = p; led = nothing_led p; callers = refl; stay = λ v fails. refl; rest = λ v none. none; over = λ i less. absurd (omega arith) }
ends_led passes first (suc count) p most = chosen (passes first) refl (λ q most. ends_led passes (first + 1) count q most) where
  not_both : (b : Bool) → b ≡ true → b ≡ false → ⊥
  not_both true is fails = no fails where
    no : true ≡ false → ⊥
    no same = cc
  not_both false is fails = no is where
    no : false ≡ true → ⊥
    no same = cc

  behind : List ℕ
  behind = filter passes (range_with_len (first + 1) count)

  LedBy : Bool → StartsState → Type 0
  LedBy b last = Leads p (map (λ (w : ℕ). starts_told w starts.End replied.Done) (cond b (first ∷ behind) behind)) last

  chosen : (b : Bool) → passes first ≡ b → ((q : StartsState) → first + 1 + count ≤ callers_of q → EndsLed passes (first + 1) count q) → EndsLed passes first (suc count) p
  chosen false fails each =
      let later = each p (omega arith) in
      record {
        last = later.last;
        led = subst (λ (b : Bool). LedBy b later.last) (sym fails) later.led;
        callers = later.callers;
        stay = later.stay;
        rest = later.rest;
        over = over later;
      }
    where
      over : (later : EndsLed passes (first + 1) count p) (i : ℕ) → i < suc count → passes (first + i) ≡ true → place_of later.last (first + i) ≡ places.Live → ⊥
      over later zero less is live = let same : first + 0 ≡ first = omega arith in not_both (passes first) (ap passes (sym same) ∙ is) fails
      over later (suc i) less is live = let same : first + suc i ≡ first + 1 + i = omega arith in later.over i (omega arith) (ap passes (sym same) ∙ is) (ap (place_of later.last) (sym same) ∙ live)
  chosen true passed each =
      let q : StartsState = with_place p first (ended (place_of p first)) in
      let within : first < callers_of p = omega arith in
      let count_q : callers_of q ≡ callers_of p = length-set p.places first (ended (place_of p first)) in
      let later = each q (subst (λ (n : ℕ). first + 1 + count ≤ n) (sym count_q) (omega arith)) in
      let none_first : place_of q first ≡ places.Live → ⊥ = λ live. none_ended (place_of p first) (sym (place_same p first (ended (place_of p first)) within) ∙ live) in
      record {
        last = later.last;
        led = subst (λ (b : Bool). LedBy b later.last) (sym passed) (joined_led p q later.last (starts_told first starts.End replied.Done ∷ []) (map (λ (w : ℕ). starts_told w starts.End replied.Done) behind) (one_led p q first starts.End replied.Done (by_caller p first starts.End within)) later.led);
        callers = later.callers ∙ count_q;
        stay = λ v fails. later.stay v fails ∙ place_other p first v (ended (place_of p first)) (λ (same : v ≡ first). not_both (passes first) passed (ap passes (sym same) ∙ fails));
        rest = λ v none. later.rest v (kept v none none_first);
        over = over later none_first;
      }
    where
      kept : (v : ℕ) → (place_of p v ≡ places.Live → ⊥) → (place_of (with_place p first (ended (place_of p first))) first ≡ places.Live → ⊥) → place_of (with_place p first (ended (place_of p first))) v ≡ places.Live → ⊥
      kept v none none_first live = elim (eqb_tells v first) [
        | inl same ↦ none_first (ap (place_of (with_place p first (ended (place_of p first)))) (sym same.1) ∙ live)
        | inr apart ↦ none (sym (place_other p first v (ended (place_of p first)) apart.1) ∙ live)
      ]

      over : (later : EndsLed passes (first + 1) count (with_place p first (ended (place_of p first)))) → (place_of (with_place p first (ended (place_of p first))) first ≡ places.Live → ⊥)
          → (i : ℕ) → i < suc count → passes (first + i) ≡ true → place_of later.last (first + i) ≡ places.Live → ⊥
      over later none_first zero less is live = let same : first + 0 ≡ first = omega arith in later.rest first none_first (ap (place_of later.last) (sym same) ∙ live)
      over later none_first (suc i) less is live = let same : first + suc i ≡ first + 1 + i = omega arith in later.over i (omega arith) (ap passes (sym same) ∙ is) (ap (place_of later.last) (sym same) ∙ live)

-- ---- whoever was never started

pub none_live : (all : List StartPlace) → ((v : ℕ) → v < length all → unwrap_or (slice_get all v) places.Ended ≡ places.Live → ⊥) → list_any is_live all ≡ false
none_live [] none = refl
none_live (places.Dormant ∷ all) none = none_live all (λ v less. none (suc v) (omega arith))
none_live (places.Live ∷ all) none = absurd (none zero (omega arith) refl)
none_live (places.Ended ∷ all) none = none_live all (λ v less. none (suc v) (omega arith))

pub leaves_led : (passes : ℕ → Bool) (first count : ℕ) (p : StartsState) → first + count ≤ callers_of p → is_any_live p ≡ false → ((v : ℕ) → v < callers_of p → passes v ≡ true → place_of p v ≡ places.Dormant)
    → Leads p (map (λ (w : ℕ). starts_told w starts.Leave replied.Never) (filter passes (range_with_len first count))) p
leaves_led passes first zero p most nobody dormant = nothing_led p
leaves_led passes first (suc count) p most nobody dormant = chosen (passes first) refl (leaves_led passes (first + 1) count p (omega arith) nobody dormant) where
  behind : List ℕ
  behind = filter passes (range_with_len (first + 1) count)

  LedBy : Bool → Type 0
  LedBy b = Leads p (map (λ (w : ℕ). starts_told w starts.Leave replied.Never) (cond b (first ∷ behind) behind)) p

  never_told : place_of p first ≡ places.Dormant → left_from (place_of p first) p ≡ replied.Never
  never_told is = ap (λ (place : StartPlace). left_from place p) is ∙ ap (λ (b : Bool). if b then replied.Still else replied.Never) nobody

  chosen : (b : Bool) → passes first ≡ b → Leads p (map (λ (w : ℕ). starts_told w starts.Leave replied.Never) behind) p → LedBy (passes first)
  chosen false fails later = subst LedBy (sym fails) later
  chosen true passed later =
      let within : first < callers_of p = omega arith in
      subst LedBy (sym passed) (joined_led p p p (starts_told first starts.Leave replied.Never ∷ []) (map (λ (w : ℕ). starts_told w starts.Leave replied.Never) behind)
      (one_led p p first starts.Leave replied.Never (by_caller p first starts.Leave within ∙ ap (λ (reply : StartReply). let x : StartsState × StartReply = (p, reply) in x) (never_told (dormant first within passed)))) later)
