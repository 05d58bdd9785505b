-- A worker that is live by its own entries is live, and so a start that stands between a worker's going and its end is made by a live one.
use Rattle.std.proofs.Common.{◌≡◌, ◌≢◌, inl, inr, ℕ, ◌==◌, Bool, true, false, List, [], ◌∷◌, ◌++◌, refl, sym, ap, ◌∙◌, subst}
use Rattle.std.specs.Prelude.{nat_lt, if◌then◌else◌}
use Rattle.std.specs.List.{list_any}
use Rattle.std.proofs.lemmas.Bool.Decides.{eqb_tells}
use Rattle.sync_model.specs.Log.{entry, after, Follows}
use Rattle.protocols.specs.Stands.{stand_from}
use Rattle.starts_core.specs.declared.starts.StartEvent.{StartEvent}
use Rattle.starts_core.specs.declared.starts.StartEvent.TheVariants.{Start, End, Leave}
use Rattle.starts_core.specs.declared.starts.StartReply.{StartReply}
use Rattle.starts_core.specs.declared.starts.StartReply.TheVariants.{Done, Go, Never, Still}
use Rattle.starts_core.specs.declared.starts.StartPlace.{StartPlace}
use Rattle.starts_core.specs.declared.starts.StartPlace.TheVariants.{Dormant, Live, Ended}
use Rattle.starts_core.specs.StartsMachine.{StartsState, begun, next, made, callers_of, place_of, is_any_live, left_from, started, ended}
use Rattle.starts_core.specs.StartsStanding.{told, stands_after}
use Rattle.starts_core.specs.StartsLaws.{Log, StartsEntry, IsLog, state_after, leave_by, stands_by, is_going, IsByLive, StartsByLive, StartInTurn}
use Rattle.starts_core.proofs.Standing.{kept_write, other_write}
use Rattle.starts_core.proofs.Starting.{ComesApart, same_if, never-for-good}

goes_place : (p : StartPlace) (s : StartsState) → left_from p s ≡ Go → p ≡ Live
goes_place Live s is = refl
goes_place Dormant s is = by_any (is_any_live s) is where
  by_any : (b : Bool) → ◌≡◌ {A = StartReply} (if b then Still else Never) Go → Dormant ≡ Live
  by_any true is = cc
  by_any false is = cc
goes_place Ended s is = cc

-- one that is told to go, or that was live by its own entries before
told_live : (p : StartPlace) (s : StartsState) (stand : StartPlace) (reply : StartReply) → left_from p s ≡ reply → (stand ≡ Live → p ≡ Live) → told stand reply ≡ Live → p ≡ Live
told_live p s Dormant Go answered before is = goes_place p s answered
told_live p s Dormant Done answered before is = cc
told_live p s Dormant Never answered before is = cc
told_live p s Dormant Still answered before is = cc
told_live p s Live reply answered before is = before refl
told_live p s Ended reply answered before is = cc

still_told : (stand : StartPlace) (reply : StartReply) → Still ≡ reply → told stand reply ≡ Live → stand ≡ Live
still_told Dormant Go answered is = cc
still_told Dormant Done answered is = cc
still_told Dormant Never answered is = cc
still_told Dormant Still answered is = cc
still_told Live reply answered is = refl
still_told Ended reply answered is = cc

-- an event of its own
own_made : (s : StartsState) (w : ℕ) (event : StartEvent) (reply : StartReply) (stand : StartPlace) → (made s w event).1 ≡ reply → (stand ≡ Live → place_of s w ≡ Live) → stands_after stand event reply ≡ Live
    → place_of (made s w event).0 w ≡ Live
own_made s w (Start d) reply stand answered before is = kept_write s d w started Live refl (before is)
own_made s w End reply stand answered before is = cc
own_made s w Leave reply stand answered before is = told_live (place_of s w) s stand reply answered before is

own_unmade : (s : StartsState) (w : ℕ) (event : StartEvent) (reply : StartReply) (stand : StartPlace) → Still ≡ reply → (stand ≡ Live → place_of s w ≡ Live) → stands_after stand event reply ≡ Live → place_of s w ≡ Live
own_unmade s w (Start d) reply stand answered before is = before is
own_unmade s w End reply stand answered before is = cc
own_unmade s w Leave reply stand answered before is = before (still_told stand reply answered is)

own_entry : (b : Bool) (s : StartsState) (w : ℕ) (event : StartEvent) (reply : StartReply) (stand : StartPlace) → (if b then made s w event else (s, Still)).1 ≡ reply → (stand ≡ Live → place_of s w ≡ Live)
    → stands_after stand event reply ≡ Live → place_of (if b then made s w event else (s, Still)).0 w ≡ Live
own_entry true s w event reply stand answered before is = own_made s w event reply stand answered before is
own_entry false s w event reply stand answered before is = own_unmade s w event reply stand answered before is

-- an event of another one
other_made : (s : StartsState) (c w : ℕ) (event : StartEvent) → c ≢ w → place_of s w ≡ Live → place_of (made s c event).0 w ≡ Live
other_made s c w (Start d) apart is = kept_write s d w started Live refl is
other_made s c w End apart is = other_write s c w (ended (place_of s c)) (λ e. apart (sym e)) ∙ is
other_made s c w Leave apart is = is

other_entry : (b : Bool) (s : StartsState) (c w : ℕ) (event : StartEvent) → c ≢ w → place_of s w ≡ Live → place_of (if b then made s c event else (s, Still)).0 w ≡ Live
other_entry true s c w event apart is = other_made s c w event apart is
other_entry false s c w event apart is = is

entry_live : (s : StartsState) (c w : ℕ) (event : StartEvent) (reply : StartReply) (stand : StartPlace) → (next s c event).1 ≡ reply → (stand ≡ Live → place_of s w ≡ Live)
    → (if c == w then stands_after stand event reply else stand) ≡ Live → place_of (next s c event).0 w ≡ Live
entry_live s c w event reply stand answered before is = elim (eqb_tells c w) [
  | inl same ↦ (let e = same.1 in
      subst (λ v. place_of (next s v event).0 w ≡ Live) (sym e) (own_entry (nat_lt w (callers_of s)) s w event reply stand (subst (λ v. (next s v event).1 ≡ reply) e answered) before
      (sym (ap (λ (b : Bool). if b then stands_after stand event reply else stand) same.0) ∙ is)))
  | inr apart ↦ other_entry (nat_lt c (callers_of s)) s c w event apart.1 (before (sym (ap (λ (b : Bool). if b then stands_after stand event reply else stand) apart.0) ∙ is))
]

live_along : (s : StartsState) (w : ℕ) (log : Log) (stand : StartPlace) → Follows next s log → (stand ≡ Live → place_of s w ≡ Live) → stand_from stands_after stand w log ≡ Live → place_of (after next s log) w ≡ Live
live_along s w [] stand follows before is = before is
live_along s w (e ∷ log) stand follows before is =
    live_along (next s e.caller e.event).0 w log (if e.caller == w then stands_after stand e.event e.reply else stand) follows.1 (λ live. entry_live s e.caller w e.event e.reply stand follows.0 before live) is

pub live-by-own : (dormant : List Bool) (log : Log) (w : ℕ) → IsLog dormant log → stands_by dormant w log ≡ Live → place_of (state_after dormant log) w ≡ Live
live-by-own dormant log w follows is = live_along (begun dormant) w log (place_of (begun dormant) w) follows (λ live. live) is

-- ---- the starts of a log that stand in turn

-- a log in two parts leads to where the later one leads from where the earlier one leads to
abbrev pub GoesOn : Type 0
GoesOn = (s : StartsState) (earlier later : Log) → after next s (earlier ++ later) ≡ after next (after next s earlier) later

abbrev pub KnowsLive : Type 0
KnowsLive = (dormant : List Bool) (log : Log) (w : ℕ) → IsLog dormant log → stands_by dormant w log ≡ Live → place_of (state_after dormant log) w ≡ Live

snoc : (before : Log) (e : StartsEntry) (rest : Log) → before ++ e ∷ rest ≡ (before ++ e ∷ []) ++ rest
snoc [] e rest = refl
snoc (x ∷ before) e rest = ap (λ (log : Log). x ∷ log) (snoc before e rest)

module _ (on : GoesOn) (apart : ComesApart) (knows : KnowsLive) (dormant : List Bool) (whole : Log) (follows : IsLog dormant whole) (turn : StartInTurn dormant whole) where
  by_event : (before rest : Log) (e : StartsEntry) (event : StartEvent) → whole ≡ before ++ e ∷ rest → e.event ≡ event → IsByLive (state_after dormant before) e.caller event
  by_event before rest e (Start w) is at =
      knows dormant before e.caller (apart (begun dormant) before (e ∷ rest) (subst (λ (log : Log). Follows next (begun dormant) log) is follows)).0
      (turn before rest e.caller w e.reply (is ∙ ap (λ (event : StartEvent). before ++ entry e.caller event e.reply ∷ rest) at))
  by_event before rest e End is at = tt
  by_event before rest e Leave is at = tt

  by_live_from : (before rest : Log) → whole ≡ before ++ rest → StartsByLive (state_after dormant before) rest
  by_live_from before [] is = tt
  by_live_from before (e ∷ rest) is = (
    by_event before rest e e.event is refl,
    subst (λ (s : StartsState). StartsByLive s rest) (on (begun dormant) before (e ∷ [])) (by_live_from (before ++ e ∷ []) rest (is ∙ snoc before e rest)),
  )

pub starts-by-live : GoesOn → ComesApart → KnowsLive → (dormant : List Bool) (log : Log) → IsLog dormant log → StartInTurn dormant log → StartsByLive (begun dormant) log
starts-by-live on apart knows dormant log follows turn = by_live_from on apart knows dormant log follows turn [] log refl

-- ---- nobody goes behind a `Never`

later_by_live : (s : StartsState) (earlier later : Log) → StartsByLive s (earlier ++ later) → StartsByLive (after next s earlier) later
later_by_live s [] later by = by
later_by_live s (e ∷ earlier) later by = later_by_live (next s e.caller e.event).0 earlier later by.1

pub never-in-turn : ComesApart → ((dormant : List Bool) (log : Log) → IsLog dormant log → StartInTurn dormant log → StartsByLive (begun dormant) log) → (dormant : List Bool) (before rest : Log) (w : ℕ)
    → IsLog dormant (before ++ leave_by w Never ∷ rest) → StartInTurn dormant (before ++ leave_by w Never ∷ rest) → list_any is_going rest ≡ false
never-in-turn apart live dormant before rest w follows turn =
    let s : StartsState = state_after dormant before in
    let by = later_by_live (begun dormant) before (leave_by w Never ∷ rest) (live dormant (before ++ leave_by w Never ∷ rest) follows turn) in
    never-for-good apart dormant before rest w follows (subst (λ (t : StartsState). StartsByLive t rest) (same_if (nat_lt w (callers_of s)) s w) by.1)
