-- A part's log is that of a pool of two callers, of which the first has the part: so what holds of a pool's logs holds of a part's.
use Rattle.std.proofs.Common.{◌≡◌, ℕ, zero, suc, ◌+◌, ◌==◌, Bool, true, false, cond, [], ◌∷◌, map, take, Option, Some, count_by, refl, sym, ap, ◌∙◌, subst, arith}
use Rattle.std.specs.List.{fold, slice_get}
use Rattle.std.specs.Option.{option_map}
use Rattle.std.proofs.lemmas.List.{take-map}
use Rattle.sync_model.specs.Log.{entry, after, Follows}
use Rattle.pool_core.specs.declared.pool_event.PoolEvent.{PoolEvent}
use Rattle.pool_core.specs.declared.pool_event.PoolEvent.TheVariants.{Put, LookOwn, LookOther, LookVictim, Sweep}
use Rattle.pool_core.specs.declared.pool_event.PoolReply.{PoolReply}
use Rattle.pool_core.specs.declared.pool_event.PoolReply.TheVariants.{Kept, Dropped}
use Rattle.pool_core.specs.PoolParts.{PoolPart, empty, take_victim, take_tail, head_of}
use Rattle.pool_core.specs.PoolMachine.{PoolState, next}
use Rattle.pool_core.specs.PartMachine.{PartState, part_start, part_next, in_victims}
use Rattle.pool_core.specs.PartLaws.{IsPartLog, part_after}
use Rattle.pool_core.specs.PoolLaws.{PoolEntry, Log, kept_by, is_sweep, put_at, got_at, ComeFrom, is_full, answers}
use Rattle.pool_core.proofs.PoolAnswers.{put_answer, private_answer, head_answer, take_tail_answer, victim_answer}
use Rattle.pool_core.proofs.PoolOrigins.{gives_each_once}
use Rattle.pool_core.proofs.PoolRoom.{drops_where_full}

module _ {X : Type 0} where
  -- the part is the first of two, of which the other has no items
  abbrev as_pool : ℕ → PartState X → PoolState X
  as_pool room s = record { primary = s.primary ∷ (empty room ∷ []); victims = s.victims ∷ (empty room ∷ []) }

  -- an event is made there by the first caller, but for a look at another's victims
  abbrev seat_of : ℕ → PoolEvent X → ℕ
  seat_of caller (Put item) = 0
  seat_of caller LookOwn = 0
  seat_of caller (LookOther part) = 0
  seat_of caller (LookVictim part) = cond (part == caller) 0 1
  seat_of caller Sweep = 0

  abbrev aimed : PoolEvent X → PoolEvent X
  aimed (Put item) = Put item
  aimed LookOwn = LookOwn
  aimed (LookOther part) = LookOther 0
  aimed (LookVictim part) = LookVictim 0
  aimed Sweep = Sweep

  abbrev as_made : PoolEntry X → PoolEntry X
  as_made e = entry (seat_of e.caller e.event) (aimed e.event) e.reply

  -- a step of the part as one of the pool
  abbrev Both : ℕ → PartState X × PoolReply X → PoolState X × PoolReply X
  Both room made = (as_pool room made.0, made.1)

  victim_step : (room : ℕ) (s : PartState X) (own : Bool) → next (as_pool room s) (cond own 0 1) (LookVictim 0) ≡ Both room (in_victims ((cond {A = PoolPart X → PoolPart X × PoolReply X} own take_victim take_tail) s.victims) s)
  victim_step room s true = refl
  victim_step room s false = refl

  part_step : (room : ℕ) (s : PartState X) (caller : ℕ) (event : PoolEvent X) → next (as_pool room s) (seat_of caller event) (aimed event) ≡ Both room (part_next s caller event)
  part_step room s caller (Put item) = refl
  part_step room s caller LookOwn = refl
  part_step room s caller (LookOther part) = refl
  part_step room s caller (LookVictim part) = victim_step room s (part == caller)
  part_step room s caller Sweep = refl

  part_log : (room : ℕ) (s : PartState X) (log : Log X) → Follows part_next s log → Follows next (as_pool room s) (map as_made log)
  part_log room s [] follows = tt
  part_log room s (e ∷ log) follows =
      let step = part_step room s e.caller e.event in (
        ap (λ (z : PoolState X × PoolReply X). z.1) step ∙ follows.0,
        subst (λ (p : PoolState X). Follows next p (map as_made log)) (sym (ap (λ (z : PoolState X × PoolReply X). z.0) step)) (part_log room (part_next s e.caller e.event).0 log follows.1),
      )

  state_as : (room : ℕ) (s : PartState X) (log : Log X) → after next (as_pool room s) (map as_made log) ≡ as_pool room (after part_next s log)
  state_as room s [] = refl
  state_as room s (e ∷ log) =
      ap (λ (z : PoolState X × PoolReply X). after next z.0 (map as_made log)) (part_step room s e.caller e.event) ∙ state_as room (part_next s e.caller e.event).0 log

  -- it keeps what was put and taken, at the same places
  kept_as : (event : PoolEvent X) (caller : ℕ) (reply : PoolReply X) → kept_by (as_made (entry caller event reply)) ≡ kept_by (entry caller event reply)
  kept_as (Put item) caller reply = refl
  kept_as LookOwn caller reply = refl
  kept_as (LookOther part) caller reply = refl
  kept_as (LookVictim part) caller reply = refl
  kept_as Sweep caller reply = refl

  sweeps_from : (sum : ℕ → PoolEntry X → ℕ) → ((n : ℕ) (e : PoolEntry X) → sum n (as_made e) ≡ sum n e) → (n : ℕ) (log : Log X) → fold sum n (map as_made log) ≡ fold sum n log
  sweeps_from sum same n [] = refl
  sweeps_from sum same n (e ∷ log) = sweeps_from sum same (sum n (as_made e)) log ∙ ap (λ (m : ℕ). fold sum m log) (same n e)

  sweeps_as : (log : Log X) → count_by is_sweep (map as_made log) ≡ count_by is_sweep log
  sweeps_as log = sweeps_from (λ n e. n + cond (is_sweep e) 1 0) (λ n e. refl) 0 log

  put_as : (log : Log X) (place : ℕ) → put_at (map as_made log) place ≡ put_at log place
  put_as [] place = refl
  put_as (e ∷ log) zero =
      ap (λ (n : ℕ). option_map (λ (item : X). (item, n)) (kept_by (as_made e))) (sweeps_as log)
      ∙ ap (λ (o : Option X). option_map (λ (item : X). (item, count_by is_sweep log)) o) (kept_as e.event e.caller e.reply)
  put_as (e ∷ log) (suc place) = put_as log place

  got_as : (log : Log X) (place : ℕ) → got_at (map as_made log) place ≡ got_at log place
  got_as [] place = refl
  got_as (e ∷ log) zero = refl
  got_as (e ∷ log) (suc place) = got_as log place

  pub part_answers : (s : PartState X) (caller : ℕ) (event : PoolEvent X) → answers event (part_next s caller event).1 ≡ true
  part_answers s caller (Put item) = put_answer s.primary.private s.primary item
  part_answers s caller LookOwn = private_answer s.primary.private (λ q. head_of q.shared q) s.primary (head_answer s.primary.shared s.primary)
  part_answers s caller (LookOther part) = take_tail_answer s.primary
  part_answers s caller (LookVictim part) = victim_answer (part == caller) s.victims
  part_answers s caller Sweep = refl

pub part_gives_each_once : (room : ℕ) (log : Log ℕ) → IsPartLog room log → (origin : ℕ → ℕ) × ComeFrom log origin
part_gives_each_once room log follows =
    let as_log : Log ℕ = map as_made log in
    let given = gives_each_once 2 room as_log (part_log room (part_start room) log follows) in (
      given.0,
      record {
        earlier = λ look item got.
            let before = given.1.earlier look item (got_as log look ∙ got) in
            (before.0, sym (put_as (take look log) (given.0 look)) ∙ ap (λ (l : Log ℕ). put_at l (given.0 look)) (sym (take-map as_made look log)) ∙ before.1, before.2);
        once = λ look other item another got too same. given.1.once look other item another (got_as log look ∙ got) (got_as log other ∙ too) same;
      },
    )

pub part_drops : (room : ℕ) (before : Log ℕ) (caller item : ℕ) (reply : PoolReply ℕ) → reply ≡ (part_next (part_after room before) caller (Put item)).1
    → reply ≡ cond (is_full room (part_after room before).primary) (Dropped item) Kept
part_drops room before caller item reply answered =
    let s : PartState ℕ = part_after room before in
    let whole = state_as room (part_start room) before in
    let step = ap (λ (p : PoolState ℕ). (next p 0 (Put item)).1) whole ∙ ap (λ (z : PoolState ℕ × PoolReply ℕ). z.1) (part_step room s caller (Put item)) in
    let found = drops_where_full 2 room (map as_made before) 0 item reply (omega arith) (answered ∙ sym step) in
    let same : Some found.0 ≡ Some s.primary = sym found.1 ∙ ap (λ (p : PoolState ℕ). slice_get p.primary 0) whole in
    let own : found.0 ≡ s.primary = cc in
    found.2 ∙ ap (λ (p : PoolPart ℕ). cond (is_full room p) (Dropped item) Kept) own
