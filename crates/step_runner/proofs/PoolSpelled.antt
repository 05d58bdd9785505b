-- A turn at a pool spells its call: a get is a row of looks.
use Rattle.std.proofs.Common.{◌≡◌, ℕ, zero, suc, ◌+◌, ◌*◌, ◌%◌, ◌<◌, Bool, true, false, List, [], ◌∷◌, ◌++◌, map, length, Option, Some, None, refl, sym, subst, append-nil, arith}
use Rattle.std.specs.Prelude.{Ok, slice_get, option_map, nat_lt, if◌then◌else◌, ◌==◌}
use Rattle.std.specs.List.{range_with_len}
use Rattle.std.proofs.lemmas.Bool.{lt-ltb}
use Rattle.std.proofs.lemmas.Nat.{mod_below}
use Rattle.sync_model.specs.declared.answer.Answer.TheVariants.{Done}
use Rattle.script_calls.specs.declared.call.Reply.{Reply}
use Rattle.script_calls.specs.declared.call.Reply.TheVariants as replies
use Rattle.sync_types.specs.declared.pool_call.PoolCall.{PoolCall}
use Rattle.sync_types.specs.declared.pool_call.PoolCall.TheVariants as pool_calls
use Rattle.sync_types.specs.declared.pool_call.PoolCallReply.TheVariants as pool_replies
use Rattle.pool_core.specs.Looks.{look}
use Rattle.pool_core.specs.PoolParts.{PoolPart, put_in, put_beside, head_of, tail_of, take_own, take_tail, take_victim, private_or}
use Rattle.pool_core.specs.PoolLaws.{answers_put, answers_look}
use Rattle.pool_core.specs.PoolMachine as pool
use Rattle.pool_core.specs.declared.pool_event.PoolEvent.{PoolEvent}
use Rattle.pool_core.specs.declared.pool_event.PoolEvent.TheVariants as pool_events
use Rattle.pool_core.specs.declared.pool_event.PoolReply.{PoolReply}
use Rattle.pool_core.specs.declared.pool_event.PoolReply.TheVariants as reply
use Rattle.protocols.specs.PoolStages.{pool_event, pool_meaning}
use Rattle.protocols.specs.declared.pool.PoolOutcome.{PoolOutcome}
use Rattle.protocols.specs.declared.pool.PoolOutcome.TheVariants.{Kept, Dropped, Item as Taken, Nothing, Swept}
use Rattle.protocols.specs.declared.pool.PoolStage.{PoolStage}
use Rattle.protocols.specs.declared.pool.PoolStage.TheVariants as stage
use Rattle.protocols.specs.declared.step.Step.TheVariants.{Finished}
use Rattle.protocols.specs.Spelling.{CallAnswer}
use Rattle.run_record.specs.Parts.{Part, and_then}
use Rattle.run_record.specs.PoolKind as record_pool
use Rattle.run_record.specs.PoolKind.{pool_part, pool_call}
use Rattle.run_record.specs.Objects.{first_part}
use Rattle.run_record.specs.declared.entered.ObjectEvent.TheVariants as events
use Rattle.run_record.specs.declared.entered.ObjectReply.TheVariants as answered
use Rattle.run_record.specs.declared.made.Made.{Made}
use Rattle.workload.specs.Plan.{Plan}
use Rattle.step_runner.specs.declared.turns.answer.Answer.{Answer}
use Rattle.step_runner.specs.declared.turns.answer.Answer.TheVariants as answers
use Rattle.step_runner.specs.Due.{looks_of}
use Rattle.step_runner.specs.Items.{unless_found, look_items, pool_items}
use Rattle.step_runner.specs.PoolTurn.{found_or, found_by, pool_step, item_of}
use Rattle.step_runner.specs.Stages.{outcome_of}
use Rattle.step_runner.specs.Recorded.{recorded_reply, recorded, recorded_pool_event}
use Rattle.step_runner.specs.Tells.{Tells}
use Rattle.step_runner.proofs.SpellingLaws.{PoolKeeps}
use Rattle.step_runner.proofs.Refuted.{no}
use Rattle.step_runner.proofs.Spelled.{event_made, says}

-- ---- what a part answers

part_there : (parts : List (PoolPart ℕ)) (k : ℕ) → k < length parts → (part : PoolPart ℕ) × (slice_get parts k ≡ Some part)
part_there [] k below = absurd (omega (arith, below))
part_there (part ∷ parts) zero below = (part, refl)
part_there (part ∷ parts) (suc k) below = part_there parts k (omega (arith, below))

put_answers : (private : Option ℕ) (part : PoolPart ℕ) (item : ℕ) → answers_put (put_beside private part item).1 ≡ true
put_answers None part item = refl
put_answers (Some private) part item = by_room (nat_lt (length part.shared) part.room)
  where
    by_room : (b : Bool) → answers_put {X = ℕ} (if◌then◌else◌ {A = PoolPart ℕ × PoolReply ℕ} b (record part { shared = item ∷ part.shared }, reply.Kept) (part, reply.Dropped item)).1 ≡ true
    by_room true = refl
    by_room false = refl

head_answers : (shared : List ℕ) (part : PoolPart ℕ) → answers_look (head_of shared part).1 ≡ true
head_answers [] part = refl
head_answers (item ∷ rest) part = refl

tail_answers : (last : Option ℕ) (part : PoolPart ℕ) → answers_look (tail_of last part).1 ≡ true
tail_answers None part = refl
tail_answers (Some item) part = refl

private_answers : (private : Option ℕ) (other : PoolPart ℕ → PoolPart ℕ × PoolReply ℕ) (part : PoolPart ℕ) → answers_look (other part).1 ≡ true → answers_look (private_or private other part).1 ≡ true
private_answers None other part is = is
private_answers (Some item) other part is = refl

own_answers : (part : PoolPart ℕ) → answers_look (take_own part).1 ≡ true
own_answers part = private_answers part.private (λ p. head_of p.shared p) part (head_answers part.shared part)

victim_answers : (own : Bool) (part : PoolPart ℕ) → answers_look ((if own then take_victim else take_tail) part).1 ≡ true
victim_answers true part = private_answers part.private take_tail part (tail_answers _ part)
victim_answers false part = tail_answers _ part

-- the part that an event names is there
abbrev IsThere : ℕ → PoolEvent ℕ → Type 0
IsThere n (pool_events.Put item) = Unit {0}
IsThere n pool_events.LookOwn = Unit {0}
IsThere n (pool_events.LookOther part) = part < n
IsThere n (pool_events.LookVictim part) = part < n
IsThere n pool_events.Sweep = Unit {0}

abbrev Answers : PoolEvent ℕ → PoolReply ℕ → Type 0
Answers (pool_events.Put item) r = answers_put r ≡ true
Answers pool_events.LookOwn r = answers_look r ≡ true
Answers (pool_events.LookOther part) r = answers_look r ≡ true
Answers (pool_events.LookVictim part) r = answers_look r ≡ true
Answers pool_events.Sweep r = r ≡ reply.Swept

module _ (n x : ℕ) (p : pool.PoolState ℕ) (below : x < n) (primary : length p.primary ≡ n) (victims : length p.victims ≡ n) where
  made_answers : (e : PoolEvent ℕ) → IsThere n e → Answers e (pool.made p x e).1
  made_answers (pool_events.Put item) there =
      let own = part_there p.primary x (omega (arith, below, primary)) in
      subst (λ (o : Option (PoolPart ℕ)). answers_put (pool.with_primary (option_map (λ own. put_in own item) o) p x).1 ≡ true) (sym own.1) (put_answers own.0.private own.0 item)
  made_answers pool_events.LookOwn there =
      let own = part_there p.primary x (omega (arith, below, primary)) in
      subst (λ (o : Option (PoolPart ℕ)). answers_look (pool.with_primary (option_map take_own o) p x).1 ≡ true) (sym own.1) (own_answers own.0)
  made_answers (pool_events.LookOther part) there =
      let own = part_there p.primary part (omega (arith, there, primary)) in
      subst (λ (o : Option (PoolPart ℕ)). answers_look (pool.with_primary (option_map take_tail o) p part).1 ≡ true) (sym own.1) (tail_answers _ own.0)
  made_answers (pool_events.LookVictim part) there =
      let own = part_there p.victims part (omega (arith, there, victims)) in
      subst (λ (o : Option (PoolPart ℕ)). answers_look (pool.with_victims (option_map (if part == x then take_victim else take_tail) o) p part).1 ≡ true) (sym own.1) (victim_answers (part == x) own.0)
  made_answers pool_events.Sweep there = refl

  next_answers : (e : PoolEvent ℕ) → IsThere n e → Answers e (pool.next p x e).1
  next_answers e there =
      let is : nat_lt x (pool.callers_of p) ≡ true = lt-ltb x (pool.callers_of p) (omega (arith, below, primary)) in
      subst (λ (b : Bool). Answers e (if b then pool.made p x e else (p, reply.Still)).1) (sym is) (made_answers e there)

-- ---- a call

module _ (keeps : PoolKeeps) (plan : Plan) (place worker moment : ℕ) (below : worker < plan.workers) where
  abbrev first : ℕ
  first = first_part plan place

  abbrev made_at : ℕ → PoolStage → PoolReply ℕ → Made
  made_at part s r = event_made events.Pool answered.Pool pool_event pool_meaning (first + part) worker (pool_event s moment) r

  said : (part : ℕ) (s : PoolStage) (r : PoolReply ℕ) (outcome : PoolOutcome) → pool_meaning s r ≡ Finished outcome → pool_part (first + part) s (made_at part s r ∷ []) (Done (Ok outcome))
  said part s r outcome is = says events.Pool answered.Pool pool_event pool_meaning (first + part) worker s moment r (Finished outcome) is

  -- the items spell the whole call
  abbrev pub Whole : Part (Reply ℕ) → List Made → Answer → Type 0
  Whole old made (answers.Completed given) = old made (Done (Ok (recorded_reply plan given)))
  Whole old made a = ⊥

  whole_on : (old behind : Part (Reply ℕ)) (first : Made) (made : List Made) (a : Answer) → ((rest : List Made) (given : CallAnswer (Reply ℕ)) → behind rest given → old (first ∷ rest) given) → Whole behind made a → Whole old (first ∷ made) a
  whole_on old behind first made (answers.Completed given) on is = on made _ is
  whole_on old behind first made a on is = absurd is

  abbrev IsLook : PoolEvent ℕ → Type 0
  IsLook (pool_events.Put item) = ⊥
  IsLook pool_events.Sweep = ⊥
  IsLook e = Unit {0}

  -- a look that finds an item ends the get, and another goes on with the next one
  abbrev LookWhole : PoolEvent ℕ → PoolReply ℕ → pool.PoolState ℕ → ℕ → List PoolStage → Part (Reply ℕ) → Type 0
  LookWhole e r q before looks rest =
      let found = item_of (outcome_of (pool_meaning (record_pool.stage_of e) r)) in
      Whole (and_then (pool_part (first + record_pool.part_of worker e) (record_pool.stage_of e)) (record_pool.found_or rest))
      (recorded_pool_event plan place worker (pool_event (record_pool.stage_of e) moment) (answered.Pool r) ++ recorded plan before (unless_found worker moment place (q, found) (look_items worker moment place looks))) (found_or (q, found) (found_by worker moment looks)).1

  abbrev RestWhole : pool.PoolState ℕ → ℕ → List PoolStage → Part (Reply ℕ) → Type 0
  RestWhole q before looks rest = Whole rest (recorded plan before (look_items worker moment place looks q)) (found_by worker moment looks q).1

  goes_behind : (part : ℕ) (s : PoolStage) (r : PoolReply ℕ) (rest : Part (Reply ℕ)) → pool_meaning s r ≡ Finished Nothing → (later : List Made) (given : CallAnswer (Reply ℕ)) → rest later given
      → and_then (pool_part (first + part) s) (record_pool.found_or rest) (made_at part s r ∷ later) given
  goes_behind part s r rest is later given l = (made_at part s r ∷ [], later, Done (Ok Nothing), refl, said part s r Nothing is, l)

  look_whole : (e : PoolEvent ℕ) (r : PoolReply ℕ) (q : pool.PoolState ℕ) (before : ℕ) (looks : List PoolStage) (rest : Part (Reply ℕ)) → IsLook e → answers_look r ≡ true → RestWhole q before looks rest → LookWhole e r q before looks rest
  look_whole (pool_events.Put item) r q before looks rest is answers later = absurd is
  look_whole pool_events.Sweep r q before looks rest is answers later = absurd is
  look_whole pool_events.LookOwn (reply.Item item) q before looks rest is answers later =
      (made_at worker stage.LookOwn (reply.Item item) ∷ [], [], Done (Ok (Taken item)), refl, said worker stage.LookOwn (reply.Item item) (Taken item) refl, (refl, refl))
  look_whole pool_events.LookOwn reply.Nothing q before looks rest is answers later =
      whole_on (and_then (pool_part (first + worker) stage.LookOwn) (record_pool.found_or rest)) rest (made_at worker stage.LookOwn reply.Nothing) _ _ (goes_behind worker stage.LookOwn reply.Nothing rest refl) later
  look_whole pool_events.LookOwn r q before looks rest is answers later = no answers
  look_whole (pool_events.LookOther part) (reply.Item item) q before looks rest is answers later =
      (made_at part (stage.LookOther part) (reply.Item item) ∷ [], [], Done (Ok (Taken item)), refl, said part (stage.LookOther part) (reply.Item item) (Taken item) refl, (refl, refl))
  look_whole (pool_events.LookOther part) reply.Nothing q before looks rest is answers later =
      whole_on (and_then (pool_part (first + part) (stage.LookOther part)) (record_pool.found_or rest)) rest (made_at part (stage.LookOther part) reply.Nothing) _ _ (goes_behind part (stage.LookOther part) reply.Nothing rest refl) later
  look_whole (pool_events.LookOther part) r q before looks rest is answers later = no answers
  look_whole (pool_events.LookVictim part) (reply.Item item) q before looks rest is answers later =
      (made_at part (stage.LookVictim part) (reply.Item item) ∷ [], [], Done (Ok (Taken item)), refl, said part (stage.LookVictim part) (reply.Item item) (Taken item) refl, (refl, refl))
  look_whole (pool_events.LookVictim part) reply.Nothing q before looks rest is answers later =
      whole_on (and_then (pool_part (first + part) (stage.LookVictim part)) (record_pool.found_or rest)) rest (made_at part (stage.LookVictim part) reply.Nothing) _ _ (goes_behind part (stage.LookVictim part) reply.Nothing rest refl) later
  look_whole (pool_events.LookVictim part) r q before looks rest is answers later = no answers

  -- each look of a get is at a part that is there
  looks_there : (k : ℕ) → IsLook (look plan.workers worker k) × IsThere plan.workers (look plan.workers worker k)
  looks_there zero = (tt, tt)
  looks_there (suc k) = by_test (nat_lt (suc k) plan.workers)
    where
      by_test : (b : Bool) → let e = if b then pool_events.LookOther ((worker + suc k) % plan.workers) else pool_events.LookVictim ((worker + suc k) % plan.workers) in IsLook e × IsThere plan.workers e
      by_test true = (tt, mod_below (worker + suc k) plan.workers (omega (arith, below)))
      by_test false = (tt, mod_below (worker + suc k) plan.workers (omega (arith, below)))

  is_event : (e : PoolEvent ℕ) → IsLook e → pool_event (record_pool.stage_of e) moment ≡ e
  is_event (pool_events.Put item) is = refl
  is_event pool_events.LookOwn is = refl
  is_event (pool_events.LookOther part) is = refl
  is_event (pool_events.LookVictim part) is = refl
  is_event pool_events.Sweep is = refl

  look_answers : (e : PoolEvent ℕ) (r : PoolReply ℕ) → IsLook e → Answers e r → answers_look r ≡ true
  look_answers (pool_events.Put item) r is answers = absurd is
  look_answers pool_events.LookOwn r is answers = answers
  look_answers (pool_events.LookOther part) r is answers = answers
  look_answers (pool_events.LookVictim part) r is answers = answers
  look_answers pool_events.Sweep r is answers = absurd is

  get_whole : (numbers : List ℕ) (p : pool.PoolState ℕ) (before : ℕ) → length p.primary ≡ plan.workers → length p.victims ≡ plan.workers
      → RestWhole p before (map (λ number. record_pool.stage_of (look plan.workers worker number)) numbers) (record_pool.found_by worker first (map (look plan.workers worker) numbers))
  get_whole [] p before primary victims = (refl, refl)
  get_whole (k ∷ numbers) p before primary victims =
      let e = look plan.workers worker k in
      let there = looks_there k in
      let x = pool.next p worker (pool_event (record_pool.stage_of e) moment) in
      let kept = keeps p worker plan.workers (pool_event (record_pool.stage_of e) moment) primary victims in
      let is : answers_look x.1 ≡ true = look_answers e x.1 there.0 (subst (λ (d : PoolEvent ℕ). Answers e (pool.next p worker d).1) (sym (is_event e there.0)) (next_answers plan.workers worker p below primary victims e there.1)) in
      look_whole e x.1 x.0 _ (map (λ number. record_pool.stage_of (look plan.workers worker number)) numbers) (record_pool.found_by worker first (map (look plan.workers worker) numbers)) there.0 is (get_whole numbers x.0 _ kept.0 kept.1)

  put_whole : (item : ℕ) (r : PoolReply ℕ) → answers_put r ≡ true → Whole (pool_call plan.workers worker first (pool_calls.Put item)) (made_at worker (stage.Put item) r ∷ []) (answers.Completed (replies.Pool pool_replies.Done))
  put_whole item reply.Kept is = (Done (Ok Kept), said worker (stage.Put item) reply.Kept Kept refl, refl)
  put_whole item (reply.Dropped other) is = (Done (Ok (Dropped other)), said worker (stage.Put item) (reply.Dropped other) (Dropped other) refl, refl)
  put_whole item r is = no is

  sweeps_whole : (parts : List ℕ) → Whole (record_pool.swept_by first parts) (map (λ part. made_at part stage.Sweep reply.Swept) parts) (answers.Completed (replies.Pool pool_replies.Done))
  sweeps_whole [] = (refl, refl)
  sweeps_whole (part ∷ parts) = (made_at part stage.Sweep reply.Swept ∷ [], map (λ part. made_at part stage.Sweep reply.Swept) parts, Done (Ok Swept), refl, said part stage.Sweep reply.Swept Swept refl, sweeps_whole parts)

  sweep_whole : (r : PoolReply ℕ) → r ≡ reply.Swept → Whole (pool_call plan.workers worker first pool_calls.Sweep) (recorded_pool_event plan place worker pool_events.Sweep (answered.Pool r) ++ []) (answers.Completed (replies.Pool pool_replies.Done))
  sweep_whole r is =
      let parts = range_with_len 0 plan.workers in
      let made = map (λ part. made_at part stage.Sweep reply.Swept) parts in
      subst (λ (r : PoolReply ℕ). Whole (record_pool.swept_by first parts) (recorded_pool_event plan place worker pool_events.Sweep (answered.Pool r) ++ []) (answers.Completed (replies.Pool pool_replies.Done))) (sym is)
      (subst (λ (l : List Made). Whole (record_pool.swept_by first parts) l (answers.Completed (replies.Pool pool_replies.Done))) (sym (append-nil made)) (sweeps_whole parts))

  abbrev CallWhole : ℕ → PoolCall → pool.PoolState ℕ → Type 0
  CallWhole before call p = Whole (pool_call plan.workers worker first call) (recorded plan before (pool_items worker moment place call p)) (pool_step worker moment call p).1

  pub pool_whole : (before : ℕ) (call : PoolCall) (p : pool.PoolState ℕ) → length p.primary ≡ plan.workers → length p.victims ≡ plan.workers → CallWhole before call p
  pool_whole before (pool_calls.Put item) p primary victims = put_whole item (pool.next p worker (pool_events.Put item)).1 (next_answers plan.workers worker p below primary victims (pool_events.Put item) tt)
  pool_whole before pool_calls.Sweep p primary victims = sweep_whole (pool.next p worker pool_events.Sweep).1 (next_answers plan.workers worker p below primary victims pool_events.Sweep tt)
  pool_whole before pool_calls.Get p primary victims =
      subst (λ (c : ℕ). RestWhole p before (looks_of c worker 0 (2 * c)) (record_pool.found_by worker first (record_pool.looks_of plan.workers worker))) (sym primary) (get_whole (range_with_len 0 (2 * plan.workers)) p before primary victims)

  -- whatever is left behind
  pub whole_tells : (old new : Part (Reply ℕ)) (made : List Made) (a : Answer) → Whole old made a → Tells plan old new made a
  whole_tells old new made (answers.Completed given) is = is
  whole_tells old new made a is = absurd is
