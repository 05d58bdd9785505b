-- What the calls of a pool have done when they return.
use Rattle.std.proofs.Common.{◌≡◌, ◌≢◌, ◌⊎◌, inl, inr, ℕ, zero, suc, ◌+◌, ◌*◌, ◌%◌, ◌<◌, ◌≤◌, Bool, true, false, List, [], ◌∷◌, ◌++◌, length, Option, Some, None, slice_get, Ok, refl, sym, ap, ◌∙◌, subst, arith, append-nil}
use Rattle.std.specs.Prelude.{nat_lt, if◌then◌else◌}
use Rattle.std.specs.List.{range_with_len}
use Rattle.std.specs.Option.{option_map}
use Rattle.std.proofs.lemmas.List.FromFn.{length-range_with_len, get_or-range_with_len}
use Rattle.std.proofs.lemmas.Option.{none-some, same_Some, slice_get-map, slice_get-get_or}
use Rattle.script_calls.specs.declared.call.Reply.{Reply}
use Rattle.script_calls.specs.declared.call.Reply.TheVariants as replies
use Rattle.sync_types.specs.declared.pool_call.PoolCall.{PoolCall}
use Rattle.sync_types.specs.declared.pool_call.PoolCall.TheVariants as calls
use Rattle.sync_types.specs.declared.pool_call.PoolCallReply.TheVariants as pool_replies
use Rattle.sync_model.specs.declared.answer.Answer.TheVariants.{Done}
use Rattle.sync_model.specs.declared.journal.Deed.{Deed}
use Rattle.sync_model.specs.declared.journal.Deed.TheVariants.{Event}
use Rattle.pool_core.specs.declared.pool_event.PoolEvent.{PoolEvent}
use Rattle.pool_core.specs.declared.pool_event.PoolEvent.TheVariants as on_pool
use Rattle.pool_core.specs.declared.pool_event.PoolReply.{PoolReply}
use Rattle.pool_core.specs.declared.pool_event.PoolReply.TheVariants as pooled
use Rattle.pool_core.specs.Looks.{look}
use Rattle.protocols.specs.declared.pool.PoolOutcome.{PoolOutcome}
use Rattle.protocols.specs.declared.pool.PoolOutcome.TheVariants.{Kept, Dropped, Item, Nothing, Swept}
use Rattle.protocols.specs.declared.pool.PoolStage.{PoolStage}
use Rattle.protocols.specs.declared.pool.PoolStage.TheVariants as stage
use Rattle.protocols.specs.PoolStages as protocol
use Rattle.protocols.specs.PoolStages.{put_meaning, look_meaning, sweep_meaning}
use Rattle.protocols.specs.Spelling.{CallAnswer, Rest, Spells}
use Rattle.run_record.specs.declared.entered.ObjectEvent.TheVariants as event
use Rattle.run_record.specs.declared.entered.ObjectReply.TheVariants as reply
use Rattle.run_record.specs.declared.made.Made.{Made}
use Rattle.run_record.specs.declared.made.Made.TheVariants.{Entered}
use Rattle.run_record.specs.PoolKind.{pool_part, stage_of, found_or, part_of, found_by, looks_of, swept_by, pool_call}
use Rattle.run_record.specs.Record.{ObjectEntry}
use Rattle.run_record.specs.Returns.{IsOnce, Has, PoolReturns}
use Rattle.run_record.proofs.Returning.{read_off, goes_on, one_event}

-- what a part answers where its event comes to this
abbrev Says : PoolOutcome → PoolReply ℕ → Type 0
Says Kept r = r ≡ pooled.Kept
Says (Dropped item) r = r ≡ pooled.Dropped item
Says (Item item) r = r ≡ pooled.Item item
Says Nothing r = r ≡ pooled.Nothing
Says Swept r = r ≡ pooled.Swept

module _ (o : PoolOutcome) (rest : List (Deed (PoolEvent ℕ) (PoolReply ℕ))) (on : PoolStage → Type 0) where
  said : (r : PoolReply ℕ) (other : PoolOutcome) → Says other r → (rest ≡ []) × (let ended : CallAnswer PoolOutcome = Done (Ok o) in ended ≡ Done (Ok other)) → (rest ≡ []) × Says o r
  said r other says goes = let is = goes.1 in let same : other ≡ o = cc in (goes.0, subst (λ x. Says x r) same says)

  put_said : (r : PoolReply ℕ) → Rest (put_meaning r) rest on (Done (Ok o)) → (rest ≡ []) × Says o r
  put_said pooled.Kept goes = said pooled.Kept Kept refl goes
  put_said (pooled.Dropped item) goes = said (pooled.Dropped item) (Dropped item) refl goes
  put_said (pooled.Item item) goes = absurd goes
  put_said pooled.Nothing goes = absurd goes
  put_said pooled.Swept goes = absurd goes
  put_said pooled.Still goes = absurd goes

  look_said : (r : PoolReply ℕ) → Rest (look_meaning r) rest on (Done (Ok o)) → (rest ≡ []) × Says o r
  look_said (pooled.Item item) goes = said (pooled.Item item) (Item item) refl goes
  look_said pooled.Nothing goes = said pooled.Nothing Nothing refl goes
  look_said pooled.Kept goes = absurd goes
  look_said (pooled.Dropped item) goes = absurd goes
  look_said pooled.Swept goes = absurd goes
  look_said pooled.Still goes = absurd goes

  sweep_said : (r : PoolReply ℕ) → Rest (sweep_meaning r) rest on (Done (Ok o)) → (rest ≡ []) × Says o r
  sweep_said pooled.Swept goes = said pooled.Swept Swept refl goes
  sweep_said pooled.Kept goes = absurd goes
  sweep_said (pooled.Dropped item) goes = absurd goes
  sweep_said (pooled.Item item) goes = absurd goes
  sweep_said pooled.Nothing goes = absurd goes
  sweep_said pooled.Still goes = absurd goes

  event_said : (e : PoolEvent ℕ) (r : PoolReply ℕ) → Rest (protocol.pool_meaning (stage_of e) r) rest on (Done (Ok o)) → (rest ≡ []) × Says o r
  event_said (on_pool.Put item) r goes = put_said r goes
  event_said on_pool.LookOwn r goes = look_said r goes
  event_said (on_pool.LookOther part) r goes = look_said r goes
  event_said (on_pool.LookVictim part) r goes = look_said r goes
  event_said on_pool.Sweep r goes = sweep_said r goes

-- an event's stage makes the event
event_is : (e : PoolEvent ℕ) (now : ℕ) → protocol.pool_event (stage_of e) now ≡ e
event_is (on_pool.Put item) now = refl
event_is on_pool.LookOwn now = refl
event_is (on_pool.LookOther part) now = refl
event_is (on_pool.LookVictim part) now = refl
event_is on_pool.Sweep now = refl

-- one event on a part, and what it was answered
one_of_part : (object : ℕ) (e : PoolEvent ℕ) (items : List Made) (o : PoolOutcome) → pool_part object (stage_of e) items (Done (Ok o)) → (r : PoolReply ℕ) × IsOnce object (event.Pool e) (reply.Pool r) items × Says o r
one_of_part object e items o made =
    let one = one_event event.Pool reply.Pool protocol.pool_event protocol.pool_meaning object (stage_of e) items (Ok o) (Says o) (λ r rest goes. event_said o rest _ e r goes) made in
    (one.1, subst (λ x. IsOnce object (event.Pool x) (reply.Pool one.1) items) (event_is e one.0) one.2, one.3)

module _ (worker first : ℕ) where
  -- a look found nothing, or took this item as the last one
  abbrev Empty : PoolEvent ℕ → List Made → Type 0
  Empty e items = Has (first + part_of worker e) (event.Pool e) (reply.Pool pooled.Nothing) items

  pub record TookBy (looks : List (PoolEvent ℕ)) (item : ℕ) (items : List Made) : Type 0 where
    pub k : ℕ
    pub e : PoolEvent ℕ
    pub at : slice_get looks k ≡ Some e
    pub earlier : List Made
    pub last : ObjectEntry
    pub are : items ≡ earlier ++ Entered (first + part_of worker e) last ∷ []
    pub deed : last.deed ≡ Event (event.Pool e) (reply.Pool (pooled.Item item))

  abbrev Found : List (PoolEvent ℕ) → List Made → Reply ℕ → Type 0
  Found looks items answer = ((answer ≡ replies.Pool pool_replies.New) × ((k : ℕ) (e : PoolEvent ℕ) → slice_get looks k ≡ Some e → Empty e items)) ⊎ ((item : ℕ) × (answer ≡ replies.Pool (pool_replies.Put item)) × TookBy looks item items)

  first_empty : (e : PoolEvent ℕ) (earlier later items : List Made) → items ≡ earlier ++ later → IsOnce (first + part_of worker e) (event.Pool e) (reply.Pool pooled.Nothing) earlier → Empty e items
  first_empty e earlier later items are one = record { i = zero; entry = one.entry; at = ap (λ xs. slice_get xs 0) (are ∙ ap (λ xs. xs ++ later) one.are); deed = one.deed }

  later_empty : (e other : PoolEvent ℕ) (r : PoolReply ℕ) (earlier later items : List Made) → items ≡ earlier ++ later → IsOnce (first + part_of worker e) (event.Pool e) (reply.Pool r) earlier → Empty other later → Empty other items
  later_empty e other r earlier later items are one has = record { i = suc has.i; entry = has.entry; at = ap (λ xs. slice_get xs (suc has.i)) (are ∙ ap (λ xs. xs ++ later) one.are) ∙ has.at; deed = has.deed }

  by_rest : (e : PoolEvent ℕ) (looks : List (PoolEvent ℕ)) (earlier later items : List Made) (answer : Reply ℕ) → items ≡ earlier ++ later → IsOnce (first + part_of worker e) (event.Pool e) (reply.Pool pooled.Nothing) earlier → Found looks later answer → Found (e ∷ looks) items answer
  by_rest e looks earlier later items answer are one (inl none) = inl (none.0, each)
    where
      each : (k : ℕ) (other : PoolEvent ℕ) → slice_get (e ∷ looks) k ≡ Some other → Empty other items
      each zero other at = subst (λ x. Empty x items) (same_Some e other at) (first_empty e earlier later items are one)
      each (suc k) other at = later_empty e other pooled.Nothing earlier later items are one (none.1 k other at)
  by_rest e looks earlier later items answer are one (inr (item, is, took)) = inr (
    item,
    is,
    record {
      k = suc took.k;
      e = took.e;
      at = took.at;
      earlier = Entered (first + part_of worker e) one.entry ∷ took.earlier;
      last = took.last;
      are = are ∙ ap (λ xs. xs ++ later) one.are ∙ ap (λ xs. Entered (first + part_of worker e) one.entry ∷ xs) took.are;
      deed = took.deed;
    },
  )

  by_look : (e : PoolEvent ℕ) (looks : List (PoolEvent ℕ)) (earlier later items : List Made) (answer : Reply ℕ) (o : PoolOutcome) (r : PoolReply ℕ) → items ≡ earlier ++ later → IsOnce (first + part_of worker e) (event.Pool e) (reply.Pool r) earlier → Says o r
      → (found_by worker first looks later (Done (Ok answer)) → Found looks later answer) → found_or (found_by worker first looks) o later (Done (Ok answer)) → Found (e ∷ looks) items answer
  by_look e looks earlier later items answer (Item item) r are one says on goes =
      let told = goes.1 in
      let took = subst (λ x. IsOnce (first + part_of worker e) (event.Pool e) (reply.Pool x) earlier) says one in
      inr (item, (cc), record { k = zero; e = e; at = refl; earlier = []; last = took.entry; are = are ∙ ap (λ xs. earlier ++ xs) goes.0 ∙ append-nil earlier ∙ took.are; deed = took.deed })
  by_look e looks earlier later items answer Nothing r are one says on goes =
      by_rest e looks earlier later items answer are (subst (λ x. IsOnce (first + part_of worker e) (event.Pool e) (reply.Pool x) earlier) says one) (on goes)
  by_look e looks earlier later items answer Kept r are one says on goes = absurd goes
  by_look e looks earlier later items answer (Dropped item) r are one says on goes = absurd goes
  by_look e looks earlier later items answer Swept r are one says on goes = absurd goes

  found : (looks : List (PoolEvent ℕ)) (items : List Made) (answer : Reply ℕ) → found_by worker first looks items (Done (Ok answer)) → Found looks items answer
  found [] items answer made = let told = made.1 in inl ((cc), λ k e at. absurd (none-some e at))
  found (e ∷ looks) items answer made =
      let two = goes_on (pool_part (first + part_of worker e) (stage_of e)) (found_or (found_by worker first looks)) items answer made in
      let one = one_of_part (first + part_of worker e) e two.earlier two.outcome two.made in
      by_look e looks two.earlier two.later items answer two.outcome one.0 two.are one.1 one.2 (λ goes. found looks two.later answer goes) two.goes

-- number k of a row
at_range : (n k : ℕ) → k < n → slice_get (range_with_len 0 n) k ≡ Some k
at_range n k below =
    let long = length-range_with_len 0 n in
    let inside : k < length (range_with_len 0 n) = omega arith in
    let same : 0 + k ≡ k = omega arith in
    slice_get-get_or (range_with_len 0 n) k 0 inside ∙ ap Some (get_or-range_with_len 0 n k 0 below ∙ same)

at_looks : (workers worker k : ℕ) → k < 2 * workers → slice_get (looks_of workers worker) k ≡ Some (look workers worker k)
at_looks workers worker k below = slice_get-map (look workers worker) (range_with_len 0 (2 * workers)) k ∙ ap (option_map (look workers worker)) (at_range (2 * workers) k below)

-- what a get's looks leave out: nothing
pub record LooksEverywhere : Type 0 where
  pub own : (callers caller : ℕ) → look callers caller 0 ≡ on_pool.LookOwn
  pub others : (callers caller part : ℕ) → caller < callers → part < callers → part ≢ caller → (k : ℕ) × (k < callers) × (look callers caller k ≡ on_pool.LookOther part)
  pub victims : (callers caller part : ℕ) → caller < callers → part < callers → (k : ℕ) × (callers ≤ k) × (k < 2 * callers) × (look callers caller k ≡ on_pool.LookVictim part)

-- each look is at a part that is there
within : (workers worker k : ℕ) → worker < workers → part_of worker (look workers worker k) < workers
within workers worker zero below = below
within workers worker (suc k) below = by_test (nat_lt (suc k) workers)
  where
    by_test : (b : Bool) → part_of worker (if b then on_pool.LookOther ((worker + suc k) % workers) else on_pool.LookVictim ((worker + suc k) % workers)) < workers
    by_test true = omega arith
    by_test false = omega arith

module _ (workers worker first : ℕ) (inside : worker < workers) (everywhere : LooksEverywhere) where
  by_found : (items : List Made) (answer : Reply ℕ) → Found worker first (looks_of workers worker) items answer → PoolReturns workers worker first calls.Get items answer
  by_found items answer (inl (is, none)) = inl (
    is,
    record {
      own = let zeroth : 0 < 2 * workers = omega arith in none 0 on_pool.LookOwn (at_looks workers worker 0 zeroth);
      others = λ part below other.
          let k = everywhere.others workers worker part inside below other in
          let early = k.1 in
          let there : k.0 < 2 * workers = omega arith in
          none k.0 (on_pool.LookOther part) (at_looks workers worker k.0 there ∙ ap Some k.2);
      victims = λ part below.
          let k = everywhere.victims workers worker part inside below in
          none k.0 (on_pool.LookVictim part) (at_looks workers worker k.0 k.2 ∙ ap Some k.3);
    },
  )
  by_found items answer (inr (item, is, took)) =
      inr (item, is, record { earlier = took.earlier; last = took.last; part = part_of worker took.e; made = took.e; within = is_within took.k took.e took.at; are = took.are; deed = took.deed; own = λ e. ap (part_of worker) e; other = λ named e. ap (part_of worker) e; victim = λ named e. ap (part_of worker) e })
    where
      by_place : (k : ℕ) (e : PoolEvent ℕ) → slice_get (range_with_len 0 (2 * workers)) k ≡ None → slice_get (looks_of workers worker) k ≡ Some e → part_of worker e < workers
      by_place k e none at = absurd (none-some e (sym (ap (option_map (look workers worker)) none) ∙ sym (slice_get-map (look workers worker) (range_with_len 0 (2 * workers)) k) ∙ at))

      by_item : (k : ℕ) (e : PoolEvent ℕ) (o : Option ℕ) → slice_get (range_with_len 0 (2 * workers)) k ≡ o → slice_get (looks_of workers worker) k ≡ Some e → part_of worker e < workers
      by_item k e None none at = by_place k e none at
      by_item k e (Some j) some at =
          subst (λ x. part_of worker x < workers) (same_Some (look workers worker j) e (sym (ap (option_map (look workers worker)) some) ∙ sym (slice_get-map (look workers worker) (range_with_len 0 (2 * workers)) k) ∙ at)) (within workers worker j inside)

      is_within : (k : ℕ) (e : PoolEvent ℕ) → slice_get (looks_of workers worker) k ≡ Some e → part_of worker e < workers
      is_within k e at = by_item k e (slice_get (range_with_len 0 (2 * workers)) k) refl at

-- the parts in a list were swept, one after the other
pub record SweptBy (first : ℕ) (parts : List ℕ) (items : List Made) : Type 0 where
  pub count : length items ≡ length parts
  pub each : (i part : ℕ) → slice_get parts i ≡ Some part → (entry : ObjectEntry) × (slice_get items i ≡ Some (Entered (first + part) entry)) × (entry.deed ≡ Event (event.Pool on_pool.Sweep) (reply.Pool pooled.Swept))

by_sweep : (first : ℕ) (o : PoolOutcome) (items : List Made) → pool_part first stage.Sweep items (Done (Ok o)) → IsOnce first (event.Pool on_pool.Sweep) (reply.Pool pooled.Swept) items
by_sweep first o items made =
    let one = one_event event.Pool reply.Pool protocol.pool_event protocol.pool_meaning first stage.Sweep items (Ok o) (λ r. r ≡ pooled.Swept) (λ r rest goes. swept r rest (λ later. Spells protocol.pool_event protocol.pool_meaning later rest (Done (Ok o))) goes) made in
    subst (λ r. IsOnce first (event.Pool on_pool.Sweep) (reply.Pool r) items) one.3 one.2
  where
    swept : (r : PoolReply ℕ) (rest : List (Deed (PoolEvent ℕ) (PoolReply ℕ))) (on : PoolStage → Type 0) → Rest (sweep_meaning r) rest on (Done (Ok o)) → (rest ≡ []) × (r ≡ pooled.Swept)
    swept pooled.Swept rest on goes = (goes.0, refl)
    swept pooled.Kept rest on goes = absurd goes
    swept (pooled.Dropped item) rest on goes = absurd goes
    swept (pooled.Item item) rest on goes = absurd goes
    swept pooled.Nothing rest on goes = absurd goes
    swept pooled.Still rest on goes = absurd goes

module _ (first : ℕ) where
  one_more : (part : ℕ) (parts : List ℕ) (earlier later items : List Made) → items ≡ earlier ++ later → IsOnce (first + part) (event.Pool on_pool.Sweep) (reply.Pool pooled.Swept) earlier → SweptBy first parts later → SweptBy first (part ∷ parts) items
  one_more part parts earlier later items are one rest = record { count = ap (λ xs. length xs) whole ∙ ap suc rest.count; each = each }
    where
      whole : items ≡ Entered (first + part) one.entry ∷ later
      whole = are ∙ ap (λ xs. xs ++ later) one.are

      each : (i other : ℕ) → slice_get (part ∷ parts) i ≡ Some other → (entry : ObjectEntry) × (slice_get items i ≡ Some (Entered (first + other) entry)) × (entry.deed ≡ Event (event.Pool on_pool.Sweep) (reply.Pool pooled.Swept))
      each zero other at = (one.entry, ap (λ xs. slice_get xs 0) whole ∙ ap (λ p. Some (Entered (first + p) one.entry)) (same_Some part other at), one.deed)
      each (suc i) other at = let there = rest.each i other at in (there.0, ap (λ xs. slice_get xs (suc i)) whole ∙ there.1, there.2)

  swept_all : (parts : List ℕ) (items : List Made) (answer : Reply ℕ) → swept_by first parts items (Done (Ok answer)) → (answer ≡ replies.Pool pool_replies.Done) × SweptBy first parts items
  swept_all [] items answer made = let told = made.1 in ((cc), record { count = ap (λ xs. length xs) made.0; each = λ i part at. absurd (none-some part at) })
  swept_all (part ∷ parts) items answer made =
      let two = goes_on (pool_part (first + part) stage.Sweep) (λ swept. swept_by first parts) items answer made in
      let rest = swept_all parts two.later answer two.goes in
      (rest.0, one_more part parts two.earlier two.later items two.are (by_sweep (first + part) two.outcome two.earlier two.made) rest.1)

-- what a put is answered: kept, or dropped
abbrev IsPut : PoolReply ℕ → Type 0
IsPut r = (r ≡ pooled.Kept) ⊎ ((dropped : ℕ) × (r ≡ pooled.Dropped dropped))

is_put : (o : PoolOutcome) (r : PoolReply ℕ) (rest : List (Deed (PoolEvent ℕ) (PoolReply ℕ))) (on : PoolStage → Type 0) → Rest (put_meaning r) rest on (Done (Ok o)) → (rest ≡ []) × IsPut r
is_put o pooled.Kept rest on goes = (goes.0, inl refl)
is_put o (pooled.Dropped other) rest on goes = (goes.0, inr (other, refl))
is_put o (pooled.Item other) rest on goes = absurd goes
is_put o pooled.Nothing rest on goes = absurd goes
is_put o pooled.Swept rest on goes = absurd goes
is_put o pooled.Still rest on goes = absurd goes

module _ (workers worker first : ℕ) (inside : worker < workers) (everywhere : LooksEverywhere) where
  pub pool_returns : (of : PoolCall) (items : List Made) (answer : Reply ℕ) → pool_call workers worker first of items (Done (Ok answer)) → PoolReturns workers worker first of items answer
  pool_returns (calls.Put item) items answer (given, made, e) =
      let off = read_off (λ (put : PoolOutcome). replies.Pool pool_replies.Done) given answer e in
      let one = one_event event.Pool reply.Pool protocol.pool_event protocol.pool_meaning (first + worker) (stage.Put item) items (Ok off.outcome) IsPut (λ r rest goes. is_put off.outcome r rest _ goes)
      (subst (pool_part (first + worker) (stage.Put item) items) off.is made) in
      (one.1, off.read, one.2, one.3)
  pool_returns calls.Get items answer made = by_found workers worker first inside everywhere items answer (found worker first (looks_of workers worker) items answer made)
  pool_returns calls.Sweep items answer made =
      let swept = swept_all first (range_with_len 0 workers) items answer made in
      (swept.0, record { count = swept.1.count ∙ length-range_with_len 0 workers; each = λ part below. swept.1.each part part (at_range workers part below) })
