-- Each item of a record that explains a run has a line.
use Rattle.std.proofs.Common.{◌≡◌, ◌≢◌, ℕ, zero, suc, ◌+◌, ◌<◌, true, ◌&&◌, List, [], ◌∷◌, length, get_or, slice_get, Option, Some, None, refl, ap, subst}
use Rattle.std.specs.Prelude.{nat_lt}
use Rattle.std.specs.Option.{option_map}
use Rattle.std.proofs.lemmas.Bool.{lt-ltb}
use Rattle.std.specs.Ordering.{nat_cmp}
use Rattle.std.specs.FinMap.{FinMap}
use Rattle.std.proofs.lemmas.Option.{none-some, slice_get_within}
use Rattle.script_calls.specs.declared.outcome.Outcome.{Outcome}
use Rattle.sync_types.specs.declared.map_object.MapCall.{MapCall}
use Rattle.sync_types.specs.declared.map_object.MapCall.TheVariants as maps
use Rattle.sync_types.specs.SequentialMap.{map_after, map_key, map_reply}
use Rattle.sync_model.specs.declared.item.Item.{Item}
use Rattle.sync_model.specs.declared.item.SharedCall.{SharedCall}
use Rattle.sync_model.specs.declared.item.SharedCall.TheVariants as calls
use Rattle.sync_model.specs.declared.item.SharedReply.{SharedReply}
use Rattle.sync_model.specs.declared.item.SharedReply.TheVariants as replies
use Rattle.sync_model.specs.declared.item.SharedEntry.{SharedEntry}
use Rattle.sync_model.specs.SharedCalls.{Lawful}
use Rattle.sync_model.specs.SharedHistory.{Contents}
use Rattle.mutex_core.specs.declared.event.MutexEvent.{MutexEvent}
use Rattle.mutex_core.specs.MutexMachine as mutex
use Rattle.workload.specs.declared.object.ObjectKind.TheVariants as object_kinds
use Rattle.workload.specs.declared.object.ObjectLine.{ObjectLine}
use Rattle.workload.specs.Keys.{keys_in}
use Rattle.workload.specs.Plan.{Plan}
use Rattle.workload.specs.Readable.{IsReadable}
use Rattle.run_record.specs.declared.made.Made.{Made}
use Rattle.run_record.specs.declared.made.Made.TheVariants.{Entered, Shared}
use Rattle.run_record.specs.Explains.{Explains}
use Rattle.run_record.specs.Objects.{contents_of, first_part}
use Rattle.run_record.specs.Record.{Record, calls_of, list_of, shared_in}
use Rattle.record_text.specs.declared.directory.Named.{Named}
use Rattle.record_text.specs.declared.item_line.ItemLine.{ItemLine}
use Rattle.record_text.specs.declared.item_line.Said.{Said}
use Rattle.record_text.specs.declared.item_line.Said.TheVariants as said
use Rattle.record_text.specs.ItemLines.{is_index, is_item, is_named, is_said, is_shown}
use Rattle.record_text.specs.Journals.{named_in}
use Rattle.record_text.specs.LawfulItems.{has_numbers, IsNumbered}
use Rattle.record_text.specs.Numbers.{has_64_bits, is_front}
use Rattle.record_text.specs.Written.{front_in, item_line, made_said, shared_said}
use Rattle.record_text.proofs.Decimals.{both, pair}
use Rattle.record_text.proofs.EntryLines.{entry_line}
use Rattle.record_text.proofs.KeptRecords.{kept_deed}
use Rattle.record_text.proofs.KeysShown.{shown_below}
use Rattle.record_text.proofs.MeantItems.{IsMeantItem, IsReplyTo, KeyBelow}
use Rattle.record_text.proofs.OwnWords.{own_word}
use Rattle.record_text.proofs.WorkerItems.{KeysAreNumbered, each_item}

-- the calls on maps and atomics in a list, by their places in the list and among themselves
shared_place : (list : List Made) (j : ℕ) (x : Item) → slice_get (shared_in list) j ≡ Some x → (place : ℕ) × (slice_get list place ≡ Some (Shared x))
shared_place [] j x at = absurd cc
shared_place (Shared y ∷ list) zero x at = (0, ap (λ (o : Option Item). option_map (λ (i : Item). Shared i) o) at)
shared_place (Shared y ∷ list) (suc j) x at = let rest = shared_place list j x at in (suc rest.0, rest.1)
shared_place (Entered object entry ∷ list) j x at = let rest = shared_place list j x at in (suc rest.0, rest.1)

item_in : Option Made → Option Item
item_in None = None
item_in (Some (Shared x)) = Some x
item_in (Some (Entered object entry)) = None

shared_number : (list : List Made) (place : ℕ) (x : Item) → slice_get list place ≡ Some (Shared x) → (j : ℕ) × (slice_get (shared_in list) j ≡ Some x)
unfolding item_in
shared_number [] place x at = absurd (none-some (Shared x) at)
shared_number (Shared y ∷ list) zero x at = (0, ap item_in at)
shared_number (Entered object entry ∷ list) zero x at = absurd (none-some x (ap item_in at))
shared_number (Shared y ∷ list) (suc place) x at = let rest = shared_number list place x at in (suc rest.0, rest.1)
shared_number (Entered object entry ∷ list) (suc place) x at = shared_number list place x at

-- what is said of an item is in range
abbrev SaidLine : Plan → ℕ → Made → Type 0
SaidLine plan number item = (s : Said) × (made_said number item ≡ Some s) × (has_numbers s ≡ true → is_said plan s ≡ true)

-- what a cursor shows, of a key that there is
shown_fits : (plan : Plan) (place : ℕ) (shown : Option (ℕ × ℕ)) → ((pair : ℕ × ℕ) → shown ≡ Some pair → pair.0 < length (keys_in plan.scripts)) → has_numbers (said.Next place shown) ≡ true → is_said plan (said.Next place shown) ≡ true
shown_fits plan place None keys h = h
shown_fits plan place (Some p) keys h =
    let parts = both (has_64_bits place) (has_64_bits p.1) h in
    pair (has_64_bits place) (is_shown (keys_in plan.scripts) (Some p)) parts.0 (pair (nat_lt p.0 (length (keys_in plan.scripts))) (has_64_bits p.1) (lt-ltb p.0 (length (keys_in plan.scripts)) (keys p refl)) parts.1)

shared_line : (plan : Plan) (place : ℕ) (call : SharedCall) (reply : SharedReply) → IsReplyTo call reply → ((shown : ℕ × ℕ) → reply ≡ replies.Shown (Some shown) → shown.0 < length (keys_in plan.scripts)) → (s : Said) × (shared_said place call reply ≡ Some s) × (has_numbers s ≡ true → is_said plan s ≡ true)
shared_line plan place (calls.Map m call) (replies.Map reply) is keys = (_, refl, λ h. h)
shared_line plan place (calls.Atomic a call) (replies.Atomic reply) is keys = (_, refl, λ h. h)
shared_line plan place (calls.Begin m) replies.Begun is keys = (_, refl, λ h. h)
shared_line plan place (calls.Next begin) (replies.Shown shown) is keys = (_, refl, shown_fits plan place shown (λ p is. keys p (ap (λ (o : Option (ℕ × ℕ)). replies.Shown o) is)))
shared_line plan place call reply is keys = absurd is

module _ (plan : Plan) (outcome : Outcome) (r : Record) (readable : IsReadable plan) (explains : Explains plan outcome r)
    (begins : (callers : ℕ) → mutex.IsValid (mutex.start callers)) (goes_on : (s : mutex.State) (caller : ℕ) (e : MutexEvent) → mutex.IsValid s → mutex.IsValid (mutex.next s caller e).0)
    (same_callers : (s : mutex.State) (caller : ℕ) (e : MutexEvent) → (mutex.next s caller e).0.callers ≡ s.callers) (same_keys : KeysAreNumbered)
    (leaves : (m : FinMap nat_cmp ℕ) (call : MapCall ℕ) (key other : ℕ) → map_key call ≡ Some key → other ≢ key → map_reply (maps.Load other) (map_after call m) ≡ map_reply (maps.Load other) m) (clears : (call : MapCall ℕ) → map_key call ≡ None → call ≡ maps.Clear)
    (is_call : (start : Contents) (history : List SharedEntry) (lists : ℕ → List Item) (n : ℕ) (entry : SharedEntry) → Lawful start history lists → slice_get history n ≡ Some entry
    → (j : ℕ) × (x : Item) × (slice_get (lists entry.caller) j ≡ Some x) × (x.entry ≡ true) × (x.place ≡ n) × (x.call ≡ entry.call) × (x.reply ≡ entry.reply))
    (apart : (place other part another : ℕ) (object one : ObjectLine) → slice_get plan.objects place ≡ Some object → object.kind ≡ object_kinds.Pool → part < plan.workers → slice_get plan.objects other ≡ Some one → one.kind ≡ object_kinds.Pool → another < plan.workers
    → first_part plan place + part ≡ first_part plan other + another → (place ≡ other) × (part ≡ another)) where
  own_words : (object : ℕ) (named : Named) → slice_get (named_in plan) object ≡ Some named → is_named plan object ≡ true
  own_words object named at = own_word plan readable.few_workers readable.objects object (slice_get_within (named_in plan) object named at)

  abbrev count : ℕ
  count = length (keys_in plan.scripts)

  meant_at : (worker place : ℕ) (item : Made) → slice_get (list_of r worker) place ≡ Some item → (worker < plan.workers) × IsMeantItem plan.workers count item
  meant_at worker place item at = each_item plan r outcome explains.lines worker place item same_keys readable.valid explains.are at

  -- an entry of the history is by a key that there is
  entry_below : (n : ℕ) (entry : SharedEntry) → slice_get r.history n ≡ Some entry → KeyBelow count entry.call
  entry_below n entry at =
      let it = is_call (contents_of plan) r.history (calls_of r) n entry explains.lawful.shared at in
      let placed = shared_place (list_of r entry.caller) it.0 it.1 it.2 in
      subst (KeyBelow count) it.5 (meant_at entry.caller placed.0 (Shared it.1) placed.1).1.1

  -- and so is what a cursor shows
  shown_there : (worker place begin : ℕ) (x : Item) (shown : ℕ × ℕ) → slice_get (list_of r worker) place ≡ Some (Shared x) → x.call ≡ calls.Next begin → x.reply ≡ replies.Shown (Some shown) → shown.0 < count
  shown_there worker place begin x shown at call reply =
      let number = shared_number (list_of r worker) place x at in
      shown_below count leaves clears plan r.history (calls_of r) explains.lawful.shared entry_below worker number.0 begin x shown number.1 call reply

  -- a reply that shows a pair is that of a cursor's step
  by_call : (worker place : ℕ) (x : Item) (shown : ℕ × ℕ) (call : SharedCall) → x.call ≡ call → slice_get (list_of r worker) place ≡ Some (Shared x) → IsReplyTo call x.reply → x.reply ≡ replies.Shown (Some shown) → shown.0 < count
  by_call worker place x shown (calls.Next begin) is at meant reply = shown_there worker place begin x shown at is reply
  by_call worker place x shown (calls.Map m call) is at meant reply = absurd (subst (λ (y : SharedReply). IsReplyTo (calls.Map m call) y) reply meant)
  by_call worker place x shown (calls.Atomic a call) is at meant reply = absurd (subst (λ (y : SharedReply). IsReplyTo (calls.Atomic a call) y) reply meant)
  by_call worker place x shown (calls.Begin m) is at meant reply = absurd (subst (λ (y : SharedReply). IsReplyTo (calls.Begin m) y) reply meant)

  made_line : (worker place number : ℕ) (item : Made) → slice_get (list_of r worker) place ≡ Some item → IsMeantItem plan.workers count item → IsNumbered r number item → SaidLine plan number item
  made_line worker place number (Shared x) at meant numbered = shared_line plan x.place x.call x.reply meant.0 (λ shown reply. by_call worker place x shown x.call refl at meant.0 reply)
  made_line worker place number (Entered object entry) at meant numbered = entry_line plan begins goes_on same_callers r explains.lawful own_words object number entry numbered meant (kept_deed plan outcome r readable.valid explains same_keys apart object number entry numbered meant)

  pub line_of : (worker place number : ℕ) (index : Option ℕ) (item : Made) → slice_get (list_of r worker) place ≡ Some item → IsNumbered r number item → is_index (length (get_or plan.scripts worker [])) index ≡ true → is_front plan.workers (front_in item) ≡ true
      → (line : ItemLine) × (item_line worker index number item ≡ Some line) × (has_numbers line.said ≡ true → is_item plan line ≡ true)
  line_of worker place number index item at numbered placed front =
      let (below, meant) = meant_at worker place item at in
      let (s, is, fits) = made_line worker place number item at meant numbered in (
        record { worker = worker; index = index; front = front_in item; said = s },
        ap (option_map (λ (s : Said). record { worker = worker; index = index; front = front_in item; said = s })) is,
        λ h. pair (nat_lt worker plan.workers && is_index (length (get_or plan.scripts worker [])) index) (is_front plan.workers (front_in item) && is_said plan s)
            (pair (nat_lt worker plan.workers) (is_index (length (get_or plan.scripts worker [])) index) (lt-ltb worker plan.workers below) placed)
            (pair (is_front plan.workers (front_in item)) (is_said plan s) front (fits h)),
      )
