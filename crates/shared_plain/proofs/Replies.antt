-- An event that is answered is answered as its call is by the one-thread objects.
use Rattle.std.proofs.Common.{◌≡◌, ℕ, Bool, true, false, cond, List, slice_get, Option, Some, None, refl, sym, ap, ◌∙◌}
use Rattle.std.proofs.lemmas.Option.{get_or_from_slice_get}
use Rattle.sync_types.specs.declared.atomic_object.AtomicCall.{AtomicCall}
use Rattle.sync_types.specs.declared.atomic_object.Number.{Number}
use Rattle.sync_types.specs.declared.atomic_object.Number.TheVariants.{Bool as Truth}
use Rattle.sync_model.specs.declared.item.SharedReply.TheVariants as replies
use Rattle.sync_types.specs.declared.map_object.MapCall.{MapCall}
use Rattle.sync_types.specs.SequentialMap.{map_reply, is_map_entry}
use Rattle.sync_types.specs.SequentialAtomic.{kind_of, is_atomic_call, atomic_reply, is_atomic_entry}
use Rattle.sync_model.specs.SharedHistory.{map_at, number_at, IsReply, is_entry}
use Rattle.shared_plain.specs.declared.event.Event.{Event}
use Rattle.shared_plain.specs.declared.event.Event.TheVariants.{Map, Begin, Next, Atomic}
use Rattle.shared_plain.specs.declared.event.Answered.{Answered}
use Rattle.shared_plain.specs.Slots.{map_of, has_slot, next_pair}
use Rattle.shared_plain.specs.PlainMachine.{Holdings, contents_of, call_of, map_next, cursor_next, atomic_next, next}
use Rattle.shared_plain.proofs.SlotMaps.{answer}
use Rattle.shared_plain.proofs.Steps.{some_is, map_there}

given_is : {A : Type 0} (b : Bool) (x y : A) → cond b (Some x) None ≡ Some y → x ≡ y
given_is true x y e = some_is x y e
given_is false x y e = (cc)

map_answered : (h : Holdings) (m : ℕ) (call : MapCall ℕ) (found : Option (List (Option ℕ))) (answered : Answered) → slice_get h.maps m ≡ found → (map_next h m call found).1 ≡ Some answered
    → answer (replies.Map (map_reply call (map_at (contents_of h) m))) (is_map_entry call (map_at (contents_of h) m)) ≡ answered
map_answered h m call None answered at_m is = (cc)
map_answered h m call (Some slots) answered at_m is =
    ap (λ c. answer (replies.Map (map_reply call c)) (is_map_entry call c)) (map_there h m slots at_m) ∙ given_is (has_slot call slots) (answer (replies.Map (map_reply call (map_of slots))) (is_map_entry call (map_of slots))) answered is

atomic_answered : (h : Holdings) (a : ℕ) (call : AtomicCall) (found : Option Number) (answered : Answered) → slice_get h.numbers a ≡ found → (atomic_next h a call found).1 ≡ Some answered
    → answer (replies.Atomic (atomic_reply call (number_at (contents_of h) a))) (is_atomic_entry call (number_at (contents_of h) a)) ≡ answered
atomic_answered h a call None answered at_a is = (cc)
atomic_answered h a call (Some held) answered at_a is =
    ap (λ n. answer (replies.Atomic (atomic_reply call n)) (is_atomic_entry call n)) (get_or_from_slice_get h.numbers a held (Truth false) at_a)
    ∙ given_is (is_atomic_call (kind_of held) call) (answer (replies.Atomic (atomic_reply call held)) (is_atomic_entry call held)) answered is

begun_answered : (b : Bool) (answered : Answered) → cond b (Some (answer replies.Begun false)) None ≡ Some answered → answer replies.Begun false ≡ answered
begun_answered b answered is = given_is b (answer replies.Begun false) answered is

record Shows (answered : Answered) : Type 0 where
  pair : Option (ℕ × ℕ)
  is : answer (replies.Shown pair) false ≡ answered

shown_answered : (from : ℕ) (found : Option (List (Option ℕ))) (answered : Answered) → cursor_next from found ≡ Some answered → Shows answered
shown_answered from None answered is = (cc)
shown_answered from (Some slots) answered is = record { pair = next_pair from slots; is = some_is (answer (replies.Shown (next_pair from slots)) false) answered is }

reply_of : (a b : Answered) → a ≡ b → b.reply ≡ a.reply
reply_of a b e = ap (λ (x : Answered). x.reply) (sym e)

entry_of : (a b : Answered) → a ≡ b → b.entry ≡ a.entry
entry_of a b e = ap (λ (x : Answered). x.entry) (sym e)

pub replied : (h : Holdings) (caller : ℕ) (event : Event) (answered : Answered) → (next h caller event).1 ≡ Some answered → IsReply (call_of event) answered.reply (contents_of h)
replied h caller (Map m call) answered is = reply_of _ answered (map_answered h m call (slice_get h.maps m) answered refl is)
replied h caller (Begin m) answered is = reply_of _ answered (begun_answered _ answered is)
replied h caller (Next m begin from) answered is = let shown = shown_answered from (slice_get h.maps m) answered is in (shown.pair, reply_of (answer (replies.Shown shown.pair) false) answered shown.is)
replied h caller (Atomic a call) answered is = reply_of _ answered (atomic_answered h a call (slice_get h.numbers a) answered refl is)

pub entered_is : (h : Holdings) (caller : ℕ) (event : Event) (answered : Answered) → (next h caller event).1 ≡ Some answered → answered.entry ≡ is_entry (call_of event) (contents_of h)
entered_is h caller (Map m call) answered is = entry_of _ answered (map_answered h m call (slice_get h.maps m) answered refl is)
entered_is h caller (Begin m) answered is = entry_of _ answered (begun_answered _ answered is)
entered_is h caller (Next m begin from) answered is = let shown = shown_answered from (slice_get h.maps m) answered is in entry_of (answer (replies.Shown shown.pair) false) answered shown.is
entered_is h caller (Atomic a call) answered is = entry_of _ answered (atomic_answered h a call (slice_get h.numbers a) answered refl is)
