-- No part of a pool drops an item: it has room for all that the scripts put.
use Rattle.std.proofs.Common.{◌≡◌, ℕ, zero, suc, ◌+◌, ◌-◌, ◌<◌, ◌≤◌, Bool, true, false, cond, List, [], ◌∷◌, map, length, take, slice_get, Option, Some, None, refl, ap, ◌∙◌, subst, arith}
use Rattle.std.specs.Prelude.{nat_lt, ◌==◌, if◌then◌else◌}
use Rattle.std.proofs.lemmas.Bool.{eq-eqb, eqb-false, ltb-false}
use Rattle.sync_types.specs.declared.misuse.Misuse.{Misuse}
use Rattle.sync_model.specs.declared.journal.Deed.{Deed}
use Rattle.sync_model.specs.declared.journal.Deed.TheVariants.{Event, Refused, Halt}
use Rattle.sync_model.specs.declared.journal.Entry.{Entry}
use Rattle.sync_model.specs.Journal.{Follows, Right, by, halt_next, state_next}
use Rattle.pool_core.specs.declared.pool_event.PoolEvent.{PoolEvent}
use Rattle.pool_core.specs.declared.pool_event.PoolEvent.TheVariants as pool_events
use Rattle.pool_core.specs.declared.pool_event.PoolReply.{PoolReply}
use Rattle.pool_core.specs.declared.pool_event.PoolReply.TheVariants as pool_replies
use Rattle.pool_core.specs.PartMachine.{PartState, part_next, part_start}
use Rattle.pool_core.specs.PoolParts.{PoolPart, head_of, private_or, put_beside, tail_of, take_tail, take_victim}
use Rattle.run_record.specs.declared.entered.ObjectEvent.{ObjectEvent}
use Rattle.run_record.specs.declared.entered.ObjectEvent.TheVariants as object_events
use Rattle.run_record.specs.declared.entered.ObjectReply.{ObjectReply}
use Rattle.run_record.specs.declared.entered.ObjectReply.TheVariants as object_replies
use Rattle.run_record.specs.Parts.{lifted, lifted_deed}
use Rattle.run_record.specs.Record.{ObjectEntry}

-- ---- what a part holds

abbrev held : Option ℕ → ℕ
held None = 0
held (Some item) = 1

abbrev items_in : PoolPart ℕ → ℕ
items_in part = held part.private + length part.shared

abbrev puts_by : PoolEvent ℕ → ℕ
puts_by (pool_events.Put item) = 1
puts_by event = 0

-- both generations have this room, and the primary one holds at most so many items
record HasRoom (room n : ℕ) (s : PartState ℕ) : Type 0 where
  primary : s.primary.room ≡ room
  victims : s.victims.room ≡ room
  few : items_in s.primary ≤ n

take_le : (k : ℕ) (xs : List ℕ) → length (take k xs) ≤ length xs
take_le zero xs = omega arith
take_le (suc k) [] = omega arith
take_le (suc k) (x ∷ xs) = let rest = take_le k xs in omega (arith, rest)

-- a part of the same room, with at most so many items
abbrev Within : ℕ → ℕ → PoolPart ℕ → Type 0
Within room n part = (part.room ≡ room) × (items_in part ≤ n)

put_within : (private : Option ℕ) (part : PoolPart ℕ) (item : ℕ) → part.private ≡ private → Within part.room (items_in part + 1) (put_beside private part item).0
put_within None part item is = (refl, (let none = ap held is in omega (arith, none)))
put_within (Some p) part item is = chosen (nat_lt (length part.shared) part.room) where
  chosen : (b : Bool) → Within part.room (items_in part + 1) (if◌then◌else◌ {A = PoolPart ℕ × PoolReply ℕ} b (record part { shared = item ∷ part.shared }, pool_replies.Kept) (part, pool_replies.Dropped item)).0
  chosen true = (refl, omega arith)
  chosen false = (refl, omega arith)

head_within : (shared : List ℕ) (part : PoolPart ℕ) → part.shared ≡ shared → Within part.room (items_in part) (head_of shared part).0
head_within [] part is = (refl, omega arith)
head_within (item ∷ rest) part is = (refl, (let long = ap length is in omega (arith, long)))

tail_within : (last : Option ℕ) (part : PoolPart ℕ) → Within part.room (items_in part) (tail_of last part).0
tail_within None part = (refl, omega arith)
tail_within (Some item) part = (refl, (let low = take_le (length part.shared - 1) part.shared in omega (arith, low)))

own_within : (private : Option ℕ) (part : PoolPart ℕ) → part.private ≡ private → Within part.room (items_in part) (private_or private (λ p. head_of p.shared p) part).0
own_within None part is = head_within part.shared part refl
own_within (Some item) part is = (refl, omega arith)

victim_room : (private : Option ℕ) (part : PoolPart ℕ) → (private_or private take_tail part).0.room ≡ part.room
victim_room None part = (tail_within (slice_get part.shared (length part.shared - 1)) part).0
victim_room (Some item) part = refl

step : (room n : ℕ) (s : PartState ℕ) (caller : ℕ) (event : PoolEvent ℕ) → HasRoom room n s → HasRoom room (n + puts_by event) (part_next s caller event).0
step room n s caller (pool_events.Put item) has =
    let put = put_within s.primary.private s.primary item refl in
    record { primary = put.0 ∙ has.primary; victims = has.victims; few = (let more = put.1 in let few = has.few in omega (arith, more, few)) }
step room n s caller pool_events.LookOwn has =
    let own = own_within s.primary.private s.primary refl in
    record { primary = own.0 ∙ has.primary; victims = has.victims; few = (let less = own.1 in let few = has.few in omega (arith, less, few)) }
step room n s caller (pool_events.LookOther part) has =
    let tail = tail_within (slice_get s.primary.shared (length s.primary.shared - 1)) s.primary in
    record { primary = tail.0 ∙ has.primary; victims = has.victims; few = (let less = tail.1 in let few = has.few in omega (arith, less, few)) }
step room n s caller (pool_events.LookVictim part) has = record { primary = has.primary; victims = chosen (part == caller) ∙ has.victims; few = (let few = has.few in omega (arith, few)) } where
  chosen : (b : Bool) → ((if b then take_victim else take_tail) s.victims).0.room ≡ s.victims.room
  chosen true = victim_room s.victims.private s.victims
  chosen false = (tail_within (slice_get s.victims.shared (length s.victims.shared - 1)) s.victims).0
step room n s caller pool_events.Sweep has = record { primary = has.victims; victims = has.primary; few = omega arith }

-- where fewer were put than there is room for, an item is kept
no_drop : (private : Option ℕ) (part : PoolPart ℕ) (item dropped : ℕ) → part.private ≡ private → items_in part < part.room → pool_replies.Dropped dropped ≡ (put_beside private part item).1 → ⊥
no_drop None part item dropped is low e = absurd cc
no_drop (Some p) part item dropped is low e = chosen (nat_lt (length part.shared) part.room) refl e where
  chosen : (b : Bool) → nat_lt (length part.shared) part.room ≡ b → pool_replies.Dropped dropped ≡ (if◌then◌else◌ {A = PoolPart ℕ × PoolReply ℕ} b (record part { shared = item ∷ part.shared }, pool_replies.Kept) (part, pool_replies.Dropped item)).1 → ⊥
  chosen true below e = absurd cc
  chosen false past e = let high = ltb-false (length part.shared) part.room past in omega (arith, high, low)

abbrev put_deed : Deed (PoolEvent ℕ) (PoolReply ℕ) → ℕ
put_deed (Event event reply) = puts_by event
put_deed (Refused event misuse) = 0
put_deed (Halt misuse) = 0

abbrev puts : List (Entry (PoolEvent ℕ) (PoolReply ℕ)) → ℕ
puts [] = 0
puts (entry ∷ entries) = put_deed entry.deed + puts entries

step_deed : (room n : ℕ) (s : PartState ℕ) (caller : ℕ) (deed : Deed (PoolEvent ℕ) (PoolReply ℕ)) → HasRoom room n s → HasRoom room (n + put_deed deed) (state_next part_next s caller deed)
step_deed room n s caller (Event event reply) has = step room n s caller event has
step_deed room n s caller (Refused event misuse) has = record { primary = has.primary; victims = has.victims; few = (let few = has.few in omega (arith, few)) }
step_deed room n s caller (Halt misuse) has = record { primary = has.primary; victims = has.victims; few = (let few = has.few in omega (arith, few)) }

none_dropped : (room n : ℕ) (s : PartState ℕ) (halt : Option Misuse) (own : List (Entry (PoolEvent ℕ) (PoolReply ℕ))) (i item dropped : ℕ) (x : Entry (PoolEvent ℕ) (PoolReply ℕ)) → HasRoom room n s → n + puts own ≤ room
    → Follows part_next true s halt own → slice_get own i ≡ Some x → x.deed ≡ Event (pool_events.Put item) (pool_replies.Dropped dropped) → ⊥
none_dropped room n s halt [] i item dropped x has few follows at is = absurd cc
none_dropped room n s halt (first ∷ own) zero item dropped x has few follows at is =
    let same : first ≡ x = cc in
    let deed : first.deed ≡ Event (pool_events.Put item) (pool_replies.Dropped dropped) = ap (λ (e : Entry (PoolEvent ℕ) (PoolReply ℕ)). e.deed) same ∙ is in
    let right = subst (Right part_next true s halt first.caller) deed follows.0 in
    let one = ap put_deed deed in
    let room_is = has.primary in
    let held_are = has.few in
    no_drop s.primary.private s.primary item dropped refl (omega (arith, one, room_is, held_are, few)) right.1
none_dropped room n s halt (first ∷ own) (suc i) item dropped x has few follows at is =
    none_dropped room (n + put_deed first.deed) (state_next part_next s first.caller first.deed) (halt_next halt first.deed) own i item dropped x (step_deed room n s first.caller first.deed has) (omega (arith, few)) follows.1 at is

-- ---- the puts of a journal, and those of one caller

abbrev pub put_object : Deed ObjectEvent ObjectReply → ℕ
put_object (Event (object_events.Pool (pool_events.Put item)) reply) = 1
put_object deed = 0

abbrev pub puts_in : List ObjectEntry → ℕ
puts_in [] = 0
puts_in (entry ∷ entries) = put_object entry.deed + puts_in entries

lifted_puts : (deed : Deed (PoolEvent ℕ) (PoolReply ℕ)) → put_object (lifted_deed object_events.Pool object_replies.Pool deed) ≡ put_deed deed
lifted_puts (Event (pool_events.Put item) reply) = refl
lifted_puts (Event pool_events.LookOwn reply) = refl
lifted_puts (Event (pool_events.LookOther part) reply) = refl
lifted_puts (Event (pool_events.LookVictim part) reply) = refl
lifted_puts (Event pool_events.Sweep reply) = refl
lifted_puts (Refused event misuse) = refl
lifted_puts (Halt misuse) = refl

puts_lifted : (own : List (Entry (PoolEvent ℕ) (PoolReply ℕ))) → puts_in (map (lifted object_events.Pool object_replies.Pool) own) ≡ puts own
puts_lifted [] = refl
puts_lifted (x ∷ own) = let here = lifted_puts x.deed in let rest = puts_lifted own in omega (arith, here, rest)

more_by : (b : Bool) (x : ObjectEntry) (xs : List ObjectEntry) → puts_in xs ≤ puts_in (cond b (x ∷ xs) xs)
more_by true x xs = omega arith
more_by false x xs = omega arith

-- where all who put are one caller, all puts are its own
pub puts_of_one : (one : ℕ) (journal : List ObjectEntry) → ((c : ℕ) → (c ≡ one → ⊥) → puts_in (by c journal) ≡ 0) → puts_in journal ≤ puts_in (by one journal)
puts_of_one one [] others = omega arith
puts_of_one one (x ∷ journal) others = chosen (x.caller == one) refl (puts_of_one one journal (λ c other. let none = others c other in let more = more_by (x.caller == c) x (by c journal) in omega (arith, none, more))) where
  chosen : (b : Bool) → (x.caller == one) ≡ b → puts_in journal ≤ puts_in (by one journal) → put_object x.deed + puts_in journal ≤ puts_in (cond b (x ∷ by one journal) (by one journal))
  chosen true same rest = omega (arith, rest)
  chosen false differs rest =
      let none = others x.caller (eqb-false x.caller one differs) in
      let own = ap (λ b. puts_in (cond b (x ∷ by x.caller journal) (by x.caller journal))) (eq-eqb x.caller x.caller refl) in
      omega (arith, rest, none, own)

-- a part whose puts have room drops none
pub part_keeps : (room i item dropped : ℕ) (own : List (Entry (PoolEvent ℕ) (PoolReply ℕ))) (x : Entry (PoolEvent ℕ) (PoolReply ℕ)) → puts_in (map (lifted object_events.Pool object_replies.Pool) own) ≤ room → Follows part_next true (part_start room) None own → slice_get own i ≡ Some x
    → x.deed ≡ Event (pool_events.Put item) (pool_replies.Dropped dropped) → ⊥
part_keeps room i item dropped own x few follows at is =
    let same = puts_lifted own in
    none_dropped room 0 (part_start room) None own i item dropped x (record { primary = refl; victims = refl; few = omega arith }) (omega (arith, few, same)) follows at is
