-- What holds between two calls of a script.
use Rattle.std.proofs.Common.{◌≡◌, ℕ, ◌+◌, ◌<◌, ◌≤◌, List, [], ◌∷◌, ◌++◌, length, drop, get_or, Option, Some, slice_get, refl, sym, ap, ◌∙◌, subst, arith}
use Rattle.std.specs.Prelude.{All, IfSome, IfNone, IsSome, None, Result, sum_by}
use Rattle.std.proofs.lemmas.List.{length_push}
use Rattle.std.proofs.lemmas.List.Elements.{All-append, All-nil}
use Rattle.std.specs.Option.{ForSome}
use Rattle.std.proofs.lemmas.List.Sums.{sum_by-cons, sum_by-take-drop}
use Rattle.std.proofs.lemmas.Option.{same_Some, slice_get_read}
use Rattle.script_calls.specs.declared.call.Call.{Call}
use Rattle.script_calls.specs.declared.call.Reply.{Reply}
use Rattle.sync_types.specs.declared.misuse.Misuse.{Misuse}
use Rattle.sync_model.specs.declared.answer.Answer.TheVariants.{Done}
use Rattle.sync_model.specs.declared.caller.Caller.{Caller}
use Rattle.sync_model.specs.declared.item.Item.{Item}
use Rattle.sync_types.specs.BoundedSeq.{Bounded}
use Rattle.sync_model.specs.Front.{Front}
use Rattle.sync_model.specs.Note.{Holding}
use Rattle.sync_model.specs.Shared.{IsCallerAt, IsHeldBy, items_of}
use Rattle.protocols.specs.Spelling.{CallAnswer}
use Rattle.ruled_object.specs.Growth.{KeepsNote}
use Rattle.workload.specs.Keys.{keys_in}
use Rattle.workload.specs.Plan.{Plan}
use Rattle.run_record.specs.Limits.{IsCallOf}
use Rattle.thread_objects.specs.declared.object.AnyObject.{AnyObject}
use Rattle.thread_objects.specs.declared.pass.AnyPass.{AnyPass}
use Rattle.thread_objects.specs.Desks.{AreSeats}
use Rattle.thread_objects.specs.GivenUp.{MakesOnly}
use Rattle.thread_objects.specs.Passes.{owns_of}
use Rattle.thread_objects.specs.Spending.{Spends}
use Rattle.thread_runner.specs.Jobs.{IsBetween, MayCall}
use Rattle.thread_runner.specs.Sites.{AreRooms, cost_of_call, cost_of_calls, ranges_in_call, ranges_in_calls}
use Rattle.thread_objects.specs.Working.{Desk, desk_with}
use Rattle.thread_runner.specs.DidLines.{Went}

-- a worker's caller is still its own behind a call
pub held_behind : {N : Type 0} (own : N → Option Holding) (cost : ℕ) (old new : N) → Spends own cost old new → (c : ℕ) → IsHeldBy c (own old) → IsHeldBy c (own new)
held_behind own cost old new spends c (holding, is, number) =
    let same : spends.was ≡ holding = same_Some spends.was holding (sym spends.own_old ∙ is) in
    (spends.becomes, spends.own_new, spends.number ∙ ap (λ (h : Holding). h.number) same ∙ number)

of_some : {X : Type 0} (o : Option X) (P : X → Type 0) (x : X) → o ≡ Some x → IfSome o P → P x
of_some o P x is holds = subst (λ r. IfSome r P) is holds

-- the answer of a call that was done, and of one that met a halt
pub of_done : {O : Type 0} (o : Option (CallAnswer O)) (P : CallAnswer O → Type 0) (a : CallAnswer O) (r x : Result O Misuse) → o ≡ Some a → a ≡ Done r → r ≡ x → IfSome o P → P (Done x)
of_done o P a r x is done same holds = subst (λ z. P (Done z)) same (subst P done (of_some o P a is holds))

pub of_halted : {O : Type 0} (o : Option (CallAnswer O)) (P : CallAnswer O → Type 0) (a x : CallAnswer O) → o ≡ Some a → a ≡ x → IfSome o P → P x
of_halted o P a x is same holds = subst P same (of_some o P a is holds)

pub of_none : {X : Type 0} (o : Option X) (P : Type 0) → o ≡ None → IfNone o P → P
of_none o P is holds = subst (λ r. IfNone r P) is holds

-- where a call stands at a place, the script from there on is the call and what is behind it
abbrev pub StandsAt : Type 0
StandsAt = (script : List Call) (place : ℕ) (call : Call) → slice_get script place ≡ Some call → drop place script ≡ call ∷ drop (place + 1) script

-- the call that is read at a place of the script
pub call_read : StandsAt → (script read : List Call) (place : ℕ) (call : Call) → place < length script → call ≡ get_or read place call → read ≡ script → drop place script ≡ call ∷ drop (place + 1) script
call_read stands script read place call within is same = stands script place call (slice_get_read script (length script) place call refl within (is ∙ ap (λ calls. get_or calls place call) same))

-- what is left behind a place and the calls that are passed over is the script from a later place on
abbrev pub PassesOver : Type 0
PassesOver = (script : List Call) (place passes : ℕ) → drop passes (drop (place + 1) script) ≡ drop (place + 1 + passes) script

pub over_all : PassesOver → (script : List Call) (place passes count : ℕ) → count ≡ passes → drop passes (drop (place + 1) script) ≡ drop (place + (1 + count)) script
over_all over script place passes count is =
    let later : place + 1 + passes ≡ place + (1 + count) = omega (arith, is) in
    over script place passes ∙ ap (λ n. drop n script) later

-- what holds of a caller's calls holds still, where it makes only such calls
pub all_behind : (plan : Plan) (old new : List Item) → All (λ x. IsCallOf plan x.call) old → MakesOnly (IsCallOf plan) old new → All (λ x. IsCallOf plan x.call) new
all_behind plan old new all made = subst (All (λ x. IsCallOf plan x.call)) (sym made.are) (All-append (λ x. IsCallOf plan x.call) old made.made all made.each)

module _ {H N : Type 0} (at : H → N → Type 0) (own : N → Option Holding) (front : N → Front) (home : H) (plan : Plan) (objects : List (AnyObject N H)) (workers worker : ℕ) where
  -- before its script a worker is between two calls
  pub at_first : (passes : List (AnyPass N)) (caller : Caller N) (replies : Bounded (Reply ℕ)) (pairs : List (Bounded (ℕ × ℕ))) → MayCall at own home plan objects workers worker passes caller replies pairs → IsBetween at own home plan objects workers worker caller.note passes caller
  at_first passes caller replies pairs may = record {
    seats = may.seats;
    is_caller = may.is_caller;
    held = λ c of. of;
    calls = subst (All (λ x. IsCallOf plan x.call)) (sym may.none) (All-nil (λ x. IsCallOf plan x.call));
  }

  module _ (caller now : Caller N) (passes : List (AnyPass N)) (seats : AreSeats at home workers worker objects passes) where
    -- and it still is where its note is kept
    pub by_note : KeepsNote at own front caller.note now.note → (first : N) (before : List (AnyPass N)) → IsBetween at own home plan objects workers worker first before caller → IsBetween at own home plan objects workers worker first passes now
    by_note note first before between = record {
      seats = seats;
      is_caller = (note.home home between.is_caller.0, subst (λ (o : Option Holding). IsSome o) (sym note.kept) between.is_caller.1);
      held = λ c of. subst (IsHeldBy c) (sym note.kept) (between.held c of);
      calls = subst (λ (o : Option Holding). All (λ x. IsCallOf plan x.call) (items_of o)) (sym note.kept) between.calls;
    }

    -- as it is behind one more call
    pub by_call : (cost : ℕ) → IsCallerAt at own home now → Spends own cost caller.note now.note → MakesOnly (IsCallOf plan) (items_of (own caller.note)) (items_of (own now.note))
        → (first : N) → ((c : ℕ) → IsHeldBy c (own first) → IsHeldBy c (own caller.note)) → All (λ x. IsCallOf plan x.call) (items_of (own caller.note)) → IsBetween at own home plan objects workers worker first passes now
    by_call cost is_caller spends made first held all = record {
      seats = seats;
      is_caller = is_caller;
      held = λ c of. held_behind own cost caller.note now.note spends c (held c of);
      calls = all_behind plan (items_of (own caller.note)) (items_of (own now.note)) all made;
    }

    -- a worker that kept its note may still make the calls of its script
    pub may_still : KeepsNote at own front caller.note now.note → (before : List (AnyPass N)) (replies : Bounded (Reply ℕ)) (pairs : List (Bounded (ℕ × ℕ))) → MayCall at own home plan objects workers worker before caller replies pairs → MayCall at own home plan objects workers worker passes now replies pairs
    may_still note before replies pairs may = record {
      number = may.number;
      seats = seats;
      is_caller = (note.home home may.is_caller.0, subst (λ (o : Option Holding). IsSome o) (sym note.kept) may.is_caller.1);
      none = ap (λ (o : Option Holding). items_of o) note.kept ∙ may.none;
      spare = subst (λ (o : Option Holding). ForSome o (λ holding. cost_of_calls (get_or plan.scripts worker []) ≤ holding.spare)) (sym note.kept) may.spare;
      few = may.few;
      room = may.room;
    }

  -- of a note that was kept before, it is the same caller
  pub since : (first note : N) → own note ≡ own first → (passes : List (AnyPass N)) (caller : Caller N) → IsBetween at own home plan objects workers worker note passes caller → IsBetween at own home plan objects workers worker first passes caller
  since first note kept passes caller between = record {
    seats = between.seats;
    is_caller = between.is_caller;
    held = λ c of. between.held c (subst (IsHeldBy c) (sym kept) of);
    calls = between.calls;
  }

module _ {H N : Type 0} (at : H → N → Type 0) (own : N → Option Holding) (front : N → Front) (home : H) (plan : Plan) (workers worker : ℕ) (objects : List (AnyObject N H)) (script : List Call) (room : ℕ) (start : Desk) (first : N) where
  -- the worker is about to make the call at this place of its script
  pub record AtCall (place : ℕ) (passes : List (AnyPass N)) (caller : Caller N) (replies : Bounded (Reply ℕ)) (rooms : List (Bounded (ℕ × ℕ))) : Type 0 where
    pub seats : AreSeats at home workers worker objects passes
    pub is_caller : IsCallerAt at own home caller
    pub held : (c : ℕ) → IsHeldBy c (own first) → IsHeldBy c (own caller.note)
    pub spare : ForSome (own caller.note) (λ holding. cost_of_calls (drop place script) ≤ holding.spare)
    pub roomy : AreRooms (length (keys_in plan.scripts)) rooms
    pub enough : ranges_in_calls (drop place script) ≤ length rooms
    pub room_is : replies.room ≡ room
    pub count : length replies.items ≤ place
    pub calls : All (λ x. IsCallOf plan x.call) (items_of (own caller.note))
    pub went : Went plan worker script place replies.items start (desk_with own front (owns_of passes) caller.note)

  module _ (place : ℕ) (call : Call) (at_place : drop place script ≡ call ∷ drop (place + 1) script) where
    costs : cost_of_calls (drop place script) ≡ cost_of_call call + cost_of_calls (drop (place + 1) script)
    costs = ap cost_of_calls at_place ∙ sum_by-cons cost_of_call call (drop (place + 1) script)

    ranges : ranges_in_calls (drop place script) ≡ ranges_in_call call + ranges_in_calls (drop (place + 1) script)
    ranges = ap ranges_in_calls at_place ∙ sum_by-cons ranges_in_call call (drop (place + 1) script)

    module _ (passes next : ℕ) (over : drop passes (drop (place + 1) script) ≡ drop next script) where
      -- what is passed over takes nothing
      no_more : (f : Call → ℕ) → sum_by f (drop next script) ≤ sum_by f (drop (place + 1) script)
      no_more f =
          let sum = sum_by-take-drop f (drop (place + 1) script) passes in
          let same = ap (sum_by f) over in
          omega (arith, sum, same)

      -- there is enough for the next call, and then for those behind it
      spare_behind : (caller note : N) → ForSome (own caller) (λ holding. cost_of_calls (drop place script) ≤ holding.spare) → Spends own (cost_of_call call) caller note
          → ForSome (own note) (λ holding. cost_of_calls (drop next script) ≤ holding.spare)
      spare_behind caller note spare spends holding is =
          let all = spare spends.was spends.own_old in
          let same : holding ≡ spends.becomes = same_Some holding spends.becomes (sym is ∙ spends.own_new) in
          subst (λ (h : Holding). cost_of_calls (drop next script) ≤ h.spare) (sym same) (let sum = costs in let less = no_more cost_of_call in let spent = spends.spare in omega (arith, all, sum, less, spent))

      module _ (passes_before now_passes : List (AnyPass N)) (caller now_caller : Caller N) (replies now_replies : Bounded (Reply ℕ)) (rooms now_rooms : List (Bounded (ℕ × ℕ))) (before : AtCall place passes_before caller replies rooms) where
        -- behind a call the worker is about to make the next one that isn't passed over
        pub after_call : (reply : Reply ℕ) → now_replies ≡ record { items = replies.items ++ reply ∷ []; room = replies.room } → place < next → AreSeats at home workers worker objects now_passes → IsCallerAt at own home now_caller → Spends own (cost_of_call call) caller.note now_caller.note
            → AreRooms (length (keys_in plan.scripts)) now_rooms → length rooms ≤ length now_rooms + ranges_in_call call
            → MakesOnly (IsCallOf plan) (items_of (own caller.note)) (items_of (own now_caller.note))
            → Went plan worker script next (replies.items ++ reply ∷ []) start (desk_with own front (owns_of now_passes) now_caller.note)
            → AtCall next now_passes now_caller now_replies now_rooms
        after_call reply pushed behind seats is_caller spends roomy left made went = record {
          seats = seats;
          is_caller = is_caller;
          held = λ c of. held_behind own (cost_of_call call) caller.note now_caller.note spends c (before.held c of);
          spare = spare_behind caller.note now_caller.note before.spare spends;
          roomy = roomy;
          enough = let sum = ranges in let was = before.enough in let less = no_more ranges_in_call in omega (arith, sum, less, was, left);
          room_is = ap (λ (b : Bounded (Reply ℕ)). b.room) pushed ∙ before.room_is;
          count = let longer = ap (λ (b : Bounded (Reply ℕ)). length b.items) pushed in let one = length_push replies.items reply in let was = before.count in omega (arith, longer, one, was, behind);
          calls = all_behind plan (items_of (own caller.note)) (items_of (own now_caller.note)) before.calls made;
          went = subst (λ (b : Bounded (Reply ℕ)). Went plan worker script next b.items start (desk_with own front (owns_of now_passes) now_caller.note)) (sym pushed) went;
        }
