-- All jobs of a run, before the start and behind it.
use Rattle.std.proofs.Common.{◌≡◌, ℕ, zero, suc, ◌+◌, ◌^◌, ◌<◌, List, [], ◌∷◌, length, get_or, map, Option, Some, slice_get, refl, sym, ap, ◌∙◌, subst, arith}
use Rattle.std.specs.List.{range_with_len, AllZip}
use Rattle.std.specs.Prelude.{IsSome, is_some}
use Rattle.std.proofs.lemmas.List.{length-map}
use Rattle.std.proofs.lemmas.Option.{none-some, same_Some, slice_get_within, get_or_from_slice_get}
use Rattle.script_calls.specs.declared.call.Reply.{Reply}
use Rattle.sync_model.specs.declared.caller.Caller.{Caller}
use Rattle.sync_types.specs.BoundedSeq.{Bounded}
use Rattle.sync_model.specs.Front.{Front}
use Rattle.sync_model.specs.Note.{Holding}
use Rattle.sync_model.specs.Shared.{AreAllCallers, IsHeldBy}
use Rattle.workload.specs.Keys.{keys_in}
use Rattle.workload.specs.Plan.{Plan}
use Rattle.thread_objects.specs.declared.object.AnyObject.{AnyObject}
use Rattle.thread_objects.specs.declared.pass.AnyPass.{AnyPass}
use Rattle.thread_runner.specs.AllGone.{HaveGone}
use Rattle.thread_runner.specs.Dealing.{AreRows}
use Rattle.thread_runner.specs.EndsPlans.{HaveMadeNone, HaveSpare}
use Rattle.thread_runner.specs.Jobs.{HasRoom, IsReady, HasGone}
use Rattle.thread_runner.proofs.Dealt.{mapped_found}
use Rattle.thread_runner.proofs.Ended.{held_number}

-- the item of a list that a mapped list's item comes from
mapped_from : {A B : Type 0} (f : A → B) (xs : List A) (k : ℕ) (y : B) → slice_get (map f xs) k ≡ Some y → (x : A) × (slice_get xs k ≡ Some x) × (f x ≡ y)
mapped_from f [] k y at = absurd (none-some y at)
mapped_from f (x ∷ xs) zero y at = (x, refl, same_Some (f x) y at)
mapped_from f (x ∷ xs) (suc k) y at = mapped_from f xs k y at

zipped_at : {A B : Type 0} (R : A → B → Type 0) (xs : List A) (ys : List B) (k : ℕ) (y : B) → AllZip R xs ys → slice_get ys k ≡ Some y → (x : A) × (slice_get xs k ≡ Some x) × R x y
zipped_at R [] [] k y all at = absurd (none-some y at)
zipped_at R [] (z ∷ ys) k y all at = absurd all
zipped_at R (x ∷ xs) [] k y all at = absurd all
zipped_at R (x ∷ xs) (z ∷ ys) zero y all at = (x, refl, subst (R x) (same_Some z y at) all.0)
zipped_at R (x ∷ xs) (z ∷ ys) (suc k) y all at = zipped_at R xs ys k y all.1 at

pub zipped_long : {A B : Type 0} (R : A → B → Type 0) (xs : List A) (ys : List B) → AllZip R xs ys → length ys ≡ length xs
zipped_long R [] [] all = refl
zipped_long R [] (z ∷ ys) all = absurd all
zipped_long R (x ∷ xs) [] all = absurd all
zipped_long R (x ∷ xs) (z ∷ ys) all = ap (λ n. suc n) (zipped_long R xs ys all.1)

counted_at : (a n k x : ℕ) → slice_get (range_with_len a n) k ≡ Some x → x ≡ a + k
counted_at a zero k x at = absurd (none-some x at)
counted_at a (suc n) zero x at = sym (same_Some a x at) ∙ omega arith
counted_at a (suc n) (suc k) x at = counted_at (a + 1) n k x at ∙ omega arith

-- the number of the job at a place is the place
pub number_at_place : {J : Type 0} (number : J → ℕ) (jobs : List J) (n k : ℕ) (job : J) → map number jobs ≡ range_with_len 0 n → slice_get jobs k ≡ Some job → number job ≡ k
number_at_place number jobs n k job are at = counted_at 0 n k (number job) (ap (λ (l : List ℕ). slice_get l k) (sym are) ∙ mapped_found number jobs k job at) ∙ omega arith

-- what is held by a caller is held
is_held : (o : Option Holding) (c : ℕ) → IsHeldBy c o → IsSome o
is_held o c of = ap (λ (held : Option Holding). is_some held) of.1

module _ {N H : Type 0} (at : H → N → Type 0) (own : N → Option Holding) (front : N → Front) (home : H) (plan : Plan) (objects : List (AnyObject N H)) (rows : List (List (AnyPass N))) (callers : List (Caller N)) where
  -- a worker with its row, its caller and its rooms may begin
  pub ready_at : AreRows at home plan.workers objects rows → AreAllCallers at own home callers plan.workers → HaveMadeNone own callers → HaveSpare own plan callers
      → (worker : ℕ) (row : List (AnyPass N)) (caller : Caller N) (replies : Bounded (Reply ℕ)) (pairs : List (Bounded (ℕ × ℕ))) → slice_get rows worker ≡ Some row → slice_get callers worker ≡ Some caller → length (get_or plan.scripts worker []) < 2 ^ 32
      → HasRoom (length (keys_in plan.scripts)) (get_or plan.scripts worker []) replies pairs → IsReady at own front home plan objects worker row caller replies pairs
  ready_at rows_are callers_are none spare worker row caller replies pairs at_row at_caller few room =
      let is_row = rows_are.each worker row at_row in
      let is_caller = callers_are.each worker caller at_caller in
      let within = slice_get_within callers worker caller at_caller in
      record {
        may = record {
          number = omega (arith, within, callers_are.all);
          seats = is_row.seats;
          is_caller = (is_caller.0, is_held (own caller.note) worker is_caller.1);
          none = none worker caller at_caller;
          spare = spare worker caller at_caller;
          few = few;
          room = room;
        };
        held = is_caller.1;
        fresh = record { owns = is_row.none; calls = none worker caller at_caller; number = held_number (own caller.note) worker is_caller.1 };
      }

  module _ {J G : Type 0} (number : J → ℕ) (passes : J → List (AnyPass N)) (caller : J → Caller N) (jobs : List J) (now_passes : G → List (AnyPass N)) (now_caller : G → Caller N) (replies : G → List (Reply ℕ)) (gone : List G) (R : J → G → Type 0) where
    -- workers whose jobs came to these results have ended
    pub have_gone : length jobs ≡ plan.workers → map number jobs ≡ range_with_len 0 (length jobs) → map caller jobs ≡ callers → map passes jobs ≡ rows → AllZip R jobs gone
        → ((k : ℕ) (job : J) (g : G) → slice_get jobs k ≡ Some job → R job g → HasGone at own front home plan objects (number job) (passes job) (caller job) (now_passes g) (now_caller g) (replies g))
        → HaveGone at own front home plan objects rows callers (map now_passes gone) (map now_caller gone) (map replies gone)
    have_gone count numbers callers_are rows_are all gives = record {
      rows_count = length-map gone now_passes ∙ long;
      callers_count = length-map gone now_caller ∙ long;
      replies_count = length-map gone replies ∙ long;
      each = each;
    } where
      long : length gone ≡ plan.workers
      long = zipped_long R jobs gone all ∙ count

      each : (worker : ℕ) (was now : Caller N) → slice_get callers worker ≡ Some was → slice_get (map now_caller gone) worker ≡ Some now
          → HasGone at own front home plan objects worker (get_or rows worker []) was (get_or (map now_passes gone) worker []) now (get_or (map replies gone) worker [])
      each worker was now at_was at_now =
          let g = mapped_from now_caller gone worker now at_now in
          let job = zipped_at R jobs gone worker g.0 all g.1 in
          let it = gives worker job.0 g.0 job.1 job.2 in
          let is_number : number job.0 ≡ worker = number_at_place number jobs (length jobs) worker job.0 numbers job.1 in
          let is_was : caller job.0 ≡ was = same_Some (caller job.0) was (sym (mapped_found caller jobs worker job.0 job.1) ∙ ap (λ (l : List (Caller N)). slice_get l worker) callers_are ∙ at_was) in
          let is_row : passes job.0 ≡ get_or rows worker [] = sym (get_or_from_slice_get rows worker (passes job.0) [] (ap (λ (l : List (List (AnyPass N))). slice_get l worker) (sym rows_are) ∙ mapped_found passes jobs worker job.0 job.1)) in
          let is_now_row : now_passes g.0 ≡ get_or (map now_passes gone) worker [] = sym (get_or_from_slice_get (map now_passes gone) worker (now_passes g.0) [] (mapped_found now_passes gone worker g.0 g.1)) in
          let is_replies : replies g.0 ≡ get_or (map replies gone) worker [] = sym (get_or_from_slice_get (map replies gone) worker (replies g.0) [] (mapped_found replies gone worker g.0 g.1)) in
          subst (λ (r : List (Reply ℕ)). HasGone at own front home plan objects worker (get_or rows worker []) was (get_or (map now_passes gone) worker []) now r) is_replies
          (subst (λ (c : Caller N). HasGone at own front home plan objects worker (get_or rows worker []) was (get_or (map now_passes gone) worker []) c (replies g.0)) g.2
          (subst (λ (p : List (AnyPass N)). HasGone at own front home plan objects worker (get_or rows worker []) was p (now_caller g.0) (replies g.0)) is_now_row
          (subst (λ (c : Caller N). HasGone at own front home plan objects worker (get_or rows worker []) c (now_passes g.0) (now_caller g.0) (replies g.0)) is_was
          (subst (λ (p : List (AnyPass N)). HasGone at own front home plan objects worker p (caller job.0) (now_passes g.0) (now_caller g.0) (replies g.0)) is_row
          (subst (λ n. HasGone at own front home plan objects n (passes job.0) (caller job.0) (now_passes g.0) (now_caller g.0) (replies g.0)) is_number it)))))
