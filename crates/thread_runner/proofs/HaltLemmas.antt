-- Halting, in the words of the record.
use Rattle.std.proofs.Common.{◌≡◌, ℕ, zero, suc, ◌+◌, ◌<◌, ◌≤◌, Bool, true, false, ◌==◌, cond, List, [], ◌∷◌, ◌++◌, length, take, refl, sym, ap, subst, ◌∙◌, add-one, append_assoc, arith, Option, Some, slice_get, slice_index, Ok}
use Rattle.std.specs.List.{AllByRecursion, range_with_len}
use Rattle.std.proofs.lemmas.List.{append-nil, take_all, take_more, length-take-le}
use Rattle.std.proofs.lemmas.List.Elements.{All-from_recursion}
use Rattle.std.proofs.lemmas.Option.{slice_get_within, get_or_from_slice_get}
use Rattle.sync_model.specs.declared.answer.Answer.TheVariants.{Done}
use Rattle.sync_model.specs.Front.{Front, NoLess, Later}
use Rattle.sync_model.specs.Note.{Holding, IsCounted}
use Rattle.sync_model.specs.Shared.{items_of, times_by}
use Rattle.sync_types.specs.declared.misuse.Misuse.{Misuse}
use Rattle.workload.specs.declared.object.ObjectKind.{ObjectKind}
use Rattle.workload.specs.declared.object.ObjectKind.TheVariants as kinds
use Rattle.workload.specs.declared.object.ObjectWord.TheVariants as words
use Rattle.workload.specs.declared.object.ObjectLine.{ObjectLine}
use Rattle.workload.specs.Plan.{Plan, has_dormant}
use Rattle.run_record.specs.declared.made.Made.{Made}
use Rattle.run_record.specs.declared.made.Made.TheVariants.{Shared, Entered}
use Rattle.run_record.specs.Halts.{halted_at, halted_from, halted_starts, halted_with_stop, entered_on}
use Rattle.run_record.specs.Lines.{IsHalt}
use Rattle.run_record.specs.Objects.{first_part, is_pool, starts_number}
use Rattle.run_record.specs.Record.{ObjectEntry, stop, object_number}
use Rattle.thread_objects.specs.Working.{Desk, Works, alone, desk_at, number_in}
use Rattle.thread_objects.specs.declared.object.AnyObject.{AnyObject}
use Rattle.thread_objects.specs.declared.object.AnyObject.TheVariants as objects
use Rattle.thread_objects.specs.AsDeclared.{IsDeclared}
use Rattle.thread_objects.specs.HaltOne.{Halts}
use Rattle.thread_objects.specs.Halting.{AreHalted}
use Rattle.thread_objects.specs.Kinds.{HasWord, IsStarts, IsStop}
use Rattle.thread_runner.specs.Halting.{halted_one, halting, HaltsAll}
use Rattle.thread_objects.specs.Laws.{Stays, Joins, Counts}
use Rattle.thread_runner.proofs.Working.{rests}

-- halts one after the other
entered_append : (xs ys : List Made) → entered_on (xs ++ ys) ≡ entered_on xs ++ entered_on ys
entered_append [] ys = refl
entered_append (Shared x ∷ xs) ys = entered_append xs ys
entered_append (Entered object entry ∷ xs) ys = ap (λ (l : List ℕ). object ∷ l) (entered_append xs ys)

halts_append : (misuse : Misuse) (xs ys : List Made) → AllByRecursion (IsHalt misuse) xs → AllByRecursion (IsHalt misuse) ys → AllByRecursion (IsHalt misuse) (xs ++ ys)
halts_append misuse [] ys first later = later
halts_append misuse (x ∷ xs) ys first later = (first.0, halts_append misuse xs ys first.1 later)

pub halts_on : Joins → (misuse : Misuse) (numbers more : List ℕ) (old between new : Desk) → Works (halting misuse numbers) old (Done (Ok tt)) between → Works (halting misuse more) between (Done (Ok tt)) new → Works (halting misuse (numbers ++ more)) old (Done (Ok tt)) new
halts_on joined misuse numbers more old between new first later = record {
  items = first.items ++ later.items;
  moves = joined old between new first.items later.items first.moves later.moves;
  spelt = (halts_append misuse first.items later.items first.spelt.0 later.spelt.0, entered_append first.items later.items ∙ ap (λ (l : List ℕ). l ++ entered_on later.items) first.spelt.1 ∙ ap (λ (l : List ℕ). numbers ++ l) later.spelt.1, refl);
}

-- the same objects, by numbers of another form
pub halts_as : (misuse : Misuse) (numbers others : List ℕ) (old new : Desk) → numbers ≡ others → Works (halting misuse numbers) old (Done (Ok tt)) new → Works (halting misuse others) old (Done (Ok tt)) new
halts_as misuse numbers others old new same works = subst (λ (l : List ℕ). Works (halting misuse l) old (Done (Ok tt)) new) same works

-- one part more of a pool
pub part_more : (first count : ℕ) → range_with_len first count ++ (first + count) ∷ [] ≡ range_with_len first (count + 1)
part_more first count = sym (ap (λ (n : ℕ). range_with_len first n) (add-one count) ∙ more first count) where
  more : (a n : ℕ) → range_with_len a (suc n) ≡ range_with_len a n ++ (a + n) ∷ []
  more a zero = ap (λ (k : ℕ). k ∷ []) (omega arith)
  more a (suc n) = ap (λ (l : List ℕ). a ∷ l) (more (a + 1) n ∙ ap (λ (k : ℕ). range_with_len (a + 1) n ++ k ∷ []) (omega arith))

module _ (plan : Plan) where
  from_append : (place : ℕ) (lines : List ObjectLine) (line : ObjectLine) → halted_from plan place (lines ++ line ∷ []) ≡ halted_from plan place lines ++ halted_at plan (place + length lines) line.kind
  from_append place [] line = append-nil (halted_at plan place line.kind) ∙ ap (λ (n : ℕ). halted_at plan n line.kind) (omega arith)
  from_append place (x ∷ lines) line =
      ap (λ (l : List ℕ). halted_at plan place x.kind ++ l) (from_append (place + 1) lines line ∙ ap (λ (n : ℕ). halted_from plan (place + 1) lines ++ halted_at plan n line.kind) (omega arith))
      ∙ sym (append_assoc (halted_at plan place x.kind) (halted_from plan (place + 1) lines) (halted_at plan (place + length (x ∷ lines)) line.kind))

  -- behind Stop and Starts nothing is halted yet
  pub halted_none : stop ∷ halted_starts plan ≡ halted_with_stop plan []
  halted_none = ap (λ (l : List ℕ). stop ∷ l) (sym (append-nil (halted_starts plan)))

  -- Starts is what is halted behind Stop, where some workers wait to be started, and else nothing is
  pub starts_halted : has_dormant plan ≡ true → starts_number plan ∷ [] ≡ halted_starts plan
  starts_halted has = ap (λ (b : Bool). cond b (starts_number plan ∷ []) []) (sym has)

  pub no_starts_halted : has_dormant plan ≡ false → [] ≡ halted_starts plan
  no_starts_halted has = ap (λ (b : Bool). cond b (starts_number plan ∷ []) []) (sym has)

  -- what is declared at one more place is halted behind what is declared before it
  pub halted_more : (place : ℕ) (line : ObjectLine) → slice_get plan.objects place ≡ Some line → halted_with_stop plan (take place plan.objects) ++ halted_at plan place line.kind ≡ halted_with_stop plan (take (place + 1) plan.objects)
  halted_more place line at =
      let within = slice_get_within plan.objects place line at in
      let before = halted_from plan 0 (take place plan.objects) in
      sym (ap (λ (l : List ObjectLine). halted_with_stop plan l) (take_more plan.objects place line within ∙ ap (λ (x : ObjectLine). take place plan.objects ++ x ∷ []) (get_or_from_slice_get plan.objects place line line at))
      ∙ ap (λ (l : List ℕ). stop ∷ (halted_starts plan ++ l)) (from_append 0 (take place plan.objects) line ∙ ap (λ (n : ℕ). before ++ halted_at plan n line.kind) (omega (arith, length-take-le place plan.objects (omega arith))))
      ∙ ap (λ (l : List ℕ). stop ∷ l) (sym (append_assoc (halted_starts plan) before (halted_at plan place line.kind))))

  -- all that the workload declares was halted
  pub all_halted : (misuse : Misuse) (place : ℕ) (old new : Desk) → length plan.objects ≤ place → Works (halting misuse (halted_with_stop plan (take place plan.objects))) old (Done (Ok tt)) new → HaltsAll plan misuse old new
  all_halted misuse place old new whole halted =
      let works = halts_as misuse _ (halted_with_stop plan plan.objects) old new (ap (λ (l : List ObjectLine). halted_with_stop plan l) (take_all place plan.objects whole)) halted in
      record {
        items = works.items;
        moves = works.moves;
        halts = All-from_recursion (IsHalt misuse) works.items works.spelt.0;
        order = works.spelt.1;
      }

  -- the parts of a pool are what is halted for it
  pub pool_halted : (place first workers : ℕ) (kind : ObjectKind) → kind ≡ kinds.Pool → first ≡ first_part plan place → plan.workers ≡ workers → range_with_len first workers ≡ halted_at plan place kind
  pool_halted place first workers kind is begins all =
      ap (λ (n : ℕ). range_with_len n workers) begins ∙ ap (λ (n : ℕ). range_with_len (first_part plan place) n) (sym all) ∙ ap (λ (k : ObjectKind). halted_at plan place k) (sym is)

pub no_pool : (kind : ObjectKind) → (kind ≡ kinds.Pool → ⊥) → is_pool kind ≡ false
no_pool kinds.Pool apart = absurd (apart refl)
no_pool kind apart = refl

pub line_at : (lines : List ObjectLine) (place : ℕ) → place < length lines → (line : ObjectLine) × (slice_get lines place ≡ Some line)
line_at [] place below = absurd (omega arith)
line_at (x ∷ lines) zero below = (x, refl)
line_at (x ∷ lines) (suc place) below = line_at lines place (omega arith)

module _ {N H : Type 0} where
  -- Stop, Starts, and a part of a pool, can be halted
  pub halts_stop : (number : ℕ) (object : AnyObject N H) → IsStop object → halted_one number object ≡ number ∷ []
  halts_stop number objects.Shared is = absurd is
  halts_stop number object is = refl

  pub halts_starts : (number : ℕ) (object : AnyObject N H) → IsStarts object → halted_one number object ≡ number ∷ []
  halts_starts number (objects.Starts o) is = refl
  halts_starts number object is = absurd is

  pub halts_part : (number : ℕ) (object : AnyObject N H) → HasWord words.Pool object → halted_one number object ≡ number ∷ []
  halts_part number objects.Shared is = absurd is
  halts_part number object is = refl

  -- of an object that is no pool itself is halted, if it can be
  pub halts_declared : (at : H → N → Type 0) (home : H) (plan : Plan) (place : ℕ) (kind : ObjectKind) (object : AnyObject N H) → (kind ≡ kinds.Pool → ⊥) → IsDeclared at home plan place kind object → halted_one (object_number place) object ≡ halted_at plan place kind
  halts_declared at home plan place kinds.Pool object apart is = absurd (apart refl)
  halts_declared at home plan place kind objects.Shared apart is = search
  halts_declared at home plan place kind object apart is = search

module _ {K : Type 0} (owner : K → Option Holding) (front : K → Front) (was note : K) (counted : IsCounted (owner was) (front was).counts) (kept : owner note ≡ owner was) (number : ℕ) (misuse : Misuse) (old new : List ObjectEntry) where
  -- what the caller has done on the object before, and after
  abbrev start : Desk
  start = desk_at owner front number old was

  abbrev desk : Desk
  desk = desk_at owner front number new note

  one_more : (halts : Halts misuse (front was) (front note) old new) (here : Bool) → cond here new [] ≡ cond here old [] ++ cond here (halts.entry ∷ []) []
  one_more halts true = halts.own
  one_more halts false = refl

  halts_once : Counts → Halts misuse (front was) (front note) old new → Works (halting misuse (number ∷ [])) start (Done (Ok tt)) desk
  halts_once counts halts = record {
    items = Entered number halts.entry ∷ [];
    moves = record {
      worker = ap number_in kept;
      owns = λ object. one_more halts (number == object);
      calls = ap items_of kept ∙ sym (append-nil (items_of (owner was)));
      numbers = [];
      times = ap times_by kept ∙ sym (append-nil (times_by (owner was)));
      fronts = (subst (λ (f : Front). Later f (front was)) (sym halts.known) halts.later, subst (λ (f : Front). NoLess (front note) f) (sym halts.known) (λ i. omega arith, omega arith));
      counts = λ worker is. (ap (λ (f : Front). slice_index f.counts worker) halts.known ∙ ap (λ (l : List ℕ). slice_index l worker) halts.same ∙ counts (owner was) (front was).counts worker counted is, tt);
    };
    spelt = ((halts.deed, tt), refl, refl);
  }

  abbrev desk_from : Option Holding → Front → List ObjectEntry → Desk
  desk_from own knows entries = record { owns = alone number entries; calls = items_of own; times = times_by own; front = knows; worker = number_in own }

  leaves_it : Stays → new ≡ old → front note ≡ front was → Works (halting misuse []) start (Done (Ok tt)) desk
  leaves_it stays same knows =
      subst (λ (own : Option Holding). Works (halting misuse []) start (Done (Ok tt)) (desk_from own (front note) new)) (sym kept)
      (subst (λ (f : Front). Works (halting misuse []) start (Done (Ok tt)) (desk_from (owner was) f new)) (sym knows)
      (subst (λ (l : List ObjectEntry). Works (halting misuse []) start (Done (Ok tt)) (desk_from (owner was) (front was) l)) (sym same) (rests stays (halting misuse []) start (Done (Ok tt)) (tt, refl, refl))))

  -- halting an object of whatever kind
  pub halted_any : Stays → Counts → {N H : Type 0} (object : AnyObject N H) → AreHalted object misuse (front was) (front note) old new → Works (halting misuse (halted_one number object)) start (Done (Ok tt)) desk
  halted_any stays counts objects.Shared halted = leaves_it stays halted.0 halted.1
  halted_any stays counts object halted = halts_once counts halted
