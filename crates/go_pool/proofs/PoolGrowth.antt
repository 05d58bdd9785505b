-- What the calls of a pool add to the journals of its parts.
use Rattle.std.proofs.Common.{◌≡◌, ◌≢◌, inl, inr, ℕ, ◌==◌, Bool, true, false, cond, List, [], ◌∷◌, ◌++◌, map, Option, Some, None, refl, sym, ap, ◌∙◌, subst, append_assoc, append-nil, arith, le_refl}
use Rattle.std.specs.List.{AllByRecursion, slice_get, range_with_len}
use Rattle.std.specs.Option.{option_map_or}
use Rattle.std.proofs.lemmas.Bool.{cases_eq}
use Rattle.std.proofs.lemmas.Bool.Decides.{nat_tests}
use Rattle.std.proofs.lemmas.List.{map-append}
use Rattle.sync_types.specs.declared.misuse.Misuse.{Misuse}
use Rattle.sync_model.specs.declared.answer.Answer.{Answer}
use Rattle.sync_model.specs.declared.answer.Answer.TheVariants.{Done, Halted}
use Rattle.sync_model.specs.declared.journal.Deed.{Deed}
use Rattle.sync_model.specs.declared.journal.Deed.TheVariants.{Event, Refused}
use Rattle.sync_model.specs.Front.{Front, NoLess}
use Rattle.sync_model.specs.Journal.{front_at, Rising}
use Rattle.pool_core.specs.declared.pool_event.PoolEvent.{PoolEvent}
use Rattle.pool_core.specs.declared.pool_event.PoolReply.{PoolReply}
use Rattle.pool_core.specs.PartLaws.{about}
use Rattle.pool_core.specs.PartMachine.{part_start, part_next}
use Rattle.ruled_object.specs.Growth as growth
use Rattle.ruled_object.specs.Growth.{Leads, IsRight, entries_of, deeds_of, halt_before, MeetsHalt}
use Rattle.ruled_object.specs.Passes as object
use Rattle.go_pool.specs.declared.pass.PoolPass.{PoolPass}
use Rattle.go_pool.specs.declared.pool.Pool.{Pool}
use Rattle.go_pool.specs.AtParts.{DidAt}
use Rattle.go_pool.specs.Calls.{Single}
use Rattle.go_pool.specs.Parts.{PoolEntry, PartPass, PartJournal, own_of}
use Rattle.go_pool.specs.Pools.{Deeds, PartDeeds, Placed, deeds_at, in_part, all_of, AreDoneAt, number_of, seen_of, parts_of, room_of, Grows, Did}
use Rattle.go_pool.proofs.TableSteps.{get_set, get_other, cond_true, cond_false}

-- ---- entries of one part

-- these entries, in the journal of a part
abbrev pub at : ℕ → growth.Placed (PoolEvent ℕ) (PoolReply ℕ) → Placed
at part p = record { part = part; placed = p }

part_here : (part : ℕ) (es : List (growth.Placed (PoolEvent ℕ) (PoolReply ℕ))) → in_part part (map (at part) es) ≡ es
part_here part [] = refl
part_here part (p ∷ es) = cond_true (part == part) (p ∷ in_part part (map (at part) es)) (in_part part (map (at part) es)) (grind (arith, nat_tests)) ∙ ap (λ (l : List (growth.Placed (PoolEvent ℕ) (PoolReply ℕ))). p ∷ l) (part_here part es)

part_other : (part other : ℕ) (es : List (growth.Placed (PoolEvent ℕ) (PoolReply ℕ))) → other ≢ part → in_part other (map (at part) es) ≡ []
part_other part other [] apart = refl
part_other part other (p ∷ es) apart = cond_false (part == other) (p ∷ in_part other (map (at part) es)) (in_part other (map (at part) es)) (grind (arith, nat_tests)) ∙ part_other part other es apart

all_here : (part : ℕ) (es : List (growth.Placed (PoolEvent ℕ) (PoolReply ℕ))) → all_of (map (at part) es) ≡ es
all_here part [] = refl
all_here part (p ∷ es) = ap (λ (l : List (growth.Placed (PoolEvent ℕ) (PoolReply ℕ))). p ∷ l) (all_here part es)

pub deeds_here : (part : ℕ) (es : List (growth.Placed (PoolEvent ℕ) (PoolReply ℕ))) → deeds_at (map (at part) es) ≡ map (λ (d : Deed (PoolEvent ℕ) (PoolReply ℕ)). (part, d)) (deeds_of es)
deeds_here part [] = refl
deeds_here part (p ∷ es) = ap (λ (l : PartDeeds). (part, p.entry.deed) ∷ l) (deeds_here part es)

-- ---- entries behind others

append_by : (b : Bool) (p : growth.Placed (PoolEvent ℕ) (PoolReply ℕ)) (whole xs ys : List (growth.Placed (PoolEvent ℕ) (PoolReply ℕ))) → whole ≡ xs ++ ys → cond b (p ∷ whole) whole ≡ cond b (p ∷ xs) xs ++ ys
append_by true p whole xs ys is = ap (λ (l : List (growth.Placed (PoolEvent ℕ) (PoolReply ℕ))). p ∷ l) is
append_by false p whole xs ys is = is

part-append : (part : ℕ) (es fs : List Placed) → in_part part (es ++ fs) ≡ in_part part es ++ in_part part fs
part-append part [] fs = refl
part-append part (q ∷ es) fs = append_by (q.part == part) q.placed (in_part part (es ++ fs)) (in_part part es) (in_part part fs) (part-append part es fs)

leads-append : (seen mid now : PartJournal) (es fs : List (growth.Placed (PoolEvent ℕ) (PoolReply ℕ))) → Leads seen es mid → Leads mid fs now → Leads seen (es ++ fs) now
leads-append seen mid now [] fs at_first then_on = subst (λ (z : PartJournal). Leads z fs now) at_first then_on
leads-append seen mid now (e ∷ es) fs at_first then_on = (at_first.0, at_first.1, leads-append (e.before ++ e.entry ∷ []) mid now es fs at_first.2 then_on)

rising_from : (low from to : Front) (es : List PoolEntry) → NoLess from low → Rising from es to → Rising low es to
rising_from low from to [] more rising = ((λ c. let a = more.0 c in let b = rising.0 c in omega arith), let a = more.1 in let b = rising.1 in omega arith)
rising_from low from to (e ∷ es) more rising = (((λ c. let a = more.0 c in let b = rising.0.0 c in omega arith), let a = more.1 in let b = rising.0.1 in omega arith), rising.1)

rising-append : (from between to : Front) (es fs : List PoolEntry) → Rising from es between → Rising between fs to → Rising from (es ++ fs) to
rising-append from between to [] fs at_first then_on = rising_from from between to fs at_first then_on
rising-append from between to (e ∷ es) fs at_first then_on = (at_first.0, rising-append (front_at e) between to es fs at_first.1 then_on)

all-append : {A : Type 0} (P : A → Type 0) (xs ys : List A) → AllByRecursion P xs → AllByRecursion P ys → AllByRecursion P (xs ++ ys)
all-append P [] ys at_first then_on = then_on
all-append P (x ∷ xs) ys at_first then_on = (at_first.0, all-append P xs ys at_first.1 then_on)

pub done-append : (callers caller : ℕ) (one two : Deeds) (here later : PartDeeds) → AreDoneAt callers caller one here → AreDoneAt callers caller two later → AreDoneAt callers caller (one ++ two) (here ++ later)
done-append callers caller [] two here later at_first then_on = subst (AreDoneAt callers caller two) (ap (λ (l : PartDeeds). l ++ later) (sym at_first)) then_on
done-append callers caller (d ∷ one) two here later (first, rest, is, done, on) then_on =
    (first, rest ++ later, ap (λ (l : PartDeeds). l ++ later) is ∙ append_assoc first rest later, done, done-append callers caller one two rest later on then_on)

module _ {N H : Type 0} (pool : Pool N H) where
  -- nothing was done yet
  pub grows_none : (pass : PoolPass N) (front : Front) → Grows pool pass front [] pass front
  grows_none pass front = record { history = λ part. refl; mine = λ part. sym (append-nil (own_of part pass)); right = tt; fronts = ((λ c. omega arith), le_refl front.time); number = refl }

  -- what two calls add, one after the other
  pub grows_both : (old mid new : PoolPass N) (es fs : List Placed) (from between to : Front) → Grows pool old from es mid between → Grows pool mid between fs new to → Grows pool old from (es ++ fs) new to
  grows_both old mid new es fs from between to one two = record {
    history = λ part. subst (λ (l : List (growth.Placed (PoolEvent ℕ) (PoolReply ℕ))). Leads (seen_of part old) l (seen_of part new)) (sym (part-append part es fs))
        (leads-append (seen_of part old) (seen_of part mid) (seen_of part new) (in_part part es) (in_part part fs) (one.history part) (two.history part));
    mine = λ part.
        two.mine part ∙ (ap (λ (l : PartJournal). l ++ entries_of (in_part part fs)) (one.mine part) ∙ (append_assoc (own_of part old) (entries_of (in_part part es)) (entries_of (in_part part fs))
        ∙ ap (λ (l : PartJournal). own_of part old ++ l) (sym (ap entries_of (part-append part es fs) ∙ map-append (λ (p : growth.Placed (PoolEvent ℕ) (PoolReply ℕ)). p.entry) (in_part part es) (in_part part fs)))));
    right = subst (AllByRecursion (IsRight part_next true (part_start (room_of pool)) (number_of old))) (sym all)
        (all-append (IsRight part_next true (part_start (room_of pool)) (number_of old)) (all_of es) (all_of fs) one.right (subst (λ (n : ℕ). AllByRecursion (IsRight part_next true (part_start (room_of pool)) n) (all_of fs)) one.number two.right));
    fronts = subst (λ (l : List PoolEntry). Rising from l to) (sym (ap entries_of all ∙ map-append (λ (p : growth.Placed (PoolEvent ℕ) (PoolReply ℕ)). p.entry) (all_of es) (all_of fs)))
        (rising-append from between to (entries_of (all_of es)) (entries_of (all_of fs)) one.fronts two.fronts);
    number = two.number ∙ one.number;
  } where
    all : all_of (es ++ fs) ≡ all_of es ++ all_of fs
    all = map-append (λ (q : Placed). q.placed) es fs

  -- a pass that is good for fewer calls made the same
  pub grows_as : (old spent new : PoolPass N) (es : List Placed) (from to : Front) → spent.number ≡ old.number → spent.parts ≡ old.parts → Grows pool spent from es new to → Grows pool old from es new to
  grows_as old spent new es from to number parts grows = record {
    history = λ part. subst (λ (l : List (PartPass N)). Leads (option_map_or object.seen_by (slice_get l part) []) (in_part part es) (seen_of part new)) (ap (λ v. v.items) parts) (grows.history part);
    mine = λ part. grows.mine part ∙ ap (λ (l : List (PartPass N)). option_map_or object.own_by (slice_get l part) [] ++ entries_of (in_part part es)) (ap (λ v. v.items) parts);
    right = subst (λ (n : ℕ). AllByRecursion (IsRight part_next true (part_start (room_of pool)) n) (all_of es)) number grows.right;
    fronts = grows.fronts;
    number = grows.number ∙ number;
  }

  module _ {A : Type 0} {spells : Deeds → Answer A → Type 0} {timely : Deeds → Type 0} (part : ℕ) (old new : PoolPass N) (from to : Front) (answer : Answer A) (numbers : (p : PartPass N) → slice_get old.parts.items part ≡ Some p → object.number_of p ≡ number_of old)
      (did : DidAt pool part spells timely old from answer new to) where
    abbrev pub entries_at : List Placed
    entries_at = map (at part) did.did.entries

    -- what a call of one part added
    pub grows_at : Grows pool old from entries_at new to
    grows_at = record {
      history = λ other. elim (cases_eq other part) [
        | inl same ↦ subst (λ (k : ℕ). Leads (seen_of k old) (in_part k entries_at) (seen_of k new)) (sym same) history_here
        | inr apart ↦ subst (λ (l : List (growth.Placed (PoolEvent ℕ) (PoolReply ℕ))). Leads (seen_of other old) l (seen_of other new)) (sym (part_other part other did.did.entries apart)) (kept object.seen_by other apart)
      ];
      mine = λ other. elim (cases_eq other part) [
        | inl same ↦ subst (λ (k : ℕ). own_of k new ≡ own_of k old ++ entries_of (in_part k entries_at)) (sym same) mine_here
        | inr apart ↦ kept object.own_by other apart ∙ (sym (append-nil (own_of other old)) ∙ ap (λ (l : List (growth.Placed (PoolEvent ℕ) (PoolReply ℕ))). own_of other old ++ entries_of l) (sym (part_other part other did.did.entries apart)))
      ];
      right = subst (AllByRecursion (IsRight part_next true (part_start (room_of pool)) (number_of old))) (sym (all_here part did.did.entries))
          (subst (λ (n : ℕ). AllByRecursion (IsRight part_next true (part_start (room_of pool)) n) did.did.entries) (numbers did.before did.was) did.did.grows.right);
      fronts = subst (λ (l : List (growth.Placed (PoolEvent ℕ) (PoolReply ℕ))). Rising from (entries_of l) to) (sym (all_here part did.did.entries)) did.did.grows.fronts;
      number = did.number;
    } where
      kept : (what : PartPass N → PartJournal) (other : ℕ) → other ≢ part → option_map_or what (slice_get new.parts.items other) [] ≡ option_map_or what (slice_get old.parts.items other) []
      kept what other apart = ap (λ (o : Option (PartPass N)). option_map_or what o []) (ap (λ (l : List (PartPass N)). slice_get l other) did.set_is ∙ get_other old.parts.items part other did.after apart)

      was : (what : PartPass N → PartJournal) → option_map_or what (slice_get old.parts.items part) [] ≡ what did.before
      was what = ap (λ (o : Option (PartPass N)). option_map_or what o []) did.was

      is_now : (what : PartPass N → PartJournal) → option_map_or what (slice_get new.parts.items part) [] ≡ what did.after
      is_now what = ap (λ (o : Option (PartPass N)). option_map_or what o []) (ap (λ (l : List (PartPass N)). slice_get l part) did.set_is ∙ get_set old.parts.items part did.before did.after did.was)

      history_here : Leads (seen_of part old) (in_part part entries_at) (seen_of part new)
      history_here =
          subst (λ (l : List (growth.Placed (PoolEvent ℕ) (PoolReply ℕ))). Leads (seen_of part old) l (seen_of part new)) (sym (part_here part did.did.entries))
          (subst (λ (l : PartJournal). Leads l did.did.entries (seen_of part new)) (sym (was object.seen_by)) (subst (λ (l : PartJournal). Leads (object.seen_by did.before) did.did.entries l) (sym (is_now object.seen_by)) did.did.grows.history))

      mine_here : own_of part new ≡ own_of part old ++ entries_of (in_part part entries_at)
      mine_here =
          is_now object.own_by ∙ (did.did.grows.mine ∙ (ap (λ (l : PartJournal). l ++ entries_of did.did.entries) (sym (was object.own_by)) ∙ ap (λ (l : List (growth.Placed (PoolEvent ℕ) (PoolReply ℕ))). own_of part old ++ entries_of l) (sym (part_here part did.did.entries))))

    -- it met a halt exactly where the part did
    pub halted_at : MeetsHalt (all_of entries_at) answer
    halted_at = subst (λ (l : List (growth.Placed (PoolEvent ℕ) (PoolReply ℕ))). MeetsHalt l answer) (sym (all_here part did.did.entries)) did.did.halted

-- ---- a call of one event

-- an event about a part is done there alone
one_done : (callers caller part : ℕ) (event : PoolEvent ℕ) (reply : PoolReply ℕ) (done : PartDeeds) → about caller event ≡ Some part → done ≡ (part, Event event reply) ∷ [] → AreDoneAt callers caller (Event event reply ∷ []) done
one_done callers caller part event reply done is only =
    (done, [], sym (append-nil done), only ∙ ap (λ (o : Option ℕ). map (λ (k : ℕ). (k, Event event reply)) (option_map_or (λ (k : ℕ). let one : List ℕ = k ∷ [] in one) o (range_with_len 0 callers))) (sym is), refl)

one_refused : (callers caller part : ℕ) (event : PoolEvent ℕ) (misuse : Misuse) (done : PartDeeds) → about caller event ≡ Some part → done ≡ (part, Refused event misuse) ∷ [] → AreDoneAt callers caller (Refused event misuse ∷ []) done
one_refused callers caller part event misuse done is only =
    (done, [], sym (append-nil done), (0, part, ap (λ (o : Option ℕ). slice_get (option_map_or (λ (k : ℕ). let one : List ℕ = k ∷ [] in one) o (range_with_len 0 callers)) 0) is, only), refl)

module _ {N H A : Type 0} (pool : Pool N H) (part : ℕ) (old new : PoolPass N) (from to : Front) (event : PoolEvent ℕ) (reply : A → PoolReply ℕ) (numbers : (p : PartPass N) → slice_get old.parts.items part ≡ Some p → object.number_of p ≡ number_of old) (is : about (number_of old) event ≡ Some part) where
  single_done : (answer : Answer A) (es : List (growth.Placed (PoolEvent ℕ) (PoolReply ℕ))) → Single event reply (deeds_of es) answer → AreDoneAt (parts_of pool) (number_of old) (deeds_of es) (deeds_at (map (at part) es))
  single_done (Done given) es only =
      subst (λ (ds : Deeds). AreDoneAt (parts_of pool) (number_of old) ds (deeds_at (map (at part) es))) (sym only)
      (one_done (parts_of pool) (number_of old) part event (reply given) (deeds_at (map (at part) es)) is (deeds_here part es ∙ ap (map (λ (d : Deed (PoolEvent ℕ) (PoolReply ℕ)). (part, d))) only))
  single_done (Halted misuse) es only =
      subst (λ (ds : Deeds). AreDoneAt (parts_of pool) (number_of old) ds (deeds_at (map (at part) es))) (sym only)
      (one_refused (parts_of pool) (number_of old) part event misuse (deeds_at (map (at part) es)) is (deeds_here part es ∙ ap (map (λ (d : Deed (PoolEvent ℕ) (PoolReply ℕ)). (part, d))) only))

  pub did_single : (answer : Answer A) → DidAt pool part (λ ds a. Single event reply ds a) (λ ds. Unit {0}) old from answer new to → Did pool (λ ds a. Single event reply ds a) old from answer new to
  did_single answer did = record {
    deeds = deeds_of did.did.entries;
    entries = entries_at pool part old new from to answer numbers did;
    grows = grows_at pool part old new from to answer numbers did;
    done = single_done answer did.did.entries did.did.spelt;
    spelt = did.did.spelt;
    halted = halted_at pool part old new from to answer numbers did;
  }

-- ---- what the last entry tells

-- of several entries the last one tells whether a halt was met
last_of : (es : List (growth.Placed (PoolEvent ℕ) (PoolReply ℕ))) (f : growth.Placed (PoolEvent ℕ) (PoolReply ℕ)) (fs : List (growth.Placed (PoolEvent ℕ) (PoolReply ℕ))) → halt_before (es ++ f ∷ fs) ≡ halt_before (f ∷ fs)
last_of [] f fs = refl
last_of (x ∷ []) f fs = refl
last_of (x ∷ (y ∷ es)) f fs = last_of (y ∷ es) f fs

both_halts : (es fs : List (growth.Placed (PoolEvent ℕ) (PoolReply ℕ))) → halt_before es ≡ None → halt_before fs ≡ None → halt_before (es ++ fs) ≡ None
both_halts es [] one two = ap halt_before (append-nil es) ∙ one
both_halts es (f ∷ fs) one two = last_of es f fs ∙ two

then_halted : (es fs : List (growth.Placed (PoolEvent ℕ) (PoolReply ℕ))) (misuse : Misuse) → halt_before fs ≡ Some misuse → halt_before (es ++ fs) ≡ Some misuse
then_halted es [] misuse two = cc
then_halted es (f ∷ fs) misuse two = last_of es f fs ∙ two

pub last_halt : (es fs : List Placed) → halt_before (all_of es) ≡ None → halt_before (all_of fs) ≡ None → halt_before (all_of (es ++ fs)) ≡ None
last_halt es fs one two = ap halt_before (map-append (λ (q : Placed). q.placed) es fs) ∙ both_halts (all_of es) (all_of fs) one two

pub last_meets : (es fs : List Placed) (misuse : Misuse) → halt_before (all_of fs) ≡ Some misuse → halt_before (all_of (es ++ fs)) ≡ Some misuse
last_meets es fs misuse two = ap halt_before (map-append (λ (q : Placed). q.placed) es fs) ∙ then_halted (all_of es) (all_of fs) misuse two

-- ---- a call of the pool takes one off first

module _ {N H A : Type 0} (pool : Pool N H) (spells : Deeds → Answer A → Type 0) (old spent new : PoolPass N) (from to : Front) (answer : Answer A) where
  pub did_as : spent.number ≡ old.number → spent.parts ≡ old.parts → Did pool spells spent from answer new to → Did pool spells old from answer new to
  did_as number parts did = record {
    deeds = did.deeds;
    entries = did.entries;
    grows = grows_as pool old spent new did.entries from to number parts did.grows;
    done = subst (λ (n : ℕ). AreDoneAt (parts_of pool) n did.deeds (deeds_at did.entries)) number did.done;
    spelt = did.spelt;
    halted = did.halted;
  }
