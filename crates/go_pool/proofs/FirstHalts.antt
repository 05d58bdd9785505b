-- Halting all parts, and what all passes tell of the first halt.
use Rattle.std.proofs.Common.{◌≡◌, ◌≢◌, inl, inr, ℕ, suc, ◌+◌, ◌<◌, ◌≤◌, ◌==◌, true, false, cond, List, [], ◌∷◌, ◌++◌, length, get_or, set, Option, Some, None, refl, sym, ap, ◌∙◌, subst, arith, le_refl, length-set}
use Rattle.std.specs.List.{slice_get}
use Rattle.std.specs.Option.{option_and_then}
use Rattle.std.proofs.lemmas.Bool.{cases_eq}
use Rattle.std.proofs.lemmas.Bool.Decides.{nat_tests}
use Rattle.std.proofs.lemmas.List.{length-append, get_or_append_left, get_or-append-add}
use Rattle.std.proofs.lemmas.Option.{slice_get_within}
use Rattle.sync_types.specs.declared.misuse.Misuse.{Misuse}
use Rattle.sync_model.specs.declared.journal.Deed.TheVariants.{Halt}
use Rattle.sync_model.specs.Front.{Front, SameCounts}
use Rattle.sync_model.specs.Journal.{by, Follows}
use Rattle.sync_model.specs.Journal as journals
use Rattle.pool_core.specs.declared.pool_event.PoolEvent.{PoolEvent}
use Rattle.pool_core.specs.declared.pool_event.PoolReply.{PoolReply}
use Rattle.pool_core.specs.Edges.{pool_releases, pool_acquires}
use Rattle.pool_core.specs.PartMachine.{PartState, part_start, part_next}
use Rattle.protocols.specs.PoolStages.{pool_stands}
use Rattle.ruled_object.specs.declared.object.Object.{Object}
use Rattle.ruled_object.specs.Gathered as gathered
use Rattle.ruled_object.specs.Growth as growth
use Rattle.ruled_object.specs.Passes as object
use Rattle.call_loop.specs.Between.{AreAllBetween}
use Rattle.go_pool.specs.declared.pass.PoolPass.{PoolPass}
use Rattle.go_pool.specs.declared.pool.Pool.{Pool}
use Rattle.go_pool.specs.Halting.{HaltsAt, AreColumnsOf, AreToldOf, AreTold, AreColumns, IsTold}
use Rattle.go_pool.specs.Parts.{PoolEntry, PartPass, PartJournal, pass_at, cell}
use Rattle.go_pool.specs.Pools.{Journal, journal_at, halt_of, number_of, parts_of, room_of, AreAllPasses, SamePasses, IsWhole, IsSeen, Adds}
use Rattle.go_pool.specs.Tables.{IsSquare, KeepsRows}
use Rattle.go_pool.proofs.Seats.{same_found}
use Rattle.go_pool.proofs.TableSteps.{cond_true, cond_false, there, get_other, set_found, set_rows, rows_then}

-- ---- halting

-- the entry that halts a part of a caller with this number and front
abbrev pub halt_by : ℕ → Misuse → Front → PoolEntry
halt_by caller misuse front = record { caller = caller; deed = Halt misuse; front = front.counts; time = front.time; knew = 0 }

halt_is : (e : PoolEntry) (caller time knew : ℕ) (misuse : Misuse) (front : Front) → e.caller ≡ caller → e.deed ≡ Halt misuse → e.front ≡ front.counts → e.time ≡ time → e.knew ≡ knew → e ≡ record (halt_by caller misuse front) { time = time; knew = knew }
halt_is e caller time knew misuse front a b c t d = λ i. record { caller = a i; deed = b i; front = c i; time = t i; knew = d i }

module _ {N H : Type 0} (pool : Pool N H) where
  -- an entry that halts a part was added, with this number
  abbrev IsHalted : ℕ → Misuse → Front → ℕ → PartPass N → PartPass N → Type 0
  IsHalted caller misuse front time before after =
      object.Adds part_next true pool_releases pool_acquires (part_start (room_of pool)) before (record (halt_by caller misuse front) { time = time; knew = length (object.seen_by before) }) after

  -- the first so many parts were halted, one after the other
  pub record HaltedSo (misuse : Misuse) (from : Front) (count : ℕ) (old new : PoolPass N) (to : Front) : Type 0 where
    pub times : ℕ → ℕ
    pub each : (part : ℕ) (before after : PartPass N) → part < count → pass_at part old ≡ Some before → pass_at part new ≡ Some after → IsHalted (number_of old) misuse from (times part) before after
    pub rest : (part : ℕ) → count ≤ part → pass_at part new ≡ pass_at part old
    pub past : (part : ℕ) → part < count → from.time < times part
    pub rise : (part later : ℕ) → part < later → later < count → times part < times later
    pub within : (part : ℕ) → part < count → times part ≤ to.time
    pub last : (part : ℕ) → part + 1 ≡ count → times part ≡ to.time
    pub same : SameCounts to from
    pub least : from.time ≤ to.time

  pub none_halted : (misuse : Misuse) (front : Front) (pass : PoolPass N) → HaltedSo misuse front 0 pass pass front
  none_halted misuse front pass = record {
    times = λ part. 0;
    each = λ part before after below. absurd (omega arith);
    rest = λ part past. refl;
    past = λ part below. absurd (omega arith);
    rise = λ part later less below. absurd (omega arith);
    within = λ part below. absurd (omega arith);
    last = λ part is. absurd (omega arith);
    same = refl;
    least = le_refl front.time;
  }

  -- one part more
  module _ (misuse : Misuse) (from between to : Front) (count : ℕ) (old mid new : PoolPass N) (numbers : (p : PartPass N) → pass_at count old ≡ Some p → object.number_of p ≡ number_of old) (so : HaltedSo misuse from count old mid between)
      (halts : HaltsAt pool count misuse to mid new) (later : between.time < to.time) (same : SameCounts to between) where
    abbrev times_on : ℕ → ℕ
    times_on part = cond (part == count) to.time (so.times part)

    at_last : (part : ℕ) → part ≡ count → times_on part ≡ to.time
    at_last part is = cond_true (part == count) to.time (so.times part) (grind (arith, nat_tests))

    before_last : (part : ℕ) → part ≢ count → times_on part ≡ so.times part
    before_last part apart = cond_false (part == count) to.time (so.times part) (grind (arith, nat_tests))

    kept : (part : ℕ) → part ≢ count → pass_at part new ≡ pass_at part mid
    kept part apart = ap (λ (l : List (PartPass N)). slice_get l part) halts.set_is ∙ get_other mid.parts.items count part halts.after apart

    here : (part : ℕ) (before after : PartPass N) → part ≡ count → pass_at part old ≡ Some before → pass_at part new ≡ Some after → IsHalted (number_of old) misuse from to.time before after
    here part before after is was now =
        let was_here : pass_at count old ≡ Some before = ap (λ (k : ℕ). pass_at k old) (sym is) ∙ was in
        let is_before : halts.before ≡ before = same_found old.parts.items count halts.before before (sym (so.rest count (omega arith)) ∙ halts.was) was_here in
        let is_after : after ≡ halts.after = set_found mid.parts.items count halts.after after (ap (λ (l : List (PartPass N)). slice_get l count) (sym halts.set_is) ∙ (ap (λ (k : ℕ). pass_at k new) (sym is) ∙ now)) in
        let adds = subst (λ (p : PartPass N). object.Adds part_next true pool_releases pool_acquires (part_start (room_of pool)) p halts.entry halts.after) is_before halts.adds in
        let counts : halts.entry.front ≡ from.counts = ap (λ (f : Front). f.counts) halts.known ∙ (same ∙ so.same) in
        let entry = halt_is halts.entry (number_of old) to.time (length (object.seen_by before)) misuse from (adds.caller ∙ numbers before was_here) halts.deed counts (ap (λ (f : Front). f.time) halts.known) adds.knew in
        subst (λ (p : PartPass N). IsHalted (number_of old) misuse from to.time before p) (sym is_after)
        (subst (λ (e : PoolEntry). object.Adds part_next true pool_releases pool_acquires (part_start (room_of pool)) before e halts.after) entry adds)

    pub halted_on : HaltedSo misuse from (count + 1) old new to
    halted_on = record {
      times = times_on;
      each = λ part before after below was now. elim (cases_eq part count) [
        | inl is ↦ subst (λ (t : ℕ). IsHalted (number_of old) misuse from t before after) (sym (at_last part is)) (here part before after is was now)
        | inr apart ↦ subst (λ (t : ℕ). IsHalted (number_of old) misuse from t before after) (sym (before_last part apart)) (so.each part before after (omega arith) was (sym (kept part apart) ∙ now))
      ];
      rest = λ part past. kept part (λ e. omega arith) ∙ so.rest part (omega arith);
      past = λ part below. elim (cases_eq part count) [
        | inl is ↦ subst (λ (t : ℕ). from.time < t) (sym (at_last part is)) (let least = so.least in omega arith)
        | inr apart ↦ subst (λ (t : ℕ). from.time < t) (sym (before_last part apart)) (so.past part (omega arith))
      ];
      rise = λ part next less below.
          let mine : times_on part ≡ so.times part = before_last part (λ e. omega arith) in
          subst (λ (t : ℕ). t < times_on next) (sym mine) (elim (cases_eq next count) [
            | inl is ↦ subst (λ (t : ℕ). so.times part < t) (sym (at_last next is)) (let most = so.within part (omega arith) in omega arith)
            | inr apart ↦ subst (λ (t : ℕ). so.times part < t) (sym (before_last next apart)) (so.rise part next less (omega arith))
          ]);
      within = λ part below. elim (cases_eq part count) [
        | inl is ↦ subst (λ (t : ℕ). t ≤ to.time) (sym (at_last part is)) (le_refl to.time)
        | inr apart ↦ subst (λ (t : ℕ). t ≤ to.time) (sym (before_last part apart)) (let most = so.within part (omega arith) in omega arith)
      ];
      last = λ part is. at_last part (omega arith);
      same = same ∙ so.same;
      least = let least = so.least in omega arith;
    }

  module _ (misuse : Misuse) (from : Front) (count : ℕ) (old new : PoolPass N) (to : Front) (so : HaltedSo misuse from count old new to) where
    -- all parts were halted
    pub all_halted : length old.parts.items ≡ parts_of pool → count ≡ parts_of pool → Adds pool old from (record (halt_by (number_of old) misuse from) { time = to.time }) new
    all_halted long all = record {
      times = so.times;
      past = λ part below. so.past part (omega arith);
      rise = λ part later less below. so.rise part later less (omega arith);
      last = λ part is. so.last part (omega arith);
      each = λ part before after was now. so.each part before after (let w = slice_get_within old.parts.items part before was in omega arith) was now;
    }

    pub later_so : 0 < count → from.time < to.time
    later_so some = let first = so.past 0 some in let most = so.within 0 some in omega arith

-- ---- the first halt

not_first : (part n : ℕ) → part ≡ suc n → (part == 0) ≡ false
not_first part n is = grind (arith, nat_tests)

first_on : (journal : Journal) (last : PartJournal) (part : ℕ) (first halted then_first : Option Misuse) → length journal ≡ part → (0 < part → first ≡ halt_of journal) → halted ≡ journals.halt_of last → then_first ≡ cond (part == 0) halted first → then_first ≡ halt_of (journal ++ last ∷ [])
first_on [] last part first halted then_first count before told is = is ∙ (ap (λ (k : ℕ). cond (k == 0) halted first) (sym count) ∙ told)
first_on (x ∷ journal) last part first halted then_first count before told is =
    is ∙ (cond_false (part == 0) halted first (not_first part (length journal) (sym count)) ∙ before (let c = count in omega arith))

module _ {M N H : Type 0} where
  pub record ToldSo (objects : List (Object M N (PartState ℕ) (PoolEvent ℕ) (PoolReply ℕ) H)) (old : List (PoolPass N)) (part : ℕ) (first : Option Misuse) (columns : List (PoolPass N)) : Type 0 where
    pub are : AreColumnsOf objects columns
    pub rows : KeepsRows old columns
    pub rest : (other : ℕ) → part ≤ other → slice_get columns other ≡ slice_get old other
    pub journal : Journal
    pub count : length journal ≡ part
    pub first_is : 0 < part → first ≡ halt_of journal
    pub told : AreToldOf objects journal old columns

  pub none_told : (objects : List (Object M N (PartState ℕ) (PoolEvent ℕ) (PoolReply ℕ) H)) (columns : List (PoolPass N)) (first : Option Misuse) → AreColumnsOf objects columns → KeepsRows columns columns → ToldSo objects columns 0 first columns
  none_told objects columns first are rows = record {
    are = are;
    rows = rows;
    rest = λ other past. refl;
    journal = [];
    count = refl;
    first_is = λ some. absurd (omega arith);
    told = record { each = λ part o before after below. absurd (omega arith) };
  }

  pub told_on : (objects : List (Object M N (PartState ℕ) (PoolEvent ℕ) (PoolReply ℕ) H)) (old columns : List (PoolPass N)) (part : ℕ) (o : Object M N (PartState ℕ) (PoolEvent ℕ) (PoolReply ℕ) H) (row new_row : PoolPass N) (first halted then_first : Option Misuse) (last : PartJournal)
      → ToldSo objects old part first columns → slice_get objects part ≡ Some o → slice_get columns part ≡ Some row → new_row.number ≡ row.number → new_row.left ≡ row.left → AreAllBetween tt pool_stands o new_row.parts.items → IsTold o last row.parts.items new_row.parts.items
      → halted ≡ journals.halt_of last → then_first ≡ cond (part == 0) halted first → ToldSo objects old (part + 1) then_first (set columns part new_row)
  told_on objects old columns part o row new_row first halted then_first last so at_o at_row number left between tells told is = record {
    are = record {
      count = length-set columns part new_row ∙ so.are.count;
      each = λ other one column at_one at_column. elim (cases_eq other part) [
        | inl same ↦ between_here other one column same (same_found objects part o one at_o (ap (slice_get objects) (sym same) ∙ at_one)) (set_found columns part new_row column (ap (slice_get (set columns part new_row)) (sym same) ∙ at_column))
        | inr apart ↦ so.are.each other one column at_one (sym (get_other columns part other new_row apart) ∙ at_column)
      ];
    };
    rows = rows_then old columns (set columns part new_row) so.rows (set_rows columns part row new_row at_row number left tells.count);
    rest = λ other past. get_other columns part other new_row (λ e. omega arith) ∙ so.rest other (omega arith);
    journal = so.journal ++ last ∷ [];
    count = length-append so.journal (last ∷ []) ∙ ap (λ (k : ℕ). k + 1) so.count;
    first_is = λ some. first_on so.journal last part first halted then_first so.count so.first_is told is;
    told = record {
      each = λ other one before after below at_one at_before at_after. elim (cases_eq other part) [
        | inl same ↦ told_here other one before after same
            (same_found objects part o one at_o (ap (slice_get objects) (sym same) ∙ at_one))
            (same_found old part row before (sym (so.rest part (omega arith)) ∙ at_row) (ap (slice_get old) (sym same) ∙ at_before))
            (set_found columns part new_row after (ap (slice_get (set columns part new_row)) (sym same) ∙ at_after))
        | inr apart ↦
            let earlier : other < length so.journal = (let c = so.count in let l = length-append so.journal (last ∷ []) in omega arith) in
            subst (λ (j : PartJournal). IsTold one j before.parts.items after.parts.items) (sym (get_or_append_left so.journal (last ∷ []) [] other earlier))
            (so.told.each other one before after earlier at_one at_before (sym (get_other columns part other new_row apart) ∙ at_after))
      ];
    };
  } where
    between_here : (other : ℕ) (one : Object M N (PartState ℕ) (PoolEvent ℕ) (PoolReply ℕ) H) (column : PoolPass N) → other ≡ part → o ≡ one → column ≡ new_row → AreAllBetween tt pool_stands one column.parts.items
    between_here other one column same is_one is_new =
        subst (λ (z : Object M N (PartState ℕ) (PoolEvent ℕ) (PoolReply ℕ) H). AreAllBetween tt pool_stands z column.parts.items) is_one (subst (λ (z : PoolPass N). AreAllBetween tt pool_stands o z.parts.items) (sym is_new) between)

    last_is : (other : ℕ) → other ≡ part → journal_at other (so.journal ++ last ∷ []) ≡ last
    last_is other same = ap (λ (k : ℕ). get_or (so.journal ++ last ∷ []) k []) (at_end other same) ∙ get_or-append-add so.journal (last ∷ []) 0 [] where
      at_end : (other : ℕ) → other ≡ part → other ≡ length so.journal + 0
      at_end other same = let c = so.count in omega arith

    told_here : (other : ℕ) (one : Object M N (PartState ℕ) (PoolEvent ℕ) (PoolReply ℕ) H) (before after : PoolPass N) → other ≡ part → o ≡ one → row ≡ before → after ≡ new_row → IsTold one (journal_at other (so.journal ++ last ∷ [])) before.parts.items after.parts.items
    told_here other one before after same is_one is_row is_new =
        subst (λ (j : PartJournal). IsTold one j before.parts.items after.parts.items) (sym (last_is other same))
        (subst (λ (z : Object M N (PartState ℕ) (PoolEvent ℕ) (PoolReply ℕ) H). IsTold z last before.parts.items after.parts.items) is_one
        (subst (λ (z : PoolPass N). IsTold o last z.parts.items after.parts.items) is_row (subst (λ (z : PoolPass N). IsTold o last row.parts.items z.parts.items) (sym is_new) tells)))

-- ---- from rows to columns and back

module _ {N : Type 0} where
  pub cell_found : (ps : List (PoolPass N)) (i j : ℕ) (p : PartPass N) → cell ps i j ≡ Some p → (row : PoolPass N) × (slice_get ps i ≡ Some row) × (pass_at j row ≡ Some p)
  cell_found ps i j p is = by_row (slice_get ps i) refl is where
    by_row : (o : Option (PoolPass N)) → slice_get ps i ≡ o → option_and_then (pass_at j) o ≡ Some p → (row : PoolPass N) × (slice_get ps i ≡ Some row) × (pass_at j row ≡ Some p)
    by_row None at found = cc
    by_row (Some row) at found = (row, at, found)

  pub cell_of : (ps : List (PoolPass N)) (i j : ℕ) (row : PoolPass N) → slice_get ps i ≡ Some row → cell ps i j ≡ pass_at j row
  cell_of ps i j row is = ap (option_and_then (pass_at j)) is

module _ {N H : Type 0} (pool : Pool N H) where
  pub square_all : (passes : List (PoolPass N)) → AreAllPasses pool passes → IsSquare passes
  square_all passes all caller pass at_pass = (all.each caller pass at_pass).0.seats.count ∙ (pool.are.count ∙ sym all.count)

  pub are_columns : (passes columns : List (PoolPass N)) → AreAllPasses pool passes → KeepsRows passes columns → ((i j : ℕ) → cell columns i j ≡ cell passes j i) → AreColumns pool columns
  are_columns passes columns all rows turned = record {
    count = rows.count ∙ (all.count ∙ sym pool.are.count);
    each = λ part o column at_o at_column.
        let below = slice_get_within columns part column at_column in
        let old = there passes part (let c = rows.count in omega arith) in
        let is = (all.each part old.0 old.1).0 in record {
          count = (rows.each part old.0 column old.1 at_column).2 ∙ (is.seats.count ∙ (pool.are.count ∙ sym (pool.are.callers_are part o at_o)));
          each = λ i p at_p.
              let found = cell_found passes i part p (sym (turned part i) ∙ (cell_of columns part i column at_column ∙ at_p)) in
              let seat = all.each i found.0 found.1 in
              let here = seat.0.seats.each part o p at_o found.2 in
              (record { of = here.0; stands = refl }, here.1 ∙ seat.1);
        };
  }

  module _ (passes columns told back : List (PoolPass N)) (journal : Journal) (all : AreAllPasses pool passes) (rows : KeepsRows passes columns) (turned : (i j : ℕ) → cell columns i j ≡ cell passes j i) (are : AreColumns pool told) (rows_told : KeepsRows columns told) (tells : AreTold pool journal columns told)
      (rows_back : KeepsRows told back) (turned_back : (i j : ℕ) → cell back i j ≡ cell told j i) where
    rows_all : KeepsRows passes back
    rows_all = rows_then passes told back (rows_then passes columns told rows rows_told) rows_back

    pub same_passes : SamePasses passes back
    same_passes = record { count = rows_all.count; each = λ i before after was now. let kept = rows_all.each i before after was now in (kept.0, kept.1) }

    -- a part's passes before, and those after, which tell all that was done on it
    column : (part : ℕ) → part < parts_of pool
        → (before : PoolPass N) × (after : PoolPass N) × (slice_get columns part ≡ Some before) × (slice_get told part ≡ Some after) × (length before.parts.items ≡ length passes) × (length after.parts.items ≡ length before.parts.items)
        × gathered.IsWhole part_next true pool_releases pool_acquires (part_start (room_of pool)) (journal_at part journal) before.parts.items × gathered.IsSeen part_next true pool_releases pool_acquires (part_start (room_of pool)) (journal_at part journal) after.parts.items
    column part below =
        let one = there columns part (let c = rows.count in let a = all.count in omega arith) in
        let two = there told part (let c = rows.count in let t = rows_told.count in let a = all.count in omega arith) in
        let o = there pool.parts.items part (let a = pool.are.count in omega arith) in
        let old = there passes part (let a = all.count in omega arith) in
        let tell = tells.1.each part o.0 one.0 two.0 (let a = tells.0 in omega arith) o.1 one.1 two.1 in (
          one.0,
          two.0,
          one.1,
          two.1,
          (rows.each part old.0 one.0 old.1 one.1).2 ∙ square_all passes all part old.0 old.1,
          tell.count,
          subst (λ (s : PartState ℕ). gathered.IsWhole part_next true pool_releases pool_acquires s (journal_at part journal) one.0.parts.items) (pool.are.begun part o.0 o.1) tell.whole,
          subst (λ (s : PartState ℕ). gathered.IsSeen part_next true pool_releases pool_acquires s (journal_at part journal) two.0.parts.items) (pool.are.begun part o.0 o.1) tell.seen,
        )

    pub whole : IsWhole pool journal passes
    whole = record {
      count = tells.0;
      each = λ part below. let c = column part below in (c.0.parts.items, record { count = c.4; each = λ caller. sym (cell_of columns part caller c.0 c.2) ∙ turned part caller }, c.6);
    }

    pub seen : IsSeen pool journal back
    seen = record {
      count = tells.0;
      each = λ part below. let c = column part below in (c.1.parts.items, record { count = c.5 ∙ (c.4 ∙ sym rows_all.count); each = λ caller. sym (cell_of told part caller c.1 c.3) ∙ sym (turned_back caller part) }, c.7);
    }

    pub all_back : AreAllPasses pool back
    all_back = record {
      count = rows_all.count ∙ all.count;
      each = λ i pass at_pass.
          let below = slice_get_within back i pass at_pass in
          let old = there passes i (let c = rows_all.count in omega arith) in
          let kept = rows_all.each i old.0 pass old.1 at_pass in
          let was = all.each i old.0 old.1 in (
            record {
              caller = subst (λ (n : ℕ). n < parts_of pool) (sym kept.0) was.0.caller;
              seats = record {
                count = kept.2 ∙ was.0.seats.count;
                each = λ part o p at_o at_p.
                    let found = cell_found told part i p (sym (turned_back i part) ∙ (cell_of back i part pass at_pass ∙ at_p)) in
                    let here = (are.each part o found.0 at_o found.1).each i p found.2 in
                    (here.0.of, here.1 ∙ sym (kept.0 ∙ was.1));
              };
              lawful = λ part p at_p.
                  let found = cell_found told part i p (sym (turned_back i part) ∙ (cell_of back i part pass at_pass ∙ at_p)) in
                  let within = slice_get_within told part found.0 found.1 in
                  let o = there pool.parts.items part (let a = are.count in omega arith) in
                  let b = there columns part (let t = rows_told.count in omega arith) in
                  let tell = tells.1.each part o.0 b.0 found.0 (let t = tells.0 in let a = are.count in let n = pool.are.count in omega arith) o.1 b.1 found.1 in
                  let number = ((are.each part o.0 found.0 o.1 found.1).each i p found.2).1 in
                  let sees = tell.seen.all i p found.2 in
                  subst (λ (s : PartState ℕ). growth.IsLawful part_next true pool_releases pool_acquires s p) (pool.are.begun part o.0 o.1) (record {
                    own = tell.seen.whole.owns i p found.2 ∙ (ap (λ (n : ℕ). by n (journal_at part journal)) (sym number) ∙ ap (by (object.number_of p)) (sym sees));
                    follows = subst (λ (l : PartJournal). Follows part_next true (object.start_of o.0) None l) (sym sees) tell.seen.whole.follows;
                    edges = subst (λ (l : PartJournal). journals.KeepsEdges pool_releases pool_acquires l) (sym sees) tell.seen.whole.edges;
                    times = subst (λ (l : PartJournal). journals.TimesRise l) (sym sees) tell.seen.whole.times;
                  });
            },
            kept.0 ∙ was.1,
          );
    }

  -- passes that have seen all tell all
  pub whole_seen : (journal : Journal) (passes : List (PoolPass N)) → IsSeen pool journal passes → IsWhole pool journal passes
  whole_seen journal passes all = record { count = all.count; each = λ part below. let c = all.each part below in (c.0, c.1, c.2.whole) }
