-- The order of all items by their numbers.
use Rattle.std.proofs.Common.{◌≡◌, ◌⊎◌, inl, inr, ℕ, zero, suc, ◌<◌, ◌≤◌, ◌==◌, Bool, true, false, cond, List, [], ◌∷◌, length, take, Some, slice_get, slice_index, refl, sym, ap, ◌∙◌, subst, arith}
use Rattle.std.proofs.lemmas.Bool.{cases_order, eq-eqb, eqb-true}
use Rattle.std.proofs.lemmas.Option.{none-some, same_Some}
use Rattle.sync_model.specs.declared.item.Item.{Item}
use Rattle.sync_model.specs.Journal.{by}
use Rattle.sync_model.specs.SharedOrder.{IsAmong}
use Rattle.workload.specs.Plan.{Plan}
use Rattle.run_record.specs.declared.made.Made.{Made}
use Rattle.run_record.specs.declared.made.Made.TheVariants.{Shared, Entered}
use Rattle.run_record.specs.Explains.{IsRecordOf}
use Rattle.run_record.specs.InOneOrder.{InOneOrder, number_behind}
use Rattle.run_record.specs.Record.{Record, ObjectEntry, journal_of, list_of, shared_in, entries_in}
use Rattle.run_laws.specs.Order.{ItemOf, IsBefore, IsSame, InList, InJournal, InHistory, Step, Leads, First, time_of}

-- what an item is an entry of, and which
abbrev pub object_in : ℕ → Made → ℕ
object_in none (Shared x) = none
object_in none (Entered object entry) = object

abbrev pub entry_in : ObjectEntry → Made → ObjectEntry
entry_in none (Shared x) = none
entry_in none (Entered object entry) = entry

pub same_object : (object other : ℕ) (x y : ObjectEntry) → Entered object x ≡ Entered other y → object ≡ other
same_object object other x y is = ap (object_in object) is

pub same_entry : (object other : ℕ) (x y : ObjectEntry) → Entered object x ≡ Entered other y → x ≡ y
same_entry object other x y is = ap (entry_in x) is

-- an entry of a journal is among its caller's
by_at : (journal : List ObjectEntry) (n : ℕ) (x : ObjectEntry) → slice_get journal n ≡ Some x → (k : ℕ) × (slice_get (by x.caller journal) k ≡ Some x)
by_at [] n x at = absurd (none-some x at)
by_at (y ∷ journal) zero x at = subst (λ (z : ObjectEntry). (k : ℕ) × (slice_get (by x.caller (z ∷ journal)) k ≡ Some x)) (sym (same_Some y x at))
    (0, ap (λ (b : Bool). slice_get (cond b (x ∷ by x.caller journal) (by x.caller journal)) 0) (eq-eqb x.caller x.caller refl))
by_at (y ∷ journal) (suc n) x at = chosen (y.caller == x.caller) (by_at journal n x at) where
  chosen : (b : Bool) → (k : ℕ) × (slice_get (by x.caller journal) k ≡ Some x) → (k : ℕ) × (slice_get (cond b (y ∷ by x.caller journal) (by x.caller journal)) k ≡ Some x)
  chosen true (k, is) = (suc k, is)
  chosen false there = there

-- and what is among a worker's entries stands in the journal
from_by : (worker : ℕ) (journal : List ObjectEntry) (k : ℕ) (x : ObjectEntry) → slice_get (by worker journal) k ≡ Some x → (n : ℕ) × (slice_get journal n ≡ Some x)
from_by worker [] k x at = absurd (none-some x at)
from_by worker (y ∷ journal) k x at = chosen (y.caller == worker) (λ j is. from_by worker journal j x is) k at where
  chosen : (b : Bool) → ((j : ℕ) → slice_get (by worker journal) j ≡ Some x → (n : ℕ) × (slice_get journal n ≡ Some x)) → (k : ℕ) → slice_get (cond b (y ∷ by worker journal) (by worker journal)) k ≡ Some x
      → (n : ℕ) × (slice_get (y ∷ journal) n ≡ Some x)
  chosen true on zero is = (0, is)
  chosen true on (suc j) is = let there = on j is in (suc there.0, there.1)
  chosen false on j is = let there = on j is in (suc there.0, there.1)

-- the same of a list and its entries of one object
module _ (object : ℕ) where
  from_entries : (list : List Made) (k : ℕ) (x : ObjectEntry) → slice_get (entries_in object list) k ≡ Some x → (i : ℕ) × (slice_get list i ≡ Some (Entered object x))
  from_entries [] k x at = absurd (none-some x at)
  from_entries (Shared y ∷ list) k x at = let there = from_entries list k x at in (suc there.0, there.1)
  from_entries (Entered other y ∷ list) k x at = chosen (other == object) refl (λ j is. from_entries list j x is) k at where
    chosen : (b : Bool) → (other == object) ≡ b → ((j : ℕ) → slice_get (entries_in object list) j ≡ Some x → (i : ℕ) × (slice_get list i ≡ Some (Entered object x))) → (k : ℕ)
        → slice_get (cond b (y ∷ entries_in object list) (entries_in object list)) k ≡ Some x → (i : ℕ) × (slice_get (Entered other y ∷ list) i ≡ Some (Entered object x))
    chosen true same on zero is = (0, ap (λ (n : ℕ). Some (Entered n y)) (eqb-true other object same) ∙ ap (λ (e : ObjectEntry). Some (Entered object e)) (same_Some y x is))
    chosen true same on (suc j) is = let there = on j is in (suc there.0, there.1)
    chosen false apart on j is = let there = on j is in (suc there.0, there.1)

  entries_at : (list : List Made) (i : ℕ) (x : ObjectEntry) → slice_get list i ≡ Some (Entered object x) → (k : ℕ) × (slice_get (entries_in object list) k ≡ Some x)
  entries_at [] i x at = absurd (none-some (Entered object x) at)
  entries_at (y ∷ list) zero x at = subst (λ (z : Made). (k : ℕ) × (slice_get (entries_in object (z ∷ list)) k ≡ Some x)) (sym (same_Some y (Entered object x) at))
      (0, ap (λ (b : Bool). slice_get (cond b (x ∷ entries_in object list) (entries_in object list)) 0) (eq-eqb object object refl))
  entries_at (Shared y ∷ list) (suc i) x at = entries_at list i x at
  entries_at (Entered other y ∷ list) (suc i) x at = chosen (other == object) (entries_at list i x at) where
    chosen : (b : Bool) → (k : ℕ) × (slice_get (entries_in object list) k ≡ Some x) → (k : ℕ) × (slice_get (cond b (y ∷ entries_in object list) (entries_in object list)) k ≡ Some x)
    chosen true (k, is) = (suc k, is)
    chosen false there = there

module _ (plan : Plan) (r : Record) (lawful : IsRecordOf plan r) where
  -- where an entry of a journal stands in its caller's list, and back
  pub in_list : (object n : ℕ) (x : ObjectEntry) → slice_get (journal_of r object) n ≡ Some x → (i : ℕ) × (slice_get (list_of r x.caller) i ≡ Some (Entered object x))
  in_list object n x at = let own = by_at (journal_of r object) n x at in
      from_entries object (list_of r x.caller) own.0 x (ap (λ (l : List ObjectEntry). slice_get l own.0) (lawful.once x.caller object) ∙ own.1)

  pub in_journal : (worker object i : ℕ) (x : ObjectEntry) → slice_get (list_of r worker) i ≡ Some (Entered object x) → (n : ℕ) × (slice_get (journal_of r object) n ≡ Some x)
  in_journal worker object i x at = let own = entries_at object (list_of r worker) i x at in
      from_by worker (journal_of r object) own.0 x (ap (λ (l : List ObjectEntry). slice_get l own.0) (sym (lawful.once worker object)) ∙ own.1)

-- the number at a place that a list has
number_at : (numbers : List ℕ) (n : ℕ) → n < length numbers → slice_get numbers n ≡ Some (slice_index numbers n)
number_at [] n within = absurd (omega (arith, within))
number_at (first ∷ numbers) zero within = refl
number_at (first ∷ numbers) (suc n) within = number_at numbers n (omega (arith, within))

-- a call of a list is one of its worker's calls
abbrev pub AreItems : Type 0
AreItems = (list : List Made) (i : ℕ) (x : Item) → slice_get list i ≡ Some (Shared x) → slice_get (shared_in list) (length (shared_in (take i list))) ≡ Some x

-- it has its number among those of the history's entries
abbrev pub AreAmong : Type 0
AreAmong = (r : Record) (order : InOneOrder r) (worker i : ℕ) (x : Item) → slice_get (list_of r worker) i ≡ Some (Shared x) → IsAmong order.entry_times x (number_behind (order.times worker) (take i (list_of r worker)) (Shared x))

module _ (r : Record) (order : InOneOrder r) where
  abbrev time : ItemOf r → ℕ
  time e = time_of r order e

  pub rises_in_list : (e f : ItemOf r) → InList r e f → time_of r order e < time_of r order f
  rises_in_list e f (same, before) =
      let at : slice_get (list_of r f.worker) e.place ≡ Some e.made = subst (λ (w : ℕ). slice_get (list_of r w) e.place ≡ Some e.made) same e.at in
      subst (λ (w : ℕ). number_behind (order.times w) (take e.place (list_of r w)) e.made < time_of r order f) (sym same) (order.lists f.worker e.place f.place e.made f.made before at f.at)

  event_time : (e : ItemOf r) (object : ℕ) (entry : ObjectEntry) → e.made ≡ Entered object entry → time e ≡ entry.time
  event_time e object entry is = ap (λ (m : Made). number_behind (order.times e.worker) (take e.place (list_of r e.worker)) m) is

  pub rises_in_journal : (e f : ItemOf r) → InJournal r e f → time_of r order e < time_of r order f
  rises_in_journal e f both =
      let less = order.journals both.object both.earlier both.later both.one both.other both.before both.first_at both.second_at in
      omega (arith, less, event_time e both.object both.one both.first, event_time f both.object both.other both.second)

  pub one_of_two : (e f : ItemOf r) → IsSame r e f ⊎ (First r order e f ⊎ First r order f e)
  one_of_two e f = by_worker (cases_order e.worker f.worker) where
    by_place : e.worker ≡ f.worker → (e.place ≡ f.place) ⊎ ((e.place < f.place) ⊎ (f.place < e.place)) → IsSame r e f ⊎ (First r order e f ⊎ First r order f e)
    by_place same (inl places) = inl (same, places)
    by_place same (inr (inl before)) = inr (inl (inl (rises_in_list e f (same, before))))
    by_place same (inr (inr behind)) = inr (inr (inl (rises_in_list f e (sym same, behind))))

    by_time : (e.worker < f.worker) ⊎ (f.worker < e.worker) → (time e ≡ time f) ⊎ ((time e < time f) ⊎ (time f < time e)) → IsSame r e f ⊎ (First r order e f ⊎ First r order f e)
    by_time apart (inr (inl less)) = inr (inl (inl less))
    by_time apart (inr (inr more)) = inr (inr (inl more))
    by_time (inl less) (inl times) = inr (inl (inr (times, less)))
    by_time (inr more) (inl times) = inr (inr (inr (sym times, more)))

    by_worker : (e.worker ≡ f.worker) ⊎ ((e.worker < f.worker) ⊎ (f.worker < e.worker)) → IsSame r e f ⊎ (First r order e f ⊎ First r order f e)
    by_worker (inl same) = by_place same (cases_order e.place f.place)
    by_worker (inr apart) = by_time apart (cases_order (time e) (time f))

  pub goes_on : (e f g : ItemOf r) → First r order e f → First r order f g → First r order e g
  goes_on e f g (inl x) (inl y) = inl (omega (arith, x, y))
  goes_on e f g (inl x) (inr (y, workers)) = inl (omega (arith, x, y))
  goes_on e f g (inr (x, workers)) (inl y) = inl (omega (arith, x, y))
  goes_on e f g (inr (x, workers)) (inr (y, others)) = inr (omega (arith, x, y), omega (arith, workers, others))

  pub never_back : (e : ItemOf r) → First r order e e → ⊥
  never_back e (inl less) = omega (arith, less)
  never_back e (inr (times, less)) = omega (arith, less)

  module _ (among : AreAmong) where
    -- the number of a call, among those of the history's entries
    among_entries : (e : ItemOf r) (x : Item) → e.made ≡ Shared x → IsAmong order.entry_times x (time e)
    among_entries e x is = subst (λ (m : Made). IsAmong order.entry_times x (number_behind (order.times e.worker) (take e.place (list_of r e.worker)) m)) (sym is)
        (among r order e.worker e.place x (e.at ∙ ap (λ (m : Made). Some m) is))

    -- of an entry and a later call the entry lies before the call's place
    pub seen_by : (e f : ItemOf r) (entry call : Item) → time_of r order e < time_of r order f → e.made ≡ Shared entry → f.made ≡ Shared call → entry.entry ≡ true → entry.place < call.place
    seen_by e f entry call less first second entered = by_place (cases_order entry.place call.place) where
      here : slice_get order.entry_times entry.place ≡ Some (time e)
      here = (among_entries e entry first).is entered

      no_later : (b : Bool) → call.entry ≡ b → call.place ≤ entry.place → ⊥
      no_later false none behind = let higher = (among_entries f call second).before none entry.place (time e) behind here in omega (arith, higher, less)
      no_later true also behind = by_places (cases_order call.place entry.place) where
        there : slice_get order.entry_times call.place ≡ Some (time f)
        there = (among_entries f call second).is also

        by_places : (call.place ≡ entry.place) ⊎ ((call.place < entry.place) ⊎ (entry.place < call.place)) → ⊥
        by_places (inl same) = let one = same_Some (time f) (time e) (sym there ∙ (ap (λ (n : ℕ). slice_get order.entry_times n) same ∙ here)) in omega (arith, one, less)
        by_places (inr (inl before)) = let lower = (among_entries e entry first).past call.place (time f) before there in omega (arith, lower, less)
        by_places (inr (inr more)) = omega (arith, more, behind)

      by_place : (entry.place ≡ call.place) ⊎ ((entry.place < call.place) ⊎ (call.place < entry.place)) → entry.place < call.place
      by_place (inl same) = absurd (no_later call.entry refl (omega (arith, same)))
      by_place (inr (inl before)) = before
      by_place (inr (inr more)) = absurd (no_later call.entry refl (omega (arith, more)))

    -- and of a call and a later entry the call's place is no later
    pub unseen_by : (e f : ItemOf r) (entry call : Item) → time_of r order e < time_of r order f → e.made ≡ Shared call → f.made ≡ Shared entry → entry.entry ≡ true → call.place ≤ entry.place
    unseen_by e f entry call less first second entered = by_place (cases_order entry.place call.place) where
      past : entry.place < call.place → ⊥
      past before = let lower = (among_entries e call first).past entry.place (time f) before ((among_entries f entry second).is entered) in omega (arith, lower, less)

      by_place : (entry.place ≡ call.place) ⊎ ((entry.place < call.place) ⊎ (call.place < entry.place)) → call.place ≤ entry.place
      by_place (inl same) = omega (arith, same)
      by_place (inr (inl before)) = absurd (past before)
      by_place (inr (inr more)) = omega (arith, more)

    -- an entry that lies before a call's place comes before the call
    pub place_by : (e f : ItemOf r) (entry call : Item) → e.made ≡ Shared entry → f.made ≡ Shared call → entry.entry ≡ true → entry.place < call.place → First r order e f
    place_by e f entry call first second entered before = inl ((among_entries f call second).past entry.place (time e) before ((among_entries e entry first).is entered))

    -- two entries at one place are one
    abbrev pub AreOne : Type 0
    AreOne = (e f : ItemOf r) (x y : Item) → e.made ≡ Shared x → f.made ≡ Shared y → x.entry ≡ true → y.entry ≡ true → x.place ≡ y.place → e.worker ≡ f.worker

    -- and an entry that comes before a call lies before its place
    pub placed_by : AreOne → (e f : ItemOf r) (entry call : Item) → e.made ≡ Shared entry → f.made ≡ Shared call → entry.entry ≡ true → First r order e f → entry.place < call.place
    placed_by one e f entry call first second entered (inl less) = seen_by e f entry call less first second entered
    placed_by one e f entry call first second entered (inr (times, apart)) = by_place (cases_order entry.place call.place) where
      here : slice_get order.entry_times entry.place ≡ Some (time e)
      here = (among_entries e entry first).is entered

      by_entry : (b : Bool) → call.entry ≡ b → (entry.place ≡ call.place) ⊎ (call.place < entry.place) → ⊥
      by_entry true also (inl same) = let mine = one e f entry call first second entered also same in omega (arith, mine, apart)
      by_entry true also (inr more) = let lower = (among_entries e entry first).past call.place (time f) more ((among_entries f call second).is also) in omega (arith, lower, times)
      by_entry false none (inl same) = let higher = (among_entries f call second).before none entry.place (time e) (omega (arith, same)) here in omega (arith, higher, times)
      by_entry false none (inr more) = let higher = (among_entries f call second).before none entry.place (time e) (omega (arith, more)) here in omega (arith, higher, times)

      by_place : (entry.place ≡ call.place) ⊎ ((entry.place < call.place) ⊎ (call.place < entry.place)) → entry.place < call.place
      by_place (inl same) = absurd (by_entry call.entry refl (inl same))
      by_place (inr (inl before)) = before
      by_place (inr (inr more)) = absurd (by_entry call.entry refl (inr more))

    module _ (items : AreItems) (plan : Plan) (lawful : IsRecordOf plan r) where
      pub rises_in_history : (e f : ItemOf r) → InHistory r e f → time_of r order e < time_of r order f
      rises_in_history e f both = by_places both.before where
        -- where the first call's place is the lower one, the entry there has a number between the two
        less_than : both.one.place < both.other.place → time e < time f
        less_than less = by_entry both.one.entry refl where
          within : both.other.place ≤ length r.history
          within = (lawful.shared.sound f.worker (length (shared_in (take f.place (list_of r f.worker)))) both.other
              (items (list_of r f.worker) f.place both.other (f.at ∙ ap (λ (m : Made). Some m) both.second))).place

          at : slice_get order.entry_times both.one.place ≡ Some (slice_index order.entry_times both.one.place)
          at = number_at order.entry_times both.one.place (omega (arith, less, within, order.history.entries))

          above : slice_index order.entry_times both.one.place < time f
          above = (among_entries f both.other both.second).past both.one.place (slice_index order.entry_times both.one.place) less at

          by_entry : (b : Bool) → both.one.entry ≡ b → time e < time f
          by_entry true entered =
              let same = same_Some (time e) (slice_index order.entry_times both.one.place) (sym ((among_entries e both.one both.first).is entered) ∙ at) in
              omega (arith, same, above)
          by_entry false none =
              let below = (among_entries e both.one both.first).before none both.one.place (slice_index order.entry_times both.one.place) (omega arith) at in
              omega (arith, below, above)

        by_places : IsBefore both.one both.other → time e < time f
        by_places (inl less) = less_than less
        by_places (inr (same, none, entered)) = (among_entries e both.one both.first).before none both.other.place (time f) (omega (arith, same)) ((among_entries f both.other both.second).is entered)

      pub rises : (e f : ItemOf r) → Step r e f → time_of r order e < time_of r order f
      rises e f (inl list) = rises_in_list e f list
      rises e f (inr (inl journal)) = rises_in_journal e f journal
      rises e f (inr (inr history)) = rises_in_history e f history

      pub leads_on : (e : ItemOf r) (between : List (ItemOf r)) (f : ItemOf r) → Leads r e between f → time_of r order e < time_of r order f
      leads_on e [] f step = rises e f step
      leads_on e (g ∷ between) f (step, leads) = let first = rises e g step in let rest = leads_on g between f leads in omega (arith, first, rest)
