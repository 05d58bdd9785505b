-- What fronts count: of each worker's own calls all, and of another's no more than it made.
use Rattle.std.proofs.Common.{◌≡◌, ◌≢◌, ℕ, suc, ◌+◌, ◌<◌, ◌≤◌, max, Bool, true, false, cond, List, [], ◌∷◌, ◌++◌, length, take, get_or, replicate, Some, slice_get, slice_index, inl, inr, refl, sym, ap, ◌∙◌, subst, arith}
use Rattle.std.proofs.lemmas.Bool.Decides.{eqb_tells, leb_tells}
use Rattle.std.proofs.lemmas.List.{length-append, length-replicate, get_or-replicate, get_or_past}
use Rattle.std.proofs.lemmas.Option.{none-some}
use Rattle.sync_model.specs.declared.item.Item.{Item}
use Rattle.sync_model.specs.declared.journal.Deed.{Deed}
use Rattle.sync_model.specs.Journal.{is_such}
use Rattle.workload.specs.Plan.{Plan}
use Rattle.run_record.specs.declared.entered.ObjectEvent.{ObjectEvent}
use Rattle.run_record.specs.declared.entered.ObjectReply.{ObjectReply}
use Rattle.run_record.specs.declared.made.Made.{Made}
use Rattle.run_record.specs.declared.made.Made.TheVariants.{Shared, Entered}
use Rattle.run_record.specs.Edges.{frees, takes}
use Rattle.run_record.specs.Objects.{object_count}
use Rattle.run_record.specs.Record.{ObjectEntry, front_of, shared_in}
use Rattle.kept_record.specs.Acts.{IsActOf}
use Rattle.kept_record.specs.Keeping.{Act, Account, made_by, known_by, released_at, joined, counted, learnt, given, entered, placed, with_made, with_act, opened}
use Rattle.kept_record.proofs.Fronts.{joined_counts, joined_within, counted_own, counted_other}
use Rattle.kept_record.proofs.Induction.{list_cases, calls_cases, calls_behind, row_cases}
use Rattle.kept_record.proofs.ListLemmas.{each_more, before_last, all_before}
use Rattle.kept_record.proofs.Numbers.{Numbered}

-- how many calls on maps and atomics a worker has made
abbrev pub count_by : ℕ → Account → ℕ
count_by w kept = length (shared_in (made_by w kept.acts))

pub record Counts (plan : Plan) (kept : Account) : Type 0 where
  pub own : (w : ℕ) → w < plan.workers → slice_index (known_by w kept) w ≡ count_by w kept
  pub known : (w c : ℕ) → slice_index (known_by w kept) c ≤ count_by c kept
  pub freed : (o c : ℕ) → slice_index (released_at o kept) c ≤ count_by c kept
  pub counts : (w i : ℕ) (x : Made) → w < plan.workers → slice_get (made_by w kept.acts) i ≡ Some x → slice_index (front_of x) w ≡ length (shared_in (take i (made_by w kept.acts)))
  pub made : (w i c : ℕ) (x : Made) → slice_get (made_by w kept.acts) i ≡ Some x → slice_index (front_of x) c ≤ count_by c kept

learnt_within : (deed : Deed ObjectEvent ObjectReply) (released known : List ℕ) (c n : ℕ) → slice_index released c ≤ n → slice_index known c ≤ n → slice_index (learnt deed released known) c ≤ n
learnt_within deed released known c n first second = chosen (is_such takes deed) where
  chosen : (b : Bool) → slice_index (cond b (joined known released) known) c ≤ n
  chosen true = joined_within known released c n second first
  chosen false = second

given_within : (deed : Deed ObjectEvent ObjectReply) (known released : List ℕ) (c n : ℕ) → slice_index released c ≤ n → slice_index known c ≤ n → slice_index (given deed known released) c ≤ n
given_within deed known released c n first second = chosen (is_such frees deed) where
  chosen : (b : Bool) → slice_index (cond b (joined released known) released) c ≤ n
  chosen true = joined_within released known c n first second
  chosen false = first

-- nobody is told more of its own calls than it knows
learnt_own : (deed : Deed ObjectEvent ObjectReply) (released known : List ℕ) (c : ℕ) → slice_index released c ≤ slice_index known c → slice_index (learnt deed released known) c ≡ slice_index known c
learnt_own deed released known c less = chosen (is_such takes deed) where
  greater : (a b : ℕ) → b ≤ a → max a b ≡ a
  greater a b less = omega arith

  chosen : (b : Bool) → slice_index (cond b (joined known released) known) c ≡ slice_index known c
  chosen true = joined_counts known released c ∙ greater (slice_index known c) (slice_index released c) less
  chosen false = refl

-- ---- a call

module _ (plan : Plan) (kept : Account) (worker : ℕ) (x : Item) (of : IsActOf plan (record { worker = worker; made = Shared x })) (rows : Numbered plan kept) (now : Counts plan kept) where
  abbrev called : Account
  called = with_made worker (Shared x) kept

  -- one more of its worker
  one_more : count_by worker called ≡ count_by worker kept + 1
  one_more = calls_cases (λ (l : List Item). length l ≡ count_by worker kept + 1) worker worker (placed worker x kept) kept.acts
      (λ same. length-append (shared_in (made_by worker kept.acts)) (placed worker x kept ∷ [])) (λ apart. absurd (apart refl))

  -- and none of another
  as_before : (c : ℕ) → c ≢ worker → count_by c called ≡ count_by c kept
  as_before c apart = calls_cases (λ (l : List Item). length l ≡ count_by c kept) c worker (placed worker x kept) kept.acts (λ same. absurd (apart (sym same))) (λ other. refl)

  more : (c n : ℕ) → n ≤ count_by c kept → n ≤ count_by c called
  more c n less = elim (eqb_tells c worker) [
    | inl same ↦ subst (λ (k : ℕ). n ≤ count_by k called) (sym same.1) (let less_than : n ≤ count_by worker kept = subst (λ (k : ℕ). n ≤ count_by k kept) same.1 less in let is : count_by worker called ≡ count_by worker kept + 1 = one_more in omega arith)
    | inr apart ↦ subst (λ (k : ℕ). n ≤ k) (sym (as_before c apart.1)) less
  ]

  long : worker < length (known_by worker kept)
  long = subst (λ (n : ℕ). worker < n) (sym (rows.wide worker of.worker)) of.worker

  there : worker < length kept.fronts
  there = subst (λ (n : ℕ). worker < n) (sym rows.workers) of.worker

  abbrev front : List ℕ
  front = known_by worker kept

  still_made : (w i c : ℕ) (y : Made) → slice_get (made_by w kept.acts) i ≡ Some y → slice_index (front_of y) c ≤ count_by c called
  still_made w i c y at = more c (slice_index (front_of y) c) (now.made w i c y at)

  pub call_counts : Counts plan (with_made worker (Shared x) kept)
  call_counts = record {
    own = λ w within. row_cases (λ (row : List ℕ). slice_index row w ≡ count_by w called) kept.fronts worker w (counted worker front)
        (λ same here. subst (λ (k : ℕ). slice_index (counted worker front) k ≡ count_by k called) (sym same)
        (let was : slice_index front worker ≡ count_by worker kept = now.own worker of.worker in counted_own worker front long ∙ (ap (λ (n : ℕ). n + 1) was ∙ sym one_more)))
        (λ apart. now.own w within ∙ sym (as_before w apart)) there;
    known = λ w c. row_cases (λ (row : List ℕ). slice_index row c ≤ count_by c called) kept.fronts worker w (counted worker front)
        (λ same here. elim (eqb_tells c worker) [
          | inl own ↦ subst (λ (k : ℕ). slice_index (counted worker front) k ≤ count_by k called) (sym own.1)
              (let is : slice_index (counted worker front) worker ≡ slice_index front worker + 1 = counted_own worker front long in let less : slice_index front worker ≤ count_by worker kept = now.known worker worker in
              let next : count_by worker called ≡ count_by worker kept + 1 = one_more in omega arith)
          | inr other ↦ subst (λ (k : ℕ). k ≤ count_by c called) (sym (counted_other worker c front other.1)) (more c (slice_index front c) (now.known worker c))
        ])
        (λ apart. more c (slice_index (known_by w kept) c) (now.known w c)) there;
    freed = λ o c. more c (slice_index (released_at o kept) c) (now.freed o c);
    counts = λ w i y within. list_cases (λ (l : List Made). slice_get l i ≡ Some y → slice_index (front_of y) w ≡ length (shared_in (take i l))) w worker (Shared (placed worker x kept)) kept.acts
        (λ same. each_more (λ (n : ℕ) (z : Made). slice_index (front_of z) w ≡ length (shared_in (take n (made_by w kept.acts ++ Shared (placed worker x kept) ∷ [])))) (made_by w kept.acts) (Shared (placed worker x kept))
        (λ n z at. now.counts w n z within at ∙ ap (λ (l : List Made). length (shared_in l)) (sym (before_last (made_by w kept.acts) (Shared (placed worker x kept)) n z at)))
        (subst (λ (k : ℕ). slice_index front k ≡ count_by k kept) same (now.own worker of.worker) ∙ ap (λ (l : List Made). length (shared_in l)) (sym (all_before (made_by w kept.acts) (Shared (placed worker x kept))))) i y)
        (λ apart. now.counts w i y within);
    made = λ w i c y. list_cases (λ (l : List Made). slice_get l i ≡ Some y → slice_index (front_of y) c ≤ count_by c called) w worker (Shared (placed worker x kept)) kept.acts
        (λ same. each_more (λ (n : ℕ) (z : Made). slice_index (front_of z) c ≤ count_by c called) (made_by w kept.acts) (Shared (placed worker x kept)) (λ n z at. still_made w n c z at) (more c (slice_index front c) (now.known worker c)) i y)
        (λ apart. still_made w i c y);
  }

-- ---- an entry

module _ (plan : Plan) (kept : Account) (worker object : ℕ) (entry : ObjectEntry) (of : IsActOf plan (record { worker = worker; made = Entered object entry })) (rows : Numbered plan kept) (now : Counts plan kept) where
  abbrev behind : Account
  behind = with_made worker (Entered object entry) kept

  abbrev this : ObjectEntry
  this = entered worker object entry kept

  abbrev learns : List ℕ
  learns = learnt entry.deed (released_at object kept) (known_by worker kept)

  same_count : (c : ℕ) → count_by c behind ≡ count_by c kept
  same_count c = ap length (calls_behind c worker object this kept.acts)

  as_many : (c n : ℕ) → n ≤ count_by c kept → n ≤ count_by c behind
  as_many c n less = subst (λ (k : ℕ). n ≤ k) (sym (same_count c)) less

  is_there : worker < length kept.fronts
  is_there = subst (λ (n : ℕ). worker < n) (sym rows.workers) of.worker

  on : object < length kept.released
  on = subst (λ (n : ℕ). object < n) (sym rows.objects) of.object

  learns_own : slice_index learns worker ≡ count_by worker kept
  learns_own = learnt_own entry.deed (released_at object kept) (known_by worker kept) worker (subst (λ (n : ℕ). slice_index (released_at object kept) worker ≤ n) (sym (now.own worker of.worker)) (now.freed object worker)) ∙ now.own worker of.worker

  learns_few : (c : ℕ) → slice_index learns c ≤ count_by c kept
  learns_few c = learnt_within entry.deed (released_at object kept) (known_by worker kept) c (count_by c kept) (now.freed object c) (now.known worker c)

  pub entry_counts : Counts plan (with_made worker (Entered object entry) kept)
  entry_counts = record {
    own = λ w within. row_cases (λ (row : List ℕ). slice_index row w ≡ count_by w behind) kept.fronts worker w learns
        (λ same here. subst (λ (k : ℕ). slice_index learns k ≡ count_by k behind) (sym same) (learns_own ∙ sym (same_count worker)))
        (λ apart. now.own w within ∙ sym (same_count w)) is_there;
    known = λ w c. row_cases (λ (row : List ℕ). slice_index row c ≤ count_by c behind) kept.fronts worker w learns
        (λ same here. as_many c (slice_index learns c) (learns_few c)) (λ apart. as_many c (slice_index (known_by w kept) c) (now.known w c)) is_there;
    freed = λ o c. row_cases (λ (row : List ℕ). slice_index row c ≤ count_by c behind) kept.released object o (given entry.deed learns (released_at object kept))
        (λ same here. as_many c (slice_index (given entry.deed learns (released_at object kept)) c) (given_within entry.deed learns (released_at object kept) c (count_by c kept) (now.freed object c) (learns_few c)))
        (λ apart. as_many c (slice_index (released_at o kept) c) (now.freed o c)) on;
    counts = λ w i y within. list_cases (λ (l : List Made). slice_get l i ≡ Some y → slice_index (front_of y) w ≡ length (shared_in (take i l))) w worker (Entered object this) kept.acts
        (λ same. each_more (λ (n : ℕ) (z : Made). slice_index (front_of z) w ≡ length (shared_in (take n (made_by w kept.acts ++ Entered object this ∷ [])))) (made_by w kept.acts) (Entered object this)
        (λ n z at. now.counts w n z within at ∙ ap (λ (l : List Made). length (shared_in l)) (sym (before_last (made_by w kept.acts) (Entered object this) n z at)))
        (subst (λ (k : ℕ). slice_index learns k ≡ count_by k kept) same learns_own ∙ ap (λ (l : List Made). length (shared_in l)) (sym (all_before (made_by w kept.acts) (Entered object this)))) i y)
        (λ apart. now.counts w i y within);
    made = λ w i c y. list_cases (λ (l : List Made). slice_get l i ≡ Some y → slice_index (front_of y) c ≤ count_by c behind) w worker (Entered object this) kept.acts
        (λ same. each_more (λ (n : ℕ) (z : Made). slice_index (front_of z) c ≤ count_by c behind) (made_by w kept.acts) (Entered object this) (λ n z at. as_many c (slice_index (front_of z) c) (now.made w n c z at)) (as_many c (slice_index learns c) (learns_few c)) i y)
        (λ apart at. as_many c (slice_index (front_of y) c) (now.made w i c y at));
  }

zeros : (many c : ℕ) → slice_index (replicate many 0) c ≡ 0
zeros many c = elim (leb_tells (suc c) many) [
  | inl within ↦ get_or-replicate many c 0 0 within.1
  | inr past ↦ get_or_past (replicate many 0) c 0 (subst (λ (n : ℕ). n ≤ c) (sym (length-replicate many 0)) (below past.1))
] where
  below : many < suc c → many ≤ c
  below less = omega arith

none_counted : (rows many c i : ℕ) → slice_index (get_or (replicate rows (replicate many 0)) i []) c ≡ 0
none_counted rows many c i = elim (leb_tells (suc i) rows) [
  | inl within ↦ ap (λ (row : List ℕ). slice_index row c) (get_or-replicate rows i (replicate many 0) [] within.1) ∙ zeros many c
  | inr past ↦ ap (λ (row : List ℕ). slice_index row c) (get_or_past (replicate rows (replicate many 0)) i [] (subst (λ (n : ℕ). n ≤ i) (sym (length-replicate rows (replicate many 0))) (below past.1)))
] where
  below : rows < suc i → rows ≤ i
  below less = omega arith

pub begins : (plan : Plan) → Counts plan (opened plan)
begins plan = record {
  own = λ w within. none_counted plan.workers plan.workers w w;
  known = λ w c. let none : slice_index (known_by w (opened plan)) c ≡ 0 = none_counted plan.workers plan.workers c w in omega arith;
  freed = λ o c. let none : slice_index (released_at o (opened plan)) c ≡ 0 = none_counted (object_count plan) plan.workers c o in omega arith;
  counts = λ w i x within at. absurd (none-some x at);
  made = λ w i c x at. absurd (none-some x at);
}

made_step : (plan : Plan) (kept : Account) (worker : ℕ) (made : Made) → IsActOf plan (record { worker = worker; made = made }) → Numbered plan kept → Counts plan kept → Counts plan (with_made worker made kept)
made_step plan kept worker (Shared x) of rows now = call_counts plan kept worker x of rows now
made_step plan kept worker (Entered object entry) of rows now = entry_counts plan kept worker object entry of rows now

pub step : (plan : Plan) (kept : Account) (act : Act) → IsActOf plan act → Numbered plan kept → Counts plan kept → Counts plan (with_act kept act)
step plan kept act of rows now = made_step plan kept act.worker act.made (record { worker = of.worker; object = of.object }) rows now
