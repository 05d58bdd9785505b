-- Whoever keeps the front law and the edge law knows at least what is kept.
use Rattle.std.proofs.Common.{◌≡◌, ℕ, zero, suc, ◌+◌, ◌<◌, ◌≤◌, max, ◌==◌, Bool, true, false, cond, List, [], ◌∷◌, ◌++◌, length, take, get_or, replicate, fold, Some, slice_get, slice_set, slice_index, inl, inr, refl, sym, ap, ◌∙◌, subst, append-nil, arith}
use Rattle.std.proofs.lemmas.Bool.{eq-eqb}
use Rattle.std.proofs.lemmas.Bool.Decides.{eqb_tells, leb_tells}
use Rattle.std.proofs.lemmas.List.{length-append, length-set, get_or_past, get_or-set_same, get_or-set_other}
use Rattle.std.proofs.lemmas.Option.{none-some, same_Some}
use Rattle.sync_model.specs.declared.item.Item.{Item}
use Rattle.sync_model.specs.declared.journal.Deed.{Deed}
use Rattle.sync_model.specs.Front.{AtLeast}
use Rattle.sync_model.specs.Journal.{is_such, KeepsEdges}
use Rattle.workload.specs.Plan.{Plan}
use Rattle.run_record.specs.declared.entered.ObjectEvent.{ObjectEvent}
use Rattle.run_record.specs.declared.entered.ObjectReply.{ObjectReply}
use Rattle.run_record.specs.declared.made.Made.{Made}
use Rattle.run_record.specs.declared.made.Made.TheVariants.{Shared, Entered}
use Rattle.run_record.specs.Edges.{frees, takes}
use Rattle.run_record.specs.Explains.{KeepsFronts}
use Rattle.run_record.specs.Objects.{object_count}
use Rattle.run_record.specs.Record.{Record, ObjectEntry, journal_of, list_of, shared_in, front_of}
use Rattle.kept_record.specs.Acts.{deeds_on}
use Rattle.kept_record.specs.Keeping.{Act, Account, made_by, known_by, released_at, joined, counted, learnt, given, entered, placed, with_made, with_act, opened}
use Rattle.kept_record.proofs.LeastCounts.{each_more, one_more_shared, made_by-append, deeds_on-append}
use Rattle.kept_record.proofs.LeastSteps.{Goes, HasItemsOf, Stands, call_stands, entry_so_stands, goes_on}

-- ---- fronts

joined_within : (front other : List ℕ) (c n : ℕ) → slice_index front c ≤ n → slice_index other c ≤ n → slice_index (joined front other) c ≤ n
joined_within [] other c n first second = second
joined_within (a ∷ front) [] c n first second = first
joined_within (a ∷ front) (b ∷ other) zero n first second = both a b first second where
  both : (a b : ℕ) → a ≤ n → b ≤ n → max a b ≤ n
  both a b first second = omega arith
joined_within (a ∷ front) (b ∷ other) (suc c) n first second = joined_within front other c n first second

joined_least : (front known released : List ℕ) → AtLeast front known → AtLeast front released → AtLeast front (joined known released)
joined_least front known released first second c = joined_within known released c (slice_index front c) (first c) (second c)

less_still : (front middle other : List ℕ) → AtLeast front middle → AtLeast middle other → AtLeast front other
less_still front middle other first second c = let a : slice_index middle c ≤ slice_index front c = first c in let b : slice_index other c ≤ slice_index middle c = second c in omega arith

-- what is so of what is set and of what was there is so behind it
set_cases : {A : Type 0} (P : A → Type 0) (xs : List A) (i j : ℕ) (x d : A) → (j ≡ i → P x) → P (get_or xs j d) → P (get_or (slice_set xs i x) j d)
set_cases P xs i j x d here was = elim (eqb_tells j i) [
  | inl same ↦ elim (leb_tells (suc i) (length xs)) [
    | inl within ↦ subst (λ k. P (get_or (slice_set xs i x) k d)) (sym same.1) (subst P (sym (get_or-set_same xs i x d within.1)) (here same.1))
    | inr past ↦ subst P (get_or_past xs j d (below same.1 past.1) ∙ sym (get_or_past (slice_set xs i x) j d (subst (λ n. n ≤ j) (sym (length-set xs i x)) (below same.1 past.1)))) was
  ]
  | inr apart ↦ subst P (sym (get_or-set_other xs i j x d apart.1)) was
] where
  below : j ≡ i → length xs < suc i → length xs ≤ j
  below same less = omega arith

-- nobody knows anything before anything is made
repeated : {A : Type 0} (P : A → Type 0) (n i : ℕ) (x d : A) → P x → P d → P (get_or (replicate n x) i d)
repeated P zero i x d first second = second
repeated P (suc n) zero x d first second = first
repeated P (suc n) (suc i) x d first second = repeated P n i x d first second

nothing : (front : List ℕ) (rows many i : ℕ) → AtLeast front (get_or (replicate rows (replicate many 0)) i [])
nothing front rows many i c = repeated (λ (row : List ℕ). slice_index row c ≤ slice_index front c) rows i (replicate many 0) [] (repeated (λ (n : ℕ). n ≤ slice_index front c) many c 0 0 (omega arith) (omega arith)) (omega arith)

-- ---- lists and journals get longer

list_longer : (w : ℕ) (acts more : List Act) → length (made_by w acts) ≤ length (made_by w (acts ++ more))
list_longer w acts more = let long : length (made_by w acts ++ made_by w more) ≡ length (made_by w acts) + length (made_by w more) = length-append (made_by w acts) (made_by w more) in
    subst (λ (l : List Made). length (made_by w acts) ≤ length l) (sym (made_by-append w acts more)) (omega arith)

deeds_longer : (o : ℕ) (acts more : List Act) → length (deeds_on o acts) ≤ length (deeds_on o (acts ++ more))
deeds_longer o acts more = let long : length (deeds_on o acts ++ deeds_on o more) ≡ length (deeds_on o acts) + length (deeds_on o more) = length-append (deeds_on o acts) (deeds_on o more) in
    subst (λ (l : List (ℕ × Deed ObjectEvent ObjectReply)). length (deeds_on o acts) ≤ length l) (sym (deeds_on-append o acts more)) (omega arith)

one_made_more : (w : ℕ) (made : Made) (acts : List Act) → length (made_by w (acts ++ record { worker = w; made = made } ∷ [])) ≡ length (made_by w acts) + 1
one_made_more w made acts = ap length (made_by-append w acts (record { worker = w; made = made } ∷ []) ∙ ap (λ (b : Bool). made_by w acts ++ cond b (made ∷ []) []) (eq-eqb w w refl)) ∙ length-append (made_by w acts) (made ∷ [])

one_deed_more : (o w : ℕ) (entry : ObjectEntry) (acts : List Act) → length (deeds_on o (acts ++ record { worker = w; made = Entered o entry } ∷ [])) ≡ length (deeds_on o acts) + 1
one_deed_more o w entry acts = ap length (deeds_on-append o acts (record { worker = w; made = Entered o entry } ∷ []) ∙ ap (λ (b : Bool). deeds_on o acts ++ (cond b ((w, entry.deed) ∷ []) [] ++ [])) (eq-eqb o o refl)) ∙ length-append (deeds_on o acts) ((w, entry.deed) ∷ [])

module _ (acts : List Act) (other : Record) (has : HasItemsOf acts other) (fronts : KeepsFronts other) (edges : (object : ℕ) → KeepsEdges frees takes (journal_of other object)) where
  -- behind what is kept, the other record knows at least what is known, and wherever it takes in what is released; and at what is kept it knows at least what is written there
  pub record AreLeast (kept : Account) : Type 0 where
    pub known : (w j : ℕ) (y : Made) → length (made_by w kept.acts) ≤ j → slice_get (list_of other w) j ≡ Some y → AtLeast (front_of y) (known_by w kept)
    pub freed : (o j : ℕ) (y : ObjectEntry) → length (deeds_on o kept.acts) ≤ j → slice_get (journal_of other o) j ≡ Some y → is_such takes y.deed ≡ true → AtLeast y.front (released_at o kept)
    pub written : (w i : ℕ) (x y : Made) → slice_get (made_by w kept.acts) i ≡ Some x → slice_get (list_of other w) i ≡ Some y → AtLeast (front_of y) (front_of x)

  pub begins : (plan : Plan) → AreLeast (opened plan)
  begins plan = record {
    known = λ w j y past at. nothing (front_of y) plan.workers plan.workers w;
    freed = λ o j y past at taking. nothing y.front (object_count plan) plan.workers o;
    written = λ w i x y at_x at_y. absurd (none-some x at_x);
  }

  -- what is written of one act more
  written_next : (kept : Account) → AreLeast kept → (worker : ℕ) (made : Made) → ((y : Made) → slice_get (list_of other worker) (length (made_by worker kept.acts)) ≡ Some y → AtLeast (front_of y) (front_of made))
      → (w i : ℕ) (x y : Made) → slice_get (made_by w (kept.acts ++ record { worker = worker; made = made } ∷ [])) i ≡ Some x → slice_get (list_of other w) i ≡ Some y → AtLeast (front_of y) (front_of x)
  written_next kept now worker made last w i x y at_x at_y = elim (eqb_tells worker w) [
    | inl same ↦ each_more (λ (n : ℕ) (z : Made). (y : Made) → slice_get (list_of other w) n ≡ Some y → AtLeast (front_of y) (front_of z)) (made_by w kept.acts) made (λ n z at y. now.written w n z y at)
        (subst (λ (k : ℕ). (y : Made) → slice_get (list_of other k) (length (made_by k kept.acts)) ≡ Some y → AtLeast (front_of y) (front_of made)) same.1 last) i x (added true same.0) y at_y
    | inr apart ↦ now.written w i x y (ap (λ (l : List Made). slice_get l i) (sym (append-nil (made_by w kept.acts))) ∙ added false apart.0) at_y
  ] where
    added : (b : Bool) → (worker == w) ≡ b → slice_get (made_by w kept.acts ++ cond b (made ∷ []) []) i ≡ Some x
    added b is = ap (λ (c : Bool). slice_get (made_by w kept.acts ++ cond c (made ∷ []) []) i) (sym is) ∙ (ap (λ (l : List Made). slice_get l i) (sym (made_by-append w kept.acts (record { worker = worker; made = made } ∷ []))) ∙ at_x)

  -- ---- a call

  module _ (kept : Account) (worker : ℕ) (x : Item) (rest : List Act) (goes : Goes acts kept (record { worker = worker; made = Shared x } ∷ rest)) (now : AreLeast kept) where
    abbrev called : Account
    called = with_made worker (Shared x) kept

    -- whatever its worker makes later counts it
    counts_it : (j : ℕ) (y : Made) → length (made_by worker called.acts) ≤ j → slice_get (list_of other worker) j ≡ Some y → AtLeast (front_of y) (counted worker (known_by worker kept))
    counts_it j y past at c = set_cases (λ (n : ℕ). n ≤ slice_index (front_of y) c) (known_by worker kept) worker c (slice_index (known_by worker kept) worker + 1) 0
        (λ same. subst (λ (k : ℕ). slice_index (known_by worker kept) worker + 1 ≤ slice_index (front_of y) k) (sym same) own) (now.known worker j y (omega (arith, longer)) at c) where
          longer : length (made_by worker called.acts) ≡ length (made_by worker kept.acts) + 1
          longer = one_made_more worker (Shared (placed worker x kept)) kept.acts

          own : slice_index (known_by worker kept) worker + 1 ≤ slice_index (front_of y) worker
          own =
              let found = call_stands acts other has kept worker x rest goes in
              let before : slice_index (known_by worker kept) worker ≤ slice_index (front_of (Shared found.0)) worker = now.known worker (length (made_by worker kept.acts)) (Shared found.0) (omega arith) found.1 worker in
              let here : slice_index (front_of (Shared found.0)) worker ≡ length (shared_in (take (length (made_by worker kept.acts)) (list_of other worker))) = fronts.own worker (length (made_by worker kept.acts)) (Shared found.0) found.1 in
              let there : slice_index (front_of y) worker ≡ length (shared_in (take j (list_of other worker))) = fronts.own worker j y at in
              let more : length (shared_in (take (length (made_by worker kept.acts)) (list_of other worker))) < length (shared_in (take j (list_of other worker))) =
              one_more_shared (list_of other worker) (length (made_by worker kept.acts)) j found.0 found.1 (omega (arith, longer)) in
              omega arith

    pub call_least : AreLeast (with_made worker (Shared x) kept)
    call_least = record {
      known = λ w j y past at. set_cases (λ (row : List ℕ). AtLeast (front_of y) row) kept.fronts worker w (counted worker (known_by worker kept)) []
          (λ same. counts_it j y (subst (λ (k : ℕ). length (made_by k called.acts) ≤ j) same past) (subst (λ (k : ℕ). slice_get (list_of other k) j ≡ Some y) same at))
          (now.known w j y (let longer : length (made_by w kept.acts) ≤ length (made_by w called.acts) = list_longer w kept.acts (record { worker = worker; made = Shared (placed worker x kept) } ∷ []) in omega arith) at);
      freed = λ o j y past at taking. now.freed o j y (let longer : length (deeds_on o kept.acts) ≤ length (deeds_on o called.acts) = deeds_longer o kept.acts (record { worker = worker; made = Shared (placed worker x kept) } ∷ []) in omega arith) at taking;
      written = written_next kept now worker (Shared (placed worker x kept)) (λ y at. now.known worker (length (made_by worker kept.acts)) y (omega arith) at);
    }

  -- ---- an entry

  module _ (kept : Account) (worker object : ℕ) (entry found : ObjectEntry) (here : Stands acts other has kept worker object entry found) (now : AreLeast kept) where
    abbrev behind : Account
    behind = with_made worker (Entered object entry) kept

    abbrev this : ObjectEntry
    this = entered worker object entry kept

    abbrev known : List ℕ
    known = known_by worker kept

    abbrev released : List ℕ
    released = released_at object kept

    abbrev learns : List ℕ
    learns = learnt entry.deed released known

    -- the other record's entry knows what the worker learns
    learns_least : AtLeast found.front learns
    learns_least = chosen (is_such takes entry.deed) refl where
      knows : AtLeast found.front known
      knows = now.known worker (length (made_by worker kept.acts)) (Entered object found) (omega arith) here.listed

      chosen : (b : Bool) → is_such takes entry.deed ≡ b → AtLeast found.front (cond b (joined known released) known)
      chosen true taking = joined_least found.front known released knows (now.freed object (length (deeds_on object kept.acts)) found (omega arith) here.journaled (ap (is_such takes) here.deed ∙ taking))
      chosen false taking = knows

    -- and so does all that its worker makes later
    later : (j : ℕ) (y : Made) → length (made_by worker behind.acts) ≤ j → slice_get (list_of other worker) j ≡ Some y → AtLeast (front_of y) learns
    later j y past at = let longer : length (made_by worker behind.acts) ≡ length (made_by worker kept.acts) + 1 = one_made_more worker (Entered object this) kept.acts in
        less_still (front_of y) found.front learns (fronts.rises worker (length (made_by worker kept.acts)) j (Entered object found) y (omega arith) here.listed at) learns_least

    -- whoever takes in later knows what is released
    gives_least : (j : ℕ) (y : ObjectEntry) → length (deeds_on object behind.acts) ≤ j → slice_get (journal_of other object) j ≡ Some y → is_such takes y.deed ≡ true → AtLeast y.front (given entry.deed learns released)
    gives_least j y past at taking = chosen (is_such frees entry.deed) refl where
      longer : length (deeds_on object behind.acts) ≡ length (deeds_on object kept.acts) + 1
      longer = one_deed_more object worker this kept.acts

      before : AtLeast y.front released
      before = now.freed object j y (omega (arith, longer)) at taking

      chosen : (b : Bool) → is_such frees entry.deed ≡ b → AtLeast y.front (cond b (joined released learns) released)
      chosen true freeing = joined_least y.front released learns before
          (less_still y.front found.front learns (edges object (length (deeds_on object kept.acts)) j found y (omega (arith, longer)) here.journaled at (ap (is_such frees) here.deed ∙ freeing) taking) learns_least)
      chosen false freeing = before

    last : (y : Made) → slice_get (list_of other worker) (length (made_by worker kept.acts)) ≡ Some y → AtLeast (front_of y) learns
    last y at = subst (λ (z : Made). AtLeast (front_of z) learns) (same_Some (Entered object found) y (sym here.listed ∙ at)) learns_least

    pub entry_least : AreLeast (with_made worker (Entered object entry) kept)
    entry_least = record {
      known = λ w j y past at. set_cases (λ (row : List ℕ). AtLeast (front_of y) row) kept.fronts worker w learns []
          (λ same. later j y (subst (λ (k : ℕ). length (made_by k behind.acts) ≤ j) same past) (subst (λ (k : ℕ). slice_get (list_of other k) j ≡ Some y) same at))
          (now.known w j y (let longer : length (made_by w kept.acts) ≤ length (made_by w behind.acts) = list_longer w kept.acts (record { worker = worker; made = Entered object this } ∷ []) in omega arith) at);
      freed = λ o j y past at taking. set_cases (λ (row : List ℕ). AtLeast y.front row) kept.released object o (given entry.deed learns released) []
          (λ same. gives_least j y (subst (λ (k : ℕ). length (deeds_on k behind.acts) ≤ j) same past) (subst (λ (k : ℕ). slice_get (journal_of other k) j ≡ Some y) same at) taking)
          (now.freed o j y (let longer : length (deeds_on o kept.acts) ≤ length (deeds_on o behind.acts) = deeds_longer o kept.acts (record { worker = worker; made = Entered object this } ∷ []) in omega arith) at taking);
      written = written_next kept now worker (Entered object this) last;
    }

  made_step : (kept : Account) (worker : ℕ) (made : Made) (rest : List Act) → Goes acts kept (record { worker = worker; made = made } ∷ rest) → AreLeast kept → AreLeast (with_made worker made kept)
  made_step kept worker (Shared x) rest goes now = call_least kept worker x rest goes now
  made_step kept worker (Entered object entry) rest goes now = let found = entry_so_stands acts other has kept worker object entry rest goes in entry_least kept worker object entry found.0 found.1 now

  pub all_least : (kept : Account) (rest : List Act) → Goes acts kept rest → AreLeast kept → AreLeast (fold with_act kept rest)
  all_least kept [] goes now = now
  all_least kept (act ∷ rest) goes now = all_least (with_act kept act) rest (goes_on acts kept act rest goes) (made_step kept act.worker act.made rest goes now)
