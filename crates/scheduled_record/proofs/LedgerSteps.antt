-- One act more in a ledger.
use Rattle.std.proofs.Common.{◌≡◌, ◌≢◌, ◌⊎◌, ℕ, zero, suc, ◌+◌, ◌<◌, ◌==◌, ◌&&◌, Bool, true, false, cond, List, [], ◌∷◌, ◌++◌, map, flat_map, fold, length, get_or, set, Option, Some, None, slice_get, slice_set, inl, inr, refl, sym, ap, ◌∙◌, subst, append-nil, arith}
use Rattle.std.specs.List.{list_all}
use Rattle.std.specs.Option.{option_map_or}
use Rattle.std.proofs.lemmas.Bool.Decides.{eqb_tells}
use Rattle.std.proofs.lemmas.Bool.{eq-eqb, ne_eqb}
use Rattle.std.proofs.lemmas.List.{map-append, length-map, length-append, length-set, length-replicate, get_or-set_same, get_or-set_other}
use Rattle.std.proofs.lemmas.List.Folds.{list_all-append}
use Rattle.std.proofs.lemmas.List.Sums.{fold-append}
use Rattle.std.proofs.lemmas.Grind.{flat_map-append}
use Rattle.std.proofs.lemmas.Option.{none-some, same_Some, slice_get-get_or}
use Rattle.std.specs.Prelude.{Result, Ok, Err, OnOk, IfSome}
use Rattle.sync_model.specs.declared.item.Item.{Item}
use Rattle.sync_model.specs.SharedHistory.{Contents, is_entry, shared_after}
use Rattle.workload.specs.Plan.{Plan, is_dormant}
use Rattle.run_record.specs.declared.made.Made.{Made}
use Rattle.run_record.specs.declared.made.Made.TheVariants.{Shared, Entered}
use Rattle.run_record.specs.Objects.{contents_of, object_count}
use Rattle.run_record.specs.Record.{ObjectEntry, entries_in, front_of}
use Rattle.record_text.specs.declared.item_line.ItemLine.{ItemLine}
use Rattle.record_text.specs.declared.item_line.Said.{Said}
use Rattle.record_text.specs.LawfulItems.{has_numbers}
use Rattle.record_text.specs.Numbers.{has_64_bits}
use Rattle.record_text.specs.Written.{shared_said, entry_said}
use Rattle.kept_record.specs.Acts.{IsAnswered, contents_behind, AreAnswered}
use Rattle.kept_record.specs.Keeping.{Act, Account, made_by, entries_on, known_by, released_at, counted, learnt, given, placed, entered, with_made, with_act, none_known, opened, account_of}
use Rattle.scheduled_record.specs.declared.ledger.Ledger.{Ledger}
use Rattle.scheduled_record.specs.declared.ledger.JournalState.{JournalState}
use Rattle.scheduled_record.specs.declared.ledger.WorkerState.{WorkerState}
use Rattle.scheduled_record.specs.Ledgers.{IsWorkerKept, IsJournalKept, IsKept, IsLedgerOf, AreRight, known_in, line_by, IsPlaced, number_in, released_in, learnt_in, IsEntered}
use Rattle.scheduled_record.specs.RunActs.{acts_by, is_nothing, waits_still}
use Rattle.scheduled_record.specs.ToldItems.{ToldAct, acts_in, told_as, told_with, kept_told, line_in, lines_told, is_in_64_bits, has_64_bit_front}
use Rattle.scheduled_record.proofs.Lists.{made-append}

-- ---- rows

module _ {A : Type 0} where
  pub set_there : (xs : List A) (i : ℕ) (x y : A) → slice_get (set xs i x) i ≡ Some y → x ≡ y
  set_there [] i x y at = absurd (none-some y at)
  set_there (z ∷ xs) zero x y at = same_Some x y at
  set_there (z ∷ xs) (suc i) x y at = set_there xs i x y at

  pub set_elsewhere : (xs : List A) (i j : ℕ) (x : A) → j ≢ i → slice_get (set xs i x) j ≡ slice_get xs j
  set_elsewhere [] i j x apart = refl
  set_elsewhere (z ∷ xs) zero zero x apart = absurd (apart refl)
  set_elsewhere (z ∷ xs) zero (suc j) x apart = refl
  set_elsewhere (z ∷ xs) (suc i) zero x apart = refl
  set_elsewhere (z ∷ xs) (suc i) (suc j) x apart = set_elsewhere xs i j x (λ same. apart (ap suc same))

-- ---- how much is kept

pub record Sizes (from to : Account) (count : ℕ) : Type 0 where
  pub acts : length to.acts ≡ length from.acts + count
  pub fronts : length to.fronts ≡ length from.fronts
  pub released : length to.released ≡ length from.released

one_size : (kept : Account) (worker : ℕ) (made : Made) → Sizes kept (with_made worker made kept) 1
one_size kept worker (Shared x) = record {
  acts = length-append kept.acts _;
  fronts = length-set kept.fronts worker _;
  released = refl;
}
one_size kept worker (Entered object entry) = record {
  acts = length-append kept.acts _;
  fronts = length-set kept.fronts worker _;
  released = length-set kept.released object _;
}

sizes : (kept : Account) (acts : List Act) → Sizes kept (fold with_act kept acts) (length acts)
sizes kept [] = let same : length kept.acts ≡ length kept.acts + 0 = omega arith in record { acts = same; fronts = refl; released = refl }
sizes kept (act ∷ acts) =
    let one = one_size kept act.worker act.made in
    let rest = sizes (with_act kept act) acts in
    let all : length (fold with_act (with_act kept act) acts).acts ≡ length kept.acts + suc (length acts) = omega (arith, one.acts, rest.acts) in
    record { acts = all; fronts = rest.fronts ∙ one.fronts; released = rest.released ∙ one.released }

module _ (plan : Plan) where
  pub acts_long : (acts : List Act) → length (account_of plan acts).acts ≡ length acts
  acts_long acts = let here = (sizes (opened plan) acts).acts in omega (arith, here)

  pub fronts_long : (acts : List Act) → length (account_of plan acts).fronts ≡ plan.workers
  fronts_long acts = (sizes (opened plan) acts).fronts ∙ length-replicate plan.workers (none_known plan)

  pub released_long : (acts : List Act) → length (account_of plan acts).released ≡ object_count plan
  released_long acts = (sizes (opened plan) acts).released ∙ length-replicate (object_count plan) (none_known plan)

-- ---- lines

with_last : (told : List ToldAct) (acts : List Act) (t : ToldAct) (act : Act) → length told ≡ length acts
    → told_with (told ++ t ∷ []) (acts ++ act ∷ []) ≡ told_with told acts ++ record { index = t.index; act = act } ∷ []
with_last [] [] t act same = refl
with_last [] (one ∷ acts) t act same = absurd (omega (arith, same))
with_last (one ∷ told) [] t act same = absurd (omega (arith, same))
with_last (s ∷ told) (one ∷ acts) t act same = let less : length told ≡ length acts = omega (arith, same) in ap (λ (l : List ToldAct). record { index = s.index; act = one } ∷ l) (with_last told acts t act less)

fronts_more : (acts : List Act) (act : Act) → list_all has_64_bit_front acts ≡ true → list_all has_64_bits (front_of act.made) ≡ true → list_all has_64_bit_front (acts ++ act ∷ []) ≡ true
fronts_more acts act all one = list_all-append has_64_bit_front acts (act ∷ []) ∙ (ap (λ (b : Bool). b && list_all has_64_bit_front (act ∷ [])) all ∙ ap (λ (b : Bool). b && true) one)

module _ (plan : Plan) (told : List ToldAct) (index : Option ℕ) (worker : ℕ) (made : Made) where
  abbrev kept : Account
  kept = account_of plan (acts_in told)

  abbrev more : List ToldAct
  more = told ++ told_as index (acts_by worker (made ∷ []))

  pub acts_more : acts_in more ≡ acts_in told ++ record { worker = worker; made = made } ∷ []
  acts_more = map-append (λ (t : ToldAct). t.act) told (told_as index (acts_by worker (made ∷ [])))

  pub account_more : account_of plan (acts_in more) ≡ with_made worker made kept
  account_more = ap (account_of plan) acts_more ∙ fold-append with_act (opened plan) (acts_in told) (record { worker = worker; made = made } ∷ [])

  -- the line of one act more, which is kept so
  pub lines_more : (act : Act) → (with_made worker made kept).acts ≡ kept.acts ++ act ∷ [] → lines_told plan more ≡ lines_told plan told ++ line_in (record { index = index; act = act })
  lines_more act is =
      let long : length told ≡ length kept.acts = sym (length-map told (λ (t : ToldAct). t.act)) ∙ sym (acts_long plan (acts_in told)) in
      ap (λ (l : List Act). flat_map line_in (told_with more l)) (ap (λ (a : Account). a.acts) account_more ∙ is)
      ∙ (ap (flat_map line_in) (with_last told kept.acts (record { index = index; act = record { worker = worker; made = made } }) act long)
      ∙ (flat_map-append line_in (kept_told plan told) (record { index = index; act = act } ∷ [])
      ∙ ap (λ (l : List ItemLine). lines_told plan told ++ l) (append-nil (line_in (record { index = index; act = act })))))

  -- ---- who waits still

  nothing_more : (acts : List Made) → is_nothing (acts ++ made ∷ []) ≡ false
  nothing_more [] = refl
  nothing_more (one ∷ acts) = refl

  none : (b : Bool) → (b && false) ≡ false
  none true = refl
  none false = refl

  waits_own : waits_still plan (acts_in more) worker ≡ false
  waits_own = ap (λ (l : List Act). waits_still plan l worker) acts_more
      ∙ (ap (λ (l : List Made). is_dormant plan worker && is_nothing l) (made-append worker (acts_in told) (record { worker = worker; made = made } ∷ [])
      ∙ ap (λ (b : Bool). made_by worker (acts_in told) ++ cond b (made ∷ []) []) (eq-eqb worker worker refl))
      ∙ (ap (λ (b : Bool). is_dormant plan worker && b) (nothing_more (made_by worker (acts_in told))) ∙ none (is_dormant plan worker)))

  waits_other : (w : ℕ) → w ≢ worker → waits_still plan (acts_in more) w ≡ waits_still plan (acts_in told) w
  waits_other w apart = ap (λ (l : List Act). waits_still plan l w) acts_more
      ∙ ap (λ (l : List Made). is_dormant plan w && is_nothing l) (made-append w (acts_in told) (record { worker = worker; made = made } ∷ [])
      ∙ (ap (λ (b : Bool). made_by w (acts_in told) ++ cond b (made ∷ []) []) (ne_eqb worker w (λ same. apart (sym same))) ∙ append-nil (made_by w (acts_in told))))

  -- ---- what workers know

  module _ (l n : Ledger) (is : IsKept plan told l) (within : worker < plan.workers) where
    there : worker < length l.workers.items
    there = subst (λ (k : ℕ). worker < k) (sym is.workers) within

    abbrev blank : WorkerState
    blank = record { front = []; waits = false }

    abbrev own : WorkerState
    own = get_or l.workers.items worker blank

    pub known : known_in l worker ≡ known_by worker kept
    known = ap (λ (o : Option WorkerState). option_map_or (λ (x : WorkerState). x.front) o []) (slice_get-get_or l.workers.items worker blank there) ∙ (is.worker worker own (slice_get-get_or l.workers.items worker blank there)).0

    pub workers_more : (knows : List ℕ) → (with_made worker made kept).fronts ≡ slice_set kept.fronts worker knows → n.workers.items ≡ set l.workers.items worker (record { front = knows; waits = false })
        → (w : ℕ) (x : WorkerState) → slice_get n.workers.items w ≡ Some x → IsWorkerKept plan (acts_in more) w x
    workers_more knows fronts set_so w x at = elim (eqb_tells w worker) [
      | inl same ↦ subst (λ (v : ℕ). IsWorkerKept plan (acts_in more) v x) (sym same.1) (mine (ap (λ (v : ℕ). slice_get n.workers.items v) (sym same.1) ∙ at))
      | inr apart ↦ theirs apart.1
    ] where
      front_at : (v : ℕ) → known_by v (account_of plan (acts_in more)) ≡ get_or (slice_set kept.fronts worker knows) v []
      front_at v = ap (λ (a : Account). known_by v a) account_more ∙ ap (λ (f : List (List ℕ)). get_or f v []) fronts

      mine : slice_get n.workers.items worker ≡ Some x → IsWorkerKept plan (acts_in more) worker x
      mine at =
          let same = set_there l.workers.items worker (record { front = knows; waits = false }) x (ap (λ (r : List WorkerState). slice_get r worker) (sym set_so) ∙ at) in (
            ap (λ (y : WorkerState). y.front) (sym same) ∙ sym (front_at worker ∙ get_or-set_same kept.fronts worker knows [] (subst (λ (k : ℕ). worker < k) (sym (fronts_long plan (acts_in told))) within)),
            ap (λ (y : WorkerState). y.waits) (sym same) ∙ sym waits_own,
          )

      theirs : w ≢ worker → IsWorkerKept plan (acts_in more) w x
      theirs apart =
          let old = is.worker w x (sym (set_elsewhere l.workers.items worker w (record { front = knows; waits = false }) apart) ∙ (ap (λ (r : List WorkerState). slice_get r w) (sym set_so) ∙ at)) in
          (old.0 ∙ sym (front_at w ∙ get_or-set_other kept.fronts worker w knows [] apart), old.1 ∙ sym (waits_other w apart))

-- ---- a call

module _ (plan : Plan) (told : List ToldAct) (index : Option ℕ) (worker : ℕ) (x : Item) (said : Said) (l n : Ledger) where
  abbrev now : Account
  now = account_of plan (acts_in told)

  same_acts : (o : ℕ) (acts : List Act) → entries_on o (acts ++ record { worker = worker; made = Shared (placed worker x now) } ∷ []) ≡ entries_on o acts
  same_acts o [] = refl
  same_acts o (act ∷ acts) = onward act.made (map (λ (a : Act). a.made) (acts ++ record { worker = worker; made = Shared (placed worker x now) } ∷ [])) (map (λ (a : Act). a.made) acts) (same_acts o acts) where
    onward : (made : Made) (one other : List Made) → entries_in o one ≡ entries_in o other → entries_in o (made ∷ one) ≡ entries_in o (made ∷ other)
    onward (Shared y) one other same = same
    onward (Entered object entry) one other same = ap (λ (r : List ObjectEntry). cond (object == o) (entry ∷ r) r) same

  pub called : IsKept plan told l → worker < plan.workers → IsPlaced worker index (is_entry x.call now.contents) (Some said) l n → shared_said l.history x.call x.reply ≡ Some said
      → n.maps.items ≡ (cond (is_entry x.call now.contents) (shared_after x.call now.contents) now.contents).maps → IsKept plan (told ++ told_as index (acts_by worker (Shared x ∷ []))) n
  called is within does says maps = record {
    workers = ap length does.workers ∙ (length-set l.workers.items worker _ ∙ is.workers);
    journals = ap length does.journals ∙ is.journals;
    worker = workers_more plan told index worker (Shared x) l n is within (counted worker (known_in l worker)) (ap (λ (f : List ℕ). slice_set now.fronts worker (counted worker f)) (sym front)) does.workers;
    journal = λ o y at.
        let old = is.journal o y (ap (λ (r : List JournalState). slice_get r o) (sym does.journals) ∙ at) in
        (old.0 ∙ sym (ap (λ (a : Account). length (entries_on o a.acts)) account ∙ ap length (same_acts o now.acts)), old.1 ∙ sym (ap (λ (a : Account). released_at o a) account));
    history = does.history ∙ (ap (λ (k : ℕ). cond (is_entry x.call now.contents) (k + 1) k) is.history ∙ (grown (is_entry x.call now.contents) ∙ sym (ap (λ (a : Account). length a.history) account)));
    maps = maps ∙ sym (ap (λ (a : Account). a.contents.maps) account);
    lines = does.lines ∙ (ap (λ (r : List ItemLine). r ++ line_by worker index (known_in l worker) (Some said)) is.lines
        ∙ (ap (λ (r : List ItemLine). lines_told plan told ++ r) line ∙ sym (lines_more plan told index worker (Shared x) (record { worker = worker; made = Shared (placed worker x now) }) refl)));
    fronts = ap (λ (a : Account). list_all has_64_bit_front a.acts) account
        ∙ fronts_more now.acts (record { worker = worker; made = Shared (placed worker x now) }) is.fronts (ap (list_all has_64_bits) (sym front) ∙ does.front);
  } where
    account : account_of plan (acts_in (told ++ told_as index (acts_by worker (Shared x ∷ [])))) ≡ with_made worker (Shared x) now
    account = account_more plan told index worker (Shared x)

    front : known_in l worker ≡ known_by worker now
    front = known plan told index worker (Shared x) l n is within

    grown : (b : Bool) → cond b (length now.history + 1) (length now.history) ≡ length (cond b (now.history ++ record { caller = worker; call = x.call; reply = x.reply } ∷ []) now.history)
    grown true = sym (length-append now.history _)
    grown false = refl

    line : line_by worker index (known_in l worker) (Some said) ≡ line_in (record { index = index; act = record { worker = worker; made = Shared (placed worker x now) } })
    line = ap (λ (f : List ℕ). line_by worker index f (Some said)) front
        ∙ ap (line_by worker index (known_by worker now)) (sym says ∙ ap (λ (k : ℕ). shared_said k x.call x.reply) is.history)

-- each call is answered where it is made
answered_last : (from : Account) (acts : List Act) (act : Act) → AreAnswered from.contents (acts ++ act ∷ []) → IsAnswered act.made (fold with_act from acts).contents
answered_last from [] act right = right.0
answered_last from (one ∷ acts) act right = answered_last (with_act from one) acts act (subst (λ (contents : Contents). AreAnswered contents (acts ++ act ∷ [])) (behind one.made) right.1) where
  behind : (made : Made) → contents_behind made from.contents ≡ (with_made one.worker made from).contents
  behind (Shared x) = refl
  behind (Entered object entry) = refl

pub last_right : (plan : Plan) (told : List ToldAct) (index : Option ℕ) (worker : ℕ) (made : Made) → AreRight plan (told ++ told_as index (acts_by worker (made ∷ []))) → IsAnswered made (account_of plan (acts_in told)).contents
last_right plan told index worker made right =
    answered_last (opened plan) (acts_in told) (record { worker = worker; made = made }) (subst (λ (acts : List Act). AreAnswered (contents_of plan) acts) (acts_more plan told index worker made) right)

-- ---- an entry

entries-last : (o worker object : ℕ) (entry : ObjectEntry) (acts : List Act) → entries_on o (acts ++ record { worker = worker; made = Entered object entry } ∷ []) ≡ entries_on o acts ++ cond (object == o) (entry ∷ []) []
entries-last o worker object entry [] = refl
entries-last o worker object entry (act ∷ acts) = onward act.made (map (λ (a : Act). a.made) (acts ++ record { worker = worker; made = Entered object entry } ∷ [])) (map (λ (a : Act). a.made) acts) (entries-last o worker object entry acts) where
  onward : (made : Made) (one other : List Made) → entries_in o one ≡ entries_in o other ++ cond (object == o) (entry ∷ []) [] → entries_in o (made ∷ one) ≡ entries_in o (made ∷ other) ++ cond (object == o) (entry ∷ []) []
  onward (Shared y) one other same = same
  onward (Entered p first) one other same = chosen (p == o) where
    chosen : (b : Bool) → cond b (first ∷ entries_in o one) (entries_in o one) ≡ cond b (first ∷ entries_in o other) (entries_in o other) ++ cond (object == o) (entry ∷ []) []
    chosen true = ap (λ (l : List ObjectEntry). first ∷ l) same
    chosen false = same

module _ (plan : Plan) (told : List ToldAct) (index : Option ℕ) (worker object : ℕ) (entry : ObjectEntry) (l n : Ledger) where
  abbrev here : Account
  here = account_of plan (acts_in told)

  abbrev front : List ℕ
  front = learnt_in l worker object entry.deed

  abbrev its : JournalState
  its = get_or l.journals.items object (record { entries = 0; released = [] })

  pub entered_so : IsKept plan told l → worker < plan.workers → object < object_count plan → IsEntered worker index object entry.deed l n
      → IsKept plan (told ++ told_as index (acts_by worker (Entered object entry ∷ []))) n
  entered_so is within on does = record {
    workers = ap length does.workers ∙ (length-set l.workers.items worker _ ∙ is.workers);
    journals = ap length does.journals ∙ (length-set l.journals.items object _ ∙ is.journals);
    worker = workers_more plan told index worker (Entered object entry) l n is within (front) (ap (slice_set here.fronts worker) (sym fronts)) does.workers;
    journal = λ o y at_y. elim (eqb_tells o object) [
      | inl same ↦ subst (λ (v : ℕ). IsJournalKept (account_of plan (acts_in (told ++ told_as index (acts_by worker (Entered object entry ∷ []))))) v y) (sym same.1) (mine y (ap (λ (v : ℕ). slice_get n.journals.items v) (sym same.1) ∙ at_y))
      | inr apart ↦ theirs o y apart.1 at_y
    ];
    history = does.history ∙ (is.history ∙ sym (ap (λ (a : Account). length a.history) account));
    maps = does.maps ∙ (is.maps ∙ sym (ap (λ (a : Account). a.contents.maps) account));
    lines = does.lines ∙ (ap (λ (r : List ItemLine). r ++ line_by worker index (front) (entry_said object (number_in l object) entry.deed)) is.lines
        ∙ (ap (λ (r : List ItemLine). lines_told plan told ++ r) line ∙ sym (lines_more plan told index worker (Entered object entry) (record { worker = worker; made = Entered object (entered worker object entry here) }) refl)));
    fronts = ap (λ (a : Account). list_all has_64_bit_front a.acts) account
        ∙ fronts_more here.acts (record { worker = worker; made = Entered object (entered worker object entry here) }) is.fronts (ap (list_all has_64_bits) (sym fronts) ∙ does.front);
  } where
    account : account_of plan (acts_in (told ++ told_as index (acts_by worker (Entered object entry ∷ [])))) ≡ with_made worker (Entered object entry) here
    account = account_more plan told index worker (Entered object entry)

    there_is : slice_get l.journals.items object ≡ Some its
    there_is = slice_get-get_or l.journals.items object (record { entries = 0; released = [] }) (subst (λ (k : ℕ). object < k) (sym is.journals) on)

    old : (number_in l object ≡ length (entries_on object here.acts)) × (released_in l object ≡ released_at object here)
    old =
        let kept_so = is.journal object its there_is in
        (ap (λ (o : Option JournalState). option_map_or (λ (x : JournalState). x.entries) o 0) there_is ∙ kept_so.0, ap (λ (o : Option JournalState). option_map_or (λ (x : JournalState). x.released) o []) there_is ∙ kept_so.1)

    fronts : front ≡ learnt entry.deed (released_at object here) (known_by worker here)
    fronts = ap (λ (r : List ℕ). learnt entry.deed r (known_in l worker)) old.1 ∙ ap (learnt entry.deed (released_at object here)) (known plan told index worker (Entered object entry) l n is within)

    freed : given entry.deed front (released_in l object) ≡ given entry.deed (learnt entry.deed (released_at object here) (known_by worker here)) (released_at object here)
    freed = ap (λ (f : List ℕ). given entry.deed f (released_in l object)) fronts ∙ ap (given entry.deed (learnt entry.deed (released_at object here) (known_by worker here))) old.1

    line : line_by worker index (front) (entry_said object (number_in l object) entry.deed) ≡ line_in (record { index = index; act = record { worker = worker; made = Entered object (entered worker object entry here) } })
    line = ap (λ (f : List ℕ). line_by worker index f (entry_said object (number_in l object) entry.deed)) fronts
        ∙ ap (λ (k : ℕ). line_by worker index (learnt entry.deed (released_at object here) (known_by worker here)) (entry_said object k entry.deed)) old.0

    entries_at : (o : ℕ) → length (entries_on o (account_of plan (acts_in (told ++ told_as index (acts_by worker (Entered object entry ∷ []))))).acts) ≡ length (entries_on o here.acts ++ cond (object == o) (entered worker object entry here ∷ []) [])
    entries_at o = ap (λ (a : Account). length (entries_on o a.acts)) account ∙ ap length (entries-last o worker object (entered worker object entry here) here.acts)

    released_so : (o : ℕ) → released_at o (account_of plan (acts_in (told ++ told_as index (acts_by worker (Entered object entry ∷ []))))) ≡ get_or (slice_set here.released object (given entry.deed (learnt entry.deed (released_at object here) (known_by worker here)) (released_at object here))) o []
    released_so o = ap (λ (a : Account). released_at o a) account

    mine : (y : JournalState) → slice_get n.journals.items object ≡ Some y → IsJournalKept (account_of plan (acts_in (told ++ told_as index (acts_by worker (Entered object entry ∷ []))))) object y
    mine y at_y =
        let same = set_there l.journals.items object (record { entries = number_in l object + 1; released = given entry.deed front (released_in l object) }) y (ap (λ (r : List JournalState). slice_get r object) (sym does.journals) ∙ at_y) in (
          ap (λ (z : JournalState). z.entries) (sym same) ∙ (ap (λ (k : ℕ). k + 1) old.0 ∙ sym (entries_at object
              ∙ (ap (λ (b : Bool). length (entries_on object here.acts ++ cond b (entered worker object entry here ∷ []) [])) (eq-eqb object object refl) ∙ length-append (entries_on object here.acts) _))),
          ap (λ (z : JournalState). z.released) (sym same) ∙ (freed ∙ sym (released_so object ∙ get_or-set_same here.released object _ [] (subst (λ (k : ℕ). object < k) (sym (released_long plan (acts_in told))) on))),
        )

    theirs : (o : ℕ) (y : JournalState) → o ≢ object → slice_get n.journals.items o ≡ Some y → IsJournalKept (account_of plan (acts_in (told ++ told_as index (acts_by worker (Entered object entry ∷ []))))) o y
    theirs o y apart at_y =
        let was = is.journal o y (sym (set_elsewhere l.journals.items object o (record { entries = number_in l object + 1; released = given entry.deed front (released_in l object) }) apart) ∙ (ap (λ (r : List JournalState). slice_get r o) (sym does.journals) ∙ at_y)) in (
          was.0 ∙ sym (entries_at o ∙ (ap (λ (b : Bool). length (entries_on o here.acts ++ cond b (entered worker object entry here ∷ []) [])) (ne_eqb object o (λ same. apart (sym same))) ∙ ap length (append-nil (entries_on o here.acts)))),
          was.1 ∙ sym (released_so o ∙ get_or-set_other here.released object o _ [] apart),
        )

-- ---- a ledger stays one

line_fits : (worker : ℕ) (index : Option ℕ) (knows : List ℕ) (said : Option Said) → list_all has_64_bits knows ≡ true → IfSome said (λ (s : Said). has_numbers s ≡ true) → list_all is_in_64_bits (line_by worker index knows said) ≡ true
line_fits worker index knows None wide numbers = refl
line_fits worker index knows (Some s) wide numbers = ap (λ (b : Bool). (b && list_all has_64_bits knows) && true) numbers ∙ ap (λ (b : Bool). b && true) wide

pub stays : (plan : Plan) (l n : Ledger) (worker : ℕ) (knows : List ℕ) (index : Option ℕ) (front : List ℕ) (said : Option Said)
    → n.workers.items ≡ set l.workers.items worker (record { front = knows; waits = false }) → length n.journals.items ≡ length l.journals.items
    → n.lines.items ≡ l.lines.items ++ line_by worker index front said → list_all has_64_bits front ≡ true → IfSome said (λ (s : Said). has_numbers s ≡ true)
    → IsLedgerOf plan l → IsLedgerOf plan n
stays plan l n worker knows index front said workers journals lines wide numbers of = record {
  workers = ap length workers ∙ (length-set l.workers.items worker _ ∙ of.workers);
  journals = journals ∙ of.journals;
  dormant = λ w x at waits. chosen w x (ap (λ (r : List WorkerState). slice_get r w) (sym workers) ∙ at) waits (eqb_tells w worker);
  numbers = ap (list_all is_in_64_bits) lines
      ∙ (list_all-append is_in_64_bits l.lines.items (line_by worker index front said)
      ∙ (ap (λ (b : Bool). b && list_all is_in_64_bits (line_by worker index front said)) of.numbers ∙ line_fits worker index front said wide numbers));
} where
  no : false ≡ true → ⊥
  no same = cc

  chosen : (w : ℕ) (x : WorkerState) → slice_get (set l.workers.items worker (record { front = knows; waits = false })) w ≡ Some x → x.waits ≡ true → (((w == worker) ≡ true) × (w ≡ worker)) ⊎ (((w == worker) ≡ false) × (w ≢ worker)) → is_dormant plan w ≡ true
  chosen w x at waits (inl same) =
      absurd (no (ap (λ (y : WorkerState). y.waits) (set_there l.workers.items worker (record { front = knows; waits = false }) x (ap (λ (v : ℕ). slice_get (set l.workers.items worker (record { front = knows; waits = false })) v) (sym same.1) ∙ at)) ∙ waits))
  chosen w x at waits (inr apart) = of.dormant w x (sym (set_elsewhere l.workers.items worker w (record { front = knows; waits = false }) apart.1) ∙ at) waits

pub placed_stays : (plan : Plan) (l n : Ledger) (worker : ℕ) (index : Option ℕ) (enters : Bool) (said : Option Said) → IsPlaced worker index enters said l n → IfSome said (λ (s : Said). has_numbers s ≡ true) → IsLedgerOf plan l → IsLedgerOf plan n
placed_stays plan l n worker index enters said placed numbers = stays plan l n worker _ index (known_in l worker) said placed.workers (ap length placed.journals) placed.lines placed.front numbers

-- ---- where a call returns

pub both_ok : {T E P Q R : Type 0} (r : Result T E) → OnOk r P → OnOk r Q → (P → Q → R) → OnOk r R
both_ok (Ok x) one other both = both one other
both_ok (Err e) one other both = tt
