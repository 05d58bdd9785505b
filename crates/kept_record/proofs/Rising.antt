-- Along what a worker makes no front falls.
use Rattle.std.proofs.Common.{◌≡◌, ℕ, ◌+◌, ◌<◌, ◌≤◌, Bool, true, false, cond, List, [], ◌∷◌, ◌++◌, length, Some, slice_get, slice_index, inl, inr, refl, sym, subst, arith}
use Rattle.std.proofs.lemmas.Bool.Decides.{eqb_tells}
use Rattle.std.proofs.lemmas.Option.{none-some}
use Rattle.sync_model.specs.declared.journal.Deed.{Deed}
use Rattle.sync_model.specs.Front.{AtLeast}
use Rattle.sync_model.specs.Journal.{is_such}
use Rattle.workload.specs.Plan.{Plan}
use Rattle.run_record.specs.declared.entered.ObjectEvent.{ObjectEvent}
use Rattle.run_record.specs.declared.entered.ObjectReply.{ObjectReply}
use Rattle.run_record.specs.declared.made.Made.{Made}
use Rattle.run_record.specs.declared.made.Made.TheVariants.{Shared, Entered}
use Rattle.run_record.specs.Edges.{frees, takes}
use Rattle.run_record.specs.Record.{front_of}
use Rattle.kept_record.specs.Acts.{IsActOf}
use Rattle.kept_record.specs.Keeping.{Act, Account, made_by, known_by, released_at, joined, counted, learnt, given, entered, placed, with_made, with_act, opened}
use Rattle.kept_record.proofs.Fronts.{joined_first, joined_second, none_less, less_still, counted_own, counted_other}
use Rattle.kept_record.proofs.Induction.{list_cases, row_cases}
use Rattle.kept_record.proofs.ListLemmas.{each_more, pair_more}
use Rattle.kept_record.proofs.Numbers.{Numbered}

pub record Rises (kept : Account) : Type 0 where
  pub above : (w i : ℕ) (x : Made) → slice_get (made_by w kept.acts) i ≡ Some x → AtLeast (known_by w kept) (front_of x)
  pub pairs : (w i j : ℕ) (x y : Made) → i < j → slice_get (made_by w kept.acts) i ≡ Some x → slice_get (made_by w kept.acts) j ≡ Some y → AtLeast (front_of y) (front_of x)

pub counted_more : (worker : ℕ) (front : List ℕ) → worker < length front → AtLeast (counted worker front) front
counted_more worker front within c = elim (eqb_tells c worker) [
  | inl same ↦ subst (λ (k : ℕ). slice_index front k ≤ slice_index (counted worker front) k) (sym same.1) (let more : slice_index (counted worker front) worker ≡ slice_index front worker + 1 = counted_own worker front within in omega arith)
  | inr apart ↦ let as_was : slice_index (counted worker front) c ≡ slice_index front c = counted_other worker c front apart.1 in omega arith
]

pub learnt_more : (deed : Deed ObjectEvent ObjectReply) (released known : List ℕ) → AtLeast (learnt deed released known) known
learnt_more deed released known = chosen (is_such takes deed) where
  chosen : (b : Bool) → AtLeast (cond b (joined known released) known) known
  chosen true = joined_first known released
  chosen false = none_less known

-- who takes in knows what was released
pub learnt_all : (deed : Deed ObjectEvent ObjectReply) (released known : List ℕ) → is_such takes deed ≡ true → AtLeast (learnt deed released known) released
learnt_all deed released known taking = subst (λ (b : Bool). AtLeast (cond b (joined known released) known) released) (sym taking) (joined_second known released)

pub given_more : (deed : Deed ObjectEvent ObjectReply) (known released : List ℕ) → AtLeast (given deed known released) released
given_more deed known released = chosen (is_such frees deed) where
  chosen : (b : Bool) → AtLeast (cond b (joined released known) released) released
  chosen true = joined_first released known
  chosen false = none_less released

pub given_all : (deed : Deed ObjectEvent ObjectReply) (known released : List ℕ) → is_such frees deed ≡ true → AtLeast (given deed known released) known
given_all deed known released freeing = subst (λ (b : Bool). AtLeast (cond b (joined released known) released) known) (sym freeing) (joined_second released known)

-- ---- what a worker knows

-- the front of what is made
pub front_made : ℕ → Made → Account → List ℕ
front_made worker (Shared x) kept = known_by worker kept
front_made worker (Entered object entry) kept = learnt entry.deed (released_at object kept) (known_by worker kept)

-- nobody forgets anything
pub known_more : (plan : Plan) (kept : Account) (worker : ℕ) (made : Made) → IsActOf plan (record { worker = worker; made = made }) → Numbered plan kept → (w : ℕ) → AtLeast (known_by w (with_made worker made kept)) (known_by w kept)
known_more plan kept worker (Shared x) of rows w =
    row_cases (λ (row : List ℕ). AtLeast row (known_by w kept)) kept.fronts worker w (counted worker (known_by worker kept))
    (λ same within. subst (λ (k : ℕ). AtLeast (counted worker (known_by worker kept)) (known_by k kept)) (sym same) (counted_more worker (known_by worker kept) (subst (λ (n : ℕ). worker < n) (sym (rows.wide worker of.worker)) of.worker)))
    (λ apart. none_less (known_by w kept)) (subst (λ (n : ℕ). worker < n) (sym rows.workers) of.worker)
known_more plan kept worker (Entered object entry) of rows w =
    let front : List ℕ = learnt entry.deed (released_at object kept) (known_by worker kept) in
    row_cases (λ (row : List ℕ). AtLeast row (known_by w kept)) kept.fronts worker w front
    (λ same within. subst (λ (k : ℕ). AtLeast front (known_by k kept)) (sym same) (learnt_more entry.deed (released_at object kept) (known_by worker kept)))
    (λ apart. none_less (known_by w kept)) (subst (λ (n : ℕ). worker < n) (sym rows.workers) of.worker)

-- and what is released on an object stays so
pub released_more : (plan : Plan) (kept : Account) (worker : ℕ) (made : Made) → IsActOf plan (record { worker = worker; made = made }) → Numbered plan kept → (o : ℕ) → AtLeast (released_at o (with_made worker made kept)) (released_at o kept)
released_more plan kept worker (Shared x) of rows o = none_less (released_at o kept)
released_more plan kept worker (Entered object entry) of rows o =
    let front : List ℕ = learnt entry.deed (released_at object kept) (known_by worker kept) in
    let next : List ℕ = given entry.deed front (released_at object kept) in
    row_cases (λ (row : List ℕ). AtLeast row (released_at o kept)) kept.released object o next
    (λ same within. subst (λ (k : ℕ). AtLeast next (released_at k kept)) (sym same) (given_more entry.deed front (released_at object kept)))
    (λ apart. none_less (released_at o kept)) (subst (λ (n : ℕ). object < n) (sym rows.objects) of.object)

-- ---- a list with one more

module _ (plan : Plan) (kept next : Account) (worker : ℕ) (made : Made) where
  -- the act is kept so: its front knows what its worker did, and its worker knows its front
  record Adds : Type 0 where
    acts : next.acts ≡ kept.acts ++ record { worker = worker; made = made } ∷ []
    more : (w : ℕ) → AtLeast (known_by w next) (known_by w kept)
    knew : AtLeast (front_of made) (known_by worker kept)
    knows : AtLeast (known_by worker next) (front_of made)

  add : Adds → Rises kept → Rises next
  add adds now = record {
    above = λ w. subst (λ (l : List Act). (i : ℕ) (x : Made) → slice_get (made_by w l) i ≡ Some x → AtLeast (known_by w next) (front_of x)) (sym adds.acts)
        (list_cases (λ (l : List Made). (i : ℕ) (x : Made) → slice_get l i ≡ Some x → AtLeast (known_by w next) (front_of x)) w worker made kept.acts
        (λ same. each_more (λ (i : ℕ) (x : Made). AtLeast (known_by w next) (front_of x)) (made_by w kept.acts) made (still w) (subst (λ (k : ℕ). AtLeast (known_by k next) (front_of made)) same adds.knows))
        (λ apart. still w));
    pairs = λ w. subst (λ (l : List Act). (i j : ℕ) (x y : Made) → i < j → slice_get (made_by w l) i ≡ Some x → slice_get (made_by w l) j ≡ Some y → AtLeast (front_of y) (front_of x)) (sym adds.acts)
        (list_cases (λ (l : List Made). (i j : ℕ) (x y : Made) → i < j → slice_get l i ≡ Some x → slice_get l j ≡ Some y → AtLeast (front_of y) (front_of x)) w worker made kept.acts
        (λ same. pair_more (λ (x y : Made). AtLeast (front_of y) (front_of x)) (made_by w kept.acts) made (now.pairs w)
        (λ i x at. less_still (front_of made) (known_by w kept) (front_of x) (subst (λ (k : ℕ). AtLeast (front_of made) (known_by k kept)) same adds.knew) (now.above w i x at)))
        (λ apart. now.pairs w));
  } where
    still : (w i : ℕ) (x : Made) → slice_get (made_by w kept.acts) i ≡ Some x → AtLeast (known_by w next) (front_of x)
    still w i x at = less_still (known_by w next) (known_by w kept) (front_of x) (adds.more w) (now.above w i x at)

made_step : (plan : Plan) (kept : Account) (worker : ℕ) (made : Made) → IsActOf plan (record { worker = worker; made = made }) → Numbered plan kept → Rises kept → Rises (with_made worker made kept)
made_step plan kept worker (Shared x) of rows now = add plan kept (with_made worker (Shared x) kept) worker (Shared (placed worker x kept)) (record {
  acts = refl;
  more = known_more plan kept worker (Shared x) of rows;
  knew = none_less (known_by worker kept);
  knows = known_more plan kept worker (Shared x) of rows worker;
}) now
made_step plan kept worker (Entered object entry) of rows now =
    let front : List ℕ = learnt entry.deed (released_at object kept) (known_by worker kept) in
    add plan kept (with_made worker (Entered object entry) kept) worker (Entered object (entered worker object entry kept)) (record {
      acts = refl;
      more = known_more plan kept worker (Entered object entry) of rows;
      knew = learnt_more entry.deed (released_at object kept) (known_by worker kept);
      knows = row_cases (λ (row : List ℕ). AtLeast row front) kept.fronts worker worker front (λ same within. none_less front) (λ apart. absurd (apart refl)) (subst (λ (n : ℕ). worker < n) (sym rows.workers) of.worker);
    }) now

pub begins : (plan : Plan) → Rises (opened plan)
begins plan = record { above = λ w i x at. absurd (none-some x at); pairs = λ w i j x y before at_x at_y. absurd (none-some x at_x) }

pub step : (plan : Plan) (kept : Account) (act : Act) → IsActOf plan act → Numbered plan kept → Rises kept → Rises (with_act kept act)
step plan kept act of rows now = made_step plan kept act.worker act.made (record { worker = of.worker; object = of.object }) rows now
