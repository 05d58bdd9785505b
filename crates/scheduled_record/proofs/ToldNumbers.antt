-- Each entry that is kept of a run has its number in its journal.
use Rattle.std.proofs.Common.{◌≡◌, ℕ, zero, suc, ◌==◌, Bool, true, false, cond, List, [], ◌∷◌, ◌++◌, map, fold, length, Some, slice_get, refl, ap, ◌∙◌}
use Rattle.std.specs.List.{AllByRecursion}
use Rattle.std.proofs.lemmas.Bool.{eq-eqb}
use Rattle.std.proofs.lemmas.Option.{none-some}
use Rattle.workload.specs.Plan.{Plan}
use Rattle.run_record.specs.declared.made.Made.{Made}
use Rattle.run_record.specs.declared.made.Made.TheVariants.{Shared, Entered}
use Rattle.run_record.specs.Record.{ObjectEntry, entries_in}
use Rattle.kept_record.specs.Keeping.{Act, Account, entries_on, placed, entered, with_made, with_act, opened, account_of}
use Rattle.scheduled_record.specs.ToldItems.{ToldAct, acts_in, told_with, kept_told, told_by}
use Rattle.scheduled_record.proofs.Adding.{all_at}

more_entries : (object : ℕ) (acts more : List Act) → entries_on object (acts ++ more) ≡ entries_on object acts ++ entries_on object more
more_entries object [] more = refl
more_entries object (act ∷ acts) more = onward act.made (more_entries object acts more) where
  onward : (made : Made) → entries_on object (acts ++ more) ≡ entries_on object acts ++ entries_on object more
      → entries_in object (made ∷ map (λ (a : Act). a.made) (acts ++ more)) ≡ entries_in object (made ∷ map (λ (a : Act). a.made) acts) ++ entries_on object more
  onward (Shared x) same = same
  onward (Entered other entry) same = chosen (other == object) where
    chosen : (b : Bool) → cond b (entry ∷ entries_on object (acts ++ more)) (entries_on object (acts ++ more)) ≡ cond b (entry ∷ entries_on object acts) (entries_on object acts) ++ entries_on object more
    chosen true = ap (λ (l : List ObjectEntry). entry ∷ l) same
    chosen false = same

module _ {A : Type 0} where
  still_at : (xs more : List A) (i : ℕ) (x : A) → slice_get xs i ≡ Some x → slice_get (xs ++ more) i ≡ Some x
  still_at [] more i x at = absurd (none-some x at)
  still_at (y ∷ xs) more zero x at = at
  still_at (y ∷ xs) more (suc i) x at = still_at xs more i x at

  last_at : (xs : List A) (x : A) → slice_get (xs ++ x ∷ []) (length xs) ≡ Some x
  last_at [] x = refl
  last_at (y ∷ xs) x = last_at xs x

-- it stands in the journal of its object, with its number
abbrev pub StandsIn : List Act → Made → Type 0
StandsIn acts (Shared x) = Unit {0}
StandsIn acts (Entered object entry) = slice_get (entries_on object acts) entry.knew ≡ Some entry

abbrev AllIn : List Act → List Act → Type 0
AllIn whole acts = AllByRecursion (λ (act : Act). StandsIn whole act.made) acts

wider : (whole more : List Act) (made : Made) → StandsIn whole made → StandsIn (whole ++ more) made
wider whole more (Shared x) here = tt
wider whole more (Entered object entry) here =
    ap (λ (l : List ObjectEntry). slice_get l entry.knew) (more_entries object whole more) ∙ still_at (entries_on object whole) (entries_on object more) entry.knew entry here

all_wider : (whole more acts : List Act) → AllIn whole acts → AllIn (whole ++ more) acts
all_wider whole more [] all = tt
all_wider whole more (act ∷ acts) all = (wider whole more act.made all.0, all_wider whole more acts all.1)

with_one : (whole acts : List Act) (act : Act) → AllIn whole acts → StandsIn whole act.made → AllIn whole (acts ++ act ∷ [])
with_one whole [] act all one = (one, tt)
with_one whole (first ∷ acts) act all one = (all.0, with_one whole acts act all.1 one)

one_more : (kept : Account) (worker : ℕ) (made : Made) → AllIn kept.acts kept.acts → AllIn (with_made worker made kept).acts (with_made worker made kept).acts
one_more kept worker (Shared x) all =
    let act : Act = record { worker = worker; made = Shared (placed worker x kept) } in
    with_one (kept.acts ++ act ∷ []) kept.acts act (all_wider kept.acts (act ∷ []) kept.acts all) tt
one_more kept worker (Entered object entry) all =
    let here = entered worker object entry kept in
    let act : Act = record { worker = worker; made = Entered object here } in
    with_one (kept.acts ++ act ∷ []) kept.acts act (all_wider kept.acts (act ∷ []) kept.acts all)
    (ap (λ (l : List ObjectEntry). slice_get l (length (entries_on object kept.acts)))
    (more_entries object kept.acts (act ∷ []) ∙ ap (λ (b : Bool). entries_on object kept.acts ++ cond b (here ∷ []) []) (eq-eqb object object refl)) ∙ last_at (entries_on object kept.acts) here)

pub all_more : (kept : Account) (acts : List Act) → AllIn kept.acts kept.acts → AllIn (fold with_act kept acts).acts (fold with_act kept acts).acts
all_more kept [] all = all
all_more kept (act ∷ acts) all = all_more (with_act kept act) acts (one_more kept act.worker act.made all)

among : (P : Made → Type 0) (worker : ℕ) (told : List ToldAct) (acts : List Act) → AllByRecursion (λ (act : Act). P act.made) acts → AllByRecursion (λ (t : ToldAct). P t.act.made) (told_by worker (told_with told acts))
among P worker [] acts all = tt
among P worker (t ∷ told) [] all = tt
among P worker (t ∷ told) (act ∷ acts) all = chosen (act.worker == worker) (among P worker told acts all.1) where
  chosen : (b : Bool) → AllByRecursion (λ (u : ToldAct). P u.act.made) (told_by worker (told_with told acts))
      → AllByRecursion (λ (u : ToldAct). P u.act.made) (cond b (record { index = t.index; act = act } ∷ told_by worker (told_with told acts)) (told_by worker (told_with told acts)))
  chosen true rest = (all.0, rest)
  chosen false rest = rest

-- what is so of each act that is kept is so of what is told
pub of_each : (P : Made → Type 0) (plan : Plan) (worker : ℕ) (told : List ToldAct) (place : ℕ) (t : ToldAct) → AllByRecursion (λ (act : Act). P act.made) (account_of plan (acts_in told)).acts
    → slice_get (told_by worker (kept_told plan told)) place ≡ Some t → P t.act.made
of_each P plan worker told place t all at = all_at (λ (u : ToldAct). P u.act.made) (told_by worker (kept_told plan told)) place t (among P worker told (account_of plan (acts_in told)).acts all) at

pub stands : (plan : Plan) (worker : ℕ) (told : List ToldAct) (place : ℕ) (t : ToldAct) → slice_get (told_by worker (kept_told plan told)) place ≡ Some t → StandsIn (account_of plan (acts_in told)).acts t.act.made
stands plan worker told place t at = of_each (StandsIn (account_of plan (acts_in told)).acts) plan worker told place t (all_more (opened plan) (acts_in told) tt) at
