-- Nothing is done on Stop in a run by schedule, and no item is a halt.
use Rattle.std.proofs.Common.{◌≡◌, ℕ, ◌<◌, ◌==◌, Bool, true, false, cond, List, [], ◌∷◌, ◌++◌, map, Option, refl, sym, ap, ◌∙◌, arith}
use Rattle.std.specs.List.{AllByRecursion}
use Rattle.std.proofs.lemmas.Bool.{ne_eqb}
use Rattle.workload.specs.Plan.{Plan}
use Rattle.run_record.specs.declared.made.Made.{Made}
use Rattle.run_record.specs.declared.made.Made.TheVariants.{Shared, Entered}
use Rattle.record_clauses.specs.Lists.{halts, is_halt, without_halts, calls_told}
use Rattle.kept_record.specs.Acts.{deed_on, deeds_on}
use Rattle.kept_record.specs.Alike.{IsAlike, AreAlike}
use Rattle.kept_record.specs.Keeping.{Act, made_by}
use Rattle.step_runner.specs.declared.turns.item.Item.{Item}
use Rattle.scheduled_record.specs.RunActs.{acts_of, closed_acts}
use Rattle.scheduled_record.specs.ToldItems.{ToldAct}
use Rattle.scheduled_record.specs.ToldLists.{told_item}
use Rattle.scheduled_record.proofs.EachAct.{run_such}
use Rattle.scheduled_record.proofs.OnObjects.{Told}

-- an entry is on an object behind Stop
abbrev IsBehind : Made → Type 0
IsBehind (Shared x) = Unit {0}
IsBehind (Entered object entry) = 0 < object

none_on_stop : (acts : List Act) → AllByRecursion (λ act. IsBehind act.made) acts → deeds_on 0 acts ≡ []
none_on_stop [] are = refl
none_on_stop (act ∷ acts) are = ap (λ (l : List Told). l ++ deeds_on 0 acts) (one act.worker act.made are.0) ∙ none_on_stop acts are.1 where
  not_zero : (n : ℕ) → 0 < n → n ≡ 0 → ⊥
  not_zero n less same = absurd (omega arith)

  one : (worker : ℕ) (made : Made) → IsBehind made → deed_on 0 worker made ≡ []
  one worker (Shared x) behind = refl
  one worker (Entered object entry) behind = ap (λ (b : Bool). cond {A = List Told} b ((worker, entry.deed) ∷ []) []) (ne_eqb object 0 (not_zero object behind))

pub nothing_on_stop : (plan : Plan) (items : List Item) → deeds_on 0 (closed_acts plan (acts_of plan items)) ≡ []
nothing_on_stop plan items = none_on_stop (closed_acts plan (acts_of plan items)) (run_such plan IsBehind (record { call = λ x. tt; event = λ object caller event answer behind. behind }) items)

-- ---- halts

abbrev pub NoHalts : List Made → Type 0
NoHalts list = AllByRecursion (λ (x : Made). is_halt x ≡ false) list

-- among what one worker made
made_so : (worker : ℕ) (acts : List Act) → AllByRecursion (λ (act : Act). is_halt act.made ≡ false) acts → NoHalts (made_by worker acts)
made_so worker [] all = tt
made_so worker (act ∷ acts) all = chosen (act.worker == worker) (made_so worker acts all.1) where
  chosen : (b : Bool) → NoHalts (made_by worker acts) → NoHalts (cond b (act.made ∷ made_by worker acts) (made_by worker acts))
  chosen true rest = (all.0, rest)
  chosen false rest = rest

one_alike : (made other : Made) → IsAlike made other → is_halt made ≡ false → is_halt other ≡ false
one_alike (Shared x) (Shared y) alike none = refl
one_alike (Shared x) (Entered object entry) alike none = absurd alike
one_alike (Entered object entry) (Shared y) alike none = refl
one_alike (Entered object entry) (Entered other later) alike none = sym (ap halts alike.1) ∙ none

all_alike : (items others : List Made) → AreAlike items others → NoHalts items → NoHalts others
all_alike items [] alike none = tt
all_alike [] (other ∷ others) alike none = absurd alike
all_alike (made ∷ items) (other ∷ others) alike none = (one_alike made other alike.0 none.0, all_alike items others alike.1 none.1)

-- so no item of a list is one that is alike
pub no_halts : (plan : Plan) (worker : ℕ) (items : List Item) (list : List Made) → AreAlike (made_by worker (closed_acts plan (acts_of plan items))) list → NoHalts list
no_halts plan worker items list alike =
    let acts : List Act = closed_acts plan (acts_of plan items) in
    all_alike (made_by worker acts) list alike (made_so worker acts (run_such plan (λ (x : Made). is_halt x ≡ false) (record { call = λ x. refl; event = λ object caller event answer behind. refl }) items))

pub none_aside : (list : List Made) → NoHalts list → without_halts list ≡ list
none_aside [] none = refl
none_aside (x ∷ list) none = ap (λ (b : Bool). cond b (without_halts list) (x ∷ without_halts list)) none.0 ∙ ap (λ (l : List Made). x ∷ l) (none_aside list none.1)

pub calls_kept : (told : List ToldAct) → NoHalts (map (λ (t : ToldAct). t.act.made) told) → calls_told (map told_item told) ≡ map (λ (t : ToldAct). t.index) told
calls_kept [] none = refl
calls_kept (t ∷ told) none =
    ap (λ (b : Bool). cond b (calls_told (map told_item told)) (t.index ∷ calls_told (map told_item told))) none.0 ∙ ap (λ (l : List (Option ℕ)). t.index ∷ l) (calls_kept told none.1)
