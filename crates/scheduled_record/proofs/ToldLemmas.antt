-- The items that are told of a run, and the lists of its record.
use Rattle.std.proofs.Common.{◌≡◌, ℕ, zero, suc, ◌==◌, Bool, true, false, cond, List, [], ◌∷◌, ◌++◌, map, filter, flat_map, length, Option, Some, None, slice_get, refl, sym, ap, ◌∙◌, subst, arith}
use Rattle.std.specs.Option.{option_to_list, option_map}
use Rattle.std.proofs.lemmas.Bool.{eqb-true}
use Rattle.std.proofs.lemmas.List.{length-map}
use Rattle.std.proofs.lemmas.List.Elements.{filter-append}
use Rattle.std.proofs.lemmas.Option.{none-some, same_Some}
use Rattle.workload.specs.Plan.{Plan}
use Rattle.run_record.specs.declared.made.Made.{Made}
use Rattle.record_text.specs.declared.item_line.ItemLine.{ItemLine}
use Rattle.record_text.specs.declared.item_line.Said.{Said}
use Rattle.record_text.specs.Told.{items_of}
use Rattle.record_text.specs.Written.{made_said, front_in}
use Rattle.kept_record.specs.Keeping.{Act, made_by, account_of}
use Rattle.scheduled_record.specs.ToldItems.{ToldAct, acts_in, told_with, kept_told, told_by, number_of, line_in}
use Rattle.scheduled_record.proofs.LedgerSteps.{acts_long}

-- ---- lists

made_with : (worker : ℕ) (told : List ToldAct) (acts : List Act) → length told ≡ length acts → map (λ (t : ToldAct). t.act.made) (told_by worker (told_with told acts)) ≡ made_by worker acts
made_with worker [] [] same = refl
made_with worker [] (act ∷ acts) same = absurd (omega (arith, same))
made_with worker (t ∷ told) [] same = absurd (omega (arith, same))
made_with worker (t ∷ told) (act ∷ acts) same = let less : length told ≡ length acts = omega (arith, same) in chosen (act.worker == worker) (made_with worker told acts less) where
  chosen : (b : Bool) → map (λ (t : ToldAct). t.act.made) (told_by worker (told_with told acts)) ≡ made_by worker acts
      → map (λ (t : ToldAct). t.act.made) (cond b (record { index = t.index; act = act } ∷ told_by worker (told_with told acts)) (told_by worker (told_with told acts))) ≡ cond b (act.made ∷ made_by worker acts) (made_by worker acts)
  chosen true rest = ap (λ (l : List Made). act.made ∷ l) rest
  chosen false rest = rest

pub kept_lists : (plan : Plan) (worker : ℕ) (told : List ToldAct) → map (λ (t : ToldAct). t.act.made) (told_by worker (kept_told plan told)) ≡ made_by worker (account_of plan (acts_in told)).acts
kept_lists plan worker told = made_with worker told (account_of plan (acts_in told)).acts (sym (length-map told (λ (t : ToldAct). t.act)) ∙ sym (acts_long plan (acts_in told)))

-- ---- lines

one_line : (worker : ℕ) (t : ToldAct) → filter (λ (item : ItemLine). item.worker == worker) (line_in t) ≡ cond (t.act.worker == worker) (line_in t) []
one_line worker t = said_so (made_said (number_of t.act.made) t.act.made) where
  nothing : (b : Bool) → ◌≡◌ {A = List ItemLine} [] (cond b [] [])
  nothing true = refl
  nothing false = refl

  said_so : (said : Option Said) → filter (λ (item : ItemLine). item.worker == worker) (option_to_list (option_map (λ (s : Said). record { worker = t.act.worker; index = t.index; front = front_in t.act.made; said = s }) said))
      ≡ cond (t.act.worker == worker) (option_to_list (option_map (λ (s : Said). record { worker = t.act.worker; index = t.index; front = front_in t.act.made; said = s }) said)) []
  said_so None = nothing (t.act.worker == worker)
  said_so (Some s) = refl

pub worker_lines : (worker : ℕ) (told : List ToldAct) → items_of (flat_map line_in told) worker ≡ flat_map line_in (told_by worker told)
worker_lines worker [] = refl
worker_lines worker (t ∷ told) =
    filter-append (λ (item : ItemLine). item.worker == worker) (line_in t) (flat_map line_in told)
    ∙ (ap (λ (l : List ItemLine). l ++ items_of (flat_map line_in told) worker) (one_line worker t) ∙ (ap (λ (l : List ItemLine). cond (t.act.worker == worker) (line_in t) [] ++ l) (worker_lines worker told) ∙ chosen (t.act.worker == worker))) where
      chosen : (b : Bool) → cond b (line_in t) [] ++ flat_map line_in (told_by worker told) ≡ flat_map line_in (cond b (t ∷ told_by worker told) (told_by worker told))
      chosen true = refl
      chosen false = refl

pub own_worker : (worker : ℕ) (told : List ToldAct) (place : ℕ) (t : ToldAct) → slice_get (told_by worker told) place ≡ Some t → t.act.worker ≡ worker
own_worker worker [] place t at = absurd (none-some t at)
own_worker worker (one ∷ told) place t at = chosen (one.act.worker == worker) refl (own_worker worker told) place at where
  chosen : (b : Bool) → (one.act.worker == worker) ≡ b → ((place : ℕ) (t : ToldAct) → slice_get (told_by worker told) place ≡ Some t → t.act.worker ≡ worker) → (place : ℕ)
      → slice_get (cond b (one ∷ told_by worker told) (told_by worker told)) place ≡ Some t → t.act.worker ≡ worker
  chosen true is rest zero at = subst (λ (u : ToldAct). u.act.worker ≡ worker) (same_Some one t at) (eqb-true one.act.worker worker is)
  chosen true is rest (suc place) at = rest place t at
  chosen false is rest place at = rest place t at
