-- Each entry of an object stands in its caller's list, in the order of the journal.
use Rattle.std.proofs.Common.{◌≡◌, ℕ, ◌==◌, Bool, true, false, cond, List, [], ◌∷◌, ◌++◌, refl, sym, ap, ◌∙◌}
use Rattle.sync_model.specs.declared.item.Item.{Item}
use Rattle.sync_model.specs.Journal.{by}
use Rattle.run_record.specs.declared.made.Made.{Made}
use Rattle.run_record.specs.declared.made.Made.TheVariants.{Shared, Entered}
use Rattle.run_record.specs.Record.{ObjectEntry, entries_in}
use Rattle.workload.specs.Plan.{Plan}
use Rattle.kept_record.specs.Keeping.{Act, Account, made_by, entries_on, entered, placed, with_made, with_act, opened}
use Rattle.kept_record.proofs.ListLemmas.{made_by-append, entries_on-append, entries_in-append}

pub by-append : (worker : ℕ) (journal more : List ObjectEntry) → by worker (journal ++ more) ≡ by worker journal ++ by worker more
by-append worker [] more = refl
by-append worker (entry ∷ journal) more = chosen (entry.caller == worker) (by worker (journal ++ more)) (by worker journal) (by-append worker journal more) where
  chosen : (b : Bool) (left right : List ObjectEntry) → left ≡ right ++ by worker more → cond b (entry ∷ left) left ≡ cond b (entry ∷ right) right ++ by worker more
  chosen true left right is = ap (λ (l : List ObjectEntry). entry ∷ l) is
  chosen false left right is = is

abbrev pub StandsOnce : Account → Type 0
StandsOnce kept = (worker object : ℕ) → entries_in object (made_by worker kept.acts) ≡ by worker (entries_on object kept.acts)

-- an act more, of which both sides have the same
add : (acts : List Act) (act : Act) (w o : ℕ) → entries_in o (made_by w acts) ≡ by w (entries_on o acts) → entries_in o (made_by w (act ∷ [])) ≡ by w (entries_on o (act ∷ []))
    → entries_in o (made_by w (acts ++ act ∷ [])) ≡ by w (entries_on o (acts ++ act ∷ []))
add acts act w o before same =
    ap (entries_in o) (made_by-append w acts (act ∷ [])) ∙ (entries_in-append o (made_by w acts) (made_by w (act ∷ []))
    ∙ (ap (λ (l : List ObjectEntry). l ++ entries_in o (made_by w (act ∷ []))) before ∙ (ap (λ (l : List ObjectEntry). by w (entries_on o acts) ++ l) same
    ∙ (sym (by-append w (entries_on o acts) (entries_on o (act ∷ []))) ∙ ap (by w) (sym (entries_on-append o acts (act ∷ [])))))))

a_call : (worker : ℕ) (x : Item) (w o : ℕ) → entries_in o (made_by w (record { worker = worker; made = Shared x } ∷ [])) ≡ by w (entries_on o (record { worker = worker; made = Shared x } ∷ []))
a_call worker x w o = chosen (worker == w) where
  chosen : (b : Bool) → entries_in o (cond b (Shared x ∷ []) []) ≡ []
  chosen true = refl
  chosen false = refl

an_entry : (worker object : ℕ) (entry : ObjectEntry) → entry.caller ≡ worker → (w o : ℕ) → entries_in o (made_by w (record { worker = worker; made = Entered object entry } ∷ [])) ≡ by w (entries_on o (record { worker = worker; made = Entered object entry } ∷ []))
an_entry worker object entry calls w o = chosen (worker == w) ∙ ap (λ (b : Bool). by_then b (object == o)) (ap (λ (n : ℕ). n == w) (sym calls)) ∙ sym (read (object == o)) where
  by_then : Bool → Bool → List ObjectEntry
  by_then mine here = cond here (cond mine (entry ∷ []) []) []

  nothing : (here : Bool) → [] ≡ by_then false here
  nothing true = refl
  nothing false = refl

  chosen : (mine : Bool) → entries_in o (cond mine (Entered object entry ∷ []) []) ≡ by_then mine (object == o)
  chosen true = refl
  chosen false = nothing (object == o)

  read : (here : Bool) → by w (cond here (entry ∷ []) []) ≡ by_then (entry.caller == w) here
  read true = refl
  read false = refl

pub begins : (plan : Plan) → StandsOnce (opened plan)
begins plan worker object = refl

made_step : (kept : Account) (worker : ℕ) (made : Made) → StandsOnce kept → StandsOnce (with_made worker made kept)
made_step kept worker (Shared x) now w o = add kept.acts (record { worker = worker; made = Shared (placed worker x kept) }) w o (now w o) (a_call worker (placed worker x kept) w o)
made_step kept worker (Entered object entry) now w o =
    add kept.acts (record { worker = worker; made = Entered object (entered worker object entry kept) }) w o (now w o) (an_entry worker object (entered worker object entry kept) refl w o)

pub step : (kept : Account) (act : Act) → StandsOnce kept → StandsOnce (with_act kept act)
step kept act now = made_step kept act.worker act.made now
