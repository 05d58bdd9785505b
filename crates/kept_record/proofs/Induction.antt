-- What each act keeps is so of whatever acts, and what one act more makes of lists, journals and rows.
use Rattle.std.proofs.Common.{◌≡◌, ◌≢◌, ℕ, ◌<◌, ◌==◌, Bool, true, false, cond, List, [], ◌∷◌, ◌++◌, length, get_or, fold, inl, inr, refl, sym, ◌∙◌, subst, append-nil, slice_set}
use Rattle.std.specs.List.{AllByRecursion}
use Rattle.std.proofs.lemmas.Bool.{eqb-true, eq-eqb}
use Rattle.std.proofs.lemmas.Bool.Decides.{eqb_tells}
use Rattle.std.proofs.lemmas.List.{get_or-set_same, get_or-set_other}
use Rattle.std.proofs.lemmas.List.Elements.{recursion_from_All}
use Rattle.sync_model.specs.declared.item.Item.{Item}
use Rattle.workload.specs.Plan.{Plan}
use Rattle.run_record.specs.declared.made.Made.{Made}
use Rattle.run_record.specs.declared.made.Made.TheVariants.{Shared, Entered}
use Rattle.run_record.specs.Record.{ObjectEntry, shared_in}
use Rattle.kept_record.specs.Acts.{IsActOf, AreActsOf}
use Rattle.kept_record.specs.Keeping.{Act, Account, made_by, entries_on, with_act, opened, account_of}
use Rattle.kept_record.proofs.ListLemmas.{made_by-append, entries_on-append, shared_in-append}

module _ (plan : Plan) (P : Account → Type 0) (step : (kept : Account) (act : Act) → IsActOf plan act → P kept → P (with_act kept act)) where
  each_keeps : (kept : Account) (acts : List Act) → AllByRecursion (IsActOf plan) acts → P kept → P (fold with_act kept acts)
  each_keeps kept [] all now = now
  each_keeps kept (act ∷ acts) all now = each_keeps (with_act kept act) acts all.1 (step kept act all.0 now)

  pub all_keep : P (opened plan) → (acts : List Act) → AreActsOf plan acts → P (account_of plan acts)
  all_keep begins acts all = each_keeps (opened plan) acts (recursion_from_All (IsActOf plan) acts all) begins

false_apart : (a b : ℕ) → (a == b) ≡ false → a ≢ b
false_apart a b apart same = absurd (no (sym (eq-eqb a b same) ∙ apart)) where
  no : true ≡ false → ⊥
  no e = cc

-- a worker's list, by whether the act is its own
pub list_cases : (P : List Made → Type 0) (w worker : ℕ) (made : Made) (acts : List Act) → (worker ≡ w → P (made_by w acts ++ made ∷ [])) → (worker ≢ w → P (made_by w acts)) → P (made_by w (acts ++ record { worker = worker; made = made } ∷ []))
list_cases P w worker made acts own other = subst P (sym (made_by-append w acts (record { worker = worker; made = made } ∷ []))) (chosen (worker == w) refl) where
  chosen : (b : Bool) → (worker == w) ≡ b → P (made_by w acts ++ cond b (made ∷ []) [])
  chosen true is = own (eqb-true worker w is)
  chosen false is = subst P (sym (append-nil (made_by w acts))) (other (false_apart worker w is))

-- a worker's calls, behind a call of some worker
pub calls_cases : (P : List Item → Type 0) (w worker : ℕ) (x : Item) (acts : List Act) → (worker ≡ w → P (shared_in (made_by w acts) ++ x ∷ [])) → (worker ≢ w → P (shared_in (made_by w acts)))
    → P (shared_in (made_by w (acts ++ record { worker = worker; made = Shared x } ∷ [])))
calls_cases P w worker x acts own other = list_cases (λ (l : List Made). P (shared_in l)) w worker (Shared x) acts
    (λ same. subst P (sym (shared_in-append (made_by w acts) (Shared x ∷ []))) (own same)) other

-- and behind an entry, which is no call
pub calls_behind : (w worker object : ℕ) (entry : ObjectEntry) (acts : List Act) → shared_in (made_by w (acts ++ record { worker = worker; made = Entered object entry } ∷ [])) ≡ shared_in (made_by w acts)
calls_behind w worker object entry acts = list_cases (λ (l : List Made). shared_in l ≡ shared_in (made_by w acts)) w worker (Entered object entry) acts
    (λ same. shared_in-append (made_by w acts) (Entered object entry ∷ []) ∙ append-nil (shared_in (made_by w acts))) (λ apart. refl)

-- the journal of an object, by whether the entry is on it
pub journal_cases : (P : List ObjectEntry → Type 0) (object worker other : ℕ) (entry : ObjectEntry) (acts : List Act) → (other ≡ object → P (entries_on object acts ++ entry ∷ [])) → (other ≢ object → P (entries_on object acts))
    → P (entries_on object (acts ++ record { worker = worker; made = Entered other entry } ∷ []))
journal_cases P object worker other entry acts own apart = subst P (sym (entries_on-append object acts (record { worker = worker; made = Entered other entry } ∷ []))) (chosen (other == object) refl) where
  chosen : (b : Bool) → (other == object) ≡ b → P (entries_on object acts ++ cond b (entry ∷ []) [])
  chosen true is = own (eqb-true other object is)
  chosen false is = subst P (sym (append-nil (entries_on object acts))) (apart (false_apart other object is))

pub journal_behind : (object worker : ℕ) (x : Item) (acts : List Act) → entries_on object (acts ++ record { worker = worker; made = Shared x } ∷ []) ≡ entries_on object acts
journal_behind object worker x acts = entries_on-append object acts (record { worker = worker; made = Shared x } ∷ []) ∙ append-nil (entries_on object acts)

-- a row, by whether it was set
pub row_cases : (P : List ℕ → Type 0) (rows : List (List ℕ)) (i j : ℕ) (row : List ℕ) → (j ≡ i → i < length rows → P row) → (j ≢ i → P (get_or rows j [])) → i < length rows → P (get_or (slice_set rows i row) j [])
row_cases P rows i j row here elsewhere within = elim (eqb_tells j i) [
  | inl same ↦ subst (λ (k : ℕ). P (get_or (slice_set rows i row) k [])) (sym same.1) (subst P (sym (get_or-set_same rows i row [] within)) (here same.1 within))
  | inr apart ↦ subst P (sym (get_or-set_other rows i j row [] apart.1)) (elsewhere apart.1)
]
