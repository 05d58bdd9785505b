-- Nobody but the workers makes anything, and on no other objects; and what is kept are the acts themselves.
use Rattle.std.proofs.Common.{◌≡◌, ℕ, suc, ◌+◌, ◌<◌, ◌≤◌, List, [], ◌∷◌, ◌++◌, map, get_or, fold, inl, inr, refl, sym, ap, ◌∙◌, subst, append-nil, append_assoc, arith}
use Rattle.std.specs.List.{range_with_len}
use Rattle.std.proofs.lemmas.Bool.Decides.{leb_tells}
use Rattle.std.proofs.lemmas.List.{length-map, get_or_past}
use Rattle.std.proofs.lemmas.List.FromFn.{length-range_with_len, get_or-map-range_with_len}
use Rattle.workload.specs.Plan.{Plan}
use Rattle.run_record.specs.declared.made.Made.{Made}
use Rattle.run_record.specs.declared.made.Made.TheVariants.{Shared, Entered}
use Rattle.run_record.specs.Objects.{object_count}
use Rattle.run_record.specs.Record.{ObjectEntry, journal_of, list_of}
use Rattle.kept_record.specs.Acts.{IsActOf, bare}
use Rattle.kept_record.specs.Keeping.{Act, Account, made_by, entries_on, entered, placed, with_made, with_act, opened, record_by}
use Rattle.kept_record.proofs.Induction.{list_cases, journal_cases, journal_behind}

pub record AreWithin (plan : Plan) (kept : Account) : Type 0 where
  pub workers : (w : ℕ) → plan.workers ≤ w → made_by w kept.acts ≡ []
  pub objects : (o : ℕ) → object_count plan ≤ o → entries_on o kept.acts ≡ []

apart_from : (a b n : ℕ) → a < n → n ≤ b → a ≡ b → ⊥
apart_from a b n less more same = absurd (omega arith)

pub begins : (plan : Plan) → AreWithin plan (opened plan)
begins plan = record { workers = λ w past. refl; objects = λ o past. refl }

made_step : (plan : Plan) (kept : Account) (worker : ℕ) (made : Made) → IsActOf plan (record { worker = worker; made = made }) → AreWithin plan kept → AreWithin plan (with_made worker made kept)
made_step plan kept worker (Shared x) of now = record {
  workers = λ w past. list_cases (λ (l : List Made). l ≡ []) w worker (Shared (placed worker x kept)) kept.acts (λ same. absurd (apart_from worker w plan.workers of.worker past same)) (λ apart. now.workers w past);
  objects = λ o past. journal_behind o worker (placed worker x kept) kept.acts ∙ now.objects o past;
}
made_step plan kept worker (Entered object entry) of now = record {
  workers = λ w past. list_cases (λ (l : List Made). l ≡ []) w worker (Entered object (entered worker object entry kept)) kept.acts (λ same. absurd (apart_from worker w plan.workers of.worker past same)) (λ apart. now.workers w past);
  objects = λ o past. journal_cases (λ (l : List ObjectEntry). l ≡ []) o worker object (entered worker object entry kept) kept.acts (λ same. absurd (apart_from object o (object_count plan) of.object past same)) (λ apart. now.objects o past);
}

pub step : (plan : Plan) (kept : Account) (act : Act) → IsActOf plan act → AreWithin plan kept → AreWithin plan (with_act kept act)
step plan kept act of now = made_step plan kept act.worker act.made (record { worker = of.worker; object = of.object }) now

-- ---- a row of the record

row_at : {A : Type 0} (rows : ℕ → List A) (n i : ℕ) → (n ≤ i → rows i ≡ []) → get_or (map rows (range_with_len 0 n)) i [] ≡ rows i
row_at {A} rows n i none = elim (leb_tells (suc i) n) [
  | inl within ↦ get_or-map-range_with_len rows 0 n i i [] within.1 (first i)
  | inr past ↦ get_or_past (map rows (range_with_len 0 n)) i [] (subst (λ (k : ℕ). k ≤ i) (sym (length-map (range_with_len 0 n) rows ∙ length-range_with_len 0 n)) (below past.1)) ∙ sym (none (below past.1))
] where
  first : (k : ℕ) → 0 + k ≡ k
  first k = omega arith

  below : n < suc i → n ≤ i
  below less = omega arith

pub list_is : (plan : Plan) (kept : Account) → AreWithin plan kept → (w : ℕ) → list_of (record_by plan kept) w ≡ made_by w kept.acts
list_is plan kept within w = row_at (λ w. made_by w kept.acts) plan.workers w (within.workers w)

pub journal_is : (plan : Plan) (kept : Account) → AreWithin plan kept → (o : ℕ) → journal_of (record_by plan kept) o ≡ entries_on o kept.acts
journal_is plan kept within o = row_at (λ o. entries_on o kept.acts) (object_count plan) o (within.objects o)

-- ---- the acts themselves

bare_still : (kept : Account) (worker : ℕ) (made : Made) → map bare (with_made worker made kept).acts ≡ map bare kept.acts ++ bare (record { worker = worker; made = made }) ∷ []
bare_still kept worker (Shared x) = mapped kept.acts (record { worker = worker; made = Shared (placed worker x kept) }) where
  mapped : (acts : List Act) (act : Act) → map bare (acts ++ act ∷ []) ≡ map bare acts ++ bare act ∷ []
  mapped [] act = refl
  mapped (first ∷ acts) act = ap (λ (l : List Act). bare first ∷ l) (mapped acts act)
bare_still kept worker (Entered object entry) = mapped kept.acts (record { worker = worker; made = Entered object (entered worker object entry kept) }) where
  mapped : (acts : List Act) (act : Act) → map bare (acts ++ act ∷ []) ≡ map bare acts ++ bare act ∷ []
  mapped [] act = refl
  mapped (first ∷ acts) act = ap (λ (l : List Act). bare first ∷ l) (mapped acts act)

pub same_acts : (kept : Account) (acts : List Act) → map bare (fold with_act kept acts).acts ≡ map bare kept.acts ++ map bare acts
same_acts kept [] = sym (append-nil (map bare kept.acts))
same_acts kept (act ∷ acts) = same_acts (with_act kept act) acts ∙ (ap (λ (l : List Act). l ++ map bare acts) (bare_still kept act.worker act.made) ∙ append_assoc (map bare kept.acts) (bare act ∷ []) (map bare acts))
