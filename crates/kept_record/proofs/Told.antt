-- What a record says of acts but for places, fronts and numbers is what the acts say.
use Rattle.std.proofs.Common.{◌≡◌, ℕ, ◌==◌, Bool, true, false, cond, List, [], ◌∷◌, ◌++◌, map, refl, sym, ap, ◌∙◌, subst, append_assoc}
use Rattle.sync_model.specs.declared.journal.Deed.{Deed}
use Rattle.workload.specs.Plan.{Plan}
use Rattle.run_record.specs.declared.entered.ObjectEvent.{ObjectEvent}
use Rattle.run_record.specs.declared.entered.ObjectReply.{ObjectReply}
use Rattle.run_record.specs.declared.made.Made.{Made}
use Rattle.run_record.specs.declared.made.Made.TheVariants.{Shared, Entered}
use Rattle.run_record.specs.Record.{ObjectEntry}
use Rattle.kept_record.specs.Acts.{bare_made, bare, deed_on, deeds_on, told}
use Rattle.kept_record.specs.Alike.{IsAlike, AreAlike}
use Rattle.kept_record.specs.Keeping.{Act, Account, made_by, entries_on, entered, placed, with_made, with_act, opened}
use Rattle.kept_record.proofs.ListLemmas.{entries_on-append}

-- ---- lists

like_bare : (worker : ℕ) (made : Made) → IsAlike made (bare_made worker made)
like_bare worker (Shared x) = (refl, refl)
like_bare worker (Entered object entry) = (refl, refl)

from_bare : (worker : ℕ) (made other : Made) → IsAlike made (bare_made worker other) → IsAlike made other
from_bare worker (Shared x) (Shared y) alike = alike
from_bare worker (Shared x) (Entered object entry) alike = alike
from_bare worker (Entered object entry) (Shared y) alike = alike
from_bare worker (Entered object entry) (Entered other later) alike = alike

first_of_list : Act → List Act → Act
first_of_list none [] = none
first_of_list none (act ∷ acts) = act

rest_of_list : List Act → List Act
rest_of_list [] = []
rest_of_list (act ∷ acts) = acts

module _ (w : ℕ) where
  head_like : (act other : Act) → bare act ≡ bare other → IsAlike act.made other.made
  head_like act other same = from_bare other.worker act.made other.made (subst (λ (one : Act). IsAlike act.made one.made) same (like_bare act.worker act.made))

  pub lists_like : (acts others : List Act) → map bare acts ≡ map bare others → AreAlike (made_by w acts) (made_by w others)
  lists_like [] [] same = tt
  lists_like [] (other ∷ others) same = absurd cc
  lists_like (act ∷ acts) [] same = absurd cc
  lists_like (act ∷ acts) (other ∷ others) same =
      let heads : bare act ≡ bare other = cc in
      let tails : map bare acts ≡ map bare others = cc in
      let who : act.worker ≡ other.worker = ap (λ (one : Act). one.worker) heads in
      subst (λ (n : ℕ). AreAlike (made_by w (act ∷ acts)) (cond (n == w) (other.made ∷ made_by w others) (made_by w others))) who (chosen (act.worker == w) (head_like act other heads) (lists_like acts others tails))
    where
      chosen : (b : Bool) → IsAlike act.made other.made → AreAlike (made_by w acts) (made_by w others) → AreAlike (cond b (act.made ∷ made_by w acts) (made_by w acts)) (cond b (other.made ∷ made_by w others) (made_by w others))
      chosen true head tail = (head, tail)
      chosen false head tail = tail

-- ---- journals

bare_deed : (object worker : ℕ) (made : Made) → deed_on object worker (bare_made worker made) ≡ deed_on object worker made
bare_deed object worker (Shared x) = refl
bare_deed object worker (Entered other entry) = refl

pub bare_deeds : (object : ℕ) (acts : List Act) → deeds_on object (map bare acts) ≡ deeds_on object acts
bare_deeds object [] = refl
bare_deeds object (act ∷ acts) = ap (λ (l : List (ℕ × Deed ObjectEvent ObjectReply)). l ++ deeds_on object (map bare acts)) (bare_deed object act.worker act.made)
    ∙ ap (λ (l : List (ℕ × Deed ObjectEvent ObjectReply)). deed_on object act.worker act.made ++ l) (bare_deeds object acts)

pub deeds_on-append : (object : ℕ) (acts more : List Act) → deeds_on object (acts ++ more) ≡ deeds_on object acts ++ deeds_on object more
deeds_on-append object [] more = refl
deeds_on-append object (act ∷ acts) more = ap (λ (l : List (ℕ × Deed ObjectEvent ObjectReply)). deed_on object act.worker act.made ++ l) (deeds_on-append object acts more)
    ∙ sym (append_assoc (deed_on object act.worker act.made) (deeds_on object acts) (deeds_on object more))

-- the entries of the journal are these, each by its worker
abbrev pub TellsWhat : Account → Type 0
TellsWhat kept = (object : ℕ) → map told (entries_on object kept.acts) ≡ deeds_on object kept.acts

mapped : (entries more : List ObjectEntry) → map told (entries ++ more) ≡ map told entries ++ map told more
mapped [] more = refl
mapped (entry ∷ entries) more = ap (λ (l : List (ℕ × Deed ObjectEvent ObjectReply)). told entry ∷ l) (mapped entries more)

add : (acts : List Act) (act : Act) (object : ℕ) → map told (entries_on object acts) ≡ deeds_on object acts → map told (entries_on object (act ∷ [])) ≡ deeds_on object (act ∷ [])
    → map told (entries_on object (acts ++ act ∷ [])) ≡ deeds_on object (acts ++ act ∷ [])
add acts act object before same =
    ap (map told) (entries_on-append object acts (act ∷ [])) ∙ (mapped (entries_on object acts) (entries_on object (act ∷ []))
    ∙ (ap (λ (l : List (ℕ × Deed ObjectEvent ObjectReply)). l ++ map told (entries_on object (act ∷ []))) before
    ∙ (ap (λ (l : List (ℕ × Deed ObjectEvent ObjectReply)). deeds_on object acts ++ l) same ∙ sym (deeds_on-append object acts (act ∷ [])))))

an_entry : (worker other : ℕ) (entry : ObjectEntry) → entry.caller ≡ worker → (object : ℕ) → map told (entries_on object (record { worker = worker; made = Entered other entry } ∷ [])) ≡ deeds_on object (record { worker = worker; made = Entered other entry } ∷ [])
an_entry worker other entry calls object = chosen (other == object) where
  chosen : (b : Bool) → map told (cond b (entry ∷ []) []) ≡ cond b ((worker, entry.deed) ∷ []) [] ++ []
  chosen true = ap (λ (n : ℕ). let l : List (ℕ × Deed ObjectEvent ObjectReply) = (n, entry.deed) ∷ [] in l) calls
  chosen false = refl

pub begins : (plan : Plan) → TellsWhat (opened plan)
begins plan object = refl

made_step : (kept : Account) (worker : ℕ) (made : Made) → TellsWhat kept → TellsWhat (with_made worker made kept)
made_step kept worker (Shared x) now object = add kept.acts (record { worker = worker; made = Shared (placed worker x kept) }) object (now object) refl
made_step kept worker (Entered other entry) now object = add kept.acts (record { worker = worker; made = Entered other (entered worker other entry kept) }) object (now object) (an_entry worker other (entered worker other entry kept) refl object)

pub step : (kept : Account) (act : Act) → TellsWhat kept → TellsWhat (with_act kept act)
step kept act now = made_step kept act.worker act.made now
