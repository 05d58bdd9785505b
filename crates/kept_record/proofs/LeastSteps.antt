-- Another record of the items of some acts: behind what is kept of the first of them, what is made next stands next in its worker's list, and an entry next in its object's journal.
use Rattle.std.proofs.Common.{◌≡◌, ℕ, Bool, cond, List, [], ◌∷◌, ◌++◌, map, length, take, Some, slice_get, refl, sym, ap, ◌∙◌, append_assoc}
use Rattle.std.proofs.lemmas.Bool.{eq-eqb}
use Rattle.std.proofs.lemmas.List.{length-map, map-append, take-map}
use Rattle.std.proofs.Math.Seq.{take-append_seam}
use Rattle.sync_model.specs.declared.item.Item.{Item}
use Rattle.sync_model.specs.declared.journal.Deed.{Deed}
use Rattle.sync_model.specs.Journal.{by}
use Rattle.run_record.specs.declared.entered.ObjectEvent.{ObjectEvent}
use Rattle.run_record.specs.declared.entered.ObjectReply.{ObjectReply}
use Rattle.run_record.specs.declared.made.Made.{Made}
use Rattle.run_record.specs.declared.made.Made.TheVariants.{Shared, Entered}
use Rattle.run_record.specs.Record.{Record, ObjectEntry, journal_of, list_of, entries_in}
use Rattle.kept_record.specs.Acts.{bare_made, bare, deeds_on, told}
use Rattle.kept_record.specs.Keeping.{Act, Account, made_by, with_act}
use Rattle.kept_record.proofs.LeastCounts.{at_seam, map_at, as_many_entries, many, by_many, made_many, entry_stands, caller_stands, bare_lists, made_by-append, bare_deeds, deeds_on-append, bare_next}

-- what is kept, and what comes behind it, are these acts
abbrev pub Goes : List Act → Account → List Act → Type 0
Goes acts kept rest = map bare (kept.acts ++ rest) ≡ map bare acts

pub goes_on : (acts : List Act) (kept : Account) (act : Act) (rest : List Act) → Goes acts kept (act ∷ rest) → Goes acts (with_act kept act) rest
goes_on acts kept act rest now = map-append bare (with_act kept act).acts rest ∙ (ap (λ (l : List Act). l ++ map bare rest) (bare_next kept act)
    ∙ (append_assoc (map bare kept.acts) (bare act ∷ []) (map bare rest) ∙ (sym (map-append bare kept.acts (act ∷ rest)) ∙ now)))

-- another record of the items of these acts
pub record HasItemsOf (acts : List Act) (other : Record) : Type 0 where
  pub lists : (w : ℕ) → map (bare_made w) (list_of other w) ≡ map (bare_made w) (made_by w acts)
  pub journals : (o : ℕ) → map told (journal_of other o) ≡ deeds_on o acts
  pub once : (w o : ℕ) → entries_in o (list_of other w) ≡ by w (journal_of other o)

like_call : (w : ℕ) (x : Item) (made : Made) → bare_made w made ≡ bare_made w (Shared x) → (found : Item) × (made ≡ Shared found)
like_call w x (Shared found) same = (found, refl)
like_call w x (Entered object entry) same = absurd cc

-- the deed of an entry, or this
abbrev deed_or : Deed ObjectEvent ObjectReply → Made → Deed ObjectEvent ObjectReply
deed_or none (Shared x) = none
deed_or none (Entered object entry) = entry.deed

like_entry : (w object : ℕ) (entry : ObjectEntry) (made : Made) → bare_made w made ≡ bare_made w (Entered object entry) → (found : ObjectEntry) × (made ≡ Entered object found) × (found.deed ≡ entry.deed)
like_entry w object entry (Shared x) same = absurd cc
like_entry w object entry (Entered other found) same = let here : other ≡ object = cc in (found, ap (λ (n : ℕ). Entered n found) here, ap (deed_or entry.deed) same)

module _ (acts : List Act) (other : Record) (has : HasItemsOf acts other) (kept : Account) (worker : ℕ) where
  -- how much of the worker's list is kept, and of an object's journal
  abbrev pub made_so_far : ℕ
  made_so_far = length (made_by worker kept.acts)

  abbrev pub done_so_far : ℕ → ℕ
  done_so_far o = length (deeds_on o kept.acts)

  module _ (rest : List Act) (goes : Goes acts kept rest) where
    list_split : map (bare_made worker) (list_of other worker) ≡ map (bare_made worker) (made_by worker kept.acts) ++ map (bare_made worker) (made_by worker rest)
    list_split = has.lists worker ∙ (sym (bare_lists worker acts) ∙ (ap (λ (l : List Act). map (bare_made worker) (made_by worker l)) (sym goes)
        ∙ (bare_lists worker (kept.acts ++ rest) ∙ (ap (map (bare_made worker)) (made_by-append worker kept.acts rest) ∙ map-append (bare_made worker) (made_by worker kept.acts) (made_by worker rest)))))

    journal_split : (o : ℕ) → map told (journal_of other o) ≡ deeds_on o kept.acts ++ deeds_on o rest
    journal_split o = has.journals o ∙ (sym (bare_deeds o acts) ∙ (ap (deeds_on o) (sym goes) ∙ (bare_deeds o (kept.acts ++ rest) ∙ deeds_on-append o kept.acts rest)))

    list_begins : map (bare_made worker) (take made_so_far (list_of other worker)) ≡ map (bare_made worker) (made_by worker kept.acts)
    list_begins = sym (take-map (bare_made worker) made_so_far (list_of other worker)) ∙ (ap (take made_so_far) list_split
        ∙ (ap (λ (n : ℕ). take n (map (bare_made worker) (made_by worker kept.acts) ++ map (bare_made worker) (made_by worker rest))) (sym (length-map (made_by worker kept.acts) (bare_made worker)))
        ∙ take-append_seam (map (bare_made worker) (made_by worker kept.acts)) (map (bare_made worker) (made_by worker rest))))

    journal_begins : (o : ℕ) → map told (take (done_so_far o) (journal_of other o)) ≡ deeds_on o kept.acts
    journal_begins o = sym (take-map told (done_so_far o) (journal_of other o)) ∙ (ap (take (done_so_far o)) (journal_split o) ∙ take-append_seam (deeds_on o kept.acts) (deeds_on o rest))

  in_list : (made : Made) (rest : List Act) → Goes acts kept (record { worker = worker; made = made } ∷ rest) → (found : Made) × (slice_get (list_of other worker) made_so_far ≡ Some found) × (bare_made worker found ≡ bare_made worker made)
  in_list made rest goes = map_at (bare_made worker) (list_of other worker) made_so_far (bare_made worker made)
      (ap (λ (l : List Made). slice_get l made_so_far) (list_split (record { worker = worker; made = made } ∷ rest) goes ∙ ap (λ (b : Bool). map (bare_made worker) (made_by worker kept.acts) ++ map (bare_made worker) (cond b (made ∷ made_by worker rest) (made_by worker rest))) (eq-eqb worker worker refl))
      ∙ (ap (slice_get (map (bare_made worker) (made_by worker kept.acts) ++ bare_made worker made ∷ map (bare_made worker) (made_by worker rest))) (sym (length-map (made_by worker kept.acts) (bare_made worker)))
      ∙ at_seam (map (bare_made worker) (made_by worker kept.acts)) (bare_made worker made) (map (bare_made worker) (made_by worker rest))))

  pub call_stands : (x : Item) (rest : List Act) → Goes acts kept (record { worker = worker; made = Shared x } ∷ rest) → (found : Item) × (slice_get (list_of other worker) made_so_far ≡ Some (Shared found))
  call_stands x rest goes = let made = in_list (Shared x) rest goes in let like = like_call worker x made.0 made.2 in (like.0, made.1 ∙ ap (λ (one : Made). Some one) like.1)

  -- an entry stands so: at both places it's one
  pub record Stands (object : ℕ) (entry found : ObjectEntry) : Type 0 where
    pub listed : slice_get (list_of other worker) made_so_far ≡ Some (Entered object found)
    pub journaled : slice_get (journal_of other object) (done_so_far object) ≡ Some found
    pub deed : found.deed ≡ entry.deed

  module _ (object : ℕ) (entry : ObjectEntry) (rest : List Act) (goes : Goes acts kept (record { worker = worker; made = Entered object entry } ∷ rest)) where
    abbrev more : List Act
    more = record { worker = worker; made = Entered object entry } ∷ rest

    in_journal : (found : ObjectEntry) × (slice_get (journal_of other object) (done_so_far object) ≡ Some found) × (told found ≡ (worker, entry.deed))
    in_journal = map_at told (journal_of other object) (done_so_far object) (worker, entry.deed)
        (ap (λ (l : List (ℕ × Deed ObjectEvent ObjectReply)). slice_get l (done_so_far object)) (journal_split more goes object ∙ ap (λ (b : Bool). deeds_on object kept.acts ++ (cond b ((worker, entry.deed) ∷ []) [] ++ deeds_on object rest)) (eq-eqb object object refl))
        ∙ at_seam (deeds_on object kept.acts) (worker, entry.deed) (deeds_on object rest))

    one_entry : (first second : ObjectEntry) → slice_get (list_of other worker) made_so_far ≡ Some (Entered object first) → slice_get (journal_of other object) (done_so_far object) ≡ Some second → second.caller ≡ worker → Some second ≡ Some first
    one_entry first second listed journaled calls =
        sym (caller_stands worker (journal_of other object) (done_so_far object) second journaled calls)
        ∙ (ap (slice_get (by worker (journal_of other object))) (by_many worker (take (done_so_far object) (journal_of other object)) ∙ (ap (many worker) (journal_begins more goes object)
        ∙ (sym (made_many worker object kept.acts) ∙ sym (as_many_entries worker object (take made_so_far (list_of other worker)) (made_by worker kept.acts) (list_begins more goes)))))
        ∙ (ap (λ (l : List ObjectEntry). slice_get l (length (entries_in object (take made_so_far (list_of other worker))))) (sym (has.once worker object))
        ∙ entry_stands object (list_of other worker) made_so_far first listed))

    pub entry_so_stands : (found : ObjectEntry) × Stands object entry found
    entry_so_stands =
        let made = in_list (Entered object entry) rest goes in
        let found = in_journal in
        let like = like_entry worker object entry made.0 made.2 in
        let listed : slice_get (list_of other worker) made_so_far ≡ Some (Entered object like.0) = made.1 ∙ ap (λ (one : Made). Some one) like.1 in
        (like.0, record { listed = listed; journaled = found.1 ∙ one_entry like.0 found.0 listed found.1 (ap (λ (t : ℕ × Deed ObjectEvent ObjectReply). t.0) found.2); deed = like.2 })
