-- A journal whose entries are the log of a machine follows the machine.
use Rattle.std.proofs.Common.{◌≡◌, ℕ, ◌==◌, Bool, true, false, cond, List, [], ◌∷◌, ◌++◌, map, flat_map, Some, None, slice_get, option_map, refl, sym, ap, ◌∙◌, ap₂}
use Rattle.std.proofs.lemmas.Option.{slice_get-map}
use Rattle.sync_model.specs.declared.journal.Deed.{Deed as Done}
use Rattle.sync_model.specs.declared.journal.Deed.TheVariants.{Event, Refused, Halt}
use Rattle.sync_model.specs.declared.journal.Entry.{Entry}
use Rattle.sync_model.specs.Journal.{is_such, Follows, KeepsEdges}
use Rattle.sync_model.specs.Log as log
use Rattle.script_calls.specs.declared.call.Operation.{Operation}
use Rattle.script_calls.specs.declared.call.Reply.{Reply}
use Rattle.run_record.specs.declared.entered.ObjectEvent.{ObjectEvent}
use Rattle.run_record.specs.declared.entered.ObjectReply.{ObjectReply}
use Rattle.run_record.specs.Edges.{frees, takes}
use Rattle.run_record.specs.Journals.{FollowsFrom}
use Rattle.run_record.specs.Parts.{lifted_deed, lifted}
use Rattle.run_record.specs.Record.{ObjectEntry}
use Rattle.kept_record.specs.Acts.{told}
use Rattle.step_runner.specs.declared.turns.item.Deed.{Deed}
use Rattle.step_runner.specs.declared.turns.item.Deed.TheVariants as deeds
use Rattle.step_runner.specs.declared.turns.item.Item.{Item}
use Rattle.step_runner.specs.LeadsTo.{on_object, told_in, told_by, CallsTo}
use Rattle.scheduled_record.proofs.OnObjects.{Told, told_deed, told_at}

-- ---- what is done on an object

abbrev pub by_told : ℕ × Deed → List Told
by_told x = told_deed x.0 x.1

pub told_on : (place : ℕ) (items : List Item) → flat_map (told_at place) items ≡ flat_map by_told (map told_in (on_object place items))
told_on place [] = refl
told_on place (item ∷ items) = chosen (item.object == place) (told_on place items) where
  chosen : (b : Bool) → flat_map (told_at place) items ≡ flat_map by_told (map told_in (on_object place items))
      → cond b (told_deed item.caller item.deed) [] ++ flat_map (told_at place) items ≡ flat_map by_told (map told_in (cond b (item ∷ on_object place items) (on_object place items)))
  chosen true rest = ap (λ (l : List Told). told_deed item.caller item.deed ++ l) rest
  chosen false rest = rest

-- calls of a map, an atomic or a variable are no entries
pub no_entries : {S : Type 0} (goes : Operation → S → Reply (List ℕ) → S → Type 0) (first last : S) (made : List Item) → CallsTo goes first made last → flat_map by_told (map told_in made) ≡ []
no_entries goes first last [] calls = refl
no_entries goes first last (item ∷ made) (operation, reply, next, is, step, rest) =
    ap (λ (d : Deed). told_deed item.caller d ++ flat_map by_told (map told_in made)) is ∙ no_entries goes next last made rest

pub nothing : (journal : List ObjectEntry) → map told journal ≡ [] → journal ≡ []
nothing [] none = refl
nothing (entry ∷ journal) none = absurd cc

module _ {S E R : Type 0} (event : E → ObjectEvent) (answer : R → ObjectReply) (next : S → ℕ → E → S × R) where
  abbrev pub logged : log.Entry E R → Told
  logged e = (e.caller, Event (event e.event) (answer e.reply))

  -- of an object that is neither a pool nor Starts
  pub from_log : ((caller : ℕ) (e : E) (r : R) → told_deed caller (deeds.Entered (event e) (answer r)) ≡ (caller, Event (event e) (answer r)) ∷ []) → (all : List (log.Entry E R)) → flat_map by_told (map (told_by event answer) all) ≡ map logged all
  from_log plain [] = refl
  from_log plain (e ∷ all) = ap₂ (λ (l m : List Told). l ++ m) (plain e.caller e.event e.reply) (from_log plain all)

  -- of a pool
  pub none_logged : ((caller : ℕ) (e : E) (r : R) → told_deed caller (deeds.Entered (event e) (answer r)) ≡ []) → (all : List (log.Entry E R)) → flat_map by_told (map (told_by event answer) all) ≡ []
  none_logged none [] = refl
  none_logged none (e ∷ all) = ap₂ (λ (l m : List Told). l ++ m) (none e.caller e.event e.reply) (none_logged none all)

  -- ---- the entries of one kind

  own : (journal : List ObjectEntry) (all : List (log.Entry E R)) (s : S) → map told journal ≡ map logged all → log.Follows next s all
      → (entries : List (Entry E R)) × (journal ≡ map (lifted event answer) entries) × Follows next true s None entries
  own [] [] s same follows = ([], refl, tt)
  own [] (e ∷ all) s same follows = absurd cc
  own (entry ∷ journal) [] s same follows = absurd cc
  own (entry ∷ journal) (e ∷ all) s same follows =
      let head : told entry ≡ logged e = cc in
      let tail : map told journal ≡ map logged all = cc in
      let rest = own journal all (next s e.caller e.event).0 tail follows.1 in
      let this : Entry E R = record { caller = e.caller; deed = Event e.event e.reply; front = entry.front; knew = entry.knew; time = entry.time } in (
        this ∷ rest.0,
        ap₂ (λ (x : ObjectEntry) (l : List ObjectEntry). x ∷ l) (ap (λ (t : Told). let x : ObjectEntry = record { caller = t.0; deed = t.1; front = entry.front; knew = entry.knew; time = entry.time } in x) head) rest.1,
        ((refl, sym follows.0), rest.2),
      )

  such : (test : ObjectEvent → ObjectReply → Bool) (own_test : E → R → Bool) → ((e : E) (r : R) → test (event e) (answer r) ≡ own_test e r) → (d : Done E R) → is_such test (lifted_deed event answer d) ≡ is_such own_test d
  such test own_test same (Event e r) = same e r
  such test own_test same (Refused e misuse) = refl
  such test own_test same (Halt misuse) = refl

  -- it follows the machine, and keeps the edge law of its kind
  pub follows_from : (own_frees own_takes : E → R → Bool) → ((e : E) (r : R) → frees (event e) (answer r) ≡ own_frees e r) → ((e : E) (r : R) → takes (event e) (answer r) ≡ own_takes e r)
      → (s : S) (journal : List ObjectEntry) (all : List (log.Entry E R)) → map told journal ≡ map logged all → log.Follows next s all → KeepsEdges frees takes journal → FollowsFrom event answer next own_frees own_takes s journal
  follows_from own_frees own_takes same_frees same_takes s journal all same follows keeps =
      let found = own journal all s same follows in (
        found.0,
        found.1,
        found.2,
        λ i j x y before at_x at_y freeing taking.
            keeps i j (lifted event answer x) (lifted event answer y) before (at found.0 found.1 i x at_x) (at found.0 found.1 j y at_y) (such frees own_frees same_frees x.deed ∙ freeing) (such takes own_takes same_takes y.deed ∙ taking),
      )
    where
      at : (entries : List (Entry E R)) → journal ≡ map (lifted event answer) entries → (i : ℕ) (x : Entry E R) → slice_get entries i ≡ Some x → slice_get journal i ≡ Some (lifted event answer x)
      at entries are i x there = ap (λ (l : List ObjectEntry). slice_get l i) are ∙ (slice_get-map (lifted event answer) entries i ∙ ap (option_map (lifted event answer)) there)
