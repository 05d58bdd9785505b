-- Parts of calls, and what they add to what their worker has done.
use Rattle.std.proofs.Common.{◌≡◌, ℕ, Bool, true, false, ◌==◌, cond, List, [], ◌∷◌, ◌++◌, map, refl, sym, ap, ◌∙◌, subst, arith, Option, slice_index}
use Rattle.std.proofs.lemmas.List.{map-append, append-nil}
use Rattle.sync_model.specs.declared.item.Item.{Item}
use Rattle.sync_model.specs.declared.journal.Deed.{Deed}
use Rattle.sync_model.specs.declared.journal.Entry.{Entry}
use Rattle.sync_model.specs.Front.{Front, AtLeast}
use Rattle.sync_model.specs.Journal.{Rising, front_at}
use Rattle.sync_model.specs.Note.{Holding, IsCounted}
use Rattle.sync_model.specs.Shared.{items_of, times_by}
use Rattle.ruled_object.specs.declared.pass.Pass.{Pass}
use Rattle.ruled_object.specs.Growth.{Placed, entries_of, deeds_of, KeepsNote}
use Rattle.protocols.specs.declared.step.Step.{Step}
use Rattle.protocols.specs.Spelling.{CallAnswer, Spells}
use Rattle.call_loop.specs.Calls.{Did}
use Rattle.run_record.specs.declared.entered.ObjectEvent.{ObjectEvent}
use Rattle.run_record.specs.declared.entered.ObjectReply.{ObjectReply}
use Rattle.run_record.specs.declared.made.Made.{Made}
use Rattle.run_record.specs.declared.made.Made.TheVariants.{Entered}
use Rattle.run_record.specs.Parts.{lifted, stages}
use Rattle.run_record.specs.Record.{ObjectEntry, shared_in, entries_in}
use Rattle.thread_objects.specs.Laws.{Counts}
use Rattle.thread_objects.specs.Working.{Rises, CountsOwn, Works, alone, number_in, desk_at}
use Rattle.thread_objects.specs.Own.{own_as}

module _ {E R : Type 0} where
  deeds_are : (es : List (Placed E R)) → deeds_of es ≡ map (λ entry. entry.deed) (entries_of es)
  deeds_are [] = refl
  deeds_are (p ∷ es) = ap (λ (deeds : List (Deed E R)). p.entry.deed ∷ deeds) (deeds_are es)

module _ {E R : Type 0} (event : E → ObjectEvent) (reply : R → ObjectReply) (number : ℕ) where
  abbrev items_as : List (Entry E R) → List Made
  items_as es = map (λ entry. Entered number (lifted event reply entry)) es

  rises_as : (from to : Front) (es : List (Entry E R)) → Rising from es to → Rises from (items_as es) [] to
  rises_as from to [] rises = rises
  rises_as from to (e ∷ es) rises = (rises.0, rises_as (front_at e) to es rises.1)

  none_shared : (es : List (Entry E R)) → shared_in (items_as es) ≡ []
  none_shared [] = refl
  none_shared (e ∷ es) = none_shared es

  entered_here : (object : ℕ) → (number == object) ≡ true → (es : List (Entry E R)) → entries_in object (items_as es) ≡ map (lifted event reply) es
  entered_here object is [] = refl
  entered_here object is (e ∷ es) =
      let rest = entries_in object (items_as es) in
      ap (λ (b : Bool). cond b (lifted event reply e ∷ rest) rest) is ∙ ap (λ (xs : List ObjectEntry). lifted event reply e ∷ xs) (entered_here object is es)

  entered_elsewhere : (object : ℕ) → (number == object) ≡ false → (es : List (Entry E R)) → entries_in object (items_as es) ≡ []
  entered_elsewhere object is [] = refl
  entered_elsewhere object is (e ∷ es) =
      let rest = entries_in object (items_as es) in
      ap (λ (b : Bool). cond b (lifted event reply e ∷ rest) rest) is ∙ entered_elsewhere object is es

  -- own lists that grow by these entries grow alone
  alone_grows : (old new : List ObjectEntry) (es : List (Entry E R)) → new ≡ old ++ map (lifted event reply) es → (object : ℕ) (here : Bool) → (number == object) ≡ here
      → alone number new object ≡ alone number old object ++ entries_in object (items_as es)
  alone_grows old new es grown object true is =
      subst (λ (b : Bool). cond b new [] ≡ cond b old [] ++ entries_in object (items_as es)) (sym is) (grown ∙ ap (λ (xs : List ObjectEntry). old ++ xs) (sym (entered_here object is es)))
  alone_grows old new es grown object false is =
      subst (λ (b : Bool). cond b new [] ≡ cond b old [] ++ entries_in object (items_as es)) (sym is) (sym (entered_elsewhere object is es))

  rising_whole : (from to : Front) (es : List (Entry E R)) → Rising from es to → AtLeast to.counts from.counts
  rising_whole from to [] rises = rises.0
  rising_whole from to (e ∷ es) rises = λ k. let first = rises.0.0 k in let rest = rising_whole (front_at e) to es rises.1 k in omega arith

  -- where the worker's own number is the same in the front before and in the one after, it is so in each between
  counts_as : (worker before : ℕ) (from to : Front) (es : List (Entry E R)) → Rising from es to → slice_index from.counts worker ≡ before → slice_index to.counts worker ≡ before → CountsOwn worker before (items_as es)
  counts_as worker before from to [] rises first last = tt
  counts_as worker before from to (e ∷ es) rises first last =
      let here : slice_index e.front worker ≡ before = omega (arith, rises.0.0 worker, rising_whole (front_at e) to es rises.1 worker, first, last) in
      (here, counts_as worker before (front_at e) to es rises.1 here last)

module _ {S N H E R G O : Type 0} (next : S → ℕ → E → S × R) (halts : Bool) (start : S) (event_of : G → ℕ → E) (meaning : G → R → Step G O) (timely : List (Deed E R) → Type 0) (at : H → N → Type 0) (owner : N → Option Holding) (front : N → Front) where
  -- what a call of a protocol does is the record's part
  pub did_works : Counts → (event : E → ObjectEvent) (reply : R → ObjectReply) (number : ℕ) (stage : G) (old new : Pass S N E R) (was note : N) (answer : CallAnswer O)
      → ((home : H) (any : N) → at home any → IsCounted (owner any) (front any).counts) → (home : H) → at home was → KeepsNote at owner front was note
      → Did next halts start (Spells event_of meaning stage) timely old (front was) answer new (front note)
      → Works (stages event reply event_of meaning number stage) (desk_at owner front number (own_as event reply old) was) answer (desk_at owner front number (own_as event reply new) note)
  did_works counts event reply number stage old new was note answer counted home here keeps did =
      let es = entries_of did.entries in
      let grown : own_as event reply new ≡ own_as event reply old ++ map (lifted event reply) es = ap (λ (xs : List (Entry E R)). map (lifted event reply) xs) did.grows.mine ∙ map-append (lifted event reply) _ es in
      let later : IsCounted (owner was) (front note).counts = subst (λ (o : Option Holding). IsCounted o (front note).counts) keeps.kept (counted home note (keeps.home home here)) in
      record {
        items = items_as event reply number es;
        moves = record {
          worker = ap number_in keeps.kept;
          owns = λ object. alone_grows event reply number (own_as event reply old) (own_as event reply new) es grown object (number == object) refl;
          calls = ap items_of keeps.kept ∙ sym (ap (λ (xs : List Item). items_of (owner was) ++ xs) (none_shared event reply number es) ∙ append-nil (items_of (owner was)));
          numbers = [];
          times = ap times_by keeps.kept ∙ sym (append-nil (times_by (owner was)));
          fronts = rises_as event reply number (front was) (front note) es did.grows.fronts;
          counts = λ worker is. counts_as event reply number worker _ (front was) (front note) es did.grows.fronts (counts (owner was) (front was).counts worker (counted home was here) is) (counts (owner was) (front note).counts worker later is);
        };
        spelt = (es, refl, subst (λ (deeds : List (Deed E R)). Spells event_of meaning stage deeds answer) (deeds_are did.entries) did.spelt);
      }
