-- What a text keeps of a once is what its function came to.
use Rattle.std.proofs.Common.{◌≡◌, ◌⊎◌, inl, inr, ℕ, zero, suc, ◌<◌, ◌≤◌, ℤ, pos, Bool, true, false, cond, ◌==◌, List, [], ◌∷◌, ◌++◌, map, Option, Some, None, slice_get, refl, sym, ap, ◌∙◌, subst, arith}
use Rattle.std.specs.Prelude.{is_some}
use Rattle.std.specs.List.{AllByRecursion}
use Rattle.std.proofs.lemmas.Bool.{cases_lt, eq-eqb, eqb-true}
use Rattle.std.proofs.lemmas.Option.{none-some, same_Some}
use Rattle.sync_model.specs.declared.item.SharedCall.{SharedCall}
use Rattle.sync_model.specs.declared.item.SharedCall.TheVariants as calls
use Rattle.sync_model.specs.declared.item.SharedReply.{SharedReply}
use Rattle.sync_model.specs.declared.item.SharedReply.TheVariants as answers
use Rattle.sync_model.specs.declared.journal.Deed.{Deed}
use Rattle.sync_model.specs.declared.journal.Deed.TheVariants.{Event, Refused, Halt}
use Rattle.wait_cores.specs.declared.once.OnceEvent.TheVariants as once_events
use Rattle.run_record.specs.declared.entered.ObjectEvent.{ObjectEvent}
use Rattle.run_record.specs.declared.entered.ObjectEvent.TheVariants as object_events
use Rattle.run_record.specs.declared.entered.ObjectReply.{ObjectReply}
use Rattle.run_record.specs.declared.made.Made.{Made}
use Rattle.run_record.specs.declared.made.Made.TheVariants.{Shared, Entered}
use Rattle.run_record.specs.Record.{ObjectEntry}
use Rattle.record_text.specs.declared.answer.AnswerWord.{AnswerWord}
use Rattle.record_text.specs.declared.answer.AnswerWord.TheVariants as words
use Rattle.record_text.specs.declared.event.EventWord.{EventWord}
use Rattle.record_text.specs.declared.event.EventWord.TheVariants as events
use Rattle.record_text.specs.declared.item_line.ItemLine.{ItemLine}
use Rattle.record_text.specs.declared.item_line.Said.{Said}
use Rattle.record_text.specs.declared.item_line.Said.TheVariants as said
use Rattle.record_text.specs.Told.{items_of}
use Rattle.record_text.specs.Written.{answer_of, entry_said, event_of, front_in, made_said, shared_said}
use Rattle.run_check.specs.declared.told.along.Along.{Along}
use Rattle.run_check.specs.ToldItems.{Kept, along_behind, along_start, keep, keep_event, keep_list, keep_said, kept_at, kept_by}
use Rattle.record_clauses.specs.Account.{ToldItem, made_in}
use Rattle.run_check.specs.Items.{line_of}
use Rattle.run_check.proofs.ToldLists.{mapped}
use Rattle.run_check.proofs.ToldSums.{EndIs, SumsAre, sum_behind}

-- where its word is `end`, the deed is the end of a once's function, which came to v
abbrev pub EndWordIs : ℤ → Deed ObjectEvent ObjectReply → Type 0
EndWordIs v (Event event reply) = event_of event ≡ events.End → event ≡ object_events.Once (once_events.End v)
EndWordIs v (Refused event misuse) = event_of event ≡ events.End → event ≡ object_events.Once (once_events.End v)
EndWordIs v (Halt misuse) = Unit {0}

-- an entry on this once whose word is `end` is the end of its function, which came to v
abbrev pub EndWordOn : ℕ → ℤ → Made → Type 0
EndWordOn o v (Shared x) = Unit {0}
EndWordOn o v (Entered object entry) = object ≡ o → EndWordIs v entry.deed

-- the deed is the end of a once's function that came to u
abbrev pub IsEnd : ℤ → Deed ObjectEvent ObjectReply → Type 0
IsEnd u (Event (object_events.Once (once_events.End w)) reply) = w ≡ u
IsEnd u (Refused (object_events.Once (once_events.End w)) misuse) = w ≡ u
IsEnd u deed = ⊥

-- some entry on it is its function's end
abbrev pub HasEnd : ℕ → List Made → Type 0
HasEnd o items = (i : ℕ) × (entry : ObjectEntry) × (u : ℤ) × (slice_get items i ≡ Some (Entered o entry)) × IsEnd u entry.deed

-- ---- a deed and its word

abbrev word_of : Deed ObjectEvent ObjectReply → EventWord
word_of (Event event reply) = event_of event
word_of (Refused event misuse) = event_of event
word_of (Halt misuse) = events.Halt misuse

end_word : (u : ℤ) (deed : Deed ObjectEvent ObjectReply) → IsEnd u deed → word_of deed ≡ events.End
end_word u (Event (object_events.Once (once_events.End w)) reply) is = refl
end_word u (Refused (object_events.Once (once_events.End w)) misuse) is = refl
end_word u deed is = absurd is

end_sum : (sum v : ℤ) (deed : Deed ObjectEvent ObjectReply) → EndIs sum deed → EndWordIs v deed → word_of deed ≡ events.End → sum ≡ v
end_sum sum v (Event event reply) is ends word = subst (λ (e : ObjectEvent). EndIs sum (Event e reply)) (ends word) is
end_sum sum v (Refused event misuse) is ends word = subst (λ (e : ObjectEvent). EndIs sum (Refused e misuse)) (ends word) is
end_sum sum v (Halt misuse) is ends word = absurd cc

-- what is said of an entry has the word of its deed
entry_words : (object number : ℕ) (deed : Deed ObjectEvent ObjectReply) (s : Said) → entry_said object number deed ≡ Some s → (answer : AnswerWord) × (said.Entered object number (word_of deed) answer ≡ s)
entry_words object number (Event event reply) s is = let (answer, found, same) = mapped (λ (a : AnswerWord). said.Entered object number (event_of event) a) (answer_of reply) s is in (answer, same)
entry_words object number (Refused event misuse) s is = (words.Halted misuse, same_Some _ s is)
entry_words object number (Halt misuse) s is = (words.Done, same_Some _ s is)

-- what is said of a call on a map or an atomic leaves the sum that it answered, and keeps nothing
shared_behind : (along : Along) (kept : Kept) (place : ℕ) (call : SharedCall) (reply : SharedReply) (s : Said) → shared_said place call reply ≡ Some s
    → ((along_behind along s).sum ≡ sum_behind along.sum call reply) × (keep_said kept along.sum s ≡ kept)
shared_behind along kept place (calls.Map m call) (answers.Map reply) s is = let same = same_Some _ s is in (sym (ap (λ (t : Said). (along_behind along t).sum) same), sym (ap (keep_said kept along.sum) same))
shared_behind along kept place (calls.Atomic a call) (answers.Atomic reply) s is = let same = same_Some _ s is in (sym (ap (λ (t : Said). (along_behind along t).sum) same), sym (ap (keep_said kept along.sum) same))
shared_behind along kept place (calls.Begin m) answers.Begun s is = let same = same_Some _ s is in (sym (ap (λ (t : Said). (along_behind along t).sum) same), sym (ap (keep_said kept along.sum) same))
shared_behind along kept place (calls.Next begin) (answers.Shown shown) s is = let same = same_Some _ s is in (sym (ap (λ (t : Said). (along_behind along t).sum) same), sym (ap (keep_said kept along.sum) same))
shared_behind along kept place call reply s is = absurd (none-some s is)

line_said : (worker : ℕ) (x : ToldItem) (line : ItemLine) → line_of worker x ≡ Some line → made_said x.number x.made ≡ Some line.said
line_said worker x line is =
    let (s, found, same) = mapped (λ (t : Said). record { worker = worker; index = x.call; front = front_in x.made; said = t }) (made_said x.number x.made) line is in
    found ∙ ap Some (ap (λ (l : ItemLine). l.said) same)

-- ---- what is kept of one object

module _ (o : ℕ) where
  kept_first : (kept more : Kept) (u : ℤ) → kept_at kept o ≡ Some u → kept_at (kept ++ more) o ≡ Some u
  kept_first [] more u is = absurd (none-some u is)
  kept_first (one ∷ kept) more u is = by (one.0 == o) is (kept_first kept more u) where
    by : (b : Bool) → cond b (Some one.1) (kept_at kept o) ≡ Some u → (kept_at kept o ≡ Some u → kept_at (kept ++ more) o ≡ Some u) → cond b (Some one.1) (kept_at (kept ++ more) o) ≡ Some u
    by true here later = here
    by false here later = later here

  kept_last : (kept more : Kept) → kept_at kept o ≡ None → kept_at (kept ++ more) o ≡ kept_at more o
  kept_last [] more none = refl
  kept_last (one ∷ kept) more none = by (one.0 == o) none (kept_last kept more) where
    by : (b : Bool) → cond b (Some one.1) (kept_at kept o) ≡ None → (kept_at kept o ≡ None → kept_at (kept ++ more) o ≡ kept_at more o) → cond b (Some one.1) (kept_at (kept ++ more) o) ≡ kept_at more o
    by true here later = absurd (none-some one.1 (sym here))
    by false here later = later here

  -- once it is kept, it stays
  keep_stays : (kept : Kept) (object : ℕ) (sum u : ℤ) → kept_at kept o ≡ Some u → kept_at (keep kept object sum) o ≡ Some u
  keep_stays kept object sum u is = by (is_some (kept_at kept object)) where
    by : (b : Bool) → kept_at (cond b kept (kept ++ (object, sum) ∷ [])) o ≡ Some u
    by true = is
    by false = kept_first kept ((object, sum) ∷ []) u is

  event_stays : (kept : Kept) (object : ℕ) (sum : ℤ) (word : EventWord) (u : ℤ) → kept_at kept o ≡ Some u → kept_at (keep_event kept object sum word) o ≡ Some u
  event_stays kept object sum events.End u is = keep_stays kept object sum u is
  event_stays kept object sum word u is = is

  said_stays : (kept : Kept) (sum : ℤ) (s : Said) (u : ℤ) → kept_at kept o ≡ Some u → kept_at (keep_said kept sum s) o ≡ Some u
  said_stays kept sum (said.Entered object number event answer) u is = event_stays kept object sum event u is
  said_stays kept sum other u is = is

  list_stays : (kept : Kept) (along : Along) (lines : List ItemLine) (u : ℤ) → kept_at kept o ≡ Some u → kept_at (keep_list kept along lines) o ≡ Some u
  list_stays kept along [] u is = is
  list_stays kept along (line ∷ lines) u is = list_stays (keep_said kept along.sum line.said) (along_behind along line.said) lines u (said_stays kept along.sum line.said u is)

module _ (o : ℕ) (v : ℤ) where
  -- nothing but v is kept of it
  abbrev KeptSo : Kept → Type 0
  KeptSo kept = (kept_at kept o ≡ None) ⊎ (kept_at kept o ≡ Some v)

  keep_so : (kept : Kept) (object : ℕ) (sum : ℤ) → (object ≡ o → sum ≡ v) → KeptSo kept → KeptSo (keep kept object sum)
  keep_so kept object sum its (inr is) = inr (keep_stays o kept object sum v is)
  keep_so kept object sum its (inl none) = by (is_some (kept_at kept object)) where
    last : (b : Bool) → (object == o) ≡ b → (cond b (Some sum) None ≡ None) ⊎ (cond b (Some sum) None ≡ Some v)
    last true same = inr (ap Some (its (eqb-true object o same)))
    last false other = inl refl

    by : (b : Bool) → KeptSo (cond b kept (kept ++ (object, sum) ∷ []))
    by true = inl none
    by false = subst (λ (k : Option ℤ). (k ≡ None) ⊎ (k ≡ Some v)) (sym (kept_last o kept ((object, sum) ∷ []) none)) (last (object == o) refl)

  event_so : (kept : Kept) (object : ℕ) (sum : ℤ) (word : EventWord) → (object ≡ o → word ≡ events.End → sum ≡ v) → KeptSo kept → KeptSo (keep_event kept object sum word)
  event_so kept object sum events.End its so = keep_so kept object sum (λ same. its same refl) so
  event_so kept object sum word its so = so

  keep_found : (kept : Kept) (sum : ℤ) → sum ≡ v → KeptSo kept → kept_at (keep kept o sum) o ≡ Some v
  keep_found kept sum is (inr kept_so) = keep_stays o kept o sum v kept_so
  keep_found kept sum is (inl none) =
      ap (λ (k : Option ℤ). kept_at (cond (is_some k) kept (kept ++ (o, sum) ∷ [])) o) none
      ∙ kept_last o kept ((o, sum) ∷ []) none ∙ ap (λ (b : Bool). cond b (Some sum) None) (eq-eqb o o refl) ∙ ap Some is

  -- ---- along a list

  -- behind one item
  one_so : (kept : Kept) (along : Along) (number : ℕ) (made : Made) (later : List Made) (s : Said) → made_said number made ≡ Some s → SumsAre along.sum (made ∷ later) → EndWordOn o v made → KeptSo kept
      → SumsAre (along_behind along s).sum later × KeptSo (keep_said kept along.sum s)
  one_so kept along number (Shared x) later s is sums ends so =
      let (sum, same) = shared_behind along kept x.place x.call x.reply s is in
      (subst (λ (z : ℤ). SumsAre z later) (sym sum) sums, subst KeptSo (sym same) so)
  one_so kept along number (Entered object entry) later s is sums ends so =
      let (answer, same) = entry_words object number entry.deed s is in (
        subst (λ (t : Said). SumsAre (along_behind along t).sum later) same sums.1,
        subst (λ (t : Said). KeptSo (keep_said kept along.sum t)) same (event_so kept object along.sum (word_of entry.deed) (λ at word. end_sum along.sum v entry.deed sums.0 (ends at) word) so),
      )

  -- behind the end of its function
  one_found : (kept : Kept) (along : Along) (number : ℕ) (entry : ObjectEntry) (later : List Made) (s : Said) → entry_said o number entry.deed ≡ Some s → SumsAre along.sum (Entered o entry ∷ later) → EndWordOn o v (Entered o entry) → KeptSo kept
      → word_of entry.deed ≡ events.End → kept_at (keep_said kept along.sum s) o ≡ Some v
  one_found kept along number entry later s is sums ends so word =
      let (answer, same) = entry_words o number entry.deed s is in
      subst (λ (t : Said). kept_at (keep_said kept along.sum t) o ≡ Some v) same
      (subst (λ (w : EventWord). kept_at (keep_event kept o along.sum w) o ≡ Some v) (sym word) (keep_found kept along.sum (end_sum along.sum v entry.deed sums.0 (ends refl) word) so))

  module _ (worker : ℕ) where
    list_so : (kept : Kept) (along : Along) (list : List ToldItem) (lines : List ItemLine) → map (line_of worker) list ≡ map Some lines → SumsAre along.sum (made_in list) → AllByRecursion (EndWordOn o v) (made_in list) → KeptSo kept → KeptSo (keep_list kept along lines)
    list_so kept along [] [] same sums ends so = so
    list_so kept along [] (line ∷ lines) same sums ends so = absurd cc
    list_so kept along (x ∷ list) [] same sums ends so = absurd cc
    list_so kept along (x ∷ list) (line ∷ lines) same sums ends so =
        let first : line_of worker x ≡ Some line = cc in
        let rest : map (line_of worker) list ≡ map Some lines = cc in
        let (later, here) = one_so kept along x.number x.made (made_in list) line.said (line_said worker x line first) sums ends.0 so in
        list_so (keep_said kept along.sum line.said) (along_behind along line.said) list lines rest later ends.1 here

    list_found : (kept : Kept) (along : Along) (list : List ToldItem) (lines : List ItemLine) → map (line_of worker) list ≡ map Some lines → SumsAre along.sum (made_in list) → AllByRecursion (EndWordOn o v) (made_in list) → KeptSo kept
        → (i : ℕ) (entry : ObjectEntry) → slice_get (made_in list) i ≡ Some (Entered o entry) → word_of entry.deed ≡ events.End → kept_at (keep_list kept along lines) o ≡ Some v
    list_found kept along [] lines same sums ends so i entry at word = absurd (none-some (Entered o entry) at)
    list_found kept along (x ∷ list) [] same sums ends so i entry at word = absurd cc
    list_found kept along (x ∷ list) (line ∷ lines) same sums ends so zero entry at word =
        let first : line_of worker x ≡ Some line = cc in
        let made : x.made ≡ Entered o entry = same_Some x.made (Entered o entry) at in
        list_stays o (keep_said kept along.sum line.said) (along_behind along line.said) lines v
        (one_found kept along x.number entry (made_in list) line.said (subst (λ (m : Made). made_said x.number m ≡ Some line.said) made (line_said worker x line first)) (subst (λ (m : Made). SumsAre along.sum (m ∷ made_in list)) made sums)
        (subst (EndWordOn o v) made ends.0) so word)
    list_found kept along (x ∷ list) (line ∷ lines) same sums ends so (suc i) entry at word =
        let first : line_of worker x ≡ Some line = cc in
        let rest : map (line_of worker) list ≡ map Some lines = cc in
        let (later, here) = one_so kept along x.number x.made (made_in list) line.said (line_said worker x line first) sums ends.0 so in
        list_found (keep_said kept along.sum line.said) (along_behind along line.said) list lines rest later ends.1 here i entry at word

-- ---- in all lists

module _ (items : List ItemLine) (n : ℕ) (list : ℕ → List ToldItem)
    (written : (worker : ℕ) → worker < n → map (line_of worker) (list worker) ≡ map Some (items_of items worker))
    (sums : (worker : ℕ) → worker < n → SumsAre (pos 0) (made_in (list worker)))
    (o : ℕ) (v : ℤ) (ends : (worker : ℕ) → worker < n → AllByRecursion (EndWordOn o v) (made_in (list worker))) where
  so_by : (m : ℕ) → m ≤ n → KeptSo o v (kept_by items m)
  so_by zero within = inl refl
  so_by (suc m) within = list_so o v m (kept_by items m) along_start (list m) (items_of items m) (written m within) (sums m within) (ends m within) (so_by m (omega (arith, within)))

  value_by : (m : ℕ) → m ≤ n → (worker : ℕ) → worker < m → HasEnd o (made_in (list worker)) → kept_at (kept_by items m) o ≡ Some v
  value_by zero within worker below has = absurd (omega (arith, below))
  value_by (suc m) within worker below (i, entry, u, at, is) = by (cases_lt worker m) (λ earlier. value_by m (omega (arith, within)) worker earlier (i, entry, u, at, is)) where
    by : (worker < m) ⊎ (m ≤ worker) → (worker < m → kept_at (kept_by items m) o ≡ Some v) → kept_at (kept_by items (suc m)) o ≡ Some v
    by (inl earlier) before = list_stays o (kept_by items m) along_start (items_of items m) v (before earlier)
    by (inr behind) before =
        let same : worker ≡ m = omega (arith, below, behind) in
        list_found o v m (kept_by items m) along_start (list m) (items_of items m) (written m within) (sums m within) (ends m within) (so_by m (omega (arith, within)))
        i entry (subst (λ (w : ℕ). slice_get (made_in (list w)) i ≡ Some (Entered o entry)) same at) (end_word u entry.deed is)

  -- a once whose function ended in one of the lists keeps what it came to
  pub kept_value : (worker : ℕ) → worker < n → HasEnd o (made_in (list worker)) → kept_at (kept_by items n) o ≡ Some v
  kept_value worker within has = value_by n (omega arith) worker within has
