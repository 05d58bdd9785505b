-- The entries of journals that were found of the workers' lists, against those of a claim that the text tells.
use Rattle.std.proofs.Common.{◌≡◌, ◌⊎◌, inl, inr, ℕ, zero, suc, ◌<◌, ◌≤◌, ◌==◌, Bool, true, false, cond, List, [], ◌∷◌, ◌++◌, map, length, get_or, Option, Some, None, slice_get, refl, sym, ap, ◌∙◌, subst, arith}
use Rattle.std.specs.Prelude.{◌&&◌}
use Rattle.std.specs.List.{filter, flat_map, list_all}
use Rattle.std.proofs.lemmas.Bool.{and_parts, eqb-true}
use Rattle.std.proofs.lemmas.List.{get_or_past}
use Rattle.std.proofs.lemmas.Option.{get_or_from_slice_get, none-some, same_Some, slice_get_cases}
use Rattle.run_record.specs.declared.made.Made.{Made}
use Rattle.run_record.specs.declared.made.Made.TheVariants.{Shared, Entered}
use Rattle.run_record.specs.Record.{ObjectEntry}
use Rattle.object_checks.specs.declared.journals.item.JournalItem.{JournalItem}
use Rattle.object_checks.specs.JournalItems.{is_on, items_of, items_on}
use Rattle.object_checks.specs.JournalItems as items
use Rattle.workload.specs.Plan.{Plan}
use Rattle.record_text.specs.declared.item_line.ItemLine.{ItemLine}
use Rattle.record_text.specs.ItemLines.{is_item, is_place, is_said}
use Rattle.record_text.specs.Numbers.{has_64_bits, is_front}
use Rattle.record_text.specs.Told.{AreItemLines, IsTold, Told}
use Rattle.record_text.specs.Told.{items_of as told_of}
use Rattle.run_check.specs.declared.told.sketch.Sketch.{Sketch}
use Rattle.run_check.specs.declared.told.sketch.Sketch.TheVariants as sketches
use Rattle.run_check.specs.declared.told.along.Along.{Along}
use Rattle.run_check.specs.ToldItems.{Kept, Sketched, along_behind, along_start, list_told, made_of, number_of, sketch_told, sketched_before, worker_told}
use Rattle.run_check.specs.ToldLists.{entry_at}
use Rattle.record_clauses.specs.Account.{Claim, ToldItem}
use Rattle.record_clauses.specs.Lists.{numbered, numbered_in}
use Rattle.run_check.specs.declared.spelling.SpeltList.{SpeltList}
use Rattle.run_check.specs.declared.spelling.Spelling.{Spelling}
use Rattle.run_check.specs.Items.{told_item, unmarked_item, unmarked_made}
use Rattle.run_check.specs.Journals.{AreEntries, HaveSmallFronts}
use Rattle.run_check.specs.Lists.{AreSpeltTo, IsSpeltList, list_at}
use Rattle.run_check.specs.Tells.{Tells}
use Rattle.run_check.proofs.ToldLists.{mapped}

-- the entries of a list that its lines say
abbrev pub entries_said : List Sketched → List JournalItem
entries_said list = flat_map (λ (s : Sketched). entry_at s.front s.sketch) list

-- one more item, with its number
number_unmarked : (object number : ℕ) (made : Made) (later : List (ℕ × ObjectEntry)) → numbered object number (unmarked_made made) later ≡ numbered object number made later
number_unmarked object number (Shared x) later = refl
number_unmarked object number (Entered other entry) later = refl

one_numbered : (worker object : ℕ) (front : List ℕ) (sketch : Sketch) (later : List JournalItem)
    → map (items.numbered worker) (filter (is_on object) (entry_at front sketch ++ later)) ≡ numbered object (number_of sketch) (made_of worker front sketch) (map (items.numbered worker) (filter (is_on object) later))
one_numbered worker object front (sketches.Shared call reply place) later = refl
one_numbered worker object front (sketches.Entered other number deed) later = by (other == object) where
  item : JournalItem
  item = record { object = other; number = number; deed = deed; front = front }

  by : (b : Bool) → map (items.numbered worker) (cond b (item ∷ filter (is_on object) later) (filter (is_on object) later))
      ≡ cond b (items.numbered worker item ∷ map (items.numbered worker) (filter (is_on object) later)) (map (items.numbered worker) (filter (is_on object) later))
  by true = refl
  by false = refl

-- the entries that the lines say are those of the claim's list
pub entries_same : (worker object : ℕ) (list : List ToldItem) (said : List Sketched) → map (told_item worker) said ≡ map unmarked_item list
    → map (items.numbered worker) (filter (is_on object) (entries_said said)) ≡ numbered_in object list
entries_same worker object [] [] same = refl
entries_same worker object [] (s ∷ said) same = absurd cc
entries_same worker object (x ∷ list) [] same = absurd cc
entries_same worker object (x ∷ list) (s ∷ said) same =
    let first : told_item worker s ≡ unmarked_item x = cc in
    let rest : map (told_item worker) said ≡ map unmarked_item list = cc in
    one_numbered worker object s.front s.sketch (entries_said said)
    ∙ ap (λ (y : ToldItem). numbered object y.number y.made (map (items.numbered worker) (filter (is_on object) (entries_said said)))) first
    ∙ number_unmarked object x.number x.made (map (items.numbered worker) (filter (is_on object) (entries_said said)))
    ∙ ap (λ (later : List (ℕ × ObjectEntry)). numbered object x.number x.made later) (entries_same worker object list said rest)

module _ (told : Told) (found : Spelling) (claim : Claim) (are : AreSpeltTo told.plan told.items told.plan.workers found) (tells : Tells told claim) where
  pub entries_are : AreEntries claim found.entries
  entries_are worker object = by (slice_get_cases claim.lists worker).1 where
    by_one : (list : List ToldItem) → slice_get claim.lists worker ≡ Some list → (one : SpeltList) × list_at found worker one × IsSpeltList told.plan told.items worker one
        → map (items.numbered worker) (items_on found.entries object worker) ≡ numbered_in object (get_or claim.lists worker [])
    by_one list there (one, at, spelt) =
        let (said, is, same) = mapped (λ (ss : List Sketched). map (told_item worker) ss) (worker_told told.plan told.items worker) (map unmarked_item list) (tells.lists worker list there) in
        let one_list : said ≡ spelt.list = same_Some said spelt.list (sym is ∙ spelt.told) in
        let mine : map (told_item worker) spelt.list ≡ map unmarked_item list = ap (λ (ss : List Sketched). map (told_item worker) ss) (sym one_list) ∙ same in
        let theirs : items_of found.entries worker ≡ entries_said spelt.list = get_or_from_slice_get found.entries worker one.told.entries [] at.3 ∙ spelt.parts.entries in
        ap (λ (es : List JournalItem). map (items.numbered worker) (filter (is_on object) es)) theirs
        ∙ entries_same worker object list spelt.list mine
        ∙ ap (numbered_in object) (sym (get_or_from_slice_get claim.lists worker list [] there))

    by : ((list : List ToldItem) × (worker < length claim.lists) × (slice_get claim.lists worker ≡ Some list) × (get_or claim.lists worker list ≡ list)) ⊎ ((length claim.lists ≤ worker) × (slice_get claim.lists worker ≡ None))
        → map (items.numbered worker) (items_on found.entries object worker) ≡ numbered_in object (get_or claim.lists worker [])
    by (inl (list, within, there, read)) = let count = tells.workers in by_one list there (are.each worker (omega (arith, within, count)))
    by (inr (past, none)) =
        let count = tells.workers in
        let long = are.entries in
        let theirs : items_of found.entries worker ≡ [] = get_or_past found.entries worker [] (omega (arith, past, count, long)) in
        ap (λ (es : List JournalItem). map (items.numbered worker) (filter (is_on object) es)) theirs ∙ ap (numbered_in object) (sym (get_or_past claim.lists worker [] past))

-- ---- fronts

-- each of these has a front of at most 64 numbers
abbrev SmallSaid : List Sketched → Type 0
SmallSaid [] = Unit {0}
SmallSaid (s ∷ said) = (length s.front ≤ 64) × SmallSaid said

abbrev SmallLines : List ItemLine → Type 0
SmallLines [] = Unit {0}
SmallLines (line ∷ lines) = (length line.front ≤ 64) × SmallLines lines

one_small : (front : List ℕ) (sketch : Sketch) (later : List JournalItem) (i : ℕ) (item : JournalItem) → length front ≤ 64 → ((j : ℕ) → slice_get later j ≡ Some item → length item.front ≤ 64)
    → slice_get (entry_at front sketch ++ later) i ≡ Some item → length item.front ≤ 64
one_small front (sketches.Shared call reply place) later i item small rest at = rest i at
one_small front (sketches.Entered object number deed) later zero item small rest at =
    let one : JournalItem = record { object = object; number = number; deed = deed; front = front } in
    subst (λ (x : JournalItem). length x.front ≤ 64) (same_Some one item at) small
one_small front (sketches.Entered object number deed) later (suc i) item small rest at = rest i at

small_entries : (said : List Sketched) → SmallSaid said → (i : ℕ) (item : JournalItem) → slice_get (entries_said said) i ≡ Some item → length item.front ≤ 64
small_entries [] small i item at = absurd (none-some item at)
small_entries (s ∷ said) small i item at = one_small s.front s.sketch (entries_said said) i item small.0 (λ j. small_entries said small.1 j item) at

said_before : (line : ItemLine) (sketch : Option Sketch) (more : Option (List Sketched)) (said : List Sketched) → sketched_before line sketch more ≡ Some said
    → (length line.front ≤ 64) → ((rest : List Sketched) → more ≡ Some rest → SmallSaid rest) → SmallSaid said
said_before line None more said is small later = absurd (none-some said is)
said_before line (Some sketch) None said is small later = absurd (none-some said is)
said_before line (Some sketch) (Some rest) said is small later =
    let first : Sketched = record { index = line.index; front = line.front; sketch = sketch } in
    subst SmallSaid (same_Some (first ∷ rest) said is) (small, later rest refl)

small_told : (plan : Plan) (kept : Kept) (worker : ℕ) (along : Along) (lines : List ItemLine) (said : List Sketched) → SmallLines lines → list_told plan kept worker along lines ≡ Some said → SmallSaid said
small_told plan kept worker along [] said small is = subst SmallSaid (same_Some [] said is) tt
small_told plan kept worker along (line ∷ lines) said small is =
    said_before line (sketch_told plan kept worker along line.index line.said) (list_told plan kept worker (along_behind along line.said) lines) said is small.0
    (λ rest there. small_told plan kept worker (along_behind along line.said) lines rest small.1 there)

small_of : (worker : ℕ) (lines : List ItemLine) → SmallLines lines → SmallLines (told_of lines worker)
small_of worker [] small = tt
small_of worker (line ∷ lines) small = by (line.worker == worker) (small_of worker lines small.1) where
  by : (b : Bool) → SmallLines (told_of lines worker) → SmallLines (cond b (line ∷ told_of lines worker) (told_of lines worker))
  by true later = (small.0, later)
  by false later = later

front_fits : (plan : Plan) (line : ItemLine) → plan.workers ≤ 64 → is_item plan line ≡ true → length line.front ≤ 64
front_fits plan line few is =
    let said = and_parts (is_place plan line.worker line.index) (is_front plan.workers line.front && is_said plan line.said) is in
    let front = and_parts (is_front plan.workers line.front) (is_said plan line.said) said.1 in
    let long = and_parts (length line.front == plan.workers) (list_all has_64_bits line.front) front.0 in
    let same : length line.front ≡ plan.workers = eqb-true (length line.front) plan.workers long.0 in
    omega (arith, few, same)

small_lines : (plan : Plan) → plan.workers ≤ 64 → (texts : List (List ℕ)) (lines : List ItemLine) → AreItemLines plan texts lines → SmallLines lines
small_lines plan few [] [] are = tt
small_lines plan few [] (line ∷ lines) are = absurd are
small_lines plan few (text ∷ texts) [] are = absurd are
small_lines plan few (text ∷ texts) (line ∷ lines) are = (front_fits plan line few are.0.fits, small_lines plan few texts lines are.1)

pub fronts_are_small : (told : Told) (found : Spelling) → told.plan.workers ≤ 64 → (bytes : List ℕ) → IsTold bytes told → AreSpeltTo told.plan told.items told.plan.workers found → HaveSmallFronts found.entries
fronts_are_small told found few bytes is are worker i item at = by (slice_get_cases found.entries worker).1 where
  small : SmallLines told.items
  small = small_lines told.plan few is.says.items told.items is.says.each

  by_one : (one : SpeltList) × list_at found worker one × IsSpeltList told.plan told.items worker one → length item.front ≤ 64
  by_one (one, there, spelt) =
      let theirs : items_of found.entries worker ≡ entries_said spelt.list = get_or_from_slice_get found.entries worker one.told.entries [] there.3 ∙ spelt.parts.entries in
      small_entries spelt.list (small_told told.plan _ worker along_start (told_of told.items worker) spelt.list (small_of worker told.items small) spelt.told)
      i item (subst (λ (es : List JournalItem). slice_get es i ≡ Some item) theirs at)

  by : ((list : List JournalItem) × (worker < length found.entries) × (slice_get found.entries worker ≡ Some list) × (get_or found.entries worker list ≡ list)) ⊎ ((length found.entries ≤ worker) × (slice_get found.entries worker ≡ None)) → length item.front ≤ 64
  by (inl (list, within, there, read)) = let long = are.entries in by_one (are.each worker (omega (arith, within, long)))
  by (inr (past, none)) =
      let none : items_of found.entries worker ≡ [] = get_or_past found.entries worker [] past in
      absurd (none-some item (subst (λ (es : List JournalItem). slice_get es i ≡ Some item) none at))
