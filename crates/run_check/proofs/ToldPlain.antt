-- What a worker had seen of a journal, and an entry's number among all events, decide nothing.
use Rattle.std.proofs.Common.{◌≡◌, ◌⊎◌, inl, inr, ℕ, zero, suc, ◌+◌, ◌<◌, ◌≤◌, Bool, true, false, cond, ◌==◌, List, [], ◌∷◌, map, length, get_or, take, Option, Some, None, slice_get, slice_index, refl, sym, ap, ◌∙◌, subst, arith}
use Rattle.std.specs.Prelude.{All}
use Rattle.std.proofs.Math.ListN.{get_or-map}
use Rattle.std.proofs.lemmas.Bool.{eq-eqb, eqb-true}
use Rattle.std.proofs.lemmas.List.{length-map, take-map}
use Rattle.std.proofs.lemmas.List.Elements.{All-map}
use Rattle.std.proofs.lemmas.Option.{none-some, same_Some, slice_get-map, slice_get_cases, slice_get_within}
use Rattle.sync_types.specs.declared.misuse.Misuse.{Misuse}
use Rattle.sync_model.specs.declared.item.Item.{Item}
use Rattle.sync_model.specs.declared.journal.Deed.TheVariants.{Halt}
use Rattle.sync_model.specs.declared.journal.Entry.{Entry}
use Rattle.sync_model.specs.Front.{AtLeast}
use Rattle.sync_model.specs.Journal.{by, halt_after, halt_next, is_such, state_next, Follows, KeepsEdges}
use Rattle.sync_model.specs.SharedCalls.{Lawful}
use Rattle.script_calls.specs.declared.call.Call.{Call}
use Rattle.script_calls.specs.declared.call.Reply.{Reply}
use Rattle.script_calls.specs.declared.outcome.Outcome.{Outcome}
use Rattle.script_calls.specs.declared.outcome.Outcome.TheVariants.{Done, Misused, Deadlocked}
use Rattle.script_calls.specs.Runs.{RunsAlong}
use Rattle.workload.specs.declared.object.ObjectKind.{ObjectKind}
use Rattle.workload.specs.declared.object.ObjectKind.TheVariants as kinds
use Rattle.workload.specs.Plan.{Plan}
use Rattle.run_record.specs.declared.entered.ObjectEvent.{ObjectEvent}
use Rattle.run_record.specs.declared.entered.ObjectReply.{ObjectReply}
use Rattle.run_record.specs.declared.made.Made.{Made}
use Rattle.run_record.specs.declared.made.Made.TheVariants.{Shared, Entered}
use Rattle.run_record.specs.Calls.{IsJournalOf}
use Rattle.run_record.specs.Explains.{Agrees, AreLines, Explains, HasEnded, IsAtEnd, IsRecordOf, KeepsFronts}
use Rattle.run_record.specs.Journals.{FollowsFrom, IsStops}
use Rattle.run_record.specs.Lines.{Line, LineEnd, IsLineOf, SpeltCall, calls_made, items_of, replies_of}
use Rattle.run_record.specs.Objects.{contents_of, first_part, starts_number}
use Rattle.run_record.specs.Parts.{lifted}
use Rattle.run_record.specs.PoolKind.{IsPartJournal}
use Rattle.run_record.specs.StartsKind.{IsStartsJournal}
use Rattle.workload.specs.Puts.{puts_at}
use Rattle.run_record.specs.Record.{ObjectEntry, Record, calls_of, entries_in, front_of, journal_of, list_of, object_number, shared_in, stop}
use Rattle.run_cuts.specs.Blind.{bare}
use Rattle.run_cuts.specs.CallsAlong.{calls_along}
use Rattle.run_check.specs.Completeness.{plain_entry, plain_made, plain_record}
use Rattle.run_check.proofs.SpellNothing.{IsBlind}
use Rattle.run_check.proofs.SpeltClaims.{all_same, gather}
use Rattle.run_check.proofs.ToldFronts.{same_functions}
use Rattle.run_check.proofs.ToldLists.{mapped}

-- ---- journals

module _ {E R : Type 0} where
  abbrev plain : Entry E R → Entry E R
  plain entry = record { caller = entry.caller; deed = entry.deed; front = entry.front; knew = 0; time = 0 }

  plain_edges : (frees takes : E → R → Bool) (own : List (Entry E R)) → KeepsEdges frees takes own → KeepsEdges frees takes (map plain own)
  plain_edges frees takes own keeps i j x y before at_x at_y is_x is_y =
      let (v, there, first) = mapped plain (slice_get own i) x (sym (slice_get-map plain own i) ∙ at_x) in
      let (w, behind, second) = mapped plain (slice_get own j) y (sym (slice_get-map plain own j) ∙ at_y) in
      let least = keeps i j v w before there behind (ap (λ (e : Entry E R). is_such frees e.deed) first ∙ is_x) (ap (λ (e : Entry E R). is_such takes e.deed) second ∙ is_y) in
      subst (λ (f : List ℕ). AtLeast y.front f) (ap (λ (e : Entry E R). e.front) first) (subst (λ (f : List ℕ). AtLeast f v.front) (ap (λ (e : Entry E R). e.front) second) least)

  module _ {S : Type 0} (next : S → ℕ → E → S × R) where
    plain_follows : (s : S) (h : Option Misuse) (own : List (Entry E R)) → Follows next true s h own → Follows next true s h (map plain own)
    plain_follows s h [] follows = tt
    plain_follows s h (y ∷ own) follows = (follows.0, plain_follows (state_next next s y.caller y.deed) (halt_next h y.deed) own follows.1)

  module _ (event : E → ObjectEvent) (reply : R → ObjectReply) where
    plain_lifted : (own : List (Entry E R)) → map plain_entry (map (lifted event reply) own) ≡ map (lifted event reply) (map plain own)
    plain_lifted [] = refl
    plain_lifted (y ∷ own) = ap (λ (l : List ObjectEntry). lifted event reply (plain y) ∷ l) (plain_lifted own)

    plain_journal : {S : Type 0} (next : S → ℕ → E → S × R) (frees takes : E → R → Bool) (start : S) (journal : List ObjectEntry) → FollowsFrom event reply next frees takes start journal → FollowsFrom event reply next frees takes start (map plain_entry journal)
    plain_journal next frees takes start journal (own, are, follows, keeps) = (map plain own, ap (map plain_entry) are ∙ plain_lifted own, plain_follows next start None own follows, plain_edges frees takes own keeps)

plain_of : (plan : Plan) (place : ℕ) (kind : ObjectKind) (journal : List ObjectEntry) → IsJournalOf plan place kind journal → IsJournalOf plan place kind (map plain_entry journal)
plain_of plan place kinds.Map journal is = ap (map plain_entry) is
plain_of plan place (kinds.Atomic type) journal is = ap (map plain_entry) is
plain_of plan place kinds.Mutex journal is = plain_journal _ _ _ _ _ _ journal is
plain_of plan place kinds.RwMutex journal is = plain_journal _ _ _ _ _ _ journal is
plain_of plan place (kinds.Cond mutex) journal is = plain_journal _ _ _ _ _ _ journal is
plain_of plan place (kinds.WaitGroup start) journal is = plain_journal _ _ _ _ _ _ journal is
plain_of plan place (kinds.Once atomic delta) journal is = plain_journal _ _ _ _ _ _ journal is
plain_of plan place (kinds.OnceFunc code) journal is = plain_journal _ _ _ _ _ _ journal is
plain_of plan place (kinds.OnceValue value) journal is = plain_journal _ _ _ _ _ _ journal is
plain_of plan place kinds.Pool journal is = ap (map plain_entry) is
plain_of plan place (kinds.Sema size) journal is = plain_journal _ _ _ _ _ _ journal is
plain_of plan place (kinds.Flight atomic delta) journal is = plain_journal _ _ _ _ _ _ journal is
plain_of plan place kinds.Var journal is = ap (map plain_entry) is

plain_part : (room : ℕ) (journal : List ObjectEntry) → IsPartJournal room journal → IsPartJournal room (map plain_entry journal)
plain_part room journal is = plain_journal _ _ _ _ _ _ journal is

plain_starts : (dormant : List Bool) (journal : List ObjectEntry) → IsStartsJournal dormant journal → IsStartsJournal dormant (map plain_entry journal)
plain_starts dormant journal is = plain_journal _ _ _ _ _ _ journal is

plain_stops : (journal : List ObjectEntry) → IsStops journal → IsStops (map plain_entry journal)
plain_stops journal is = All-map (λ (entry : ObjectEntry). (misuse : Misuse) × (entry.deed ≡ Halt misuse)) plain_entry journal is

plain_halt : (h : Option Misuse) (journal : List ObjectEntry) → halt_after h (map plain_entry journal) ≡ halt_after h journal
plain_halt h [] = refl
plain_halt h (x ∷ journal) = plain_halt (halt_next h x.deed) journal

plain_by : (worker : ℕ) (journal : List ObjectEntry) → by worker (map plain_entry journal) ≡ map plain_entry (by worker journal)
plain_by worker [] = refl
plain_by worker (x ∷ journal) = of (x.caller == worker) (plain_by worker journal) where
  of : (b : Bool) → by worker (map plain_entry journal) ≡ map plain_entry (by worker journal)
      → cond b (plain_entry x ∷ by worker (map plain_entry journal)) (by worker (map plain_entry journal)) ≡ map plain_entry (cond b (x ∷ by worker journal) (by worker journal))
  of true later = ap (λ (l : List ObjectEntry). plain_entry x ∷ l) later
  of false later = later

-- ---- lists

plain_in : (object : ℕ) (list : List Made) → entries_in object (map plain_made list) ≡ map plain_entry (entries_in object list)
plain_in object [] = refl
plain_in object (Shared x ∷ list) = plain_in object list
plain_in object (Entered other entry ∷ list) = of (other == object) (plain_in object list) where
  of : (b : Bool) → entries_in object (map plain_made list) ≡ map plain_entry (entries_in object list)
      → cond b (plain_entry entry ∷ entries_in object (map plain_made list)) (entries_in object (map plain_made list)) ≡ map plain_entry (cond b (entry ∷ entries_in object list) (entries_in object list))
  of true later = ap (λ (l : List ObjectEntry). plain_entry entry ∷ l) later
  of false later = later

plain_calls : (list : List Made) → shared_in (map plain_made list) ≡ shared_in list
plain_calls [] = refl
plain_calls (Shared x ∷ list) = ap (λ (l : List Item). x ∷ l) (plain_calls list)
plain_calls (Entered object entry ∷ list) = plain_calls list

plain_front : (made : Made) → front_of (plain_made made) ≡ front_of made
plain_front (Shared x) = refl
plain_front (Entered object entry) = refl

plain_bare : (list : List Made) → map bare list ≡ map bare (map plain_made list)
plain_bare [] = refl
plain_bare (Shared x ∷ list) = ap (λ (l : List Made). bare (Shared x) ∷ l) (plain_bare list)
plain_bare (Entered object entry ∷ list) = ap (λ (l : List Made). bare (Entered object entry) ∷ l) (plain_bare list)

module _ (r : Record) where
  list_is : (worker : ℕ) → list_of (plain_record r) worker ≡ map plain_made (list_of r worker)
  list_is worker = get_or-map (map plain_made) r.lists worker []

  journal_is : (object : ℕ) → journal_of (plain_record r) object ≡ map plain_entry (journal_of r object)
  journal_is object = get_or-map (map plain_entry) r.journals object []

  calls_are : (worker : ℕ) → calls_of (plain_record r) worker ≡ calls_of r worker
  calls_are worker = ap shared_in (list_is worker) ∙ plain_calls (list_of r worker)

  -- an item, and the one that it was
  item_was : (worker i : ℕ) (x : Made) → slice_get (list_of (plain_record r) worker) i ≡ Some x → (y : Made) × (slice_get (list_of r worker) i ≡ Some y) × (front_of x ≡ front_of y)
  item_was worker i x at =
      let (y, there, same) = mapped plain_made (slice_get (list_of r worker) i) x (sym (slice_get-map plain_made (list_of r worker) i) ∙ sym (ap (λ (l : List Made). slice_get l i) (list_is worker)) ∙ at) in
      (y, there, sym (ap front_of same) ∙ plain_front y)

  calls_before : (worker i : ℕ) → length (shared_in (take i (list_of (plain_record r) worker))) ≡ length (shared_in (take i (list_of r worker)))
  calls_before worker i =
      ap (λ (l : List Made). length (shared_in (take i l))) (list_is worker)
      ∙ ap (λ (l : List Made). length (shared_in l)) (take-map plain_made i (list_of r worker)) ∙ ap (λ (l : List Item). length l) (plain_calls (take i (list_of r worker)))

  plain_fronts : KeepsFronts r → KeepsFronts (plain_record r)
  plain_fronts law = record {
    rises = λ worker i j x y before at_i at_j.
        let (v, there, first) = item_was worker i x at_i in
        let (w, behind, second) = item_was worker j y at_j in
        subst (λ (f : List ℕ). AtLeast (front_of y) f) (sym first) (subst (λ (f : List ℕ). AtLeast f (front_of v)) (sym second) (law.rises worker i j v w before there behind));
    own = λ worker i x at.
        let (v, there, same) = item_was worker i x at in
        ap (λ (f : List ℕ). slice_index f worker) same ∙ law.own worker i v there ∙ sym (calls_before worker i);
    made = λ worker i other x at.
        let (v, there, same) = item_was worker i x at in
        let most = law.made worker i other v there in
        let front = ap (λ (f : List ℕ). slice_index f other) same in
        let calls = ap (λ (l : List Item). length l) (calls_are other) in
        omega (arith, most, front, calls);
  }

  plain_lawful : (plan : Plan) → IsRecordOf plan r → IsRecordOf plan (plain_record r)
  plain_lawful plan is = record {
    shared = subst (Lawful (contents_of plan) r.history) (sym (same_functions (calls_of (plain_record r)) (calls_of r) calls_are)) is.shared;
    objects = length-map r.journals (map plain_entry) ∙ is.objects;
    stops = subst IsStops (sym (journal_is stop)) (plain_stops (journal_of r stop) is.stops);
    journals = λ place object at. subst (IsJournalOf plan place object.kind) (sym (journal_is (object_number place))) (plain_of plan place object.kind (journal_of r (object_number place)) (is.journals place object at));
    parts = λ place part object at pool within.
        let number = first_part plan place + part in
        subst (IsPartJournal (puts_at place plan.scripts)) (sym (journal_is number)) (plain_part (puts_at place plan.scripts) (journal_of r number) (is.parts place part object at pool within));
    starts = λ dormant. subst (IsStartsJournal plan.dormant) (sym (journal_is (starts_number plan))) (plain_starts plan.dormant (journal_of r (starts_number plan)) (is.starts dormant));
    once = λ worker object.
        ap (entries_in object) (list_is worker) ∙ plain_in object (list_of r worker) ∙ ap (map plain_entry) (is.once worker object) ∙ sym (plain_by worker (journal_of r object)) ∙ sym (ap (by worker) (journal_is object));
    fronts = plain_fronts is.fronts;
  }

-- ---- lines

abbrev with_items : Plan → ℕ → Line → Line → Type 0
with_items plan worker line other =
    IsLineOf plan worker other × (items_of other ≡ map plain_made (items_of line)) × (other.ending ≡ line.ending) × (other.rest ≡ line.rest) × (calls_made other ≡ calls_made line) × (calls_along other ≡ calls_along line)

replies_are : (spelt : List SpeltCall) → map (λ (p : Call × Reply ℕ). p.1) (map (λ (s : SpeltCall). (s.call, s.reply)) spelt) ≡ map (λ (s : SpeltCall). s.reply) spelt
replies_are [] = refl
replies_are (s ∷ spelt) = ap (λ (rs : List (Reply ℕ)). s.reply ∷ rs) (replies_are spelt)

same_replies : (one other : Line) → calls_made one ≡ calls_made other → replies_of one ≡ replies_of other
same_replies one other same = sym (replies_are one.spelt) ∙ ap (map (λ (p : Call × Reply ℕ). p.1)) same ∙ replies_are other.spelt

fused : {X Y Z : Type 0} (f : X → Y) (g : Y → Z) (xs : List X) → map (λ x. g (f x)) xs ≡ map g (map f xs)
fused f g [] = refl
fused f g (x ∷ xs) = ap (λ ys. g (f x) ∷ ys) (fused f g xs)

abbrev ends_of : List Line → List LineEnd
ends_of lines = map (λ (line : Line). line.ending) lines

all_ends : (Q : LineEnd → Type 0) (ones others : List Line) → length ones ≡ length others → ends_of ones ≡ ends_of others → All (λ (line : Line). Q line.ending) others → All (λ (line : Line). Q line.ending) ones
all_ends Q ones others count same all k d within =
    let read = get_or-map (λ (line : Line). line.ending) others k d in
    let mine = get_or-map (λ (line : Line). line.ending) ones k d in
    subst Q (sym read ∙ ap (λ (es : List LineEnd). get_or es k d.ending) (sym same) ∙ mine) (all k d (omega (arith, within, count)))

module _ (blind : IsBlind) (plan : Plan) (outcome : Outcome) (r : Record) (lines : List Line) (are : AreLines plan r outcome lines) where
  abbrev IsLike : ℕ → Line → Type 0
  IsLike worker other = (line : Line) → slice_get lines worker ≡ Some line → with_items plan worker line other

  line_like : (worker : ℕ) → worker < length lines → (other : Line) × IsLike worker other
  line_like worker below = of (slice_get_cases lines worker).1 where
    of : ((line : Line) × (worker < length lines) × (slice_get lines worker ≡ Some line) × (get_or lines worker line ≡ line)) ⊎ ((length lines ≤ worker) × (slice_get lines worker ≡ None)) → (other : Line) × IsLike worker other
    of (inl (line, within, there, read)) =
        let like = blind plan worker line (map plain_made (items_of line)) (plain_bare (items_of line)) (are.each worker line there) in
        (like.like, λ one at. subst (λ (l : Line). with_items plan worker l like.like) (same_Some line one (sym there ∙ at)) (like.is, like.items_are, like.ending, like.rest, like.calls, like.along))
    of (inr (past, none)) = absurd (omega (arith, past, below))

  likes : (others : List Line) × (length others ≡ length lines) × ((worker : ℕ) (other : Line) → slice_get others worker ≡ Some other → IsLike worker other)
  likes = gather IsLike (length lines) line_like

  module _ (others : List Line) (count : length others ≡ length lines) (each : (worker : ℕ) (other : Line) → slice_get others worker ≡ Some other → IsLike worker other) where
    line_was : (worker : ℕ) (other : Line) → slice_get others worker ≡ Some other → (line : Line) × (slice_get lines worker ≡ Some line) × with_items plan worker line other
    line_was worker other at = of (slice_get_cases lines worker).1 where
      of : ((line : Line) × (worker < length lines) × (slice_get lines worker ≡ Some line) × (get_or lines worker line ≡ line)) ⊎ ((length lines ≤ worker) × (slice_get lines worker ≡ None)) → (line : Line) × (slice_get lines worker ≡ Some line) × with_items plan worker line other
      of (inl (line, within, there, read)) = (line, there, each worker other at line there)
      of (inr (past, none)) = let within = slice_get_within others worker other at in absurd (omega (arith, past, within, count))

    like_lists : map items_of others ≡ map (map plain_made) r.lists
    like_lists =
        all_same items_of (λ (line : Line). map plain_made (items_of line)) others lines count (λ k other line one at. (each k other one line at).1)
        ∙ fused items_of (map plain_made) lines ∙ ap (map (map plain_made)) are.lists

    like_replies : map replies_of others ≡ map replies_of lines
    like_replies = all_same replies_of replies_of others lines count (λ k other line one at. same_replies other line (each k other one line at).4)

    like_ends : ends_of others ≡ ends_of lines
    like_ends = all_same (λ (line : Line). line.ending) (λ (line : Line). line.ending) others lines count (λ k other line one at. (each k other one line at).2)

    like_lines : AreLines plan (plain_record r) outcome others
    like_lines = record {
      count = count ∙ are.count;
      runs = λ worker other at.
          let (line, there, like) = line_was worker other at in
          subst (λ (made : List (Call × Reply ℕ)). RunsAlong (get_or plan.scripts worker []) made other.rest) (sym like.4) (subst (λ (left : List Call). RunsAlong (get_or plan.scripts worker []) (calls_made line) left) (sym like.3) (are.runs worker line there));
      lists = like_lists;
      replies = like_replies ∙ are.replies;
      each = λ worker other at. let (line, there, like) = line_was worker other at in like.0;
    }

    like_agrees : (o : Outcome) → Agrees plan r lines o → Agrees plan (plain_record r) others o
    like_agrees (Done left) (at_end, ends) = (all_ends IsAtEnd others lines count like_ends at_end, ends)
    like_agrees (Misused left misuse) (ended, none, halted) = (all_ends HasEnded others lines count like_ends ended, none, ap (λ (j : List ObjectEntry). halt_after None j) (journal_is r stop) ∙ plain_halt None (journal_of r stop) ∙ halted)
    like_agrees (Deadlocked left) agrees = absurd agrees

-- a line's items are of the same calls as those of the line that it was
abbrev pub AreAlong : (lines others : List Line) → Type 0
AreAlong lines others = (worker : ℕ) (other : Line) → slice_get others worker ≡ Some other → (line : Line) × (slice_get lines worker ≡ Some line) × (calls_along other ≡ calls_along line)

pub plain_explains : IsBlind → (plan : Plan) (outcome : Outcome) (r : Record) (explains : Explains plan outcome r) → (plain : Explains plan outcome (plain_record r)) × AreAlong explains.lines plain.lines
plain_explains blind plan outcome r explains =
    let (others, count, each) = likes blind plan outcome r explains.lines explains.are in (
      record {
        lines = others;
        are = like_lines blind plan outcome r explains.lines explains.are others count each;
        lawful = plain_lawful r plan explains.lawful;
        agrees = like_agrees blind plan outcome r explains.lines explains.are others count each outcome explains.agrees;
      },
      λ worker other at. let (line, there, like) = line_was blind plan outcome r explains.lines explains.are others count each worker other at in (line, there, like.5),
    )

-- ---- an entry in a worker's list

pub entry_in : (list : List Made) (i object : ℕ) (entry : ObjectEntry) → slice_get list i ≡ Some (Entered object entry) → (j : ℕ) × (slice_get (entries_in object list) j ≡ Some entry)
entry_in [] i object entry at = absurd (none-some (Entered object entry) at)
entry_in (Shared x ∷ list) zero object entry at = absurd cc
entry_in (Shared x ∷ list) (suc i) object entry at = entry_in list i object entry at
entry_in (Entered other one ∷ list) zero object entry at =
    let same : Entered other one ≡ Entered object entry = same_Some (Entered other one) (Entered object entry) at in
    let numbers : other ≡ object = cc in
    let entries : one ≡ entry = cc in
    (0, ap (λ (b : Bool). slice_get (cond b (one ∷ entries_in object list) (entries_in object list)) 0) (eq-eqb other object numbers) ∙ ap (λ (e : ObjectEntry). Some e) entries)
entry_in (Entered other one ∷ list) (suc i) object entry at = of (other == object) (entry_in list i object entry at) where
  of : (b : Bool) → (j : ℕ) × (slice_get (entries_in object list) j ≡ Some entry) → (j : ℕ) × (slice_get (cond b (one ∷ entries_in object list) (entries_in object list)) j ≡ Some entry)
  of true (j, there) = (suc j, there)
  of false (j, there) = (j, there)

by_caller : (worker j : ℕ) (journal : List ObjectEntry) (entry : ObjectEntry) → slice_get (by worker journal) j ≡ Some entry → entry.caller ≡ worker
by_caller worker j [] entry at = absurd (none-some entry at)
by_caller worker j (x ∷ journal) entry at = of j (λ k there. by_caller worker k journal entry there) (x.caller == worker) refl at where
  of : (j : ℕ) → ((k : ℕ) → slice_get (by worker journal) k ≡ Some entry → entry.caller ≡ worker) → (b : Bool) → (x.caller == worker) ≡ b → slice_get (cond b (x ∷ by worker journal) (by worker journal)) j ≡ Some entry → entry.caller ≡ worker
  of zero later true is there = sym (ap (λ (e : ObjectEntry). e.caller) (same_Some x entry there)) ∙ eqb-true x.caller worker is
  of (suc k) later true is there = later k there
  of k later false is there = later k there

-- each entry in a worker's list is its own
pub own_entry : (plan : Plan) (r : Record) → IsRecordOf plan r → (worker i object : ℕ) (entry : ObjectEntry) → slice_get (list_of r worker) i ≡ Some (Entered object entry) → entry.caller ≡ worker
own_entry plan r is worker i object entry at =
    let (j, there) = entry_in (list_of r worker) i object entry at in
    by_caller worker j (journal_of r object) entry (sym (ap (λ (l : List ObjectEntry). slice_get l j) (is.once worker object)) ∙ there)
