-- The entries of Starts in its journal, and who waits to be started.
use Rattle.std.proofs.Common.{◌≡◌, ℕ, zero, suc, ◌<◌, ◌==◌, Bool, true, false, ◌&&◌, List, [], ◌∷◌, ◌++◌, get_or, Some, slice_get, refl, sym, ap, ◌∙◌, subst, arith}
use Rattle.std.specs.Prelude.{IsTrue}
use Rattle.std.specs.List.{list_any}
use Rattle.std.proofs.lemmas.Bool.{false≢true, eqb-true}
use Rattle.std.proofs.lemmas.Option.{slice_get_within}
use Rattle.sync_model.specs.declared.journal.Deed.{Deed}
use Rattle.sync_model.specs.declared.journal.Deed.TheVariants.{Event, Refused, Halt}
use Rattle.sync_model.specs.declared.journal.Entry.{Entry}
use Rattle.sync_model.specs.Front.{AtLeast}
use Rattle.sync_model.specs.Journal.{is_such, log_of, KeepsEdges}
use Rattle.starts_core.specs.declared.starts.StartEvent.{StartEvent}
use Rattle.starts_core.specs.declared.starts.StartEvent.TheVariants.{Start, End, Leave}
use Rattle.starts_core.specs.declared.starts.StartReply.{StartReply}
use Rattle.starts_core.specs.declared.starts.StartReply.TheVariants.{Done, Go, Never, Still}
use Rattle.starts_core.specs.StartsEdges.{is_made, starts_releases, starts_acquires}
use Rattle.starts_core.specs.StartsLaws.{StartsEntry, Log, IsLog, leave_by, is_start_of, starts}
use Rattle.sync_model.specs.Log.{entry}
use Rattle.workload.specs.Plan.{Plan, is_dormant, has_dormant}
use Rattle.run_record.specs.declared.entered.ObjectEvent.{ObjectEvent}
use Rattle.run_record.specs.declared.entered.ObjectEvent.TheVariants as event
use Rattle.run_record.specs.declared.entered.ObjectReply.{ObjectReply}
use Rattle.run_record.specs.declared.entered.ObjectReply.TheVariants as reply
use Rattle.run_record.specs.Parts.{lifted_deed}
use Rattle.run_record.proofs.JournalParts.{get_left, cut_one, log_at, logged_such}
use Rattle.run_record.proofs.PlainLemmas.{nobody}

-- where a worker waits, some one does
pub some_waits : (plan : Plan) (worker : ℕ) → is_dormant plan worker ≡ true → has_dormant plan ≡ true
some_waits plan worker waits = by_waiting (has_dormant plan) refl where
  by_waiting : (b : Bool) → has_dormant plan ≡ b → has_dormant plan ≡ true
  by_waiting true some = some
  by_waiting false none = absurd (false≢true (sym (nobody plan.dormant worker none) ∙ waits))

pub waits_at : (dormant : List Bool) (worker : ℕ) → get_or dormant worker false ≡ true → slice_get dormant worker ≡ Some true
waits_at [] worker waits = absurd (false≢true waits)
waits_at (b ∷ dormant) zero waits = ap Some waits
waits_at (b ∷ dormant) (suc worker) waits = waits_at dormant worker waits

-- a start of the worker, which was made
abbrev pub starts_it : ℕ → StartEvent → StartReply → Bool
starts_it worker event reply = is_start_of worker event && is_made reply

module _ (worker : ℕ) where
  both : (a b : Bool) → (a && b) ≡ true → a ≡ true
  both true b is = refl
  both false b is = is

  not_made : (a : Bool) → (a && false) ≡ true → false ≡ true
  not_made true is = is
  not_made false is = is

  pub start_is : (d : Deed StartEvent StartReply) → is_such (starts_it worker) d ≡ true → d ≡ Event (Start worker) Done
  start_is (Event (Start other) Done) is = ap (λ (n : ℕ). Event (Start n) Done) (eqb-true other worker (both (other == worker) true is))
  start_is (Event (Start other) Go) is = absurd (false≢true (not_made (other == worker) is))
  start_is (Event (Start other) Never) is = absurd (false≢true (not_made (other == worker) is))
  start_is (Event (Start other) Still) is = absurd (false≢true (not_made (other == worker) is))
  start_is (Event End reply) is = absurd (false≢true is)
  start_is (Event Leave reply) is = absurd (false≢true is)
  start_is (Refused e misuse) is = absurd (false≢true is)
  start_is (Halt misuse) is = absurd (false≢true is)

  pub start_frees : ((e : StartsEntry) → IsTrue (starts worker e) → IsTrue (starts_releases e.event e.reply)) → (d : Deed StartEvent StartReply) → is_such (starts_it worker) d ≡ true → is_such starts_releases d ≡ true
  start_frees frees (Event e r) is = frees (entry worker e r) is
  start_frees frees (Refused e misuse) is = absurd (false≢true is)
  start_frees frees (Halt misuse) is = absurd (false≢true is)

abbrev lifted : Deed StartEvent StartReply → Deed ObjectEvent ObjectReply
lifted d = lifted_deed event.Starts reply.Starts d

-- the deed of Starts that is lifted to this event is the event
pub of_starts : (d : Deed StartEvent StartReply) (e : StartEvent) (r : StartReply) → lifted d ≡ Event (event.Starts e) (reply.Starts r) → d ≡ Event e r
of_starts d e r is = sym (same d) ∙ ap (read d) is where
  read : Deed StartEvent StartReply → Deed ObjectEvent ObjectReply → Deed StartEvent StartReply
  read other (Event (event.Starts f) (reply.Starts s)) = Event f s
  read other d = other

  same : (d : Deed StartEvent StartReply) → read d (lifted d) ≡ d
  same (Event f s) = refl
  same (Refused f misuse) = refl
  same (Halt misuse) = refl

-- who asks starts nobody
abbrev is_asking : Deed StartEvent StartReply → Bool
is_asking (Event (Start worker) reply) = false
is_asking (Event End reply) = false
is_asking (Event Leave reply) = true
is_asking (Refused e misuse) = false
is_asking (Halt misuse) = false

pub asks_only : (d : Deed StartEvent StartReply) (worker : ℕ) → d ≡ Event Leave Still → d ≡ Event (Start worker) Done → ⊥
asks_only d worker asks starts_one = false≢true (ap is_asking (sym starts_one ∙ asks))

-- in a journal of Starts, a worker that goes was started before, and knows what its starter knew
pub record WasStarted (worker : ℕ) (own : List (Entry StartEvent StartReply)) (n : ℕ) (leave : Entry StartEvent StartReply) : Type 0 where
  pub place : ℕ
  pub start : Entry StartEvent StartReply
  pub at : slice_get own place ≡ Some start
  pub before : place < n
  pub is : start.deed ≡ Event (Start worker) Done
  pub knows : AtLeast leave.front start.front

module _ (dormant : List Bool) (worker : ℕ) (own : List (Entry StartEvent StartReply)) (follows : IsLog dormant (log_of own)) (edges : KeepsEdges starts_releases starts_acquires own)
    (goes : (before rest : Log) → IsLog dormant (before ++ leave_by worker Go ∷ rest) → IsTrue (list_any (starts worker) before))
    (frees : (e : StartsEntry) → IsTrue (starts worker e) → IsTrue (starts_releases e.event e.reply)) (takes : IsTrue (starts_acquires Leave Go)) where
  pub was_started : (n : ℕ) (leave : Entry StartEvent StartReply) → slice_get own n ≡ Some leave → leave.caller ≡ worker → leave.deed ≡ Event Leave Go → WasStarted worker own n leave
  was_started n leave at mine is =
      let cut = cut_one own n leave at in
      let parts : log_of own ≡ log_of cut.0 ++ leave_by worker Go ∷ log_of cut.1 = ap log_of cut.2 ∙ (log_at cut.0 cut.1 leave Leave Go is ∙ ap (λ (d : ℕ). log_of cut.0 ++ leave_by d Go ∷ log_of cut.1) mine) in
      let found = logged_such (starts_it worker) cut.0 (goes (log_of cut.0) (log_of cut.1) (subst (λ (l : Log). IsLog dormant l) parts follows)) in
      let before : found.at < n = omega (arith, slice_get_within cut.0 found.at found.entry found.is, cut.3) in
      let there : slice_get own found.at ≡ Some found.entry = subst (λ (es : List (Entry StartEvent StartReply)). slice_get es found.at ≡ Some found.entry) (sym cut.2) (get_left cut.0 (leave ∷ cut.1) found.at found.entry found.is) in
      record {
        place = found.at;
        start = found.entry;
        at = there;
        before = before;
        is = start_is worker found.entry.deed found.such;
        knows = edges found.at n found.entry leave before there at (start_frees worker frees found.entry.deed found.such) (ap (is_such starts_acquires) is ∙ takes);
      }
