-- The items of a `waitfor` as rounds of a load and a wait.
use Rattle.std.proofs.Common.{◌≡◌, ℕ, zero, suc, ◌+◌, ◌≤◌, Bool, true, false, List, [], ◌∷◌, ◌++◌, length, Ok, Err, refl, sym, ap, ◌∙◌, subst, append_assoc, arith}
use Rattle.std.specs.List.{AllByRecursion, flat_map}
use Rattle.std.proofs.lemmas.Bool.{false≢true}
use Rattle.std.proofs.lemmas.List.{append-nil}
use Rattle.script_calls.specs.declared.call.Reply.{Reply}
use Rattle.script_calls.specs.declared.call.Reply.TheVariants as replies
use Rattle.sync_types.specs.declared.atomic_object.AtomicCall.TheVariants.{Load}
use Rattle.sync_types.specs.declared.atomic_object.AtomicReply.{AtomicReply}
use Rattle.sync_types.specs.declared.atomic_object.AtomicReply.TheVariants as atomic_replies
use Rattle.sync_types.specs.declared.atomic_object.Number.{Number}
use Rattle.sync_types.specs.declared.lock_call.LockReply.{LockReply}
use Rattle.sync_model.specs.declared.answer.Answer.TheVariants.{Done, Halted}
use Rattle.sync_model.specs.declared.item.Item.{Item}
use Rattle.sync_model.specs.declared.item.SharedCall.{SharedCall}
use Rattle.sync_model.specs.declared.item.SharedCall.TheVariants as shared
use Rattle.sync_model.specs.declared.item.SharedReply.{SharedReply}
use Rattle.sync_model.specs.declared.item.SharedReply.TheVariants as answers
use Rattle.protocols.specs.Spelling.{CallAnswer}
use Rattle.protocols.specs.declared.cond.CondStage.TheVariants as cond_stage
use Rattle.protocols.specs.declared.mutex.MutexStage.TheVariants as mutex_stage
use Rattle.run_record.specs.declared.made.Made.{Made}
use Rattle.run_record.specs.declared.made.Made.TheVariants.{Shared}
use Rattle.run_record.specs.CondKind.{cond_part, wait_part}
use Rattle.run_record.specs.MutexKind.{mutex_part}
use Rattle.run_record.specs.Parts.{Part, GoesOn, and_then, read_as, with_outcome}
use Rattle.run_record.specs.Rounds.{IsLoadOf, shows_number, finds, Round, round_items, IsRound, HasWaited, HasStopped}
use Rattle.run_record.specs.Tests.{holds, tests, unless_met, waits_for}
use Rattle.run_record.proofs.Returning.{read_off, goes_on}
use Rattle.run_record.proofs.TwoCalls.{one_place}

-- a load finds the number where its reply is read so
same_test : (value : Number) (given : AtomicReply) → shows_number value (answers.Atomic given) ≡ holds value (replies.Atomic given)
same_test value (atomic_replies.Held number) = refl
same_test value atomic_replies.Done = refl
same_test value (atomic_replies.Compared is) = refl

module _ (a : ℕ) (value : Number) where
  -- one load, which is answered by whether it finds the number
  record IsTest (items : List Made) (answer : CallAnswer Bool) : Type 0 where
    look : Item
    are : items ≡ Shared look ∷ []
    loads : IsLoadOf a look
    is : answer ≡ Done (Ok (finds value look))

  of_test : (items : List Made) (answer : CallAnswer Bool) → tests a value items answer → IsTest items answer
  of_test items answer (given, (reply, places, is_given), is) =
      let one = one_place (shared.Atomic a Load) (answers.Atomic reply) items places in
      record {
        look = one.0;
        are = one.1;
        loads = (reply, one.2, one.3);
        is = is ∙ ap (with_outcome (holds value)) is_given ∙ ap (λ (b : Bool). Done (Ok b)) (sym (ap (shows_number value) one.3 ∙ same_test value reply));
      }

  to_test : (x : Item) → IsLoadOf a x → (met : Bool) → finds value x ≡ met → tests a value (Shared x ∷ []) (Done (Ok met))
  to_test x (given, asked, answered) met found =
      let pair_of : SharedCall → SharedReply → List (SharedCall × SharedReply) = λ c r. (let asked : SharedCall × SharedReply = (c, r) in asked ∷ []) in
      let are : pair_of x.call x.reply ≡ pair_of (shared.Atomic a Load) (answers.Atomic given) = ap (λ (c : SharedCall). pair_of c x.reply) asked ∙ ap (pair_of (shared.Atomic a Load)) answered in
      (Done (Ok (replies.Atomic given)), (given, (x ∷ [], refl, are), refl), ap (λ (b : Bool). Done (Ok b)) (sym found ∙ ap (shows_number value) answered ∙ same_test value given))

-- a number below another one, with what is missing
missing : (n m : ℕ) → n ≤ m → (more : ℕ) × (m ≡ n + more)
missing zero m le = (m, omega arith)
missing (suc n) zero le = absurd (omega (arith, le))
missing (suc n) (suc m) le = let r = missing n m (omega (arith, le)) in (r.0, omega (arith, r.1))

module _ (object mutex : ℕ) where
  -- a wait that returned answers that
  wait_returned : (items : List Made) (answer : Reply ℕ) → wait_part object mutex items (Done (Ok answer)) → answer ≡ replies.Returned
  wait_returned items answer made =
      let taken = goes_on (cond_part object cond_stage.Ticket) (λ ticket. and_then (mutex_part mutex mutex_stage.Unlock) (λ unlocked. and_then (cond_part object cond_stage.Leave) (λ left. read_as (λ locked. replies.Returned) (mutex_part mutex mutex_stage.Lock)))) items answer made in
      let unlocked = goes_on (mutex_part mutex mutex_stage.Unlock) (λ unlocked. and_then (cond_part object cond_stage.Leave) (λ left. read_as (λ locked. replies.Returned) (mutex_part mutex mutex_stage.Lock))) taken.later answer taken.goes in
      let left = goes_on (cond_part object cond_stage.Leave) (λ left. read_as (λ locked. replies.Returned) (mutex_part mutex mutex_stage.Lock)) unlocked.later answer unlocked.goes in
      (read_off (λ (locked : LockReply). replies.Returned) left.goes.0 answer left.goes.2).read

  module _ (a : ℕ) (value : Number) where
    -- what a part of a `waitfor` has made
    abbrev pub Goes : ℕ → CallAnswer Bool → List Made → Type 0
    Goes tries (Done (Ok met)) items = HasWaited object mutex a value tries met items
    Goes tries (Done (Err misuse)) items = HasStopped object mutex a value tries (Done (Err misuse)) items
    Goes tries (Halted misuse) items = HasStopped object mutex a value tries (Halted misuse) items

    at_once : (tries : ℕ) (met : Bool) (x : Item) (items : List Made) → items ≡ Shared x ∷ [] → IsLoadOf a x → finds value x ≡ met → (met ≡ false → zero ≡ tries) → HasWaited object mutex a value tries met items
    at_once tries met x items are loads found last = record { rounds = []; last = x; are = are; each = tt; loads = loads; found = found; few = omega arith; all_made = last }

    module _ (x : Item) (waited rest : List Made) (loads : IsLoadOf a x) (misses : finds value x ≡ false) where
      round_first : (tries : ℕ) (answer : CallAnswer Bool) → wait_part object mutex waited (Done (Ok replies.Returned)) → Goes tries answer rest → Goes (suc tries) answer (Shared x ∷ (waited ++ rest))
      round_first tries (Done (Ok met)) waits w = record {
        rounds = record { look = x; waited = waited } ∷ w.rounds;
        last = w.last;
        are = ap (λ (l : List Made). Shared x ∷ (waited ++ l)) w.are ∙ ap (λ (l : List Made). Shared x ∷ l) (sym (append_assoc waited (flat_map round_items w.rounds) (Shared w.last ∷ [])));
        each = (record { loads = loads; misses = misses; waits = waits }, w.each);
        loads = w.loads;
        found = w.found;
        few = (let few = w.few in omega (arith, few));
        all_made = λ no. ap (λ n. suc n) (w.all_made no);
      }
      round_first tries (Done (Err misuse)) waits w = record {
        rounds = record { look = x; waited = waited } ∷ w.rounds;
        look = w.look;
        waited = w.waited;
        are = ap (λ (l : List Made). Shared x ∷ (waited ++ l)) w.are ∙ ap (λ (l : List Made). Shared x ∷ l) (sym (append_assoc waited (flat_map round_items w.rounds) (Shared w.look ∷ w.waited)));
        each = (record { loads = loads; misses = misses; waits = waits }, w.each);
        loads = w.loads;
        misses = w.misses;
        stops = w.stops;
        few = (let few = w.few in omega (arith, few));
      }
      round_first tries (Halted misuse) waits w = record {
        rounds = record { look = x; waited = waited } ∷ w.rounds;
        look = w.look;
        waited = w.waited;
        are = ap (λ (l : List Made). Shared x ∷ (waited ++ l)) w.are ∙ ap (λ (l : List Made). Shared x ∷ l) (sym (append_assoc waited (flat_map round_items w.rounds) (Shared w.look ∷ w.waited)));
        each = (record { loads = loads; misses = misses; waits = waits }, w.each);
        loads = w.loads;
        misses = w.misses;
        stops = w.stops;
        few = (let few = w.few in omega (arith, few));
      }

      stopped : (tries : ℕ) (answer : CallAnswer (Reply ℕ)) → rest ≡ [] → wait_part object mutex waited answer → HasStopped object mutex a value (suc tries) answer (Shared x ∷ (waited ++ rest))
      stopped tries answer none stops = record { rounds = []; look = x; waited = waited; are = ap (λ (l : List Made). Shared x ∷ (waited ++ l)) none ∙ ap (λ (l : List Made). Shared x ∷ l) (append-nil waited); each = tt; loads = loads; misses = misses; stops = stops; few = omega arith }

    -- a test that didn't find the number, and what comes behind it
    module _ (tries : ℕ) (later_goes : (rest : List Made) (answer : CallAnswer Bool) → waits_for object mutex a value tries rest answer → Goes tries answer rest) where
      by_wait : (x : Item) (loads : IsLoadOf a x) (misses : finds value x ≡ false) (waited rest : List Made) (given : CallAnswer (Reply ℕ)) (answer : CallAnswer Bool)
          → wait_part object mutex waited given → GoesOn (λ waited. waits_for object mutex a value tries) given rest answer → Goes (suc tries) answer (Shared x ∷ (waited ++ rest))
      by_wait x loads misses waited rest (Done (Ok r)) answer waits on =
          round_first x waited rest loads misses tries answer (subst (λ (q : Reply ℕ). wait_part object mutex waited (Done (Ok q))) (wait_returned waited r waits) waits) (later_goes rest answer on)
      by_wait x loads misses waited rest (Done (Err misuse)) answer waits (none, is) =
          subst (λ (g : CallAnswer Bool). Goes (suc tries) g (Shared x ∷ (waited ++ rest))) (sym is) (stopped x waited rest loads misses tries (Done (Err misuse)) none waits)
      by_wait x loads misses waited rest (Halted misuse) answer waits (none, is) =
          subst (λ (g : CallAnswer Bool). Goes (suc tries) g (Shared x ∷ (waited ++ rest))) (sym is) (stopped x waited rest loads misses tries (Halted misuse) none waits)

      abbrev behind : Part Bool
      behind = and_then (wait_part object mutex) (λ waited. waits_for object mutex a value tries)

      by_test : (x : Item) (later : List Made) (answer : CallAnswer Bool) → IsLoadOf a x → (met : Bool) → finds value x ≡ met → unless_met behind met later answer → Goes (suc tries) answer (Shared x ∷ later)
      by_test x later answer loads true found (none, is) =
          subst (λ (g : CallAnswer Bool). Goes (suc tries) g (Shared x ∷ later)) (sym is) (at_once (suc tries) true x (Shared x ∷ later) (ap (λ (l : List Made). Shared x ∷ l) none) loads found (λ no. absurd (false≢true (sym no))))
      by_test x later answer loads false misses (waited, rest, given, parts, waits, on) =
          subst (λ (l : List Made). Goes (suc tries) answer (Shared x ∷ l)) (sym parts) (by_wait x loads misses waited rest given answer waits on)

      one_more : (items first later : List Made) (given answer : CallAnswer Bool) → items ≡ first ++ later → tests a value first given → GoesOn (unless_met behind) given later answer → Goes (suc tries) answer items
      one_more items first later given answer are tested goes =
          let t = of_test a value first given tested in
          subst (Goes (suc tries) answer) (sym (are ∙ ap (λ (l : List Made). l ++ later) t.are)) (by_test t.look later answer t.loads (finds value t.look) refl (subst (λ (g : CallAnswer Bool). GoesOn (unless_met behind) g later answer) t.is goes))

    pub of_waits : (tries : ℕ) (items : List Made) (answer : CallAnswer Bool) → waits_for object mutex a value tries items answer → Goes tries answer items
    of_waits zero items answer tested =
        let t = of_test a value items answer tested in
        subst (λ (g : CallAnswer Bool). Goes zero g items) (sym t.is) (at_once zero (finds value t.look) t.look items t.are t.loads refl (λ no. refl))
    of_waits (suc tries) items answer (first, later, given, are, tested, goes) = one_more tries (of_waits tries) items first later given answer are tested goes

    -- and back
    last_test : (tries : ℕ) (met : Bool) (x : Item) → IsLoadOf a x → finds value x ≡ met → (met ≡ false → tries ≡ zero) → waits_for object mutex a value tries (Shared x ∷ []) (Done (Ok met))
    last_test zero met x loads found none = to_test a value x loads met found
    last_test (suc tries) true x loads found none = (Shared x ∷ [], [], Done (Ok true), refl, to_test a value x loads true found, (refl, refl))
    last_test (suc tries) false x loads found none = absurd (omega (arith, none refl))

    from_rounds : (rounds : List Round) (tries more : ℕ) (rest : List Made) (answer : CallAnswer Bool) → tries ≡ length rounds + more → AllByRecursion (IsRound object mutex a value) rounds → waits_for object mutex a value more rest answer
        → waits_for object mutex a value tries (flat_map round_items rounds ++ rest) answer
    from_rounds [] tries more rest answer is each spelt = subst (λ n. waits_for object mutex a value n rest answer) (let same : more ≡ tries = omega (arith, is) in same) spelt
    from_rounds (r ∷ rounds) zero more rest answer is each spelt = absurd (omega (arith, is))
    from_rounds (r ∷ rounds) (suc tries) more rest answer is each spelt = (
      Shared r.look ∷ [],
      r.waited ++ (flat_map round_items rounds ++ rest),
      Done (Ok false),
      ap (λ (l : List Made). Shared r.look ∷ l) (append_assoc r.waited (flat_map round_items rounds) rest),
      to_test a value r.look each.0.loads false each.0.misses,
      (
        r.waited,
        flat_map round_items rounds ++ rest,
        Done (Ok replies.Returned),
        refl,
        each.0.waits,
        from_rounds rounds tries more rest answer (omega (arith, is)) each.1 spelt,
      ),
    )

    pub to_waits : (tries : ℕ) (met : Bool) (items : List Made) → HasWaited object mutex a value tries met items → waits_for object mutex a value tries items (Done (Ok met))
    to_waits tries met items w =
        let left = missing (length w.rounds) tries w.few in
        subst (λ (l : List Made). waits_for object mutex a value tries l (Done (Ok met))) (sym w.are)
        (from_rounds w.rounds tries left.0 (Shared w.last ∷ []) (Done (Ok met)) left.1 w.each (last_test left.0 met w.last w.loads w.found (λ no. let all = w.all_made no in omega (arith, all, left.1))))
