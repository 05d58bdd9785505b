-- Whose a channel is: the object's on which an item hands on or takes in, and the worker's of a notice and of a start.
use Rattle.std.proofs.Common.{◌≡◌, ◌≢◌, ℕ, zero, suc, Bool, true, false, ◌==◌, ◌&&◌, ◌||◌, not, List, [], ◌∷◌, ◌++◌, Option, Some, refl, sym, ap, ◌∙◌, subst, arith}
use Rattle.std.specs.Prelude.{Contains, cond}
use Rattle.std.specs.List.{list_any}
use Rattle.std.proofs.lemmas.Bool.{false≢true, true≢false, and_parts, eq-eqb, eqb-true, not-true}
use Rattle.std.proofs.lemmas.List.Elements.{Contains-append_left}
use Rattle.std.proofs.lemmas.Option.{none-some, same_Some}
use Rattle.std.proofs.Math.Bool.{or-true}
use Rattle.script_calls.specs.declared.call.Call.{Call}
use Rattle.workload.specs.Plan.{Plan}
use Rattle.step_runner.specs.declared.trace.TraceItem.{TraceItem}
use Rattle.step_runner.specs.declared.turns.item.Item.{Item}
use Rattle.starts_core.specs.StartsEdges.{is_made}
use Rattle.starts_core.specs.declared.starts.StartReply.TheVariants.{Done}
use Rattle.race_clocks.specs.Channels.{Channel, MutexUnlock, WriterUnlock, ReaderUnlock, Notice, Lowering, FunctionEnd, PutItem, Start, Atomic, MapKey, gives, takes, hands_on, takes_in}
use Rattle.race_clocks.specs.Deeds.{unlocks_mutex, locks_mutex, unlocks_as_writer, unlocks_as_reader, locks_rw_mutex, is_writers_call, leaves_cond, lowers_count, passes_count, ends_function, knows_function, starts_worker, enters_atomic, finds_atomic, finds_in_map}
use Rattle.race_clocks.specs.Seen.{is_told, cond_made, cond_behind, pool_behind, is_kept_put, takes_put, map_behind, enters_key}
use Rattle.race_clocks.specs.Rows.{object_of, start_of, EachDoes}
use Rattle.race_clocks.proofs.Quiet.{untold, within}
use Rattle.race_clocks.proofs.Turns.{Found, found}

-- an item of a turn that passes is one of its items
made_by : (test : List Item → Item → Bool) (earlier : List Item) (turn : TraceItem) (f : Found test earlier turn.made) → Contains turn.made f.it
made_by test earlier turn f = subst (λ made. Contains made f.it) (sym f.is_made) (within f.front f.it f.back)

module _ (plan : Plan) (earlier : List Item) (it : Item) where
  first : (o n : ℕ) (b : Bool) → ((it.object == o) && b) ≡ true → Some o ≡ Some n → it.object ≡ n
  first o n b both same = eqb-true it.object o (and_parts (it.object == o) b both).0 ∙ same_Some o n same

  notified_there : (place worker : ℕ) → gives plan earlier it (Notice place worker) ≡ true → it.object ≡ place
  notified_there place worker is = by (it.object == place) refl is where
    by : (b : Bool) → (it.object == place) ≡ b → is_told worker (cond_behind plan place earlier) (cond b (cond_made (cond_behind plan place earlier) it.caller it.deed) (cond_behind plan place earlier)) ≡ true → it.object ≡ place
    by true e told = eqb-true it.object place e
    by false e told = absurd (false≢true (sym (untold worker (cond_behind plan place earlier) false) ∙ told))

  gives_there : (channel : Channel) (n : ℕ) → object_of channel ≡ Some n → gives plan earlier it channel ≡ true → it.object ≡ n
  gives_there (MutexUnlock o) n at is = first o n (unlocks_mutex it.deed) is at
  gives_there (WriterUnlock o) n at is = first o n (unlocks_as_writer it.deed) is at
  gives_there (ReaderUnlock o) n at is = first o n (unlocks_as_reader it.deed) is at
  gives_there (Notice o worker) n at is = notified_there o worker is ∙ same_Some o n at
  gives_there (Lowering o) n at is = first o n (lowers_count it.deed) is at
  gives_there (FunctionEnd o) n at is = first o n (ends_function it.deed) is at
  gives_there (PutItem o number) n at is = first o n (is_kept_put number (pool_behind plan o earlier) it.deed) is at
  gives_there (Start worker) n at is = absurd (none-some n at)
  gives_there (Atomic o) n at is = first o n (enters_atomic it.deed) is at
  gives_there (MapKey o key) n at is = first o n (enters_key key (map_behind o earlier) it.deed) is at

  takes_there : (call : Option Call) (channel : Channel) (n : ℕ) → object_of channel ≡ Some n → takes plan earlier it call channel ≡ true → it.object ≡ n
  takes_there call (MutexUnlock o) n at is = first o n (locks_mutex it.deed) is at
  takes_there call (WriterUnlock o) n at is = first o n (locks_rw_mutex it.deed) is at
  takes_there call (ReaderUnlock o) n at is = first o n (locks_rw_mutex it.deed) (and_parts ((it.object == o) && locks_rw_mutex it.deed) (is_writers_call call) is).0 at
  takes_there call (Notice o worker) n at is = first o n (it.caller == worker) (and_parts ((it.object == o) && (it.caller == worker)) (leaves_cond it.deed) is).0 at
  takes_there call (Lowering o) n at is = first o n (passes_count it.deed) is at
  takes_there call (FunctionEnd o) n at is = first o n (knows_function it.deed) is at
  takes_there call (PutItem o number) n at is = first o n (takes_put number (pool_behind plan o earlier) it.caller it.deed) is at
  takes_there call (Start worker) n at is = absurd (none-some n at)
  takes_there call (Atomic o) n at is = first o n (finds_atomic it.deed) is at
  takes_there call (MapKey o key) n at is = first o n (finds_in_map key it.deed) is at

module _ (plan : Plan) (earlier : List Item) (turn : TraceItem) where
  pub hands_on_there : (channel : Channel) (n : ℕ) → object_of channel ≡ Some n → hands_on plan earlier turn channel ≡ true → (it : Item) × Contains turn.made it × (it.object ≡ n)
  hands_on_there channel n at is = by (found (λ before it. gives plan before it channel) earlier turn.made is) where
    by : Found (λ before it. gives plan before it channel) earlier turn.made → (it : Item) × Contains turn.made it × (it.object ≡ n)
    by f = (f.it, made_by (λ before it. gives plan before it channel) earlier turn f, gives_there plan (earlier ++ f.front) f.it channel n at f.passes)

  pub takes_in_there : (channel : Channel) (n : ℕ) → object_of channel ≡ Some n → takes_in plan earlier turn channel ≡ true → (it : Item) × Contains turn.made it × (it.object ≡ n)
  takes_in_there channel n at is = by (found (λ before it. takes plan before it turn.call channel) earlier turn.made is) where
    by : Found (λ before it. takes plan before it turn.call channel) earlier turn.made → (it : Item) × Contains turn.made it × (it.object ≡ n)
    by f = (f.it, made_by (λ before it. takes plan before it turn.call channel) earlier turn f, takes_there plan (earlier ++ f.front) f.it turn.call channel n at f.passes)

  -- a leaving takes in its own notice
  pub own_notice : (place worker : ℕ) → takes_in plan earlier turn (Notice place worker) ≡ true → (it : Item) × Contains turn.made it × (it.caller ≡ worker)
  own_notice place worker is = by (found (λ before it. takes plan before it turn.call (Notice place worker)) earlier turn.made is) where
    by : Found (λ before it. takes plan before it turn.call (Notice place worker)) earlier turn.made → (it : Item) × Contains turn.made it × (it.caller ≡ worker)
    by f = (f.it, made_by (λ before it. takes plan before it turn.call (Notice place worker)) earlier turn f, eqb-true f.it.caller worker (and_parts (f.it.object == place) (f.it.caller == worker) (and_parts ((f.it.object == place) && (f.it.caller == worker)) (leaves_cond f.it.deed) f.passes).0).1)

  -- and only a first item takes in a start
  pub first_alone : (worker : ℕ) → takes_in plan earlier turn (Start worker) ≡ true → (it : Item) → Contains earlier it → it.caller ≢ worker
  first_alone worker is it has same = by (found (λ before it. takes plan before it turn.call (Start worker)) earlier turn.made is) where
    by : Found (λ before it. takes plan before it turn.call (Start worker)) earlier turn.made → ⊥
    by f = true≢false (sym (any_of (earlier ++ f.front) it (Contains-append_left earlier f.front it has) (eq-eqb it.caller worker same)) ∙ not-true (list_any (λ other. other.caller == worker) (earlier ++ f.front)) (and_parts (f.it.caller == worker) (not (list_any (λ other. other.caller == worker) (earlier ++ f.front))) f.passes).1) where
      any_of : (xs : List Item) (x : Item) → Contains xs x → (x.caller == worker) ≡ true → list_any (λ (other : Item). other.caller == worker) xs ≡ true
      any_of [] x (k, within, is) e = absurd (omega (arith, within))
      any_of (y ∷ xs) x (zero, within, is) e = ap (λ b. b || list_any (λ (other : Item). other.caller == worker) xs) (ap (λ (z : Item). z.caller == worker) is ∙ e)
      any_of (y ∷ xs) x (suc k, within, is) e = ap (λ b. (y.caller == worker) || b) (any_of xs x (k, omega (arith, within), is) e) ∙ or-true (y.caller == worker)

  -- a start is its worker's
  pub just_started : (worker other : ℕ) → EachDoes (λ d. d ≡ start_of worker) turn → hands_on plan earlier turn (Start other) ≡ true → worker ≡ other
  just_started worker other each is = by (found (λ before it. gives plan before it (Start other)) earlier turn.made is) where
    by : Found (λ before it. gives plan before it (Start other)) earlier turn.made → worker ≡ other
    by f = eqb-true worker other (and_parts (worker == other) (is_made Done) (sym (ap (starts_worker other) (each f.it (made_by (λ before it. gives plan before it (Start other)) earlier turn f))) ∙ f.passes)).0
