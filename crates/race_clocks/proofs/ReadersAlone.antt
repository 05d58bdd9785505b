-- Readers order nothing among themselves.
use Rattle.std.proofs.Common.{◌≡◌, ◌⊎◌, inl, inr, ℕ, ◌<◌, Bool, true, false, List, [], ◌∷◌, ◌++◌, Some, slice_get, sym, ap, ◌∙◌, subst, arith}
use Rattle.std.specs.Prelude.{Contains}
use Rattle.std.proofs.lemmas.Bool.{false≢true}
use Rattle.std.proofs.lemmas.Option.{same_Some}
use Rattle.workload.specs.Plan.{Plan}
use Rattle.step_runner.specs.declared.trace.TraceItem.{TraceItem}
use Rattle.step_runner.specs.declared.turns.item.Item.{Item}
use Rattle.race_clocks.specs.Channels.{Channel, MutexUnlock, WriterUnlock, ReaderUnlock, Notice, Lowering, FunctionEnd, PutItem, Start, Atomic, MapKey, gives, hands_on, takes_in}
use Rattle.race_clocks.specs.HappensBefore.{done_before, Edge, Leads, Before}
use Rattle.race_clocks.specs.Races.{Conflicts, IsRace}
use Rattle.race_clocks.specs.Rows.{IsOwn, IsHanded, reader_unlock, IsReadersCall, EachDoes, HandsOnNothing, TakesInNothing, IsReaders}
use Rattle.race_clocks.proofs.Order.{edge_cases}
use Rattle.race_clocks.proofs.Quiet.{none_handed, gives_none, takes_nothing, within}
use Rattle.race_clocks.proofs.Readers.{just_reader, takes_none}
use Rattle.race_clocks.proofs.Turns.{Found, found}

-- it hands on as a reader alone
hands_as_reader : (plan : Plan) (earlier : List Item) (turn : TraceItem) → EachDoes (λ d. HandsOnNothing d ⊎ (d ≡ reader_unlock)) turn → (channel : Channel) → hands_on plan earlier turn channel ≡ true → (lock : ℕ) × (channel ≡ ReaderUnlock lock)
hands_as_reader plan earlier turn each channel is = at_item (found (λ before it. gives plan before it channel) earlier turn.made is) where
  by : (before : List Item) (it : Item) → HandsOnNothing it.deed ⊎ (it.deed ≡ reader_unlock) → gives plan before it channel ≡ true → (lock : ℕ) × (channel ≡ ReaderUnlock lock)
  by before it (inl silent) gives_it = absurd (false≢true (sym (gives_none plan before it (none_handed silent) channel) ∙ gives_it))
  by before it (inr unlock) gives_it = just_reader plan before it unlock channel gives_it

  at_item : Found (λ before it. gives plan before it channel) earlier turn.made → (lock : ℕ) × (channel ≡ ReaderUnlock lock)
  at_item f = by (earlier ++ f.front) f.it (each f.it (subst (λ made. Contains made f.it) (sym f.is_made) (within f.front f.it f.back))) f.passes

abbrev is_start : Channel → Bool
is_start (Start worker) = true
is_start (MutexUnlock o) = false
is_start (WriterUnlock o) = false
is_start (ReaderUnlock o) = false
is_start (Notice o worker) = false
is_start (Lowering o) = false
is_start (FunctionEnd o) = false
is_start (PutItem o number) = false
is_start (Atomic o) = false
is_start (MapKey o key) = false

-- and takes in nothing that a reader handed on
takes_no_reader : (plan : Plan) (earlier : List Item) (turn : TraceItem) → IsReadersCall turn.call ⊎ EachDoes TakesInNothing turn → (lock : ℕ) → takes_in plan earlier turn (ReaderUnlock lock) ≡ true → ⊥
takes_no_reader plan earlier turn (inl call) lock is = takes_none plan earlier turn call lock is
takes_no_reader plan earlier turn (inr each) lock is = by (takes_nothing plan earlier turn each (ReaderUnlock lock) is) where
  by : (worker : ℕ) × (ReaderUnlock lock ≡ Start worker) → ⊥
  by (worker, same) = false≢true (ap is_start same)

module _ (plan : Plan) (trace : List TraceItem) (readers : (n : ℕ) (one : TraceItem) → slice_get trace n ≡ Some one → IsReaders one) where
  own_edge : (i j : ℕ) → Edge plan trace i j → IsOwn trace i j
  own_edge i j edge = by (edge_cases plan trace i j edge) where
    by_channel : (channel : Channel) → (h : IsHanded plan trace channel i j) → (lock : ℕ) × (channel ≡ ReaderUnlock lock) → ⊥
    by_channel channel h (lock, is) = takes_no_reader plan (done_before trace j) h.taker (readers j h.taker h.at).takes lock (ap (takes_in plan (done_before trace j) h.taker) (sym is) ∙ h.takes)

    by : IsOwn trace i j ⊎ ((channel : Channel) × IsHanded plan trace channel i j) → IsOwn trace i j
    by (inl own) = own
    by (inr (channel, h)) = absurd (by_channel channel h (hands_as_reader plan (done_before trace i) h.stands.giver (readers i h.stands.giver h.stands.at).hands channel h.stands.gives))

  further : (i k j : ℕ) → IsOwn trace i k → IsOwn trace k j → IsOwn trace i j
  further i k j one two = record {
    first = one.first;
    second = two.second;
    at_first = one.at_first;
    at_second = two.at_second;
    earlier = let a = one.earlier in let b = two.earlier in omega (arith, a, b);
    worker = one.worker ∙ ap (λ (t : TraceItem). t.worker) (same_Some one.second two.first (sym one.at_second ∙ two.at_first)) ∙ two.worker;
  }

  own_path : (i : ℕ) (path : List ℕ) (j : ℕ) → Leads plan trace i path j → IsOwn trace i j
  own_path i [] j edge = own_edge i j edge
  own_path i (k ∷ path) j (leads, edge) = further i k j (own_path i path k leads) (own_edge k j edge)

  pub own_alone : (i j : ℕ) → Before plan trace i j → IsOwn trace i j
  own_alone i j (path, leads) = own_path i path j leads

  pub readers_race : (i j : ℕ) (x y : TraceItem) → slice_get trace i ≡ Some x → slice_get trace j ≡ Some y → i < j → Conflicts x y → IsRace plan trace i j
  readers_race i j x y at_x at_y earlier conflict = record {
    first = x;
    second = y;
    at_first = at_x;
    at_second = at_y;
    earlier = earlier;
    conflict = conflict;
    unordered = λ before. apart (own_alone i j before);
  } where
    apart : IsOwn trace i j → ⊥
    apart own = conflict.workers (ap (λ (t : TraceItem). t.worker) (same_Some x own.first (sym at_x ∙ own.at_first)) ∙ own.worker ∙ ap (λ (t : TraceItem). t.worker) (same_Some own.second y (sym own.at_second ∙ at_y)))
