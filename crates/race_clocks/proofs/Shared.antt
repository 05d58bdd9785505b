-- What is an entry, what finds one, and that the next one takes its place.
use Rattle.std.proofs.Common.{◌≡◌, ◌↔◌, ◌⊎◌, inl, inr, ℕ, zero, suc, ◌<◌, true, ◌&&◌, ◌||◌, List, [], ◌∷◌, refl, sym, ap, ◌∙◌, arith}
use Rattle.std.specs.Prelude.{Contains, map, is_some}
use Rattle.std.specs.FinMap.{get}
use Rattle.std.specs.List.{list_any}
use Rattle.std.specs.Str.{bytes_eq}
use Rattle.std.proofs.lemmas.Bool.{false≢true, and_parts, and_from, or_cases}
use Rattle.std.proofs.lemmas.Slice.Eq.{bytes_eq-Decides}
use Rattle.std.proofs.Math.Bool.{or-true}
use Rattle.sync_types.specs.SequentialAtomic.{atomic_reply, is_atomic_entry}
use Rattle.sync_types.specs.declared.atomic_object.AtomicCall.{AtomicCall}
use Rattle.sync_types.specs.declared.atomic_object.AtomicCall.TheVariants.{Load, Store, Swap, Add, And, Or, CompareAndSwap}
use Rattle.sync_types.specs.declared.atomic_object.Number.{Number}
use Rattle.sync_types.specs.declared.map_object.MapCall.TheVariants as map_calls
use Rattle.script_calls.specs.declared.call.Operation.TheVariants as operations
use Rattle.script_calls.specs.declared.call.Reply.{Reply}
use Rattle.script_calls.specs.declared.call.Reply.TheVariants as replies
use Rattle.workload.specs.Plan.{Plan}
use Rattle.step_runner.specs.declared.trace.TraceItem.{TraceItem}
use Rattle.step_runner.specs.declared.turns.item.Deed.{Deed}
use Rattle.step_runner.specs.declared.turns.item.Deed.TheVariants as deeds
use Rattle.race_clocks.specs.Channels.{Atomic, MapKey}
use Rattle.race_clocks.specs.Deeds.{enters_atomic, finds_in_map}
use Rattle.race_clocks.specs.HappensBefore.{Stands}
use Rattle.race_clocks.specs.Rows.{Makes, earlier_of, on_atomic}
use Rattle.race_clocks.specs.Seen.{Named, map_behind, enters_key}
use Rattle.race_clocks.proofs.Ordered.{forgotten}
use Rattle.race_clocks.proofs.Turns.{here, hands_at}

pub atomic_forgotten : (plan : Plan) (trace : List TraceItem) (i k j atomic u : ℕ) (f : Deed) → i < k → k < j → Makes trace k atomic u f → enters_atomic f ≡ true → Stands plan trace (Atomic atomic) i j → ⊥
atomic_forgotten plan trace i k j atomic u f after before m enters =
    forgotten plan trace (Atomic atomic) i k j m.turn after before m.at (hands_at plan trace k atomic u f m (Atomic atomic) (here atomic (enters_atomic f) enters))

pub key_forgotten : (plan : Plan) (trace : List TraceItem) (i k j place u : ℕ) (f : Deed) (key : List ℕ) → i < k → k < j → (m : Makes trace k place u f) → enters_key key (map_behind place (earlier_of trace k place u f m)) f ≡ true → Stands plan trace (MapKey place key) i j → ⊥
key_forgotten plan trace i k j place u f key after before m enters =
    forgotten plan trace (MapKey place key) i k j m.turn after before m.at (hands_at plan trace k place u f m (MapKey place key) (here place (enters_key key (map_behind place (earlier_of trace k place u f m)) f) enters))

pub told_entries : (call : AtomicCall) (held : Number) → enters_atomic (on_atomic call (atomic_reply call held)) ≡ is_atomic_entry call held
told_entries Load held = refl
told_entries (Store value) held = refl
told_entries (Swap value) held = refl
told_entries (Add operand) held = refl
told_entries (And operand) held = refl
told_entries (Or operand) held = refl
told_entries (CompareAndSwap old new) held = refl

same : (key other : List ℕ) → bytes_eq key other ≡ true → key ≡ other
same key other = (bytes_eq-Decides key other).0

equal : (key other : List ℕ) → key ≡ other → bytes_eq key other ≡ true
equal key other = (bytes_eq-Decides key other).1

pub store_entry : (key other : List ℕ) (value : ℕ) (m : Named) (reply : Reply (List ℕ)) → (enters_key key m (deeds.Placed (operations.Map (map_calls.Store other value)) reply) ≡ true) ↔ (key ≡ other)
store_entry key other value m reply = (λ e. same key other (and_parts (bytes_eq key other) true e).0, λ e. and_from (bytes_eq key other) true (equal key other e) refl)

pub swap_entry : (key other : List ℕ) (value : ℕ) (m : Named) (reply : Reply (List ℕ)) → (enters_key key m (deeds.Placed (operations.Map (map_calls.Swap other value)) reply) ≡ true) ↔ (key ≡ other)
swap_entry key other value m reply = (λ e. same key other (and_parts (bytes_eq key other) true e).0, λ e. and_from (bytes_eq key other) true (equal key other e) refl)

pub clear_entry : (key : List ℕ) (m : Named) (reply : Reply (List ℕ)) → enters_key key m (deeds.Placed (operations.Map map_calls.Clear) reply) ≡ true
clear_entry key m reply = refl

pub delete_entry : (key : List ℕ) (m : Named) (reply : Reply (List ℕ)) → enters_key key m (deeds.Placed (operations.Map (map_calls.Delete key)) reply) ≡ is_some (get m key)
delete_entry key m reply = ap (λ b. b && is_some (get m key)) (equal key key refl)

pub load_finds : (key other : List ℕ) (reply : Reply (List ℕ)) → (finds_in_map key (deeds.Placed (operations.Map (map_calls.Load other)) reply) ≡ true) ↔ (key ≡ other)
load_finds key other reply = (same key other, equal key other)

shown : (key : List ℕ) (pairs : List (List ℕ × ℕ)) → list_any (λ pair. bytes_eq key pair.0) pairs ≡ true → Contains (map (λ pair. pair.0) pairs) key
shown key [] e = absurd (false≢true e)
shown key (p ∷ pairs) e = by (shown key pairs) (or_cases (bytes_eq key p.0) (list_any (λ pair. bytes_eq key pair.0) pairs) e) where
  later : Contains (map (λ pair. pair.0) pairs) key → Contains (map (λ pair. pair.0) (p ∷ pairs)) key
  later (k, within, is) = (suc k, omega (arith, within), is)

  by : (list_any (λ pair. bytes_eq key pair.0) pairs ≡ true → Contains (map (λ pair. pair.0) pairs) key) → (bytes_eq key p.0 ≡ true) ⊎ (list_any (λ pair. bytes_eq key pair.0) pairs ≡ true) → Contains (map (λ pair. pair.0) (p ∷ pairs)) key
  by rest (inl is) = (0, omega arith, sym (same key p.0 is))
  by rest (inr is) = later (rest is)

shows : (key : List ℕ) (pairs : List (List ℕ × ℕ)) → Contains (map (λ pair. pair.0) pairs) key → list_any (λ pair. bytes_eq key pair.0) pairs ≡ true
shows key [] (k, within, is) = absurd (omega (arith, within))
shows key (p ∷ pairs) (zero, within, is) = ap (λ b. b || list_any (λ pair. bytes_eq key pair.0) pairs) (equal key p.0 (sym is))
shows key (p ∷ pairs) (suc k, within, is) = ap (λ b. bytes_eq key p.0 || b) (shows key pairs (k, omega (arith, within), is)) ∙ or-true (bytes_eq key p.0)

pub range_finds : (key : List ℕ) (pairs : List (List ℕ × ℕ)) → (finds_in_map key (deeds.Placed operations.Range (replies.Pairs pairs)) ≡ true) ↔ Contains (map (λ pair. pair.0) pairs) key
range_finds key pairs = (shown key pairs, shows key pairs)
