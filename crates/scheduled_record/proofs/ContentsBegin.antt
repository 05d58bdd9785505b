-- What maps and atomics contain when a run begins is what its objects hold, and after the acts of a record it is what its history makes of that.
use Rattle.std.proofs.Common.{◌≡◌, ℕ, zero, suc, ◌+◌, ◌<◌, Bool, true, false, cond, List, [], ◌∷◌, ◌++◌, map, flat_map, fold, length, take, replicate, get_or, count_by, Option, Some, None, option_map, slice_get, refl, sym, ap, ◌∙◌, subst, arith}
use Rattle.std.specs.Prelude.{unwrap_or}
use Rattle.std.specs.FinMap.{FinMap, empty}
use Rattle.std.specs.List.{AllByRecursion}
use Rattle.std.specs.Ordering.{nat_cmp}
use Rattle.std.proofs.lemmas.List.{length-map, length-append, length-replicate}
use Rattle.std.proofs.lemmas.List.Sums.{sum_by-cons}
use Rattle.std.proofs.lemmas.Option.{none-some, same_Some, slice_get-map}
use Rattle.sync_types.specs.Renaming.{IsRenamed}
use Rattle.sync_types.specs.SequentialAtomic.{zero_of}
use Rattle.sync_types.specs.declared.atomic_object.AtomicKind.{AtomicKind}
use Rattle.sync_types.specs.declared.atomic_object.Number.{Number}
use Rattle.sync_types.specs.declared.atomic_object.Number.TheVariants.{Bool as Truth}
use Rattle.sync_model.specs.Log.{Entry}
use Rattle.sync_model.specs.declared.item.SharedEntry.{SharedEntry}
use Rattle.sync_model.specs.SharedHistory.{Contents, contents_after, shared_after, entry_of}
use Rattle.workload.specs.Keys.{keys_in, key_number}
use Rattle.workload.specs.declared.object.ObjectKind.{ObjectKind}
use Rattle.workload.specs.declared.object.ObjectKind.TheVariants as kinds
use Rattle.workload.specs.declared.object.ObjectLine.{ObjectLine}
use Rattle.workload.specs.Plan.{Plan}
use Rattle.workload.specs.Puts.{puts_at}
use Rattle.run_record.specs.declared.entered.ObjectEvent.{ObjectEvent}
use Rattle.run_record.specs.declared.entered.ObjectEvent.TheVariants as events
use Rattle.run_record.specs.declared.entered.ObjectReply.{ObjectReply}
use Rattle.run_record.specs.declared.entered.ObjectReply.TheVariants as answered
use Rattle.run_record.specs.declared.made.Made.{Made}
use Rattle.run_record.specs.declared.made.Made.TheVariants.{Shared, Entered}
use Rattle.run_record.specs.Objects.{is_map, is_atomic, types_of, map_number, atomic_number, contents_of}
use Rattle.kept_record.specs.Acts.{contents_behind, AreAnswered}
use Rattle.kept_record.specs.Keeping.{Act, Account, placed, with_made, with_act, opened, record_of}
use Rattle.step_runner.specs.declared.turns.item.Deed.{Deed}
use Rattle.step_runner.specs.declared.turns.item.Item.{Item}
use Rattle.step_runner.specs.declared.turns.object_state.ObjectState.{ObjectState}
use Rattle.step_runner.specs.declared.turns.object_state.ObjectState.TheVariants as states
use Rattle.step_runner.specs.LeadsTo.{on_object, told_in, told_by, CallsTo, AtomicGoes, LeadsTo}
use Rattle.step_runner.specs.Objects.{kind_of, new_object}
use Rattle.step_runner.specs.RunItems.{LeadTo}
use Rattle.scheduled_record.specs.RunActs.{acts_of}
use Rattle.scheduled_record.proofs.Contents.{ByKey, behind_all, ContentLaws, IsEvent, IsEntered, HoldsAt, HasLine, Holds, items_go}
use Rattle.scheduled_record.specs.ItemsOf.{is_key, AreItemsOf}

-- ---- what a record's history makes

contents_more : (start : Contents) (history : List SharedEntry) (entry : SharedEntry) → contents_after start (history ++ entry ∷ []) ≡ shared_after entry.call (contents_after start history)
contents_more start [] entry = refl
contents_more start (first ∷ history) entry = contents_more (shared_after first.call start) history entry

made_after : (start : Contents) (kept : Account) (worker : ℕ) (made : Made) → contents_after start kept.history ≡ kept.contents → contents_after start (with_made worker made kept).history ≡ (with_made worker made kept).contents
made_after start kept worker (Entered object entry) is = is
made_after start kept worker (Shared x) is = chosen (placed worker x kept).entry where
  chosen : (b : Bool) → contents_after start (cond b (kept.history ++ entry_of worker (placed worker x kept) ∷ []) kept.history) ≡ cond b (shared_after x.call kept.contents) kept.contents
  chosen true = contents_more start kept.history (entry_of worker (placed worker x kept)) ∙ ap (shared_after x.call) is
  chosen false = is

behind_one : (kept : Account) (worker : ℕ) (made : Made) → (with_made worker made kept).contents ≡ contents_behind made kept.contents
behind_one kept worker (Shared x) = refl
behind_one kept worker (Entered object entry) = refl

acts_after : (start : Contents) (kept : Account) (acts : List Act) → contents_after start kept.history ≡ kept.contents → contents_after start (fold with_act kept acts).history ≡ behind_all kept.contents acts
acts_after start kept [] is = is
acts_after start kept (act ∷ acts) is = acts_after start (with_act kept act) acts (made_after start kept act.worker act.made is) ∙ ap (λ (c : Contents). behind_all c acts) (behind_one kept act.worker act.made)

pub history_makes : (plan : Plan) (acts : List Act) → contents_after (contents_of plan) (record_of plan acts).history ≡ behind_all (contents_of plan) acts
history_makes plan acts = acts_after (contents_of plan) (opened plan) acts refl

-- ---- a run begins

-- all items of a log are events
by_log : {E R : Type 0} (event : E → ObjectEvent) (answer : R → ObjectReply) (items : List Item) (log : List (Entry E R)) → map told_in items ≡ map (told_by event answer) log → AllByRecursion IsEntered items
by_log event answer [] log same = tt
by_log event answer (item ∷ items) [] same = absurd cc
by_log event answer (item ∷ items) (e ∷ log) same =
    let head : told_in item ≡ told_by event answer e = cc in
    let tail : map told_in items ≡ map (told_by event answer) log = cc in
    (subst IsEvent (sym (ap (λ (x : ℕ × Deed). x.1) head)) tt, by_log event answer items log tail)

none_there : (n i : ℕ) → get_or (replicate n (empty {X = ℕ} {R = nat_cmp})) i empty ≡ empty
none_there zero i = refl
none_there (suc n) zero = refl
none_there (suc n) (suc i) = none_there n i

number_of : (types : List AtomicKind) (n : ℕ) (type : AtomicKind) → slice_get types n ≡ Some type → get_or (map zero_of types) n (Truth false) ≡ zero_of type
number_of [] n type at = absurd (none-some type at)
number_of (t ∷ types) zero type at = ap zero_of (same_Some t type at)
number_of (t ∷ types) (suc n) type at = number_of types n type at

-- the type of an atomic is the one of its number
type_at : (objects : List ObjectLine) (place : ℕ) (object : ObjectLine) (type : AtomicKind) → slice_get objects place ≡ Some object → object.kind ≡ kinds.Atomic type
    → slice_get (flat_map (λ o. types_of o.kind) objects) (atomic_number objects place) ≡ Some type
type_at [] place object type at kind = absurd (none-some object at)
type_at (y ∷ objects) zero object type at kind = first y.kind (ap (λ (o : Option ObjectLine). (unwrap_or o y).kind) at ∙ kind) where
  first : (k : ObjectKind) → k ≡ kinds.Atomic type → slice_get (types_of k ++ flat_map (λ o. types_of o.kind) objects) 0 ≡ Some type
  first k is = ap (λ (k : ObjectKind). slice_get (types_of k ++ flat_map (λ o. types_of o.kind) objects) 0) is
type_at (y ∷ objects) (suc i) object type at kind = ap (λ n. slice_get (types_of y.kind ++ flat_map (λ o. types_of o.kind) objects) n) (sum_by-cons (λ o. cond (is_atomic o.kind) 1 0) y (take i objects)) ∙ behind y.kind (type_at objects i object type at kind) where
  behind : (k : ObjectKind) → slice_get (flat_map (λ o. types_of o.kind) objects) (atomic_number objects i) ≡ Some type
      → slice_get (types_of k ++ flat_map (λ o. types_of o.kind) objects) (cond (is_atomic k) 1 0 + atomic_number objects i) ≡ Some type
  behind (kinds.Atomic other) is = let e : 1 + atomic_number objects i ≡ suc (atomic_number objects i) = omega arith in ap (λ n. slice_get (other ∷ flat_map (λ o. types_of o.kind) objects) n) e ∙ is
  behind k is = let e : 0 + atomic_number objects i ≡ atomic_number objects i = omega arith in ap (λ n. slice_get (flat_map (λ o. types_of o.kind) objects) n) e ∙ is

-- there are as many types as atomics
types_count : (objects : List ObjectLine) → length (flat_map (λ o. types_of o.kind) objects) ≡ count_by (λ object. is_atomic object.kind) objects
types_count [] = refl
types_count (y ∷ objects) = length-append (types_of y.kind) (flat_map (λ o. types_of o.kind) objects) ∙ (one y.kind (types_count objects) ∙ sym (sum_by-cons (λ o. cond (is_atomic o.kind) 1 0) y objects)) where
  one : (k : ObjectKind) → length (flat_map (λ o. types_of o.kind) objects) ≡ count_by (λ object. is_atomic object.kind) objects
      → length (types_of k) + length (flat_map (λ o. types_of o.kind) objects) ≡ cond (is_atomic k) 1 0 + count_by (λ object. is_atomic object.kind) objects
  one (kinds.Atomic type) is = ap (λ (n : ℕ). 1 + n) is
  one k is = ap (λ (n : ℕ). 0 + n) is

some_there : {X : Type 0} (xs : List X) (i : ℕ) → i < length xs → (x : X) × (slice_get xs i ≡ Some x)
some_there [] i within = absurd (omega (arith, within))
some_there (x ∷ xs) zero within = (x, refl)
some_there (x ∷ xs) (suc i) within = some_there xs i (omega (arith, within))

module _ (plan : Plan) (begins : (m : ByKey) (n : FinMap nat_cmp ℕ) → m ≡ empty → n ≡ empty → IsRenamed (key_number (keys_in plan.scripts)) (is_key plan) m n) where
  holds_from : (place : ℕ) (line : ObjectLine) (room : ℕ) (keys : List (List ℕ)) (made : List Item) → slice_get plan.objects place ≡ Some line → (kind : ObjectKind) (o : ObjectState) → line.kind ≡ kind
      → LeadsTo (new_object plan.workers room keys kind) made o → HoldsAt plan place o made (contents_of plan)
  holds_from place line room keys made at kinds.Map (states.Map last) is leads = (empty, begins empty _ refl (none_there (count_by (λ object. is_map object.kind) plan.objects) (map_number plan.objects place)), leads)
  holds_from place line room keys made at kinds.Map o is leads = absurd leads
  holds_from place line room keys made at (kinds.Atomic type) (states.Atomic last) is leads =
      subst (λ (n : Number). CallsTo AtomicGoes n made last) (sym (number_of (flat_map (λ o. types_of o.kind) plan.objects) (atomic_number plan.objects place) type (type_at plan.objects place line type at is))) leads
  holds_from place line room keys made at (kinds.Atomic type) o is leads = absurd leads
  holds_from place line room keys made at kinds.Mutex (states.Mutex m) is leads = by_log events.Mutex answered.Mutex made leads.0 leads.1
  holds_from place line room keys made at kinds.Mutex o is leads = absurd leads
  holds_from place line room keys made at kinds.RwMutex (states.RwMutex m) is leads = by_log events.RwMutex answered.RwMutex made leads.0 leads.1
  holds_from place line room keys made at kinds.RwMutex o is leads = absurd leads
  holds_from place line room keys made at (kinds.Cond other) (states.Cond m another) is leads = by_log events.Cond answered.Cond made leads.0 leads.1
  holds_from place line room keys made at (kinds.Cond other) o is leads = absurd leads
  holds_from place line room keys made at (kinds.WaitGroup first) (states.WaitGroup m other) is leads = by_log events.WaitGroup answered.WaitGroup made leads.0 leads.1
  holds_from place line room keys made at (kinds.WaitGroup first) o is leads = absurd leads
  holds_from place line room keys made at (kinds.Once other delta) (states.Once m another amount) is leads = by_log events.Once answered.Once made leads.0 leads.1
  holds_from place line room keys made at (kinds.Once other delta) o is leads = absurd leads
  holds_from place line room keys made at (kinds.OnceFunc code) (states.OnceFunc m other) is leads = by_log events.OnceFunc answered.OnceFunc made leads.0 leads.1
  holds_from place line room keys made at (kinds.OnceFunc code) o is leads = absurd leads
  holds_from place line room keys made at (kinds.OnceValue value) (states.OnceValue m other) is leads = by_log events.OnceValue answered.OnceValue made leads.0 leads.1
  holds_from place line room keys made at (kinds.OnceValue value) o is leads = absurd leads
  holds_from place line room keys made at kinds.Pool (states.Pool m) is leads = by_log events.Pool answered.Pool made leads.0 leads.1
  holds_from place line room keys made at kinds.Pool o is leads = absurd leads
  holds_from place line room keys made at (kinds.Sema size) (states.Sema m other) is leads = by_log events.Sema answered.Sema made leads.0 leads.1
  holds_from place line room keys made at (kinds.Sema size) o is leads = absurd leads
  holds_from place line room keys made at (kinds.Flight other delta) (states.Flight m names another amount) is leads = by_log events.Flight answered.Flight made leads.0 leads.1
  holds_from place line room keys made at (kinds.Flight other delta) o is leads = absurd leads
  holds_from place line room keys made at kinds.Var (states.Var last) is leads = (0, leads)
  holds_from place line room keys made at kinds.Var o is leads = absurd leads

  module _ (laws : ContentLaws plan) (objects : List ObjectState) (same : map kind_of objects ≡ map (λ object. object.kind) plan.objects) where
    pub record LineAt (place : ℕ) (o : ObjectState) : Type 0 where
      pub line : ObjectLine
      pub at : slice_get plan.objects place ≡ Some line
      pub kind : line.kind ≡ kind_of o

    line_at : (place : ℕ) (o : ObjectState) → slice_get objects place ≡ Some o → LineAt place o
    line_at place o at = chosen (slice_get plan.objects place) refl where
      kinds_at : option_map (λ (object : ObjectLine). object.kind) (slice_get plan.objects place) ≡ Some (kind_of o)
      kinds_at = sym (slice_get-map (λ (object : ObjectLine). object.kind) plan.objects place) ∙ (ap (λ (l : List ObjectKind). slice_get l place) (sym same) ∙ (slice_get-map kind_of objects place ∙ ap (option_map kind_of) at))

      chosen : (line : Option ObjectLine) → slice_get plan.objects place ≡ line → LineAt place o
      chosen None none = absurd (none-some (kind_of o) (ap (option_map (λ (object : ObjectLine). object.kind)) (sym none) ∙ kinds_at))
      chosen (Some line) there = record { line = line; at = there; kind = same_Some line.kind (kind_of o) (ap (option_map (λ (object : ObjectLine). object.kind)) (sym there) ∙ kinds_at) }

    has_line : (place : ℕ) (o : ObjectState) → LineAt place o → HasLine plan place o
    has_line place (states.Map last) it = (it.line, it.at, ap is_map it.kind)
    has_line place (states.Atomic last) it = (it.line, it.at, ap is_atomic it.kind)
    has_line place (states.Var last) it = tt
    has_line place (states.Mutex m) it = tt
    has_line place (states.RwMutex m) it = tt
    has_line place (states.Cond m other) it = tt
    has_line place (states.WaitGroup m other) it = tt
    has_line place (states.Once m other delta) it = tt
    has_line place (states.OnceFunc m code) it = tt
    has_line place (states.OnceValue m value) it = tt
    has_line place (states.Pool m) it = tt
    has_line place (states.Sema m size) it = tt
    has_line place (states.Flight m keys other delta) it = tt

    pub there : (place : ℕ) → place < length plan.objects → (o : ObjectState) × (slice_get objects place ≡ Some o)
    there place within = some_there objects place (subst (λ (n : ℕ). place < n) (sym long) within) where
      long : length objects ≡ length plan.objects
      long = sym (length-map objects kind_of) ∙ (ap length same ∙ length-map plan.objects (λ object. object.kind))

    pub lined : (place : ℕ) (o : ObjectState) → slice_get objects place ≡ Some o → HasLine plan place o
    lined place o at = has_line place o (line_at place o at)

    pub begin : (items : List Item) → LeadTo plan items objects → Holds plan objects items (contents_of plan)
    begin items leads = record {
      maps = length-replicate (count_by (λ object. is_map object.kind) plan.objects) empty;
      numbers = length-map (flat_map (λ o. types_of o.kind) plan.objects) zero_of ∙ types_count plan.objects;
      at = λ place o at. let it = line_at place o at in holds_from place it.line (puts_at place plan.scripts) (keys_in plan.scripts) (on_object place items) it.at it.line.kind o refl (leads place it.line o it.at at);
    }

    pub run_holds : (items : List Item) → AreItemsOf plan items → LeadTo plan items objects → AreAnswered (contents_of plan) (acts_of plan items) × Holds plan objects [] (behind_all (contents_of plan) (acts_of plan items))
    run_holds items of leads = items_go plan laws objects (λ place o at. has_line place o (line_at place o at)) there (contents_of plan) [] items of tt (begin items leads)
