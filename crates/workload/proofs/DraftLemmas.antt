-- A draft with one more line keeps its tables.
use Rattle.std.proofs.Common.{◌≡◌, ℕ, zero, suc, ◌+◌, ◌-◌, ◌<◌, ◌≤◌, Bool, true, false, cond, eqb, ◌&&◌, List, [], ◌∷◌, ◌++◌, length, get_or, set, replicate, Option, Some, None, refl, sym, ap, subst, ◌∙◌, append_assoc, arith}
use Rattle.std.specs.Prelude.{is_some, nat_lt, slice_get, count_by, sum_by}
use Rattle.std.specs.Option.{option_or, option_map_or}
use Rattle.std.specs.List.{list_all}
use Rattle.std.specs.Str.{bytes_eq}
use Rattle.std.specs.Ordering.{nat_cmp}
use Rattle.std.specs.Cmp.Lexicographic.{slice_cmp, nat_list_cmp_total}
use Rattle.std.specs.FinMap.{FinMap, get, insert, empty, from_entries, get-empty, get-insert}
use Rattle.std.proofs.lemmas.Bool.{eqb-true, eq-eqb, ltb-true, leb-true}
use Rattle.std.proofs.lemmas.List.Folds.{list_any-append}
use Rattle.workload.specs.declared.limits.TheConstants.{MAX_ACCESSES, MAX_ALL_TRIES, MAX_CALLS, MAX_KEYS, MAX_RANGES, MAX_TURNS, MAX_WORKERS}
use Rattle.std.proofs.lemmas.Slice.Eq.{bytes_eq-Decides}
use Rattle.std.proofs.lemmas.Map.Text.{is_eq-slice_cmp}
use Rattle.std.proofs.lemmas.List.{length-set, length-append, length-replicate, append-nil}
use Rattle.std.proofs.lemmas.List.Sums.{sum_by-set, sum_by-append}
use Rattle.script_calls.specs.declared.call.Call.{Call}
use Rattle.script_calls.specs.declared.call.ComposedCall.TheVariants.{WaitFor}
use Rattle.script_calls.specs.declared.call.Operation.{Operation}
use Rattle.script_calls.specs.declared.call.Operation.TheVariants as operations
use Rattle.script_calls.specs.Starts.{started_by}
use Rattle.workload.specs.declared.object.ObjectLine.{ObjectLine}
use Rattle.workload.specs.declared.object.Declared.{Declared}
use Rattle.workload.specs.declared.line.Line.TheVariants as lines
use Rattle.workload.specs.declared.turn.Turn.{Turn}
use Rattle.workload.specs.declared.turn.Turn.TheVariants as turns
use Rattle.workload.specs.declared.object.ObjectKind.{ObjectKind}
use Rattle.workload.specs.declared.object.ObjectKind.TheVariants as kinds
use Rattle.workload.specs.Plan.{Plan, reference_of, is_target, refers, may_hold, has_among, is_on, is_turn, starts_dormant, is_valid}
use Rattle.workload.specs.Draft.{Draft, names_reference, declared_from, names_object, is_call, is_item, may_follow, call_count, key_count, keys_of, all_keys, distinct_count, is_range, range_count, tries_of, try_count, is_access, access_count}
use Rattle.workload.specs.Readable.{may_join, may_declare}
use Rattle.workload.specs.Index.{IsIndexed, marked, with_keys, marks}
use Rattle.workload.proofs.Passing.{both, pair, all_mono, all_set, all_append, all_at}
use Rattle.workload.proofs.Follows.{object_follows, schedule_follows, call_follows}
use Rattle.workload.proofs.References.{some_reference}
use Rattle.workload.proofs.Started.{starts_few, marks_more, marked_length, may_waits, all_wait, no_starts, no_marks}
use Rattle.workload.proofs.KeyLemmas.{keys_with_call, keys_more, distinct_same}

or_none : (o : Option Declared) → option_or o None ≡ o
or_none None = refl
or_none (Some d) = refl

-- one more object is found behind the others
pub declared_more : (i : ℕ) (q : List ℕ) (os : List ObjectLine) (o : ObjectLine) → declared_from i q (os ++ o ∷ []) ≡ option_or (declared_from i q os) (cond (bytes_eq q o.name) (Some (record { place = i + length os; kind = o.kind })) None)
declared_more i q [] o = ap (λ (n : ℕ). cond (bytes_eq q o.name) (Some (record { place = n; kind = o.kind })) None) (omega arith)
declared_more i q (p ∷ os) o =
    elim (bytes_eq q p.name) as (λ b. cond b (Some (record { place = i; kind = p.kind })) (declared_from (i + 1) q (os ++ o ∷ [])) ≡ option_or (cond b (Some (record { place = i; kind = p.kind })) (declared_from (i + 1) q os)) (cond (bytes_eq q o.name) (Some (record { place = i + length (p ∷ os); kind = o.kind })) None)) [
      | true ↦ refl
      | false ↦ declared_more (i + 1) q os o ∙ ap (λ (n : ℕ). option_or (declared_from (i + 1) q os) (cond (bytes_eq q o.name) (Some (record { place = n; kind = o.kind })) None)) (omega arith)
    ]

same_place : (i : ℕ) (p : ObjectLine) (d : Declared) → Some (record { place = i; kind = p.kind }) ≡ Some d → (i ≡ d.place) × (p.kind ≡ d.kind)
same_place i p d is = (cc, cc)

-- a name that is declared has its object at the place
pub found_at : (i : ℕ) (name : List ℕ) (os : List ObjectLine) (d : Declared) → declared_from i name os ≡ Some d → (o : ObjectLine) × (i ≤ d.place) × (slice_get os (d.place - i) ≡ Some o) × (o.kind ≡ d.kind)
found_at i name [] d e = absurd cc
found_at i name (p ∷ os) d e =
    elim (bytes_eq name p.name) as (λ b. cond b (Some (record { place = i; kind = p.kind })) (declared_from (i + 1) name os) ≡ Some d → (o : ObjectLine) × (i ≤ d.place) × (slice_get (p ∷ os) (d.place - i) ≡ Some o) × (o.kind ≡ d.kind)) [
      | true ↦ λ is.
          let same = same_place i p d is in
          let here : d.place - i ≡ 0 = omega (arith, same.0) in
          (p, omega (arith, same.0), rw here refl, same.1)
      | false ↦ λ is.
          let rest = found_at (i + 1) name os d is in
          let next : d.place - i ≡ suc (d.place - (i + 1)) = omega (arith, rest.1) in
          (rest.0, omega (arith, rest.1), rw next rest.2, rest.3)
    ] e

-- an object that refers to one by its name refers to it
pub names_refers : (d : Draft) (kind : ObjectKind) (to : Option (List ℕ)) → names_reference d kind to ≡ true → refers d.plan.objects kind ≡ true
names_refers d kind to h = at (reference_of kind) refl
  where
    at : (r : Option ℕ) → reference_of kind ≡ r → refers d.plan.objects kind ≡ true
    at None is = rw is refl
    at (Some place) is =
        let named = some_reference d kind place to is h in
        let there = found_at 0 named.name d.plan.objects named.found named.found_is in
        let here : named.found.place - 0 ≡ place = omega (arith, named.place_is) in
        let object : slice_get d.plan.objects place ≡ Some there.0 = ap (slice_get d.plan.objects) (sym here) ∙ there.2 in
        rw (is, object, there.3) named.target

-- and to the same one where one more is declared
pub refers_more : (os : List ObjectLine) (o : ObjectLine) (kind : ObjectKind) → refers os kind ≡ true → refers (os ++ o ∷ []) kind ≡ true
refers_more os o kind h = at (reference_of kind) h
  where
    there : (os : List ObjectLine) (place : ℕ) → option_map_or (λ object. is_target kind object.kind) (slice_get os place) false ≡ true → option_map_or (λ object. is_target kind object.kind) (slice_get (os ++ o ∷ []) place) false ≡ true
    there [] place h = absurd cc
    there (p ∷ os) zero h = h
    there (p ∷ os) (suc place) h = there os place h

    at : (r : Option ℕ) → option_map_or (λ place. option_map_or (λ object. is_target kind object.kind) (slice_get os place) false) r true ≡ true → option_map_or (λ place. option_map_or (λ object. is_target kind object.kind) (slice_get (os ++ o ∷ []) place) false) r true ≡ true
    at None h = refl
    at (Some place) h = there os place h

-- a call whose name is that of its object is on it
pub names_is_on : (name : List ℕ) (os : List ObjectLine) (call : Call) → names_object os (declared_from 0 name os) call ≡ true → is_on os (slice_get os call.object) call ≡ true
names_is_on name os call e =
    elim (declared_from 0 name os) as (λ o. declared_from 0 name os ≡ o → names_object os o call ≡ true → is_on os (slice_get os call.object) call ≡ true) [
      | None ↦ λ is h. absurd cc
      | Some d ↦ λ is h.
          let parts = both (eqb d.place call.object) (has_among os d.kind call.operation) h in
          let at = found_at 0 name os d is in
          let place : d.place - 0 ≡ call.object = omega (arith, eqb-true d.place call.object parts.0) in
          let there : slice_get os call.object ≡ Some at.0 = ap (slice_get os) (sym place) ∙ at.2 in
          rw there (rw at.3 parts.1)
    ] refl e

-- an object that has an operation among some has it among more
has_more : (os : List ObjectLine) (o : ObjectLine) (kind : ObjectKind) (operation : Operation) → has_among os kind operation ≡ true → has_among (os ++ o ∷ []) kind operation ≡ true
has_more os o (kinds.Cond m) (operations.Composed (WaitFor a v n)) h = there os a h
  where
    there : (os : List ObjectLine) (place : ℕ) → option_map_or (λ object. may_hold v object.kind) (slice_get os place) false ≡ true → option_map_or (λ object. may_hold v object.kind) (slice_get (os ++ o ∷ []) place) false ≡ true
    there [] place h = absurd cc
    there (p ∷ os) zero h = h
    there (p ∷ os) (suc place) h = there os place h
has_more os o kind operation h = h

-- and stays on its object
on_more : (all os : List ObjectLine) (o : ObjectLine) (k : ℕ) (call : Call) → is_on all (slice_get os k) call ≡ true → is_on (all ++ o ∷ []) (slice_get (os ++ o ∷ []) k) call ≡ true
on_more all [] o k call e = absurd cc
on_more all (p ∷ os) o zero call e = has_more all o p.kind call.operation e
on_more all (p ∷ os) o (suc k) call e = on_more all os o k call e

-- the parts of a plan that is valid
pub record IsValid (plan : Plan) : Type 0 where
  pub scripts : length plan.scripts ≡ plan.workers
  pub calls : list_all (list_all (λ call. is_on plan.objects (slice_get plan.objects call.object) call)) plan.scripts ≡ true
  pub turns : list_all (is_turn plan.workers) plan.schedule ≡ true
  pub references : list_all (λ object. refers plan.objects object.kind) plan.objects ≡ true
  pub dormant : length plan.dormant ≡ plan.workers
  pub starts : list_all (list_all (λ call. starts_dormant plan.dormant call.operation)) plan.scripts ≡ true

pub valid_parts : (plan : Plan) → is_valid plan ≡ true → IsValid plan
valid_parts plan e =
    let calls = list_all (list_all (λ call. is_on plan.objects (slice_get plan.objects call.object) call)) plan.scripts in
    let turns = list_all (is_turn plan.workers) plan.schedule in
    let references = list_all (λ object. refers plan.objects object.kind) plan.objects in
    let dormant = eqb (length plan.dormant) plan.workers in
    let starts = list_all (list_all (λ call. starts_dormant plan.dormant call.operation)) plan.scripts in
    let first = both (eqb (length plan.scripts) plan.workers) (calls && (turns && (references && (dormant && starts)))) e in
    let second = both calls (turns && (references && (dormant && starts))) first.1 in
    let third = both turns (references && (dormant && starts)) second.1 in
    let fourth = both references (dormant && starts) third.1 in
    let fifth = both dormant starts fourth.1 in
    record { scripts = eqb-true (length plan.scripts) plan.workers first.0; calls = second.0; turns = third.0; references = fourth.0; dormant = eqb-true (length plan.dormant) plan.workers fifth.0; starts = fifth.1 }

pub valid_from : (plan : Plan) → IsValid plan → is_valid plan ≡ true
valid_from plan v =
    pair (eqb (length plan.scripts) plan.workers) _ (eq-eqb (length plan.scripts) plan.workers v.scripts)
    (pair (list_all (list_all (λ call. is_on plan.objects (slice_get plan.objects call.object) call)) plan.scripts) _ v.calls
    (pair (list_all (is_turn plan.workers) plan.schedule) _ v.turns
    (pair (list_all (λ object. refers plan.objects object.kind) plan.objects) _ v.references
    (pair (eqb (length plan.dormant) plan.workers) _ (eq-eqb (length plan.dormant) plan.workers v.dormant) v.starts))))

no_name : (q name : List ℕ) (os : List ObjectLine) → is_some (declared_from 0 name os) ≡ false → bytes_eq q name ≡ true → declared_from 0 q os ≡ None
no_name q name os new same =
    rw ((bytes_eq-Decides q name).0 same)
    (elim (declared_from 0 name os) as (λ o. is_some o ≡ false → o ≡ None) [ None ↦ λ e. refl | Some d ↦ λ e. absurd cc ] new)

-- the table with one more name
pub names_more : (table : FinMap (slice_cmp nat_cmp) Declared) (os : List ObjectLine) (o : ObjectLine) → is_some (declared_from 0 o.name os) ≡ false
    → ((q : List ℕ) → get table q ≡ declared_from 0 q os)
    → (q : List ℕ) → get (insert table o.name (record { place = length os; kind = o.kind })) q ≡ declared_from 0 q (os ++ o ∷ [])
names_more table os o new table-is q =
    get-insert nat_list_cmp_total table o.name (record { place = length os; kind = o.kind }) q
    ∙ ap (λ (b : Bool). cond b (Some (record { place = length os; kind = o.kind })) (get table q)) (is_eq-slice_cmp q o.name)
    ∙ (elim (bytes_eq q o.name) as (λ b. bytes_eq q o.name ≡ b → cond b (Some (record { place = length os; kind = o.kind })) (get table q) ≡ option_or (declared_from 0 q os) (cond b (Some (record { place = 0 + length os; kind = o.kind })) None)) [
      | true ↦ λ same. rw (no_name q o.name os new same) (ap (λ (n : ℕ). Some (record { place = n; kind = o.kind })) (omega arith))
      | false ↦ λ other. table-is q ∙ sym (or_none (declared_from 0 q os))
    ] refl)
    ∙ sym (declared_more 0 q os o)

-- one more object may be declared behind the others
pub declare_more : (os others : List ObjectLine) (o : ObjectLine) → may_declare others os ≡ true → may_join (others ++ os) o ≡ true → may_declare others (os ++ o ∷ []) ≡ true
declare_more [] others o h here = pair (may_join others o) true (subst (λ (x : List ObjectLine). may_join x o ≡ true) (append-nil others) here) refl
declare_more (p ∷ os) others o h here =
    let parts = both (may_join others p) (may_declare (others ++ p ∷ []) os) h in
    pair (may_join others p) (may_declare (others ++ p ∷ []) (os ++ o ∷ [])) parts.0
    (declare_more os (others ++ p ∷ []) o parts.1 (subst (λ (x : List ObjectLine). may_join x o ≡ true) (sym (append_assoc others (p ∷ []) os)) here))

-- an object whose line may follow may be declared
pub object_joins : (d : Draft) (o : ObjectLine) (to : Option (List ℕ)) → may_follow d (lines.Object o to) ≡ true → may_join d.plan.objects o ≡ true
object_joins d o to follows =
    let h = object_follows d o to follows in
    rw (h.name, h.new, names_refers d o.kind to h.reference, h.kind, h.room) refl

-- one more object keeps the tables
pub indexed_object : (plan : Plan) (worker : Option ℕ) (table : FinMap (slice_cmp nat_cmp) Declared) (seen : FinMap (slice_cmp nat_cmp) (Unit {0})) (begun : List Bool) (number many tried read : ℕ) (o : ObjectLine) (to : Option (List ℕ))
    → IsIndexed plan worker table seen begun number many tried read → may_follow (record { plan = plan; current = worker }) (lines.Object o to) ≡ true
    → IsIndexed (record plan { objects = plan.objects ++ o ∷ [] }) worker (insert table o.name (record { place = length plan.objects; kind = o.kind })) seen begun number many tried read
indexed_object plan worker table seen begun number many tried read o to h follows =
    let r = h.readable in
    let v = valid_parts plan r.valid in
    let d : Draft = record { plan = plan; current = worker } in
    let parts = object_follows d o to follows in
    let all = λ (x : ObjectLine). refers (plan.objects ++ o ∷ []) x.kind in
    record {
      readable = record {
        valid = valid_from (record plan { objects = plan.objects ++ o ∷ [] }) (record {
          scripts = v.scripts;
          calls = all_mono (list_all (λ call. is_on plan.objects (slice_get plan.objects call.object) call)) (list_all (λ call. is_on (plan.objects ++ o ∷ []) (slice_get (plan.objects ++ o ∷ []) call.object) call))
              (λ script. all_mono _ _ (λ call. on_more plan.objects plan.objects o call.object call) script) plan.scripts v.calls;
          turns = v.turns;
          references = all_append all plan.objects (o ∷ [])
              (all_mono (λ x. refers plan.objects x.kind) all (λ x. refers_more plan.objects o x.kind) plan.objects v.references)
              (pair (all o) true (refers_more plan.objects o o.kind (names_refers d o.kind to parts.reference)) refl);
          dormant = v.dormant;
          starts = v.starts;
        });
        some_workers = r.some_workers;
        few_workers = r.few_workers;
        objects = declare_more plan.objects [] o r.objects (object_joins d o to follows);
        calls = r.calls;
        call_room = r.call_room;
        key_room = r.key_room;
        range_room = r.range_room;
        try_room = r.try_room;
        access_room = r.access_room;
        starts = r.starts;
        items = r.items;
        turn_room = r.turn_room;
      };
      current = h.current;
      names = names_more table plan.objects o parts.new h.names;
      keys = h.keys;
      workers = h.workers;
      starts = h.starts;
      calls = h.calls;
      ranges = h.ranges;
      tries = h.tries;
      variables = h.variables;
    }

-- one more worker that waits to be started keeps the tables
pub indexed_dormant : (plan : Plan) (worker : Option ℕ) (table : FinMap (slice_cmp nat_cmp) Declared) (seen : FinMap (slice_cmp nat_cmp) (Unit {0})) (begun : List Bool) (number many tried read : ℕ) (started : ℕ)
    → IsIndexed plan worker table seen begun number many tried read
    → IsIndexed (record plan { dormant = set plan.dormant started true }) worker table seen begun number many tried read
indexed_dormant plan worker table seen begun number many tried read started h =
    let r = h.readable in
    let v = valid_parts plan r.valid in
    record {
      readable = record {
        valid = valid_from (record plan { dormant = set plan.dormant started true }) (record {
          scripts = v.scripts;
          calls = v.calls;
          turns = v.turns;
          references = v.references;
          dormant = length-set plan.dormant started true ∙ v.dormant;
          starts = all_wait plan.dormant started plan.scripts v.starts;
        });
        some_workers = r.some_workers;
        few_workers = r.few_workers;
        objects = r.objects;
        calls = r.calls;
        call_room = r.call_room;
        key_room = r.key_room;
        range_room = r.range_room;
        try_room = r.try_room;
        access_room = r.access_room;
        starts = r.starts;
        items = r.items;
        turn_room = r.turn_room;
      };
      current = h.current;
      names = h.names;
      keys = h.keys;
      workers = h.workers;
      starts = h.starts;
      calls = h.calls;
      ranges = h.ranges;
      tries = h.tries;
      variables = h.variables;
    }

item_is_turn : (workers : ℕ) (turn : Turn) → is_item workers turn ≡ true → is_turn workers turn ≡ true
item_is_turn workers (turns.Worker worker) e = e
item_is_turn workers (turns.Moment moment) e = refl

-- more turns keep the tables
pub indexed_turns : (plan : Plan) (worker : Option ℕ) (table : FinMap (slice_cmp nat_cmp) Declared) (seen : FinMap (slice_cmp nat_cmp) (Unit {0})) (begun : List Bool) (number many tried read : ℕ) (more : List Turn)
    → IsIndexed plan worker table seen begun number many tried read → may_follow (record { plan = plan; current = worker }) (lines.Schedule more) ≡ true
    → IsIndexed (record plan { schedule = plan.schedule ++ more }) worker table seen begun number many tried read
indexed_turns plan worker table seen begun number many tried read more h follows =
    let r = h.readable in
    let v = valid_parts plan r.valid in
    let items = (schedule_follows (record { plan = plan; current = worker }) more follows).items in
    record {
      readable = record {
        valid = valid_from (record plan { schedule = plan.schedule ++ more }) (record {
          scripts = v.scripts;
          calls = v.calls;
          turns = all_append (is_turn plan.workers) plan.schedule more v.turns (all_mono (is_item plan.workers) (is_turn plan.workers) (item_is_turn plan.workers) more items);
          references = v.references;
          dormant = v.dormant;
          starts = v.starts;
        });
        some_workers = r.some_workers;
        few_workers = r.few_workers;
        objects = r.objects;
        calls = r.calls;
        call_room = r.call_room;
        key_room = r.key_room;
        range_room = r.range_room;
        try_room = r.try_room;
        access_room = r.access_room;
        starts = r.starts;
        items = all_append (is_item plan.workers) plan.schedule more r.items items;
        turn_room = omega (arith, length-append plan.schedule more, leb-true (length plan.schedule + length more) MAX_TURNS (schedule_follows (record { plan = plan; current = worker }) more follows).room);
      };
      current = h.current;
      names = h.names;
      keys = h.keys;
      workers = h.workers;
      starts = h.starts;
      calls = h.calls;
      ranges = h.ranges;
      tries = h.tries;
      variables = h.variables;
    }

-- one more call keeps the tables
pub indexed_call : (plan : Plan) (worker : ℕ) (table : FinMap (slice_cmp nat_cmp) Declared) (seen : FinMap (slice_cmp nat_cmp) (Unit {0})) (begun : List Bool) (number many tried read : ℕ) (name : List ℕ) (second : Option (List ℕ)) (call : Call)
    → IsIndexed plan (Some worker) table seen begun number many tried read → may_follow (record { plan = plan; current = Some worker }) (lines.Call name second call) ≡ true
    → IsIndexed (record plan { scripts = set plan.scripts worker (get_or plan.scripts worker [] ++ call ∷ []) }) (Some worker) table (with_keys seen (keys_of call)) (marked begun (started_by call.operation)) (number + 1) (many + count_by is_range (call ∷ [])) (tried + tries_of call.operation) (read + count_by is_access (call ∷ []))
indexed_call plan worker table seen begun number many tried read name second call h follows =
    let r = h.readable in
    let v = valid_parts plan r.valid in
    let d : Draft = record { plan = plan; current = Some worker } in
    let parts = call_follows d name second call follows in
    let on : is_on plan.objects (slice_get plan.objects call.object) call ≡ true = names_is_on name plan.objects call parts.on in
    let here : worker < length plan.scripts = omega (arith, ltb-true worker plan.workers h.current, v.scripts) in
    let script = get_or plan.scripts worker [] in
    let test : Call → Bool = λ c. is_on plan.objects (slice_get plan.objects c.object) c in
    let waits : Call → Bool = λ c. starts_dormant plan.dormant c.operation in
    let grown : call_count (set plan.scripts worker (script ++ call ∷ [])) ≡ call_count plan.scripts + 1 = omega (arith, sum_by-set length plan.scripts worker (script ++ call ∷ []) [] here, length-append script (call ∷ [])) in
    let ranges : List Call → ℕ = λ calls. count_by is_range calls in
    let more : range_count (set plan.scripts worker (script ++ call ∷ [])) ≡ range_count plan.scripts + count_by is_range (call ∷ []) =
    omega (arith, sum_by-set ranges plan.scripts worker (script ++ call ∷ []) [] here, sum_by-append (λ (c : Call). cond (is_range c) 1 0) script (call ∷ [])) in
    let tries : Call → ℕ = λ c. tries_of c.operation in
    let longer : try_count (set plan.scripts worker (script ++ call ∷ [])) ≡ try_count plan.scripts + tries_of call.operation =
    omega (arith, sum_by-set (sum_by tries) plan.scripts worker (script ++ call ∷ []) [] here, sum_by-append tries script (call ∷ [])) in
    let accesses : List Call → ℕ = λ calls. count_by is_access calls in
    let further : access_count (set plan.scripts worker (script ++ call ∷ [])) ≡ access_count plan.scripts + count_by is_access (call ∷ []) =
    omega (arith, sum_by-set accesses plan.scripts worker (script ++ call ∷ []) [] here, sum_by-append (λ (c : Call). cond (is_access c) 1 0) script (call ∷ [])) in
    record {
      readable = record {
        valid = valid_from (record plan { scripts = set plan.scripts worker (script ++ call ∷ []) }) (record {
          scripts = length-set plan.scripts worker (script ++ call ∷ []) ∙ v.scripts;
          calls = all_set (list_all test) plan.scripts worker (script ++ call ∷ []) (all_append test script (call ∷ []) (all_at test plan.scripts worker v.calls) (pair (test call) true on refl)) v.calls;
          turns = v.turns;
          references = v.references;
          dormant = v.dormant;
          starts = all_set (list_all waits) plan.scripts worker (script ++ call ∷ []) (all_append waits script (call ∷ []) (all_at waits plan.scripts worker v.starts) (pair (waits call) true (may_waits d call.operation parts.start) refl)) v.starts;
        });
        some_workers = r.some_workers;
        few_workers = r.few_workers;
        objects = r.objects;
        calls = all_set (list_all is_call) plan.scripts worker (script ++ call ∷ []) (all_append is_call script (call ∷ []) (all_at is_call plan.scripts worker r.calls) (pair (is_call call) true parts.call refl)) r.calls;
        call_room = omega (arith, grown, ltb-true (call_count plan.scripts) MAX_CALLS parts.room);
        key_room = omega (
          arith,
          distinct_same (all_keys (set plan.scripts worker (script ++ call ∷ []))) (keys_of call ++ all_keys plan.scripts) (λ q. keys_more (bytes_eq q) plan.scripts worker call here ∙ sym (list_any-append (bytes_eq q) (keys_of call) (all_keys plan.scripts))),
          leb-true (key_count plan.scripts (keys_of call)) MAX_KEYS parts.keys,
        );
        range_room = omega (arith, more, leb-true (range_count plan.scripts + count_by is_range (call ∷ [])) MAX_RANGES parts.ranges);
        try_room = omega (arith, longer, leb-true (try_count plan.scripts + tries_of call.operation) MAX_ALL_TRIES parts.tries);
        access_room = omega (arith, further, leb-true (access_count plan.scripts + count_by is_access (call ∷ [])) MAX_ACCESSES parts.accesses);
        starts = λ other. starts_few d call worker other here parts.start (r.starts other);
        items = r.items;
        turn_room = r.turn_room;
      };
      current = h.current;
      names = h.names;
      keys = keys_with_call seen plan.scripts worker call here h.keys;
      workers = marked_length begun (started_by call.operation) ∙ h.workers;
      starts = λ other. marks_more d begun call worker other here h.workers parts.start (h.starts other);
      calls = omega (arith, h.calls, grown);
      ranges = omega (arith, h.ranges, more);
      tries = omega (arith, h.tries, longer);
      variables = omega (arith, h.variables, further);
    }

all_empty : {X : Type 0} (p : X → Bool) (n : ℕ) → list_all (list_all p) (replicate n []) ≡ true
all_empty p zero = refl
all_empty p (suc n) = all_empty p n

no_keys : (n : ℕ) → all_keys (replicate n []) ≡ []
no_keys zero = refl
no_keys (suc n) = no_keys n

no_ranges : (n : ℕ) → range_count (replicate n []) ≡ 0
no_ranges zero = refl
no_ranges (suc n) = no_ranges n

no_tries : (n : ℕ) → try_count (replicate n []) ≡ 0
no_tries zero = refl
no_tries (suc n) = no_tries n

no_accesses : (n : ℕ) → access_count (replicate n []) ≡ 0
no_accesses zero = refl
no_accesses (suc n) = no_accesses n

no_calls : (n : ℕ) → call_count (replicate n []) ≡ 0
no_calls zero = refl
no_calls (suc n) = no_calls n

-- the tables of a draft without lines
pub indexed_start : (workers : ℕ) → 0 < workers → workers ≤ MAX_WORKERS → IsIndexed (record { workers = workers; objects = []; dormant = replicate workers false; scripts = replicate workers []; schedule = [] }) None empty empty (replicate workers false) 0 0 0 0
indexed_start workers some few = record {
  readable = record {
    valid = valid_from (record { workers = workers; objects = []; dormant = replicate workers false; scripts = replicate workers []; schedule = [] }) (record {
      scripts = length-replicate workers [];
      calls = all_empty (λ call. is_on [] (slice_get [] call.object) call) workers;
      turns = refl;
      references = refl;
      dormant = length-replicate workers false;
      starts = all_empty (λ call. starts_dormant (replicate workers false) call.operation) workers;
    });
    some_workers = some;
    few_workers = few;
    objects = refl;
    calls = all_empty is_call workers;
    call_room = omega (arith, no_calls workers);
    key_room = omega (arith, ap distinct_count (no_keys workers));
    range_room = omega (arith, no_ranges workers);
    try_room = omega (arith, no_tries workers);
    access_room = omega (arith, no_accesses workers);
    starts = λ worker. omega (arith, no_starts worker workers);
    items = refl;
    turn_room = omega arith;
  };
  current = refl;
  names = λ name. get-empty (slice_cmp nat_cmp) name;
  keys = ap (λ (ks : List (List ℕ)). from_entries {R = slice_cmp nat_cmp} (marks ks)) (sym (no_keys workers));
  workers = length-replicate workers false;
  starts = λ worker. no_marks workers worker ∙ ap (λ (n : ℕ). nat_lt 0 n) (sym (no_starts worker workers));
  calls = sym (no_calls workers);
  ranges = sym (no_ranges workers);
  tries = sym (no_tries workers);
  variables = sym (no_accesses workers);
}
