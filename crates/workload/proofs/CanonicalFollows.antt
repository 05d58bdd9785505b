-- The canonical lines of a readable workload follow one another.
use Rattle.std.proofs.Common.{◌≡◌, ℕ, zero, suc, ◌+◌, ◌*◌, ◌≤◌, max, Bool, true, false, cond, eqb, ◌&&◌, ◌||◌, not, List, [], ◌∷◌, ◌++◌, map, length, get_or, set, take, drop, replicate, Option, Some, None, refl, sym, ap, subst, ◌∙◌, append_assoc, arith}
use Rattle.std.specs.Prelude.{nat_lt, nat_le, is_some, slice_get, count_by, sum_by}
use Rattle.std.specs.List.{list_all, list_any, flat_map, onto_first}
use Rattle.std.proofs.Math.Seq.{set-append_seam, get_or-append_seam}
use Rattle.std.proofs.lemmas.Grind.{flat_map-append}
use Rattle.std.proofs.lemmas.List.Sums.{sum_by-append}
use Rattle.std.specs.Str.{bytes_eq}
use Rattle.std.specs.Option.{option_map, option_map_or}
use Rattle.std.proofs.lemmas.Bool.{eq-eqb, lt-ltb, le-leb, ltb-true}
use Rattle.std.proofs.lemmas.List.{append-nil, length-append, length-map, length-take, length-drop, take-append-drop}
use Rattle.std.proofs.lemmas.List.Folds.{list_any-append, list_all-append}
use Rattle.std.proofs.lemmas.Slice.Eq.{bytes_eq-Decides}
use Rattle.sync_types.specs.Name.{is_name}
use Rattle.script_calls.specs.declared.call.Call.{Call}
use Rattle.script_calls.specs.declared.call.ComposedCall.TheVariants.{WaitFor, Go}
use Rattle.script_calls.specs.declared.call.Operation.{Operation}
use Rattle.script_calls.specs.declared.call.Operation.TheVariants as operations
use Rattle.script_calls.specs.Starts.{started_by, starts, start_count}
use Rattle.sync_types.specs.declared.atomic_object.AtomicKind.TheVariants as types
use Rattle.workload.specs.declared.limits.TheConstants.{MAX_ACCESSES, MAX_ALL_TRIES, MAX_CALLS, MAX_KEYS, MAX_RANGES, MAX_TURNS}
use Rattle.workload.specs.declared.object.Declared.{Declared}
use Rattle.workload.specs.declared.object.ObjectKind.{ObjectKind}
use Rattle.workload.specs.declared.object.ObjectKind.TheVariants as kinds
use Rattle.workload.specs.declared.object.ObjectWord.{ObjectWord}
use Rattle.workload.specs.declared.object.ObjectWord.TheVariants as words
use Rattle.workload.specs.declared.object.ObjectLine.{ObjectLine}
use Rattle.workload.specs.declared.line.Line.TheVariants as lines
use Rattle.workload.specs.declared.turn.Turn.{Turn}
use Rattle.workload.specs.Plan.{Plan, word_of, reference_of, is_target, refers, has_call, has_among, is_on, starts_dormant}
use Rattle.workload.specs.Draft.{Draft, started, may_start, may_follow, declared_from, count_of, count_together, limit_of, is_kind, names_reference, names_object, is_call, is_item, keys_of, all_keys, distinct_count, key_count, call_count, is_range, range_count, tries_of, try_count, is_access, access_count, names_second}
use Rattle.workload.specs.Canonical.{name_of, reference_name, second_name, object_line, call_line, dormant_lines, script_lines, eights, canonical_lines}
use Rattle.workload.specs.Readable.{may_join, may_declare, IsReadable}
use Rattle.workload.proofs.Passing.{both, pair, not_true}
use Rattle.workload.proofs.KeyLemmas.{distinct_more, distinct_same}
use Rattle.workload.proofs.DraftLemmas.{valid_parts, declare_more}
use Rattle.workload.proofs.Started.{may_begin, start_from, dormant_inside, no_starts}
use Rattle.workload.proofs.Awaits.{held, alone_second}
use Rattle.workload.proofs.Eights.{eights_first}
use Rattle.workload.proofs.FollowOn.{FollowOn, follow_append, follow_to}

-- ---- objects

-- what an object needs that may be declared
pub record Joins (others : List ObjectLine) (o : ObjectLine) : Type 0 where
  pub name : is_name o.name ≡ true
  pub new : is_some (declared_from 0 o.name others) ≡ false
  pub reference : refers others o.kind ≡ true
  pub kind : is_kind o.kind ≡ true
  pub room : nat_lt (count_of (word_of o.kind) others) (limit_of (word_of o.kind)) ≡ true

pub joins : (others : List ObjectLine) (o : ObjectLine) → may_join others o ≡ true → Joins others o
joins others o e =
    let room = nat_lt (count_of (word_of o.kind) others) (limit_of (word_of o.kind)) in
    let new = not (is_some (declared_from 0 o.name others)) in
    let reference = refers others o.kind in
    let p1 = both (is_name o.name) (new && (reference && (is_kind o.kind && room))) e in
    let p2 = both new (reference && (is_kind o.kind && room)) p1.1 in
    let p3 = both reference (is_kind o.kind && room) p2.1 in
    let p4 = both (is_kind o.kind) room p3.1 in
    record { name = p1.0; new = not_true (is_some (declared_from 0 o.name others)) p2.0; reference = p3.0; kind = p4.0; room = p4.1 }

-- how many objects count with a word: those of one more object too
counts_more : (w : ObjectWord) (others : List ObjectLine) (o : ObjectLine) → count_of w (others ++ o ∷ []) ≡ count_of w others + cond (count_together w (word_of o.kind)) 1 0
counts_more w others o = omega (arith, sum_by-append (λ (x : ObjectLine). cond (count_together w (word_of x.kind)) 1 0) others (o ∷ []))

-- words that count together have one limit, and one count
same_limit : (v w : ObjectWord) (os : List ObjectLine) → count_together v w ≡ true → (count_of v os ≡ count_of w os) × (limit_of v ≡ limit_of w)
same_limit words.Map words.Map os e = (refl, refl)
same_limit (words.Atomic k) (words.Atomic l) os e = (refl, refl)
same_limit words.Mutex words.Mutex os e = (refl, refl)
same_limit words.RwMutex words.RwMutex os e = (refl, refl)
same_limit words.Cond words.Cond os e = (refl, refl)
same_limit words.WaitGroup words.WaitGroup os e = (refl, refl)
same_limit words.Once words.Once os e = (refl, refl)
same_limit words.OnceFunc words.OnceFunc os e = (refl, refl)
same_limit words.OnceValue words.OnceValue os e = (refl, refl)
same_limit words.Pool words.Pool os e = (refl, refl)
same_limit words.Sema words.Sema os e = (refl, refl)
same_limit words.Flight words.Flight os e = (refl, refl)
same_limit words.Var words.Var os e = (refl, refl)
same_limit v w os e = absurd cc

counts_one : (b : Bool) → b ≡ true → ◌≡◌ {A = ℕ} (cond b 1 0) 1
counts_one true e = refl
counts_one false e = absurd cc

counts_none : (b : Bool) → b ≡ false → ◌≡◌ {A = ℕ} (cond b 1 0) 0
counts_none true e = absurd cc
counts_none false e = refl

-- one more object within its limit keeps each word within its own
limit_kept : (w : ObjectWord) (others : List ObjectLine) (o : ObjectLine) → nat_lt (count_of (word_of o.kind) others) (limit_of (word_of o.kind)) ≡ true → count_of w others ≤ limit_of w → count_of w (others ++ o ∷ []) ≤ limit_of w
limit_kept w others o room within =
    let word = word_of o.kind in
    elim (count_together w word) as (λ b. count_together w word ≡ b → count_of w (others ++ o ∷ []) ≤ limit_of w) [
      | true ↦ λ t.
          let same = same_limit w word others t in
          let one : ◌≡◌ {A = ℕ} (cond (count_together w word) 1 0) 1 = counts_one (count_together w word) t in
          omega (arith, counts_more w others o, one, same.0, same.1, ltb-true (count_of word others) (limit_of word) room)
      | false ↦ λ f.
          let none : ◌≡◌ {A = ℕ} (cond (count_together w word) 1 0) 0 = counts_none (count_together w word) f in
          omega (arith, counts_more w others o, none, within)
    ] refl

-- objects of each word keep their limit
limits_kept : (w : ObjectWord) (os others : List ObjectLine) → count_of w others ≤ limit_of w → may_declare others os ≡ true → count_of w (others ++ os) ≤ limit_of w
limits_kept w [] others within h = subst (λ (x : List ObjectLine). count_of w x ≤ limit_of w) (sym (append-nil others)) within
limits_kept w (o ∷ os) others within h =
    let parts = both (may_join others o) (may_declare (others ++ o ∷ []) os) h in
    let fits = (joins others o parts.0).room in
    subst (λ (x : List ObjectLine). count_of w x ≤ limit_of w) (append_assoc others (o ∷ []) os) (limits_kept w os (others ++ o ∷ []) (limit_kept w others o fits within) parts.1)

-- the counts of all words together, of which that of one atomic type stands for all
abbrev counts : List ObjectLine → ℕ
counts os =
    count_of words.Map os + (count_of (words.Atomic types.Bool) os + (count_of words.Mutex os + (count_of words.RwMutex os + (count_of words.Cond os
    + (count_of words.WaitGroup os + (count_of words.Once os + (count_of words.OnceFunc os + (count_of words.OnceValue os + (count_of words.Pool os + (count_of words.Sema os + (count_of words.Flight os + count_of words.Var os)))))))))))

abbrev one_if : ObjectWord → ObjectWord → ℕ
one_if v w = cond (count_together v w) 1 0

one_word : (w : ObjectWord)
    → one_if words.Map w + (one_if (words.Atomic types.Bool) w + (one_if words.Mutex w + (one_if words.RwMutex w + (one_if words.Cond w
    + (one_if words.WaitGroup w + (one_if words.Once w + (one_if words.OnceFunc w + (one_if words.OnceValue w + (one_if words.Pool w + (one_if words.Sema w + (one_if words.Flight w + one_if words.Var w))))))))))) ≡ 1
one_word words.Map = refl
one_word (words.Atomic k) = refl
one_word words.Mutex = refl
one_word words.RwMutex = refl
one_word words.Cond = refl
one_word words.WaitGroup = refl
one_word words.Once = refl
one_word words.OnceFunc = refl
one_word words.OnceValue = refl
one_word words.Pool = refl
one_word words.Sema = refl
one_word words.Flight = refl
one_word words.Var = refl

-- each object counts with one word
words_counted : (os : List ObjectLine) → length os ≡ counts os
words_counted [] = refl
words_counted (o ∷ os) =
    let with_one = λ (w : ObjectWord). sum_by-append (λ (x : ObjectLine). cond (count_together w (word_of x.kind)) 1 0) (o ∷ []) os in
    omega (
      arith,
      with_one words.Map,
      with_one (words.Atomic types.Bool),
      with_one words.Mutex,
      with_one words.RwMutex,
      with_one words.Cond,
      with_one words.WaitGroup,
      with_one words.Once,
      with_one words.OnceFunc,
      with_one words.OnceValue,
      with_one words.Pool,
      with_one words.Sema,
      with_one words.Flight,
      with_one words.Var,
      one_word (word_of o.kind),
      words_counted os,
    )

-- there are at most 16 maps, 64 atomics, and 32 objects of each other word
pub few_objects : (os : List ObjectLine) → may_declare [] os ≡ true → length os ≤ 432
few_objects os h =
    let few = λ (w : ObjectWord). limits_kept w os [] (omega arith) h in
    omega (
      arith,
      words_counted os,
      few words.Map,
      few (words.Atomic types.Bool),
      few words.Mutex,
      few words.RwMutex,
      few words.Cond,
      few words.WaitGroup,
      few words.Once,
      few words.OnceFunc,
      few words.OnceValue,
      few words.Pool,
      few words.Sema,
      few words.Flight,
      few words.Var,
    )

-- ---- names

declared_append : (i : ℕ) (q : List ℕ) (xs ys : List ObjectLine) → declared_from i q xs ≡ None → declared_from i q (xs ++ ys) ≡ declared_from (i + length xs) q ys
declared_append i q [] ys h = ap (λ (n : ℕ). declared_from n q ys) (omega arith)
declared_append i q (x ∷ xs) ys h =
    elim (bytes_eq q x.name) as (λ b. cond b (Some (record { place = i; kind = x.kind })) (declared_from (i + 1) q xs) ≡ None → cond b (Some (record { place = i; kind = x.kind })) (declared_from (i + 1) q (xs ++ ys)) ≡ declared_from (i + length (x ∷ xs)) q ys) [
      | true ↦ λ e. absurd cc
      | false ↦ λ e. declared_append (i + 1) q xs ys e ∙ ap (λ (n : ℕ). declared_from n q ys) (omega arith)
    ] h

none_is : (o : Option Declared) → is_some o ≡ false → o ≡ None
none_is None e = refl
none_is (Some d) e = absurd cc

same_object : (p o : ObjectLine) → Some p ≡ Some o → p ≡ o
same_object p o e = cc

-- the object at a place, where all names are new, is the one that its name finds
found_in : (os others : List ObjectLine) (k : ℕ) (o : ObjectLine) → may_declare others os ≡ true → slice_get os k ≡ Some o → (is_name o.name ≡ true) × (declared_from 0 o.name (others ++ os) ≡ Some (record { place = length others + k; kind = o.kind }))
found_in [] others k o h g = absurd cc
found_in (p ∷ os) others zero o h g =
    let one = joins others p (both (may_join others p) (may_declare (others ++ p ∷ []) os) h).0 in
    let absent = none_is (declared_from 0 p.name others) one.new in
    let here : declared_from 0 p.name (others ++ p ∷ os) ≡ Some (record { place = length others + 0; kind = p.kind }) =
    declared_append 0 p.name others (p ∷ os) absent
    ∙ ap (λ (b : Bool). cond b (Some (record { place = 0 + length others; kind = p.kind })) (declared_from (0 + length others + 1) p.name os)) ((bytes_eq-Decides p.name p.name).1 refl)
    ∙ ap (λ (n : ℕ). Some (record { place = n; kind = p.kind })) (omega arith) in
    subst (λ (x : ObjectLine). (is_name x.name ≡ true) × (declared_from 0 x.name (others ++ p ∷ os) ≡ Some (record { place = length others + 0; kind = x.kind }))) (same_object p o g) (one.name, here)
found_in (p ∷ os) others (suc k) o h g =
    let rest = found_in os (others ++ p ∷ []) k o (both (may_join others p) (may_declare (others ++ p ∷ []) os) h).1 g in (
      rest.0,
      ap (declared_from 0 o.name) (sym (append_assoc others (p ∷ []) os)) ∙ rest.1
          ∙ ap (λ (n : ℕ). Some (record { place = n; kind = o.kind })) (omega (arith, length-append others (p ∷ []))),
    )

-- ---- the lines of the objects

get_front : (os more : List ObjectLine) (place : ℕ) (o : ObjectLine) → slice_get os place ≡ Some o → slice_get (os ++ more) place ≡ Some o
get_front [] more place o h = absurd cc
get_front (p ∷ os) more zero o h = h
get_front (p ∷ os) more (suc place) o h = get_front os more place o h

-- an object that refers to one of those before it names it, whatever stands behind
reference_named : (d : Draft) (kind : ObjectKind) (more : List ObjectLine) → may_declare [] d.plan.objects ≡ true → refers d.plan.objects kind ≡ true → names_reference d kind (reference_name (d.plan.objects ++ more) kind) ≡ true
reference_named d kind more new h = at (reference_of kind) refl h
  where
    there : (place : ℕ) (o : Option ObjectLine) → reference_of kind ≡ Some place → slice_get d.plan.objects place ≡ o → option_map_or (λ object. is_target kind object.kind) o false ≡ true
        → names_reference d kind (Some (name_of (slice_get (d.plan.objects ++ more) place))) ≡ true
    there place None is at h = absurd cc
    there place (Some target) is at h =
        let found = found_in d.plan.objects [] place target new at in
        let front = get_front d.plan.objects more place target at in
        rw (front, found.0, found.1, is) (pair (eqb (0 + place) place) (is_target kind target.kind) (eq-eqb (0 + place) place (omega arith)) h)

    at : (r : Option ℕ) → reference_of kind ≡ r → option_map_or (λ place. option_map_or (λ object. is_target kind object.kind) (slice_get d.plan.objects place) false) r true ≡ true
        → names_reference d kind (option_map (λ place. name_of (slice_get (d.plan.objects ++ more) place)) r) ≡ true
    at None is h = rw is refl
    at (Some place) is h = there place (slice_get d.plan.objects place) is refl h

pub objects_follow : (all os : List ObjectLine) (d : Draft) → d.plan.objects ++ os ≡ all → may_declare [] d.plan.objects ≡ true → may_declare d.plan.objects os ≡ true
    → FollowOn d (map (object_line all) os) (record d { plan = record d.plan { objects = d.plan.objects ++ os } })
objects_follow all [] d is new h = ap (λ (x : List ObjectLine). record d { plan = record d.plan { objects = x } }) (append-nil d.plan.objects)
objects_follow all (o ∷ os) d is new h =
    let parts = both (may_join d.plan.objects o) (may_declare (d.plan.objects ++ o ∷ []) os) h in
    let next : Draft = record d { plan = record d.plan { objects = d.plan.objects ++ o ∷ [] } } in
    let one = joins d.plan.objects o parts.0 in
    let named : names_reference d o.kind (reference_name all o.kind) ≡ true = subst (λ (x : List ObjectLine). names_reference d o.kind (reference_name x o.kind) ≡ true) is (reference_named d o.kind (o ∷ os) new one.reference) in (
      rw (one.name, one.new, named, one.kind, one.room) refl,
      tt,
      follow_to (map (object_line all) os) next _ _
          (ap (λ (x : List ObjectLine). record d { plan = record d.plan { objects = x } }) (append_assoc d.plan.objects (o ∷ []) os))
          (objects_follow all os next (append_assoc d.plan.objects (o ∷ []) os ∙ is) (declare_more d.plan.objects [] o new parts.0) parts.1),
    )

-- ---- limits

or5 : (r c d f m : Bool) → (r || (c || (d || (f || m)))) ≡ (d || ((f || (c || r)) || m))
or5 true true true true m = refl
or5 true true true false m = refl
or5 true true false true m = refl
or5 true true false false m = refl
or5 true false true true m = refl
or5 true false true false m = refl
or5 true false false true m = refl
or5 true false false false m = refl
or5 false true true true m = refl
or5 false true true false m = refl
or5 false true false true m = refl
or5 false true false false m = refl
or5 false false true true m = refl
or5 false false true false m = refl
or5 false false false true m = refl
or5 false false false false m = refl

module _ (p : List ℕ → Bool) where
  -- the keys of calls in another order
  keys_turned : (r c d f m : List (List ℕ)) → list_any p (r ++ (c ++ (d ++ (f ++ m)))) ≡ list_any p (d ++ ((f ++ (c ++ r)) ++ m))
  keys_turned r c d f m =
      list_any-append p r (c ++ (d ++ (f ++ m)))
      ∙ ap (λ (b : Bool). list_any p r || b) (list_any-append p c (d ++ (f ++ m)) ∙ ap (λ (b : Bool). list_any p c || b) (list_any-append p d (f ++ m) ∙ ap (λ (b : Bool). list_any p d || b) (list_any-append p f m)))
      ∙ or5 (list_any p r) (list_any p c) (list_any p d) (list_any p f) (list_any p m)
      ∙ sym (list_any-append p d ((f ++ (c ++ r)) ++ m)
      ∙ ap (λ (b : Bool). list_any p d || b) (list_any-append p (f ++ (c ++ r)) m
      ∙ ap (λ (b : Bool). b || list_any p m) (list_any-append p f (c ++ r) ∙ ap (λ (b : Bool). list_any p f || b) (list_any-append p c r))))

  or_comm : (a b : Bool) → (a || b) ≡ (b || a)
  or_comm true true = refl
  or_comm true false = refl
  or_comm false true = refl
  or_comm false false = refl

  keys_swapped : (a b : List (List ℕ)) → list_any p (a ++ b) ≡ list_any p (b ++ a)
  keys_swapped a b = list_any-append p a b ∙ or_comm (list_any p a) (list_any p b) ∙ sym (list_any-append p b a)

distinct_front : (a b : List (List ℕ)) → distinct_count a ≤ distinct_count (a ++ b)
distinct_front a b = omega (arith, distinct_same (a ++ b) (b ++ a) (λ q. keys_swapped (bytes_eq q) a b), distinct_more b a)

-- ---- scripts

all_keys-middle : (done : List (List Call)) (script : List Call) (more : List (List Call)) → all_keys (done ++ (script ∷ more)) ≡ all_keys done ++ (flat_map keys_of script ++ all_keys more)
all_keys-middle done script more = flat_map-append (flat_map keys_of) done (script ∷ more)

-- one more call keeps the limit on keys where all calls do
keys_fit : (done : List (List Call)) (front rest : List Call) (c : Call) (more : List (List Call)) → key_count (done ++ (front ∷ more)) (keys_of c) ≤ distinct_count (all_keys (done ++ ((front ++ (c ∷ rest)) ∷ more)))
keys_fit done front rest c more =
    let d = all_keys done in
    let f = flat_map keys_of front in
    let r = flat_map keys_of rest in
    let m = all_keys more in
    let now = ap (λ (ks : List (List ℕ)). distinct_count (keys_of c ++ ks)) (all_keys-middle done front more) in
    let then : distinct_count (all_keys (done ++ ((front ++ (c ∷ rest)) ∷ more))) ≡ distinct_count (d ++ ((f ++ (keys_of c ++ r)) ++ m)) =
    ap distinct_count (all_keys-middle done (front ++ (c ∷ rest)) more ∙ ap (λ (ks : List (List ℕ)). d ++ (ks ++ m)) (flat_map-append keys_of front (c ∷ rest))) in
    omega (arith, now, then, distinct_more r (keys_of c ++ (d ++ (f ++ m))), distinct_same (r ++ (keys_of c ++ (d ++ (f ++ m)))) (d ++ ((f ++ (keys_of c ++ r)) ++ m)) (λ q. keys_turned (bytes_eq q) r (keys_of c) d f m))

calls-middle : (done : List (List Call)) (script : List Call) (more : List (List Call)) → call_count (done ++ (script ∷ more)) ≡ call_count done + (length script + call_count more)
calls-middle done script more = omega (arith, sum_by-append length done (script ∷ more), sum_by-append length (script ∷ []) more)

-- what the calls add up to
sums-middle : (one : Call → ℕ) (done : List (List Call)) (script : List Call) (more : List (List Call)) → sum_by (sum_by one) (done ++ (script ∷ more)) ≡ sum_by (sum_by one) done + (sum_by one script + sum_by (sum_by one) more)
sums-middle one done script more = omega (arith, sum_by-append (sum_by one) done (script ∷ more), sum_by-append (sum_by one) (script ∷ []) more)

-- with one more call it is no more than with all calls
sums_fit : (one : Call → ℕ) (done : List (List Call)) (front rest : List Call) (c : Call) (more : List (List Call)) → sum_by (sum_by one) (done ++ (front ∷ more)) + one c ≤ sum_by (sum_by one) (done ++ ((front ++ (c ∷ rest)) ∷ more))
sums_fit one done front rest c more = omega (arith, sums-middle one done front more, sums-middle one done (front ++ (c ∷ rest)) more, sum_by-append one front (c ∷ rest), sum_by-append one (c ∷ []) rest)

ranges-middle : (done : List (List Call)) (script : List Call) (more : List (List Call)) → range_count (done ++ (script ∷ more)) ≡ range_count done + (count_by is_range script + range_count more)
ranges-middle done script more = sums-middle (λ call. cond (is_range call) 1 0) done script more

-- one more call keeps the limit on `range` calls where all calls do
ranges_fit : (done : List (List Call)) (front rest : List Call) (c : Call) (more : List (List Call)) → range_count (done ++ (front ∷ more)) + count_by is_range (c ∷ []) ≤ range_count (done ++ ((front ++ (c ∷ rest)) ∷ more))
ranges_fit done front rest c more =
    let fit : range_count (done ++ (front ∷ more)) + cond (is_range c) 1 0 ≤ range_count (done ++ ((front ++ (c ∷ rest)) ∷ more)) = sums_fit (λ call. cond (is_range call) 1 0) done front rest c more in
    omega (arith, fit)

tries-middle : (done : List (List Call)) (script : List Call) (more : List (List Call)) → try_count (done ++ (script ∷ more)) ≡ try_count done + (sum_by (λ call. tries_of call.operation) script + try_count more)
tries-middle done script more = sums-middle (λ call. tries_of call.operation) done script more

-- one more call keeps the limit on waits where all calls do
tries_fit : (done : List (List Call)) (front rest : List Call) (c : Call) (more : List (List Call)) → try_count (done ++ (front ∷ more)) + tries_of c.operation ≤ try_count (done ++ ((front ++ (c ∷ rest)) ∷ more))
tries_fit done front rest c more = sums_fit (λ call. tries_of call.operation) done front rest c more

accesses-middle : (done : List (List Call)) (script : List Call) (more : List (List Call)) → access_count (done ++ (script ∷ more)) ≡ access_count done + (count_by is_access script + access_count more)
accesses-middle done script more = sums-middle (λ call. cond (is_access call) 1 0) done script more

-- one more call keeps the limit on reads and writes where all calls do
accesses_fit : (done : List (List Call)) (front rest : List Call) (c : Call) (more : List (List Call)) → access_count (done ++ (front ∷ more)) + count_by is_access (c ∷ []) ≤ access_count (done ++ ((front ++ (c ∷ rest)) ∷ more))
accesses_fit done front rest c more =
    let fit : access_count (done ++ (front ∷ more)) + cond (is_access c) 1 0 ≤ access_count (done ++ ((front ++ (c ∷ rest)) ∷ more)) = sums_fit (λ call. cond (is_access call) 1 0) done front rest c more in
    omega (arith, fit)

starts-middle : (worker : ℕ) (done : List (List Call)) (script : List Call) (more : List (List Call)) → start_count worker (done ++ (script ∷ more)) ≡ start_count worker done + (count_by (starts worker) script + start_count worker more)
starts-middle worker done script more = sums-middle (λ call. cond (starts worker call) 1 0) done script more

-- a worker that waits, and that at most one of all calls starts: none before the next one that starts it did
start_fits : (d : Draft) (by : Option ℕ) (all : ℕ → ℕ) → length d.plan.dormant ≡ d.plan.workers → option_map_or (λ worker. get_or d.plan.dormant worker false) by true ≡ true
    → ((worker : ℕ) → start_count worker d.plan.scripts + cond (option_map_or (λ started. eqb started worker) by false) 1 0 ≤ all worker) → ((worker : ℕ) → all worker ≤ 1) → may_begin d by ≡ true
start_fits d None all long waits fit once = refl
start_fits d (Some worker) all long waits fit once =
    let inside : nat_lt worker d.plan.workers ≡ true = lt-ltb worker d.plan.workers (omega (arith, long, dormant_inside d.plan.dormant worker waits)) in
    let here : start_count worker d.plan.scripts + 1 ≤ all worker = subst (λ (b : Bool). start_count worker d.plan.scripts + cond b 1 0 ≤ all worker) (eq-eqb worker worker refl) (fit worker) in
    start_from d worker (record { inside = inside; waits = waits; new = omega (arith, here, once worker) })

-- a call on an object that is there is named by its name
call_named : (objects : List ObjectLine) (c : Call) → may_declare [] objects ≡ true → is_on objects (slice_get objects c.object) c ≡ true
    → (is_name (name_of (slice_get objects c.object)) ≡ true) × (names_object objects (declared_from 0 (name_of (slice_get objects c.object)) objects) c ≡ true) × (kind : ObjectKind) × (has_among objects kind c.operation ≡ true)
call_named objects c new on =
    elim (slice_get objects c.object) as (λ o. slice_get objects c.object ≡ o → is_on objects o c ≡ true → (is_name (name_of o) ≡ true) × (names_object objects (declared_from 0 (name_of o) objects) c ≡ true) × (kind : ObjectKind) × (has_among objects kind c.operation ≡ true)) [
      | None ↦ λ at h. absurd cc
      | Some o ↦ λ at h.
          let found = found_in objects [] c.object o new at in
          (found.0, rw found.1 (pair (eqb (0 + c.object) c.object) (has_among objects o.kind c.operation) (eq-eqb (0 + c.object) c.object (omega arith)) h), o.kind, h)
    ] refl on

-- and so is the second one
second_named : (d : Draft) (kind : ObjectKind) (o : Operation) → may_declare [] d.plan.objects ≡ true → has_among d.plan.objects kind o ≡ true → names_second d o (second_name d.plan.objects o) ≡ true
second_named d (kinds.Cond m) (operations.Composed (WaitFor a v n)) new on =
    let atomic = held d.plan.objects a v on in
    let found = found_in d.plan.objects [] a atomic.0 new atomic.1 in
    rw (atomic.1, found.0, found.1) (eq-eqb (0 + a) a (omega arith))
second_named d (kinds.WaitGroup n) (operations.Composed (Go w)) new on = refl
second_named d kind o new on = no_name d kind o on
  where
    no_name : (d : Draft) (kind : ObjectKind) (o : Operation) → has_call kind o ≡ true → names_second d o (second_name d.plan.objects o) ≡ true
    no_name d kind o on =
        let none = (alone_second kind o on).0 in
        let name : second_name d.plan.objects o ≡ None = ap (λ (r : Option ℕ). option_map (λ place. name_of (slice_get d.plan.objects place)) r) none in
        subst (λ (x : Option (List ℕ)). names_second d o x ≡ true) (sym name) (rw none refl)

-- a draft by its parts
abbrev at : ℕ → List ObjectLine → List Bool → List Turn → List (List Call) → Option ℕ → Draft
at workers objects dormant schedule scripts worker = record { plan = record { workers = workers; objects = objects; dormant = dormant; scripts = scripts; schedule = schedule }; current = worker }

-- what the calls of a script need
record CallsFit (objects : List ObjectLine) (dormant : List Bool) (done : List (List Call)) (front rest : List Call) (more : List (List Call)) : Type 0 where
  on : list_all (λ call. is_on objects (slice_get objects call.object) call) rest ≡ true
  fits : list_all is_call rest ≡ true
  room : call_count (done ++ ((front ++ rest) ∷ more)) ≤ MAX_CALLS
  keys : distinct_count (all_keys (done ++ ((front ++ rest) ∷ more))) ≤ MAX_KEYS
  ranges : range_count (done ++ ((front ++ rest) ∷ more)) ≤ MAX_RANGES
  tries : try_count (done ++ ((front ++ rest) ∷ more)) ≤ MAX_ALL_TRIES
  accesses : access_count (done ++ ((front ++ rest) ∷ more)) ≤ MAX_ACCESSES
  waits : list_all (λ call. starts_dormant dormant call.operation) rest ≡ true
  once : (worker : ℕ) → start_count worker (done ++ ((front ++ rest) ∷ more)) ≤ 1

calls_follow : (workers : ℕ) (objects : List ObjectLine) (dormant : List Bool) (schedule : List Turn) (done : List (List Call)) (rest front : List Call) (more : List (List Call)) → may_declare [] objects ≡ true → length dormant ≡ workers → CallsFit objects dormant done front rest more
    → FollowOn (at workers objects dormant schedule (done ++ (front ∷ more)) (Some (length done))) (map (call_line objects) rest) (at workers objects dormant schedule (done ++ ((front ++ rest) ∷ more)) (Some (length done)))
calls_follow workers objects dormant schedule done [] front more new long fit = ap (λ (f : List Call). at workers objects dormant schedule (done ++ (f ∷ more)) (Some (length done))) (append-nil front)
calls_follow workers objects dormant schedule done (c ∷ rest) front more new long fit =
    let d = at workers objects dormant schedule (done ++ (front ∷ more)) (Some (length done)) in
    let test : Call → Bool = λ call. is_on objects (slice_get objects call.object) call in
    let on = both (test c) (list_all test rest) fit.on in
    let fits = both (is_call c) (list_all is_call rest) fit.fits in
    let named = call_named objects c new on.0 in
    let room : nat_lt (call_count (done ++ (front ∷ more))) MAX_CALLS ≡ true =
    lt-ltb (call_count (done ++ (front ∷ more))) MAX_CALLS (omega (arith, fit.room, calls-middle done front more, calls-middle done (front ++ (c ∷ rest)) more, length-append front (c ∷ rest))) in
    let keys : nat_le (key_count (done ++ (front ∷ more)) (keys_of c)) MAX_KEYS ≡ true =
    le-leb (key_count (done ++ (front ∷ more)) (keys_of c)) MAX_KEYS (omega (arith, fit.keys, keys_fit done front rest c more)) in
    let ranges : nat_le (range_count (done ++ (front ∷ more)) + count_by is_range (c ∷ [])) MAX_RANGES ≡ true =
    le-leb (range_count (done ++ (front ∷ more)) + count_by is_range (c ∷ [])) MAX_RANGES (omega (arith, fit.ranges, ranges_fit done front rest c more)) in
    let tries : nat_le (try_count (done ++ (front ∷ more)) + tries_of c.operation) MAX_ALL_TRIES ≡ true =
    le-leb (try_count (done ++ (front ∷ more)) + tries_of c.operation) MAX_ALL_TRIES (omega (arith, fit.tries, tries_fit done front rest c more)) in
    let accesses : nat_le (access_count (done ++ (front ∷ more)) + count_by is_access (c ∷ [])) MAX_ACCESSES ≡ true =
    le-leb (access_count (done ++ (front ∷ more)) + count_by is_access (c ∷ [])) MAX_ACCESSES (omega (arith, fit.accesses, accesses_fit done front rest c more)) in
    let second = second_named d named.2 c.operation new named.3 in
    let wait : Call → Bool = λ call. starts_dormant dormant call.operation in
    let waits = both (wait c) (list_all wait rest) fit.waits in
    let start : may_start d c.operation ≡ true =
    start_fits d (started_by c.operation) (λ worker. start_count worker (done ++ ((front ++ (c ∷ rest)) ∷ more))) long waits.0 (λ worker. sums_fit (λ call. cond (starts worker call) 1 0) done front rest c more) fit.once in
    let follows : may_follow d (call_line objects c) ≡ true = rw (named.0, named.1, second, fits.0, start, room, keys, ranges, tries, accesses) refl in
    let moved : front ++ (c ∷ rest) ≡ (front ++ c ∷ []) ++ rest = sym (append_assoc front (c ∷ []) rest) in
    let put : set (done ++ (front ∷ more)) (length done) (get_or (done ++ (front ∷ more)) (length done) [] ++ c ∷ []) ≡ done ++ ((front ++ c ∷ []) ∷ more) =
    ap (λ (f : List Call). set (done ++ (front ∷ more)) (length done) (f ++ c ∷ [])) (get_or-append_seam done front more []) ∙ set-append_seam done front more (front ++ c ∷ []) in
    let next : FollowOn (at workers objects dormant schedule (done ++ ((front ++ c ∷ []) ∷ more)) (Some (length done))) (map (call_line objects) rest) (at workers objects dormant schedule (done ++ (((front ++ c ∷ []) ++ rest) ∷ more)) (Some (length done))) =
    calls_follow workers objects dormant schedule done rest (front ++ c ∷ []) more new long (record {
      on = on.1;
      fits = fits.1;
      room = subst (λ (f : List Call). call_count (done ++ (f ∷ more)) ≤ MAX_CALLS) moved fit.room;
      keys = subst (λ (f : List Call). distinct_count (all_keys (done ++ (f ∷ more))) ≤ MAX_KEYS) moved fit.keys;
      ranges = subst (λ (f : List Call). range_count (done ++ (f ∷ more)) ≤ MAX_RANGES) moved fit.ranges;
      tries = subst (λ (f : List Call). try_count (done ++ (f ∷ more)) ≤ MAX_ALL_TRIES) moved fit.tries;
      accesses = subst (λ (f : List Call). access_count (done ++ (f ∷ more)) ≤ MAX_ACCESSES) moved fit.accesses;
      waits = waits.1;
      once = λ worker. subst (λ (f : List Call). start_count worker (done ++ (f ∷ more)) ≤ 1) moved (fit.once worker);
    }) in (
      follows,
      tt,
      subst (λ (s : List (List Call)). FollowOn (at workers objects dormant schedule s (Some (length done))) (map (call_line objects) rest) (at workers objects dormant schedule (done ++ ((front ++ (c ∷ rest)) ∷ more)) (Some (length done)))) (sym put)
          (follow_to (map (call_line objects) rest) _ _ _ (ap (λ (f : List Call). at workers objects dormant schedule (done ++ (f ∷ more)) (Some (length done))) (sym moved)) next),
    )

-- ---- workers that wait to be started

abbrev wait : ℕ → List ObjectLine → List Bool → Draft
wait workers objects dormant = at workers objects dormant [] (replicate workers []) None

-- one more worker, of which others follow
one_passed : (workers : ℕ) (objects : List ObjectLine) (b : Bool) (rest done more : List Bool) → FollowOn (wait workers objects ((done ++ b ∷ []) ++ more)) (dormant_lines (length (done ++ b ∷ [])) rest) (wait workers objects ((done ++ b ∷ []) ++ rest))
    → FollowOn (wait workers objects (done ++ (b ∷ more))) (dormant_lines (length done + 1) rest) (wait workers objects (done ++ (b ∷ rest)))
one_passed workers objects b rest done more h =
    let moved : (xs : List Bool) → wait workers objects ((done ++ b ∷ []) ++ xs) ≡ wait workers objects (done ++ (b ∷ xs)) = λ xs. ap (wait workers objects) (append_assoc done (b ∷ []) xs) in
    subst (λ (n : ℕ). FollowOn (wait workers objects (done ++ (b ∷ more))) (dormant_lines n rest) (wait workers objects (done ++ (b ∷ rest)))) (length-append done (b ∷ []))
    (subst (λ (d : Draft). FollowOn d (dormant_lines (length (done ++ b ∷ [])) rest) (wait workers objects (done ++ (b ∷ rest)))) (moved more)
    (follow_to (dormant_lines (length (done ++ b ∷ [])) rest) _ _ _ (moved rest) h))

dormant_follow : (workers : ℕ) (objects : List ObjectLine) (rest done : List Bool) → length done + length rest ≡ workers
    → FollowOn (wait workers objects (done ++ replicate (length rest) false)) (dormant_lines (length done) rest) (wait workers objects (done ++ rest))
dormant_follow workers objects [] done count = refl
dormant_follow workers objects (false ∷ rest) done count =
    one_passed workers objects false rest done (replicate (length rest) false) (dormant_follow workers objects rest (done ++ false ∷ []) (omega (arith, length-append done (false ∷ []))))
dormant_follow workers objects (true ∷ rest) done count =
    let more = replicate (length rest) false in
    let inside : nat_lt (length done) workers ≡ true = lt-ltb (length done) workers (omega arith) in
    let new : get_or (done ++ (false ∷ more)) (length done) false ≡ false = get_or-append_seam done false more false in
    let behind = one_passed workers objects true rest done more (dormant_follow workers objects rest (done ++ true ∷ []) (omega (arith, length-append done (true ∷ [])))) in (
      rw (inside, new) refl,
      tt,
      subst (λ (bs : List Bool). FollowOn (wait workers objects bs) (dormant_lines (length done + 1) rest) (wait workers objects (done ++ (true ∷ rest)))) (sym (set-append_seam done false more true)) behind,
    )

-- there are at most as many lines as workers
dormant_count : (n : ℕ) (waiting : List Bool) → length (dormant_lines n waiting) ≤ length waiting
dormant_count n [] = omega arith
dormant_count n (true ∷ waiting) = omega (arith, dormant_count (n + 1) waiting)
dormant_count n (false ∷ waiting) = omega (arith, dormant_count (n + 1) waiting)

-- ---- scripts of all workers

empty_keys : (n : ℕ) → all_keys (replicate n []) ≡ []
empty_keys zero = refl
empty_keys (suc n) = empty_keys n

empty_ranges : (n : ℕ) → range_count (replicate n []) ≡ 0
empty_ranges zero = refl
empty_ranges (suc n) = empty_ranges n

empty_tries : (n : ℕ) → try_count (replicate n []) ≡ 0
empty_tries zero = refl
empty_tries (suc n) = empty_tries n

empty_accesses : (n : ℕ) → access_count (replicate n []) ≡ 0
empty_accesses zero = refl
empty_accesses (suc n) = empty_accesses n

empty_calls : (n : ℕ) → call_count (replicate n []) ≡ 0
empty_calls zero = refl
empty_calls (suc n) = empty_calls n

-- what the scripts need
record ScriptsFit (objects : List ObjectLine) (dormant : List Bool) (done rest : List (List Call)) : Type 0 where
  on : list_all (list_all (λ call. is_on objects (slice_get objects call.object) call)) rest ≡ true
  fits : list_all (list_all is_call) rest ≡ true
  room : call_count (done ++ rest) ≤ MAX_CALLS
  keys : distinct_count (all_keys (done ++ rest)) ≤ MAX_KEYS
  ranges : range_count (done ++ rest) ≤ MAX_RANGES
  tries : try_count (done ++ rest) ≤ MAX_ALL_TRIES
  accesses : access_count (done ++ rest) ≤ MAX_ACCESSES
  waits : list_all (list_all (λ call. starts_dormant dormant call.operation)) rest ≡ true
  once : (worker : ℕ) → start_count worker (done ++ rest) ≤ 1

scripts_follow : (workers : ℕ) (objects : List ObjectLine) (dormant : List Bool) (schedule : List Turn) (rest done : List (List Call)) (worker : Option ℕ) → may_declare [] objects ≡ true → length dormant ≡ workers → length done + length rest ≡ workers → ScriptsFit objects dormant done rest
    → (last : Option ℕ) × FollowOn (at workers objects dormant schedule (done ++ replicate (length rest) []) worker) (script_lines objects (length done) rest) (at workers objects dormant schedule (done ++ rest) last)
scripts_follow workers objects dormant schedule [] done worker new long count fit = (worker, refl)
scripts_follow workers objects dormant schedule (s ∷ rest) done worker new long count fit =
    let test : Call → Bool = λ call. is_on objects (slice_get objects call.object) call in
    let on = both (list_all test s) (list_all (list_all test) rest) fit.on in
    let fits = both (list_all is_call s) (list_all (list_all is_call) rest) fit.fits in
    let more = replicate (length rest) [] in
    let moved : done ++ (s ∷ rest) ≡ (done ++ s ∷ []) ++ rest = sym (append_assoc done (s ∷ []) rest) in
    let room : call_count (done ++ (s ∷ more)) ≤ MAX_CALLS = omega (arith, fit.room, calls-middle done s more, calls-middle done s rest, empty_calls (length rest)) in
    let some_keys : distinct_count (all_keys (done ++ (s ∷ more))) ≤ MAX_KEYS =
    omega (
      arith,
      fit.keys,
      ap distinct_count (all_keys-middle done s more ∙ ap (λ (ks : List (List ℕ)). all_keys done ++ (flat_map keys_of s ++ ks)) (empty_keys (length rest)) ∙ ap (λ (ks : List (List ℕ)). all_keys done ++ ks) (append-nil (flat_map keys_of s))),
      ap distinct_count (all_keys-middle done s rest ∙ sym (append_assoc (all_keys done) (flat_map keys_of s) (all_keys rest))),
      distinct_front (all_keys done ++ flat_map keys_of s) (all_keys rest),
    ) in
    let some_ranges : range_count (done ++ (s ∷ more)) ≤ MAX_RANGES = omega (arith, fit.ranges, ranges-middle done s more, ranges-middle done s rest, empty_ranges (length rest)) in
    let some_tries : try_count (done ++ (s ∷ more)) ≤ MAX_ALL_TRIES = omega (arith, fit.tries, tries-middle done s more, tries-middle done s rest, empty_tries (length rest)) in
    let some_accesses : access_count (done ++ (s ∷ more)) ≤ MAX_ACCESSES = omega (arith, fit.accesses, accesses-middle done s more, accesses-middle done s rest, empty_accesses (length rest)) in
    let wait : Call → Bool = λ call. starts_dormant dormant call.operation in
    let waits = both (list_all wait s) (list_all (list_all wait) rest) fit.waits in
    let once : (w : ℕ) → start_count w (done ++ (s ∷ more)) ≤ 1 = λ w. omega (arith, fit.once w, starts-middle w done s more, starts-middle w done s rest, no_starts w (length rest)) in
    let calls = calls_follow workers objects dormant schedule done s [] more new long (record { on = on.0; fits = fits.0; room = room; keys = some_keys; ranges = some_ranges; tries = some_tries; accesses = some_accesses; waits = waits.0; once = once }) in
    let inside : nat_lt (length done) workers ≡ true = lt-ltb (length done) workers (omega arith) in
    let behind = scripts_follow workers objects dormant schedule rest (done ++ s ∷ []) (Some (length done)) new long (omega (arith, length-append done (s ∷ []))) (record {
      on = on.1;
      fits = fits.1;
      room = subst (λ (x : List (List Call)). call_count x ≤ MAX_CALLS) moved fit.room;
      keys = subst (λ (x : List (List Call)). distinct_count (all_keys x) ≤ MAX_KEYS) moved fit.keys;
      ranges = subst (λ (x : List (List Call)). range_count x ≤ MAX_RANGES) moved fit.ranges;
      tries = subst (λ (x : List (List Call)). try_count x ≤ MAX_ALL_TRIES) moved fit.tries;
      accesses = subst (λ (x : List (List Call)). access_count x ≤ MAX_ACCESSES) moved fit.accesses;
      waits = waits.1;
      once = λ w. subst (λ (x : List (List Call)). start_count w x ≤ 1) moved (fit.once w);
    }) in
    let here : FollowOn (at workers objects dormant schedule (done ++ ([] ∷ more)) worker) (lines.Worker (length done) ∷ map (call_line objects) s) (at workers objects dormant schedule ((done ++ s ∷ []) ++ more) (Some (length done))) =
    (inside, tt, follow_to (map (call_line objects) s) _ _ _ (ap (λ (x : List (List Call)). at workers objects dormant schedule x (Some (length done))) (sym (append_assoc done (s ∷ []) more))) calls) in
    let others : FollowOn (at workers objects dormant schedule ((done ++ s ∷ []) ++ more) (Some (length done))) (script_lines objects (length done + 1) rest) (at workers objects dormant schedule (done ++ (s ∷ rest)) behind.0) =
    subst (λ (n : ℕ). FollowOn (at workers objects dormant schedule ((done ++ s ∷ []) ++ more) (Some (length done))) (script_lines objects n rest) (at workers objects dormant schedule (done ++ (s ∷ rest)) behind.0)) (length-append done (s ∷ []))
    (follow_to (script_lines objects (length (done ++ s ∷ [])) rest) _ _ _ (ap (λ (x : List (List Call)). at workers objects dormant schedule x behind.0) (sym moved)) behind.1) in (
      behind.0,
      follow_append (lines.Worker (length done) ∷ map (call_line objects) s) (script_lines objects (length done + 1) rest)
          (at workers objects dormant schedule (done ++ ([] ∷ more)) worker) (at workers objects dormant schedule ((done ++ s ∷ []) ++ more) (Some (length done))) (at workers objects dormant schedule (done ++ (s ∷ rest)) behind.0) here others,
    )

-- ---- the schedule

schedule_follows : (n : ℕ) (workers : ℕ) (objects : List ObjectLine) (dormant : List Bool) (scripts : List (List Call)) (worker : Option ℕ) (ts before : List Turn) → length ts ≤ n → list_all (is_item workers) ts ≡ true → length before + length ts ≤ MAX_TURNS
    → FollowOn (at workers objects dormant before scripts worker) (map (λ x. lines.Schedule x) (eights 7 ts)) (at workers objects dormant (before ++ ts) scripts worker)
schedule_follows n workers objects dormant scripts worker [] before short items room = ap (λ (x : List Turn). at workers objects dormant x scripts worker) (append-nil before)
schedule_follows zero workers objects dormant scripts worker (t ∷ ts) before short items room = absurd (omega arith)
schedule_follows (suc n) workers objects dormant scripts worker (t ∷ ts) before short items room =
    let all = t ∷ ts in
    let first = take 8 all in
    let rest = drop 8 all in
    let whole : first ++ rest ≡ all = take-append-drop 8 all in
    let parts = both (list_all (is_item workers) first) (list_all (is_item workers) rest) (sym (list_all-append (is_item workers) first rest) ∙ ap (list_all (is_item workers)) whole ∙ items) in
    let some : nat_lt 0 (length first) ≡ true = lt-ltb 0 (length first) (omega (arith, length-take 8 all)) in
    let fits : nat_le (length before + length first) MAX_TURNS ≡ true = le-leb (length before + length first) MAX_TURNS (omega (arith, length-take 8 all)) in
    let follows : may_follow (at workers objects dormant before scripts worker) (lines.Schedule first) ≡ true = pair (nat_lt 0 (length first)) _ some (pair (list_all (is_item workers) first) _ parts.0 fits) in
    let behind = schedule_follows n workers objects dormant scripts worker rest (before ++ first) (omega (arith, length-drop 8 all)) parts.1 (omega (arith, length-append before first, length-take 8 all, length-drop 8 all)) in
    subst (λ (chunks : List (List Turn)). FollowOn (at workers objects dormant before scripts worker) (map (λ x. lines.Schedule x) chunks) (at workers objects dormant (before ++ all) scripts worker)) (sym (eights_first 7 all (omega arith))) (
      follows,
      omega (arith, length-take 8 all),
      follow_to (map (λ x. lines.Schedule x) (eights 7 rest)) _ _ _ (ap (λ (x : List Turn). at workers objects dormant x scripts worker) (append_assoc before first rest ∙ ap (λ (x : List Turn). before ++ x) whole)) behind,
    )

one_or_more : (t : Turn) (xs : List (List Turn)) → length (onto_first t xs) ≡ max 1 (length xs)
one_or_more t [] = refl
one_or_more t (x ∷ xs) = omega arith

eights_count : (more : ℕ) (ts : List Turn) → more ≤ 7 → 8 * length (eights more ts) + more ≤ length ts + 14
eights_count more [] le = omega arith
eights_count zero (t ∷ ts) le = omega (arith, eights_count 7 ts (omega arith))
eights_count (suc more) (t ∷ ts) le = omega (arith, one_or_more t (eights more ts), eights_count more ts (omega arith))

-- ---- all of them

script_count : (objects : List ObjectLine) (n : ℕ) (scripts : List (List Call)) → length (script_lines objects n scripts) ≡ length scripts + call_count scripts
script_count objects n [] = refl
script_count objects n (s ∷ ss) =
    omega (arith, length-append (lines.Worker n ∷ map (call_line objects) s) (script_lines objects (n + 1) ss), length-map s (call_line objects), script_count objects (n + 1) ss, sum_by-append length (s ∷ []) ss)

-- the canonical lines of a readable workload follow one another, and make it
pub canonical_follows : (plan : Plan) → IsReadable plan → (e : Draft) × FollowOn (started plan.workers) (canonical_lines plan) e × (e.plan ≡ plan)
canonical_follows plan h =
    let v = valid_parts plan h.valid in
    let first = objects_follow plan.objects plan.objects (started plan.workers) refl refl h.objects in
    let second = dormant_follow plan.workers plan.objects plan.dormant [] (omega (arith, v.dormant)) in
    let third = scripts_follow plan.workers plan.objects plan.dormant [] plan.scripts [] None h.objects v.dormant (omega (arith, v.scripts)) (record { on = v.calls; fits = h.calls; room = h.call_room; keys = h.key_room; ranges = h.range_room; tries = h.try_room; accesses = h.access_room; waits = v.starts; once = h.starts }) in
    let fourth = schedule_follows (length plan.schedule) plan.workers plan.objects plan.dormant plan.scripts third.0 plan.schedule [] (omega arith) h.items (omega (arith, h.turn_room)) in
    let unnamed : wait plan.workers plan.objects (replicate plan.workers false) ≡ wait plan.workers plan.objects (replicate (length plan.dormant) false) = ap (λ (n : ℕ). wait plan.workers plan.objects (replicate n false)) (sym v.dormant) in
    let start : wait plan.workers plan.objects plan.dormant ≡ at plan.workers plan.objects plan.dormant [] (replicate (length plan.scripts) []) None = ap (λ (n : ℕ). at plan.workers plan.objects plan.dormant [] (replicate n []) None) (sym v.scripts) in
    let objects = map (object_line plan.objects) plan.objects in
    let waiting = dormant_lines 0 plan.dormant in
    let scripts = script_lines plan.objects 0 plan.scripts in
    let schedule = map (λ x. lines.Schedule x) (eights 7 plan.schedule) in (
      at plan.workers plan.objects plan.dormant plan.schedule plan.scripts third.0,
      follow_append objects (waiting ++ (scripts ++ schedule)) (started plan.workers) _ _ (follow_to objects (started plan.workers) _ _ unnamed first)
          (follow_append waiting (scripts ++ schedule) _ _ _ (follow_to waiting _ _ _ start second) (follow_append scripts schedule _ _ _ third.1 fourth)),
      refl,
    )

-- and are not many
pub canonical_count : (plan : Plan) → IsReadable plan → length (canonical_lines plan) ≤ 33000
canonical_count plan h =
    let v = valid_parts plan h.valid in
    omega (
      arith,
      v.scripts,
      v.dormant,
      h.few_workers,
      h.call_room,
      h.turn_room,
      few_objects plan.objects h.objects,
      length-append (map (object_line plan.objects) plan.objects) (dormant_lines 0 plan.dormant ++ (script_lines plan.objects 0 plan.scripts ++ map (λ x. lines.Schedule x) (eights 7 plan.schedule))),
      length-append (dormant_lines 0 plan.dormant) (script_lines plan.objects 0 plan.scripts ++ map (λ x. lines.Schedule x) (eights 7 plan.schedule)),
      length-append (script_lines plan.objects 0 plan.scripts) (map (λ x. lines.Schedule x) (eights 7 plan.schedule)),
      length-map plan.objects (object_line plan.objects),
      dormant_count 0 plan.dormant,
      length-map (eights 7 plan.schedule) (λ x. lines.Schedule x),
      script_count plan.objects 0 plan.scripts,
      eights_count 7 plan.schedule (omega arith),
    )
