-- No two lines that may follow are spelled alike.
use Rattle.std.proofs.Common.{◌≡◌, ℕ, ℤ, ◌++◌, ◌^◌, ◌<◌, ◌≤◌, true, eqb, List, [], ◌∷◌, map, Option, Some, None, refl, sym, ap, subst, ◌∙◌, arith}
use Rattle.std.specs.Prelude.{nat_le}
use Rattle.std.specs.List.{list_all}
use Rattle.std.specs.Fmt.{decimal, signed_decimal}
use Rattle.std.specs.Option.{option_to_list}
use Rattle.std.proofs.lemmas.Bool.{eqb-true, ltb-true, leb-true}
use Rattle.std.proofs.lemmas.Fmt.{decimal_injective}
use Rattle.script_calls.specs.declared.call.Call.{Call}
use Rattle.script_calls.specs.declared.call.ComposedCall.{ComposedCall}
use Rattle.script_calls.specs.declared.call.ComposedCall.TheVariants.{IfEqual, WaitFor, Go}
use Rattle.script_calls.specs.declared.call.Operation.{Operation}
use Rattle.script_calls.specs.declared.call.Operation.TheVariants as operations
use Rattle.sync_types.specs.declared.map_object.MapCall.{MapCall}
use Rattle.sync_types.specs.declared.map_object.MapCall.TheVariants as map_calls
use Rattle.sync_types.specs.declared.atomic_object.AtomicKind.{AtomicKind}
use Rattle.sync_types.specs.declared.atomic_object.Number.{Number}
use Rattle.sync_types.specs.declared.atomic_object.AtomicCall.{AtomicCall}
use Rattle.sync_types.specs.declared.atomic_object.AtomicCall.TheVariants as atomic_calls
use Rattle.sync_types.specs.declared.wait_call.CondCall.{CondCall}
use Rattle.sync_types.specs.declared.wait_call.CondCall.TheVariants as cond_calls
use Rattle.sync_types.specs.declared.wait_call.WaitGroupCall.{WaitGroupCall}
use Rattle.sync_types.specs.declared.wait_call.WaitGroupCall.TheVariants as group_calls
use Rattle.sync_types.specs.declared.pool_call.PoolCall.{PoolCall}
use Rattle.sync_types.specs.declared.sema_call.SemaCall.{SemaCall}
use Rattle.script_calls.specs.declared.call.VarCall.{VarCall}
use Rattle.sync_types.specs.declared.lock_call.MutexCall.{MutexCall}
use Rattle.sync_types.specs.declared.lock_call.MutexCall.TheVariants as mutex_calls
use Rattle.sync_types.specs.declared.lock_call.RwMutexCall.{RwMutexCall}
use Rattle.sync_types.specs.declared.lock_call.RwMutexCall.TheVariants as rw_mutex_calls
use Rattle.sync_types.specs.SequentialAtomic.{is_of, is_atomic_call}
use Rattle.workload.specs.declared.keyword.Verb.{Verb}
use Rattle.workload.specs.declared.keyword.Verb.TheVariants as verbs
use Rattle.workload.specs.declared.limits.TheConstants.{MAX_AMOUNT, MAX_CODE, MAX_SIZE, MAX_WORKERS}
use Rattle.sync_types.specs.declared.value.TheConstants.{MAX_VALUE}
use Rattle.workload.specs.declared.object.Declared.{Declared}
use Rattle.workload.specs.declared.object.ObjectKind.{ObjectKind}
use Rattle.workload.specs.declared.object.ObjectKind.TheVariants as kinds
use Rattle.workload.specs.declared.object.ObjectLine.{ObjectLine}
use Rattle.workload.specs.declared.line.Line.{Line}
use Rattle.workload.specs.declared.line.Line.TheVariants as lines
use Rattle.workload.specs.declared.turn.Turn.{Turn}
use Rattle.workload.specs.declared.turn.Turn.TheVariants as turns
use Rattle.workload.specs.Plan.{word_of, is_amount, reference_of, has_call, has_among}
use Rattle.workload.specs.KeywordWords.{keyword_word}
use Rattle.workload.specs.NumberWords.{is_number, is_tries, is_weight, number_of, number_word}
use Rattle.workload.specs.CallWords.{verb_of, map_verb, atomic_verb, mutex_verb, rw_mutex_verb, cond_verb, group_verb, pool_verb, sema_verb, sema_weight, var_verb, composed_verb, operands_of, map_operands, atomic_operands, group_operands, pool_operands, var_operands, composed_operands}
use Rattle.workload.specs.Words.{keyword_of, arguments_of, spelled, kind_parameters, turn_word}
use Rattle.workload.specs.Draft.{Draft, declared, may_follow, names_object, names_second, is_call, is_operation, is_map_call, is_group_call, is_pool_call, is_var_call, is_composed_call, is_kind, names_reference, is_item}
use Rattle.workload.proofs.Passing.{both}
use Rattle.workload.proofs.Follows.{object_follows, dormant_follows, schedule_follows, call_follows}
use Rattle.workload.proofs.References.{Refers, some_reference, no_reference}
use Rattle.workload.proofs.Numbers.{is_number-decimal}
use Rattle.workload.proofs.Keywords.{same_keyword}
use Rattle.workload.proofs.CallWords.{map_call_at, map_call_spelled, atomic_call_at, atomic_call_spelled, signed_of, amount_spelled, group_call_at, group_call_spelled, pool_call_at, pool_call_spelled, sema_call_at, sema_call_spelled, weight_small, var_call_at, var_call_spelled, composed_call_at, composed_call_spelled, number_read, number_spelled, tries_back}
use Rattle.workload.proofs.Refuted.{no, not_both, something, other_kinds}
use Rattle.workload.proofs.Awaits.{Awaits, awaits, alone_second, no_second}

some_is : {X : Type 0} (x y : X) → Some x ≡ Some y → x ≡ y
some_is x y e = cc

heads : {X : Type 0} (x y : X) (xs ys : List X) → x ∷ xs ≡ y ∷ ys → (x ≡ y) × (xs ≡ ys)
heads x y xs ys e = (cc, cc)

-- a word of digits doesn't begin with `@`
no_moment : (n : ℕ) (rest : List ℕ) → n < 2 ^ 64 → decimal n ≡ 64 ∷ rest → ⊥
no_moment n rest small e =
    let number : is_number (64 ∷ rest) ≡ true = sym (ap is_number e) ∙ is_number-decimal n small in
    absurd cc

same_turn : (workers : ℕ) (t u : Turn) → workers ≤ MAX_WORKERS → is_item workers t ≡ true → is_item workers u ≡ true → turn_word t ≡ turn_word u → t ≡ u
same_turn workers (turns.Worker i) (turns.Worker j) few p q e = ap (λ (n : ℕ). turns.Worker n) (decimal_injective i j (omega (arith, ltb-true i workers p)) (omega (arith, ltb-true j workers q)) e)
same_turn workers (turns.Moment i) (turns.Moment j) few p q e = ap (λ (n : ℕ). turns.Moment n) (decimal_injective i j (omega (arith, leb-true i MAX_VALUE p)) (omega (arith, leb-true j MAX_VALUE q)) (heads 64 64 (decimal i) (decimal j) e).1)
same_turn workers (turns.Worker i) (turns.Moment j) few p q e = absurd (no_moment i (decimal j) (omega (arith, ltb-true i workers p)) e)
same_turn workers (turns.Moment i) (turns.Worker j) few p q e = absurd (no_moment j (decimal i) (omega (arith, ltb-true j workers q)) (sym e))

same_turns : (workers : ℕ) (ts us : List Turn) → workers ≤ MAX_WORKERS → list_all (is_item workers) ts ≡ true → list_all (is_item workers) us ≡ true → map turn_word ts ≡ map turn_word us → ts ≡ us
same_turns workers [] [] few p q e = refl
same_turns workers [] (u ∷ us) few p q e = absurd cc
same_turns workers (t ∷ ts) [] few p q e = absurd cc
same_turns workers (t ∷ ts) (u ∷ us) few p q e =
    let here = both (is_item workers t) (list_all (is_item workers) ts) p in
    let there = both (is_item workers u) (list_all (is_item workers) us) q in
    let words = heads (turn_word t) (turn_word u) (map turn_word ts) (map turn_word us) e in
    let first = same_turn workers t u few here.0 there.0 words.0 in
    let others = same_turns workers ts us few here.1 there.1 words.1 in
    ap (λ (x : Turn). x ∷ ts) first ∙ ap (λ (xs : List Turn). u ∷ xs) others

same_map_call : (c d : MapCall (List ℕ)) → is_map_call c ≡ true → is_map_call d ≡ true → map_verb c ≡ map_verb d → map_operands c ≡ map_operands d → c ≡ d
same_map_call c d p q v e = some_is c d (sym (map_call_spelled c p) ∙ ap (λ (x : Verb). map_call_at x (map_operands c)) v ∙ ap (map_call_at (map_verb d)) e ∙ map_call_spelled d q)

same_atomic_call : (kind : AtomicKind) (c d : AtomicCall) → is_atomic_call kind c ≡ true → is_atomic_call kind d ≡ true → atomic_verb c ≡ atomic_verb d → atomic_operands c ≡ atomic_operands d → c ≡ d
same_atomic_call kind c d p q v e = some_is c d (sym (atomic_call_spelled kind c p) ∙ ap (λ (x : Verb). atomic_call_at kind x (atomic_operands c)) v ∙ ap (atomic_call_at kind (atomic_verb d)) e ∙ atomic_call_spelled kind d q)

-- the call of a mutex that a word is, and of a reader/writer mutex
abbrev mutex_call_at : Verb → Option MutexCall
mutex_call_at verbs.Lock = Some mutex_calls.Lock
mutex_call_at verbs.Unlock = Some mutex_calls.Unlock
mutex_call_at verbs.TryLock = Some mutex_calls.TryLock
mutex_call_at verb = None

abbrev rw_mutex_call_at : Verb → Option RwMutexCall
rw_mutex_call_at verbs.Lock = Some rw_mutex_calls.Lock
rw_mutex_call_at verbs.Unlock = Some rw_mutex_calls.Unlock
rw_mutex_call_at verbs.TryLock = Some rw_mutex_calls.TryLock
rw_mutex_call_at verbs.RLock = Some rw_mutex_calls.RLock
rw_mutex_call_at verbs.RUnlock = Some rw_mutex_calls.RUnlock
rw_mutex_call_at verbs.TryRLock = Some rw_mutex_calls.TryRLock
rw_mutex_call_at verb = None

mutex_call_spelled : (c : MutexCall) → mutex_call_at (mutex_verb c) ≡ Some c
mutex_call_spelled mutex_calls.Lock = refl
mutex_call_spelled mutex_calls.Unlock = refl
mutex_call_spelled mutex_calls.TryLock = refl

rw_mutex_call_spelled : (c : RwMutexCall) → rw_mutex_call_at (rw_mutex_verb c) ≡ Some c
rw_mutex_call_spelled rw_mutex_calls.Lock = refl
rw_mutex_call_spelled rw_mutex_calls.Unlock = refl
rw_mutex_call_spelled rw_mutex_calls.TryLock = refl
rw_mutex_call_spelled rw_mutex_calls.RLock = refl
rw_mutex_call_spelled rw_mutex_calls.RUnlock = refl
rw_mutex_call_spelled rw_mutex_calls.TryRLock = refl

abbrev cond_call_at : Verb → Option CondCall
cond_call_at verbs.Wait = Some cond_calls.Wait
cond_call_at verbs.Signal = Some cond_calls.Signal
cond_call_at verbs.Broadcast = Some cond_calls.Broadcast
cond_call_at verb = None

cond_call_spelled : (c : CondCall) → cond_call_at (cond_verb c) ≡ Some c
cond_call_spelled cond_calls.Wait = refl
cond_call_spelled cond_calls.Signal = refl
cond_call_spelled cond_calls.Broadcast = refl

same_cond_call : (c d : CondCall) → cond_verb c ≡ cond_verb d → c ≡ d
same_cond_call c d v = some_is c d (sym (cond_call_spelled c) ∙ ap cond_call_at v ∙ cond_call_spelled d)

same_group_call : (c d : WaitGroupCall) → is_group_call c ≡ true → is_group_call d ≡ true → group_verb c ≡ group_verb d → group_operands c ≡ group_operands d → c ≡ d
same_group_call c d p q v e = some_is c d (sym (group_call_spelled c p) ∙ ap (λ (x : Verb). group_call_at x (group_operands c)) v ∙ ap (group_call_at (group_verb d)) e ∙ group_call_spelled d q)

same_pool_call : (c d : PoolCall) → is_pool_call c ≡ true → is_pool_call d ≡ true → pool_verb c ≡ pool_verb d → pool_operands c ≡ pool_operands d → c ≡ d
same_pool_call c d p q v e = some_is c d (sym (pool_call_spelled c p) ∙ ap (λ (x : Verb). pool_call_at x (pool_operands c)) v ∙ ap (pool_call_at (pool_verb d)) e ∙ pool_call_spelled d q)

same_sema_call : (c d : SemaCall) → is_weight MAX_SIZE (sema_weight c) ≡ true → is_weight MAX_SIZE (sema_weight d) ≡ true → sema_verb c ≡ sema_verb d → decimal (sema_weight c) ∷ [] ≡ decimal (sema_weight d) ∷ [] → c ≡ d
same_sema_call c d p q v e = some_is c d (sym (sema_call_spelled c p) ∙ ap (λ (x : Verb). sema_call_at x (decimal (sema_weight c) ∷ [])) v ∙ ap (sema_call_at (sema_verb d)) e ∙ sema_call_spelled d q)

same_var_call : (c d : VarCall) → is_var_call c ≡ true → is_var_call d ≡ true → var_verb c ≡ var_verb d → var_operands c ≡ var_operands d → c ≡ d
same_var_call c d p q v e = some_is c d (sym (var_call_spelled c p) ∙ ap (λ (x : Verb). var_call_at x (var_operands c)) v ∙ ap (var_call_at (var_verb d)) e ∙ var_call_spelled d q)

same_mutex_call : (c d : MutexCall) → mutex_verb c ≡ mutex_verb d → c ≡ d
same_mutex_call c d v = some_is c d (sym (mutex_call_spelled c) ∙ ap mutex_call_at v ∙ mutex_call_spelled d)

same_rw_mutex_call : (c d : RwMutexCall) → rw_mutex_verb c ≡ rw_mutex_verb d → c ≡ d
same_rw_mutex_call c d v = some_is c d (sym (rw_mutex_call_spelled c) ∙ ap rw_mutex_call_at v ∙ rw_mutex_call_spelled d)

same_composed_call : (kind : AtomicKind) (c d : ComposedCall) → has_call (kinds.Atomic kind) (operations.Composed c) ≡ true → has_call (kinds.Atomic kind) (operations.Composed d) ≡ true → is_composed_call c ≡ true → is_composed_call d ≡ true
    → composed_verb c ≡ composed_verb d → composed_operands c ≡ composed_operands d → c ≡ d
same_composed_call kind c d on_c on_d p q v e =
    some_is c d (sym (composed_call_spelled kind c on_c p) ∙ ap (λ (x : Verb). composed_call_at kind x (composed_operands c)) v ∙ ap (composed_call_at kind (composed_verb d)) e ∙ composed_call_spelled kind d on_d q)

-- no call of an atomic's calls is spelled as `ifeq`
no_test : (c : AtomicCall) (d : ComposedCall) → atomic_verb c ≡ composed_verb d → ⊥
no_test atomic_calls.Load (IfEqual v n) e = cc
no_test (atomic_calls.Store x) (IfEqual v n) e = cc
no_test (atomic_calls.Swap x) (IfEqual v n) e = cc
no_test (atomic_calls.Add x) (IfEqual v n) e = cc
no_test (atomic_calls.And x) (IfEqual v n) e = cc
no_test (atomic_calls.Or x) (IfEqual v n) e = cc
no_test (atomic_calls.CompareAndSwap x y) (IfEqual v n) e = cc
no_test c (WaitFor a v n) e = no_wait c e
  where
    no_wait : (c : AtomicCall) → atomic_verb c ≡ verbs.WaitFor → ⊥
    no_wait atomic_calls.Load e = cc
    no_wait (atomic_calls.Store x) e = cc
    no_wait (atomic_calls.Swap x) e = cc
    no_wait (atomic_calls.Add x) e = cc
    no_wait (atomic_calls.And x) e = cc
    no_wait (atomic_calls.Or x) e = cc
    no_wait (atomic_calls.CompareAndSwap x y) e = cc
no_test c (Go w) e = no_go c e
  where
    no_go : (c : AtomicCall) → atomic_verb c ≡ verbs.Go → ⊥
    no_go atomic_calls.Load e = cc
    no_go (atomic_calls.Store x) e = cc
    no_go (atomic_calls.Swap x) e = cc
    no_go (atomic_calls.Add x) e = cc
    no_go (atomic_calls.And x) e = cc
    no_go (atomic_calls.Or x) e = cc
    no_go (atomic_calls.CompareAndSwap x y) e = cc

-- no call of a map's calls is spelled as `range`
no_range : (c : MapCall (List ℕ)) → map_verb c ≡ verbs.Range → ⊥
no_range (map_calls.Load k) e = cc
no_range (map_calls.Store k v) e = cc
no_range (map_calls.LoadOrStore k v) e = cc
no_range (map_calls.LoadAndDelete k) e = cc
no_range (map_calls.Delete k) e = cc
no_range (map_calls.Swap k v) e = cc
no_range (map_calls.CompareAndSwap k v w) e = cc
no_range (map_calls.CompareAndDelete k v) e = cc
no_range map_calls.Clear e = cc

-- a name gives the object of a call
named : (objects : List ObjectLine) (o : Option Declared) (c d : Call) → names_object objects o c ≡ true → names_object objects o d ≡ true → c.object ≡ d.object
named objects None c d p q = absurd cc
named objects (Some found) c d p q =
    sym (eqb-true found.place c.object (both (eqb found.place c.object) (has_among objects found.kind c.operation) p).0)
    ∙ eqb-true found.place d.object (both (eqb found.place d.object) (has_among objects found.kind d.operation) q).0

same_alone : (kind : ObjectKind) (a b : Operation) → has_call kind a ≡ true → has_call kind b ≡ true → is_operation a ≡ true → is_operation b ≡ true → verb_of a ≡ verb_of b → operands_of a ≡ operands_of b → a ≡ b
same_alone kinds.Map (operations.Map c) (operations.Map d) on_c on_d p q v e = ap (λ (x : MapCall (List ℕ)). operations.Map x) (same_map_call c d p q v e)
same_alone kinds.Map operations.Range operations.Range on_c on_d p q v e = refl
same_alone kinds.Map (operations.Map c) operations.Range on_c on_d p q v e = absurd (no_range c v)
same_alone kinds.Map operations.Range (operations.Map d) on_c on_d p q v e = absurd (no_range d (sym v))
same_alone (kinds.Atomic k) (operations.Atomic c) (operations.Atomic d) on_c on_d p q v e = ap (λ (x : AtomicCall). operations.Atomic x) (same_atomic_call k c d on_c on_d v e)
same_alone kinds.Mutex (operations.Mutex c) (operations.Mutex d) on_c on_d p q v e = ap (λ (x : MutexCall). operations.Mutex x) (same_mutex_call c d v)
same_alone kinds.RwMutex (operations.RwMutex c) (operations.RwMutex d) on_c on_d p q v e = ap (λ (x : RwMutexCall). operations.RwMutex x) (same_rw_mutex_call c d v)
same_alone (kinds.Cond m) (operations.Cond c) (operations.Cond d) on_c on_d p q v e = ap (λ (x : CondCall). operations.Cond x) (same_cond_call c d v)
same_alone (kinds.WaitGroup n) (operations.WaitGroup c) (operations.WaitGroup d) on_c on_d p q v e = ap (λ (x : WaitGroupCall). operations.WaitGroup x) (same_group_call c d p q v e)
same_alone (kinds.Once a z) operations.Once operations.Once on_c on_d p q v e = refl
same_alone (kinds.OnceFunc n) operations.OnceFunc operations.OnceFunc on_c on_d p q v e = refl
same_alone (kinds.OnceValue n) operations.OnceValue operations.OnceValue on_c on_d p q v e = refl
same_alone kinds.Pool (operations.Pool c) (operations.Pool d) on_c on_d p q v e = ap (λ (x : PoolCall). operations.Pool x) (same_pool_call c d p q v e)
same_alone (kinds.Sema n) (operations.Sema c) (operations.Sema d) on_c on_d p q v e = ap (λ (x : SemaCall). operations.Sema x) (same_sema_call c d p q v e)
same_alone (kinds.Sema n) (operations.Sema c) b on_c on_d p q v e = no on_d
same_alone (kinds.Flight i z) (operations.Fly k) (operations.Fly l) on_c on_d p q v e = ap (λ (x : List ℕ). operations.Fly x) (heads k l [] [] e).0
same_alone kinds.Var (operations.Var c) (operations.Var d) on_c on_d p q v e = ap (λ (x : VarCall). operations.Var x) (same_var_call c d p q v e)
same_alone (kinds.Atomic k) (operations.Composed c) (operations.Composed d) on_c on_d p q v e = ap (λ (x : ComposedCall). operations.Composed x) (same_composed_call k c d on_c on_d p q v e)
same_alone (kinds.Atomic k) (operations.Atomic c) (operations.Composed d) on_c on_d p q v e = absurd (no_test c d v)
same_alone (kinds.Atomic k) (operations.Composed c) (operations.Atomic d) on_c on_d p q v e = absurd (no_test d c (sym v))
same_alone (kinds.Atomic k) (operations.Atomic c) b on_c on_d p q v e = no on_d
same_alone (kinds.Atomic k) (operations.Composed c) b on_c on_d p q v e = no on_d
same_alone kind a b on_c on_d p q v e = not_both (has_call kind a) (has_call kind b) refl on_c on_d

-- ---- second names

-- the words behind the name, where none of them is a name
without : (r s : Option (List ℕ)) (xs ys : List (List ℕ)) → r ≡ None → s ≡ None → option_to_list r ++ xs ≡ option_to_list s ++ ys → xs ≡ ys
without r s xs ys p q e = sym (ap (λ (x : Option (List ℕ)). option_to_list x ++ xs) p) ∙ e ∙ ap (λ (x : Option (List ℕ)). option_to_list x ++ ys) q

-- what the words behind an object's name say
abbrev behind : Option (List ℕ) → Operation → List (List ℕ)
behind second o = option_to_list second ++ operands_of o

-- two of operations that an object has alone
alone_same : (d : Draft) (kind : ObjectKind) (a b : Operation) (r s : Option (List ℕ)) → has_call kind a ≡ true → has_call kind b ≡ true → names_second d a r ≡ true → names_second d b s ≡ true → is_operation a ≡ true → is_operation b ≡ true
    → verb_of a ≡ verb_of b → behind r a ≡ behind s b → (a ≡ b) × (r ≡ s)
alone_same d kind a b r s on_a on_b f g p q v e =
    let none = no_second d a r (alone_second kind a on_a).0 f in
    let absent = no_second d b s (alone_second kind b on_b).0 g in
    (same_alone kind a b on_a on_b p q v (without r s (operands_of a) (operands_of b) none absent e), none ∙ sym absent)

-- two of `waitfor`
wait_same : (d : Draft) (i j : ℕ) (x y : Number) (m n : ℕ) (r s : Option (List ℕ)) → Awaits d i x r → Awaits d j y s → is_tries m ≡ true → is_tries n ≡ true
    → option_to_list r ++ number_word x ∷ decimal m ∷ [] ≡ option_to_list s ++ number_word y ∷ decimal n ∷ [] → (operations.Composed (WaitFor i x m) ≡ operations.Composed (WaitFor j y n)) × (r ≡ s)
wait_same d i j x y m n r s f g p q e =
    let words = heads f.name g.name (number_word x ∷ decimal m ∷ []) (number_word y ∷ decimal n ∷ [])
    (sym (ap (λ (z : Option (List ℕ)). option_to_list z ++ number_word x ∷ decimal m ∷ []) f.is) ∙ e ∙ ap (λ (z : Option (List ℕ)). option_to_list z ++ number_word y ∷ decimal n ∷ []) g.is) in
    let found = same_atomic i j f.kind g.kind (some_is _ _ (sym f.found ∙ ap (declared d) words.0 ∙ g.found)) in
    let numbers = heads (number_word x) (number_word y) (decimal m ∷ []) (decimal n ∷ []) words.1 in
    let tries : m ≡ n = sym (tries_back m p) ∙ ap number_of (heads (decimal m) (decimal n) [] [] numbers.1).0 ∙ tries_back n q in
    let fits : is_of g.kind x ≡ true = subst (λ (k : AtomicKind). is_of k x ≡ true) found.1 f.fits in
    let value : x ≡ y = sym (number_spelled g.kind x fits) ∙ ap (number_read g.kind) numbers.0 ∙ number_spelled g.kind y g.fits in (
      ap (λ (k : ℕ). operations.Composed (WaitFor k x m)) found.0
          ∙ ap (λ (z : Number). operations.Composed (WaitFor j z m)) value
          ∙ ap (λ (k : ℕ). operations.Composed (WaitFor j y k)) tries,
      f.is ∙ ap (λ (z : List ℕ). Some z) words.0 ∙ sym g.is,
    )
  where
    same_atomic : (i j : ℕ) (k l : AtomicKind) → ◌≡◌ {A = Declared} (record { place = i; kind = kinds.Atomic k }) (record { place = j; kind = kinds.Atomic l }) → (i ≡ j) × (k ≡ l)
    same_atomic i j k l e = (ap (λ (x : Declared). x.place) e, same_type k l (ap (λ (x : Declared). x.kind) e))
      where
        same_type : (k l : AtomicKind) → kinds.Atomic k ≡ kinds.Atomic l → k ≡ l
        same_type k l e = cc

-- no call of a cond's calls is spelled as `waitfor`
no_wait : (c : CondCall) → cond_verb c ≡ verbs.WaitFor → ⊥
no_wait cond_calls.Wait e = cc
no_wait cond_calls.Signal e = cc
no_wait cond_calls.Broadcast e = cc

-- no call of a wait group's calls is spelled as `go`
no_go : (c : WaitGroupCall) → group_verb c ≡ verbs.Go → ⊥
no_go (group_calls.Add z) e = cc
no_go group_calls.Done e = cc
no_go group_calls.Wait e = cc

-- two of `go`
go_same : (d : Draft) (i j : ℕ) (r s : Option (List ℕ)) → names_second d (operations.Composed (Go i)) r ≡ true → names_second d (operations.Composed (Go j)) s ≡ true → is_composed_call (Go i) ≡ true → is_composed_call (Go j) ≡ true
    → option_to_list r ++ decimal i ∷ [] ≡ option_to_list s ++ decimal j ∷ [] → (operations.Composed (Go i) ≡ operations.Composed (Go j)) × (r ≡ s)
go_same d i j r s f g p q e =
    let none = no_second d (operations.Composed (Go i)) r refl f in
    let absent = no_second d (operations.Composed (Go j)) s refl g in
    let words = heads (decimal i) (decimal j) [] [] (without r s (decimal i ∷ []) (decimal j ∷ []) none absent e) in
    (ap (λ (n : ℕ). operations.Composed (Go n)) (decimal_injective i j (omega (arith, ltb-true i MAX_WORKERS p)) (omega (arith, ltb-true j MAX_WORKERS q)) words.0), none ∙ sym absent)

same_operation : (d : Draft) (kind : ObjectKind) (a b : Operation) (r s : Option (List ℕ)) → has_among d.plan.objects kind a ≡ true → has_among d.plan.objects kind b ≡ true → names_second d a r ≡ true → names_second d b s ≡ true
    → is_operation a ≡ true → is_operation b ≡ true → verb_of a ≡ verb_of b → behind r a ≡ behind s b → (a ≡ b) × (r ≡ s)
same_operation d (kinds.Cond k) (operations.Composed (WaitFor i x m)) (operations.Composed (WaitFor j y n)) r s on_a on_b f g p q v e = wait_same d i j x y m n r s (awaits d i x m r on_a f) (awaits d j y n s on_b g) p q e
same_operation d (kinds.Cond k) (operations.Composed (WaitFor i x m)) (operations.Cond c) r s on_a on_b f g p q v e = absurd (no_wait c (sym v))
same_operation d (kinds.Cond k) (operations.Cond c) (operations.Composed (WaitFor j y n)) r s on_a on_b f g p q v e = absurd (no_wait c v)
same_operation d (kinds.Cond k) (operations.Cond c) (operations.Cond b) r s on_a on_b f g p q v e = alone_same d (kinds.Cond k) (operations.Cond c) (operations.Cond b) r s on_a on_b f g p q v e
same_operation d (kinds.Cond k) (operations.Composed (WaitFor i x m)) b r s on_a on_b f g p q v e = no on_b
same_operation d (kinds.Cond k) a b r s on_a on_b f g p q v e = not_both (has_among d.plan.objects (kinds.Cond k) a) (has_among d.plan.objects (kinds.Cond k) b) refl on_a on_b
same_operation d (kinds.WaitGroup k) (operations.Composed (Go i)) (operations.Composed (Go j)) r s on_a on_b f g p q v e = go_same d i j r s f g p q e
same_operation d (kinds.WaitGroup k) (operations.Composed (Go i)) (operations.WaitGroup c) r s on_a on_b f g p q v e = absurd (no_go c (sym v))
same_operation d (kinds.WaitGroup k) (operations.WaitGroup c) (operations.Composed (Go j)) r s on_a on_b f g p q v e = absurd (no_go c v)
same_operation d (kinds.WaitGroup k) (operations.WaitGroup c) (operations.WaitGroup b) r s on_a on_b f g p q v e = alone_same d (kinds.WaitGroup k) (operations.WaitGroup c) (operations.WaitGroup b) r s on_a on_b f g p q v e
same_operation d (kinds.WaitGroup k) a b r s on_a on_b f g p q v e = not_both (has_among d.plan.objects (kinds.WaitGroup k) a) (has_among d.plan.objects (kinds.WaitGroup k) b) refl on_a on_b
same_operation d kind a b r s on_a on_b f g p q v e = alone_same d kind a b r s on_a on_b f g p q v e

same_call : (d : Draft) (o : Option Declared) (b c : Call) (r s : Option (List ℕ)) → names_object d.plan.objects o b ≡ true → names_object d.plan.objects o c ≡ true → names_second d b.operation r ≡ true → names_second d c.operation s ≡ true
    → is_call b ≡ true → is_call c ≡ true → verb_of b.operation ≡ verb_of c.operation → behind r b.operation ≡ behind s c.operation → (b ≡ c) × (r ≡ s)
same_call d None b c r s on_b on_c f g p q v e = absurd cc
same_call d (Some found) b c r s on_b on_c f g p q v e =
    let has = λ (call : Call) (on : names_object d.plan.objects (Some found) call ≡ true). (both (eqb found.place call.object) (has_among d.plan.objects found.kind call.operation) on).1 in
    let same = same_operation d found.kind b.operation c.operation r s (has b on_b) (has c on_c) f g p q v e in (
      ap (λ (n : ℕ). record { object = n; operation = b.operation }) (named d.plan.objects (Some found) b c on_b on_c) ∙ ap (λ (x : Operation). record { object = c.object; operation = x }) same.0,
      same.1,
    )

-- ---- objects

number_is : (most m n : ℕ) → nat_le m most ≡ true → nat_le n most ≡ true → most < 2 ^ 64 → decimal m ∷ [] ≡ decimal n ∷ [] → m ≡ n
number_is most m n p q small e = decimal_injective m n (omega (arith, leb-true m most p)) (omega (arith, leb-true n most q)) (heads (decimal m) (decimal n) [] [] e).0

size_is : (m n : ℕ) → is_weight MAX_SIZE m ≡ true → is_weight MAX_SIZE n ≡ true → decimal m ∷ [] ≡ decimal n ∷ [] → m ≡ n
size_is m n p q e = decimal_injective m n (weight_small m p) (weight_small n q) (heads (decimal m) (decimal n) [] [] e).0

amount_is : (y z : ℤ) → is_amount y ≡ true → is_amount z ≡ true → signed_decimal y ∷ [] ≡ signed_decimal z ∷ [] → y ≡ z
amount_is y z p q e = sym (amount_spelled y p) ∙ ap signed_of (heads (signed_decimal y) (signed_decimal z) [] [] e).0 ∙ amount_spelled z q

-- where the first of them is a name, it is the same, and so is the place of what it names
named_alike : (d : Draft) (k l : ObjectKind) (i j : ℕ) (r s : Option (List ℕ)) (xs ys : List (List ℕ)) → Refers d k i r → Refers d l j s → option_to_list r ++ xs ≡ option_to_list s ++ ys → (i ≡ j) × (r ≡ s) × (xs ≡ ys)
named_alike d k l i j r s xs ys p q e =
    let words = heads p.name q.name xs ys (sym (ap (λ (x : Option (List ℕ)). option_to_list x ++ xs) p.is) ∙ e ∙ ap (λ (x : Option (List ℕ)). option_to_list x ++ ys) q.is) in
    let found = some_is p.found q.found (sym p.found_is ∙ ap (declared d) words.0 ∙ q.found_is) in (
      sym p.place_is ∙ ap (λ (x : Declared). x.place) found ∙ q.place_is,
      p.is ∙ ap (λ (n : List ℕ). Some n) words.0 ∙ sym q.is,
      words.1,
    )

-- of an object that refers to none, its numbers say what it is
plain : (k l : ObjectKind) → reference_of k ≡ None → is_kind k ≡ true → is_kind l ≡ true → word_of k ≡ word_of l → kind_parameters k ≡ kind_parameters l → k ≡ l
plain kinds.Map kinds.Map none p q w e = refl
plain (kinds.Atomic k) (kinds.Atomic l) none p q w e = cc
plain kinds.Mutex kinds.Mutex none p q w e = refl
plain kinds.RwMutex kinds.RwMutex none p q w e = refl
plain (kinds.WaitGroup m) (kinds.WaitGroup n) none p q w e = ap (λ (x : ℕ). kinds.WaitGroup x) (number_is MAX_AMOUNT m n p q (omega arith) e)
plain (kinds.OnceFunc m) (kinds.OnceFunc n) none p q w e = ap (λ (x : ℕ). kinds.OnceFunc x) (number_is MAX_CODE m n p q (omega arith) e)
plain (kinds.OnceValue m) (kinds.OnceValue n) none p q w e = ap (λ (x : ℕ). kinds.OnceValue x) (number_is MAX_VALUE m n p q (omega arith) e)
plain kinds.Pool kinds.Pool none p q w e = refl
plain (kinds.Sema m) (kinds.Sema n) none p q w e = ap (λ (x : ℕ). kinds.Sema x) (size_is m n p q e)
plain kinds.Var kinds.Var none p q w e = refl
plain (kinds.Cond m) l none p q w e = something none
plain (kinds.Once a z) l none p q w e = something none
plain (kinds.Flight a z) l none p q w e = something none
plain k l none p q w e = other_kinds (word_of k) (word_of l) refl w

plain_kind : (d : Draft) (k l : ObjectKind) (r s : Option (List ℕ)) → reference_of k ≡ None → reference_of l ≡ None → names_reference d k r ≡ true → names_reference d l s ≡ true → is_kind k ≡ true → is_kind l ≡ true → word_of k ≡ word_of l
    → option_to_list r ++ kind_parameters k ≡ option_to_list s ++ kind_parameters l → (k ≡ l) × (r ≡ s)
plain_kind d k l r s absent none f g p q w e =
    let first = no_reference d k r absent f in
    let second = no_reference d l s none g in
    (plain k l absent p q w (without r s (kind_parameters k) (kind_parameters l) first second e), first ∙ sym second)

-- the words of an object's line say what it is, and to what it refers
same_kind : (d : Draft) (k l : ObjectKind) (r s : Option (List ℕ)) → names_reference d k r ≡ true → names_reference d l s ≡ true → is_kind k ≡ true → is_kind l ≡ true → word_of k ≡ word_of l
    → option_to_list r ++ kind_parameters k ≡ option_to_list s ++ kind_parameters l → (k ≡ l) × (r ≡ s)
same_kind d (kinds.Cond i) (kinds.Cond j) r s f g p q w e =
    let alike = named_alike d (kinds.Cond i) (kinds.Cond j) i j r s [] [] (some_reference d (kinds.Cond i) i r refl f) (some_reference d (kinds.Cond j) j s refl g) e in
    (ap (λ (n : ℕ). kinds.Cond n) alike.0, alike.1)
same_kind d (kinds.Once i y) (kinds.Once j z) r s f g p q w e =
    let alike = named_alike d (kinds.Once i y) (kinds.Once j z) i j r s (signed_decimal y ∷ []) (signed_decimal z ∷ []) (some_reference d (kinds.Once i y) i r refl f) (some_reference d (kinds.Once j z) j s refl g) e in
    (ap (λ (n : ℕ). kinds.Once n y) alike.0 ∙ ap (λ (x : ℤ). kinds.Once j x) (amount_is y z p q alike.2), alike.1)
same_kind d (kinds.Flight i y) (kinds.Flight j z) r s f g p q w e =
    let alike = named_alike d (kinds.Flight i y) (kinds.Flight j z) i j r s (signed_decimal y ∷ []) (signed_decimal z ∷ []) (some_reference d (kinds.Flight i y) i r refl f) (some_reference d (kinds.Flight j z) j s refl g) e in
    (ap (λ (n : ℕ). kinds.Flight n y) alike.0 ∙ ap (λ (x : ℤ). kinds.Flight j x) (amount_is y z p q alike.2), alike.1)
same_kind d kinds.Map kinds.Map r s f g p q w e = plain_kind d kinds.Map kinds.Map r s refl refl f g p q w e
same_kind d (kinds.Atomic k) (kinds.Atomic l) r s f g p q w e = plain_kind d (kinds.Atomic k) (kinds.Atomic l) r s refl refl f g p q w e
same_kind d kinds.Mutex kinds.Mutex r s f g p q w e = plain_kind d kinds.Mutex kinds.Mutex r s refl refl f g p q w e
same_kind d kinds.RwMutex kinds.RwMutex r s f g p q w e = plain_kind d kinds.RwMutex kinds.RwMutex r s refl refl f g p q w e
same_kind d (kinds.WaitGroup m) (kinds.WaitGroup n) r s f g p q w e = plain_kind d (kinds.WaitGroup m) (kinds.WaitGroup n) r s refl refl f g p q w e
same_kind d (kinds.OnceFunc m) (kinds.OnceFunc n) r s f g p q w e = plain_kind d (kinds.OnceFunc m) (kinds.OnceFunc n) r s refl refl f g p q w e
same_kind d (kinds.OnceValue m) (kinds.OnceValue n) r s f g p q w e = plain_kind d (kinds.OnceValue m) (kinds.OnceValue n) r s refl refl f g p q w e
same_kind d kinds.Pool kinds.Pool r s f g p q w e = plain_kind d kinds.Pool kinds.Pool r s refl refl f g p q w e
same_kind d (kinds.Sema m) (kinds.Sema n) r s f g p q w e = plain_kind d (kinds.Sema m) (kinds.Sema n) r s refl refl f g p q w e
same_kind d kinds.Var kinds.Var r s f g p q w e = plain_kind d kinds.Var kinds.Var r s refl refl f g p q w e
same_kind d k l r s f g p q w e = other_kinds (word_of k) (word_of l) refl w

same_arguments : (d : Draft) (l m : Line) → d.plan.workers ≤ MAX_WORKERS → may_follow d l ≡ true → may_follow d m ≡ true → keyword_of l ≡ keyword_of m → arguments_of l ≡ arguments_of m → l ≡ m
same_arguments d (lines.Object o r) (lines.Object p s) few f g k e =
    let words = heads o.name p.name (option_to_list r ++ kind_parameters o.kind) (option_to_list s ++ kind_parameters p.kind) e in
    let first = object_follows d o r f in
    let second = object_follows d p s g in
    let word : word_of o.kind ≡ word_of p.kind = cc in
    let kind = same_kind d o.kind p.kind r s first.reference second.reference first.kind second.kind word words.1 in
    ap (λ (n : List ℕ). lines.Object (record { name = n; kind = o.kind }) r) words.0
    ∙ ap (λ (x : ObjectKind). lines.Object (record { name = p.name; kind = x }) r) kind.0
    ∙ ap (λ (x : Option (List ℕ)). lines.Object p x) kind.1
same_arguments d (lines.Dormant i) (lines.Dormant j) few f g k e =
    let first = (dormant_follows d i f).worker_is in
    let second = (dormant_follows d j g).worker_is in
    ap (λ (n : ℕ). lines.Dormant n) (decimal_injective i j (omega (arith, ltb-true i d.plan.workers first)) (omega (arith, ltb-true j d.plan.workers second)) (heads (decimal i) (decimal j) [] [] e).0)
same_arguments d (lines.Worker i) (lines.Worker j) few f g k e =
    ap (λ (n : ℕ). lines.Worker n) (decimal_injective i j (omega (arith, ltb-true i d.plan.workers f)) (omega (arith, ltb-true j d.plan.workers g)) (heads (decimal i) (decimal j) [] [] e).0)
same_arguments d (lines.Schedule ts) (lines.Schedule us) few f g k e =
    ap (λ (xs : List Turn). lines.Schedule xs) (same_turns d.plan.workers ts us few (schedule_follows d ts f).items (schedule_follows d us g).items e)
same_arguments d (lines.Call n r c) (lines.Call m s b) few f g k e =
    let words = heads n m (behind r c.operation) (behind s b.operation) e in
    let first = call_follows d n r c f in
    let second = call_follows d m s b g in
    let on : names_object d.plan.objects (declared d n) b ≡ true = subst (λ (x : List ℕ). names_object d.plan.objects (declared d x) b ≡ true) (sym words.0) second.on in
    let verb : verb_of c.operation ≡ verb_of b.operation = cc in
    let same = same_call d (declared d n) c b r s first.on on first.second second.second first.call second.call verb words.1 in
    ap (λ (x : List ℕ). lines.Call x r c) words.0 ∙ ap (λ (x : Option (List ℕ)). lines.Call m x c) same.1 ∙ ap (λ (x : Call). lines.Call m s x) same.0
same_arguments d l m few f g k e = absurd cc

-- the words determine the line
pub same_line : (d : Draft) (l m : Line) → d.plan.workers ≤ MAX_WORKERS → may_follow d l ≡ true → may_follow d m ≡ true → spelled l ≡ spelled m → l ≡ m
same_line d l m few f g e =
    let words = heads (keyword_word (keyword_of l)) (keyword_word (keyword_of m)) (arguments_of l) (arguments_of m) e in
    same_arguments d l m few f g (same_keyword (keyword_of l) (keyword_of m) words.0) words.1
