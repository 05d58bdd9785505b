-- What a line that may follow says, part by part.
use Rattle.std.proofs.Common.{◌≡◌, ℕ, ◌+◌, true, false, ◌&&◌, not, List, [], ◌∷◌, length, Option}
use Rattle.std.specs.Prelude.{is_some, nat_lt, nat_le, count_by}
use Rattle.std.specs.List.{list_all}
use Rattle.sync_types.specs.Name.{is_name}
use Rattle.script_calls.specs.declared.call.Call.{Call}
use Rattle.workload.specs.declared.limits.TheConstants.{MAX_ACCESSES, MAX_ALL_TRIES, MAX_CALLS, MAX_KEYS, MAX_RANGES, MAX_TURNS}
use Rattle.workload.specs.declared.object.ObjectLine.{ObjectLine}
use Rattle.workload.specs.declared.line.Line.TheVariants as lines
use Rattle.workload.specs.declared.turn.Turn.{Turn}
use Rattle.workload.specs.Plan.{word_of, is_dormant}
use Rattle.workload.specs.Draft.{Draft, declared, names_reference, is_kind, count_of, limit_of, call_count, key_count, range_count, is_range, try_count, tries_of, access_count, is_access, keys_of, names_object, names_second, is_call, is_item, may_start, may_follow}
use Rattle.workload.proofs.Passing.{both, not_true}

pub record ObjectFollows (d : Draft) (o : ObjectLine) (to : Option (List ℕ)) : Type 0 where
  pub name : is_name o.name ≡ true
  pub new : is_some (declared d o.name) ≡ false
  pub reference : names_reference d o.kind to ≡ true
  pub kind : is_kind o.kind ≡ true
  pub room : nat_lt (count_of (word_of o.kind) d.plan.objects) (limit_of (word_of o.kind)) ≡ true

pub object_follows : (d : Draft) (o : ObjectLine) (to : Option (List ℕ)) → may_follow d (lines.Object o to) ≡ true → ObjectFollows d o to
object_follows d o to e =
    let room = nat_lt (count_of (word_of o.kind) d.plan.objects) (limit_of (word_of o.kind)) in
    let new = not (is_some (declared d o.name)) in
    let refers = names_reference d o.kind to in
    let p1 = both (is_name o.name) (new && (refers && (is_kind o.kind && room))) e in
    let p2 = both new (refers && (is_kind o.kind && room)) p1.1 in
    let p3 = both refers (is_kind o.kind && room) p2.1 in
    let p4 = both (is_kind o.kind) room p3.1 in
    record { name = p1.0; new = not_true (is_some (declared d o.name)) p2.0; reference = p3.0; kind = p4.0; room = p4.1 }

pub record DormantFollows (d : Draft) (worker : ℕ) : Type 0 where
  pub worker_is : nat_lt worker d.plan.workers ≡ true
  pub new : is_dormant d.plan worker ≡ false

pub dormant_follows : (d : Draft) (worker : ℕ) → may_follow d (lines.Dormant worker) ≡ true → DormantFollows d worker
dormant_follows d worker e =
    let parts = both (nat_lt worker d.plan.workers) (not (is_dormant d.plan worker)) e in
    record { worker_is = parts.0; new = not_true (is_dormant d.plan worker) parts.1 }

pub record ScheduleFollows (d : Draft) (turns : List Turn) : Type 0 where
  pub some : nat_lt 0 (length turns) ≡ true
  pub items : list_all (is_item d.plan.workers) turns ≡ true
  pub room : nat_le (length d.plan.schedule + length turns) MAX_TURNS ≡ true

pub schedule_follows : (d : Draft) (turns : List Turn) → may_follow d (lines.Schedule turns) ≡ true → ScheduleFollows d turns
schedule_follows d turns e =
    let items = list_all (is_item d.plan.workers) turns in
    let room = nat_le (length d.plan.schedule + length turns) MAX_TURNS in
    let first = both (nat_lt 0 (length turns)) (items && room) e in
    let second = both items room first.1 in
    record { some = first.0; items = second.0; room = second.1 }

pub record CallFollows (d : Draft) (object : List ℕ) (behind : Option (List ℕ)) (made : Call) : Type 0 where
  pub current : is_some d.current ≡ true
  pub name : is_name object ≡ true
  pub on : names_object d.plan.objects (declared d object) made ≡ true
  pub second : names_second d made.operation behind ≡ true
  pub call : is_call made ≡ true
  pub start : may_start d made.operation ≡ true
  pub room : nat_lt (call_count d.plan.scripts) MAX_CALLS ≡ true
  pub keys : nat_le (key_count d.plan.scripts (keys_of made)) MAX_KEYS ≡ true
  pub ranges : nat_le (range_count d.plan.scripts + count_by is_range (made ∷ [])) MAX_RANGES ≡ true
  pub tries : nat_le (try_count d.plan.scripts + tries_of made.operation) MAX_ALL_TRIES ≡ true
  pub accesses : nat_le (access_count d.plan.scripts + count_by is_access (made ∷ [])) MAX_ACCESSES ≡ true

pub call_follows : (d : Draft) (name : List ℕ) (second : Option (List ℕ)) (call : Call) → may_follow d (lines.Call name second call) ≡ true → CallFollows d name second call
call_follows d name second call e =
    let on = names_object d.plan.objects (declared d name) call in
    let behind = names_second d call.operation second in
    let start = may_start d call.operation in
    let room = nat_lt (call_count d.plan.scripts) MAX_CALLS in
    let keys = nat_le (key_count d.plan.scripts (keys_of call)) MAX_KEYS in
    let ranges = nat_le (range_count d.plan.scripts + count_by is_range (call ∷ [])) MAX_RANGES in
    let tries = nat_le (try_count d.plan.scripts + tries_of call.operation) MAX_ALL_TRIES in
    let accesses = nat_le (access_count d.plan.scripts + count_by is_access (call ∷ [])) MAX_ACCESSES in
    let p1 = both (is_some d.current) (is_name name && (on && (behind && (is_call call && (start && (room && (keys && (ranges && (tries && accesses))))))))) e in
    let p2 = both (is_name name) (on && (behind && (is_call call && (start && (room && (keys && (ranges && (tries && accesses)))))))) p1.1 in
    let p3 = both on (behind && (is_call call && (start && (room && (keys && (ranges && (tries && accesses))))))) p2.1 in
    let p4 = both behind (is_call call && (start && (room && (keys && (ranges && (tries && accesses)))))) p3.1 in
    let p5 = both (is_call call) (start && (room && (keys && (ranges && (tries && accesses))))) p4.1 in
    let p6 = both start (room && (keys && (ranges && (tries && accesses)))) p5.1 in
    let p7 = both room (keys && (ranges && (tries && accesses))) p6.1 in
    let p8 = both keys (ranges && (tries && accesses)) p7.1 in
    let p9 = both ranges (tries && accesses) p8.1 in
    let p10 = both tries accesses p9.1 in
    record { current = p1.0; name = p2.0; on = p3.0; second = p4.0; call = p5.0; start = p6.0; room = p7.0; keys = p8.0; ranges = p9.0; tries = p10.0; accesses = p10.1 }
