-- What the words of lines need of a workload holds of each that was read.
use Rattle.std.proofs.Common.{◌≡◌, ℕ, zero, suc, ◌+◌, ◌^◌, ◌<◌, ◌≤◌, Bool, true, false, ◌&&◌, List, [], ◌∷◌, ◌++◌, length, length-append, get_or, Option, Some, None, refl, sym, ap, subst, arith}
use Rattle.std.specs.Prelude.{is_some, nat_lt, nat_le, count_by, MatchOption}
use Rattle.std.proofs.lemmas.Bool.{ltb-false, ltb-true}
use Rattle.std.proofs.lemmas.List.{set_past}
use Rattle.std.proofs.lemmas.List.Folds.{sum_by-replicate}
use Rattle.std.proofs.lemmas.List.Sums.{get_or-le-sum_by, sum_by-set}
use Rattle.script_calls.specs.declared.call.Call.{Call}
use Rattle.sync_types.specs.Name.{is_name}
use Rattle.workload.specs.declared.keyword.Dialect.{Dialect}
use Rattle.workload.specs.declared.keyword.Dialect.TheVariants.{Plain}
use Rattle.workload.specs.declared.limits.TheConstants.{MAX_ACCESSES, MAX_ALL_TRIES, MAX_CALLS, MAX_KEYS, MAX_RANGES, MAX_WORKERS}
use Rattle.workload.specs.declared.line.Line.{Line}
use Rattle.workload.specs.declared.line.Line.TheVariants as lines
use Rattle.workload.specs.Draft.{Draft, access_count, call_count, declared, is_access, is_call, is_range, key_count, keys_of, may_follow, may_start, names_object, names_second, range_count, started, tries_of, try_count, with_call, with_line}
use Rattle.workload.specs.Keys.{keys_in}
use Rattle.workload.specs.Lines.{is_significant, lines_of, words_of}
use Rattle.workload.specs.Plan.{Plan}
use Rattle.workload.specs.Reads.{Continues, IsRead, Reads, ReadsOn}
use Rattle.record_text.proofs.Decimals.{both}
use Rattle.record_text.proofs.OneItem.{IsPlain}
use Rattle.record_text.proofs.PairLemmas.{AreNumbered}

-- a draft with few workers and few calls
pub record IsFew (plan : Plan) : Type 0 where
  pub some : 0 < plan.workers
  pub few : plan.workers ≤ MAX_WORKERS
  pub room : call_count plan.scripts ≤ MAX_CALLS

abbrev IsFewOf : Option Draft → Type 0
IsFewOf draft = MatchOption draft (Unit {0}) (λ d. IsFew d.plan)

-- there is room for one more call
room_for : (d : Draft) (name : List ℕ) (second : Option (List ℕ)) (call : Call) → may_follow d (lines.Call name second call) ≡ true → call_count d.plan.scripts < MAX_CALLS
room_for d name second call e =
    let on = names_object d.plan.objects (declared d name) call in
    let behind = names_second d call.operation second in
    let start = may_start d call.operation in
    let room = nat_lt (call_count d.plan.scripts) MAX_CALLS in
    let keys = nat_le (key_count d.plan.scripts (keys_of call)) MAX_KEYS in
    let ranges = nat_le (range_count d.plan.scripts + count_by is_range (call ∷ [])) MAX_RANGES in
    let tries = nat_le (try_count d.plan.scripts + tries_of call.operation) MAX_ALL_TRIES in
    let accesses = nat_le (access_count d.plan.scripts + count_by is_access (call ∷ [])) MAX_ACCESSES in
    let p1 = both (is_some d.current) (is_name name && (on && (behind && (is_call call && (start && (room && (keys && (ranges && (tries && accesses))))))))) e in
    let p2 = both (is_name name) (on && (behind && (is_call call && (start && (room && (keys && (ranges && (tries && accesses)))))))) p1.1 in
    let p3 = both on (behind && (is_call call && (start && (room && (keys && (ranges && (tries && accesses))))))) p2.1 in
    let p4 = both behind (is_call call && (start && (room && (keys && (ranges && (tries && accesses)))))) p3.1 in
    let p5 = both (is_call call) (start && (room && (keys && (ranges && (tries && accesses))))) p4.1 in
    let p6 = both start (room && (keys && (ranges && (tries && accesses)))) p5.1 in
    ltb-true (call_count d.plan.scripts) MAX_CALLS (both room (keys && (ranges && (tries && accesses))) p6.1).0

one_more : (current : Option ℕ) (call : Call) (scripts : List (List Call)) → call_count (with_call current call scripts) ≤ call_count scripts + 1
one_more None call scripts = omega arith
one_more (Some worker) call scripts = by (nat_lt worker (length scripts)) refl where
  by : (b : Bool) → nat_lt worker (length scripts) ≡ b → call_count (with_call (Some worker) call scripts) ≤ call_count scripts + 1
  by true h =
      let more = sum_by-set length scripts worker (get_or scripts worker [] ++ call ∷ []) [] (ltb-true worker (length scripts) h) in
      let one = length-append (get_or scripts worker []) (call ∷ []) in
      omega (arith, more, one)
  by false h =
      let same = ap call_count (set_past scripts worker (get_or scripts worker [] ++ call ∷ []) (ltb-false worker (length scripts) h)) in
      omega (arith, same)

line_few : (d : Draft) (line : Line) → may_follow d line ≡ true → IsFew d.plan → IsFew (with_line d line).plan
line_few d (lines.Object object reference) may h = record { some = h.some; few = h.few; room = h.room }
line_few d (lines.Dormant worker) may h = record { some = h.some; few = h.few; room = h.room }
line_few d (lines.Worker worker) may h = h
line_few d (lines.Schedule schedule) may h = record { some = h.some; few = h.few; room = h.room }
line_few d (lines.Call name second call) may h =
    record { some = h.some; few = h.few; room = let room = room_for d name second call may in let more = one_more d.current call d.plan.scripts in omega (arith, room, more) }

started_few : (workers : ℕ) → 0 < workers → workers ≤ MAX_WORKERS → IsFew (started workers).plan
started_few workers some few = record { some = some; few = few; room = let none = sum_by-replicate (length {A = Call}) workers [] in omega (arith, none) }

says_few : (dialect : Dialect) (before : Option Draft) (words : List (List ℕ)) (after : Option Draft) → IsFewOf before → Continues dialect before words after → IsFewOf after
says_few dialect None words after few h = subst IsFewOf (sym h.4) (started_few h.0 h.1 h.2)
says_few dialect (Some d) words after few h = subst IsFewOf (sym h.3) (line_few d h.0 h.1 few)

read_few : (dialect : Dialect) (before : Option Draft) (line : List ℕ) (after : Option Draft) → IsFewOf before → IsRead dialect before line after → IsFewOf after
read_few dialect before line after few h =
    elim (is_significant (words_of line)) as (λ b. is_significant (words_of line) ≡ b → IsFewOf after) [
      | true ↦ λ t. says_few dialect before (words_of line) after few (h.continues t)
      | false ↦ λ f. subst IsFewOf (sym (h.silent f)) few
    ] refl

reads_few : (dialect : Dialect) (lines : List (List ℕ)) (before : Option Draft) (plan : Plan) → IsFewOf before → ReadsOn dialect lines before plan → IsFew plan
reads_few dialect [] None plan few h = absurd h
reads_few dialect [] (Some d) plan few h = subst IsFew (sym h) few
reads_few dialect (line ∷ lines) before plan few h = reads_few dialect lines h.0 plan (read_few dialect before line h.0 few h.1) h.2

get_past : (scripts : List (List Call)) (worker : ℕ) → length scripts ≤ worker → get_or scripts worker [] ≡ []
get_past [] worker past = refl
get_past (s ∷ scripts) zero past = absurd (omega (arith, past))
get_past (s ∷ scripts) (suc worker) past = get_past scripts worker (omega (arith, past))

pub few_calls : (scripts : List (List Call)) (worker : ℕ) → call_count scripts ≤ MAX_CALLS → length (get_or scripts worker []) ≤ MAX_CALLS
few_calls scripts worker room = by (nat_lt worker (length scripts)) refl where
  by : (b : Bool) → nat_lt worker (length scripts) ≡ b → length (get_or scripts worker []) ≤ MAX_CALLS
  by true h = let low = get_or-le-sum_by length scripts worker [] (ltb-true worker (length scripts) h) in omega (arith, low, room)
  by false h = let none = ap length (get_past scripts worker (ltb-false worker (length scripts) h)) in omega (arith, none)

pub short_script : (scripts : List (List Call)) (worker : ℕ) → call_count scripts ≤ MAX_CALLS → length (get_or scripts worker []) < 2 ^ 64
short_script scripts worker room = omega (arith, few_calls scripts worker room)

pub reads_plain : (bytes : List ℕ) (plan : Plan) → Reads bytes plan → AreNumbered (keys_in plan.scripts) → IsPlain plan
reads_plain bytes plan reads numbered =
    let few = reads_few Plain (lines_of bytes) None plan tt reads.lines in
    record { some = few.some; few = few.few; short = λ worker. short_script plan.scripts worker few.room; keys = numbered }
