-- Each event lets its own caller in or out, or begins or ends its run, and nobody else's.
use Rattle.std.proofs.Common.{◌≡◌, ◌≢◌, ℕ, zero, suc, ◌==◌, ◌<◌, Bool, true, false, cond, List, [], ◌∷◌, length, replicate, set, Option, Some, None, refl, sym, ap, ◌∙◌, arith, length-set}
use Rattle.std.specs.Prelude.{nat_lt, unwrap_or}
use Rattle.std.specs.List.{slice_get}
use Rattle.std.proofs.lemmas.Bool.{ltb-true, lt-ltb}
use Rattle.std.proofs.lemmas.Bool.Decides.{nat_tests}
use Rattle.wait_cores.specs.declared.once.OnceEvent.{OnceEvent}
use Rattle.wait_cores.specs.declared.once.OnceEvent.TheVariants.{Begin, End, Leave}
use Rattle.wait_cores.specs.declared.once.OnceReply.{OnceReply}
use Rattle.wait_cores.specs.declared.once.OnceReply.TheVariants as reply
use Rattle.wait_cores.specs.declared.once.OnceProgress.{OnceProgress}
use Rattle.wait_cores.specs.declared.once.OnceProgress.TheVariants.{NotRun, Running, Ended}
use Rattle.wait_cores.specs.declared.once.OncePlace.{OncePlace}
use Rattle.wait_cores.specs.declared.once.OncePlace.TheVariants.{Out, Waiting, Released}
use Rattle.wait_cores.specs.OnceMachine.{OnceState, next, made, begin_from, come_to, end_by, leave_with, callers_of, place_of, place_in, runner_in}
use Rattle.wait_cores.specs.OnceStanding.{waits_at, runs_at, runs_in, waits_after, runs_after, answers, answers_begin, answers_end, answers_leaving}
use Rattle.wait_cores.proofs.Places.{get-set_other, get-set_within}

is_self : (c : ℕ) → (c == c) ≡ true
is_self c = grind (arith, nat_tests)

is_other : (c d : ℕ) → c ≢ d → (d == c) ≡ false
is_other c d ne = grind (arith, nat_tests)

not_other : (runner c d : ℕ) → c ≢ d → (runner == d) ≡ true → (runner == c) ≡ false
not_other runner c d ne same = grind (arith, nat_tests)

abbrev in_at : List Bool → ℕ → Bool
in_at waits caller = unwrap_or (slice_get waits caller) false

in_out : (waits : List Bool) (c : ℕ) → in_at (set waits c false) c ≡ false
in_out [] c = refl
in_out (w ∷ waits) zero = refl
in_out (w ∷ waits) (suc c) = in_out waits c

in_other : (waits : List Bool) (c d : ℕ) (w : Bool) → c ≢ d → in_at (set waits d w) c ≡ in_at waits c
in_other waits c d w ne = ap (λ (o : Option Bool). unwrap_or o false) (get-set_other waits d c w ne)

in_first : (callers c : ℕ) → in_at (replicate callers false) c ≡ false
in_first zero c = refl
in_first (suc callers) zero = refl
in_first (suc callers) (suc c) = in_first callers c

module _ {T : Type 0} where
  -- what one event does to its own caller and to others, and to the number of callers
  record Stands (s : OnceState T) (d : ℕ) (event : OnceEvent T) (n : OnceState T × OnceReply T) : Type 0 where
    own_wait : waits_at n.0 d ≡ waits_after (waits_at s d) n.1
    own_run : runs_at n.0 d ≡ runs_after (runs_at s d) n.1
    others_wait : (c : ℕ) → c ≢ d → waits_at n.0 c ≡ waits_at s c
    others_run : (c : ℕ) → c ≢ d → runs_at n.0 c ≡ runs_at s c
    callers : callers_of n.0 ≡ callers_of s

  stands_still : (s : OnceState T) (d : ℕ) (event : OnceEvent T) → Stands s d event (s, reply.Still)
  stands_still s d event = record { own_wait = refl; own_run = refl; others_wait = λ c ne. refl; others_run = λ c ne. refl; callers = refl }

  stands_come : (p : OnceProgress T) (s : OnceState T) (d : ℕ) → s.progress ≡ p → d < length s.waits → Stands s d Begin (come_to p s d)
  stands_come NotRun s d is within = record {
    own_wait = refl;
    own_run = is_self d;
    others_wait = λ c ne. refl;
    others_run = λ c ne. is_other c d ne ∙ sym (ap (λ (p : OnceProgress T). runs_in p c) is);
    callers = refl;
  }
  stands_come (Running other) s d is within = record {
    own_wait = ap (λ (o : Option Bool). unwrap_or o false) (get-set_within s.waits d true within);
    own_run = refl;
    others_wait = λ c ne. in_other s.waits c d true ne;
    others_run = λ c ne. refl;
    callers = length-set s.waits d true;
  }
  stands_come (Ended kept) s d is within = record { own_wait = refl; own_run = refl; others_wait = λ c ne. refl; others_run = λ c ne. refl; callers = refl }

  stands_begin : (p : OncePlace) (s : OnceState T) (d : ℕ) → d < length s.waits → Stands s d Begin (begin_from p s d)
  stands_begin Out s d within = stands_come s.progress s d refl within
  stands_begin Waiting s d within = stands_still s d Begin
  stands_begin Released s d within = stands_still s d Begin

  stands_end : (b : Bool) (runner : ℕ) (s : OnceState T) (d : ℕ) (kept : T) → (runner == d) ≡ b → ((c : ℕ) → runs_at s c ≡ (runner == c))
      → Stands s d (End kept) (cond {A = OnceState T × OnceReply T} b (record s { progress = Ended kept }, reply.Ended) (s, reply.Still))
  stands_end true runner s d kept same runs = record {
    own_wait = refl;
    own_run = refl;
    others_wait = λ c ne. refl;
    others_run = λ c ne. sym (not_other runner c d ne same) ∙ sym (runs c);
    callers = refl;
  }
  stands_end false runner s d kept same runs = stands_still s d (End kept)

  stands_end_by : (p : OnceProgress T) (s : OnceState T) (d : ℕ) (kept : T) → s.progress ≡ p → Stands s d (End kept) (end_by (runner_in p) s d kept)
  stands_end_by NotRun s d kept is = stands_still s d (End kept)
  stands_end_by (Running runner) s d kept is = stands_end (runner == d) runner s d kept refl (λ c. ap (λ (p : OnceProgress T). runs_in p c) is)
  stands_end_by (Ended old) s d kept is = stands_still s d (End kept)

  stands_leave : (p : OnceProgress T) (o : Option Bool) (s : OnceState T) (d : ℕ) → Stands s d Leave (leave_with p o s d)
  stands_leave (Ended kept) (Some true) s d = record {
    own_wait = in_out s.waits d;
    own_run = refl;
    others_wait = λ c ne. in_other s.waits c d false ne;
    others_run = λ c ne. refl;
    callers = length-set s.waits d false;
  }
  stands_leave (Ended kept) (Some false) s d = stands_still s d Leave
  stands_leave (Ended kept) None s d = stands_still s d Leave
  stands_leave NotRun o s d = stands_still s d Leave
  stands_leave (Running other) o s d = stands_still s d Leave

  stands_made : (s : OnceState T) (d : ℕ) (event : OnceEvent T) → d < length s.waits → Stands s d event (made s d event)
  stands_made s d Begin within = stands_begin (place_of s d) s d within
  stands_made s d (End kept) within = stands_end_by s.progress s d kept refl
  stands_made s d Leave within = stands_leave s.progress (slice_get s.waits d) s d

  stands_if : (b : Bool) (s : OnceState T) (d : ℕ) (event : OnceEvent T) → nat_lt d (callers_of s) ≡ b → Stands s d event (cond b (made s d event) (s, reply.Still))
  stands_if true s d event below = stands_made s d event (ltb-true d (length s.waits) below)
  stands_if false s d event below = stands_still s d event

  stands : (s : OnceState T) (d : ℕ) (event : OnceEvent T) → Stands s d event (next s d event)
  stands s d event = stands_if (nat_lt d (callers_of s)) s d event refl

  pub knows-own_wait : (s : OnceState T) (d : ℕ) (event : OnceEvent T) → waits_at (next s d event).0 d ≡ waits_after (waits_at s d) (next s d event).1
  knows-own_wait s d event = (stands s d event).own_wait

  pub knows-own_run : (s : OnceState T) (d : ℕ) (event : OnceEvent T) → runs_at (next s d event).0 d ≡ runs_after (runs_at s d) (next s d event).1
  knows-own_run s d event = (stands s d event).own_run

  pub knows-others_wait : (s : OnceState T) (c d : ℕ) (event : OnceEvent T) → c ≢ d → waits_at (next s d event).0 c ≡ waits_at s c
  knows-others_wait s c d event ne = (stands s d event).others_wait c ne

  pub knows-others_run : (s : OnceState T) (c d : ℕ) (event : OnceEvent T) → c ≢ d → runs_at (next s d event).0 c ≡ runs_at s c
  knows-others_run s c d event ne = (stands s d event).others_run c ne

  pub same-callers : (s : OnceState T) (d : ℕ) (event : OnceEvent T) → callers_of (next s d event).0 ≡ callers_of s
  same-callers s d event = (stands s d event).callers

  answer_come : (p : OnceProgress T) (s : OnceState T) (c : ℕ) → answers_begin false (come_to p s c).1 ≡ true
  answer_come NotRun s c = refl
  answer_come (Running other) s c = refl
  answer_come (Ended kept) s c = refl

  answer_waiting : (p : OnceProgress T) (s : OnceState T) (c : ℕ) → answers_begin true (begin_from (place_in p (Some true)) s c).1 ≡ true
  answer_waiting NotRun s c = refl
  answer_waiting (Running other) s c = refl
  answer_waiting (Ended kept) s c = refl

  answer_begin : (o : Option Bool) (s : OnceState T) (c : ℕ) → answers_begin (unwrap_or o false) (begin_from (place_in s.progress o) s c).1 ≡ true
  answer_begin (Some true) s c = answer_waiting s.progress s c
  answer_begin (Some false) s c = answer_come s.progress s c
  answer_begin None s c = answer_come s.progress s c

  answer_end : (b : Bool) (s a : OnceState T) → answers_end b (cond {A = OnceState T × OnceReply T} b (a, reply.Ended) (s, reply.Still)).1 ≡ true
  answer_end true s a = refl
  answer_end false s a = refl

  answer_end_by : (p : OnceProgress T) (s : OnceState T) (c : ℕ) (kept : T) → answers_end (runs_in p c) (end_by (runner_in p) s c kept).1 ≡ true
  answer_end_by NotRun s c kept = refl
  answer_end_by (Running runner) s c kept = answer_end (runner == c) s (record s { progress = Ended kept })
  answer_end_by (Ended old) s c kept = refl

  answer_leave : (p : OnceProgress T) (o : Option Bool) (s : OnceState T) (c : ℕ) → answers_leaving (leave_with p o s c).1 ≡ true
  answer_leave (Ended kept) (Some true) s c = refl
  answer_leave (Ended kept) (Some false) s c = refl
  answer_leave (Ended kept) None s c = refl
  answer_leave NotRun o s c = refl
  answer_leave (Running other) o s c = refl

  answer_made : (s : OnceState T) (c : ℕ) (event : OnceEvent T) → answers (waits_at s c) (runs_at s c) event (made s c event).1 ≡ true
  answer_made s c Begin = answer_begin (slice_get s.waits c) s c
  answer_made s c (End kept) = answer_end_by s.progress s c kept
  answer_made s c Leave = answer_leave s.progress (slice_get s.waits c) s c

  answer_if : (b : Bool) (s : OnceState T) (c : ℕ) (event : OnceEvent T) → b ≡ true → answers (waits_at s c) (runs_at s c) event (cond b (made s c event) (s, reply.Still)).1 ≡ true
  answer_if true s c event below = answer_made s c event
  answer_if false s c event below = cc

  pub knows-answers : (s : OnceState T) (c : ℕ) (event : OnceEvent T) → c < callers_of s → answers (waits_at s c) (runs_at s c) event (next s c event).1 ≡ true
  knows-answers s c event below = answer_if (nat_lt c (callers_of s)) s c event (lt-ltb c (callers_of s) below)

pub waits-first : (callers c : ℕ) → in_at (replicate callers false) c ≡ false
waits-first callers c = in_first callers c
