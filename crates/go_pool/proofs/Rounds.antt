-- How the rounds of a call's loop add up: each makes events at parts, and takes nothing in.
use Rattle.std.proofs.Common.{◌≡◌, ℕ, ◌+◌, [], ◌++◌, List, None, Option, refl, ◌∙◌, subst, arith, le_refl, ap, sym}
use Rattle.std.proofs.lemmas.List.{map-append}
use Rattle.sync_model.specs.declared.answer.Answer.{Answer}
use Rattle.sync_model.specs.declared.answer.Answer.TheVariants.{Done, Halted}
use Rattle.sync_model.specs.Front.{Front, SameCounts}
use Rattle.sync_model.specs.Note.{Holding}
use Rattle.ruled_object.specs.Growth.{KeepsNote, MeetsHalt, halt_before}
use Rattle.go_pool.specs.declared.pass.PoolPass.{PoolPass}
use Rattle.go_pool.specs.declared.pool.Pool.{Pool}
use Rattle.go_pool.specs.Pools.{Deeds, PartDeeds, Placed, deeds_at, all_of, AreDoneAt, parts_of, number_of, left_of, IsPassOf, IsOneLess, SamePass, Did, Grows}
use Rattle.go_pool.proofs.PoolGrowth.{grows_both, grows_none, grows_as, last_halt, last_meets}
use Rattle.go_pool.proofs.Seats.{pass_as}

meets_on : {A : Type 0} (es fs : List Placed) (answer : Answer A) → halt_before (all_of es) ≡ None → MeetsHalt (all_of fs) answer → MeetsHalt (all_of (es ++ fs)) answer
meets_on es fs (Done given) free meets = last_halt es fs free meets
meets_on es fs (Halted misuse) free meets = last_meets es fs misuse meets

module _ {N H : Type 0} (pool : Pool N H) where
  -- Rounds made these entries, which did what is said here. None met a halt, and nothing was taken in.
  pub record SoFar (Are : PartDeeds → Type 0) (old : PoolPass N) (from : Front) (pass : PoolPass N) (to : Front) : Type 0 where
    pub es : List Placed
    pub grows : Grows pool old from es pass to
    pub are : Are (deeds_at es)
    pub free : halt_before (all_of es) ≡ None
    pub front : SameCounts to from

  module _ {Are : PartDeeds → Type 0} (old mid new : PoolPass N) (from between to : Front) (before : SoFar Are old from mid between) (fs : List Placed) (grows : Grows pool mid between fs new to) where
    -- what a round did stands behind what those before it did
    pub deeds_on : deeds_at (before.es ++ fs) ≡ deeds_at before.es ++ deeds_at fs
    deeds_on = map-append (λ (q : Placed). (q.part, q.placed.entry.deed)) before.es fs

    -- a round is the last of its call, whose answer it tells
    pub ends : {A : Type 0} (spells : Deeds → Answer A → Type 0) (answer : Answer A) (deeds : Deeds) → spells deeds answer → AreDoneAt (parts_of pool) (number_of old) deeds (deeds_at before.es ++ deeds_at fs) → MeetsHalt (all_of fs) answer
        → Did pool spells old from answer new to
    ends spells answer deeds spelt done meets = record {
      deeds = deeds;
      entries = before.es ++ fs;
      grows = grows_both pool old mid new before.es fs from between to before.grows grows;
      done = subst (AreDoneAt (parts_of pool) (number_of old) deeds) (sym deeds_on) done;
      spelt = spelt;
      halted = meets_on before.es fs answer before.free meets;
    }

module _ {N H : Type 0} (at : H → N → Type 0) (own : N → Option Holding) (front : N → Front) (pool : Pool N H) where
  -- what holds before each round of a call that began with this pass and this note
  pub record AtRound (Are : PartDeeds → Type 0) (old : PoolPass N) (first : N) (pass : PoolPass N) (note : N) : Type 0 where
    pub is : IsPassOf pool pass
    pub less : IsOneLess old pass
    pub keeps : KeepsNote at own front first note
    pub so_far : SoFar pool Are old (front first) pass (front note)

  -- no round yet: the pass is good for one call less
  pub first_round : {Are : PartDeeds → Type 0} (old spent : PoolPass N) (note : N) → IsPassOf pool old → spent.number ≡ old.number → spent.parts ≡ old.parts → left_of spent + 1 ≡ left_of old → Are [] → AtRound Are old note spent note
  first_round old spent note is number parts left are = record {
    is = pass_as pool old spent is number parts;
    less = (number, left);
    keeps = record { home = λ home here. here; kept = refl; rises = ((λ k. omega arith), le_refl (front note).time) };
    so_far = record { es = []; grows = grows_as pool old spent spent [] (front note) (front note) number parts (grows_none pool spent (front note)); are = are; free = refl; front = refl };
  }

  -- one round more
  pub next_round : {Are Later : PartDeeds → Type 0} (old mid new : PoolPass N) (first between note : N) → AtRound Are old first mid between → IsPassOf pool new → SamePass mid new
      → ((one two three : N) → KeepsNote at own front one two → KeepsNote at own front two three → KeepsNote at own front one three) → KeepsNote at own front between note
      → (fs : List Placed) → Grows pool mid (front between) fs new (front note) → halt_before (all_of fs) ≡ None → SameCounts (front note) (front between) → ((ds : PartDeeds) → Are ds → Later (ds ++ deeds_at fs)) → AtRound Later old first new note
  next_round {Are} {Later} old mid new first between note before is same keeps_on keeps fs grows free taken later = record {
    is = is;
    less = (same.0 ∙ before.less.0, ap (λ (n : ℕ). n + 1) same.1 ∙ before.less.1);
    keeps = keeps_on first between note before.keeps keeps;
    so_far = record {
      es = before.so_far.es ++ fs;
      grows = grows_both pool old mid new before.so_far.es fs (front first) (front between) (front note) before.so_far.grows grows;
      are = subst Later (sym (deeds_on pool old mid new (front first) (front between) (front note) before.so_far fs grows)) (later (deeds_at before.so_far.es) before.so_far.are);
      free = last_halt before.so_far.es fs before.so_far.free free;
      front = taken ∙ before.so_far.front;
    };
  }
