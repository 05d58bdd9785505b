-- A call of several stages, from its first on.
use Rattle.std.proofs.Common.{◌≡◌, ℕ, ◌<◌, length, arith, Bool, true, false, List, [], ◌∷◌, ◌++◌, Option, Result, Ok, Err, refl, sym, ap, subst, ◌∙◌}
use Rattle.sync_types.specs.declared.misuse.Misuse.{Misuse}
use Rattle.sync_model.specs.declared.answer.Answer.{Answer}
use Rattle.sync_model.specs.declared.answer.Answer.TheVariants.{Done, Halted}
use Rattle.sync_model.specs.declared.journal.Deed.{Deed}
use Rattle.sync_model.specs.Front.{Front, SameCounts}
use Rattle.ruled_object.specs.declared.pass.Pass.{Pass}
use Rattle.ruled_object.specs.Cells.{deed_of}
use Rattle.ruled_object.specs.Growth.{Placed, deeds_of, Grows, halt_before, MeetsHalt, AddUp, LastTells}
use Rattle.protocols.specs.declared.step.Step.{Step}
use Rattle.protocols.specs.declared.step.Step.TheVariants.{Finished, Misused, Waits, Next, Never}
use Rattle.protocols.specs.Spelling.{CallAnswer, Rest, IsEventOf, Spells, IsTimely, AreTimely}
use Rattle.protocols.specs.Steps.{IsAt, KeepsResults, GainsAtItsEnd, LeadsOn}
use Rattle.call_loop.specs.Calls.{Did, has_gained}
use Rattle.call_loop.specs.Stages.{meant, MadeStage, StandsOn, acquires_by}

module _ {E R : Type 0} where
  deeds_on : (es : List (Placed E R)) (p : Placed E R) (rest : List (Deed E R)) → deeds_of (es ++ p ∷ []) ++ rest ≡ deeds_of es ++ p.entry.deed ∷ rest
  deeds_on [] p rest = refl
  deeds_on (x ∷ es) p rest = ap (λ (ds : List (Deed E R)). x.entry.deed ∷ ds) (deeds_on es p rest)

  deeds_last : (es : List (Placed E R)) (p : Placed E R) → deeds_of (es ++ p ∷ []) ≡ deeds_of es ++ p.entry.deed ∷ []
  deeds_last [] p = refl
  deeds_last (x ∷ es) p = ap (λ (ds : List (Deed E R)). x.entry.deed ∷ ds) (deeds_last es p)

  deeds_joined : (es fs : List (Placed E R)) → deeds_of (es ++ fs) ≡ deeds_of es ++ deeds_of fs
  deeds_joined [] fs = refl
  deeds_joined (x ∷ es) fs = ap (λ (ds : List (Deed E R)). x.entry.deed ∷ ds) (deeds_joined es fs)

  timely_joined : (moment : E → Option ℕ) (shows : ℕ → Type 0) (es fs : List (Placed E R)) → AreTimely moment shows (deeds_of es) → AreTimely moment shows (deeds_of fs) → AreTimely moment shows (deeds_of (es ++ fs))
  timely_joined moment shows [] fs first later = later
  timely_joined moment shows (x ∷ es) fs first later = (first.0, timely_joined moment shows es fs first.1 later)

  -- of several entries the last ones tell whether a halt was met
  halt_joined : (es : List (Placed E R)) (f : Placed E R) (fs : List (Placed E R)) → halt_before (es ++ f ∷ fs) ≡ halt_before (f ∷ fs)
  halt_joined [] f fs = refl
  halt_joined (e ∷ []) f fs = refl
  halt_joined (e ∷ (x ∷ es)) f fs = halt_joined (x ∷ es) f fs

  meets_joined : {A : Type 0} (es : List (Placed E R)) (f : Placed E R) (fs : List (Placed E R)) (answer : Answer A) → MeetsHalt (f ∷ fs) answer → MeetsHalt (es ++ f ∷ fs) answer
  meets_joined es f fs (Done a) meets = halt_joined es f fs ∙ meets
  meets_joined es f fs (Halted m) meets = halt_joined es f fs ∙ meets

  timely_on : (moment : E → Option ℕ) (shows : ℕ → Type 0) (es : List (Placed E R)) (p : Placed E R) → AreTimely moment shows (deeds_of es) → IsTimely moment shows p.entry.deed → AreTimely moment shows (deeds_of (es ++ p ∷ []))
  timely_on moment shows [] p all here = (here, tt)
  timely_on moment shows (x ∷ es) p all here = (all.0, timely_on moment shows es p all.1 here)

  pub timely_deed : (moment : E → Option ℕ) (shows : ℕ → Type 0) (event : E) (answer : Answer R) → IsAt shows (moment event) → IsTimely moment shows (deed_of event answer)
  timely_deed moment shows event (Done r) at = at
  timely_deed moment shows event (Halted m) at = at

module _ {A : Type 0} where
  abbrev done_or : A → Answer A → A
  done_or other (Done a) = a
  done_or other (Halted m) = other

module _ {G O : Type 0} where
  -- the call goes on by this stage
  abbrev pub IsOn : Step G O → G → Type 0
  IsOn (Finished outcome) later = ⊥
  IsOn (Misused misuse) later = ⊥
  IsOn (Waits stage) later = stage ≡ later
  IsOn (Next stage) later = stage ≡ later
  IsOn Never later = ⊥

  -- the call ends, and answers this
  abbrev pub IsEnd : Answer (Step G O) → CallAnswer O → Type 0
  IsEnd (Done (Finished outcome)) answer = answer ≡ Done (Ok outcome)
  IsEnd (Done (Misused misuse)) answer = answer ≡ Done (Err misuse)
  IsEnd (Done (Waits later)) answer = ⊥
  IsEnd (Done (Next later)) answer = ⊥
  IsEnd (Done Never) answer = ⊥
  IsEnd (Halted misuse) answer = answer ≡ Halted misuse

module _ {G O : Type 0} where
  -- an event after which the call goes on acquires nothing
  on_quiet : (gains : O → Bool) (step : Step G O) (later : G) → IsOn step later → acquires_by gains (Done step) ≡ false
  on_quiet gains (Finished outcome) later is = absurd is
  on_quiet gains (Misused misuse) later is = absurd is
  on_quiet gains (Waits stage) later is = refl
  on_quiet gains (Next stage) later is = refl
  on_quiet gains Never later is = refl

  -- and leads to where the later stage is allowed
  pub leads_on : {W : Type 0} (out : W) (left : O → W) (allows : W → G → Bool) (stand : W) (came : Answer (Step G O)) (step : Step G O) (later : G) → StandsOn out left allows stand came → came ≡ Done step → IsOn step later → allows stand later ≡ true
  leads_on out left allows stand came step later stands is on = by_step step (subst (λ (a : Answer (Step G O)). StandsOn out left allows stand a) is stands) on
    where
      by_step : (s : Step G O) → LeadsOn out left allows stand s → IsOn s later → allows stand later ≡ true
      by_step (Finished outcome) leads here = absurd here
      by_step (Misused misuse) leads here = absurd here
      by_step (Waits stage) leads here = ap (allows stand) (sym here) ∙ leads
      by_step (Next stage) leads here = ap (allows stand) (sym here) ∙ leads
      by_step Never leads here = absurd here

module _ {G O E R : Type 0} where
  rest_on : (step : Step G O) (later : G) (rest : List (Deed E R)) (on : G → Type 0) (answer : CallAnswer O) → IsOn step later → on later → Rest step rest on answer
  rest_on (Finished outcome) later rest on answer is here = absurd is
  rest_on (Misused misuse) later rest on answer is here = absurd is
  rest_on (Waits stage) later rest on answer is here = subst on (sym is) here
  rest_on (Next stage) later rest on answer is here = subst on (sym is) here
  rest_on Never later rest on answer is here = absurd is

module _ {G O E R : Type 0} where
  rest_end : (step : Step G O) (none : List (Deed E R)) (on : G → Type 0) (answer : CallAnswer O) → none ≡ [] → IsEnd (Done step) answer → Rest step none on answer
  rest_end (Finished outcome) none on answer empty is = (empty, is)
  rest_end (Misused misuse) none on answer empty is = (empty, is)
  rest_end (Waits stage) none on answer empty is = absurd is
  rest_end (Next stage) none on answer empty is = absurd is
  rest_end Never none on answer empty is = absurd is

module _ {G O : Type 0} (gives : G → Result O Misuse → Bool) (gains : G → O → Bool) (due : G) where
  results_on : (step : Step G O) (later : G) → IsOn step later → KeepsResults gives due step → (given : Result O Misuse) → gives later given ≡ true → gives due given ≡ true
  results_on (Finished outcome) later is keeps given may = absurd is
  results_on (Misused misuse) later is keeps given may = absurd is
  results_on (Waits stage) later is keeps given may = keeps given (ap (λ (g : G). gives g given) is ∙ may)
  results_on (Next stage) later is keeps given may = keeps given (ap (λ (g : G). gives g given) is ∙ may)
  results_on Never later is keeps given may = absurd is

  gained_on : (acquired : Bool) (step : Step G O) (later : G) → IsOn step later → GainsAtItsEnd gains due acquired step → (outcome : O) → gains later outcome ≡ gains due outcome
  gained_on acquired (Finished outcome) later is law o = absurd is
  gained_on acquired (Misused misuse) later is law o = absurd is
  gained_on acquired (Waits stage) later is law o = ap (λ (g : G). gains g o) (sym is) ∙ law.1 o
  gained_on acquired (Next stage) later is law o = ap (λ (g : G). gains g o) (sym is) ∙ law.1 o
  gained_on acquired Never later is law o = absurd is

module _ {G O E R : Type 0} (event_of : G → ℕ → E) (meaning : G → R → Step G O) where
  spells_by : (due : G) (event : E) (step : Step G O) (reply : Answer R) (d : Deed E R) (rest : List (Deed E R)) (answer : CallAnswer O) → d ≡ deed_of event reply → Done step ≡ meant meaning due reply → IsEventOf event_of due event
      → Rest step rest (λ later. Spells event_of meaning later rest answer) answer → Spells event_of meaning due (d ∷ rest) answer
  spells_by due event step (Done r) d rest answer is means of goes =
      let same : step ≡ meaning due r = ap (λ (z : Answer (Step G O)). done_or step z) means in
      subst (λ (x : Deed E R). Spells event_of meaning due (x ∷ rest) answer) (sym is) (of, subst (λ (s : Step G O). Rest s rest (λ later. Spells event_of meaning later rest answer) answer) same goes)
  spells_by due event step (Halted m) d rest answer is means of goes = cc

  reply_of : (due : G) (step : Step G O) (reply : Answer R) → Done step ≡ meant meaning due reply → (r : R) × (step ≡ meaning due r)
  reply_of due step (Done r) means = (r, ap (λ (z : Answer (Step G O)). done_or step z) means)
  reply_of due step (Halted m) means = cc

  pub ends_by : (due : G) (event : E) (step : Answer (Step G O)) (reply : Answer R) (d : Deed E R) (answer : CallAnswer O) → d ≡ deed_of event reply → step ≡ meant meaning due reply → IsEventOf event_of due event → IsEnd step answer
      → Spells event_of meaning due (d ∷ []) answer
  ends_by due event step (Done r) d answer is means of end =
      subst (λ (x : Deed E R). Spells event_of meaning due (x ∷ []) answer) (sym is) (of, rest_end (meaning due r) [] (λ later. Spells event_of meaning later [] answer) answer refl (subst (λ (s : Answer (Step G O)). IsEnd s answer) means end))
  ends_by due event step (Halted m) d answer is means of end =
      let halted : answer ≡ Halted m = subst (λ (s : Answer (Step G O)). IsEnd s answer) means end in
      subst (λ (x : Deed E R). Spells event_of meaning due (x ∷ []) answer) (sym is) (of, refl, halted)

  pub meets_end : (due : G) (es : List (Placed E R)) (step : Answer (Step G O)) (reply : Answer R) (answer : CallAnswer O) → step ≡ meant meaning due reply → IsEnd step answer → MeetsHalt es reply → MeetsHalt es answer
  meets_end due es step (Done r) answer means end meets = done (meaning due r) (subst (λ (s : Answer (Step G O)). IsEnd s answer) means end)
    where
      done : (s : Step G O) → IsEnd (Done s) answer → MeetsHalt es answer
      done (Finished outcome) is = subst (λ (a : CallAnswer O). MeetsHalt es a) (sym is) meets
      done (Misused misuse) is = subst (λ (a : CallAnswer O). MeetsHalt es a) (sym is) meets
      done (Waits later) is = absurd is
      done (Next later) is = absurd is
      done Never is = absurd is
  meets_end due es step (Halted m) answer means end meets =
      let halted : answer ≡ Halted m = subst (λ (s : Answer (Step G O)). IsEnd s answer) means end in
      subst (λ (a : CallAnswer O). MeetsHalt es a) (sym halted) meets

  rest_meets : (due : G) (es fs : List (Placed E R)) (answer : CallAnswer O) → Spells event_of meaning due (deeds_of fs) answer → MeetsHalt fs answer → MeetsHalt (es ++ fs) answer
  rest_meets due es [] answer spelt meets = absurd spelt
  rest_meets due es (f ∷ fs) answer spelt meets = meets_joined es f fs answer meets

module _ {S N E R G O : Type 0} (next : S → ℕ → E → S × R) (halts : Bool) (start : S) (event_of : G → ℕ → E) (moment : E → Option ℕ) (meaning : G → R → Step G O) (shows : ℕ → Type 0) (gives : G → Result O Misuse → Bool) (gains : G → O → Bool) where
  -- What the call has made until a stage is due. Whatever spells the rest from there spells the whole from the first stage.
  pub record SoFar (stage : G) (old : Pass S N E R) (from : Front) (due : G) (now : Pass S N E R) (to : Front) : Type 0 where
    pub entries : List (Placed E R)
    pub grows : Grows next halts start old from entries now to
    pub spelt : (rest : List (Deed E R)) (answer : CallAnswer O) → Spells event_of meaning due rest answer → Spells event_of meaning stage (deeds_of entries ++ rest) answer
    pub moments : AreTimely moment shows (deeds_of entries)
    pub results : (given : Result O Misuse) → gives due given ≡ true → gives stage given ≡ true
    pub gained : (outcome : O) → gains due outcome ≡ gains stage outcome
    pub front : SameCounts to from

  pub begun : (stage : G) (old : Pass S N E R) (from : Front) → Grows next halts start old from [] old from → SoFar stage old from stage old from
  begun stage old from grows = record {
    entries = [];
    grows = grows;
    spelt = λ rest answer spelt. spelt;
    moments = tt;
    results = λ given may. may;
    gained = λ outcome. refl;
    front = refl;
  }

  -- a stage more
  pub goes_on : (stage : G) (old mid new : Pass S N E R) (from middle to : Front) (due later : G) (step : Step G O) → AddUp N next halts start → ((r : R) → KeepsResults gives due (meaning due r)) → ((r : R) → (acquired : Bool) × GainsAtItsEnd gains due acquired (meaning due r)) → SoFar stage old from due mid middle
      → MadeStage next halts start event_of moment meaning shows due mid middle (Done step) new to → IsOn step later → SameCounts to middle → SoFar stage old from later new to
  goes_on stage old mid new from middle to due later step both keeps gained so made is front =
      let answered = reply_of event_of meaning due step made.answer made.means in
      let kept = subst (λ (s : Step G O). KeepsResults gives due s) (sym answered.1) (keeps answered.0) in
      let gain = gained answered.0 in
      let law = subst (λ (s : Step G O). GainsAtItsEnd gains due gain.0 s) (sym answered.1) gain.1 in
      record {
        entries = so.entries ++ made.one ∷ [];
        grows = both old mid new so.entries (made.one ∷ []) from middle to so.grows made.grows;
        spelt = λ rest answer spelt.
            subst (λ (ds : List (Deed E R)). Spells event_of meaning stage ds answer) (sym (deeds_on so.entries made.one rest))
            (so.spelt (made.one.entry.deed ∷ rest) answer (spells_by event_of meaning due made.event step made.answer made.one.entry.deed rest answer made.deed made.means made.is (rest_on step later rest (λ g. Spells event_of meaning g rest answer) answer is spelt)));
        moments = timely_on moment shows so.entries made.one so.moments (subst (λ (d : Deed E R). IsTimely moment shows d) (sym made.deed) (timely_deed moment shows made.event made.answer made.timely));
        results = λ given may. so.results given (results_on gives gains due step later is kept given may);
        gained = λ outcome. gained_on gives gains due gain.0 step later is law outcome ∙ so.gained outcome;
        front = front ∙ so.front;
      }

  -- the last stage
  pub ends : (stage : G) (old mid new : Pass S N E R) (from middle to : Front) (due : G) (step : Answer (Step G O)) (answer : CallAnswer O) → AddUp N next halts start → LastTells E R → SoFar stage old from due mid middle
      → MadeStage next halts start event_of moment meaning shows due mid middle step new to → IsEnd step answer → Did next halts start (λ ds a. Spells event_of meaning stage ds a) (λ ds. AreTimely moment shows ds) old from answer new to
  ends stage old mid new from middle to due step answer both tells so made end = record {
    entries = so.entries ++ made.one ∷ [];
    grows = both old mid new so.entries (made.one ∷ []) from middle to so.grows made.grows;
    spelt = subst (λ (ds : List (Deed E R)). Spells event_of meaning stage ds answer) (sym (deeds_last so.entries made.one))
        (so.spelt (made.one.entry.deed ∷ []) answer (ends_by event_of meaning due made.event step made.answer made.one.entry.deed answer made.deed made.means made.is end));
    halted = meets_end event_of meaning due (so.entries ++ made.one ∷ []) step made.answer answer made.means end (tells so.entries made.one made.answer made.halted);
    moments = timely_on moment shows so.entries made.one so.moments (subst (λ (d : Deed E R). IsTimely moment shows d) (sym made.deed) (timely_deed moment shows made.event made.answer made.timely));
  }

  -- the same, by what one stage came to: it goes on, or it ends the call
  pub on_by : (stage : G) (old mid new : Pass S N E R) (from middle to : Front) (due later : G) (came : Answer (Step G O)) (step : Step G O) → AddUp N next halts start → ((r : R) → KeepsResults gives due (meaning due r)) → ((r : R) → (acquired : Bool) × GainsAtItsEnd gains due acquired (meaning due r)) → SoFar stage old from due mid middle
      → MadeStage next halts start event_of moment meaning shows due mid middle came new to → (acquires_by (gains due) came ≡ false → SameCounts to middle) → came ≡ Done step → IsOn step later → SoFar stage old from later new to
  on_by stage old mid new from middle to due later came step both keeps gained so made quiet is on =
      goes_on stage old mid new from middle to due later step both keeps gained so (subst (λ (a : Answer (Step G O)). MadeStage next halts start event_of moment meaning shows due mid middle a new to) is made) on
      (quiet (ap (λ (a : Answer (Step G O)). acquires_by (gains due) a) is ∙ on_quiet (gains due) step later on))

  pub ends_at : (stage : G) (old mid new : Pass S N E R) (from middle to : Front) (due : G) (came step : Answer (Step G O)) (answer : CallAnswer O) → AddUp N next halts start → LastTells E R → SoFar stage old from due mid middle
      → MadeStage next halts start event_of moment meaning shows due mid middle came new to → came ≡ step → IsEnd step answer → Did next halts start (λ ds a. Spells event_of meaning stage ds a) (λ ds. AreTimely moment shows ds) old from answer new to
  ends_at stage old mid new from middle to due came step answer both tells so made is end =
      ends stage old mid new from middle to due step answer both tells so (subst (λ (a : Answer (Step G O)). MadeStage next halts start event_of moment meaning shows due mid middle a new to) is made) end

  -- the rest of a call, from the stage that is due, makes the call whole
  pub joined : (stage : G) (old mid new : Pass S N E R) (from middle to : Front) (due : G) (answer : CallAnswer O) → AddUp N next halts start → SoFar stage old from due mid middle
      → Did next halts start (λ ds a. Spells event_of meaning due ds a) (λ ds. AreTimely moment shows ds) mid middle answer new to
      → Did next halts start (λ ds a. Spells event_of meaning stage ds a) (λ ds. AreTimely moment shows ds) old from answer new to
  joined stage old mid new from middle to due answer both so did = record {
    entries = so.entries ++ did.entries;
    grows = both old mid new so.entries did.entries from middle to so.grows did.grows;
    spelt = subst (λ (ds : List (Deed E R)). Spells event_of meaning stage ds answer) (sym (deeds_joined so.entries did.entries)) (so.spelt (deeds_of did.entries) answer did.spelt);
    halted = rest_meets event_of meaning due so.entries did.entries answer did.spelt did.halted;
    moments = timely_joined moment shows so.entries did.entries so.moments did.moments;
  }

  -- The first stage didn't end the call, and the rest was made from a later one: the call is made whole.
  pub went_on : (stage : G) (old mid new : Pass S N E R) (from middle to : Front) (later : G) (came : Answer (Step G O)) (step : Step G O) (answer : CallAnswer O) → AddUp N next halts start → ((r : R) → KeepsResults gives stage (meaning stage r))
      → ((r : R) → (acquired : Bool) × GainsAtItsEnd gains stage acquired (meaning stage r)) → Grows next halts start old from [] old from → MadeStage next halts start event_of moment meaning shows stage old from came mid middle → (acquires_by (gains stage) came ≡ false → SameCounts middle from) → came ≡ Done step → IsOn step later
      → Did next halts start (λ ds a. Spells event_of meaning later ds a) (λ ds. AreTimely moment shows ds) mid middle answer new to → (has_gained (gains later) answer ≡ false → SameCounts to middle)
      → Did next halts start (λ ds a. Spells event_of meaning stage ds a) (λ ds. AreTimely moment shows ds) old from answer new to × (has_gained (gains stage) answer ≡ false → SameCounts to from)
  went_on stage old mid new from middle to later came step answer both keeps gained nothing made quiet is on did rest =
      let so = on_by stage old old mid from from middle stage later came step both keeps gained (begun stage old from nothing) made quiet is on in
      (joined stage old mid new from middle to later answer both so did, λ none. rest (same_gain answer so.gained ∙ none) ∙ so.front)
    where
      same_gain : (given : CallAnswer O) → ((outcome : O) → gains later outcome ≡ gains stage outcome) → has_gained (gains later) given ≡ has_gained (gains stage) given
      same_gain (Done (Ok outcome)) same = same outcome
      same_gain (Done (Err misuse)) same = refl
      same_gain (Halted misuse) same = refl

-- a call makes at least one event
pub some_entries : {G O E R : Type 0} (event_of : G → ℕ → E) (meaning : G → R → Step G O) (stage : G) (answer : CallAnswer O) (es : List (Placed E R)) → Spells event_of meaning stage (deeds_of es) answer → 0 < length es
some_entries event_of meaning stage answer [] spelt = absurd spelt
some_entries event_of meaning stage answer (e ∷ es) spelt = omega arith
