-- What a call of a function that runs once is made of.
use Rattle.std.proofs.Common.{◌≡◌, ℕ, refl, Ok, Err}
use Rattle.sync_model.specs.declared.answer.Answer.TheVariants.{Done, Halted}
use Rattle.script_calls.specs.declared.call.Reply.{Reply}
use Rattle.sync_types.specs.declared.misuse.Misuse.{Misuse}
use Rattle.protocols.specs.declared.once.OnceOutcome.{OnceOutcome}
use Rattle.protocols.specs.declared.once.OnceOutcome.TheVariants.{Run, Already}
use Rattle.protocols.specs.declared.once.OnceStage.{OnceStage}
use Rattle.protocols.specs.declared.once.OnceStage.TheVariants as stage
use Rattle.protocols.specs.Spelling.{CallAnswer}
use Rattle.run_record.specs.OnceKind.{once_part, goes_on_once}
use Rattle.run_record.specs.Parts.{Part, read_as, with_outcome}
use Rattle.thread_objects.specs.Working.{Desk, Works}
use Rattle.thread_objects.specs.Laws.{Stays, Joins}
use Rattle.thread_objects.proofs.Working.{reads, rests, works_on}

told_once : {O T U : Type 0} (told : T → U) (value : T) (given : CallAnswer O) → with_outcome told (with_outcome (λ outcome. value) given) ≡ with_outcome (λ outcome. told value) given
told_once told value (Done (Ok outcome)) = refl
told_once told value (Done (Err misuse)) = refl
told_once told value (Halted misuse) = refl

module _ (stays : Stays) (joined : Joins) {T : Type 0} (part : OnceStage T → Part (OnceOutcome T)) (function : Part T) (told returned : T → Reply ℕ) (a b : Desk) where
  abbrev whole : Part (Reply ℕ)
  whole = once_part part function told returned

  abbrev next : OnceOutcome T → Part (Reply ℕ)
  next = goes_on_once part function told returned

  pub stopped : (misuse : Misuse) → Works (part stage.Begin) a (Halted misuse) b → Works whole a (Halted misuse) b
  stopped misuse works = works_on (part stage.Begin) next joined a b b (Halted misuse) (Halted misuse) works (rests stays _ b _ (refl, refl))

  pub erred : (misuse : Misuse) → Works (part stage.Begin) a (Done (Err misuse)) b → Works whole a (Done (Err misuse)) b
  erred misuse works = works_on (part stage.Begin) next joined a b b (Done (Err misuse)) (Done (Err misuse)) works (rests stays _ b _ (refl, refl))

  pub had : (kept : T) → Works (part stage.Begin) a (Done (Ok (Already kept))) b → Works whole a (Done (Ok (returned kept))) b
  had kept works = works_on (part stage.Begin) next joined a b b (Done (Ok (Already kept))) _ works (rests stays _ b _ (refl, refl))

  -- the function was run, and came to this value
  pub ran : (m c : Desk) (value : T) (given : CallAnswer (OnceOutcome T)) → Works (part stage.Begin) a (Done (Ok Run)) b → Works function b (Done (Ok value)) m → Works (part (stage.End value)) m given c
      → Works whole a (with_outcome told (with_outcome (λ outcome. value) given)) c
  ran m c value given first inner last =
      let later = reads (λ outcome. told value) (part (stage.End value)) m c given _ (told_once told value given) last in
      works_on (part stage.Begin) next joined a b c (Done (Ok Run)) _ first (works_on function (λ v. read_as (λ outcome. told v) (part (stage.End v))) joined b m c (Done (Ok value)) _ inner later)
