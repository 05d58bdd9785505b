-- What a call shows that runs the function of a once: its beginning, and then its end with it.
use Rattle.std.proofs.Common.{◌≡◌, true, List, [], ◌∷◌, ◌++◌, ap, ◌∙◌}
use Rattle.std.proofs.lemmas.List.{map-append}
use Rattle.sync_model.specs.declared.answer.Answer.{Answer}
use Rattle.sync_model.specs.declared.answer.Answer.TheVariants.{Done}
use Rattle.sync_model.specs.declared.journal.Deed.{Deed}
use Rattle.sync_model.specs.declared.journal.Deed.TheVariants.{Event}
use Rattle.sync_model.specs.Front.{Front}
use Rattle.wait_cores.specs.declared.once.OnceEvent.{OnceEvent}
use Rattle.wait_cores.specs.declared.once.OnceEvent.TheVariants.{Begin}
use Rattle.wait_cores.specs.declared.once.OnceReply.{OnceReply}
use Rattle.wait_cores.specs.declared.once.OnceReply.TheVariants as reply
use Rattle.wait_cores.specs.OnceMachine.{OnceState, next}
use Rattle.ruled_object.specs.Growth.{Placed, AddUp, Grows, LastTells, deeds_of, MeetsHalt}
use Rattle.ruled_object.specs.Passes.{IsOneLess}
use Rattle.go_waits.specs.declared.once.Once.{Once}
use Rattle.go_waits.specs.OnceCalls.{OnceDeeds, HasBegun, RunsOnce}
use Rattle.go_waits.specs.Onces.{OncePass, IsRunnerOf, start_of}

-- the last of all entries decides whether a call met a halt
pub meets-append : {E R : Type 0} → LastTells E R → (es fs : List (Placed E R)) (d : Deed E R) (answer : Answer R) → deeds_of fs ≡ d ∷ [] → MeetsHalt fs answer → MeetsHalt (es ++ fs) answer
meets-append last es [] d answer is meets = cc
meets-append last es (p ∷ []) d answer is meets = last es p answer meets
meets-append last es (p ∷ (q ∷ fs)) d answer is meets = cc

module _ {T N : Type 0} where
  -- the entries that a call made, from one pass and front to another, which are these deeds and lead to this answer
  abbrev Did : {A : Type 0} → OnceState T → OncePass T N → Front → OncePass T N → Front → OnceDeeds T → Answer A → Type 0
  Did start one front two behind deeds answer = (es : List (Placed (OnceEvent T) (OnceReply T))) × Grows next true start one front es two behind × (deeds_of es ≡ deeds) × MeetsHalt es answer

module _ {T N : Type 0} {old mid : OncePass T N} {from between : Front} where
  -- a caller whose beginning is answered so is known to run the function
  pub has_begun : {H : Type 0} {once : Once T N H} → Did (start_of once) old from mid between (Event Begin reply.Run ∷ []) (Done (tt {0})) → IsRunnerOf once mid → IsOneLess old mid → RunsOnce mid → HasBegun once old from mid
  has_begun made runs less alone = record { runs = runs; alone = alone; less = less; front = between; entries = made.0; grows = made.1; deeds = made.2 }

  -- a beginning, and an end behind it, which is one deed
  pub ran : {start : OnceState T} {new : OncePass T N} {to : Front} → AddUp N next true start → LastTells (OnceEvent T) (OnceReply T) → Did start old from mid between (Event Begin reply.Run ∷ []) (Done (tt {0}))
      → (end : Deed (OnceEvent T) (OnceReply T)) (answer : Answer (OnceReply T)) → Did start mid between new to (end ∷ []) answer → Did start old from new to (Event Begin reply.Run ∷ (end ∷ [])) answer
  ran {start} {new} {to} both last made end answer then = (
    made.0 ++ then.0,
    both old mid new made.0 then.0 from between to made.1 then.1,
    map-append (λ (p : Placed (OnceEvent T) (OnceReply T)). p.entry.deed) made.0 then.0 ∙ ap (λ (z : OnceDeeds T × OnceDeeds T). z.0 ++ z.1) (λ i. (made.2 i, then.2 i)),
    meets-append last made.0 then.0 end answer then.2 then.3,
  )
