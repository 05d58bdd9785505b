-- What a once and the functions made by `OnceFunc` and `OnceValue` have in common.
use Rattle.std.specs.Global.{Vec}
use Rattle.std.specs.Prelude.{ℕ, Bool, false, Option, Some}
use Rattle.wait_cores.specs.declared.once.OnceEvent.{OnceEvent}
use Rattle.wait_cores.specs.declared.once.OnceReply.{OnceReply}
use Rattle.wait_cores.specs.OnceEdges.{once_releases, once_acquires}
use Rattle.wait_cores.specs.OnceMachine.{OnceState, next}
use Rattle.protocols.specs.OnceStages.{once_stands, OnceBegins}
use Rattle.workload.specs.declared.object.ObjectKind.{ObjectKind}
use Rattle.workload.specs.declared.object.ObjectWord.{ObjectWord}
use Rattle.ruled_object.specs.declared.pass.Pass.{Pass}
use Rattle.run_record.specs.declared.entered.ObjectEvent.{ObjectEvent}
use Rattle.run_record.specs.declared.entered.ObjectReply.{ObjectReply}
use Rattle.thread_objects.specs.declared.column.AnyColumn.{AnyColumn}
use Rattle.thread_objects.specs.declared.pass.AnyPass.{AnyPass}
use Rattle.thread_objects.specs.EachKind.{Kind}

module _ {T : Type 0} (word : ObjectWord) (starts : ℕ → ObjectKind → Option (OnceState T)) (event : OnceEvent T → ObjectEvent) (reply : OnceReply T → ObjectReply) where
  -- a kind of objects whose function runs once and comes to a `T`
  abbrev pub of_onces : ((N : Type 0) → AnyPass N → Option (Pass (OnceState T) N (OnceEvent T) (OnceReply T))) → ((N : Type 0) → AnyColumn N → Option (Vec (Pass (OnceState T) N (OnceEvent T) (OnceReply T)))) → Kind (OnceState T) (OnceEvent T) (OnceReply T) (Bool × Bool)
  of_onces to_pass to_column = record {
    word = Some word;
    starts = starts;
    begins = OnceBegins;
    out = (false, false);
    stands = once_stands;
    next = next;
    frees = once_releases;
    takes = once_acquires;
    event = event;
    reply = reply;
    pass = λ pass. to_pass _ pass;
    column = λ column. to_column _ column;
  }
