-- What acts are, whatever place, front and number they are kept with.
use Rattle.std.specs.Prelude.{ℕ, ◌<◌, ◌==◌, false, cond, List, [], ◌∷◌, All}
use Rattle.std.specs.List.{flat_map}
use Rattle.sync_model.specs.declared.journal.Deed.{Deed}
use Rattle.sync_model.specs.SharedHistory.{Contents, IsReply, is_entry, shared_after}
use Rattle.workload.specs.Plan.{Plan}
use Rattle.run_record.specs.declared.entered.ObjectEvent.{ObjectEvent}
use Rattle.run_record.specs.declared.entered.ObjectReply.{ObjectReply}
use Rattle.run_record.specs.declared.made.Made.{Made}
use Rattle.run_record.specs.declared.made.Made.TheVariants.{Shared, Entered}
use Rattle.run_record.specs.Objects.{object_count}
use Rattle.run_record.specs.Record.{ObjectEntry}
use Rattle.kept_record.specs.Keeping.{Act}

-- an entry is on an object that is there
abbrev pub IsOn : ℕ → Made → Type 0
IsOn objects (Shared x) = Unit {0}
IsOn objects (Entered object entry) = object < objects

-- a worker of the workload made it, on an object of it
pub record IsActOf (plan : Plan) (act : Act) : Type 0 where
  pub worker : act.worker < plan.workers
  pub object : IsOn (object_count plan) act.made

abbrev pub AreActsOf : Plan → List Act → Type 0
AreActsOf plan acts = All (IsActOf plan) acts

-- what was asked and answered, by whom: nothing of places, marks, fronts and numbers
abbrev pub bare_made : ℕ → Made → Made
bare_made worker (Shared x) = Shared (record { call = x.call; reply = x.reply; place = 0; entry = false; front = [] })
bare_made worker (Entered object entry) = Entered object (record { caller = worker; deed = entry.deed; front = []; knew = 0; time = 0 })

abbrev pub bare : Act → Act
bare act = record { worker = act.worker; made = bare_made act.worker act.made }

-- what an act did on the object of this number, and who: nothing, where it is a call or on another object
abbrev pub deed_on : ℕ → ℕ → Made → List (ℕ × Deed ObjectEvent ObjectReply)
deed_on object worker (Shared x) = []
deed_on object worker (Entered other entry) = cond (other == object) ((worker, entry.deed) ∷ []) []

-- what is done on an object, and by whom, in order
abbrev pub deeds_on : ℕ → List Act → List (ℕ × Deed ObjectEvent ObjectReply)
deeds_on object acts = flat_map (λ act. deed_on object act.worker act.made) acts

-- what an entry of a journal says of this
abbrev pub told : ObjectEntry → ℕ × Deed ObjectEvent ObjectReply
told entry = (entry.caller, entry.deed)

-- what is asked is answered as by the objects for one thread, where they contain this
abbrev pub IsAnswered : Made → Contents → Type 0
IsAnswered (Shared x) contents = IsReply x.call x.reply contents
IsAnswered (Entered object entry) contents = Unit {0}

-- what the maps and atomics contain behind it
abbrev pub contents_behind : Made → Contents → Contents
contents_behind (Shared x) contents = cond (is_entry x.call contents) (shared_after x.call contents) contents
contents_behind (Entered object entry) contents = contents

-- each call is answered where it is made, from these contents on
abbrev pub AreAnswered : Contents → List Act → Type 0
AreAnswered contents [] = Unit {0}
AreAnswered contents (act ∷ acts) = IsAnswered act.made contents × AreAnswered (contents_behind act.made contents) acts
