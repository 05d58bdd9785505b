-- Calls on maps and atomics, as parts of calls that the record has no word for.
use Rattle.std.specs.Prelude.{◌≡◌, ℕ, List, [], ◌∷◌, ◌++◌, map, Some, None, Ok}
use Rattle.sync_model.specs.declared.answer.Answer.TheVariants.{Done}
use Rattle.script_calls.specs.declared.call.Reply.{Reply}
use Rattle.script_calls.specs.declared.call.Reply.TheVariants as replies
use Rattle.sync_model.specs.declared.item.SharedCall.{SharedCall}
use Rattle.sync_model.specs.declared.item.SharedCall.TheVariants as calls
use Rattle.sync_model.specs.declared.item.SharedReply.{SharedReply}
use Rattle.sync_model.specs.declared.item.SharedReply.TheVariants as answers
use Rattle.sync_types.specs.declared.map_object.MapCall.{MapCall}
use Rattle.sync_types.specs.declared.map_object.MapReply.{MapReply}
use Rattle.run_record.specs.Parts.{Part, Places}

-- a call of map number m, whose key is a number, is one placed call
abbrev pub placed_map : ℕ → MapCall ℕ → Part (Reply ℕ)
placed_map m call items answer = (reply : MapReply) × Places ((calls.Map m call, answers.Map reply) ∷ []) items × (answer ≡ Done (Ok (replies.Map reply)))

-- these calls on maps and atomics are made, which are answered so
abbrev pub placed : List (SharedCall × SharedReply) → Part (Unit {0})
placed made items answer = Places made items × (answer ≡ Done (Ok tt))

-- the steps of a cursor that show these pairs, and all steps of one that shows these pairs and then none
abbrev pub shows : ℕ → List (ℕ × ℕ) → List (SharedCall × SharedReply)
shows begin shown = map (λ pair. (calls.Next begin, answers.Shown (Some pair))) shown

abbrev pub shows_all : ℕ → List (ℕ × ℕ) → List (SharedCall × SharedReply)
shows_all begin shown = shows begin shown ++ (calls.Next begin, answers.Shown None) ∷ []
