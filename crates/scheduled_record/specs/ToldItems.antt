-- The items of a run by schedule, as lines tell them: out of the same acts as its record, in the order of its turns.
use Rattle.std.specs.Prelude.{◌≡◌, ℕ, ◌==◌, Bool, true, ◌&&◌, List, [], ◌∷◌, ◌++◌, map, filter, length, fold, Option, None}
use Rattle.std.specs.List.{flat_map, list_all}
use Rattle.std.specs.Option.{option_to_list}
use Rattle.workload.specs.Plan.{Plan}
use Rattle.run_record.specs.declared.made.Made.{Made}
use Rattle.run_record.specs.declared.made.Made.TheVariants.{Shared, Entered}
use Rattle.run_record.specs.Record.{front_of, shared_in}
use Rattle.record_text.specs.declared.item_line.ItemLine.{ItemLine}
use Rattle.record_text.specs.LawfulItems.{has_numbers}
use Rattle.record_text.specs.Numbers.{has_64_bits}
use Rattle.record_text.specs.Written.{item_line}
use Rattle.kept_record.specs.Keeping.{Act, made_by, account_of}
use Rattle.step_runner.specs.declared.turns.item.Item.{Item}
use Rattle.step_runner.specs.declared.trace.TraceItem.{TraceItem}
use Rattle.step_runner.specs.Recorded.{recorded_item}
use Rattle.step_runner.specs.Traces.{trace_of}
use Rattle.scheduled_record.specs.RunActs.{acts_by, going_acts, closing_acts}

-- an act, with the place in its worker's script of the call that it is of, if it is of one
pub record ToldAct : Type 0 where
  pub index : Option ℕ
  pub act : Act

abbrev pub acts_in : List ToldAct → List Act
acts_in told = map (λ (t : ToldAct). t.act) told

-- acts that are all of this call, or of none
abbrev pub told_as : Option ℕ → List Act → List ToldAct
told_as index acts = map (λ (act : Act). record { index = index; act = act }) acts

-- ---- the acts of a run, each with its call

-- the acts behind one item more, which is of this call. What its worker makes before its script is of none
abbrev pub with_told_item : Plan → Option ℕ → List ToldAct → Item → List ToldAct
with_told_item plan index told item =
    told ++ (told_as None (going_acts plan (acts_in told) item.caller) ++ told_as index (acts_by item.caller (recorded_item plan (length (shared_in (made_by item.caller (acts_in told)))) item)))

abbrev pub with_told_turn : Plan → List ToldAct → TraceItem → List ToldAct
with_told_turn plan told turn = fold (with_told_item plan turn.index) told turn.made

abbrev pub told_turns : Plan → List TraceItem → List ToldAct
told_turns plan trace = fold (with_told_turn plan) [] trace

-- of a run that is done. What stands behind all scripts is of no call
abbrev pub closed_told : Plan → List ToldAct → List ToldAct
closed_told plan told = told ++ told_as None (closing_acts plan (acts_in told))

abbrev pub told_run : Plan → List TraceItem → List ToldAct
told_run plan trace = closed_told plan (told_turns plan trace)

-- ---- as the record has them

-- the same calls, with these acts
abbrev pub told_with : List ToldAct → List Act → List ToldAct
told_with [] acts = []
told_with (t ∷ told) [] = []
told_with (t ∷ told) (act ∷ acts) = record { index = t.index; act = act } ∷ told_with told acts

-- each act with its place in the history, its front and its number in its journal
abbrev pub kept_told : Plan → List ToldAct → List ToldAct
kept_told plan told = told_with told (account_of plan (acts_in told)).acts

-- those of one worker, in its order
abbrev pub told_by : ℕ → List ToldAct → List ToldAct
told_by worker told = filter (λ (t : ToldAct). t.act.worker == worker) told

-- what a worker makes in a run by schedule, in its order, each act with its call
abbrev pub told_of : Plan → ℕ → List ToldAct
told_of plan worker = told_by worker (kept_told plan (told_run plan (trace_of plan)))

-- the number of an entry in its journal: all entries before it are known to it. Another item has none
abbrev pub number_of : Made → ℕ
number_of (Shared x) = 0
number_of (Entered object entry) = entry.knew

-- ---- the lines

abbrev pub line_in : ToldAct → List ItemLine
line_in t = option_to_list (item_line t.act.worker t.index (number_of t.act.made) t.act.made)

abbrev pub lines_told : Plan → List ToldAct → List ItemLine
lines_told plan told = flat_map line_in (kept_told plan told)

-- the items of a run by schedule that is done
abbrev pub told_items : Plan → List ItemLine
told_items plan = lines_told plan (told_run plan (trace_of plan))

-- ---- their numbers

-- all numbers of an item have 64 bits, as those of a program have
abbrev pub is_in_64_bits : ItemLine → Bool
is_in_64_bits item = has_numbers item.said && list_all has_64_bits item.front

abbrev pub has_64_bit_front : Act → Bool
has_64_bit_front act = list_all has_64_bits (front_of act.made)

-- so have the fronts of all acts
abbrev pub have_64_bit_fronts : Plan → List ToldAct → Bool
have_64_bit_fronts plan told = list_all has_64_bit_front (account_of plan (acts_in told)).acts

-- all numbers of a run by schedule that is done have 64 bits: those of its items' lines, and those of its acts' fronts
pub record AreIn64Bits (plan : Plan) : Type 0 where
  pub lines : list_all is_in_64_bits (told_items plan) ≡ true
  pub fronts : have_64_bit_fronts plan (told_run plan (trace_of plan)) ≡ true
