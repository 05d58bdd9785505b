-- A worker's list in a workload without workers that wait to be started: nothing stands before its script, and nothing behind it.
use Rattle.std.specs.Prelude.{◌≡◌, ℕ, ◌+◌, ◌*◌, List, [], ◌∷◌, ◌++◌, length, count_by, Err}
use Rattle.std.specs.List.{flat_map}
use Rattle.sync_model.specs.declared.answer.Answer.TheVariants.{Done, Halted}
use Rattle.script_calls.specs.declared.call.Call.{Call}
use Rattle.script_calls.specs.declared.call.Reply.{Reply}
use Rattle.protocols.specs.Spelling.{CallAnswer}
use Rattle.workload.specs.Plan.{Plan}
use Rattle.run_record.specs.declared.made.Made.{Made}
use Rattle.run_record.specs.Calls.{SpellsCall}
use Rattle.run_record.specs.Lines.{Line, LineEnd, whole, misused, halted, unfinished, stayed, AreHalts, AreSpelt}
use Rattle.run_record.specs.Objects.{is_pool}
use Rattle.run_record.specs.Record.{object_number, shared_in}

-- Stop, the objects of the workload, and the parts of its pools
abbrev pub plain_count : Plan → ℕ
plain_count plan = object_number (length plan.objects) + count_by (λ object. is_pool object.kind) plan.objects * plan.workers

module _ (plan : Plan) (worker : ℕ) where
  -- What stands behind the completed calls: nothing, at the end of the script. Else the next call, which is a misuse; or which met a halt; or the first items of the next call, perhaps none.
  abbrev pub EndsPlainly : ℕ → LineEnd → List Call → List Made → Type 0
  EndsPlainly before whole rest last = (rest ≡ []) × (last ≡ [])
  EndsPlainly before (misused misuse) [] last = ⊥
  EndsPlainly before (misused misuse) (call ∷ rest) last = SpellsCall plan worker before call last (Done (Err misuse))
  EndsPlainly before (halted misuse) [] last = ⊥
  EndsPlainly before (halted misuse) (call ∷ rest) last = SpellsCall plan worker before call last (Halted misuse)
  EndsPlainly before unfinished [] last = ⊥
  EndsPlainly before unfinished (call ∷ rest) last = (later : List Made) × (answer : CallAnswer (Reply ℕ)) × SpellsCall plan worker before call (last ++ later) answer
  EndsPlainly before (stayed stay) rest last = ⊥

  -- the line is its completed calls, and what stands behind them
  pub record IsPlainLine (line : Line) : Type 0 where
    pub none : line.first ≡ []
    pub calls : AreSpelt plan worker 0 line.spelt
    pub ends : EndsPlainly (length (shared_in (flat_map (λ spelt. spelt.items) line.spelt))) line.ending line.rest line.last
    pub halts : AreHalts line.ending line.halts
