use Rattle.std.proofs.Common.{◌≡◌, ℕ, zero, suc, ◌+◌, Bool, true, cond, List, [], ◌∷◌, ◌++◌, get_or, length, Option, Some, None, count_by, slice_get, refl, sym, ap, ◌∙◌, subst, arith, append_assoc}
use Rattle.std.specs.List.{flat_map}
use Rattle.std.proofs.lemmas.List.{append-nil}
use Rattle.std.proofs.lemmas.List.Sums.{sum_by-append}
use Rattle.std.proofs.lemmas.Option.{none-some, same_Some}
use Rattle.script_calls.specs.declared.call.Call.{Call}
use Rattle.script_calls.specs.declared.call.ComposedCall.TheVariants.{Go}
use Rattle.script_calls.specs.declared.call.Operation.{Operation}
use Rattle.script_calls.specs.declared.call.Operation.TheVariants as operations
use Rattle.script_calls.specs.Starts.{started_by, starts, start_count, group_of}
use Rattle.starts_core.specs.declared.starts.StartReply.TheVariants as answers
use Rattle.sync_model.specs.declared.answer.Answer.TheVariants.{Done}
use Rattle.run_record.specs.declared.entered.ObjectReply.TheVariants as reply
use Rattle.run_record.specs.declared.made.Made.{Made}
use Rattle.run_record.specs.declared.made.Made.TheVariants.{Entered}
use Rattle.run_record.specs.Lines.{LineEnd, items_of, AreHalts, EndsBy}
use Rattle.run_record.specs.Objects.{starts_number}
use Rattle.run_record.specs.Record.{object_number, shared_in}
use Rattle.run_record.proofs.GoLemmas.{closes_done}
use Rattle.run_record.proofs.Having.{get_at}
use Rattle.run_record.proofs.ListLemmas.{list_there}
use Rattle.run_record.proofs.StartItems.{started_in}
use Rattle.run_record.proofs.laws.starts.who_was_started_is_done_on_its_group.Goals as goal

goes_of : (started : ℕ) (op : Operation) → started_by op ≡ Some started → op ≡ operations.Composed (Go started)
goes_of started (operations.Composed (Go other)) is = ap (λ (n : ℕ). operations.Composed (Go n)) (same_Some other started is)
goes_of started op is = absurd (none-some started is)

module _ (worker : ℕ) where
  counted : (call : Call) (script : List Call) → count_by (starts worker) (call ∷ script) ≡ cond {A = ℕ} (starts worker call) 1 0 + count_by (starts worker) script
  counted call script = omega (arith, sum_by-append (λ (c : Call). cond {A = ℕ} (starts worker c) 1 0) (call ∷ []) script)

  counts : (script : List Call) (scripts : List (List Call)) → start_count worker (script ∷ scripts) ≡ count_by (starts worker) script + start_count worker scripts
  counts script scripts = omega (arith, sum_by-append (count_by (starts worker)) (script ∷ []) scripts)

  one_of : (script : List Call) (i : ℕ) (call : Call) → slice_get script i ≡ Some call → starts worker call ≡ true → (n : ℕ) × (count_by (starts worker) script ≡ suc n)
  one_of [] i call at is = absurd (none-some call at)
  one_of (first ∷ script) zero call at is =
      let here : starts worker first ≡ true = ap (starts worker) (same_Some first call at) ∙ is in
      (count_by (starts worker) script, omega (arith, counted first script, ap (λ (b : Bool). cond {A = ℕ} b 1 0) here))
  one_of (first ∷ script) (suc i) call at is =
      let more = one_of script i call at is in
      (cond {A = ℕ} (starts worker first) 1 0 + more.0, omega (arith, more.1, counted first script))

  some_of : (scripts : List (List Call)) (at i : ℕ) (call : Call) → slice_get (get_or scripts at []) i ≡ Some call → starts worker call ≡ true → start_count worker scripts ≡ 0 → ⊥
  some_of [] at i call is starts_it none = absurd (none-some call is)
  some_of (script ∷ scripts) zero i call is starts_it none =
      let one = one_of script i call is starts_it in
      omega (arith, one.1, counts script scripts, none)
  some_of (script ∷ scripts) (suc at) i call is starts_it none =
      some_of scripts at i call is starts_it (omega (arith, counts script scripts, none))

  -- so it is under a group
  group_there : (scripts : List (List Call)) → (start_count worker scripts ≡ 0 → ⊥) → (group_of worker scripts ≡ None → start_count worker scripts ≡ 0) → (group : ℕ) × (group_of worker scripts ≡ Some group)
  group_there scripts some none = by_group (group_of worker scripts) refl where
    by_group : (g : Option ℕ) → group_of worker scripts ≡ g → (group : ℕ) × (group_of worker scripts ≡ Some group)
    by_group None is = absurd (some (none is))
    by_group (Some group) is = (group, is)

pub returns-clause-started : goal.returns-clause-started
returns-clause-started c plan r outcome lines worker line are lawful at waits came =
    let found = c.who_was_started_knows_what_its_starter_knew.ensures plan r outcome lines worker line are lawful at waits came in
    let starter = found.2.caller in
    let go = (started_in plan r outcome lines are lawful (starts_number plan) found.0 worker (reply.Starts answers.Done) found.2 found.6 found.8).0 in
    let goes = goes_of worker go.1.operation go.3 in
    let group = group_there worker plan.scripts (some_of worker plan.scripts starter go.0 go.1 go.2 ((c.who_starts_whom.ensures.starts worker go.1).1 goes)) ((c.who_starts_whom.ensures.nobody worker plan.scripts).0) in (
      starter,
      go.0,
      group.0,
      go.1,
      found.9,
      go.2,
      goes,
      group.1,
      λ one. same_Some group.0 go.1.object (sym group.1 ∙ c.who_starts_whom.ensures.group worker starter go.0 plan.scripts (get_or plan.scripts starter []) go.1 one (list_there plan.scripts starter go.0 go.1 go.2) go.2 goes),
    )

pub returns-clause-ends : goal.returns-clause-ends
returns-clause-ends c plan r outcome lines worker group line are at waits ending under =
    let calls = flat_map (λ spelt. spelt.items) line.spelt in
    let is = are.each worker line at in
    let closed = subst (λ (e : LineEnd). EndsBy plan worker (length (shared_in calls)) e line.rest line.last) ending is.ends in
    let none = subst (λ (e : LineEnd). AreHalts e line.halts) ending is.halts in
    let ends = closes_done plan worker group line.last waits under closed.1 in
    let list = ap (λ (lists : List (List Made)). get_or lists worker []) (sym are.lists) ∙ get_at items_of [] lines worker line at in
    record {
      earlier = line.first ++ (calls ++ ends.earlier);
      done = ends.done;
      ended = ends.ended;
      are = list ∙ parts line.first calls ends.earlier line.last line.halts (Entered (object_number group) ends.done ∷ (Entered (starts_number plan) ends.ended ∷ [])) none ends.are;
      is_done = ends.is_done;
      is_end = ends.is_end;
    }
  where
    parts : (first calls earlier last halts two : List Made) → halts ≡ [] → last ≡ earlier ++ two → first ++ (calls ++ (last ++ halts)) ≡ (first ++ (calls ++ earlier)) ++ two
    parts first calls earlier last halts two none is =
        ap (λ (l : List Made). first ++ (calls ++ (last ++ l))) none
        ∙ (ap (λ (l : List Made). first ++ (calls ++ l)) (append-nil last ∙ is)
        ∙ (ap (λ (l : List Made). first ++ l) (sym (append_assoc calls earlier two)) ∙ sym (append_assoc first (calls ++ earlier) two)))
