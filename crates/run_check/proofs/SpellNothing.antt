-- Where a worker's items spell nothing, the clause `spell` holds of no claim that the text tells.
use Rattle.std.proofs.Common.{◌≡◌, ◌⊎◌, inl, inr, ℕ, ◌<◌, ◌≤◌, List, [], map, length, get_or, Option, Some, None, slice_get, sym, ap, ◌∙◌, subst, arith}
use Rattle.std.specs.List.{flat_map}
use Rattle.std.specs.Option.{option_map}
use Rattle.std.proofs.lemmas.Option.{slice_get_cases, slice_get-map}
use Rattle.script_calls.specs.declared.call.Call.{Call}
use Rattle.script_calls.specs.declared.call.Reply.{Reply}
use Rattle.script_calls.specs.Runs.{RunsAlong}
use Rattle.workload.specs.Plan.{Plan}
use Rattle.run_record.specs.declared.made.Made.{Made}
use Rattle.run_record.specs.Lines.{IsLineOf, Line, calls_made, items_of}
use Rattle.run_cuts.specs.Blind.{AreAlike, HasLineLike}
use Rattle.run_cuts.specs.CallsAlong.{calls_along}
use Rattle.list_checks.specs.SpellLines.{IsLineHere}
use Rattle.record_text.specs.Told.{Told}
use Rattle.run_check.specs.ToldItems.{Sketched, worker_told}
use Rattle.run_check.specs.ToldLists.{call_in, spelt_in}
use Rattle.record_clauses.specs.Account.{Account, Claim, ToldItem, made_in}
use Rattle.record_clauses.specs.Clauses.{IsSpelt}
use Rattle.record_clauses.specs.declared.clause.Clause.TheVariants.{Spell}
use Rattle.record_clauses.specs.Lists.{before_halts, without_halts}
use Rattle.run_check.specs.Items.{told_item, unmarked_item}
use Rattle.run_check.specs.Lists.{SomeSpellsNothing}
use Rattle.run_check.specs.Tells.{Tells, UpTo}
use Rattle.run_check.proofs.ToldLists.{alike, calls_same, mapped, paired}

abbrev pub IsBlind : Type 0
IsBlind = (plan : Plan) (worker : ℕ) (line : Line) (items : List Made) → AreAlike (items_of line) items → IsLineOf plan worker line → HasLineLike plan worker line items

module _ (blind : IsBlind) (told : Told) (claim : Claim) (tells : Tells told claim) (account : Account) (spelt : IsSpelt claim account) where
  -- a worker's line, as one of what the text's lines say
  pub record AsTold (worker : ℕ) (line : Line) : Type 0 where
    pub items : List Sketched
    pub said : worker_told told.plan told.items worker ≡ Some items
    pub like : Line
    pub here : IsLineHere told.plan worker (flat_map spelt_in items) like
    pub ending : like.ending ≡ line.ending
    pub made : calls_made like ≡ calls_made line
    pub along : calls_along like ≡ flat_map call_in items

  pub line_told : (worker : ℕ) → worker < told.plan.workers → (line : Line) × (slice_get account.lines worker ≡ Some line) × AsTold worker line
  line_told worker below = by_list (slice_get_cases claim.lists worker).1 where
    by_line : (list : List ToldItem) → slice_get claim.lists worker ≡ Some list → (items : List Sketched) → worker_told told.plan told.items worker ≡ Some items → map (told_item worker) items ≡ map unmarked_item list
        → (line : Line) → slice_get (map before_halts account.lines) worker ≡ Some line → items_of line ≡ without_halts (made_in list)
        → (whole : Line) → slice_get account.lines worker ≡ Some whole → before_halts whole ≡ line
        → AsTold worker whole
    by_line list there items is same line at are whole at_whole halts =
        let here : AreAlike (items_of line) (flat_map spelt_in items) = subst (λ (ms : List Made). AreAlike ms (flat_map spelt_in items)) (sym are) (alike worker list items same) in
        let like = blind told.plan worker line (flat_map spelt_in items) here (subst (λ (p : Plan). IsLineOf p worker line) tells.plan (spelt.lines.each worker line at)) in
        let runs : RunsAlong (get_or told.plan.scripts worker []) (calls_made line) line.rest = subst (λ (p : Plan). RunsAlong (get_or p.scripts worker []) (calls_made line) line.rest) tells.plan (spelt.lines.runs worker line at) in
        let runs_like : RunsAlong (get_or told.plan.scripts worker []) (calls_made like.like) like.like.rest =
        subst (λ (made : List (Call × Reply ℕ)). RunsAlong (get_or told.plan.scripts worker []) made like.like.rest) (sym like.calls) (subst (λ (rest : List Call). RunsAlong (get_or told.plan.scripts worker []) (calls_made line) rest) (sym like.rest) runs) in
        record {
          items = items;
          said = is;
          like = like.like;
          here = (runs_like, like.items_are, like.is);
          ending = like.ending ∙ sym (ap (λ (l : Line). l.ending) halts);
          made = like.calls ∙ sym (ap calls_made halts);
          along = like.along ∙ sym (ap calls_along halts) ∙ sym (spelt.told.calls worker list whole there at_whole) ∙ calls_same worker list items same;
        }

    by_items : (list : List ToldItem) → slice_get claim.lists worker ≡ Some list → (line : Line) × (slice_get account.lines worker ≡ Some line) × AsTold worker line
    by_items list there =
        let (items, is, same) = mapped (λ (ss : List Sketched). map (told_item worker) ss) (worker_told told.plan told.items worker) (map unmarked_item list) (tells.lists worker list there) in
        let at_made : slice_get (map made_in claim.lists) worker ≡ Some (made_in list) = slice_get-map made_in claim.lists worker ∙ ap (λ (o : Option (List ToldItem)). option_map made_in o) there in
        let (line, at, are) = paired items_of without_halts (map before_halts account.lines) (map made_in claim.lists) spelt.lines.lists worker (made_in list) at_made in
        let (whole, at_whole, halts) = mapped before_halts (slice_get account.lines worker) line (sym (slice_get-map before_halts account.lines worker) ∙ at) in
        (whole, at_whole, by_line list there items is same line at are whole at_whole halts)

    by_list : ((list : List ToldItem) × (worker < length claim.lists) × (slice_get claim.lists worker ≡ Some list) × (get_or claim.lists worker list ≡ list)) ⊎ ((length claim.lists ≤ worker) × (slice_get claim.lists worker ≡ None))
        → (line : Line) × (slice_get account.lines worker ≡ Some line) × AsTold worker line
    by_list (inl (list, within, there, read)) = by_items list there
    by_list (inr (past, none)) = let count = tells.workers in absurd (omega (arith, past, count, below))

pub none_spells : IsBlind → (told : Told) → SomeSpellsNothing told.plan told.items → UpTo told Spell → ⊥
none_spells blind told (worker, below, nothing) (claim, tells, (account, holds)) =
    let (line, at, as_told) = line_told blind told claim tells account (holds Spell (omega arith)) worker below in nothing as_told.items as_told.like as_told.said as_told.here as_told.along
