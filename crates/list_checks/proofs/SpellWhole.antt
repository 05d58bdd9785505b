-- That what a list is cut into is what it spells.
use Rattle.std.proofs.Common.{◌≡◌, ℕ, ◌+◌, Bool, false, List, [], ◌∷◌, ◌++◌, length, map, get_or, Option, Some, None, refl, sym, ap, ◌∙◌, subst}
use Rattle.std.specs.Prelude.{MatchOption, replicate}
use Rattle.script_calls.specs.declared.call.Call.{Call}
use Rattle.script_calls.specs.declared.call.Reply.{Reply}
use Rattle.workload.specs.Dialect.{has_variables}
use Rattle.workload.specs.Plan.{Plan}
use Rattle.run_record.specs.Explains.{HasEnded}
use Rattle.run_record.specs.Lines.{Line, SpeltCall, items_of}
use Rattle.run_record.specs.declared.made.Made.{Made}
use Rattle.script_calls.specs.Runs.{RunsAlong, passed_over}
use Rattle.run_record.specs.Lines.{IsLineOf, calls_made}
use Rattle.run_cuts.specs.CallsAlong.{calls_along, calls_from}
use Rattle.run_cuts.specs.Cuts.{Cutter}
use Rattle.run_cuts.specs.LineCuts.{line_cut}
use Rattle.run_cuts.specs.OneLine.{CutsLines, SettlesEach, settles_by, with_calls}
use Rattle.list_checks.specs.SpellLines.{AreSettled, HasNoLine, IsLineHere, IsLineTold, IsSpelling}
use Rattle.list_checks.specs.declared.spell.line.SpeltLine.{SpeltLine}

same_line : {a b : Line} → Some a ≡ Some b → a ≡ b
same_line e = cc

no_line : {a : Line} → None ≡ Some a → ⊥
no_line e = cc

with_replies : List SpeltCall → List (Reply ℕ) → List SpeltCall
with_replies [] replies = []
with_replies (told ∷ more) [] = []
with_replies (told ∷ more) (reply ∷ replies) = record { call = told.call; items = told.items; reply = reply } ∷ with_replies more replies

module _ (settles : Call → Reply ℕ → Reply ℕ → Type 0) where
  each_settled : (told : List SpeltCall) (replies : List (Reply ℕ)) → AreSettled settles told replies → SettlesEach settles told (with_replies told replies)
  unfolding with_replies
  each_settled [] replies are = refl
  each_settled (told ∷ more) [] are = absurd are
  each_settled (told ∷ more) (reply ∷ replies) (settled, are) = (refl, refl, settled, each_settled more replies are)

  replies_are : (told : List SpeltCall) (replies : List (Reply ℕ)) → AreSettled settles told replies → map (λ s. s.reply) (with_replies told replies) ≡ replies
  unfolding with_replies
  replies_are [] replies are = sym are
  replies_are (told ∷ more) [] are = absurd are
  replies_are (told ∷ more) (reply ∷ replies) (settled, are) = ap (λ (rest : List (Reply ℕ)). reply ∷ rest) (replies_are more replies are)

  -- calls with other replies, which pass as many over, have items of the same calls
  same_along : ((call : Call) (told reply : Reply ℕ) → settles call told reply → passed_over call told ≡ passed_over call reply) → (told : List SpeltCall) (replies : List (Reply ℕ)) (place : ℕ) (rest : List Call) (last : List Made) → AreSettled settles told replies
      → calls_from place (with_replies told replies) rest last ≡ calls_from place told rest last
  unfolding with_replies
  same_along passes [] replies place rest last are = refl
  same_along passes (told ∷ more) [] place rest last are = absurd are
  same_along passes (told ∷ more) (reply ∷ replies) place rest last (settled, are) =
      ap (λ (n : ℕ). replicate (length told.items) (Some place) ++ calls_from (place + 1 + n) (with_replies more replies) rest last) (sym (passes told.call told.reply reply settled))
      ∙ ap (λ calls. replicate (length told.items) (Some place) ++ calls) (same_along passes more replies (place + 1 + passed_over told.call told.reply) rest last are)

module _ (plan : Plan) (worker : ℕ) (opens : Cutter Bool) (closes : Cutter (Unit {0})) (cut : ℕ → Call → Cutter (Reply ℕ)) (cuts : CutsLines plan worker opens closes (settles_by plan) cut)
    (passes : (call : Call) (told reply : Reply ℕ) → settles_by plan call told reply → passed_over call told ≡ passed_over call reply)
    (alike : (line told : Line) → RunsAlong (get_or plan.scripts worker []) (calls_made line) line.rest → IsLineOf plan worker line → line_cut opens closes cut 0 (get_or plan.scripts worker []) (items_of line) ≡ Some told → calls_along told ≡ calls_along line)
    (some : has_variables plan ≡ false → (line : Line) → RunsAlong (get_or plan.scripts worker []) (calls_made line) line.rest → IsLineOf plan worker line → line_cut opens closes cut 0 (get_or plan.scripts worker []) (items_of line) ≡ None → ⊥)
    (list : List Made) where
  abbrev cut_here : Option Line
  cut_here = line_cut opens closes cut 0 (get_or plan.scripts worker []) list

  -- a line that has ended is told as it is cut
  record IsCut (other : Line) : Type 0 where
    told : Line
    is : cut_here ≡ Some told
    each : SettlesEach (settles_by plan) told.spelt other.spelt
    same : with_calls told other.spelt ≡ other

  is_cut : (other : Line) → IsLineHere plan worker list other → HasEnded other.ending → IsCut other
  is_cut other (runs, items, is) ended = by (cuts.is_cut (get_or plan.scripts worker []) other runs ended is) where
    by : (told : Line) × (line_cut opens closes cut 0 (get_or plan.scripts worker []) (items_of other) ≡ Some told) × SettlesEach (settles_by plan) told.spelt other.spelt × (with_calls told other.spelt ≡ other) → IsCut other
    by (told, e, each, same) = record { told = told; is = ap (λ (l : List Made). line_cut opens closes cut 0 (get_or plan.scripts worker []) l) (sym items) ∙ e; each = each; same = same }

  -- what the list is cut into is what a line of it is cut into
  cut_of : (line : Line) → items_of line ≡ list → line_cut opens closes cut 0 (get_or plan.scripts worker []) (items_of line) ≡ cut_here
  cut_of line items = ap (λ (l : List Made). line_cut opens closes cut 0 (get_or plan.scripts worker []) l) items

  pub none_spelt : cut_here ≡ None → HasNoLine plan worker list
  none_spelt none = record {
    ended = λ line here ended. let it = is_cut line here ended in no_line (sym none ∙ it.is);
    none = λ plain line here. some plain line here.0 here.2 (cut_of line here.1 ∙ none);
  }

  pub one_spelt : (spelt : SpeltLine) → IsLineTold (settles_by plan) calls_along cut_here (Some spelt) → IsSpelling plan worker list spelt
  one_spelt spelt (told, is, (ending, settled, calls_are)) =
      let calls = with_replies told.spelt spelt.replies in
      let each = each_settled (settles_by plan) told.spelt spelt.replies settled in
      let own : calls_along (with_calls told calls) ≡ calls_along told = ap (λ later. replicate (length told.first) None ++ later) (same_along (settles_by plan) passes told.spelt spelt.replies 0 told.rest told.last settled) in record {
        line = with_calls told calls;
        here = cuts.is_line (get_or plan.scripts worker []) list told calls is each;
        ending = ending;
        replies = replies_are (settles_by plan) told.spelt spelt.replies settled;
        calls = own ∙ calls_are;
        along = λ other here. sym (alike other told here.0 here.2 (cut_of other here.1 ∙ is)) ∙ sym own;
        only = λ other here ended.
            let it = is_cut other here ended in
            let same : it.told ≡ told = same_line (sym it.is ∙ is) in
            (subst (λ (t : Line). with_calls t other.spelt ≡ other) same it.same, (told.spelt, each, subst (λ (t : Line). SettlesEach (settles_by plan) t.spelt other.spelt) same it.each));
      }

  pub spells : (found : Option SpeltLine) → IsLineTold (settles_by plan) calls_along cut_here found → MatchOption found (HasNoLine plan worker list) (IsSpelling plan worker list)
  spells None told = none_spelt told
  spells (Some spelt) told = one_spelt spelt told
