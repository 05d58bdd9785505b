-- What the lines of an account are, by what was found of the text's lists: those that have ended end, and reply, as was found.
use Rattle.std.proofs.Common.{◌≡◌, ℕ, ◌<◌, List, [], ◌∷◌, map, length, Some, slice_get, refl, sym, ap, ◌∙◌, subst, arith}
use Rattle.std.specs.List.{flat_map}
use Rattle.std.specs.Prelude.{All}
use Rattle.std.proofs.lemmas.List.{length-map}
use Rattle.std.proofs.lemmas.Option.{same_Some, get_or_from_slice_get, slice_get_within}
use Rattle.script_calls.specs.declared.call.Call.{Call}
use Rattle.script_calls.specs.declared.call.Reply.{Reply}
use Rattle.workload.specs.Keys.{keys_in}
use Rattle.workload.specs.Plan.{Plan}
use Rattle.run_record.specs.Explains.{HasEnded}
use Rattle.run_record.specs.Lines.{Line, SpeltCall, calls_made, replies_of}
use Rattle.run_cuts.specs.OneLine.{SettlesEach, settles_by}
use Rattle.list_checks.specs.declared.spell.line.SpeltLine.{SpeltLine}
use Rattle.list_checks.specs.SpellLines.{IsLineHere, line_end}
use Rattle.record_text.specs.Told.{Told}
use Rattle.run_check.specs.ToldItems.{Sketched}
use Rattle.run_check.specs.ToldLists.{spelt_in}
use Rattle.record_clauses.specs.Account.{Account, Claim}
use Rattle.record_clauses.specs.Clauses.{IsSpelt}
use Rattle.record_clauses.specs.Lists.{before_halts}
use Rattle.record_clauses.specs.PairOrder.{RepliesApart}
use Rattle.run_check.specs.declared.spelling.SpeltList.{SpeltList}
use Rattle.run_check.specs.declared.spelling.Spelling.{Spelling}
use Rattle.run_check.specs.Lists.{AreSpeltTo, IsSpeltList, list_at}
use Rattle.run_check.specs.Tells.{Tells}
use Rattle.run_check.proofs.SpellNothing.{AsTold, IsBlind, line_told}
use Rattle.run_check.proofs.SpeltClaims.{all_same}

abbrev pub HaveOneOrder : Type 0
HaveOneOrder = (plan : Plan) (told one other : List SpeltCall) → RepliesApart (keys_in plan.scripts) other → SettlesEach (settles_by plan) told one → SettlesEach (settles_by plan) told other
    → map (λ (spelt : SpeltCall). spelt.reply) one ≡ map (λ (spelt : SpeltCall). spelt.reply) other

-- the calls, each with its reply
abbrev made : List SpeltCall → List (Call × Reply ℕ)
made spelt = map (λ s. (s.call, s.reply)) spelt

-- calls and replies alone say which pairs are apart
apart_alike : (keys : List (List ℕ)) (one other : List SpeltCall) → made one ≡ made other → RepliesApart keys one → RepliesApart keys other
apart_alike keys [] [] same apart = tt
apart_alike keys [] (t ∷ other) same apart = absurd cc
apart_alike keys (s ∷ one) [] same apart = absurd cc
apart_alike keys (s ∷ one) (t ∷ other) same apart =
    let first : ◌≡◌ {A = Call × Reply ℕ} (s.call, s.reply) (t.call, t.reply) = cc in
    let rest : made one ≡ made other = cc in (
      λ pairs range replied. apart.0 pairs (ap (λ (p : Call × Reply ℕ). p.0.operation) first ∙ range) (ap (λ (p : Call × Reply ℕ). p.1) first ∙ replied),
      apart_alike keys one other rest apart.1,
    )

abbrev seconds : List (Call × Reply ℕ) → List (Reply ℕ)
seconds ps = map (λ (p : Call × Reply ℕ). p.1) ps

replies_are : (spelt : List SpeltCall) → seconds (made spelt) ≡ map (λ (s : SpeltCall). s.reply) spelt
replies_are [] = refl
replies_are (s ∷ spelt) = ap (λ (rs : List (Reply ℕ)). s.reply ∷ rs) (replies_are spelt)

replies_alike : (one other : List SpeltCall) → made one ≡ made other → map (λ (s : SpeltCall). s.reply) one ≡ map (λ (s : SpeltCall). s.reply) other
replies_alike one other same = sym (replies_are one) ∙ ap (λ (ps : List (Call × Reply ℕ)). seconds ps) same ∙ replies_are other

module _ (blind : IsBlind) (told : Told) (found : Spelling) (are : AreSpeltTo told.plan told.items told.plan.workers found) (claim : Claim) (tells : Tells told claim) (account : Account) (spelt : IsSpelt claim account) where
  -- a worker's line, as a line of what the text's list says
  record ToldLine (worker : ℕ) (line : Line) : Type 0 where
    found_line : SpeltLine
    at : slice_get found.lines worker ≡ Some found_line
    ending : HasEnded line.ending → line.ending ≡ line_end found_line.ending
    replies : HaveOneOrder → HasEnded line.ending → RepliesApart (keys_in told.plan.scripts) line.spelt → replies_of line ≡ found_line.replies

  by_told : (worker : ℕ) (line : Line) → AsTold blind told claim tells account spelt worker line → (one : SpeltList) × list_at found worker one × IsSpeltList told.plan told.items worker one → ToldLine worker line
  by_told worker line as_told (one, there, is) =
      let one_list : as_told.items ≡ is.list = same_Some as_told.items is.list (sym as_told.said ∙ is.told) in
      let here : IsLineHere told.plan worker (flat_map spelt_in is.list) as_told.like = subst (λ (items : List Sketched). IsLineHere told.plan worker (flat_map spelt_in items) as_told.like) one_list as_told.here in
      by_like one there is as_told.like here as_told.ending as_told.made
    where
      by_like : (one : SpeltList) → list_at found worker one → (is : IsSpeltList told.plan told.items worker one) → (like : Line) → IsLineHere told.plan worker (flat_map spelt_in is.list) like → like.ending ≡ line.ending → calls_made like ≡ calls_made line
          → ToldLine worker line
      by_like one there is like here ends calls = record {
        found_line = one.line;
        at = there.0;
        ending = λ ended. sym ends ∙ sym (ap (λ (l : Line). l.ending) (is.spelling.only like here (subst HasEnded (sym ends) ended)).0) ∙ is.spelling.ending;
        replies = λ order ended apart.
            let (same, (all, first, second)) = is.spelling.only like here (subst HasEnded (sym ends) ended) in
            let theirs = order told.plan all is.spelling.line.spelt like.spelt (apart_alike (keys_in told.plan.scripts) line.spelt like.spelt (sym calls) apart) first second in
            replies_alike line.spelt like.spelt (sym calls) ∙ sym theirs ∙ is.spelling.replies;
      }

  told_line : (worker : ℕ) (line : Line) → worker < told.plan.workers → slice_get account.lines worker ≡ Some line → ToldLine worker line
  told_line worker line below at =
      let (other, there, as_told) = line_told blind told claim tells account spelt worker below in
      by_told worker line (subst (λ (l : Line). AsTold blind told claim tells account spelt worker l) (same_Some other line (sym there ∙ at)) as_told) (are.each worker below)

  module _ (scripts : length claim.plan.scripts ≡ claim.plan.workers) (ended : All (λ (line : Line). HasEnded line.ending) account.lines) where
    count : length account.lines ≡ told.plan.workers
    count = sym (length-map account.lines before_halts) ∙ spelt.lines.count ∙ scripts ∙ ap (λ (p : Plan). p.workers) tells.plan

    has_ended : (worker : ℕ) (line : Line) → slice_get account.lines worker ≡ Some line → HasEnded line.ending
    has_ended worker line at = subst (λ (l : Line). HasEnded l.ending) (get_or_from_slice_get account.lines worker line line at) (ended worker line (slice_get_within account.lines worker line at))

    line_at : (worker : ℕ) (line : Line) → slice_get account.lines worker ≡ Some line → ToldLine worker line
    line_at worker line at = told_line worker line (let long = count in let within = slice_get_within account.lines worker line at in omega (arith, long, within)) at

    -- lines that have ended end as was found
    pub ends_found : map (λ (line : Line). line.ending) account.lines ≡ map (λ (line : SpeltLine). line_end line.ending) found.lines
    ends_found = all_same (λ (line : Line). line.ending) (λ (line : SpeltLine). line_end line.ending) account.lines found.lines (count ∙ sym are.lines)
        (λ worker line one at there. let it = line_at worker line at in it.ending (has_ended worker line at) ∙ ap (λ (l : SpeltLine). line_end l.ending) (same_Some it.found_line one (sym it.at ∙ there)))

    -- and reply as was found, where no range shows two keys of one name
    pub replies_found : HaveOneOrder → ((worker : ℕ) (line : Line) → slice_get account.lines worker ≡ Some line → RepliesApart (keys_in told.plan.scripts) line.spelt)
        → map replies_of account.lines ≡ map (λ (line : SpeltLine). line.replies) found.lines
    replies_found order apart = all_same replies_of (λ (line : SpeltLine). line.replies) account.lines found.lines (count ∙ sym are.lines)
        (λ worker line one at there. let it = line_at worker line at in it.replies order (has_ended worker line at) (apart worker line at) ∙ ap (λ (l : SpeltLine). l.replies) (same_Some it.found_line one (sym it.at ∙ there)))
