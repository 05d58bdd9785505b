use Rattle.std.proofs.Common.{◌≡◌, ℕ, suc, ◌+◌, ◌-◌, ◌<◌, ◌≤◌, List, length, drop, get_or, refl, sym, ap, ◌∙◌, subst, arith}
use Rattle.std.proofs.lemmas.Option.{slice_get-get_or, slice_get_read}
use Rattle.script_calls.specs.declared.call.Call.{Call}
use Rattle.script_calls.specs.declared.call.Operation.TheVariants as operations
use Rattle.run_cuts.specs.CallCuts.{call_cut}
use Rattle.run_cuts.specs.LineCuts.{cut_from}
use Rattle.run_cuts.specs.OneLine.{settles_by}
use Rattle.run_cuts.specs.StartsCuts.{closing_cut}
use Rattle.list_checks.specs.CallMarks.{calls_behind}
use Rattle.list_checks.specs.SpellLines.{IsCallFound, IsLineTold}
use Rattle.list_checks.specs.declared.spell.line.Progress.{Progress}
use Rattle.list_checks.proofs.SpellLines.{SoFar, closes_otherwise, closes_whole, completed, passed, stops}
use Rattle.list_checks.proofs.spell.line.cut_script.Goals as goal

pub loop-index-preserved-then-progress-gt0 : goal.loop-index-preserved-then-progress-gt0
loop-index-preserved-then-progress-gt0 c =
    let plan = c.args.workload.now in
    let script = c.script-script.result.now in
    let index = c.loop-index.index in
    let so = c.loop-index.progress in
    let nothing : Call = record { object = 0; operation = operations.Range } in
    let inside : index < length script = omega arith in
    let more : so.passes ≡ suc (so.passes - 1) = omega arith in
    record {
      script = c.loop-index.invariant.script;
      so = passed (settles_by plan) (closing_cut plan c.args.worker) (call_cut plan c.args.worker) script c.args.items.now c.args.from c.args.calls.items index so.at so.before so.replies so.calls.items (get_or script index nothing)
          (slice_get-get_or script index nothing inside) so.passes (so.passes - 1) more c.loop-index.invariant.so;
      room = c.loop-index.invariant.room;
    }

pub returns-in-Err : goal.returns-in-Err
returns-in-Err c =
    let plan = c.args.workload.now in
    let list = c.args.items.now in
    let settles = settles_by plan in
    let closes = closing_cut plan c.args.worker in
    let cut = call_cut plan c.args.worker in
    let script = c.script-script.result.now in
    let index = c.loop-index.index in
    let so = c.loop-index.progress in
    let call = c.index-script-index.result in
    let inside : index < length script = omega arith in
    let none : so.passes ≡ 0 = omega arith in
    let there = slice_get_read script (length script) index call refl inside c.index-script-index.is in
    let here = subst (λ (n : ℕ). SoFar settles closes cut script list c.args.from c.args.calls.items index n so.at so.before so.replies so.calls.items) none c.loop-index.invariant.so in
    let found = subst (λ found. IsCallFound (settles call) list so.at (cut so.before call (drop so.at list)) found) c.in-Err.is c.in_ok-found.ensures in
    let told = stops settles closes cut script list c.args.from c.args.calls.items index so.at so.before so.replies so.calls.items call there here c.in-Err.stop found in
    subst (λ (calls : List Call). IsLineTold settles (calls_behind c.args.calls.items) (cut_from closes cut 0 0 calls (drop c.args.from list)) c.ended.result) c.loop-index.invariant.script
    (subst (λ line. IsLineTold settles (calls_behind c.args.calls.items) (cut_from closes cut 0 0 script (drop c.args.from list)) line) (sym c.ended.ensures) told)

pub loop-index-preserved : goal.loop-index-preserved
loop-index-preserved c =
    let plan = c.args.workload.now in
    let list = c.args.items.now in
    let settles = settles_by plan in
    let closes = closing_cut plan c.args.worker in
    let cut = call_cut plan c.args.worker in
    let script = c.script-script.result.now in
    let index = c.loop-index.index in
    let so = c.loop-index.progress in
    let call = c.index-script-index.result in
    let inside : index < length script = omega arith in
    let none : so.passes ≡ 0 = omega arith in
    let there = slice_get_read script (length script) index call refl inside c.index-script-index.is in
    let here = subst (λ (n : ℕ). SoFar settles closes cut script list c.args.from c.args.calls.items index n so.at so.before so.replies so.calls.items) none c.loop-index.invariant.so in
    let found = subst (λ found. IsCallFound (settles call) list so.at (cut so.before call (drop so.at list)) found) c.in-Ok.is c.in_ok-found.ensures in
    let passes = (c.a_call_is_cut_as_it_is_spelt.ensures.each plan c.args.worker).passes call in
    let done = completed settles closes cut script list c.args.from c.args.calls.items index so.at so.before so.replies so.calls.items call there here passes c.in-Ok.spelt found in
    record {
      script = c.loop-index.invariant.script;
      so = subst (λ (next : Progress). SoFar settles closes cut script list c.args.from c.args.calls.items (index + 1) next.passes next.at next.before next.replies next.calls.items) (sym c.in_ok-progress-in-Ok.ensures) done;
      room = ap (λ (next : Progress). next.calls.room) c.in_ok-progress-in-Ok.ensures ∙ c.loop-index.invariant.room;
    }

pub returns-in-Ok-spell_closing : goal.returns-in-Ok-spell_closing
returns-in-Ok-spell_closing c =
    let plan = c.args.workload.now in
    let list = c.args.items.now in
    let settles = settles_by plan in
    let closes = closing_cut plan c.args.worker in
    let cut = call_cut plan c.args.worker in
    let script = c.script-script.result.now in
    let index = c.loop-index.index in
    let so = c.loop-index.progress in
    let all : length script ≤ index = omega arith in
    let told = closes_whole settles closes cut script list c.args.from c.args.calls.items index so.passes so.at so.before so.replies so.calls.items c.loop-index.invariant.so all c.in-Ok-spell_closing.closed c.in-Ok-spell_closing.ensures in
    subst (λ (calls : List Call). IsLineTold settles (calls_behind c.args.calls.items) (cut_from closes cut 0 0 calls (drop c.args.from list)) c.whole.result) c.loop-index.invariant.script
    (subst (λ line. IsLineTold settles (calls_behind c.args.calls.items) (cut_from closes cut 0 0 script (drop c.args.from list)) line) (sym c.whole.ensures) told)

pub returns-in-Err-spell_closing : goal.returns-in-Err-spell_closing
returns-in-Err-spell_closing c =
    let plan = c.args.workload.now in
    let list = c.args.items.now in
    let settles = settles_by plan in
    let closes = closing_cut plan c.args.worker in
    let cut = call_cut plan c.args.worker in
    let script = c.script-script.result.now in
    let index = c.loop-index.index in
    let so = c.loop-index.progress in
    let all : length script ≤ index = omega arith in
    let told = closes_otherwise settles closes cut script list c.args.from c.args.calls.items index so.passes so.at so.before so.replies so.calls.items c.loop-index.invariant.so all c.in-Err-spell_closing.stop c.in-Err-spell_closing.ensures in
    subst (λ (calls : List Call). IsLineTold settles (calls_behind c.args.calls.items) (cut_from closes cut 0 0 calls (drop c.args.from list)) c.ended-in-Err-spell_closing.result) c.loop-index.invariant.script
    (subst (λ line. IsLineTold settles (calls_behind c.args.calls.items) (cut_from closes cut 0 0 script (drop c.args.from list)) line) (sym c.ended-in-Err-spell_closing.ensures) told)
