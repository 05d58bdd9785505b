-- That a list falls into the calls of a script in one way, where each call is found in one way.
use Rattle.std.proofs.Common.{◌≡◌, ℕ, suc, ◌+◌, List, [], ◌∷◌, ◌++◌, map, length, get_or, Some, slice_get, refl, sym, ap, ◌∙◌, subst, append_assoc, arith}
use Rattle.std.specs.Prelude.{Ok, Err}
use Rattle.std.specs.List.{flat_map}
use Rattle.protocols.specs.Spelling.{CallAnswer}
use Rattle.script_calls.specs.declared.call.Call.{Call}
use Rattle.script_calls.specs.declared.call.Reply.{Reply}
use Rattle.sync_model.specs.declared.answer.Answer.TheVariants.{Done, Halted}
use Rattle.workload.specs.Plan.{Plan}
use Rattle.run_record.specs.declared.made.Made.{Made}
use Rattle.run_record.specs.Calls.{SpellsCall}
use Rattle.run_record.specs.Lines.{SpeltCall, AreSpelt}
use Rattle.run_record.specs.Record.{shared_in}
use Rattle.run_laws.specs.OneSpelling.{IsCertain}
use Rattle.run_laws.proofs.OneWay.{tail_of}

-- each call of a script is found in one way, wherever it stands
abbrev pub AreCertain : Plan → ℕ → List Call → Type 0
AreCertain plan worker script = (i before : ℕ) (call : Call) → slice_get script i ≡ Some call → IsCertain (SpellsCall plan worker before call)

abbrev pub reply_in : Reply ℕ → CallAnswer (Reply ℕ) → Reply ℕ
reply_in other (Done (Ok reply)) = reply
reply_in other (Done (Err misuse)) = other
reply_in other (Halted misuse) = other

abbrev spelt_of : Call → List Made → Reply ℕ → SpeltCall
spelt_of call items reply = record { call = call; items = items; reply = reply }

pub same_spelt : (s o : SpeltCall) → s.call ≡ o.call → s.items ≡ o.items → s.reply ≡ o.reply → s ≡ o
same_spelt s o call items reply =
    ap (λ (c : Call). spelt_of c s.items s.reply) call ∙ (ap (λ (l : List Made). spelt_of o.call l s.reply) items ∙ ap (λ (r : Reply ℕ). spelt_of o.call o.items r) reply)

module _ (plan : Plan) (worker : ℕ) where
  pub falls_one_way : (before : ℕ) (spelt other : List SpeltCall) (last more : List Made) → AreCertain plan worker (map (λ call. call.call) spelt) → map (λ call. call.call) spelt ≡ map (λ call. call.call) other
      → AreSpelt plan worker before spelt → AreSpelt plan worker before other → flat_map (λ call. call.items) spelt ++ last ≡ flat_map (λ call. call.items) other ++ more → (spelt ≡ other) × (last ≡ more)
  falls_one_way before [] [] last more certain calls a b same = (refl, same)
  falls_one_way before [] (o ∷ other) last more certain calls a b same = absurd (omega (arith, ap (λ (l : List Call). length l) calls))
  falls_one_way before (s ∷ spelt) [] last more certain calls a b same = absurd (omega (arith, ap (λ (l : List Call). length l) calls))
  falls_one_way before (s ∷ spelt) (o ∷ other) last more certain calls a b same =
      let items_in = λ (call : SpeltCall). call.items in
      let call : s.call ≡ o.call = ap (λ (l : List Call). get_or l 0 s.call) calls in
      let start : s.items ++ (flat_map items_in spelt ++ last) ≡ o.items ++ (flat_map items_in other ++ more) =
      sym (append_assoc s.items (flat_map items_in spelt) last) ∙ (same ∙ append_assoc o.items (flat_map items_in other) more) in
      let one = certain 0 before s.call refl s.items o.items (flat_map items_in spelt ++ last) (flat_map items_in other ++ more) (Done (Ok s.reply)) (Done (Ok o.reply)) a.0
      (subst (λ (c : Call). SpellsCall plan worker before c o.items (Done (Ok o.reply))) (sym call) b.0) start in
      let later = falls_one_way (before + length (shared_in s.items)) spelt other last more (λ i n c at. certain (suc i) n c at) (ap (λ (l : List Call). tail_of l) calls) a.1
      (subst (λ (l : List Made). AreSpelt plan worker (before + length (shared_in l)) other) (sym one.0) b.1) one.1 in
      (ap (λ (x : SpeltCall). x ∷ spelt) (same_spelt s o call one.0 (ap (reply_in s.reply) one.2)) ∙ ap (λ (xs : List SpeltCall). o ∷ xs) later.0, later.1)
