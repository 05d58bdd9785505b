-- What a record has that explains two replies of the example's worker.
use Rattle.std.proofs.Common.{◌≡◌, ℕ, suc, ◌+◌, ◌<◌, pos, List, [], ◌∷◌, ◌++◌, map, length, get_or, slice_get, refl, sym, ap, ◌∙◌, subst, arith}
use Rattle.std.specs.Prelude.{Ok, Err}
use Rattle.std.specs.List.{flat_map}
use Rattle.sync_model.specs.declared.answer.Answer.TheVariants.{Done, Halted}
use Rattle.sync_types.specs.declared.atomic_object.AtomicCall.TheVariants as calls
use Rattle.sync_types.specs.declared.atomic_object.AtomicReply.{AtomicReply}
use Rattle.sync_types.specs.declared.atomic_object.Number.TheVariants.{Int64}
use Rattle.script_calls.specs.declared.call.Call.{Call}
use Rattle.script_calls.specs.declared.call.Reply.{Reply}
use Rattle.script_calls.specs.declared.call.Reply.TheVariants as replies
use Rattle.script_calls.specs.declared.outcome.Outcome.{Outcome}
use Rattle.sync_model.specs.declared.item.Item.{Item}
use Rattle.sync_model.specs.declared.item.SharedCall.{SharedCall}
use Rattle.sync_model.specs.declared.item.SharedCall.TheVariants as shared
use Rattle.sync_model.specs.declared.item.SharedReply.{SharedReply}
use Rattle.sync_model.specs.declared.item.SharedReply.TheVariants as shared_replies
use Rattle.protocols.specs.Spelling.{CallAnswer}
use Rattle.run_record.specs.declared.made.Made.{Made}
use Rattle.run_record.specs.declared.made.Made.TheVariants.{Shared}
use Rattle.run_record.specs.Calls.{SpellsCall}
use Rattle.run_record.specs.Example.{plan, store_call, load_call, replies_by}
use Rattle.run_record.specs.Explains.{AreLines, Explains, IsAtEnd}
use Rattle.run_record.specs.Lines.{SpeltCall, LineEnd, whole, misused, halted, unfinished, stayed, Line, script_of, items_of, replies_of, AreHalts, AreSpelt, EndsBy, OpensBy, IsLineOf}
use Rattle.run_record.specs.Parts.{Places}
use Rattle.run_record.specs.Record.{Record, calls_of, shared_in}
use Rattle.run_record.proofs.PlainLemmas.{none_first, none_stayed}

-- the worker's two calls on the atomic, with what they answered
pub record TwoCalls (r : Record) (first second : Reply ℕ) : Type 0 where
  pub store : Item
  pub load : Item
  pub made : calls_of r 0 ≡ store ∷ load ∷ []
  pub others : (worker : ℕ) → calls_of r (suc worker) ≡ []
  pub stores : store.call ≡ shared.Atomic 0 (calls.Store (Int64 (pos 5)))
  pub loads : load.call ≡ shared.Atomic 0 calls.Load
  pub first_reply : AtomicReply
  pub second_reply : AtomicReply
  pub first_is : first ≡ replies.Atomic first_reply
  pub second_is : second ≡ replies.Atomic second_reply
  pub store_reply : store.reply ≡ shared_replies.Atomic first_reply
  pub load_reply : load.reply ≡ shared_replies.Atomic second_reply

-- a list with as many items
module _ {A : Type 0} where
  one_of : (xs : List A) → length xs ≡ 1 → (y : A) × (xs ≡ y ∷ [])
  one_of [] is = absurd (omega (arith, is))
  one_of (y ∷ []) is = (y, refl)
  one_of (y ∷ (z ∷ xs)) is = absurd (omega (arith, is))

  two_of : (xs : List A) → length xs ≡ 2 → (y : A) × (z : A) × (xs ≡ y ∷ z ∷ [])
  two_of [] is = absurd (omega (arith, is))
  two_of (y ∷ []) is = absurd (omega (arith, is))
  two_of (y ∷ (z ∷ [])) is = (y, z, refl)
  two_of (y ∷ (z ∷ (w ∷ xs))) is = absurd (omega (arith, is))

module _ {A B : Type 0} (f : A → B) where
  length_of : (xs : List A) → length (map f xs) ≡ length xs
  length_of [] = refl
  length_of (x ∷ xs) = ap suc (length_of xs)

-- one placed call
pub one_place : (call : SharedCall) (reply : SharedReply) (items : List Made) → (let asked : SharedCall × SharedReply = (call, reply) in Places (asked ∷ []) items) → (x : Item) × (items ≡ Shared x ∷ []) × (x.call ≡ call) × (x.reply ≡ reply)
one_place call reply items (made, is, are) =
    let both = λ (x : Item). let asked : SharedCall × SharedReply = (x.call, x.reply) in asked in
    let one = one_of made (sym (length_of both made) ∙ ap (λ (l : List (SharedCall × SharedReply)). length l) are) in
    let pair : SharedCall × SharedReply = (call, reply) in
    let same : both one.0 ≡ pair = ap (λ (l : List (SharedCall × SharedReply)). get_or l 0 pair) (ap (λ (l : List Item). map both l) (sym one.1) ∙ are) in
    (one.0, is ∙ ap (λ (l : List Item). map Shared l) one.1, ap (λ (p : SharedCall × SharedReply). p.0) same, ap (λ (p : SharedCall × SharedReply). p.1) same)

abbrev reply_in : Reply ℕ → CallAnswer (Reply ℕ) → Reply ℕ
reply_in other (Done (Ok reply)) = reply
reply_in other (Done (Err misuse)) = other
reply_in other (Halted misuse) = other

module _ (scripts_are : (outcome : Outcome) (r : Record) (lines : List Line) → AreLines plan r outcome lines → map script_of lines ≡ plan.scripts) (first second : Reply ℕ) (r : Record) (explains : Explains plan (replies_by first second) r) where
  scripts : map script_of explains.lines ≡ plan.scripts
  scripts = scripts_are (replies_by first second) r explains.lines explains.are

  line : (l : Line) × (explains.lines ≡ l ∷ [])
  line = one_of explains.lines (sym (length_of script_of explains.lines) ∙ ap (λ (l : List (List Call)). length l) scripts)

  spelt : (a : SpeltCall) × (b : SpeltCall) × (line.0.spelt ≡ a ∷ b ∷ [])
  spelt = two_of line.0.spelt (sym (length_of (λ call. call.reply) line.0.spelt) ∙ ap (λ (l : List (List (Reply ℕ))). length (get_or l 0 [])) (ap (map replies_of) (sym line.1) ∙ explains.are.replies))

  replies_are : (spelt.0.reply ≡ first) × (spelt.1.reply ≡ second)
  replies_are =
      let listed : replies_of line.0 ≡ first ∷ second ∷ [] = ap (λ (l : List (List (Reply ℕ))). get_or l 0 []) (ap (map replies_of) (sym line.1) ∙ explains.are.replies) in
      let both : spelt.0.reply ∷ spelt.1.reply ∷ [] ≡ first ∷ second ∷ [] = ap (map (λ call. call.reply)) (sym spelt.2) ∙ listed in
      (ap (λ (l : List (Reply ℕ)). get_or l 0 first) both, ap (λ (l : List (Reply ℕ)). get_or l 1 first) both)

  calls_are : (spelt.0.call ≡ store_call) × (spelt.1.call ≡ load_call)
  calls_are =
      let listed : script_of line.0 ≡ store_call ∷ load_call ∷ [] = ap (λ (l : List (List Call)). get_or l 0 []) (ap (map script_of) (sym line.1) ∙ scripts) in
      let both : spelt.0.call ∷ spelt.1.call ∷ line.0.rest ≡ store_call ∷ load_call ∷ [] = ap (λ (l : List SpeltCall). map (λ call. call.call) l ++ line.0.rest) (sym spelt.2) ∙ listed in
      (ap (λ (l : List Call). get_or l 0 store_call) both, ap (λ (l : List Call). get_or l 1 store_call) both)

  is_line : IsLineOf plan 0 line.0
  is_line = explains.are.each 0 line.0 (ap (λ (l : List Line). slice_get l 0) line.1)

  are_spelt : AreSpelt plan 0 0 (spelt.0 ∷ spelt.1 ∷ [])
  are_spelt = subst (AreSpelt plan 0 0) spelt.2 is_line.calls

  at_the_end : (ending : LineEnd) → IsAtEnd ending → OpensBy plan 0 ending line.0.spelt line.0.first → ending ≡ whole
  at_the_end whole ended opens = refl
  at_the_end (misused misuse) ended opens = absurd ended
  at_the_end (halted misuse) ended opens = absurd ended
  at_the_end unfinished ended opens = absurd ended
  at_the_end (stayed stay) ended opens = absurd (none_stayed plan 0 refl stay line.0.spelt line.0.first opens)

  read : (call known : Call) (reply given : Reply ℕ) (before : ℕ) (items : List Made) → call ≡ known → reply ≡ given → SpellsCall plan 0 before call items (Done (Ok reply)) → SpellsCall plan 0 before known items (Done (Ok given))
  read call known reply given before items same answered is = subst (λ (c : Call). SpellsCall plan 0 before c items (Done (Ok given))) same (subst (λ (a : Reply ℕ). SpellsCall plan 0 before call items (Done (Ok a))) answered is)

  pub two : TwoCalls r first second
  two =
      let s = read spelt.0.call store_call spelt.0.reply first 0 spelt.0.items calls_are.0 replies_are.0 are_spelt.0 in
      let l = read spelt.1.call load_call spelt.1.reply second (0 + length (shared_in spelt.0.items)) spelt.1.items calls_are.1 replies_are.1 are_spelt.1.0 in
      let x = one_place (shared.Atomic 0 (calls.Store (Int64 (pos 5)))) (shared_replies.Atomic s.0) spelt.0.items s.1 in
      let y = one_place (shared.Atomic 0 calls.Load) (shared_replies.Atomic l.0) spelt.1.items l.1 in
      let at_end : IsAtEnd line.0.ending = subst (λ (ls : List Line). IsAtEnd (get_or ls 0 line.0).ending) line.1 (explains.agrees.0 0 line.0 (subst (λ (n : ℕ). 0 < n) (sym (ap (λ (ls : List Line). length ls) line.1)) (omega arith))) in
      let ended : line.0.ending ≡ whole = at_the_end line.0.ending at_end is_line.opens in
      let before = length (shared_in (flat_map (λ call. call.items) line.0.spelt)) in
      let unopened : line.0.first ≡ [] = none_first plan 0 refl line.0.ending line.0.spelt line.0.first is_line.opens in
      let none : line.0.last ≡ [] = (subst (λ (e : LineEnd). EndsBy plan 0 before e line.0.rest line.0.last) ended is_line.ends).1.0 in
      let unhalted : line.0.halts ≡ [] = subst (λ (e : LineEnd). AreHalts e line.0.halts) ended is_line.halts in
      let items : items_of line.0 ≡ Shared x.0 ∷ Shared y.0 ∷ [] =
      ap (λ (xs : List Made). xs ++ (flat_map (λ call. call.items) line.0.spelt ++ (line.0.last ++ line.0.halts))) unopened
      ∙ (ap (λ (ls : List SpeltCall). flat_map (λ call. call.items) ls ++ (line.0.last ++ line.0.halts)) spelt.2
      ∙ (ap (λ (xs : List Made). (xs ++ (spelt.1.items ++ [])) ++ (line.0.last ++ line.0.halts)) x.1
      ∙ (ap (λ (xs : List Made). (Shared x.0 ∷ (xs ++ [])) ++ (line.0.last ++ line.0.halts)) y.1
      ∙ (ap (λ (xs : List Made). Shared x.0 ∷ Shared y.0 ∷ (xs ++ line.0.halts)) none
      ∙ ap (λ (xs : List Made). Shared x.0 ∷ Shared y.0 ∷ xs) unhalted)))) in
      let lists : r.lists ≡ items_of line.0 ∷ [] = sym explains.are.lists ∙ ap (map items_of) line.1 in
      record {
        store = x.0;
        load = y.0;
        made = ap (λ (ls : List (List Made)). shared_in (get_or ls 0 [])) lists ∙ ap shared_in items;
        others = λ worker. ap (λ (ls : List (List Made)). shared_in (get_or ls (suc worker) [])) lists;
        stores = x.2;
        loads = y.2;
        first_reply = s.0;
        second_reply = l.0;
        first_is = ap (reply_in first) s.2;
        second_is = ap (reply_in second) l.2;
        store_reply = x.3;
        load_reply = y.3;
      }
