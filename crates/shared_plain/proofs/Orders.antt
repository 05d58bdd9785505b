-- What a caller adds to a journal in its own order.
use Rattle.std.proofs.Common.{◌≡◌, ◌≢◌, ℕ, ◌+◌, ◌<◌, ◌≤◌, Bool, true, false, cond, eqb, eq-eqb, List, [], ◌∷◌, ◌++◌, length, length-append, take, Option, Some, None, refl, sym, ap, ◌∙◌, subst, append_assoc, arith}
use Rattle.std.proofs.lemmas.Bool.{eqb-true}
use Rattle.std.proofs.lemmas.List.{append-nil}
use Rattle.std.proofs.lemmas.Option.{slice_get_within}
use Rattle.sync_model.specs.declared.journal.Deed.{Deed}
use Rattle.sync_model.specs.declared.journal.Deed.TheVariants.{Event as Did, Refused, Halt}
use Rattle.sync_model.specs.declared.item.SharedCall.TheVariants as calls
use Rattle.sync_model.specs.declared.item.Item.{Item}
use Rattle.sync_model.specs.Journal.{Begins, by}
use Rattle.ruled_object.specs.Notes.{IsNoteOf}
use Rattle.ruled_object.specs.Passes.{callers_of, number_of, seen_by}
use Rattle.shared_plain.specs.declared.event.Event.{Event}
use Rattle.shared_plain.specs.declared.event.Event.TheVariants.{Map, Begin, Next, Atomic}
use Rattle.shared_plain.specs.declared.event.Answered.{Answered}
use Rattle.shared_plain.specs.declared.mark.Mark.{Mark}
use Rattle.shared_plain.specs.declared.plain.Plain.{Plain}
use Rattle.shared_plain.specs.Counting.{length-items}
use Rattle.shared_plain.specs.Marks.{KeepsOwn}
use Rattle.shared_plain.specs.PlainMachine.{call_of}
use Rattle.shared_plain.specs.PlainHistory.{Step, call_in, counts, calls_counted, item_at, listed, items_from, items_by}
use Rattle.shared_plain.specs.Staying.{stands_still}
use Rattle.shared_plain.specs.Walks.{spot_next, spot_from, StandsAt, IsInOrder, AreInOrder}
use Rattle.shared_plain.proofs.Items.{Made, items-append, count-append}
use Rattle.shared_plain.proofs.Passing.{by-append, kept_items, nothing_more, take_front}
use Rattle.shared_plain.proofs.Steps.{some_is}

module _ (n c : ℕ) where
  -- where a caller has no entries, none is out of order
  pub none_in_order : (before xs : List Step) → by c xs ≡ [] → AreInOrder n c before xs
  none_in_order before [] none = tt
  none_in_order before (x ∷ xs) none = by_caller (eqb x.caller c) refl none (λ e. none_in_order (before ++ x ∷ []) xs e)
    where
      by_caller : (b : Bool) → eqb x.caller c ≡ b → cond b (x ∷ by c xs) (by c xs) ≡ [] → (by c xs ≡ [] → AreInOrder n c (before ++ x ∷ []) xs) → AreInOrder n c before (x ∷ xs)
      by_caller true is e rest = (cc)
      by_caller false is e rest = ((λ same. let f : true ≡ false = sym (eq-eqb x.caller c same) ∙ is in (cc)), rest e)

  pub order-append : (before xs ys : List Step) → AreInOrder n c before xs → AreInOrder n c (before ++ xs) ys → AreInOrder n c before (xs ++ ys)
  order-append before [] ys first second = subst (λ b. AreInOrder n c b ys) (append-nil before) second
  order-append before (x ∷ xs) ys first second = (first.0, order-append (before ++ x ∷ []) xs ys first.1 (subst (λ b. AreInOrder n c b ys) (sym (append_assoc before (x ∷ []) xs)) second))

  -- a caller's entries stay in order where it made no more
  pub kept_order : (old new : List Step) → Begins new old → by c new ≡ by c old → AreInOrder n c [] old → AreInOrder n c [] new
  kept_order old new begins same order =
      let rest : List Step = begins.0 in
      let none : by c rest ≡ [] = nothing_more (by c old) (by c rest) (sym (by-append c old rest) ∙ (ap (by c) (sym begins.1) ∙ same)) in
      subst (λ l. AreInOrder n c [] l) (sym begins.1) (order-append [] old rest order (none_in_order old rest none))

  -- and are as many
  pub kept_count : (old new : List Step) → Begins new old → by c new ≡ by c old → calls_counted c new ≡ calls_counted c old
  kept_count old new begins same = sym (length-items n c [] new) ∙ (ap (λ (l : List Item). length l) (kept_items n c old new begins same) ∙ length-items n c [] old)

  -- one entry more, behind others'
  pub more_order : (seen between : List Step) (e : Step) → by c (seen ++ between) ≡ by c seen → e.caller ≡ c → e.knew ≡ length seen
      → ((m b from : ℕ) (reply : Option Answered) → e.deed ≡ Did (Next m b from) reply → StandsAt (items_by n c seen) m b from)
      → AreInOrder n c [] seen → AreInOrder n c [] ((seen ++ between) ++ e ∷ [])
  more_order seen between e same caller knew steps order =
      let front : List Step = seen ++ between in
      let known : take e.knew front ≡ seen = ap (λ (k : ℕ). take k front) knew ∙ take_front seen between in
      let count : calls_counted c front ≡ calls_counted c seen = kept_count seen front (between, refl) same in
      let items : items_by n c seen ≡ items_by n e.caller front = sym (kept_items n c seen front (between, refl) same) ∙ ap (λ d. items_by n d front) (sym caller) in
      let mine : IsInOrder n front e = record {
        knew = ap (calls_counted e.caller) known ∙ (ap (λ d. calls_counted d seen) caller ∙ (sym count ∙ ap (λ d. calls_counted d front) (sym caller)));
        steps = λ m b from reply did. subst (λ l. StandsAt l m b from) items (steps m b from reply did);
      } in
      order-append [] front (e ∷ []) (kept_order seen front (between, refl) same order) ((λ _. mine), tt)

-- a deed that is a step of a cursor
pub record IsNext (deed : Deed Event (Option Answered)) (b : ℕ) (answered : Answered) : Type 0 where
  pub map : ℕ
  pub from : ℕ
  pub is : deed ≡ Did (Next map b from) (Some answered)

next_of : (event : Event) (answered : Answered) (b : ℕ) → call_of event ≡ calls.Next b → IsNext (Did event (Some answered)) b answered
next_of (Map m call) answered b e = (cc)
next_of (Begin m) answered b e = (cc)
next_of (Next m d from) answered b e = let same : d ≡ b = (cc) in record { map = m; from = from; is = ap (λ (k : ℕ). Did (Next m k from) (Some answered)) same }
next_of (Atomic a call) answered b e = (cc)

pub is_next : (deed : Deed Event (Option Answered)) (did : Made) (b : ℕ) → call_in deed ≡ Some did → did.0 ≡ calls.Next b → IsNext deed b did.1
is_next (Did event None) did b is e = (cc)
is_next (Did event (Some answered)) did b is e =
    let same : (call_of event, answered) ≡ did = some_is (call_of event, answered) did is in
    subst (λ (a : Answered). IsNext (Did event (Some answered)) b a) (ap (λ (d : Made). d.1) same) (next_of event answered b (ap (λ (d : Made). d.0) same ∙ e))
is_next (Refused event misuse) did b is e = (cc)
is_next (Halt misuse) did b is e = (cc)

module _ (n c : ℕ) where
  fewer : (before rest : List Step) → length (items_by n c before) ≤ length (items_by n c (before ++ rest))
  fewer before rest = let same = ap (λ (l : List Item). length l) (items-append n c [] before rest) in omega (arith, length-append (items_by n c before) (items_from n c before rest))

  -- a cursor that no call began yet has no steps
  pub unmade : (before xs : List Step) (b spot : ℕ) → AreInOrder n c before xs → length (items_by n c (before ++ xs)) ≤ b → spot_from b spot (items_from n c before xs) ≡ spot
  unmade before [] b spot order past = refl
  unmade before (x ∷ xs) b spot order past = by_call (call_in x.deed) refl (λ s. unmade (before ++ x ∷ []) xs b s order.1 (subst (λ (l : List Step). length (items_by n c l) ≤ b) (sym (append_assoc before (x ∷ []) xs)) past))
    where
      later : List Item
      later = items_from n c (before ++ x ∷ []) xs

      early : x.caller ≡ c → (did : Made) → call_in x.deed ≡ Some did → did.0 ≢ calls.Next b
      early caller did is step =
          let made = is_next x.deed did b is step in
          let stands = (order.0 caller).steps made.map b made.from (Some did.1) made.is in
          let inside = slice_get_within (items_by n x.caller before) b stands.begin stands.at in
          let same = ap (λ (d : ℕ). length (items_by n d before)) caller in
          let more = fewer before (x ∷ xs) in absurd (omega arith)

      by_caller : (did : Made) → call_in x.deed ≡ Some did → (e : Bool) → eqb x.caller c ≡ e → ((s : ℕ) → spot_from b s later ≡ s) → spot_from b spot (cond e (item_at n before x.knew did ∷ later) later) ≡ spot
      by_caller did is true same rest = rest (spot_next b did.0 did.1.reply spot) ∙ stands_still b spot did.1.reply did.0 (early (eqb-true x.caller c same) did is)
      by_caller did is false same rest = rest spot

      by_call : (found : Option Made) → call_in x.deed ≡ found → ((s : ℕ) → spot_from b s later ≡ s) → spot_from b spot (listed n c before x found later) ≡ spot
      by_call None is rest = rest spot
      by_call (Some did) is rest = by_caller did is (eqb x.caller c) refl rest

pub same_event : (event : Event) (answer : Option Answered) (m b from : ℕ) (reply : Option Answered) → Did event answer ≡ Did (Next m b from) reply → event ≡ Next m b from
same_event event answer m b from reply e = (cc)

-- one call more of the caller is counted
pub more_count : (n c : ℕ) (seen between : List Step) (e : Step) (made : Made) → by c (seen ++ between) ≡ by c seen → e.caller ≡ c → call_in e.deed ≡ Some made → calls_counted c ((seen ++ between) ++ e ∷ []) ≡ calls_counted c seen + 1
more_count n c seen between e made same caller is =
    let kept : calls_counted c (seen ++ between) ≡ calls_counted c seen = kept_count n c seen (seen ++ between) (between, refl) same in
    let one : counts c e.caller (call_in e.deed) ≡ 1 = ap (counts c e.caller) is ∙ ap (λ (b : Bool). cond b 1 0) (eq-eqb e.caller c caller) in
    let whole = count-append c (seen ++ between) (e ∷ []) in omega arith

-- a note that stayed one of some home is one of each home where it was one
pub note_of : (plain home : Plain) (old new : Mark) → IsNoteOf plain.object old.pass → IsNoteOf plain.object new.pass → number_of new.pass ≡ number_of old.pass → IsNoteOf home.object old.pass → IsNoteOf home.object new.pass
note_of plain home old new was is number at_home = record {
  table = is.table ∙ (sym was.table ∙ at_home.table);
  caller = subst (λ (k : ℕ). k < callers_of home.object) (sym number) at_home.caller;
  number = is.number;
  one = is.one;
  turn = is.turn;
  empty = is.empty;
  turns = is.turns;
}

-- a note keeps what it kept of its caller, where its pass has seen no more of the caller
pub keeps_on : (old new : Mark) (own : List Step) → new.callers ≡ old.callers → number_of new.pass ≡ number_of old.pass → new.done ≡ old.done → Begins (seen_by new.pass) (seen_by old.pass)
    → own ≡ by (number_of new.pass) (seen_by new.pass) → KeepsOwn old own → KeepsOwn new own
keeps_on old new own callers number done begins is keeps =
    let c = number_of old.pass in
    let stays : by c (seen_by new.pass) ≡ by c (seen_by old.pass) = sym (ap (λ d. by d (seen_by new.pass)) number) ∙ (sym is ∙ keeps.own_is) in
    record {
      own_is = is;
      order = subst (λ n. AreInOrder n (number_of new.pass) [] (seen_by new.pass)) (sym callers) (subst (λ d. AreInOrder old.callers d [] (seen_by new.pass)) (sym number) (kept_order old.callers c (seen_by old.pass) (seen_by new.pass) begins stays keeps.order));
      done = λ below. done ∙ (keeps.done (λ e. below (done ∙ e)) ∙ (sym (kept_count old.callers c (seen_by old.pass) (seen_by new.pass) begins stays) ∙ ap (λ d. calls_counted d (seen_by new.pass)) (sym number)));
    }
