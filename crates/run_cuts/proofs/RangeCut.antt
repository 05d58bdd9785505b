-- That the items of a range are cut as they are spelt.
use Rattle.std.proofs.Common.{◌≡◌, ◌∙◌, ℕ, Bool, true, false, cond, List, [], ◌∷◌, ◌++◌, map, length, get_or, Some, None, refl, sym, ap, subst, arith}
use Rattle.std.specs.Prelude.{Ok}
use Rattle.std.proofs.lemmas.Bool.{eqb-true, eq-eqb, cond-true}
use Rattle.sync_model.specs.declared.answer.Answer.TheVariants.{Done}
use Rattle.sync_model.specs.declared.item.Item.{Item}
use Rattle.sync_model.specs.declared.item.SharedCall.{SharedCall}
use Rattle.sync_model.specs.declared.item.SharedCall.TheVariants as shared
use Rattle.sync_model.specs.declared.item.SharedReply.{SharedReply}
use Rattle.sync_model.specs.declared.item.SharedReply.TheVariants as answers
use Rattle.protocols.specs.Spelling.{CallAnswer}
use Rattle.script_calls.specs.declared.call.Reply.{Reply}
use Rattle.script_calls.specs.declared.call.Reply.TheVariants as replies
use Rattle.run_record.specs.declared.made.Made.{Made}
use Rattle.run_record.specs.declared.made.Made.TheVariants.{Shared, Entered}
use Rattle.run_record.specs.MapKind.{AreSorted, range_call, step_showing}
use Rattle.run_record.specs.Parts.{Places, with_outcome}
use Rattle.run_cuts.specs.Cuts.{Beginning, whole, within, wrong, behind, read_beginning}
use Rattle.run_cuts.specs.RangeCuts.{Pairs, is_begin, is_step, by_shown, steps_cut, by_begun, shows_cut, shows, CutsRange}
use Rattle.run_cuts.proofs.CutLemmas.{same_whole, within_whole, wrong_whole, whole_within, whole_wrong, within_wrong, wrong_within, behind_whole, behind_within, behind_wrong, read_whole, read_within, read_wrong}

abbrev Asked : Type 0
Asked = SharedCall × SharedReply

abbrev asked_of : Item → Asked
asked_of x = (x.call, x.reply)

-- the first of some placed calls, and the others
pub record FirstPlace (call : SharedCall) (reply : SharedReply) (later : List Asked) (items : List Made) : Type 0 where
  pub x : Item
  pub others : List Made
  pub are : items ≡ Shared x ∷ others
  pub call_is : x.call ≡ call
  pub reply_is : x.reply ≡ reply
  pub places : Places later others

abbrev others_of : List Asked → List Asked
others_of [] = []
others_of (a ∷ list) = list

first_place : (call : SharedCall) (reply : SharedReply) (later : List Asked) (items : List Made) → (let a : Asked = (call, reply) in Places (a ∷ later) items) → FirstPlace call reply later items
first_place call reply later items ([], is, are) = absurd (omega (arith, ap (λ (l : List Asked). length l) are))
first_place call reply later items (x ∷ made, is, are) =
    let a : Asked = (call, reply) in
    let same : asked_of x ≡ a = ap (λ (l : List Asked). get_or l 0 a) are in record {
      x = x;
      others = map Shared made;
      are = is;
      call_is = ap (λ (p : Asked). p.0) same;
      reply_is = ap (λ (p : Asked). p.1) same;
      places = (made, refl, ap others_of are);
    }

one_more : (call : SharedCall) (reply : SharedReply) (later : List Asked) (x : Item) (others : List Made) → x.call ≡ call → x.reply ≡ reply → Places later others → (let a : Asked = (call, reply) in Places (a ∷ later) (Shared x ∷ others))
one_more call reply later x others c r (made, is, are) =
    let of = λ (p : SharedCall) (q : SharedReply). let a : Asked = (p, q) in a in
    let first : asked_of x ≡ of call reply = ap (λ (p : SharedCall). of p x.reply) c ∙ ap (λ (q : SharedReply). of call q) r in
    (x ∷ made, ap (λ (l : List Made). Shared x ∷ l) is, ap (λ (a : Asked). a ∷ map asked_of made) first ∙ ap (λ (l : List Asked). of call reply ∷ l) are)

none_left : (others : List Made) → Places [] others → others ≡ []
none_left others ([], is, are) = is
none_left others (x ∷ made, is, are) = absurd (omega (arith, ap (λ (l : List Asked). length l) are))

begin_told : (m : ℕ) (c : SharedCall) → is_begin m c ≡ true → c ≡ shared.Begin m
begin_told m (shared.Begin n) h = ap (λ (k : ℕ). let c : SharedCall = shared.Begin k in c) (eqb-true n m h)
begin_told m c h = absurd cc

step_told : (begin : ℕ) (c : SharedCall) → is_step begin c ≡ true → c ≡ shared.Next begin
step_told begin (shared.Next n) h = ap (λ (k : ℕ). let c : SharedCall = shared.Next k in c) (eqb-true n begin h)
step_told begin c h = absurd cc

module _ (keys : List (List ℕ)) (m begin : ℕ) where
  abbrev last : Asked
  last = (shared.Next begin, answers.Shown None)

  abbrev steps_of : Pairs → List Asked
  steps_of shown = map (step_showing keys m begin) shown ++ (last ∷ [])

  -- the items are the steps of a cursor, which shows these pairs
  abbrev Steps : List Made → CallAnswer Pairs → Type 0
  Steps items answer = (shown : Pairs) × Places (steps_of shown) items × (answer ≡ Done (Ok shown))

  abbrev cut : List Made → Beginning Pairs
  cut list = steps_cut begin list

  step_more : (x : Item) (pair : ℕ × ℕ) (items : List Made) (given answer : CallAnswer Pairs) → x.call ≡ shared.Next begin → x.reply ≡ answers.Shown (Some pair) → Steps items given → answer ≡ with_outcome (λ (l : Pairs). pair ∷ l) given → Steps (Shared x ∷ items) answer
  step_more x pair items given answer c r (shown, places, is) read =
      (pair ∷ shown, one_more (shared.Next begin) (answers.Shown (Some pair)) (steps_of shown) x items c r places, read ∙ ap (λ (a : CallAnswer Pairs). with_outcome (λ (l : Pairs). pair ∷ l) a) is)

  step_last : (x : Item) → x.call ≡ shared.Next begin → x.reply ≡ answers.Shown None → Steps (Shared x ∷ []) (Done (Ok []))
  step_last x c r = ([], one_more (shared.Next begin) (answers.Shown None) [] x [] c r ([], refl, refl), refl)

  steps_sound : (list items rest : List Made) (answer : CallAnswer Pairs) → cut list ≡ whole items answer rest → (list ≡ items ++ rest) × Steps items answer
  steps_sound [] items rest answer e = absurd (within_whole items rest answer e)
  steps_sound (Entered object entry ∷ list) items rest answer e = absurd (wrong_whole items rest answer e)
  steps_sound (Shared x ∷ list) items rest answer e = by (is_step begin x.call) refl x.reply refl e (λ is a f. steps_sound list is rest a f)
    where
      by : (b : Bool) → is_step begin x.call ≡ b → (r : SharedReply) → x.reply ≡ r → cond b (by_shown (Shared x) r list (cut list)) wrong ≡ whole items answer rest
          → ((is : List Made) (a : CallAnswer Pairs) → cut list ≡ whole is a rest → (list ≡ is ++ rest) × Steps is a) → (Shared x ∷ list ≡ items ++ rest) × Steps items answer
      by true its (answers.Shown None) told e on =
          let found = same_whole (Shared x ∷ []) items (Done (Ok [])) answer list rest e in (
            ap (λ (l : List Made). Shared x ∷ l) found.rests_are ∙ ap (λ (l : List Made). l ++ rest) found.items_are,
            subst (λ (l : List Made). Steps l answer) found.items_are (subst (λ (a : CallAnswer Pairs). Steps (Shared x ∷ []) a) found.answers_are (step_last x (step_told begin x.call its) told)),
          )
      by true its (answers.Shown (Some pair)) told e on =
          let found = behind_whole (Shared x ∷ []) (read_beginning (λ (l : Pairs). pair ∷ l) (cut list)) items rest answer e in
          let read = read_whole (λ (l : Pairs). pair ∷ l) (cut list) found.others rest answer found.is in
          let later = on found.others read.given read.is in (
            ap (λ (l : List Made). Shared x ∷ l) later.0 ∙ ap (λ (l : List Made). l ++ rest) (sym found.are),
            subst (λ (l : List Made). Steps l answer) (sym found.are) (step_more x pair found.others read.given answer (step_told begin x.call its) told later.1 read.read),
          )
      by true its answers.Begun told e on = absurd (wrong_whole items rest answer e)
      by true its (answers.Map r) told e on = absurd (wrong_whole items rest answer e)
      by true its (answers.Atomic r) told e on = absurd (wrong_whole items rest answer e)
      by false its r told e on = absurd (wrong_whole items rest answer e)

  is_next : (x : Item) → x.call ≡ shared.Next begin → is_step begin x.call ≡ true
  is_next x c = ap (is_step begin) c ∙ eq-eqb begin begin refl

  -- one step, by what it shows
  there : (x : Item) (reply : SharedReply) (list : List Made) → x.call ≡ shared.Next begin → x.reply ≡ reply → cut (Shared x ∷ list) ≡ by_shown (Shared x) reply list (cut list)
  there x reply list c r =
      cond-true (is_step begin x.call) (by_shown (Shared x) x.reply list (cut list)) wrong (is_next x c) ∙ ap (λ (q : SharedReply). by_shown (Shared x) q list (cut list)) r

  steps_complete : (shown : Pairs) (items rest : List Made) → Places (steps_of shown) items → cut (items ++ rest) ≡ whole items (Done (Ok shown)) rest
  steps_complete [] items rest places =
      let first = first_place (shared.Next begin) (answers.Shown None) [] items places in
      let are : items ≡ Shared first.x ∷ [] = first.are ∙ ap (λ (l : List Made). Shared first.x ∷ l) (none_left first.others first.places) in
      ap (λ (l : List Made). cut (l ++ rest)) are ∙ there first.x (answers.Shown None) rest first.call_is first.reply_is ∙ ap (λ (l : List Made). whole l (Done (Ok [])) rest) (sym are)
  steps_complete (pair ∷ shown) items rest places =
      let first = first_place (shared.Next begin) (answers.Shown (Some pair)) (steps_of shown) items places in
      ap (λ (l : List Made). cut (l ++ rest)) first.are ∙ there first.x (answers.Shown (Some pair)) (first.others ++ rest) first.call_is first.reply_is
      ∙ ap (λ (f : Beginning Pairs). behind (Shared first.x ∷ []) (read_beginning (λ (l : Pairs). pair ∷ l) f)) (steps_complete shown first.others rest first.places)
      ∙ ap (λ (l : List Made). whole l (Done (Ok (pair ∷ shown))) rest) (sym first.are)

  last_item : Item
  last_item = record { call = shared.Next begin; reply = answers.Shown None; place = 0; entry = false; front = [] }

  abbrev CanEnd : List Made → Type 0
  CanEnd list = (later : List Made) × (answer : CallAnswer Pairs) × Steps (list ++ later) answer

  steps_on : (list : List Made) → cut list ≡ within → CanEnd list
  unfolding last_item
  steps_on [] e = (Shared last_item ∷ [], Done (Ok []), step_last last_item refl refl)
  steps_on (Entered object entry ∷ list) e = absurd (wrong_within e)
  steps_on (Shared x ∷ list) e = by (is_step begin x.call) refl x.reply refl e (λ f. steps_on list f)
    where
      by : (b : Bool) → is_step begin x.call ≡ b → (r : SharedReply) → x.reply ≡ r → cond b (by_shown (Shared x) r list (cut list)) wrong ≡ within → (cut list ≡ within → CanEnd list) → CanEnd (Shared x ∷ list)
      by true its (answers.Shown None) told e on = absurd (whole_within (Shared x ∷ []) list (Done (Ok [])) e)
      by true its (answers.Shown (Some pair)) told e on = more (on (read_within (λ (l : Pairs). pair ∷ l) (cut list) (behind_within (Shared x ∷ []) (read_beginning (λ (l : Pairs). pair ∷ l) (cut list)) e)))
        where
          more : CanEnd list → CanEnd (Shared x ∷ list)
          more (later, given, steps) =
              let answer : CallAnswer Pairs = with_outcome (λ (l : Pairs). pair ∷ l) given in
              (later, answer, step_more x pair (list ++ later) given answer (step_told begin x.call its) told steps refl)
      by true its answers.Begun told e on = absurd (wrong_within e)
      by true its (answers.Map r) told e on = absurd (wrong_within e)
      by true its (answers.Atomic r) told e on = absurd (wrong_within e)
      by false its r told e on = absurd (wrong_within e)

  steps_stay : (list later : List Made) → cut list ≡ wrong → cut (list ++ later) ≡ wrong
  steps_stay [] later e = absurd (within_wrong e)
  steps_stay (Entered object entry ∷ list) later e = refl
  steps_stay (Shared x ∷ list) later e = by (is_step begin x.call) x.reply e (λ f. steps_stay list later f)
    where
      by : (b : Bool) (r : SharedReply) → cond b (by_shown (Shared x) r list (cut list)) wrong ≡ wrong → (cut list ≡ wrong → cut (list ++ later) ≡ wrong) → cond b (by_shown (Shared x) r (list ++ later) (cut (list ++ later))) wrong ≡ wrong
      by true (answers.Shown None) e on = absurd (whole_wrong (Shared x ∷ []) list (Done (Ok [])) e)
      by true (answers.Shown (Some pair)) e on =
          ap (λ (f : Beginning Pairs). behind (Shared x ∷ []) (read_beginning (λ (l : Pairs). pair ∷ l) f)) (on (read_wrong (λ (l : Pairs). pair ∷ l) (cut list) (behind_wrong (Shared x ∷ []) (read_beginning (λ (l : Pairs). pair ∷ l) (cut list)) e)))
      by true answers.Begun e on = refl
      by true (answers.Map r) e on = refl
      by true (answers.Atomic r) e on = refl
      by false r e on = refl

  -- ---- behind its begin

  abbrev Shows : List Made → CallAnswer Pairs → Type 0
  Shows items answer = shows keys m begin items answer

  begun : (x : Item) (items : List Made) (answer : CallAnswer Pairs) → x.call ≡ shared.Begin m → x.reply ≡ answers.Begun → Steps items answer → Shows (Shared x ∷ items) answer
  begun x items answer c r (shown, places, is) = (shown, one_more (shared.Begin m) answers.Begun (steps_of shown) x items c r places, is)

  shows_sound : (list items rest : List Made) (answer : CallAnswer Pairs) → shows_cut m begin list ≡ whole items answer rest → (list ≡ items ++ rest) × Shows items answer
  shows_sound [] items rest answer e = absurd (within_whole items rest answer e)
  shows_sound (Entered object entry ∷ list) items rest answer e = absurd (wrong_whole items rest answer e)
  shows_sound (Shared x ∷ list) items rest answer e = by (is_begin m x.call) refl x.reply refl e
    where
      by : (b : Bool) → is_begin m x.call ≡ b → (r : SharedReply) → x.reply ≡ r → cond b (by_begun (Shared x) r (cut list)) wrong ≡ whole items answer rest → (Shared x ∷ list ≡ items ++ rest) × Shows items answer
      by true its answers.Begun told e =
          let found = behind_whole (Shared x ∷ []) (cut list) items rest answer e in
          let later = steps_sound list found.others rest answer found.is in (
            ap (λ (l : List Made). Shared x ∷ l) later.0 ∙ ap (λ (l : List Made). l ++ rest) (sym found.are),
            subst (λ (l : List Made). Shows l answer) (sym found.are) (begun x found.others answer (begin_told m x.call its) told later.1),
          )
      by true its (answers.Shown r) told e = absurd (wrong_whole items rest answer e)
      by true its (answers.Map r) told e = absurd (wrong_whole items rest answer e)
      by true its (answers.Atomic r) told e = absurd (wrong_whole items rest answer e)
      by false its r told e = absurd (wrong_whole items rest answer e)

  shows_complete : (items rest : List Made) (answer : CallAnswer Pairs) → Shows items answer → shows_cut m begin (items ++ rest) ≡ whole items answer rest
  shows_complete items rest answer (shown, places, is) =
      let first = first_place (shared.Begin m) answers.Begun (steps_of shown) items places in
      let x : Item = first.x in
      let left : List Made = first.others ++ rest in
      ap (λ (l : List Made). shows_cut m begin (l ++ rest)) first.are
      ∙ cond-true (is_begin m x.call) (by_begun (Shared x) x.reply (cut left)) wrong (ap (is_begin m) first.call_is ∙ eq-eqb m m refl)
      ∙ ap (λ (q : SharedReply). by_begun (Shared x) q (cut left)) first.reply_is
      ∙ ap (behind (Shared x ∷ [])) (steps_complete shown first.others rest first.places)
      ∙ ap (λ (l : List Made). whole l (Done (Ok shown)) rest) (sym first.are) ∙ ap (λ (a : CallAnswer Pairs). whole items a rest) (sym is)

  begin_item : Item
  begin_item = record { call = shared.Begin m; reply = answers.Begun; place = 0; entry = false; front = [] }

  abbrev CanShow : List Made → Type 0
  CanShow list = (later : List Made) × (answer : CallAnswer Pairs) × Shows (list ++ later) answer

  shows_on : (list : List Made) → shows_cut m begin list ≡ within → CanShow list
  unfolding begin_item last_item
  shows_on [] e = (Shared begin_item ∷ (Shared last_item ∷ []), Done (Ok []), begun begin_item (Shared last_item ∷ []) (Done (Ok [])) refl refl (step_last last_item refl refl))
  shows_on (Entered object entry ∷ list) e = absurd (wrong_within e)
  shows_on (Shared x ∷ list) e = by (is_begin m x.call) refl x.reply refl e
    where
      more : x.call ≡ shared.Begin m → x.reply ≡ answers.Begun → CanEnd list → CanShow (Shared x ∷ list)
      more c r (later, answer, steps) = (later, answer, begun x (list ++ later) answer c r steps)

      by : (b : Bool) → is_begin m x.call ≡ b → (r : SharedReply) → x.reply ≡ r → cond b (by_begun (Shared x) r (cut list)) wrong ≡ within → CanShow (Shared x ∷ list)
      by true its answers.Begun told e = more (begin_told m x.call its) told (steps_on list (behind_within (Shared x ∷ []) (cut list) e))
      by true its (answers.Shown r) told e = absurd (wrong_within e)
      by true its (answers.Map r) told e = absurd (wrong_within e)
      by true its (answers.Atomic r) told e = absurd (wrong_within e)
      by false its r told e = absurd (wrong_within e)

  shows_stay : (list later : List Made) → shows_cut m begin list ≡ wrong → shows_cut m begin (list ++ later) ≡ wrong
  shows_stay [] later e = absurd (within_wrong e)
  shows_stay (Entered object entry ∷ list) later e = refl
  shows_stay (Shared x ∷ list) later e = by (is_begin m x.call) x.reply e
    where
      by : (b : Bool) (r : SharedReply) → cond b (by_begun (Shared x) r (cut list)) wrong ≡ wrong → cond b (by_begun (Shared x) r (cut (list ++ later))) wrong ≡ wrong
      by true answers.Begun e = ap (behind (Shared x ∷ [])) (steps_stay list later (behind_wrong (Shared x ∷ []) (cut list) e))
      by true (answers.Shown r) e = refl
      by true (answers.Map r) e = refl
      by true (answers.Atomic r) e = refl
      by false r e = refl

  abbrev Showed : List Made → Pairs → Type 0
  Showed items pairs = (shown : Pairs) × Shows items (Done (Ok shown)) × AreSorted keys m shown pairs

  same_answer : (shown other : Pairs) → (let a : CallAnswer Pairs = Done (Ok shown) in let b : CallAnswer Pairs = Done (Ok other) in a ≡ b) → shown ≡ other
  same_answer shown other e = cc

  same_pairs : (pairs other : Pairs) → (let a : CallAnswer (Reply ℕ) = Done (Ok (replies.Pairs pairs)) in let b : CallAnswer (Reply ℕ) = Done (Ok (replies.Pairs other)) in a ≡ b) → pairs ≡ other
  same_pairs pairs other e = cc

  replied : (items : List Made) (pairs : Pairs) → range_call keys m begin items (Done (Ok (replies.Pairs pairs))) → Showed items pairs
  replied items pairs (shown, other, places, sorted, is) = (shown, (shown, places, refl), subst (λ (l : Pairs). AreSorted keys m shown l) (sym (same_pairs pairs other is)) sorted)

  showed : (items : List Made) (pairs : Pairs) → Showed items pairs → range_call keys m begin items (Done (Ok (replies.Pairs pairs)))
  showed items pairs (shown, (other, places, is), sorted) = (other, pairs, places, subst (λ (l : Pairs). AreSorted keys m l pairs) (same_answer shown other is) sorted, refl)

  pub range_cut : CutsRange keys m begin
  range_cut = record {
    items = record { sound = shows_sound; complete = shows_complete; goes_on = shows_on; stays = shows_stay };
    replies = λ items pairs. (replied items pairs, showed items pairs);
  }
