use Rattle.std.proofs.Common.{rules, ◌≡◌, ℕ, ◌+◌, ◌*◌, ◌<◌, ◌^◌, [], ⊎_elim, length, drop, sum, get_or, slice_get, slice_index, refl, sym, ap, ◌∙◌, subst, arith}
use Rattle.std.proofs.lemmas.Option.{none-some}
use Rattle.table_rule.specs.declared.view.View.{View}
use Rattle.table_words.specs.Seats.{begin_of}
use Rattle.shared_table.specs.Dealing.{left_view, IsNewCaller}
use Rattle.table_rule.specs.Views.{spare_in, dealt, kept, IsIdle}
use Rattle.shared_table.proofs.FirstCallers.{left_idle, some_left, kept_left, room_left, fits_left, is_new, ghosts_are, all_new, item_on, one_longer}
use Rattle.shared_table.proofs.table.SharedTable.first_callers.Goals as goal

pub loop-number-init : goal.loop-number-init
loop-number-init c = record {
  table = c.requires.all.0;
  left = c.requires.all.1 ∙ ap (λ (next : ℕ). (left_view (begin_of c.args.self.now.words) 0 next, [])) (sym c.room_start-next.ensures);
  room = let start = c.room_start-next.ensures in omega arith;
  made = search rules;
  count = search rules;
  space = search rules;
  dealt = λ i caller at. absurd (none-some caller (ap (λ l. slice_get l i) (sym (c.in_ok-callers.ensures.items)) ∙ at));
}

pub deal-seat-requires-clause-table : goal.deal-seat-requires-clause-table
deal-seat-requires-clause-table c = c.loop-number.invariant.table

pub deal-seat-requires-clause-idle : goal.deal-seat-requires-clause-idle
deal-seat-requires-clause-idle c =
    let left = sym (ap (λ me. me.0) c.loop-number.invariant.left) in
    (ap (λ me. me.0.live) c.loop-number.invariant.left, subst IsIdle left (left_idle (begin_of c.args.self.now.words) c.loop-number.number c.loop-number.next))

pub deal-seat-requires-clause-some : goal.deal-seat-requires-clause-some
deal-seat-requires-clause-some c =
    let inside = subst (λ l. c.loop-number.number < length l) c.spare_units-spares.ensures c.loop-number-test.true in
    subst (λ (v : View). 0 < length v.owns) (sym (ap (λ me. me.0) c.loop-number.invariant.left)) (some_left (begin_of c.args.self.now.words) c.loop-number.number c.loop-number.next inside)

pub invariant_of-note : goal.invariant_of-note
invariant_of-note c =
    let k = begin_of c.args.self.now.words in
    let inside = subst (λ l. c.loop-number.number < length l) c.spare_units-spares.ensures c.loop-number-test.true in
    let me = c.deal-seat.ensures.dealt.1 ∙ ap (λ m. (dealt m.0, [])) c.loop-number.invariant.left in
    let are = ghosts_are k c.loop-number.number c.loop-number.next inside c.deal-seat.result.me me in
    record { number_is = are.0; next_is = are.1; spare_is = subst (λ n. spare_in n c.deal-seat.result.me.0.owns ≡ n) (ap (λ l. get_or l c.loop-number.number 0) (sym c.spare_units-spares.ensures)) are.2 }

pub push_reserved-requires : goal.push_reserved-requires
push_reserved-requires c =
    let inside = ap length c.spare_units-spares.ensures in
    let test = c.loop-number-test.true in
    let made = c.loop-number.invariant.made in
    let space = c.loop-number.invariant.space in
    omega arith

pub overflow_add-next : goal.overflow_add-next
overflow_add-next c =
    let k = begin_of c.args.self.now.words in
    let inside = subst (λ l. c.loop-number.number < length l) c.spare_units-spares.ensures c.loop-number-test.true in
    let fits = fits_left k c.loop-number.number c.loop-number.next inside c.args.self.now.made c.loop-number.invariant.room in
    let same : c.loop-number.next + 128 * get_or c.spare_units-spares.result.now c.loop-number.number 0 < 2 ^ 64 = subst (λ l. c.loop-number.next + 128 * get_or l c.loop-number.number 0 < 2 ^ 64) (sym c.spare_units-spares.ensures) fits in
    search rules

pub loop-number-preserved : goal.loop-number-preserved
loop-number-preserved c =
    let k = begin_of c.args.self.now.words in
    let n = c.loop-number.number in
    let next = c.loop-number.next in
    let items = c.loop-number.callers.items in
    let inside = subst (λ l. c.loop-number.number < length l) c.spare_units-spares.ensures c.loop-number-test.true in
    let spare : slice_index k.spares n ≡ get_or c.spare_units-spares.result.now n 0 = ap (λ l. get_or l n 0) (sym c.spare_units-spares.ensures) in
    let me = c.deal-seat.ensures.dealt.1 ∙ ap (λ m. (dealt m.0, [])) c.loop-number.invariant.left in
    record {
      table = c.deal-seat.ensures.all.0 ∙ c.loop-number.invariant.table;
      left = c.deal-seat.ensures.all.1 ∙ ap (λ m. (kept m.0, m.1)) c.loop-number.invariant.left ∙ ap (λ (v : View). (v, [])) (kept_left k n next inside ∙ ap (λ s. left_view k (n + 1) (next + 128 * s)) spare);
      room = ap (λ s. (next + 128 * s) + 128 * sum (drop (n + 1) k.spares)) (sym spare) ∙ room_left k n next inside c.loop-number.invariant.room;
      made = search rules;
      count = ap length c.push_reserved.ensures.items ∙ one_longer items _ n c.loop-number.invariant.count;
      space = search rules;
      dealt = λ i caller at. ⊎_elim (λ t. c.loop-number.invariant.dealt i caller t)
          (λ t. let is : i ≡ n = t.0 ∙ c.loop-number.invariant.count in
          subst (λ j. IsNewCaller c.args.self.now k.spares j caller) (sym is)
          (subst (IsNewCaller c.args.self.now k.spares n) (sym t.1) (is_new k n next inside c.args.self.now _ refl c.deal-seat.ensures.dealt.0 me)))
          (item_on items _ caller i (ap (λ l. slice_get l i) (sym c.push_reserved.ensures.items) ∙ at));
    }

pub returns : goal.returns
returns c =
    let ended = c.loop-number-test.false in
    let least = c.loop-number.auto.number-end in
    let inside = ap length c.spare_units-spares.ensures in
    let made = c.loop-number.invariant.count in
    all_new c.args.self.now (begin_of c.args.self.now.words) c.loop-number.callers.items refl (omega arith) c.loop-number.invariant.dealt
