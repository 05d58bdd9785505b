use Rattle.std.proofs.Common.{◌∙◌, refl}
use Rattle.table_rule.specs.Walking.{told_at}
use Rattle.table_words.specs.Seats.{begin_of}
use Rattle.shared_table.proofs.Walks.{free_told}
use Rattle.shared_table.proofs.CursorNexts.{taken_in, ranging, outside, steps}
use Rattle.shared_table.proofs.cursor.TableCursor.next.Goals as goal

-- the seat when it has taken in the cursor's
pub step-shown-requires-clause-cursor : goal.step-shown-requires-clause-cursor
step-shown-requires-clause-cursor c =
    let is = c.requires.cursor in (
      is.2.spot,
      ranging c.args.words.now (told_at c.args.time.time c.args.seat.now.me) (free_told (begin_of c.args.words.now) c.args.seat.now.me c.args.time.time c.requires.free) c.args.self.now is.0 is.1 is.2 c.mount.new.seat.me
          (taken_in c.args.seat.now.me c.unmount-copy.new.seat.me c.mount.new.seat.me c.args.self.now.seat c.replace.result c.args.time.time c.unmount-copy.ensures.seats.0 c.replace.ensures.value c.mount.ensures.mounted),
    )

pub unmount-requires-clause-live : goal.unmount-requires-clause-live
unmount-requires-clause-live c =
    let is = c.requires.cursor in
    outside c.args.words.now (told_at c.args.time.time c.args.seat.now.me) (free_told (begin_of c.args.words.now) c.args.seat.now.me c.args.time.time c.requires.free) c.args.self.now is.0 is.1 is.2 c.mount.new.seat.me c.step-shown.new.seat.me c.step-shown.new.place c.step-shown.result
    (taken_in c.args.seat.now.me c.unmount-copy.new.seat.me c.mount.new.seat.me c.args.self.now.seat c.replace.result c.args.time.time c.unmount-copy.ensures.seats.0 c.replace.ensures.value c.mount.ensures.mounted)
    c.step-shown.ensures.stepped.0 c.step-shown.ensures.stepped.1

pub returns-clause-stepped : goal.returns-clause-stepped
returns-clause-stepped c map begin is =
    steps c.args.words.now (told_at c.args.time.time c.args.seat.now.me) (free_told (begin_of c.args.words.now) c.args.seat.now.me c.args.time.time c.requires.free) c.args.self.now map begin is c.mount.new.seat.me c.step-shown.new.seat.me c.step-shown.new.place c.step-shown.result
    (taken_in c.args.seat.now.me c.unmount-copy.new.seat.me c.mount.new.seat.me c.args.self.now.seat c.replace.result c.args.time.time c.unmount-copy.ensures.seats.0 c.replace.ensures.value c.mount.ensures.mounted)
    c.step-shown.ensures.stepped.0 c.step-shown.ensures.stepped.1 c.unmount.new.seat.me (record { seat = c.unmount.result; place = c.step-shown.new.place }) c.step-shown.ensures.words refl
    c.unmount.ensures.seats.0 c.unmount.ensures.seats.1 (c.unmount.ensures.table.1 ∙ c.step-shown.ensures.table ∙ c.mount.ensures.table ∙ c.unmount-copy.ensures.table.0 ∙ c.requires.table)
