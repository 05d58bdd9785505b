use Rattle.table_words.proofs.Mounting.{unmounts}
use Rattle.table_words.proofs.Joining.{some_word}
use Rattle.table_words.proofs.words.TableWords.unmount.Goals as goal

pub split_seat-requires : goal.split_seat-requires
split_seat-requires c =
    let table = c.args.self.now in
    let seat = c.args.seat.now in
    (c.requires.table, some_word table, unmounts table.table.shared.key seat.id seat.me.0 c.requires.live.0 c.requires.live.1)
