use Rattle.table_words.proofs.Mounting.{mounts}
use Rattle.table_words.proofs.Joining.{some_word}
use Rattle.table_words.proofs.words.TableWords.mount_as.Goals as goal

pub join_seat-requires : goal.join_seat-requires
join_seat-requires g c =
    let table = c.args.self.now in
    let seat = c.args.seat.now in
    let cursor = c.args.cursor in
    (c.requires.table.0, c.requires.table.1, c.requires.nobody.1, some_word table, mounts table.table.shared.key seat.id seat.me.0 cursor.id cursor.me.0 g.T.Timed.time c.requires.live.0 c.requires.live.1 c.requires.nobody.0 c.requires.live.2)
