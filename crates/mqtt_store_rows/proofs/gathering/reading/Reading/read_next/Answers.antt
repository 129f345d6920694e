use Rattle.std.proofs.Common.{◌≡◌, Err, List, sym, ap, subst}
use Rattle.mqtt_keep.specs.lawful.Lawful.{IsLawfulSession}
use Rattle.mqtt_records.specs.messages.Queue.{CopyRow}
use Rattle.mqtt_store_rows.proofs.values_lemmas.OneLemmas.{same_part}
use Rattle.mqtt_store_rows.specs.rows.Joins.{SaysCopy}
use Rattle.mqtt_store_rows.specs.rows.Ones.{one_copy}
use Rattle.mqtt_store_rows.specs.gathering.Alone.{last_in}
use Rattle.mqtt_store_rows.specs.gathering.Queues.{with_copies}
use Rattle.mqtt_store_rows.proofs.gathering_lemmas.AloneLemmas.{alone_shares}
use Rattle.mqtt_store_rows.proofs.gathering_lemmas.ReadingLemmas.{same_first, of_birth}
use Rattle.mqtt_store_rows.proofs.gathering.reading.Reading.read_next.Goals as goal

pub returns-in-Err-Corrupt-clause-no : goal.returns-in-Err-Corrupt-clause-no
returns-in-Err-Corrupt-clause-no c is s others rest queue bare read =
    let messages = c.args.self.now.messages in
    let first = c.requires.first in
    let birth = same_first first.0 s first.1 others c.args.self.now.bare c.args.birth first.2 bare first.3 in
    c.in-Err-Corrupt.ensures.err (ap Err c.in-Err-Corrupt.field-0-is) queue rest (of_birth (SaysCopy messages) s.birth c.args.birth queue c.args.self.now.part.items rest (sym birth) read.takes) read.lawful.queue.table

pub put_next-requires-clause-shared : goal.put_next-requires-clause-shared
put_next-requires-clause-shared c s others bare = alone_shares c.args.self.now.messages c.args.self.now.numbers (with_copies c.in-Ok.queue s) c.in-Ok.ensures.ok.takes.front c.in-Ok.ensures.ok.takes.are

pub returns-clause-no : goal.returns-clause-no
returns-clause-no c is s others rest queue bare read =
    let messages = c.args.self.now.messages in
    let first = c.requires.first in
    let birth = same_first first.0 s first.1 others c.args.self.now.bare c.args.birth first.2 bare first.3 in
    let mine = c.in-Ok.ensures.ok in
    let same : queue ≡ c.in-Ok.queue = same_part (SaysCopy messages) (one_copy messages) s.birth c.args.birth queue c.in-Ok.queue c.args.self.now.part.items rest c.part_with.new.rows.items (sym birth) read.takes.takes read.takes.ends mine.takes mine.ends in
    c.put_next.ensures.no is s others bare (subst (λ (q : List CopyRow). IsLawfulSession (last_in c.args.self.now.numbers) (with_copies q s)) same read.lawful)
