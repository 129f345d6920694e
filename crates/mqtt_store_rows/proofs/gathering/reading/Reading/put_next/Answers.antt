use Rattle.std.proofs.Common.{◌≡◌, ◌<◌, true, List, [], ◌∷◌, ◌++◌, length, length-append, map, refl, sym, ap, subst, ◌∙◌, arith}
use Rattle.mqtt_base.specs.declared.limits.TheConstants.{SESSION_LIMIT}
use Rattle.mqtt_records.specs.state.Contents.{SharesContents}
use Rattle.mqtt_records.specs.declared.state.session.Session.{Session}
use Rattle.mqtt_records.specs.state.Session.{birth_of, with_all_slim}
use Rattle.mqtt_keep.specs.lawful.Lawful.{IsLawfulSession}
use Rattle.mqtt_records.specs.lists.Order.{IsAscending, IsBelow, IsTable, put_row}
use Rattle.mqtt_store_rows.proofs.rows_lemmas.QueueLemmas.{below_front}
use Rattle.mqtt_store_rows.specs.rows.Gives.{without_queue}
use Rattle.mqtt_store_rows.specs.gathering.Alone.{last_in, alone}
use Rattle.mqtt_store_rows.specs.gathering.Queues.{with_copies}
use Rattle.mqtt_store_rows.proofs.gathering_lemmas.ReadingLemmas.{without_pushed, table_still, table_without}
use Rattle.mqtt_store_rows.proofs.gathering.reading.Reading.put_next.Goals as goal

pub judged-requires-clause-shared : goal.judged-requires-clause-shared
judged-requires-clause-shared c =
    subst (λ (s : Session). SharesContents (alone c.args.self.now.numbers s)) (sym c.with_queue.ensures) (c.requires.shared c.in-Some.session c.take_first.new.sessions c.in-Some.ensures)

pushed : (c : goal.After-put) → c.put.new.self ≡ c.args.self.now.all ++ with_all_slim (with_copies c.args.queue c.in-Some.session) ∷ []
pushed c =
    let all = c.args.self.now.all in
    let s = c.in-Some.session in
    let bare = c.take_first.new.sessions in
    let t = with_all_slim (with_copies c.args.queue s) in
    let made : c.in_ok-lawful.slim ≡ t = c.in_ok-lawful.ensures.slim ∙ ap with_all_slim c.with_queue.ensures in
    let order : IsAscending birth_of (all ++ s ∷ bare) = subst (λ (l : List Session). IsAscending birth_of (all ++ l)) c.in-Some.ensures c.requires.table.ascending in
    let low : IsBelow birth_of s.birth all = below_front all s bare order in
    let count = ap length (ap (λ (l : List Session). all ++ l) c.in-Some.ensures) in
    let sizes = length-append all (s ∷ bare) in
    let few = c.requires.table.within in
    let room : length all < SESSION_LIMIT = omega (arith, count, sizes, few) in
    let last : put_row birth_of SESSION_LIMIT t all ≡ all ++ t ∷ [] = c.newest_comes_last.ensures SESSION_LIMIT t all low room in
    c.put.ensures ∙ (ap (λ (x : Session). put_row birth_of SESSION_LIMIT x all) made ∙ last)

pub returns-in_err-lawful-clause-table : goal.returns-in_err-lawful-clause-table
returns-in_err-lawful-clause-table c =
    let all = c.args.self.now.all in
    table_without all c.in-Some.session c.take_first.new.sessions (subst (λ (l : List Session). IsTable birth_of SESSION_LIMIT (all ++ l)) c.in-Some.ensures c.requires.table)

pub returns-clause-same : goal.returns-clause-same
returns-clause-same c =
    let all = c.args.self.now.all in
    let s = c.in-Some.session in
    let bare = c.take_first.new.sessions in
    record {
      messages = refl;
      numbers = refl;
      sessions = ap (λ (l : List Session). map without_queue (l ++ bare)) (pushed c)
          ∙ (without_pushed all (with_all_slim (with_copies c.args.queue s)) s bare refl ∙ ap (λ (l : List Session). map without_queue (all ++ l)) (sym c.in-Some.ensures));
    }

pub returns-clause-table : goal.returns-clause-table
returns-clause-table c = table_still c.args.self.now (record c.args.self.now { all = c.put.new.self; bare = c.take_first.new.sessions }) (returns-clause-same c) c.requires.table

pub returns-clause-put : goal.returns-clause-put
returns-clause-put c is =
    let lawful : c.in_ok-lawful.lawful ≡ true = cc in
    (c.in-Some.session, c.in-Some.ensures, pushed c, subst (IsLawfulSession (last_in c.args.self.now.numbers)) c.with_queue.ensures (c.in_ok-lawful.ensures.exact.0 lawful))
