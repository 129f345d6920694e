use Rattle.std.proofs.Common.{◌≡◌, false, Err, refl, sym, ap, ◌∙◌}
use Rattle.mqtt_store_rows.specs.gathering.Gathered.{Gathered}
use Rattle.mqtt_store_rows.proofs.gathering_lemmas.TakenLemmas.{taken_on, says_none, whatever}
use Rattle.mqtt_store_rows.proofs.gathering.messages.GatheredMessagesGather.take_in.Goals as goal

pub returns-in-Ok-clause-taken : goal.returns-in-Ok-clause-taken
returns-in-Ok-clause-taken c rows has =
    let g = c.args.self.now in
    let sound : g.is_corrupt ≡ false = sym (ap (λ (g : Gathered). g.is_corrupt) c.self.view_is) ∙ c.if-self.false in
    let e = c.add.ensures in
    taken_on g rows c.args.row.now sound has c.add.result c.in-Ok.message c.in-Ok.ensures.ok c.add.new.self e.whole e.added e.no

pub returns-in-Ok-clause-goes_on : goal.returns-in-Ok-clause-goes_on
returns-in-Ok-clause-goes_on c = whatever c.add.result (sym c.add.ensures.whole)

pub returns-in-Err-Corrupt : goal.returns-in-Err-Corrupt
returns-in-Err-Corrupt c =
    let g = c.args.self.now in
    let sound : g.is_corrupt ≡ false = sym (ap (λ (g : Gathered). g.is_corrupt) c.self.view_is) ∙ c.if-self.false in
    record {
      taken = λ rows has. says_none g rows c.args.row.now sound has (c.in-Err-Corrupt.ensures.err (ap Err c.in-Err-Corrupt.field-0-is)) _ refl;
      goes_on = sym (ap (λ (g : Gathered). g.whole) c.self.view_is);
    }
