use Rattle.std.proofs.Common.{◌≡◌, Ok, false, sym, subst, ap, ◌∙◌}
use Rattle.std.specs.Prelude.{option_copied, not}
use Rattle.mqtt_store_rows.specs.values.Lists.{BeginsOther}
use Rattle.mqtt_keep.specs.lawful.Lawful.{AreNumbers}
use Rattle.mqtt_store_rows.specs.declared.values.meta.Counters.{Counters}
use Rattle.mqtt_store_rows.specs.gathering.Alone.{last_in}
use Rattle.mqtt_store_rows.specs.gathering.Queues.{BeginsWith}
use Rattle.mqtt_store_rows.proofs.gathering_lemmas.ReadingLemmas.{none_before, none_next, none_left, gathered_next, table_still, same_but, some_follows, same_first}
use Rattle.mqtt_store_rows.proofs.gathering.reading.Reading.read_on.Goals as goal

pub returns-then-not-branch-clause-no : goal.returns-then-not-branch-clause-no
returns-then-not-branch-clause-no c is rows gathered =
    let next = option_copied c.args.next in
    let held = c.loop-birth.invariant in
    let first = c.in-Some.ensures in
    let refused : c.read_next.result ≡ Ok false = c.in_ok-read_next.was ∙ ap Ok c.if-not-branch.true in
    none_before c.args.self.now c.loop-birth.self rows (BeginsWith next) held.same
    (none_next c.loop-birth.self rows (BeginsWith next) held.table (held.read rows gathered) (c.read_next.ensures.no refused) first.0 first.1 first.2
    (λ rest may. subst (λ b. BeginsOther b rest) first.3 (c.is_of.ensures.other c.if-is_of.false rest may)))

pub loop-birth-preserved : goal.loop-birth-preserved
loop-birth-preserved c =
    let next = option_copied c.args.next in
    let old = c.loop-birth.self in
    let new = c.read_next.new.self in
    let held = c.loop-birth.invariant in
    let first = c.in-Some.ensures in
    let same = c.in_ok-read_next.ensures.same in
    let read = c.read_next.ensures.read (c.in_ok-read_next.was ∙ ap Ok c.if-not-branch.false) in
    record {
      same = same_but c.args.self.now old new held.same same;
      numbers = subst (λ (n : Counters). AreNumbers (last_in n)) (sym same.numbers) held.numbers;
      table = table_still old new same held.table;
      read = λ rows gathered. gathered_next old rows (BeginsWith next) held.table (held.read rows gathered) new same read
          (λ rest may. subst (λ b. BeginsOther b rest) (same_first first.0 read.session first.1 new.bare old.bare c.in-Some.birth first.2 read.bare first.3) (c.is_of.ensures.other c.if-is_of.false rest may));
    }

pub returns-clause-no : goal.returns-clause-no
returns-clause-no c is rows gathered =
    let next = option_copied c.args.next in
    let held = c.loop-birth.invariant in
    let no : c.is_none.result ≡ false = cc in
    none_before c.args.self.now c.loop-birth.self rows (BeginsWith next) held.same
    (none_left c.loop-birth.self rows (BeginsWith next) held.table (held.read rows gathered) c.in_default.ensures (λ rest may. some_follows c.args.next c.loop-birth.self.part.items rest (c.is_none.ensures ∙ ap not no) may))
