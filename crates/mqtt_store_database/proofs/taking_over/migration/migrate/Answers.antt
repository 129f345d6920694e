use Rattle.std.proofs.Common.{◌≡◌, OnOk, OnErr, IsTrue, ap, sym, subst, arith, rules}
use Rattle.std.proofs.lemmas.Result.{on_ok_weaker}
use Rattle.sqlite.specs.Held.{state}
use Rattle.sqlite.specs.State.{HasCleanDisk, Survives}
use Rattle.sqlite.proofs.StateLemmas.{survives_then}
use Rattle.mqtt_store_tables.specs.statements.Content.{IsSettled as IsSettledFirst}
use Rattle.mqtt_store_database.specs.taking_over.Migration.{Migrates, MayMigrate, MayCommit}
use Rattle.mqtt_store_database.proofs.taking_over_lemmas.Committed.{begun_whole, begun_survives, migrates, commits, undone}
use Rattle.mqtt_store_database.proofs.taking_over.migration.migrate.Goals as goal

pub returns-in-Ok-clause-ok : goal.returns-in-Ok-clause-ok
returns-in-Ok-clause-ok g c =
    let old = state g.S.Store c.args.conn.now in
    let begun = state g.S.Store c.transaction-tx.result.conn.now in
    let begins = ap (state g.S.Store) c.transaction-tx.ensures.begun in
    let tx = state g.S.Store c.write_second.new.tx.conn.now in
    let end = c.commit.new.self.0 in
    let same : end ≡ c.conn-1.given.0 = search rules in
    subst (λ h. HasCleanDisk (state g.S.Store h) → MayMigrate c.args.records.now old → OnOk c.commit.result (Migrates c.args.records.now old.now (state g.S.Store h).now)) same
    (λ clean may.
    let mid : HasCleanDisk tx = omega (arith, c.commit.ensures.survives.clean, clean) in
    let first = begun_whole old begun may.settled begins in
    let keeps = c.in-Ok.ensures.kept mid first (rw c.transaction-tx.ensures.begun may.keeps) may.lawful in
    let lists = c.in-Ok.ensures.lists mid first (rw c.transaction-tx.ensures.begun may.keeps) in
    let made = migrates c.args.records.now old tx may keeps lists (c.in-Ok.ensures.whole mid first) in
    on_ok_weaker c.commit.result (λ it. subst (Migrates c.args.records.now old.now) (sym it.1.now_is) made) (c.commit.ensures.ok clean))

pub returns-in-Ok-clause-err : goal.returns-in-Ok-clause-err
returns-in-Ok-clause-err g c =
    let old = state g.S.Store c.args.conn.now in
    let begun = state g.S.Store c.transaction-tx.result.conn.now in
    let begins = ap (state g.S.Store) c.transaction-tx.ensures.begun in
    let tx = state g.S.Store c.write_second.new.tx.conn.now in
    let end = c.commit.new.self.0 in
    let same : end ≡ c.conn-1.given.0 = search rules in
    subst (λ h. HasCleanDisk (state g.S.Store h) → IsSettledFirst old → IsTrue (state g.S.Store h).is_open → OnErr c.commit.result (((state g.S.Store h).now ≡ old.now) × IsSettledFirst (state g.S.Store h))) same
    (λ clean settled up.
    let mid : HasCleanDisk tx = omega (arith, c.commit.ensures.survives.clean, clean) in
    let whole = c.in-Ok.ensures.whole mid (begun_whole old begun settled begins) in
    undone old begun tx (state g.S.Store end) c.commit.result settled begins (c.in-Ok.ensures.inside.kept mid) whole.inside (c.commit.ensures.err clean) up)

pub returns-in-Ok-clause-crash : goal.returns-in-Ok-clause-crash
returns-in-Ok-clause-crash g c =
    let old = state g.S.Store c.args.conn.now in
    let begun = state g.S.Store c.transaction-tx.result.conn.now in
    let tx = state g.S.Store c.write_second.new.tx.conn.now in
    let end = c.commit.new.self.0 in
    let same : end ≡ c.conn-1.given.0 = search rules in
    let begins = ap (state g.S.Store) c.transaction-tx.ensures.begun in
    subst (λ h. Survives old (state g.S.Store h) (MayCommit c.args.records.now old)) same
    (survives_then old tx (state g.S.Store end) (λ _. ⊥) (λ db. db ≡ tx.now.trees) (MayCommit c.args.records.now old) (λ clean db none. absurd none)
    (λ clean db is may.
    let mid : HasCleanDisk tx = omega (arith, c.commit.ensures.survives.clean, clean) in
    let keeps = c.in-Ok.ensures.kept mid (begun_whole old begun may.settled begins) (rw c.transaction-tx.ensures.begun may.keeps) may.lawful in
    let lists = c.in-Ok.ensures.lists mid (begun_whole old begun may.settled begins) (rw c.transaction-tx.ensures.begun may.keeps) in
    commits c.args.records.now old tx db keeps lists is may)
    (begun_survives old begun tx (λ _. ⊥) begins c.in-Ok.ensures.inside.survives) c.commit.ensures.survives)
