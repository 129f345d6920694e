use Rattle.std.proofs.Common.{◌≡◌, OnErr, IsTrue, arith, rules, ap, subst}
use Rattle.sqlite.specs.State.{HasCleanDisk, Survives}
use Rattle.sqlite.proofs.StateLemmas.{survives_then}
use Rattle.sqlite.specs.Held.{state}
use Rattle.mqtt_store_tables.specs.forms.Creation.{first}
use Rattle.mqtt_store_tables.proofs.forms_lemmas.Kept.{begun_has, commit_err}
use Rattle.mqtt_store_tables.specs.schema.Creation.{MakesSecond}
use Rattle.mqtt_store_tables.proofs.schema_lemmas.Filling.{new_trees}
use Rattle.mqtt_store_tables.proofs.schema.creation.create_second.Goals as goal

pub returns-clause-err : goal.returns-clause-err
returns-clause-err g c =
    let old = state g.S.Store c.args.conn.now in
    let tx = state g.S.Store c.make_all.new.tx.conn.now in
    let end = c.commit.new.self.0 in
    let same : end ≡ c.conn-2-1.given.0 = search rules in
    subst
    (λ h. HasCleanDisk (state g.S.Store h) → IsTrue (state g.S.Store h).is_open → old.now.schema ≡ first 0
    → OnErr c.commit.result (((state g.S.Store h).now ≡ old.committed) × ((state g.S.Store h).committed ≡ old.committed))) same
    (λ clean up none.
    let mid : HasCleanDisk tx = omega (arith, c.commit.ensures.survives.clean) in
    let made = c.in_ok-make_all.ensures.made mid (begun_has old (state g.S.Store c.transaction-tx.result.conn.now) (ap (state g.S.Store) c.transaction-tx.ensures.begun) none) in
    let kept = c.make_all.ensures.inside.kept mid in
    commit_err old tx (state g.S.Store end) c.commit.result (λ was. rw c.transaction-tx.ensures.begun at (kept.committed was)) made.1 (c.commit.ensures.err clean) up)

pub returns-clause-crash : goal.returns-clause-crash
returns-clause-crash g c =
    let old = state g.S.Store c.args.conn.now in
    let tx = state g.S.Store c.make_all.new.tx.conn.now in
    let end = c.commit.new.self.0 in
    let same : end ≡ c.conn-2-1.given.0 = search rules in
    let it = rw c.transaction-tx.ensures.begun at c.make_all.ensures.inside.survives in
    let inside : Survives old tx (λ _. ⊥) = record { clean = it.clean; shield = it.shield; counts = it.counts; limit = it.limit; closes = it.closes; crash = it.crash } in
    subst (λ h. Survives old (state g.S.Store h) (MakesSecond old)) same
    (survives_then old tx (state g.S.Store end) _ _ (MakesSecond old) (λ _ db none. absurd none)
    (λ clean db is none.
    let mid : HasCleanDisk tx = omega (arith, c.commit.ensures.survives.clean, clean) in
    new_trees tx.now db is (c.in_ok-make_all.ensures.made mid (begun_has old (state g.S.Store c.transaction-tx.result.conn.now) (ap (state g.S.Store) c.transaction-tx.ensures.begun) none)).0)
    inside c.commit.ensures.survives)
