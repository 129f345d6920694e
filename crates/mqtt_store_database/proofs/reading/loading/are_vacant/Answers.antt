use Rattle.std.proofs.Common.{◌≡◌, ◌≢◌, [], refl, ap, subst, ◌∙◌, arith, MatchBool}
use Rattle.sqlite.specs.Effect.{Database}
use Rattle.sqlite.specs.Held.{state}
use Rattle.sqlite.specs.State.{HasCleanDisk}
use Rattle.mqtt_store_tables.specs.declared.schema.tables.Making.TheVariants.{TakenOver}
use Rattle.mqtt_store_database.proofs.reading_lemmas.Vacant.{vacant_then, still}
use Rattle.mqtt_store_database.proofs.reading.loading.are_vacant.Goals as goal

pub returns-then-copies-clause-vacant : goal.returns-then-copies-clause-vacant
returns-then-copies-clause-vacant g c clean schema settled =
    let old = state g.S.Store c.args.conn.now in
    let mid = state g.S.Store c.is_vacant.new.conn in
    let less = c.is_vacant-2.ensures.reads.survives.clean in
    let tidy : HasCleanDisk mid = omega (arith, less, clean) in
    let one = c.in_ok-copies.ensures in
    let same = still old mid one.reads tidy (one.is_open tidy) settled in
    let second = c.in_ok-retained.ensures.vacant TakenOver clean (ap (λ (d : Database). d.schema) same.0 ∙ schema) refl in
    vacant_then c.in_ok-retained.retained old.now.trees (rw c.if-copies.true at (one.vacant TakenOver tidy schema refl))
    (subst (λ (d : Database). MatchBool c.in_ok-retained.retained (d.trees 11 ≡ []) (d.trees 11 ≢ [])) same.0 second)

pub returns-else-copies-clause-vacant : goal.returns-else-copies-clause-vacant
returns-else-copies-clause-vacant g c clean schema settled =
    let mid = state g.S.Store c.is_vacant.new.conn in
    let less = c.is_vacant-2.ensures.reads.survives.clean in
    let tidy : HasCleanDisk mid = omega (arith, less, clean) in
    let some = rw c.if-copies.false at (c.in_ok-copies.ensures.vacant TakenOver tidy schema refl) in
    rw c.if-copies.false (λ both. some both.0)
