use Rattle.std.proofs.Common.{◌∷◌, ◌++◌, [], Option, Some, None, refl, sym, subst, rules, arith}
use Rattle.sqlite_value.specs.Order.{Row}
use Rattle.sqlite.specs.Given.{Advances}
use Rattle.sqlite.specs.Held.{state}
use Rattle.sqlite.specs.State.{HasCleanDisk}
use Rattle.mqtt_store_database.specs.reading.Listing.{added_text}
use Rattle.mqtt_store_database.proofs.reading_lemmas.Streaming.{begun, begun_reads, moved_reads, given_more, given_all, refused_reads}
use Rattle.mqtt_store_database.proofs.reading.reading.read_into.Goals as goal

pub returns-in-Err-clause-reads : goal.returns-in-Err-clause-reads
returns-in-Err-clause-reads g c =
    refused_reads g.S.Store c.args.table c.args.conn.now c.query.follows.lender-at-none c.in-Err.error (rw (c.select_of.ensures, c.in-Err.is) at c.query.follows.holds-at-none)

pub rows-init : goal.rows-init
rows-init g c =
    let old = c.args.conn.now in
    let now = c.in-Ok.rows.conn.now in
    let made = rw c.select_of.ensures at c.in-Ok.ensures in
    record {
      same = refl;
      reads = begun_reads g.S.Store c.args.table old now made.begun made.mode made.survives;
      given = ([], c.requires.begun, λ clean. let it = begun g.S.Store c.args.table old now (made.begun clean) in record { has = it.0; same = it.1 });
      on = g.met.G.Gather.stays c.args.gather.now;
    }

pub returns-in_default-clause-taken : goal.returns-in_default-clause-taken
returns-in_default-clause-taken g c =
    let it = c.rows.invariant.given in
    let old = c.args.conn.now in
    let mid = c.rows.rows.conn.now in
    let new = c.advance.new.self.conn.now in
    let moved = c.in-Ok-advance.ensures in (
      it.0,
      it.1,
      λ making clean schema.
          let late : HasCleanDisk (state g.S.Store new) = search rules in
          let less = moved.survives.clean in
          let before : HasCleanDisk (state g.S.Store mid) = omega (arith, less, late) in
          let over : Advances g.S.Store mid new None = subst (λ (row : Option Row). Advances g.S.Store mid new row) (sym c.in_default.ensures) (moved.ok late) in
          given_all g.S.Store c.args.table old mid new it.0 (it.2 before) (over (added_text c.args.table) [] it.0 (it.2 before).has) making schema,
    )

pub rows-preserved : goal.rows-preserved
rows-preserved g c =
    let held = c.rows.invariant in
    let it = held.given in
    let old = c.args.conn.now in
    let mid = c.rows.rows.conn.now in
    let new = c.advance.new.self.conn.now in
    let moved = c.in-Ok-advance.ensures in
    let row = c.in-Some.row.now in
    let less = moved.survives.clean in
    record {
      same = search rules;
      reads = moved_reads g.S.Store c.args.table old mid new held.reads moved.mode moved.survives moved.same;
      given = (
        it.0 ++ row ∷ [],
        c.in_ok-take_in.ensures.taken it.0 it.1,
        λ clean.
            let before : HasCleanDisk (state g.S.Store mid) = omega (arith, less, clean) in
            let on : Advances g.S.Store mid new (Some row) = subst (λ (row : Option Row). Advances g.S.Store mid new row) (sym c.in-Some.ensures) (moved.ok clean) in
            given_more g.S.Store c.args.table old mid new it.0 (it.2 before) row (on (added_text c.args.table) [] it.0 (it.2 before).has) (moved.same clean),
      );
      on = g.met.G.Gather.on_and_on c.args.gather.now c.rows.gather c.take_in.new.self held.on c.in_ok-take_in.ensures.goes_on;
    }
