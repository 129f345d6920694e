use Rattle.std.proofs.Common.{◌≡◌, ℕ, List, ◌∷◌, Option, sym, ◌∙◌, subst, length, rules}
use Rattle.sqlite.specs.State.{HasCleanDisk}
use Rattle.sqlite.specs.Held.{state}
use Rattle.mqtt_store_tables.specs.messages.Messages.{StandsIf}
use Rattle.mqtt_store_tables.proofs.messages_lemmas.Behind.{message_shaped}
use Rattle.mqtt_store_tables.proofs.messages_lemmas.Inside.{clean_before, stays_then}
use Rattle.mqtt_store_tables.specs.declared.schema.tables.Making.{Making}
use Rattle.mqtt_store_tables.specs.statements.Layout.{second_layout}
use Rattle.mqtt_store_tables.specs.statements.Content.{IsWhole}
use Rattle.mqtt_store_database.specs.written.Making.{MakesUnless, NeedsUnless}
use Rattle.mqtt_store_database.specs.written.Shortened.{goes_anyway}
use Rattle.mqtt_store_database.proofs.written_lemmas.Leads.{Leads, leads_on, leads_end}
use Rattle.mqtt_records.specs.declared.state.change.Change.{Change}
use Rattle.mqtt_store_database.specs.committing.Making.{Makes, Needs}
use Rattle.mqtt_store_database.proofs.committing_lemmas.Known.{stands_behind}
use Rattle.mqtt_store_database.proofs.committing_lemmas.Further.{leads_behind, knows_on}
use Rattle.mqtt_store_database.proofs.committing.commit.write_changes.Goals as goal

pub loop-change-preserved : goal.loop-change-preserved
loop-change-preserved g c =
    let old = state g.S.Store c.args.tx.now.conn.now in
    let mid = state g.S.Store c.loop-change.tx.conn.now in
    let one = state g.S.Store c.write_unless.new.tx.conn.now in
    let new = state g.S.Store c.write_behind.new.tx.conn.now in
    let did = c.in_ok-write_unless.ensures in
    let more = c.in_ok-rest.ensures in
    let inv = c.loop-change.invariant in
    let tidy_one = λ (clean : HasCleanDisk new). clean_before one new more.inside clean in
    let tidy = λ (clean : HasCleanDisk new). clean_before mid one did.inside (tidy_one clean) in
    let change = c.in-Some.change.now in
    let after = c.in-Some.after.now in
    let goes : c.goes_by.result ≡ goes_anyway change after = c.goes_by.ensures ∙ c.known_behind-known.ensures.goes in
    let splits : c.loop-change.rest.now ≡ change ∷ after = search rules in
    let made : (making : Making) → HasCleanDisk new → IsWhole (second_layout making) old → NeedsUnless c.goes_by.result (Needs making change) mid.now.trees → MakesUnless c.goes_by.result (Makes making change) mid.now.trees one.now.trees =
    λ making clean whole needs. did.made making (tidy_one clean) (inv.whole making (tidy clean) whole) (inv.stands making (tidy clean) whole, needs) in
    let whole_one = λ (making : Making) (clean : HasCleanDisk new) (whole : IsWhole (second_layout making) old). did.whole making (tidy_one clean) (inv.whole making (tidy clean) whole) in
    let stood : (making : Making) → HasCleanDisk new → IsWhole (second_layout making) old → StandsIf making c.publication_put-stands.result one.now.trees =
    λ making clean whole. subst (λ (known : Option ℕ). StandsIf making known one.now.trees) (sym c.publication_put-stands.ensures)
    (stands_behind making c.goes_by.result change after mid.now.trees one.now.trees goes (message_shaped making mid (inv.whole making (tidy clean) whole)) (made making clean whole)) in
    record {
      same = more.same_reference ∙ (did.same_reference ∙ inv.same);
      inside = stays_then old one new (stays_then old mid one inv.inside did.inside) more.inside;
      whole = λ making clean whole. (more.put making clean (whole_one making clean whole)).1;
      left = λ making clean whole need.
          let put = (more.put making clean (whole_one making clean whole)).0 in
          let led = leads_on (Needs making) (Makes making) c.goes_by.result c.args.changes.now change after c.loop-change.rest.now old.now.trees mid.now.trees one.now.trees splits goes
          (inv.left making (tidy clean) whole need) (made making clean whole) in
          leads_behind making c.publication_put-stands.result put.0 _ put.2.0.0 c.args.changes.now old.now.trees one.now.trees new.now.trees put.2.0.1 (put.2.1 (stood making clean whole)).0
          (subst (λ (l : List Change). Leads (Needs making) (Makes making) c.args.changes.now l old.now.trees one.now.trees) put.1 led);
      stands = λ making clean whole. ((more.put making clean (whole_one making clean whole)).0.2.1 (stood making clean whole)).1;
      knows = knows_on c.known_behind-known.result c.publication_put-stands.result _ after _ c.known_unless-known.ensures c.known_behind-known.ensures.known more.none;
    }

pub returns-clause-made : goal.returns-clause-made
returns-clause-made g c =
    let old = state g.S.Store c.args.tx.now.conn.now in
    let now = state g.S.Store c.loop-change.tx.conn.now in
    let ends : length c.loop-change.rest.now ≡ 0 = search rules in
    λ making clean whole need. leads_end (Needs making) (Makes making) c.args.changes.now c.loop-change.rest.now old.now.trees now.now.trees ends (c.loop-change.invariant.left making clean whole need)
