use Rattle.std.proofs.Common.{sym, ◌∙◌}
use Rattle.mqtt_store_rows.specs.rows.Joins.{publication_of}
use Rattle.mqtt_store_rows.proofs.rows_lemmas.StandsLemmas.{found_at, other_at, nothing_at}
use Rattle.mqtt_store_rows.proofs.rows.messages.find.Goals as goal

pub returns-in_default : goal.returns-in_default
returns-in_default c =
    nothing_at publication_of c.args.publication c.args.messages.now c.place_of.result c.requires c.place_of.ensures c.in_default.ensures.lookup.3

pub returns-then-key-publication : goal.returns-then-key-publication
returns-then-key-publication c =
    found_at publication_of c.args.publication c.args.messages.now c.place_of.result c.in-Some.message.now c.place_of.ensures c.in-Some.ensures.lookup.3.0 (c.in-Some.ensures.lookup.3.1 c.in-Some.message.now) (sym c.key.ensures ∙ c.if-key-publication.true)

pub returns-else-key-publication : goal.returns-else-key-publication
returns-else-key-publication c =
    other_at publication_of c.args.publication c.args.messages.now c.place_of.result c.in-Some.message.now c.requires c.place_of.ensures c.in-Some.ensures.lookup.3.0 (c.in-Some.ensures.lookup.3.1 c.in-Some.message.now) (λ same. c.if-key-publication.false (c.key.ensures ∙ same))
