use Rattle.std.proofs.Common.{sym, ◌∙◌}
use Rattle.sqlite_trees.specs.View.{IsClean}
use Rattle.mqtt_store_database.proofs.loading_lemmas.Opened.{opened_in_order}
use Rattle.mqtt_store.proofs.Opened.{open_if_sound, opens, refuses, unharmed}
use Rattle.mqtt_store.proofs.opening.reopen.Goals as goal

pub returns-clause-shows : goal.returns-clause-shows
returns-clause-shows g c =
    let store = c.into_store-store.result in
    let e = c.over.ensures in
    opens g.S.Store c.args.conn store c.schema-schema.ensures.live c.into_store-store.ensures.undone
    (λ clean. open_if_sound (g.S.Store.view store) (g.met.S.Store.broken_if_shut store) (sym (c.is_broken.ensures clean) ∙ c.if-is_broken.false))
    c.over.result e.opens e.clean e.trees

pub returns-clause-ordered : goal.returns-clause-ordered
returns-clause-ordered g c =
    let store = c.into_store-store.result in
    let e = c.over.ensures in
    let sound = λ (clean : IsClean (g.S.Store.view store)). sym (c.is_broken.ensures clean) ∙ c.if-is_broken.false in
    opened_in_order g.S.Store store c.over.result e.opens e.clean e.trees sound (g.met.S.Store.ordered store) (g.met.S.Alter.listed store)

pub returns-clause-unharmed : goal.returns-clause-unharmed
returns-clause-unharmed g c =
    let store = c.into_store-store.result in
    let e = c.over.ensures in
    unharmed g.S.Store c.args.conn store c.schema-schema.ensures.live c.into_store-store.ensures.undone
    (λ clean. open_if_sound (g.S.Store.view store) (g.met.S.Store.broken_if_shut store) (sym (c.is_broken.ensures clean) ∙ c.if-is_broken.false))
    c.over.result g.met.S.Store.stays g.met.S.Store.settled c.into_store-store.ensures.quiet e.unharmed e.rows

pub returns-clause-refused : goal.returns-clause-refused
returns-clause-refused g c =
    let store = c.into_store-store.result in
    let e = c.over.ensures in
    refuses g.S.Store c.args.conn store c.schema-schema.ensures.live c.into_store-store.ensures.undone
    (λ clean. open_if_sound (g.S.Store.view store) (g.met.S.Store.broken_if_shut store) (sym (c.is_broken.ensures clean) ∙ c.if-is_broken.false))
    c.over.result c.into_store-store.ensures.quiet.counts e.unharmed e.err
