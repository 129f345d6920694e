use Rattle.std.proofs.Common.{sym, ◌∙◌}
use Rattle.sqlite_trees.specs.View.{IsClean}
use Rattle.mqtt_store_database.proofs.loading_lemmas.Opened.{opened_in_order}
use Rattle.mqtt_store_database_tests.proofs.loading.opened.reopen.Goals as goal

pub returns-clause-ordered : goal.returns-clause-ordered
returns-clause-ordered g c =
    let store = c.into_store-store.result in
    let e = c.over.ensures in
    let sound = λ (clean : IsClean (g.S.Store.view store)). sym (c.is_broken.ensures clean) ∙ c.if-is_broken.false in
    opened_in_order g.S.Store store c.over.result e.opens e.clean e.trees sound (g.met.S.Store.ordered store) (g.met.S.Alter.listed store)
