use Rattle.std.proofs.Common.{ap, subst, sym, ◌∙◌}
use Rattle.sqlite.specs.Held.{state}
use Rattle.mqtt_store.specs.declared.keep.SqlKeep.{SqlKeep}
use Rattle.mqtt_serve.specs.serving.Database.{IsStoreOver}
use Rattle.mqtt_serve.proofs.serving.serving.serve_database.Goals as goal

pub returns-in-Ok-clause-ran : goal.returns-in-Ok-clause-ran
returns-in-Ok-clause-ran g c = record {
  asked = c.stored_moment.new.conn;
  is_asked = c.stored_moment.ensures;
  first = c.new-keep.result;
  over = subst (λ (k : SqlKeep g.row.S.Denot g.S.Store). IsStoreOver (state g.S.Store c.stored_moment.new.conn) (state g.S.Store k.conn))
      (sym c.new-keep.ensures.keep) c.in_ok-store_over.ensures.over;
  empty = c.new-keep.ensures.nothing;
  begin = c.moment-begin.result;
  last = c.in-Ok.keep;
  runs = c.in-Ok.ensures.ran;
  given_is = c.into_inner-in-Ok.ensures ∙ ap (λ (k : SqlKeep g.row.S.Denot g.S.Store). k.conn) c.into_inner.ensures;
}
