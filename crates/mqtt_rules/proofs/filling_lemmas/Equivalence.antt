-- To be alike is an equivalence.
use Rattle.std.proofs.Common.{List, [], ◌∷◌, sym, ap, ◌∙◌}
use Rattle.mqtt_records.specs.messages.Queue.{CopyRow}
use Rattle.mqtt_records.specs.declared.state.session.Session.{Session}
use Rattle.mqtt_records.specs.declared.state.records.Records.{Records}
use Rattle.mqtt_rules.specs.step.State.{Broker}
use Rattle.mqtt_rules.specs.alike.Alike.{Each, AlikeRows, AlikeSessions, AlikeRecords, AlikeBrokers, with_records}
use Rattle.mqtt_rules.specs.alike.Slim.{slim_broker}
use Rattle.mqtt_rules.proofs.alike_lemmas.Pairs.{each_refl}
use Rattle.mqtt_rules.proofs.alike_lemmas.SlimRows.{slim_alike}
use Rattle.mqtt_rules.proofs.alike_lemmas.States.{session_alike, broker_put}

module _ {X : Type 0} (R : X → X → Type 0) where
  each_back : ((x y : X) → R x y → R y x) → (xs ys : List X) → Each R xs ys → Each R ys xs
  each_back k [] [] h = tt
  each_back k [] (y ∷ ys) h = absurd h
  each_back k (x ∷ xs) [] h = absurd h
  each_back k (x ∷ xs) (y ∷ ys) h = (k x y h.0, each_back k xs ys h.1)

  each_through : ((x y z : X) → R x y → R y z → R x z) → (xs ys zs : List X) → Each R xs ys → Each R ys zs → Each R xs zs
  each_through k [] [] zs h g = g
  each_through k [] (y ∷ ys) zs h g = absurd h
  each_through k (x ∷ xs) [] zs h g = absurd h
  each_through k (x ∷ xs) (y ∷ ys) [] h g = absurd g
  each_through k (x ∷ xs) (y ∷ ys) (z ∷ zs) h g = (k x y z h.0 g.0, each_through k xs ys zs h.1 g.1)

-- two rows are alike both ways
pub row_back : (x y : CopyRow) → AlikeRows x y → AlikeRows y x
row_back x y h = record {
  place = sym h.place;
  phase = sym h.phase;
  copy = record { seen = sym h.copy.seen; retain = sym h.copy.retain; topic = sym h.copy.topic; others = sym h.copy.others };
}

row_through : (x y z : CopyRow) → AlikeRows x y → AlikeRows y z → AlikeRows x z
row_through x y z h g = record {
  place = h.place ∙ g.place;
  phase = h.phase ∙ g.phase;
  copy = record {
    seen = h.copy.seen ∙ g.copy.seen;
    retain = h.copy.retain ∙ g.copy.retain;
    topic = h.copy.topic ∙ g.copy.topic;
    others = h.copy.others ∙ g.copy.others;
  };
}

session_back : (s t : Session) → AlikeSessions s t → AlikeSessions t s
session_back s t h = record { rest = sym h.rest; queue = each_back AlikeRows row_back s.queue t.queue h.queue }

session_through : (s t u : Session) → AlikeSessions s t → AlikeSessions t u → AlikeSessions s u
session_through s t u h g =
    record { rest = h.rest ∙ g.rest; queue = each_through AlikeRows row_through s.queue t.queue u.queue h.queue g.queue }

records_back : (r o : Records) → AlikeRecords r o → AlikeRecords o r
records_back r o h = record { rest = sym h.rest; sessions = each_back AlikeSessions session_back r.sessions o.sessions h.sessions }

records_through : (r o p : Records) → AlikeRecords r o → AlikeRecords o p → AlikeRecords r p
records_through r o p h g =
    record { rest = h.rest ∙ g.rest; sessions = each_through AlikeSessions session_through r.sessions o.sessions p.sessions h.sessions g.sessions }

-- a broker is like itself
pub broker_itself : (b : Broker) → AlikeBrokers b b
broker_itself b = broker_put b b.records.sessions (each_refl AlikeSessions session_alike b.records.sessions)

-- two brokers are alike both ways
pub broker_back : (b c : Broker) → AlikeBrokers b c → AlikeBrokers c b
broker_back b c h = record {
  rest = ap (with_records b.records) (sym h.rest);
  records = records_back b.records c.records h.records;
}

-- what is like an alike broker is alike
pub broker_through : (b c d : Broker) → AlikeBrokers b c → AlikeBrokers c d → AlikeBrokers b d
broker_through b c d h g = record {
  rest = ap (with_records d.records) h.rest ∙ g.rest;
  records = records_through b.records c.records d.records h.records g.records;
}

-- rows may be made slim
pub slim_through : (some whole : Broker) → AlikeBrokers some whole → AlikeBrokers (slim_broker some) whole
slim_through some whole h = broker_through (slim_broker some) some whole (broker_back some (slim_broker some) (slim_alike some)) h
