-- What happens in both worlds alike: all but calls of the broker, and reading.
use Rattle.std.proofs.Common.{◌≡◌, ℕ, suc, ◌≤◌, Bool, true, false, cond, List, [], ◌∷◌, map, bytes_eq, Some, refl, sym, ap, subst, arith}
use Rattle.std.specs.Prelude.{filter_map}
use Rattle.mqtt_packet.specs.declared.codec.packet.Packet.{Packet}
use Rattle.mqtt_flow.specs.inbound.Line.{Link, away, asked, live}
use Rattle.mqtt_flow.specs.inbound.Publisher.{CONNECT}
use Rattle.mqtt_flow.specs.outbound.Receiver.{connect}
use Rattle.mqtt_topic.specs.names.Aliases.{AliasTable, no_aliases}
use Rattle.mqtt_topic.specs.sending.Told.{ToldTopics, none_told}
use Rattle.mqtt_rules.specs.step.State.{Broker, Telling, told_on}
use Rattle.mqtt_rules.specs.step.Deeds.{Link as link_deed, output}
use Rattle.mqtt_rules.specs.step.Step.{NewLine, Outcome, at_moment, can_link, done, env_of, stepped, told}
use Rattle.mqtt_rules.specs.telling.Meaning.{Knows}
use Rattle.mqtt_world_model.specs.model.Lines.{Down, Line, gives_up, joined, left}
use Rattle.mqtt_world_model.specs.model.Ends.{Publisher, Receiver, Sent, Back, answers, shake}
use Rattle.mqtt_world_model.specs.model.Seen.{heard_in}
use Rattle.mqtt_world_model.specs.model.World.{World, Setting, calls, linked_at, links, publisher_restarted, publisher_told, receiver_restarted, receiver_told, restarts, taken_old, taken_up, with_line, with_publisher, with_receiver}
use Rattle.mqtt_world_laws.specs.telling.AsSent.{Most, changed_for}
use Rattle.mqtt_world_laws.specs.telling.Likewise.{AllPublishersAlike, AllReceiversAlike, KnowsOn, PublishersAlike, ReceiversAlike, WorldsAlike, after_down, with_down}
use Rattle.mqtt_world_laws.proofs.telling_lemmas.Downs.{DownsAlike, SentOn}
use Rattle.mqtt_world_laws.proofs.telling_lemmas.Ends.{Alters, Changes, for_publisher, for_receiver, by_receiver, publishers_changed, receiver_with, receivers_changed, stays_known}
use Rattle.mqtt_world_laws.proofs.telling_lemmas.Given.{call_numbered}
use Rattle.mqtt_world_laws.proofs.telling_lemmas.Calls.{OnGiven, publishers_told, receivers_told}

-- ---- a line is changed, whichever end's it is

module _ (most : Most) (ts : List Telling) where
  -- a change of a line: of a receiver's and of a publisher's
  pub record LineChanges (f : Line Sent → Line Sent) (g : Line Back → Line Back) : Type 0 where
    pub publishers : Alters (λ p. record p { line = f p.line }) (λ p. record p { line = f p.line })
    pub receivers : Changes most ts ts (λ r. record r { line = g r.line }) stays_known (λ r. record r { line = g r.line })

  -- its first packet is taken
  pub took_up : LineChanges taken_up taken_up
  took_up = record {
    publishers = record { each = λ p ms e. record { same = refl; heard = e } };
    receivers = record { each = λ r k ms h. record { same = refl; means = h.means; knows = h.knows } };
  }

  -- the first packet is taken of the line that was given up last
  pub took_old : LineChanges taken_old taken_old
  took_old = record {
    publishers = record { each = λ p ms e. record { same = refl; heard = e } };
    receivers = record { each = λ r k ms h. record { same = refl; means = h.means; knows = h.knows } };
  }

  -- a line is left
  pub left_line : LineChanges left left
  left_line = record {
    publishers = record { each = λ p ms e. record { same = refl; heard = refl } };
    receivers = record { each = λ r k ms h. record { same = refl; means = tt; knows = tt } };
  }

  -- a line is given up
  pub gave_up : LineChanges (λ l. gives_up l.link l) (λ l. gives_up l.link l)
  gave_up = record {
    publishers = record { each = λ p ms e. publisher_up p ms e p.line.link };
    receivers = record { each = λ r k ms h. receiver_up r k ms h r.line.link };
  }
    where
      publisher_up : (p : Publisher) (ms : List Down) → map heard_in p.line.down ≡ map heard_in ms → (link : Link)
          → PublishersAlike (record p { line = gives_up link p.line }) (record p { line = gives_up link (with_down ms p.line) })
      publisher_up p ms e away = record { same = refl; heard = e }
      publisher_up p ms e asked = record { same = refl; heard = refl }
      publisher_up p ms e live = record { same = refl; heard = refl }

      receiver_up : (r : Receiver) (k : AliasTable) (ms : List Down) → DownsAlike most ts r.line.number k r.line.down ms → (link : Link)
          → ReceiversAlike most ts (record r { line = gives_up link r.line }) k (record r { line = gives_up link (with_down ms r.line) })
      receiver_up r k ms h away = record { same = refl; means = h.means; knows = h.knows }
      receiver_up r k ms h asked = record { same = refl; means = tt; knows = tt }
      receiver_up r k ms h live = record { same = refl; means = tt; knows = tt }

-- ---- worlds that are alike stay so

module _ (most : Most) (ts : List Telling) (ks : List AliasTable) where
  abbrev Alike : World → World → Type 0
  Alike x w = WorldsAlike most ts ks x w

  -- by a change of the publishers of a name
  pub publishers_of : (client : List ℕ) (f g : Publisher → Publisher) → Alters f g → (x w : World) → Alike x w → Alike (with_publisher client f x) (with_publisher client g w)
  publishers_of client f g c x w a = record {
    same = ap (with_publisher client g) a.same;
    publishers = publishers_changed (λ p. cond (bytes_eq p.client client) (f p) p) (λ p. cond (bytes_eq p.client client) (g p) p) (for_publisher client f g c) x.publishers w.publishers a.publishers;
    receivers = a.receivers;
  }

  -- by a change of the receivers of a name
  pub receivers_of : (client : List ℕ) (f g : Receiver → Receiver) → Changes most ts ts f stays_known g → (x w : World) → Alike x w → Alike (with_receiver client f x) (with_receiver client g w)
  receivers_of client f g c x w a = record {
    same = ap (with_receiver client g) a.same;
    publishers = a.publishers;
    receivers = receivers_changed most ts ts (λ r. cond (bytes_eq r.client client) (f r) r) (λ r. cond (bytes_eq r.client client) (g r) r) (for_receiver most ts client f g c) x.receivers ks w.receivers a.receivers;
  }

  -- by a change of a line
  pub lines_of : (client : List ℕ) (f : Line Sent → Line Sent) (g : Line Back → Line Back) → LineChanges most ts f g → (x w : World) → Alike x w → Alike (with_line client f g x) (with_line client f g w)
  lines_of client f g c x w a =
      publishers_of client (λ p. record p { line = f p.line }) (λ p. record p { line = f p.line }) c.publishers
      (with_receiver client (λ r. record r { line = g r.line }) x) (with_receiver client (λ r. record r { line = g r.line }) w)
      (receivers_of client (λ r. record r { line = g r.line }) (λ r. record r { line = g r.line }) c.receivers x w a)

-- ---- a new line

module _ (set : Setting) (x : World) where
  abbrev New : Broker
  New = stepped set.limits set.choice x.now NewLine x.broker

  abbrev Out : Outcome
  Out = told set.limits set.choice x.now NewLine x.broker

  -- nothing goes out
  nothing_out : Out.outputs ≡ []
  nothing_out = by (can_link set.limits (at_moment x.now x.broker))
    where
      by : (t : Bool) → filter_map output (cond t (link_deed (suc x.broker.given) ∷ []) []) ≡ []
      by true = refl
      by false = refl

  -- and no number is given twice
  given_up_to : x.broker.given ≤ New.given
  given_up_to = by (can_link set.limits (at_moment x.now x.broker))
    where
      by : (t : Bool) → x.broker.given ≤ (done (cond t (link_deed (suc x.broker.given) ∷ []) []) (at_moment x.now x.broker)).given
      by true = omega arith
      by false = omega arith

-- nor was anything told on it
pub line_more : (set : Setting) (x : World) (ts : List Telling) → OnGiven x.broker ts → OnGiven (New set x) ts
line_more set x ts on =
    let up = given_up_to set x in
    record {
      unused = λ n less. on.unused n (omega (arith, up, less));
      numbered = call_numbered (env_of set.limits set.choice x.broker) NewLine (at_moment x.now x.broker) on.numbered;
    }

quiet_on : (most : Most) (ts : List Telling) (n : ℕ) (k : AliasTable) (ds : List Down) (xs : List (ℕ × Packet)) → xs ≡ [] → KnowsOn most ts (Some n) k ds → SentOn n (after_down k ds) xs xs ts
quiet_on most ts n k ds xs e h = subst (λ (ys : List (ℕ × Packet)). SentOn n (after_down k ds) ys ys ts) (sym e) (record { means = tt; knows = h.1 })

knows_none : (most : ℕ) (told : ToldTopics) → told ≡ none_told 0 → Knows (no_aliases most) told
knows_none most told e = subst (Knows (no_aliases most)) (sym e) (record { max = omega arith; few = omega arith; known = λ topic alias has. absurd cc })

module _ (most : Most) (ts : List Telling) (ks : List AliasTable) (set : Setting) (x : World) where
  told_receivers : Changes most ts ts (receiver_told (New set x) (Out set x)) stays_known (receiver_told (New set x) (Out set x))
  told_receivers =
      receivers_told most ts ts (New set x) (Out set x) (Out set x).outputs
      (λ n k ds h. quiet_on most ts n k ds (Out set x).outputs (nothing_out set x) h)

  told_publishers : Alters (publisher_told (New set x) (Out set x)) (publisher_told (New set x) (Out set x))
  told_publishers = publishers_told most ts ts (New set x) (Out set x) (Out set x).outputs (λ o. refl)

  -- a line is given in both worlds
  new_line : (ms : List Publisher) (vs : List Receiver) → AllPublishersAlike x.publishers ms → AllReceiversAlike most ts x.receivers ks vs
      → WorldsAlike most ts ks (calls set NewLine x) (calls set NewLine (record x { publishers = ms; receivers = vs }))
  new_line ms vs hp hr = record {
    same = refl;
    publishers = publishers_changed (publisher_told (New set x) (Out set x)) (publisher_told (New set x) (Out set x)) told_publishers x.publishers ms hp;
    receivers = receivers_changed most ts ts (receiver_told (New set x) (Out set x)) (receiver_told (New set x) (Out set x)) told_receivers x.receivers ks vs hr;
  }

  -- a stranger's bytes come
  pub bytes_come : (name bytes : List ℕ) (t : Bool) (ms : List Publisher) (vs : List Receiver) → AllPublishersAlike x.publishers ms → AllReceiversAlike most ts x.receivers ks vs
      → WorldsAlike most ts ks (linked_at set t name bytes x) (linked_at set t name bytes (record x { publishers = ms; receivers = vs }))
  bytes_come name bytes true ms vs hp hr = record { same = refl; publishers = hp; receivers = hr }
  bytes_come name bytes false ms vs hp hr =
      let a = new_line ms vs hp hr in
      record { same = refl; publishers = a.publishers; receivers = a.receivers }

  -- a stranger is linked on a line that is given by then
  pub come_lines : (name bytes : List ℕ) (t : Bool) → OnGiven x.broker ts → OnGiven (linked_at set t name bytes x).broker ts
  come_lines name bytes true on = on
  come_lines name bytes false on = line_more set x ts on

  -- ---- an end joins by it

  module _ (client : List ℕ) (clean : Bool) (n : ℕ) (fresh : told_on n ts ≡ none_told 0) where
    abbrev Joins : Receiver → Receiver
    Joins r = record r { line = joined (answers (connect clean)) n clean r.line }

    abbrev Told : Receiver → Receiver
    Told r = receiver_told (New set x) (Out set x) r

    joins_one : (r : Receiver) (k : AliasTable) (ms : List Down) → DownsAlike most ts r.line.number k r.line.down ms → (t : Bool)
        → ReceiversAlike most ts (cond t (Joins (Told r)) (Told r)) (cond t (no_aliases (most n)) k) (cond t (Joins (Told (receiver_with ms r))) (Told (receiver_with ms r)))
    joins_one r k ms h true = record { same = refl; means = tt; knows = (refl, knows_none (most n) (told_on n ts) fresh) }
    joins_one r k ms h false = told_receivers.each r k ms h

    abbrev For : Receiver → Receiver
    For r = cond (bytes_eq r.client client) (Joins r) r

    joins_all : (rs : List Receiver) (ls : List AliasTable) (vs : List Receiver) → AllReceiversAlike most ts rs ls vs
        → AllReceiversAlike most ts (map For (map Told rs)) (changed_for client (λ r k. no_aliases (most n)) rs ls) (map For (map Told vs))
    joins_all [] [] [] h = tt
    joins_all (r ∷ rs) (k ∷ ls) (v ∷ vs) h = (
      by_receiver most ts (λ (y : Receiver). ReceiversAlike most ts (For (Told r)) (cond (bytes_eq r.client client) (no_aliases (most n)) k) (For (Told y))) r k v h.0
          (λ ms d. joins_one r k ms d (bytes_eq r.client client)),
      joins_all rs ls vs h.1,
    )
    joins_all [] [] (v ∷ vs) h = absurd h
    joins_all [] (k ∷ ls) vs h = absurd h
    joins_all (r ∷ rs) [] vs h = absurd h
    joins_all (r ∷ rs) (k ∷ ls) [] h = absurd h

    publisher_joins : Alters (λ p. record p { line = joined (shake (CONNECT clean)) n clean p.line }) (λ p. record p { line = joined (shake (CONNECT clean)) n clean p.line })
    publisher_joins = record { each = λ p ms e. record { same = refl; heard = refl } }

    -- in both worlds
    pub joins_alike : (ms : List Publisher) (vs : List Receiver) → AllPublishersAlike x.publishers ms → AllReceiversAlike most ts x.receivers ks vs
        → WorldsAlike most ts (changed_for client (λ r k. no_aliases (most n)) x.receivers ks) (links set (Some n) client clean x) (links set (Some n) client clean (record x { publishers = ms; receivers = vs }))
    joins_alike ms vs hp hr =
        let a = new_line ms vs hp hr in
        let f = λ (p : Publisher). cond (bytes_eq p.client client) (record p { line = joined (shake (CONNECT clean)) n clean p.line }) p in
        record {
          same = refl;
          publishers = publishers_changed f f (for_publisher client (λ p. record p { line = joined (shake (CONNECT clean)) n clean p.line }) (λ p. record p { line = joined (shake (CONNECT clean)) n clean p.line }) publisher_joins)
              (map (publisher_told (New set x) (Out set x)) x.publishers) (map (publisher_told (New set x) (Out set x)) ms) a.publishers;
          receivers = joins_all x.receivers ks vs hr;
        }

-- ---- a restart

receiver_restarts : (most : Most) (ts : List Telling) → Changes most ts [] receiver_restarted stays_known receiver_restarted
receiver_restarts most ts = record { each = λ r k ms h. record { same = refl; means = tt; knows = tt } }

publisher_restarts : Alters publisher_restarted publisher_restarted
publisher_restarts = record { each = λ p ms e. record { same = refl; heard = refl } }

-- no line is left in either world
pub restarts_alike : (most : Most) (ts : List Telling) (ks : List AliasTable) (set : Setting) (x w : World) → WorldsAlike most ts ks x w → WorldsAlike most [] ks (restarts set x) (restarts set w)
restarts_alike most ts ks set x w a = record {
  same = ap (restarts set) a.same;
  publishers = publishers_changed publisher_restarted publisher_restarted publisher_restarts x.publishers w.publishers a.publishers;
  receivers = receivers_changed most ts [] receiver_restarted receiver_restarted (receiver_restarts most ts) x.receivers ks w.receivers a.receivers;
}
