-- A call in both worlds: what goes out on each line means what was meant.
use Rattle.std.proofs.Common.{◌≡◌, ℕ, List, [], ◌∷◌, ◌++◌, map, Option, Some, None, refl, sym, ap, ap₂, subst, ◌∙◌, arith}
use Rattle.std.specs.List.{AllByRecursion}
use Rattle.mqtt_packet.specs.declared.codec.packet.Packet.{Packet}
use Rattle.mqtt_records.specs.declared.state.change.Change.{Change}
use Rattle.mqtt_topic.specs.names.Aliases.{AliasTable}
use Rattle.mqtt_rules.specs.step.State.{Broker, Telling}
use Rattle.mqtt_rules.specs.step.Deeds.{Deed, after_all, rows_of_all, wires}
use Rattle.mqtt_rules.specs.step.Step.{Call, Outcome, at_moment, deeds, env_of, stepped, told, with_moment}
use Rattle.mqtt_rules.specs.telling.Meaning.{AllMean, GrantsWithin, SendsItsTopic, on_line}
use Rattle.mqtt_rules.proofs.telling_lemmas.Deeds.{knows, means}
use Rattle.mqtt_world_model.specs.model.Lines.{Down, sent_to}
use Rattle.mqtt_world_model.specs.model.Ends.{Publisher, Receiver}
use Rattle.mqtt_world_model.specs.model.Seen.{heard_in}
use Rattle.mqtt_world_model.specs.model.World.{World, Setting, publisher_told, receiver_told}
use Rattle.mqtt_world_model.specs.model.World as meant
use Rattle.mqtt_world_model.specs.model.Run.{read_if, the_deeds}
use Rattle.mqtt_world_laws.specs.telling.AsSent.{AsSent, Most, calls, calls_if, deeds_granted, telling, told_as_sent}
use Rattle.mqtt_world_laws.specs.telling.Likewise.{AllPublishersAlike, AllReceiversAlike, KnowsOn, Likewise, PublishersAlike, ReceiversAlike, WorldsAlike, after_down}
use Rattle.mqtt_world_laws.proofs.telling_lemmas.Downs.{DownsAlike, SentOn, max_down, sent_alike}
use Rattle.mqtt_world_laws.proofs.telling_lemmas.Ends.{Alters, Changes, publisher_with, publishers_changed, receiver_with, receivers_changed, stays_known}
use Rattle.mqtt_world_laws.proofs.telling_lemmas.Given.{IsNumbered, call_given, call_numbered}
use Rattle.mqtt_world_laws.proofs.telling_lemmas.Granted.{AreInOrder, IsUnused, granted_given, granted_outputs, grants_within, heard_wires, in_order, unused_after}

-- ---- ends that are told: of the same lines that close, and of packets that mean others

module _ (most : Most) (ts us : List Telling) (b : Broker) (out : Outcome) (xs : List (ℕ × Packet)) where
  -- the outcome as it goes out
  abbrev as_sent : Outcome
  as_sent = record out { outputs = xs }

  -- receivers, each on a line on which what goes out means what was meant
  pub receivers_told : ((n : ℕ) (k : AliasTable) (ds : List Down) → KnowsOn most ts (Some n) k ds → SentOn n (after_down k ds) xs out.outputs us)
      → Changes most ts us (receiver_told b as_sent) stays_known (receiver_told b out)
  receivers_told sent = record { each = each }
    where
      each : (r : Receiver) (k : AliasTable) (ms : List Down) → DownsAlike most ts r.line.number k r.line.down ms
          → ReceiversAlike most us (receiver_told b as_sent r) k (receiver_told b out (receiver_with ms r))
      each r k ms h =
          let on : (n : ℕ) → r.line.number ≡ Some n → SentOn n (after_down k r.line.down) xs out.outputs us =
          λ (n : ℕ) (is : r.line.number ≡ Some n). sent n k r.line.down (subst (λ (o : Option ℕ). KnowsOn most ts o k r.line.down) is h.knows) in
          let d = sent_alike most ts us r.line.number k b r.line.down ms xs out.outputs h on in
          record { same = refl; means = d.means; knows = d.knows }

  map_append : (ds es : List Down) → map heard_in (ds ++ es) ≡ map heard_in ds ++ map heard_in es
  map_append [] es = refl
  map_append (d ∷ ds) es = ap (λ hs. heard_in d ∷ hs) (map_append ds es)

  -- publishers, who hear the same of it
  pub publishers_told : ((o : Option ℕ) → map heard_in (sent_to o b xs) ≡ map heard_in (sent_to o b out.outputs))
      → Alters (publisher_told b as_sent) (publisher_told b out)
  publishers_told same = record { each = each }
    where
      each : (p : Publisher) (ms : List Down) → map heard_in p.line.down ≡ map heard_in ms
          → PublishersAlike (publisher_told b as_sent p) (publisher_told b out (publisher_with ms p))
      each p ms e = record {
        same = refl;
        heard =
            map_append p.line.down (sent_to p.line.number b xs)
            ∙ (ap₂ (λ xs ys. xs ++ ys) e (same p.line.number) ∙ sym (map_append ms (sent_to p.line.number b out.outputs)));
      }

-- ---- two worlds on their way

-- no line stands, and nothing was told on one, that was not given
pub record OnGiven (b : Broker) (tellings : List Telling) : Type 0 where
  pub unused : IsUnused b.given tellings
  pub numbered : IsNumbered b

-- so it is in both, and they are alike
pub record Goes (most : Most) (s : AsSent) (w : World) : Type 0 where
  pub worlds : Likewise most s w
  pub lines : OnGiven s.world.broker s.tellings

-- ---- a call

moment_given : (rows : List Change) (b : Broker) → (with_moment rows b).given ≡ b.given
moment_given [] b = refl
moment_given (row ∷ rows) b = refl

module _ (most : Most) (set : Setting) (call : Call) (s : AsSent) where
  abbrev Before : Broker
  Before = at_moment s.world.now s.world.broker

  abbrev Telling_before : Broker
  Telling_before = telling s.tellings s.world.now s.world.broker

  abbrev The_deeds : List Deed
  The_deeds = deeds set.limits set.choice s.world.now call s.world.broker

  abbrev The_granted : List Deed
  The_granted = deeds_granted most set call s.world

  abbrev Told_after : List Telling
  Told_after = (calls most set call s).tellings

  abbrev Out : Outcome
  Out = told set.limits set.choice s.world.now call s.world.broker

  abbrev New : Broker
  New = stepped set.limits set.choice s.world.now call s.world.broker

  -- on a line whose client knows what it was told there
  sent_on : AreInOrder s.world.broker.given The_deeds → (n : ℕ) (k : AliasTable) (ds : List Down) → KnowsOn most s.tellings (Some n) k ds
      → SentOn n (after_down k ds) (wires The_granted Telling_before) Out.outputs Told_after
  sent_on order n k ds h =
      let table = after_down k ds in
      let max : most n ≡ table.max = sym (max_down k ds ∙ h.0) in
      let within : GrantsWithin n table.max The_granted = subst (λ (m : ℕ). GrantsWithin n m The_granted) max (grants_within most n s.world.broker.given The_deeds order) in
      record {
        means = subst (λ (ys : List (ℕ × Packet)). AllMean table (on_line n (wires The_granted Telling_before)) (on_line n ys)) (granted_outputs most The_deeds)
            (means n table The_granted Telling_before h.1 within);
        knows = knows n table The_granted Telling_before h.1 within;
      }

  heard_out : (o : Option ℕ) → map heard_in (sent_to o New (wires The_granted Telling_before)) ≡ map heard_in (sent_to o New Out.outputs)
  heard_out o = heard_wires o New The_granted Telling_before ∙ ap (λ (ys : List (ℕ × Packet)). map heard_in (sent_to o New ys)) (granted_outputs most The_deeds)

  given_after : (calls most set call s).world.broker.given ≡ (after_all The_granted Telling_before).given
  given_after = moment_given (rows_of_all The_deeds Before.records) (after_all The_deeds Before) ∙ sym (granted_given most The_deeds Telling_before Before refl)

  unused : AreInOrder s.world.broker.given The_deeds → IsUnused s.world.broker.given s.tellings → IsUnused (calls most set call s).world.broker.given Told_after
  unused order u = subst (λ (g : ℕ). IsUnused g Told_after) (sym given_after) (unused_after most The_deeds Telling_before order u)

  -- in both worlds
  pub calls_alike : (ms : List Publisher) (vs : List Receiver) → AllPublishersAlike s.world.publishers ms → AllReceiversAlike most s.tellings s.world.receivers s.known vs
      → OnGiven s.world.broker s.tellings → AllByRecursion SendsItsTopic The_deeds
      → Goes most (calls most set call s) (meant.calls set call (record s.world { publishers = ms; receivers = vs }))
  calls_alike ms vs hp hr on topics =
      let xs = wires The_granted Telling_before in
      let env = env_of set.limits set.choice s.world.broker in
      let order : AreInOrder s.world.broker.given The_deeds = in_order s.world.broker.given The_deeds Before (omega arith) (call_given env call Before on.numbered) topics in
      record {
        worlds = record {
          same = refl;
          publishers = publishers_changed (publisher_told New (told_as_sent most set call s)) (publisher_told New Out)
              (publishers_told most s.tellings Told_after New Out xs heard_out) s.world.publishers ms hp;
          receivers = receivers_changed most s.tellings Told_after (receiver_told New (told_as_sent most set call s)) (receiver_told New Out)
              (receivers_told most s.tellings Told_after New Out xs (sent_on order)) s.world.receivers s.known vs hr;
        };
        lines = record { unused = unused order on.unused; numbered = call_numbered env call Before on.numbered };
      }

-- what holds of each world that is alike holds of that one
pub by_world : (most : Most) (P : World → Type 0) (s : AsSent) (w : World) → WorldsAlike most s.tellings s.known s.world w
    → ((ms : List Publisher) (vs : List Receiver) → AllPublishersAlike s.world.publishers ms → AllReceiversAlike most s.tellings s.world.receivers s.known vs
    → P (record s.world { publishers = ms; receivers = vs }))
    → P w
by_world most P s w a each = subst P (sym a.same) (each w.publishers w.receivers a.publishers a.receivers)

-- a call, if there is one
pub calls_if_alike : (most : Most) (set : Setting) (o : Option Call) (s : AsSent) (w : World) → Goes most s w → AllByRecursion SendsItsTopic (read_if the_deeds set o w)
    → Goes most (calls_if most set o s) (meant.calls_if set o w)
calls_if_alike most set None s w h order = h
calls_if_alike most set (Some call) s w h order =
    by_world most (λ (x : World). AllByRecursion SendsItsTopic (read_if the_deeds set (Some call) x) → Goes most (calls most set call s) (meant.calls set call x)) s w h.worlds
    (λ ms vs hp hr asked. calls_alike most set call s ms vs hp hr h.lines asked)
    order
