-- Where a receiver is once a packet of its own was read on the line that its session is connected on: its own line, or the one
-- that it gave up (MQTT 5.0, 3.1.4, 4.4).
use Rattle.std.proofs.Common.{◌≡◌, ℕ, true, List, [], ◌∷◌, drop, map, Option, Some, None, refl, sym, ap, subst, ◌∙◌}
use Rattle.std.specs.Prelude.{is_some}
use Rattle.std.specs.List.{AllByRecursion}
use Rattle.mqtt_base.specs.declared.session.CopyId.{CopyId}
use Rattle.mqtt_packet.specs.declared.codec.packet.Packet.{Packet}
use Rattle.mqtt_world_model.specs.model.Ends.{Back, Publisher, Receiver, Sent}
use Rattle.mqtt_world_model.specs.model.Hops.{IsNoConnect, Own}
use Rattle.mqtt_world_model.specs.model.Lines.{Line, is_one_of, told_by}
use Rattle.mqtt_world_model.specs.model.Seats.{Former, IsHis, Present, Seat, absent, closed, connected_at, joined, waiting}
use Rattle.mqtt_world_model.specs.model.World.{taken_old, taken_up}
use Rattle.mqtt_world_model.proofs.model_lemmas.own.OwnCalls.{input_elsewhere}
use Rattle.mqtt_world_model.proofs.model_lemmas.seats.OwnSeats.{former_after, joined_after, line_of_on, lingers_after, not_among, present_after}
use Rattle.mqtt_records.specs.declared.state.session.Session.{Session}
use Rattle.mqtt_records.specs.lists.Distinct.{AllDiffer}
use Rattle.mqtt_rules.specs.step.State.{Line as BrokerLine, Broker, MemberChoice, session_named}
use Rattle.mqtt_rules.specs.step.Step.{Call, Input, stepped, told}
use Rattle.mqtt_rules.specs.declared.step.Capacity.{Capacity}
use Rattle.mqtt_world_laws.specs.acceptance.Fair.{IsSteady}
use Rattle.mqtt_world_laws.specs.receiver.Apart.{AreToldApart}
use Rattle.mqtt_world_laws.specs.receiver.Calls.{receiver_called, turned_back}
use Rattle.mqtt_world_laws.specs.receiver.Handing.{receiver_after}
use Rattle.mqtt_world_laws.specs.receiver.Own.{IsInStep, Listens}
use Rattle.mqtt_world_laws.proofs.receiver_lemmas.own.Listening.{lingers_in_step, listens_in_step}
use Rattle.mqtt_world_laws.proofs.receiver_lemmas.queue.Numbers.{place_of, places_number}
use Rattle.mqtt_world_laws.specs.delivery.Standing.{GoesAlong, IsPlaced, line_like, packet_like, publisher_like}
use Rattle.mqtt_world_laws.proofs.delivery_lemmas.others.Like.{former_as, told_like}
use Rattle.mqtt_world_laws.proofs.delivery_lemmas.others.Losses.{none_named}

-- a receiver in step has a session
pub named_there : (largest : ℕ) (ids : List CopyId) (birth : ℕ) (ns : List ℕ) (r : Receiver) (b : Broker) → IsInStep largest ids birth ns r b → AllDiffer ids → is_some (session_named r.client b.records) ≡ true
named_there largest ids birth ns r b k differ = by (session_named r.client b.records) refl
  where
    by : (o : Option Session) → session_named r.client b.records ≡ o → is_some o ≡ true
    by None e = let h = k.runs (place_of ids) (places_number ids differ) in absurd (none_named r.client h.session.birth h.session b.records.sessions h.receiving.session h.receiving.client e)
    by (Some s) e = refl

-- ---- a packet is taken off the line that it gave up

-- a packet that was read from the old line leaves the receiver present
pub present_taken : (o : Option ℕ) (k : ℕ) (r : Receiver) (b : Broker) → Present o k (line_like r.line) b → Present o k (line_like (taken_old r.line)) b
present_taken o k r b (absent none up) = absent none up
present_taken o k r b (waiting n clean is link_is clean_is up down idle there) = waiting n clean is link_is clean_is up down idle there
present_taken o k r b (closed n is up idle none) = closed n is up idle none
present_taken o k r b (joined birth own is there) = joined birth own is there

calm_drop : (xs : List Back) → AllByRecursion IsNoConnect (map packet_like xs) → AllByRecursion IsNoConnect (map packet_like (drop 1 xs))
calm_drop [] h = tt
calm_drop (x ∷ xs) h = h.1

-- ---- a packet was taken off one of its lines, which leaves these there, and this is where its session is and what becomes of its lines

-- a call on its line leaves the receiver placed
pub placed_with : (largest : ℕ) (ids all : List CopyId) (ns : List ℕ) (limits : Capacity) (choice : MemberChoice) (now : ℕ) (call : Call) (o : Option ℕ) (k : ℕ) (up old : List Back) (r : Receiver) (b : Broker) → IsPlaced largest ids ns r b
    → AreToldApart all (stepped limits choice now call b).records → IsHis r.client o k (stepped limits choice now call b)
    → Present o k (told_by (stepped limits choice now call b) (told limits choice now call b) (line_like (record r.line { up = up; old = old }))) (stepped limits choice now call b)
    → Former o k (told_by (stepped limits choice now call b) (told limits choice now call b) (line_like (record r.line { up = up; old = old }))) (stepped limits choice now call b)
    → GoesAlong o largest all ns (receiver_called limits choice now call (record r { line = record r.line { up = up; old = old } }) b) (stepped limits choice now call b) → is_one_of (Some k) (0 ∷ ns) ≡ true
    → IsPlaced largest all ns (receiver_called limits choice now call (record r { line = record r.line { up = up; old = old } }) b) (stepped limits choice now call b)
placed_with largest ids all ns limits choice now call o k up old r b placed apart his present former along its_line =
    let new = stepped limits choice now call b in
    let line_is = ap (λ (p : Publisher). p.line) (told_like new (told limits choice now call b) (record r { line = record r.line { up = up; old = old } })) in
    record {
      birth = o;
      line = k;
      along = along;
      seat = record {
        his = his;
        present = subst (λ (z : Line Sent). Present o k z new) line_is present;
        former = subst (λ (z : Line Sent). Former o k z new) line_is former;
      };
      its_line = its_line;
      apart = λ m e f. placed.apart m e f;
      named = placed.named;
      told = apart;
    }

-- ---- its session is connected on the line of this number

-- and so of q, which has that line as its own
pub record Hears (largest : ℕ) (ids : List CopyId) (ns : List ℕ) (birth k : ℕ) (r q : Receiver) (b : Broker) : Type 0 where
  pub line : BrokerLine
  pub number : line.number ≡ k
  pub step : IsInStep largest ids birth ns r b
  pub owns : Own r.client birth k b
  pub listens : Listens q line birth b

module _ (largest : ℕ) (ids : List CopyId) (ns : List ℕ) (limits : Capacity) (birth : ℕ) (r : Receiver) (b : Broker) (placed : IsPlaced largest ids ns r b) (own : placed.birth ≡ Some birth) (there : connected_at placed.line b.lines ≡ Some (Some birth)) where
  step_here : IsInStep largest ids birth ns r b
  step_here = subst (λ (z : Option ℕ). GoesAlong z largest ids ns r b) own placed.along

  seat_here : Seat (Some birth) placed.line (publisher_like r) b
  seat_here = subst (λ (z : Option ℕ). Seat z placed.line (publisher_like r) b) own placed.seat

  -- a receiver whose session is connected on its line hears there
  pub hears : IsSteady b → r.line.number ≡ Some placed.line → Hears largest ids ns birth placed.line r r b
  hears steady at =
      let y = line_of_on placed.line (Some birth) b there in
      record {
        line = y.0;
        number = y.3;
        step = step_here;
        owns = seat_here.his.0;
        listens = listens_in_step largest ids birth ns placed.line birth r y.0 b step_here steady.lines steady.coherent.ordered at y.1 y.2 (not_among r.line.old_number placed.line (λ e. placed.apart placed.line at e));
      }

  -- a receiver whose session is connected on the line that it gave up hears there
  pub hears_there : IsSteady b → r.line.old_number ≡ Some placed.line → Hears largest ids ns birth placed.line r (turned_back r) b
  hears_there steady at =
      let y = line_of_on placed.line (Some birth) b there in
      record {
        line = y.0;
        number = y.3;
        step = step_here;
        owns = seat_here.his.0;
        listens = lingers_in_step largest ids birth ns placed.line birth r y.0 b step_here steady.lines steady.coherent.ordered at y.1 y.2 (not_among r.line.number placed.line (λ e. placed.apart placed.line e at));
      }

  -- ---- after the packet, with these copies

  module _ (choice : MemberChoice) (now n : ℕ) (packet : Packet) (all : List CopyId) (number : n ≡ placed.line) (owns : Own r.client birth placed.line (stepped limits choice now (Input n packet) b)) (apart : AreToldApart all (stepped limits choice now (Input n packet) b).records) where
    abbrev new : Broker
    new = stepped limits choice now (Input n packet) b

    his_after : (q : Receiver) → q.client ≡ r.client → IsInStep largest all birth ns q (stepped limits choice now (Input n packet) b) → IsHis r.client (Some birth) placed.line (stepped limits choice now (Input n packet) b)
    his_after q same step = (owns, subst (λ (c : List ℕ). is_some (session_named c new.records) ≡ true) same (named_there largest all birth ns q new step apart.differ))

    -- a packet that was read of its line leaves the receiver placed
    pub placed_after : r.line.number ≡ Some placed.line → IsInStep largest all birth ns (receiver_after limits choice now (Input n packet) r b) new → IsPlaced largest all ns (receiver_after limits choice now (Input n packet) r b) new
    placed_after at step =
        let call = Input n packet in
        let line = line_like (taken_up r.line) in
        let far = input_elsewhere limits choice now n packet r.line.old_number b (λ m e same. placed.apart m (at ∙ ap Some (sym number ∙ same)) e) in
        let present = joined_after limits choice now call b r.client birth placed.line line owns at there in
        let former = former_after limits choice now call b (Some birth) (Some birth) placed.line placed.line line far (λ z of e calm on. absurd (placed.apart placed.line at e))
        (former_as (Some birth) placed.line (line_like r.line) line b refl refl seat_here.former) in
        placed_with largest ids all ns limits choice now call (Some birth) placed.line (drop 1 r.line.up) r.line.old r b placed apart (his_after (receiver_after limits choice now call r b) refl step) present former step placed.its_line

    -- a packet that was read of the line that it gave up leaves the receiver placed
    pub placed_after_there : r.line.old_number ≡ Some placed.line → AllByRecursion IsNoConnect (map packet_like r.line.old)
        → IsInStep largest all birth ns (receiver_called limits choice now (Input n packet) (record r { line = taken_old r.line }) b) new
        → IsPlaced largest all ns (receiver_called limits choice now (Input n packet) (record r { line = taken_old r.line }) b) new
    placed_after_there at calm step =
        let call = Input n packet in
        let line = line_like (taken_old r.line) in
        let far = input_elsewhere limits choice now n packet r.line.number b (λ m e same. placed.apart m e (at ∙ ap Some (sym number ∙ same))) in
        let present = present_after limits choice now call b (Some birth) (Some birth) placed.line placed.line line far (λ z of e on. absurd (placed.apart placed.line e at)) (present_taken (Some birth) placed.line r b seat_here.present) in
        let former = lingers_after limits choice now call b r.client birth placed.line line owns at (calm_drop r.line.old calm) there in
        placed_with largest ids all ns limits choice now call (Some birth) placed.line r.line.up (drop 1 r.line.old) r b placed apart (his_after (receiver_called limits choice now call (record r { line = taken_old r.line }) b) refl step) present former step placed.its_line
