-- A receiver joins by a new line: it is that event of its hop.
use Rattle.std.proofs.Common.{◌≡◌, ℕ, suc, Bool, true, false, cond, ◌||◌, List, [], ◌∷◌, ◌++◌, map, Option, Some, None, refl, sym, ap, subst, ◌∙◌}
use Rattle.std.specs.Prelude.{find, filter_map, is_some, option_map}
use Rattle.mqtt_flow.specs.outbound.OutboundWorld.{Lot, World as Hop, make_line, start, step}
use Rattle.mqtt_flow.specs.outbound.Receiver.{connect, joins}
use Rattle.mqtt_flow.specs.inbound.Line.{Link, away, asked}
use Rattle.mqtt_records.specs.declared.state.session.Session.{Session}
use Rattle.mqtt_rules.specs.declared.step.Capacity.{Capacity}
use Rattle.mqtt_rules.specs.step.State.{Line as BrokerLine, Broker, MemberChoice, is_of, session_named}
use Rattle.mqtt_rules.specs.step.Deeds.{Link as Linked, fresh_line, after}
use Rattle.mqtt_rules.specs.step.Step.{NewLine, Outcome, at_moment, stepped, told}
use Rattle.mqtt_world_model.specs.model.Ends.{Receiver}
use Rattle.mqtt_world_model.specs.model.Lines.{is_one_of, unless_closed}
use Rattle.mqtt_world_model.specs.model.Seen.{is_linked}
use Rattle.mqtt_world_model.proofs.model_lemmas.seats.Joins.{carries, fresh_free, new_is, none_closed, told_none}
use Rattle.mqtt_world_laws.specs.receiver.Handing.{IsRun, MayComeBack, receiver_joined}
use Rattle.mqtt_world_laws.specs.receiver.Seen.{AreQueued, Numbering, StandOn, answered, handed_in, seen}
use Rattle.mqtt_world_laws.proofs.receiver_lemmas.connects.Refusals.{run_append}

-- a new line has nobody on it
pub fresh_of_none : (birth n now : ℕ) (ls : List BrokerLine) → find (λ (l : BrokerLine). is_of l.session birth) (ls ++ fresh_line n now ∷ []) ≡ find (λ (l : BrokerLine). is_of l.session birth) ls
fresh_of_none birth n now [] = refl
fresh_of_none birth n now (l ∷ ls) = by (is_of l.session birth) (fresh_of_none birth n now ls)
  where
    by : (t : Bool) → find (λ (x : BrokerLine). is_of x.session birth) (ls ++ fresh_line n now ∷ []) ≡ find (λ (x : BrokerLine). is_of x.session birth) ls → cond t (Some l) (find (λ (x : BrokerLine). is_of x.session birth) (ls ++ fresh_line n now ∷ [])) ≡ cond t (Some l) (find (λ (x : BrokerLine). is_of x.session birth) ls)
    by true h = refl
    by false h = h

queued_same : (copies : List Lot) (n now : ℕ) (b : Broker) (o : Option Session) → AreQueued copies o b → AreQueued copies o (after (Linked n) (at_moment now b))
queued_same copies n now b None h = h
queued_same copies n now b (Some s) h = subst (λ (l : Option BrokerLine). StandOn copies s.queue (option_map (λ (x : BrokerLine). x.went) l)) (sym (fresh_of_none s.birth n (at_moment now b).now b.lines)) h

-- connecting on it goes on with the hop
pub doing_joins : (number : Numbering) (largest : ℕ) (copies : List Lot) (limits : Capacity) (choice : MemberChoice) (now : ℕ) (clean : Bool) (r : Receiver) (b : Broker)
    → IsRun number largest copies r b → MayComeBack limits clean r b → IsRun number largest copies (receiver_joined limits choice now clean r b) (stepped limits choice now NewLine b)
doing_joins number largest copies limits choice now clean r b h may =
    let new = stepped limits choice now NewLine b in
    let is = new_is limits choice now b may.can in
    let linked : is_linked (Some (suc b.given)) new ≡ false = ap (is_linked (Some (suc b.given))) is ∙ fresh_free (suc b.given) (at_moment now b).now b.lines may.given in
    let olds : filter_map answered (unless_closed (is_one_of r.line.old_number (told limits choice now NewLine b).closed) r.line.old) ≡ filter_map answered r.line.old =
    ap (λ (out : Outcome). filter_map answered (unless_closed (is_one_of r.line.old_number out.closed) r.line.old)) (told_none limits choice now b may.can)
    ∙ ap (λ (t : Bool). filter_map answered (unless_closed t r.line.old)) (none_closed r.line.old_number) in
    let stands : is_some (session_named r.client new.records) ≡ is_some (session_named r.client b.records) = ap (λ (x : Broker). is_some (session_named r.client x.records)) is in
    let cleans : clean ≡ (r.line.clean || clean) = carries r.line.clean clean may.carried in
    let w = seen number copies r b in
    let same : seen number copies (receiver_joined limits choice now clean r b) new ≡ joins away clean w =
    λ i. record {
      copies = copies;
      stands = stands i;
      linked = linked i;
      link = asked;
      clean = cleans i;
      up = connect (cleans i) ∷ [];
      down = [];
      old = olds i;
      kept = r.kept;
      ledger = map (handed_in number) r.ledger;
      reads = map (handed_in number) r.once;
    } in
    let queue : AreQueued copies (session_named r.client new.records) new =
    subst (λ (x : Broker). AreQueued copies (session_named r.client x.records) x) (sym is) (queued_same copies (suc b.given) now b (session_named r.client b.records) h.queue_is) in
    record {
      events = h.events ++ make_line clean ∷ [];
      seen_is = same ∙ (ap (λ (k : Link). joins k clean w) (sym may.away) ∙ (ap (λ (v : Hop). step largest v (make_line clean)) h.seen_is ∙ sym (run_append largest h.events (make_line clean ∷ []) start)));
      queue_is = queue;
      numbered = h.numbered;
      tagged = record { down = tt; ledger = h.tagged.ledger; once = h.tagged.once };
    }
