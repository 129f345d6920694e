-- The publisher's line is lost on both sides: it is the step of the hop (MQTT 5.0, 4.2).
use Rattle.std.proofs.Common.{◌≡◌, ℕ, Bool, true, List, [], ◌∷◌, ◌++◌, Option, Some, None, bytes_eq, sym, ap, subst, ◌∙◌, inr}
use Rattle.std.specs.Prelude.{option_map, find, filter_map, is_some}
use Rattle.mqtt_flow.specs.inbound.InboundWorld.{break, step}
use Rattle.mqtt_records.specs.declared.state.session.Session.{Session}
use Rattle.mqtt_rules.specs.declared.step.Capacity.{Capacity}
use Rattle.mqtt_rules.specs.step.State.{MemberChoice, Line as BrokerLine, Broker, session_at, session_named, line_at}
use Rattle.mqtt_rules.specs.step.Deeds.{whose, Close, Deed, At, Gone, closing, after, after_all, rows_of_all, with_line, with_session}
use Rattle.mqtt_rules.specs.step.Closing.{never, close, close_connected, close_session}
use Rattle.mqtt_rules.specs.step.Step.{Lost, at_moment, env_of, deeds, stepped}
use Rattle.mqtt_world_model.specs.model.Lines.{is_one_of, unless_closed}
use Rattle.mqtt_world_model.specs.model.Ends.{Publisher}
use Rattle.mqtt_world_model.specs.model.Seen.{shaken, open_in, seen}
use Rattle.mqtt_world_model.specs.model.Hops.{IsOnly, IsConnected, Own, lost_by}
use Rattle.mqtt_world_model.proofs.model_lemmas.others.Rows.{face}
use Rattle.mqtt_world_model.proofs.model_lemmas.own.Publishes.{session_closes, closed_after}
use Rattle.mqtt_world_model.proofs.model_lemmas.others.Names.{only_deeds}
use Rattle.mqtt_world_model.proofs.model_lemmas.seats.Seeing.{done_sessions, named_face}
use Rattle.mqtt_world_model.proofs.model_lemmas.others.Frame.{own_done}
use Rattle.mqtt_world_model.proofs.model_lemmas.seats.Mine.{AreMine, mine_owns}

-- the deeds of a line that is lost
pub lost_is : (limits : Capacity) (choice : MemberChoice) (now : ℕ) (l : BrokerLine) (s : Session) (b : Broker) → line_at l.number b ≡ Some l → l.session ≡ Some s.birth → session_at s.birth b.records ≡ Some s
    → s.will ≡ None → s.expiry ≡ never
    → deeds limits choice now (Lost l.number) b ≡ Gone l.number ∷ At (whose s) (Close (at_moment now b).now) ∷ []
lost_is limits choice now l s b line on at no_will no_end =
    let env = env_of limits choice b in
    let start = at_moment now b in
    let c = after (Gone l.number) start in
    ap (λ (o : Option BrokerLine). with_line o (close env true) start) line
    ∙ ap (λ (ds : List Deed). Gone l.number ∷ (ds ++ []))
    (ap (λ (o : Option ℕ). close_connected env true o c) on
    ∙ (ap (λ (o : Option Session). with_session o (close_session env true) c) at ∙ session_closes env s c at no_will no_end))

-- a lost line is a break of the hop
pub break_is_hop : (limits : Capacity) (choice : MemberChoice) (now : ℕ) (p : Publisher) (l : BrokerLine) (s : Session) (b : Broker) (accepted : List ℕ) → IsConnected p l s b
    → seen accepted (lost_by limits choice now l.number p b) (stepped limits choice now (Lost l.number) b)
    ≡ step (seen accepted p b) break
break_is_hop limits choice now p l s b accepted c =
    let call = Lost l.number in
    let ds = deeds limits choice now call b in
    let start = at_moment now b in
    let new = stepped limits choice now call b in
    let rows = rows_of_all ds start.records in
    let is = lost_is limits choice now l s b c.line c.connected c.session c.no_will c.no_end in
    let out : List Deed = Gone l.number ∷ At (whose s) (Close start.now) ∷ [] in
    let only : IsOnly p.client s.birth (after_all out start).records = only_deeds p.client s.birth out start (tt, (tt, tt)) c.only in
    let named = named_face p.client s.birth (after_all out start).records (record (face s) { closed = Some start.now }) only (ap (option_map face) (closed_after start.now s start c.session)) c.client in
    let before = named_face p.client s.birth b.records (face s) c.only (ap (option_map face) c.session) c.client in
    let sessions : new.records.sessions ≡ (after_all out start).records.sessions =
    done_sessions rows (after_all ds start) ∙ ap (λ (xs : List Deed). (after_all xs start).records.sessions) is in
    let olds : filter_map shaken (unless_closed (is_one_of p.line.old_number (filter_map closing ds)) p.line.old) ≡ filter_map shaken p.line.old =
    ap (λ (xs : List Deed). filter_map shaken (unless_closed (is_one_of p.line.old_number (filter_map closing xs)) p.line.old)) is
    ∙ ap (λ (x : Bool). filter_map shaken (unless_closed x p.line.old)) c.apart in
    let stands : is_some (session_named p.client new.records) ≡ is_some (session_named p.client b.records) =
    ap (λ (ss : List Session). is_some (find (λ (x : Session). bytes_eq x.client p.client) ss)) sessions ∙ (named.0 ∙ sym before.0) in
    let ids : open_in (session_named p.client new.records) ≡ open_in (session_named p.client b.records) =
    ap (λ (ss : List Session). open_in (find (λ (x : Session). bytes_eq x.client p.client) ss)) sessions ∙ (named.1 ∙ sym before.1) in
    λ i. record (step (seen accepted p b) break) { old = olds i; stands = stands i; ids = ids i }

-- and the session stays the publisher's own
pub break_owns : (limits : Capacity) (choice : MemberChoice) (now : ℕ) (p : Publisher) (l : BrokerLine) (s : Session) (b : Broker) → IsConnected p l s b → Own p.client s.birth l.number b
    → Own p.client s.birth l.number (stepped limits choice now (Lost l.number) b)
break_owns limits choice now p l s b c own =
    let ds = deeds limits choice now (Lost l.number) b in
    let start = at_moment now b in
    let o : Own p.client s.birth l.number start = record { sessions = own.sessions; lines = own.lines; births = own.births; given = own.given } in
    let is = lost_is limits choice now l s b c.line c.connected c.session c.no_will c.no_end in
    let mine : AreMine p.client s.birth l.number ds = subst (AreMine p.client s.birth l.number) (sym is) (inr tt, (inr tt, tt)) in
    own_done p.client s.birth l.number (rows_of_all ds start.records) (after_all ds start) (mine_owns p.client s.birth l.number ds start mine o)
