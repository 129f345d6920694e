-- A law that speaks of one deed at a time: from what it says of each kind of deed, what the induction asks of each unit.
use Rattle.std.proofs.Common.{◌≡◌, ℕ, Bool, true, false, List, [], ◌∷◌, ◌++◌, length, filter, map, Option, Some, None, refl, sym, subst, arith}
use Rattle.std.specs.Prelude.{⊤, suc, nat_lt, flat_map, decimal, Ok}
use Rattle.mqtt_base.specs.declared.session.Ending.{Ending}
use Rattle.mqtt_base.specs.declared.session.Ending.TheVariants.{SessionEnded}
use Rattle.mqtt_base.specs.declared.session.Phase.{Phase}
use Rattle.mqtt_base.specs.declared.session.Phase.TheVariants.{Sent, Released as ReleasedPhase, Oversize}
use Rattle.mqtt_base.specs.Codes.{success, identifier_not_found}
use Rattle.mqtt_packet.specs.declared.connect.connect.Connect.{Connect as Greeting}
use Rattle.mqtt_packet.specs.declared.codec.packet.Packet.{Packet}
use Rattle.mqtt_packet.specs.declared.codec.packet.Packet.TheVariants as packets
use Rattle.mqtt_topic.specs.names.Names.{is_empty}
use Rattle.mqtt_flow.specs.declared.outbound.entry.Turn.{Turn}
use Rattle.mqtt_flow.specs.declared.outbound.entry.Turn.TheVariants as turns
use Rattle.mqtt_flow.specs.declared.inbound.inflow.Published.TheVariants.{New}
use Rattle.mqtt_flow.specs.inbound.Inbound.{answer_to}
use Rattle.mqtt_flow.specs.outbound.Outbound.{Answer, way_made}
use Rattle.mqtt_records.specs.declared.messages.message.MessageCopy.{MessageCopy}
use Rattle.mqtt_records.specs.declared.messages.message.RetainedMessage.{RetainedMessage}
use Rattle.mqtt_records.specs.declared.messages.message.Will.{Will}
use Rattle.mqtt_records.specs.messages.Queue.{CopyRow}
use Rattle.mqtt_records.specs.declared.state.session.Session.{Session}
use Rattle.mqtt_records.specs.lists.Order.{row_at}
use Rattle.mqtt_records.specs.state.Session.{birth_of, copy_place, auto}
use Rattle.mqtt_rules.specs.step.Packets.{connack, pubrel, publish_of}
use Rattle.mqtt_rules.specs.step.State.{Line, Broker, Env, session_at, session_named, line_of, queue_on}
use Rattle.mqtt_rules.specs.step.Deeds.{Whose, whose, Message, Origin, FromClient, Part, Resume, Close, DropWill, Open, Enter, Mark, Leave, LinePart, Hear, Greet, SetAlias, Went, Deed, Accept, Begin, Name, Count, At, Finish, Keep, Forget, RefuseWill, Link, On, Send, Gone, after, after_all, series, always, with_session, offer}
use Rattle.mqtt_rules.specs.step.Deeds as deeds
use Rattle.mqtt_rules.specs.step.Outbound.{leave_deeds, turn_deeds, since, queue_limits, enter_deeds}
use Rattle.mqtt_rules.specs.step.Routing.{CopyTo, is_queued, deliver_by, deliver, retained_of, forgets, finds_place, place_of_kept, kept_message, retain_by, next_publication, publish, accepted_copies, accepted_if}
use Rattle.mqtt_rules.specs.step.Closing.{end_session}
use Rattle.mqtt_rules.specs.step.Connect.{expiry_of, will_of, fresh_row, greet, begin, begin_named, connack_properties}
use Rattle.mqtt_rules.specs.step.Fitting.{pump_turns}
use Rattle.mqtt_rules.specs.step.Inbound.{pump_deeds}
use Rattle.mqtt_rules.specs.step.Subscribe as sub
use Rattle.mqtt_rules.specs.step.Step.{Call, deeds_of, opening}
use Rattle.mqtt_rules.specs.step.Tick.{lapses, lapse_deeds}
use Rattle.mqtt_rules.specs.step.Fitting.{has_form}
use Rattle.mqtt_rules.proofs.step_lemmas.acts.Offers.{of_offer, of_offer_if}
use Rattle.mqtt_rules.proofs.step_lemmas.flight.FlightRows.{found_key}
use Rattle.mqtt_rules.proofs.step_lemmas.acts.Goods.{AreGood}
use Rattle.mqtt_rules.proofs.step_lemmas.acts.Leads.{Leads, leads_end, leads_append, leads_flat, leads_with_session, leads_of_entry}
use Rattle.mqtt_rules.proofs.step_lemmas.acts.Acts.{About, anyone, call_of_anyone, leads_call, leads_opening, IsAnswer, is_alone, closing_session, closing_on, closing, brought_to, Finds, Law, IsAdmitted, IsGranted}
use Rattle.mqtt_rules.proofs.step_lemmas.numbers.Copies.{AreNumbered, IsMade, AreMade, routed_numbered, brought_made, made_numbered, beside_leaves, beside_deliver, made_stays, are_made_stay, each_filter}

-- ---- what is said of each kind of deed, on the state that it comes on

-- what a law says of each kind of deed, on the state that the deed comes on
pub record DeedLaw (env : Env) (about : About) (Keeps : Broker → Type 0) (Good : Deed → Broker → Type 0) : Type 0 where
  pub finds : Finds about Keeps
  pub client_stays : (client : List ℕ) (d : Deed) (b : Broker) → Keeps b → Good d b → about.client client b → about.client client (after d b)
  -- a good deed keeps what is kept
  pub kept : (d : Deed) (b : Broker) → Keeps b → Good d b → Keeps (after d b)
  pub accept : (origin : Origin) (m : Message) (b : Broker) → Keeps b → about.message m → Good (Accept (next_publication b.records) origin m) b
  -- a message is retained of the publication that was just accepted, if it finds a place
  pub keep : (m : Message) (b : Broker) → Keeps b → about.message m → m.retain ≡ true → is_empty m.payload ≡ false → finds_place env m b.records ≡ true
      → Good (Keep (kept_message b.records.publications b.now m (place_of_kept (retained_of m.topic b.records) b.records.retained))) b
  pub forget : (place : ℕ) (b : Broker) → Keeps b → Good (Forget place) b
  -- a copy is of an accepted publication, or of a retained message that stands
  pub enter : (who : Whose) (copy : MessageCopy) (b : Broker) → Keeps b → IsMade who.birth copy b → Good (At who (Enter copy)) b
  pub leave : (who : Whose) (e : CopyRow) (ending : Ending) (b : Broker) → Keeps b → Good (At who (Leave e ending)) b
  pub refuse_will : (who : Whose) (b : Broker) → Keeps b → about.session who.birth → Good (RefuseWill who) b
  -- an identifier opens if its PUBLISH was new to the session, which stood before the publication's deeds
  pub open_id : (s : Session) (id : ℕ) (m : Message) (ds : List CopyTo) (b : Broker)
      → Keeps b → Keeps (after_all (publish env FromClient m ds b) b) → about.session s.birth
      → session_at s.birth b.records ≡ Some s → answer_to id s.inbound ≡ New → accepted_copies env m b ≡ Some ds
      → Good (At (whose s) (Open id)) (after_all (publish env FromClient m ds b) b)
  pub alone : (who : Whose) (part : Part) (b : Broker) → Keeps b → about.session who.birth → is_alone part ≡ true → Good (At who part) b
  pub close : (who : Whose) (b : Broker) → Keeps b → about.session who.birth → Good (At who (Close b.now)) b
  pub finish : (who : Whose) (b : Broker) → Keeps b → about.session who.birth → Good (Finish who) b
  pub resume : (who : Whose) (expiry : ℕ) (will : Option Will) (b : Broker) → Keeps b → about.session who.birth → Good (At who (Resume expiry will)) b
  pub name : (b : Broker) → Keeps b → Good (Name (suc b.records.autos)) b
  -- a session begins under the client identifier that no session has, or under one that the broker assigns
  pub begin_given : (c : Greeting) (b : Broker)
      → Keeps b → about.packet (packets.Connect c) → IsAdmitted c → about.client c.client_identifier b → session_named c.client_identifier b.records ≡ None → nat_lt (length b.records.sessions) env.limits.sessions ≡ true
      → Good (Begin (fresh_row (suc b.records.births) c.client_identifier c) (will_of c)) b
  pub begin_assigned : (c : Greeting) (b : Broker)
      → Keeps b → Keeps (after (Name (suc b.records.autos)) b) → about.packet (packets.Connect c) → IsAdmitted c → nat_lt (length b.records.sessions) env.limits.sessions ≡ true
      → Good (Begin (fresh_row (suc b.records.births) (auto ++ decimal (suc b.records.autos)) c) (will_of c)) (after (Name (suc b.records.autos)) b)
  pub count : (b : Broker) → Keeps b → Good (Count (sub.next_number b.records)) b
  pub subscribe : (w : sub.Wish) (s : Session) (b : Broker)
      → Keeps b → Keeps (after (Count (sub.next_number b.records)) b) → about.session s.birth → IsGranted env w s b
      → Good (At (whose s) (deeds.Subscribe (sub.subscription (sub.next_number b.records) s w))) (after (Count (sub.next_number b.records)) b)
  pub link : (b : Broker) → Keeps b → Good (Link (suc b.given)) b
  pub on_line : (line : ℕ) (part : LinePart) (b : Broker) → Keeps b → Good (On line part) b
  pub send : (line : ℕ) (packet : Packet) (b : Broker) → Keeps b → Good (Send line packet) b
  pub gone : (line : ℕ) (b : Broker) → Keeps b → Good (Gone line) b

-- a copy's phase is set
abbrev pub MarkLaw : (Broker → Type 0) → (Deed → Broker → Type 0) → Type 0
MarkLaw Keeps Good = (who : Whose) (place : ℕ) (phase : Phase) (b : Broker) → Keeps b → Good (At who (Mark place phase)) b

-- what becomes of a queue by its turns
pub record TurnLaw (about : About) (Keeps : Broker → Type 0) (Good : Deed → Broker → Type 0) : Type 0 where
  pub pumps : (l : Line) (s : Session) (b : Broker) → Keeps b → about.line l → l.session ≡ Some s.birth → session_at s.birth b.records ≡ Some s → Leads Keeps Good (pump_deeds l b s) b
  pub turns : (a : Answer) (t : Turn) (l : Line) (s : Session) (b : Broker)
      → Keeps b → about.line l → about.session s.birth → session_at s.birth b.records ≡ Some s → IsAnswer a l s → a ≡ Ok (Some t) → Leads Keeps Good (turn_deeds b.now l.number s t) b

forget_numbers : (k : Option RetainedMessage) (b : Broker) → (after_all (forgets k) b).records.publications ≡ b.records.publications
forget_numbers None b = refl
forget_numbers (Some k) b = refl

-- retaining a message gives no publication
retain_numbers : (retain empty : Bool) (number : ℕ) (m : Message) (b : Broker) → (after_all (retain_by retain empty number m b) b).records.publications ≡ b.records.publications
retain_numbers false empty number m b = refl
retain_numbers true true number m b = forget_numbers (retained_of m.topic b.records) b
retain_numbers true false number m b = refl

retain_now : (retain empty : Bool) (number : ℕ) (m : Message) (b : Broker) → (after_all (retain_by retain empty number m b) b).now ≡ b.now
retain_now false empty number m b = refl
retain_now true true number m b = forgotten (retained_of m.topic b.records)
  where
    forgotten : (o : Option RetainedMessage) → (after_all (forgets o) b).now ≡ b.now
    forgotten None = refl
    forgotten (Some x) = refl
retain_now true false number m b = refl

-- an accepted publication finds a place for its retained message
pub place_found : (env : Env) (m : Message) (b : Broker) (ds : List CopyTo) → accepted_copies env m b ≡ Some ds → finds_place env m b.records ≡ true
place_found env m b ds e = accepted (finds_place env m b.records) _ ds e
  where
    accepted : (t : Bool) (o : Option (List CopyTo)) (ds : List CopyTo) → accepted_if t o ≡ Some ds → t ≡ true
    accepted true o ds e = refl
    accepted false o ds e = absurd cc

module _ (env : Env) (about : About) (Keeps : Broker → Type 0) (Good : Deed → Broker → Type 0) (law : DeedLaw env about Keeps Good) where
  abbrev Led : List Deed → Broker → Type 0
  Led = Leads Keeps Good

  -- one good deed leads
  pub one : (d : Deed) (b : Broker) → Keeps b → Good d b → Led (d ∷ []) b
  one d b k g = ((g, tt), law.kept d b k g)

  more : (d : Deed) (ds : List Deed) (b : Broker) → Keeps b → Good d b → (Keeps (after d b) → Led ds (after d b)) → Led (d ∷ ds) b
  more d ds b k g h = leads_append Keeps Good (d ∷ []) ds b (one d b k g) h

  nothing : (b : Broker) → Keeps b → Led [] b
  nothing b k = (tt, k)

  leads_offer : (o : Option Line) (packet : Packet) (b : Broker) → Keeps b → Led (offer o packet) b
  leads_offer o packet b k =
      of_offer (λ (ds : List Deed). Led ds b) o packet (nothing b k) (λ l there. one (Send l.number packet) b k (law.send l.number packet b k))

  -- ---- queues

  leads_left : (s : Session) (place : ℕ) (ending : Ending) (b : Broker) → Keeps b → Led (leave_deeds s (turns.Leave place ending)) b
  leads_left s place ending b k =
      leads_of_entry Keeps Good (row_at copy_place place s.queue) (λ e. At (whose s) (Leave e ending) ∷ []) b k
      (λ e is. one (At (whose s) (Leave e ending)) b k (law.leave (whose s) e ending b k))

  -- a copy's leaving leads
  pub leads_leave : (s : Session) (t : Turn) (b : Broker) → Keeps b → Led (leave_deeds s t) b
  leads_leave s (turns.Leave place ending) b k = leads_left s place ending b k
  leads_leave s (turns.Send place id) b k = nothing b k
  leads_leave s (turns.Resend place id) b k = nothing b k
  leads_leave s (turns.Release place id order) b k = nothing b k
  leads_leave s (turns.Outgrow place id order) b k = nothing b k
  leads_leave s (turns.Repeat id) b k = nothing b k
  leads_leave s (turns.Unknown id) b k = nothing b k

  -- a copy that enters, and those that make way for it, lead
  pub leads_enter : (copy : MessageCopy) (s : Session) (b : Broker) → Keeps b → IsMade s.birth copy b → Led (enter_deeds env copy s) b
  leads_enter copy s b k made =
      let ts = way_made (queue_limits env) (since env s) (queue_on [] s) in
      let first = flat_map (leave_deeds s) ts in
      leads_append Keeps Good first (At (whose s) (Enter copy) ∷ []) b
      (leads_flat Keeps Good (leave_deeds s) (leads_leave s) ts b k)
      (λ h. one (At (whose s) (Enter copy)) (after_all first b) h (law.enter (whose s) copy (after_all first b) h (made_stays s.birth copy first b (beside_leaves s ts b) made)))

  -- ---- publications

  leads_deliver_by : (t : Bool) (d : CopyTo) (b : Broker) → Keeps b → IsMade d.birth d.copy b → Led (deliver_by t env d b) b
  leads_deliver_by true d b k made =
      leads_with_session Keeps Good (session_at d.birth b.records) (λ s. always (enter_deeds env d.copy s)) b k
      (λ s e. leads_enter d.copy s b k (subst (λ (birth : ℕ). IsMade birth d.copy b) (sym (found_key birth_of d.birth s b.records.sessions e)) made))
  leads_deliver_by false d b k made =
      let packet = publish_of b.now false 0 d.copy in
      of_offer_if (λ (ds : List Deed). Led ds b) (has_form d.copy b) (line_of d.birth b) packet (nothing b k) (λ l there. one (Send l.number packet) b k (law.send l.number packet b k))

  -- copies that are handed over, one after the other, lead
  pub leads_deliveries : (ds : List CopyTo) (b : Broker) → Keeps b → AreMade ds b → Led (series (map (deliver env) ds) b) b
  leads_deliveries [] b k made = nothing b k
  leads_deliveries (d ∷ ds) b k made =
      let first = deliver env d b in
      let c = after_all first b in
      leads_append Keeps Good first (series (map (deliver env) ds) c) b (leads_deliver_by (is_queued d) d b k made.0)
      (λ h. leads_deliveries ds c h (are_made_stay ds first b (beside_deliver env d b) made.1))

  leads_forgets : (o : Option RetainedMessage) (b : Broker) → Keeps b → Led (forgets o) b
  leads_forgets None b k = nothing b k
  leads_forgets (Some x) b k = one (Forget x.place) b k (law.forget x.place b k)

  leads_retain : (retain empty : Bool) (m : Message) (b : Broker) → Keeps b → about.message m → m.retain ≡ retain → is_empty m.payload ≡ empty → finds_place env m b.records ≡ true
      → Led (retain_by retain empty b.records.publications m b) b
  leads_retain false empty m b k said is none found = nothing b k
  leads_retain true true m b k said is none found = leads_forgets (retained_of m.topic b.records) b k
  leads_retain true false m b k said is none found = one (Keep _) b k (law.keep m b k said is none found)

  -- an accepted publication with its copies leads
  pub leads_publish : (origin : Origin) (m : Message) (ds : List CopyTo) (b : Broker) → Keeps b → about.message m → accepted_copies env m b ≡ Some ds → Led (publish env origin m ds b) b
  leads_publish origin m ds b k said e =
      let number = next_publication b.records in
      let c = after (Accept number origin m) b in
      let next = retain_by m.retain (is_empty m.payload) number m c in
      let d = after_all next c in
      more (Accept number origin m) (next ++ series (map (deliver env) ds) d) b k (law.accept origin m b k said)
      (λ h. leads_append Keeps Good next (series (map (deliver env) ds) d) c
      (leads_retain m.retain (is_empty m.payload) m c h said refl refl (place_found env m b ds e))
      (λ g. leads_deliveries ds d g (made_numbered number ds d (retain_numbers m.retain (is_empty m.payload) number m c)
      (subst (λ (now : ℕ). AreNumbered number now ds) (sym (retain_now m.retain (is_empty m.payload) number m c)) (routed_numbered env m b ds e)))))

  -- ---- sessions

  leads_closed : (keeps_will : Bool) (o : Option Session) (b : Broker) → Keeps b → ((s : Session) → o ≡ Some s → about.session s.birth) → Led (closing_session keeps_will b.now o) b
  leads_closed keeps_will None b k its = nothing b k
  leads_closed true (Some s) b k its = one (At (whose s) (Close b.now)) b k (law.close (whose s) b k (its s refl))
  leads_closed false (Some s) b k its =
      more (At (whose s) DropWill) (At (whose s) (Close b.now) ∷ []) b k (law.alone (whose s) DropWill b k (its s refl) refl)
      (λ h. one (At (whose s) (Close b.now)) (after (At (whose s) DropWill) b) h (law.close (whose s) (after (At (whose s) DropWill) b) h (its s refl)))

  leads_closing : (keeps_will : Bool) (l : Line) (session : Option ℕ) (b : Broker) → Keeps b → about.line l → l.session ≡ session → Led (Gone l.number ∷ closing_on keeps_will b.now session b.records) b
  leads_closing keeps_will l None b k its is = one (Gone l.number) b k (law.gone l.number b k)
  leads_closing keeps_will l (Some birth) b k its is =
      more (Gone l.number) (closing_session keeps_will b.now (session_at birth b.records)) b k (law.gone l.number b k)
      (λ h. leads_closed keeps_will (session_at birth b.records) (after (Gone l.number) b) h
      (λ s e. subst about.session (sym (found_key birth_of birth s b.records.sessions e)) (law.finds.its_session l birth its is)))

  leads_ended : (s : Session) (b : Broker) → Keeps b → about.session s.birth → Led (end_session s) b
  leads_ended s b k its = leads_append Keeps Good (map (λ e. At (whose s) (Leave e SessionEnded)) s.queue) (Finish (whose s) ∷ []) b (all_leave s.queue b k)
      (λ h. one (Finish (whose s)) _ h (law.finish (whose s) _ h its))
    where
      all_leave : (q : List CopyRow) (b : Broker) → Keeps b → Led (map (λ e. At (whose s) (Leave e SessionEnded)) q) b
      all_leave [] b k = nothing b k
      all_leave (e ∷ q) b k =
          let d = At (whose s) (Leave e SessionEnded) in
          more d (map (λ x. At (whose s) (Leave x SessionEnded)) q) b k (law.leave (whose s) e SessionEnded b k) (λ h. all_leave q (after d b) h)

  leads_born : (l : Line) (c : Greeting) (is_assigned : Bool) (client : List ℕ) (b : Broker) → Keeps b → Good (Begin (fresh_row (suc b.records.births) client c) (will_of c)) b
      → Led (begin l c is_assigned client (suc b.records.births)) b
  leads_born l c is_assigned client b k good =
      let d = Begin (fresh_row (suc b.records.births) client c) (will_of c) in
      let told = Send l.number (connack false success (connack_properties is_assigned client)) in
      more d (greet l c (suc b.records.births) ∷ told ∷ []) b k good
      (λ h. more (greet l c (suc b.records.births)) (told ∷ []) (after d b) h (law.on_line l.number _ (after d b) h)
      (λ g. one told _ g (law.send l.number (connack false success (connack_properties is_assigned client)) _ g)))

  leads_begin : (t : Bool) (l : Line) (c : Greeting) (b : Broker)
      → Keeps b → about.packet (packets.Connect c) → IsAdmitted c → about.client c.client_identifier b → session_named c.client_identifier b.records ≡ None → nat_lt (length b.records.sessions) env.limits.sessions ≡ true
      → Led (begin_named t l c b.records) b
  leads_begin false l c b k came taken name is room = leads_born l c false c.client_identifier b k (law.begin_given c b k came taken name is room)
  leads_begin true l c b k came taken name is room =
      let d = Name (suc b.records.autos) in
      more d (begin l c true (auto ++ decimal (suc b.records.autos)) (suc b.records.births)) b k (law.name b k)
      (λ h. leads_born l c true (auto ++ decimal (suc b.records.autos)) (after d b) h (law.begin_assigned c b k h came taken room))

  -- a granted filter with the copies that it brings leads
  pub leads_grants : (w : sub.Wish) (s : Session) (b : Broker) → Keeps b → about.session s.birth → IsGranted env w s b → Led (sub.granted_filter env (sub.next_number b.records) s w (brought_to w s b) b).deeds b
  leads_grants w s b k its granted =
      let number = sub.next_number b.records in
      let x = sub.subscription number s w in
      let ds = brought_to w s b in
      let first : List Deed = Count number ∷ At (whose s) (deeds.Subscribe x) ∷ [] in
      let c = after_all first b in
      let queued = filter is_queued ds in
      more (Count number) (At (whose s) (deeds.Subscribe x) ∷ series (map (deliver env) queued) c) b k (law.count b k)
      (λ h. more (At (whose s) (deeds.Subscribe x)) (series (map (deliver env) queued) c) (after (Count number) b) h (law.subscribe w s b k h its granted)
      (λ g. let d = after (Count number) b in
      leads_deliveries queued c g (are_made_stay queued (At (whose s) (deeds.Subscribe x) ∷ []) d (tt, tt) (each_filter (λ y. IsMade y.birth y.copy d) is_queued ds (brought_made number s w d (omega arith))))))

  -- ---- turns

  module _ (mark : MarkLaw Keeps Good) where
    leads_turn : (now line : ℕ) (s : Session) (t : Turn) (b : Broker) → Keeps b → Led (turn_deeds now line s t) b
    leads_turn now line s (turns.Send place id) b k =
        leads_of_entry Keeps Good (row_at copy_place place s.queue) (λ e. At (whose s) (Mark place (Sent id)) ∷ On line (Went place) ∷ Send line (publish_of now false id e.copy) ∷ []) b k
        (λ e is. let d = At (whose s) (Mark place (Sent id)) in
        more d (On line (Went place) ∷ Send line (publish_of now false id e.copy) ∷ []) b k (mark (whose s) place (Sent id) b k)
        (λ h. more (On line (Went place)) (Send line (publish_of now false id e.copy) ∷ []) (after d b) h (law.on_line line (Went place) (after d b) h)
        (λ g. one (Send line (publish_of now false id e.copy)) _ g (law.send line (publish_of now false id e.copy) _ g))))
    leads_turn now line s (turns.Resend place id) b k =
        leads_of_entry Keeps Good (row_at copy_place place s.queue) (λ e. On line (Went place) ∷ Send line (publish_of now true id e.copy) ∷ []) b k
        (λ e is. more (On line (Went place)) (Send line (publish_of now true id e.copy) ∷ []) b k (law.on_line line (Went place) b k)
        (λ g. one (Send line (publish_of now true id e.copy)) _ g (law.send line (publish_of now true id e.copy) _ g)))
    leads_turn now line s (turns.Release place id order) b k =
        more (At (whose s) (Mark place (ReleasedPhase id order))) (Send line (pubrel id success) ∷ []) b k (mark (whose s) place (ReleasedPhase id order) b k)
        (λ g. one (Send line (pubrel id success)) _ g (law.send line (pubrel id success) _ g))
    leads_turn now line s (turns.Outgrow place id order) b k =
        more (At (whose s) (Mark place (Oversize id order))) (Send line (pubrel id success) ∷ []) b k (mark (whose s) place (Oversize id order) b k)
        (λ g. one (Send line (pubrel id success)) _ g (law.send line (pubrel id success) _ g))
    leads_turn now line s (turns.Repeat id) b k = one (Send line (pubrel id success)) b k (law.send line (pubrel id success) b k)
    leads_turn now line s (turns.Unknown id) b k = one (Send line (pubrel id identifier_not_found)) b k (law.send line (pubrel id identifier_not_found) b k)
    leads_turn now line s (turns.Leave place ending) b k = leads_left s place ending b k

    -- if phases may be set, turns of a queue lead
    pub turn_law : TurnLaw about Keeps Good
    turn_law = record {
      pumps = λ l s b k its is there. leads_flat Keeps Good (turn_deeds b.now l.number s) (leads_turn b.now l.number s) (pump_turns l b s) b k;
      turns = λ a t l s b k its own there is e. leads_turn b.now l.number s t b k;
    }

  -- for what is good by each deed, or for what follows from it
  module _ (Told : Deed → Broker → Type 0) (tell : (ds : List Deed) (b : Broker) → Led ds b → Leads Keeps Told ds b)
      (stays : (client : List ℕ) (ds : List Deed) (b : Broker) → Keeps b → Leads Keeps Told ds b → about.client client b → about.client client (after_all ds b)) where
    -- a law of each kind of deed is a law of units also for what follows from good deeds
    pub law_told : TurnLaw about Keeps Told → Law env about Keeps Told
    law_told turn = record {
      finds = law.finds;
      client_stays = stays;
      publishes = λ origin m ds b k said e. tell (publish env origin m ds b) b (leads_publish origin m ds b k said e);
      open_id = λ s id m ds b k h its there new is. tell (At (whose s) (Open id) ∷ []) (after_all (publish env FromClient m ds b) b) (one (At (whose s) (Open id)) (after_all (publish env FromClient m ds b) b) h (law.open_id s id m ds b k h its there new is));
      refuse_will = λ who b k its. tell (RefuseWill who ∷ []) b (one (RefuseWill who) b k (law.refuse_will who b k its));
      alone = λ who part b k its is. tell (At who part ∷ []) b (one (At who part) b k (law.alone who part b k its is));
      closes = λ keeps_will l b k its on. tell (closing keeps_will l b) b (leads_closing keeps_will l l.session b k its refl);
      ends = λ s b k its among may. tell (end_session s) b (leads_ended s b k its);
      resumes = λ l c s b k its none came taken own is prepared. tell (At (whose s) (Resume (expiry_of c) (will_of c)) ∷ greet l c s.birth ∷ []) b (
          more (At (whose s) (Resume (expiry_of c) (will_of c))) (greet l c s.birth ∷ []) b k (law.resume (whose s) (expiry_of c) (will_of c) b k own)
          (λ h. one (greet l c s.birth) _ h (law.on_line l.number _ _ h)));
      begins = λ l c b k its none came taken name is room prepared. tell (begin_named (is_empty c.client_identifier) l c b.records) b (leads_begin (is_empty c.client_identifier) l c b k came taken name is room);
      grants = λ w s b k its asked granted. tell (sub.granted_filter env (sub.next_number b.records) s w (brought_to w s b) b).deeds b (leads_grants w s b k its granted);
      pumps = turn.pumps;
      turns = turn.turns;
      lapses = λ s b k among. tell (lapse_deeds b.now s) b (leads_flat Keeps Good (leave_deeds s) (leads_leave s) (lapses b.now s) b k);
      stale = λ x b k among. tell (Forget x.place ∷ []) b (one (Forget x.place) b k (law.forget x.place b k));
      links = λ b k can. tell (Link (suc b.given) ∷ []) b (one (Link (suc b.given)) b k (law.link b k));
      hears = λ n b k its. tell (On n Hear ∷ []) b (one (On n Hear) b k (law.on_line n Hear b k));
      sets = λ n alias topic b k its said. tell (On n (SetAlias alias topic) ∷ []) b (one (On n (SetAlias alias topic)) b k (law.on_line n (SetAlias alias topic) b k));
      sends = λ n packet b k its. tell (Send n packet ∷ []) b (one (Send n packet) b k (law.send n packet b k));
    }

  -- a law of each kind of deed is a law of units
  pub by_deeds : TurnLaw about Keeps Good → Law env about Keeps Good
  by_deeds turn = law_told Good (λ ds b h. h) (λ client ds b k led its. client_stays client ds b k led.0 its) turn
    where
      client_stays : (client : List ℕ) (ds : List Deed) (b : Broker) → Keeps b → AreGood Good ds b → about.client client b → about.client client (after_all ds b)
      client_stays client [] b k good its = its
      client_stays client (d ∷ ds) b k good its = client_stays client ds (after d b) (law.kept d b k good.0) good.1 (law.client_stays client d b k good.0 its)

  -- if the end alone says all
  pub by_ends : ((client : List ℕ) (b c : Broker) → about.client client b → about.client client c) → TurnLaw about Keeps (λ d b. ⊤) → Law env about Keeps (λ d b. ⊤)
  by_ends stays turn = law_told (λ d b. ⊤) (λ ds b h. leads_end Keeps ds b h.1) (λ client ds b k led its. stays client b (after_all ds b) its) turn

  -- to close a session that stood connected when the broker opens leads
  pub by_deeds_shuts : ((birth : ℕ) → about.session birth) → (s : Session) (b : Broker) → Keeps b → s.closed ≡ None → Led (At (whose s) (Close b.now) ∷ []) b
  by_deeds_shuts all s b k is = one (At (whose s) (Close b.now)) b k (law.close (whose s) b k (all s.birth))

-- ---- for any step and any opening

module _ (env : Env) (Keeps : Broker → Type 0) (Good : Deed → Broker → Type 0) (law : DeedLaw env anyone Keeps Good) (mark : MarkLaw Keeps Good) where
  the_law : Law env anyone Keeps Good
  the_law = by_deeds env anyone Keeps Good law (turn_law env anyone Keeps Good law mark)

  -- all deeds of a call are good
  pub leads_deeds : (call : Call) (b : Broker) → Keeps b → Leads Keeps Good (deeds_of env call b) b
  leads_deeds call b k = leads_call env anyone Keeps Good the_law call b k (call_of_anyone call b)

  -- all deeds of an opening are good
  pub leads_opened : (b : Broker) → Keeps b → Leads Keeps Good (opening env b) b
  leads_opened b k = leads_opening env anyone Keeps Good the_law (by_deeds_shuts env anyone Keeps Good law (λ birth. tt)) (λ birth. tt) b k
