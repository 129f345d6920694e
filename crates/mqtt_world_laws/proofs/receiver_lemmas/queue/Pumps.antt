-- What a pump makes of a session's queue and of its line, and what it tells: it does the turns of the hop.
use Rattle.std.proofs.Common.{◌≡◌, ℕ, zero, suc, ◌+◌, ◌<◌, ◌≤◌, Bool, true, false, cond, List, [], ◌∷◌, ◌++◌, map, Option, Some, None, nat_eq, refl, sym, ap, subst, ◌∙◌, arith, inl, inr}
use Rattle.std.specs.Prelude.{⊤, filter_map, is_some, option_map, slice_get}
use Rattle.std.specs.List.{AllByRecursion, cons_option}
use Rattle.std.proofs.lemmas.Bool.{cases_Bool, eqb-true}
use Rattle.std.proofs.lemmas.Cmp.{nat_eq_equiv}
use Rattle.std.proofs.lemmas.Option.{slice_get-map}
use Rattle.mqtt_base.specs.Codes.{success}
use Rattle.mqtt_base.specs.Phases.{identifier_of}
use Rattle.mqtt_base.specs.declared.session.CopyId.{CopyId}
use Rattle.mqtt_base.specs.declared.session.Ending.{Ending}
use Rattle.mqtt_base.specs.declared.session.Phase.{Phase}
use Rattle.mqtt_base.specs.declared.session.Phase.TheVariants.{Waiting, Sent, Released, Oversize}
use Rattle.mqtt_base.specs.declared.session.Qos.{Qos}
use Rattle.mqtt_base.specs.declared.session.Qos.TheVariants.{AtMostOnce, AtLeastOnce, ExactlyOnce}
use Rattle.mqtt_packet.specs.declared.codec.packet.Packet.{Packet}
use Rattle.mqtt_packet.specs.declared.codec.publish.Publish.{Publish as Publication}
use Rattle.mqtt_flow.specs.outbound.Outbound.{Verdict, pass, end, outgrow, send, resend, first_time, in_room, is_large, is_late, once_more, paced, pump_from, step_by, step_on, then_on, too_large, verdict, verdict_by}
use Rattle.mqtt_flow.specs.outbound.OutboundWorld.{Lot, body, is_granted, is_twice, lots_after, sends}
use Rattle.mqtt_flow.specs.outbound.Pacing.{Pacing}
use Rattle.mqtt_flow.specs.outbound.Receiver.{Output, publish, pubrel}
use Rattle.mqtt_flow.specs.declared.outbound.entry.QueuedCopy.{QueuedCopy}
use Rattle.mqtt_flow.specs.declared.outbound.entry.Turn.{Turn}
use Rattle.mqtt_flow.specs.declared.outbound.entry.Turn.TheVariants as turns
use Rattle.mqtt_flow.specs.declared.outbound.entry.Way.{Way}
use Rattle.mqtt_flow.specs.inbound.Identifiers.{free_identifier, ids_without}
use Rattle.mqtt_world_model.specs.model.Ends.{body_of}
use Rattle.mqtt_world_model.specs.model.Lines.{copy_by, copy_in, sent_to}
use Rattle.mqtt_world_model.proofs.model_lemmas.others.Quiet.{line_on, quiet_line, session_on}
use Rattle.mqtt_records.specs.messages.Queue.{CopyRow}
use Rattle.mqtt_records.specs.state.Records.{changed_all}
use Rattle.mqtt_records.specs.state.Session.{birth_of, copy_place, in_phase, with_phase, without_copy}
use Rattle.mqtt_records.specs.declared.state.records.Records.{Records}
use Rattle.mqtt_records.specs.declared.state.session.Session.{Session}
use Rattle.mqtt_records.specs.lists.Order.{IsAbove, IsAscending, change_row, has_row, remove_row, row_at}
use Rattle.mqtt_records.proofs.lists_lemmas.LookUps.{row_at-remove_row}
use Rattle.mqtt_records.proofs.lists_lemmas.OrderLemmas.{apart, change-ascending, remove-ascending}
use Rattle.mqtt_rules.proofs.step_lemmas.flight.FlightPump.{Ahead}
use Rattle.mqtt_rules.proofs.step_lemmas.flight.FlightRows.{change_row-here, change_row-other}
use Rattle.mqtt_rules.specs.step.Deeds.{At, Deed, Leave, Mark, On, Send, Went, after_all, line_after, on_line, output, part_rows_of, stored_after, whose, without_place}
use Rattle.mqtt_rules.specs.step.Outbound.{all_turn_deeds, of_entry}
use Rattle.mqtt_rules.specs.step.Packets as packets_of
use Rattle.mqtt_rules.specs.step.Packets.{delivery_by, properties_sent, publish_of}
use Rattle.mqtt_rules.specs.step.State.{Line as BrokerLine, Broker, entry_on, is_of, session_at}
use Rattle.mqtt_rules.specs.step.Step.{copy_of}
use Rattle.mqtt_world_laws.specs.receiver.Entering.{AreKnown}
use Rattle.mqtt_world_laws.specs.receiver.Handing.{IsAloneOn}
use Rattle.mqtt_world_laws.specs.receiver.Seen.{Numbering, content_of, heard_in, lot_on, number_of, publish_heard, still_standing}
use Rattle.mqtt_world_laws.specs.receiver.Tags.{IsTagged, IsTaggedBy, Names, id_of}
use Rattle.mqtt_world_laws.proofs.receiver_lemmas.own.Answering.{its_went, went_left}
use Rattle.mqtt_world_laws.proofs.receiver_lemmas.queue.Known.{known_left, known_marked, known_sent}
use Rattle.mqtt_world_laws.proofs.receiver_lemmas.queue.Marks.{lots_by, outgrown_lots, outputs_of, resent_lots, sent_as, sent_lots}
use Rattle.mqtt_world_laws.proofs.receiver_lemmas.queue.Turns.{ids_after, left_lots}

-- ---- the session's line

still_its : (birth n : ℕ) (l : BrokerLine) → l.session ≡ Some birth → is_of l.session birth ≡ true
still_its birth n l its = ap (λ (o : Option ℕ). is_of o birth) its ∙ nat_eq_equiv.refl birth

-- the session of a line is the one on it
pub its_session : (o : Option ℕ) (birth : ℕ) → is_of o birth ≡ true → o ≡ Some birth
its_session None birth h = absurd cc
its_session (Some x) birth h = ap Some (eqb-true x birth h)

-- a PUBLISH went out on it
went_more : (birth n now place : ℕ) (went : List ℕ) (ls : List BrokerLine) → AllByRecursion (IsAloneOn birth n) ls → session_on n ls ≡ Some (Some birth) → its_went birth ls ≡ Some went
    → its_went birth (on_line now n (Went place) ls) ≡ Some (went ++ place ∷ [])
went_more birth n now place went [] alone on is = absurd cc
went_more birth n now place went (l ∷ ls) alone on is = elim (cases_Bool (is_of l.session birth)) [
  | inl its ↦
      let number : l.number ≡ n = alone.0 (its_session l.session birth its) in
      let here : nat_eq l.number n ≡ true = ap (λ (k : ℕ). nat_eq k n) number ∙ nat_eq_equiv.refl n in
      let same : Some l.went ≡ Some went = rw its at is in
      let went_is : l.went ≡ went = cc in
      rw (here, its) (ap (λ (xs : List ℕ). Some (xs ++ place ∷ [])) went_is)
  | inr not_its ↦ elim (cases_Bool (nat_eq l.number n)) [
    | inl here ↦
        let session : Some l.session ≡ Some (Some birth) = rw here at on in
        let its : l.session ≡ Some birth = cc in
        let clash : true ≡ false = sym (still_its birth n l its) ∙ not_its in
        absurd cc
    | inr further ↦ rw (further, not_its) (went_more birth n now place went ls alone.1 (rw further at on) (rw not_its at is))
  ]
]

alone_went : (birth n now place : ℕ) (ls : List BrokerLine) → AllByRecursion (IsAloneOn birth n) ls → AllByRecursion (IsAloneOn birth n) (on_line now n (Went place) ls)
alone_went birth n now place [] h = tt
alone_went birth n now place (l ∷ ls) h = by (nat_eq l.number n) (alone_went birth n now place ls h.1)
  where
    by : (here : Bool) → AllByRecursion (IsAloneOn birth n) (on_line now n (Went place) ls) → AllByRecursion (IsAloneOn birth n) (cond here (line_after now (Went place) l ∷ ls) (l ∷ on_line now n (Went place) ls))
    by true g = (h.0, h.1)
    by false g = (h.0, g)

alone_left : (birth n other place : ℕ) (ls : List BrokerLine) → AllByRecursion (IsAloneOn birth n) ls → AllByRecursion (IsAloneOn birth n) (map (without_place other place) ls)
alone_left birth n other place [] h = tt
alone_left birth n other place (l ∷ ls) h = (by (is_of l.session other), alone_left birth n other place ls h.1)
  where
    by : (t : Bool) → IsAloneOn birth n (cond t (record l { went = ids_without place l.went }) l)
    by true = h.0
    by false = h.0

-- ---- places

all_above : (k : ℕ) (es : List CopyRow) → IsAbove copy_place k es → AllByRecursion (λ (e : CopyRow). suc k ≤ e.place) es
all_above k [] up = tt
all_above k (e ∷ es) up = let less = up.0 in (omega (arith, less), all_above k es up.1)

ahead_removed : (place : ℕ) (queue es : List CopyRow) → IsAbove copy_place place es → Ahead queue es → Ahead (remove_row copy_place place queue) es
ahead_removed place queue [] up h = tt
ahead_removed place queue (e ∷ es) up h =
    let less = up.0 in
    (row_at-remove_row copy_place e.place place queue ∙ rw (apart place e.place (λ same. omega (arith, same, less))) h.0, ahead_removed place queue es up.1 h.1)

ahead_marked : (place : ℕ) (phase : Phase) (queue es : List CopyRow) → IsAbove copy_place place es → Ahead queue es → Ahead (change_row copy_place place (in_phase phase) queue) es
ahead_marked place phase queue [] up h = tt
ahead_marked place phase queue (e ∷ es) up h =
    let less = up.0 in
    (change_row-other copy_place e.place place (in_phase phase) queue (λ y. refl) (apart place e.place (λ same. omega (arith, same, less))) ∙ h.0, ahead_marked place phase queue es up.1 h.1)

-- ---- what a pump has for a copy keeps to its identifier

abbrev Fits : Phase → Verdict → Type 0
Fits phase pass = ⊤
Fits phase (end ending) = ⊤
Fits phase (outgrow i) = ⊤
Fits phase send = ⊤
Fits phase (resend i) = identifier_of phase ≡ Some i

fits_first : (phase : Phase) (late large : Bool) → Fits phase (first_time late large)
fits_first phase true large = tt
fits_first phase false true = tt
fits_first phase false false = tt

fits_large : (qos : Qos) (i : ℕ) → Fits (Sent i) (too_large qos i)
fits_large AtMostOnce i = tt
fits_large AtLeastOnce i = tt
fits_large ExactlyOnce i = tt

fits_once : (here large : Bool) (qos : Qos) (i : ℕ) → Fits (Sent i) (once_more here large qos i)
fits_once true large qos i = tt
fits_once false true qos i = fits_large qos i
fits_once false false qos i = refl

fits : (way : Way) (copy : QueuedCopy) (here : Bool) (phase : Phase) → Fits phase (verdict_by way copy here phase)
fits way copy here Waiting = fits_first Waiting (is_late way.now copy) (is_large way copy)
fits way copy here (Sent i) = fits_once here (is_large way copy) copy.qos i
fits way copy here (Released i order) = tt
fits way copy here (Oversize i order) = tt

-- ---- packets

-- of the state after the step it is known which copy has an identifier
abbrev pub Finds : ℕ → Broker → List CopyRow → Type 0
Finds n new queue = (place id : ℕ) (e : CopyRow) → row_at copy_place place queue ≡ Some e → identifier_of e.phase ≡ Some id → copy_of n id new ≡ Some e.copy.id

-- what goes down first is under way first
pub down_first : (n : ℕ) (new : Broker) (packet : Packet) (rest : List (ℕ × Packet)) → sent_to (Some n) new ((n, packet) ∷ rest) ≡ record { packet = packet; copy = copy_in n new packet } ∷ sent_to (Some n) new rest
down_first n new packet rest = rw (nat_eq_equiv.refl n) refl

-- a copy's PUBLISH, as it is heard
publish_is : (number : Numbering) (n : ℕ) (new : Broker) (c : CopyId) (qos : Qos) (dup : Bool) (i : ℕ) (p : Publication) → is_granted qos ≡ true → copy_of n i new ≡ Some c
    → publish_heard number (copy_by n new (delivery_by qos dup i)) p (delivery_by qos dup i) ≡ Some (publish i (number c) dup (record { twice = is_twice qos; topic = p.topic; payload = p.payload }))
publish_is number n new c AtMostOnce dup i p granted is = absurd cc
publish_is number n new c AtLeastOnce dup i p granted is = ap (λ (o : Option CopyId). Some (publish i (number_of number o) dup (body_of false p))) is
publish_is number n new c ExactlyOnce dup i p granted is = ap (λ (o : Option CopyId). Some (publish i (number_of number o) dup (body_of true p))) is

publish_tag : (number : Numbering) (ids : List CopyId) (n : ℕ) (new : Broker) (c : CopyId) (qos : Qos) (dup : Bool) (i : ℕ) → Names number ids (Some c) → copy_of n i new ≡ Some c
    → IsTaggedBy number ids (copy_by n new (delivery_by qos dup i)) (delivery_by qos dup i)
publish_tag number ids n new c AtMostOnce dup i its is = tt
publish_tag number ids n new c AtLeastOnce dup i its is = subst (Names number ids) (sym is) its
publish_tag number ids n new c ExactlyOnce dup i its is = subst (Names number ids) (sym is) its

-- ---- turn by turn

abbrev pub IsRowGranted : CopyRow → Type 0
IsRowGranted e = is_granted e.copy.qos ≡ true

module _ (number : Numbering) (n now : ℕ) (s : Session) (went_then : List ℕ) (ids : List CopyId) (numbered : (k : ℕ) (copy : CopyId) → slice_get ids k ≡ Some copy → number copy ≡ k) where
  -- the session with this queue
  abbrev pub holds : List CopyRow → Session
  holds queue = record s { queue = queue }

  -- how far the session, its line and the copies of the hop have come
  pub record Tracks (queue : List CopyRow) (went : List ℕ) (lots : List Lot) (b : Broker) : Type 0 where
    pub session : session_at s.birth b.records ≡ Some (holds queue)
    pub places : IsAscending copy_place queue
    pub went_is : its_went s.birth b.lines ≡ Some went
    pub on : session_on n b.lines ≡ Some (Some s.birth)
    pub alone : AllByRecursion (IsAloneOn s.birth n) b.lines
    pub standing : still_standing lots ≡ map (lot_on went) queue
    pub ids_are : map id_of lots ≡ ids
    pub known : AreKnown s.queue (Some went_then) → AreKnown queue (Some went)

  -- what these deeds, which are these turns, make of it; the copies below the place k stay as they are
  pub record Goes (ds : List Deed) (ts : List Turn) (k : ℕ) (queue : List CopyRow) (lots : List Lot) (b : Broker) : Type 0 where
    pub last : List CopyRow
    pub went : List ℕ
    pub tracks : Tracks last went (lots_by ts lots) (after_all ds b)
    pub settled : (p : ℕ) → p < k → row_at copy_place p last ≡ row_at copy_place p queue
    pub told : (new : Broker) → Finds n new last → filter_map (heard_in number) (sent_to (Some n) new (filter_map output ds)) ≡ outputs_of ts lots
    pub tagged : (new : Broker) → Finds n new last → AllByRecursion (IsTagged number ids) (sent_to (Some n) new (filter_map output ds))

  -- no turns leave all as it is
  pub goes_nowhere : (k : ℕ) (queue : List CopyRow) (went : List ℕ) (lots : List Lot) (b : Broker) → Tracks queue went lots b → Goes [] [] k queue lots b
  goes_nowhere k queue went lots b h = record { last = queue; went = went; tracks = h; settled = λ p less. refl; told = λ new f. refl; tagged = λ new f. tt }

  -- ---- the session and the line after a deed

  stored_marked : (place : ℕ) (phase : Phase) (queue : List CopyRow) (r : Records) → session_at s.birth r ≡ Some (holds queue)
      → session_at s.birth (stored_after (At (whose s) (Mark place phase)) r) ≡ Some (holds (change_row copy_place place (in_phase phase) queue))
  stored_marked place phase queue r is =
      ap (λ (o : Option Session). session_at s.birth (changed_all (part_rows_of (Mark place phase) o) r)) is
      ∙ change_row-here birth_of s.birth (with_phase place phase) (holds queue) r.sessions (λ y. refl) is

  stored_left : (e : CopyRow) (ending : Ending) (queue : List CopyRow) (r : Records) → session_at s.birth r ≡ Some (holds queue)
      → session_at s.birth (stored_after (At (whose s) (Leave e ending)) r) ≡ Some (holds (remove_row copy_place e.place queue))
  stored_left e ending queue r is =
      ap (λ (o : Option Session). session_at s.birth (changed_all (part_rows_of (Leave e ending) o) r)) is
      ∙ change_row-here birth_of s.birth (without_copy e.place) (holds queue) r.sessions (λ y. refl) is

  tracks_sent : (place i : ℕ) (packet : Packet) (queue : List CopyRow) (went : List ℕ) (lots : List Lot) (b : Broker) → has_row copy_place place queue ≡ true → Tracks queue went lots b
      → Tracks (change_row copy_place place (in_phase (Sent i)) queue) (went ++ place ∷ []) (lots_after (turns.Send place i) lots)
      (after_all (At (whose s) (Mark place (Sent i)) ∷ On n (Went place) ∷ Send n packet ∷ []) b)
  tracks_sent place i packet queue went lots b there h = record {
    session = stored_marked place (Sent i) queue b.records h.session;
    places = change-ascending copy_place place (in_phase (Sent i)) queue (λ y. refl) h.places;
    went_is = went_more s.birth n b.now place went b.lines h.alone h.on h.went_is;
    on = line_on b.now n n (Went place) b.lines (inr tt) ∙ h.on;
    alone = alone_went s.birth n b.now place b.lines h.alone;
    standing = sent_lots lots went place i queue h.places h.standing;
    ids_are = ids_after (turns.Send place i) lots ∙ h.ids_are;
    known = λ k. known_marked place (Sent i) queue (Some (went ++ place ∷ [])) (known_sent place queue went there (h.known k));
  }

  tracks_resent : (place i : ℕ) (packet : Packet) (queue : List CopyRow) (went : List ℕ) (lots : List Lot) (b : Broker) → has_row copy_place place queue ≡ true → Tracks queue went lots b
      → Tracks queue (went ++ place ∷ []) (lots_after (turns.Resend place i) lots) (after_all (On n (Went place) ∷ Send n packet ∷ []) b)
  tracks_resent place i packet queue went lots b there h = record {
    session = h.session;
    places = h.places;
    went_is = went_more s.birth n b.now place went b.lines h.alone h.on h.went_is;
    on = line_on b.now n n (Went place) b.lines (inr tt) ∙ h.on;
    alone = alone_went s.birth n b.now place b.lines h.alone;
    standing = resent_lots lots went place i queue h.places h.standing;
    ids_are = ids_after (turns.Resend place i) lots ∙ h.ids_are;
    known = λ k. known_sent place queue went there (h.known k);
  }

  tracks_outgrown : (place i order : ℕ) (packet : Packet) (queue : List CopyRow) (went : List ℕ) (lots : List Lot) (b : Broker) → Tracks queue went lots b
      → Tracks (change_row copy_place place (in_phase (Oversize i order)) queue) went (lots_after (turns.Outgrow place i order) lots)
      (after_all (At (whose s) (Mark place (Oversize i order)) ∷ Send n packet ∷ []) b)
  tracks_outgrown place i order packet queue went lots b h = record {
    session = stored_marked place (Oversize i order) queue b.records h.session;
    places = change-ascending copy_place place (in_phase (Oversize i order)) queue (λ y. refl) h.places;
    went_is = h.went_is;
    on = h.on;
    alone = h.alone;
    standing = outgrown_lots lots went place i order queue h.places h.standing;
    ids_are = ids_after (turns.Outgrow place i order) lots ∙ h.ids_are;
    known = λ k. known_marked place (Oversize i order) queue (Some went) (h.known k);
  }

  tracks_left : (e : CopyRow) (ending : Ending) (queue : List CopyRow) (went : List ℕ) (lots : List Lot) (b : Broker) → Tracks queue went lots b
      → Tracks (remove_row copy_place e.place queue) (ids_without e.place went) (lots_after (turns.Leave e.place ending) lots) (after_all (At (whose s) (Leave e ending) ∷ []) b)
  tracks_left e ending queue went lots b h = record {
    session = stored_left e ending queue b.records h.session;
    places = remove-ascending copy_place e.place queue h.places;
    went_is = went_left s.birth e.place b.lines ∙ ap (option_map (ids_without e.place)) h.went_is;
    on = quiet_line s.birth n b.now (At (whose s) (Leave e ending)) b.lines (inr tt) ∙ h.on;
    alone = alone_left s.birth n s.birth e.place b.lines h.alone;
    standing = left_lots lots went e.place ending queue h.standing;
    ids_are = ids_after (turns.Leave e.place ending) lots ∙ h.ids_are;
    known = λ k. known_left e.place queue (Some went) (h.known k);
  }

  -- ---- a PUBLISH goes out

  -- as it is heard, with the number of its copy, and its tag
  record Heard (dup : Bool) (e : CopyRow) (i : ℕ) (ps : List Output) (new : Broker) (rest : List (ℕ × Packet)) : Type 0 where
    pub told : filter_map (heard_in number) (sent_to (Some n) new ((n, publish_of now dup i e.copy) ∷ rest)) ≡ ps ++ filter_map (heard_in number) (sent_to (Some n) new rest)
    pub tagged : AllByRecursion (IsTagged number ids) (sent_to (Some n) new rest) → AllByRecursion (IsTagged number ids) (sent_to (Some n) new ((n, publish_of now dup i e.copy) ∷ rest))

  heard_publish : (dup : Bool) (e : CopyRow) (i : ℕ) (queue : List CopyRow) (went : List ℕ) (lots : List Lot) (new : Broker) (rest : List (ℕ × Packet))
      → row_at copy_place e.place queue ≡ Some e → IsRowGranted e → still_standing lots ≡ map (lot_on went) queue → map id_of lots ≡ ids → copy_of n i new ≡ Some e.copy.id
      → Heard dup e i (sends dup i e.place 0 lots) new rest
  heard_publish dup e i queue went lots new rest there granted standing same is =
      let x = sent_as dup i e.place 0 went lots queue e standing there in
      let found : slice_get ids x.at ≡ Some e.copy.id = ap (λ (cs : List CopyId). slice_get cs x.at) (sym same) ∙ (slice_get-map id_of lots x.at ∙ ap (option_map id_of) x.found) in
      let its = numbered x.at e.copy.id found in
      let place_is : number e.copy.id ≡ 0 + x.at = omega (arith, its) in
      let named : Names number ids (Some e.copy.id) = ap (slice_get ids) its ∙ found in
      let p : Publication = record {
        delivery = delivery_by e.copy.qos dup i;
        retain = e.copy.retain;
        topic = e.copy.content.topic;
        properties = properties_sent now e.copy;
        payload = e.copy.content.payload;
      } in
      let rest_heard = filter_map (heard_in number) (sent_to (Some n) new rest) in
      let first = down_first n new (publish_of now dup i e.copy) rest in
      record {
        told = ap (filter_map (heard_in number)) first
            ∙ (ap (λ (o : Option Output). cons_option o rest_heard) (publish_is number n new e.copy.id e.copy.qos dup i p granted is)
            ∙ (ap (λ (k : ℕ). publish i k dup (body (entry_on went e) (content_of e.copy)) ∷ rest_heard) place_is
            ∙ ap (λ (ps : List Output). ps ++ rest_heard) (sym x.packets_are)));
        tagged = λ more. subst (AllByRecursion (IsTagged number ids)) (sym first) (publish_tag number ids n new e.copy.id e.copy.qos dup i named is, more);
      }

  -- ---- a turn, and then others

  go_send : (e : CopyRow) (i k : ℕ) (ts : List Turn) (queue : List CopyRow) (went : List ℕ) (lots : List Lot) (b : Broker)
      → row_at copy_place e.place s.queue ≡ Some e → row_at copy_place e.place queue ≡ Some e → IsRowGranted e → k ≤ e.place → Tracks queue went lots b
      → Goes (all_turn_deeds now n s ts) ts (suc e.place) (change_row copy_place e.place (in_phase (Sent i)) queue) (lots_after (turns.Send e.place i) lots)
      (after_all (At (whose s) (Mark e.place (Sent i)) ∷ On n (Went e.place) ∷ Send n (publish_of now false i e.copy) ∷ []) b)
      → Goes (all_turn_deeds now n s (turns.Send e.place i ∷ ts)) (turns.Send e.place i ∷ ts) k queue lots b
  go_send e i k ts queue went lots b was there granted le h g =
      let its : row_at copy_place e.place g.last ≡ Some (in_phase (Sent i) e) =
      g.settled e.place (omega arith) ∙ change_row-here copy_place e.place (in_phase (Sent i)) e queue (λ y. refl) there in
      subst (λ (o : Option CopyRow).
      Goes (of_entry o (λ x. At (whose s) (Mark e.place (Sent i)) ∷ On n (Went e.place) ∷ Send n (publish_of now false i x.copy) ∷ []) ++ all_turn_deeds now n s ts) (turns.Send e.place i ∷ ts) k queue lots b)
      (sym was) (record {
        last = g.last;
        went = g.went;
        tracks = g.tracks;
        settled = λ p less. g.settled p (omega (arith, less, le)) ∙ change_row-other copy_place p e.place (in_phase (Sent i)) queue (λ y. refl) (apart e.place p (λ same. omega (arith, same, less, le)));
        told = λ new f.
            (heard_publish false e i queue went lots new (filter_map output (all_turn_deeds now n s ts)) there granted h.standing h.ids_are (f e.place i (in_phase (Sent i) e) its refl)).told
            ∙ ap (λ (ps : List Output). sends false i e.place 0 lots ++ ps) (g.told new f);
        tagged = λ new f.
            (heard_publish false e i queue went lots new (filter_map output (all_turn_deeds now n s ts)) there granted h.standing h.ids_are (f e.place i (in_phase (Sent i) e) its refl)).tagged (g.tagged new f);
      })

  go_resend : (e : CopyRow) (i k : ℕ) (ts : List Turn) (queue : List CopyRow) (went : List ℕ) (lots : List Lot) (b : Broker)
      → row_at copy_place e.place s.queue ≡ Some e → row_at copy_place e.place queue ≡ Some e → IsRowGranted e → identifier_of e.phase ≡ Some i → k ≤ e.place → Tracks queue went lots b
      → Goes (all_turn_deeds now n s ts) ts (suc e.place) queue (lots_after (turns.Resend e.place i) lots) (after_all (On n (Went e.place) ∷ Send n (publish_of now true i e.copy) ∷ []) b)
      → Goes (all_turn_deeds now n s (turns.Resend e.place i ∷ ts)) (turns.Resend e.place i ∷ ts) k queue lots b
  go_resend e i k ts queue went lots b was there granted id le h g =
      let its : row_at copy_place e.place g.last ≡ Some e = g.settled e.place (omega arith) ∙ there in
      subst (λ (o : Option CopyRow). Goes (of_entry o (λ x. On n (Went e.place) ∷ Send n (publish_of now true i x.copy) ∷ []) ++ all_turn_deeds now n s ts) (turns.Resend e.place i ∷ ts) k queue lots b)
      (sym was) (record {
        last = g.last;
        went = g.went;
        tracks = g.tracks;
        settled = λ p less. g.settled p (omega (arith, less, le));
        told = λ new f.
            (heard_publish true e i queue went lots new (filter_map output (all_turn_deeds now n s ts)) there granted h.standing h.ids_are (f e.place i e its id)).told
            ∙ ap (λ (ps : List Output). sends true i e.place 0 lots ++ ps) (g.told new f);
        tagged = λ new f. (heard_publish true e i queue went lots new (filter_map output (all_turn_deeds now n s ts)) there granted h.standing h.ids_are (f e.place i e its id)).tagged (g.tagged new f);
      })

  go_outgrow : (e : CopyRow) (i order k : ℕ) (ts : List Turn) (queue : List CopyRow) (lots : List Lot) (b : Broker) → k ≤ e.place
      → Goes (all_turn_deeds now n s ts) ts (suc e.place) (change_row copy_place e.place (in_phase (Oversize i order)) queue) (lots_after (turns.Outgrow e.place i order) lots)
      (after_all (At (whose s) (Mark e.place (Oversize i order)) ∷ Send n (packets_of.pubrel i success) ∷ []) b)
      → Goes (all_turn_deeds now n s (turns.Outgrow e.place i order ∷ ts)) (turns.Outgrow e.place i order ∷ ts) k queue lots b
  go_outgrow e i order k ts queue lots b le g =
      let outputs = filter_map output (all_turn_deeds now n s ts) in
      record {
        last = g.last;
        went = g.went;
        tracks = g.tracks;
        settled = λ p less.
            g.settled p (omega (arith, less, le)) ∙ change_row-other copy_place p e.place (in_phase (Oversize i order)) queue (λ y. refl) (apart e.place p (λ same. omega (arith, same, less, le)));
        told = λ new f.
            ap (filter_map (heard_in number)) (down_first n new (packets_of.pubrel i success) outputs) ∙ ap (λ (ps : List Output). pubrel i success ∷ ps) (g.told new f);
        tagged = λ new f. subst (AllByRecursion (IsTagged number ids)) (sym (down_first n new (packets_of.pubrel i success) outputs)) (tt, g.tagged new f);
      }

  go_leave : (e : CopyRow) (ending : Ending) (k : ℕ) (ts : List Turn) (queue : List CopyRow) (lots : List Lot) (b : Broker)
      → row_at copy_place e.place s.queue ≡ Some e → k ≤ e.place
      → Goes (all_turn_deeds now n s ts) ts (suc e.place) (remove_row copy_place e.place queue) (lots_after (turns.Leave e.place ending) lots) (after_all (At (whose s) (Leave e ending) ∷ []) b)
      → Goes (all_turn_deeds now n s (turns.Leave e.place ending ∷ ts)) (turns.Leave e.place ending ∷ ts) k queue lots b
  go_leave e ending k ts queue lots b was le g =
      subst (λ (o : Option CopyRow). Goes (of_entry o (λ x. At (whose s) (Leave x ending) ∷ []) ++ all_turn_deeds now n s ts) (turns.Leave e.place ending ∷ ts) k queue lots b) (sym was) (record {
        last = g.last;
        went = g.went;
        tracks = g.tracks;
        settled = λ p less.
            g.settled p (omega (arith, less, le))
            ∙ (row_at-remove_row copy_place p e.place queue ∙ ap (λ (c : Bool). cond c None (row_at copy_place p queue)) (apart e.place p (λ same. omega (arith, same, less, le))));
        told = g.told;
        tagged = g.tagged;
      })

  goes_lower : (ds : List Deed) (ts : List Turn) (j k : ℕ) (queue : List CopyRow) (lots : List Lot) (b : Broker) → j ≤ k → Goes ds ts k queue lots b → Goes ds ts j queue lots b
  goes_lower ds ts j k queue lots b le g =
      record { last = g.last; went = g.went; tracks = g.tracks; settled = λ p less. g.settled p (omega (arith, less, le)); told = g.told; tagged = g.tagged }

  -- ---- from copy to copy

  module _ (way : Way) (first : List ℕ) where
    -- these turns go on, whatever stands by then
    abbrev Follows : ℕ → List CopyRow → (Pacing → List Turn) → Type 0
    Follows k es rest = (p : Pacing) (queue : List CopyRow) (went : List ℕ) (lots : List Lot) (b : Broker) → Ahead queue es → Tracks queue went lots b
        → Goes (all_turn_deeds now n s (rest p)) (rest p) k queue lots b

    -- the copy that the pump has come to
    record Reached (e : CopyRow) (es queue : List CopyRow) (went : List ℕ) (lots : List Lot) (b : Broker) (k : ℕ) : Type 0 where
      pub was : row_at copy_place e.place s.queue ≡ Some e
      pub there : row_at copy_place e.place queue ≡ Some e
      pub granted : IsRowGranted e
      pub above : IsAbove copy_place e.place es
      pub ahead : Ahead queue es
      pub from : k ≤ e.place
      pub tracks : Tracks queue went lots b

    by_room : (room : ℕ) (t : Turn) (phase : Phase) (p : Pacing) (rest : Pacing → List Turn) (k : ℕ) (queue : List CopyRow) (went : List ℕ) (lots : List Lot) (b : Broker) → Tracks queue went lots b
        → Goes (all_turn_deeds now n s (t ∷ rest (paced t phase p))) (t ∷ rest (paced t phase p)) k queue lots b
        → Goes (all_turn_deeds now n s (then_on (in_room room t) phase p rest)) (then_on (in_room room t) phase p rest) k queue lots b
    by_room zero t phase p rest k queue went lots b h g = goes_nowhere k queue went lots b h
    by_room (suc room) t phase p rest k queue went lots b h g = g

    takes : (v : Verdict) (e : CopyRow) (es queue : List CopyRow) (went : List ℕ) (lots : List Lot) (b : Broker) (k : ℕ) (p : Pacing) (rest : Pacing → List Turn)
        → Fits e.phase v → Reached e es queue went lots b k → Follows (suc e.place) es rest
        → Goes (all_turn_deeds now n s (then_on (step_on v e.place p) e.phase p rest)) (then_on (step_on v e.place p) e.phase p rest) k queue lots b
    takes pass e es queue went lots b k p rest fit at next =
        let le = at.from in
        goes_lower (all_turn_deeds now n s (rest p)) (rest p) k (suc e.place) queue lots b (omega (arith, le)) (next p queue went lots b at.ahead at.tracks)
    takes (end ending) e es queue went lots b k p rest fit at next =
        let t = turns.Leave e.place ending in
        go_leave e ending k (rest (paced t e.phase p)) queue lots b at.was at.from
        (next (paced t e.phase p) (remove_row copy_place e.place queue) (ids_without e.place went) (lots_after t lots) (after_all (At (whose s) (Leave e ending) ∷ []) b)
        (ahead_removed e.place queue es at.above at.ahead) (tracks_left e ending queue went lots b at.tracks))
    takes (outgrow i) e es queue went lots b k p rest fit at next =
        let t = turns.Outgrow e.place i p.order in
        let phase = Oversize i p.order in
        go_outgrow e i p.order k (rest (paced t e.phase p)) queue lots b at.from
        (next (paced t e.phase p) (change_row copy_place e.place (in_phase phase) queue) went (lots_after t lots) (after_all (At (whose s) (Mark e.place phase) ∷ Send n (packets_of.pubrel i success) ∷ []) b)
        (ahead_marked e.place phase queue es at.above at.ahead) (tracks_outgrown e.place i p.order (packets_of.pubrel i success) queue went lots b at.tracks))
    takes send e es queue went lots b k p rest fit at next =
        let i = free_identifier p.used in
        let t = turns.Send e.place i in
        let packet = publish_of now false i e.copy in
        by_room p.room t e.phase p rest k queue went lots b at.tracks
        (go_send e i k (rest (paced t e.phase p)) queue went lots b at.was at.there at.granted at.from at.tracks
        (next (paced t e.phase p) (change_row copy_place e.place (in_phase (Sent i)) queue) (went ++ e.place ∷ []) (lots_after t lots)
        (after_all (At (whose s) (Mark e.place (Sent i)) ∷ On n (Went e.place) ∷ Send n packet ∷ []) b)
        (ahead_marked e.place (Sent i) queue es at.above at.ahead) (tracks_sent e.place i packet queue went lots b (ap is_some at.there) at.tracks)))
    takes (resend i) e es queue went lots b k p rest fit at next =
        let t = turns.Resend e.place i in
        let packet = publish_of now true i e.copy in
        by_room p.room t e.phase p rest k queue went lots b at.tracks
        (go_resend e i k (rest (paced t e.phase p)) queue went lots b at.was at.there at.granted fit at.from at.tracks
        (next (paced t e.phase p) queue (went ++ e.place ∷ []) (lots_after t lots) (after_all (On n (Went e.place) ∷ Send n packet ∷ []) b)
        at.ahead (tracks_resent e.place i packet queue went lots b (ap is_some at.there) at.tracks)))

    takes_by : (left : ℕ) (v : Verdict) (e : CopyRow) (es queue : List CopyRow) (went : List ℕ) (lots : List Lot) (b : Broker) (k : ℕ) (p : Pacing) (rest : Pacing → List Turn)
        → Fits e.phase v → Reached e es queue went lots b k → Follows (suc e.place) es rest
        → Goes (all_turn_deeds now n s (then_on (step_by left v e.place p) e.phase p rest)) (then_on (step_by left v e.place p) e.phase p rest) k queue lots b
    takes_by zero v e es queue went lots b k p rest fit at next = goes_nowhere k queue went lots b at.tracks
    takes_by (suc left) v e es queue went lots b k p rest fit at next = takes v e es queue went lots b k p rest fit at next

    -- a pump's turns, from a place on, do in the session what they do in the hop
    pub pump_goes : (k : ℕ) (es : List CopyRow) → IsAscending copy_place es → Ahead s.queue es → AllByRecursion IsRowGranted es → AllByRecursion (λ (e : CopyRow). k ≤ e.place) es
        → Follows k es (pump_from way (map (entry_on first) es))
    pump_goes k [] up was granted from p queue went lots b ahead h = goes_nowhere k queue went lots b h
    pump_goes k (e ∷ es) up was granted from p queue went lots b ahead h =
        let x = entry_on first e in
        takes_by p.left (verdict way x) e es queue went lots b k p (pump_from way (map (entry_on first) es)) (fits way x.copy x.here e.phase)
        (record { was = was.0; there = ahead.0; granted = granted.0; above = up.0; ahead = ahead.1; from = from.0; tracks = h })
        (pump_goes (suc e.place) es up.1 was.1 granted.1 (all_above e.place es up.0))
