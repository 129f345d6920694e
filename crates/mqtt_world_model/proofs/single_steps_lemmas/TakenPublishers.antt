-- What a publisher sends, whatever it reads, the broker takes (MQTT 5.0, 2.2.1, 4.3, 4.4).
use Rattle.std.proofs.Common.{◌≡◌, ◌≤◌, ◌<◌, ◌+◌, ℕ, zero, suc, Bool, true, false, ◌&&◌, if◌then◌else◌, List, [], ◌∷◌, ◌++◌, map, length, Option, Some, None, nat_eq, nat_lt, refl, sym, ap, subst, ◌∙◌, arith, inl, inr, length-append}
use Rattle.std.specs.List.{AllByRecursion, list_any}
use Rattle.std.proofs.lemmas.Bool.{cases_Bool, eqb-true, ltb-true}
use Rattle.std.proofs.lemmas.List.{length-map}
use Rattle.mqtt_base.specs.Codes.{is_success}
use Rattle.mqtt_base.specs.declared.limits.TheConstants.{OPEN_LIMIT}
use Rattle.mqtt_base.specs.declared.session.Qos.{Qos as Quality}
use Rattle.mqtt_base.specs.declared.session.Qos.TheVariants.{AtMostOnce, AtLeastOnce, ExactlyOnce}
use Rattle.mqtt_flow.specs.inbound.Identifiers.{free_identifier, is_among, lowest_from}
use Rattle.mqtt_flow.specs.inbound.Line.{Link, away, asked, live}
use Rattle.mqtt_flow.specs.inbound.Publisher.{Fate, sent_1, ended_1, sent, released, ended, CONNECT, PUBLISH_1, PUBLISH_2, PUBREL, Qos, qos_1, qos_2, ToPublisher, CONNACK, CONNACK_REFUSED, PUBACK, PUBREC, PUBCOMP, DISCONNECT, completed, acknowledged, received, first_fate, first_packet, in_flight, is_sent, on_new_session, on_puback, on_pubcomp, on_pubrec, pubrel_for, pubrel_if, resent_from}
use Rattle.mqtt_rules.proofs.step_lemmas.numbers.Copies.{each_append}
use Rattle.mqtt_rules.proofs.step_lemmas.flight.FlightRows.{all_more}
use Rattle.mqtt_rules.proofs.step_lemmas.contents.PassedContents.{two}
use Rattle.mqtt_rules.specs.step.Contents.{IsTaken}
use Rattle.mqtt_world_model.specs.model.Ends.{Content, Draft, Publisher, Sent, connected, content_at, goes, goes_out, heard, new_publisher, numbered, plain, publish_with, published, publisher_reads, reads, reads_connack, reads_if, send_all, send_one, send_unsent, shake, wire}
use Rattle.mqtt_world_model.specs.model.Lines.{Down, Line, left}
use Rattle.mqtt_world_model.specs.model.World.{delivery_at, is_input, is_message, message_packet}
use Rattle.mqtt_base.specs.Values.{is_text}
use Rattle.mqtt_world_model.specs.single_steps.Sound.{Carries, IsCarried, IsGoodDraft, IsGoodFate, IsGoodSent, IsIdentifier, IsName, IsSoundPublisher, IsTested}
use Rattle.mqtt_world_model.specs.single_steps.Taken.{IsTakenFrom}
use Rattle.mqtt_world_model.proofs.single_steps_lemmas.TakenLines.{goes_carries, left_carries}
use Rattle.mqtt_world_model.proofs.single_steps_lemmas.TakenPackets.{carried_once, carried_twice, connect_taken, once_tested, publish_tested, pubrel_taken, twice_tested}

-- ---- identifiers

lowest_bounds : (more id : ℕ) (used : List ℕ) → (id ≤ lowest_from more id used) × (lowest_from more id used ≤ id + more)
lowest_bounds zero id used = (omega arith, omega arith)
lowest_bounds (suc more) id used = by (is_among id used) (lowest_bounds more (suc id) used)
  where
    by : (t : Bool) → (suc id ≤ lowest_from more (suc id) used) × (lowest_from more (suc id) used ≤ suc id + more)
        → (id ≤ (if t then lowest_from more (suc id) used else id)) × ((if t then lowest_from more (suc id) used else id) ≤ id + suc more)
    by true x = let low = x.0 in let high = x.1 in (omega (arith, low), omega (arith, high))
    by false x = (omega arith, omega arith)

free_one : (used : List ℕ) → nat_lt (length used) OPEN_LIMIT ≡ true → IsIdentifier (free_identifier used)
free_one used room =
    let x = lowest_bounds (length used) 1 used in
    let low = x.0 in
    let high = x.1 in
    let few = ltb-true (length used) OPEN_LIMIT room in
    (low, omega (arith, high, few))

-- ---- what it sends, when so many messages have gone out

later : (k m : ℕ) (s : Sent) → k ≤ m → IsGoodSent k s → IsGoodSent m s
later k m (shake (CONNECT clean)) le h = tt
later k m (shake (PUBLISH_1 id n dup)) le h = let less = h.1 in (h.0, omega (arith, less, le))
later k m (shake (PUBLISH_2 id n dup)) le h = let less = h.1 in (h.0, omega (arith, less, le))
later k m (shake (PUBREL id)) le h = h
later k m (plain c) le h = h

-- ---- the publisher

content_carried : (n : ℕ) (cs : List Content) → n < length cs → AllByRecursion IsCarried cs → IsCarried (content_at n cs)
content_carried n [] less h = absurd (omega (arith, less))
content_carried zero (c ∷ cs) less h = h.0
content_carried (suc n) (c ∷ cs) less h = content_carried n cs (omega (arith, less)) h.1

wire_taken : (p : Publisher) → IsSoundPublisher p → (s : Sent) → IsGoodSent (length p.fates) s → IsTaken (wire p.client p.contents s)
wire_taken p h (shake (CONNECT clean)) g = connect_taken p.client clean h.name
wire_taken p h (shake (PUBLISH_1 id n dup)) g =
    let less = g.1 in let same = h.same in carried_once dup id (content_at n p.contents) g.0 (content_carried n p.contents (omega (arith, less, same)) h.contents)
wire_taken p h (shake (PUBLISH_2 id n dup)) g =
    let less = g.1 in let same = h.same in carried_twice dup id (content_at n p.contents) g.0 (content_carried n p.contents (omega (arith, less, same)) h.contents)
wire_taken p h (shake (PUBREL id)) g = pubrel_taken id g
wire_taken p h (plain c) g = g

-- a sound publisher has sent what a broker takes
pub sound_taken : (p : Publisher) → IsSoundPublisher p → IsTakenFrom p
sound_taken p h = record {
  up = all_more (IsGoodSent (length p.fates)) (λ (s : Sent). IsTaken (wire p.client p.contents s)) p.line.up (wire_taken p h) h.line.up;
  old = all_more (IsGoodSent (length p.fates)) (λ (s : Sent). IsTaken (wire p.client p.contents s)) p.line.old (wire_taken p h) h.line.old;
}

-- a new publisher is sound
pub new_sound : (client : List ℕ) → IsName client → IsSoundPublisher (new_publisher client)
new_sound client name = record { name = name; fates = tt; contents = tt; same = refl; unsent = tt; line = record { up = tt; old = tt } }

-- its line alone changes
pub on_line_sound : (p : Publisher) (l : Line Sent) → IsSoundPublisher p → Carries (IsGoodSent (length p.fates)) l → IsSoundPublisher (record p { line = l })
on_line_sound p l h g = record { name = h.name; fates = h.fates; contents = h.contents; same = h.same; unsent = h.unsent; line = g }

-- ---- messages go out

first_good : (qos : Qos) (id : ℕ) → IsIdentifier id → IsGoodFate (first_fate qos id)
first_good qos_1 id one = one
first_good qos_2 id one = one

packet_good : (qos : Qos) (id n : ℕ) → IsIdentifier id → IsGoodSent (suc n) (shake (first_packet qos id n))
packet_good qos_1 id n one = (one, omega arith)
packet_good qos_2 id n one = (one, omega arith)

numbered_sound : (t : Bool) (qos : Qos) (c : Content) (rest : List Draft) (p : Publisher) → nat_lt (length (in_flight p.fates)) OPEN_LIMIT ≡ true → IsCarried c → AllByRecursion IsGoodDraft rest → IsSoundPublisher p → IsSoundPublisher (numbered t qos c rest p)
numbered_sound t qos c rest p room good drafts h =
    let id = free_identifier (in_flight p.fates) in
    let one = free_one (in_flight p.fates) room in
    let k = length p.fates in
    let packet = shake (first_packet qos id k) in
    let fates_more : length (p.fates ++ first_fate qos id ∷ []) ≡ suc k = let x = length-append p.fates (first_fate qos id ∷ []) in omega (arith, x) in
    let contents_more : length (p.contents ++ c ∷ []) ≡ suc (length p.contents) = let x = length-append p.contents (c ∷ []) in omega (arith, x) in
    let more : (s : Sent) → IsGoodSent k s → IsGoodSent (suc k) s = λ s g. later k (suc k) s (omega arith) g in
    let line : Carries (IsGoodSent (suc k)) p.line = record {
      up = all_more (IsGoodSent k) (IsGoodSent (suc k)) p.line.up more h.line.up;
      old = all_more (IsGoodSent k) (IsGoodSent (suc k)) p.line.old more h.line.old;
    } in
    let gone = goes_carries (IsGoodSent (suc k)) t (packet ∷ []) p.line (packet_good qos id k one, tt) line in
    record {
      name = h.name;
      fates = each_append IsGoodFate p.fates (first_fate qos id ∷ []) h.fates (first_good qos id one, tt);
      contents = each_append IsCarried p.contents (c ∷ []) h.contents (good, tt);
      same = contents_more ∙ (ap suc h.same ∙ sym fates_more);
      unsent = drafts;
      line = subst (λ (n : ℕ). Carries (IsGoodSent n) (goes t (packet ∷ []) p.line)) (sym fates_more) gone;
    }

out_sound : (t : Bool) (q : Quality) (c : Content) (rest : List Draft) (p : Publisher) → nat_lt (length (in_flight p.fates)) OPEN_LIMIT ≡ true → IsTested q c → AllByRecursion IsGoodDraft rest → IsSoundPublisher p → IsSoundPublisher (goes_out t q c rest p)
out_sound t AtMostOnce c rest p room good drafts h = record {
  name = h.name;
  fates = h.fates;
  contents = h.contents;
  same = h.same;
  unsent = drafts;
  line = goes_carries (IsGoodSent (length p.fates)) t (plain c ∷ []) p.line (good, tt) h.line;
}
out_sound t AtLeastOnce c rest p room good drafts h = numbered_sound t qos_1 c rest p room good drafts h
out_sound t ExactlyOnce c rest p room good drafts h = numbered_sound t qos_2 c rest p room good drafts h

one_sound : (t : Bool) (d : Draft) (rest : List Draft) (p : Publisher) → IsGoodDraft d → AllByRecursion IsGoodDraft rest → IsSoundPublisher p → IsSoundPublisher (send_one t d rest p)
one_sound t d rest p good drafts h = by (nat_lt (length (in_flight p.fates)) OPEN_LIMIT) refl
  where
    by : (room : Bool) → nat_lt (length (in_flight p.fates)) OPEN_LIMIT ≡ room → IsSoundPublisher (if room then goes_out t d.qos d.content rest p else p)
    by true is = out_sound t d.qos d.content rest p is good drafts h
    by false is = h

all_sound : (t : Bool) (ds : List Draft) (p : Publisher) → AllByRecursion IsGoodDraft ds → IsSoundPublisher p → IsSoundPublisher (send_all t ds p)
all_sound t [] p good h = h
all_sound t (d ∷ rest) p good h = all_sound t rest (send_one t d rest p) good.1 (one_sound t d rest p good.0 good.1 h)

unsent_sound : (t : Bool) (link : Link) (p : Publisher) → IsSoundPublisher p → IsSoundPublisher (send_unsent t link p)
unsent_sound t away p h = h
unsent_sound t asked p h = h
unsent_sound t live p h = all_sound t p.unsent p h.unsent h

-- a draft that passes the test is good
pub draft_good : (d : Draft) → is_message d ≡ true → IsGoodDraft d
draft_good d h = by d.qos (two (is_text d.content.topic) (is_input (message_packet d)) h)
  where
    by : (q : Quality) → (is_text d.content.topic ≡ true) × (is_input (publish_with (delivery_at q) d.content) ≡ true) → IsTested q d.content
    by AtMostOnce is = publish_tested AtMostOnce d.content is.1 is.0
    by AtLeastOnce is = once_tested d.content is.1 is.0
    by ExactlyOnce is = twice_tested d.content is.1 is.0

-- publishing a good draft leaves a publisher sound
pub published_sound : (t : Bool) (d : Draft) (p : Publisher) → IsGoodDraft d → IsSoundPublisher p → IsSoundPublisher (published t d p)
published_sound t d p good h = unsent_sound t p.line.link (record p { unsent = p.unsent ++ d ∷ [] }) (record {
  name = h.name;
  fates = h.fates;
  contents = h.contents;
  same = h.same;
  unsent = each_append IsGoodDraft p.unsent (d ∷ []) h.unsent (good, tt);
  line = record { up = h.line.up; old = h.line.old };
})

-- ---- it reads

resent_good : (n k : ℕ) (fates : List Fate) → n + length fates ≤ k → AllByRecursion IsGoodFate fates → AllByRecursion (IsGoodSent k) (map shake (resent_from n fates))
resent_good n k [] le h = tt
resent_good n k (sent_1 id ∷ fates) le h = ((h.0, omega (arith, le)), resent_good (suc n) k fates (omega (arith, le)) h.1)
resent_good n k (ended_1 by ∷ fates) le h = resent_good (suc n) k fates (omega (arith, le)) h.1
resent_good n k (sent id ∷ fates) le h = ((h.0, omega (arith, le)), resent_good (suc n) k fates (omega (arith, le)) h.1)
resent_good n k (released id ∷ fates) le h = (h.0, resent_good (suc n) k fates (omega (arith, le)) h.1)
resent_good n k (ended by ∷ fates) le h = resent_good (suc n) k fates (omega (arith, le)) h.1

map_good : (f : Fate → Fate) → ((x : Fate) → IsGoodFate x → IsGoodFate (f x)) → (fates : List Fate) → AllByRecursion IsGoodFate fates → AllByRecursion IsGoodFate (map f fates)
map_good f g [] h = tt
map_good f g (x ∷ fates) h = (g x h.0, map_good f g fates h.1)

forgets_good : (x : Fate) → IsGoodFate x → IsGoodFate (on_new_session x)
forgets_good (sent_1 id) h = tt
forgets_good (ended_1 by) h = tt
forgets_good (sent id) h = tt
forgets_good (released id) h = tt
forgets_good (ended by) h = tt

acknowledged_good : (t : Bool) → IsGoodFate (acknowledged t)
acknowledged_good true = tt
acknowledged_good false = tt

received_good : (t : Bool) (id : ℕ) → IsIdentifier id → IsGoodFate (received t id)
received_good true id h = h
received_good false id h = tt

puback_good : (id code : ℕ) (x : Fate) → IsGoodFate x → IsGoodFate (on_puback id code x)
puback_good id code (sent_1 other) h = by (nat_eq id other)
  where
    by : (t : Bool) → IsGoodFate (if t then acknowledged (is_success code) else sent_1 other)
    by true = acknowledged_good (is_success code)
    by false = h
puback_good id code (ended_1 by) h = h
puback_good id code (sent other) h = h
puback_good id code (released other) h = h
puback_good id code (ended by) h = h

pubrec_good : (id code : ℕ) (x : Fate) → IsGoodFate x → IsGoodFate (on_pubrec id code x)
pubrec_good id code (sent_1 other) h = h
pubrec_good id code (ended_1 by) h = h
pubrec_good id code (sent other) h = by (nat_eq id other)
  where
    by : (t : Bool) → IsGoodFate (if t then received (is_success code) other else sent other)
    by true = received_good (is_success code) other h
    by false = h
pubrec_good id code (released other) h = h
pubrec_good id code (ended by) h = h

pubcomp_good : (id : ℕ) (x : Fate) → IsGoodFate x → IsGoodFate (on_pubcomp id x)
pubcomp_good id (sent_1 other) h = h
pubcomp_good id (ended_1 by) h = h
pubcomp_good id (sent other) h = h
pubcomp_good id (released other) h = by (nat_eq id other)
  where
    by : (t : Bool) → IsGoodFate (if t then ended completed else released other)
    by true = tt
    by false = h
pubcomp_good id (ended by) h = h

-- a PUBREL is of a message that was sent
sent_one : (id : ℕ) (fates : List Fate) → AllByRecursion IsGoodFate fates → list_any (is_sent id) fates ≡ true → IsIdentifier id
sent_one id [] h e = absurd cc
sent_one id (sent_1 other ∷ fates) h e = sent_one id fates h.1 e
sent_one id (ended_1 by ∷ fates) h e = sent_one id fates h.1 e
sent_one id (sent other ∷ fates) h e = elim (cases_Bool (nat_eq id other)) [
  | inl here ↦ subst IsIdentifier (sym (eqb-true id other here)) h.0
  | inr further ↦ sent_one id fates h.1 (rw further at e)
]
sent_one id (released other ∷ fates) h e = sent_one id fates h.1 e
sent_one id (ended by ∷ fates) h e = sent_one id fates h.1 e

pubrel_good : (id code k : ℕ) (fates : List Fate) → AllByRecursion IsGoodFate fates → AllByRecursion (IsGoodSent k) (map shake (pubrel_for id code fates))
pubrel_good id code k fates h = by (list_any (is_sent id) fates && is_success code) refl
  where
    by : (t : Bool) → (list_any (is_sent id) fates && is_success code) ≡ t → AllByRecursion (IsGoodSent k) (map shake (pubrel_if t id))
    by true is = (sent_one id fates h (two _ _ is).0, tt)
    by false is = tt

-- its handshakes change, each by itself
fates_sound : (f : Fate → Fate) → ((x : Fate) → IsGoodFate x → IsGoodFate (f x)) → (p : Publisher) (l : Line Sent) → IsSoundPublisher p → Carries (IsGoodSent (length p.fates)) l → IsSoundPublisher (record p { fates = map f p.fates; line = l })
fates_sound f g p l h c =
    let same = length-map p.fates f in
    record {
      name = h.name;
      fates = map_good f g p.fates h.fates;
      contents = h.contents;
      same = h.same ∙ sym same;
      unsent = h.unsent;
      line = subst (λ (n : ℕ). Carries (IsGoodSent n) l) (sym same) c;
    }

connack_sound : (t : Bool) (link : Link) (present : Bool) (p : Publisher) → IsSoundPublisher p → IsSoundPublisher (reads_connack t link present p)
connack_sound t away present p h = h
connack_sound t asked true p h =
    let k = length p.fates in
    let l = connected p.line in
    let c : Carries (IsGoodSent k) l = record { up = h.line.up; old = h.line.old } in
    unsent_sound t live (record p { line = goes t (map shake (resent_from 0 p.fates)) l })
    (on_line_sound p (goes t (map shake (resent_from 0 p.fates)) l) h (goes_carries (IsGoodSent k) t (map shake (resent_from 0 p.fates)) l (resent_good 0 k p.fates (omega arith) h.fates) c))
connack_sound t asked false p h =
    unsent_sound t live (record p { fates = map on_new_session p.fates; line = connected p.line })
    (fates_sound on_new_session forgets_good p (connected p.line) h (record { up = h.line.up; old = h.line.old }))
connack_sound t live present p h = h

reads_sound : (t : Bool) (packet : ToPublisher) (p : Publisher) → IsSoundPublisher p → IsSoundPublisher (reads t packet p)
reads_sound t (CONNACK present) p h = connack_sound t p.line.link present p h
reads_sound t (CONNACK_REFUSED code) p h = on_line_sound p (left (record p.line { clean = false })) h (record { up = tt; old = h.line.old })
reads_sound t (PUBACK id code) p h = unsent_sound t p.line.link (record p { fates = map (on_puback id code) p.fates }) (fates_sound (on_puback id code) (puback_good id code) p p.line h h.line)
reads_sound t (PUBREC id code) p h =
    let k = length p.fates in
    let l = goes t (map shake (pubrel_for id code p.fates)) p.line in
    unsent_sound t p.line.link (record p { fates = map (on_pubrec id code) p.fates; line = l })
    (fates_sound (on_pubrec id code) (pubrec_good id code) p l h (goes_carries (IsGoodSent k) t (map shake (pubrel_for id code p.fates)) p.line (pubrel_good id code k p.fates h.fates) h.line))
reads_sound t (PUBCOMP id code) p h = unsent_sound t p.line.link (record p { fates = map (on_pubcomp id) p.fates }) (fates_sound (on_pubcomp id) (pubcomp_good id) p p.line h h.line)
reads_sound t (DISCONNECT code) p h = on_line_sound p (left p.line) h (left_carries (IsGoodSent (length p.fates)) p.line h.line)

if_sound : (t : Bool) (x : Option ToPublisher) (p : Publisher) → IsSoundPublisher p → IsSoundPublisher (reads_if t x p)
if_sound t None p h = h
if_sound t (Some packet) p h = reads_sound t packet p h

-- so does its reading
pub publisher_reads_sound : (t : Bool) (ds : List Down) (p : Publisher) → IsSoundPublisher p → IsSoundPublisher (publisher_reads t ds p)
publisher_reads_sound t [] p h = h
publisher_reads_sound t (d ∷ rest) p h = if_sound t (heard d.packet) (record p { line = record p.line { down = rest } }) (on_line_sound p (record p.line { down = rest }) h (record { up = h.line.up; old = h.line.old }))
