-- An end waits with Clean Start 1 for a CONNACK only if it has connected with it.
use Rattle.std.proofs.Common.{◌≡◌, ℕ, zero, suc, Bool, true, false, cond, ◌||◌, List, [], ◌∷◌, ◌++◌, map, Option, Some, None, bytes_eq, refl, sym, ap, ◌∙◌}
use Rattle.std.specs.Prelude.{find, nat_lt, is_some, if◌then◌else◌, length}
use Rattle.std.specs.List.{AllByRecursion}
use Rattle.mqtt_base.specs.declared.session.CopyId.{CopyId}
use Rattle.mqtt_base.specs.declared.limits.TheConstants.{OPEN_LIMIT}
use Rattle.mqtt_base.specs.declared.session.Qos.{Qos as Quality}
use Rattle.mqtt_base.specs.declared.session.Qos.TheVariants.{AtMostOnce, AtLeastOnce, ExactlyOnce}
use Rattle.mqtt_packet.specs.declared.codec.publish.Delivery.{Delivery}
use Rattle.mqtt_packet.specs.declared.codec.publish.Delivery.TheVariants as delivery
use Rattle.mqtt_packet.specs.declared.codec.publish.Publish.{Publish as Publication}
use Rattle.mqtt_packet.specs.declared.codec.packet.Packet.{Packet}
use Rattle.mqtt_packet.specs.declared.codec.packet.Packet.TheVariants as packets
use Rattle.mqtt_flow.specs.outbound.Receiver.{connect}
use Rattle.mqtt_flow.specs.inbound.Line.{Link, away, asked, live}
use Rattle.mqtt_flow.specs.inbound.Publisher.{ToPublisher, CONNECT, CONNACK, CONNACK_REFUSED, PUBACK, PUBREC, PUBCOMP, DISCONNECT, in_flight, on_new_session, on_puback, on_pubcomp}
use Rattle.mqtt_flow.specs.inbound.Publisher.{on_pubrec, pubrel_for, resent_from}
use Rattle.mqtt_rules.specs.step.Step.{Call, NewLine}
use Rattle.mqtt_world_model.specs.model.Ends.{Back, Content, Draft, Publisher, Receiver, Sent, answers, connected, goes, goes_out, greeted, heard, hears, published, publisher_reads, reads, reads_connack}
use Rattle.mqtt_world_model.specs.model.Ends.{reads_if, reads_publish, receiver_connack, receiver_reads, send_all, send_one, send_unsent, shake}
use Rattle.mqtt_world_model.specs.model.Lines.{Down, Line, gives_up, joined, left}
use Rattle.mqtt_world_model.specs.model.World.{Asking, Event, Setting, World, answers_rest, ask, asks, asks_wish, before, break, call_of, call_of_stranger}
use Rattle.mqtt_world_model.specs.model.World.{calls_if, clock, comes, connect_end, first_step, give_up, happens, held_count, is_bad, is_open_line, linked_at}
use Rattle.mqtt_world_model.specs.model.World.{links, next_held, next_line, old_to_broker, publish, publisher, publisher_named, pump, receiver, receiver_named}
use Rattle.mqtt_world_model.specs.model.World.{restart, restarts, step, stop_after, stop_before, stranger, stranger_named, subscribe, taken_old, taken_up, tick, to_broker, to_end, with_line}
use Rattle.mqtt_world_model.specs.model.Run.{is_clean, waits_clean}
use Rattle.mqtt_world_model.proofs.single_steps_lemmas.Alike.{same_name}
use Rattle.mqtt_world.specs.script_laws.Cleanly.{is_named, named_after}

-- ---- what leaves an end's Clean Start, or ends it

record Keeps (p q : Publisher) : Type 0 where
  client : q.client ≡ p.client
  clean : q.line.clean ≡ true → p.line.clean ≡ true

keeps_same : (p : Publisher) → Keeps p p
keeps_same p = record { client = refl; clean = λ e. e }

keeps_then : (p q s : Publisher) → Keeps p q → Keeps q s → Keeps p s
keeps_then p q s h k = record { client = k.client ∙ h.client; clean = λ e. h.clean (k.clean e) }

keeps_if : (f : Publisher → Publisher) (p : Publisher) (t : Bool) → Keeps p (f p) → Keeps p (cond t (f p) p)
keeps_if f p true h = h
keeps_if f p false h = keeps_same p

out_keeps : (t : Bool) (q : Quality) (c : Content) (rest : List Draft) (p : Publisher) → Keeps p (goes_out t q c rest p)
out_keeps t AtMostOnce c rest p = record { client = refl; clean = λ e. e }
out_keeps t AtLeastOnce c rest p = record { client = refl; clean = λ e. e }
out_keeps t ExactlyOnce c rest p = record { client = refl; clean = λ e. e }

one_keeps : (t : Bool) (d : Draft) (rest : List Draft) (p : Publisher) → Keeps p (send_one t d rest p)
one_keeps t d rest p = by (nat_lt (length (in_flight p.fates)) OPEN_LIMIT)
  where
    by : (room : Bool) → Keeps p (if room then goes_out t d.qos d.content rest p else p)
    by true = out_keeps t d.qos d.content rest p
    by false = keeps_same p

all_keep : (t : Bool) (ds : List Draft) (p : Publisher) → Keeps p (send_all t ds p)
all_keep t [] p = keeps_same p
all_keep t (d ∷ rest) p = keeps_then p (send_one t d rest p) (send_all t rest (send_one t d rest p)) (one_keeps t d rest p) (all_keep t rest (send_one t d rest p))

unsent_keeps : (t : Bool) (link : Link) (p : Publisher) → Keeps p (send_unsent t link p)
unsent_keeps t away p = keeps_same p
unsent_keeps t asked p = keeps_same p
unsent_keeps t live p = all_keep t p.unsent p

published_keeps : (t : Bool) (d : Draft) (p : Publisher) → Keeps p (published t d p)
published_keeps t d p =
    let q : Publisher = record p { unsent = p.unsent ++ d ∷ [] } in
    keeps_then p q (published t d p) (record { client = refl; clean = λ e. e }) (unsent_keeps t p.line.link q)

sent_behind : (t : Bool) (link : Link) (p q : Publisher) → Keeps p q → Keeps p (send_unsent t link q)
sent_behind t link p q h = keeps_then p q (send_unsent t link q) h (unsent_keeps t link q)

never : {A : Type 0} → false ≡ true → A
never e = absurd cc

connack_keeps : (t : Bool) (link : Link) (present : Bool) (p : Publisher) → Keeps p (reads_connack t link present p)
connack_keeps t away present p = keeps_same p
connack_keeps t asked true p =
    sent_behind t live p (record p { line = goes t (map shake (resent_from 0 p.fates)) (connected p.line) }) (record { client = refl; clean = never })
connack_keeps t asked false p =
    sent_behind t live p (record p { fates = map on_new_session p.fates; line = connected p.line }) (record { client = refl; clean = never })
connack_keeps t live present p = keeps_same p

reads_keep : (t : Bool) (packet : ToPublisher) (p : Publisher) → Keeps p (reads t packet p)
reads_keep t (CONNACK present) p = connack_keeps t p.line.link present p
reads_keep t (CONNACK_REFUSED code) p = record { client = refl; clean = never }
reads_keep t (PUBACK id code) p = sent_behind t p.line.link p (record p { fates = map (on_puback id code) p.fates }) (record { client = refl; clean = λ e. e })
reads_keep t (PUBREC id code) p =
    sent_behind t p.line.link p
    (record p { fates = map (on_pubrec id code) p.fates; line = goes t (map shake (pubrel_for id code p.fates)) p.line })
    (record { client = refl; clean = λ e. e })
reads_keep t (PUBCOMP id code) p = sent_behind t p.line.link p (record p { fates = map (on_pubcomp id) p.fates }) (record { client = refl; clean = λ e. e })
reads_keep t (DISCONNECT code) p = record { client = refl; clean = λ e. e }

publisher_keeps : (t : Bool) (down : List Down) (p : Publisher) → Keeps p (publisher_reads t down p)
publisher_keeps t [] p = keeps_same p
publisher_keeps t (d ∷ rest) p = keeps_then p q (reads_if t (heard d.packet) q) (record { client = refl; clean = λ e. e }) (by (heard d.packet))
  where
    q : Publisher
    q = record p { line = record p.line { down = rest } }

    by : (o : Option ToPublisher) → Keeps q (reads_if t o q)
    by None = keeps_same q
    by (Some packet) = reads_keep t packet q

-- ---- of a receiver

record KeepsBack (p q : Receiver) : Type 0 where
  client : q.client ≡ p.client
  clean : q.line.clean ≡ true → p.line.clean ≡ true

back_same : (p : Receiver) → KeepsBack p p
back_same p = record { client = refl; clean = λ e. e }

back_if : (f : Receiver → Receiver) (p : Receiver) (t : Bool) → KeepsBack p (f p) → KeepsBack p (cond t (f p) p)
back_if f p true h = h
back_if f p false h = back_same p

connack_back : (link : Link) (present : Bool) (code : ℕ) (r : Receiver) → KeepsBack r (receiver_connack link present code r)
connack_back away present code r = back_same r
connack_back live present code r = back_same r
connack_back asked present code r = by (nat_lt 0 code)
  where
    by : (t : Bool) → KeepsBack r (cond t
        (record r { line = left (record r.line { clean = false }) })
        (record r { line = greeted r.line; asking = false; kept = if present then r.kept else [] }))
    by true = record { client = refl; clean = never }
    by false = record { client = refl; clean = never }

publish_back : (t : Bool) (copy : Option CopyId) (p : Publication) (d : Delivery) (r : Receiver) → KeepsBack r (reads_publish t copy p d r)
publish_back t copy p delivery.AtMostOnce r = back_same r
publish_back t copy p (delivery.AtLeastOnce dup i) r = record { client = refl; clean = λ e. e }
publish_back t copy p (delivery.ExactlyOnce dup i) r = record { client = refl; clean = λ e. e }

hears_back : (t : Bool) (copy : Option CopyId) (packet : Packet) (r : Receiver) → KeepsBack r (hears t copy packet r)
hears_back t copy (packets.Connack a) r = connack_back r.line.link a.session_present a.reason.0 r
hears_back t copy (packets.Publish p) r = publish_back t copy p p.delivery r
hears_back t copy (packets.Pubrel a) r = record { client = refl; clean = λ e. e }
hears_back t copy (packets.Suback a) r = record { client = refl; clean = λ e. e }
hears_back t copy (packets.Disconnect n) r = record { client = refl; clean = λ e. e }
hears_back t copy packet r = back_same r

receiver_back : (t : Bool) (down : List Down) (r : Receiver) → KeepsBack r (receiver_reads t down r)
receiver_back t [] r = back_same r
receiver_back t (d ∷ rest) r =
    let q : Receiver = record r { line = record r.line { down = rest } } in
    let h = hears_back t d.copy d.packet q in
    record { client = h.client; clean = h.clean }

-- ---- who has connected with Clean Start 1

abbrev IsKnown : List (List ℕ) → Publisher → Type 0
IsKnown names p = p.line.clean ≡ true → is_named p.client names ≡ true

abbrev IsKnownBack : List (List ℕ) → Receiver → Type 0
IsKnownBack names r = r.line.clean ≡ true → is_named r.client names ≡ true

-- each end that waits for the CONNACK to a Clean Start has connected so by a line of the script
pub record Known (names : List (List ℕ)) (w : World) : Type 0 where
  pub publishers : AllByRecursion (λ (p : Publisher). p.line.clean ≡ true → is_named p.client names ≡ true) w.publishers
  pub receivers : AllByRecursion (λ (r : Receiver). r.line.clean ≡ true → is_named r.client names ≡ true) w.receivers

all_mapped : {X : Type 0} (P Q : X → Type 0) (f : X → X) (xs : List X) → ((x : X) → P x → Q (f x)) → AllByRecursion P xs → AllByRecursion Q (map f xs)
all_mapped P Q f [] h k = tt
all_mapped P Q f (x ∷ xs) h k = (h x k.0, all_mapped P Q f xs h k.1)

all_one_more : {X : Type 0} (P : X → Type 0) (x : X) (xs : List X) → P x → AllByRecursion P xs → AllByRecursion P (xs ++ x ∷ [])
all_one_more P x [] h k = (h, tt)
all_one_more P x (y ∷ xs) h k = (k.0, all_one_more P x xs h k.1)

all_same : {X : Type 0} (P Q : X → Type 0) (xs : List X) → ((x : X) → P x → Q x) → AllByRecursion P xs → AllByRecursion Q xs
all_same P Q [] h k = tt
all_same P Q (x ∷ xs) h k = (h x k.0, all_same P Q xs h k.1)

his_kept : (names : List (List ℕ)) (f : Publisher → Publisher) (ps : List Publisher) → ((p : Publisher) → Keeps p (f p)) → AllByRecursion (IsKnown names) ps → AllByRecursion (IsKnown names) (map f ps)
his_kept names f ps keeps h =
    all_mapped (IsKnown names) (IsKnown names) f ps (λ p k e. ap (λ (c : List ℕ). is_named c names) (keeps p).client ∙ k ((keeps p).clean e)) h

back_kept : (names : List (List ℕ)) (f : Receiver → Receiver) (rs : List Receiver) → ((r : Receiver) → KeepsBack r (f r)) → AllByRecursion (IsKnownBack names) rs → AllByRecursion (IsKnownBack names) (map f rs)
back_kept names f rs keeps h =
    all_mapped (IsKnownBack names) (IsKnownBack names) f rs (λ r k e. ap (λ (c : List ℕ). is_named c names) (keeps r).client ∙ k ((keeps r).clean e)) h

module _ (names : List (List ℕ)) where
  calls_known : (set : Setting) (call : Option Call) (w : World) → Known names w → Known names (calls_if set call w)
  calls_known set None w h = h
  calls_known set (Some call) w h = record {
    publishers = his_kept names _ w.publishers (λ p. record { client = refl; clean = λ e. e }) h.publishers;
    receivers = back_kept names _ w.receivers (λ r. record { client = refl; clean = λ e. e }) h.receivers;
  }

  restarts_known : (set : Setting) (w : World) → Known names w → Known names (restarts set w)
  restarts_known set w h = record {
    publishers = his_kept names _ w.publishers (λ p. record { client = refl; clean = λ e. e }) h.publishers;
    receivers = back_kept names _ w.receivers (λ r. record { client = refl; clean = λ e. e }) h.receivers;
  }

  comes_known : (set : Setting) (name bytes : List ℕ) (w : World) → Known names w → Known names (comes set name bytes w)
  comes_known set name bytes w h = by (is_some (stranger_named name w))
    where
      by : (t : Bool) → Known names (linked_at set t name bytes w)
      by true = record { publishers = h.publishers; receivers = h.receivers }
      by false = let k = calls_known set (Some NewLine) w h in record { publishers = k.publishers; receivers = k.receivers }

  line_known : (client : List ℕ) (f : Line Sent → Line Sent) (g : Line Back → Line Back) (w : World) → ((l : Line Sent) → (f l).clean ≡ l.clean)
      → ((l : Line Back) → (g l).clean ≡ l.clean) → Known names w → Known names (with_line client f g w)
  line_known client f g w same same_back h = record {
    publishers =
        his_kept names _ w.publishers
        (λ p. keeps_if (λ x. record x { line = f x.line }) p (bytes_eq p.client client) (record { client = refl; clean = λ e. sym (same p.line) ∙ e })) h.publishers;
    receivers =
        back_kept names _ w.receivers
        (λ r. back_if (λ x. record x { line = g x.line }) r (bytes_eq r.client client) (record { client = refl; clean = λ e. sym (same_back r.line) ∙ e })) h.receivers;
  }

  before_known : (set : Setting) (a : Asking) (w : World) → Known names w → Known names (before set a w)
  before_known set (to_broker client) w h = line_known client taken_up taken_up w (λ l. refl) (λ l. refl) h
  before_known set (old_to_broker client) w h = line_known client taken_old taken_old w (λ l. refl) (λ l. refl) h
  before_known set (break client) w h = h
  before_known set (pump client) w h = h
  before_known set tick w h = h
  before_known set (stranger name bytes) w h = comes_known set name bytes w h

  first_known : (set : Setting) (a : Asking) (w : World) → Known names w → Known names (first_step set a w)
  first_known set a w h = calls_known set (call_of set a w) (before set a w) (before_known set a w h)

  rest_known : (set : Setting) (more : ℕ) (name : List ℕ) (w : World) → Known names w → Known names (answers_rest set more name w)
  rest_known set zero name w h = h
  rest_known set (suc more) name w h =
      rest_known set more name (calls_if set (call_of_stranger (stranger_named name w)) (next_held name w))
      (calls_known set (call_of_stranger (stranger_named name w)) (next_held name w) (record { publishers = h.publishers; receivers = h.receivers }))

  asks_known : (set : Setting) (a : Asking) (w : World) → Known names w → Known names (asks set a w)
  asks_known set (to_broker client) w h = first_known set (to_broker client) w h
  asks_known set (old_to_broker client) w h = first_known set (old_to_broker client) w h
  asks_known set (break client) w h = line_known client left left (first_step set (break client) w) (λ l. refl) (λ l. refl) (first_known set (break client) w h)
  asks_known set (pump client) w h = first_known set (pump client) w h
  asks_known set tick w h = first_known set tick w h
  asks_known set (stranger name bytes) w h =
      let c = comes set name bytes w in
      rest_known set (held_count (stranger_named name c)) name c (comes_known set name bytes w h)

  -- an end leaves its line
  his_gives : (link : Link) (p : Publisher) → Keeps p (record p { line = gives_up link p.line })
  his_gives away p = record { client = refl; clean = λ e. e }
  his_gives asked p = record { client = refl; clean = λ e. e }
  his_gives live p = record { client = refl; clean = λ e. e }

  back_gives : (link : Link) (r : Receiver) → KeepsBack r (record r { line = gives_up link r.line })
  back_gives away r = record { client = refl; clean = λ e. e }
  back_gives asked r = record { client = refl; clean = λ e. e }
  back_gives live r = record { client = refl; clean = λ e. e }

-- ---- an end connects

more_named : (t : Bool) (c client : List ℕ) (names : List (List ℕ)) → is_named c names ≡ true → is_named c (cond t (client ∷ names) names) ≡ true
more_named true c client names h = or_true (bytes_eq c client) (is_named c names) h
  where
    or_true : (a b : Bool) → b ≡ true → (a || b) ≡ true
    or_true true b e = refl
    or_true false b e = e
more_named false c client names h = h

-- it is named now if the CONNECT has Clean Start 1
own_named : (t : Bool) (c client : List ℕ) (names : List (List ℕ)) → bytes_eq c client ≡ true → t ≡ true → is_named c (cond t (client ∷ names) names) ≡ true
own_named true c client names is e = ap (λ (a : Bool). a || is_named c names) is
own_named false c client names is e = never e

his_joins : (t : Bool) (client : List ℕ) (names : List (List ℕ)) (f : Publisher → Publisher) (p : Publisher) → (f p).client ≡ p.client → (f p).line.clean ≡ t
    → IsKnown names p → IsKnown (cond t (client ∷ names) names) (cond (bytes_eq p.client client) (f p) p)
his_joins t client names f p same clean h = by (bytes_eq p.client client) refl
  where
    by : (b : Bool) → bytes_eq p.client client ≡ b → IsKnown (cond t (client ∷ names) names) (cond b (f p) p)
    by true is = λ e. ap (λ (c : List ℕ). is_named c (cond t (client ∷ names) names)) same ∙ own_named t p.client client names is (sym clean ∙ e)
    by false is = λ e. more_named t p.client client names (h e)

back_joins : (t : Bool) (client : List ℕ) (names : List (List ℕ)) (f : Receiver → Receiver) (r : Receiver) → (f r).client ≡ r.client → (f r).line.clean ≡ t
    → IsKnownBack names r → IsKnownBack (cond t (client ∷ names) names) (cond (bytes_eq r.client client) (f r) r)
back_joins t client names f r same clean h = by (bytes_eq r.client client) refl
  where
    by : (b : Bool) → bytes_eq r.client client ≡ b → IsKnownBack (cond t (client ∷ names) names) (cond b (f r) r)
    by true is = λ e. ap (λ (c : List ℕ). is_named c (cond t (client ∷ names) names)) same ∙ own_named t r.client client names is (sym clean ∙ e)
    by false is = λ e. more_named t r.client client names (h e)

more_known : (t : Bool) (client : List ℕ) (names : List (List ℕ)) (w : World) → Known names w → Known (cond t (client ∷ names) names) w
more_known t client names w h = record {
  publishers = all_same (IsKnown names) (IsKnown (cond t (client ∷ names) names)) w.publishers (λ p k e. more_named t p.client client names (k e)) h.publishers;
  receivers = all_same (IsKnownBack names) (IsKnownBack (cond t (client ∷ names) names)) w.receivers (λ r k e. more_named t r.client client names (k e)) h.receivers;
}

links_known : (set : Setting) (line : Option ℕ) (client : List ℕ) (t : Bool) (names : List (List ℕ)) (w : World) → Known names w → Known (cond t (client ∷ names) names) (links set line client t w)
links_known set None client t names w h = more_known t client names w h
links_known set (Some n) client t names w h =
    let v = calls_if set (Some NewLine) w in
    let k = calls_known names set (Some NewLine) w h in
    record {
      publishers = all_mapped (IsKnown names) (IsKnown (cond t (client ∷ names) names)) _ v.publishers (λ p g. his_joins t client names (λ x. record x { line = joined (shake (CONNECT t)) n t x.line }) p refl refl g) k.publishers;
      receivers = all_mapped (IsKnownBack names) (IsKnownBack (cond t (client ∷ names) names)) _ v.receivers (λ r g. back_joins t client names (λ x. record x { line = joined (answers (connect t)) n t x.line }) r refl refl g) k.receivers;
    }

-- ---- what happens

happens_known : (set : Setting) (e : Event) (names : List (List ℕ)) (w : World) → Known names w → Known (named_after e names) (happens set e w)
happens_known set (publisher client) names w h = record { publishers = all_one_more (IsKnown names) _ w.publishers never h.publishers; receivers = h.receivers }
happens_known set (receiver client window aliases) names w h = record { publishers = h.publishers; receivers = all_one_more (IsKnownBack names) _ w.receivers never h.receivers }
happens_known set (connect_end client clean) names w h = links_known set (next_line set.limits w.broker) client clean names w h
happens_known set (give_up client) names w h = record {
  publishers = his_kept names _ w.publishers (λ p. keeps_if (λ x. record x { line = gives_up x.line.link x.line }) p (bytes_eq p.client client) (his_gives names p.line.link p)) h.publishers;
  receivers = back_kept names _ w.receivers (λ r. back_if (λ x. record x { line = gives_up x.line.link x.line }) r (bytes_eq r.client client) (back_gives names r.line.link r)) h.receivers;
}
happens_known set (publish client d) names w h = record {
  publishers = his_kept names _ w.publishers (λ p. keeps_if (λ x. published (is_open_line x.line w) d x) p (bytes_eq p.client client) (published_keeps (is_open_line p.line w) d p)) h.publishers;
  receivers = h.receivers;
}
happens_known set (subscribe client x) names w h = record {
  publishers = h.publishers;
  receivers = back_kept names _ w.receivers (λ r. back_if (λ y. asks_wish (is_open_line y.line w) x y) r (bytes_eq r.client client) (record { client = refl; clean = λ e. e })) h.receivers;
}
happens_known set (to_end client) names w h = record {
  publishers = his_kept names _ w.publishers (λ p. keeps_if (λ x. publisher_reads (is_open_line x.line w) x.line.down x) p (bytes_eq p.client client) (publisher_keeps (is_open_line p.line w) p.line.down p)) h.publishers;
  receivers = back_kept names _ w.receivers (λ r. back_if (λ x. receiver_reads (is_open_line x.line w) x.line.down x) r (bytes_eq r.client client) (receiver_back (is_open_line r.line w) r.line.down r)) h.receivers;
}
happens_known set (clock wait) names w h = record { publishers = h.publishers; receivers = h.receivers }
happens_known set (ask a) names w h = asks_known names set a w h
happens_known set restart names w h = restarts_known names set w h
happens_known set (stop_before a) names w h = restarts_known names set (before set a w) (before_known names set a w h)
happens_known set (stop_after a) names w h = restarts_known names set (first_step set a w) (first_known names set a w h)

event_more : (e : Event) (names : List (List ℕ)) (w : World) → Known names w → Known (named_after e names) w
event_more (connect_end client clean) names w h = more_known clean client names w h
event_more e names w h = h

-- an event keeps who is known among those that were named
pub step_known : (set : Setting) (e : Event) (names : List (List ℕ)) (w : World) → Known names w → Known (named_after e names) (step set e w)
step_known set e names w h = by (is_bad e w)
  where
    by : (t : Bool) → Known (named_after e names) (cond t w (happens set e w))
    by true = event_more e names w h
    by false = happens_known set e names w h

-- ---- who waits has a name among them

his_waits : (names : List (List ℕ)) (client : List ℕ) (p : Publisher) (ps : List Publisher) → AllByRecursion (IsKnown names) ps
    → find (λ (x : Publisher). bytes_eq x.client client) ps ≡ Some p → p.line.clean ≡ true → is_named client names ≡ true
his_waits names client p [] h is clean = absurd cc
his_waits names client p (x ∷ ps) h is clean = by (λ e. his_waits names client p ps h.1 e clean) (bytes_eq x.client client) refl is
  where
    by : (find (λ (y : Publisher). bytes_eq y.client client) ps ≡ Some p → is_named client names ≡ true) → (b : Bool) → bytes_eq x.client client ≡ b → cond b (Some x) (find (λ (y : Publisher). bytes_eq y.client client) ps) ≡ Some p → is_named client names ≡ true
    by rest true same e =
        let x_is : x ≡ p = cc in
        ap (λ (c : List ℕ). is_named c names) (sym (same_name x.client client same)) ∙ h.0 (ap (λ (y : Publisher). y.line.clean) x_is ∙ clean)
    by rest false other e = rest e

back_waits : (names : List (List ℕ)) (client : List ℕ) (r : Receiver) (rs : List Receiver) → AllByRecursion (IsKnownBack names) rs
    → find (λ (x : Receiver). bytes_eq x.client client) rs ≡ Some r → r.line.clean ≡ true → is_named client names ≡ true
back_waits names client r [] h is clean = absurd cc
back_waits names client r (x ∷ rs) h is clean = by (λ e. back_waits names client r rs h.1 e clean) (bytes_eq x.client client) refl is
  where
    by : (find (λ (y : Receiver). bytes_eq y.client client) rs ≡ Some r → is_named client names ≡ true) → (b : Bool) → bytes_eq x.client client ≡ b → cond b (Some x) (find (λ (y : Receiver). bytes_eq y.client client) rs) ≡ Some r → is_named client names ≡ true
    by rest true same e =
        let x_is : x ≡ r = cc in
        ap (λ (c : List ℕ). is_named c names) (sym (same_name x.client client same)) ∙ h.0 (ap (λ (y : Receiver). y.line.clean) x_is ∙ clean)
    by rest false other e = rest e

-- who waits for a clean start was named
pub waits_named : (names : List (List ℕ)) (client : List ℕ) (w : World) → Known names w → waits_clean client w ≡ true → is_named client names ≡ true
waits_named names client w h waits = by (publisher_named client w) (receiver_named client w) refl refl waits
  where
    by : (o : Option Publisher) (q : Option Receiver) → publisher_named client w ≡ o → receiver_named client w ≡ q → is_clean o q ≡ true → is_named client names ≡ true
    by (Some p) q is other e = his_waits names client p w.publishers h.publishers is e
    by None (Some r) is other e = back_waits names client r w.receivers h.receivers other e
    by None None is other e = never e
