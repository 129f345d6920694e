-- The broker reads a PUBLISH of QoS 1 or 0 on a line of the publisher's session, which opens no identifier: what its deeds give.
use Rattle.std.proofs.Common.{◌≡◌, ℕ, Bool, true, false, List, [], ◌∷◌, ◌++◌, Option, Some, None, nat_eq, refl, sym, ap, subst, ◌∙◌, append-nil}
use Rattle.std.specs.Prelude.{option_map}
use Rattle.std.proofs.lemmas.Cmp.{nat_eq_equiv}
use Rattle.mqtt_packet.specs.declared.codec.publish.Delivery.{Delivery as Handing}
use Rattle.mqtt_packet.specs.declared.codec.publish.Delivery.TheVariants as delivery
use Rattle.mqtt_packet.specs.declared.codec.publish.Publish.{Publish as Publication}
use Rattle.mqtt_topic.specs.names.Names.{is_empty}
use Rattle.mqtt_flow.specs.declared.inbound.inflow.Published.{Published}
use Rattle.mqtt_flow.specs.declared.inbound.inflow.Published.TheVariants.{New, Again, Over}
use Rattle.mqtt_base.specs.Codes.{success, no_matching_subscribers, quota_exceeded, receive_maximum_exceeded}
use Rattle.mqtt_flow.specs.inbound.Publisher.{ToPublisher, PUBACK, PUBREC, DISCONNECT}
use Rattle.mqtt_flow.specs.inbound.InboundWorld.{Choice, Verdict, accept, refuse, repeat, shut, verdict_on, answer_1}
use Rattle.mqtt_records.specs.declared.state.session.Session.{Session}
use Rattle.mqtt_rules.specs.step.State.{Line as BrokerLine, Broker, Env, session_at}
use Rattle.mqtt_rules.specs.step.Deeds.{Message, FromClient, Deed, Accept, after, after_all}
use Rattle.mqtt_rules.specs.step.Routing.{CopyTo, accepted_copies, next_publication, is_wanted}
use Rattle.mqtt_rules.specs.step.Closing.{never}
use Rattle.mqtt_rules.specs.step.Inbound.{Meaning, Means, Wrong, meaning, sets_alias, standing, answer, opens, code_again, code_accepted, publish_new, publish_by, message_of, publish_meant, on_publish}
use Rattle.mqtt_world_model.specs.model.Ends.{Content}
use Rattle.mqtt_world_model.proofs.model_lemmas.others.Rows.{Face, face, face_at}
use Rattle.mqtt_world_model.proofs.model_lemmas.others.Quiet.{session_on, calm, copies_of, quiet_copies}
use Rattle.mqtt_world_model.proofs.model_lemmas.own.Publishes.{Gives, quiet_then, choice_of, on_by, shuts, numbers_by, closed_face, drop_gives}

-- ---- by its answer, of which QoS 0 has none

abbrev pub told_of : Handing → ℕ → List ToPublisher
told_of delivery.AtMostOnce code = []
told_of (delivery.AtLeastOnce dup id) code = PUBACK id code ∷ []
told_of (delivery.ExactlyOnce dup id) code = PUBREC id code ∷ []

abbrev pub told_by : Handing → Verdict → List ToPublisher
told_by d (accept code) = told_of d code
told_by d refuse = told_of d quota_exceeded
told_by d repeat = told_of d (code_again d)
told_by d shut = DISCONNECT receive_maximum_exceeded ∷ []

abbrev pub light_face : Verdict → ℕ → Face → Face
light_face (accept code) now f = f
light_face refuse now f = f
light_face repeat now f = f
light_face shut now f = closed_face now f

abbrev pub GivesLight : Handing → Verdict → BrokerLine → Session → List Deed → Broker → Type 0
GivesLight d v l s ds b =
    Gives s.birth l.number ds b (light_face v b.now (face s)) (on_by v s.birth) (told_by d v) (shuts v) (numbers_by v (next_publication b.records))

answers : (d : Handing) (code : ℕ) (l : BrokerLine) (s : Session) (b : Broker) → face_at s.birth b.records ≡ Some (face s) → session_on l.number b.lines ≡ Some (Some s.birth)
    → Gives s.birth l.number (answer l.number d code) b (face s) (Some (Some s.birth)) (told_of d code) false []
answers delivery.AtMostOnce code l s b is on =
    record { face_is = is; line_is = on; told_is = refl; closes_is = refl; numbers_is = refl; begun_is = refl; others = λ m other. refl }
answers (delivery.AtLeastOnce dup id) code l s b is on =
    let it : nat_eq l.number l.number ≡ true = nat_eq_equiv.refl l.number in
    record { face_is = is; line_is = on; told_is = rw it refl; closes_is = refl; numbers_is = refl; begun_is = refl; others = λ m other. refl }
answers (delivery.ExactlyOnce dup id) code l s b is on =
    let it : nat_eq l.number l.number ≡ true = nat_eq_equiv.refl l.number in
    record { face_is = is; line_is = on; told_is = rw it refl; closes_is = refl; numbers_is = refl; begun_is = refl; others = λ m other. refl }

-- accepted: the publication, whatever its copies, then the answer
accepted : (d : Handing) (code : ℕ) (env : Env) (l : BrokerLine) (s : Session) (m : Message) (ds : List CopyTo) (b : Broker)
    → session_at s.birth b.records ≡ Some s → session_on l.number b.lines ≡ Some (Some s.birth)
    → Gives s.birth l.number (Accept (next_publication b.records) FromClient m ∷ (copies_of env FromClient m ds b ++ answer l.number d code)) b
    (face s) (Some (Some s.birth)) (told_of d code) false (next_publication b.records ∷ [])
accepted d code env l s m ds b at on =
    let c = after (Accept (next_publication b.records) FromClient m) b in
    let copies = copies_of env FromClient m ds b in
    let q = λ (k : ℕ). quiet_copies s.birth k env FromClient m ds b in
    let still = calm s.birth l.number copies c (q l.number) in
    let g = quiet_then s.birth l.number copies (answer l.number d code) c (face s) (Some (Some s.birth)) (told_of d code) false [] q
    (answers d code l s (after_all copies c) (still.face_is ∙ ap (option_map face) at) (still.line_is ∙ on)) in
    record {
      face_is = g.face_is;
      line_is = g.line_is;
      told_is = g.told_is;
      closes_is = g.closes_is;
      numbers_is = ap (λ (ks : List ℕ). next_publication b.records ∷ ks) g.numbers_is;
      begun_is = g.begun_is;
      others = g.others;
    }

new_deeds : (d : Handing) (env : Env) (l : BrokerLine) (s : Session) (p : Publication) (m : Message) (ds : List CopyTo) (wanted : Bool) (b : Broker)
    → p.delivery ≡ d → opens s d ≡ [] → is_wanted env m b.records ≡ wanted
    → publish_new env l s p m (Some ds) b ≡ Accept (next_publication b.records) FromClient m ∷ (copies_of env FromClient m ds b ++ answer l.number d (code_accepted wanted))
new_deeds d env l s p m ds wanted b is light w =
    let first = Accept (next_publication b.records) FromClient m in
    let copies = copies_of env FromClient m ds b in
    ap (λ (x : Handing). (first ∷ copies) ++ (opens s x ++ (answer l.number x (code_accepted (is_wanted env m b.records)) ++ []))) is
    ∙ (ap (λ (xs : List Deed). (first ∷ copies) ++ (xs ++ (answer l.number d (code_accepted (is_wanted env m b.records)) ++ []))) light
    ∙ (ap (λ (xs : List Deed). (first ∷ copies) ++ xs) (append-nil (answer l.number d (code_accepted (is_wanted env m b.records))))
    ∙ ap (λ (t : Bool). first ∷ (copies ++ answer l.number d (code_accepted t))) w))

new_gives : (d : Handing) (env : Env) (l : BrokerLine) (s : Session) (p : Publication) (m : Message) (o : Option (List CopyTo)) (wanted : Bool) (b : Broker)
    → p.delivery ≡ d → opens s d ≡ [] → is_wanted env m b.records ≡ wanted → session_at s.birth b.records ≡ Some s → session_on l.number b.lines ≡ Some (Some s.birth)
    → GivesLight d (verdict_on New (choice_of o wanted)) l s (publish_new env l s p m o b) b
new_gives d env l s p m None wanted b is light w at on =
    subst (λ (x : Handing). GivesLight d refuse l s (answer l.number x quota_exceeded) b) (sym is) (answers d quota_exceeded l s b (ap (option_map face) at) on)
new_gives d env l s p m (Some ds) true b is light w at on =
    subst (λ (xs : List Deed). GivesLight d (accept success) l s xs b) (sym (new_deeds d env l s p m ds true b is light w)) (accepted d success env l s m ds b at on)
new_gives d env l s p m (Some ds) false b is light w at on =
    subst (λ (xs : List Deed). GivesLight d (accept no_matching_subscribers) l s xs b) (sym (new_deeds d env l s p m ds false b is light w)) (accepted d no_matching_subscribers env l s m ds b at on)

by_standing : (st : Published) (d : Handing) (env : Env) (l : BrokerLine) (s : Session) (p : Publication) (m : Message) (b : Broker)
    → p.delivery ≡ d → opens s d ≡ [] → session_at s.birth b.records ≡ Some s → l.session ≡ Some s.birth → session_on l.number b.lines ≡ Some (Some s.birth) → s.will ≡ None → s.expiry ≡ never
    → GivesLight d (verdict_on st (choice_of (accepted_copies env m b) (is_wanted env m b.records))) l s (publish_by st env l s p m b) b
by_standing New d env l s p m b is light at on there no_will no_end = new_gives d env l s p m (accepted_copies env m b) (is_wanted env m b.records) b is light refl at there
by_standing Again d env l s p m b is light at on there no_will no_end =
    subst (λ (x : Handing). GivesLight d repeat l s (answer l.number x (code_again x)) b) (sym is) (answers d (code_again d) l s b (ap (option_map face) at) there)
by_standing Over d env l s p m b is light at on there no_will no_end = drop_gives env receive_maximum_exceeded l s b at on no_will no_end

-- ---- whatever its topic: one that has no meaning drops the line

abbrev pub handed : Handing → Content → Publication
handed d c = record { delivery = d; retain = c.retain; topic = c.topic; properties = []; payload = c.payload }

-- what a PUBLISH comes to: a verdict by the rules' choice, or the line is dropped with a code
pub data Effect : Type 0 where
  chooses : (choice : Choice) → Effect
  drops : (code : ℕ) → Effect

abbrev pub Does : Effect → Handing → BrokerLine → Session → List Deed → Broker → Type 0
Does (chooses choice) d l s ds b = GivesLight d (verdict_on (standing d s.inbound) choice) l s ds b
Does (drops code) d l s ds b = Gives s.birth l.number ds b (closed_face b.now (face s)) None (DISCONNECT code ∷ []) true []

-- a PUBLISH without an alias sets none
pub no_alias : (t : Bool) (line : ℕ) (topic : List ℕ) → sets_alias t None line topic ≡ []
no_alias true line topic = refl
no_alias false line topic = refl

meant_does : (x : Meaning) (env : Env) (l : BrokerLine) (s : Session) (d : Handing) (c : Content) (b : Broker)
    → opens s d ≡ [] → session_at s.birth b.records ≡ Some s → l.session ≡ Some s.birth → session_on l.number b.lines ≡ Some (Some s.birth) → s.will ≡ None → s.expiry ≡ never
    → (e : Effect) × Does e d l s (publish_meant x env l s (handed d c) b) b
meant_does (Wrong code) env l s d c b light at on there no_will no_end = (drops code, drop_gives env code l s b at on no_will no_end)
meant_does (Means name) env l s d c b light at on there no_will no_end =
    let p = handed d c in
    let m = message_of s.client name p in
    let g = by_standing (standing d s.inbound) d env l s p m b refl light at on there no_will no_end in
    let same : publish_meant (Means name) env l s p b ≡ publish_by (standing d s.inbound) env l s p m b =
    ap (λ (first : List Deed). first ++ (publish_by (standing d s.inbound) env l s p m (after_all first b) ++ [])) (no_alias (is_empty c.topic) l.number name)
    ∙ append-nil (publish_by (standing d s.inbound) env l s p m b) in (
      chooses (choice_of (accepted_copies env m b) (is_wanted env m b.records)),
      subst (λ (ds : List Deed). Does (chooses (choice_of (accepted_copies env m b) (is_wanted env m b.records))) d l s ds b) (sym same) g,
    )

-- a PUBLISH of QoS 0 or 1 leaves the publisher's session as it was, but for its answer
pub light_does : (env : Env) (l : BrokerLine) (s : Session) (d : Handing) (c : Content) (b : Broker)
    → opens s d ≡ [] → session_at s.birth b.records ≡ Some s → l.session ≡ Some s.birth → session_on l.number b.lines ≡ Some (Some s.birth) → s.will ≡ None → s.expiry ≡ never
    → (e : Effect) × Does e d l s (on_publish env l s (handed d c) b) b
light_does env l s d c b light at on there no_will no_end = meant_does (meaning (handed d c) l.aliases) env l s d c b light at on there no_will no_end

-- ---- what QoS 1 is told, and what is left of the session

-- the answer of QoS 1 is the hop's
pub told_1 : (v : Verdict) (dup : Bool) (id : ℕ) → told_by (delivery.AtLeastOnce dup id) v ≡ answer_1 v id ∷ []
told_1 (accept code) dup id = refl
told_1 refuse dup id = refl
told_1 repeat dup id = refl
told_1 shut dup id = refl

-- the session keeps its client identifier
pub light_client : (v : Verdict) (now : ℕ) (f : Face) → (light_face v now f).client ≡ f.client
light_client (accept code) now f = refl
light_client refuse now f = refl
light_client repeat now f = refl
light_client shut now f = refl

-- and its open identifiers
pub light_ids : (v : Verdict) (now : ℕ) (f : Face) → (light_face v now f).inbound ≡ f.inbound
light_ids (accept code) now f = refl
light_ids refuse now f = refl
light_ids repeat now f = refl
light_ids shut now f = refl
