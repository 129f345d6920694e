-- A copy's PUBLISH in its form on a line: it has a spelling, and the form stays while the copy is marked (MQTT 5.0, 3.1.2.11.4, 3.3.2.3.4).
use Rattle.std.proofs.Common.{◌≡◌, ℕ, ◌<◌, ◌^◌, Bool, true, false, cond, List, [], ◌∷◌, ◌++◌, nat_eq, refl, ap, sym, subst, ◌∙◌, inl, inr, Option, Some, None}
use Rattle.std.specs.Prelude.{IfSome, find, is_some, nat_lt, unwrap_or}
use Rattle.std.proofs.lemmas.Bool.{cases_Bool, le-ltb, leb-true, ltb-true}
use Rattle.mqtt_packet.specs.declared.codec.packet.Packet.{Packet}
use Rattle.mqtt_packet.specs.declared.codec.packet.Packet.TheVariants as packets
use Rattle.mqtt_packet.specs.declared.codec.publish.Publish.{Publish}
use Rattle.mqtt_packet.specs.codec.Packets.{shortest_of}
use Rattle.mqtt_base.specs.declared.session.Phase.TheVariants.{Sent}
use Rattle.mqtt_records.specs.declared.messages.message.MessageCopy.{MessageCopy}
use Rattle.mqtt_records.specs.messages.Queue.{IsSpelled}
use Rattle.mqtt_records.specs.declared.state.session.Session.{Session}
use Rattle.mqtt_topic.specs.declared.sending.form.Form.{Form}
use Rattle.mqtt_topic.specs.declared.sending.form.Form.TheVariants.{Plain}
use Rattle.mqtt_topic.specs.declared.sending.sizes.OtherBytes.{OtherBytes}
use Rattle.mqtt_topic.specs.sending.Told.{ToldTopics, after_send, forms}
use Rattle.mqtt_topic.specs.sending.Sizes as sizes
use Rattle.mqtt_topic.proofs.sending_lemmas.FormLemmas.{is_first}
use Rattle.mqtt_rules.specs.step.Fitting.{form_of, offer_copy, told_behind}
use Rattle.mqtt_rules.specs.step.Forms.{form_for, form_remaining, form_size, in_form, other_bytes, published_of}
use Rattle.mqtt_rules.specs.step.State.{Line, Broker, line_at, session_at, told_on}
use Rattle.mqtt_rules.specs.step.Deeds.{At, Deed, Mark, On, Send, Went, after, after_all, always, on_line, whose, with_session}
use Rattle.mqtt_rules.specs.step.Packets.{publish_of}
use Rattle.mqtt_rules.proofs.step_lemmas.forms.FormSizes.{copy_by_sizes}
use Rattle.mqtt_broker_looks.specs.sent.Frames.{IsSpelledIn}
use Rattle.mqtt_broker_looks.proofs.sent_lemmas.Spelled.{spelled_plain}
use Rattle.mqtt_broker_step.specs.declared.outputs.Outgoing.{Outgoing}
use Rattle.mqtt_broker_step.specs.Stepping.{Stepping, Did, did}
use Rattle.mqtt_broker_step.specs.Tellings.{IsFoundBy, IsOutgoing, form_by, form_on, told_by}
use Rattle.mqtt_broker_step.proofs.Doing.{did_none}
use Rattle.mqtt_broker_queue.specs.queues.Fitting.{IsOutgoingIn, offers}
use Rattle.mqtt_broker_queue.proofs.queues_lemmas.Turned.{marks_sent}

-- ---- the form has a spelling

-- a form that is within is short enough for its length
within_short : (largest : ℕ) (form : Form) (copy : MessageCopy) → sizes.is_within largest copy.content.topic (other_bytes copy) form ≡ true
    → form_remaining form copy < 2 ^ 28
within_short largest form copy is = elim (cases_Bool (nat_lt (form_remaining form copy) (2 ^ 28))) [
  | inl short ↦ ltb-true (form_remaining form copy) (2 ^ 28) short
  | inr long ↦ absurd (none long is)
]
  where
    none : nat_lt (form_remaining form copy) (2 ^ 28) ≡ false → sizes.is_within largest copy.content.topic (other_bytes copy) form ≡ true → ⊥
    none long e =
        let no : sizes.is_within largest copy.content.topic (other_bytes copy) form ≡ false =
        ap (λ (t : Bool). sizes.is_at_most largest (cond t (Some (sizes.whole_size (form_remaining form copy))) None)) long in
        absurd cc

-- and no larger than the client takes
pub within_small : (largest : ℕ) (form : Form) (copy : MessageCopy) → sizes.is_within largest copy.content.topic (other_bytes copy) form ≡ true
    → nat_lt largest (form_size form copy) ≡ false
within_small largest form copy is = by (nat_lt (form_remaining form copy) (2 ^ 28)) is
  where
    by : (t : Bool) → sizes.is_at_most largest (cond t (Some (form_size form copy)) None) ≡ true → nat_lt largest (form_size form copy) ≡ false
    by true small = le-ltb largest (form_size form copy) (leb-true (form_size form copy) largest small)
    by false none = absurd cc

-- a form, if there is one, is within
abbrev pub IsWithinIf : ℕ → MessageCopy → Option Form → Type 0
IsWithinIf largest copy o = IfSome o (λ form. sizes.is_within largest copy.content.topic (other_bytes copy) form ≡ true)

-- so is the form of a copy
pub form_is_within : (largest : ℕ) (told : ToldTopics) (copy : MessageCopy) → IsWithinIf largest copy (form_of largest told copy)
form_is_within largest told copy =
    subst (IsWithinIf largest copy) (sym (copy_by_sizes largest told copy copy.content.arrived 1 false))
    (by (sizes.form_for largest told copy.content.topic (other_bytes copy)) (is_first largest copy.content.topic (other_bytes copy) (forms told copy.content.topic)))
  where
    by : (o : Option Form) → sizes.IsFirstWithin largest copy.content.topic (other_bytes copy) (forms told copy.content.topic) o → IsWithinIf largest copy o
    by None h = tt
    by (Some form) h = h.1

spelled_if : (largest : ℕ) (copy : MessageCopy) (o : Option Form) → IsSpelled copy → IsWithinIf largest copy o → IfSome o (λ form. IsSpelledIn form copy)
spelled_if largest copy None spelled within = tt
spelled_if largest copy (Some form) spelled within = record { properties = spelled.properties; short = within_short largest form copy within }

-- in its form a copy's PUBLISH has a spelling, if it has one with its whole topic
pub form_spelled : (largest : ℕ) (told : ToldTopics) (copy : MessageCopy) (o : Option Form) → o ≡ form_of largest told copy → IsSpelled copy → IfSome o (λ form. IsSpelledIn form copy)
form_spelled largest told copy o is spelled = spelled_if largest copy o spelled (subst (IsWithinIf largest copy) (sym is) (form_is_within largest told copy))

-- it is the same at each moment, with DUP or without, under each identifier
pub same_form : (largest : ℕ) (told : ToldTopics) (copy : MessageCopy) (now id : ℕ) (dup : Bool) → form_of largest told copy ≡ form_for largest told (published_of now dup id copy)
same_form largest told copy now id dup =
    copy_by_sizes largest told copy copy.content.arrived 1 false ∙ sym (copy_by_sizes largest told copy now id dup)

-- its form is found by its topic and other bytes
pub form_by_other : (largest : ℕ) (told : ToldTopics) (copy : MessageCopy) (other : OtherBytes) → other ≡ other_bytes copy
    → sizes.form_for largest told copy.content.topic other ≡ form_of largest told copy
form_by_other largest told copy other is =
    ap (sizes.form_for largest told copy.content.topic) is ∙ sym (copy_by_sizes largest told copy copy.content.arrived 1 false)

-- so it is by what was read of a row and a line
pub form_seen : (most largest : ℕ) (told : ToldTopics) (topic : List ℕ) (copy : MessageCopy) (other : OtherBytes) → most ≡ largest → topic ≡ copy.content.topic
    → other ≡ other_bytes copy → sizes.form_for most told topic other ≡ form_of largest told copy
form_seen most largest told topic copy other most_is topic_is is =
    ap (λ n. sizes.form_for n told topic other) most_is
    ∙ (ap (λ (t : List ℕ). sizes.form_for largest told t other) topic_is ∙ form_by_other largest told copy other is)

-- what is due tells its topic to those behind it, if its form does
pub told_due : (due : Bool) (found form : Option Form) (read topic : List ℕ) (told new : ToldTopics) → due ≡ true → found ≡ form → read ≡ topic
    → new ≡ after_send found read told → new ≡ told_behind due form topic told
told_due due found form read topic told new is form_is topic_is made =
    made ∙ (ap (λ (o : Option Form). after_send o read told) form_is
    ∙ (ap (λ (t : List ℕ). after_send form t told) topic_is
    ∙ ap (λ b. told_behind b form topic told) (sym is)))

spelled_by : (o : Option Line) (told : ToldTopics) (copy : MessageCopy) (now id : ℕ) (dup : Bool) → IsSpelled copy
    → IsSpelledIn (form_by o told (published_of now dup id copy)) copy
spelled_by None told copy now id dup spelled = spelled_plain copy spelled
spelled_by (Some l) told copy now id dup spelled =
    subst (λ (f : Option Form). IsSpelledIn (unwrap_or f Plain) copy) (same_form l.largest told copy now id dup)
    (by (form_of l.largest told copy) (form_spelled l.largest told copy (form_of l.largest told copy) refl spelled))
  where
    by : (f : Option Form) → IfSome f (λ form. IsSpelledIn form copy) → IsSpelledIn (unwrap_or f Plain) copy
    by None h = spelled_plain copy spelled
    by (Some form) h = h

-- a copy whose PUBLISH has a spelling has one in the form in which it goes out
pub spelled_on : (n now id : ℕ) (dup : Bool) (copy : MessageCopy) (b : Broker) → IsSpelled copy → IsSpelledIn (form_on n (published_of now dup id copy) b) copy
spelled_on n now id dup copy b spelled = spelled_by (find (λ l. nat_eq l.number n) b.lines) (told_on n b.tellings) copy now id dup spelled

-- a copy's PUBLISH is found by its other bytes
pub found_by : (other : OtherBytes) (copy : MessageCopy) → other ≡ other_bytes copy → (now id : ℕ) (dup : Bool) → IsFoundBy other (published_of now dup id copy)
found_by other copy is now id dup = λ largest told.
    copy_by_sizes largest told copy now id dup ∙ ap (sizes.form_for largest told copy.content.topic) (sym is)

-- a PUBLISH in the form that it has on a line goes out as it does there
pub out_in : (n : ℕ) (form : Form) (p : Publish) (b : Broker) (out : Outgoing) → form ≡ form_on n p b → IsOutgoingIn form p out → IsOutgoing n p b out
out_in n form p b out is there = record {
  told = there.told ∙ ap (λ (f : Form). told_by f p.topic) is;
  bytes = there.bytes ∙ ap (λ (f : Form). shortest_of (packets.Publish (in_form f p))) is;
}

-- the form of a row that was read has a spelling
pub spelled_row : (n : ℕ) (form : Form) (read copy : MessageCopy) (b : Broker) → ((now id : ℕ) (dup : Bool) → form ≡ form_on n (published_of now dup id read) b)
    → read ≡ copy → IsSpelled copy → IsSpelledIn form read
spelled_row n form read copy b is read_is spelled =
    subst (λ (f : Form). IsSpelledIn f read) (sym (is 0 0 false)) (spelled_on n 0 0 false read b (subst IsSpelled (sym read_is) spelled))

-- and in it the row goes out as it does on the line
pub out_row : (n moment now id : ℕ) (dup : Bool) (form : Form) (read copy : MessageCopy) (b : Broker) (out : Outgoing)
    → ((now id : ℕ) (dup : Bool) → form ≡ form_on n (published_of now dup id read) b) → read ≡ copy → moment ≡ now
    → IsOutgoingIn form (published_of moment dup id read) out → IsOutgoing n (published_of now dup id copy) b out
out_row n moment now id dup form read copy b out is read_is moment_is made =
    subst (λ (x : MessageCopy). IsOutgoing n (published_of now dup id x) b out) read_is
    (out_in n form (published_of now dup id read) b out (is now id dup)
    (subst (λ (t : ℕ). IsOutgoingIn form (published_of t dup id read) out) moment_is made))

-- ---- the form stays

went_by : (now m n place : ℕ) (told : ToldTopics) (p : Publish) (ls : List Line)
    → form_by (find (λ l. nat_eq l.number n) (on_line now m (Went place) ls)) told p ≡ form_by (find (λ l. nat_eq l.number n) ls) told p
went_by now m n place told p [] = refl
went_by now m n place told p (l ∷ ls) = elim (cases_Bool (nat_eq l.number m)) [
  | inl mine ↦ rw mine (here (nat_eq l.number n))
  | inr other ↦ rw other (later (nat_eq l.number n) (went_by now m n place told p ls))
]
  where
    rest : Option Line
    rest = find (λ x. nat_eq x.number n) ls

    here : (t : Bool) → form_by (cond t (Some (record l { went = l.went ++ place ∷ [] })) rest) told p ≡ form_by (cond t (Some l) rest) told p
    here true = refl
    here false = refl

    later : (t : Bool) → form_by (find (λ x. nat_eq x.number n) (on_line now m (Went place) ls)) told p ≡ form_by rest told p
        → form_by (cond t (Some l) (find (λ x. nat_eq x.number n) (on_line now m (Went place) ls))) told p ≡ form_by (cond t (Some l) rest) told p
    later true same = refl
    later false same = same

-- a copy that is told as gone out changes no form
pub form_went : (m n place : ℕ) (p : Publish) (b : Broker) → form_on n p (after (On m (Went place)) b) ≡ form_on n p b
form_went m n place p b = went_by b.now m n place (told_on n b.tellings) p b.lines

form_marked : (o : Option Session) (line place id n : ℕ) (p : Publish) (b : Broker)
    → form_on n p (after_all (with_session o (λ y. always (At (whose y) (Mark place (Sent id)) ∷ [])) b ++ On line (Went place) ∷ []) b) ≡ form_on n p b
form_marked None line place id n p b = form_went line n place p b
form_marked (Some x) line place id n p b = form_went line n place p (after (At (whose x) (Mark place (Sent id))) b)

outgoing_at : (n : ℕ) (p : Publish) (b c : Broker) (out : Outgoing) → form_on n p c ≡ form_on n p b → IsOutgoing n p b out → IsOutgoing n p c out
outgoing_at n p b c out same is = record {
  told = is.told ∙ ap (λ (f : Form). told_by f p.topic) (sym same);
  bytes = is.bytes ∙ ap (λ (f : Form). shortest_of (packets.Publish (in_form f p))) (sym same);
}

-- a PUBLISH goes out as it would have before its copy was marked
pub out_marked : (line birth place id n : ℕ) (p : Publish) (out : Outgoing) (s s1 : Stepping) → Did (marks_sent line birth place id) s s1
    → IsOutgoing n p s.broker out → IsOutgoing n p s1.broker out
out_marked line birth place id n p out s s1 marked is =
    outgoing_at n p s.broker s1.broker out
    (ap (λ (x : Stepping). form_on n p x.broker) marked.is ∙ form_marked (session_at birth s.broker.records) line place id n p s.broker) is

-- and so before it was told as gone out again
pub out_went : (line place n : ℕ) (p : Publish) (out : Outgoing) (s s1 : Stepping) → Did (always (On line (Went place) ∷ [])) s s1
    → IsOutgoing n p s.broker out → IsOutgoing n p s1.broker out
out_went line place n p out s s1 went is =
    outgoing_at n p s.broker s1.broker out (ap (λ (x : Stepping). form_on n p x.broker) went.is ∙ form_went line n place p s.broker) is

-- ---- a copy is offered

-- in this form a copy goes out on a line that has it
form_here : (n : ℕ) (form : Form) (l : Line) (copy : MessageCopy) (b : Broker) → line_at n b ≡ Some l
    → form_of l.largest (told_on n b.tellings) copy ≡ Some form → (now id : ℕ) (dup : Bool) → form ≡ form_on n (published_of now dup id copy) b
form_here n form l copy b there is now id dup =
    let told = told_on n b.tellings in
    let p = published_of now dup id copy in
    ap (λ (o : Option Form). unwrap_or o Plain) (sym is ∙ same_form l.largest told copy now id dup)
    ∙ ap (λ (o : Option Line). form_by o told p) (sym there)

-- as it was made it goes out on the line
pub out_offered : (n : ℕ) (form : Form) (l : Line) (copy : MessageCopy) (b : Broker) (out : Outgoing) → line_at n b ≡ Some l
    → form_of l.largest (told_on n b.tellings) copy ≡ Some form → IsOutgoingIn form (published_of b.now false 0 copy) out → IsOutgoing n (published_of b.now false 0 copy) b out
out_offered n form l copy b out there is made =
    out_in n form (published_of b.now false 0 copy) b out (form_here n form l copy b there is b.now 0 false) made

-- what is offered on a line, by the form that the copy has there
abbrev offered_by : Option Form → ℕ → Packet → List Deed
offered_by o n packet = cond (is_some o) (Send n packet ∷ []) []

-- that is what the rules offer
pub offers_are : (n : ℕ) (o : Option Form) (l : Line) (copy : MessageCopy) (b : Broker) → line_at n b ≡ Some l → l.number ≡ n
    → form_of l.largest (told_on n b.tellings) copy ≡ o → offered_by o n (publish_of b.now false 0 copy) ≡ offers n copy b
offers_are n o l copy b there number is =
    let packet = publish_of b.now false 0 copy in
    ap (λ (f : Option Form). offered_by f n packet) (sym is)
    ∙ (ap (λ m. offered_by (form_of l.largest (told_on m b.tellings) copy) m packet) (sym number)
    ∙ ap (λ (x : Option Line). offer_copy x copy b) (sym there))

-- on a line that doesn't stand nothing is offered
pub offers_none : (n : ℕ) (copy : MessageCopy) (b : Broker) → line_at n b ≡ None → [] ≡ offers n copy b
offers_none n copy b none = ap (λ (x : Option Line). offer_copy x copy b) (sym none)

-- so nothing is to be done
pub offered_nothing : (n : ℕ) (copy : MessageCopy) (s : Stepping) → [] ≡ offers n copy s.broker → Did (offers n copy) s s
offered_nothing n copy s none = record { is = sym (did_none s) ∙ ap (λ ds. did ds s) none }
