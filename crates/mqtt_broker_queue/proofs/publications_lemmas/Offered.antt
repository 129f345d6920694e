-- A copy goes out at once.
use Rattle.std.proofs.Common.{◌≡◌, ℕ, ◌≤◌, ◌^◌, Bool, true, false, ◌&&◌, cond, List, [], ◌∷◌, length, refl, ap, subst, sym, ◌∙◌}
use Rattle.std.specs.Prelude.{Option, Some, None, is_some, nat_le, nat_lt}
use Rattle.std.proofs.lemmas.Bool.{le-leb, lt-ltb}
use Rattle.mqtt_records.specs.lists.Order.{row_at}
use Rattle.mqtt_packet.specs.declared.codec.packet.Packet.{Packet}
use Rattle.mqtt_packet.specs.declared.codec.packet.Packet.TheVariants as packets
use Rattle.mqtt_packet.specs.declared.codec.publish.Publish.{Publish}
use Rattle.mqtt_packet.specs.codec.Packets.{shortest_of}
use Rattle.mqtt_packet.specs.codec.Publish.{publish_body}
use Rattle.mqtt_records.specs.declared.messages.message.MessageCopy.{MessageCopy}
use Rattle.mqtt_records.specs.messages.Queue.{IsSpelled}
use Rattle.mqtt_topic.specs.declared.sending.form.Form.{Form}
use Rattle.mqtt_topic.specs.declared.sending.form.Form.TheVariants.{Plain}
use Rattle.mqtt_topic.specs.sending.Told.{ToldTopics, none_told}
use Rattle.mqtt_rules.specs.step.Fitting.{form_of, has_form, offer_copy}
use Rattle.mqtt_rules.specs.step.Forms.{in_form, is_within, published_of}
use Rattle.mqtt_rules.specs.step.State.{Broker, Line, Telling, line_at, line_of, told_line, told_on, topics_in}
use Rattle.mqtt_rules.specs.step.Deeds.{Send, always, offer}
use Rattle.mqtt_rules.specs.step.Packets.{publish_of, size_of}
use Rattle.mqtt_rules.proofs.step_lemmas.forms.FormSizes.{copy_body, copy_in_form, plain_remaining}
use Rattle.mqtt_broker_step.specs.declared.fault.StepFault.{StepFault}
use Rattle.mqtt_broker_step.specs.Stepping.{Stepping, Did, IsLeft}
use Rattle.mqtt_broker_step.specs.Tellings.{IsOutgoing, form_on, takes_aliases, told_by}
use Rattle.mqtt_broker_step.specs.Undoing.{moment_of}
use Rattle.mqtt_broker_queue.specs.queues.Fitting.{offers as offers_on}
use Rattle.mqtt_broker_queue.specs.publications.Delivering.{offers}
use Rattle.mqtt_broker_step.proofs.Then.{same_act, same_left}

-- ---- a packet, on a line

-- a packet that is no larger than the client takes is offered by going out
sends_is : (l : Line) (packet : Packet) (s : Stepping) → size_of packet ≤ l.largest → always (Send l.number packet ∷ []) s.broker ≡ always (offer (Some l) packet) s.broker
sends_is l packet s fits = ap (λ t. cond t (Send l.number packet ∷ []) []) (sym (le-leb (size_of packet) l.largest fits))

-- a packet that fits is offered once it went out
pub sent_does : (l : Line) (packet : Packet) (s new : Stepping) → size_of packet ≤ l.largest → Did (always (Send l.number packet ∷ [])) s new → Did (always (offer (Some l) packet)) s new
sent_does l packet s new fits is = same_act (always (Send l.number packet ∷ [])) (always (offer (Some l) packet)) s new (sends_is l packet s fits) is

-- to offer a packet that fits is refused if its going out is
pub sent_left : (l : Line) (packet : Packet) (fault : StepFault) (s new : Stepping) → size_of packet ≤ l.largest → IsLeft (always (Send l.number packet ∷ [])) fault s new
    → IsLeft (always (offer (Some l) packet)) fault s new
sent_left l packet fault s new fits is = same_left (always (Send l.number packet ∷ [])) (always (offer (Some l) packet)) fault s new (sends_is l packet s fits) is

-- bytes of a PUBLISH that is plain on a line are how it goes out there, and tell nothing
pub plain_out : (n : ℕ) (p : Publish) (bytes : List ℕ) (b : Broker) → form_on n p b ≡ Plain → bytes ≡ shortest_of (packets.Publish p)
    → IsOutgoing n p b (record { told = None; bytes = bytes })
plain_out n p bytes b plain exact = record {
  told = ap (λ (f : Form). told_by f p.topic) (sym plain);
  bytes = exact ∙ ap (λ (f : Form). shortest_of (packets.Publish (in_form f p))) (sym plain);
}

-- what goes out on a line goes out on the line with that number
pub on_its_line : (n : ℕ) (l : Line) (packet : Packet) (s new : Stepping) → l.number ≡ n → Did (always (Send n packet ∷ [])) s new
    → Did (always (Send l.number packet ∷ [])) s new
on_its_line n l packet s new same is = subst (λ (m : ℕ). Did (always (Send m packet ∷ [])) s new) (sym same) is

-- ---- a copy, to a client that takes no aliases

untold : (n : ℕ) (b : Broker) → takes_aliases n b ≡ false → told_on n b.tellings ≡ none_told 0
untold n b none = by (row_at told_line n b.tellings) none
  where
    by : (o : Option Telling) → is_some o ≡ false → topics_in o ≡ none_told 0
    by None is = refl
    by (Some t) is = absurd cc

-- it has a form that is within if it is within with its whole topic
whole_is : (l : Line) (copy : MessageCopy) (b : Broker) → IsSpelled copy → takes_aliases l.number b ≡ false
    → nat_le (size_of (publish_of b.now false 0 copy)) l.largest ≡ has_form copy b l
whole_is l copy b spelled none =
    let arrived = copy.content.arrived in
    let p = published_of arrived false 1 copy in
    let size = size_of (packets.Publish (in_form Plain p)) in
    let length_is = copy_body Plain copy arrived 1 false ∙ plain_remaining copy in
    let short : nat_lt (length (publish_body (in_form Plain p))) (2 ^ 28) ≡ true =
    ap (λ n. nat_lt n (2 ^ 28)) length_is ∙ lt-ltb _ (2 ^ 28) spelled.short in
    ap (λ n. nat_le n l.largest) (copy_in_form Plain copy b.now 0 false ∙ sym (copy_in_form Plain copy arrived 1 false))
    ∙ (ap (λ t. t && nat_le size l.largest) (sym short)
    ∙ (plain (is_within l.largest p Plain)
    ∙ ap (λ (told : ToldTopics). is_some (form_of l.largest told copy)) (sym (untold l.number b none))))
  where
    plain : (t : Bool) → t ≡ is_some (cond t (Some Plain) None)
    plain true = refl
    plain false = refl

offer_is : (birth : ℕ) (copy : MessageCopy) (l : Line) (s : Stepping) → line_of birth s.broker ≡ Some l → IsSpelled copy → takes_aliases l.number s.broker ≡ false
    → always (offer (Some l) (publish_of (moment_of s.broker) false 0 copy)) s.broker ≡ offers birth copy s.broker
offer_is birth copy l s found spelled none =
    ap (λ t. cond t (Send l.number (publish_of (moment_of s.broker) false 0 copy) ∷ []) []) (whole_is l copy s.broker spelled none)
    ∙ ap (λ o. offer_copy o copy s.broker) (sym found)

-- a copy goes out at once if its PUBLISH is offered on its session's line
pub whole_offered : (birth : ℕ) (copy : MessageCopy) (l : Line) (s new : Stepping) → line_of birth s.broker ≡ Some l → IsSpelled copy → takes_aliases l.number s.broker ≡ false
    → Did (always (offer (Some l) (publish_of (moment_of s.broker) false 0 copy))) s new → Did (offers birth copy) s new
whole_offered birth copy l s new found spelled none is =
    same_act (always (offer (Some l) (publish_of (moment_of s.broker) false 0 copy))) (offers birth copy) s new (offer_is birth copy l s found spelled none) is

-- that a copy goes out at once is refused if its PUBLISH is
pub whole_left : (birth : ℕ) (copy : MessageCopy) (l : Line) (fault : StepFault) (s new : Stepping) → line_of birth s.broker ≡ Some l → IsSpelled copy → takes_aliases l.number s.broker ≡ false
    → IsLeft (always (offer (Some l) (publish_of (moment_of s.broker) false 0 copy))) fault s new → IsLeft (offers birth copy) fault s new
whole_left birth copy l fault s new found spelled none is =
    same_left (always (offer (Some l) (publish_of (moment_of s.broker) false 0 copy))) (offers birth copy) fault s new (offer_is birth copy l s found spelled none) is

-- ---- a copy, to a session

-- a copy is offered on the line of its session by the line's number
offers_is : (birth n : ℕ) (copy : MessageCopy) (l : Line) (b : Broker) → line_of birth b ≡ Some l → line_at n b ≡ Some l → offers_on n copy b ≡ offers birth copy b
offers_is birth n copy l b found there = ap (λ o. offer_copy o copy b) (there ∙ sym found)

-- a copy goes out at once if it does so on its session's line
pub offered : (birth n : ℕ) (copy : MessageCopy) (l : Line) (s new : Stepping) → line_of birth s.broker ≡ Some l → line_at n s.broker ≡ Some l
    → Did (offers_on n copy) s new → Did (offers birth copy) s new
offered birth n copy l s new found there is = same_act (offers_on n copy) (offers birth copy) s new (offers_is birth n copy l s.broker found there) is

-- or that is refused
pub offer_left : (birth n : ℕ) (copy : MessageCopy) (l : Line) (fault : StepFault) (s new : Stepping) → line_of birth s.broker ≡ Some l → line_at n s.broker ≡ Some l
    → IsLeft (offers_on n copy) fault s new → IsLeft (offers birth copy) fault s new
offer_left birth n copy l fault s new found there is = same_left (offers_on n copy) (offers birth copy) fault s new (offers_is birth n copy l s.broker found there) is
