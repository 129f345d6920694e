-- What goes out on a line, and what its client is told of topics by it.
use Rattle.std.proofs.Common.{◌≡◌, ℕ, Bool, true, false, cond, List, [], ◌∷◌, ◌++◌, map, nat_eq, Option, Some, None, refl, ap, ap₂, sym, ◌∙◌, append-nil, inl, inr}
use Rattle.std.specs.Prelude.{find, unwrap_or}
use Rattle.std.proofs.lemmas.Bool.{cases_Bool}
use Rattle.mqtt_packet.specs.declared.codec.packet.Packet.{Packet}
use Rattle.mqtt_packet.specs.declared.codec.packet.Packet.TheVariants as packets
use Rattle.mqtt_packet.specs.declared.codec.publish.Publish.{Publish}
use Rattle.mqtt_packet.specs.codec.Packets.{shortest_of}
use Rattle.mqtt_records.specs.lists.Order.{row_at, change_row}
use Rattle.mqtt_records.proofs.lists_lemmas.OrderLemmas.{change-none}
use Rattle.mqtt_topic.specs.declared.sending.form.Form.{Form}
use Rattle.mqtt_topic.specs.declared.sending.form.Form.TheVariants.{Plain, Named, Short}
use Rattle.mqtt_topic.specs.declared.sending.sizes.OtherBytes.{OtherBytes}
use Rattle.mqtt_topic.specs.sending.Sizes as sizes
use Rattle.mqtt_topic.specs.sending.Told.{ToldTopics, after_send, alias_of, forms_by, next_alias, none_told, told_if, with_told}
use Rattle.mqtt_rules.specs.step.Forms.{first_within, form_for, in_form, is_within}
use Rattle.mqtt_rules.specs.step.State.{Line, Telling, Broker, line_at, told_line, told_on, topics_in}
use Rattle.mqtt_rules.proofs.step_lemmas.forms.PlainForm.{plain_form}
use Rattle.mqtt_rules.specs.step.Deeds.{Send, after, always, spoken, tells, tells_on, wires}
use Rattle.mqtt_broker_step.specs.Lines.{line_number}
use Rattle.mqtt_broker_step.specs.Stepping.{Stepping, Did, spelled, sent, with_broker}
use Rattle.mqtt_broker_step.specs.declared.outputs.Outgoing.{Outgoing}
use Rattle.mqtt_broker_step.specs.Tellings.{IsFoundBy, IsNoPublish, IsOutgoing, form_by, form_on, telling_more, told_also, told_by}
use Rattle.mqtt_broker_step.specs.Undoing.{with_tellings}
use Rattle.mqtt_broker_step.proofs.Doing.{same_parts}
use Rattle.mqtt_broker_step.proofs.Inverse.{change_alike, change_same}

-- ---- bytes that are put out are a packet's going out

told_as_sent : (n : ℕ) (packet : Packet) (b : Broker) (ts : List Telling) → ts ≡ tells_on n (find (λ l. nat_eq l.number n) b.lines) packet b.tellings
    → with_tellings ts b ≡ after (Send n packet) b
told_as_sent n packet b ts is = ap (λ (xs : List Telling). with_tellings xs b) is

out_as_sent : (n : ℕ) (packet said : Packet) (s : Stepping) → said ≡ spoken (line_at n s.broker) (told_on n s.broker.tellings) packet
    → s.outputs ++ (n, shortest_of said) ∷ [] ≡ s.outputs ++ map spelled (wires (Send n packet ∷ []) s.broker)
out_as_sent n packet said s is = ap (λ (x : Packet). s.outputs ++ (n, shortest_of x) ∷ []) is

-- if what is said is the packet as it goes out on the line, and its client is told what it tells
pub sent_as : (n : ℕ) (packet said : Packet) (bytes : List ℕ) (ts : List Telling) (s new : Stepping) → ts ≡ tells_on n (line_at n s.broker) packet s.broker.tellings
    → said ≡ spoken (line_at n s.broker) (told_on n s.broker.tellings) packet → bytes ≡ shortest_of said
    → new ≡ sent n bytes (with_broker (with_tellings ts s.broker) s) → Did (always (Send n packet ∷ [])) s new
sent_as n packet said bytes ts s new told out exact made = record {
  is = made ∙ (ap (λ (bs : List ℕ). sent n bs (with_broker (with_tellings ts s.broker) s)) exact
      ∙ same_parts s (told_as_sent n packet s.broker ts told) (sym (append-nil s.rows)) (out_as_sent n packet said s out) (sym (append-nil s.closed)) (sym (append-nil s.reports)));
}

-- ---- a packet that is no PUBLISH is itself, and tells nothing

spoken_other : (o : Option Line) (told : ToldTopics) (packet : Packet) → IsNoPublish packet → packet ≡ spoken o told packet
spoken_other None told packet is = refl
spoken_other (Some l) told (packets.Publish p) is = absurd is
spoken_other (Some l) told packet is = refl

tells_nothing : (o : Option Line) (told : ToldTopics) (packet : Packet) → IsNoPublish packet → tells o packet told ≡ told
tells_nothing None told packet is = refl
tells_nothing (Some l) told (packets.Publish p) is = absurd is
tells_nothing (Some l) told packet is = refl

-- rows that are changed into themselves
all_same : (n : ℕ) (f : Telling → Telling) (ts : List Telling) → ((t : Telling) → f t ≡ t) → change_row told_line n f ts ≡ ts
all_same n f [] same = refl
all_same n f (t ∷ ts) same = elim (cases_Bool (nat_eq t.line n)) [
  | inl here ↦ rw here (ap (λ (x : Telling). x ∷ ts) (same t))
  | inr later ↦ rw later (ap (λ (xs : List Telling). t ∷ xs) (all_same n f ts same))
]

-- a packet that is no PUBLISH goes out in its shortest spelling
pub sent_other : (n : ℕ) (packet : Packet) (bytes : List ℕ) (s new : Stepping) → IsNoPublish packet → bytes ≡ shortest_of packet → new ≡ sent n bytes s
    → Did (always (Send n packet ∷ [])) s new
sent_other n packet bytes s new is exact made =
    sent_as n packet packet bytes s.broker.tellings s new
    (sym (all_same n (λ t. record t { topics = tells (line_at n s.broker) packet t.topics }) s.broker.tellings
    (λ t. ap (λ (topics : ToldTopics). let x : Telling = record t { topics = topics } in x) (tells_nothing (line_at n s.broker) t.topics packet is))))
    (spoken_other (line_at n s.broker) (told_on n s.broker.tellings) packet is) exact made

-- ---- a PUBLISH goes out in its form

spoken_in : (o : Option Line) (told : ToldTopics) (p : Publish) → packets.Publish (in_form (form_by o told p) p) ≡ spoken o told (packets.Publish p)
spoken_in None told p = refl
spoken_in (Some l) told p = refl

-- in the form that names it an alias is free for the topic
named_is_free : (largest : ℕ) (told : ToldTopics) (p : Publish) (alias : ℕ) → form_for largest told p ≡ Some (Named alias)
    → told_if (next_alias told) p.topic told ≡ with_told p.topic told
named_is_free largest told p alias is = by (alias_of p.topic told) (next_alias told) is
  where
    not_short : (x : ℕ) (t u : Bool) → cond t (Some (Short x)) (cond u (Some Plain) None) ≡ Some (Named alias) → ⊥
    not_short x true u e = absurd cc
    not_short x false true e = absurd cc
    not_short x false false e = absurd cc

    not_plain : (t : Bool) → cond t (Some Plain) None ≡ Some (Named alias) → ⊥
    not_plain true e = absurd cc
    not_plain false e = absurd cc

    by : (has next : Option ℕ) → first_within largest p (forms_by has next) ≡ Some (Named alias) → told_if next p.topic told ≡ with_told p.topic told
    by (Some x) next e = absurd (not_short x (is_within largest p (Short x)) (is_within largest p Plain) e)
    by None (Some y) e = refl
    by None None e = absurd (not_plain (is_within largest p Plain) e)

abbrev with_topics : Telling → ToldTopics → Telling
with_topics t topics = record t { topics = topics }

-- what is told by the form is what the packet tells
row_told : (n : ℕ) (o : Option Line) (p : Publish) (ts : List Telling) (t : Telling) → row_at told_line n ts ≡ Some t
    → told_also n (told_by (form_by o t.topics p) p.topic) ts ≡ tells_on n o (packets.Publish p) ts
row_told n None p ts t found = sym (all_same n (λ x. record x { topics = x.topics }) ts (λ x. refl))
row_told n (Some l) p ts t found = by (form_for l.largest t.topics p) refl
  where
    told : Telling → Telling
    told x = record x { topics = after_send (form_for l.largest x.topics p) p.topic x.topics }

    as_was : (form : Option Form) → form_for l.largest t.topics p ≡ form → after_send form p.topic t.topics ≡ t.topics → ts ≡ change_row told_line n told ts
    as_was form is same =
        sym (change_same told_line n told t ts found
        (ap (λ (f : Option Form). with_topics t (after_send f p.topic t.topics)) is ∙ ap (with_topics t) same))

    by : (form : Option Form) → form_for l.largest t.topics p ≡ form → told_also n (told_by (unwrap_or form Plain) p.topic) ts ≡ change_row told_line n told ts
    by None is = as_was None is refl
    by (Some Plain) is = as_was (Some Plain) is refl
    by (Some (Short alias)) is = as_was (Some (Short alias)) is refl
    by (Some (Named alias)) is =
        change_alike told_line n (telling_more p.topic) told t ts found
        (ap (with_topics t) (named_is_free l.largest t.topics p alias is)
        ∙ sym (ap (λ (f : Option Form). with_topics t (after_send f p.topic t.topics)) is))

none_told_also : (n : ℕ) (told : Option (List ℕ)) (ts : List Telling) → row_at told_line n ts ≡ None → told_also n told ts ≡ ts
none_told_also n None ts none = refl
none_told_also n (Some topic) ts none = change-none told_line n (telling_more topic) ts none

told_is : (n : ℕ) (o : Option Line) (p : Publish) (ts : List Telling) → told_also n (told_by (form_by o (told_on n ts) p) p.topic) ts ≡ tells_on n o (packets.Publish p) ts
told_is n o p ts = by (row_at told_line n ts) refl
  where
    by : (row : Option Telling) → row_at told_line n ts ≡ row → told_also n (told_by (form_by o (told_on n ts) p) p.topic) ts ≡ tells_on n o (packets.Publish p) ts
    by None none =
        none_told_also n (told_by (form_by o (told_on n ts) p) p.topic) ts none
        ∙ sym (change-none told_line n (λ t. record t { topics = tells o (packets.Publish p) t.topics }) ts none)
    by (Some t) found = rw found (row_told n o p ts t found)

-- a PUBLISH goes out as it does on its line, and its client is told what it tells
pub sent_publish : (n : ℕ) (p : Publish) (out : Outgoing) (s mid new : Stepping) → IsOutgoing n p s.broker out
    → mid ≡ with_broker (with_tellings (told_also n out.told s.broker.tellings) s.broker) s → new ≡ sent n out.bytes mid
    → Did (always (Send n (packets.Publish p) ∷ [])) s new
sent_publish n p out s mid new is told made =
    sent_as n (packets.Publish p) (packets.Publish (in_form (form_on n p s.broker) p)) out.bytes (told_also n out.told s.broker.tellings) s new
    (ap (λ (t : Option (List ℕ)). told_also n t s.broker.tellings) is.told ∙ told_is n (line_at n s.broker) p s.broker.tellings)
    (spoken_in (line_at n s.broker) (told_on n s.broker.tellings) p)
    is.bytes
    (made ∙ ap (sent n out.bytes) told)

-- ---- the form that is found

-- a line that is found by its number is the one that the rules name
pub line_found : (n : ℕ) (ls : List Line) → row_at line_number n ls ≡ find (λ l. nat_eq l.number n) ls
line_found n [] = refl
line_found n (l ∷ ls) = ap (cond (nat_eq l.number n) (Some l)) (line_found n ls)

line_is : (n : ℕ) (b : Broker) (o : Option Line) → row_at line_number n b.lines ≡ o → line_at n b ≡ o
line_is n b o is = sym (line_found n b.lines) ∙ is

-- on a line that doesn't stand the form is plain
pub form_none : (n : ℕ) (p : Publish) (b : Broker) → row_at line_number n b.lines ≡ None → Plain ≡ form_on n p b
form_none n p b none = ap (λ (o : Option Line). form_by o (told_on n b.tellings) p) (sym (line_is n b None none))

-- and so it is for a client that takes no aliases
pub form_untold : (n : ℕ) (p : Publish) (b : Broker) → row_at told_line n b.tellings ≡ None → form_on n p b ≡ Plain
form_untold n p b none = ap (λ (t : Option Telling). form_by (line_at n b) (topics_in t) p) none ∙ by (line_at n b)
  where
    by : (o : Option Line) → form_by o (none_told 0) p ≡ Plain
    by None = refl
    by (Some l) = plain_form l p

-- else it is the one that is found by what the client was told
pub form_found : (n : ℕ) (p : Publish) (topic : List ℕ) (other : OtherBytes) (l : Line) (t : Telling) (form : Option Form) (b : Broker)
    → row_at line_number n b.lines ≡ Some l → row_at told_line n b.tellings ≡ Some t → p.topic ≡ topic → IsFoundBy other p
    → form ≡ sizes.form_for l.largest t.topics topic other → unwrap_or form Plain ≡ form_on n p b
form_found n p topic other l t form b stands told same found is =
    ap (λ (f : Option Form). unwrap_or f Plain)
    (is ∙ (ap (λ (x : List ℕ). sizes.form_for l.largest t.topics x other) (sym same) ∙ sym (found l.largest t.topics)))
    ∙ sym (ap₂ (λ (o : Option Line) (x : Option Telling). form_by o (topics_in x) p) (line_is n b (Some l) stands) told)
