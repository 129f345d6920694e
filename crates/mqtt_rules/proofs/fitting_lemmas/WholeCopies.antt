-- Copies that are within with their whole topic are within in the form in which they go out.
use Rattle.std.proofs.Common.{◌≡◌, ℕ, Bool, true, false, List, [], ◌∷◌, Option, Some, None, refl, ◌∙◌, sym, subst}
use Rattle.std.specs.Prelude.{length, cond, nat_eq, nat_lt, nat_le}
use Rattle.std.proofs.lemmas.Bool.{leb-true, le-ltb}
use Rattle.mqtt_topic.proofs.names_lemmas.MatchLemmas.{and_right}
use Rattle.mqtt_flow.specs.outbound.Outbound.{pump}
use Rattle.mqtt_topic.specs.declared.sending.form.Form.{Form}
use Rattle.mqtt_topic.specs.declared.sending.form.Form.TheVariants.{Plain, Named, Short}
use Rattle.mqtt_topic.specs.sending.Told.{ToldTopics, forms_by, alias_of, next_alias}
use Rattle.mqtt_packet.specs.declared.codec.publish.Publish.{Publish}
use Rattle.mqtt_packet.specs.declared.codec.packet.Packet.TheVariants as packets
use Rattle.mqtt_packet.specs.codec.Publish.{publish_body}
use Rattle.mqtt_topic.specs.sending.Sizes.{is_spelled}
use Rattle.mqtt_records.specs.declared.messages.message.MessageCopy.{MessageCopy}
use Rattle.mqtt_records.specs.messages.Queue.{CopyRow}
use Rattle.mqtt_records.specs.declared.state.session.Session.{Session}
use Rattle.mqtt_rules.specs.step.Fitting.{form_of, fitted_size, fitted, is_due, told_behind, size_at, pump_turns}
use Rattle.mqtt_rules.specs.step.Forms.{first_within, form_size, in_form, is_within, published_of}
use Rattle.mqtt_rules.specs.step.Outbound.{way_of}
use Rattle.mqtt_rules.specs.step.Packets.{size_of}
use Rattle.mqtt_rules.specs.step.State.{Line, Broker, queue_on, queued_copy, told_on}
use Rattle.mqtt_rules.proofs.step_lemmas.forms.FormSizes.{copy_in_form}
use Rattle.mqtt_rules.specs.fitting.Fitting.{IsWithinWhole, AreWithinWhole}
use Rattle.mqtt_rules.proofs.fitting_lemmas.SamePumps.{AreAlike, pumps_same}

-- of forms of which the last is within the first that is within is one, and is within
abbrev pub IsFound : ℕ → Publish → Option Form → Type 0
IsFound largest p None = ⊥
IsFound largest p (Some form) = is_within largest p form ≡ true

found_by : (largest : ℕ) (p : Publish) (form : Form) (b : Bool) (o : Option Form) → is_within largest p form ≡ b → IsFound largest p o → IsFound largest p (cond b (Some form) o)
found_by largest p form true o eq h = eq
found_by largest p form false o eq h = h

-- the last of them is plain
found_plain : (largest : ℕ) (p : Publish) → is_within largest p Plain ≡ true → IsFound largest p (first_within largest p (Plain ∷ []))
found_plain largest p whole = subst (λ b. IsFound largest p (cond b (Some Plain) None)) (sym whole) whole

found_among : (largest : ℕ) (p : Publish) (alias next : Option ℕ) → is_within largest p Plain ≡ true → IsFound largest p (first_within largest p (forms_by alias next))
found_among largest p (Some alias) next whole = found_by largest p (Short alias) (is_within largest p (Short alias)) (first_within largest p (Plain ∷ [])) refl (found_plain largest p whole)
found_among largest p None (Some next) whole = found_by largest p (Named next) (is_within largest p (Named next)) (first_within largest p (Plain ∷ [])) refl (found_plain largest p whole)
found_among largest p None None whole = found_plain largest p whole

-- of a copy that is within with its whole topic some form is found, and it is within
pub form_found : (largest : ℕ) (told : ToldTopics) (copy : MessageCopy) → IsWithinWhole largest copy → IsFound largest (published_of copy.content.arrived false 1 copy) (form_of largest told copy)
form_found largest told copy whole =
    let p = published_of copy.content.arrived false 1 copy in
    found_among largest p (alias_of copy.content.topic told) (next_alias told) whole

-- ---- sizes

is_small : (largest : ℕ) (copy : MessageCopy) (form : Form) → is_within largest (published_of copy.content.arrived false 1 copy) form ≡ true → nat_lt largest (size_of (packets.Publish (in_form form (published_of copy.content.arrived false 1 copy)))) ≡ false
is_small largest copy form within =
    let p = published_of copy.content.arrived false 1 copy in
    let size = size_of (packets.Publish (in_form form p)) in
    le-ltb largest size (leb-true size largest (and_right (is_spelled (length (publish_body (in_form form p)))) (nat_le size largest) within))

-- in a form that is within a copy is not too large
pub form_is_small : (largest : ℕ) (copy : MessageCopy) (form : Form) → is_within largest (published_of copy.content.arrived false 1 copy) form ≡ true → nat_lt largest (form_size form copy) ≡ false
form_is_small largest copy form within =
    subst (λ n. nat_lt largest n ≡ false) (copy_in_form form copy copy.content.arrived 1 false) (is_small largest copy form within)

found_is_small : (largest : ℕ) (copy : MessageCopy) (o : Option Form) → IsFound largest (published_of copy.content.arrived false 1 copy) o → nat_lt largest (fitted_size o copy) ≡ false
found_is_small largest copy None h = elim h [ ]
found_is_small largest copy (Some form) h = form_is_small largest copy form h

-- what a row remembers is small too
own_is_small : (largest : ℕ) (copy : MessageCopy) → IsWithinWhole largest copy → nat_lt largest (queued_copy copy).size ≡ false
own_is_small largest copy whole = is_small largest copy Plain whole

-- ---- pumps

small_at : (l : Line) (now : ℕ) (told : ToldTopics) (q : List CopyRow) → AreWithinWhole l.largest q → (e : CopyRow) → nat_lt l.largest (queued_copy e.copy).size ≡ false → nat_lt l.largest (size_at (fitted l now told q) e) ≡ false
small_at l now told [] h e own = own
small_at l now told (x ∷ xs) h e own =
    let form = form_of l.largest told x.copy in
    let rest = fitted l now (told_behind (is_due now l.went x) form x.copy.content.topic told) xs in
    by (nat_eq x.place e.place) (fitted_size form x.copy) (size_at rest e)
    (found_is_small l.largest x.copy form (form_found l.largest told x.copy h.0))
    (small_at l now (told_behind (is_due now l.went x) form x.copy.content.topic told) xs h.1 e own)
  where
    by : (b : Bool) (m n : ℕ) → nat_lt l.largest m ≡ false → nat_lt l.largest n ≡ false → nat_lt l.largest (cond b m n) ≡ false
    by true m n here there = here
    by false m n here there = there

abbrev pub own_size : CopyRow → ℕ
own_size e = (queued_copy e.copy).size

alike : (l : Line) (now : ℕ) (told : ToldTopics) (q : List CopyRow) → AreWithinWhole l.largest q → (es : List CopyRow) → AreWithinWhole l.largest es → AreAlike (way_of l now) (size_at (fitted l now told q)) own_size es
alike l now told q h [] all = tt
alike l now told q h (e ∷ es) all =
    let own = own_is_small l.largest e.copy all.0 in
    (small_at l now told q h e own ∙ sym own, alike l now told q h es all.1)

-- a pump of copies that are within with their whole topics goes by these
pub whole_pumps : (l : Line) (b : Broker) (s : Session) → AreWithinWhole l.largest s.queue → pump_turns l b s ≡ pump (way_of l b.now) (queue_on l.went s)
whole_pumps l b s h =
    let told = told_on l.number b.tellings in
    pumps_same (way_of l b.now) (size_at (fitted l b.now told s.queue)) own_size l.went s.queue (alike l b.now told s.queue h s.queue h)
