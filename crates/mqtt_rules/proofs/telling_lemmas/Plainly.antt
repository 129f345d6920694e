-- Deed by deed, what goes out on a line whose client takes no alias is what was meant.
use Rattle.std.proofs.Common.{◌≡◌, ℕ, true, List, [], ◌∷◌, nat_eq, Option, Some, None, refl, sym, ap, ap₂, ◌∙◌, inl, inr}
use Rattle.std.specs.Prelude.{filter_map}
use Rattle.std.proofs.lemmas.Bool.{cases_Bool, eqb-true}
use Rattle.mqtt_packet.specs.declared.codec.packet.Packet.{Packet}
use Rattle.mqtt_packet.specs.declared.codec.packet.Packet.TheVariants as packets
use Rattle.mqtt_topic.specs.declared.sending.form.Form.{Form}
use Rattle.mqtt_topic.specs.sending.Told.{ToldTopics, none_told}
use Rattle.mqtt_rules.specs.step.Forms.{in_form}
use Rattle.mqtt_rules.specs.step.State.{Line, Telling, Broker, line_at, told_on}
use Rattle.mqtt_rules.specs.step.Deeds.{Deed, Gone, Greet, On, Send, after, after_all, greeted, output, spoken, tells, tells_on, wires, without_telling}
use Rattle.mqtt_rules.proofs.step_lemmas.forms.PlainForm.{plain_form}
use Rattle.mqtt_rules.specs.telling.Meaning.{GrantsNone, on_line}
use Rattle.mqtt_rules.proofs.telling_lemmas.Lines.{gone_other, gone_own, greeted_other, nothing_told, told_other, told_own}

-- both parts of the law
record Plainly (n : ℕ) (ds : List Deed) (b : Broker) : Type 0 where
  pub out : on_line n (wires ds b) ≡ on_line n (filter_map output ds)
  pub told : told_on n (after_all ds b).tellings ≡ none_told 0

-- to such a client each packet is itself
itself : (o : Option Line) (packet : Packet) → spoken o (none_told 0) packet ≡ packet
itself None packet = refl
itself (Some l) (packets.Publish p) = ap (λ (form : Form). packets.Publish (in_form form p)) (plain_form l p)
itself (Some l) packet = refl

module _ (n : ℕ) where
  greets : (k granted : ℕ) (ts : List Telling) → told_on n ts ≡ none_told 0 → (nat_eq k n ≡ true → granted ≡ 0) → told_on n (greeted k granted ts) ≡ none_told 0
  greets k granted ts none grants = elim (cases_Bool (nat_eq k n)) [
    | inl mine ↦ ap (λ (g : ℕ). told_on n (greeted k g ts)) (grants mine) ∙ none
    | inr other ↦ greeted_other n k granted ts other ∙ none
  ]

  goes : (k : ℕ) (ts : List Telling) → told_on n ts ≡ none_told 0 → told_on n (without_telling k ts) ≡ none_told 0
  goes k ts none = elim (cases_Bool (nat_eq k n)) [
    | inl mine ↦ ap (λ (j : ℕ). told_on n (without_telling j ts)) (eqb-true k n mine) ∙ gone_own n ts
    | inr other ↦ gone_other n k ts other ∙ none
  ]

  sends : (k : ℕ) (packet : Packet) (ds : List Deed) (b : Broker) → told_on n b.tellings ≡ none_told 0
      → (told_on n (after (Send k packet) b).tellings ≡ none_told 0 → Plainly n ds (after (Send k packet) b)) → Plainly n (Send k packet ∷ ds) b
  sends k packet ds b none rest = elim (cases_Bool (nat_eq k n)) [
    | inl mine ↦
        let is : k ≡ n = eqb-true k n mine in
        let told : told_on k b.tellings ≡ none_told 0 = ap (λ (j : ℕ). told_on j b.tellings) is ∙ none in
        let stays : told_on n (after (Send k packet) b).tellings ≡ none_told 0 =
        ap (λ (j : ℕ). told_on j (tells_on k (line_at k b) packet b.tellings)) (sym is)
        ∙ (told_own k (line_at k b) packet b.tellings ∙ (ap (tells (line_at k b) packet) told ∙ nothing_told (line_at k b) packet)) in
        let more = rest stays in
        let said : spoken (line_at k b) (told_on k b.tellings) packet ≡ packet =
        ap (λ (t : ToldTopics). spoken (line_at k b) t packet) told ∙ itself (line_at k b) packet in
        record { out = rw mine (ap₂ (λ (x : Packet) (xs : List Packet). x ∷ xs) said more.out); told = more.told }
    | inr other ↦
        let more = rest (told_other n k (line_at k b) packet b.tellings other ∙ none) in
        record { out = rw other more.out; told = more.told }
  ]

plainly : (n : ℕ) (ds : List Deed) (b : Broker) → told_on n b.tellings ≡ none_told 0 → GrantsNone n ds → Plainly n ds b
plainly n [] b none w = record { out = refl; told = none }
plainly n (On k (Greet birth keep_alive window largest granted) ∷ ds) b none w =
    let d = On k (Greet birth keep_alive window largest granted) in
    let more = plainly n ds (after d b) (greets n k granted b.tellings none w.0) w.1 in
    record { out = more.out; told = more.told }
plainly n (Send k packet ∷ ds) b none w = sends n k packet ds b none (λ stays. plainly n ds (after (Send k packet) b) stays w)
plainly n (Gone k ∷ ds) b none w =
    let more = plainly n ds (after (Gone k) b) (goes n k b.tellings none) w in
    record { out = more.out; told = more.told }
plainly n (d ∷ ds) b none w =
    let more = plainly n ds (after d b) none w in
    record { out = more.out; told = more.told }

-- what goes out on the line of a client that takes no alias is what was meant
pub goes_out_plainly : (n : ℕ) (ds : List Deed) (b : Broker) → told_on n b.tellings ≡ none_told 0 → GrantsNone n ds
    → on_line n (wires ds b) ≡ on_line n (filter_map output ds)
goes_out_plainly n ds b none w = (plainly n ds b none w).out

-- and it is told nothing
pub stays_untold : (n : ℕ) (ds : List Deed) (b : Broker) → told_on n b.tellings ≡ none_told 0 → GrantsNone n ds
    → told_on n (after_all ds b).tellings ≡ none_told 0
stays_untold n ds b none w = (plainly n ds b none w).told
