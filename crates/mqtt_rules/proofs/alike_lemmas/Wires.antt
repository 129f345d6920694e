-- What goes out of brokers that are alike: each packet in the same form (MQTT 5.0, 3.3.2.3.4).
use Rattle.std.proofs.Common.{◌≡◌, ℕ, Bool, List, [], ◌∷◌, Option, Some, None, refl, sym, ap, subst, subst₂, inl, inr}
use Rattle.std.specs.Prelude.{unwrap_or}
use Rattle.mqtt_packet.specs.declared.codec.packet.Packet.{Packet}
use Rattle.mqtt_packet.specs.declared.codec.packet.Packet.TheVariants as packets
use Rattle.mqtt_topic.specs.declared.sending.form.Form.{Form}
use Rattle.mqtt_topic.specs.declared.sending.form.Form.TheVariants.{Plain}
use Rattle.mqtt_topic.specs.sending.Told.{ToldTopics}
use Rattle.mqtt_records.specs.declared.messages.message.MessageCopy.{MessageCopy}
use Rattle.mqtt_records.specs.declared.state.session.Session.{Session}
use Rattle.mqtt_rules.specs.step.Forms.{form_for, in_form, published_of}
use Rattle.mqtt_rules.specs.step.Packets.{publish_of}
use Rattle.mqtt_rules.specs.step.State.{Line, Broker, line_at, told_on}
use Rattle.mqtt_rules.specs.step.Deeds.{Deed, Accept, Begin, Name, Count, At, Finish, Keep, Forget, RefuseWill, Link, On, Send, Gone, after, spoken, wire, wires}
use Rattle.mqtt_rules.specs.alike.Alike.{Each, AlikeCopies, AlikeBrokers, AlikeDeeds, AlikePublishes, AlikeForms, AlikeWires, same, leaves, sends}
use Rattle.mqtt_rules.proofs.alike_lemmas.SameForms.{form_same}
use Rattle.mqtt_rules.proofs.alike_lemmas.Pairs.{each_refl, each_append}
use Rattle.mqtt_rules.proofs.alike_lemmas.States.{like, by_broker, after_alike}

-- the PUBLISH of one of two alike copies goes out in the same form
spoken_alike : (o : Option Line) (told : ToldTopics) (now id : ℕ) (dup : Bool) (x y : MessageCopy) → AlikeCopies x y
    → AlikeForms (spoken o told (publish_of now dup id x)) (spoken o told (publish_of now dup id y))
spoken_alike None told now id dup x y h =
    record { form = Plain; now = now; dup = dup; id = id; copy = x; other_copy = y; copies = h; first = refl; second = refl }
spoken_alike (Some l) told now id dup x y h =
    let forms = form_same l.largest told now id dup x y h in
    record {
      form = unwrap_or (form_for l.largest told (published_of now dup id x)) Plain;
      now = now;
      dup = dup;
      id = id;
      copy = x;
      other_copy = y;
      copies = h;
      first = refl;
      second = ap (λ (o : Option Form). packets.Publish (in_form (unwrap_or o Plain) (published_of now dup id y))) (sym forms);
    }

publish_spoken : (o : Option Line) (told : ToldTopics) (p q : Packet) → AlikePublishes p q → AlikeForms (spoken o told p) (spoken o told q)
publish_spoken o told p q l =
    subst₂ (λ (x y : Packet). AlikeForms (spoken o told x) (spoken o told y)) (sym l.first) (sym l.second)
    (spoken_alike o told l.now l.id l.dup l.copy l.other_copy l.copies)

-- what goes out depends on lines and tellings alone
wire_same : (d : Deed) (b : Broker) (ss : List Session) → wire d b ≡ wire d (like ss b)
wire_same (Accept number origin m) b ss = refl
wire_same (Begin row will) b ss = refl
wire_same (Name n) b ss = refl
wire_same (Count n) b ss = refl
wire_same (At who part) b ss = refl
wire_same (Finish who) b ss = refl
wire_same (Keep kept) b ss = refl
wire_same (Forget place) b ss = refl
wire_same (RefuseWill who) b ss = refl
wire_same (Link n) b ss = refl
wire_same (On line part) b ss = refl
wire_same (Send line packet) b ss = refl
wire_same (Gone line) b ss = refl

module _ (P : Type 0) where
  wire_alike : (d e : Deed) → AlikeDeeds P d e → (b : Broker) (ss : List Session) → Each (AlikeWires P) (wire d b) (wire e (like ss b))
  wire_alike d e (same p) b ss =
      subst (λ (x : Deed). Each (AlikeWires P) (wire d b) (wire x (like ss b))) p
      (subst (Each (AlikeWires P) (wire d b)) (wire_same d b ss) (each_refl (AlikeWires P) (λ x. (refl, inl refl)) (wire d b)))
  wire_alike d e (leaves l) b ss = subst₂ (λ (x y : Deed). Each (AlikeWires P) (wire x b) (wire y (like ss b))) (sym l.first) (sym l.second) tt
  wire_alike d e (sends m l) b ss =
      subst₂ (λ (x y : Deed). Each (AlikeWires P) (wire x b) (wire y (like ss b))) (sym l.first) (sym l.second)
      ((refl, inr (m, publish_spoken (line_at l.line b) (told_on l.line b.tellings) l.packet l.other_packet l.publishes)), tt)

  -- of alike deeds on alike brokers the same goes out, but for what copies say
  pub wires_alike : (ds es : List Deed) → Each (AlikeDeeds P) ds es → (b c : Broker) → AlikeBrokers b c → Each (AlikeWires P) (wires ds b) (wires es c)
  wires_alike [] [] k b c h = tt
  wires_alike [] (e ∷ es) k b c h = absurd k
  wires_alike (d ∷ ds) [] k b c h = absurd k
  wires_alike (d ∷ ds) (e ∷ es) k b c h =
      each_append (AlikeWires P) (wire d b) (wire e c) (wires ds (after d b)) (wires es (after e c))
      (by_broker (λ (x : Broker). Each (AlikeWires P) (wire d b) (wire e x)) b (λ ss i. wire_alike d e k.0 b ss) c h)
      (wires_alike ds es k.1 (after d b) (after e c) (by_broker (λ (x : Broker). AlikeBrokers (after d b) (after e x)) b (after_alike P d e k.0 b) c h))
