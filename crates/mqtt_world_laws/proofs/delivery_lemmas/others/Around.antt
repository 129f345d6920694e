-- What holds of all others, as ends and strangers come and change: their lines are not the receiver's.
use Rattle.std.proofs.Common.{◌≡◌, ℕ, ◌≤◌, Bool, true, false, cond, ◌⊎◌, List, [], ◌∷◌, map, Some, None, bytes_eq, refl, sym, ap, subst, ◌∙◌, inl, inr}
use Rattle.std.specs.Prelude.{find, is_some, option_map}
use Rattle.std.specs.List.{AllByRecursion}
use Rattle.std.proofs.lemmas.Bool.{cases_Bool}
use Rattle.std.proofs.lemmas.Slice.Eq.{bytes_eq-Decides}
use Rattle.mqtt_base.specs.declared.session.CopyId.{CopyId}
use Rattle.mqtt_world_laws.specs.receiver.Served.{IsTidy}
use Rattle.mqtt_world_model.specs.model.Ends.{Back, Publisher, Receiver, Sent}
use Rattle.mqtt_world_model.specs.model.Lines.{Line, is_one_of}
use Rattle.mqtt_world_model.specs.model.Seats.{HasPlace}
use Rattle.mqtt_world_model.specs.model.World.{Stranger, World, publisher_named, receiver_named, with_receiver}
use Rattle.mqtt_rules.specs.step.State.{Broker}
use Rattle.mqtt_rules.specs.declared.step.Capacity.{Capacity}
use Rattle.mqtt_world_laws.specs.acceptance.Fair.{IsSteady}
use Rattle.mqtt_world_laws.proofs.acceptance_lemmas.publishers.Ends.{all_mapped, find_publisher, find_receiver, found_its, found_not, is_some_mapped, named_receiver, only_client, only_receiver, whose}
use Rattle.mqtt_world_laws.proofs.acceptance_lemmas.publishers.Changes.{with_end, KeepsName, KeepsTheName}
use Rattle.mqtt_world_laws.specs.delivery.Standing.{HasOthers, IsAround, IsOtherPublisher, IsOtherReceiver, IsOtherStranger, IsPlaced, IsSeen, StandsWith}

-- ---- one receiver is changed

-- the name isn't its own
abbrev pub IsNotIts : List ℕ → List ℕ → World → Type 0
IsNotIts c d w = is_some (receiver_named c w) ≡ true → d ≡ c → ⊥

-- a name is its own, or not
pub whose_name : (c d : List ℕ) (w : World) → ((r : Receiver) × (receiver_named c w ≡ Some r) × (d ≡ c)) ⊎ IsNotIts c d w
whose_name c d w = whose c d (receiver_named c w)

-- a change of another end leaves the receiver
pub changed_not : (c d : List ℕ) (g : Receiver → Receiver) (w : World) → ((r : Receiver) → (g r).client ≡ r.client) → IsNotIts c d w → receiver_named c (with_receiver d g w) ≡ receiver_named c w
changed_not c d g w same not_its = found_not (λ (r : Receiver). r.client) c d g same w.receivers not_its

-- a change of its own is found
pub changed_its : (c : List ℕ) (g : Receiver → Receiver) (w : World) (r : Receiver) → ((q : Receiver) → (g q).client ≡ q.client) → receiver_named c w ≡ Some r → receiver_named c (with_receiver c g w) ≡ Some (g r)
changed_its c g w r same e = found_its (λ (q : Receiver). q.client) c c g same w.receivers refl r e

-- ---- all ends are changed, at whatever broker

-- ends that change leave the world around it
pub around_mapped : (c : List ℕ) (limits : Capacity) (ns ms : List ℕ) (w : World) (b : Broker) (now : ℕ) (f : Publisher → Publisher) (g : Receiver → Receiver) (ss : List Stranger)
    → IsAround c limits ns w → IsSteady b → (HasPlace limits c w.broker.records → HasPlace limits c b.records) → IsTidy limits b
    → ((n : ℕ) → is_one_of (Some n) ms ≡ true → n ≤ b.given)
    → ((p : Publisher) → (f p).client ≡ p.client) → ((r : Receiver) → (g r).client ≡ r.client)
    → ((p : Publisher) → HasOthers ns w.broker.given p.line → HasOthers ms b.given (f p).line)
    → ((r : Receiver) → (r.client ≡ c) ⊎ HasOthers ns w.broker.given r.line → (r.client ≡ c) ⊎ HasOthers ms b.given (g r).line)
    → AllByRecursion (IsOtherStranger ms b.given) ss
    → IsAround c limits ms (record { broker = b; now = now; publishers = map f w.publishers; receivers = map g w.receivers; strangers = ss })
around_mapped c limits ns ms w b now f g ss a steady keeps tidy known f_same g_same f_others g_others strangers = record {
  within = a.within;
  steady = steady;
  tidy = tidy;
  known = known;
  publishers = all_mapped (IsOtherPublisher ns w.broker.given) (IsOtherPublisher ms b.given) f w.publishers f_others a.publishers;
  receivers = all_mapped (IsOtherReceiver c ns w.broker.given) (IsOtherReceiver c ms b.given) g w.receivers each a.receivers;
  strangers = strangers;
  alone = λ h. find_publisher c f f_same w.publishers ∙ ap (option_map f) (a.alone (before h));
  place = λ h. keeps (a.place (before h));
}
  where
    -- it was there before
    before : is_some (find (λ (r : Receiver). bytes_eq r.client c) (map g w.receivers)) ≡ true → is_some (receiver_named c w) ≡ true
    before h = sym (is_some_mapped g (receiver_named c w)) ∙ (sym (ap is_some (find_receiver c g g_same w.receivers)) ∙ h)

    each : (r : Receiver) → IsOtherReceiver c ns w.broker.given r → IsOtherReceiver c ms b.given (g r)
    each r h = elim (g_others r h) [
      | inl is ↦ inl (g_same r ∙ is)
      | inr others ↦ inr others
    ]

-- ---- a receiver's session has a place

-- by the receiver's own name
pub its_place : (c : List ℕ) (limits : Capacity) (ns : List ℕ) (w : World) (r : Receiver) → IsAround c limits ns w → receiver_named c w ≡ Some r → HasPlace limits r.client w.broker.records
its_place c limits ns w r a e = subst (λ (x : List ℕ). HasPlace limits x w.broker.records) (sym (named_receiver c r w e)) (a.place (ap is_some e))

-- ---- one end is changed

-- the receiver itself is changed in any way; any other keeps to lines that are not its
pub end_around : (c d : List ℕ) (limits : Capacity) (ns : List ℕ) (w : World) (f : Publisher → Publisher) (g : Receiver → Receiver) → KeepsName f → KeepsTheName g
    → ((p : Publisher) → HasOthers ns w.broker.given p.line → HasOthers ns w.broker.given (f p).line)
    → ((r : Receiver) → HasOthers ns w.broker.given r.line → HasOthers ns w.broker.given (g r).line)
    → IsAround c limits ns w → IsAround c limits ns (with_end d f g w)
end_around c d limits ns w f g f_same g_same f_others g_others a =
    around_mapped c limits ns ns w w.broker w.now (λ p. cond (bytes_eq p.client d) (f p) p) (λ r. cond (bytes_eq r.client d) (g r) r) w.strangers a a.steady (λ h. h) a.tidy a.known
    (λ p. only_client (bytes_eq p.client d) f p (f_same p)) (λ r. only_receiver (bytes_eq r.client d) g r (g_same r))
    (λ p h. publisher_other (bytes_eq p.client d) p h) (λ r h. receiver_other (bytes_eq r.client d) r h) a.strangers
  where
    publisher_other : (t : Bool) (p : Publisher) → HasOthers ns w.broker.given p.line → HasOthers ns w.broker.given (cond t (f p) p).line
    publisher_other true p h = f_others p h
    publisher_other false p h = h

    receiver_other : (t : Bool) (r : Receiver) → (r.client ≡ c) ⊎ HasOthers ns w.broker.given r.line → (r.client ≡ c) ⊎ HasOthers ns w.broker.given (cond t (g r) r).line
    receiver_other t r (inl is) = inl is
    receiver_other true r (inr h) = inr (g_others r h)
    receiver_other false r (inr h) = inr h

-- a change of another end leaves it standing
pub end_others : (c d : List ℕ) (largest : ℕ) (limits : Capacity) (ids : List CopyId) (ns : List ℕ) (w : World) (f : Publisher → Publisher) (g : Receiver → Receiver) → KeepsName f → KeepsTheName g
    → ((p : Publisher) → HasOthers ns w.broker.given p.line → HasOthers ns w.broker.given (f p).line)
    → ((r : Receiver) → HasOthers ns w.broker.given r.line → HasOthers ns w.broker.given (g r).line)
    → IsNotIts c d w → StandsWith c largest limits ids ns w → StandsWith c largest limits ids ns (with_end d f g w)
end_others c d largest limits ids ns w f g f_same g_same f_others g_others not_its h = record {
  around = end_around c d limits ns w f g f_same g_same f_others g_others h.around;
  seen = subst (IsSeen largest ids ns w.broker) (sym (changed_not c d g w g_same not_its)) h.seen;
}

-- if a receiver has the name, no publisher is changed, and what becomes of its own lines is its own
none_changed : (P : Publisher → Type 0) (c : List ℕ) (f : Publisher → Publisher) (ps : List Publisher) → find (λ (p : Publisher). bytes_eq p.client c) ps ≡ None → AllByRecursion P ps
    → AllByRecursion P (map (λ p. cond (bytes_eq p.client c) (f p) p) ps)
none_changed P c f [] none a = tt
none_changed P c f (p ∷ ps) none a = elim (cases_Bool (bytes_eq p.client c)) [
  | inl its ↦ let clash : Some p ≡ None = rw its at none in absurd cc
  | inr other ↦
      let same : p ≡ cond (bytes_eq p.client c) (f p) p = sym (ap (λ (t : Bool). cond t (f p) p) other) in
      (subst P same a.0, none_changed P c f ps (rw other at none) a.1)
]

-- a change of its own leaves the world around it
pub own_around : (c : List ℕ) (limits : Capacity) (ns : List ℕ) (w : World) (f : Publisher → Publisher) (g : Receiver → Receiver) → KeepsName f → KeepsTheName g → publisher_named c w ≡ None
    → IsAround c limits ns w → IsAround c limits ns (with_end c f g w)
own_around c limits ns w f g f_same g_same none a = record {
  within = a.within;
  steady = a.steady;
  tidy = a.tidy;
  known = a.known;
  publishers = none_changed (IsOtherPublisher ns w.broker.given) c f w.publishers none a.publishers;
  receivers = all_mapped (IsOtherReceiver c ns w.broker.given) (IsOtherReceiver c ns w.broker.given) (λ r. cond (bytes_eq r.client c) (g r) r) w.receivers (λ r h. by (bytes_eq r.client c) r refl h) a.receivers;
  strangers = a.strangers;
  alone = λ h. find_publisher c (λ p. cond (bytes_eq p.client c) (f p) p) (λ p. only_client (bytes_eq p.client c) f p (f_same p)) w.publishers ∙ ap (option_map (λ p. cond (bytes_eq p.client c) (f p) p)) none;
  place = λ h. a.place (sym (is_some_mapped G (receiver_named c w)) ∙ (sym (ap is_some (find_receiver c G (λ r. only_receiver (bytes_eq r.client c) g r (g_same r)) w.receivers)) ∙ h));
}
  where
    G : Receiver → Receiver
    G r = cond (bytes_eq r.client c) (g r) r

    by : (t : Bool) (r : Receiver) → bytes_eq r.client c ≡ t → IsOtherReceiver c ns w.broker.given r → IsOtherReceiver c ns w.broker.given (cond t (g r) r)
    by true r its h = inl (g_same r ∙ (bytes_eq-Decides r.client c).0 its)
    by false r other h = h

-- and it standing, if it is placed behind it
pub own_stands : (c : List ℕ) (largest : ℕ) (limits : Capacity) (ids : List CopyId) (ns : List ℕ) (w : World) (r : Receiver) (f : Publisher → Publisher) (g : Receiver → Receiver) → KeepsName f → KeepsTheName g
    → receiver_named c w ≡ Some r → IsAround c limits ns w → IsPlaced largest ids ns (g r) w.broker → StandsWith c largest limits ids ns (with_end c f g w)
own_stands c largest limits ids ns w r f g f_same g_same e a placed = record {
  around = own_around c limits ns w f g f_same g_same (a.alone (ap is_some e)) a;
  seen = subst (IsSeen largest ids ns w.broker) (sym (changed_its c g w r g_same e)) placed;
}

-- by its line
abbrev pub on_line : (Line Sent → Line Sent) → Publisher → Publisher
on_line f p = record p { line = f p.line }

abbrev pub on_back : (Line Back → Line Back) → Receiver → Receiver
on_back g r = record r { line = g r.line }
