-- One end is changed, in the eyes of one publisher: itself, or another.
use Rattle.std.proofs.Common.{◌≡◌, ℕ, Bool, true, false, cond, List, [], ◌∷◌, map, Some, None, bytes_eq, refl, sym, ap, subst, ◌∙◌, inl, inr}
use Rattle.std.specs.Prelude.{option_map, find, is_some}
use Rattle.std.specs.List.{AllByRecursion}
use Rattle.std.proofs.lemmas.Bool.{cases_Bool}
use Rattle.std.proofs.lemmas.Slice.Eq.{bytes_eq-Decides}
use Rattle.mqtt_rules.specs.declared.step.Capacity.{Capacity}
use Rattle.mqtt_world_model.specs.model.Lines.{Line}
use Rattle.mqtt_world_model.specs.model.Ends.{Sent, Publisher, Receiver, Back}
use Rattle.mqtt_world_model.specs.model.World.{World, publisher_named, with_publisher, with_receiver, with_line}
use Rattle.mqtt_world_laws.proofs.acceptance_lemmas.publishers.Ends.{find_publisher, find_receiver, is_some_mapped, only_client, only_receiver, all_mapped, changed_not, changed_his, IsNotHim}
use Rattle.mqtt_world_laws.proofs.acceptance_lemmas.publishers.Around.{HasFree, OtherPublisher, OtherReceiver, Around, Placed, Him, Holds}

-- both ends of a name are changed, of which one is there
abbrev pub with_end : List ℕ → (Publisher → Publisher) → (Receiver → Receiver) → World → World
with_end d f g w = with_publisher d f (with_receiver d g w)

-- an end keeps its name
abbrev pub KeepsName : (Publisher → Publisher) → Type 0
KeepsName f = (p : Publisher) → (f p).client ≡ p.client

abbrev pub KeepsTheName : (Receiver → Receiver) → Type 0
KeepsTheName g = (r : Receiver) → (g r).client ≡ r.client

module _ (c d : List ℕ) (limits : Capacity) (his : List ℕ) (w : World) (f : Publisher → Publisher) (g : Receiver → Receiver) (f_same : KeepsName f) (g_same : KeepsTheName g) (a : Around c limits his w) where
  abbrev F : Publisher → Publisher
  F p = cond (bytes_eq p.client d) (f p) p

  abbrev G : Receiver → Receiver
  G r = cond (bytes_eq r.client d) (g r) r

  F_same : (p : Publisher) → (F p).client ≡ p.client
  F_same p = only_client (bytes_eq p.client d) f p (f_same p)

  G_same : (r : Receiver) → (G r).client ≡ r.client
  G_same r = only_receiver (bytes_eq r.client d) g r (g_same r)

  -- a changed end leaves the world around the publisher, if it is another still
  pub end_changed : ((p : Publisher) → OtherPublisher c his w.broker.given p → OtherPublisher c his w.broker.given (F p))
      → AllByRecursion (OtherReceiver his w.broker.given) (map G w.receivers) → Around c limits his (with_end d f g w)
  end_changed each receivers = record {
    within = a.within;
    steady = a.steady;
    known = a.known;
    none = a.none;
    publishers = all_mapped (OtherPublisher c his w.broker.given) (OtherPublisher c his w.broker.given) F w.publishers each a.publishers;
    receivers = receivers;
    strangers = a.strangers;
    alone = λ h. find_receiver c G G_same w.receivers ∙ ap (option_map G) (a.alone (before h));
    place = λ h. a.place (before h);
  }
    where
      before : is_some (publisher_named c (with_end d f g w)) ≡ true → is_some (publisher_named c w) ≡ true
      before h = sym (is_some_mapped F (publisher_named c w)) ∙ (sym (ap is_some (find_publisher c F F_same w.publishers)) ∙ h)

-- ---- another

-- a change of an end leaves the world around the publisher
pub end_around : (c d : List ℕ) (limits : Capacity) (his : List ℕ) (w : World) (f : Publisher → Publisher) (g : Receiver → Receiver) → KeepsName f → KeepsTheName g
    → ((p : Publisher) → HasFree his w.broker.given p.line → HasFree his w.broker.given (f p).line)
    → ((r : Receiver) → HasFree his w.broker.given r.line → HasFree his w.broker.given (g r).line)
    → Around c limits his w → Around c limits his (with_end d f g w)
end_around c d limits his w f g f_same g_same f_free g_free a =
    end_changed c d limits his w f g f_same g_same a (λ p. publisher_other (bytes_eq p.client d) p)
    (all_mapped (OtherReceiver his w.broker.given) (OtherReceiver his w.broker.given) (λ r. cond (bytes_eq r.client d) (g r) r) w.receivers (λ r. receiver_other (bytes_eq r.client d) r) a.receivers)
  where
    publisher_other : (t : Bool) (p : Publisher) → OtherPublisher c his w.broker.given p → OtherPublisher c his w.broker.given (cond t (f p) p)
    publisher_other true p (inl is) = inl (f_same p ∙ is)
    publisher_other true p (inr free) = inr (f_free p free)
    publisher_other false p h = h

    receiver_other : (t : Bool) (r : Receiver) → OtherReceiver his w.broker.given r → OtherReceiver his w.broker.given (cond t (g r) r)
    receiver_other true r h = g_free r h
    receiver_other false r h = h

-- a change of another end leaves the publisher in step
pub end_others : (c d : List ℕ) (limits : Capacity) (his accepted : List ℕ) (w : World) (f : Publisher → Publisher) (g : Receiver → Receiver) → KeepsName f → KeepsTheName g
    → ((p : Publisher) → HasFree his w.broker.given p.line → HasFree his w.broker.given (f p).line)
    → ((r : Receiver) → HasFree his w.broker.given r.line → HasFree his w.broker.given (g r).line)
    → IsNotHim c d w → Holds c limits his accepted w → Holds c limits his accepted (with_end d f g w)
end_others c d limits his accepted w f g f_same g_same f_free g_free not_him h = record {
  around = end_around c d limits his w f g f_same g_same f_free g_free h.around;
  him = subst (Him his w.broker accepted) (sym (changed_not c d f (with_receiver d g w) f_same not_him)) h.him;
}

-- by its line
abbrev pub on_line : (Line Sent → Line Sent) → Publisher → Publisher
on_line f p = record p { line = f p.line }

abbrev pub on_back : (Line Back → Line Back) → Receiver → Receiver
on_back g r = record r { line = g r.line }

-- so does a change of another's line
pub line_others : (c d : List ℕ) (limits : Capacity) (his accepted : List ℕ) (w : World) (f : Line Sent → Line Sent) (g : Line Back → Line Back)
    → ((l : Line Sent) → HasFree his w.broker.given l → HasFree his w.broker.given (f l)) → ((l : Line Back) → HasFree his w.broker.given l → HasFree his w.broker.given (g l))
    → IsNotHim c d w → Holds c limits his accepted w → Holds c limits his accepted (with_line d f g w)
line_others c d limits his accepted w f g f_free g_free not_him h =
    end_others c d limits his accepted w (on_line f) (on_back g) (λ p. refl) (λ r. refl) (λ p. f_free p.line) (λ r. g_free r.line) not_him h

-- ---- the publisher itself, whatever becomes of its line: no receiver has its name

nobody_changed : (his : List ℕ) (given : ℕ) (c : List ℕ) (g : Receiver → Receiver) (rs : List Receiver) → find (λ (r : Receiver). bytes_eq r.client c) rs ≡ None
    → AllByRecursion (OtherReceiver his given) rs → AllByRecursion (OtherReceiver his given) (map (λ r. cond (bytes_eq r.client c) (g r) r) rs)
nobody_changed his given c g [] none a = tt
nobody_changed his given c g (r ∷ rs) none a = elim (cases_Bool (bytes_eq r.client c)) [
  | inl its ↦ let clash : Some r ≡ None = rw its at none in absurd cc
  | inr other ↦
      let same : r ≡ cond (bytes_eq r.client c) (g r) r = sym (ap (λ (t : Bool). cond t (g r) r) other) in
      (subst (OtherReceiver his given) same a.0, nobody_changed his given c g rs (rw other at none) a.1)
]

-- a change of the publisher's own leaves the world around it
pub own_around : (c : List ℕ) (limits : Capacity) (his : List ℕ) (w : World) (p : Publisher) (f : Publisher → Publisher) (g : Receiver → Receiver) → KeepsName f → KeepsTheName g
    → publisher_named c w ≡ Some p → Around c limits his w → Around c limits his (with_end c f g w)
own_around c limits his w p f g f_same g_same e a =
    end_changed c c limits his w f g f_same g_same a (λ q. other (bytes_eq q.client c) q refl)
    (nobody_changed his w.broker.given c g w.receivers (a.alone (ap is_some e)) a.receivers)
  where
    other : (t : Bool) (q : Publisher) → bytes_eq q.client c ≡ t → OtherPublisher c his w.broker.given q → OtherPublisher c his w.broker.given (cond t (f q) q)
    other true q its h = inl (f_same q ∙ (bytes_eq-Decides q.client c).0 its)
    other false q its h = h

-- and the publisher in step, if it is placed behind that
pub own_holds : (c : List ℕ) (limits : Capacity) (his accepted : List ℕ) (w : World) (p : Publisher) (f : Publisher → Publisher) (g : Receiver → Receiver) → KeepsName f → KeepsTheName g
    → publisher_named c w ≡ Some p → Around c limits his w → Placed his (f p) w.broker accepted → Holds c limits his accepted (with_end c f g w)
own_holds c limits his accepted w p f g f_same g_same e a placed = record {
  around = own_around c limits his w p f g f_same g_same e a;
  him = subst (Him his w.broker accepted) (sym (changed_his c f (with_receiver c g w) p f_same e)) placed;
}
