-- What a publisher sends keeps the invariant.
use Rattle.std.proofs.Common.{◌≡◌, inl, inr, ℕ, zero, suc, Bool, true, false, List, [], ◌∷◌, ◌++◌, length, nat_eq, nat_lt, if◌then◌else◌, refl, sym, ap, ◌∙◌, subst, Some, slice_get, append-nil, zero-add, true≢false}
use Rattle.std.specs.List.{list_any}
use Rattle.std.proofs.lemmas.List.Elements.{filter-append}
use Rattle.std.proofs.lemmas.List.Folds.{list_any-append}
use Rattle.mqtt_base.specs.declared.limits.TheConstants.{OPEN_LIMIT}
use Rattle.mqtt_flow.specs.inbound.Identifiers.{is_among, free_identifier}
use Rattle.mqtt_flow.specs.inbound.Line.{Link, away, asked, live, sent_on}
use Rattle.mqtt_flow.specs.inbound.Publisher.{Qos, qos_1, qos_2, Fate, sent_1, ended_1, sent, released, ended, FromPublisher, PUBLISH_1, PUBLISH_2, ToPublisher, CONNACK, CONNACK_REFUSED, PUBACK, PUBREC, PUBCOMP, DISCONNECT, in_flight, first_fate, first_packet, resent_from, pubrel_if}
use Rattle.mqtt_flow.specs.inbound.InboundWorld.{World, count_of, send_one, send_all, send_unsent}
use Rattle.mqtt_flow.proofs.inbound_lemmas.Identifiers.{same_id, free_is_free}
use Rattle.mqtt_flow.proofs.inbound_lemmas.inbound.Stages.{Stage, free, publishing_1, acknowledging, publishing, receiving, releasing, completing, held, ups, downs, up_about, AtMost, at_most_more, at_most_none, At, Told, Calm, is_away, is_asking, is_shut, is_turned, is_answered, is_live, IsLate, is_connect, Norm, same_stage, by_id}
use Rattle.mqtt_flow.proofs.inbound_lemmas.inbound.Fates.{held-push, not_held}
use Rattle.mqtt_flow.proofs.inbound_lemmas.inbound.BrokerReads.{absent}

-- what is sent is on the line, or lost
pub sent_at_most : (i : ℕ) (b : Bool) (up ps : List FromPublisher) → ups i up ≡ [] → AtMost (ups i (sent_on b up ps)) (ups i ps)
sent_at_most i true up ps h = inr (rw (filter-append (up_about i) up ps, h) refl)
sent_at_most i false up ps h = inl h

-- what goes up is none of another identifier's
pub sent_other : (i : ℕ) (b : Bool) (up ps : List FromPublisher) → ups i ps ≡ [] → ups i (sent_on b up ps) ≡ ups i up
sent_other i true up ps h = rw (filter-append (up_about i) up ps, h, append-nil) refl
sent_other i false up ps h = refl

-- nothing that the publisher sends on a line that stands is a CONNECT
pub plain_sent : (b : Bool) (up ps : List FromPublisher) → list_any is_connect up ≡ false → list_any is_connect ps ≡ false → list_any is_connect (sent_on b up ps) ≡ false
plain_sent true up ps h k = rw (list_any-append is_connect up ps, h, k) refl
plain_sent false up ps h k = h

-- no CONNECT is among what is sent again
pub plain_resent : (k : ℕ) (fs : List Fate) → list_any is_connect (resent_from k fs) ≡ false
plain_resent k [] = refl
plain_resent k (sent_1 i ∷ fs) = plain_resent (suc k) fs
plain_resent k (ended_1 by ∷ fs) = plain_resent (suc k) fs
plain_resent k (sent i ∷ fs) = plain_resent (suc k) fs
plain_resent k (released i ∷ fs) = plain_resent (suc k) fs
plain_resent k (ended by ∷ fs) = plain_resent (suc k) fs

-- a PUBREL is no CONNECT
pub plain_pubrel : (i : ℕ) (b : Bool) → list_any is_connect (pubrel_if b i) ≡ false
plain_pubrel i true = refl
plain_pubrel i false = refl

-- the lines of a publisher that has read CONNACK
pub record IsOn (w : World) : Type 0 where
  pub at_line : w.link ≡ live
  pub plain : list_any is_connect w.up ≡ false
  pub late : IsLate w.old
  pub begun : w.stands ≡ true

-- on a live line there is no CONNECT, what is old is late, and the publisher stands
pub calm_on : {l : Link} {c b t : Bool} {up old : List FromPublisher} {down : List ToPublisher} {f : List Fate} → l ≡ live → Calm l c b t up down old f → (list_any is_connect up ≡ false) × IsLate old × (t ≡ true)
calm_on e (is_away l b u d) = let x = sym e ∙ l in absurd (cc)
calm_on e (is_asking l b u d) = let x = sym e ∙ l in absurd (cc)
calm_on e (is_shut l b u d) = let x = sym e ∙ l in absurd (cc)
calm_on e (is_turned code l b u d) = let x = sym e ∙ l in absurd (cc)
calm_on e (is_answered present rest l u d q late r t) = let x = sym e ∙ l in absurd (cc)
calm_on e (is_live l n late t) = (n, late, t)

-- a live line in order is a line that is on
pub is_on : (w : World) → w.link ≡ live → Norm w → IsOn w
is_on w l inv = let c = calm_on l inv.calm in record { at_line = l; plain = c.0; late = c.1; begun = c.2 }

-- only a CONNACK comes first to a publisher that has read none
abbrev pub is_greeting : ToPublisher → Bool
is_greeting (CONNACK present) = true
is_greeting (CONNACK_REFUSED code) = true
is_greeting (PUBACK i code) = false
is_greeting (PUBREC i code) = false
is_greeting (PUBCOMP i code) = false
is_greeting (DISCONNECT code) = false

-- a packet that is no CONNACK is none
pub no_greeting : {A : Type 0} (p q : ToPublisher) → is_greeting q ≡ true → p ≡ q → is_greeting p ≡ false → A
no_greeting p q g e h = absurd (true≢false (sym g ∙ (sym (ap is_greeting e) ∙ h)))

-- a line on which something other than CONNACK comes down is live
pub calm_down : {l : Link} {c b t : Bool} {up old : List FromPublisher} {p : ToPublisher} {rest : List ToPublisher} {f : List Fate} → is_greeting p ≡ false → Calm l c b t up (p ∷ rest) old f → l ≡ live
calm_down e (is_away l b u d) = absurd (cc)
calm_down e (is_asking l b u d) = absurd (cc)
calm_down e (is_shut l b u d) = absurd (cc)
calm_down {p = p} e (is_turned code l b u d) = let q : p ≡ CONNACK_REFUSED code = cc in no_greeting p (CONNACK_REFUSED code) refl q e
calm_down {p = p} e (is_answered present rest l u d q late r t) = let q : p ≡ CONNACK present = cc in no_greeting p (CONNACK present) refl q e
calm_down e (is_live l n late t) = l

-- and it is on
pub on_at : (w : World) {p : ToPublisher} {rest : List ToPublisher} → w.down ≡ p ∷ rest → is_greeting p ≡ false → Norm w → IsOn w
on_at w d e inv = is_on w (calm_down e (subst (λ down. Calm w.link w.clean w.linked w.stands w.up down w.old w.fates) d inv.calm)) inv

-- an identifier that no message in flight has
pub record IsUnused (i : ℕ) (old up : List FromPublisher) (down : List ToPublisher) (ids : List ℕ) : Type 0 where
  pub of_old : ups i old ≡ []
  pub of_up : ups i up ≡ []
  pub of_down : downs i down ≡ []
  pub open_is : is_among i ids ≡ false

-- an identifier that no message holds is used nowhere
pub unused : {i : ℕ} {f : List Fate} {a b : List FromPublisher} {d : List ToPublisher} {o acc : List ℕ} (s : Stage) → At i f a b d o acc s → held i 0 f ≡ [] → IsUnused i a b d o
unused free at h = record { of_old = at_most_none at.of_old; of_up = at_most_none at.of_up; of_down = at_most_none at.of_down; open_is = at.open_is }
unused (publishing_1 n dup) at h = let x = at.holds in absurd (cc)
unused (acknowledging n code) at h = let x = at.holds in absurd (cc)
unused (publishing n dup o) at h = let x = at.holds in absurd (cc)
unused (receiving n code) at h = let x = at.holds in absurd (cc)
unused (releasing n o) at h = let x = at.holds in absurd (cc)
unused (completing n code) at h = let x = at.holds in absurd (cc)

-- a message more changes nothing of what is told of the others
pub told_push : (o : List ℕ) (c : ℕ) (f : Fate) (fs : List Fate) (m : ℕ) → (c ≡ 0 → Told o c (Some f)) → Told o c (slice_get fs m) → Told o c (slice_get (fs ++ f ∷ []) m)
told_push o c f [] zero g h = g h
told_push o c f [] (suc m) g h = h
told_push o c f (x ∷ fs) zero g h = h
told_push o c f (x ∷ fs) (suc m) g h = told_push o c f fs m g h

-- a message goes out under an identifier that is free
abbrev pub first_stage : Qos → ℕ → Stage
first_stage qos_1 n = publishing_1 n false
first_stage qos_2 n = publishing n false false

-- a first PUBLISH stands where its first stage has it
pub first_at : (qos : Qos) (i : ℕ) (fs : List Fate) (old up : List FromPublisher) (b : Bool) (down : List ToPublisher) (ids acc : List ℕ) → held i 0 fs ≡ [] → IsUnused i old up down ids → At i (fs ++ first_fate qos i ∷ []) old (sent_on b up (first_packet qos i (length fs) ∷ [])) down ids acc (first_stage qos (length fs))
first_at qos_1 i fs old up b down ids acc none u =
    let k = same_id i in
    record {
      holds = rw (held-push i 0 fs (sent_1 i), none, k, zero-add) refl;
      of_old = inl u.of_old;
      of_up = at_most_more (sent_at_most i b up (PUBLISH_1 i (length fs) false ∷ []) u.of_up) (inr (rw k refl));
      of_down = inl u.of_down;
      open_is = u.open_is;
      fits = tt;
    }
first_at qos_2 i fs old up b down ids acc none u =
    let k = same_id i in
    record {
      holds = rw (held-push i 0 fs (sent i), none, k, zero-add) refl;
      of_old = inl u.of_old;
      of_up = at_most_more (sent_at_most i b up (PUBLISH_2 i (length fs) false ∷ []) u.of_up) (inr (rw k refl));
      of_down = inl u.of_down;
      open_is = u.open_is;
      fits = tt;
    }

-- a first PUBLISH takes no identifier but its own
pub first_held : (qos : Qos) (i j : ℕ) (fs : List Fate) → nat_eq j i ≡ false → held j 0 (fs ++ first_fate qos i ∷ []) ≡ held j 0 fs
first_held qos_1 i j fs e = rw (held-push j 0 fs (sent_1 i), e, append-nil) refl
first_held qos_2 i j fs e = rw (held-push j 0 fs (sent i), e, append-nil) refl

-- nor does it go up under another
pub first_other : (qos : Qos) (i j n : ℕ) → nat_eq j i ≡ false → ups j (first_packet qos i n ∷ []) ≡ []
first_other qos_1 i j n e = rw e refl
first_other qos_2 i j n e = rw e refl

-- what is told of a message just sent is true
pub first_told : (qos : Qos) (i : ℕ) (o : List ℕ) (c : ℕ) → is_among i o ≡ false → c ≡ 0 → Told o c (Some (first_fate qos i))
first_told qos_1 i o c e z = tt
first_told qos_2 i o c e z = rw e z

-- a first PUBLISH is no CONNECT
pub first_plain : (qos : Qos) (i n : ℕ) → list_any is_connect (first_packet qos i n ∷ []) ≡ false
first_plain qos_1 i n = refl
first_plain qos_2 i n = refl

abbrev pub with_sent : Qos → List Qos → ℕ → World → World
with_sent qos rest i w = record w { fates = w.fates ++ first_fate qos i ∷ []; unsent = rest; up = sent_on w.linked w.up (first_packet qos i (length w.fates) ∷ []) }

-- a message sent on a live line leaves the hop in order
pub sent_keeps : (qos : Qos) (rest : List Qos) (i : ℕ) (w : World) → is_among i (in_flight w.fates) ≡ false → w.link ≡ live → Norm w → Norm (with_sent qos rest i w)
sent_keeps qos rest i w unused_id l inv =
    let none = not_held i 0 w.fates unused_id in
    let u = unused (inv.each i).0 (inv.each i).1 none in
    let packet = first_packet qos i (length w.fates) in
    let up = sent_on w.linked w.up (packet ∷ []) in
    let on = is_on w l inv in
    record {
      each = λ j. by_id (λ j. (s : Stage) × At j (w.fates ++ first_fate qos i ∷ []) w.old up w.down w.ids w.accepted s) i j
          (first_stage qos (length w.fates), first_at qos i w.fates w.old w.up w.linked w.down w.ids w.accepted none u)
          (λ e. ((inv.each j).0, same_stage (inv.each j).1 (first_held qos i j w.fates e) (inr refl) (inr (sent_other j w.linked w.up (packet ∷ []) (first_other qos i j (length w.fates) e))) (inr refl) refl));
      told = λ m. told_push w.ids (count_of m w.accepted) (first_fate qos i) w.fates m (first_told qos i w.ids (count_of m w.accepted) u.open_is) (inv.told m);
      calm = is_live l (plain_sent w.linked w.up (packet ∷ []) on.plain (first_plain qos i (length w.fates))) on.late on.begun;
      within = inv.within;
      begun = absent on.begun;
      olds = inv.olds;
    }

abbrev pub LiveNorm : World → Type 0
LiveNorm w = Norm w × (w.link ≡ live)

-- so does one that is sent if there is room
pub send_if : (b : Bool) (qos : Qos) (rest : List Qos) (w : World) → LiveNorm w → LiveNorm (if b then with_sent qos rest (free_identifier (in_flight w.fates)) w else w)
send_if true qos rest w h = (sent_keeps qos rest (free_identifier (in_flight w.fates)) w (free_is_free (in_flight w.fates)) h.1 h.0, h.1)
send_if false qos rest w h = h

-- so do all that wait
pub sends : (unsent : List Qos) (w : World) → LiveNorm w → LiveNorm (send_all unsent w)
sends [] w h = h
sends (qos ∷ rest) w h = sends rest (send_one qos rest w) (send_if (nat_lt (length (in_flight w.fates)) OPEN_LIMIT) qos rest w h)

-- what waits goes out on a live line alone, and leaves the hop in order
pub goes_out : (l : Link) (w : World) → w.link ≡ l → Norm w → Norm (send_unsent l w)
goes_out away w e inv = inv
goes_out asked w e inv = inv
goes_out live w e inv = (sends w.unsent w (inv, e)).0

abbrev pub Each : World → List ToPublisher → Type 0
Each w down = (j : ℕ) → (s : Stage) × At j w.fates w.old w.up down w.ids w.accepted s

-- each packet on its way down is of some identifier's stage
pub down_each : (w : World) (down : List ToPublisher) → w.down ≡ down → Norm w → Each w down
down_each w down e inv = subst (Each w) e inv.each
