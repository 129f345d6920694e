-- CONNACK and all else that the publisher reads keeps the invariant.
use Rattle.std.proofs.Common.{◌≡◌, ◌⊎◌, arith, inl, inr, ⊎_elim, ℕ, ◌≤◌, Bool, true, false, List, [], ◌∷◌, length, map, refl, sym, ap, ◌∙◌, subst, Option, Some, None, option_map, slice_get}
use Rattle.std.proofs.lemmas.Option.{slice_get-map}
use Rattle.mqtt_base.specs.declared.limits.TheConstants.{OPEN_LIMIT}
use Rattle.mqtt_base.specs.Codes.{is_success}
use Rattle.mqtt_flow.specs.inbound.Identifiers.{is_among}
use Rattle.mqtt_flow.specs.inbound.Line.{Link, away, asked, live, sent_on}
use Rattle.mqtt_flow.specs.inbound.Publisher.{Fate, sent_1, ended_1, sent, released, ended, FromPublisher, ToPublisher, CONNACK, CONNACK_REFUSED, PUBACK, PUBREC, PUBCOMP, DISCONNECT, in_flight, resent_from, on_new_session}
use Rattle.mqtt_flow.specs.inbound.InboundWorld.{World, count_of, on_connack, publisher_reads}
use Rattle.mqtt_flow.proofs.inbound_lemmas.inbound.Stages.{Stage, free, publishing_1, acknowledging, publishing, receiving, releasing, completing, held_of, up_of, open_of, ups, downs, Fits, at_most_more, At, Told, Weak, Calm, is_away, is_asking, is_shut, is_turned, is_answered, is_live, IsLate, IsQuiet, Norm, Fresh, Good, Blank, blank_away, blank_asking, blank_shut, blank_answered, same_stage}
use Rattle.mqtt_flow.proofs.inbound_lemmas.inbound.Fates.{not_held, held-on_new_session, renewed, ups-resent_from}
use Rattle.mqtt_flow.proofs.inbound_lemmas.inbound.BrokerReads.{absent, late_ups, late_is_old, weaken}
use Rattle.mqtt_flow.proofs.inbound_lemmas.inbound.Lines.{leaves}
use Rattle.mqtt_flow.proofs.inbound_lemmas.inbound.Sends.{sent_at_most, plain_sent, plain_resent, is_on, unused, goes_out, down_each}
use Rattle.mqtt_flow.proofs.inbound_lemmas.inbound.Acknowledged.{after_puback, puback_keeps, after_pubrec, pubrec_keeps, after_pubcomp, pubcomp_keeps}

-- CONNACK of a session that is resumed: what is in flight goes out again
abbrev again : Stage → Stage
again free = free
again (publishing_1 n dup) = publishing_1 n true
again (acknowledging n code) = publishing_1 n true
again (publishing n dup o) = publishing n true o
again (receiving n code) = publishing n true (is_success code)
again (releasing n o) = releasing n o
again (completing n code) = releasing n false

held_again : (s : Stage) → held_of (again s) ≡ held_of s
held_again free = refl
held_again (publishing_1 n dup) = refl
held_again (acknowledging n code) = refl
held_again (publishing n dup o) = refl
held_again (receiving n code) = refl
held_again (releasing n o) = refl
held_again (completing n code) = refl

up_again : (i : ℕ) (s : Stage) → up_of i (again s) ≡ renewed i (held_of s)
up_again i free = refl
up_again i (publishing_1 n dup) = refl
up_again i (acknowledging n code) = refl
up_again i (publishing n dup o) = refl
up_again i (receiving n code) = refl
up_again i (releasing n o) = refl
up_again i (completing n code) = refl

open_again : (s : Stage) → open_of (again s) ≡ open_of s
open_again free = refl
open_again (publishing_1 n dup) = refl
open_again (acknowledging n code) = refl
open_again (publishing n dup o) = refl
open_again (receiving n code) = refl
open_again (releasing n o) = refl
open_again (completing n code) = refl

fits_again : (acc : List ℕ) (s : Stage) → Fits acc (again s)
fits_again acc free = tt
fits_again acc (publishing_1 n dup) = tt
fits_again acc (acknowledging n code) = tt
fits_again acc (publishing n dup o) = tt
fits_again acc (receiving n code) = tt
fits_again acc (releasing n o) = tt
fits_again acc (completing n code) = tt

quiet_downs : (i : ℕ) (ps : List ToPublisher) → IsQuiet ps → downs i ps ≡ []
quiet_downs i [] h = refl
quiet_downs i (CONNACK present ∷ ps) h = absurd h
quiet_downs i (CONNACK_REFUSED code ∷ ps) h = absurd h
quiet_downs i (PUBACK j code ∷ ps) h = absurd h
quiet_downs i (PUBREC j code ∷ ps) h = absurd h
quiet_downs i (PUBCOMP j code ∷ ps) h = absurd h
quiet_downs i (DISCONNECT code ∷ ps) h = quiet_downs i ps h

sends_again : {i : ℕ} {f : List Fate} {a b : List FromPublisher} {d rest : List ToPublisher} {o acc : List ℕ} (up : List FromPublisher) (linked : Bool) (s : Stage) → ups i a ≡ [] → ups i up ≡ [] → IsQuiet rest → At i f a b d o acc s → At i f a (sent_on linked up (resent_from 0 f)) rest o acc (again s)
sends_again {i} {f} {a} {b} {d} {rest} {o} {acc} up linked s old none quiet at = record {
  holds = at.holds ∙ sym (held_again s);
  of_old = inl old;
  of_up = at_most_more (sent_at_most i linked up (resent_from 0 f) none) (inr (ups-resent_from i 0 f ∙ (ap (renewed i) at.holds ∙ sym (up_again i s))));
  of_down = inl (quiet_downs i rest quiet);
  open_is = at.open_is ∙ sym (open_again s);
  fits = fits_again acc s;
}

-- a publisher that has asked reads CONNACK
record IsAnswered (w : World) (present : Bool) (rest : List ToPublisher) : Type 0 where
  of_up : w.up ≡ []
  quiet : IsQuiet rest
  late : IsLate w.old
  in_none : (present ≡ true) ⊎ (in_flight w.fates ≡ [])
  begun : w.stands ≡ true

calm_asked : {l : Link} {c b t : Bool} {up old : List FromPublisher} {present : Bool} {rest : List ToPublisher} {f : List Fate} → l ≡ asked → Calm l c b t up (CONNACK present ∷ rest) old f → (up ≡ []) × IsQuiet rest × IsLate old × ((present ≡ true) ⊎ (in_flight f ≡ [])) × (t ≡ true)
calm_asked e (is_away l b u d) = absurd (cc)
calm_asked e (is_asking l b u d) = absurd (cc)
calm_asked e (is_shut l b u d) = absurd (cc)
calm_asked e (is_turned code l b u d) = absurd (cc)
calm_asked {present = present} {rest = rest} e (is_answered p rest' l u d q late r t) =
    let x : CONNACK present ≡ CONNACK p = cc in
    let y : present ≡ p = cc in
    let z : rest ≡ rest' = cc in
    (u, rw z q, late, rw y r, t)
calm_asked e (is_live l n late t) = let x = sym e ∙ l in absurd (cc)

answered : (w : World) (present : Bool) (rest : List ToPublisher) → w.link ≡ asked → w.down ≡ CONNACK present ∷ rest → Norm w → IsAnswered w present rest
answered w present rest l d inv =
    let c = calm_asked l (subst (λ down. Calm w.link w.clean w.linked w.stands w.up down w.old w.fates) d inv.calm) in
    record { of_up = c.0; quiet = c.1; late = c.2; in_none = c.3; begun = c.4 }

told_forgotten : (o : List ℕ) (c : ℕ) (f : Option Fate) → Weak c f → Told o c (option_map on_new_session f)
told_forgotten o c None t = t
told_forgotten o c (Some (sent_1 i)) t = tt
told_forgotten o c (Some (ended_1 by)) t = t
told_forgotten o c (Some (sent i)) t = t
told_forgotten o c (Some (released i)) t = t
told_forgotten o c (Some (ended by)) t = t

abbrev forgot : List ToPublisher → World → World
forgot rest w = record w { link = live; clean = false; fates = map on_new_session w.fates; down = rest }

-- with nothing under way and nothing open, all may be forgotten
forgets : (w : World) (rest : List ToPublisher) → w.up ≡ [] → IsQuiet rest → IsLate w.old → w.stands ≡ true → ((i : ℕ) → is_among i w.ids ≡ false) → length w.ids ≤ OPEN_LIMIT → ((n : ℕ) → Weak (count_of n w.accepted) (slice_get w.fates n)) → Norm (forgot rest w)
forgets w rest u quiet late s none few weak = record {
  each = λ j. (free, record { holds = held-on_new_session j 0 w.fates; of_old = inl (late_ups j late); of_up = inl (rw u refl); of_down = inl (quiet_downs j rest quiet); open_is = none j; fits = tt });
  told = λ m. rw slice_get-map (told_forgotten w.ids (count_of m w.accepted) (slice_get w.fates m) (weak m));
  calm = is_live refl (rw u refl) late s;
  within = few;
  begun = absent s;
  olds = late_is_old late;
}

connack_keeps : (l : Link) (present : Bool) (rest : List ToPublisher) (w : World) → w.link ≡ l → w.down ≡ CONNACK present ∷ rest → Norm w → Norm (on_connack l present (record w { down = rest }))
connack_keeps away present rest w l e inv = no_line w rest l e inv.calm
  where
    no_line : {A : Type 0} {p : ToPublisher} {c b t : Bool} {up old : List FromPublisher} {f : List Fate} (w : World) (rest : List ToPublisher) → w.link ≡ away → w.down ≡ p ∷ rest → Calm w.link c b t up w.down old f → A
    no_line w rest l e (is_away k b u d) = let x = sym e ∙ d in absurd (cc)
    no_line w rest l e (is_asking k b u d) = let x = sym l ∙ k in absurd (cc)
    no_line w rest l e (is_shut k b u d) = let x = sym l ∙ k in absurd (cc)
    no_line w rest l e (is_turned code k b u d) = let x = sym l ∙ k in absurd (cc)
    no_line w rest l e (is_answered p rest' k u d q late r t) = let x = sym l ∙ k in absurd (cc)
    no_line w rest l e (is_live k n late t) = let x = sym l ∙ k in absurd (cc)
connack_keeps asked true rest w l e inv =
    let a = answered w true rest l e inv in
    goes_out live (record w { link = live; clean = false; up = sent_on w.linked w.up (resent_from 0 w.fates); down = rest }) refl
    (record {
      each = λ j. (again (inv.each j).0, sends_again w.up w.linked (inv.each j).0 (late_ups j a.late) (rw a.of_up refl) a.quiet (inv.each j).1);
      told = inv.told;
      calm = is_live refl (plain_sent w.linked w.up (resent_from 0 w.fates) (rw a.of_up refl) (plain_resent 0 w.fates)) a.late a.begun;
      within = inv.within;
      begun = absent a.begun;
      olds = inv.olds;
    })
connack_keeps asked false rest w l e inv =
    let a = answered w false rest l e inv in
    let none : in_flight w.fates ≡ [] = ⊎_elim (λ (x : false ≡ true). absurd (cc)) (λ (x : in_flight w.fates ≡ []). x) a.in_none in
    goes_out live (forgot rest w) refl (forgets w rest a.of_up a.quiet a.late a.begun
    (λ i. (unused (inv.each i).0 (inv.each i).1 (not_held i 0 w.fates (rw none refl))).open_is)
    inv.within
    (λ n. weaken w.ids (count_of n w.accepted) (slice_get w.fates n) (inv.told n)))
connack_keeps live present rest w l e inv =
    let each = down_each w (CONNACK present ∷ rest) e inv in
    let on = is_on w l inv in
    record {
      each = λ j. ((each j).0, same_stage (each j).1 refl (inr refl) (inr refl) (inr refl) refl);
      told = inv.told;
      calm = is_live l on.plain on.late on.begun;
      within = inv.within;
      begun = inv.begun;
      olds = inv.olds;
    }

-- whatever the publisher reads
pub reads_down : (down : List ToPublisher) (w : World) → w.down ≡ down → Norm w → Norm (publisher_reads down w)
reads_down [] w e inv = inv
reads_down (CONNACK present ∷ rest) w e inv = connack_keeps w.link present rest w refl e inv
reads_down (CONNACK_REFUSED code ∷ rest) w e inv = leaves w false inv
reads_down (PUBACK i code ∷ rest) w e inv = goes_out w.link (after_puback i code rest w) refl (puback_keeps i code rest w e inv)
reads_down (PUBREC i code ∷ rest) w e inv = goes_out w.link (after_pubrec i code rest w) refl (pubrec_keeps i code rest w e inv)
reads_down (PUBCOMP i code ∷ rest) w e inv = goes_out w.link (after_pubcomp i rest w) refl (pubcomp_keeps i code rest w e inv)
reads_down (DISCONNECT code ∷ rest) w e inv = leaves w w.clean inv

-- after a Clean Start the first packet is its CONNACK
blank_down : {l : Link} {b : Bool} {up : List FromPublisher} {down : List ToPublisher} → Blank l b up down → (down ≡ []) ⊎ ((l ≡ asked) × (up ≡ []) × ((rest : List ToPublisher) × (down ≡ CONNACK false ∷ rest) × IsQuiet rest))
blank_down (blank_away l b u d) = inl d
blank_down (blank_asking l b u d) = inl d
blank_down (blank_shut l b u d) = inl d
blank_down (blank_answered rest l u d q) = inr (l, u, (rest, d, q))

reads_clean : (w : World) (rest : List ToPublisher) → w.link ≡ asked → w.up ≡ [] → IsQuiet rest → Fresh w → Norm (on_connack w.link false (record w { down = rest }))
reads_clean w rest l u q fresh = subst (λ l. Norm (on_connack l false (record w { down = rest }))) (sym l)
    (goes_out live (forgot rest w) refl (forgets w rest u q fresh.late fresh.begun (λ i. rw fresh.of_ids refl) (rw fresh.of_ids (omega arith)) fresh.weak))

-- a publisher's reading on a new line leaves the hop in order
pub reads_anew : (w : World) → Fresh w → Good (publisher_reads w.down w)
reads_anew w fresh = ⊎_elim
    (λ (h : w.down ≡ []). inr (subst (λ d. Fresh (publisher_reads d w)) (sym h) fresh))
    (λ (h : (w.link ≡ asked) × (w.up ≡ []) × ((rest : List ToPublisher) × (w.down ≡ CONNACK false ∷ rest) × IsQuiet rest)).
    inl (subst (λ d. Norm (publisher_reads d w)) (sym h.2.1) (reads_clean w h.2.0 h.0 h.1 h.2.2 fresh)))
    (blank_down fresh.lines)
