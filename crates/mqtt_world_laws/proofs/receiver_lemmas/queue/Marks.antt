-- What a pump's turns make of the copies that stand in a queue, and which PUBLISH they send.
use Rattle.std.proofs.Common.{◌≡◌, ℕ, suc, ◌+◌, ◌||◌, Bool, true, false, cond, List, [], ◌∷◌, ◌++◌, map, Some, nat_eq, refl, sym, ap, subst, ◌∙◌, append-nil, append_assoc, arith, inl, inr}
use Rattle.std.specs.Prelude.{slice_get}
use Rattle.std.proofs.lemmas.Bool.{cases_Bool, eqb-true}
use Rattle.std.proofs.lemmas.Cmp.{nat_eq_equiv}
use Rattle.mqtt_base.specs.declared.session.Phase.TheVariants.{Sent, Oversize}
use Rattle.mqtt_flow.specs.declared.outbound.entry.Turn.{Turn}
use Rattle.mqtt_flow.specs.declared.outbound.entry.Turn.TheVariants.{Send, Resend, Outgrow}
use Rattle.mqtt_flow.specs.outbound.OutboundWorld.{Lot, World as Hop, standing, past, body, lot_after, lots_after, packets, sends, take_turns, told}
use Rattle.mqtt_flow.specs.outbound.Receiver.{Output, publish}
use Rattle.mqtt_flow.specs.inbound.Identifiers.{is_among}
use Rattle.mqtt_flow.specs.inbound.Line.{sent_on}
use Rattle.mqtt_flow.proofs.inbound_lemmas.Identifiers.{is_among-push}
use Rattle.mqtt_records.specs.messages.Queue.{CopyRow}
use Rattle.mqtt_records.specs.state.Session.{copy_place, in_phase}
use Rattle.mqtt_records.specs.lists.Order.{IsAbove, IsAscending, change_row, row_at}
use Rattle.mqtt_records.proofs.lists_lemmas.OrderLemmas.{apart}
use Rattle.mqtt_rules.specs.step.State.{entry_on}
use Rattle.mqtt_world_laws.specs.receiver.Seen.{content_of, lot_on, still_standing}
use Rattle.mqtt_world_laws.proofs.receiver_lemmas.queue.Turns.{still_after}

-- ---- turns, one after the other

abbrev pub outputs_of : List Turn → List Lot → List Output
outputs_of [] lots = []
outputs_of (t ∷ ts) lots = packets t lots ++ outputs_of ts (lots_after t lots)

abbrev pub lots_by : List Turn → List Lot → List Lot
lots_by [] lots = lots
lots_by (t ∷ ts) lots = lots_by ts (lots_after t lots)

told_made : (ps : List Output) (w : Hop) → w.linked ≡ true → told ps w ≡ record w { down = w.down ++ ps }
told_made [] w on = let none = sym (append-nil w.down) in λ i. record w { down = none i }
told_made (p ∷ ps) w on = ap (λ (t : Bool). record w { down = sent_on t w.down (p ∷ ps) }) on

-- on a line that stands all that they send is under way, in their order
pub turns_made : (ts : List Turn) (w : Hop) → w.linked ≡ true → take_turns ts w ≡ record w { copies = lots_by ts w.copies; down = w.down ++ outputs_of ts w.copies }
turns_made [] w on = let none = sym (append-nil w.down) in λ i. record w { down = none i }
turns_made (t ∷ ts) w on =
    let v : Hop = record w { copies = lots_after t w.copies } in
    let x : Hop = record v { down = w.down ++ packets t w.copies } in
    let rest = turns_made ts x on in
    let downs = append_assoc w.down (packets t w.copies) (outputs_of ts (lots_after t w.copies)) in
    ap (take_turns ts) (told_made (packets t w.copies) v on) ∙ (rest ∙ (λ i. record w { copies = lots_by ts (lots_after t w.copies); down = downs i }))

-- ---- one copy is marked: it has another phase, or its PUBLISH went out

marked_rest : (f : Lot → Lot) (went more : List ℕ) (place : ℕ) (es : List CopyRow) → ((e : CopyRow) → nat_eq e.place place ≡ false → f (lot_on went e) ≡ lot_on more e)
    → IsAbove copy_place place es → still_standing (map f (map (lot_on went) es)) ≡ map (lot_on more) es
marked_rest f went more place [] other up = refl
marked_rest f went more place (e ∷ es) other up =
    let less = up.0 in
    let rest = marked_rest f went more place es other up.1 in
    ap (λ (l : Lot). still_standing (l ∷ map f (map (lot_on went) es))) (other e (apart e.place place (λ same. omega (arith, same, less))))
    ∙ ap (λ (ls : List Lot). lot_on more e ∷ ls) rest

marked_queue : (f : Lot → Lot) (went more : List ℕ) (place : ℕ) (g : CopyRow → CopyRow) (queue : List CopyRow)
    → ((e : CopyRow) → e.place ≡ place → f (lot_on went e) ≡ lot_on more (g e)) → ((e : CopyRow) → nat_eq e.place place ≡ false → f (lot_on went e) ≡ lot_on more e)
    → IsAscending copy_place queue → still_standing (map f (map (lot_on went) queue)) ≡ map (lot_on more) (change_row copy_place place g queue)
marked_queue f went more place g [] here other up = refl
marked_queue f went more place g (e ∷ es) here other up = elim (cases_Bool (nat_eq e.place place)) [
  | inl same ↦
      let is : e.place ≡ place = eqb-true e.place place same in
      let above : IsAbove copy_place place es = subst (λ (n : ℕ). IsAbove copy_place n es) is up.0 in
      rw same (ap (λ (l : Lot). still_standing (l ∷ map f (map (lot_on went) es))) (here e is) ∙ ap (λ (ls : List Lot). lot_on more (g e) ∷ ls) (marked_rest f went more place es other above))
  | inr differs ↦
      rw differs (ap (λ (l : Lot). still_standing (l ∷ map f (map (lot_on went) es))) (other e differs) ∙ ap (λ (ls : List Lot). lot_on more e ∷ ls) (marked_queue f went more place g es here other up.1))
]

by_turn : (t : Turn) (lots : List Lot) (went more : List ℕ) (queue queue2 : List CopyRow) → still_standing lots ≡ map (lot_on went) queue
    → still_standing (lots_after t (map (lot_on went) queue)) ≡ map (lot_on more) queue2 → still_standing (lots_after t lots) ≡ map (lot_on more) queue2
by_turn t lots went more queue queue2 h is = still_after t lots ∙ (ap (λ (ls : List Lot). still_standing (lots_after t ls)) h ∙ is)

-- the copy at a place went out
went_same : (e : CopyRow) (place : ℕ) (went : List ℕ) → nat_eq e.place place ≡ true → is_among e.place (went ++ place ∷ []) ≡ true
went_same e place went same = is_among-push e.place place went ∙ (ap (λ (t : Bool). is_among e.place went || t) same ∙ or_true (is_among e.place went))
  where
    or_true : (t : Bool) → (t || true) ≡ true
    or_true true = refl
    or_true false = refl

went_other : (e : CopyRow) (place : ℕ) (went : List ℕ) → nat_eq e.place place ≡ false → is_among e.place (went ++ place ∷ []) ≡ is_among e.place went
went_other e place went other = is_among-push e.place place went ∙ (ap (λ (t : Bool). is_among e.place went || t) other ∙ or_false (is_among e.place went))
  where
    or_false : (t : Bool) → (t || false) ≡ t
    or_false true = refl
    or_false false = refl

itself : (e : CopyRow) (place : ℕ) → e.place ≡ place → nat_eq e.place place ≡ true
itself e place is = ap (λ (n : ℕ). nat_eq n place) is ∙ nat_eq_equiv.refl place

-- with the place that went out
abbrev also_on : Bool → CopyRow → Lot
also_on here e = standing (record (entry_on [] e) { here = here }) (content_of e.copy)

-- sending a copy marks it in both views
pub sent_lots : (lots : List Lot) (went : List ℕ) (place i : ℕ) (queue : List CopyRow) → IsAscending copy_place queue → still_standing lots ≡ map (lot_on went) queue
    → still_standing (lots_after (Send place i) lots) ≡ map (lot_on (went ++ place ∷ [])) (change_row copy_place place (in_phase (Sent i)) queue)
sent_lots lots went place i queue up h =
    by_turn (Send place i) lots went (went ++ place ∷ []) queue (change_row copy_place place (in_phase (Sent i)) queue) h
    (marked_queue (lot_after (Send place i)) went (went ++ place ∷ []) place (in_phase (Sent i)) queue here other up)
  where
    here : (e : CopyRow) → e.place ≡ place → lot_after (Send place i) (lot_on went e) ≡ lot_on (went ++ place ∷ []) (in_phase (Sent i) e)
    here e is = let same = itself e place is in rw same (ap (λ (t : Bool). also_on t (in_phase (Sent i) e)) (sym (went_same e place went same)))

    other : (e : CopyRow) → nat_eq e.place place ≡ false → lot_after (Send place i) (lot_on went e) ≡ lot_on (went ++ place ∷ []) e
    other e differs = rw differs (ap (λ (t : Bool). also_on t e) (sym (went_other e place went differs)))

same_rows : (place : ℕ) (queue : List CopyRow) → change_row copy_place place (λ e. e) queue ≡ queue
same_rows place [] = refl
same_rows place (e ∷ es) = by (nat_eq e.place place) (same_rows place es)
  where
    by : (t : Bool) → change_row copy_place place (λ x. x) es ≡ es → cond t (e ∷ es) (e ∷ change_row copy_place place (λ x. x) es) ≡ e ∷ es
    by true h = refl
    by false h = ap (λ (xs : List CopyRow). e ∷ xs) h

-- so does sending it again
pub resent_lots : (lots : List Lot) (went : List ℕ) (place i : ℕ) (queue : List CopyRow) → IsAscending copy_place queue → still_standing lots ≡ map (lot_on went) queue
    → still_standing (lots_after (Resend place i) lots) ≡ map (lot_on (went ++ place ∷ [])) queue
resent_lots lots went place i queue up h =
    by_turn (Resend place i) lots went (went ++ place ∷ []) queue queue h
    (marked_queue (lot_after (Resend place i)) went (went ++ place ∷ []) place (λ e. e) queue here other up ∙ ap (map (lot_on (went ++ place ∷ []))) (same_rows place queue))
  where
    here : (e : CopyRow) → e.place ≡ place → lot_after (Resend place i) (lot_on went e) ≡ lot_on (went ++ place ∷ []) e
    here e is = let same = itself e place is in rw same (ap (λ (t : Bool). also_on t e) (sym (went_same e place went same)))

    other : (e : CopyRow) → nat_eq e.place place ≡ false → lot_after (Resend place i) (lot_on went e) ≡ lot_on (went ++ place ∷ []) e
    other e differs = rw differs (ap (λ (t : Bool). also_on t e) (sym (went_other e place went differs)))

-- and its outgrowing the line
pub outgrown_lots : (lots : List Lot) (went : List ℕ) (place i order : ℕ) (queue : List CopyRow) → IsAscending copy_place queue → still_standing lots ≡ map (lot_on went) queue
    → still_standing (lots_after (Outgrow place i order) lots) ≡ map (lot_on went) (change_row copy_place place (in_phase (Oversize i order)) queue)
outgrown_lots lots went place i order queue up h =
    by_turn (Outgrow place i order) lots went went queue (change_row copy_place place (in_phase (Oversize i order)) queue) h
    (marked_queue (lot_after (Outgrow place i order)) went went place (in_phase (Oversize i order)) queue
    (λ e is. let same = itself e place is in rw same refl) (λ e differs. rw differs refl) up)

-- ---- which PUBLISH a copy's is: it has the number of the copy's place among all

-- the copy is found among all, and its PUBLISH is the one packet that goes out for its place
pub record IsSentAs (dup : Bool) (i place k : ℕ) (went : List ℕ) (lots : List Lot) (e : CopyRow) : Type 0 where
  pub at : ℕ
  pub found : slice_get lots at ≡ Some (lot_on went e)
  pub packets_are : sends dup i place k lots ≡ publish i (k + at) dup (body (entry_on went e) (content_of e.copy)) ∷ []

-- what goes out is the copy's packet
pub sent_as : (dup : Bool) (i place k : ℕ) (went : List ℕ) (lots : List Lot) (queue : List CopyRow) (e : CopyRow) → still_standing lots ≡ map (lot_on went) queue
    → row_at copy_place place queue ≡ Some e → IsSentAs dup i place k went lots e
sent_as dup i place k went [] [] e h at = absurd cc
sent_as dup i place k went [] (x ∷ xs) e h at = absurd cc
sent_as dup i place k went (past ending f m ∷ ls) queue e h at =
    let rest = sent_as dup i place (suc k) went ls queue e h at in
    record {
      at = suc rest.at;
      found = rest.found;
      packets_are = rest.packets_are ∙ ap (λ (n : ℕ). publish i n dup (body (entry_on went e) (content_of e.copy)) ∷ []) (omega arith);
    }
sent_as dup i place k went (standing f m ∷ ls) [] e h at = absurd cc
sent_as dup i place k went (standing f m ∷ ls) (x ∷ xs) e h at =
    let first : standing f m ≡ lot_on went x = cc in
    let more : still_standing ls ≡ map (lot_on went) xs = cc in
    subst (λ (l : Lot). IsSentAs dup i place k went (l ∷ ls) e) (sym first) (elim (cases_Bool (nat_eq x.place place)) [
      | inl here ↦
          let it : Some x ≡ Some e = rw here at at in
          let is : x ≡ e = cc in
          record {
            at = 0;
            found = ap (λ (y : CopyRow). Some (lot_on went y)) is;
            packets_are = rw here (ap (λ (y : CopyRow). publish i k dup (body (entry_on went y) (content_of y.copy)) ∷ []) is
                ∙ ap (λ (n : ℕ). publish i n dup (body (entry_on went e) (content_of e.copy)) ∷ []) (omega arith));
          }
      | inr other ↦
          let rest = sent_as dup i place (suc k) went ls xs e more (rw other at at) in
          record {
            at = suc rest.at;
            found = rest.found;
            packets_are = rw other (rest.packets_are ∙ ap (λ (n : ℕ). publish i n dup (body (entry_on went e) (content_of e.copy)) ∷ []) (omega arith));
          }
    ])
