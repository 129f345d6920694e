-- What an answer's turn makes of the copies that stand in a queue: the copies of the hop and those of the session agree.
use Rattle.std.proofs.Common.{◌≡◌, ℕ, Bool, true, false, cond, List, [], ◌∷◌, map, Some, None, nat_eq, refl, sym, ap, subst, ◌∙◌, arith, inl, inr}
use Rattle.std.proofs.lemmas.Bool.{cases_Bool, eqb-true}
use Rattle.mqtt_base.specs.declared.session.Ending.{Ending}
use Rattle.mqtt_base.specs.declared.session.Phase.TheVariants.{Released}
use Rattle.mqtt_flow.specs.declared.outbound.entry.Entry.{Entry as FlowEntry}
use Rattle.mqtt_flow.specs.declared.outbound.entry.Turn.{Turn}
use Rattle.mqtt_flow.specs.declared.outbound.entry.Turn.TheVariants.{Send, Resend, Release, Outgrow, Repeat, Unknown, Leave}
use Rattle.mqtt_flow.specs.outbound.OutboundWorld.{Lot, TopicAndPayload, standing, past, ended_by, lot_after, lots_after, queue_of, renewed}
use Rattle.mqtt_flow.specs.inbound.Identifiers.{ids_without, is_among}
use Rattle.mqtt_flow.proofs.inbound_lemmas.Identifiers.{is_among-ids_without_other}
use Rattle.mqtt_records.specs.messages.Queue.{CopyRow}
use Rattle.mqtt_records.specs.state.Session.{copy_place, in_phase}
use Rattle.mqtt_records.specs.lists.Order.{IsAbove, IsAscending, change_row, remove_row, row_at}
use Rattle.mqtt_records.proofs.lists_lemmas.OrderLemmas.{apart}
use Rattle.mqtt_rules.specs.step.State.{entry_on}
use Rattle.mqtt_world_laws.specs.receiver.Seen.{content_of, lot_on, still_standing}
use Rattle.mqtt_world_laws.specs.receiver.Tags.{id_of}

-- ---- those that stand

same_cons : {X : Type 0} {x y : X} {xs ys : List X} → x ≡ y → xs ≡ ys → x ∷ xs ≡ y ∷ ys
same_cons e f = λ j. e j ∷ f j

still_cons : (x : Lot) (xs ys : List Lot) → still_standing xs ≡ still_standing ys → still_standing (x ∷ xs) ≡ still_standing (x ∷ ys)
still_cons (standing e m) xs ys h = ap (λ (ls : List Lot). standing e m ∷ ls) h
still_cons (past ending e m) xs ys h = h

past_after : (t : Turn) (ending : Ending) (e : FlowEntry) (m : TopicAndPayload) → lot_after t (past ending e m) ≡ past ending e m
past_after (Send place i) ending e m = refl
past_after (Resend place i) ending e m = refl
past_after (Release place i order) ending e m = refl
past_after (Outgrow place i order) ending e m = refl
past_after (Repeat i) ending e m = refl
past_after (Unknown i) ending e m = refl
past_after (Leave place by) ending e m = refl

-- a turn doesn't look at copies that have ended
pub still_after : (t : Turn) (copies : List Lot) → still_standing (lots_after t copies) ≡ still_standing (lots_after t (still_standing copies))
still_after t [] = refl
still_after t (standing e m ∷ ls) = still_cons (lot_after t (standing e m)) (lots_after t ls) (lots_after t (still_standing ls)) (still_after t ls)
still_after t (past ending e m ∷ ls) = ap (λ (x : Lot). still_standing (x ∷ lots_after t ls)) (past_after t ending e m) ∙ still_after t ls

queue_still : (copies : List Lot) → queue_of copies ≡ queue_of (still_standing copies)
queue_still [] = refl
queue_still (standing e m ∷ ls) = ap (λ (es : List FlowEntry). e ∷ es) (queue_still ls)
queue_still (past ending e m ∷ ls) = queue_still ls

queue_on_lots : (went : List ℕ) (queue : List CopyRow) → queue_of (map (lot_on went) queue) ≡ map (entry_on went) queue
queue_on_lots went [] = refl
queue_on_lots went (e ∷ es) = ap (λ (xs : List FlowEntry). entry_on went e ∷ xs) (queue_on_lots went es)

-- the hop's queue is the session's
pub same_entries : (copies : List Lot) (went : List ℕ) (queue : List CopyRow) → still_standing copies ≡ map (lot_on went) queue → queue_of copies ≡ map (entry_on went) queue
same_entries copies went queue h = queue_still copies ∙ (ap queue_of h ∙ queue_on_lots went queue)

still_all : (went : List ℕ) (queue : List CopyRow) → still_standing (map (lot_on went) queue) ≡ map (lot_on went) queue
still_all went [] = refl
still_all went (e ∷ es) = ap (λ (ls : List Lot). lot_on went e ∷ ls) (still_all went es)

-- ---- a copy is released

above_rest : (went : List ℕ) (place i order : ℕ) (es : List CopyRow) → IsAbove copy_place place es → lots_after (Release place i order) (map (lot_on went) es) ≡ map (lot_on went) es
above_rest went place i order [] up = refl
above_rest went place i order (e ∷ es) up =
    let less = up.0 in
    rw (apart e.place place (λ same. omega (arith, same, less))) (ap (λ (ls : List Lot). lot_on went e ∷ ls) (above_rest went place i order es up.1))

release_queue : (went : List ℕ) (place i order : ℕ) (queue : List CopyRow) → IsAscending copy_place queue
    → still_standing (lots_after (Release place i order) (map (lot_on went) queue)) ≡ map (lot_on went) (change_row copy_place place (in_phase (Released i order)) queue)
release_queue went place i order [] up = refl
release_queue went place i order (e ∷ es) up = elim (cases_Bool (nat_eq e.place place)) [
  | inl here ↦
      let is : e.place ≡ place = eqb-true e.place place here in
      let above : IsAbove copy_place place es = subst (λ (n : ℕ). IsAbove copy_place n es) is up.0 in
      rw here (ap (λ (ls : List Lot). lot_on went (in_phase (Released i order) e) ∷ ls) (ap still_standing (above_rest went place i order es above) ∙ still_all went es))
  | inr other ↦ rw other (ap (λ (ls : List Lot). lot_on went e ∷ ls) (release_queue went place i order es up.1))
]

-- a release marks a copy in both views
pub released_lots : (copies : List Lot) (went : List ℕ) (place i order : ℕ) (queue : List CopyRow) → IsAscending copy_place queue → still_standing copies ≡ map (lot_on went) queue
    → still_standing (lots_after (Release place i order) copies) ≡ map (lot_on went) (change_row copy_place place (in_phase (Released i order)) queue)
released_lots copies went place i order queue up h =
    still_after (Release place i order) copies ∙ (ap (λ (ls : List Lot). still_standing (lots_after (Release place i order) ls)) h ∙ release_queue went place i order queue up)

-- ---- a copy leaves

leave_queue : (went : List ℕ) (place : ℕ) (ending : Ending) (queue : List CopyRow)
    → still_standing (lots_after (Leave place ending) (map (lot_on went) queue)) ≡ map (lot_on (ids_without place went)) (remove_row copy_place place queue)
leave_queue went place ending [] = refl
leave_queue went place ending (e ∷ es) = elim (cases_Bool (nat_eq e.place place)) [
  | inl here ↦ rw here (leave_queue went place ending es)
  | inr other ↦
      let known : is_among e.place went ≡ is_among e.place (ids_without place went) = sym (is_among-ids_without_other e.place place went other) in
      let first : lot_on went e ≡ lot_on (ids_without place went) e = ap (λ (t : Bool). standing (record (entry_on went e) { here = t }) (content_of e.copy)) known in
      let rest = leave_queue went place ending es in
      rw other (same_cons first rest)
]

-- a leaving takes it out of both
pub left_lots : (copies : List Lot) (went : List ℕ) (place : ℕ) (ending : Ending) (queue : List CopyRow) → still_standing copies ≡ map (lot_on went) queue
    → still_standing (lots_after (Leave place ending) copies) ≡ map (lot_on (ids_without place went)) (remove_row copy_place place queue)
left_lots copies went place ending queue h =
    still_after (Leave place ending) copies ∙ (ap (λ (ls : List Lot). still_standing (lots_after (Leave place ending) ls)) h ∙ leave_queue went place ending queue)

-- if none stands at that place, nothing changes
none_leaves : (went : List ℕ) (place : ℕ) (ending : Ending) (queue : List CopyRow) → row_at copy_place place queue ≡ None
    → still_standing (lots_after (Leave place ending) (map (lot_on went) queue)) ≡ map (lot_on went) queue
none_leaves went place ending [] none = refl
none_leaves went place ending (e ∷ es) none = elim (cases_Bool (nat_eq e.place place)) [
  | inl here ↦ let clash : Some e ≡ None = rw here at none in absurd cc
  | inr other ↦ let further = rw other at none in rw other (ap (λ (ls : List Lot). lot_on went e ∷ ls) (none_leaves went place ending es further))
]

-- or changes nothing if it does not stand
pub none_left : (copies : List Lot) (went : List ℕ) (place : ℕ) (ending : Ending) (queue : List CopyRow) → row_at copy_place place queue ≡ None → still_standing copies ≡ map (lot_on went) queue
    → still_standing (lots_after (Leave place ending) copies) ≡ map (lot_on went) queue
none_left copies went place ending queue none h =
    still_after (Leave place ending) copies ∙ (ap (λ (ls : List Lot). still_standing (lots_after (Leave place ending) ls)) h ∙ none_leaves went place ending queue none)

-- ---- a PUBREL goes out once more, or for an identifier that no copy has

same_lots : (t : Turn) (copies : List Lot) → ((e : FlowEntry) (m : TopicAndPayload) → lot_after t (standing e m) ≡ standing e m) → lots_after t copies ≡ copies
same_lots t [] f = refl
same_lots t (standing e m ∷ ls) f =
    let first = f e m in
    let rest = same_lots t ls f in
    λ j. first j ∷ rest j
same_lots t (past ending e m ∷ ls) f =
    let first = past_after t ending e m in
    let rest = same_lots t ls f in
    λ j. first j ∷ rest j

-- a PUBREL that goes out again changes no copy
pub repeated_lots : (i : ℕ) (copies : List Lot) → lots_after (Repeat i) copies ≡ copies
repeated_lots i copies = same_lots (Repeat i) copies (λ e m. refl)

-- nor does one for an unknown identifier
pub unknown_lots : (i : ℕ) (copies : List Lot) → lots_after (Unknown i) copies ≡ copies
unknown_lots i copies = same_lots (Unknown i) copies (λ e m. refl)

-- ---- the line is lost: what went out on it is not looked at

-- on a new connection nothing was sent
pub renewed_lots : (went : List ℕ) (queue : List CopyRow) → map renewed (map (lot_on went) queue) ≡ map (lot_on []) queue
renewed_lots went [] = refl
renewed_lots went (e ∷ es) = ap (λ (ls : List Lot). lot_on [] e ∷ ls) (renewed_lots went es)

-- ---- each copy keeps its identity

one_id : (z : Bool) (a e : FlowEntry) (m : TopicAndPayload) → a.copy.id ≡ e.copy.id → id_of (standing (cond z a e) m) ≡ e.copy.id
one_id true a e m h = h
one_id false a e m h = refl

ended_id : (z : Bool) (ending : Ending) (e : FlowEntry) (m : TopicAndPayload) → id_of (ended_by z ending e m) ≡ e.copy.id
ended_id true ending e m = refl
ended_id false ending e m = refl

id_after : (t : Turn) (l : Lot) → id_of (lot_after t l) ≡ id_of l
id_after t (past ending e m) = ap id_of (past_after t ending e m)
id_after (Send place i) (standing e m) = one_id (nat_eq e.place place) _ e m refl
id_after (Resend place i) (standing e m) = one_id (nat_eq e.place place) _ e m refl
id_after (Release place i order) (standing e m) = one_id (nat_eq e.place place) _ e m refl
id_after (Outgrow place i order) (standing e m) = one_id (nat_eq e.place place) _ e m refl
id_after (Repeat i) (standing e m) = refl
id_after (Unknown i) (standing e m) = refl
id_after (Leave place ending) (standing e m) = ended_id (nat_eq e.place place) ending e m

-- a turn leaves the same copies
pub ids_after : (t : Turn) (copies : List Lot) → map id_of (lots_after t copies) ≡ map id_of copies
ids_after t [] = refl
ids_after t (l ∷ ls) =
    let first = id_after t l in
    let rest = ids_after t ls in
    λ j. first j ∷ rest j
