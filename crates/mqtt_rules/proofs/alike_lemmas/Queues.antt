-- Queues that are alike: what is read of them, and what turns make of them.
use Rattle.std.proofs.Common.{◌≡◌, ℕ, suc, ◌-◌, Bool, true, false, cond, ◌||◌, List, [], ◌∷◌, ◌++◌, map, Option, Some, None, nat_eq, nat_lt, refl, ap, ap₂, subst, ◌∙◌}
use Rattle.std.specs.Prelude.{⊤, find, flat_map}
use Rattle.mqtt_base.specs.declared.session.Phase.TheVariants.{Sent}
use Rattle.mqtt_base.specs.declared.session.Ending.TheVariants.{SessionEnded}
use Rattle.mqtt_topic.specs.declared.sending.form.Form.{Form}
use Rattle.mqtt_topic.specs.sending.Told.{ToldTopics}
use Rattle.mqtt_flow.specs.declared.outbound.entry.Entry.{Entry as FlowEntry}
use Rattle.mqtt_flow.specs.declared.outbound.entry.QueuedCopy.{QueuedCopy}
use Rattle.mqtt_flow.specs.declared.outbound.entry.Turn.{Turn}
use Rattle.mqtt_flow.specs.declared.outbound.entry.Turn.TheVariants as turns
use Rattle.mqtt_flow.specs.outbound.Outbound.{staying, way_made, is_late}
use Rattle.mqtt_flow.specs.inbound.Identifiers.{is_among}
use Rattle.mqtt_records.specs.messages.Queue.{CopyRow}
use Rattle.mqtt_records.specs.declared.messages.message.MessageCopy.{MessageCopy}
use Rattle.mqtt_records.specs.state.Session.{copy_place}
use Rattle.mqtt_records.specs.declared.state.session.Session.{Session}
use Rattle.mqtt_records.specs.declared.state.records.Records.{Records}
use Rattle.mqtt_records.specs.lists.Order.{row_at}
use Rattle.mqtt_routes.specs.routing.Intended.{greatest}
use Rattle.mqtt_rules.specs.step.Closing.{end_session}
use Rattle.mqtt_rules.specs.step.Deeds.{whose, Leave, Enter, Deed, At, Finish}
use Rattle.mqtt_rules.specs.step.Deeds as deeds
use Rattle.mqtt_rules.specs.step.Outbound.{of_entry, leave_deeds, turn_deeds, all_turn_deeds, is_new, is_new_cause, first_given, since, queue_limits, room, enter_deeds}
use Rattle.mqtt_rules.specs.step.Fitting.{form_of, fitted_size, due_by, is_due, told_behind, fitted, size_at, sized}
use Rattle.mqtt_rules.specs.step.Packets.{publish_of}
use Rattle.mqtt_rules.specs.step.State.{Line, Env, entry_on, queue_on}
use Rattle.mqtt_rules.specs.alike.Alike.{Each, AlikeRows, AlikeDeeds, leaves, sends, with_queue, with_sessions}
use Rattle.mqtt_rules.proofs.alike_lemmas.SameForms.{form_of_same, fitted_size_same}
use Rattle.mqtt_rules.proofs.alike_lemmas.Pairs.{Both, each_append, each_map, map_same, both_at, both_found}
use Rattle.mqtt_rules.proofs.alike_lemmas.States.{deed_alike, place_same, places_same}
use Rattle.mqtt_rules.proofs.alike_lemmas.Acts.{same_deeds, flat_alike}

-- ---- what the rules read of a queue is the same

entry_same : (went : List ℕ) (x y : CopyRow) → AlikeRows x y → entry_on went x ≡ entry_on went y
entry_same went x y h = λ i. record { place = h.place i; copy = h.copy.seen i; phase = h.phase i; here = is_among (h.place i) went }

size_same : (xs : List (ℕ × ℕ)) (x y : CopyRow) → AlikeRows x y → size_at xs x ≡ size_at xs y
size_same [] x y h = ap (λ (c : QueuedCopy). c.size) h.copy.seen
size_same (z ∷ zs) x y h = ap₂ (λ (place n : ℕ). cond (nat_eq z.0 place) z.1 n) h.place (size_same zs x y h)

-- the session rules see the same of alike queues
pub queue_same : (went : List ℕ) (s : Session) (q : List CopyRow) → Each AlikeRows s.queue q → queue_on went s ≡ queue_on went (with_queue q s)
queue_same went s q h = map_same AlikeRows (entry_on went) (entry_on went) (entry_same went) s.queue q h

-- a pump sees rows in the same sizes
pub sized_same : (xs : List (ℕ × ℕ)) (went : List ℕ) (x y : CopyRow) → AlikeRows x y → sized (size_at xs) went x ≡ sized (size_at xs) went y
sized_same xs went x y h = λ i. record {
  place = h.place i;
  copy = record (h.copy.seen i) { size = size_same xs x y h i };
  phase = h.phase i;
  here = is_among (h.place i) went;
}

-- and finds both rows due, or none
due_same : (now : ℕ) (went : List ℕ) (x y : CopyRow) → AlikeRows x y → is_due now went x ≡ is_due now went y
due_same now went x y h = ap (λ (e : FlowEntry). due_by (is_late now e.copy) e.here e.phase) (entry_same went x y h)

-- so alike rows have the same sizes, one by one, since each tells the same to those behind it
pub fitted_same : (l : Line) (now : ℕ) (told : ToldTopics) (q r : List CopyRow) → Each AlikeRows q r → fitted l now told q ≡ fitted l now told r
fitted_same l now told [] [] h = refl
fitted_same l now told [] (y ∷ ys) h = absurd h
fitted_same l now told (x ∷ xs) [] h = absurd h
fitted_same l now told (x ∷ xs) (y ∷ ys) h =
    let first = h.0 in
    let forms : form_of l.largest told x.copy ≡ form_of l.largest told y.copy = form_of_same l.largest told x.copy y.copy first.copy in
    let size : fitted_size (form_of l.largest told x.copy) x.copy ≡ fitted_size (form_of l.largest told y.copy) y.copy =
    fitted_size_same (form_of l.largest told x.copy) x.copy y.copy first.copy ∙ ap (λ (o : Option Form). fitted_size o y.copy) forms
    in
    let behind : told_behind (is_due now l.went x) (form_of l.largest told x.copy) x.copy.content.topic told ≡ told_behind (is_due now l.went y) (form_of l.largest told y.copy) y.copy.content.topic told =
    λ i. told_behind (due_same now l.went x y first i) (forms i) (first.copy.topic i) told
    in
    ap₂ (λ (z : ℕ × ℕ) (zs : List (ℕ × ℕ)). z ∷ zs) (ap₂ (λ (place n : ℕ). (place, n)) first.place size)
    (fitted_same l now (told_behind (is_due now l.went x) (form_of l.largest told x.copy) x.copy.content.topic told) xs ys h.1
    ∙ ap (λ (t : ToldTopics). fitted l now t ys) behind)

new_same : (start : Records) (x y : CopyRow) → AlikeRows x y → is_new start x.copy ≡ is_new start y.copy
new_same start x y h = ap (λ (c : QueuedCopy). nat_lt start.publications c.id.publication || is_new_cause start c.id.cause) h.copy.seen

given_same : (o p : Option CopyRow) → Both AlikeRows o p → (q r : List CopyRow) → Each AlikeRows q r → first_given o q ≡ first_given p r
given_same None None k q r h = ap (λ (ns : List ℕ). suc (greatest ns)) (places_same q r h)
given_same None (Some y) k q r h = absurd k
given_same (Some x) None k q r h = absurd k
given_same (Some x) (Some y) k q r h = k.place

-- ---- in a step that began on alike records

module _ (env : Env) (old : List Session) where
  abbrev pub beside : Env
  beside = record env { start = with_sessions old env.start }

  since_same : (s : Session) (q : List CopyRow) → Each AlikeRows s.queue q → since env s ≡ since beside (with_queue q s)
  since_same s q h = given_same (find (λ e. is_new env.start e.copy) s.queue) (find (λ e. is_new env.start e.copy) q)
      (both_found AlikeRows (λ e. is_new env.start e.copy) (λ e. is_new env.start e.copy) (new_same env.start) s.queue q h) s.queue q h

  -- both have room for as many copies
  pub room_same : (s : Session) (q : List CopyRow) → Each AlikeRows s.queue q → room env s ≡ room beside (with_queue q s)
  room_same s q h = ap₂ (λ n es. env.limits.queue - staying env.limits.full n es) (since_same s q h) (queue_same [] s q h)

  -- the same copies make way in both
  pub ways_same : (s : Session) (q : List CopyRow) → Each AlikeRows s.queue q
      → way_made (queue_limits env) (since env s) (queue_on [] s) ≡ way_made (queue_limits env) (since beside (with_queue q s)) (queue_on [] (with_queue q s))
  ways_same s q h = ap₂ (way_made (queue_limits env)) (since_same s q h) (queue_same [] s q h)

module _ (P : Type 0) where
  -- ---- deeds with a queue

  ended_alike : (s : Session) (x y : CopyRow) → AlikeRows x y → AlikeDeeds P (At (whose s) (Leave x SessionEnded)) (At (whose s) (Leave y SessionEnded))
  ended_alike s x y h = leaves (record { who = whose s; ending = SessionEnded; row = x; other_row = y; rows = h; first = refl; second = refl })

  -- a session's end does alike
  pub end_alike : (s : Session) (q : List CopyRow) → Each AlikeRows s.queue q → Each (AlikeDeeds P) (end_session s) (end_session (with_queue q s))
  end_alike s q h =
      each_append (AlikeDeeds P) (map (λ e. At (whose s) (Leave e SessionEnded)) s.queue) (map (λ e. At (whose s) (Leave e SessionEnded)) q) (Finish (whose s) ∷ []) (Finish (whose s) ∷ [])
      (each_map AlikeRows (AlikeDeeds P) (λ e. At (whose s) (Leave e SessionEnded)) (λ e. At (whose s) (Leave e SessionEnded)) (ended_alike s) s.queue q h)
      (same_deeds P (Finish (whose s) ∷ []))

  entry_alike : (f g : CopyRow → List Deed) → ((x y : CopyRow) → AlikeRows x y → Each (AlikeDeeds P) (f x) (g y)) → (o p : Option CopyRow) → Both AlikeRows o p → Each (AlikeDeeds P) (of_entry o f) (of_entry p g)
  entry_alike f g k None None h = tt
  entry_alike f g k None (Some y) h = absurd h
  entry_alike f g k (Some x) None h = absurd h
  entry_alike f g k (Some x) (Some y) h = k x y h

  place_alike : (place : ℕ) (s : Session) (q : List CopyRow) → Each AlikeRows s.queue q → (f g : CopyRow → List Deed) → ((x y : CopyRow) → AlikeRows x y → Each (AlikeDeeds P) (f x) (g y))
      → Each (AlikeDeeds P) (of_entry (row_at copy_place place s.queue) f) (of_entry (row_at copy_place place q) g)
  place_alike place s q h f g k = entry_alike f g k (row_at copy_place place s.queue) (row_at copy_place place q) (both_at AlikeRows copy_place place_same place s.queue q h)

  -- a copy's leaving does alike
  pub leave_alike : (s : Session) (q : List CopyRow) → Each AlikeRows s.queue q → (t : Turn) → Each (AlikeDeeds P) (leave_deeds s t) (leave_deeds (with_queue q s) t)
  leave_alike s q h (turns.Send place id) = tt
  leave_alike s q h (turns.Resend place id) = tt
  leave_alike s q h (turns.Release place id order) = tt
  leave_alike s q h (turns.Outgrow place id order) = tt
  leave_alike s q h (turns.Repeat id) = tt
  leave_alike s q h (turns.Unknown id) = tt
  leave_alike s q h (turns.Leave place ending) = place_alike place s q h (λ e. At (whose s) (Leave e ending) ∷ []) (λ e. At (whose s) (Leave e ending) ∷ [])
      (λ x y k. (leaves (record { who = whose s; ending = ending; row = x; other_row = y; rows = k; first = refl; second = refl }), tt))

  sent_alike : P → (now line : ℕ) (dup : Bool) (id : ℕ) (x y : CopyRow) → AlikeRows x y → AlikeDeeds P (deeds.Send line (publish_of now dup id x.copy)) (deeds.Send line (publish_of now dup id y.copy))
  sent_alike p now line dup id x y h = sends p (record {
    line = line;
    packet = publish_of now dup id x.copy;
    other_packet = publish_of now dup id y.copy;
    publishes = record { now = now; dup = dup; id = id; copy = x.copy; other_copy = y.copy; copies = h.copy; first = refl; second = refl };
    first = refl;
    second = refl;
  })

  -- a turn that sends what a copy says is a pump's
  abbrev pub MaySay : Turn → Type 0
  MaySay (turns.Send place id) = P
  MaySay (turns.Resend place id) = P
  MaySay (turns.Release place id order) = ⊤
  MaySay (turns.Outgrow place id order) = ⊤
  MaySay (turns.Repeat id) = ⊤
  MaySay (turns.Unknown id) = ⊤
  MaySay (turns.Leave place ending) = ⊤

  abbrev pub AllMaySay : List Turn → Type 0
  AllMaySay [] = ⊤
  AllMaySay (t ∷ ts) = MaySay t × AllMaySay ts

  may_say : P → (t : Turn) → MaySay t
  may_say p (turns.Send place id) = p
  may_say p (turns.Resend place id) = p
  may_say p (turns.Release place id order) = tt
  may_say p (turns.Outgrow place id order) = tt
  may_say p (turns.Repeat id) = tt
  may_say p (turns.Unknown id) = tt
  may_say p (turns.Leave place ending) = tt

  -- if anything may be said, all turns may say it
  pub all_may_say : P → (ts : List Turn) → AllMaySay ts
  all_may_say p [] = tt
  all_may_say p (t ∷ ts) = (may_say p t, all_may_say p ts)

  -- a turn does alike, if it may send what a copy says
  pub turn_alike : (now line : ℕ) (s : Session) (q : List CopyRow) → Each AlikeRows s.queue q → (t : Turn) → MaySay t → Each (AlikeDeeds P) (turn_deeds now line s t) (turn_deeds now line (with_queue q s) t)
  turn_alike now line s q h (turns.Send place id) p = place_alike place s q h
      (λ e. At (whose s) (deeds.Mark place (Sent id)) ∷ deeds.On line (deeds.Went place) ∷ deeds.Send line (publish_of now false id e.copy) ∷ [])
      (λ e. At (whose s) (deeds.Mark place (Sent id)) ∷ deeds.On line (deeds.Went place) ∷ deeds.Send line (publish_of now false id e.copy) ∷ [])
      (λ x y k. (deed_alike P _, (deed_alike P _, (sent_alike p now line false id x y k, tt))))
  turn_alike now line s q h (turns.Resend place id) p = place_alike place s q h
      (λ e. deeds.On line (deeds.Went place) ∷ deeds.Send line (publish_of now true id e.copy) ∷ [])
      (λ e. deeds.On line (deeds.Went place) ∷ deeds.Send line (publish_of now true id e.copy) ∷ [])
      (λ x y k. (deed_alike P _, (sent_alike p now line true id x y k, tt)))
  turn_alike now line s q h (turns.Release place id order) p = same_deeds P (turn_deeds now line s (turns.Release place id order))
  turn_alike now line s q h (turns.Outgrow place id order) p = same_deeds P (turn_deeds now line s (turns.Outgrow place id order))
  turn_alike now line s q h (turns.Repeat id) p = same_deeds P (turn_deeds now line s (turns.Repeat id))
  turn_alike now line s q h (turns.Unknown id) p = same_deeds P (turn_deeds now line s (turns.Unknown id))
  turn_alike now line s q h (turns.Leave place ending) p = leave_alike s q h (turns.Leave place ending)

  -- turns do alike, if they may send what copies say
  pub turns_alike : (now line : ℕ) (s : Session) (q : List CopyRow) → Each AlikeRows s.queue q → (ts : List Turn) → AllMaySay ts
      → Each (AlikeDeeds P) (all_turn_deeds now line s ts) (all_turn_deeds now line (with_queue q s) ts)
  turns_alike now line s q h [] m = tt
  turns_alike now line s q h (t ∷ ts) m =
      each_append (AlikeDeeds P) (turn_deeds now line s t) (turn_deeds now line (with_queue q s) t) (all_turn_deeds now line s ts) (all_turn_deeds now line (with_queue q s) ts)
      (turn_alike now line s q h t m.0) (turns_alike now line s q h ts m.1)

  module _ (env : Env) (old : List Session) where
    -- a copy that enters does alike
    pub enter_alike : (copy : MessageCopy) (s : Session) (q : List CopyRow) → Each AlikeRows s.queue q → Each (AlikeDeeds P) (enter_deeds env copy s) (enter_deeds (beside env old) copy (with_queue q s))
    enter_alike copy s q h =
        let ts = way_made (queue_limits env) (since env s) (queue_on [] s) in
        let last = At (whose s) (Enter copy) ∷ [] in
        subst (λ (us : List Turn). Each (AlikeDeeds P) (enter_deeds env copy s) (flat_map (leave_deeds (with_queue q s)) us ++ At (whose s) (Enter copy) ∷ [])) (ways_same env old s q h)
        (each_append (AlikeDeeds P) (flat_map (leave_deeds s) ts) (flat_map (leave_deeds (with_queue q s)) ts) last last
        (flat_alike P (leave_deeds s) (leave_deeds (with_queue q s)) (leave_alike s q h) ts) (same_deeds P last))
