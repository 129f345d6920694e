-- A pump: each copy that leaves has its cause, and of what is too large no form is within, by what its client was told before it
-- (MQTT 5.0, 3.1.2.11.4, 3.3.2.3.4, 4.6, 4.9).
use Rattle.std.proofs.Common.{◌≡◌, ℕ, zero, suc, ◌<◌, Bool, true, false, cond, not, List, [], ◌∷◌, ◌++◌, map, Option, Some, None, nat_eq, nat_lt, refl, sym, ap, subst, ◌∙◌, inr, inl, arith}
use Rattle.std.specs.Prelude.{⊤, find, is_some, option_map}
use Rattle.std.specs.List.{AllByRecursion}
use Rattle.std.proofs.lemmas.Cmp.{nat_eq_equiv}
use Rattle.mqtt_base.specs.Codes.{success, identifier_not_found}
use Rattle.mqtt_base.specs.declared.session.Ending.{Ending}
use Rattle.mqtt_base.specs.declared.session.Ending.TheVariants as endings
use Rattle.mqtt_base.specs.declared.session.Phase.{Phase}
use Rattle.mqtt_base.specs.declared.session.Phase.TheVariants.{Waiting, Sent, Released, Oversize}
use Rattle.mqtt_base.specs.declared.session.Qos.{Qos}
use Rattle.mqtt_base.specs.declared.session.Qos.TheVariants.{AtMostOnce, AtLeastOnce, ExactlyOnce}
use Rattle.mqtt_packet.specs.declared.codec.packet.Packet.{Packet}
use Rattle.mqtt_flow.specs.outbound.Outbound.{end, first_time, too_large, once_more, verdict_by, in_room, step_on, step_by, paced, then_on, pump_from, pace, is_late}
use Rattle.mqtt_flow.specs.outbound.Pacing.{Pacing}
use Rattle.mqtt_flow.specs.declared.outbound.entry.Turn.{Turn}
use Rattle.mqtt_flow.specs.declared.outbound.entry.Turn.TheVariants as turns
use Rattle.mqtt_flow.specs.inbound.Identifiers.{free_identifier, ids_without}
use Rattle.mqtt_records.specs.messages.Queue.{CopyRow}
use Rattle.mqtt_records.specs.state.Session.{copy_place}
use Rattle.mqtt_records.specs.declared.state.session.Session.{Session}
use Rattle.mqtt_records.specs.lists.Order.{IsAbove, IsAscending, row_at}
use Rattle.mqtt_records.proofs.lists_lemmas.OrderLemmas.{apart}
use Rattle.mqtt_topic.specs.sending.Told.{ToldTopics, after_send}
use Rattle.mqtt_topic.specs.declared.sending.form.Form.{Form}
use Rattle.mqtt_rules.specs.step.Deeds.{whose, Mark, Leave, Went, Deed, At, On, Send, after, after_all, on_line, tells, without_place}
use Rattle.mqtt_rules.specs.step.Fitting.{due_by, fitted, fitted_size, form_of, is_due, pump_turns, size_at, sized, told_behind}
use Rattle.mqtt_rules.specs.step.Forms.{form_for, published_of}
use Rattle.mqtt_rules.specs.step.Inbound.{pump_deeds}
use Rattle.mqtt_rules.specs.step.Outbound.{of_entry, turn_deeds, all_turn_deeds, way_of}
use Rattle.mqtt_rules.specs.step.Packets.{publish_of, pubrel}
use Rattle.mqtt_rules.specs.step.State.{Line, Broker, entry_on, is_of, queued_copy, line_at, told_on}
use Rattle.mqtt_rules.specs.step.Step.{Pump}
use Rattle.mqtt_rules.proofs.step_lemmas.flight.FlightRows.{all_found}
use Rattle.mqtt_rules.proofs.step_lemmas.forms.FormSizes.{copy_by_sizes}
use Rattle.mqtt_rules.proofs.whole_lemmas.Large.{IsLarge, is_large}
use Rattle.mqtt_rules.proofs.telling_lemmas.Lines.{told_own}
use Rattle.mqtt_world_laws.specs.causes.Endings.{Asked}
use Rattle.mqtt_world_laws.specs.causes.Causes.{IsOfItsLine, MayBeTooLarge}
use Rattle.mqtt_world_laws.proofs.causes_lemmas.Caused.{Caused, caused_next}
use Rattle.mqtt_world_laws.proofs.causes_lemmas.Queues.{Same}
use Rattle.mqtt_world_laws.proofs.causes_lemmas.Turning.{AreThere, Comes, HasReasonIn, IsFineIn, Turned, has_expired, its_turn, of_line, the_end, turn_turned}

-- ---- what the client of a line takes stays over a pump

abbrev taken_by : Option Line → Option ℕ
taken_by o = option_map (λ (l : Line). l.largest) o

abbrev takes : ℕ → List Line → Option ℕ
takes n ls = taken_by (find (λ (l : Line). nat_eq l.number n) ls)

taken_behind : (t : Bool) (x y : Line) (o p : Option Line) → x.largest ≡ y.largest → taken_by o ≡ taken_by p → taken_by (cond t (Some x) o) ≡ taken_by (cond t (Some y) p)
taken_behind true x y o p same more = ap Some same
taken_behind false x y o p same more = more

takes_went : (n k now place : ℕ) (ls : List Line) → takes n (on_line now k (Went place) ls) ≡ takes n ls
takes_went n k now place [] = refl
takes_went n k now place (x ∷ ls) = by (nat_eq x.number k) (takes_went n k now place ls)
  where
    by : (t : Bool) → takes n (on_line now k (Went place) ls) ≡ takes n ls → takes n (cond t (record x { went = x.went ++ place ∷ [] } ∷ ls) (x ∷ on_line now k (Went place) ls)) ≡ takes n (x ∷ ls)
    by true more = taken_behind (nat_eq x.number n) (record x { went = x.went ++ place ∷ [] }) x (find (λ (l : Line). nat_eq l.number n) ls) (find (λ (l : Line). nat_eq l.number n) ls) refl refl
    by false more = taken_behind (nat_eq x.number n) x x (find (λ (l : Line). nat_eq l.number n) (on_line now k (Went place) ls)) (find (λ (l : Line). nat_eq l.number n) ls) refl more

takes_left : (n k place : ℕ) (ls : List Line) → takes n (map (without_place k place) ls) ≡ takes n ls
takes_left n k place [] = refl
takes_left n k place (x ∷ ls) = by (is_of x.session k) (takes_left n k place ls)
  where
    by : (t : Bool) → takes n (map (without_place k place) ls) ≡ takes n ls → takes n (cond t (record x { went = ids_without place x.went }) x ∷ map (without_place k place) ls) ≡ takes n (x ∷ ls)
    by true more = taken_behind (nat_eq x.number n) (record x { went = ids_without place x.went }) x (find (λ (l : Line). nat_eq l.number n) (map (without_place k place) ls)) (find (λ (l : Line). nat_eq l.number n) ls) refl more
    by false more = taken_behind (nat_eq x.number n) x x (find (λ (l : Line). nat_eq l.number n) (map (without_place k place) ls)) (find (λ (l : Line). nat_eq l.number n) ls) refl more

-- ---- the bytes that a pump finds rows to have

first_size_is : (e : CopyRow) (size : ℕ) (rest : List (ℕ × ℕ)) → size_at ((e.place, size) ∷ rest) e ≡ size
first_size_is e size rest = ap (λ (t : Bool). cond t size (size_at rest e)) (nat_eq_equiv.refl e.place)

sizes_behind : (e : CopyRow) (size : ℕ) (rest : List (ℕ × ℕ)) (f : CopyRow → ℕ) (es : List CopyRow) → IsAbove copy_place e.place es
    → AllByRecursion (λ x. f x ≡ size_at ((e.place, size) ∷ rest) x) es → AllByRecursion (λ x. f x ≡ size_at rest x) es
sizes_behind e size rest f [] up h = tt
sizes_behind e size rest f (x ∷ xs) up h =
    let less : e.place < x.place = up.0 in
    (h.0 ∙ ap (λ (t : Bool). cond t size (size_at rest x)) (apart e.place x.place (λ same. omega (arith, same, less))), sizes_behind e size rest f xs up.1 h.1)

all_same : (f : CopyRow → ℕ) (es : List CopyRow) → AllByRecursion (λ e. f e ≡ f e) es
all_same f [] = tt
all_same f (e ∷ es) = (refl, all_same f es)

module _ (m : Asked) (now : ℕ) (l : Line) (s : Session) (comes : Comes m Pump l s.birth) where
  -- ---- what is told over the turns

  -- the state before a turn: its moment, what the client was told, and what it takes
  record Stands (told : ToldTopics) (b : Broker) : Type 0 where
    pub moment : b.now ≡ now
    pub knows : told_on l.number b.tellings ≡ told
    pub line : takes l.number b.lines ≡ Some l.largest

  abbrev told_row : Option CopyRow → ToldTopics → ToldTopics
  told_row None told = told
  told_row (Some e) told = after_send (form_of l.largest told e.copy) e.copy.content.topic told

  abbrev told_turn : Turn → ToldTopics → ToldTopics
  told_turn (turns.Send place id) told = told_row (row_at copy_place place s.queue) told
  told_turn (turns.Resend place id) told = told_row (row_at copy_place place s.queue) told
  told_turn t told = told

  stands_marked : (told : ToldTopics) (place : ℕ) (phase : Phase) (b : Broker) → Stands told b → Stands told (after (At (whose s) (Mark place phase)) b)
  stands_marked told place phase b h = record { moment = h.moment; knows = h.knows; line = h.line }

  stands_went : (told : ToldTopics) (place : ℕ) (b : Broker) → Stands told b → Stands told (after (On l.number (Went place)) b)
  stands_went told place b h = record { moment = h.moment; knows = h.knows; line = takes_went l.number l.number b.now place b.lines ∙ h.line }

  stands_left : (told : ToldTopics) (e : CopyRow) (ending : Ending) (b : Broker) → Stands told b → Stands told (after (At (whose s) (Leave e ending)) b)
  stands_left told e ending b h = record { moment = h.moment; knows = h.knows; line = takes_left l.number s.birth e.place b.lines ∙ h.line }

  stands_sent : (told next : ToldTopics) (packet : Packet) (b : Broker) → ((x : Line) → x.largest ≡ l.largest → tells (Some x) packet told ≡ next) → Stands told b → Stands next (after (Send l.number packet) b)
  stands_sent told next packet b is h = record {
    moment = h.moment;
    knows = told_own l.number (line_at l.number b) packet b.tellings ∙ (ap (tells (line_at l.number b) packet) h.knows ∙ by (line_at l.number b) h.line);
    line = h.line;
  }
    where
      by : (o : Option Line) → taken_by o ≡ Some l.largest → tells o packet told ≡ next
      by None e = absurd cc
      by (Some x) e = let same : x.largest ≡ l.largest = cc in is x same

  stands_published : (told : ToldTopics) (dup : Bool) (id : ℕ) (e : CopyRow) (b : Broker) → Stands told b → Stands (told_row (Some e) told) (after (Send l.number (publish_of now dup id e.copy)) b)
  stands_published told dup id e b h =
      let its : form_for l.largest told (published_of now dup id e.copy) ≡ form_of l.largest told e.copy
      = copy_by_sizes l.largest told e.copy now id dup ∙ sym (copy_by_sizes l.largest told e.copy e.copy.content.arrived 1 false)
      in
      stands_sent told (told_row (Some e) told) (publish_of now dup id e.copy) b
      (λ x same.
      ap (λ (n : ℕ). after_send (form_for n told (published_of now dup id e.copy)) e.copy.content.topic told) same
      ∙ ap (λ (o : Option Form). after_send o e.copy.content.topic told) its) h

  stands_said : (told : ToldTopics) (id code : ℕ) (b : Broker) → Stands told b → Stands told (after (Send l.number (pubrel id code)) b)
  stands_said told id code b h = stands_sent told told (pubrel id code) b (λ x same. refl) h

  stands_turn : (t : Turn) (told : ToldTopics) (b : Broker) → Stands told b → Stands (told_turn t told) (after_all (turn_deeds now l.number s t) b)
  stands_turn (turns.Send place id) told b h = by (row_at copy_place place s.queue)
    where
      by : (o : Option CopyRow) → Stands (told_row o told) (after_all (of_entry o (λ e. At (whose s) (Mark place (Sent id)) ∷ On l.number (Went place) ∷ Send l.number (publish_of now false id e.copy) ∷ [])) b)
      by None = h
      by (Some e) =
          let c = after (At (whose s) (Mark place (Sent id))) b in
          stands_published told false id e (after (On l.number (Went place)) c) (stands_went told place c (stands_marked told place (Sent id) b h))
  stands_turn (turns.Resend place id) told b h = by (row_at copy_place place s.queue)
    where
      by : (o : Option CopyRow) → Stands (told_row o told) (after_all (of_entry o (λ e. On l.number (Went place) ∷ Send l.number (publish_of now true id e.copy) ∷ [])) b)
      by None = h
      by (Some e) = stands_published told true id e (after (On l.number (Went place)) b) (stands_went told place b h)
  stands_turn (turns.Release place id order) told b h =
      stands_said told id success (after (At (whose s) (Mark place (Released id order))) b) (stands_marked told place (Released id order) b h)
  stands_turn (turns.Outgrow place id order) told b h =
      stands_said told id success (after (At (whose s) (Mark place (Oversize id order))) b) (stands_marked told place (Oversize id order) b h)
  stands_turn (turns.Repeat id) told b h = stands_said told id success b h
  stands_turn (turns.Unknown id) told b h = stands_said told id identifier_not_found b h
  stands_turn (turns.Leave place ending) told b h = by (row_at copy_place place s.queue)
    where
      by : (o : Option CopyRow) → Stands told (after_all (of_entry o (λ e. At (whose s) (Leave e ending) ∷ [])) b)
      by None = h
      by (Some e) = stands_left told e ending b h

  -- ---- turns of which each is fine by what was told before it

  abbrev AreFineBy : ToldTopics → List Turn → Type 0
  AreFineBy told [] = ⊤
  AreFineBy told (t ∷ ts) = IsFineIn m (Stands told) s t × AreFineBy (told_turn t told) ts

  fine_caused : (ts : List Turn) (told : ToldTopics) (b : Broker) → Stands told b → AreFineBy told ts → Same s b.records → Caused m (all_turn_deeds now l.number s ts) b
  fine_caused [] told b h fine same = λ rest. tt
  fine_caused (t ∷ ts) told b h fine same =
      let ds = turn_deeds now l.number s t in
      let first : Turned m s ds b = subst (λ (n : ℕ). Turned m s (turn_deeds n l.number s t) b) h.moment (turn_turned m (Stands told) l.number s t b h fine.0 same) in
      caused_next m ds (all_turn_deeds now l.number s ts) b first.0 (fine_caused ts (told_turn t told) (after_all ds b) (stands_turn t told b h) fine.1 first.1)

  -- ---- at a row, with the turns behind it

  module _ (told : ToldTopics) (e : CopyRow) (p : Pacing) (rest : Pacing → List Turn) (row : row_at copy_place e.place s.queue ≡ Some e) where
    abbrev AllFine : ToldTopics → Type 0
    AllFine next = (q : Pacing) → AreFineBy next (rest q)

    abbrev behind : Bool → ToldTopics
    behind due = told_behind due (form_of l.largest told e.copy) e.copy.content.topic told

    -- it goes out, if there is room
    goes : (room : ℕ) (t : Turn) → IsFineIn m (Stands told) s t → told_turn t told ≡ behind true → AllFine (behind true) → AreFineBy told (then_on (in_room room t) e.phase p rest)
    goes zero t fine same h = tt
    goes (suc room) t fine same h = (fine, subst (λ (x : ToldTopics). AreFineBy x (rest (paced t e.phase p))) (sym same) (h (paced t e.phase p)))

    its_form : told_row (row_at copy_place e.place s.queue) told ≡ behind true
    its_form = ap (λ (o : Option CopyRow). told_row o told) row

    -- it leaves
    ends : (ending : Ending) → HasReasonIn m (Stands told) s e ending → AllFine told → AreFineBy told (then_on (step_on (end ending) e.place p) e.phase p rest)
    ends ending why h = (its_turn m (Stands told) s e ending row why, h (paced (turns.Leave e.place ending) e.phase p))

    its_line : (b : Broker) (more : List Deed) (ending : Ending) → IsOfItsLine (the_end m b more s e ending) Pump l
    its_line b more ending = of_line m Pump l s (the_end m b more s e ending) refl refl comes

    expires : e.phase ≡ Waiting → is_late now (queued_copy e.copy) ≡ true → HasReasonIn m (Stands told) s e endings.Expired
    expires phase late b more t h = has_expired m now s e phase late (λ c others. inr (l, its_line c others endings.Expired)) b more t h.moment

    large : IsLarge l.largest told e.copy → MayBeTooLarge e.copy.qos e.phase → HasReasonIn m (Stands told) s e endings.TooLarge
    large it phase b more t h = inl (record {
      line = l;
      pumped = its_line b more endings.TooLarge;
      larger = it.whole;
      formless = ap (λ (x : ToldTopics). is_some (form_of l.largest x e.copy)) h.knows ∙ ap is_some it.formless;
      phase = phase;
    })

    -- what has no form tells nothing
    untold : IsLarge l.largest told e.copy → AllFine (behind true) → AllFine told
    untold it h = subst (λ (x : ToldTopics). AllFine x) (ap (λ (o : Option Form). after_send o e.copy.content.topic told) it.formless) h

    module _ (size : ℕ) (larger : nat_lt l.largest size ≡ true → IsLarge l.largest told e.copy) where
      first : (late big : Bool) → e.phase ≡ Waiting → is_late now (queued_copy e.copy) ≡ late → nat_lt l.largest size ≡ big → AllFine (behind (not late))
          → AreFineBy told (then_on (step_on (first_time late big) e.place p) e.phase p rest)
      first true big phase is it h = ends endings.Expired (expires phase is) h
      first false true phase is it h = ends endings.TooLarge (large (larger it) (subst (λ (x : Phase). MayBeTooLarge e.copy.qos x) (sym phase) tt)) (untold (larger it) h)
      first false false phase is it h = goes p.room (turns.Send e.place (free_identifier p.used)) tt its_form h

      sent_large : (i : ℕ) (qos : Qos) → e.phase ≡ Sent i → e.copy.qos ≡ qos → IsLarge l.largest told e.copy → AllFine told → AreFineBy told (then_on (step_on (too_large qos i) e.place p) e.phase p rest)
      sent_large i AtMostOnce phase is it h =
          ends endings.TooLarge (large it (subst (λ (x : Phase). MayBeTooLarge e.copy.qos x) (sym phase) (λ other. let no : AtMostOnce ≡ ExactlyOnce = sym is ∙ other in absurd cc))) h
      sent_large i AtLeastOnce phase is it h =
          ends endings.TooLarge (large it (subst (λ (x : Phase). MayBeTooLarge e.copy.qos x) (sym phase) (λ other. let no : AtLeastOnce ≡ ExactlyOnce = sym is ∙ other in absurd cc))) h
      sent_large i ExactlyOnce phase is it h = (tt, h (paced (turns.Outgrow e.place i p.order) e.phase p))

      again : (i : ℕ) (here big : Bool) → e.phase ≡ Sent i → nat_lt l.largest size ≡ big → AllFine (behind (not here))
          → AreFineBy told (then_on (step_on (once_more here big e.copy.qos i) e.place p) e.phase p rest)
      again i true big phase it h = h p
      again i false true phase it h = sent_large i e.copy.qos phase refl (larger it) (untold (larger it) h)
      again i false false phase it h = goes p.room (turns.Resend e.place i) tt its_form h

      at_row : (here : Bool) (phase : Phase) → e.phase ≡ phase → AllFine (behind (due_by (is_late now (queued_copy e.copy)) here phase))
          → AreFineBy told (then_on (step_on (verdict_by (way_of l now) (record (queued_copy e.copy) { size = size }) here phase) e.place p) e.phase p rest)
      at_row here Waiting is h = first (is_late now (queued_copy e.copy)) (nat_lt l.largest size) is refl refl h
      at_row here (Sent i) is h = again i here (nat_lt l.largest size) is refl h
      at_row here (Released i order) is h = h p
      at_row here (Oversize i order) is h = h p

      -- if a PUBLISH is left to the pump
      with_left : (left : ℕ) (here : Bool) → AllFine (behind (due_by (is_late now (queued_copy e.copy)) here e.phase))
          → AreFineBy told (then_on (step_by left (verdict_by (way_of l now) (record (queued_copy e.copy) { size = size }) here e.phase) e.place p) e.phase p rest)
      with_left zero here h = tt
      with_left (suc left) here h = at_row here e.phase refl h

  -- ---- all rows

  walk : (f : CopyRow → ℕ) (es : List CopyRow) (told : ToldTopics) → IsAscending copy_place es → AreThere m s es → AllByRecursion (λ e. f e ≡ size_at (fitted l now told es) e) es
      → (p : Pacing) → AreFineBy told (pump_from (way_of l now) (map (sized f l.went) es) p)
  walk f [] told up there sizes p = tt
  walk f (e ∷ es) told up there sizes p =
      let size = fitted_size (form_of l.largest told e.copy) e.copy in
      let more = told_behind (is_due now l.went e) (form_of l.largest told e.copy) e.copy.content.topic told in
      let is : f e ≡ size = sizes.0 ∙ first_size_is e size (fitted l now more es) in
      with_left told e p (pump_from (way_of l now) (map (sized f l.went) es)) there.0 (f e) (λ big. is_large l.largest told e.copy (subst (λ (n : ℕ). nat_lt l.largest n ≡ true) is big)) p.left (entry_on l.went e).here
      (λ q. walk f es more up.1 there.1 (sizes_behind e size (fitted l now more es) f es up.0 sizes.1) q)

-- a copy that leaves by a pump has its cause
pub pump_caused : (m : Asked) (l : Line) (s : Session) (b : Broker) → Comes m Pump l s.birth → line_at l.number b ≡ Some l → IsAscending copy_place s.queue → Same s b.records → Caused m (pump_deeds l b s) b
pump_caused m l s b comes stands up same =
    let told = told_on l.number b.tellings in
    let f = size_at (fitted l b.now told s.queue) in
    fine_caused m b.now l s comes (pump_turns l b s) told b (record { moment = refl; knows = refl; line = ap taken_by stands })
    (walk m b.now l s comes f s.queue told up (all_found copy_place s.queue up) (all_same f s.queue) (pace (way_of l b.now) (map (sized f l.went) s.queue))) same
