-- Deeds that connect, close and end nobody leave the lines in order, and each with its Receive Maximum and Maximum Packet
-- Size.
use Rattle.std.proofs.Common.{◌≡◌, ℕ, Bool, true, false, cond, List, [], ◌∷◌, map, Option, Some, None, nat_eq, max, refl, ap, ◌∙◌, inl, inr, arith}
use Rattle.std.specs.Prelude.{⊤, filter_map, find, option_map}
use Rattle.std.specs.List.{AllByRecursion}
use Rattle.std.proofs.lemmas.Bool.{cases_Bool}
use Rattle.mqtt_flow.specs.inbound.Identifiers.{ids_without}
use Rattle.mqtt_base.specs.declared.session.Ending.{Ending}
use Rattle.mqtt_base.specs.declared.session.Phase.{Phase}
use Rattle.mqtt_flow.specs.declared.outbound.entry.Turn.{Turn}
use Rattle.mqtt_flow.specs.declared.outbound.entry.Turn.TheVariants as turns
use Rattle.mqtt_records.specs.messages.Queue.{CopyRow}
use Rattle.mqtt_records.specs.state.Records.{changed_all}
use Rattle.mqtt_records.specs.state.Session.{copy_place}
use Rattle.mqtt_records.specs.declared.state.records.Records.{Records}
use Rattle.mqtt_records.specs.declared.state.session.Session.{Session}
use Rattle.mqtt_records.specs.lists.Order.{row_at}
use Rattle.mqtt_rules.proofs.step_lemmas.numbers.Copies.{each_append}
use Rattle.mqtt_rules.specs.step.Outbound.{all_turn_deeds, of_entry, turn_deeds}
use Rattle.mqtt_world_model.proofs.model_lemmas.seats.Seeing.{done_lines}
use Rattle.mqtt_records.specs.declared.state.change.Change.{Change}
use Rattle.mqtt_rules.proofs.step_lemmas.acts.Goods.{AreGood}
use Rattle.mqtt_rules.proofs.step_lemmas.lines.LineLaw.{unique_quiet}
use Rattle.mqtt_rules.proofs.step_lemmas.numbers.Counters.{now_stays}
use Rattle.mqtt_rules.proofs.step_lemmas.lines.LineRows.{IsQuiet, IsQuietOn, numbered}
use Rattle.mqtt_rules.specs.step.Deeds.{At, Deed, Gone, Greet, Hear, Leave, Link, LinePart, Mark, On, Part, Send, SetAlias, Went, after, after_all, closing, line_after, lines_at, on_line, part_rows_of, rows_of_all, without_place}
use Rattle.mqtt_rules.specs.step.Lines.{HasUniqueLines}
use Rattle.mqtt_rules.specs.step.State.{Line as BrokerLine, Broker, MemberChoice, is_of, session_at}
use Rattle.mqtt_rules.specs.step.Step.{Call, at_moment, deeds, stepped, with_moment}
use Rattle.mqtt_rules.specs.declared.step.Capacity.{Capacity}

-- the Receive Maximum and the Maximum Packet Size on the line of a number
abbrev pub way_on : ℕ → List BrokerLine → Option (ℕ × ℕ)
way_on n ls = option_map (λ (l : BrokerLine). (l.window, l.largest)) (find (λ (l : BrokerLine). nat_eq l.number n) ls)

way_first : (n : ℕ) (x y : BrokerLine) (xs ys : List BrokerLine) → y.number ≡ x.number → y.window ≡ x.window → y.largest ≡ x.largest → way_on n ys ≡ way_on n xs → way_on n (y ∷ ys) ≡ way_on n (x ∷ xs)
way_first n x y xs ys a b c h = elim (cases_Bool (nat_eq x.number n)) [
  | inl here ↦ let there : nat_eq y.number n ≡ true = ap (λ (k : ℕ). nat_eq k n) a ∙ here in rw (there, here) (λ i. Some (b i, c i))
  | inr further ↦ let there : nat_eq y.number n ≡ false = ap (λ (k : ℕ). nat_eq k n) a ∙ further in rw (there, further) h
]

same_window : (now : ℕ) (part : LinePart) (l : BrokerLine) → IsQuietOn part → (line_after now part l).window ≡ l.window
same_window now Hear l q = refl
same_window now (Greet birth keep_alive window largest most) l q = absurd q
same_window now (SetAlias alias topic) l q = refl
same_window now (Went place) l q = refl

same_largest : (now : ℕ) (part : LinePart) (l : BrokerLine) → IsQuietOn part → (line_after now part l).largest ≡ l.largest
same_largest now Hear l q = refl
same_largest now (Greet birth keep_alive window largest most) l q = absurd q
same_largest now (SetAlias alias topic) l q = refl
same_largest now (Went place) l q = refl

way_marked : (now n m : ℕ) (part : LinePart) (ls : List BrokerLine) → IsQuietOn part → way_on n (on_line now m part ls) ≡ way_on n ls
way_marked now n m part [] q = refl
way_marked now n m part (l ∷ ls) q = elim (cases_Bool (nat_eq l.number m)) [
  | inl here ↦ rw here (way_first n l (line_after now part l) ls ls (numbered now part l) (same_window now part l q) (same_largest now part l q) refl)
  | inr further ↦ rw further (way_first n l l ls (on_line now m part ls) refl refl refl (way_marked now n m part ls q))
]

way_without : (n birth place : ℕ) (ls : List BrokerLine) → way_on n (map (without_place birth place) ls) ≡ way_on n ls
way_without n birth place [] = refl
way_without n birth place (l ∷ ls) =
    way_first n l (without_place birth place l) ls (map (without_place birth place) ls) (by_number (is_of l.session birth)) (by_window (is_of l.session birth)) (by_largest (is_of l.session birth)) (way_without n birth place ls)
  where
    dropped : Bool → BrokerLine
    dropped z = cond z (record l { went = ids_without place l.went }) l

    by_number : (z : Bool) → (dropped z).number ≡ l.number
    by_number true = refl
    by_number false = refl

    by_window : (z : Bool) → (dropped z).window ≡ l.window
    by_window true = refl
    by_window false = refl

    by_largest : (z : Bool) → (dropped z).largest ≡ l.largest
    by_largest true = refl
    by_largest false = refl

way_part : (n birth : ℕ) (part : Part) (ls : List BrokerLine) → way_on n (lines_at birth part ls) ≡ way_on n ls
way_part n birth (Leave e ending) ls = way_without n birth e.place ls
way_part n birth part ls = refl

way_deed : (n : ℕ) (d : Deed) (b : Broker) → IsQuiet d b → way_on n (after d b).lines ≡ way_on n b.lines
way_deed n (Link m) b q = absurd q
way_deed n (Gone m) b q = absurd q
way_deed n (At who part) b q = way_part n who.birth part b.lines
way_deed n (On m part) b q = way_marked b.now n m part b.lines q
way_deed n d b q = refl

way_deeds : (n : ℕ) (ds : List Deed) (b : Broker) → AreGood IsQuiet ds b → way_on n (after_all ds b).lines ≡ way_on n b.lines
way_deeds n [] b q = refl
way_deeds n (d ∷ ds) b q = way_deeds n ds (after d b) q.1 ∙ way_deed n d b q.0

closes_none : (d : Deed) (b : Broker) → IsQuiet d b → closing d ≡ None
closes_none (Gone n) b q = absurd q
closes_none d b q = refl

-- quiet deeds close no line
pub none_closed : (ds : List Deed) (b : Broker) → AreGood IsQuiet ds b → filter_map closing ds ≡ []
none_closed [] b q = refl
none_closed (d ∷ ds) b q = rw (closes_none d b q.0) (none_closed ds (after d b) q.1)

-- ---- a call of such deeds

-- and keep what a line lets through
pub quiet_way : (n : ℕ) (limits : Capacity) (choice : MemberChoice) (now : ℕ) (call : Call) (b : Broker) → AreGood IsQuiet (deeds limits choice now call b) (at_moment now b)
    → way_on n (stepped limits choice now call b).lines ≡ way_on n b.lines
quiet_way n limits choice now call b q =
    let first = at_moment now b in
    let ds = deeds limits choice now call b in
    ap (way_on n) (done_lines (rows_of_all ds first.records) (after_all ds first)) ∙ way_deeds n ds first q

moment_unique : (rows : List Change) (b : Broker) → HasUniqueLines b → HasUniqueLines (with_moment rows b)
moment_unique [] b u = u
moment_unique (row ∷ rows) b u = record { ascending = u.ascending; given = u.given; once = u.once; stands = u.stands; connected = u.connected }

-- and each session on one line
pub quiet_unique : (limits : Capacity) (choice : MemberChoice) (now : ℕ) (call : Call) (b : Broker) → AreGood IsQuiet (deeds limits choice now call b) (at_moment now b)
    → HasUniqueLines b → HasUniqueLines (stepped limits choice now call b)
quiet_unique limits choice now call b q u =
    let first = at_moment now b in
    let ds = deeds limits choice now call b in
    let before : HasUniqueLines first = record { ascending = u.ascending; given = u.given; once = u.once; stands = u.stands; connected = u.connected } in
    moment_unique (rows_of_all ds first.records) (after_all ds first) (unique_quiet ds first q before)

-- the same moment handed in once more is no later
pub moment_again : (a c : ℕ) → max (max a c) c ≡ max a c
moment_again a c = omega arith

-- the moment of a step stays
moment_now : (rows : List Change) (b : Broker) → (with_moment rows b).now ≡ b.now
moment_now [] b = refl
moment_now (row ∷ rows) b = refl

-- a step's moment is the one that it begins with
pub step_now : (limits : Capacity) (choice : MemberChoice) (now : ℕ) (call : Call) (b : Broker) → (stepped limits choice now call b).now ≡ (at_moment now b).now
step_now limits choice now call b =
    let first = at_moment now b in
    let ds = deeds limits choice now call b in
    moment_now (rows_of_all ds first.records) (after_all ds first) ∙ now_stays ds first

-- ---- turns of a session leave the retained messages, and count no SUBSCRIBE

-- retained messages and granted filters are as before
pub record HasSame (b d : Broker) : Type 0 where
  pub retained : d.records.retained ≡ b.records.retained
  pub subscribes : d.records.subscribes ≡ b.records.subscribes

abbrev pub IsOfTurn : Deed → Type 0
IsOfTurn (At who (Mark place phase)) = ⊤
IsOfTurn (At who (Leave e ending)) = ⊤
IsOfTurn (On n part) = ⊤
IsOfTurn (Send n packet) = ⊤
IsOfTurn d = ⊥

turn_entry : (o : Option CopyRow) (f : CopyRow → List Deed) → ((e : CopyRow) → AllByRecursion IsOfTurn (f e)) → AllByRecursion IsOfTurn (of_entry o f)
turn_entry None f h = tt
turn_entry (Some e) f h = h e

-- the deeds of a turn are such
pub of_turn : (now line : ℕ) (s : Session) (t : Turn) → AllByRecursion IsOfTurn (turn_deeds now line s t)
of_turn now line s (turns.Send place i) = turn_entry (row_at copy_place place s.queue) _ (λ e. (tt, (tt, (tt, tt))))
of_turn now line s (turns.Resend place i) = turn_entry (row_at copy_place place s.queue) _ (λ e. (tt, (tt, tt)))
of_turn now line s (turns.Release place i order) = (tt, (tt, tt))
of_turn now line s (turns.Outgrow place i order) = (tt, (tt, tt))
of_turn now line s (turns.Repeat i) = (tt, tt)
of_turn now line s (turns.Unknown i) = (tt, tt)
of_turn now line s (turns.Leave place ending) = turn_entry (row_at copy_place place s.queue) _ (λ e. (tt, tt))

-- so are those of many
pub of_turns : (now line : ℕ) (s : Session) (ts : List Turn) → AllByRecursion IsOfTurn (all_turn_deeds now line s ts)
of_turns now line s [] = tt
of_turns now line s (t ∷ ts) = each_append IsOfTurn (turn_deeds now line s t) (all_turn_deeds now line s ts) (of_turn now line s t) (of_turns now line s ts)

marked_same : (place : ℕ) (phase : Phase) (o : Option Session) (b : Broker) (r : Records) → r ≡ changed_all (part_rows_of (Mark place phase) o) b.records → (r.retained ≡ b.records.retained) × (r.subscribes ≡ b.records.subscribes)
marked_same place phase None b r e = (ap (λ (x : Records). x.retained) e, ap (λ (x : Records). x.subscribes) e)
marked_same place phase (Some s) b r e = (ap (λ (x : Records). x.retained) e, ap (λ (x : Records). x.subscribes) e)

left_same : (f : CopyRow) (ending : Ending) (o : Option Session) (b : Broker) (r : Records) → r ≡ changed_all (part_rows_of (Leave f ending) o) b.records → (r.retained ≡ b.records.retained) × (r.subscribes ≡ b.records.subscribes)
left_same f ending None b r e = (ap (λ (x : Records). x.retained) e, ap (λ (x : Records). x.subscribes) e)
left_same f ending (Some s) b r e = (ap (λ (x : Records). x.retained) e, ap (λ (x : Records). x.subscribes) e)

deed_same : (d : Deed) (b : Broker) → IsOfTurn d → HasSame b (after d b)
deed_same (At who (Mark place phase)) b q = let x = marked_same place phase (session_at who.birth b.records) b (after (At who (Mark place phase)) b).records refl in record { retained = x.0; subscribes = x.1 }
deed_same (At who (Leave e ending)) b q = let x = left_same e ending (session_at who.birth b.records) b (after (At who (Leave e ending)) b).records refl in record { retained = x.0; subscribes = x.1 }
deed_same (On n part) b q = record { retained = refl; subscribes = refl }
deed_same (Send n packet) b q = record { retained = refl; subscribes = refl }
deed_same d b q = absurd q

deeds_same : (ds : List Deed) (b : Broker) → AllByRecursion IsOfTurn ds → HasSame b (after_all ds b)
deeds_same [] b q = record { retained = refl; subscribes = refl }
deeds_same (d ∷ ds) b q =
    let one = deed_same d b q.0 in
    let more = deeds_same ds (after d b) q.1 in
    record { retained = more.retained ∙ one.retained; subscribes = more.subscribes ∙ one.subscribes }

moment_same : (rows : List Change) (b : Broker) → HasSame b (with_moment rows b)
moment_same [] b = record { retained = refl; subscribes = refl }
moment_same (row ∷ rows) b = record { retained = refl; subscribes = refl }

-- a call of such deeds keeps sessions and lines
pub call_same : (limits : Capacity) (choice : MemberChoice) (now : ℕ) (call : Call) (b : Broker) → AllByRecursion IsOfTurn (deeds limits choice now call b) → HasSame b (stepped limits choice now call b)
call_same limits choice now call b q =
    let first = at_moment now b in
    let ds = deeds limits choice now call b in
    let x = deeds_same ds first q in
    let y = moment_same (rows_of_all ds first.records) (after_all ds first) in
    record { retained = y.retained ∙ x.retained; subscribes = y.subscribes ∙ x.subscribes }
