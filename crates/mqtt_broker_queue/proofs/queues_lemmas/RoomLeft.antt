-- What a copy's entering leaves: its session's queue is within the limit, with room for at most one copy less.
use Rattle.std.proofs.Common.{◌≡◌, ℕ, suc, ◌+◌, ◌-◌, ◌<◌, ◌≤◌, Bool, true, false, ◌||◌, cond, List, [], ◌∷◌, ◌++◌, length, map, Option, Some, nat_eq, nat_lt, refl, ap, sym, subst, ◌∙◌, arith, inl, inr}
use Rattle.std.specs.Prelude.{flat_map, is_some, find}
use Rattle.std.specs.List.{AllByRecursion}
use Rattle.std.proofs.lemmas.Bool.{cases_Bool, lt-ltb, ltb-true, ltb-false}
use Rattle.mqtt_base.specs.declared.limits.TheConstants.{QUEUE_LIMIT}
use Rattle.mqtt_flow.specs.declared.outbound.entry.Entry.{Entry as FlowEntry}
use Rattle.mqtt_flow.specs.declared.outbound.entry.Turn.{Turn}
use Rattle.mqtt_flow.specs.declared.outbound.entry.Turn.TheVariants as turns
use Rattle.mqtt_flow.specs.outbound.Outbound.{staying, way_made, has_room, dropped}
use Rattle.mqtt_flow.specs.outbound.Queue as flow
use Rattle.mqtt_flow.proofs.outbound_lemmas.outbound.Room.{below_limit}
use Rattle.mqtt_records.specs.declared.messages.message.MessageCopy.{MessageCopy}
use Rattle.mqtt_records.specs.messages.Queue.{CopyRow}
use Rattle.mqtt_records.specs.declared.state.session.Session.{Session}
use Rattle.mqtt_records.specs.lists.Order.{IsAbove, IsAscending, row_at, has_row, put_row, change_row, insert_row}
use Rattle.mqtt_records.proofs.lists_lemmas.LookUps.{put_row-last}
use Rattle.mqtt_records.specs.state.Session.{birth_of, copy_place, with_copy, without_copy}
use Rattle.mqtt_records.specs.state.Records.{changed_all}
use Rattle.mqtt_rules.specs.step.State.{Broker, Env, session_at, entry_on, queue_on, next_of}
use Rattle.mqtt_rules.specs.step.Deeds.{At, Enter, whose, after, after_all, part_rows_of, new_entry}
use Rattle.mqtt_rules.specs.step.Laws.{HasEntered}
use Rattle.mqtt_rules.specs.step.Outbound.{leave_deeds, enter_deeds, first_given, queue_limits, room, since}
use Rattle.mqtt_rules.proofs.step_lemmas.flight.FlightRows.{found_key}
use Rattle.mqtt_rules.proofs.step_lemmas.acts.Goods.{after_append}
use Rattle.mqtt_rules.proofs.step_lemmas.numbers.NumberBirths.{below_none}
use Rattle.mqtt_rules.proofs.step_lemmas.order.OrderedEnters.{change_here, change_other, new_of, leave_found}
use Rattle.mqtt_rules.proofs.step_lemmas.order.OrderedQueues.{GivesWay, below_own, dropped_gives, first_place, leaving, leaving_flow, length-append_one, length-mapped, stay, stay_is, stay_more}

-- ---- the copies that make way leave

record Left (birth : ℕ) (q : List CopyRow) (ss new : List Session) : Type 0 where
  mine : Session
  found : row_at birth_of birth new ≡ Some mine
  queue : mine.queue ≡ q
  others : (other : ℕ) → nat_eq birth other ≡ false → row_at birth_of other new ≡ row_at birth_of other ss

-- one leaves
all_leave : (first : ℕ) (s : Session) (ts : List Turn) (now : Session) (b : Broker) → AllByRecursion (GivesWay first s.queue) ts → session_at s.birth b.records ≡ Some now
    → Left s.birth (leaving ts now.queue) b.records.sessions (after_all (flat_map (leave_deeds s) ts) b).records.sessions
all_leave first s [] now b all found = record { mine = now; found = found; queue = refl; others = λ other differ. refl }
all_leave first s (turns.Leave place ending ∷ ts) now b all found =
    let ds = leave_deeds s (turns.Leave place ending) in
    let c = after_all ds b in
    let is : c.records.sessions ≡ change_row birth_of s.birth (without_copy place) b.records.sessions = leave_found s now place ending b (row_at copy_place place s.queue) refl all.0.0 found in
    let next : session_at s.birth c.records ≡ Some (without_copy place now) =
    ap (row_at birth_of s.birth) is ∙ change_here birth_of s.birth (without_copy place) b.records.sessions now (λ x. refl) found in
    let rest = all_leave first s ts (without_copy place now) c all.1 next in
    let done : Left s.birth (leaving ts (without_copy place now).queue) b.records.sessions (after_all (flat_map (leave_deeds s) ts) c).records.sessions = record {
      mine = rest.mine;
      found = rest.found;
      queue = rest.queue;
      others = λ other differ. rest.others other differ
          ∙ (ap (row_at birth_of other) is ∙ change_other birth_of s.birth other (without_copy place) b.records.sessions (λ x. refl) differ);
    } in
    subst (λ (x : Broker). Left s.birth (leaving ts (without_copy place now).queue) b.records.sessions x.records.sessions) (sym (after_append ds (flat_map (leave_deeds s) ts) b)) done
all_leave first s (turns.Send place id ∷ ts) now b all found = absurd all.0
all_leave first s (turns.Resend place id ∷ ts) now b all found = absurd all.0
all_leave first s (turns.Release place id order ∷ ts) now b all found = absurd all.0
all_leave first s (turns.Outgrow place id order ∷ ts) now b all found = absurd all.0
all_leave first s (turns.Repeat id ∷ ts) now b all found = absurd all.0
all_leave first s (turns.Unknown id ∷ ts) now b all found = absurd all.0

-- ---- a copy enters behind those that stay

flow_above : (n : ℕ) (q : List CopyRow) → IsAbove copy_place n q → flow.Above n (map (entry_on []) q)
flow_above n [] up = tt
flow_above n (e ∷ es) up = (up.0, flow_above n es up.1)

flow_ascends : (q : List CopyRow) → IsAscending copy_place q → flow.Ascends (map (entry_on []) q)
flow_ascends [] up = tt
flow_ascends (e ∷ es) up = (flow_above e.place es up.0, flow_ascends es up.1)

none_dropped : (since : ℕ) (es : List FlowEntry) → dropped 0 since es ≡ []
none_dropped since [] = refl
none_dropped since (e ∷ es) = refl

abbrev ways : Env → Session → List Turn
ways env s = way_made (queue_limits env) (since env s) (queue_on [] s)

-- of a queue
abbrev room_by : Env → List CopyRow → ℕ
room_by env q = env.limits.queue - staying env.limits.full (first_given (find (new_of env) q) q) (map (entry_on []) q)

-- a queue that grew
record Grown (env : Env) (s : Session) (q : List CopyRow) : Type 0 where
  within : length q ≤ env.limits.queue
  room : room env s ≤ suc (room_by env q)

-- below the most that a queue has, the copy comes last
grows_below : (env : Env) (copy : MessageCopy) (s : Session) → (q : List CopyRow) → q ≡ leaving (ways env s) s.queue → length q < env.limits.queue → length q < QUEUE_LIMIT
    → Grown env s (put_row copy_place QUEUE_LIMIT (new_entry copy q) q)
grows_below env copy s q is less few =
    let first = since env s in
    let ts = ways env s in
    let n = new_entry copy q in
    let gives = dropped_gives (length (queue_on [] s) + 1 - env.limits.queue) first s.birth s.queue in
    let pushed : put_row copy_place QUEUE_LIMIT n q ≡ q ++ n ∷ [] = put_row-last copy_place QUEUE_LIMIT n q (below_own q) few in
    let one = length-append_one q n in
    let next : n.place ≡ next_of copy_place (leaving ts s.queue) = ap (next_of copy_place) is in
    let more = stay_more env.limits.full (new_of env) ts s.queue n next gives in
    let stays : stay env.limits.full (first_place (new_of env) (q ++ n ∷ [])) (q ++ n ∷ []) ≤ suc (stay env.limits.full first s.queue) =
    subst (λ (r : List CopyRow). stay env.limits.full (first_place (new_of env) (r ++ n ∷ [])) (r ++ n ∷ []) ≤ suc (stay env.limits.full first s.queue)) (sym is) more in
    let before = stay_is env.limits.full first s.birth s.queue in
    let later = stay_is env.limits.full (first_place (new_of env) (q ++ n ∷ [])) s.birth (q ++ n ∷ []) in
    let grown : Grown env s (q ++ n ∷ []) = record {
      within = omega (arith, one, less);
      room = omega (arith, before, later, stays);
    } in
    subst (Grown env s) (sym pushed) grown

-- else none made way, and the queue stays
grows_not : (env : Env) (copy : MessageCopy) (s : Session) (q : List CopyRow) → q ≡ leaving (ways env s) s.queue → length s.queue ≤ QUEUE_LIMIT → length q < env.limits.queue → nat_lt (length q) QUEUE_LIMIT ≡ false
    → Grown env s (put_row copy_place QUEUE_LIMIT (new_entry copy q) q)
grows_not env copy s q is few less many =
    let n = new_entry copy q in
    let over : QUEUE_LIMIT ≤ length q = ltb-false (length q) QUEUE_LIMIT many in
    let long = length-mapped (entry_on []) s.queue in
    let none : length (queue_on [] s) + 1 - env.limits.queue ≡ 0 = omega (arith, few, less, over, long) in
    let stays : ways env s ≡ [] = ap (λ k. dropped k (since env s) (queue_on [] s)) none ∙ none_dropped (since env s) (queue_on [] s) in
    let same : q ≡ s.queue = is ∙ ap (λ (ts : List Turn). leaving ts s.queue) stays in
    let new : has_row copy_place n.place q ≡ false = ap is_some (below_none copy_place n.place q (below_own q)) in
    let kept : put_row copy_place QUEUE_LIMIT n q ≡ q = ap (λ (t : Bool). cond t (insert_row copy_place n q) q) (ap (λ (t : Bool). t || nat_lt (length q) QUEUE_LIMIT) new ∙ many) in
    let grown : Grown env s s.queue = record {
      within = subst (λ (r : List CopyRow). length r ≤ env.limits.queue) same (omega (arith, less));
      room = omega arith;
    } in
    subst (Grown env s) (sym (kept ∙ same)) grown

grows : (env : Env) (copy : MessageCopy) (s : Session) (q : List CopyRow) → q ≡ leaving (ways env s) s.queue → length s.queue ≤ QUEUE_LIMIT → length q < env.limits.queue
    → Grown env s (put_row copy_place QUEUE_LIMIT (new_entry copy q) q)
grows env copy s q is few less = elim (cases_Bool (nat_lt (length q) QUEUE_LIMIT)) [
  | inl below ↦ grows_below env copy s q is less (ltb-true (length q) QUEUE_LIMIT below)
  | inr many ↦ grows_not env copy s q is few less many
]

-- a queue with room is below its limit when those that make way have left
below_when_left : (env : Env) (s : Session) → IsAscending copy_place s.queue → 0 < room env s → length (leaving (ways env s) s.queue) < env.limits.queue
below_when_left env s up free =
    let first = since env s in
    let gives = dropped_gives (length (queue_on [] s) + 1 - env.limits.queue) first s.birth s.queue in
    let has : has_room (queue_limits env) first (queue_on [] s) ≡ true = lt-ltb (staying env.limits.full first (queue_on [] s)) env.limits.queue (omega (arith, free)) in
    let below = below_limit (queue_limits env) first (queue_on [] s) has (flow_ascends s.queue up) in
    let as_flow = ap length (leaving_flow first s.birth s.queue (ways env s) s.queue gives) in
    let as_long = length-mapped (entry_on []) (leaving (ways env s) s.queue) in
    omega (arith, below, as_flow, as_long)

-- a copy that enters leaves its queue within the limit, with room for at most one less, and no other session changed
pub has_entered : (env : Env) (copy : MessageCopy) (s : Session) (b : Broker) → IsAscending copy_place s.queue → length s.queue ≤ QUEUE_LIMIT → session_at s.birth b.records ≡ Some s → 0 < room env s
    → HasEntered env s b.records (after_all (enter_deeds env copy s) b).records
has_entered env copy s b up few found free =
    let ts = ways env s in
    let ds = flat_map (leave_deeds s) ts in
    let c = after_all ds b in
    let left = all_leave (since env s) s ts s b (dropped_gives (length (queue_on [] s) + 1 - env.limits.queue) (since env s) s.birth s.queue) found in
    let n = new_entry copy left.mine.queue in
    let mine = with_copy n left.mine in
    let less : length left.mine.queue < env.limits.queue = subst (λ (q : List CopyRow). length q < env.limits.queue) (sym left.queue) (below_when_left env s up free) in
    let grown = grows env copy s left.mine.queue left.queue few less in
    let d = after (At (whose s) (Enter copy)) c in
    let is : d.records.sessions ≡ change_row birth_of s.birth (with_copy n) c.records.sessions =
    ap (λ (o : Option Session). (changed_all (part_rows_of (Enter copy) o) c.records).sessions) left.found
    ∙ ap (λ (k : ℕ). change_row birth_of k (with_copy n) c.records.sessions) (found_key birth_of s.birth left.mine c.records.sessions left.found) in
    let entered : HasEntered env s b.records d.records = record {
      session = mine;
      stands = ap (row_at birth_of s.birth) is ∙ change_here birth_of s.birth (with_copy n) c.records.sessions left.mine (λ x. refl) left.found;
      within = grown.within;
      room = grown.room;
      others = λ other differ. ap (row_at birth_of other) is ∙ (change_other birth_of s.birth other (with_copy n) c.records.sessions (λ x. refl) differ ∙ left.others other differ);
    } in
    subst (λ (x : Broker). HasEntered env s b.records x.records) (sym (after_append ds (At (whose s) (Enter copy) ∷ []) b)) entered
