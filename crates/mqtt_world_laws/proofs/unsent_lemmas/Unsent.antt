-- In a run: a copy that was read was sent before, so it doesn't leave its queue as one that waits; and what expires or makes way waits
-- (MQTT 5.0, 3.3.2.3.3, 4.3).
use Rattle.std.proofs.Common.{◌≡◌, ◌⊎◌, ℕ, zero, suc, ◌+◌, ◌<◌, ◌≤◌, List, [], ◌∷◌, ◌++◌, map, Option, Some, None, bytes_eq, refl, sym, ap, subst, ◌∙◌, append_assoc, arith, inl, inr}
use Rattle.std.specs.Prelude.{All, filter_map, find}
use Rattle.std.specs.List.{AllByRecursion}
use Rattle.std.proofs.lemmas.List.{map-append}
use Rattle.std.proofs.lemmas.List.Elements.{All-from_recursion, filter_map-append}
use Rattle.mqtt_base.specs.declared.session.CopyId.{CopyId}
use Rattle.mqtt_rules.specs.step.Deeds.{At, Deed, Leave}
use Rattle.mqtt_rules.specs.step.Laws.{IsAmong}
use Rattle.mqtt_rules.specs.declared.step.Capacity.{Capacity}
use Rattle.mqtt_rules.proofs.step_lemmas.acts.Leads.{found_among}
use Rattle.mqtt_rules.proofs.step_lemmas.numbers.Copies.{each_append, each_more}
use Rattle.mqtt_world_model.specs.model.Ends.{Entry, Receiver}
use Rattle.mqtt_world_model.specs.model.Laws.{copies_in, count_of, handed_count, read_count, standing}
use Rattle.mqtt_world_model.specs.model.Run.{End, Turn, after, deeds_at, deeds_over, ended_in, ended_over, run, setting, turned}
use Rattle.mqtt_world_model.specs.model.World.{World, receiver_named, start}
use Rattle.mqtt_world_laws.specs.acceptance.Copies.{ended_from}
use Rattle.mqtt_world_laws.specs.acceptance.Fair.{IsFair}
use Rattle.mqtt_world_laws.specs.acceptance.Identities.{TellsApart}
use Rattle.mqtt_world_laws.proofs.acceptance_lemmas.copies.Counting.{count_append}
use Rattle.mqtt_world_laws.proofs.acceptance_lemmas.copies.OnceRuns.{start_apart}
use Rattle.mqtt_world_laws.proofs.receiver_lemmas.drains.DrainRuns.{run_append}
use Rattle.mqtt_world_laws.proofs.receiver_lemmas.queue.Numbers.{place_of}
use Rattle.mqtt_world_laws.specs.receiver.Connecting.{any_size}
use Rattle.mqtt_world_laws.specs.delivery.Untouched.{IsUntouched}
use Rattle.mqtt_world_laws.proofs.delivery_lemmas.broker.Untouched.{start_untouched}
use Rattle.mqtt_world_laws.proofs.delivery_lemmas.others.Clients.{run_found}
use Rattle.mqtt_world_laws.proofs.delivery_lemmas.others.Standings.{runs_so}
use Rattle.mqtt_world_laws.proofs.delivery_lemmas.whole.EveryRun.{carried_append, fair_run_kept, run_keeps_ledger, spent_append}
use Rattle.mqtt_world_laws.proofs.delivery_lemmas.whole.Ledgers.{Grows, IsFront}
use Rattle.mqtt_world_laws.specs.unsent.Unsent.{IsAsRead, IsOver, IsUnread, WasLeftWaiting, WasNeverHanded}
use Rattle.mqtt_world_laws.proofs.unsent_lemmas.Once.{counts_itself, run_once, session_counts, sessions_sent}
use Rattle.mqtt_world_laws.proofs.unsent_lemmas.Readings.{IsReadIn, ReadsNext, count_at, counts, is_read, less_or_not}
use Rattle.mqtt_world_laws.proofs.unsent_lemmas.Sent.{next_sent}
use Rattle.mqtt_world_laws.proofs.unsent_lemmas.Walks.{AreLate, AreOthers, IsGone, IsOther, run_late, run_others}

-- ---- the deeds of one run and then another

deeds_parts : (limits : Capacity) (xs ys : List Turn) (w : World) → deeds_over limits (xs ++ ys) w ≡ deeds_over limits xs w ++ deeds_over limits ys (run limits xs w)
deeds_parts limits [] ys w = refl
deeds_parts limits (t ∷ xs) ys w =
    let u = turned limits t w in
    let ds = deeds_at (setting limits t) t.event w in
    ap (λ (es : List Deed). ds ++ es) (deeds_parts limits xs ys u) ∙ sym (append_assoc ds (deeds_over limits xs u) (deeds_over limits ys (run limits xs u)))

-- ---- a copy that hasn't ended

abbrev ended_copies : List Deed → List CopyId
ended_copies ds = map (λ (e : End). e.copy) (filter_map ended_in ds)

none_ended : (x : CopyId) (ds : List Deed) → count_of x (ended_copies ds) ≡ 0 → AreOthers x ds
none_ended x [] none = tt
none_ended x (d ∷ ds) none = one d none (none_ended x ds)
  where
    one : (d : Deed) → count_of x (ended_copies (d ∷ ds)) ≡ 0 → (count_of x (ended_copies ds) ≡ 0 → AreOthers x ds) → IsOther x d × AreOthers x ds
    one (At who (Leave e ending)) none_there more =
        let all : count_of x (ended_copies (At who (Leave e ending) ∷ ds)) ≡ count_of x (e.copy.id ∷ []) + count_of x (ended_copies ds) = count_append x (e.copy.id ∷ []) (ended_copies ds) in
        let rest : count_of x (ended_copies ds) ≡ 0 = omega (arith, all, none_there) in
        ((λ is waits. let its = counts_itself x e.copy.id is in absurd (omega (arith, all, none_there, its))), more rest)
    one d none_there more = (tt, more none_there)

-- ---- where a copy is read next

-- in a run from there, it was sent, and has had no end
record IsReadWhere (x : CopyId) (limits : Capacity) (ts : List Turn) (w : World) : Type 0 where
  gone : IsGone x (run limits ts w).broker
  unended : count_of x (ended_from limits ts w) ≡ 0

read_where : (x : CopyId) (limits : Capacity) (ts : List Turn) (w : World) (c : List ℕ) → IsUntouched limits w → TellsApart w.broker.records → IsFair limits ts w → ReadsNext c x (run limits ts w) → IsReadWhere x limits ts w
read_where x limits ts w c u apart fair m =
    let v = run limits ts w in
    let s = (fair_run_kept limits ts w u fair c).stands in
    let runs = runs_so c any_size limits s.ids s.ns m.reader v s.standing m.named in
    let sent = next_sent (place_of s.ids) any_size runs.after m.reader v.broker runs.run_is x m.next in
    let once = run_once x limits ts w u.new fair apart in
    let few = once.once in
    let there = found_among _ sent.session v.broker.records.sessions sent.named in
    let some : 1 ≤ count_of x (standing v.broker) = session_counts x sent.session sent.row.row v.broker.records.sessions there sent.row.among sent.row.its in
    let most : count_of x (standing v.broker) ≤ 1 = omega (arith, few) in
    record {
      gone = record {
        sent = sessions_sent x sent.session sent.row.row v.broker.records.sessions there sent.row.among sent.row.its sent.row.sent most;
        kept = once.kept;
        come = omega (arith, few, some);
      };
      unended = omega (arith, few, some);
    }

-- ---- a copy that was read

fair_first : (limits : Capacity) (xs ys : List Turn) (w : World) → IsFair limits (xs ++ ys) w → IsFair limits xs w
fair_first limits xs ys w fair = record { within = fair.within; unspent = (spent_append limits xs ys w fair.unspent).0; clean = (carried_append limits xs ys w fair.clean).0 }

abbrev counts_of : CopyId → Option Receiver → ℕ
counts_of x None = 0
counts_of x (Some r) = counts x r

named_counts : (x : CopyId) (c : List ℕ) (w : World) (r : Receiver) → receiver_named c w ≡ Some r → count_at c x w ≡ counts x r
named_counts x c w r e = ap (counts_of x) e

module _ (limits : Capacity) (ts : List Turn) (w : World) (u : IsUntouched limits w) (apart : TellsApart w.broker.records) (fair : IsFair limits ts w) (c : List ℕ) (r : Receiver) (e : receiver_named c (run limits ts w) ≡ Some r) where
  none_yet : (x : CopyId) → count_at c x w ≡ 0
  none_yet x = ap (λ (rs : List Receiver). counts_of x (find (λ (q : Receiver). bytes_eq q.client c) rs)) u.new.receivers

  read_others : (x : CopyId) → IsReadIn c x limits ts w → AreOthers x (deeds_over limits ts w)
  read_others x m =
      let v = run limits m.first w in
      let whole = subst (λ (zs : List Turn). IsFair limits zs w) (sym m.are) fair in
      let begun = fair_first limits m.first m.later w whole in
      let steady = (fair_run_kept limits m.first w u begun c).stands.standing.around.steady in
      let h = read_where x limits m.first w c u apart begun m.moment in
      let first = none_ended x (deeds_over limits m.first w) h.unended in
      let later = run_others x limits m.later v fair.within steady (spent_append limits m.first m.later w whole.unspent).1 h.gone in
      subst (λ (zs : List Turn). AreOthers x (deeds_over limits zs w)) m.are
      (subst (AreOthers x) (sym (deeds_parts limits m.first m.later w)) (each_append (IsOther x) (deeds_over limits m.first w) (deeds_over limits m.later v) first later))

  -- so what leaves waiting was not
  abbrev IsLeft : Deed → Type 0
  IsLeft = WasLeftWaiting r

  unread : (x : CopyId) → (AreOthers x (deeds_over limits ts w) → ⊥) → IsUnread r x
  unread x clash = by (counts x r) refl
    where
      by : (n : ℕ) → counts x r ≡ n → IsUnread r x
      by zero is = record { unhanded = omega (arith, is); unread = omega (arith, is) }
      by (suc n) is =
          let all = named_counts x c (run limits ts w) r e in
          let none = none_yet x in
          absurd (clash (read_others x (is_read c x limits ts w (omega (arith, is, all, none)))))

  at_deed : (x : CopyId) (d : Deed) (ds : List Deed) → IsAmong d ds → AreOthers x ds → IsOther x d
  at_deed x d [] among h = absurd among
  at_deed x d (y ∷ ys) (inl it) h = subst (IsOther x) it h.0
  at_deed x d (y ∷ ys) (inr more) h = at_deed x d ys more h.1

  one_left : (d : Deed) → IsAmong d (deeds_over limits ts w) → IsLeft d
  one_left (At who (Leave row ending)) among = λ waits. unread row.copy.id (λ others. at_deed row.copy.id (At who (Leave row ending)) (deeds_over limits ts w) among others refl waits)
  one_left d among = tt

  all_left : (ds : List Deed) → ((d : Deed) → IsAmong d ds → IsAmong d (deeds_over limits ts w)) → AllByRecursion IsLeft ds
  all_left [] there = tt
  all_left (d ∷ ds) there = (one_left d (there d (inl refl)), all_left ds (λ y among. there y (inr among)))

  left_waiting : AllByRecursion IsLeft (deeds_over limits ts w)
  left_waiting = all_left (deeds_over limits ts w) (λ d among. among)

  ends_unread : (ds : List Deed) → AllByRecursion IsLeft ds → AreLate ds → AllByRecursion (WasNeverHanded r) (filter_map ended_in ds)
  ends_unread [] h late = tt
  ends_unread (At who (Leave row ending) ∷ ds) h late = ((λ by. h.0 (late.0 by)), ends_unread ds h.1 late.1)
  ends_unread (d ∷ ds) h late = ends_unread ds h.1 late.1

  never_handed : AllByRecursion (WasNeverHanded r) (filter_map ended_in (deeds_over limits ts w))
  never_handed = ends_unread (deeds_over limits ts w) left_waiting (run_late limits ts w u.new fair)

-- ---- a copy that has ended

-- a receiver that has read it as often as before
counts_same : (x : CopyId) (q r : Receiver) → Grows q r → counts x r ≤ counts x q → (handed_count x r ≡ handed_count x q) × (read_count x r ≡ read_count x q)
counts_same x q r g most =
    let ledger : count_of x (copies_in r.ledger) ≡ count_of x (copies_in q.ledger) + count_of x (copies_in g.ledger.0) = grown_by q.ledger r.ledger g.ledger in
    let once : count_of x (copies_in r.once) ≡ count_of x (copies_in q.once) + count_of x (copies_in g.once.0) = grown_by q.once r.once g.once in
    (omega (arith, ledger, once, most), omega (arith, ledger, once, most))
  where
    grown_by : (xs ys : List Entry) (f : IsFront xs ys) → count_of x (copies_in ys) ≡ count_of x (copies_in xs) + count_of x (copies_in f.0)
    grown_by xs ys f = ap (λ (es : List Entry). count_of x (copies_in es)) f.1 ∙ (ap (count_of x) (filter_map-append (λ (z : Entry). z.copy) xs f.0) ∙ count_append x (copies_in xs) (copies_in f.0))

ended_more : (x : CopyId) (limits : Capacity) (xs ys : List Turn) (w : World) → count_of x (ended_from limits xs w) ≤ count_of x (ended_from limits (xs ++ ys) w)
ended_more x limits xs ys w =
    let first = ended_from limits xs w in
    let later = ended_from limits ys (run limits xs w) in
    let parts : ended_from limits (xs ++ ys) w ≡ first ++ later =
    ap ended_copies (deeds_parts limits xs ys w) ∙ (ap (λ (es : List End). map (λ (e : End). e.copy) es) (filter_map-append ended_in (deeds_over limits xs w) (deeds_over limits ys (run limits xs w))) ∙ map-append (λ (e : End). e.copy) (filter_map ended_in (deeds_over limits xs w)) (filter_map ended_in (deeds_over limits ys (run limits xs w)))) in
    let all : count_of x (ended_from limits (xs ++ ys) w) ≡ count_of x first + count_of x later = ap (count_of x) parts ∙ count_append x first later in
    omega (arith, all)

module _ (limits : Capacity) (xs ys : List Turn) (w : World) (u : IsUntouched limits w) (apart : TellsApart w.broker.records) (fair : IsFair limits (xs ++ ys) w) (c : List ℕ) (q r : Receiver) (e : receiver_named c (run limits xs w) ≡ Some q) (f : receiver_named c (run limits (xs ++ ys) w) ≡ Some r) where
  abbrev v : World
  v = run limits xs w

  found : receiver_named c (run limits ys v) ≡ Some r
  found = sym (ap (receiver_named c) (run_append limits xs ys w)) ∙ f

  -- it isn't read any more
  none_later : (x : CopyId) → 1 ≤ count_of x (ended_from limits xs w) → IsReadIn c x limits ys v → ⊥
  none_later x ended m =
      let zs = xs ++ m.first in
      let whole : IsFair limits (zs ++ m.later) w = subst (λ (ts : List Turn). IsFair limits ts w) (sym (append_assoc xs m.first m.later ∙ ap (λ (ts : List Turn). xs ++ ts) m.are)) fair in
      let moment = subst (λ (z : World). ReadsNext c x z) (sym (run_append limits xs m.first w)) m.moment in
      let h = read_where x limits zs w c u apart (fair_first limits zs m.later w whole) moment in
      let none = h.unended in
      let more = ended_more x limits xs m.first w in
      omega (arith, none, more, ended)

  over : (x : CopyId) → 1 ≤ count_of x (ended_from limits xs w) → IsAsRead q r x
  over x ended = by (less_or_not (counts x q) (counts x r))
    where
      by : (counts x q < counts x r) ⊎ (counts x r ≤ counts x q) → IsAsRead q r x
      by (inl less) =
          let before = named_counts x c v q e in
          let after_all = named_counts x c (run limits ys v) r found in
          absurd (none_later x ended (is_read c x limits ys v (omega (arith, less, before, after_all))))
      by (inr most) = let same = counts_same x q r (run_keeps_ledger limits ys v c q r e found) most in record { handed = same.0; read = same.1 }

  all_over : (es : List End) → ((x : CopyId) → count_of x (map (λ (y : End). y.copy) es) ≤ count_of x (ended_from limits xs w)) → AllByRecursion (λ (y : End). IsAsRead q r y.copy) es
  all_over [] few = tt
  all_over (y ∷ es) few =
      let its = counts_itself y.copy y.copy refl in
      let rest : (x : CopyId) → count_of x (map (λ (z : End). z.copy) (y ∷ es)) ≡ count_of x (y.copy ∷ []) + count_of x (map (λ (z : End). z.copy) es) = λ x. count_append x (y.copy ∷ []) (map (λ (z : End). z.copy) es) in
      let here = rest y.copy in
      let all = few y.copy in
      (over y.copy (omega (arith, its, here, all)), all_over es (λ x. let part = rest x in let whole = few x in omega (arith, part, whole)))

-- ---- the laws

-- each copy that left its queue while it waited has been handed to no receiver
pub run_left_waiting : (limits : Capacity) (ts : List Turn) (w : World) → IsUntouched limits w → TellsApart w.broker.records → IsFair limits ts w → (c : List ℕ) (r : Receiver) → receiver_named c (run limits ts w) ≡ Some r
    → All (WasLeftWaiting r) (deeds_over limits ts w)
run_left_waiting limits ts w u apart fair c r e = All-from_recursion (WasLeftWaiting r) (deeds_over limits ts w) (left_waiting limits ts w u apart fair c r e)

-- so has each that expired or made way
pub run_never_handed : (limits : Capacity) (ts : List Turn) (w : World) → IsUntouched limits w → TellsApart w.broker.records → IsFair limits ts w → (c : List ℕ) (r : Receiver) → receiver_named c (run limits ts w) ≡ Some r
    → All (WasNeverHanded r) (filter_map ended_in (deeds_over limits ts w))
run_never_handed limits ts w u apart fair c r e = All-from_recursion (WasNeverHanded r) (filter_map ended_in (deeds_over limits ts w)) (never_handed limits ts w u apart fair c r e)

-- to each receiver, from nothing stored
pub all_never_handed : (limits : Capacity) (ts : List Turn) → IsFair limits ts start → All (λ (r : Receiver). All (WasNeverHanded r) (ended_over limits ts)) (after limits ts).receivers
all_never_handed limits ts fair =
    let rs = (after limits ts).receivers in
    All-from_recursion (λ (r : Receiver). All (WasNeverHanded r) (ended_over limits ts)) rs
    (each_more (λ (r : Receiver). receiver_named r.client (run limits ts start) ≡ Some r) (λ (r : Receiver). All (WasNeverHanded r) (ended_over limits ts))
    (λ r found. run_never_handed limits ts start (start_untouched limits fair.within) start_apart fair r.client r found) rs (run_found limits ts start tt))

-- what has ended is over: a receiver has read it at the end as often as it had then
pub run_over : (limits : Capacity) (xs ys : List Turn) (w : World) → IsUntouched limits w → TellsApart w.broker.records → IsFair limits (xs ++ ys) w → (c : List ℕ) (q r : Receiver) → receiver_named c (run limits xs w) ≡ Some q → receiver_named c (run limits (xs ++ ys) w) ≡ Some r
    → All (IsOver q r) (filter_map ended_in (deeds_over limits xs w))
run_over limits xs ys w u apart fair c q r e f = All-from_recursion (IsOver q r) (filter_map ended_in (deeds_over limits xs w)) (all_over limits xs ys w u apart fair c q r e f (filter_map ended_in (deeds_over limits xs w)) (λ x. omega arith))
