-- A copy that leaves stands in its queue, and so does one whose phase is set: for all turns of a queue.
use Rattle.std.proofs.Common.{◌≡◌, ℕ, suc, ◌≤◌, Bool, true, false, cond, List, [], ◌∷◌, map, Option, Some, None, refl, sym, ap, ◌∙◌, arith}
use Rattle.std.specs.Prelude.{⊤, is_some, flat_map}
use Rattle.std.specs.List.{AllByRecursion}
use Rattle.mqtt_base.specs.declared.session.Ending.{Ending}
use Rattle.mqtt_base.specs.declared.session.Ending.TheVariants.{SessionEnded}
use Rattle.mqtt_base.specs.declared.session.Phase.{Phase}
use Rattle.mqtt_base.specs.declared.session.Phase.TheVariants.{Sent, Released as ReleasedPhase, Oversize}
use Rattle.mqtt_flow.specs.declared.outbound.entry.Turn.{Turn}
use Rattle.mqtt_flow.specs.declared.outbound.entry.Turn.TheVariants as turns
use Rattle.mqtt_records.specs.messages.Queue.{CopyRow}
use Rattle.mqtt_records.specs.declared.state.session.Session.{Session}
use Rattle.mqtt_records.specs.declared.state.records.Records.{Records}
use Rattle.mqtt_records.specs.lists.Order.{IsAbove, IsAscending, row_at, has_row, change_row}
use Rattle.mqtt_records.proofs.lists_lemmas.OrderLemmas.{apart}
use Rattle.mqtt_records.proofs.lists_lemmas.LookUps.{row_at-remove_row}
use Rattle.mqtt_records.specs.state.Session.{birth_of, copy_place, in_phase, with_phase, without_copy}
use Rattle.mqtt_records.specs.state.Records.{changed_all}
use Rattle.mqtt_rules.specs.step.State.{Broker, session_at}
use Rattle.mqtt_rules.specs.step.Deeds.{whose, Part, Mark, Leave, Went, Deed, At, On, Send, part_rows_of, after, after_all}
use Rattle.mqtt_rules.specs.step.Packets.{publish_of}
use Rattle.mqtt_rules.specs.step.Outbound.{of_entry, leave_deeds, turn_deeds, all_turn_deeds}
use Rattle.mqtt_rules.proofs.step_lemmas.acts.Goods.{AreGood, good_append}
use Rattle.mqtt_rules.proofs.step_lemmas.flight.FlightRows.{found_key, change_row-other, change_row-here}

-- ---- what stands where a copy leaves or is marked

abbrev pub StandsAt : ℕ → Part → Records → Type 0
StandsAt birth (Leave e ending) r = (s : Session) → session_at birth r ≡ Some s → row_at copy_place e.place s.queue ≡ Some e
StandsAt birth (Mark place phase) r = (s : Session) → session_at birth r ≡ Some s → has_row copy_place place s.queue ≡ true
StandsAt birth part r = ⊤

abbrev pub Stands : Deed → Broker → Type 0
Stands (At who part) b = StandsAt who.birth part b.records
Stands d b = ⊤

-- from the place n on the session's queue is still the one that the turns were made for
abbrev pub IsStill : ℕ → Session → Broker → Type 0
IsStill n s b = (t : Session) (p : ℕ) → session_at s.birth b.records ≡ Some t → n ≤ p → row_at copy_place p t.queue ≡ row_at copy_place p s.queue

-- turns at places that rise from n on, those that release at places of the queue
abbrev pub Rises : List CopyRow → ℕ → List Turn → Type 0
Rises q n [] = ⊤
Rises q n (turns.Send place id ∷ ts) = (n ≤ place) × Rises q (suc place) ts
Rises q n (turns.Resend place id ∷ ts) = (n ≤ place) × Rises q (suc place) ts
Rises q n (turns.Release place id order ∷ ts) = (n ≤ place) × (has_row copy_place place q ≡ true) × Rises q (suc place) ts
Rises q n (turns.Outgrow place id order ∷ ts) = (n ≤ place) × (has_row copy_place place q ≡ true) × Rises q (suc place) ts
Rises q n (turns.Repeat id ∷ ts) = Rises q n ts
Rises q n (turns.Unknown id ∷ ts) = Rises q n ts
Rises q n (turns.Leave place ending ∷ ts) = (n ≤ place) × Rises q (suc place) ts

some_same : {X : Type 0} (x y : X) → Some x ≡ Some y → x ≡ y
some_same x y e = cc

-- the session after a part of it, by its birth
part_here : (birth : ℕ) (part : Part) (f : Session → Session) (r : Records) (s t : Session)
    → ((x : Session) → birth_of (f x) ≡ birth_of x) → session_at birth r ≡ Some s
    → (changed_all (part_rows_of part (Some s)) r).sessions ≡ change_row birth_of s.birth f r.sessions
    → row_at birth_of birth (changed_all (part_rows_of part (session_at birth r)) r).sessions ≡ Some t
    → f s ≡ t
part_here birth part f r s t kept there is new =
    let same : s.birth ≡ birth = found_key birth_of birth s r.sessions there in
    let at : session_at s.birth r ≡ Some s = ap (λ (n : ℕ). session_at n r) same ∙ there in
    let here : row_at birth_of s.birth (change_row birth_of s.birth f r.sessions) ≡ Some (f s) = change_row-here birth_of s.birth f s r.sessions kept at in
    let rows : (changed_all (part_rows_of part (session_at birth r)) r).sessions ≡ change_row birth_of s.birth f r.sessions
    = ap (λ (o : Option Session). (changed_all (part_rows_of part o) r).sessions) there ∙ is
    in
    let asked : row_at birth_of s.birth (changed_all (part_rows_of part (session_at birth r)) r).sessions ≡ Some t = ap (λ (n : ℕ). row_at birth_of n (changed_all (part_rows_of part (session_at birth r)) r).sessions) same ∙ new in
    some_same (f s) t (sym here ∙ sym (ap (row_at birth_of s.birth) rows) ∙ asked)

-- a session that isn't there is not there afterwards
part_none : (birth : ℕ) (part : Part) (r : Records) (t : Session) → session_at birth r ≡ None → row_at birth_of birth (changed_all (part_rows_of part (session_at birth r)) r).sessions ≡ Some t → ⊥
part_none birth part r t none new =
    let same : row_at birth_of birth (changed_all (part_rows_of part (session_at birth r)) r).sessions ≡ session_at birth r = ap (λ (o : Option Session). row_at birth_of birth (changed_all (part_rows_of part o) r).sessions) none in
    let no : Some t ≡ None = sym new ∙ same ∙ none in
    absurd cc

still_left : (e : CopyRow) (ending : Ending) (n : ℕ) (s : Session) (b : Broker) → IsStill n s b → n ≤ e.place → IsStill (suc e.place) s (after (At (whose s) (Leave e ending)) b)
still_left e ending n s b still le t p new more = by (session_at s.birth b.records) refl
  where
    by : (o : Option Session) → session_at s.birth b.records ≡ o → row_at copy_place p t.queue ≡ row_at copy_place p s.queue
    by None is = absurd (part_none s.birth (Leave e ending) b.records t is new)
    by (Some x) is =
        let it : without_copy e.place x ≡ t = part_here s.birth (Leave e ending) (without_copy e.place) b.records x t (λ y. refl) is refl new in
        ap (λ (y : Session). row_at copy_place p y.queue) (sym it)
        ∙ row_at-remove_row copy_place p e.place x.queue
        ∙ ap (λ (c : Bool). cond c None (row_at copy_place p x.queue)) (apart e.place p (λ same. omega (arith, same, more)))
        ∙ still x p is (omega (arith, le, more))

still_marked : (place : ℕ) (phase : Phase) (n : ℕ) (s : Session) (b : Broker) → IsStill n s b → n ≤ place → IsStill (suc place) s (after (At (whose s) (Mark place phase)) b)
still_marked place phase n s b still le t p new more = by (session_at s.birth b.records) refl
  where
    by : (o : Option Session) → session_at s.birth b.records ≡ o → row_at copy_place p t.queue ≡ row_at copy_place p s.queue
    by None is = absurd (part_none s.birth (Mark place phase) b.records t is new)
    by (Some x) is =
        let it : with_phase place phase x ≡ t = part_here s.birth (Mark place phase) (with_phase place phase) b.records x t (λ y. refl) is refl new in
        ap (λ (y : Session). row_at copy_place p y.queue) (sym it)
        ∙ change_row-other copy_place p place (in_phase phase) x.queue (λ y. refl) (apart place p (λ same. omega (arith, same, more)))
        ∙ still x p is (omega (arith, le, more))

still_later : (n m : ℕ) (s : Session) (b : Broker) → n ≤ m → IsStill n s b → IsStill m s b
still_later n m s b le still t p there more = still t p there (omega (arith, le, more))

-- ---- turn by turn

module _ (now line : ℕ) (s : Session) where
  stands_leave : (place : ℕ) (ending : Ending) (n : ℕ) (b : Broker) → IsStill n s b → n ≤ place
      → AreGood Stands (leave_deeds s (turns.Leave place ending)) b × IsStill (suc place) s (after_all (leave_deeds s (turns.Leave place ending)) b)
  stands_leave place ending n b still le = by (row_at copy_place place s.queue) refl
    where
      by : (o : Option CopyRow) → row_at copy_place place s.queue ≡ o
          → AreGood Stands (of_entry o (λ e. At (whose s) (Leave e ending) ∷ [])) b × IsStill (suc place) s (after_all (of_entry o (λ e. At (whose s) (Leave e ending) ∷ [])) b)
      by None is = (tt, still_later n (suc place) s b (omega (arith, le)) still)
      by (Some e) is =
          let same : e.place ≡ place = found_key copy_place place e s.queue is in
          let here : row_at copy_place e.place s.queue ≡ Some e = ap (λ (k : ℕ). row_at copy_place k s.queue) same ∙ is in (
            ((λ t there. still t e.place there (omega (arith, le, same)) ∙ here), tt),
            still_later (suc e.place) (suc place) s (after (At (whose s) (Leave e ending)) b) (omega (arith, same)) (still_left e ending n s b still (omega (arith, le, same))),
          )

  stands_mark : (place : ℕ) (phase : Phase) (n : ℕ) (b : Broker) → IsStill n s b → n ≤ place → has_row copy_place place s.queue ≡ true → Stands (At (whose s) (Mark place phase)) b
  stands_mark place phase n b still le there t new = ap is_some (still t place new le) ∙ there

  -- what is told on the line leaves the queue alone
  pub stands_turn : (t : Turn) (ts : List Turn) (n : ℕ) (b : Broker) → IsStill n s b → Rises s.queue n (t ∷ ts)
      → AreGood Stands (turn_deeds now line s t) b × ((m : ℕ) × IsStill m s (after_all (turn_deeds now line s t) b) × Rises s.queue m ts)
  stands_turn (turns.Send place id) ts n b still rises = by (row_at copy_place place s.queue) refl
    where
      by : (o : Option CopyRow) → row_at copy_place place s.queue ≡ o
          → AreGood Stands (of_entry o (λ e. At (whose s) (Mark place (Sent id)) ∷ On line (Went place) ∷ Send line (publish_of now false id e.copy) ∷ [])) b
          × ((m : ℕ) × IsStill m s (after_all (of_entry o (λ e. At (whose s) (Mark place (Sent id)) ∷ On line (Went place) ∷ Send line (publish_of now false id e.copy) ∷ [])) b) × Rises s.queue m ts)
      by None is = (tt, (suc place, still_later n (suc place) s b (let le = rises.0 in omega (arith, le)) still, rises.1))
      by (Some e) is =
          ((stands_mark place (Sent id) n b still rises.0 (ap is_some is), (tt, (tt, tt))), (suc place, still_marked place (Sent id) n s b still rises.0, rises.1))
  stands_turn (turns.Resend place id) ts n b still rises = by (row_at copy_place place s.queue)
    where
      by : (o : Option CopyRow)
          → AreGood Stands (of_entry o (λ e. On line (Went place) ∷ Send line (publish_of now true id e.copy) ∷ [])) b
          × ((m : ℕ) × IsStill m s (after_all (of_entry o (λ e. On line (Went place) ∷ Send line (publish_of now true id e.copy) ∷ [])) b) × Rises s.queue m ts)
      by None = (tt, (suc place, still_later n (suc place) s b (let le = rises.0 in omega (arith, le)) still, rises.1))
      by (Some e) = ((tt, (tt, tt)), (suc place, still_later n (suc place) s b (let le = rises.0 in omega (arith, le)) still, rises.1))
  stands_turn (turns.Release place id order) ts n b still rises =
      ((stands_mark place (ReleasedPhase id order) n b still rises.0 rises.1, (tt, tt)), (suc place, still_marked place (ReleasedPhase id order) n s b still rises.0, rises.2))
  stands_turn (turns.Outgrow place id order) ts n b still rises =
      ((stands_mark place (Oversize id order) n b still rises.0 rises.1, (tt, tt)), (suc place, still_marked place (Oversize id order) n s b still rises.0, rises.2))
  stands_turn (turns.Repeat id) ts n b still rises = ((tt, tt), (n, still, rises))
  stands_turn (turns.Unknown id) ts n b still rises = ((tt, tt), (n, still, rises))
  stands_turn (turns.Leave place ending) ts n b still rises = let one = stands_leave place ending n b still rises.0 in (one.0, (suc place, one.1, rises.1))

  -- in turns that rise each copy that leaves or is marked stands when its turn comes
  pub stands_turns : (ts : List Turn) (n : ℕ) (b : Broker) → IsStill n s b → Rises s.queue n ts → AreGood Stands (all_turn_deeds now line s ts) b
  stands_turns [] n b still rises = tt
  stands_turns (t ∷ ts) n b still rises =
      let one = stands_turn t ts n b still rises in
      good_append Stands (turn_deeds now line s t) (all_turn_deeds now line s ts) b one.0 (stands_turns ts one.1.0 (after_all (turn_deeds now line s t) b) one.1.1 one.1.2)

  -- copies that leave, and no other turns
  pub stands_leaves : (ts : List Turn) (n : ℕ) (b : Broker) → IsStill n s b → Rises s.queue n ts → AreGood Stands (flat_map (leave_deeds s) ts) b
  stands_leaves [] n b still rises = tt
  stands_leaves (turns.Leave place ending ∷ ts) n b still rises =
      let one = stands_leave place ending n b still rises.0 in
      good_append Stands (leave_deeds s (turns.Leave place ending)) (flat_map (leave_deeds s) ts) b one.0
      (stands_leaves ts (suc place) (after_all (leave_deeds s (turns.Leave place ending)) b) one.1 rises.1)
  stands_leaves (turns.Send place id ∷ ts) n b still rises = stands_leaves ts (suc place) b (still_later n (suc place) s b (let le = rises.0 in omega (arith, le)) still) rises.1
  stands_leaves (turns.Resend place id ∷ ts) n b still rises = stands_leaves ts (suc place) b (still_later n (suc place) s b (let le = rises.0 in omega (arith, le)) still) rises.1
  stands_leaves (turns.Release place id order ∷ ts) n b still rises = stands_leaves ts (suc place) b (still_later n (suc place) s b (let le = rises.0 in omega (arith, le)) still) rises.2
  stands_leaves (turns.Outgrow place id order ∷ ts) n b still rises = stands_leaves ts (suc place) b (still_later n (suc place) s b (let le = rises.0 in omega (arith, le)) still) rises.2
  stands_leaves (turns.Repeat id ∷ ts) n b still rises = stands_leaves ts n b still rises
  stands_leaves (turns.Unknown id ∷ ts) n b still rises = stands_leaves ts n b still rises

  -- a session's end: each of its copies leaves
  pub stands_ended : (es : List CopyRow) (n : ℕ) (b : Broker) → IsStill n s b → IsAscending copy_place es → AllByRecursion (λ e. (n ≤ e.place) × (row_at copy_place e.place s.queue ≡ Some e)) es
      → AreGood Stands (map (λ e. At (whose s) (Leave e SessionEnded)) es) b
  stands_ended [] n b still up all = tt
  stands_ended (e ∷ es) n b still up all =
      let le = all.0.0 in
      let d = At (whose s) (Leave e SessionEnded) in (
        (λ t there. still t e.place there le ∙ all.0.1),
        stands_ended es (suc e.place) (after d b) (still_left e SessionEnded n s b still le) up.1 (behind es up.0 all.1),
      )
    where
      behind : (xs : List CopyRow) → IsAbove copy_place e.place xs → AllByRecursion (λ x. (n ≤ x.place) × (row_at copy_place x.place s.queue ≡ Some x)) xs
          → AllByRecursion (λ x. (suc e.place ≤ x.place) × (row_at copy_place x.place s.queue ≡ Some x)) xs
      behind [] above h = tt
      behind (x ∷ xs) above h = let less = above.0 in ((omega (arith, less), h.0.1), behind xs above.1 h.1)

-- as it stands
pub still_now : (s : Session) (b : Broker) → session_at s.birth b.records ≡ Some s → IsStill 0 s b
still_now s b there t p new le = let it : s ≡ t = some_same s t (sym there ∙ new) in ap (λ (y : Session). row_at copy_place p y.queue) (sym it)
