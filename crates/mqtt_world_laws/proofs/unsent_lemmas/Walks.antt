-- Over every run of the world: a copy that was sent leaves its queue as one that waits no more; and those that expire or make way wait
-- still (MQTT 5.0, 3.3.2.3.3, 4.3).
use Rattle.std.proofs.Common.{◌≡◌, ℕ, ◌+◌, false, List, [], ◌∷◌, Option, Some, None, refl, sym, subst, arith}
use Rattle.std.specs.Prelude.{⊤}
use Rattle.std.specs.List.{AllByRecursion, cons_option}
use Rattle.mqtt_base.specs.declared.session.CopyId.{CopyId}
use Rattle.mqtt_base.specs.declared.session.Ending.{Ending}
use Rattle.mqtt_base.specs.declared.session.Ending.TheVariants.{Dropped, Expired, Refused, SessionEnded, Taken, TooLarge}
use Rattle.mqtt_base.specs.declared.session.Phase.TheVariants.{Waiting}
use Rattle.mqtt_records.specs.messages.Queue.{CopyRow}
use Rattle.mqtt_records.specs.state.Session.{birth_of, copy_place}
use Rattle.mqtt_records.specs.declared.state.session.Session.{Session}
use Rattle.mqtt_records.specs.lists.Order.{row_at}
use Rattle.mqtt_rules.specs.step.Deeds.{At, Deed, Enter, Leave, Mark, after, after_all, rows_of_all}
use Rattle.mqtt_rules.specs.step.Laws.{AreWithin}
use Rattle.mqtt_rules.specs.step.State.{Broker, Env}
use Rattle.mqtt_rules.specs.step.Step.{Call, at_moment, deeds, env_of, opening, unopened}
use Rattle.mqtt_rules.specs.declared.step.Capacity.{Capacity}
use Rattle.mqtt_rules.proofs.step_lemmas.numbers.Copies.{each_append, kinds}
use Rattle.mqtt_rules.proofs.step_lemmas.flight.FlightRows.{all_at}
use Rattle.mqtt_rules.proofs.step_lemmas.fit.StandLaw.{stands_call, stands_opening}
use Rattle.mqtt_world_model.specs.model.Laws.{count_of}
use Rattle.mqtt_world_model.specs.model.Run.{Turn, deeds_at, deeds_over, read_at, setting, turned}
use Rattle.mqtt_world_model.specs.model.World.{World}
use Rattle.mqtt_world_model.proofs.model_lemmas.seats.Seeing.{done_sessions}
use Rattle.mqtt_world_laws.specs.acceptance.Fair.{IsFair, IsNew, IsSteady}
use Rattle.mqtt_world_laws.specs.acceptance.Spending.{run_spends, spending}
use Rattle.mqtt_world_laws.proofs.acceptance_lemmas.copies.Counting.{E, e_append}
use Rattle.mqtt_world_laws.proofs.acceptance_lemmas.copies.Entries.{AreKept, U, call_counted, opening_counted}
use Rattle.mqtt_world_laws.proofs.acceptance_lemmas.copies.Walks.{Walk, run_walks, turn_goes, counted}
use Rattle.mqtt_world_laws.proofs.acceptance_lemmas.publishers.Runs.{either}
use Rattle.mqtt_world_laws.proofs.receiver_lemmas.queue.Handed.{copy_itself}
use Rattle.mqtt_world_laws.specs.causes.Causes.{HasCause, IsCause}
use Rattle.mqtt_world_laws.specs.causes.Endings.{Asked, EndAt, end_at, ends_of}
use Rattle.mqtt_world_laws.proofs.causes_lemmas.Caused.{all_caused}
use Rattle.mqtt_world_laws.proofs.causes_lemmas.EachCall.{call_caused, opening_caused}
use Rattle.mqtt_world_laws.specs.unsent.Unsent.{IsUnsentEnd}
use Rattle.mqtt_world_laws.proofs.unsent_lemmas.Marks.{AreMarked, IsMarked, call_marked, opening_marked}
use Rattle.mqtt_world_laws.proofs.unsent_lemmas.Rows.{AreSent, IsOnward, IsSent, QueueSent, deed_sent}

-- ---- the causes of the ends of a step

abbrev AreCaused : Asked → List Deed → Broker → Type 0
AreCaused m ds b = AllByRecursion HasCause (ends_of m ds b)

abbrev asked_so : Option Call → Env → List Deed → Broker → Asked
asked_so call env ds b = record { call = call; step = record { env = env; deeds = ds; broker = b } }

-- ---- what expires or makes way waits still

-- so it is with a copy that leaves by the deed
abbrev pub IsLate : Deed → Type 0
IsLate (At who (Leave e ending)) = IsUnsentEnd ending → e.phase ≡ Waiting
IsLate d = ⊤

abbrev pub AreLate : List Deed → Type 0
AreLate ds = AllByRecursion IsLate ds

waits_by : (ending : Ending) (x : EndAt) (s : Session) → IsCause ending x s → IsUnsentEnd ending → x.row.phase ≡ Waiting
waits_by Taken x s cause h = absurd h
waits_by Refused x s cause h = absurd h
waits_by Expired x s cause h = cause.waits
waits_by TooLarge x s cause h = absurd h
waits_by SessionEnded x s cause h = absurd h
waits_by Dropped x s cause h = cause.waits

late_deeds : (m : Asked) (ds : List Deed) (b : Broker) → AreCaused m ds b → AreLate ds
late_deeds m [] b h = tt
late_deeds m (d ∷ ds) b h = one d h (λ more. late_deeds m ds (after d b) more)
  where
    one : (d : Deed) → AllByRecursion HasCause (cons_option (end_at m b ds d) (ends_of m ds (after d b))) → (AllByRecursion HasCause (ends_of m ds (after d b)) → AreLate ds) → IsLate d × AreLate ds
    one (At who (Leave e ending)) h more = ((λ late. waits_by ending _ h.0.session h.0.cause late), more h.1)
    one d h more = (tt, more h)

late : (limits : Capacity) → Walk limits (λ ds b d. AreLate ds)
late limits = record {
  none = λ b. tt;
  next = λ xs ys a b d p q. each_append IsLate xs ys p q;
  unlink = λ n b d h. h.1;
  link = λ n b d h. (tt, h);
  call = λ choice now call b s unspent.
      let env = env_of limits choice b in
      let a = at_moment now b in
      let ds = deeds limits choice now call b in
      let m = asked_so (Some call) env ds a in
      late_deeds m ds a (all_caused m ds a (call_caused m call refl s.coherent.ordered) (stands_call env call a s.coherent.ordered));
  open_again = λ choice now b s unspent.
      let a = unopened now b.records in
      let env = env_of limits choice a in
      let ds = opening env a in
      let m = asked_so None env ds a in
      late_deeds m ds a (all_caused m ds a (opening_caused m a s.coherent.ordered) (stands_opening env a s.coherent.ordered));
}

-- in every run
pub run_late : (limits : Capacity) (ts : List Turn) (w : World) → IsNew w → IsFair limits ts w → AreLate (deeds_over limits ts w)
run_late limits ts w new fair = run_walks (λ ds b d. AreLate ds) limits ts w (late limits) new (counted limits ts w fair)

-- ---- a copy that was sent

module _ (x : CopyId) where
  -- no row of it waits, and it can come no more
  pub record IsGone (b : Broker) : Type 0 where
    pub sent : AreSent x b.records.sessions
    pub kept : AreKept (kinds b.records)
    pub come : U x (kinds b.records) ≡ 0

  -- it doesn't leave as one that waits
  abbrev pub IsOther : Deed → Type 0
  IsOther (At who (Leave e ending)) = e.copy.id ≡ x → e.phase ≡ Waiting → ⊥
  IsOther d = ⊤

  abbrev pub AreOthers : List Deed → Type 0
  AreOthers ds = AllByRecursion IsOther ds

  -- ---- deeds by which it doesn't enter

  one_onward : (d : Deed) → IsMarked d → E x (d ∷ []) ≡ 0 → IsOnward x d
  one_onward (At who (Enter copy)) marked none = λ is.
      let one : E x (At who (Enter copy) ∷ []) ≡ 1 = subst (λ (c : CopyId). count_of x (c ∷ []) ≡ 1) (sym is) (rw (copy_itself x) refl) in
      absurd (omega (arith, one, none))
  one_onward (At who (Mark place phase)) marked none = marked
  one_onward d marked none = tt

  all_onward : (ds : List Deed) → AreMarked ds → E x ds ≡ 0 → AllByRecursion (IsOnward x) ds
  all_onward [] marked none = tt
  all_onward (d ∷ ds) marked none =
      let both : E x (d ∷ ds) ≡ E x (d ∷ []) + E x ds = e_append x (d ∷ []) ds in
      let first : E x (d ∷ []) ≡ 0 = omega (arith, both, none) in
      let rest : E x ds ≡ 0 = omega (arith, both, none) in
      (one_onward d marked.0 first, all_onward ds marked.1 rest)

  deeds_sent : (ds : List Deed) (b : Broker) → AllByRecursion (IsOnward x) ds → AreSent x b.records.sessions → AreSent x (after_all ds b).records.sessions
  deeds_sent [] b q h = h
  deeds_sent (d ∷ ds) b q h = deeds_sent ds (after d b) q.1 (deed_sent x d b q.0 h)

  left_sent : (e : CopyRow) (ss : List Session) (birth : ℕ) (s : Session) → AreSent x ss → row_at birth_of birth ss ≡ Some s → row_at copy_place e.place s.queue ≡ Some e → IsSent x e
  left_sent e ss birth s h found stands = all_at copy_place (IsSent x) e.place e s.queue (all_at birth_of (QueueSent x) birth s ss h found) stands

  others : (m : Asked) (ds : List Deed) (b : Broker) → AllByRecursion (IsOnward x) ds → AreSent x b.records.sessions → AreCaused m ds b → AreOthers ds
  others m [] b q h caused = tt
  others m (d ∷ ds) b q h caused = one d caused (λ more. others m ds (after d b) q.1 (deed_sent x d b q.0 h) more)
    where
      one : (d : Deed) → AllByRecursion HasCause (cons_option (end_at m b ds d) (ends_of m ds (after d b))) → (AllByRecursion HasCause (ends_of m ds (after d b)) → AreOthers ds) → IsOther d × AreOthers ds
      one (At who (Leave e ending)) c more = (left_sent e b.records.sessions who.birth c.0.session h c.0.found c.0.stands, more c.1)
      one d c more = (tt, more c)

  -- ---- each step

  abbrev pub Goes : List Deed → Broker → Broker → Type 0
  Goes ds b d = IsGone b → IsGone d × AreOthers ds

  -- none of it waits again, in whatever is called and opened
  pub goes : (limits : Capacity) → Walk limits Goes
  goes limits = record {
    none = λ b g. (g, tt);
    next = λ xs ys a b d p q g. let first = p g in let rest = q first.0 in (rest.0, each_append IsOther xs ys first.1 rest.1);
    unlink = λ n b d h g. let it = h g in (it.0, it.1.1);
    link = λ n b d h g. let it = h g in (it.0, (tt, it.1));
    call = λ choice now call b s unspent g.
        let env = env_of limits choice b in
        let a = at_moment now b in
        let ds = deeds limits choice now call b in
        let m = asked_so (Some call) env ds a in
        let come = call_counted x limits choice now call b s.coherent.ordered g.kept in
        let counted = come.counted in
        let none = g.come in
        let onward = all_onward ds (call_marked env call a) (omega (arith, counted, none)) in
        let sent = subst (λ (ss : List Session). AreSent x ss) (sym (done_sessions (rows_of_all ds a.records) (after_all ds a))) (deeds_sent ds a onward g.sent) in
        (record { sent = sent; kept = come.kept; come = omega (arith, counted, none) }, others m ds a onward g.sent (all_caused m ds a (call_caused m call refl s.coherent.ordered) (stands_call env call a s.coherent.ordered)));
    open_again = λ choice now b s unspent g.
        let a = unopened now b.records in
        let env = env_of limits choice a in
        let ds = opening env a in
        let m = asked_so None env ds a in
        let come = opening_counted x limits choice now b s.coherent.ordered g.kept in
        let counted = come.counted in
        let none = g.come in
        let onward = all_onward ds (opening_marked env a) (omega (arith, counted, none)) in
        let sent = subst (λ (ss : List Session). AreSent x ss) (sym (done_sessions (rows_of_all ds a.records) (after_all ds a))) (deeds_sent ds a onward g.sent) in
        (record { sent = sent; kept = come.kept; come = omega (arith, counted, none) }, others m ds a onward g.sent (all_caused m ds a (opening_caused m a s.coherent.ordered) (stands_opening env a s.coherent.ordered)));
  }

  -- and each run, from any state in order
  pub run_others : (limits : Capacity) (ts : List Turn) (w : World) → AreWithin limits → IsSteady w.broker → run_spends limits ts w ≡ false → IsGone w.broker → AreOthers (deeds_over limits ts w)
  run_others limits [] w within s unspent g = tt
  run_others limits (t ∷ ts) w within s unspent g =
      let v = turned limits t w in
      let costs = either (read_at spending (setting limits t) t.event w) (run_spends limits ts v) unspent in
      let next = turn_goes Goes limits (goes limits) t w within s costs.0 in
      let first = next.said g in
      each_append IsOther (deeds_at (setting limits t) t.event w) (deeds_over limits ts v) first.1 (run_others limits ts v within next.steady costs.1 first.0)
