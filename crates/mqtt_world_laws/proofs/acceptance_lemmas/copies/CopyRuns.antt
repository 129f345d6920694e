-- Over every run of the world: the copies that stood or entered are those that stand or have ended, each as often; and
-- publications are numbered one after the other.
use Rattle.std.proofs.Common.{ℕ, List, [], ◌∷◌, ◌++◌, refl, sym, ap, subst, arith}
use Rattle.std.specs.Prelude.{filter_map}
use Rattle.std.proofs.lemmas.List.Elements.{filter_map-append}
use Rattle.mqtt_base.specs.declared.limits.TheConstants.{QUEUE_LIMIT}
use Rattle.mqtt_base.specs.declared.session.CopyId.{CopyId}
use Rattle.mqtt_records.specs.declared.state.records.Records.{Records}
use Rattle.mqtt_rules.specs.declared.step.Capacity.{Capacity}
use Rattle.mqtt_rules.specs.step.State.{Broker, MemberChoice}
use Rattle.mqtt_rules.specs.step.Deeds.{Deed, after_all, rows_of_all}
use Rattle.mqtt_rules.specs.step.Laws.{AreWithin, IsOrdered}
use Rattle.mqtt_rules.specs.step.Step.{Call, at_moment, env_of, deeds, stepped, opened, opening, unopened}
use Rattle.mqtt_rules.proofs.step_lemmas.order.OrderedActs.{leads_all, leads_open}
use Rattle.mqtt_rules.proofs.step_lemmas.order.OrderedEnters.{ShortQueues, RoomToEnter}
use Rattle.mqtt_rules.proofs.step_lemmas.order.OrderedFull.{queues_keeping}
use Rattle.mqtt_rules.proofs.step_lemmas.fit.StandLaw.{stands_call, stands_opening}
use Rattle.mqtt_world_model.specs.model.World.{World}
use Rattle.mqtt_world_model.specs.model.Run.{Turn, run}
use Rattle.mqtt_world_model.proofs.model_lemmas.seats.Seeing.{done_sessions}
use Rattle.mqtt_world_laws.specs.acceptance.Fair.{IsSteady, IsNew, IsCounted}
use Rattle.mqtt_world_laws.specs.acceptance.Copies.{IsBalanced, publications_from}
use Rattle.mqtt_world_laws.proofs.acceptance_lemmas.copies.Here.{here_call, here_opening}
use Rattle.mqtt_rules.specs.step.Numbers.{CountsOn, publication_given}
use Rattle.mqtt_rules.proofs.step_lemmas.numbers.NumberSteps.{step_counts, opening_counts}
use Rattle.mqtt_world_laws.proofs.acceptance_lemmas.copies.Counting.{N, Balances, then_balances, all_balance}
use Rattle.mqtt_world_laws.proofs.acceptance_lemmas.copies.Walks.{Walk, run_walks}
use Rattle.mqtt_rules.proofs.step_lemmas.fit.RowsFit.{queues_short}

-- ---- a call, and an opening

short : (r : Records) → IsOrdered r → ShortQueues QUEUE_LIMIT r
short r h = record { ordered = h; short = queues_short r.sessions h.each }

module _ (c : CopyId) (limits : Capacity) (within : AreWithin limits) where
  call_balances : (choice : MemberChoice) (now : ℕ) (call : Call) (b : Broker) → IsSteady b → Balances c (deeds limits choice now call b) b (stepped limits choice now call b)
  call_balances choice now call b s =
      let env = env_of limits choice b in
      let begin = at_moment now b in
      let ds = deeds limits choice now call b in
      let ordered = s.coherent.ordered in
      let room = (leads_all env (ShortQueues QUEUE_LIMIT) RoomToEnter (queues_keeping QUEUE_LIMIT env within.queue within.queue) call begin (short b.records ordered)).0 in
      let all = all_balance c ds begin ordered (here_call env call begin ordered) (stands_call env call begin ordered) room in
      let rows = done_sessions (rows_of_all ds begin.records) (after_all ds begin) in
      let same = ap (N c) rows in
      omega (arith, all, same)

  -- over an opening a copy stands as often as it stood and entered, less its ends
  pub opening_balances : (choice : MemberChoice) (now : ℕ) (b : Broker) → IsOrdered b.records → Balances c (opening (env_of limits choice (unopened now b.records)) (unopened now b.records)) b (opened limits choice now b.records)
  opening_balances choice now b ordered =
      let begin = unopened now b.records in
      let env = env_of limits choice begin in
      let ds = opening env begin in
      let room = (leads_open env (ShortQueues QUEUE_LIMIT) RoomToEnter (queues_keeping QUEUE_LIMIT env within.queue within.queue) begin (short b.records ordered)).0 in
      let all = all_balance c ds begin ordered (here_opening env begin ordered) (stands_opening env begin ordered) room in
      let rows = done_sessions (rows_of_all ds begin.records) (after_all ds begin) in
      let same = ap (N c) rows in
      omega (arith, all, same)

  -- what entered stands or has ended
  pub balances : Walk limits (Balances c)
  balances = record {
    none = λ b. refl;
    next = λ xs ys a b d p q. then_balances c xs ys a b d p q;
    unlink = λ n b d h. h;
    link = λ n b d h. h;
    call = λ choice now call b s unspent. call_balances choice now call b s;
    open_again = λ choice now b s unspent. opening_balances choice now b s.coherent.ordered;
  }

-- in every run that spends no number what entered stands or has ended
pub run_balances : (limits : Capacity) (ts : List Turn) (w : World) → IsNew w → IsCounted limits ts w → (c : CopyId) → IsBalanced c limits ts w
run_balances limits ts w new fair c = run_walks (Balances c) limits ts w (balances c limits fair.within) new fair

-- ---- publications are numbered one after the other

counts_append : (n m k : ℕ) (xs ys : List ℕ) → CountsOn n xs m → CountsOn m ys k → CountsOn n (xs ++ ys) k
counts_append n m k [] ys p q = subst (λ (z : ℕ). CountsOn z ys k) p q
counts_append n m k (x ∷ xs) ys p q = (p.0, counts_append x m k xs ys p.1 q)

abbrev pub Numbers : List Deed → Broker → Broker → Type 0
Numbers ds b d = CountsOn b.records.publications (filter_map publication_given ds) d.records.publications

-- publications count on
pub numbers : (limits : Capacity) → Walk limits Numbers
numbers limits = record {
  none = λ b. refl;
  next = λ xs ys a b d p q. subst (λ (ns : List ℕ). CountsOn a.records.publications ns d.records.publications) (sym (filter_map-append publication_given xs ys))
      (counts_append a.records.publications b.records.publications d.records.publications (filter_map publication_given xs) (filter_map publication_given ys) p q);
  unlink = λ n b d h. h;
  link = λ n b d h. h;
  call = λ choice now call b s unspent. (step_counts limits choice now call b).1;
  open_again = λ choice now b s unspent. (opening_counts limits choice now b.records).1;
}

-- and publications are numbered one by one
pub run_numbers : (limits : Capacity) (ts : List Turn) (w : World) → IsNew w → IsCounted limits ts w
    → CountsOn w.broker.records.publications (publications_from limits ts w) (run limits ts w).broker.records.publications
run_numbers limits ts w new fair = run_walks Numbers limits ts w (numbers limits) new fair
