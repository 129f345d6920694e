-- The broker restarts while no session of a publisher's stands: none does after it (MQTT 5.0, 4.1).
use Rattle.std.proofs.Common.{◌≡◌, ℕ, Bool, true, false, List, [], ◌∷◌, ◌++◌, map, Option, Some, None, bytes_eq, refl, sym, ap, ◌∙◌, arith, inl, inr}
use Rattle.std.specs.Prelude.{find, is_some}
use Rattle.std.specs.List.{AllByRecursion}
use Rattle.std.proofs.lemmas.Bool.{cases_Bool}
use Rattle.std.proofs.lemmas.Slice.Eq.{bytes_eq-Decides}
use Rattle.mqtt_base.specs.declared.session.Ending.TheVariants.{SessionEnded}
use Rattle.mqtt_flow.specs.inbound.InboundWorld.{restart, step}
use Rattle.mqtt_records.specs.messages.Queue.{CopyRow}
use Rattle.mqtt_records.specs.declared.messages.message.Will.{Will}
use Rattle.mqtt_records.specs.declared.state.session.Session.{Session}
use Rattle.mqtt_rules.specs.declared.step.Capacity.{Capacity}
use Rattle.mqtt_rules.specs.step.State.{Broker, Env, MemberChoice, session_at, session_named}
use Rattle.mqtt_rules.specs.step.Deeds.{Whose, whose, FromWill, DropWill, Leave, Deed, Accept, Begin, Name, Count, At, Finish, Keep, Forget, RefuseWill, Link, On, Send, Gone, rows_of_all, after_all, Act, always, only_if, with_session, of_session}
use Rattle.mqtt_rules.specs.step.Routing.{CopyTo, accepted_copies}
use Rattle.mqtt_rules.specs.step.Closing.{has_due_will, has_due_end, will_message, publish_or_refuse, will_deeds, publish_will, end_session, settle}
use Rattle.mqtt_rules.specs.step.Step.{env_of, connected_in, shuts, settles, shuts_all, settles_all, opening, unopened, opened}
use Rattle.mqtt_world_model.specs.model.Ends.{Publisher}
use Rattle.mqtt_world_model.specs.model.World.{publisher_restarted}
use Rattle.mqtt_world_model.specs.model.Seen.{open_in, seen}
use Rattle.mqtt_world_model.specs.model.Hops.{IsIts}
use Rattle.mqtt_world_model.proofs.model_lemmas.others.Quiet.{AreQuiet, copies_of, quiet_copies}
use Rattle.mqtt_world_model.proofs.model_lemmas.others.Names.{BeginNone, only_deeds}
use Rattle.mqtt_world_model.proofs.model_lemmas.seats.Seeing.{done_sessions, hop_of}
use Rattle.mqtt_world_model.proofs.model_lemmas.connects.FirstConnects.{only_none}

-- ---- deeds that begin no session
begin_append : (client : List ℕ) (birth : ℕ) (xs ys : List Deed) → BeginNone client birth xs → BeginNone client birth ys → BeginNone client birth (xs ++ ys)
begin_append client birth [] ys p q = q
begin_append client birth (x ∷ xs) ys p q = (p.0, begin_append client birth xs ys p.1 q)

-- quiet deeds begin no session
begin_quiet : (client : List ℕ) (birth k n : ℕ) (ds : List Deed) → AreQuiet k n ds → BeginNone client birth ds
begin_quiet client birth k n [] q = tt
begin_quiet client birth k n (Begin row will ∷ ds) q = absurd q.0
begin_quiet client birth k n (Accept number origin m ∷ ds) q = (tt, begin_quiet client birth k n ds q.1)
begin_quiet client birth k n (Name i ∷ ds) q = (tt, begin_quiet client birth k n ds q.1)
begin_quiet client birth k n (Count i ∷ ds) q = (tt, begin_quiet client birth k n ds q.1)
begin_quiet client birth k n (At who part ∷ ds) q = (tt, begin_quiet client birth k n ds q.1)
begin_quiet client birth k n (Finish who ∷ ds) q = (tt, begin_quiet client birth k n ds q.1)
begin_quiet client birth k n (Keep kept ∷ ds) q = (tt, begin_quiet client birth k n ds q.1)
begin_quiet client birth k n (Forget place ∷ ds) q = (tt, begin_quiet client birth k n ds q.1)
begin_quiet client birth k n (RefuseWill who ∷ ds) q = (tt, begin_quiet client birth k n ds q.1)
begin_quiet client birth k n (Link m ∷ ds) q = (tt, begin_quiet client birth k n ds q.1)
begin_quiet client birth k n (On m part ∷ ds) q = (tt, begin_quiet client birth k n ds q.1)
begin_quiet client birth k n (Send m packet ∷ ds) q = (tt, begin_quiet client birth k n ds q.1)
begin_quiet client birth k n (Gone m ∷ ds) q = (tt, begin_quiet client birth k n ds q.1)

module _ (env : Env) (client : List ℕ) (birth : ℕ) where
  abbrev BeginsNobody : List Deed → Type 0
  BeginsNobody ds = BeginNone client birth ds

  begin_will : (who : Whose) (w : Option Will) (b : Broker) → BeginsNobody (will_deeds env who w b)
  begin_will who None b = tt
  begin_will who (Some w) b =
      let m = will_message who.client w in
      let first = publish_or_refuse env who m (accepted_copies env m b) b in
      begin_append client birth first (At who DropWill ∷ []) (published (accepted_copies env m b)) (tt, tt)
    where
      published : (o : Option (List CopyTo)) → BeginsNobody (publish_or_refuse env who (will_message who.client w) o b)
      published None = (tt, tt)
      published (Some ds) = (tt, begin_quiet client birth 0 0 (copies_of env FromWill (will_message who.client w) ds b) (quiet_copies 0 0 env FromWill (will_message who.client w) ds b))

  begin_end : (s : Session) → BeginsNobody (end_session s)
  begin_end s = begin_append client birth (map (λ (e : CopyRow). At (whose s) (Leave e SessionEnded)) s.queue) (Finish (whose s) ∷ []) (leaves s.queue) (tt, tt)
    where
      leaves : (es : List CopyRow) → BeginsNobody (map (λ (e : CopyRow). At (whose s) (Leave e SessionEnded)) es)
      leaves [] = tt
      leaves (e ∷ es) = (tt, leaves es)

  begin_if : (t : Bool) (act : Act) (b : Broker) → BeginsNobody (act b) → BeginsNobody (only_if t act b)
  begin_if true act b h = h
  begin_if false act b h = tt

  begin_with : (o : Option Session) (f : Session → Act) (b : Broker) → ((s : Session) → BeginsNobody (f s b)) → BeginsNobody (with_session o f b)
  begin_with None f b h = tt
  begin_with (Some s) f b h = h s

  begin_settle : (k : ℕ) (b : Broker) → BeginsNobody (settle env k b)
  begin_settle k b =
      let will : Session → Act = λ s. only_if (has_due_will b.now s) (publish_will env s) in
      let first = of_session k will b in
      let c = after_all first b in
      let ends : Session → Act = λ s. only_if (has_due_end b.now s) (always (end_session s)) in
      let second = of_session k ends c in
      begin_append client birth first (second ++ [])
      (begin_with (session_at k b.records) will b (λ s. begin_if (has_due_will b.now s) (publish_will env s) b (begin_will (whose s) s.will b)))
      (begin_append client birth second [] (begin_with (session_at k c.records) ends c (λ s. begin_if (has_due_end b.now s) (always (end_session s)) c (begin_end s))) tt)

  begin_shuts : (xs : List Session) (b : Broker) → BeginsNobody (shuts_all xs b)
  begin_shuts [] b = tt
  begin_shuts (x ∷ xs) b = (tt, begin_shuts xs (after_all (shuts x b) b))

  begin_settles : (xs : List Session) (b : Broker) → BeginsNobody (settles_all env xs b)
  begin_settles [] b = tt
  begin_settles (x ∷ xs) b =
      let first = settles env x b in
      let c = after_all first b in
      begin_append client birth first (settles_all env xs c) (begin_settle x.birth b) (begin_settles xs c)

  -- an opening begins no session
  pub begin_opening : (b : Broker) → BeginsNobody (opening env b)
  begin_opening b =
      let ss = connected_in b.records in
      let first = shuts_all ss b in
      let c = after_all first b in
      begin_append client birth first (settles_all env ss c ++ []) (begin_shuts ss b) (begin_append client birth (settles_all env ss c) [] (begin_settles ss c) tt)

-- ---- no session has the name, if each that has it would have two births

none_of : (client : List ℕ) (ss : List Session) → AllByRecursion (IsIts client 0) ss → AllByRecursion (IsIts client 1) ss → find (λ (x : Session). bytes_eq x.client client) ss ≡ None
none_of client [] p q = refl
none_of client (x ∷ xs) p q = elim (cases_Bool (bytes_eq x.client client)) [
  | inl its ↦
      let is = (bytes_eq-Decides x.client client).0 its in
      let zero_birth = p.0 is in
      let one_birth = q.0 is in
      absurd (omega (arith, zero_birth, one_birth))
  | inr other ↦ rw other (none_of client xs p.1 q.1)
]

-- and so is one while it has none
pub empty_restart_is_hop : (limits : Capacity) (choice : MemberChoice) (now : ℕ) (p : Publisher) (b : Broker) (accepted : List ℕ) → session_named p.client b.records ≡ None
    → seen accepted (publisher_restarted p) (opened limits choice now b.records) ≡ step (seen accepted p b) restart
empty_restart_is_hop limits choice now p b accepted none =
    let start = unopened now b.records in
    let env = env_of limits choice start in
    let ds = opening env start in
    let new = opened limits choice now b.records in
    let end = after_all ds start in
    let only = λ (k : ℕ). only_deeds p.client k ds start (begin_opening env p.client k start) (only_none p.client k b.records.sessions none) in
    let sessions : new.records.sessions ≡ end.records.sessions = done_sessions (rows_of_all ds start.records) end in
    let after_is : session_named p.client new.records ≡ session_named p.client b.records =
    ap (λ (ss : List Session). find (λ (x : Session). bytes_eq x.client p.client) ss) sessions ∙ (none_of p.client end.records.sessions (only 0) (only 1) ∙ sym none) in
    λ i. hop_of accepted (publisher_restarted p) false [] [] [] (is_some (after_is i)) (open_in (after_is i))
