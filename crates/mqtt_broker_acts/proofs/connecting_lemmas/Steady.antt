-- What comes before a new connection, deed by deed: no session comes or changes its subscriptions, and one may end.
use Rattle.std.proofs.Common.{◌≡◌, ℕ, Bool, true, false, cond, List, [], ◌∷◌, map, nat_eq, bytes_eq, refl, ap, sym, subst, ◌∙◌, inl, inr}
use Rattle.std.specs.Prelude.{◌⊎◌, ⊤, Option, Some, None, flat_map, option_map}
use Rattle.std.specs.List.{AllByRecursion}
use Rattle.std.proofs.lemmas.Bool.{cases_Bool, eqb-true}
use Rattle.std.proofs.lemmas.Cmp.{nat_eq_equiv}
use Rattle.mqtt_base.specs.declared.session.Ending.TheVariants.{SessionEnded}
use Rattle.mqtt_base.specs.Codes.{session_taken_over}
use Rattle.mqtt_flow.specs.declared.outbound.entry.Turn.{Turn}
use Rattle.mqtt_flow.specs.declared.outbound.entry.Turn.TheVariants as turns
use Rattle.mqtt_flow.specs.outbound.Outbound.{way_made}
use Rattle.mqtt_records.specs.declared.messages.message.MessageCopy.{MessageCopy}
use Rattle.mqtt_records.specs.declared.messages.message.RetainedMessage.{RetainedMessage}
use Rattle.mqtt_records.specs.declared.messages.message.Will.{Will}
use Rattle.mqtt_records.specs.declared.state.session.Session.{Session}
use Rattle.mqtt_records.specs.declared.state.records.Records.{Records}
use Rattle.mqtt_records.specs.state.Records.{changed_all}
use Rattle.mqtt_records.specs.state.Session.{birth_of, columns_of, copy_place, with_columns, with_will, with_open, without_open, with_copy, with_phase, without_copy}
use Rattle.mqtt_routes.specs.routing.Subscriptions.{Subscriber}
use Rattle.mqtt_records.specs.lists.Order.{row_at, change_row, remove_row}
use Rattle.mqtt_records.proofs.lists_lemmas.LookUps.{row_at-remove_row}
use Rattle.mqtt_topic.specs.names.Names.{is_empty}
use Rattle.mqtt_rules.specs.step.Closing.{has_due_will, has_due_end, will_message, publish_or_refuse, will_deeds, publish_will, end_session, settle, close, close_session, close_connected, drop_line}
use Rattle.mqtt_rules.specs.step.Deeds.{Whose, whose, Message, Origin, DropWill, Enter, Leave, Part, Deed, Accept, At, Finish, after, after_all, Act, series, always, only_if, of_session, with_line, part_rows, part_rows_of, new_entry}
use Rattle.mqtt_rules.specs.step.Deeds as deeds
use Rattle.mqtt_rules.specs.step.Fitting.{has_form}
use Rattle.mqtt_rules.specs.step.Outbound.{leave_deeds, since, queue_limits, enter_deeds}
use Rattle.mqtt_rules.specs.step.Packets.{disconnect, publish_of}
use Rattle.mqtt_rules.specs.step.Routing.{CopyTo, is_queued, deliver_by, deliver, retained_of, forgets, retain_by, next_publication, publish, accepted_copies, subscriber_of}
use Rattle.mqtt_rules.specs.step.State.{Line, Broker, Env, is_of, line_of, queue_on, session_at}
use Rattle.mqtt_rules.proofs.step_lemmas.acts.Offers.{of_offer_if}
use Rattle.mqtt_rules.proofs.step_lemmas.acts.Goods.{AreGood, GoodAct, good_append, good_then, good_series, good_two, good_map, good_flat, good_acts, good_if, good_with_session, good_with_line, good_of_entry}
use Rattle.mqtt_rules.proofs.step_lemmas.acts.Leads.{found_passes}
use Rattle.mqtt_rules.proofs.step_lemmas.acts.LookedUp.{row_at-change_row}
use Rattle.mqtt_broker_step.proofs.Doing.{found_birth, stands}
use Rattle.mqtt_broker_acts.specs.closing.Ending.{ends}
use Rattle.mqtt_broker_acts.specs.closing.Wills.{publishes_will, will_of}
use Rattle.mqtt_broker_acts.specs.connecting.Preparing.{takes_over, clears, clears_if}

-- ---- one deed

abbrev pub IsSteadyPart : Part → Type 0
IsSteadyPart (deeds.Resume expiry will) = ⊥
IsSteadyPart (deeds.Subscribe x) = ⊥
IsSteadyPart (deeds.Unsubscribe filter) = ⊥
IsSteadyPart part = ⊤

-- of sessions only the one with this birth may end
abbrev pub IsSteady : ℕ → Deed → Broker → Type 0
IsSteady birth (deeds.Begin row will) b = ⊥
IsSteady birth (deeds.At who part) b = IsSteadyPart part
IsSteady birth (deeds.Finish who) b = who.birth ≡ birth
IsSteady birth d b = ⊤

-- a change of a session that leaves its birth, its subscriptions, and its Will, or drops that
pub record IsSlight (f : Session → Session) : Type 0 where
  pub births : (s : Session) → birth_of (f s) ≡ birth_of s
  pub subs : (s : Session) → subscriber_of (f s) ≡ subscriber_of s
  pub wills : (s : Session) → ((f s).will ≡ s.will) ⊎ ((f s).will ≡ None)

-- the client identifier of the session that is changed stays
abbrev pub SameClient : ℕ → (Session → Session) → List Session → Type 0
SameClient k f ss = (s : Session) → row_at birth_of k ss ≡ Some s → (f s).client ≡ s.client

-- what such changes keep, and the end of the session with this birth
pub record IsKept (birth : ℕ) (P : List Session → Type 0) : Type 0 where
  pub changed : (k : ℕ) (f : Session → Session) → IsSlight f → (ss : List Session) → SameClient k f ss → P ss → P (change_row birth_of k f ss)
  pub finished : (ss : List Session) → P ss → P (remove_row birth_of birth ss)

its_client : (s t : Session) → Some s ≡ Some t → s.client ≡ t.client
its_client s t is = let same : s ≡ t = cc in ap (λ (x : Session). x.client) same

module _ (birth : ℕ) (P : List Session → Type 0) (kept : IsKept birth P) where
  part_keeps : (part : Part) (s : Session) (r : Records) → IsSteadyPart part → session_at s.birth r ≡ Some s → P r.sessions → P (changed_all (part_rows part s) r).sessions
  part_keeps (deeds.Resume expiry will) s r q found p = absurd q
  part_keeps (deeds.Subscribe x) s r q found p = absurd q
  part_keeps (deeds.Unsubscribe filter) s r q found p = absurd q
  part_keeps (deeds.Close moment) s r q found p =
      kept.changed s.birth (with_columns (record (columns_of s) { closed = Some moment })) (record { births = λ x. refl; subs = λ x. refl; wills = λ x. inl refl }) r.sessions (λ t e. its_client s t (sym found ∙ e)) p
  part_keeps (deeds.SetExpiry expiry) s r q found p =
      kept.changed s.birth (with_columns (record (columns_of s) { expiry = expiry })) (record { births = λ x. refl; subs = λ x. refl; wills = λ x. inl refl }) r.sessions (λ t e. its_client s t (sym found ∙ e)) p
  part_keeps deeds.DropWill s r q found p =
      kept.changed s.birth (with_will None) (record { births = λ x. refl; subs = λ x. refl; wills = λ x. inr refl }) r.sessions (λ t e. refl) p
  part_keeps (deeds.Open id) s r q found p =
      kept.changed s.birth (with_open id) (record { births = λ x. refl; subs = λ x. refl; wills = λ x. inl refl }) r.sessions (λ t e. refl) p
  part_keeps (deeds.Release id) s r q found p =
      kept.changed s.birth (without_open id) (record { births = λ x. refl; subs = λ x. refl; wills = λ x. inl refl }) r.sessions (λ t e. refl) p
  part_keeps (deeds.Enter copy) s r q found p =
      kept.changed s.birth (with_copy (new_entry copy s.queue)) (record { births = λ x. refl; subs = λ x. refl; wills = λ x. inl refl }) r.sessions (λ t e. refl) p
  part_keeps (deeds.Mark place phase) s r q found p =
      kept.changed s.birth (with_phase place phase) (record { births = λ x. refl; subs = λ x. refl; wills = λ x. inl refl }) r.sessions (λ t e. refl) p
  part_keeps (deeds.Leave e ending) s r q found p =
      kept.changed s.birth (without_copy e.place) (record { births = λ x. refl; subs = λ x. refl; wills = λ x. inl refl }) r.sessions (λ t e. refl) p

  at_keeps : (k : ℕ) (part : Part) (o : Option Session) (r : Records) → IsSteadyPart part → session_at k r ≡ o → P r.sessions → P (changed_all (part_rows_of part o) r).sessions
  at_keeps k part None r q found p = p
  at_keeps k part (Some s) r q found p = part_keeps part s r q (stands k r s found) p

  deed_keeps : (d : Deed) (b : Broker) → IsSteady birth d b → P b.records.sessions → P (after d b).records.sessions
  deed_keeps (deeds.Accept number origin m) b q p = p
  deed_keeps (deeds.Begin row will) b q p = absurd q
  deed_keeps (deeds.Name n) b q p = p
  deed_keeps (deeds.Count n) b q p = p
  deed_keeps (deeds.At who part) b q p = at_keeps who.birth part (session_at who.birth b.records) b.records q refl p
  deed_keeps (deeds.Finish who) b q p = subst (λ n. P (remove_row birth_of n b.records.sessions)) (sym q) (kept.finished b.records.sessions p)
  deed_keeps (deeds.Keep x) b q p = p
  deed_keeps (deeds.Forget place) b q p = p
  deed_keeps (deeds.RefuseWill who) b q p = p
  deed_keeps (deeds.Link n) b q p = p
  deed_keeps (deeds.On line part) b q p = p
  deed_keeps (deeds.Send line packet) b q p = p
  deed_keeps (deeds.Gone line) b q p = p

  -- what such changes keep is kept by steady deeds
  pub steady_keeps : (ds : List Deed) (b : Broker) → AreGood (IsSteady birth) ds b → P b.records.sessions → P (after_all ds b).records.sessions
  steady_keeps [] b q p = p
  steady_keeps (d ∷ ds) b q p = steady_keeps ds (after d b) q.1 (deed_keeps d b q.0 p)

-- ---- what is kept

-- of the sessions those of this client are those with this birth
abbrev pub OnlyIn : List ℕ → ℕ → List Session → Type 0
OnlyIn client birth ss = AllByRecursion (λ s. bytes_eq s.client client ≡ nat_eq s.birth birth) ss

only_changed : (client : List ℕ) (birth k : ℕ) (f : Session → Session) → IsSlight f → (ss : List Session) → SameClient k f ss → OnlyIn client birth ss → OnlyIn client birth (change_row birth_of k f ss)
only_changed client birth k f slight [] same only = tt
only_changed client birth k f slight (s ∷ ss) same only = elim (cases_Bool (nat_eq s.birth k)) [
  | inl here ↦
      let kept : (f s).client ≡ s.client = same s (ap (λ (t : Bool). cond t (Some s) (row_at birth_of k ss)) here) in
      rw here (ap (λ x. bytes_eq x client) kept ∙ (only.0 ∙ ap (λ n. nat_eq n birth) (sym (slight.births s))), only.1)
  | inr later ↦
      let rest : SameClient k f ss = λ t e. same t (ap (λ (b : Bool). cond b (Some s) (row_at birth_of k ss)) later ∙ e) in
      rw later (only.0, only_changed client birth k f slight ss rest only.1)
]

only_finished : (client : List ℕ) (birth k : ℕ) (ss : List Session) → OnlyIn client birth ss → OnlyIn client birth (remove_row birth_of k ss)
only_finished client birth k [] only = tt
only_finished client birth k (s ∷ ss) only = elim (cases_Bool (nat_eq s.birth k)) [
  | inl here ↦ rw here (only_finished client birth k ss only.1)
  | inr later ↦ rw later (only.0, only_finished client birth k ss only.1)
]

-- steady deeds leave a name with its one session
pub only_kept : (client : List ℕ) (birth : ℕ) → IsKept birth (OnlyIn client birth)
only_kept client birth = record {
  changed = λ k f slight ss same only. only_changed client birth k f slight ss same only;
  finished = λ ss only. only_finished client birth birth ss only;
}

-- the subscriptions are these, or the session with this birth is gone
abbrev pub SubsIn : List Subscriber → ℕ → List Session → Type 0
SubsIn subs birth ss = (map subscriber_of ss ≡ subs) ⊎ (row_at birth_of birth ss ≡ None)

subs_changed : (k : ℕ) (f : Session → Session) → IsSlight f → (ss : List Session) → map subscriber_of (change_row birth_of k f ss) ≡ map subscriber_of ss
subs_changed k f slight [] = refl
subs_changed k f slight (s ∷ ss) = elim (cases_Bool (nat_eq s.birth k)) [
  | inl here ↦ rw here (ap (λ y. y ∷ map subscriber_of ss) (slight.subs s))
  | inr later ↦ rw later (ap (λ ys. subscriber_of s ∷ ys) (subs_changed k f slight ss))
]

either_none : (t : Bool) (f : Session → Session) (o : Option Session) → o ≡ None → cond t (option_map f o) o ≡ None
either_none true f o none = ap (option_map f) none
either_none false f o none = none

-- they leave the routes
pub subs_kept : (subs : List Subscriber) (birth : ℕ) → IsKept birth (SubsIn subs birth)
subs_kept subs birth = record {
  changed = λ k f slight ss its p. elim p [
    | inl same ↦ inl (subs_changed k f slight ss ∙ same)
    | inr none ↦ inr (row_at-change_row birth_of birth k f ss slight.births ∙ either_none (nat_eq k birth) f (row_at birth_of birth ss) none)
  ];
  finished = λ ss p. inr (row_at-remove_row birth_of birth birth ss ∙ ap (λ t. cond t None (row_at birth_of birth ss)) (nat_eq_equiv.refl birth));
}

-- it is gone
abbrev pub IsGone : ℕ → List Session → Type 0
IsGone birth ss = row_at birth_of birth ss ≡ None

gone_finished : (birth : ℕ) (ss : List Session) → IsGone birth (remove_row birth_of birth ss)
gone_finished birth ss = row_at-remove_row birth_of birth birth ss ∙ ap (λ t. cond t None (row_at birth_of birth ss)) (nat_eq_equiv.refl birth)

-- what is gone stays gone
pub gone_kept : (birth : ℕ) → IsKept birth (IsGone birth)
gone_kept birth = record {
  changed = λ k f slight ss its none. row_at-change_row birth_of birth k f ss slight.births ∙ either_none (nat_eq k birth) f (row_at birth_of birth ss) none;
  finished = λ ss none. gone_finished birth ss;
}

-- the Will of the session with this birth
abbrev pub WillIn : (Option Will → Type 0) → ℕ → List Session → Type 0
WillIn Q birth ss = Q (will_of (row_at birth_of birth ss))

will_slight : (Q : Option Will → Type 0) (f : Session → Session) → Q None → IsSlight f → (t : Bool) (o : Option Session) → Q (will_of o) → Q (will_of (cond t (option_map f o) o))
will_slight Q f nothing slight false o q = q
will_slight Q f nothing slight true None q = q
will_slight Q f nothing slight true (Some s) q = elim (slight.wills s) [
  | inl same ↦ subst Q (sym same) q
  | inr none ↦ subst Q (sym none) nothing
]

-- a Will stays as it is, or goes
pub will_kept : (Q : Option Will → Type 0) (birth : ℕ) → Q None → IsKept birth (WillIn Q birth)
will_kept Q birth nothing = record {
  changed = λ k f slight ss its q.
      subst (λ o. Q (will_of o)) (sym (row_at-change_row birth_of birth k f ss slight.births))
      (will_slight Q f nothing slight (nat_eq k birth) (row_at birth_of birth ss) q);
  finished = λ ss q.
      subst (λ o. Q (will_of o)) (sym (row_at-remove_row birth_of birth birth ss ∙ ap (λ t. cond t None (row_at birth_of birth ss)) (nat_eq_equiv.refl birth))) nothing;
}

-- ---- the line of a session

is_its : (o : Option ℕ) (birth : ℕ) → is_of o birth ≡ true → o ≡ Some birth
is_its None birth e = absurd cc
is_its (Some x) birth e = ap Some (eqb-true x birth e)

-- the line found for a session has it
pub line_is_of : (birth : ℕ) (l : Line) (b : Broker) → line_of birth b ≡ Some l → l.session ≡ Some birth
line_is_of birth l b found = is_its l.session birth (found_passes (λ (x : Line). is_of x.session birth) l b.lines found)

-- ---- the acts

module _ (birth : ℕ) where
  abbrev Good : Deed → Broker → Type 0
  Good = IsSteady birth

  steady_leave : (s : Session) (t : Turn) (b : Broker) → AreGood Good (leave_deeds s t) b
  steady_leave s (turns.Leave place ending) b = good_of_entry Good (row_at copy_place place s.queue) (λ e. At (whose s) (Leave e ending) ∷ []) b (λ e. (tt, tt))
  steady_leave s t b = tt

  steady_enter : (env : Env) (copy : MessageCopy) (s : Session) (b : Broker) → AreGood Good (enter_deeds env copy s) b
  steady_enter env copy s b =
      let ts = way_made (queue_limits env) (since env s) (queue_on [] s) in
      good_append Good (flat_map (leave_deeds s) ts) (At (whose s) (Enter copy) ∷ []) b (good_flat Good (leave_deeds s) (steady_leave s) ts b) (tt, tt)

  steady_deliver_by : (t : Bool) (env : Env) (d : CopyTo) (b : Broker) → AreGood Good (deliver_by t env d b) b
  steady_deliver_by true env d b = good_with_session Good (session_at d.birth b.records) (λ s. always (enter_deeds env d.copy s)) b (λ s e. steady_enter env d.copy s b)
  steady_deliver_by false env d b =
      of_offer_if (λ (ds : List Deed). AreGood Good ds b) (has_form d.copy b) (line_of d.birth b) (publish_of b.now false 0 d.copy) tt (λ l there. (tt, tt))

  steady_deliver : (env : Env) (d : CopyTo) → GoodAct Good (deliver env d)
  steady_deliver env d b = steady_deliver_by (is_queued d) env d b

  steady_forgets : (o : Option RetainedMessage) (b : Broker) → AreGood Good (forgets o) b
  steady_forgets None b = tt
  steady_forgets (Some k) b = (tt, tt)

  steady_retain : (retain empty : Bool) (number : ℕ) (m : Message) → GoodAct Good (retain_by retain empty number m)
  steady_retain false empty number m b = tt
  steady_retain true true number m b = steady_forgets (retained_of m.topic b.records) b
  steady_retain true false number m b = (tt, tt)

  steady_publish : (env : Env) (origin : Origin) (m : Message) (ds : List CopyTo) (b : Broker) → AreGood Good (publish env origin m ds b) b
  steady_publish env origin m ds b =
      let number = next_publication b.records in
      good_series Good (always (Accept number origin m ∷ []) ∷ retain_by m.retain (is_empty m.payload) number m ∷ map (deliver env) ds)
      ((λ c. (tt, tt)), (steady_retain m.retain (is_empty m.payload) number m, good_acts Good (deliver env) (steady_deliver env) ds)) b

  steady_publish_or_refuse : (env : Env) (who : Whose) (m : Message) (o : Option (List CopyTo)) (b : Broker) → AreGood Good (publish_or_refuse env who m o b) b
  steady_publish_or_refuse env who m None b = (tt, tt)
  steady_publish_or_refuse env who m (Some ds) b = steady_publish env deeds.FromWill m ds b

  steady_will : (env : Env) (who : Whose) (will : Option Will) (b : Broker) → AreGood Good (will_deeds env who will b) b
  steady_will env who None b = tt
  steady_will env who (Some w) b =
      let m = will_message who.client w in
      good_two Good (publish_or_refuse env who m (accepted_copies env m b)) (always (At who DropWill ∷ [])) b
      (steady_publish_or_refuse env who m (accepted_copies env m b) b) (tt, tt)

  -- to publish a Will is steady
  pub steady_publish_will : (env : Env) (s : Session) (b : Broker) → AreGood Good (publish_will env s b) b
  steady_publish_will env s b = steady_will env (whose s) s.will b

  steady_end : (s : Session) (b : Broker) → s.birth ≡ birth → AreGood Good (end_session s) b
  steady_end s b is =
      good_append Good (map (λ e. At (whose s) (Leave e SessionEnded)) s.queue) (Finish (whose s) ∷ []) b
      (good_map Good (λ e. At (whose s) (Leave e SessionEnded)) (λ e c. tt) s.queue b) (is, tt)

  steady_end_if : (t : Bool) (s : Session) (b : Broker) → s.birth ≡ birth → AreGood Good (only_if t (always (end_session s)) b) b
  steady_end_if true s b is = steady_end s b is
  steady_end_if false s b is = tt

  -- the session with a birth, which is this one
  pub steady_settle : (env : Env) (k : ℕ) → k ≡ birth → GoodAct Good (settle env k)
  steady_settle env k is b =
      let first : Act = of_session k (λ s. only_if (has_due_will b.now s) (publish_will env s)) in
      let second : Act = of_session k (λ s. only_if (has_due_end b.now s) (always (end_session s))) in
      let c = after_all (first b) b in
      good_two Good first second b
      (good_with_session Good (session_at k b.records) (λ s. only_if (has_due_will b.now s) (publish_will env s)) b (λ s e. good_if Good (has_due_will b.now s) (publish_will env s) (steady_publish_will env s) b))
      (good_with_session Good (session_at k c.records) (λ s. only_if (has_due_end b.now s) (always (end_session s))) c
      (λ s e. steady_end_if (has_due_end b.now s) s c (found_birth k c.records.sessions s e ∙ is)))

  steady_close_session : (env : Env) (s : Session) → s.birth ≡ birth → GoodAct Good (close_session env true s)
  steady_close_session env s is b =
      good_series Good (only_if false (always (At (whose s) DropWill ∷ [])) ∷ always (At (whose s) (deeds.Close b.now) ∷ []) ∷ settle env s.birth ∷ [])
      ((λ x. tt), ((λ x. (tt, tt)), (steady_settle env s.birth is, tt))) b

  steady_connected : (env : Env) (o : Option ℕ) → o ≡ Some birth → GoodAct Good (close_connected env true o)
  steady_connected env None is b = tt
  steady_connected env (Some k) is b =
      let same : k ≡ birth = cc in
      good_with_session Good (session_at k b.records) (close_session env true) b (λ s e. steady_close_session env s (found_birth k b.records.sessions s e ∙ same) b)

  steady_drop : (env : Env) (code : ℕ) (l : Line) → l.session ≡ Some birth → GoodAct Good (drop_line env code l)
  steady_drop env code l its b =
      good_series Good (always (deeds.Send l.number (disconnect code) ∷ []) ∷ close env true l ∷ []) (
        (λ x. (tt, tt)),
        (
          (λ x. good_series Good (always (deeds.Gone l.number ∷ []) ∷ close_connected env true l.session ∷ [])
              ((λ y. (tt, tt)), (steady_connected env l.session its, tt)) x),
          tt,
        ),
      ) b

  steady_clear : (env : Env) → GoodAct Good (clears birth env)
  steady_clear env b =
      let c = after_all (publishes_will birth env b) b in
      good_then Good (publishes_will birth env b) (ends birth) b
      (good_with_session Good (session_at birth b.records) (publish_will env) b (λ s e. steady_publish_will env s b))
      (good_with_session Good (session_at birth c.records) (λ s. always (end_session s)) c (λ s e. steady_end s c (found_birth birth c.records.sessions s e)))

  -- to clear a session for a Clean Start is steady
  pub steady_clear_if : (clean : Bool) (env : Env) → GoodAct Good (clears_if clean birth env)
  steady_clear_if clean env = good_if Good clean (clears birth env) (steady_clear env)

  -- to close the old line of a session is steady
  pub steady_take_over : (env : Env) → GoodAct Good (takes_over birth env)
  steady_take_over env b =
      good_with_line Good (line_of birth b) (drop_line env session_taken_over) b (λ l e. steady_drop env session_taken_over l (line_is_of birth l b e) b)
