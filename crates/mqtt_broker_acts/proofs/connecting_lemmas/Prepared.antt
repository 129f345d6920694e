-- What comes before a new connection of a client whose session stands: its parts, one after the other.
use Rattle.std.proofs.Common.{◌≡◌, ℕ, Bool, true, false, cond, List, [], ◌∷◌, ◌++◌, nat_eq, bytes_eq, refl, ap, sym, subst, ◌∙◌, inl, inr, append-nil}
use Rattle.std.specs.Prelude.{Option, Some, None, find}
use Rattle.std.proofs.lemmas.Slice.Eq.{bytes_eq-Decides}
use Rattle.mqtt_packet.specs.declared.connect.connect.Connect.{Connect}
use Rattle.mqtt_records.specs.declared.state.session.Session.{Session}
use Rattle.mqtt_records.specs.state.Session.{birth_of}
use Rattle.mqtt_routes.specs.routing.Subscriptions.{Subscriber}
use Rattle.mqtt_records.specs.lists.Order.{row_at}
use Rattle.mqtt_base.specs.Codes.{session_taken_over}
use Rattle.mqtt_rules.specs.step.Closing.{drop_line, end_session, publish_will, settle}
use Rattle.mqtt_rules.specs.step.Connect.{clear, of_client, prepare, take_over}
use Rattle.mqtt_rules.specs.step.Contents.{IsWilled}
use Rattle.mqtt_rules.specs.step.Deeds.{Act, Deed, after_all, always, only_if, series, then, with_line, with_session}
use Rattle.mqtt_rules.specs.step.Routing.{subscribers}
use Rattle.mqtt_rules.specs.step.State.{Broker, Env, Line, MemberChoice, line_of, session_at}
use Rattle.mqtt_rules.proofs.step_lemmas.acts.Goods.{AreGood, GoodAct}
use Rattle.mqtt_rules.proofs.step_lemmas.acts.Leads.{found_passes}
use Rattle.mqtt_broker_step.specs.declared.fault.StepFault.{StepFault}
use Rattle.mqtt_broker_step.specs.Stepping.{Stepping, Did, Does, Leaves, env_in}
use Rattle.mqtt_broker_step.proofs.Doing.{found_birth}
use Rattle.mqtt_broker_queue.specs.publications.Choosing.{DoesSome, LeavesSome}
use Rattle.mqtt_broker_queue.proofs.publications_lemmas.Some.{same_does, same_leaves, same_some, same_some_left}
use Rattle.mqtt_broker_acts.specs.closing.Ending.{ends}
use Rattle.mqtt_broker_acts.specs.closing.Wills.{ChoosesOnce, will_at}
use Rattle.mqtt_broker_acts.proofs.closing_lemmas.Settled.{does_nothing}
use Rattle.mqtt_broker_acts.specs.connecting.Preparing.{IsOnly, clears, clears_if, settles, settles_and_clears, takes_over}
use Rattle.mqtt_broker_acts.proofs.connecting_lemmas.Steady.{IsSteady, IsGone, IsKept, OnlyIn, SubsIn, WillIn, gone_kept, only_kept, subs_kept, will_kept, steady_keeps, steady_publish_will, steady_settle, steady_take_over}
use Rattle.mqtt_broker_acts.proofs.closing_lemmas.Closed.{settle_absent}

-- ---- what stays over an act

-- what steady deeds keep of the sessions an act of such deeds keeps
pub some_keeps : (birth : ℕ) (P : List Session → Type 0) (act : Env → Act) (s new : Stepping) → IsKept birth P → ((env : Env) → GoodAct (IsSteady birth) (act env)) → DoesSome act s new
    → P s.broker.records.sessions → P new.broker.records.sessions
some_keeps birth P act s new kept steady some p =
    let choice : MemberChoice = λ n sender. some.members in
    let is : Did (act (env_in choice s)) s new = some.is choice refl in
    subst (λ (t : Stepping). P t.broker.records.sessions) (sym is.is)
    (steady_keeps birth P kept (act (env_in choice s) s.broker) s.broker (steady (env_in choice s) s.broker) p)

-- such an act keeps a lawful Will lawful
pub some_willed : (birth : ℕ) (act : Env → Act) (s new : Stepping) → ((env : Env) → GoodAct (IsSteady birth) (act env)) → DoesSome act s new
    → IsWilled (will_at birth s.broker.records) → IsWilled (will_at birth new.broker.records)
some_willed birth act s new steady some willed = some_keeps birth (WillIn IsWilled birth) act s new (will_kept IsWilled birth tt) steady some willed

-- it brings no Will
pub some_none : (birth : ℕ) (act : Env → Act) (s new : Stepping) → ((env : Env) → GoodAct (IsSteady birth) (act env)) → DoesSome act s new
    → will_at birth s.broker.records ≡ None → will_at birth new.broker.records ≡ None
some_none birth act s new steady some none = some_keeps birth (WillIn (λ w. w ≡ None) birth) act s new (will_kept (λ w. w ≡ None) birth refl) steady some none

-- a session that is gone stays gone
pub some_gone : (birth : ℕ) (act : Env → Act) (s new : Stepping) → ((env : Env) → GoodAct (IsSteady birth) (act env)) → DoesSome act s new
    → session_at birth s.broker.records ≡ None → session_at birth new.broker.records ≡ None
some_gone birth act s new steady some none = some_keeps birth (IsGone birth) act s new (gone_kept birth) steady some none

-- the router serves on, while the session stands
stood : (o : Option Session) (x : Session) → o ≡ None → o ≡ Some x → ⊥
stood o x none is = absurd cc

-- it leaves the routes, if the session stood
pub some_serves : (Serves : List Subscriber → Type 0) (birth : ℕ) (act : Env → Act) (s new : Stepping) → ((env : Env) → GoodAct (IsSteady birth) (act env)) → DoesSome act s new
    → ((x : Session) → session_at birth s.broker.records ≡ Some x → Serves (subscribers s.broker.records))
    → (x : Session) → session_at birth new.broker.records ≡ Some x → Serves (subscribers new.broker.records)
some_serves Serves birth act s new steady some serves x found = by_old (session_at birth s.broker.records) refl
  where
    subs : List Subscriber
    subs = subscribers s.broker.records

    by_kept : SubsIn subs birth new.broker.records.sessions → Serves subs → Serves (subscribers new.broker.records)
    by_kept p it = elim p [
      | inl same ↦ subst Serves (sym same) it
      | inr none ↦ absurd (stood (session_at birth new.broker.records) x none found)
    ]

    kept_from : SubsIn subs birth s.broker.records.sessions → SubsIn subs birth new.broker.records.sessions
    kept_from p = some_keeps birth (SubsIn subs birth) act s new (subs_kept subs birth) steady some p

    by_old : (o : Option Session) → session_at birth s.broker.records ≡ o → Serves (subscribers new.broker.records)
    by_old (Some y) is = by_kept (kept_from (inl refl)) (serves y is)
    by_old None is = absurd (stood (session_at birth new.broker.records) x (some_gone birth act s new steady some is) found)

-- ---- the parts are the whole

-- the session of the client is the one with the birth
pub named_is : (client : List ℕ) (birth : ℕ) (ss : List Session) → OnlyIn client birth ss → find (λ s. bytes_eq s.client client) ss ≡ row_at birth_of birth ss
named_is client birth [] only = refl
named_is client birth (s ∷ ss) only =
    ap (λ (t : Bool). cond t (Some s) (find (λ x. bytes_eq x.client client) ss)) only.0
    ∙ ap (λ (o : Option Session). cond (nat_eq s.birth birth) (Some s) o) (named_is client birth ss only.1)

client_is : (client : List ℕ) (birth : ℕ) (f : Session → Act) (b : Broker) → IsOnly client birth b.records → of_client client f b ≡ with_session (session_at birth b.records) f b
client_is client birth f b only = ap (λ o. with_session o f b) (named_is client birth b.records.sessions only)

only_after : (client : List ℕ) (birth : ℕ) (ds : List Deed) (b : Broker) → AreGood (IsSteady birth) ds b → IsOnly client birth b.records → IsOnly client birth (after_all ds b).records
only_after client birth ds b steady only = steady_keeps birth (OnlyIn client birth) (only_kept client birth) ds b steady only

over_is : (client : List ℕ) (birth : ℕ) (x : Session) (env : Env) (b : Broker) → IsOnly client birth b.records → session_at birth b.records ≡ Some x
    → takes_over birth env b ≡ of_client client (take_over env) b
over_is client birth x env b only found =
    sym (client_is client birth (take_over env) b only
    ∙ (ap (λ o. with_session o (take_over env) b) found
    ∙ ap (λ n. takes_over n env b) (found_birth birth b.records.sessions x found)))

settle_by : (birth : ℕ) (env : Env) (b : Broker) (o : Option Session) → session_at birth b.records ≡ o → settles birth env b ≡ with_session o (λ s. settle env s.birth) b
settle_by birth env b None found = settle_absent birth env b found
settle_by birth env b (Some x) found = ap (λ n. settle env n b) (sym (found_birth birth b.records.sessions x found))

settle_is : (client : List ℕ) (birth : ℕ) (env : Env) (b : Broker) → IsOnly client birth b.records → settles birth env b ≡ of_client client (λ s. settle env s.birth) b
settle_is client birth env b only = settle_by birth env b (session_at birth b.records) refl ∙ sym (client_is client birth (λ s. settle env s.birth) b only)

-- a session that stands has the client identifier
its_client : (client : List ℕ) (birth : ℕ) (x : Session) (b : Broker) → IsOnly client birth b.records → session_at birth b.records ≡ Some x → x.client ≡ client
its_client client birth x b only found =
    (bytes_eq-Decides x.client client).0
    (found_passes (λ (s : Session). bytes_eq s.client client) x b.records.sessions (named_is client birth b.records.sessions only ∙ found))

-- of a session that is gone nothing is cleared
pub clear_gone : (birth : ℕ) (env : Env) (b : Broker) → session_at birth b.records ≡ None → clears birth env b ≡ []
clear_gone birth env b none =
    ap (λ ds. then ds (ends birth) b) (ap (λ o. with_session o (publish_will env) b) none)
    ∙ ap (λ o. with_session o (λ s. always (end_session s)) b) none

clear_by : (client : List ℕ) (birth : ℕ) (env : Env) (b : Broker) (o : Option Session) → IsOnly client birth b.records → session_at birth b.records ≡ o → clears birth env b ≡ with_session o (clear env) b
clear_by client birth env b None only found = clear_gone birth env b found
clear_by client birth env b (Some x) only found =
    let will : List Deed = publish_will env x b in
    let c = after_all will b in
    let end : Session → Act = λ t. always (end_session t) in
    let later : IsOnly client birth c.records = only_after client birth will b (steady_publish_will birth env x b) only in
    ap (λ ds. then ds (ends birth) b) (ap (λ o. with_session o (publish_will env) b) found)
    ∙ ap (λ ds. will ++ ds)
    (sym (client_is client birth end c later)
    ∙ (ap (λ name. of_client name end c) (sym (its_client client birth x b only found))
    ∙ sym (append-nil (of_client x.client end c))))

clear_is : (client : List ℕ) (birth : ℕ) (clean : Bool) (env : Env) (b : Broker) → IsOnly client birth b.records → clears_if clean birth env b ≡ only_if clean (of_client client (clear env)) b
clear_is client birth false env b only = refl
clear_is client birth true env b only = clear_by client birth env b (session_at birth b.records) only refl ∙ sym (client_is client birth (clear env) b only)

abbrev pub prepares : Bool → ℕ → Env → Act
prepares clean birth env b = then (takes_over birth env b) (settles_and_clears clean birth env) b

-- the one session of a client's name is what its CONNECT prepares
pub prepare_is : (birth : ℕ) (x : Session) (env : Env) (c : Connect) (b : Broker) → IsOnly c.client_identifier birth b.records → session_at birth b.records ≡ Some x
    → prepares c.clean_start birth env b ≡ prepare env c b
prepare_is birth x env c b only found =
    let name = c.client_identifier in
    let over : List Deed = takes_over birth env b in
    let b1 = after_all over b in
    let only1 : IsOnly name birth b1.records = only_after name birth over b (steady_take_over birth env b) only in
    let settling : List Deed = settles birth env b1 in
    let b2 = after_all settling b1 in
    let only2 : IsOnly name birth b2.records = only_after name birth settling b1 (steady_settle birth env birth refl b1) only1 in
    let clearing : Act = only_if c.clean_start (of_client name (clear env)) in
    let settling_act : Act = of_client name (λ s. settle env s.birth) in
    ap (λ ds. over ++ (settling ++ ds)) (clear_is name birth c.clean_start env b2 only2 ∙ sym (append-nil (clearing b2)))
    ∙ (ap (λ ds. over ++ then ds (series (clearing ∷ [])) b1) (settle_is name birth env b1 only1)
    ∙ ap (λ ds. then ds (series (settling_act ∷ clearing ∷ [])) b) (over_is name birth x env b only found))

-- ---- if there is a line, or none

-- a session on no line is not taken over
pub over_none : (birth : ℕ) (s : Stepping) → line_of birth s.broker ≡ None → Does (takes_over birth) s s
over_none birth s none = does_nothing (takes_over birth) s (λ env. ap (λ o. with_line o (drop_line env session_taken_over) s.broker) none)

over_line : (birth : ℕ) (l : Line) (env : Env) (b : Broker) → line_of birth b ≡ Some l → drop_line env session_taken_over l b ≡ takes_over birth env b
over_line birth l env b found = ap (λ o. with_line o (drop_line env session_taken_over) b) (sym found)

-- a session on a line is, and that line is dropped
pub over_done : (birth : ℕ) (l : Line) (s new : Stepping) → line_of birth s.broker ≡ Some l → DoesSome (λ env. drop_line env session_taken_over l) s new → DoesSome (takes_over birth) s new
over_done birth l s new found is = same_some (λ env. drop_line env session_taken_over l) (takes_over birth) s new (λ choice. over_line birth l (env_in choice s) s.broker found) is

-- or that is refused
pub over_left : (birth : ℕ) (l : Line) (fault : StepFault) (s new : Stepping) → line_of birth s.broker ≡ Some l → LeavesSome (λ env. drop_line env session_taken_over l) fault s new
    → LeavesSome (takes_over birth) fault s new
over_left birth l fault s new found is = same_some_left (λ env. drop_line env session_taken_over l) (takes_over birth) fault s new (λ choice. over_line birth l (env_in choice s) s.broker found) is

-- a takeover asks for members of groups at most once
pub over_once : (birth : ℕ) (l : Line) (s new : Stepping) → line_of birth s.broker ≡ Some l → ChoosesOnce birth (λ env. drop_line env session_taken_over l) s new → ChoosesOnce birth (takes_over birth) s new
over_once birth l s new found once = elim once [
  | inl gone ↦ inl gone
  | inr does ↦ inr (same_does (λ env. drop_line env session_taken_over l) (takes_over birth) s new (λ choice. over_line birth l (env_in choice s) s.broker found) does)
]

-- if the session doesn't stand
pub settles_nothing : (birth : ℕ) (s : Stepping) → session_at birth s.broker.records ≡ None → Does (settles birth) s s
settles_nothing birth s none = does_nothing (settles birth) s (λ env. settle_absent birth env s.broker none)

-- clearing a session that is gone is done by doing nothing
pub clears_nothing : (birth : ℕ) (s : Stepping) → session_at birth s.broker.records ≡ None → Does (clears birth) s s
clears_nothing birth s none = does_nothing (clears birth) s (λ env. clear_gone birth env s.broker none)

-- if the client doesn't start clean, and if it does
clean_is : (clean : Bool) (birth : ℕ) (env : Env) (b : Broker) → clean ≡ true → clears birth env b ≡ clears_if clean birth env b
clean_is clean birth env b is = ap (λ t. only_if t (clears birth env) b) (sym is)

-- without Clean Start nothing is cleared
pub unclean_does : (clean : Bool) (birth : ℕ) (s : Stepping) → clean ≡ false → Does (clears_if clean birth) s s
unclean_does clean birth s is = does_nothing (clears_if clean birth) s (λ env. ap (λ t. only_if t (clears birth env) s.broker) is)

-- with Clean Start the session is cleared
pub clean_some : (clean : Bool) (birth : ℕ) (s new : Stepping) → clean ≡ true → DoesSome (clears birth) s new → DoesSome (clears_if clean birth) s new
clean_some clean birth s new is some = same_some (clears birth) (clears_if clean birth) s new (λ choice. clean_is clean birth (env_in choice s) s.broker is) some

-- so it is if nobody has to be chosen
pub clean_does : (clean : Bool) (birth : ℕ) (s new : Stepping) → clean ≡ true → Does (clears birth) s new → Does (clears_if clean birth) s new
clean_does clean birth s new is does = same_does (clears birth) (clears_if clean birth) s new (λ choice. clean_is clean birth (env_in choice s) s.broker is) does

-- or that is refused
pub clean_left : (clean : Bool) (birth : ℕ) (fault : StepFault) (s new : Stepping) → clean ≡ true → LeavesSome (clears birth) fault s new → LeavesSome (clears_if clean birth) fault s new
clean_left clean birth fault s new is left = same_some_left (clears birth) (clears_if clean birth) fault s new (λ choice. clean_is clean birth (env_in choice s) s.broker is) left

-- so it is if nobody has to be chosen
pub clean_quiet_left : (clean : Bool) (birth : ℕ) (fault : StepFault) (s new : Stepping) → clean ≡ true → Leaves (clears birth) fault s new → Leaves (clears_if clean birth) fault s new
clean_quiet_left clean birth fault s new is left = same_leaves (clears birth) (clears_if clean birth) fault s new (λ choice. clean_is clean birth (env_in choice s) s.broker is) left

-- ---- the whole

-- taking over and clearing are what a CONNECT prepares
pub prepared_some : (birth : ℕ) (x : Session) (c : Connect) (s new : Stepping) → IsOnly c.client_identifier birth s.broker.records → session_at birth s.broker.records ≡ Some x
    → DoesSome (prepares c.clean_start birth) s new → DoesSome (λ env. prepare env c) s new
prepared_some birth x c s new only found some =
    same_some (prepares c.clean_start birth) (λ env. prepare env c) s new (λ choice. prepare_is birth x (env_in choice s) c s.broker only found) some

-- or that is refused
pub prepared_left : (birth : ℕ) (x : Session) (c : Connect) (fault : StepFault) (s new : Stepping) → IsOnly c.client_identifier birth s.broker.records → session_at birth s.broker.records ≡ Some x
    → LeavesSome (prepares c.clean_start birth) fault s new → LeavesSome (λ env. prepare env c) fault s new
prepared_left birth x c fault s new only found left =
    same_some_left (prepares c.clean_start birth) (λ env. prepare env c) fault s new (λ choice. prepare_is birth x (env_in choice s) c s.broker only found) left
