-- A line closes, its client leaves, or it is lost.
use Rattle.std.proofs.Common.{◌≡◌, ℕ, Bool, true, false, not, [], ◌∷◌, ◌++◌, nat_eq, refl, ap, sym, subst, ◌∙◌, inl, inr}
use Rattle.std.specs.Prelude.{Option, Some, None}
use Rattle.mqtt_base.specs.Codes.{normal_disconnection, protocol_error}
use Rattle.mqtt_records.specs.declared.state.session.Session.{Session}
use Rattle.mqtt_records.specs.declared.state.records.Records.{Records}
use Rattle.mqtt_records.specs.lists.Order.{row_at}
use Rattle.mqtt_rules.specs.step.Closing.{close, close_connected, drop_line}
use Rattle.mqtt_rules.specs.step.Contents.{IsWilled}
use Rattle.mqtt_rules.specs.step.Deeds.{Act, Gone, Send, after_all, always, series, then, with_line, with_session}
use Rattle.mqtt_rules.specs.step.Inbound.{is_late_expiry, leave_by, new_expiry, on_disconnect}
use Rattle.mqtt_rules.specs.step.Packets.{disconnect}
use Rattle.mqtt_rules.specs.step.State.{Broker, Env, Line, session_at}
use Rattle.mqtt_rules.specs.step.Step.{deeds_of, Lost}
use Rattle.mqtt_broker_step.specs.Lines.{line_number}
use Rattle.mqtt_broker_step.specs.declared.fault.StepFault.{StepFault}
use Rattle.mqtt_broker_step.specs.Stepping.{Stepping, did, Did, IsLeft, env_in}
use Rattle.mqtt_broker_step.proofs.Sendings.{line_found}
use Rattle.mqtt_broker_step.proofs.Doing.{did_none}
use Rattle.mqtt_broker_queue.specs.publications.Choosing.{DoesSome, LeavesSome}
use Rattle.mqtt_broker_queue.proofs.publications_lemmas.Some.{both, does_then, does_some, leaves_first, leaves_some, then_some, then_some_left, same_does, same_some, same_some_left, alone}
use Rattle.mqtt_broker_acts.specs.closing.Settling.{closes, disconnects, leaves_by, sets_expiry}
use Rattle.mqtt_broker_acts.specs.closing.Wills.{ChoosesOnce, will_at}
use Rattle.mqtt_broker_acts.proofs.closing_lemmas.Closed.{Keeps, keeps_same, expiry_keeps}
use Rattle.mqtt_broker_acts.proofs.closing_lemmas.Settled.{did_nothing, does_nothing}

-- ---- a line closes

abbrev gone_part : ℕ → Env → Act
gone_part line env = always (Gone line ∷ [])

abbrev connected_part : Bool → Option ℕ → Env → Act
connected_part keeps session env = close_connected env keeps session

close_act : (keeps : Bool) (line : ℕ) (session : Option ℕ) (l : Line) (env : Env) (b : Broker) → l.number ≡ line → l.session ≡ session
    → both (gone_part line) (connected_part keeps session) env b ≡ close env keeps l b
close_act keeps line session l env b number on =
    let gone = Gone line ∷ [] in
    ap (λ ds. gone ++ ds) (alone (close_connected env keeps session) (after_all gone b))
    ∙ (ap (λ n. series (always (Gone n ∷ []) ∷ close_connected env keeps session ∷ []) b) (sym number)
    ∙ ap (λ o. series (always (Gone l.number ∷ []) ∷ close_connected env keeps o ∷ []) b) (sym on))

-- a line that goes takes no Will and no route
pub gone_keeps : (birth line : ℕ) (s s1 : Stepping) → Did (always (Gone line ∷ [])) s s1 → Keeps birth s.broker.records s1.broker.records
gone_keeps birth line s s1 is = keeps_same birth s.broker.records s1.broker.records (ap (λ (t : Stepping). t.broker.records) is.is)

-- a line goes, and its session is closed: that is the close of a line
pub closed_with : (keeps : Bool) (line birth : ℕ) (l : Line) (s s1 s2 : Stepping) → l.number ≡ line → l.session ≡ Some birth → Did (always (Gone line ∷ [])) s s1
    → DoesSome (closes keeps birth) s1 s2 → DoesSome (λ env. close env keeps l) s s2
closed_with keeps line birth l s s1 s2 number on gone rest =
    same_some (both (gone_part line) (connected_part keeps (Some birth))) (λ env. close env keeps l) s s2
    (λ choice. close_act keeps line (Some birth) l (env_in choice s) s.broker number on)
    (then_some (gone_part line) (connected_part keeps (Some birth)) s s1 s2 (λ choice. gone) rest)

-- a line without a session goes: so it is closed
pub closed_without : (keeps : Bool) (line : ℕ) (l : Line) (s s1 : Stepping) → l.number ≡ line → l.session ≡ None → Did (always (Gone line ∷ [])) s s1 → DoesSome (λ env. close env keeps l) s s1
closed_without keeps line l s s1 number on gone =
    same_some (both (gone_part line) (connected_part keeps None)) (λ env. close env keeps l) s s1
    (λ choice. close_act keeps line None l (env_in choice s) s.broker number on)
    (does_some (both (gone_part line) (connected_part keeps None)) s s1
    (does_then (gone_part line) (connected_part keeps None) s s1 s1 (λ choice. gone) (does_nothing (connected_part keeps None) s1 (λ env. refl))))

-- the close of a line may be refused at its going
pub gone_refused : (keeps : Bool) (line : ℕ) (session : Option ℕ) (l : Line) (fault : StepFault) (s new : Stepping) → l.number ≡ line → l.session ≡ session → IsLeft (always (Gone line ∷ [])) fault s new
    → LeavesSome (λ env. close env keeps l) fault s new
gone_refused keeps line session l fault s new number on left =
    same_some_left (both (gone_part line) (connected_part keeps session)) (λ env. close env keeps l) fault s new
    (λ choice. close_act keeps line session l (env_in choice s) s.broker number on)
    (leaves_some (both (gone_part line) (connected_part keeps session)) fault s new
    (leaves_first (gone_part line) (connected_part keeps session) fault s new (λ choice. left)))

-- or at the close of its session
pub closed_left : (keeps : Bool) (line birth : ℕ) (l : Line) (fault : StepFault) (s s1 new : Stepping) → l.number ≡ line → l.session ≡ Some birth → Did (always (Gone line ∷ [])) s s1
    → LeavesSome (closes keeps birth) fault s1 new → LeavesSome (λ env. close env keeps l) fault s new
closed_left keeps line birth l fault s s1 new number on gone left =
    same_some_left (both (gone_part line) (connected_part keeps (Some birth))) (λ env. close env keeps l) fault s new
    (λ choice. close_act keeps line (Some birth) l (env_in choice s) s.broker number on)
    (then_some_left (gone_part line) (connected_part keeps (Some birth)) fault s s1 new (λ choice. gone) left)

one_is : (m n : ℕ) → Some m ≡ Some n → m ≡ n
one_is m n e = cc

-- one line has one session
pub one_session : (m n : ℕ) (session : Option ℕ) → session ≡ Some m → session ≡ Some n → m ≡ n
one_session m n session first second = one_is m n (sym first ∙ second)

-- the close of a line asks for members of groups at most once
pub close_once : (keeps : Bool) (line birth : ℕ) (l : Line) (s s1 s2 : Stepping) → l.number ≡ line → l.session ≡ Some birth → Did (always (Gone line ∷ [])) s s1
    → ChoosesOnce birth (closes keeps birth) s1 s2 → ChoosesOnce birth (λ env. close env keeps l) s s2
close_once keeps line birth l s s1 s2 number on gone once = elim once [
  | inl none ↦ inl none
  | inr does ↦ inr (same_does (both (gone_part line) (connected_part keeps (Some birth))) (λ env. close env keeps l) s s2
      (λ choice. close_act keeps line (Some birth) l (env_in choice s) s.broker number on)
      (does_then (gone_part line) (connected_part keeps (Some birth)) s s1 s2 (λ choice. gone) does))
]

-- ---- with DISCONNECT

abbrev told_part : ℕ → ℕ → Env → Act
told_part line code env = always (Send line (disconnect code) ∷ [])

abbrev closed_part : Line → Env → Act
closed_part l env = close env true l

drop_act : (line code : ℕ) (l : Line) (env : Env) (b : Broker) → l.number ≡ line → both (told_part line code) (closed_part l) env b ≡ drop_line env code l b
drop_act line code l env b number =
    let sent = Send line (disconnect code) ∷ [] in
    ap (λ ds. sent ++ ds) (alone (close env true l) (after_all sent b))
    ∙ ap (λ n. series (always (Send n (disconnect code) ∷ []) ∷ close env true l ∷ []) b) (sym number)

-- a DISCONNECT that goes out takes no Will and no route
pub sent_keeps : (birth line code : ℕ) (s s1 : Stepping) → Did (always (Send line (disconnect code) ∷ [])) s s1 → Keeps birth s.broker.records s1.broker.records
sent_keeps birth line code s s1 is = keeps_same birth s.broker.records s1.broker.records (ap (λ (t : Stepping). t.broker.records) is.is)

-- a DISCONNECT, and the close of the line: that is its drop
pub line_dropped : (line code : ℕ) (l : Line) (s s1 s2 : Stepping) → l.number ≡ line → Did (always (Send line (disconnect code) ∷ [])) s s1 → DoesSome (λ env. close env true l) s1 s2
    → DoesSome (λ env. drop_line env code l) s s2
line_dropped line code l s s1 s2 number sent rest =
    same_some (both (told_part line code) (closed_part l)) (λ env. drop_line env code l) s s2 (λ choice. drop_act line code l (env_in choice s) s.broker number)
    (then_some (told_part line code) (closed_part l) s s1 s2 (λ choice. sent) rest)

-- the drop of a line asks for members of groups at most once
pub drop_once : (line code birth : ℕ) (l : Line) (s s1 s2 : Stepping) → l.number ≡ line → Did (always (Send line (disconnect code) ∷ [])) s s1
    → ChoosesOnce birth (λ env. close env true l) s1 s2 → ChoosesOnce birth (λ env. drop_line env code l) s s2
drop_once line code birth l s s1 s2 number sent once = elim once [
  | inl none ↦ inl none
  | inr does ↦ inr (same_does (both (told_part line code) (closed_part l)) (λ env. drop_line env code l) s s2 (λ choice. drop_act line code l (env_in choice s) s.broker number)
      (does_then (told_part line code) (closed_part l) s s1 s2 (λ choice. sent) does))
]

-- a drop may be refused at its DISCONNECT
pub told_refused : (line code : ℕ) (l : Line) (fault : StepFault) (s new : Stepping) → l.number ≡ line → IsLeft (always (Send line (disconnect code) ∷ [])) fault s new → LeavesSome (λ env. drop_line env code l) fault s new
told_refused line code l fault s new number left =
    same_some_left (both (told_part line code) (closed_part l)) (λ env. drop_line env code l) fault s new (λ choice. drop_act line code l (env_in choice s) s.broker number)
    (leaves_some (both (told_part line code) (closed_part l)) fault s new (leaves_first (told_part line code) (closed_part l) fault s new (λ choice. left)))

-- or at the close of the line
pub dropped_left : (line code : ℕ) (l : Line) (fault : StepFault) (s s1 new : Stepping) → l.number ≡ line → Did (always (Send line (disconnect code) ∷ [])) s s1 → LeavesSome (λ env. close env true l) fault s1 new
    → LeavesSome (λ env. drop_line env code l) fault s new
dropped_left line code l fault s s1 new number sent left =
    same_some_left (both (told_part line code) (closed_part l)) (λ env. drop_line env code l) fault s new (λ choice. drop_act line code l (env_in choice s) s.broker number)
    (then_some_left (told_part line code) (closed_part l) fault s s1 new (λ choice. sent) left)

-- ---- a client leaves

same_one : (m n : ℕ) → Some m ≡ Some n → m ≡ n
same_one m n e = cc

-- the Will of the session of a line is lawful
pub own_lawful : (birth : ℕ) (r : Records) → IsWilled (will_at birth r) → (b : ℕ) → Some birth ≡ Some b → IsWilled (will_at b r)
own_lawful birth r lawful b is = subst (λ n. IsWilled (will_at n r)) (same_one birth b is) lawful

expiry_none : (birth : ℕ) (b : Broker) → sets_expiry None birth b ≡ []
expiry_none birth b = by_found (session_at birth b.records)
  where
    by_found : (o : Option Session) → with_session o (λ s. always (new_expiry None s)) b ≡ []
    by_found None = refl
    by_found (Some x) = refl

-- a DISCONNECT without an interval leaves the one that stands
pub no_expiry : (birth : ℕ) (s : Stepping) → Did (sets_expiry None birth) s s
no_expiry birth s = did_nothing (sets_expiry None birth) s (expiry_none birth s.broker)

-- an interval takes no Will and no route
pub expiry_kept : (expiry : Option ℕ) (birth : ℕ) (s s1 : Stepping) → Did (sets_expiry expiry birth) s s1 → Keeps birth s.broker.records s1.broker.records
expiry_kept None birth s s1 is =
    keeps_same birth s.broker.records s1.broker.records
    (ap (λ (t : Stepping). t.broker.records) (is.is ∙ (ap (λ ds. did ds s) (expiry_none birth s.broker) ∙ did_none s)))
expiry_kept (Some n) birth s s1 is = expiry_keeps birth n s s1 is

abbrev expiry_part : Option ℕ → ℕ → Env → Act
expiry_part expiry birth env = sets_expiry expiry birth

abbrev leaving_part : ℕ → Line → Env → Act
leaving_part code l env = close env (not (nat_eq code normal_disconnection)) l

-- an interval, and the close of the line: that is what a DISCONNECT does
pub left_by : (birth code : ℕ) (expiry : Option ℕ) (keeps : Bool) (l : Line) (s s1 s2 : Stepping) → keeps ≡ not (nat_eq code normal_disconnection) → Did (sets_expiry expiry birth) s s1
    → DoesSome (λ env. close env keeps l) s1 s2 → DoesSome (leaves_by birth expiry code l) s s2
left_by birth code expiry keeps l s s1 s2 is set closed =
    then_some (expiry_part expiry birth) (leaving_part code l) s s1 s2 (λ choice. set)
    (subst (λ (k : Bool). DoesSome (λ env. close env k l) s1 s2) is closed)

-- a DISCONNECT may be refused at its interval
pub set_refused : (birth code : ℕ) (expiry : Option ℕ) (l : Line) (fault : StepFault) (s new : Stepping) → IsLeft (sets_expiry expiry birth) fault s new → LeavesSome (leaves_by birth expiry code l) fault s new
set_refused birth code expiry l fault s new left =
    leaves_some (both (expiry_part expiry birth) (leaving_part code l)) fault s new (leaves_first (expiry_part expiry birth) (leaving_part code l) fault s new (λ choice. left))

-- or at the close of the line
pub leaving_left : (birth code : ℕ) (expiry : Option ℕ) (keeps : Bool) (l : Line) (fault : StepFault) (s s1 new : Stepping) → keeps ≡ not (nat_eq code normal_disconnection) → Did (sets_expiry expiry birth) s s1
    → LeavesSome (λ env. close env keeps l) fault s1 new → LeavesSome (leaves_by birth expiry code l) fault s new
leaving_left birth code expiry keeps l fault s s1 new is set left =
    then_some_left (expiry_part expiry birth) (leaving_part code l) fault s s1 new (λ choice. set)
    (subst (λ (k : Bool). LeavesSome (λ env. close env k l) fault s1 new) is left)

-- ---- DISCONNECT

disconnect_is : (birth code : ℕ) (expiry : Option ℕ) (late : Bool) (l : Line) (x : Session) (env : Env) (b : Broker) → session_at birth b.records ≡ Some x → is_late_expiry expiry x.expiry ≡ late
    → disconnects birth l code expiry env b ≡ leave_by late env l x code expiry b
disconnect_is birth code expiry late l x env b found is =
    ap (λ o. with_session o (λ s. on_disconnect env l s code expiry) b) found ∙ ap (λ t. leave_by t env l x code expiry b) is

leave_act : (birth code : ℕ) (expiry : Option ℕ) (l : Line) (x : Session) (env : Env) (b : Broker) → session_at birth b.records ≡ Some x → leaves_by birth expiry code l env b ≡ leave_by false env l x code expiry b
leave_act birth code expiry l x env b found =
    let closing : Act = close env (not (nat_eq code normal_disconnection)) l in
    ap (λ ds. then ds closing b) (ap (λ o. with_session o (λ s. always (new_expiry expiry s)) b) found)
    ∙ ap (λ ds. new_expiry expiry x ++ ds) (alone closing (after_all (new_expiry expiry x) b))

-- without a session a DISCONNECT does nothing
pub disconnect_none : (birth code : ℕ) (expiry : Option ℕ) (l : Line) (s : Stepping) → session_at birth s.broker.records ≡ None → DoesSome (disconnects birth l code expiry) s s
disconnect_none birth code expiry l s none =
    does_some (disconnects birth l code expiry) s s
    (does_nothing (disconnects birth l code expiry) s (λ env. ap (λ o. with_session o (λ x. on_disconnect env l x code expiry) s.broker) none))

-- an interval that comes too late drops the line
pub disconnect_late : (birth code : ℕ) (expiry : Option ℕ) (l : Line) (x : Session) (s new : Stepping) → session_at birth s.broker.records ≡ Some x → is_late_expiry expiry x.expiry ≡ true
    → DoesSome (λ env. drop_line env protocol_error l) s new → DoesSome (disconnects birth l code expiry) s new
disconnect_late birth code expiry l x s new found late is =
    same_some (λ env. drop_line env protocol_error l) (disconnects birth l code expiry) s new
    (λ choice. sym (disconnect_is birth code expiry true l x (env_in choice s) s.broker found late)) is

-- or that is refused
pub disconnect_late_left : (birth code : ℕ) (expiry : Option ℕ) (l : Line) (x : Session) (fault : StepFault) (s new : Stepping) → session_at birth s.broker.records ≡ Some x → is_late_expiry expiry x.expiry ≡ true
    → LeavesSome (λ env. drop_line env protocol_error l) fault s new → LeavesSome (disconnects birth l code expiry) fault s new
disconnect_late_left birth code expiry l x fault s new found late is =
    same_some_left (λ env. drop_line env protocol_error l) (disconnects birth l code expiry) fault s new
    (λ choice. sym (disconnect_is birth code expiry true l x (env_in choice s) s.broker found late)) is

-- any other DISCONNECT does what it says
pub disconnected : (birth code : ℕ) (expiry : Option ℕ) (l : Line) (x : Session) (s new : Stepping) → session_at birth s.broker.records ≡ Some x → is_late_expiry expiry x.expiry ≡ false
    → DoesSome (leaves_by birth expiry code l) s new → DoesSome (disconnects birth l code expiry) s new
disconnected birth code expiry l x s new found late is =
    same_some (leaves_by birth expiry code l) (disconnects birth l code expiry) s new
    (λ choice. leave_act birth code expiry l x (env_in choice s) s.broker found ∙ sym (disconnect_is birth code expiry false l x (env_in choice s) s.broker found late)) is

-- or that is refused
pub disconnect_left : (birth code : ℕ) (expiry : Option ℕ) (l : Line) (x : Session) (fault : StepFault) (s new : Stepping) → session_at birth s.broker.records ≡ Some x → is_late_expiry expiry x.expiry ≡ false
    → LeavesSome (leaves_by birth expiry code l) fault s new → LeavesSome (disconnects birth l code expiry) fault s new
disconnect_left birth code expiry l x fault s new found late is =
    same_some_left (leaves_by birth expiry code l) (disconnects birth l code expiry) fault s new
    (λ choice. leave_act birth code expiry l x (env_in choice s) s.broker found ∙ sym (disconnect_is birth code expiry false l x (env_in choice s) s.broker found late)) is

-- ---- a line is lost

lost_act : (n : ℕ) (o : Option Line) (env : Env) (b : Broker) → row_at line_number n b.lines ≡ o → deeds_of env (Lost n) b ≡ with_line o (close env true) b
lost_act n o env b found = ap (λ x. with_line x (close env true) b) (sym (line_found n b.lines) ∙ found)

-- the loss of a line that is not linked does nothing
pub lost_none : (n : ℕ) (s : Stepping) → row_at line_number n s.broker.lines ≡ None → DoesSome (λ env. deeds_of env (Lost n)) s s
lost_none n s none = does_some (λ env. deeds_of env (Lost n)) s s (does_nothing (λ env. deeds_of env (Lost n)) s (λ env. lost_act n None env s.broker none))

-- the loss of a line closes it, with its Will
pub line_lost : (n : ℕ) (l : Line) (s new : Stepping) → row_at line_number n s.broker.lines ≡ Some l → DoesSome (λ env. close env true l) s new → DoesSome (λ env. deeds_of env (Lost n)) s new
line_lost n l s new found is =
    same_some (λ env. close env true l) (λ env. deeds_of env (Lost n)) s new (λ choice. sym (lost_act n (Some l) (env_in choice s) s.broker found)) is

-- or that is refused
pub lost_left : (n : ℕ) (l : Line) (fault : StepFault) (s new : Stepping) → row_at line_number n s.broker.lines ≡ Some l → LeavesSome (λ env. close env true l) fault s new → LeavesSome (λ env. deeds_of env (Lost n)) fault s new
lost_left n l fault s new found is =
    same_some_left (λ env. close env true l) (λ env. deeds_of env (Lost n)) fault s new (λ choice. sym (lost_act n (Some l) (env_in choice s) s.broker found)) is
