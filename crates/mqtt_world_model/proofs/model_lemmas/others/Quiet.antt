-- Deeds that leave a session's handshakes and a line alone: what they leave, and that a publication's deeds are such.
use Rattle.std.proofs.Common.{◌≡◌, ℕ, Bool, true, false, cond, not, ◌⊎◌, List, [], ◌∷◌, ◌++◌, filter, map, Option, Some, None, nat_eq, refl, ap, ◌∙◌, inl, inr}
use Rattle.std.specs.Prelude.{⊤, option_map, find, filter_map, flat_map}
use Rattle.std.specs.List.{list_any}
use Rattle.std.proofs.lemmas.Bool.{eqb-true, cases_Bool}
use Rattle.mqtt_packet.specs.declared.codec.packet.Packet.{Packet}
use Rattle.mqtt_flow.specs.declared.outbound.entry.Turn.{Turn}
use Rattle.mqtt_flow.specs.declared.outbound.entry.Turn.TheVariants as turns
use Rattle.mqtt_flow.specs.outbound.Outbound.{way_made}
use Rattle.mqtt_flow.specs.inbound.Publisher.{ToPublisher}
use Rattle.mqtt_topic.specs.names.Names.{is_empty}
use Rattle.mqtt_records.specs.declared.messages.message.MessageCopy.{MessageCopy}
use Rattle.mqtt_records.specs.declared.messages.message.RetainedMessage.{RetainedMessage}
use Rattle.mqtt_records.specs.declared.messages.message.Will.{Will}
use Rattle.mqtt_records.specs.messages.Queue.{CopyRow}
use Rattle.mqtt_records.specs.declared.state.session.Session.{Session}
use Rattle.mqtt_records.specs.declared.state.records.Records.{Records}
use Rattle.mqtt_records.specs.lists.Order.{row_at}
use Rattle.mqtt_records.specs.state.Session.{birth_of, copy_place}
use Rattle.mqtt_rules.specs.step.Packets.{publish_of}
use Rattle.mqtt_rules.specs.step.State.{Line, Broker, Env, session_at, line_of, is_of, queue_on}
use Rattle.mqtt_rules.specs.step.Deeds.{whose, Message, Origin, FromClient, FromWill, Part, Resume, Close, SetExpiry, DropWill, Subscribe, Unsubscribe, Open, Release, Enter, Mark, Leave, LinePart, Hear, Greet, SetAlias, Went, Deed, Accept, Begin, Name, Count, At, Finish, Keep, Forget, RefuseWill, Link, On, Send, Gone, will_row, part_rows, part_rows_of, rows_of, stored_after, line_after, on_line, without_place, lines_at, lines_after, after, after_all, Act, always, series, with_session, output, closing}
use Rattle.mqtt_rules.specs.step.Fitting.{has_form, offer_copy}
use Rattle.mqtt_rules.specs.step.Outbound.{of_entry, leave_deeds, since, queue_limits, enter_deeds}
use Rattle.mqtt_rules.specs.step.Routing.{CopyTo, is_queued, deliver_by, deliver, retained_of, forgets, retain_by, next_publication, publish}
use Rattle.mqtt_rules.specs.step.Numbers.{birth_given}
use Rattle.mqtt_rules.proofs.step_lemmas.acts.Offers.{of_offer_if}
use Rattle.mqtt_rules.proofs.step_lemmas.flight.FlightRows.{found_key}
use Rattle.mqtt_world_model.specs.model.Ends.{heard}
use Rattle.mqtt_world_model.specs.model.Run.{client_number}
use Rattle.mqtt_world_model.proofs.model_lemmas.others.Rows.{face_at, IsBeside, AreBeside, beside_changes}
use Rattle.mqtt_rules.proofs.step_lemmas.lines.LineRows.{numbered}

-- ---- quiet deeds

-- parts of a session that don't show in its handshakes with a publisher
abbrev pub IsQuietPart : Part → Type 0
IsQuietPart (Resume expiry will) = ⊥
IsQuietPart (Close moment) = ⊥
IsQuietPart (SetExpiry expiry) = ⊥
IsQuietPart DropWill = ⊥
IsQuietPart (Subscribe s) = ⊤
IsQuietPart (Unsubscribe text) = ⊤
IsQuietPart (Open id) = ⊥
IsQuietPart (Release id) = ⊥
IsQuietPart (Enter copy) = ⊤
IsQuietPart (Mark place phase) = ⊤
IsQuietPart (Leave e ending) = ⊤

abbrev pub IsQuietOn : LinePart → Type 0
IsQuietOn Hear = ⊤
IsQuietOn (Greet birth keep_alive window largest most) = ⊥
IsQuietOn (SetAlias alias topic) = ⊤
IsQuietOn (Went place) = ⊤

abbrev pub IsQuietOrigin : Origin → Type 0
IsQuietOrigin FromClient = ⊥
IsQuietOrigin FromWill = ⊤

-- for the session with this birth and the line with this number
abbrev pub IsQuiet : ℕ → ℕ → Deed → Type 0
IsQuiet birth n (Accept number origin m) = IsQuietOrigin origin
IsQuiet birth n (Begin row will) = ⊥
IsQuiet birth n (Name k) = ⊤
IsQuiet birth n (Count k) = ⊤
IsQuiet birth n (At who part) = (nat_eq who.birth birth ≡ false) ⊎ IsQuietPart part
IsQuiet birth n (Finish who) = nat_eq who.birth birth ≡ false
IsQuiet birth n (Keep kept) = ⊤
IsQuiet birth n (Forget place) = ⊤
IsQuiet birth n (RefuseWill who) = ⊤
IsQuiet birth n (Link m) = ⊥
IsQuiet birth n (On m part) = IsQuietOn part
IsQuiet birth n (Send m packet) = (nat_eq m n ≡ false) ⊎ (heard packet ≡ None)
IsQuiet birth n (Gone m) = nat_eq m n ≡ false

abbrev pub AreQuiet : ℕ → ℕ → List Deed → Type 0
AreQuiet birth n [] = ⊤
AreQuiet birth n (d ∷ ds) = IsQuiet birth n d × AreQuiet birth n ds

-- ---- what is read off deeds for one line

abbrev pub heard_on : ℕ → ℕ × Packet → Option ToPublisher
heard_on n x = cond (nat_eq x.0 n) (heard x.1) None

abbrev pub heard_by : ℕ → Option (ℕ × Packet) → Option ToPublisher
heard_by n None = None
heard_by n (Some x) = heard_on n x

-- what a publisher on the line is told
abbrev pub told_to : ℕ → List Deed → List ToPublisher
told_to n ds = filter_map (λ d. heard_by n (output d)) ds

abbrev pub is_closing : ℕ → Option ℕ → Bool
is_closing n None = false
is_closing n (Some m) = nat_eq m n

abbrev pub closes : ℕ → List Deed → Bool
closes n ds = list_any (λ d. is_closing n (closing d)) ds

abbrev pub numbers : List Deed → List ℕ
numbers ds = filter_map client_number ds

-- births of sessions that begin
abbrev pub begun : List Deed → List ℕ
begun ds = filter_map birth_given ds

-- the session that is connected on the line, if that stands
abbrev pub session_on : ℕ → List Line → Option (Option ℕ)
session_on n ls = option_map (λ (l : Line). l.session) (find (λ (l : Line). nat_eq l.number n) ls)

-- ---- rows of a quiet deed

will_beside : (birth k : ℕ) (will : Option Will) → nat_eq k birth ≡ false → IsBeside birth (will_row k will)
will_beside birth k None q = q
will_beside birth k (Some will) q = q

part_beside : (birth : ℕ) (part : Part) (s : Session) → nat_eq s.birth birth ≡ false → AreBeside birth (part_rows part s)
part_beside birth (Resume expiry will) s q = (q, (will_beside birth s.birth will q, tt))
part_beside birth (Close moment) s q = (q, tt)
part_beside birth (SetExpiry expiry) s q = (q, tt)
part_beside birth DropWill s q = (q, tt)
part_beside birth (Subscribe sub) s q = (tt, tt)
part_beside birth (Unsubscribe text) s q = (tt, tt)
part_beside birth (Open id) s q = (q, tt)
part_beside birth (Release id) s q = (q, tt)
part_beside birth (Enter copy) s q = (tt, tt)
part_beside birth (Mark place phase) s q = (tt, tt)
part_beside birth (Leave e ending) s q = (tt, tt)

quiet_part_beside : (birth : ℕ) (part : Part) (s : Session) → IsQuietPart part → AreBeside birth (part_rows part s)
quiet_part_beside birth (Resume expiry will) s q = absurd q
quiet_part_beside birth (Close moment) s q = absurd q
quiet_part_beside birth (SetExpiry expiry) s q = absurd q
quiet_part_beside birth DropWill s q = absurd q
quiet_part_beside birth (Subscribe sub) s q = (tt, tt)
quiet_part_beside birth (Unsubscribe text) s q = (tt, tt)
quiet_part_beside birth (Open id) s q = absurd q
quiet_part_beside birth (Release id) s q = absurd q
quiet_part_beside birth (Enter copy) s q = (tt, tt)
quiet_part_beside birth (Mark place phase) s q = (tt, tt)
quiet_part_beside birth (Leave e ending) s q = (tt, tt)

at_beside : (birth k : ℕ) (part : Part) (ss : List Session) (o : Option Session) → row_at birth_of k ss ≡ o → (nat_eq k birth ≡ false) ⊎ IsQuietPart part
    → AreBeside birth (part_rows_of part o)
at_beside birth k part ss None e q = tt
at_beside birth k part ss (Some s) e (inl other) = part_beside birth part s (ap (λ (m : ℕ). nat_eq m birth) (found_key birth_of k s ss e) ∙ other)
at_beside birth k part ss (Some s) e (inr quiet) = quiet_part_beside birth part s quiet

quiet_beside : (birth n : ℕ) (d : Deed) (r : Records) → IsQuiet birth n d → AreBeside birth (rows_of d r)
quiet_beside birth n (Accept number origin m) r q = (tt, tt)
quiet_beside birth n (Begin row will) r q = absurd q
quiet_beside birth n (Name k) r q = (tt, tt)
quiet_beside birth n (Count k) r q = (tt, tt)
quiet_beside birth n (At who part) r q = at_beside birth who.birth part r.sessions (session_at who.birth r) refl q
quiet_beside birth n (Finish who) r q = (q, tt)
quiet_beside birth n (Keep kept) r q = (tt, tt)
quiet_beside birth n (Forget place) r q = (tt, tt)
quiet_beside birth n (RefuseWill who) r q = tt
quiet_beside birth n (Link m) r q = tt
quiet_beside birth n (On m part) r q = tt
quiet_beside birth n (Send m packet) r q = tt
quiet_beside birth n (Gone m) r q = tt

-- a quiet deed leaves what a session shows
pub quiet_face : (birth n : ℕ) (d : Deed) (r : Records) → IsQuiet birth n d → face_at birth (stored_after d r) ≡ face_at birth r
quiet_face birth n d r q = beside_changes birth (rows_of d r) r (quiet_beside birth n d r q)

-- ---- the line after a quiet deed

-- a new line leaves who stands on the others
pub line_linked : (n : ℕ) (x : Line) (ls : List Line) → nat_eq x.number n ≡ false → session_on n (ls ++ x ∷ []) ≡ session_on n ls
line_linked n x [] q = rw q refl
line_linked n x (l ∷ ls) q = elim (cases_Bool (nat_eq l.number n)) [
  | inl here ↦ rw here refl
  | inr further ↦ rw further (line_linked n x ls q)
]

-- so does one that goes
pub line_gone : (n m : ℕ) (ls : List Line) → nat_eq m n ≡ false → session_on n (filter (λ (l : Line). not (nat_eq l.number m)) ls) ≡ session_on n ls
line_gone n m [] q = refl
line_gone n m (l ∷ ls) q = elim (cases_Bool (nat_eq l.number m)) [
  | inl goes ↦
      let other : nat_eq l.number n ≡ false = ap (λ (k : ℕ). nat_eq k n) (eqb-true l.number m goes) ∙ q in
      rw (goes, other) (line_gone n m ls q)
  | inr stays ↦ elim (cases_Bool (nat_eq l.number n)) [
    | inl here ↦ rw (stays, here) refl
    | inr further ↦ rw (stays, further) (line_gone n m ls q)
  ]
]

kept_session : (now : ℕ) (part : LinePart) (l : Line) → IsQuietOn part → (line_after now part l).session ≡ l.session
kept_session now Hear l q = refl
kept_session now (Greet birth keep_alive window largest most) l q = absurd q
kept_session now (SetAlias alias topic) l q = refl
kept_session now (Went place) l q = refl

-- so does what happens on another line, or happens quietly on this one
pub line_on : (now n m : ℕ) (part : LinePart) (ls : List Line) → (nat_eq m n ≡ false) ⊎ IsQuietOn part → session_on n (on_line now m part ls) ≡ session_on n ls
line_on now n m part [] q = refl
line_on now n m part (l ∷ ls) q = elim (cases_Bool (nat_eq l.number m)) [
  | inl this ↦ rw this (line_here this q)
  | inr other ↦ elim (cases_Bool (nat_eq l.number n)) [
    | inl here ↦ rw (other, here) refl
    | inr further ↦ rw (other, further) (line_on now n m part ls q)
  ]
]
  where
    same_test : nat_eq (line_after now part l).number n ≡ nat_eq l.number n
    same_test = ap (λ (k : ℕ). nat_eq k n) (numbered now part l)

    line_first : (t : Bool) → IsQuietOn part
        → option_map (λ (x : Line). x.session) (cond t (Some (line_after now part l)) (find (λ (x : Line). nat_eq x.number n) ls))
        ≡ option_map (λ (x : Line). x.session) (cond t (Some l) (find (λ (x : Line). nat_eq x.number n) ls))
    line_first true q = ap Some (kept_session now part l q)
    line_first false q = refl

    line_here : nat_eq l.number m ≡ true → (nat_eq m n ≡ false) ⊎ IsQuietOn part → session_on n (line_after now part l ∷ ls) ≡ session_on n (l ∷ ls)
    line_here this (inl not_n) =
        let is : nat_eq l.number n ≡ false = ap (λ (k : ℕ). nat_eq k n) (eqb-true l.number m this) ∙ not_n in
        let new : nat_eq (line_after now part l).number n ≡ false = same_test ∙ is in
        rw (new, is) refl
    line_here this (inr quiet) =
        ap (λ (t : Bool). option_map (λ (x : Line). x.session) (cond t (Some (line_after now part l)) (find (λ (x : Line). nat_eq x.number n) ls))) same_test
        ∙ line_first (nat_eq l.number n) quiet

line_without : (n birth place : ℕ) (ls : List Line) → session_on n (map (without_place birth place) ls) ≡ session_on n ls
line_without n birth place [] = refl
line_without n birth place (l ∷ ls) = elim (cases_Bool (is_of l.session birth)) [
  | inl its ↦ elim (cases_Bool (nat_eq l.number n)) [
    | inl here ↦ rw (its, here) refl
    | inr further ↦ rw (its, further) (line_without n birth place ls)
  ]
  | inr other ↦ elim (cases_Bool (nat_eq l.number n)) [
    | inl here ↦ rw (other, here) refl
    | inr further ↦ rw (other, further) (line_without n birth place ls)
  ]
]

line_at_part : (n birth : ℕ) (part : Part) (ls : List Line) → session_on n (lines_at birth part ls) ≡ session_on n ls
line_at_part n birth (Resume expiry will) ls = refl
line_at_part n birth (Close moment) ls = refl
line_at_part n birth (SetExpiry expiry) ls = refl
line_at_part n birth DropWill ls = refl
line_at_part n birth (Subscribe sub) ls = refl
line_at_part n birth (Unsubscribe text) ls = refl
line_at_part n birth (Open id) ls = refl
line_at_part n birth (Release id) ls = refl
line_at_part n birth (Enter copy) ls = refl
line_at_part n birth (Mark place phase) ls = refl
line_at_part n birth (Leave e ending) ls = line_without n birth e.place ls

-- a quiet deed leaves who stands on a line
pub quiet_line : (birth n now : ℕ) (d : Deed) (ls : List Line) → IsQuiet birth n d → session_on n (lines_after now d ls) ≡ session_on n ls
quiet_line birth n now (Accept number origin m) ls q = refl
quiet_line birth n now (Begin row will) ls q = refl
quiet_line birth n now (Name k) ls q = refl
quiet_line birth n now (Count k) ls q = refl
quiet_line birth n now (At who part) ls q = line_at_part n who.birth part ls
quiet_line birth n now (Finish who) ls q = refl
quiet_line birth n now (Keep kept) ls q = refl
quiet_line birth n now (Forget place) ls q = refl
quiet_line birth n now (RefuseWill who) ls q = refl
quiet_line birth n now (Link m) ls q = absurd q
quiet_line birth n now (On m part) ls q = line_on now n m part ls (inr q)
quiet_line birth n now (Send m packet) ls q = refl
quiet_line birth n now (Gone m) ls q = line_gone n m ls q

-- ---- what a quiet deed tells

-- it tells nothing there
pub quiet_told : (birth n : ℕ) (d : Deed) → IsQuiet birth n d → heard_by n (output d) ≡ None
quiet_told birth n (Send m packet) (inl other) = rw other refl
quiet_told birth n (Send m packet) (inr unheard) = elim (cases_Bool (nat_eq m n)) [
  | inl here ↦ rw here unheard
  | inr other ↦ rw other refl
]
quiet_told birth n (Accept number origin m) q = refl
quiet_told birth n (Begin row will) q = refl
quiet_told birth n (Name k) q = refl
quiet_told birth n (Count k) q = refl
quiet_told birth n (At who part) q = refl
quiet_told birth n (Finish who) q = refl
quiet_told birth n (Keep kept) q = refl
quiet_told birth n (Forget place) q = refl
quiet_told birth n (RefuseWill who) q = refl
quiet_told birth n (Link m) q = refl
quiet_told birth n (On m part) q = refl
quiet_told birth n (Gone m) q = refl

-- it closes nothing there
pub quiet_closing : (birth n : ℕ) (d : Deed) → IsQuiet birth n d → is_closing n (closing d) ≡ false
quiet_closing birth n (Accept number origin m) q = refl
quiet_closing birth n (Begin row will) q = refl
quiet_closing birth n (Name k) q = refl
quiet_closing birth n (Count k) q = refl
quiet_closing birth n (At who part) q = refl
quiet_closing birth n (Finish who) q = refl
quiet_closing birth n (Keep kept) q = refl
quiet_closing birth n (Forget place) q = refl
quiet_closing birth n (RefuseWill who) q = refl
quiet_closing birth n (Link m) q = refl
quiet_closing birth n (On m part) q = refl
quiet_closing birth n (Send m packet) q = refl
quiet_closing birth n (Gone m) q = q

quiet_number : (birth n : ℕ) (d : Deed) → IsQuiet birth n d → client_number d ≡ None
quiet_number birth n (Accept number FromClient m) q = absurd q
quiet_number birth n (Accept number FromWill m) q = refl
quiet_number birth n (Begin row will) q = refl
quiet_number birth n (Name k) q = refl
quiet_number birth n (Count k) q = refl
quiet_number birth n (At who part) q = refl
quiet_number birth n (Finish who) q = refl
quiet_number birth n (Keep kept) q = refl
quiet_number birth n (Forget place) q = refl
quiet_number birth n (RefuseWill who) q = refl
quiet_number birth n (Link m) q = refl
quiet_number birth n (On m part) q = refl
quiet_number birth n (Send m packet) q = refl
quiet_number birth n (Gone m) q = refl

quiet_begun : (birth n : ℕ) (d : Deed) → IsQuiet birth n d → birth_given d ≡ None
quiet_begun birth n (Accept number origin m) q = refl
quiet_begun birth n (Begin row will) q = absurd q
quiet_begun birth n (Name k) q = refl
quiet_begun birth n (Count k) q = refl
quiet_begun birth n (At who part) q = refl
quiet_begun birth n (Finish who) q = refl
quiet_begun birth n (Keep kept) q = refl
quiet_begun birth n (Forget place) q = refl
quiet_begun birth n (RefuseWill who) q = refl
quiet_begun birth n (Link m) q = refl
quiet_begun birth n (On m part) q = refl
quiet_begun birth n (Send m packet) q = refl
quiet_begun birth n (Gone m) q = refl

-- ---- quiet deeds, one after the other

-- what a list of deeds leaves of the session and of the line, and what it tells there
pub record Calm (birth n : ℕ) (ds : List Deed) (b : Broker) : Type 0 where
  pub face_is : face_at birth (after_all ds b).records ≡ face_at birth b.records
  pub line_is : session_on n (after_all ds b).lines ≡ session_on n b.lines
  pub told_is : told_to n ds ≡ []
  pub closes_is : closes n ds ≡ false
  pub numbers_is : numbers ds ≡ []
  pub begun_is : begun ds ≡ []

-- quiet deeds leave a session and its line calm
pub calm : (birth n : ℕ) (ds : List Deed) (b : Broker) → AreQuiet birth n ds → Calm birth n ds b
calm birth n [] b q = record { face_is = refl; line_is = refl; told_is = refl; closes_is = refl; numbers_is = refl; begun_is = refl }
calm birth n (d ∷ ds) b q =
    let rest = calm birth n ds (after d b) q.1 in
    record {
      face_is = rest.face_is ∙ quiet_face birth n d b.records q.0;
      line_is = rest.line_is ∙ quiet_line birth n b.now d b.lines q.0;
      told_is = rw (quiet_told birth n d q.0) rest.told_is;
      closes_is = rw (quiet_closing birth n d q.0) rest.closes_is;
      numbers_is = rw (quiet_number birth n d q.0) rest.numbers_is;
      begun_is = rw (quiet_begun birth n d q.0) rest.begun_is;
    }

-- ---- lists of quiet deeds

-- two quiet lists are quiet
pub quiet_append : (birth n : ℕ) (xs ys : List Deed) → AreQuiet birth n xs → AreQuiet birth n ys → AreQuiet birth n (xs ++ ys)
quiet_append birth n [] ys p q = q
quiet_append birth n (x ∷ xs) ys p q = (p.0, quiet_append birth n xs ys p.1 q)

-- lists that are made of items are quiet if each is
pub quiet_flat : {X : Type 0} (birth n : ℕ) (f : X → List Deed) → ((x : X) → AreQuiet birth n (f x)) → (xs : List X) → AreQuiet birth n (flat_map f xs)
quiet_flat birth n f h [] = tt
quiet_flat birth n f h (x ∷ xs) = quiet_append birth n (f x) (flat_map f xs) (h x) (quiet_flat birth n f h xs)

-- ---- a publication

-- a copy's leaving is quiet
pub quiet_leave : (birth n : ℕ) (s : Session) (t : Turn) → AreQuiet birth n (leave_deeds s t)
quiet_leave birth n s (turns.Leave place ending) = leaves (row_at copy_place place s.queue)
  where
    leaves : (o : Option CopyRow) → AreQuiet birth n (of_entry o (λ e. At (whose s) (Leave e ending) ∷ []))
    leaves None = tt
    leaves (Some e) = (inr tt, tt)
quiet_leave birth n s (turns.Send place id) = tt
quiet_leave birth n s (turns.Resend place id) = tt
quiet_leave birth n s (turns.Release place id order) = tt
quiet_leave birth n s (turns.Outgrow place id order) = tt
quiet_leave birth n s (turns.Repeat id) = tt
quiet_leave birth n s (turns.Unknown id) = tt

quiet_enter : (birth n : ℕ) (env : Env) (copy : MessageCopy) (s : Session) → AreQuiet birth n (enter_deeds env copy s)
quiet_enter birth n env copy s =
    let ts = way_made (queue_limits env) (since env s) (queue_on [] s) in
    quiet_append birth n (flat_map (leave_deeds s) ts) (At (whose s) (Enter copy) ∷ []) (quiet_flat birth n (leave_deeds s) (quiet_leave birth n s) ts) (inr tt, tt)

-- a copy of QoS 0 is a PUBLISH, which a publisher passes over
pub quiet_offer : (birth n : ℕ) (o : Option Line) (copy : MessageCopy) (b : Broker) → AreQuiet birth n (offer_copy o copy b)
quiet_offer birth n o copy b = of_offer_if (AreQuiet birth n) (has_form copy b) o (publish_of b.now false 0 copy) tt (λ l there. (inr refl, tt))

quiet_with : (birth n : ℕ) (o : Option Session) (f : Session → Act) (b : Broker) → ((s : Session) → AreQuiet birth n (f s b)) → AreQuiet birth n (with_session o f b)
quiet_with birth n None f b h = tt
quiet_with birth n (Some s) f b h = h s

quiet_deliver_by : (birth n : ℕ) (t : Bool) (env : Env) (d : CopyTo) (b : Broker) → AreQuiet birth n (deliver_by t env d b)
quiet_deliver_by birth n true env d b =
    quiet_with birth n (session_at d.birth b.records) (λ s. always (enter_deeds env d.copy s)) b (λ s. quiet_enter birth n env d.copy s)
quiet_deliver_by birth n false env d b = quiet_offer birth n (line_of d.birth b) d.copy b

-- deliveries are quiet
pub quiet_deliveries : (birth n : ℕ) (env : Env) (ds : List CopyTo) (b : Broker) → AreQuiet birth n (series (map (deliver env) ds) b)
quiet_deliveries birth n env [] b = tt
quiet_deliveries birth n env (d ∷ ds) b =
    let first = deliver env d b in
    quiet_append birth n first (series (map (deliver env) ds) (after_all first b)) (quiet_deliver_by birth n (is_queued d) env d b) (quiet_deliveries birth n env ds (after_all first b))

quiet_forgets : (birth n : ℕ) (k : Option RetainedMessage) → AreQuiet birth n (forgets k)
quiet_forgets birth n None = tt
quiet_forgets birth n (Some k) = (tt, tt)

quiet_retain : (birth n : ℕ) (retain empty : Bool) (number : ℕ) (m : Message) (b : Broker) → AreQuiet birth n (retain_by retain empty number m b)
quiet_retain birth n false empty number m b = tt
quiet_retain birth n true true number m b = quiet_forgets birth n (retained_of m.topic b.records)
quiet_retain birth n true false number m b = (tt, tt)

-- all of a publication but its acceptance, whatever its routing and the queues
abbrev pub copies_of : Env → Origin → Message → List CopyTo → Broker → List Deed
copies_of env origin m ds b =
    let number = next_publication b.records in
    series (retain_by m.retain (is_empty m.payload) number m ∷ map (deliver env) ds) (after (Accept number origin m) b)

-- the copies of a publication are quiet
pub quiet_copies : (birth n : ℕ) (env : Env) (origin : Origin) (m : Message) (ds : List CopyTo) (b : Broker) → AreQuiet birth n (copies_of env origin m ds b)
quiet_copies birth n env origin m ds b =
    let number = next_publication b.records in
    let c = after (Accept number origin m) b in
    let first = retain_by m.retain (is_empty m.payload) number m c in
    quiet_append birth n first (series (map (deliver env) ds) (after_all first c)) (quiet_retain birth n m.retain (is_empty m.payload) number m c) (quiet_deliveries birth n env ds (after_all first c))

-- a publication is its acceptance, and then its copies
pub publish_is : (env : Env) (origin : Origin) (m : Message) (ds : List CopyTo) (b : Broker)
    → publish env origin m ds b ≡ Accept (next_publication b.records) origin m ∷ copies_of env origin m ds b
publish_is env origin m ds b = refl
