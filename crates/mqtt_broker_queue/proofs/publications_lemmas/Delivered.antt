-- Copies are handed over, one after the other: the room for those that are left.
use Rattle.std.proofs.Common.{◌≡◌, ℕ, suc, ◌<◌, ◌≤◌, true, false, ◌&&◌, List, [], ◌∷◌, length, map, filter, nat_eq, refl, ap, sym, subst, ◌∙◌, arith, inl, inr}
use Rattle.std.specs.Prelude.{Option, Some, None, option_map}
use Rattle.std.specs.List.{AllByRecursion}
use Rattle.std.proofs.lemmas.Bool.{eqb-true, cases_Bool}
use Rattle.std.proofs.lemmas.Cmp.{nat_eq_equiv}
use Rattle.mqtt_records.specs.declared.messages.message.MessageCopy.{MessageCopy}
use Rattle.mqtt_records.specs.messages.Queue.{IsSpelled}
use Rattle.mqtt_records.specs.declared.state.session.Session.{Session}
use Rattle.mqtt_records.specs.declared.state.records.Records.{Records}
use Rattle.mqtt_rules.specs.step.State.{Line, Broker, Env, MemberChoice, session_at, line_of}
use Rattle.mqtt_rules.specs.step.Deeds.{whose, Deed, of_session, with_session, always}
use Rattle.mqtt_rules.specs.step.Fitting.{has_form, offer_copy}
use Rattle.mqtt_rules.specs.step.Laws.{HasEntered, client_at, is_entering}
use Rattle.mqtt_rules.specs.step.Outbound.{room, room_at, enter_deeds}
use Rattle.mqtt_rules.specs.step.Routing.{CopyTo, is_queued, deliver, deliver_by}
use Rattle.mqtt_rules.specs.step.Packets.{publish_of}
use Rattle.mqtt_broker_step.specs.declared.fault.StepFault.{StepFault}
use Rattle.mqtt_broker_step.specs.Stepping.{Stepping, did, Did, Does, IsLeft, Leaves, env_in}
use Rattle.mqtt_broker_step.proofs.Doing.{found_birth}
use Rattle.mqtt_broker_step.proofs.Then.{same_act, same_left}
use Rattle.mqtt_broker_queue.specs.queues.Entering.{HasEnteredAt, HasRoomAt}
use Rattle.mqtt_broker_queue.proofs.queues_lemmas.Entered.{client_enter}
use Rattle.mqtt_broker_queue.proofs.queues_lemmas.Taking.{same_whose}
use Rattle.mqtt_broker_queue.specs.declared.publications.copies.Addressee.{Addressee}
use Rattle.mqtt_broker_queue.specs.publications.Copies.{InCommon, copies_for}
use Rattle.mqtt_broker_queue.specs.publications.Delivering.{addressed, addressed_all, offers, delivers_all, HasRoom, HasRoomIn, whose_at, SameSessions}
use Rattle.mqtt_broker_queue.proofs.publications_lemmas.Leading.{LeadsOn, leads_first, leads_next, leads_left, leads_last, same_env}
use Rattle.mqtt_rules.proofs.step_lemmas.acts.Offers.{of_offer_if}

some_is : {X : Type 0} (x y : X) → Some x ≡ Some y → x ≡ y
some_is x y e = cc

-- ---- one copy

as_queued : (d : CopyTo) (env : Env) (b : Broker) → is_queued d ≡ true → of_session d.birth (λ s. always (enter_deeds env d.copy s)) b ≡ deliver env d b
as_queued d env b queued = ap (λ t. deliver_by t env d b) (sym queued)

as_offered : (d : CopyTo) (env : Env) (b : Broker) → is_queued d ≡ false → offers d.birth d.copy b ≡ deliver env d b
as_offered d env b queued = ap (λ t. deliver_by t env d b) (sym queued)

-- a copy that is queued is handed over once it entered the queue of its session
pub queued_is : (copy : MessageCopy) (old new : Stepping) → is_queued (addressed copy) ≡ true → Does (λ env. of_session copy.id.birth (λ s. always (enter_deeds env copy s))) old new
    → Does (λ env. deliver env (addressed copy)) old new
queued_is copy old new queued is = λ choice.
    same_act (of_session copy.id.birth (λ s. always (enter_deeds (env_in choice old) copy s))) (deliver (env_in choice old) (addressed copy)) old new
    (as_queued (addressed copy) (env_in choice old) old.broker queued) (is choice)

-- to hand over a copy that is queued is refused if its entering is
pub queued_left : (copy : MessageCopy) (fault : StepFault) (old new : Stepping) → is_queued (addressed copy) ≡ true → Leaves (λ env. of_session copy.id.birth (λ s. always (enter_deeds env copy s))) fault old new
    → Leaves (λ env. deliver env (addressed copy)) fault old new
queued_left copy fault old new queued is = λ choice.
    same_left (of_session copy.id.birth (λ s. always (enter_deeds (env_in choice old) copy s))) (deliver (env_in choice old) (addressed copy)) fault old new
    (as_queued (addressed copy) (env_in choice old) old.broker queued) (is choice)

-- a copy that isn't queued is handed over once it went out at once
pub offered_is : (copy : MessageCopy) (old new : Stepping) → is_queued (addressed copy) ≡ false → Did (offers copy.id.birth copy) old new → Does (λ env. deliver env (addressed copy)) old new
offered_is copy old new queued is = λ choice.
    same_act (offers copy.id.birth copy) (deliver (env_in choice old) (addressed copy)) old new (as_offered (addressed copy) (env_in choice old) old.broker queued) is

-- to hand over a copy that isn't queued is refused if its going out is
pub offered_left : (copy : MessageCopy) (fault : StepFault) (old new : Stepping) → is_queued (addressed copy) ≡ false → IsLeft (offers copy.id.birth copy) fault old new → Leaves (λ env. deliver env (addressed copy)) fault old new
offered_left copy fault old new queued is = λ choice.
    same_left (offers copy.id.birth copy) (deliver (env_in choice old) (addressed copy)) fault old new (as_offered (addressed copy) (env_in choice old) old.broker queued) is

-- ---- room

-- what is counted for a session: one less after a copy for it
count_own : (birth : ℕ) (d : CopyTo) (ds : List CopyTo) → is_queued d ≡ true → d.birth ≡ birth → length (filter (is_entering birth) (d ∷ ds)) ≡ suc (length (filter (is_entering birth) ds))
count_own birth d ds queued same =
    let is : is_entering birth d ≡ true = ap (λ q. q && nat_eq d.birth birth) queued ∙ (ap (λ n. nat_eq n birth) same ∙ nat_eq_equiv.refl birth) in
    rw is refl

count_less : (birth : ℕ) (d : CopyTo) (ds : List CopyTo) → length (filter (is_entering birth) ds) ≤ length (filter (is_entering birth) (d ∷ ds))
count_less birth d ds = elim (cases_Bool (is_entering birth d)) [ inl so ↦ rw so (omega arith) | inr not_so ↦ rw not_so (omega arith) ]

-- ---- what a delivery makes of what is stored

-- a copy that goes out changes nothing that is stored
offer_stays : (o : Option Line) (copy : MessageCopy) (s : Stepping) → (did (offer_copy o copy s.broker) s).broker.records ≡ s.broker.records
offer_stays o copy s =
    of_offer_if (λ (ds : List Deed). (did ds s).broker.records ≡ s.broker.records) (has_form copy s.broker) o (publish_of s.broker.now false 0 copy) refl (λ l there. refl)

-- nor any line
offer_lines : (o : Option Line) (copy : MessageCopy) (s : Stepping) → (did (offer_copy o copy s.broker) s).broker.lines ≡ s.broker.lines
offer_lines o copy s =
    of_offer_if (λ (ds : List Deed). (did ds s).broker.lines ≡ s.broker.lines) (has_form copy s.broker) o (publish_of s.broker.now false 0 copy) refl (λ l there. refl)

-- a copy that goes out at once leaves the lines as they are
pub offered_lines : (birth : ℕ) (copy : MessageCopy) (s s2 : Stepping) → Did (offers birth copy) s s2 → s2.broker.lines ≡ s.broker.lines
offered_lines birth copy s s2 done = ap (λ (t : Stepping). t.broker.lines) done.is ∙ offer_lines (line_of birth s.broker) copy s

-- a copy that is to enter finds a session
room_needs : (env : Env) (d : CopyTo) (ds : List CopyTo) (r : Records) → is_queued d ≡ true → HasRoom env (d ∷ ds) r → 0 < room_at env (session_at d.birth r)
room_needs env d ds r queued fit =
    let one = count_own d.birth d ds queued refl in
    let many = fit d.birth in
    omega (arith, one, many)

-- after a copy that entered there is room for the others
entered_room : (env : Env) (d : CopyTo) (ds : List CopyTo) (r new : Records) (x : Session) → is_queued d ≡ true → session_at d.birth r ≡ Some x → HasEntered env x r new
    → HasRoom env (d ∷ ds) r → HasRoom env ds new
entered_room env d ds r new x queued found entered fit = λ birth.
    let own : x.birth ≡ d.birth = found_birth d.birth r.sessions x found in
    let many = fit birth in
    elim (cases_Bool (nat_eq x.birth birth)) [
      | inl here ↦
          let same : x.birth ≡ birth = eqb-true x.birth birth here in
          let asked : session_at birth r ≡ Some x = ap (λ n. session_at n r) (sym same ∙ own) ∙ found in
          let stands : session_at birth new ≡ Some entered.session = ap (λ n. session_at n new) (sym same) ∙ entered.stands in
          let before : room_at env (session_at birth r) ≡ room env x = ap (room_at env) asked in
          let later : room_at env (session_at birth new) ≡ room env entered.session = ap (room_at env) stands in
          let one = count_own birth d ds queued (sym own ∙ same) in
          let less = entered.room in
          omega (arith, before, later, one, many, less)
      | inr other ↦
          let stays : room_at env (session_at birth new) ≡ room_at env (session_at birth r) = ap (room_at env) (entered.others birth other) in
          let less = count_less birth d ds in
          omega (arith, stays, less, many)
    ]

-- what a delivery is known to have made of a session's queue
abbrev Enters : Env → CopyTo → Records → Records → Type 0
Enters env d r new = is_queued d ≡ true → (x : Session) → session_at d.birth r ≡ Some x → HasEntered env x r new

queued_room : (env : Env) (d : CopyTo) (ds : List CopyTo) (r new : Records) (o : Option Session) → session_at d.birth r ≡ o → is_queued d ≡ true → Enters env d r new
    → HasRoom env (d ∷ ds) r → HasRoom env ds new
queued_room env d ds r new None found queued entered fit =
    let free = room_needs env d ds r queued fit in
    let none : room_at env (session_at d.birth r) ≡ 0 = ap (room_at env) found in
    absurd (omega (arith, free, none))
queued_room env d ds r new (Some x) found queued entered fit = entered_room env d ds r new x queued found (entered queued x found) fit

offered_room : (env : Env) (d : CopyTo) (ds : List CopyTo) (r new : Records) → new ≡ r → HasRoom env (d ∷ ds) r → HasRoom env ds new
offered_room env d ds r new same fit = λ birth.
    let many = fit birth in
    let less = count_less birth d ds in
    let stays : room_at env (session_at birth new) ≡ room_at env (session_at birth r) = ap (λ (t : Records). room_at env (session_at birth t)) same in
    omega (arith, many, less, stays)

-- what was offered left what is stored as it was
offered_same : (env : Env) (d : CopyTo) (s s2 : Stepping) → is_queued d ≡ false → s2 ≡ did (deliver env d s.broker) s → s2.broker.records ≡ s.broker.records
offered_same env d s s2 queued is =
    ap (λ (t : Stepping). t.broker.records) is
    ∙ (ap (λ t. (did (deliver_by t env d s.broker) s).broker.records) queued
    ∙ offer_stays (line_of d.birth s.broker) d.copy s)

delivered_room : (env : Env) (d : CopyTo) (ds : List CopyTo) (s s2 : Stepping) → s2 ≡ did (deliver env d s.broker) s → Enters env d s.broker.records s2.broker.records
    → HasRoom env (d ∷ ds) s.broker.records → HasRoom env ds s2.broker.records
delivered_room env d ds s s2 is entered fit = elim (cases_Bool (is_queued d)) [
  | inl queued ↦ queued_room env d ds s.broker.records s2.broker.records (session_at d.birth s.broker.records) refl queued entered fit
  | inr offered ↦ offered_room env d ds s.broker.records s2.broker.records (offered_same env d s s2 offered is) fit
]

-- ---- whose the sessions are

whose_by : (birth : ℕ) (r new : Records) (o p : Option Session) → session_at birth r ≡ o → session_at birth new ≡ p → option_map (λ (s : Session). s.client) p ≡ option_map (λ (s : Session). s.client) o
    → option_map whose p ≡ option_map whose o
whose_by birth r new None None found there same = refl
whose_by birth r new None (Some y) found there same = absurd cc
whose_by birth r new (Some x) None found there same = absurd cc
whose_by birth r new (Some x) (Some y) found there same =
    ap Some (same_whose x y (found_birth birth new.sessions y there ∙ sym (found_birth birth r.sessions x found)) (some_is y.client x.client same))

-- the clients of the sessions stay
clients_stay : (env : Env) (d : CopyTo) (s s2 : Stepping) → is_queued d ≡ true → s2 ≡ did (deliver env d s.broker) s → (birth : ℕ) → client_at birth s2.broker.records ≡ client_at birth s.broker.records
clients_stay env d s s2 queued is birth =
    ap (λ (t : Stepping). client_at birth t.broker.records) is
    ∙ (ap (λ t. client_at birth (did (deliver_by t env d s.broker) s).broker.records) queued
    ∙ by (session_at d.birth s.broker.records))
  where
    by : (o : Option Session) → client_at birth (did (with_session o (λ x. always (enter_deeds env d.copy x)) s.broker) s).broker.records ≡ client_at birth s.broker.records
    by None = refl
    by (Some x) = client_enter birth env d.copy x s.broker

delivered_whose : (env : Env) (d : CopyTo) (s s2 : Stepping) → s2 ≡ did (deliver env d s.broker) s → SameSessions s.broker.records s2.broker.records
delivered_whose env d s s2 is = λ birth. elim (cases_Bool (is_queued d)) [
  | inl queued ↦ whose_by birth s.broker.records s2.broker.records (session_at birth s.broker.records) (session_at birth s2.broker.records) refl refl (clients_stay env d s s2 queued is birth)
  | inr offered ↦ ap (λ (r : Records). whose_at birth r) (offered_same env d s s2 offered is)
]

-- ---- one after the other

-- what is left to do leads to the same end, finds room, and has spellings
pub record Handing (rest all : List MessageCopy) (first s : Stepping) : Type 0 where
  pub leads : LeadsOn (delivers_all (addressed_all rest)) (delivers_all (addressed_all all)) first s
  pub room : (choice : MemberChoice) → HasRoom (env_in choice first) (addressed_all rest) s.broker.records
  pub sessions : SameSessions first.broker.records s.broker.records
  pub spelled : AllByRecursion IsSpelled rest

-- before the first copy all are left to hand over
pub hands_first : (all : List MessageCopy) (first : Stepping) → HasRoomIn first (addressed_all all) → AllByRecursion IsSpelled all → Handing all all first first
hands_first all first room spelled = record {
  leads = leads_first (delivers_all (addressed_all all)) first;
  room = room;
  sessions = λ b. refl;
  spelled = spelled;
}

-- once the first of those that are left was handed over, the others are left
pub hands_next : (copy : MessageCopy) (rest all : List MessageCopy) (first s s2 : Stepping) → Handing (copy ∷ rest) all first s
    → Does (λ env. deliver env (addressed copy)) s s2 → (is_queued (addressed copy) ≡ true → HasEnteredAt copy.id.birth s s2) → Handing rest all first s2
hands_next copy rest all first s s2 w is entered =
    let d = addressed copy in
    let some : MemberChoice = λ n client. [] in
    record {
      leads = leads_next (λ env. deliver env d) (λ env. map (deliver env) (addressed_all rest)) (delivers_all (addressed_all all)) first s s2 w.leads is;
      room = λ choice.
          let same = same_env choice first s w.leads.start w.leads.limits in
          let fit : HasRoom (env_in choice s) (d ∷ addressed_all rest) s.broker.records = subst (λ (e : Env). HasRoom e (d ∷ addressed_all rest) s.broker.records) (sym same) (w.room choice) in
          subst (λ (e : Env). HasRoom e (addressed_all rest) s2.broker.records) same
          (delivered_room (env_in choice s) d (addressed_all rest) s s2 (is choice).is (λ queued x found. entered queued choice x found) fit);
      sessions = λ b. delivered_whose (env_in some s) d s s2 (is some).is b ∙ w.sessions b;
      spelled = w.spelled.1;
    }

-- the same of a list that begins with that copy
pub hands_step : (copy : MessageCopy) (rest xs all : List MessageCopy) (first s s2 : Stepping) → xs ≡ copy ∷ rest → Handing xs all first s
    → Does (λ env. deliver env (addressed copy)) s s2 → (is_queued (addressed copy) ≡ true → HasEnteredAt copy.id.birth s s2) → Handing rest all first s2
hands_step copy rest xs all first s s2 is w done entered = hands_next copy rest all first s s2 (subst (λ (cs : List MessageCopy). Handing cs all first s) is w) done entered

-- handing over all copies is refused if the next one's is
pub hands_left : (copy : MessageCopy) (rest xs all : List MessageCopy) (fault : StepFault) (first s new : Stepping) → xs ≡ copy ∷ rest → Handing xs all first s
    → Leaves (λ env. deliver env (addressed copy)) fault s new → Leaves (delivers_all (addressed_all all)) fault first new
hands_left copy rest xs all fault first s new is w left =
    let here : Handing (copy ∷ rest) all first s = subst (λ (cs : List MessageCopy). Handing cs all first s) is w in
    leads_left (λ env. deliver env (addressed copy)) (λ env. map (deliver env) (addressed_all rest)) (delivers_all (addressed_all all)) fault first s new here.leads left

-- once no copy is left all were handed over
pub hands_last : (rest all : List MessageCopy) (first s : Stepping) → length rest ≡ 0 → Handing rest all first s → Does (delivers_all (addressed_all all)) first s
hands_last [] all first s none w = leads_last (delivers_all (addressed_all all)) first s w.leads
hands_last (copy ∷ rest) all first s none w = absurd cc

-- once nobody is left who gets a copy all were handed over
pub hands_last_for : (p : InCommon) (rest : List Addressee) (all : List MessageCopy) (first s : Stepping) → length rest ≡ 0 → Handing (copies_for p rest) all first s
    → Does (delivers_all (addressed_all all)) first s
hands_last_for p [] all first s none w = hands_last [] all first s refl w
hands_last_for p (to ∷ rest) all first s none w = absurd cc

-- the next one finds room, and has a spelling
pub hands_room : (copy : MessageCopy) (rest xs all : List MessageCopy) (first s : Stepping) → xs ≡ copy ∷ rest → Handing xs all first s → is_queued (addressed copy) ≡ true
    → HasRoomAt copy.id.birth s
hands_room copy rest xs all first s is w queued = λ choice x found.
    let here : Handing (copy ∷ rest) all first s = subst (λ (cs : List MessageCopy). Handing cs all first s) is w in
    let free = room_needs (env_in choice first) (addressed copy) (addressed_all rest) s.broker.records queued (here.room choice) in
    let own : room_at (env_in choice first) (session_at copy.id.birth s.broker.records) ≡ room (env_in choice first) x = ap (room_at (env_in choice first)) found in
    let some : 0 < room (env_in choice first) x = omega (arith, free, own) in
    subst (λ (e : Env). 0 < room e x) (sym (same_env choice first s here.leads.start here.leads.limits)) some

-- the PUBLISH of the next copy has a spelling
pub hands_spelled : (copy : MessageCopy) (rest xs all : List MessageCopy) (first s : Stepping) → xs ≡ copy ∷ rest → Handing xs all first s → IsSpelled copy
hands_spelled copy rest xs all first s is w = (subst (λ (cs : List MessageCopy). AllByRecursion IsSpelled cs) is w.spelled).0
