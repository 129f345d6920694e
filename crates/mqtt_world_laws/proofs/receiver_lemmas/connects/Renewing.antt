-- The broker reads CONNECT with Clean Start on a receiver's line while its session stands: that ends with its copies, and a
-- new one begins there. What the receiver sees of it is that event of its hop (MQTT 5.0, 3.1.2.4, 3.1.4).
use Rattle.std.proofs.Common.{◌≡◌, ℕ, suc, Bool, true, false, cond, List, [], ◌∷◌, ◌++◌, length, map, Option, Some, None, nat_eq, nat_lt, refl, sym, ap, subst, ◌∙◌, append-nil, append_assoc, arith, inl, inr}
use Rattle.std.specs.Prelude.{filter_map, is_some, option_map}
use Rattle.std.specs.List.{AllByRecursion}
use Rattle.std.proofs.lemmas.Bool.{cases_Bool, lt-ltb}
use Rattle.mqtt_base.specs.declared.session.CopyId.{CopyId}
use Rattle.mqtt_base.specs.declared.session.Ending.TheVariants.{SessionEnded}
use Rattle.mqtt_flow.specs.outbound.OutboundWorld.{Lot, connects, cut, up_comes}
use Rattle.mqtt_flow.specs.outbound.Receiver.{Answer, connect}
use Rattle.mqtt_flow.specs.inbound.Identifiers.{ids_without}
use Rattle.mqtt_world_model.specs.model.Ends.{Back, Receiver, answers, wire_back}
use Rattle.mqtt_world_model.specs.model.Hops.{IsKept, IsTaken, lines_left}
use Rattle.mqtt_world_model.specs.model.Lines.{is_one_of, sent_to}
use Rattle.mqtt_world_model.proofs.model_lemmas.connects.CleanConnects.{begins_by_room, clear_is, cleared, ended_by, ending_next}
use Rattle.mqtt_world_model.proofs.model_lemmas.connects.Connects.{heard_line_of, heard_on_line, left_by, left_leaves, named_taken, not_left, prepare_front, taken_client, taken_from, taken_will}
use Rattle.mqtt_world_model.proofs.model_lemmas.others.Far.{at_births}
use Rattle.mqtt_world_model.proofs.model_lemmas.others.Names.{named_is}
use Rattle.mqtt_world_model.proofs.model_lemmas.own.OwnStep.{heard_of}
use Rattle.mqtt_world_model.proofs.model_lemmas.others.Quiet.{session_on}
use Rattle.mqtt_records.specs.messages.Queue.{CopyRow}
use Rattle.mqtt_records.specs.declared.state.session.Session.{Session}
use Rattle.mqtt_rules.proofs.step_lemmas.acts.Goods.{after_append}
use Rattle.mqtt_rules.proofs.step_lemmas.numbers.NumberBirths.{given_all}
use Rattle.mqtt_rules.specs.step.Closing.{end_session}
use Rattle.mqtt_rules.specs.step.Connect.{clear, connect_by, joins, joins_after, of_client, on_connect, prepare}
use Rattle.mqtt_rules.specs.step.Deeds.{At, Close, Deed, Finish, Hear, Leave, On, after, after_all, closing, only_if, output, whose, without_place}
use Rattle.mqtt_rules.specs.step.State.{Line as BrokerLine, Broker, Env, MemberChoice, is_of, line_of, session_at, session_named}
use Rattle.mqtt_rules.specs.step.Step.{Input, at_moment, deeds, env_of}
use Rattle.mqtt_rules.specs.declared.step.Capacity.{Capacity}
use Rattle.mqtt_topic.specs.names.Names.{is_empty}
use Rattle.mqtt_world_laws.specs.receiver.Calls.{IsRenewing}
use Rattle.mqtt_world_laws.specs.receiver.Entering.{Receives}
use Rattle.mqtt_world_laws.specs.receiver.Handing.{IsRun, RunsOn, after_answer, reads_answer}
use Rattle.mqtt_world_laws.specs.receiver.Seen.{Numbering, answered, seen}
use Rattle.mqtt_world_laws.proofs.receiver_lemmas.own.Answering.{IsAsideOf, all_join}
use Rattle.mqtt_world_laws.proofs.receiver_lemmas.connects.Beginning.{Clears, begins_is, begins_receives, cut_ids, off_heard}
use Rattle.mqtt_world_laws.proofs.receiver_lemmas.connects.Resuming.{Beside, IsOffIt, begin_is, beginning, call_is, greeting, left_beside, left_closes, left_lines, left_untold, lines_without, refused_not, went_at, went_at_heard, went_at_left}

-- ---- the deeds of the CONNECT

prepare_is : (o : Option BrokerLine) (env : Env) (client : List ℕ) (window aliases : ℕ) (s : Session) (n : ℕ) (b : Broker) → line_of s.birth b ≡ o → IsTaken o s.birth n → IsKept client s b
    → prepare env (greeting true client window aliases) b ≡ ended_by o s b.now
prepare_is o env client window aliases s n b e t k =
    let ds = left_by o s b.now in
    let c = after_all ds b in
    prepare_front o env client s n b (only_if true (of_client client (clear env)) ∷ []) e t k
    ∙ ap (λ (zs : List Deed). ds ++ zs)
    (append-nil (of_client client (clear env) c)
    ∙ clear_is env client (taken_from o b.now s) c (named_taken o client s b k) (taken_client o b.now s ∙ k.name) (taken_will o b.now s ∙ k.no_will))

connect_is : (o : Option BrokerLine) (env : Env) (l : BrokerLine) (client : List ℕ) (window aliases : ℕ) (s : Session) (b : Broker) → line_of s.birth b ≡ o → IsTaken o s.birth l.number → IsKept client s b → is_empty client ≡ false
    → session_named client (after_all (ended_by o s b.now) b).records ≡ None → nat_lt (length (after_all (ended_by o s b.now) b).records.sessions) env.limits.sessions ≡ true
    → on_connect env l (greeting true client window aliases) b ≡ ended_by o s b.now ++ beginning l window aliases client (suc (after_all (ended_by o s b.now) b).records.births)
connect_is o env l client window aliases s b e t k some none room =
    let c = greeting true client window aliases in
    let ds = ended_by o s b.now in
    let r = (after_all ds b).records in
    ap (λ (z : Option ℕ). connect_by z env l c b) (refused_not true client window aliases b.records k.short k.plain)
    ∙ (ap (λ (xs : List Deed). joins_after env l c b.now xs (after_all xs b).records) (prepare_is o env client window aliases s l.number b e t k)
    ∙ (ap (λ (z : Option Session). joins env l c b.now ds r z) none
    ∙ (begins_by_room (nat_lt (length r.sessions) env.limits.sessions) (is_empty client) ds l c r room some ∙ ap (λ (xs : List Deed). ds ++ xs) (begin_is l true client window aliases (suc r.births)))))

-- ---- what the end of a session leaves of the lines

went_at_place : (n k place : ℕ) (ls : List BrokerLine) → session_on n ls ≡ Some None → went_at n (map (without_place k place) ls) ≡ went_at n ls
went_at_place n k place [] on = absurd cc
went_at_place n k place (l ∷ ls) on = elim (cases_Bool (nat_eq l.number n)) [
  | inl here ↦
      let none : Some l.session ≡ Some None = rw here at on in
      let is : l.session ≡ None = cc in
      let off : is_of l.session k ≡ false = ap (λ (o : Option ℕ). is_of o k) is in
      rw (off, here) refl
  | inr further ↦ elim (cases_Bool (is_of l.session k)) [
    | inl its ↦ rw (its, further) (went_at_place n k place ls (rw further at on))
    | inr not_its ↦ rw (not_its, further) (went_at_place n k place ls (rw further at on))
  ]
]

on_place : (n k place : ℕ) (ls : List BrokerLine) → session_on n (map (without_place k place) ls) ≡ session_on n ls
on_place n k place [] = refl
on_place n k place (l ∷ ls) = elim (cases_Bool (is_of l.session k)) [
  | inl its ↦ elim (cases_Bool (nat_eq l.number n)) [ inl here ↦ rw (its, here) refl | inr further ↦ rw (its, further) (on_place n k place ls) ]
  | inr other ↦ elim (cases_Bool (nat_eq l.number n)) [ inl here ↦ rw (other, here) refl | inr further ↦ rw (other, further) (on_place n k place ls) ]
]

-- a copy's leaving keeps a session off its lines
pub off_place : (birth k place : ℕ) (ls : List BrokerLine) → AllByRecursion (IsOffIt birth) ls → AllByRecursion (IsOffIt birth) (map (without_place k place) ls)
off_place birth k place [] h = tt
off_place birth k place (l ∷ ls) h = (by (is_of l.session k), off_place birth k place ls h.1)
  where
    by : (t : Bool) → IsOffIt birth (cond t (record l { went = ids_without place l.went }) l)
    by true = h.0
    by false = h.0

off_without : (birth : ℕ) (o : Option BrokerLine) (ls : List BrokerLine) → AllByRecursion (IsOffIt birth) ls → AllByRecursion (IsOffIt birth) (lines_without o ls)
off_without birth None ls h = h
off_without birth (Some x) [] h = tt
off_without birth (Some x) (l ∷ ls) h = elim (cases_Bool (nat_eq l.number x.number)) [
  | inl goes ↦ rw goes (off_without birth (Some x) ls h.1)
  | inr stays ↦ rw stays (h.0, off_without birth (Some x) ls h.1)
]

-- a state in which the line waits, nothing went out on it, no line has the session to come, and so many births were given
record IsReady (n births : ℕ) (b : Broker) : Type 0 where
  pub waits : session_on n b.lines ≡ Some None
  pub went : went_at n b.lines ≡ Some []
  pub off : AllByRecursion (IsOffIt (suc births)) b.lines
  pub births_are : b.records.births ≡ births

ready_left : (n births : ℕ) (s : Session) (e : CopyRow) (b : Broker) → IsReady n births b → IsReady n births (after (At (whose s) (Leave e SessionEnded)) b)
ready_left n births s e b h = record {
  waits = on_place n s.birth e.place b.lines ∙ h.waits;
  went = went_at_place n s.birth e.place b.lines h.waits ∙ h.went;
  off = off_place (suc births) s.birth e.place b.lines h.off;
  births_are = at_births (Leave e SessionEnded) (session_at s.birth b.records) b.records ∙ h.births_are;
}

ready_leaves : (n births : ℕ) (s : Session) (es : List CopyRow) (b : Broker) → IsReady n births b → IsReady n births (after_all (map (λ (e : CopyRow). At (whose s) (Leave e SessionEnded)) es) b)
ready_leaves n births s [] b h = h
ready_leaves n births s (e ∷ es) b h = ready_leaves n births s es (after (At (whose s) (Leave e SessionEnded)) b) (ready_left n births s e b h)

ready_ended : (n births : ℕ) (s : Session) (b : Broker) → IsReady n births b → IsReady n births (after_all (end_session s) b)
ready_ended n births s b h =
    let leaves = map (λ (e : CopyRow). At (whose s) (Leave e SessionEnded)) s.queue in
    let x = ready_leaves n births s s.queue b h in
    subst (IsReady n births) (sym (after_append leaves (Finish (whose s) ∷ []) b)) (record { waits = x.waits; went = x.went; off = x.off; births_are = x.births_are })

ready_taken : (n births : ℕ) (o : Option BrokerLine) (s : Session) (b : Broker) → IsTaken o s.birth n → session_at s.birth b.records ≡ Some s → IsReady n births b → IsReady n births (after_all (left_by o s b.now) b)
ready_taken n births o s b t at h =
    let lines = left_lines o s b in
    record {
      waits = (left_leaves o s n b (Some None) t at h.waits).line_is;
      went = ap (went_at n) lines ∙ (went_at_left o s.birth n b.lines t ∙ h.went);
      off = subst (AllByRecursion (IsOffIt (suc births))) (sym lines) (off_without (suc births) o b.lines h.off);
      births_are = by o ∙ h.births_are;
    }
  where
    by : (x : Option BrokerLine) → (after_all (left_by x s b.now) b).records.births ≡ b.records.births
    by None = refl
    by (Some x) = at_births (Close b.now) (session_at s.birth b.records) b.records

-- ---- and what it tells

leaves_untold : (n : ℕ) (s : Session) (es : List CopyRow) (new : Broker) (ds : List Deed)
    → sent_to (Some n) new (filter_map output (map (λ (e : CopyRow). At (whose s) (Leave e SessionEnded)) es ++ ds)) ≡ sent_to (Some n) new (filter_map output ds)
leaves_untold n s [] new ds = refl
leaves_untold n s (e ∷ es) new ds = leaves_untold n s es new ds

leaves_close : (s : Session) (es : List CopyRow) (ds : List Deed) → filter_map closing (map (λ (e : CopyRow). At (whose s) (Leave e SessionEnded)) es ++ ds) ≡ filter_map closing ds
leaves_close s [] ds = refl
leaves_close s (e ∷ es) ds = leaves_close s es ds

ended_untold : (o : Option BrokerLine) (s : Session) (now n : ℕ) (new : Broker) (ds : List Deed) → IsTaken o s.birth n
    → sent_to (Some n) new (filter_map output (ended_by o s now ++ ds)) ≡ sent_to (Some n) new (filter_map output ds)
ended_untold o s now n new ds t =
    let x = taken_from o now s in
    let leaves = map (λ (e : CopyRow). At (whose x) (Leave e SessionEnded)) x.queue in
    ap (λ (zs : List Deed). sent_to (Some n) new (filter_map output zs)) (append_assoc (left_by o s now) (end_session x) ds)
    ∙ (left_untold o s now n new (end_session x ++ ds) t
    ∙ (ap (λ (zs : List Deed). sent_to (Some n) new (filter_map output zs)) (append_assoc leaves (Finish (whose x) ∷ []) ds)
    ∙ leaves_untold n x x.queue new (Finish (whose x) ∷ ds)))

ended_closes : (o : Option BrokerLine) (s : Session) (now : ℕ) (ds : List Deed) → filter_map closing ds ≡ [] → filter_map closing (ended_by o s now ++ ds) ≡ lines_left o
ended_closes o s now ds none =
    let x = taken_from o now s in
    let leaves = map (λ (e : CopyRow). At (whose x) (Leave e SessionEnded)) x.queue in
    ap (filter_map closing) (append_assoc (left_by o s now) (end_session x) ds)
    ∙ left_closes o s now (end_session x ++ ds)
    (ap (filter_map closing) (append_assoc leaves (Finish (whose x) ∷ []) ds) ∙ (leaves_close x x.queue (Finish (whose x) ∷ ds) ∙ none))

-- ---- the step

-- what a Clean Start prepares: the line that the session stood on is dropped, its copies end, and its place is free
pub record Renews (limits : Capacity) (choice : MemberChoice) (now : ℕ) (r : Receiver) (l : BrokerLine) (s : Session) (b : Broker) : Type 0 where
  pub its : Option BrokerLine  -- the line that the session is connected on, as it stands when the line has been heard of
  pub taken : IsTaken its s.birth l.number
  pub same : lines_left its ≡ lines_left (line_of s.birth b)
  pub clears : Clears limits choice now true r l b (ended_by its s (heard_of now l.number b).now) (lines_left (line_of s.birth b))
  pub births_are : (after_all (ended_by its s (heard_of now l.number b).now) (heard_of now l.number b)).records.births ≡ b.records.births

-- a Clean Start leaves a new, empty session on its line
pub renewed_clears : (limits : Capacity) (choice : MemberChoice) (now : ℕ) (r : Receiver) (l : BrokerLine) (s : Session) (b : Broker) → IsRenewing limits r l s b → Renews limits choice now r l s b
renewed_clears limits choice now r l s b a =
    let n = l.number in
    let first = at_moment now b in
    let heard_first = heard_of now n b in
    let env = env_of limits choice b in
    let heard_line = heard_line_of s.birth n now b (line_of s.birth b) refl a.resuming.taken in
    let o = heard_line.0 in
    let t = heard_line.2 in
    let kept : IsKept r.client s heard_first = record {
      session = a.resuming.kept.session;
      name = a.resuming.kept.name;
      only = a.resuming.kept.only;
      no_will = a.resuming.kept.no_will;
      no_end = a.resuming.kept.no_end;
      short = a.resuming.kept.short;
      plain = a.resuming.kept.plain;
    } in
    let on : session_on n b.lines ≡ Some None = ap (option_map (λ (x : BrokerLine). x.session)) a.resuming.line ∙ ap Some a.resuming.waits in
    let ready : IsReady n b.records.births heard_first = record {
      waits = heard_on_line n first.now b.lines None on;
      went = went_at_heard first.now n b.lines ∙ (ap (option_map (λ (x : BrokerLine). x.went)) a.resuming.line ∙ ap Some a.resuming.fresh);
      off = off_heard (suc b.records.births) first.now n b.lines a.unused;
      births_are = refl;
    } in
    let front = ended_by o s heard_first.now in
    let d = after_all front heard_first in
    let x = taken_from o heard_first.now s in
    let taken = ready_taken n b.records.births o s heard_first t a.resuming.kept.session ready in
    let end : IsReady n b.records.births d =
    subst (IsReady n b.records.births) (sym (after_append (left_by o s heard_first.now) (end_session x) heard_first)) (ready_ended n b.records.births x (after_all (left_by o s heard_first.now) heard_first) taken) in
    let clears = cleared o r.client s n heard_first t kept ready.waits in
    let fewer = clears.fewer in
    let room = a.room in
    let within = a.within in
    let fits : nat_lt (length d.records.sessions) limits.sessions ≡ true = lt-ltb (length d.records.sessions) limits.sessions (omega (arith, fewer, room)) in
    let is : deeds limits choice now (Input n (wire_back r.client r.window r.aliases (answers (connect true)))) b ≡ On n Hear ∷ (front ++ beginning l r.window r.aliases r.client (suc d.records.births)) =
    call_is limits choice now true r.client r.window r.aliases l b a.resuming.line a.resuming.waits
    ∙ (ap (λ (ds : List Deed). On n Hear ∷ ds) (append-nil (on_connect env l (greeting true r.client r.window r.aliases) heard_first))
    ∙ ap (λ (ds : List Deed). On n Hear ∷ ds) (connect_is o env l r.client r.window r.aliases s heard_first heard_line.1 t kept a.some clears.none fits)) in
    record {
      its = o;
      taken = t;
      same = heard_line.3;
      births_are = end.births_are;
      clears = record {
        deeds_are = is;
        none = clears.none;
        births = given_all front heard_first (ending_next front heard_first clears.ending) a.births;
        room = omega (arith, fewer, room, within);
        waits = end.waits;
        went = end.went;
        off = subst (λ (k : ℕ). AllByRecursion (IsOffIt (suc k)) d.lines) (sym end.births_are) end.off;
        untold = λ new ds. ended_untold o s heard_first.now n new ds t;
        closings = λ ds none. ended_closes o s heard_first.now ds none ∙ heard_line.3;
        open_still = not_left (line_of s.birth b) s.birth n a.resuming.taken;
        old = a.resuming.old;
      };
    }

-- what becomes of another line
pub renewed_beside : (number : Numbering) (ids : List CopyId) (limits : Capacity) (choice : MemberChoice) (now : ℕ) (r : Receiver) (l : BrokerLine) (s : Session) (b : Broker) → Renews limits choice now r l s b
    → (m : ℕ) → nat_eq l.number m ≡ false → Beside number ids limits choice now (Input l.number (wire_back r.client r.window r.aliases (answers (connect true)))) m b (is_one_of (Some m) (lines_left (line_of s.birth b)))
renewed_beside number ids limits choice now r l s b x m other =
    let n = l.number in
    let c = heard_of now n b in
    let ends = end_session (taken_from x.its c.now s) in
    let begins = beginning l r.window r.aliases r.client (suc (after_all (ended_by x.its s c.now) c).records.births) in
    let ending = taken_from x.its c.now s in
    left_beside number ids limits choice now (Input n (wire_back r.client r.window r.aliases (answers (connect true)))) n x.its s (ends ++ begins) m b (is_one_of (Some m) (lines_left (line_of s.birth b)))
    (x.clears.deeds_are ∙ ap (λ (ds : List Deed). On n Hear ∷ ds) (append_assoc (left_by x.its s c.now) ends begins))
    (all_join (IsAsideOf m) ends begins (all_join (IsAsideOf m) (map (λ (e : CopyRow). At (whose ending) (Leave e SessionEnded)) ending.queue) (Finish (whose ending) ∷ []) (leaves_aside ending ending.queue) (tt, tt)) (tt, (other, (other, tt))))
    (ap (is_one_of (Some m)) x.same)
  where
    leaves_aside : (y : Session) (es : List CopyRow) → AllByRecursion (IsAsideOf m) (map (λ (e : CopyRow). At (whose y) (Leave e SessionEnded)) es)
    leaves_aside y [] = tt
    leaves_aside y (e ∷ es) = (tt, leaves_aside y es)

-- each copy that stood ends with its session
pub renewal_is_run : (number : Numbering) (largest : ℕ) (copies : List Lot) (limits : Capacity) (choice : MemberChoice) (now : ℕ) (rest : List Back) (r : Receiver) (l : BrokerLine) (s : Session) (b : Broker)
    → IsRun number largest copies r b → IsRenewing limits r l s b → r.line.up ≡ answers (connect true) ∷ rest
    → IsRun number largest (map cut copies) (reads_answer limits choice now l.number (connect true) r b) (after_answer limits choice now l.number (connect true) r b)
renewal_is_run number largest copies limits choice now rest r l s b h a up =
    let w = seen number copies r b in
    let x = renewed_clears limits choice now r l s b a in
    let stands : is_some (session_named r.client b.records) ≡ true = ap is_some (named_is r.client s.birth b.records s a.resuming.kept.only a.resuming.kept.session a.resuming.kept.name) in
    begins_is number largest copies limits choice now true rest r l b a.resuming.number (ended_by x.its s (heard_of now l.number b).now) (lines_left (line_of s.birth b)) x.clears h up
    (ap (λ (xs : List Answer). up_comes false xs w) (ap (filter_map answered) up)
    ∙ ap (λ (z : Bool). connects z true false (filter_map answered rest) w) stands)

-- a Clean Start goes on as a new run of the hop
pub renewal_runs : (number : Numbering) (largest : ℕ) (copies : List Lot) (limits : Capacity) (choice : MemberChoice) (now : ℕ) (rest : List Back) (r : Receiver) (l : BrokerLine) (s : Session) (b : Broker)
    → IsRun number largest copies r b → IsRenewing limits r l s b → r.line.up ≡ answers (connect true) ∷ rest
    → RunsOn number largest copies (reads_answer limits choice now l.number (connect true) r b) (after_answer limits choice now l.number (connect true) r b)
renewal_runs number largest copies limits choice now rest r l s b h a up =
    record { after = map cut copies; same = cut_ids copies; run_is = renewal_is_run number largest copies limits choice now rest r l s b h a up }

-- and it may receive more
pub renewal_receives : (number : Numbering) (largest : ℕ) (copies : List Lot) (limits : Capacity) (choice : MemberChoice) (now : ℕ) (rest : List Back) (r : Receiver) (l : BrokerLine) (s : Session) (b : Broker)
    → IsRun number largest copies r b → IsRenewing limits r l s b → r.line.up ≡ answers (connect true) ∷ rest
    → Receives (reads_answer limits choice now l.number (connect true) r b) (after_answer limits choice now l.number (connect true) r b)
renewal_receives number largest copies limits choice now rest r l s b h a up =
    let x = renewed_clears limits choice now r l s b a in
    begins_receives number largest copies limits choice now true rest r l b a.resuming.number (ended_by x.its s (heard_of now l.number b).now) (lines_left (line_of s.birth b)) x.clears
