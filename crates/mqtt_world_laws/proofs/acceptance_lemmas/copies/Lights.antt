-- Copies of QoS 0 go out in the step in which their publication is accepted.
use Rattle.std.proofs.Common.{◌≡◌, ℕ, Bool, true, false, cond, List, [], ◌∷◌, ◌++◌, map, filter, Option, Some, None, nat_eq, refl, sym, ap, subst, ◌∙◌, inl, inr, append_assoc, append-nil}
use Rattle.std.specs.Prelude.{⊤, find, flat_map, filter_map, is_some, option_map}
use Rattle.std.specs.List.{AllByRecursion}
use Rattle.std.proofs.lemmas.Bool.{cases_Bool}
use Rattle.std.proofs.lemmas.List.Elements.{filter_map-append}
use Rattle.mqtt_packet.specs.declared.codec.packet.Packet.{Packet}
use Rattle.mqtt_packet.specs.declared.codec.packet.Packet.TheVariants.{Publish}
use Rattle.mqtt_flow.specs.outbound.Outbound.{way_made}
use Rattle.mqtt_flow.specs.declared.outbound.entry.Turn.{Turn}
use Rattle.mqtt_flow.specs.declared.outbound.entry.Turn.TheVariants as turns
use Rattle.mqtt_flow.specs.inbound.Identifiers.{ids_without}
use Rattle.mqtt_records.specs.messages.Queue.{CopyRow}
use Rattle.mqtt_records.specs.declared.messages.message.MessageCopy.{MessageCopy}
use Rattle.mqtt_records.specs.declared.messages.message.RetainedMessage.{RetainedMessage}
use Rattle.mqtt_records.specs.state.Session.{copy_place}
use Rattle.mqtt_records.specs.declared.state.session.Session.{Session}
use Rattle.mqtt_records.specs.lists.Order.{row_at}
use Rattle.mqtt_topic.specs.names.Names.{is_empty}
use Rattle.mqtt_rules.specs.step.Deeds.{whose, Message, Origin, Enter, Leave, Subscribe, Deed, Accept, Count, At, Keep, Forget, Send, after, after_all, always, fresh_line, output, series, tells_on, with_session, without_place}
use Rattle.mqtt_rules.specs.step.Fitting.{form_of, has_form, offer_copy}
use Rattle.mqtt_rules.specs.step.Outbound.{enter_deeds, leave_deeds, of_entry, queue_limits, since}
use Rattle.mqtt_rules.specs.step.Packets.{publish_of}
use Rattle.mqtt_rules.specs.step.Routing.{CopyTo, accepted_copies, deliver, deliver_by, forgets, is_queued, next_publication, publish, retain_by, retained_of}
use Rattle.mqtt_rules.specs.step.State.{Broker, Env, Line, Telling, is_of, line_at, line_of, queue_on, session_at, told_on}
use Rattle.mqtt_rules.specs.step.Subscribe as sub
use Rattle.mqtt_rules.proofs.step_lemmas.acts.Offers.{of_offer_if}
use Rattle.mqtt_rules.proofs.step_lemmas.acts.Acts.{brought_to}
use Rattle.mqtt_rules.proofs.step_lemmas.fit.StandLaw.{Orders}
use Rattle.mqtt_world_laws.specs.acceptance.AtOnce.{IsPart, behind, due, due_at, due_by, due_for, due_if, put_on}
use Rattle.mqtt_world_laws.specs.acceptance.Entries.{moments_of}
use Rattle.mqtt_world_laws.proofs.acceptance_lemmas.copies.EachAct.{Says, says_still, whatever}
use Rattle.mqtt_world_laws.proofs.acceptance_lemmas.copies.Entering.{IsStill, AreStill}

-- ---- parts of lists

-- a part of a list is one behind another
pub part_behind : {X : Type 0} (xs zs ys : List X) → IsPart xs ys → IsPart xs (zs ++ ys)
part_behind [] zs ys h = tt
part_behind (x ∷ xs) [] ys h = h
part_behind (x ∷ xs) (z ∷ zs) ys h = inr (part_behind (x ∷ xs) zs ys h)

-- parts of two lists are one of both
pub part_append : {X : Type 0} (xs zs ys bs : List X) → IsPart xs zs → IsPart ys bs → IsPart (xs ++ ys) (zs ++ bs)
part_append [] zs ys bs p q = part_behind ys zs bs q
part_append (x ∷ xs) [] ys bs p q = absurd p
part_append (x ∷ xs) (z ∷ zs) ys bs p q = elim p [
  | inl here ↦ inl (here.0, part_append xs zs ys bs here.1 q)
  | inr later ↦ inr (part_append (x ∷ xs) zs ys bs later q)
]

-- a list is a part of itself
pub part_all : {X : Type 0} (xs : List X) → IsPart xs xs
part_all [] = tt
part_all (x ∷ xs) = inl (refl, part_all xs)

-- ---- what is due by deeds, and what they put out

abbrev Packets : Type 0
Packets = List (ℕ × Packet)

abbrev dues : Env → List Deed → Broker → Packets
dues env ds b = flat_map due_at (moments_of env ds b)

abbrev outputs : List Deed → Packets
outputs ds = filter_map output ds

abbrev pub Gives : Env → List Deed → Broker → Type 0
Gives env ds b = IsPart (dues env ds b) (outputs ds)

outputs_append : (xs ys : List Deed) → outputs (xs ++ ys) ≡ outputs xs ++ outputs ys
outputs_append xs ys = filter_map-append output xs ys

dues_append : (env : Env) (xs ys : List Deed) (b : Broker) → dues env (xs ++ ys) b ≡ dues env xs b ++ dues env ys (after_all xs b)
dues_append env [] ys b = refl
dues_append env (x ∷ xs) ys b =
    ap (λ (ps : Packets). due env x b ++ ps) (dues_append env xs ys (after x b)) ∙ sym (append_assoc (due env x b) (dues env xs (after x b)) (dues env ys (after_all xs (after x b))))

gives_append : (env : Env) (xs ys : List Deed) (b : Broker) → Gives env xs b → Gives env ys (after_all xs b) → Gives env (xs ++ ys) b
gives_append env xs ys b p q =
    let all = part_append (dues env xs b) (outputs xs) (dues env ys (after_all xs b)) (outputs ys) p q in
    let put : IsPart (dues env xs b ++ dues env ys (after_all xs b)) (outputs (xs ++ ys)) = subst (IsPart (dues env xs b ++ dues env ys (after_all xs b))) (sym (outputs_append xs ys)) all in
    subst (λ (ps : Packets). IsPart ps (outputs (xs ++ ys))) (sym (dues_append env xs ys b)) put

-- ---- deeds by which nothing is due: those that accept no publication

abbrev pub IsOther : Deed → Type 0
IsOther (Accept number origin m) = ⊥
IsOther d = ⊤

abbrev AreOther : List Deed → Type 0
AreOther ds = AllByRecursion IsOther ds

none_due : (d : Deed) (env : Env) (b : Broker) → IsOther d → due env d b ≡ []
none_due (Accept number origin m) env b h = absurd h
none_due d env b h = refl

no_dues : (env : Env) (ds : List Deed) (b : Broker) → AreOther ds → dues env ds b ≡ []
no_dues env [] b h = refl
no_dues env (d ∷ ds) b h = ap (λ (ps : Packets). ps ++ dues env ds (after d b)) (none_due d env b h.0) ∙ no_dues env ds (after d b) h.1

others_give : (env : Env) (ds : List Deed) (b : Broker) → AreOther ds → Gives env ds b
others_give env ds b h = subst (λ (ps : Packets). IsPart ps (outputs ds)) (sym (no_dues env ds b h)) tt

other_append : (xs ys : List Deed) → AreOther xs → AreOther ys → AreOther (xs ++ ys)
other_append [] ys p q = q
other_append (x ∷ xs) ys p q = (p.0, other_append xs ys p.1 q)

still_other : (d : Deed) → IsStill d → IsOther d
still_other (Accept number origin m) h = absurd h
still_other d h = tt

stills_other : (ds : List Deed) → AreStill ds → AreOther ds
stills_other [] h = tt
stills_other (d ∷ ds) h = (still_other d h.0, stills_other ds h.1)

-- ---- lines: what is entered leaves their numbers, their sessions and what they take as they were

-- a line's number and what its client takes
abbrev seen : Option Line → Option (ℕ × ℕ)
seen o = option_map (λ (l : Line). (l.number, l.largest)) o

-- the same is put on each session's line, at the same moment
record IsSame (b c : Broker) : Type 0 where
  pub now : c.now ≡ b.now
  pub tellings : c.tellings ≡ b.tellings
  pub sessions : (birth : ℕ) → seen (line_of birth c) ≡ seen (line_of birth b)
  pub numbers : (n : ℕ) → seen (line_at n c) ≡ seen (line_at n b)

without_same : (test : Line → Bool) (k place : ℕ) → ((l : Line) → test (without_place k place l) ≡ test l) → (ls : List Line) → seen (find test (map (without_place k place) ls)) ≡ seen (find test ls)
without_same test k place same [] = refl
without_same test k place same (l ∷ ls) = elim (cases_Bool (test l)) [
  | inl is ↦ let its : test (without_place k place l) ≡ true = same l ∙ is in rw (its, is) (by (is_of l.session k))
  | inr other ↦ let its : test (without_place k place l) ≡ false = same l ∙ other in rw (its, other) (without_same test k place same ls)
]
  where
    by : (t : Bool) → seen (Some (cond t (record l { went = ids_without place l.went }) l)) ≡ seen (Some l)
    by true = refl
    by false = refl

session_stays : (birth k place : ℕ) (l : Line) → is_of (without_place k place l).session birth ≡ is_of l.session birth
session_stays birth k place l = by (is_of l.session k)
  where
    by : (t : Bool) → is_of (cond t (record l { went = ids_without place l.went }) l).session birth ≡ is_of l.session birth
    by true = refl
    by false = refl

number_stays : (n k place : ℕ) (l : Line) → nat_eq (without_place k place l).number n ≡ nat_eq l.number n
number_stays n k place l = by (is_of l.session k)
  where
    by : (t : Bool) → nat_eq (cond t (record l { went = ids_without place l.went }) l).number n ≡ nat_eq l.number n
    by true = refl
    by false = refl

-- deeds by which nothing goes out: copies leave, and one enters; and what RETAIN does
abbrev IsLight : Deed → Type 0
IsLight (At who (Leave e ending)) = ⊤
IsLight (At who (Enter copy)) = ⊤
IsLight (Keep kept) = ⊤
IsLight (Forget place) = ⊤
IsLight d = ⊥

abbrev AreLight : List Deed → Type 0
AreLight ds = AllByRecursion IsLight ds

light_same : (d : Deed) (b : Broker) → IsLight d → IsSame b (after d b)
light_same (At who (Leave e ending)) b h = record {
  now = refl;
  tellings = refl;
  sessions = λ birth. without_same (λ l. is_of l.session birth) who.birth e.place (session_stays birth who.birth e.place) b.lines;
  numbers = λ n. without_same (λ l. nat_eq l.number n) who.birth e.place (number_stays n who.birth e.place) b.lines;
}
light_same (At who (Enter copy)) b h = record { now = refl; tellings = refl; sessions = λ birth. refl; numbers = λ n. refl }
light_same (Keep kept) b h = record { now = refl; tellings = refl; sessions = λ birth. refl; numbers = λ n. refl }
light_same (Forget place) b h = record { now = refl; tellings = refl; sessions = λ birth. refl; numbers = λ n. refl }
light_same d b h = absurd h

lights_same : (ds : List Deed) (b : Broker) → AreLight ds → IsSame b (after_all ds b)
lights_same [] b h = record { now = refl; tellings = refl; sessions = λ birth. refl; numbers = λ n. refl }
lights_same (d ∷ ds) b h =
    let first = light_same d b h.0 in
    let rest = lights_same ds (after d b) h.1 in
    record {
      now = rest.now ∙ first.now;
      tellings = rest.tellings ∙ first.tellings;
      sessions = λ birth. rest.sessions birth ∙ first.sessions birth;
      numbers = λ n. rest.numbers n ∙ first.numbers n;
    }

light_other : (d : Deed) → IsLight d → IsOther d
light_other (Accept number origin m) h = absurd h
light_other d h = tt

lights_other : (ds : List Deed) → AreLight ds → AreOther ds
lights_other [] h = tt
lights_other (d ∷ ds) h = (light_other d h.0, lights_other ds h.1)

light_append : (xs ys : List Deed) → AreLight xs → AreLight ys → AreLight (xs ++ ys)
light_append [] ys p q = q
light_append (x ∷ xs) ys p q = (p.0, light_append xs ys p.1 q)

light_leave : (s : Session) (t : Turn) → AreLight (leave_deeds s t)
light_leave s (turns.Leave place ending) = by (row_at copy_place place s.queue)
  where
    by : (o : Option CopyRow) → AreLight (of_entry o (λ e. At (whose s) (Leave e ending) ∷ []))
    by None = tt
    by (Some e) = (tt, tt)
light_leave s t = tt

light_leaves : (s : Session) (ts : List Turn) → AreLight (flat_map (leave_deeds s) ts)
light_leaves s [] = tt
light_leaves s (t ∷ ts) = light_append (leave_deeds s t) (flat_map (leave_deeds s) ts) (light_leave s t) (light_leaves s ts)

light_enter : (env : Env) (d : CopyTo) (b : Broker) → AreLight (deliver_by true env d b)
light_enter env d b = by (session_at d.birth b.records)
  where
    by : (o : Option Session) → AreLight (with_session o (λ s. always (enter_deeds env d.copy s)) b)
    by None = tt
    by (Some s) =
        let ts = way_made (queue_limits env) (since env s) (queue_on [] s) in
        light_append (flat_map (leave_deeds s) ts) (At (whose s) (Enter d.copy) ∷ []) (light_leaves s ts) (tt, tt)

other_deliver : (t : Bool) (env : Env) (d : CopyTo) (b : Broker) → AreOther (deliver_by t env d b)
other_deliver true env d b = lights_other (deliver_by true env d b) (light_enter env d b)
other_deliver false env d b = of_offer_if AreOther (has_form d.copy b) (line_of d.birth b) (publish_of b.now false 0 d.copy) tt (λ l there. (tt, tt))

other_deliveries : (env : Env) (ds : List CopyTo) (b : Broker) → AreOther (series (map (deliver env) ds) b)
other_deliveries env [] b = tt
other_deliveries env (d ∷ ds) b =
    let first = deliver env d b in
    let c = after_all first b in
    other_append first (series (map (deliver env) ds) c) (other_deliver (is_queued d) env d b) (other_deliveries env ds c)

light_forgets : (o : Option RetainedMessage) → AreLight (forgets o)
light_forgets None = tt
light_forgets (Some k) = (tt, tt)

light_retain : (retain empty : Bool) (number : ℕ) (m : Message) (b : Broker) → AreLight (retain_by retain empty number m b)
light_retain false empty number m b = tt
light_retain true true number m b = light_forgets (retained_of m.topic b.records)
light_retain true false number m b = (tt, tt)

-- ---- what goes out for a copy is what is due for it

offered : (o : Option Line) (copy : MessageCopy) (b : Broker) → outputs (offer_copy o copy b) ≡ put_on o copy b
offered None copy b = refl
offered (Some l) copy b = by (has_form copy b l)
  where
    packet : Packet
    packet = publish_of b.now false 0 copy

    by : (t : Bool) → outputs (cond t (Send l.number packet ∷ []) []) ≡ cond t ((l.number, packet) ∷ []) []
    by true = refl
    by false = refl

delivered : (t : Bool) (env : Env) (d : CopyTo) (b : Broker) → IsPart (due_by t d b) (outputs (deliver_by t env d b))
delivered true env d b = tt
delivered false env d b =
    let put = put_on (line_of d.birth b) d.copy b in
    subst (IsPart put) (sym (offered (line_of d.birth b) d.copy b)) (part_all put)

-- what is put on a line, by its number and what its client takes
abbrev put_by : Option (ℕ × ℕ) → MessageCopy → ℕ → List Telling → Packets
put_by None copy now ts = []
put_by (Some x) copy now ts = cond (is_some (form_of x.1 (told_on x.0 ts) copy)) ((x.0, publish_of now false 0 copy) ∷ []) []

put_seen : (o : Option Line) (copy : MessageCopy) (b : Broker) → put_on o copy b ≡ put_by (seen o) copy b.now b.tellings
put_seen None copy b = refl
put_seen (Some l) copy b = refl

due_same : (t : Bool) (d : CopyTo) (b c : Broker) → IsSame b c → due_by t d c ≡ due_by t d b
due_same true d b c same = refl
due_same false d b c same =
    put_seen (line_of d.birth c) d.copy c
    ∙ (ap (λ (o : Option (ℕ × ℕ)). put_by o d.copy c.now c.tellings) (same.sessions d.birth)
    ∙ (ap (λ (n : ℕ). put_by (seen (line_of d.birth b)) d.copy n c.tellings) same.now
    ∙ (ap (λ (ts : List Telling). put_by (seen (line_of d.birth b)) d.copy b.now ts) same.tellings
    ∙ sym (put_seen (line_of d.birth b) d.copy b))))

-- so is what a packet tells
abbrev line_seen : ℕ × ℕ → Line
line_seen x = record (fresh_line x.0 0) { largest = x.1 }

abbrev telling_by : ℕ → Option (ℕ × ℕ) → Packet → List Telling → List Telling
telling_by n o packet ts = tells_on n (option_map line_seen o) packet ts

telling_seen : (n : ℕ) (o : Option Line) (packet : Packet) (ts : List Telling) → tells_on n o packet ts ≡ telling_by n (seen o) packet ts
telling_seen n None packet ts = refl
telling_seen n (Some l) (Publish p) ts = refl
telling_seen n (Some l) packet ts = refl

send_same : (n : ℕ) (packet : Packet) (b c : Broker) → IsSame b c → IsSame (after (Send n packet) b) (after (Send n packet) c)
send_same n packet b c same = record {
  now = same.now;
  tellings =
      telling_seen n (line_at n c) packet c.tellings
      ∙ (ap (λ (o : Option (ℕ × ℕ)). telling_by n o packet c.tellings) (same.numbers n)
      ∙ (ap (λ (ts : List Telling). telling_by n (seen (line_at n b)) packet ts) same.tellings
      ∙ sym (telling_seen n (line_at n b) packet b.tellings)));
  sessions = same.sessions;
  numbers = same.numbers;
}

behind_same : (ps : Packets) (b c : Broker) → IsSame b c → IsSame (behind ps b) (behind ps c)
behind_same [] b c same = same
behind_same (p ∷ ps) b c same = behind_same ps (after (Send p.0 p.1) b) (after (Send p.0 p.1) c) (send_same p.0 p.1 b c same)

dues_same : (ds : List CopyTo) (b c : Broker) → IsSame b c → due_for ds c ≡ due_for ds b
dues_same [] b c same = refl
dues_same (d ∷ ds) b c same =
    let put = due_by (is_queued d) d b in
    ap (λ (ps : Packets). ps ++ due_for ds (behind ps c)) (due_same (is_queued d) d b c same)
    ∙ ap (λ (ps : Packets). put ++ ps) (dues_same ds (behind put b) (behind put c) (behind_same put b c same))

-- what is due behind a delivery
behind_offer : (o : Option Line) (copy : MessageCopy) (b : Broker) → after_all (offer_copy o copy b) b ≡ behind (put_on o copy b) b
behind_offer None copy b = refl
behind_offer (Some l) copy b = by (has_form copy b l)
  where
    packet : Packet
    packet = publish_of b.now false 0 copy

    by : (t : Bool) → after_all (cond t (Send l.number packet ∷ []) []) b ≡ behind (cond t ((l.number, packet) ∷ []) []) b
    by true = refl
    by false = refl

due_behind : (t : Bool) (env : Env) (d : CopyTo) (ds : List CopyTo) (b : Broker) → due_for ds (after_all (deliver_by t env d b) b) ≡ due_for ds (behind (due_by t d b) b)
due_behind true env d ds b = let first = deliver_by true env d b in dues_same ds b (after_all first b) (lights_same first b (light_enter env d b))
due_behind false env d ds b = ap (due_for ds) (behind_offer (line_of d.birth b) d.copy b)

all_delivered : (env : Env) (ds : List CopyTo) (b : Broker) → IsPart (due_for ds b) (outputs (series (map (deliver env) ds) b))
all_delivered env [] b = tt
all_delivered env (d ∷ ds) b =
    let first = deliver env d b in
    let put = due_by (is_queued d) d b in
    let more = due_for ds (behind put b) in
    let c = after_all first b in
    let rest = series (map (deliver env) ds) c in
    let later : IsPart more (outputs rest) = subst (λ (ps : Packets). IsPart ps (outputs rest)) (due_behind (is_queued d) env d ds b) (all_delivered env ds c) in
    subst (IsPart (put ++ more)) (sym (outputs_append first rest)) (part_append put (outputs first) more (outputs rest) (delivered (is_queued d) env d b) later)

-- ---- a publication, and all else

publish_gives : (env : Env) (origin : Origin) (m : Message) (ds : List CopyTo) (b : Broker) → Orders b → accepted_copies env m b ≡ Some ds → Gives env (publish env origin m ds b) b
publish_gives env origin m ds b h e =
    let number = next_publication b.records in
    let c = after (Accept number origin m) b in
    let next = retain_by m.retain (is_empty m.payload) number m c in
    let d = after_all next c in
    let all = series (map (deliver env) ds) d in
    let light = light_retain m.retain (is_empty m.payload) number m c in
    let rest = lights_same next c light in
    let same : IsSame b d = record { now = rest.now; tellings = rest.tellings; sessions = rest.sessions; numbers = rest.numbers } in
    let put : IsPart (due_for ds b) (outputs all) = subst (λ (ps : Packets). IsPart ps (outputs all)) (dues_same ds b d same) (all_delivered env ds d) in
    let out : IsPart (due_for ds b) (outputs (next ++ all)) = subst (IsPart (due_for ds b)) (sym (outputs_append next all)) (part_behind (due_for ds b) (outputs next) (outputs all) put) in
    let none : dues env (next ++ all) c ≡ [] = no_dues env (next ++ all) c (other_append next all (lights_other next light) (other_deliveries env ds d)) in
    let its : due_if (accepted_copies env m b) b ++ dues env (next ++ all) c ≡ due_for ds b =
    ap (λ (ps : Packets). due_if (accepted_copies env m b) b ++ ps) none ∙ append-nil (due_if (accepted_copies env m b) b) ∙ ap (λ (o : Option (List CopyTo)). due_if o b) e in
    subst (λ (ps : Packets). IsPart ps (outputs (next ++ all))) (sym its) out

grants_give : (env : Env) (w : sub.Wish) (s : Session) (b : Broker) → Gives env (sub.granted_filter env (sub.next_number b.records) s w (brought_to w s b) b).deeds b
grants_give env w s b =
    let number = sub.next_number b.records in
    let first : List Deed = Count number ∷ At (whose s) (Subscribe (sub.subscription number s w)) ∷ [] in
    let c = after_all first b in
    let all = series (map (deliver env) (filter is_queued (brought_to w s b))) c in
    others_give env (first ++ all) b (tt, (tt, other_deliveries env (filter is_queued (brought_to w s b)) c))

-- every act tells no more copies of QoS 0 than are due
pub giving : (env : Env) → Says env whatever Orders (Gives env)
giving env = says_still env (Gives env) (λ ds b h. others_give env ds b (stills_other ds h)) (gives_append env) (publish_gives env) (λ w s b e. grants_give env w s b)
