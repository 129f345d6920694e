-- A line is read as the event whose line it is, and no other is.
use Rattle.std.proofs.Common.{◌≡◌, ◌≢◌, ◌<◌, refl, sym, ap, subst, ◌∙◌, ℕ, Bool, true, false, List, [], ◌∷◌, codes, Some, None, Result, Ok, Err, IfOk, IfErr, MatchBool, slice_index, arith}
use Rattle.std.specs.Str.{IsAscii, IsNotAscii}
use Rattle.mqtt_base.specs.declared.session.SubscriptionOptions.{SubscriptionOptions}
use Rattle.mqtt_script.specs.declared.event.Asking.{Asking}
use Rattle.mqtt_script.specs.declared.event.Asking.TheVariants as asking
use Rattle.mqtt_script.specs.declared.event.Draft.{Draft}
use Rattle.mqtt_script.specs.declared.event.Event.{Event}
use Rattle.mqtt_script.specs.declared.event.Event.TheVariants.{Publisher, Receiver, Connect, GiveUp, Publish, Subscribe, ToBroker, ToEnd, Break, Pump, Clock, Tick, Restart, StopBefore, StopAfter, Stranger, Drain}
use Rattle.mqtt_script.specs.declared.event.Wish.{Wish}
use Rattle.mqtt_script.specs.declared.fault.ScriptFault.{ScriptFault}
use Rattle.mqtt_script.specs.declared.fault.ScriptFault.TheVariants.{Memory}
use Rattle.mqtt_script.specs.Words.{words_of, flag_word, qos_word, handling_word}
use Rattle.mqtt_script.specs.Lines.{first_word, asking_word, AskingFollows, IsAsking, Follows, IsLineOf, IsNoLine}
use Rattle.mqtt_script.specs.Reading.{◌>>=◌, IsReadAs, name_at, flag_at, qos_at, handling_at, number_at, window_at, identifier_at, payload_at, alone, aliases_in, receiver_in, connect_in, draft_in, publish_in, options_in, wish_in, subscribe_in, clock_in, asking_named, asking_in, asked, is_asking_word, end_named, event_named, event_in}
use Rattle.mqtt_script.proofs.Askings as askings
use Rattle.mqtt_script.proofs.Askings.{one_name_is_read, by_name, asking_named_says, asking_says, asking_named_is_read, asking_is_read}
use Rattle.mqtt_script.proofs.Cases.{same_some, bound, named, either, nothing}
use Rattle.mqtt_script.proofs.Meanings.{name_says, name_is_read, flag_says, flag_is_read, qos_says, qos_is_read, handling_says, handling_is_read, number_says, number_is_read, window_says, window_is_read, aliases_say, aliases_are_read, identifier_says, identifier_is_read, payload_says, payload_is_read}

-- this first word and those behind it are the event's
abbrev Says : List ℕ → List (List ℕ) → Event → Type 0
Says first more e = (first ≡ first_word e) × Follows e more

-- ---- what is read

receiver_says : (words : List (List ℕ)) (e : Event) → receiver_in words ≡ Some e → Says (codes "receiver") words e
unfolding receiver_in
receiver_says (client ∷ max ∷ more) e is =
    let w = bound (window_at max) _ e is in
    let a = bound (aliases_in more) _ e w.2 in
    let c = bound (name_at client) _ e a.2 in
    let name = name_says client c.0 c.1 in
    subst (λ (e : Event). Says (codes "receiver") (client ∷ max ∷ more) e) (same_some (Receiver c.0 w.0 a.0) e c.2)
    (refl, (max, more, ap (λ (v : List ℕ). v ∷ max ∷ more) name.0, name.1, window_says max w.0 w.1, aliases_say more a.0 a.1))
receiver_says words e is = cc

connect_says : (words : List (List ℕ)) (e : Event) → connect_in words ≡ Some e → Says (codes "connect") words e
unfolding connect_in
connect_says (client ∷ clean ∷ []) e is =
    let f = bound (flag_at clean) _ e is in
    let c = bound (name_at client) _ e f.2 in
    let name = name_says client c.0 c.1 in
    let client_is : client ≡ c.0 = name.0 in
    let clean_is : clean ≡ flag_word f.0 = flag_says clean f.0 f.1 in
    subst (λ (e : Event). Says (codes "connect") (client ∷ clean ∷ []) e) (same_some (Connect c.0 f.0) e c.2)
    (refl, ((cc), name.1))
connect_says words e is = cc

publish_says : (words : List (List ℕ)) (e : Event) → publish_in words ≡ Some e → Says (codes "publish") words e
unfolding publish_in draft_in
publish_says (client ∷ qos ∷ retain ∷ topic ∷ payload ∷ []) e is =
    let d = bound (draft_in qos retain topic payload) _ e is in
    let q = bound (qos_at qos) _ d.0 d.1 in
    let r = bound (flag_at retain) _ d.0 q.2 in
    let t = bound (name_at topic) _ d.0 r.2 in
    let p = bound (payload_at payload) _ d.0 t.2 in
    let c = bound (name_at client) _ e d.2 in
    let name = name_says client c.0 c.1 in
    let about = name_says topic t.0 t.1 in
    let qos_is : qos ≡ qos_word q.0 = qos_says qos q.0 q.1 in
    let retain_is : retain ≡ flag_word r.0 = flag_says retain r.0 r.1 in
    let client_is : client ≡ c.0 = name.0 in
    let topic_is : topic ≡ t.0 = about.0 in
    let draft : Draft = record { qos = q.0; content = record { retain = r.0; topic = t.0; payload = p.0 } } in
    subst (λ (e : Event). Says (codes "publish") (client ∷ qos ∷ retain ∷ topic ∷ payload ∷ []) e)
    (ap (λ (x : Draft). Publish c.0 x) (same_some draft d.0 p.2) ∙ same_some (Publish c.0 d.0) e c.2)
    (refl, (payload, (cc), name.1, about.1, payload_says payload p.0 p.1))
publish_says words e is = cc

-- the options, and the words that they are read from
record AreOptions (qos local published handling : List ℕ) (o : SubscriptionOptions) : Type 0 where
  qos_is : qos ≡ qos_word o.qos
  local_is : local ≡ flag_word o.no_local
  published_is : published ≡ flag_word o.retain_as_published
  handling_is : handling ≡ handling_word o.retain_handling

options_say : (qos local published handling : List ℕ) (o : SubscriptionOptions)
    → options_in qos local published handling ≡ Some o → AreOptions qos local published handling o
unfolding options_in
options_say qos local published handling o is =
    let q = bound (qos_at qos) _ o is in
    let l = bound (flag_at local) _ o q.2 in
    let r = bound (flag_at published) _ o l.2 in
    let h = bound (handling_at handling) _ o r.2 in
    let found : SubscriptionOptions =
    record { qos = q.0; no_local = l.0; retain_as_published = r.0; retain_handling = h.0 } in
    subst (λ (o : SubscriptionOptions). AreOptions qos local published handling o) (same_some found o h.2) (record {
      qos_is = qos_says qos q.0 q.1;
      local_is = flag_says local l.0 l.1;
      published_is = flag_says published r.0 r.1;
      handling_is = handling_says handling h.0 h.1;
    })

subscribe_says : (words : List (List ℕ)) (e : Event) → subscribe_in words ≡ Some e → Says (codes "subscribe") words e
unfolding subscribe_in wish_in
subscribe_says (client ∷ qos ∷ local ∷ published ∷ handling ∷ identifier ∷ filter ∷ []) e is =
    let w = bound (wish_in qos local published (handling ∷ identifier ∷ filter ∷ [])) _ e is in
    let o = bound (options_in qos local published handling) _ w.0 w.1 in
    let i = bound (identifier_at identifier) _ w.0 o.2 in
    let f = bound (name_at filter) _ w.0 i.2 in
    let c = bound (name_at client) _ e w.2 in
    let name = name_says client c.0 c.1 in
    let wanted = name_says filter f.0 f.1 in
    let options : AreOptions qos local published handling o.0 = options_say qos local published handling o.0 o.1 in
    let qos_is : qos ≡ qos_word o.0.qos = options.qos_is in
    let local_is : local ≡ flag_word o.0.no_local = options.local_is in
    let published_is : published ≡ flag_word o.0.retain_as_published = options.published_is in
    let handling_is : handling ≡ handling_word o.0.retain_handling = options.handling_is in
    let client_is : client ≡ c.0 = name.0 in
    let filter_is : filter ≡ f.0 = wanted.0 in
    let wish : Wish = record { filter = f.0; options = o.0; identifier = i.0 } in
    subst
    (λ (e : Event). Says (codes "subscribe") (client ∷ qos ∷ local ∷ published ∷ handling ∷ identifier ∷ filter ∷ []) e)
    (ap (λ (x : Wish). Subscribe c.0 x) (same_some wish w.0 f.2) ∙ same_some (Subscribe c.0 w.0) e c.2)
    (refl, (identifier, (cc), name.1, wanted.1, identifier_says identifier i.0 i.1))
subscribe_says words e is = cc

clock_says : (words : List (List ℕ)) (e : Event) → clock_in words ≡ Some e → Says (codes "clock") words e
unfolding clock_in
clock_says (number ∷ []) e is =
    let n = bound (number_at number) (λ wait. Some (Clock wait)) e is in
    subst (λ (e : Event). Says (codes "clock") (number ∷ []) e) (same_some (Clock n.0) e n.2)
    (refl, (number, refl, number_says number n.0 n.1))
clock_says words e is = cc

restart_says : (words : List (List ℕ)) (e : Event) → alone Restart words ≡ Some e → Says (codes "restart") words e
unfolding alone
restart_says [] e is = subst (λ (e : Event). Says (codes "restart") [] e) (same_some Restart e is) (refl, refl)
restart_says (word ∷ more) e is = cc

stop_says : (f : Asking → Event) (words : List (List ℕ)) (P : Event → Type 0) (e : Event)
    → (asking_in words >>= (λ a. Some (f a))) ≡ Some e → ((a : Asking) → IsAsking a words → P (f a)) → P e
stop_says f words P e is each =
    let a = bound (asking_in words) (λ a. Some (f a)) e is in
    subst P (same_some (f a.0) e a.2) (each a.0 (asking_says words a.0 a.1))

asked_says : (first : List ℕ) (more : List (List ℕ)) (a : Asking) → askings.Says first more a → Says first more (asked a)
asked_says first more (asking.ToBroker client old) is = is
asked_says first more (asking.Break client) is = is
asked_says first more (asking.Pump client) is = is
asked_says first more asking.Tick is = is
asked_says first more (asking.Stranger name bytes) is = is

asked_named_says : (first : List ℕ) (more : List (List ℕ)) (e : Event)
    → (asking_named first more >>= (λ a. Some (asked a))) ≡ Some e → Says first more e
asked_named_says first more e is =
    let a = bound (asking_named first more) (λ a. Some (asked a)) e is in
    subst (λ (e : Event). Says first more e) (same_some (asked a.0) e a.2)
    (asked_says first more a.0 (asking_named_says first more a.0 a.1))

end_named_says : (first : List ℕ) (more : List (List ℕ)) (e : Event) → end_named first more ≡ Some e → Says first more e
unfolding end_named
end_named_says first more e is =
    named (λ w. Says w more e) first (codes "publisher") _ _ e is
    (λ is. by_name Publisher more (Says (codes "publisher") more) e is (λ c is. (refl, is))) (λ is.
    named (λ w. Says w more e) first (codes "receiver") _ _ e is (receiver_says more e) (λ is.
    named (λ w. Says w more e) first (codes "connect") _ _ e is (connect_says more e) (λ is.
    named (λ w. Says w more e) first (codes "giveup") _ _ e is
    (λ is. by_name GiveUp more (Says (codes "giveup") more) e is (λ c is. (refl, is))) (λ is.
    named (λ w. Says w more e) first (codes "publish") _ _ e is (publish_says more e) (λ is.
    named (λ w. Says w more e) first (codes "subscribe") _ _ e is (subscribe_says more e) (λ is.
    named (λ w. Says w more e) first (codes "toend") _ _ e is
    (λ is. by_name ToEnd more (Says (codes "toend") more) e is (λ c is. (refl, is))) (λ is.
    named (λ w. Says w more e) first (codes "drain") _ _ e is
    (λ is. by_name Drain more (Says (codes "drain") more) e is (λ c is. (refl, is))) (λ is.
    nothing (Says first more e) e is))))))))

event_named_says : (first : List ℕ) (more : List (List ℕ)) (e : Event) → event_named first more ≡ Some e
    → Says first more e
unfolding event_named
event_named_says first more e is =
    named (λ w. Says w more e) first (codes "clock") _ _ e is (clock_says more e) (λ is.
    named (λ w. Says w more e) first (codes "restart") _ _ e is (restart_says more e) (λ is.
    named (λ w. Says w more e) first (codes "stopbefore") _ _ e is
    (λ is. stop_says StopBefore more (Says (codes "stopbefore") more) e is (λ a is. (refl, is))) (λ is.
    named (λ w. Says w more e) first (codes "stopafter") _ _ e is
    (λ is. stop_says StopAfter more (Says (codes "stopafter") more) e is (λ a is. (refl, is))) (λ is.
    either (Says first more e) (is_asking_word first) _ _ e is (asked_named_says first more e)
    (end_named_says first more e)))))

words_say : (words : List (List ℕ)) (e : Event) → event_in words ≡ Some e
    → (more : List (List ℕ)) × (words ≡ first_word e ∷ more) × Follows e more
unfolding event_in
words_say [] e is = cc
words_say (first ∷ more) e is =
    let said = event_named_says first more e is in (more, ap (λ (w : List ℕ). w ∷ more) said.0, said.1)

-- a line that is read as an event says it
pub line_says : (line : List ℕ) (e : Event) → IsAscii line → event_in (words_of line) ≡ Some e → IsLineOf e line
line_says line e ascii is =
    let said = words_say (words_of line) e is in
    record { ascii = ascii; more = said.0; first = said.1; follows = said.2 }

-- ---- what can be read

asked_is_read : (a : Asking) (more : List (List ℕ)) → AskingFollows a more
    → (asking_named (asking_word a) more >>= (λ a. Some (asked a))) ≡ Some (asked a)
asked_is_read a more is = ap (λ o. o >>= (λ a. Some (asked a))) (asking_named_is_read a more is)

event_named_is_read : (e : Event) (more : List (List ℕ)) → Follows e more → event_named (first_word e) more ≡ Some e
unfolding event_named end_named receiver_in connect_in draft_in publish_in options_in wish_in subscribe_in clock_in alone
event_named_is_read (Publisher client) more is = rw (one_name_is_read more client is)
event_named_is_read (Receiver client window aliases) more (max, last, is, name, most, taken) =
    rw (is, window_is_read max window most, aliases_are_read last aliases taken, name_is_read client name)
event_named_is_read (Connect client clean) more is =
    rw (is.0, flag_is_read clean, name_is_read client is.1)
event_named_is_read (GiveUp client) more is = rw (one_name_is_read more client is)
event_named_is_read (Publish client draft) more (hex, is, name, topic, payload) =
    let c = draft.content in
    rw (
      is,
      qos_is_read draft.qos,
      flag_is_read c.retain,
      name_is_read c.topic topic,
      payload_is_read hex c.payload payload,
      name_is_read client name,
    )
event_named_is_read (Subscribe client wish) more (number, is, name, filter, identifier) =
    let o = wish.options in
    rw (
      is,
      qos_is_read o.qos,
      flag_is_read o.no_local,
      flag_is_read o.retain_as_published,
      handling_is_read o.retain_handling,
      identifier_is_read number wish.identifier identifier,
      name_is_read wish.filter filter,
      name_is_read client name,
    )
event_named_is_read (ToBroker client old) more is = asked_is_read (asking.ToBroker client old) more is
event_named_is_read (ToEnd client) more is = rw (one_name_is_read more client is)
event_named_is_read (Break client) more is = asked_is_read (asking.Break client) more is
event_named_is_read (Pump client) more is = asked_is_read (asking.Pump client) more is
event_named_is_read (Clock wait) more (number, is, said) = rw (is, number_is_read number wait said)
event_named_is_read Tick more is = asked_is_read asking.Tick more is
event_named_is_read Restart more is = rw is
event_named_is_read (StopBefore a) more is = rw (asking_is_read a more is)
event_named_is_read (StopAfter a) more is = rw (asking_is_read a more is)
event_named_is_read (Stranger name bytes) more is = asked_is_read (asking.Stranger name bytes) more is
event_named_is_read (Drain client) more is = rw (one_name_is_read more client is)

-- a line that says an event is read so
pub line_is_read : (line : List ℕ) (e : Event) → IsLineOf e line → event_in (words_of line) ≡ Some e
unfolding event_in
line_is_read line e is = rw is.first (event_named_is_read e is.more is.follows)

-- what is read as none is the line of none
no_line : (line : List ℕ) → event_in (words_of line) ≡ None → IsNoLine line
no_line line none e is = cc (sym none ∙ line_is_read line e is)

-- a line that is no ASCII says none
pub not_ascii : (line text : List ℕ) (ascii : Bool) → text ≡ line → ascii ≡ false → MatchBool ascii (IsAscii text) (IsNotAscii text)
    → IsNoLine line
not_ascii line text false same is (place, above) e said =
    let below : slice_index text place < 128 = subst IsAscii (sym same) said.ascii place in
    omega arith
not_ascii line text true same is found e said = cc

-- ---- what is answered

module _ (line text : List ℕ) (same : text ≡ line) where
  -- a line that was read as an event is the line of that event
  pub reads_line : (ascii : Bool) → ascii ≡ true → MatchBool ascii (IsAscii text) (IsNotAscii text)
      → (r : Result Event ScriptFault) → IsReadAs (event_in (words_of text)) r → IfOk r (λ e. IsLineOf e line)
  reads_line true is ascii (Ok e) read =
      line_says line e (subst IsAscii same ascii) (ap (λ (l : List ℕ). event_in (words_of l)) (sym same) ∙ read.0)
  reads_line true is ascii (Err fault) read = tt
  reads_line false is ascii r read = cc

  -- a line that was refused, and not for want of memory, is the line of no event
  pub refuses_line : (r : Result Event ScriptFault) → IsReadAs (event_in (words_of text)) r
      → IfErr r (λ fault. fault ≢ Memory → IsNoLine line)
  refuses_line (Ok e) read = tt
  refuses_line (Err fault) read =
      λ other. no_line line (ap (λ (l : List ℕ). event_in (words_of l)) (sym same) ∙ read.1 other)

-- ---- one event

-- a line says one event at most
pub one_line_one_event : (line : List ℕ) (event other : Event) → IsLineOf event line → IsLineOf other line → event ≡ other
one_line_one_event line event other is also =
    same_some event other (sym (line_is_read line event is) ∙ line_is_read line other also)
