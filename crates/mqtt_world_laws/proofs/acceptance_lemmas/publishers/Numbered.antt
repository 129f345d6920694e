-- A publisher's messages are numbered as they go out: what is under way carries a number of one that has gone out, whose
-- content stays as it is.
use Rattle.std.proofs.Common.{◌≡◌, ℕ, suc, ◌≤◌, ◌<◌, ◌+◌, Bool, true, false, if◌then◌else◌, List, [], ◌∷◌, ◌++◌, drop, map, length, Option, Some, None, nat_lt, refl, sym, ap, subst, ◌∙◌, arith, append-nil, append_assoc}
use Rattle.std.specs.List.{AllByRecursion}
use Rattle.std.proofs.lemmas.List.{length-append, length-map}
use Rattle.mqtt_base.specs.declared.session.Qos.{Qos as Quality}
use Rattle.mqtt_base.specs.declared.session.Qos.TheVariants.{AtMostOnce, AtLeastOnce, ExactlyOnce}
use Rattle.mqtt_base.specs.declared.limits.TheConstants.{OPEN_LIMIT}
use Rattle.mqtt_flow.specs.inbound.Identifiers.{free_identifier}
use Rattle.mqtt_flow.specs.inbound.Line.{Link, away, asked, live, sent_on}
use Rattle.mqtt_flow.specs.inbound.Publisher.{Qos, qos_1, qos_2, Fate, sent_1, ended_1, sent, released, ended, CONNECT, ToPublisher, CONNACK, CONNACK_REFUSED, PUBACK, PUBREC, PUBCOMP, DISCONNECT, first_packet, first_fate, in_flight, resent_from, on_new_session, on_puback, on_pubrec, on_pubcomp, pubrel_for, pubrel_if}
use Rattle.mqtt_rules.specs.step.State.{Broker}
use Rattle.mqtt_rules.specs.step.Step.{Outcome}
use Rattle.mqtt_world_model.specs.model.Lines.{Down, Line, gives_up, given_up, left, joined, restarted, unless_closed, told_by}
use Rattle.mqtt_world_model.specs.model.Ends.{Content, Draft, Sent, shake, plain, Publisher, message_in, goes, numbered, goes_out, send_one, send_all, send_unsent, published, connected, reads_connack, reads, reads_if, publisher_reads}

-- ---- numbers under way

abbrev pub IsOf : ℕ → Sent → Type 0
IsOf n x = (k : ℕ) → message_in x ≡ Some k → k < n

abbrev pub AreOf : ℕ → List Sent → Type 0
AreOf n xs = AllByRecursion (IsOf n) xs

-- each message that has gone out has its content, and what is under way carries such a number
pub record IsNumbered (p : Publisher) : Type 0 where
  pub same : length p.fates ≡ length p.contents
  pub up : AreOf (length p.contents) p.line.up
  pub old : AreOf (length p.contents) p.line.old

more_of : (n m : ℕ) (xs : List Sent) → n ≤ m → AreOf n xs → AreOf m xs
more_of n m [] le a = tt
more_of n m (x ∷ xs) le a = ((λ k e. let less = a.0 k e in omega (arith, less, le)), more_of n m xs le a.1)

of_append : (n : ℕ) (xs ys : List Sent) → AreOf n xs → AreOf n ys → AreOf n (xs ++ ys)
of_append n [] ys a b = b
of_append n (x ∷ xs) ys a b = (a.0, of_append n xs ys a.1 b)

of_sent : (n : ℕ) (t : Bool) (xs ys : List Sent) → AreOf n xs → AreOf n ys → AreOf n (sent_on t xs ys)
of_sent n true xs ys a b = of_append n xs ys a b
of_sent n false xs ys a b = a

of_drop : (n : ℕ) (xs : List Sent) → AreOf n xs → AreOf n (drop 1 xs)
of_drop n [] a = tt
of_drop n (x ∷ xs) a = a.1

of_unless : (n : ℕ) (t : Bool) (xs : List Sent) → AreOf n xs → AreOf n (unless_closed t xs)
of_unless n true xs a = tt
of_unless n false xs a = a

-- ---- what is done to a publisher keeps its name, adds contents, and keeps it numbered

-- a publisher keeps its name, its contents with more behind them, and stays numbered
pub record Moves (p q : Publisher) : Type 0 where
  pub client : q.client ≡ p.client
  pub more : List Content
  pub contents : q.contents ≡ p.contents ++ more
  pub numbered : IsNumbered p → IsNumbered q

-- who keeps its name, its contents and its numbers has moved
pub moved : (p q : Publisher) → q.client ≡ p.client → q.contents ≡ p.contents → (IsNumbered p → IsNumbered q) → Moves p q
moved p q client contents h = record { client = client; more = []; contents = contents ∙ sym (append-nil p.contents); numbered = h }

-- who stays has
pub unmoved : (p : Publisher) → Moves p p
unmoved p = moved p p refl refl (λ h. h)

-- two moves are one
pub moves_then : (p q r : Publisher) → Moves p q → Moves q r → Moves p r
moves_then p q r x y = record {
  client = y.client ∙ x.client;
  more = x.more ++ y.more;
  contents = y.contents ∙ (ap (λ (cs : List Content). cs ++ y.more) x.contents ∙ append_assoc p.contents x.more y.more);
  numbered = λ h. y.numbered (x.numbered h);
}

-- ---- a message goes out

out_numbered : (t : Bool) (q : Qos) (c : Content) (rest : List Draft) (p : Publisher) → Moves p (numbered t q c rest p)
out_numbered t q c rest p = record {
  client = refl;
  more = c ∷ [];
  contents = refl;
  numbered = λ h. record {
    same = length-append p.fates (first_fate q _ ∷ []) ∙ (ap (λ (n : ℕ). n + 1) h.same ∙ sym (length-append p.contents (c ∷ [])));
    up = of_sent new t p.line.up (shake (first_packet q _ (length p.fates)) ∷ []) (more_of (length p.contents) new p.line.up longer h.up) ((λ k e. first q k e h.same), tt);
    old = more_of (length p.contents) new p.line.old longer h.old;
  };
}
  where
    new : ℕ
    new = length (p.contents ++ c ∷ [])

    is : new ≡ length p.contents + 1
    is = length-append p.contents (c ∷ [])

    longer : length p.contents ≤ new
    longer = let e = is in omega (arith, e)

    first : (q : Qos) (k : ℕ) → message_in (shake (first_packet q (free_identifier (in_flight p.fates)) (length p.fates))) ≡ Some k → length p.fates ≡ length p.contents → k < new
    first qos_1 k e same = let it : length p.fates ≡ k = cc in let long = is in omega (arith, it, same, long)
    first qos_2 k e same = let it : length p.fates ≡ k = cc in let long = is in omega (arith, it, same, long)

out_moves : (t : Bool) (k : Quality) (c : Content) (rest : List Draft) (p : Publisher) → Moves p (goes_out t k c rest p)
out_moves t AtMostOnce c rest p =
    moved p (goes_out t AtMostOnce c rest p) refl refl (λ h. record { same = h.same; up = of_sent (length p.contents) t p.line.up (plain c ∷ []) h.up ((λ k e. absurd cc), tt); old = h.old })
out_moves t AtLeastOnce c rest p = out_numbered t qos_1 c rest p
out_moves t ExactlyOnce c rest p = out_numbered t qos_2 c rest p

if_moves : (z : Bool) (p v : Publisher) → Moves p v → Moves p (if z then v else p)
if_moves true p v h = h
if_moves false p v h = unmoved p

all_moves : (t : Bool) (ds : List Draft) (p : Publisher) → Moves p (send_all t ds p)
all_moves t [] p = unmoved p
all_moves t (d ∷ rest) p =
    let q = send_one t d rest p in
    moves_then p q (send_all t rest q) (if_moves (nat_lt (length (in_flight p.fates)) OPEN_LIMIT) p (goes_out t d.qos d.content rest p) (out_moves t d.qos d.content rest p)) (all_moves t rest q)

unsent_moves : (t : Bool) (link : Link) (p : Publisher) → Moves p (send_unsent t link p)
unsent_moves t away p = unmoved p
unsent_moves t asked p = unmoved p
unsent_moves t live p = all_moves t p.unsent p

-- publishing is a move
pub published_moves : (t : Bool) (d : Draft) (p : Publisher) → Moves p (published t d p)
published_moves t d p =
    let q = record p { unsent = p.unsent ++ d ∷ [] } in
    moves_then p q (published t d p) (moved p q refl refl (λ h. record { same = h.same; up = h.up; old = h.old })) (unsent_moves t p.line.link q)

-- ---- a packet is read

-- what is resent was numbered
resent_of : (from : ℕ) (fates : List Fate) (n : ℕ) → from + length fates ≤ n → AreOf n (map shake (resent_from from fates))
resent_of from [] n le = tt
resent_of from (sent_1 id ∷ fates) n le = ((λ k e. let it : from ≡ k = cc in omega (arith, it, le)), resent_of (suc from) fates n (omega (arith, le)))
resent_of from (ended_1 by ∷ fates) n le = resent_of (suc from) fates n (omega (arith, le))
resent_of from (sent id ∷ fates) n le = ((λ k e. let it : from ≡ k = cc in omega (arith, it, le)), resent_of (suc from) fates n (omega (arith, le)))
resent_of from (released id ∷ fates) n le = ((λ k e. absurd cc), resent_of (suc from) fates n (omega (arith, le)))
resent_of from (ended by ∷ fates) n le = resent_of (suc from) fates n (omega (arith, le))

release_of : (t : Bool) (id n : ℕ) → AreOf n (map shake (pubrel_if t id))
release_of true id n = ((λ k e. absurd cc), tt)
release_of false id n = tt

-- its handshakes go on, and what waits goes out
goes_on : (t : Bool) (link : Link) (p : Publisher) (fates : List Fate) (line : Line Sent) → length fates ≡ length p.fates → (IsNumbered p → AreOf (length p.contents) line.up) → line.old ≡ p.line.old
    → Moves p (send_unsent t link (record p { fates = fates; line = line }))
goes_on t link p fates line same up old =
    let q = record p { fates = fates; line = line } in
    moves_then p q (send_unsent t link q)
    (moved p q refl refl (λ h. record { same = same ∙ h.same; up = up h; old = subst (AreOf (length p.contents)) (sym old) h.old }))
    (unsent_moves t link q)

connack_moves : (t : Bool) (link : Link) (present : Bool) (p : Publisher) → Moves p (reads_connack t link present p)
connack_moves t away present p = unmoved p
connack_moves t live present p = unmoved p
connack_moves t asked true p =
    goes_on t live p p.fates (goes t (map shake (resent_from 0 p.fates)) (connected p.line)) refl
    (λ h. of_sent (length p.contents) t p.line.up (map shake (resent_from 0 p.fates)) h.up (resent_of 0 p.fates (length p.contents) (let e = h.same in omega (arith, e)))) refl
connack_moves t asked false p = goes_on t live p (map on_new_session p.fates) (connected p.line) (length-map p.fates on_new_session) (λ h. h.up) refl

-- it leaves its line
leaves : (p : Publisher) (line : Line Sent) → line.up ≡ [] → line.old ≡ p.line.old → Moves p (record p { line = line })
leaves p line up old = moved p (record p { line = line }) refl refl (λ h. record { same = h.same; up = subst (AreOf (length p.contents)) (sym up) tt; old = subst (AreOf (length p.contents)) (sym old) h.old })

reads_moves : (t : Bool) (packet : ToPublisher) (p : Publisher) → Moves p (reads t packet p)
reads_moves t (CONNACK present) p = connack_moves t p.line.link present p
reads_moves t (CONNACK_REFUSED code) p = leaves p (left (record p.line { clean = false })) refl refl
reads_moves t (PUBACK id code) p = goes_on t p.line.link p (map (on_puback id code) p.fates) p.line (length-map p.fates (on_puback id code)) (λ h. h.up) refl
reads_moves t (PUBREC id code) p =
    goes_on t p.line.link p (map (on_pubrec id code) p.fates) (goes t (map shake (pubrel_for id code p.fates)) p.line) (length-map p.fates (on_pubrec id code))
    (λ h. of_sent (length p.contents) t p.line.up (map shake (pubrel_for id code p.fates)) h.up (release_of _ id (length p.contents))) refl
reads_moves t (PUBCOMP id code) p = goes_on t p.line.link p (map (on_pubcomp id) p.fates) p.line (length-map p.fates (on_pubcomp id)) (λ h. h.up) refl
reads_moves t (DISCONNECT code) p = leaves p (left p.line) refl refl

read_if_moves : (t : Bool) (x : Option ToPublisher) (p : Publisher) → Moves p (reads_if t x p)
read_if_moves t None p = unmoved p
read_if_moves t (Some packet) p = reads_moves t packet p

-- its line alone is changed
pub line_moves : (p : Publisher) (line : Line Sent) → ((n : ℕ) → AreOf n p.line.up → AreOf n line.up) → ((n : ℕ) → AreOf n p.line.up → AreOf n p.line.old → AreOf n line.old) → Moves p (record p { line = line })
line_moves p line up old =
    moved p (record p { line = line }) refl refl (λ h. record { same = h.same; up = up (length p.contents) h.up; old = old (length p.contents) h.up h.old })

-- reading is
pub read_moves : (t : Bool) (ds : List Down) (p : Publisher) → Moves p (publisher_reads t ds p)
read_moves t [] p = unmoved p
read_moves t (d ∷ rest) p =
    let q = record p { line = record p.line { down = rest } } in
    moves_then p q (publisher_reads t (d ∷ rest) p) (line_moves p q.line (λ n a. a) (λ n a b. b)) (read_if_moves t _ q)

-- ---- its line

-- giving up is
pub given_moves : (p : Publisher) → Moves p (record p { line = gives_up p.line.link p.line })
given_moves p = by p.line.link
  where
    by : (link : Link) → Moves p (record p { line = gives_up link p.line })
    by away = unmoved p
    by asked = line_moves p (given_up p.line) (λ n a. tt) (λ n a b. a)
    by live = line_moves p (given_up p.line) (λ n a. tt) (λ n a b. a)

-- a line that is left is
pub left_moves : (p : Publisher) → Moves p (record p { line = left p.line })
left_moves p = line_moves p (left p.line) (λ n a. tt) (λ n a b. b)

-- a line that is joined is
pub joined_moves : (number : ℕ) (clean : Bool) (p : Publisher) → Moves p (record p { line = joined (shake (CONNECT clean)) number clean p.line })
joined_moves number clean p = line_moves p (joined (shake (CONNECT clean)) number clean p.line) (λ n a. ((λ k e. absurd cc), tt)) (λ n a b. b)

-- a restart is
pub restarted_moves : (p : Publisher) → Moves p (record p { line = restarted p.line })
restarted_moves p = line_moves p (restarted p.line) (λ n a. tt) (λ n a b. tt)

-- a packet that was read is
pub up_moves : (p : Publisher) → Moves p (record p { line = record p.line { up = drop 1 p.line.up } })
up_moves p = line_moves p (record p.line { up = drop 1 p.line.up }) (λ n a. of_drop n p.line.up a) (λ n a b. b)

-- also from the old line
pub old_moves : (p : Publisher) → Moves p (record p { line = record p.line { old = drop 1 p.line.old } })
old_moves p = line_moves p (record p.line { old = drop 1 p.line.old }) (λ n a. a) (λ n a b. of_drop n p.line.old b)

-- and what the broker tells is
pub told_moves : (p : Publisher) (b : Broker) (out : Outcome) → Moves p (record p { line = told_by b out p.line })
told_moves p b out = line_moves p (told_by b out p.line) (λ n a. of_unless n _ p.line.up a) (λ n a b. of_unless n _ p.line.old b)
