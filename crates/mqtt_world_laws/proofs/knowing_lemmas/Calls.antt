-- What a call tells to ends, if it brings no CONNECT on their lines of a client that takes more aliases than they do.
use Rattle.std.proofs.Common.{◌≡◌, ℕ, ◌^◌, ◌≤◌, ◌<◌, List, [], ◌∷◌, map, Option, Some, None, refl, ap, subst, sym, ◌∙◌, arith}
use Rattle.std.specs.List.{AllByRecursion}
use Rattle.std.proofs.lemmas.Bool.{eqb-true}
use Rattle.mqtt_packet.specs.codec.Packets.{HasSpelling}
use Rattle.mqtt_packet.specs.declared.codec.packet.Packet.{Packet}
use Rattle.mqtt_records.specs.declared.state.change.Change.{Change}
use Rattle.mqtt_records.specs.declared.state.records.Records.{Records}
use Rattle.mqtt_topic.specs.names.Aliases.{AliasTable}
use Rattle.mqtt_topic.specs.sending.Told.{none_told}
use Rattle.mqtt_rules.specs.declared.step.Capacity.{Capacity}
use Rattle.mqtt_rules.specs.step.Deeds.{Deed, Greet, Link, On, after, after_all, rows_of_all}
use Rattle.mqtt_rules.specs.step.State.{Broker, MemberChoice, told_on}
use Rattle.mqtt_rules.specs.step.Step.{Call, Outcome, at_moment, deeds, done, env_of, opened, opening_deeds, stepped, told, unopened, with_moment}
use Rattle.mqtt_rules.proofs.step_lemmas.acts.Goods.{AreGood}
use Rattle.mqtt_rules.specs.granting.Granting.{TakesWithin}
use Rattle.mqtt_rules.specs.granting.Naming.{NamesTopics}
use Rattle.mqtt_rules.proofs.granting_lemmas.Steps.{opening_grants_none, step_grants, step_grants_none, step_knows, step_means, step_named, step_topics, step_users}
use Rattle.mqtt_rules.specs.telling.Meaning.{GrantsNone, Knows, on_line}
use Rattle.mqtt_rules.proofs.telling_lemmas.Plainly.{goes_out_plainly, stays_untold}
use Rattle.mqtt_world_model.specs.model.Ends.{Publisher, Receiver}
use Rattle.mqtt_world_model.specs.model.Lines.{known_by}
use Rattle.mqtt_world_model.specs.model.World.{Setting, Stranger, World, calls, publisher_told, receiver_told}
use Rattle.mqtt_world_laws.proofs.telling_lemmas.Given.{IsGiven, IsNumbered, call_given, call_numbered}
use Rattle.mqtt_world_laws.specs.knowing.Knowing.{AllIsUnderstood, AreKnowing, End, HasKnowingEnds, IsItsFormer, IsItsLine, IsKnowing, IsUnderstood, IsUnderstoodOn, OnEachEnd, TakesAsEnds, TakesFew, WasGiven, of_publisher, of_receiver}
use Rattle.mqtt_world_laws.proofs.knowing_lemmas.Reading.{IsSaid, all_read, all_reading_max, said_on, told_none}
use Rattle.mqtt_world_laws.proofs.knowing_lemmas.Spelling.{IsMeant, wires_spelled}

-- ---- of each end

-- what follows for each
pub each_end : (P Q : End → Type 0) (ps : List Publisher) (rs : List Receiver) → ((e : End) → P e → Q e) → OnEachEnd P ps rs → OnEachEnd Q ps rs
each_end P Q ps rs f h = (publishers ps h.0, receivers rs h.1)
  where
    publishers : (xs : List Publisher) → AllByRecursion (λ (p : Publisher). P (of_publisher p)) xs → AllByRecursion (λ (p : Publisher). Q (of_publisher p)) xs
    publishers [] k = tt
    publishers (x ∷ xs) k = (f (of_publisher x) k.0, publishers xs k.1)

    receivers : (xs : List Receiver) → AllByRecursion (λ (r : Receiver). P (of_receiver r)) xs → AllByRecursion (λ (r : Receiver). Q (of_receiver r)) xs
    receivers [] k = tt
    receivers (x ∷ xs) k = (f (of_receiver x) k.0, receivers xs k.1)

-- both
pub each_both : (P Q : End → Type 0) (ps : List Publisher) (rs : List Receiver) → OnEachEnd P ps rs → OnEachEnd Q ps rs → OnEachEnd (λ e. P e × Q e) ps rs
each_both P Q ps rs h k = (publishers ps h.0 k.0, receivers rs h.1 k.1)
  where
    publishers : (xs : List Publisher) → AllByRecursion (λ (p : Publisher). P (of_publisher p)) xs → AllByRecursion (λ (p : Publisher). Q (of_publisher p)) xs
        → AllByRecursion (λ (p : Publisher). P (of_publisher p) × Q (of_publisher p)) xs
    publishers [] a b = tt
    publishers (x ∷ xs) a b = ((a.0, b.0), publishers xs a.1 b.1)

    receivers : (xs : List Receiver) → AllByRecursion (λ (r : Receiver). P (of_receiver r)) xs → AllByRecursion (λ (r : Receiver). Q (of_receiver r)) xs
        → AllByRecursion (λ (r : Receiver). P (of_receiver r) × Q (of_receiver r)) xs
    receivers [] a b = tt
    receivers (x ∷ xs) a b = ((a.0, b.0), receivers xs a.1 b.1)

-- an end that is told something knows what that tells
abbrev pub end_told : Outcome → End → End
end_told out e = record {
  client = e.client;
  aliases = e.aliases;
  number = e.number;
  old_number = e.old_number;
  known = known_by e.number out.wires e.known;
}

-- what an outcome tells reaches each end, as far as aliases go
pub each_told : (P Q : End → Type 0) (b : Broker) (out : Outcome) (ps : List Publisher) (rs : List Receiver) → ((e : End) → P e → Q (end_told out e))
    → OnEachEnd P ps rs → OnEachEnd Q (map (publisher_told b out) ps) (map (receiver_told b out) rs)
each_told P Q b out ps rs f h = (publishers ps h.0, receivers rs h.1)
  where
    publishers : (xs : List Publisher) → AllByRecursion (λ (p : Publisher). P (of_publisher p)) xs → AllByRecursion (λ (p : Publisher). Q (of_publisher p)) (map (publisher_told b out) xs)
    publishers [] k = tt
    publishers (x ∷ xs) k = (f (of_publisher x) k.0, publishers xs k.1)

    receivers : (xs : List Receiver) → AllByRecursion (λ (r : Receiver). P (of_receiver r)) xs → AllByRecursion (λ (r : Receiver). Q (of_receiver r)) (map (receiver_told b out) xs)
    receivers [] k = tt
    receivers (x ∷ xs) k = (f (of_receiver x) k.0, receivers xs k.1)

-- ---- lines that are given in a step

grows : (g : ℕ) (ds : List Deed) (b : Broker) → AreGood (IsGiven g) ds b → b.given ≤ (after_all ds b).given
grows g [] b h = omega arith
grows g (Link n ∷ ds) b h = let up = h.0 in let more = grows g ds (after (Link n) b) h.1 in omega (arith, up, more)
grows g (d ∷ ds) b h = grows g ds (after d b) h.1

-- on a line above those that were given nobody is greeted
grants_above : (g n : ℕ) (ds : List Deed) (b : Broker) → g < n → AreGood (IsGiven g) ds b → GrantsNone n ds
grants_above g n [] b less h = tt
grants_above g n (On k (Greet birth keep_alive window largest granted) ∷ ds) b less h =
    ((λ here. let same = eqb-true k n here in let low = h.0 in absurd (omega (arith, same, low, less))), grants_above g n ds (after (On k (Greet birth keep_alive window largest granted)) b) less h.1)
grants_above g n (d ∷ ds) b less h = grants_above g n ds (after d b) less h.1

moment_given : (rows : List Change) (b : Broker) → (with_moment rows b).given ≡ b.given
moment_given [] b = refl
moment_given (row ∷ rows) b = refl

moment_tellings : (rows : List Change) (b : Broker) → (with_moment rows b).tellings ≡ b.tellings
moment_tellings [] b = refl
moment_tellings (row ∷ rows) b = refl

-- nothing was told there
abbrev pub IsUntold : ℕ → Broker → Type 0
IsUntold n b = told_on n b.tellings ≡ none_told 0

-- deeds that grant nothing on a line leave it untold
untold_done : (n : ℕ) (ds : List Deed) (b : Broker) → IsUntold n b → GrantsNone n ds → IsUntold n (done ds b)
untold_done n ds b none grants =
    ap (told_on n) (moment_tellings (rows_of_all ds b.records) (after_all ds b)) ∙ stays_untold n ds b none grants

-- ---- a call

module _ (limits : Capacity) (choice : MemberChoice) (now : ℕ) (call : Call) (b : Broker) (numbered : IsNumbered b) where
  good : AreGood (IsGiven b.given) (deeds limits choice now call b) (at_moment now b)
  good = call_given (env_of limits choice b) call (at_moment now b) numbered

  -- no line is taken back
  pub given_grows : b.given ≤ (stepped limits choice now call b).given
  given_grows =
      let ds = deeds limits choice now call b in
      let up = grows b.given ds (at_moment now b) good in
      let same = moment_given (rows_of_all ds b.records) (after_all ds (at_moment now b)) in
      omega (arith, up, same)

  -- the lines stay numbered
  pub stays_numbered : IsNumbered (stepped limits choice now call b)
  stays_numbered = call_numbered (env_of limits choice b) call (at_moment now b) numbered

  -- on a line that was not given nothing is told
  pub unused_after : (n : ℕ) → b.given < n → IsUntold n b → IsUntold n (stepped limits choice now call b)
  unused_after n less none = untold_done n (deeds limits choice now call b) (at_moment now b) none (grants_above b.given n (deeds limits choice now call b) (at_moment now b) less good)

paired : (ms : List Packet) → AllByRecursion HasSpelling ms → AllByRecursion IsSaid ms → AllByRecursion IsMeant ms
paired [] h k = tt
paired (m ∷ ms) h k = ((h.0, k.0), paired ms h.1 k.1)

-- what goes out on a line is understood by who knows what was told there before
understood_on : (limits : Capacity) (choice : MemberChoice) (now : ℕ) (call : Call) (b : Broker) (n : ℕ) (known : AliasTable) → Knows known (told_on n b.tellings) → NamesTopics b → known.max < 2 ^ 16
    → TakesWithin n known.max call → IsUnderstoodOn n (told limits choice now call b).wires (told limits choice now call b).outputs known
understood_on limits choice now call b n known knows names small takes =
    let ds = deeds limits choice now call b in
    let said = said_on n ds (step_topics limits choice now call b names) (step_users limits choice now call b names) in
    let all = step_means limits choice now n known call b knows names takes in
    record {
      means = all;
      reads = all_read known (on_line n (told limits choice now call b).wires) (on_line n (told limits choice now call b).outputs) all said;
      spelled = λ spelled. wires_spelled n known ds (at_moment now b) knows (step_grants limits choice now n known.max call b names takes) small
          (paired (on_line n (told limits choice now call b).outputs) spelled said);
      plain = λ none. goes_out_plainly n ds (at_moment now b) (told_none known (told_on n b.tellings) knows none)
          (step_grants_none limits choice now n call b (subst (λ (most : ℕ). TakesWithin n most call) none takes));
    }

-- ---- and an opening

-- nothing is told then on any line
pub opened_untold : (limits : Capacity) (choice : MemberChoice) (now : ℕ) (r : Records) (n : ℕ) → IsUntold n (opened limits choice now r)
opened_untold limits choice now r n =
    untold_done n (opening_deeds limits choice now r) (unopened now r) refl (opening_grants_none limits choice now n r)

-- ---- in the world

abbrev pub IsAsked : Call → End → Type 0
IsAsked call e = TakesFew call e.number e.known.max

module _ (set : Setting) (call : Call) (w : World) (names : NamesTopics w.broker) where
  abbrev Out : Outcome
  Out = told set.limits set.choice w.now call w.broker

  abbrev Stepped : Broker
  Stepped = stepped set.limits set.choice w.now call w.broker

  understood : (strangers : List Stranger) (most : ℕ → ℕ) (o : Option ℕ) (known : AliasTable) → IsItsLine w.broker strangers most o known → known.max < 2 ^ 16 → TakesFew call o known.max
      → IsUnderstood (told set.limits set.choice w.now call w.broker).wires (told set.limits set.choice w.now call w.broker).outputs o known
  understood strangers most None known own small few = tt
  understood strangers most (Some n) known own small few = understood_on set.limits set.choice w.now call w.broker n known own.knows names small few

  -- an end on its line knows what it is told
  line_called : (strangers : List Stranger) (most : ℕ → ℕ) (o : Option ℕ) (known : AliasTable) → w.broker.given ≤ Stepped.given
      → IsItsLine w.broker strangers most o known → TakesFew call o known.max → IsItsLine Stepped strangers most o (known_by o Out.wires known)
  line_called strangers most None known up own few = tt
  line_called strangers most (Some n) known up own few =
      let low = own.given in
      record {
        knows = step_knows set.limits set.choice w.now n known call w.broker own.knows names few;
        takes = all_reading_max known (on_line n Out.wires) ∙ own.takes;
        given = omega (arith, low, up);
        apart = own.apart;
      }

  known_max : (o : Option ℕ) (wires : List (ℕ × Packet)) (known : AliasTable) → (known_by o wires known).max ≡ known.max
  known_max None wires known = refl
  known_max (Some n) wires known = all_reading_max known (on_line n wires)

-- a line that was given stays given
pub former_grows : (low high : ℕ) (most : ℕ → ℕ) (o : Option ℕ) (aliases : ℕ) → low ≤ high → IsItsFormer low most o aliases → IsItsFormer high most o aliases
former_grows low high most None aliases up h = tt
former_grows low high most (Some n) aliases up h = let first = h.0 in (omega (arith, first, up), h.1)

module _ (takes : List ℕ → ℕ) (most : ℕ → ℕ) (set : Setting) (call : Call) (w : World) (h : AreKnowing takes most w) (few : TakesAsEnds call w) where
  abbrev Told : Outcome
  Told = told set.limits set.choice w.now call w.broker

  abbrev New : World
  New = calls set call w

  abbrev Was : End → Type 0
  Was = IsKnowing w.broker w.strangers takes most

  both : OnEachEnd (λ e. Was e × IsAsked call e) w.publishers w.receivers
  both = each_both Was (IsAsked call) w.publishers w.receivers h.ends few

  -- to all ends goes out what they understand
  pub all_understood : AllIsUnderstood (told set.limits set.choice w.now call w.broker) w.publishers w.receivers
  all_understood =
      each_end (λ e. Was e × IsAsked call e) (λ e. IsUnderstood Told.wires Told.outputs e.number e.known) w.publishers w.receivers
      (λ e k. understood set call w h.names w.strangers most e.number e.known k.0.line (subst (λ (m : ℕ). m < 2 ^ 16) (sym k.0.max) k.0.small) k.1) both

  up : w.broker.given ≤ New.broker.given
  up = given_grows set.limits set.choice w.now call w.broker h.lines

  grown : (o : Option ℕ) → WasGiven w.broker.given o → WasGiven New.broker.given o
  grown None k = tt
  grown (Some n) k = let more = up in omega (arith, k, more)

  each_stranger : (ss : List Stranger) → AllByRecursion (λ (s : Stranger). WasGiven w.broker.given s.number) ss → AllByRecursion (λ (s : Stranger). WasGiven New.broker.given s.number) ss
  each_stranger [] k = tt
  each_stranger (s ∷ ss) k = (grown s.number k.0, each_stranger ss k.1)

  end_called : (e : End) → Was e × IsAsked call e → IsKnowing New.broker w.strangers takes most (end_told Told e)
  end_called e k = record {
    named = k.0.named;
    max = known_max set call w h.names e.number Told.wires e.known ∙ k.0.max;
    small = k.0.small;
    line = line_called set call w h.names w.strangers most e.number e.known up k.0.line k.1;
    former = former_grows w.broker.given New.broker.given most e.old_number e.aliases up k.0.former;
  }

  -- and they know what they are told
  pub called : AreKnowing takes most (calls set call w)
  called = record {
    ends = each_told (λ e. Was e × IsAsked call e) (IsKnowing New.broker w.strangers takes most) New.broker Told w.publishers w.receivers end_called both;
    strangers = each_stranger w.strangers h.strangers;
    lines = stays_numbered set.limits set.choice w.now call w.broker h.lines;
    unused = λ n less.
        let more = up in
        let above : w.broker.given < n = omega (arith, less, more) in
        unused_after set.limits set.choice w.now call w.broker h.lines n above (h.unused n above);
    names = step_named set.limits set.choice w.now call w.broker h.names;
  }

-- to all ends goes out what they understand
pub meant_out : (set : Setting) (call : Call) (w : World) → HasKnowingEnds w → TakesAsEnds call w → AllIsUnderstood (told set.limits set.choice w.now call w.broker) w.publishers w.receivers
meant_out set call w h few = all_understood h.takes h.most set call w h.so few

-- and they know what they are told
pub knowing_called : (set : Setting) (call : Call) (w : World) → HasKnowingEnds w → TakesAsEnds call w → HasKnowingEnds (calls set call w)
knowing_called set call w h few = record { takes = h.takes; most = h.most; so = called h.takes h.most set call w h.so few }
