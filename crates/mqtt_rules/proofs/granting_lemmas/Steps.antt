-- Each step and each opening names its topics, and so grants what the law of what goes out asks.
use Rattle.mqtt_records.specs.declared.state.change.Change.{Change}
use Rattle.mqtt_records.specs.declared.state.records.Records.{Records}
use Rattle.mqtt_records.specs.declared.state.session.Session.{Session}
use Rattle.mqtt_records.specs.messages.PassedOn.{IsPassedOn}
use Rattle.mqtt_records.specs.messages.Queue.{CopyRow}
use Rattle.mqtt_records.specs.declared.messages.message.RetainedMessage.{RetainedMessage}
use Rattle.mqtt_records.specs.declared.messages.message.Will.{Will}
use Rattle.mqtt_rules.specs.step.Contents.{HasContents, HasLawfulContents, IsCopied, IsPublished, IsWilled}
use Rattle.mqtt_rules.specs.step.Deeds.{after_all, rows_of_all, wires}
use Rattle.mqtt_rules.specs.step.State.{Broker, MemberChoice, told_on}
use Rattle.mqtt_rules.specs.step.Step.{Call, at_moment, deeds, env_of, opened, opening_deeds, stepped, told, unopened, with_moment}
use Rattle.mqtt_rules.specs.declared.step.Capacity.{Capacity}
use Rattle.mqtt_rules.proofs.granting_lemmas.Acts.{call_names, opening_names}
use Rattle.mqtt_rules.proofs.granting_lemmas.Blocks.{passed_is_unaliased}
use Rattle.mqtt_rules.proofs.granting_lemmas.Deeds.{AllName, kept_all, sends_topics, sends_users}
use Rattle.mqtt_rules.proofs.granting_lemmas.Grants.{call_grants, grants_none, grants_within_most, opening_grants}
use Rattle.mqtt_rules.specs.granting.Granting.{TakesWithin}
use Rattle.mqtt_rules.specs.granting.Naming.{HasNamed, IsNamed, IsNamedWill, NamesTopics, SendsUsersLast, StoresNamed}
use Rattle.mqtt_records.specs.state.PassedOn.{StoresPassedOn}
use Rattle.mqtt_rules.proofs.telling_lemmas.Deeds.{knows, means}
use Rattle.mqtt_rules.specs.telling.Meaning.{AllMean, GrantsNone, GrantsWithin, Knows, SendsItsTopic, after_reading_all, on_line}
use Rattle.mqtt_topic.specs.names.Aliases.{AliasTable}
use Rattle.std.proofs.Common.{List, None, Option, Some, [], refl, subst, sym, ℕ, ◌∷◌, ◌≡◌}
use Rattle.std.specs.List.{AllByRecursion}

-- ---- what lawful records store, if it was passed on

copies_named : (es : List CopyRow) → AllByRecursion (λ (e : CopyRow). IsCopied e.copy) es → AllByRecursion (λ (e : CopyRow). IsPassedOn e.copy.content.properties) es
    → AllByRecursion (λ (e : CopyRow). IsNamed e.copy.content) es
copies_named [] h p = tt
copies_named (e ∷ es) h p =
    (record { name = h.0.content.named.name; unaliased = passed_is_unaliased e.copy.content.properties p.0 }, copies_named es h.1 p.1)

will_name : (o : Option Will) → IsWilled o → IsNamedWill o
will_name None h = tt
will_name (Some will) h = h.named.name

sessions_named : (ss : List Session) → AllByRecursion HasContents ss → AllByRecursion (λ (s : Session). AllByRecursion (λ (e : CopyRow). IsPassedOn e.copy.content.properties) s.queue) ss
    → AllByRecursion HasNamed ss
sessions_named [] h p = tt
sessions_named (s ∷ ss) h p = (record { will = will_name s.will h.0.will; queue = copies_named s.queue h.0.queue p.0 }, sessions_named ss h.1 p.1)

retained_named : (ks : List RetainedMessage) → AllByRecursion (λ (k : RetainedMessage). IsPublished k.content) ks → AllByRecursion (λ (k : RetainedMessage). IsPassedOn k.content.properties) ks
    → AllByRecursion (λ (k : RetainedMessage). IsNamed k.content) ks
retained_named [] h p = tt
retained_named (k ∷ ks) h p =
    (record { name = h.0.named.name; unaliased = passed_is_unaliased k.content.properties p.0 }, retained_named ks h.1 p.1)

-- lawful contents whose properties were passed on name their topics
pub stored_named : (r : Records) → HasLawfulContents r → StoresPassedOn r → StoresNamed r
stored_named r h p = record { sessions = sessions_named r.sessions h.sessions p.sessions; retained = retained_named r.retained h.retained p.retained }

-- ---- steps and openings

moment_named : (rows : List Change) (b : Broker) → NamesTopics b → NamesTopics (with_moment rows b)
moment_named [] b h = h
moment_named (row ∷ rows) b h = record { stored = record { sessions = h.stored.sessions; retained = h.stored.retained }; lines = h.lines }

moment_tellings : (rows : List Change) (b : Broker) → (with_moment rows b).tellings ≡ b.tellings
moment_tellings [] b = refl
moment_tellings (row ∷ rows) b = refl

later_named : (now : ℕ) (b : Broker) → NamesTopics b → NamesTopics (at_moment now b)
later_named now b h = record { stored = h.stored; lines = h.lines }

module _ (limits : Capacity) (choice : MemberChoice) (now : ℕ) where
  step_names : (call : Call) (b : Broker) → NamesTopics b → AllName (deeds limits choice now call b)
  step_names call b h = call_names (env_of limits choice b) call (at_moment now b) (later_named now b h)

  -- a step sends each PUBLISH with its topic
  pub step_topics : (call : Call) (b : Broker) → NamesTopics b → AllByRecursion SendsItsTopic (deeds limits choice now call b)
  step_topics call b h = sends_topics (deeds limits choice now call b) (step_names call b h)

  -- and with its User Properties last
  pub step_users : (call : Call) (b : Broker) → NamesTopics b → AllByRecursion SendsUsersLast (deeds limits choice now call b)
  step_users call b h = sends_users (deeds limits choice now call b) (step_names call b h)

  -- and grants a client no more aliases than it takes
  pub step_grants : (n most : ℕ) (call : Call) (b : Broker) → NamesTopics b → TakesWithin n most call → GrantsWithin n most (deeds limits choice now call b)
  step_grants n most call b h takes =
      grants_within_most n most (deeds limits choice now call b) (at_moment now b) (step_names call b h) (call_grants n most (env_of limits choice b) call (at_moment now b) takes)

  -- and none, if it takes none
  pub step_grants_none : (n : ℕ) (call : Call) (b : Broker) → TakesWithin n 0 call → GrantsNone n (deeds limits choice now call b)
  step_grants_none n call b takes = grants_none n (deeds limits choice now call b) (at_moment now b) (call_grants n 0 (env_of limits choice b) call (at_moment now b) takes)

  -- nor does an opening
  pub opening_grants_none : (n : ℕ) (r : Records) → GrantsNone n (opening_deeds limits choice now r)
  opening_grants_none n r = let c = unopened now r in grants_none n (opening_deeds limits choice now r) c (opening_grants n 0 (env_of limits choice c) c)

  -- all topics are named still behind a step
  pub step_named : (call : Call) (b : Broker) → NamesTopics b → NamesTopics (stepped limits choice now call b)
  step_named call b h =
      let c = at_moment now b in
      let ds = deeds limits choice now call b in
      moment_named (rows_of_all ds c.records) (after_all ds c) (kept_all ds c (later_named now b h) (step_names call b h))

  -- and behind an opening
  pub opening_named : (r : Records) → StoresNamed r → NamesTopics (opened limits choice now r)
  opening_named r h =
      let c = unopened now r in
      let ds = opening_deeds limits choice now r in
      let first : NamesTopics c = record { stored = record { sessions = h.sessions; retained = h.retained }; lines = tt } in
      moment_named (rows_of_all ds c.records) (after_all ds c) (kept_all ds c first (opening_names (env_of limits choice c) c first))

  -- ---- what goes out by a step

  -- means what was meant
  pub step_means : (n : ℕ) (table : AliasTable) (call : Call) (b : Broker) → Knows table (told_on n b.tellings) → NamesTopics b → TakesWithin n table.max call
      → AllMean table (on_line n (told limits choice now call b).wires) (on_line n (told limits choice now call b).outputs)
  step_means n table call b knows_told h takes = means n table (deeds limits choice now call b) (at_moment now b) knows_told (step_grants n table.max call b h takes)

  -- and the client knows what it was told by then
  pub step_knows : (n : ℕ) (table : AliasTable) (call : Call) (b : Broker) → Knows table (told_on n b.tellings) → NamesTopics b → TakesWithin n table.max call
      → Knows (after_reading_all table (on_line n (told limits choice now call b).wires)) (told_on n (stepped limits choice now call b).tellings)
  step_knows n table call b knows_told h takes =
      let c = at_moment now b in
      let ds = deeds limits choice now call b in
      let read = after_reading_all table (on_line n (wires ds c)) in
      subst (λ ts. Knows read (told_on n ts)) (sym (moment_tellings (rows_of_all ds c.records) (after_all ds c)))
      (knows n table ds c knows_told (step_grants n table.max call b h takes))
