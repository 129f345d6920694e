-- The subcommand of a command line, and what it asks for.
use Rattle.std.proofs.Common.{◌≡◌, ◌∙◌, ℕ, Bool, true, false, not, if◌then◌else◌, ap, sym, refl, List, [], ◌∷◌, Option, None, Some, codes, unwrap_or, option_map, subst, inl, inr, rules}
use Rattle.std.specs.Str.{bytes_eq}
use Rattle.std.specs.declared.net.socket_addr.SocketAddrV4.{SocketAddrV4}
use Rattle.clap.specs.Walk.{is_empty}
use Rattle.clap.specs.Words.{App, HasKind, HasMatchesOf, Kinds, Row, Text, fault_of, kind_of, is_simple, is_simple_and_free, rows_of, subcommand_name_of, subcommand_of, subcommand_rows_of}
use Rattle.clap.specs.declared.error.Error.{Error}
use Rattle.clap.specs.declared.error.kind.ErrorKind.TheVariants.{OutOfMemory}
use Rattle.clap.specs.declared.parser.matches.ArgMatches.{ArgMatches}
use Rattle.clap.specs.declared.parser.matches.ArgMatches.TheViews.{out-ArgMatches}
use Rattle.clap.specs.declared.parser.matches.Found.{Found}
use Rattle.mqtt_cli.specs.command.Limits.{AsksForCapacity, AsksForLimits}
use Rattle.mqtt_cli.specs.command.Line.{AskFor, AskToReplay, AskToServe, AsksNoReplay, AsksNoServer, AsksToReplay, AsksToServe, IsCommitGiven, command_of, file_in, is_vectors, program_app, replay_rows_in, rows_in, serve_rows_in}
use Rattle.mqtt_cli.specs.command.Values.{IsAddress, IsCount, value_in}
use Rattle.mqtt_cli.specs.declared.command.line.Action.{Action}
use Rattle.mqtt_cli.specs.declared.command.line.Action.TheVariants.{View, Replay, Vectors, Serve}
use Rattle.mqtt_link.specs.declared.commit.Commit.{Commit}
use Rattle.mqtt_rules.specs.declared.step.Capacity.{Capacity}
use Rattle.mqtt_rules.specs.declared.step.Limits.{Limits}

-- a pair that may be there, by its parts
both_parts : {X : Type 0} (f : X → Text × List Row) (o : Option X) (name : Text) (rows : List Row)
    → Some name ≡ option_map (λ x. (f x).0) o → Some rows ≡ option_map (λ p. p.1) (option_map f o) → option_map f o ≡ Some (name, rows)
both_parts f None name rows named with_rows = cc
both_parts f (Some x) name rows named with_rows =
    let name_is : name ≡ (f x).0 = ap (λ o. unwrap_or o name) named in
    let rows_are : rows ≡ (f x).1 = ap (λ o. unwrap_or o rows) with_rows in
    rw (name_is, rows_are) refl

view_rows_of : (name : Text) (rows : List Row) → false ≡ not (bytes_eq name (codes "view")) → rows_in (Some (name, rows)) ≡ Some rows
view_rows_of name rows is_view = go (bytes_eq name (codes "view")) is_view
  where
    go : (b : Bool) → false ≡ not b → (if b then Some rows else None) ≡ Some rows
    go true e = refl
    go false e = cc

no_rows_of : (name : Text) (rows : List Row) → true ≡ not (bytes_eq name (codes "view")) → rows_in (Some (name, rows)) ≡ None
no_rows_of name rows is_other = go (bytes_eq name (codes "view")) is_other
  where
    go : (b : Bool) → true ≡ not b → (if b then Some rows else None) ≡ None
    go true e = cc
    go false e = refl

-- the subcommand that was met
pub met_command : (m : ArgMatches) (name : Text) (found : Found) → Some name ≡ subcommand_name_of m
    → Some (rows_of found) ≡ option_map (λ p. p.1) (subcommand_rows_of m)
    → subcommand_rows_of m ≡ Some (name, rows_of found)
met_command m name found named with_rows = both_parts _ (out-ArgMatches m).subcommand name (rows_of found) named with_rows

-- the matches of `view`, if that is the subcommand that was met
pub rows_in-view : (m : ArgMatches) (name : Text) (found : Found) → Some name ≡ subcommand_name_of m
    → Some (rows_of found) ≡ option_map (λ p. p.1) (subcommand_rows_of m) → false ≡ not (bytes_eq name (codes "view"))
    → rows_in (subcommand_rows_of m) ≡ Some (rows_of found)
rows_in-view m name found named with_rows is_view =
    ap rows_in (met_command m name found named with_rows) ∙ view_rows_of name (rows_of found) is_view

-- none, if that is another
pub rows_in-other : (m : ArgMatches) (name : Text) (found : Found) → Some name ≡ subcommand_name_of m
    → Some (rows_of found) ≡ option_map (λ p. p.1) (subcommand_rows_of m) → true ≡ not (bytes_eq name (codes "view"))
    → rows_in (subcommand_rows_of m) ≡ None
rows_in-other m name found named with_rows is_other =
    ap rows_in (met_command m name found named with_rows) ∙ no_rows_of name (rows_of found) is_other

serve_rows_of : (name : Text) (rows : List Row) → true ≡ bytes_eq name (codes "serve") → serve_rows_in (Some (name, rows)) ≡ Some rows
serve_rows_of name rows is_serve = go (bytes_eq name (codes "serve")) is_serve
  where
    go : (b : Bool) → true ≡ b → (if b then Some rows else None) ≡ Some rows
    go true e = refl
    go false e = cc

-- the matches of `serve`, if that is the subcommand that was met
pub rows_in-serve : (m : ArgMatches) (name : Text) (found : Found) → Some name ≡ subcommand_name_of m
    → Some (rows_of found) ≡ option_map (λ p. p.1) (subcommand_rows_of m) → true ≡ bytes_eq name (codes "serve")
    → serve_rows_in (subcommand_rows_of m) ≡ Some (rows_of found)
rows_in-serve m name found named with_rows is_serve =
    ap serve_rows_in (met_command m name found named with_rows) ∙ serve_rows_of name (rows_of found) is_serve

no_rows_of_serve : (name : Text) (rows : List Row) → false ≡ bytes_eq name (codes "serve") → serve_rows_in (Some (name, rows)) ≡ None
no_rows_of_serve name rows is_other = go (bytes_eq name (codes "serve")) is_other
  where
    go : (b : Bool) → false ≡ b → (if b then Some rows else None) ≡ None
    go true e = cc
    go false e = refl

-- none, if that is another
pub serve_rows_in-other : (m : ArgMatches) (name : Text) (found : Found) → Some name ≡ subcommand_name_of m
    → Some (rows_of found) ≡ option_map (λ p. p.1) (subcommand_rows_of m) → false ≡ bytes_eq name (codes "serve")
    → serve_rows_in (subcommand_rows_of m) ≡ None
serve_rows_in-other m name found named with_rows is_other =
    ap serve_rows_in (met_command m name found named with_rows) ∙ no_rows_of_serve name (rows_of found) is_other

replay_rows_of : (name : Text) (rows : List Row) → true ≡ bytes_eq name (codes "replay") → replay_rows_in (Some (name, rows)) ≡ Some rows
replay_rows_of name rows is_replay = go (bytes_eq name (codes "replay")) is_replay
  where
    go : (b : Bool) → true ≡ b → (if b then Some rows else None) ≡ Some rows
    go true e = refl
    go false e = cc

-- the matches of `replay`, if that is the subcommand that was met
pub replay_rows_in-met : (m : ArgMatches) (name : Text) (found : Found) → Some name ≡ subcommand_name_of m
    → Some (rows_of found) ≡ option_map (λ p. p.1) (subcommand_rows_of m) → true ≡ bytes_eq name (codes "replay")
    → replay_rows_in (subcommand_rows_of m) ≡ Some (rows_of found)
replay_rows_in-met m name found named with_rows is_replay =
    ap replay_rows_in (met_command m name found named with_rows) ∙ replay_rows_of name (rows_of found) is_replay

no_rows_of_replay : (name : Text) (rows : List Row) → false ≡ bytes_eq name (codes "replay") → replay_rows_in (Some (name, rows)) ≡ None
no_rows_of_replay name rows is_other = go (bytes_eq name (codes "replay")) is_other
  where
    go : (b : Bool) → false ≡ b → (if b then Some rows else None) ≡ None
    go true e = cc
    go false e = refl

-- none, if that is another
pub replay_rows_in-other : (m : ArgMatches) (name : Text) (found : Found) → Some name ≡ subcommand_name_of m
    → Some (rows_of found) ≡ option_map (λ p. p.1) (subcommand_rows_of m) → false ≡ bytes_eq name (codes "replay")
    → replay_rows_in (subcommand_rows_of m) ≡ None
replay_rows_in-other m name found named with_rows is_other =
    ap replay_rows_in (met_command m name found named with_rows) ∙ no_rows_of_replay name (rows_of found) is_other

-- matches that aren't there ask for no server
pub no_server : AsksNoServer None
no_server listen db turns limits commit log asks = cc asks.db_is

-- without an address, or with one that isn't of its form, no server is asked for
pub no_server-listen : (rows : Option (List Row)) → value_in (codes "listen") rows ≡ None → AsksNoServer rows
no_server-listen rows none listen db turns limits commit log asks = cc (sym none ∙ asks.listen_is)

-- an address that is none asks for no server
pub no_server-address : (rows : Option (List Row)) (text : Text) → value_in (codes "listen") rows ≡ Some text
    → ((address : SocketAddrV4) → ¬ (IsAddress text address)) → AsksNoServer rows
no_server-address rows text is none listen db turns limits commit log asks =
    none listen (subst (λ (t : Text). IsAddress t listen) (ap (λ o. unwrap_or o text) (sym asks.listen_is ∙ is)) asks.address)

-- without a database
pub no_server-db : (rows : Option (List Row)) → value_in (codes "db") rows ≡ None → AsksNoServer rows
no_server-db rows none listen db turns limits commit log asks = cc (sym none ∙ asks.db_is)

-- without a number of turns, or with one that isn't of its form
pub no_server-turns : (rows : Option (List Row)) → value_in (codes "turns") rows ≡ None → AsksNoServer rows
no_server-turns rows none listen db turns limits commit log asks = cc (sym none ∙ asks.turns_is)

-- nor does a count that is none
pub no_server-count : (rows : Option (List Row)) (text : Text) → value_in (codes "turns") rows ≡ Some text
    → ((count : ℕ) → ¬ (IsCount text count)) → AsksNoServer rows
no_server-count rows text is none listen db turns limits commit log asks =
    none turns (subst (λ (t : Text). IsCount t turns) (ap (λ o. unwrap_or o text) (sym asks.turns_is ∙ is)) asks.count)

-- or with limits and lines that there are none
pub no_server-limits : (rows : Option (List Row)) → ((limits : Capacity) → ¬ (AsksForCapacity rows limits)) → AsksNoServer rows
no_server-limits rows none listen db turns limits commit log asks = none limits asks.limits_are

-- or with a commit that is none
pub no_server-commit : (rows : Option (List Row)) → ((commit : Commit) → ¬ (IsCommitGiven (value_in (codes "commit") rows) commit))
    → AsksNoServer rows
no_server-commit rows none listen db turns limits commit log asks = none commit asks.commit_is

-- matches that aren't there ask for no replay
pub no_replay : AsksNoReplay None
no_replay file limits asks = cc asks.file_is

-- without FILE, or with limits that there are none, no replay is asked for
pub no_replay-file : (rows : Option (List Row)) → file_in rows ≡ None → AsksNoReplay rows
no_replay-file rows none file limits asks = cc (sym none ∙ asks.file_is)

-- limits that are none ask for no replay
pub no_replay-limits : (rows : Option (List Row)) → ((limits : Limits) → ¬ (AsksForLimits rows limits)) → AsksNoReplay rows
no_replay-limits rows none file limits asks = none limits asks.limits_are

-- so nothing is answered
pub asks_no_replay : (rows : List Row) (asked : Option Action) → asked ≡ None → AsksNoReplay (Some rows) → AskToReplay rows asked
asks_no_replay rows None is none = none
asks_no_replay rows (Some action) is none = cc

-- so nothing is answered
pub asks_no_server : (rows : List Row) (asked : Option Action) → asked ≡ None → AsksNoServer (Some rows) → AskToServe rows asked
asks_no_server rows None is none = none
asks_no_server rows (Some action) is none = cc

-- what lawful matches of `serve` ask for, the command does
pub asks_to_serve : (command : Option (Text × List Row)) (rows : List Row) (asked : Option Action)
    → serve_rows_in command ≡ Some rows → file_in (rows_in command) ≡ None → replay_rows_in command ≡ None
    → is_vectors command ≡ false → AskToServe rows asked → AskFor command asked
asks_to_serve command rows None is file script other asks =
    (file, subst AsksNoReplay (sym script) no_replay, other, subst AsksNoServer (sym is) asks)
asks_to_serve command rows (Some (Serve listen db turns limits commit log)) is file script other asks =
    subst (λ (r : Option (List Row)). AsksToServe r listen db.now turns limits commit log) (sym is) asks
asks_to_serve command rows (Some Vectors) is file script other asks = absurd asks
asks_to_serve command rows (Some (View path details)) is file script other asks = absurd asks
asks_to_serve command rows (Some (Replay path limits)) is file script other asks = absurd asks

-- and those of `replay`
pub asks_to_replay : (command : Option (Text × List Row)) (rows : List Row) (asked : Option Action)
    → replay_rows_in command ≡ Some rows → file_in (rows_in command) ≡ None → serve_rows_in command ≡ None
    → is_vectors command ≡ false → AskToReplay rows asked → AskFor command asked
asks_to_replay command rows None is file no_rows other asks =
    (file, subst AsksNoReplay (sym is) asks, other, subst AsksNoServer (sym no_rows) no_server)
asks_to_replay command rows (Some (Replay path limits)) is file no_rows other asks =
    subst (λ (r : Option (List Row)). AsksToReplay r path.now limits) (sym is) asks
asks_to_replay command rows (Some Vectors) is file no_rows other asks = absurd asks
asks_to_replay command rows (Some (View path details)) is file no_rows other asks = absurd asks
asks_to_replay command rows (Some (Serve listen db turns limits commit log)) is file no_rows other asks = absurd asks

-- whether it is `vectors`
pub is_vectors-met : (m : ArgMatches) (name : Text) (found : Found) (b : Bool) → Some name ≡ subcommand_name_of m
    → Some (rows_of found) ≡ option_map (λ p. p.1) (subcommand_rows_of m) → b ≡ bytes_eq name (codes "vectors")
    → is_vectors (subcommand_rows_of m) ≡ b
is_vectors-met m name found b named with_rows tested = ap is_vectors (met_command m name found named with_rows) ∙ sym tested

-- what lawful matches ask for, their words do
pub words_ask : (app : App) (words : List Text) (m : ArgMatches) (asked : Option Action) → app ≡ program_app
    → (is_simple_and_free app ≡ true → fault_of app words ≡ []) → HasMatchesOf app words m
    → AskFor (subcommand_rows_of m) asked → AskFor (command_of words) asked
words_ask app words m asked is lawful has asks =
    let no_fault : fault_of program_app words ≡ [] = ap (λ a. fault_of a words) (sym is) ∙ lawful (ap is_simple_and_free is) in
    let rows_are : subcommand_rows_of m ≡ subcommand_of program_app words = (has (ap is_simple is)).1 ∙ ap (λ a. subcommand_of a words) is in
    rw (no_fault, ← rows_are) asks

-- words that are refused, not for want of memory, ask for nothing
pub refused_ask : (app : App) (words : List Text) (e : Error) → app ≡ program_app
    → (is_simple_and_free app ≡ true → HasKind (fault_of app words) e) → (kind_of e ≡ OutOfMemory → ⊥)
    → AskFor (command_of words) None
refused_ask app words e is fails other =
    let has : HasKind (fault_of program_app words) e =
    subst (λ (a : App). HasKind (fault_of a words) e) is (fails (ap is_simple_and_free is)) in
    rw (go (fault_of program_app words) has) (refl, no_replay, refl, no_server)
  where
    go : (ks : Kinds) → HasKind ks e → is_empty ks ≡ false
    go [] h = elim h [ inl out ↦ absurd (other out) | inr wrong ↦ absurd wrong ]
    go (k ∷ ks) h = search rules

-- a command without FILE that is neither `vectors` nor `serve` asks for nothing
pub asks_nothing : (command : Option (Text × List Row)) (asked : Option Action) → asked ≡ None
    → file_in (rows_in command) ≡ None → replay_rows_in command ≡ None → is_vectors command ≡ false
    → serve_rows_in command ≡ None → AskFor command asked
asks_nothing command None is file script other no_rows =
    (file, subst AsksNoReplay (sym script) no_replay, other, subst AsksNoServer (sym no_rows) no_server)
asks_nothing command (Some action) is file script other no_rows = cc
