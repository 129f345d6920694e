-- Whatever the schema, the question for it writes nothing.
use Rattle.std.proofs.Common.{◌≡◌, if◌then◌else◌, ℕ, true, false, List, Option, None, Result, Ok, Err, refl, subst}
use Rattle.sqlite_ast.specs.declared.Select.{Select}
use Rattle.sqlite_ast.specs.declared.Statement.TheVariants as written
use Rattle.sqlite_syntax.specs.declared.statement.Parsed.{Parsed}
use Rattle.sqlite_schema.specs.declared.command.Returning.{Returning}
use Rattle.sqlite_schema.specs.declared.schema.Schema.{Schema}
use Rattle.sqlite_schema.specs.declared.command.Command.{Command}
use Rattle.sqlite_resolve.specs.declared.compiled.Compiled.{Compiled}
use Rattle.sqlite_resolve.specs.declared.error.CompileError.{CompileError}
use Rattle.sqlite_resolve.specs.declared.error.CompileError.TheVariants.{NoSuchTable}
use Rattle.sqlite_resolve.specs.Lowering.{Checked, and_then}
use Rattle.sqlite_resolve.specs.Compile.{compiled, first, planned, meaning, returning, timed, command, with_command}
use Rattle.sqlite.specs.Listing.{understood, reads_listing, if_select, is_select, listing_schema}
use Rattle.sqlite_tied.specs.Compute.{everything}
use Rattle.mqtt_store_tables.specs.forms.Asking.{ask_text}

-- it may be a command, and shows nothing of what that writes
abbrev pub ShowsOnly : Result Compiled CompileError → Type 0
ShowsOnly (Ok c) = c.returning ≡ None
ShowsOnly (Err e) = Unit {0}

-- the text is a SELECT
abbrev pub IsSelect : Checked Parsed → Type 0
IsSelect (Ok p) = (s : Select) × (p.statement ≡ written.Select s)
IsSelect (Err e) = ⊥

abbrev Shows : Checked (Command × Option Returning) → Type 0
Shows (Ok found) = found.1 ≡ None
Shows (Err e) = Unit {0}

-- what is made of a SELECT has no RETURNING
none_shown : (schema : Schema) (p : Parsed) (base : ℕ) (s : Select) → p.statement ≡ written.Select s
    → (r : Checked (Command × Option Returning)) → meaning schema p base ≡ r → Shows r
unfolding meaning returning
none_shown schema p base s is r h = go (command schema p.formats base (written.Select s)) (rw is at h)
  where
    go : (c : Checked Command) → and_then c (λ k. Ok (k, None)) ≡ r → Shows r
    go (Ok k) e = subst Shows e refl
    go (Err fault) e = subst Shows e tt

select_shows : (schema : Schema) (text : List ℕ) (r : Checked Parsed) → first text ≡ r → IsSelect r → ShowsOnly (compiled schema text)
unfolding compiled planned
select_shows schema text (Err e) is h = absurd h
select_shows schema text (Ok p) is h = rw is (go (meaning schema p _) (none_shown schema p _ h.0 h.1 _ refl))
  where
    go : (m : Checked (Command × Option Returning)) → Shows m → ShowsOnly (and_then (and_then m (λ found. Ok (timed schema p.formats p.statement, found))) (λ plan. Ok (with_command p plan)))
    go (Ok m) h = h
    go (Err fault) h = tt

if_select_shows : (r : Checked Compiled) → ShowsOnly r → ShowsOnly (if_select r)
if_select_shows (Err e) h = tt
if_select_shows (Ok c) h = elim (is_select c.command) as (λ b. ShowsOnly (if b then Ok c else Err NoSuchTable)) [ true ↦ h | false ↦ tt ]

-- whatever the schema, the text of a SELECT shows nothing of what a command writes
pub text_shows : (schema : Schema) (text : List ℕ) → IsSelect (first text) → ShowsOnly (understood schema text)
unfolding understood
text_shows schema text is =
    let here = select_shows schema text _ refl is in
    let other = if_select_shows _ (select_shows listing_schema text _ refl is) in
    elim (reads_listing schema text) as (λ b. ShowsOnly (if b then if_select (compiled listing_schema text) else compiled schema text)) [ true ↦ other | false ↦ here ]

ask_is_select : IsSelect (first ask_text)
unfolding everything
ask_is_select = (_, refl)

-- whatever the schema, the question for it shows nothing of what a command writes
pub ask_shows : (schema : Schema) → ShowsOnly (understood schema ask_text)
ask_shows schema = text_shows schema ask_text ask_is_select
