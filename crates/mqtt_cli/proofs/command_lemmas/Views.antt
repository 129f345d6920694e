-- What a view writes, the report on the vectors is not.
use Rattle.std.proofs.Common.{◌≡◌, ◌∙◌, ℕ, Bool, true, false, if◌then◌else◌, refl, sym, List, Option, None, Some, codes}
use Rattle.std.proofs.lemmas.Slice.Eq.{bytes_eq-Decides}
use Rattle.std.specs.Str.{bytes_eq}
use Rattle.clap.specs.Words.{Row, Text}
use Rattle.mqtt_cli.specs.command.Line.{file_in, is_vectors, rows_in}
use Rattle.mqtt_cli.specs.command.Running.{IsOfView, Writes}
use Rattle.mqtt_cli.specs.declared.command.outcome.Outcome.{Outcome}
use Rattle.mqtt_cli.specs.declared.command.outcome.Outcome.TheVariants.{Done, Line, Unwritten, NoFile, View, Vectors, Replayed, Replay, Served, Serve}

-- a command that views a file isn't `vectors`
no_vectors : (command : Option (Text × List Row)) (file : Text) → file_in (rows_in command) ≡ Some file → is_vectors command ≡ true → ⊥
no_vectors None file is vectors = cc is
no_vectors (Some command) file is vectors = go _ (bytes_eq-Decides command.0 (codes "view")).0 (bytes_eq-Decides command.0 (codes "vectors")).0 is
  where
    go : (b : Bool) → (b ≡ true → command.0 ≡ codes "view") → (bytes_eq command.0 (codes "vectors") ≡ true → command.0 ≡ codes "vectors")
        → file_in (if b then Some command.1 else None) ≡ Some file → ⊥
    go true view other e = cc (sym (view refl) ∙ other vectors)
    go false view other e = cc e

-- so a view writes what it writes
pub view_writes : (command : Option (Text × List Row)) (old new : Option (List ℕ)) (outcome : Outcome) (file : Text)
    → file_in (rows_in command) ≡ Some file → IsOfView outcome → Writes command old new outcome
view_writes command old new (Done status) file is view = λ vectors. absurd (no_vectors command file is vectors)
view_writes command old new (View fault) file is view = tt
view_writes command old new (Line fault) file is view = absurd view
view_writes command old new Unwritten file is view = absurd view
view_writes command old new NoFile file is view = absurd view
view_writes command old new (Vectors fault) file is view = absurd view
view_writes command old new (Replayed played) file is view = absurd view
view_writes command old new (Replay fault) file is view = absurd view
view_writes command old new Served file is view = absurd view
view_writes command old new (Serve fault) file is view = absurd view
