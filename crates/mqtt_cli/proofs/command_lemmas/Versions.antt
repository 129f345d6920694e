-- A call for the version.
use Rattle.std.proofs.Common.{◌≡◌, ◌∙◌, true, ap, sym, List, [], ◌∷◌, subst, inl, inr}
use Rattle.clap.specs.Words.{App, HasKind, IsAmong, Kinds, Text, fault_of, is_simple_and_free, kind_of}
use Rattle.clap.specs.declared.error.Error.{Error}
use Rattle.clap.specs.declared.error.kind.ErrorKind.{ErrorKind}
use Rattle.clap.specs.declared.error.kind.ErrorKind.TheVariants.{DisplayVersion, OutOfMemory}
use Rattle.mqtt_cli.specs.command.Line.{AskForVersion, AskForVersionAlone, program_app}

-- words that are a lawful command line are no call for the version
pub no_version : (app : App) (words : List Text) → app ≡ program_app → (is_simple_and_free app ≡ true → fault_of app words ≡ [])
    → ¬ (AskForVersionAlone words)
no_version app words is lawful alone =
    let none : fault_of program_app words ≡ [] = ap (λ a. fault_of a words) (sym is) ∙ lawful (ap is_simple_and_free is) in
    cc (sym none ∙ alone)

-- words that are refused as a call for the version are one
pub is_version : (app : App) (words : List Text) (e : Error) → app ≡ program_app
    → (is_simple_and_free app ≡ true → HasKind (fault_of app words) e) → kind_of e ≡ DisplayVersion → AskForVersion words
is_version app words e is fails kind =
    let has : HasKind (fault_of program_app words) e =
    subst (λ (a : App). HasKind (fault_of a words) e) is (fails (ap is_simple_and_free is)) in
    elim has [
      | inl out ↦ cc (sym kind ∙ out)
      | inr among ↦ subst (λ (k : ErrorKind). IsAmong k (fault_of program_app words)) kind among
    ]

-- and words that are nothing else are refused as one, unless memory is wanting
pub version_kind : (app : App) (words : List Text) (e : Error) → app ≡ program_app
    → (is_simple_and_free app ≡ true → HasKind (fault_of app words) e) → AskForVersionAlone words → (kind_of e ≡ OutOfMemory → ⊥)
    → kind_of e ≡ DisplayVersion
version_kind app words e is fails alone other =
    let has : HasKind (fault_of program_app words) e =
    subst (λ (a : App). HasKind (fault_of a words) e) is (fails (ap is_simple_and_free is)) in
    let one : HasKind (DisplayVersion ∷ []) e = subst (λ (kinds : Kinds). HasKind kinds e) alone has in
    elim one [
      | inl out ↦ absurd (other out)
      | inr among ↦ elim among [ inl found ↦ found | inr none ↦ absurd none ]
    ]
