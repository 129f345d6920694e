use Rattle.std.proofs.Common.{◌∙◌, List, Option, ℕ, IfNone, IfSome, codes, refl, subst}
use Rattle.clap.specs.Words.{found_of}
use Rattle.clap.proofs.WalkLemmas.{first_value-rows}
use Rattle.mqtt_cli.specs.command.Line.{IsCommitGiven}
use Rattle.mqtt_link.specs.declared.commit.Commit.{Commit}
use Rattle.mqtt_link.specs.declared.commit.Commit.TheVariants.{Turn}
use Rattle.mqtt_cli.proofs.command.words.commit_in.Goals as goal

pub returns-in-Some-clause-read : goal.returns-in-Some-clause-read
returns-in-Some-clause-read c =
    subst (λ (value : Option (List ℕ)). IfSome c.commit_read.result (λ commit. IsCommitGiven value commit))
    (c.in-Some.ensures ∙ first_value-rows (found_of c.args.matches.now) (codes "commit")) c.commit_read.ensures.read

pub returns-in-Some-clause-only : goal.returns-in-Some-clause-only
returns-in-Some-clause-only c =
    subst (λ (value : Option (List ℕ)). IfNone c.commit_read.result ((commit : Commit) → ¬ (IsCommitGiven value commit)))
    (c.in-Some.ensures ∙ first_value-rows (found_of c.args.matches.now) (codes "commit")) c.commit_read.ensures.only

pub returns-in-None-clause-read : goal.returns-in-None-clause-read
returns-in-None-clause-read c =
    subst (λ (value : Option (List ℕ)). IsCommitGiven value Turn)
    (c.in-None.ensures ∙ first_value-rows (found_of c.args.matches.now) (codes "commit")) refl
