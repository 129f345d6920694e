use Rattle.std.proofs.Common.{◌∙◌, List, Option, ℕ, IfNone, IfSome, refl, subst}
use Rattle.clap.specs.Words.{found_of}
use Rattle.clap.proofs.WalkLemmas.{first_value-rows}
use Rattle.mqtt_cli.specs.command.Limits.{IsSizeGiven}
use Rattle.mqtt_cli.proofs.command.limits.size_in.Goals as goal

pub returns-in-Some-clause-read : goal.returns-in-Some-clause-read
returns-in-Some-clause-read c =
    subst (λ (value : Option (List ℕ)). IfSome c.size_read.result (λ size. IsSizeGiven c.args.unasked c.args.most value size))
    (c.in-Some.ensures ∙ first_value-rows (found_of c.args.matches.now) c.args.name.now) c.size_read.ensures.read

pub returns-in-Some-clause-only : goal.returns-in-Some-clause-only
returns-in-Some-clause-only c =
    subst (λ (value : Option (List ℕ)). IfNone c.size_read.result ((size : ℕ) → ¬ (IsSizeGiven c.args.unasked c.args.most value size)))
    (c.in-Some.ensures ∙ first_value-rows (found_of c.args.matches.now) c.args.name.now) c.size_read.ensures.only

pub returns-in-None-clause-read : goal.returns-in-None-clause-read
returns-in-None-clause-read c =
    subst (λ (value : Option (List ℕ)). IsSizeGiven c.args.unasked c.args.most value c.args.unasked)
    (c.in-None.ensures ∙ first_value-rows (found_of c.args.matches.now) c.args.name.now) refl
