use Rattle.std.proofs.Common.{◌∙◌, List, Option, ℕ, IfNone, IfSome, codes, refl, subst}
use Rattle.clap.specs.Words.{found_of}
use Rattle.clap.proofs.WalkLemmas.{first_value-rows}
use Rattle.mqtt_cli.specs.command.Limits.{IsFullGiven}
use Rattle.mqtt_flow.specs.declared.outbound.entry.Full.{Full}
use Rattle.mqtt_flow.specs.declared.outbound.entry.Full.TheVariants.{Refuse}
use Rattle.mqtt_cli.proofs.command.limits.full_in.Goals as goal

pub returns-in-Some-clause-read : goal.returns-in-Some-clause-read
returns-in-Some-clause-read c =
    subst (λ (value : Option (List ℕ)). IfSome c.full_read.result (λ full. IsFullGiven value full))
    (c.in-Some.ensures ∙ first_value-rows (found_of c.args.matches.now) (codes "full")) c.full_read.ensures.read

pub returns-in-Some-clause-only : goal.returns-in-Some-clause-only
returns-in-Some-clause-only c =
    subst (λ (value : Option (List ℕ)). IfNone c.full_read.result ((full : Full) → ¬ (IsFullGiven value full)))
    (c.in-Some.ensures ∙ first_value-rows (found_of c.args.matches.now) (codes "full")) c.full_read.ensures.only

pub returns-in-None-clause-read : goal.returns-in-None-clause-read
returns-in-None-clause-read c =
    subst (λ (value : Option (List ℕ)). IsFullGiven value Refuse)
    (c.in-None.ensures ∙ first_value-rows (found_of c.args.matches.now) (codes "full")) refl
