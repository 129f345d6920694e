use Rattle.std.proofs.lemmas.Result.{IfErr-weaker, IfOk-weaker}
use Rattle.std.proofs.Common.{None, Some}
use Rattle.mqtt_cli.proofs.command_lemmas.Commands.{refused_ask, words_ask}
use Rattle.mqtt_cli.proofs.command_lemmas.Versions.{is_version, no_version, version_kind}
use Rattle.mqtt_cli.proofs.command.words.action.Goals as goal

pub returns-in-Ok-clause-ok : goal.returns-in-Ok-clause-ok
returns-in-Ok-clause-ok g c =
    IfOk-weaker c.asked.result _ _
    (λ action asks. words_ask _ _ c.in-Ok.matches (Some action) c.in_ok-program.ensures c.in-Ok.ensures.kinds c.in-Ok.ensures.matches asks)
    c.asked.ensures.ok

pub returns-in-Ok-clause-usage : goal.returns-in-Ok-clause-usage
returns-in-Ok-clause-usage g c =
    IfErr-weaker c.asked.result _ _
    (λ fault asks is_usage. words_ask _ _ c.in-Ok.matches None c.in_ok-program.ensures c.in-Ok.ensures.kinds c.in-Ok.ensures.matches (asks is_usage))
    c.asked.ensures.usage

pub returns-in-Err-clause-usage : goal.returns-in-Err-clause-usage
returns-in-Err-clause-usage g c = λ is_usage.
    refused_ask _ _ c.in-Err.error c.in_ok-program.ensures c.in-Err.ensures.kinds (λ out. is_usage (c.line_fault.ensures.memory out))

pub returns-in-Ok-clause-version : goal.returns-in-Ok-clause-version
returns-in-Ok-clause-version g c = IfErr-weaker c.asked.result _ _ (λ fault other is. absurd (other is)) c.asked.ensures.other

pub returns-in-Ok-clause-only : goal.returns-in-Ok-clause-only
returns-in-Ok-clause-only g c =
    IfErr-weaker c.asked.result _ _
    (λ fault other not_memory not_version. no_version _ _ c.in_ok-program.ensures c.in-Ok.ensures.kinds) c.asked.ensures.other

pub returns-in-Err-clause-version : goal.returns-in-Err-clause-version
returns-in-Err-clause-version g c = λ is.
    is_version _ _ c.in-Err.error c.in_ok-program.ensures c.in-Err.ensures.kinds (c.line_fault.ensures.version is)

pub returns-in-Err-clause-only : goal.returns-in-Err-clause-only
returns-in-Err-clause-only g c = λ not_memory not_version alone.
    not_version (c.line_fault.ensures.only (version_kind _ _ c.in-Err.error c.in_ok-program.ensures c.in-Err.ensures.kinds alone
    (λ out. not_memory (c.line_fault.ensures.memory out))))
