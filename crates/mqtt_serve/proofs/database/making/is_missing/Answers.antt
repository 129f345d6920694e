use Rattle.std.proofs.Common.{◌↔◌, false, IsTrue, subst}
use Rattle.sqlite_wal.specs.Files.{seen_image}
use Rattle.sqlite_pool.specs.Opening.{IsBlankFile}
use Rattle.sqlite_pool.specs.Stored.{used_size}
use Rattle.mqtt_serve.proofs.database.making.is_missing.Goals as goal

pub returns-in-Ok-clause-found : goal.returns-in-Ok-clause-found
returns-in-Ok-clause-found g c honest =
    let image = seen_image g.D.Disk c.args.files.now.log c.args.files.now.db in
    subst (λ n. IsTrue c.in-Ok.missing ↔ IsBlankFile (used_size n false) image) c.page_size.ensures (c.in-Ok.ensures.ok honest)
