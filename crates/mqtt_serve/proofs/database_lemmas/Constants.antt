-- The size of a page, computed from what stands in code.
use Rattle.std.proofs.Common.{◌≡◌, refl}
use Rattle.mqtt_serve.specs.declared.database.making.TheConstants.{PAGE_SIZE}

page_size : PAGE_SIZE ≡ 1024
page_size = refl
