-- What valid code says of a region that is opened.
use Rattle.std.proofs.Common.{◌≡◌, ℕ, ◌<◌, [], length, Some, None}
use Rattle.std.specs.Prelude.{slice_get}
use Rattle.std.proofs.lemmas.Option.{slice_get-get_or}
use Rattle.hx_code.specs.Code.{CodeView, region_of}
use Rattle.hx_code.specs.Valid.{IsValid}
use Rattle.hx_code.specs.Fits.{FitsLocal}
use Rattle.hx_code.specs.Region.{Opened, opening}
use Rattle.hx_code.proofs.Regions.{opening_fits as begins}
use Rattle.hx_word.specs.Running.{IsOpened}

pub region_there : (code : CodeView) (r : ℕ) → r < length code.regions → slice_get code.regions r ≡ Some (region_of code r)
region_there code r lt = slice_get-get_or code.regions r (record { start = 0; exit = 0; carried = []; copied = []; induct = None }) lt

-- an iteration of a region that was opened begins as its place says
pub opening_fits : (code : CodeView) → IsValid code → (o : Opened) → IsOpened code o → (j : ℕ) → FitsLocal code (opening code o j)
opening_fits code valid o is j = begins code valid o j is.region is.below
