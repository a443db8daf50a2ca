-- The code of an accepted program is valid.
use Rattle.hx_resolved.specs.Resolve.{resolve}
use Rattle.hx_lowered.specs.Lowered.{LoweredCodeIsValid}
use Rattle.hx_lowered.proofs.Functions.{code_is_valid}
use Rattle.hx_lowered.proofs.Resolving.{resolved_well}

pub lowered_valid : LoweredCodeIsValid
lowered_valid p ok few = code_is_valid (resolve p) (resolved_well p ok) few
