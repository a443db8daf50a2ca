use Rattle.std.proofs.Common.{length, ◌-◌, ◌≡◌, ◌≤◌}
use Rattle.std.specs.Io.KnownBytes.{Consumes}
use Rattle.hx_device.proofs.reading.read_all.Given as goal

abbrev pub invariant-loop-chunk : goal.invariant-loop-chunk
invariant-loop-chunk g l =
    (length l.all.items ≤ l.limit)
    × Consumes (g.S.ByteSource.rest l.initial.source) (g.S.ByteSource.rest l.source) l.all.items
    × (g.S.ByteSource.failures l.source ≡ g.S.ByteSource.failures l.initial.source)

abbrev pub decreases-loop-chunk : goal.decreases-loop-chunk
decreases-loop-chunk g l = l.limit - length l.all.items
