use Rattle.std.proofs.Common.{arith}
use Rattle.hx_slots.proofs.Kept.{reader_is}
use Rattle.hx_slots.proofs.places.is_marked.Goals as goal

pub has_marked-requires : goal.has_marked-requires
has_marked-requires c = reader_is c.args.readers.bits c.args.word c.args.active.now c.loop-k.k c.index-active-k.result (omega arith) c.index-active-k.is c.requires.readers
