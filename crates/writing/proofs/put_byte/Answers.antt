-- One store, and the place behind it.
use Rattle.writing.proofs.WrittenLaws.{wrote_byte}
use Rattle.writing.proofs.put_byte.Goals as goal

pub returns : goal.returns
returns c = wrote_byte _ _ _ c.requires
