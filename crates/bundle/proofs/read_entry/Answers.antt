-- The entry's two numbers are the table's row count and offset.
use Rattle.bundle.specs.Format.{row_count, offset_of}
use Rattle.bundle.proofs.read_entry.Goals as goal

pub returns : goal.returns
unfolding row_count offset_of
returns c = (record { variables = c.from.ensures; count = c.read16.ensures.0; begins = c.read16-2.ensures.0 }, c.read16.ensures.1)
