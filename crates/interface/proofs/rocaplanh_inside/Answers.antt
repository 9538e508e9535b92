-- A row number is below 4,096.
use Rattle.interface.proofs.Bounds.{inside_small}
use Rattle.interface.proofs.rocaplanh_inside.Goals as goal

pub row_out-requires : goal.row_out-requires
row_out-requires c = inside_small c.inside-answer.ensures c.in-Ok.is
