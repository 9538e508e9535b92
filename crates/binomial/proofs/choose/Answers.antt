-- `binomial::choose` meets its contract: the table is the list `numbers`, and the law `entry` says what stands at its place.
use Rattle.binomial.proofs.Numbers.{numbers}
use Rattle.binomial.proofs.Pascal.{entry}
use Rattle.binomial.proofs.choose.Goals as goal

pub returns : goal.returns
unfolding numbers
returns c = entry c.args.top c.args.bottom c.requires.0 c.requires.1
