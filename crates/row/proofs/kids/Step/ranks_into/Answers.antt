use Rattle.std.proofs.Common.{◌≡◌, length, arith, rules}
use Rattle.row.proofs.Erasing.{ranks_done}
use Rattle.row.proofs.kids.Step.ranks_into.Goals as goal

pub returns : goal.returns
returns g c = (let long : length c.take_bases.new.work ≡ length c.args.work.now = omega arith in search (rules, ranks_done))
