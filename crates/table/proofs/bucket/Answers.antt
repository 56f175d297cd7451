use Rattle.std.proofs.Common.{refl}
use Rattle.table.specs.Chains.{bucket_of}
use Rattle.table.proofs.bucket.Goals as goal

pub returns : goal.returns
unfolding bucket_of
returns c = refl
