use Rattle.covers.proofs.Rights.{covered_fits}
use Rattle.covers.proofs.covered_fits.Goals as goal

pub returns : goal.returns
returns g c G sealed t k n h = covered_fits sealed t k n h
