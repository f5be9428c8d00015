use Rattle.std.proofs.Common.{refl}
use Rattle.certificates.proofs.certificate.Figures.start.Goals as goal

pub returns : goal.returns
returns c = refl
