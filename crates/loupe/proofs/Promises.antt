-- The statements on the loupe are proved. Assumes nothing.
use Rattle.loupe.specs.Promises.{Promises}
use Rattle.loupe.proofs.Theorem.{loupe-theorem}
use Rattle.loupe.proofs.Example.{loupe-premises-met}

pub promises : Promises
promises = record { loupe-theorem = loupe-theorem; loupe-premises-met = loupe-premises-met }
