-- The statements on the loupe besides the contracts (Specification 17.6), each a field of one record, whose value proofs/Promises.antt has.
use Rattle.loupe.specs.Whole.{LoupeTheorem}
use Rattle.loupe.specs.Example.{LoupePremisesMet}

pub record Promises : Type 0 where
  -- accepted calls have the whole picture's samples
  pub loupe-theorem : LoupeTheorem
  -- the premises can be met
  pub loupe-premises-met : LoupePremisesMet
