-- The statements on cut files, each a field of one record, whose value proofs/Promises.antt has.
use Rattle.cut_round.specs.RoundTrip.{RoundTrip, WrittenRead, WrittenCount, SamplesKept, OneFile, WrittenAgain}
use Rattle.cut_round.specs.Example.{PremisesMet}

pub record Promises : Type 0 where
  -- what writing accepts is read back
  pub round_trip : RoundTrip
  pub written_read : WrittenRead
  pub written_count : WrittenCount
  pub samples-kept : SamplesKept
  -- there is one file for the contents
  pub one-file : OneFile
  pub written-again : WrittenAgain
  -- the premises can be met
  pub premises-met : PremisesMet
