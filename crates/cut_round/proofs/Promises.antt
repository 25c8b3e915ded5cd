-- The statements on cut files are proved. Assumes nothing.
use Rattle.cut_round.specs.Promises.{Promises}
use Rattle.cut_round.proofs.RoundTrip.{round_trip, written_read, written_count, samples-kept, one-file, written-again}
use Rattle.cut_round.proofs.Example.{premises-met}

pub promises : Promises
promises = record {
  round_trip = round_trip;
  written_read = written_read;
  written_count = written_count;
  samples-kept = samples-kept;
  one-file = one-file;
  written-again = written-again;
  premises-met = premises-met;
}
