-- The record of a run (Specification 12.5, 12.8): what start returns, how calls change it, and when it is valid. Definitions only.
use Rattle.std.specs.Prelude.{◌≡◌, Bool, false, cond, not, ◌&&◌, ◌||◌, List, [], ◌∷◌, ℕ, zero, suc, ◌+◌, ◌-◌, eqb, leb, ltb, get_or, set, replicate}
use Rattle.refusals.specs.Numbers.{out_of_range, band_not_open, pass_not_done}
use Rattle.refusals.specs.Checks.{Check, always}
use Rattle.refusals.specs.Flags.{flag_set}
use Rattle.sigma_grids.specs.Table.{some_below}
use Rattle.run_passes.specs.Plan.{one_if}
use Rattle.run_setup.specs.declared.Setup.{Setup}
use Rattle.run_record.specs.declared.Run.{Run}
use Rattle.run_setup.specs.Setup.{max_bands, pass_count, band_count, setup_fits}

unfoldable pub is_done : Run → ℕ → Bool
is_done r k = flag_set (get_or r.done k 0)

-- no band is done: 256 zeros
abbrev pub none_done : List ℕ
none_done = replicate max_bands 0

-- ---- the number of bands left in a pass (Specification 12.5): those that may be done less those that are

-- how many of the first n numbers have a property
unfoldable pub count_below : ℕ → (ℕ → Bool) → ℕ
count_below zero has = 0
count_below (suc n) has = count_below n has + one_if (has n)

-- the number of bands that may be done in pass p: 0 if all passes are completed
abbrev pub open_in : Setup → ℕ → ℕ
open_in s p = cond (eqb p (pass_count s)) 0 (band_count s)

-- the bands left in pass p with these flags
unfoldable pub bands_left_in : Setup → ℕ → List ℕ → ℕ
bands_left_in s p d = open_in s p - count_below max_bands (λ k. flag_set (get_or d k 0))

-- by a record's setup, pass and flags
abbrev pub left_by_flags : Run → ℕ
left_by_flags r = bands_left_in r.setup r.pass r.done

-- ---- what calls return

-- the only place where a record is made; a new field gets its value here
abbrev pub run_of : Setup → ℕ → List ℕ → Run
run_of s p d = record { setup = s; pass = p; bands_left = bands_left_in s p d; done = d }

-- after an accepted start
unfoldable pub started : Setup → Run
started s = run_of s 0 none_done

-- after an accepted band
unfoldable pub marked : Run → ℕ → Run
marked r k = run_of r.setup r.pass (set r.done k 1)

-- after an accepted advance (Specification 12.10): the next pass, with no band done
unfoldable pub advanced : Run → Run
advanced r = run_of r.setup (suc r.pass) none_done

-- ---- what calls check

-- finished (Specification 12.5): all passes are completed
abbrev pub finished : Run → Bool
finished r = eqb r.pass (pass_count r.setup)

-- a band of the pass is not done
unfoldable pub band_missing : Run → Bool
band_missing r = some_below (band_count r.setup) (λ k. not (is_done r k))

-- the condition of number 10: the run is finished, there is no such band, or it is done
abbrev pub not_open : Run → ℕ → Bool
not_open r k = finished r || (leb (band_count r.setup) k || is_done r k)

-- the condition of number 11 for an advance
abbrev pub not_over : Run → Bool
not_over r = finished r || band_missing r

-- ---- valid records

-- the bands of a record that may be done
abbrev pub open_bands : Run → ℕ
open_bands r = open_in r.setup r.pass

-- no accepted calls give band k this flag: it is over 1 below the open bands, or not 0 from there on
abbrev pub bad_flag : ℕ → ℕ → ℕ → Bool
bad_flag bands k flag = ltb (one_if (ltb k bands)) flag

unfoldable pub bad_done : Run → Bool
bad_done r = some_below max_bands (λ k. bad_flag (open_bands r) k (get_or r.done k 0))

-- valid (Specification 12.8): the setup is in range, and accepted calls lead to `pass`, `bands_left` and `done` (`Reached` and its two laws)
unfoldable pub run_fits : Run → Bool
run_fits r = setup_fits r.setup && (leb r.pass (pass_count r.setup) && (not (bad_done r) && eqb r.bands_left (left_by_flags r)))

-- the records to which accepted bands and advances lead from the one that start returns
pub data Reached (s : Setup) : Run → Type 0 where
  at_start : Reached s (started s)
  by_band : (r : Run) (k : ℕ) → Reached s r → not_open r k ≡ false → Reached s (marked r k)
  by_advance : (r : Run) → Reached s r → not_over r ≡ false → Reached s (advanced r)

-- ---- the numbers that depend on the record alone

abbrev pub run_in_range : Run → Check
run_in_range r = always out_of_range (not (run_fits r))

abbrev pub band_open : Run → ℕ → Check
band_open r k = always band_not_open (not_open r k)

abbrev pub pass_done : Run → Check
pass_done r = always pass_not_done (not_over r)

abbrev pub run_finished : Run → Check
run_finished r = always pass_not_done (not (finished r))

-- for a band: 9, then 10
abbrev pub open_checks : Run → ℕ → List Check
open_checks r k = run_in_range r ∷ band_open r k ∷ []

-- for an advance: 9, then 11
abbrev pub over_checks : Run → List Check
over_checks r = run_in_range r ∷ pass_done r ∷ []

-- for the result: 9, then 11
abbrev pub finished_checks : Run → List Check
finished_checks r = run_in_range r ∷ run_finished r ∷ []
