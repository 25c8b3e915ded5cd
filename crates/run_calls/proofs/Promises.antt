-- Proofs of all promises in specs/Promises.antt. Assumes nothing.
use Rattle.mirror.proofs.Statements.{mirror-inside, mirror-periodic, mirror-low, mirror-high, mirror-cut}
use Rattle.region_arithmetic.proofs.Laws.{intersection-inside, intersection-greatest, aligned-contains, aligned-smallest, shrunk-has, shrunk-touched}
use Rattle.header_fields.proofs.Order.{too_long, runs-out}
use Rattle.frame.proofs.Statements.{divided-up-covers, divided-up-least, split-whole, inner_below, group-below}
use Rattle.gabor_kernel.proofs.Mirrored.{fold-mirrors, kernel-mirrored, alone-copied}
use Rattle.gabor_kernel.proofs.Exact.{expansion-sums, coefficients-weigh, formulas-mirrored, integers-exact}
use Rattle.epf_step.proofs.Offsets.{kernel-offsets, distance-offsets}
use Rattle.epf_step.proofs.Bounds.{distance-not-negative, slope-not-positive, weight-bounds, divisor-bounds, multiplier-not-negative, pass-bounds}
use Rattle.epf_offsets.proofs.Offsets.{kernel-packed, distances-packed}
use Rattle.epf_lanes.proofs.Divisors.{lane-divisor-bounds}
use Rattle.run_passes.proofs.Bounds.{step-bounds, settings-bounds, bounds-reached}
use Rattle.run_passes.proofs.Statements.{pass-near, cut-same, plan-reach, plan-reads}
use Rattle.run_calls.specs.Promises.{Promises}
use Rattle.run_calls.proofs.Theorem.{library-theorem, rectangle-theorem, rectangle-theorem-at, library-sources-theorem, sources-theorem}
use Rattle.run_calls.proofs.Sources.{sources-give-sigmas}
use Rattle.run_calls.proofs.Finished.{result-at-state}
use Rattle.run_calls.proofs.Example.{premises-met, unlike-sources-met, place-clear}
use Rattle.run_calls.proofs.EdgeExample.{edge-premises-met, edge-place-clear}
use Rattle.run_calls.proofs.FourEdges.{four-edges-met, four-edges-sources, four-edges-clear, four-edges-delivered}
use Rattle.run_calls.proofs.Needed.{premises-say, gabor-margin-needed, step-margin-needed, inputs-needed, sigmas-needed, unaltered-needed}
use Rattle.run_calls.proofs.EachNeeded.{unrefused-needed, each_needed}
use Rattle.run_calls.proofs.SourcesNeeded.{sources-say, each-source-needed}
use Rattle.run_calls.proofs.Corollaries.{whole-picture, two-cuts-agree, outside_kept, bands-alike}
use Rattle.run_calls.proofs.Refused.{start-tied, calls-tied, refused-untouched}
use Rattle.run_calls.proofs.Count.{library-count-rule, count-rule, left-counts}
use Rattle.run_calls.proofs.Lists.{end-reached, end_fits}
use Rattle.run_calls.proofs.Reached.{can-finish, reached-fits, fits-reached, each-reached}

pub promises : Promises
promises = record {
  library-theorem = library-theorem;
  rectangle-theorem = rectangle-theorem;
  library-sources-theorem = library-sources-theorem;
  sources-theorem = sources-theorem;
  sources-give-sigmas = sources-give-sigmas;
  rectangle-theorem-at = rectangle-theorem-at;
  result-at-state = result-at-state;
  end-reached = end-reached;
  premises-met = premises-met;
  unlike-sources-met = unlike-sources-met;
  place-clear = place-clear;
  edge-premises-met = edge-premises-met;
  edge-place-clear = edge-place-clear;
  four-edges-met = four-edges-met;
  four-edges-sources = four-edges-sources;
  four-edges-clear = four-edges-clear;
  four-edges-delivered = four-edges-delivered;
  premises-say = premises-say;
  each_needed = each_needed;
  unrefused-needed = unrefused-needed;
  gabor-margin-needed = gabor-margin-needed;
  step-margin-needed = step-margin-needed;
  inputs-needed = inputs-needed;
  sigmas-needed = sigmas-needed;
  unaltered-needed = unaltered-needed;
  sources-say = sources-say;
  each-source-needed = each-source-needed;
  whole-picture = whole-picture;
  two-cuts-agree = two-cuts-agree;
  outside_kept = outside_kept;
  bands-alike = bands-alike;
  start-tied = start-tied;
  calls-tied = calls-tied;
  refused-untouched = refused-untouched;
  library-count-rule = library-count-rule;
  count-rule = count-rule;
  can-finish = can-finish;
  left-counts = left-counts;
  end_fits = end_fits;
  reached-fits = reached-fits;
  fits-reached = fits-reached;
  each-reached = each-reached;
  pass-near = pass-near;
  cut-same = cut-same;
  plan-reach = plan-reach;
  plan-reads = plan-reads;
  weight-bounds = weight-bounds;
  divisor-bounds = divisor-bounds;
  multiplier-not-negative = multiplier-not-negative;
  pass-bounds = pass-bounds;
  distance-not-negative = distance-not-negative;
  slope-not-positive = slope-not-positive;
  lane-divisor-bounds = lane-divisor-bounds;
  step-bounds = step-bounds;
  settings-bounds = settings-bounds;
  bounds-reached = bounds-reached;
  kernel-offsets = kernel-offsets;
  distance-offsets = distance-offsets;
  kernel-packed = kernel-packed;
  distances-packed = distances-packed;
  fold-mirrors = fold-mirrors;
  kernel-mirrored = kernel-mirrored;
  alone-copied = alone-copied;
  expansion-sums = expansion-sums;
  coefficients-weigh = coefficients-weigh;
  formulas-mirrored = formulas-mirrored;
  integers-exact = integers-exact;
  mirror-inside = mirror-inside;
  mirror-periodic = mirror-periodic;
  mirror-low = mirror-low;
  mirror-high = mirror-high;
  mirror-cut = mirror-cut;
  intersection-inside = intersection-inside;
  intersection-greatest = intersection-greatest;
  aligned-contains = aligned-contains;
  aligned-least = aligned-smallest;
  shrunk-has = shrunk-has;
  shrunk-touched = shrunk-touched;
  too_long = too_long;
  runs-out = runs-out;
  divided-up-covers = divided-up-covers;
  divided-up-least = divided-up-least;
  split-whole = split-whole;
  inner_below = inner_below;
  group-below = group-below;
}
