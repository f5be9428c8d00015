-- Every starred case holds, by computing the definitions.
use mathlib.Core.Path.{refl}
use lib.Ieee.{round, add, sub, mul, div, lt, le, eq, is_nan, of_int, to_unsigned, of_bits, to_bits}
use Rattle.number.specs.Leaves.{negative, counts_below, minimum, maximum, absolute, next_down}
use Rattle.rows.specs.Rows.{rows_of, whole_rows, fold, any, all}
use Rattle.roots.specs.Root.{root_in, isqrt, stick_root, root_nearest, sqrt_of}
use Rattle.roots.specs.Hypot.{hypot_of}
use Rattle.fused.specs.Fused.{inf_plus, fma_of}
use Rattle.topp2_ra.specs.Tolerant.{approx_order}
use Rattle.topp2_ra.specs.Recovery.{inside_previous}
use Rattle.certificates.specs.Certificate.{between, passes, worse_normalized, worse_raw, certificate}
use Rattle.limits.specs.Projection.{reach, incline, cut_by, narrowed, unreachable, flat_by, flat}
use Rattle.search.specs.Search.{neighbours, try_neighbours, searched}
use Rattle.search.specs.Cap.{after_cap, with_cap}
use Rattle.topp2_ra.specs.Recovery.{tolerance, tolerances_good, none_nan, inputs_good, previous_good, current_good, request_no, recovered}
use Rattle.rows.specs.Row.{numbers_finite, all_within, admits, unfit, unmeetable, rows_no}
use Rattle.loops.specs.Upto.{every, count, seek, first, table}
use Rattle.loops.specs.Entries.{every_entry, every_pair}
use Rattle.list_tests.specs.Tests.{not_below_zero, not_both_zero}
use Rattle.profile.specs.Profile.{lengths_no, entries_no, profile_no, speed_no}
use Rattle.sloping.specs.Slopes.{slope, slopes_no}
use Rattle.timing.specs.Times.{leg, leg_time, time_at, times_finite, start_no, times_no}
use Rattle.pieces.specs.Pieces.{piece_of, inverse2order, station_inside, piece_at, station_in}
use Rattle.following.specs.Places.{interval_of, is_before, is_inside, is_past, station_at, counts_of, grid_time}
use Rattle.sampling.specs.Samples.{timed_no}
use Rattle.sampling.specs.List.{samples_no, list_no}
use Rattle.strap_end.specs.Final.{final_added}
use Rattle.gridding.specs.Grid.{last_of, grid_size, even_no, grid_no, grid_station, grid_entry, grid_entries}
use Rattle.starred.specs.Cases.{AllHold, starred}

infixr 10 ◌also◌
◌also◌ : {A B : Type 0} → A → B → A × B
a also b = (a, b)

pub starred_hold : AllHold starred
unfolding round add sub mul div lt le eq is_nan of_bits to_bits negative counts_below minimum maximum absolute next_down rows_of fold any all
    root_in isqrt stick_root root_nearest sqrt_of hypot_of inf_plus fma_of approx_order inside_previous numbers_finite all_within admits between passes
    worse_normalized worse_raw certificate reach incline cut_by narrowed unreachable flat_by flat neighbours try_neighbours searched whole_rows
    tolerance tolerances_good none_nan inputs_good previous_good current_good unfit unmeetable rows_no request_no after_cap with_cap recovered every
    count seek first table every_entry every_pair not_below_zero not_both_zero lengths_no entries_no profile_no speed_no slope slopes_no leg leg_time time_at
    times_finite start_no times_no interval_of piece_of inverse2order station_inside piece_at station_in is_before is_inside is_past station_at counts_of timed_no samples_no list_no
    last_of grid_size grid_time final_added even_no grid_no grid_station grid_entry grid_entries of_int to_unsigned
starred_hold =
    -- root, hypot, fused multiply-add
    refl also refl also refl also refl also refl
    -- recovery
    also refl also refl also refl also refl
    -- times, slopes, samples, grid
    also record { accepted = refl; entries = refl }
    also record { accepted = refl; entries = refl }
    also (refl, record { accepted = refl; entries = refl })
    also (refl, record { accepted = refl; entries = refl })
    also tt
